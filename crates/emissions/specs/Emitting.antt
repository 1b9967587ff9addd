-- What an event sends and commits. All of it is an own rule.
use Rattle.cxl_message.specs.declared.events.Event.{Event}
use Rattle.coherence_model.specs.Emission.{Emission}

abbrev pub emission_of : Event → Emission
emission_of e = record { sends = e.sends; commit = e.commit }
