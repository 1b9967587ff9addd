-- What a grant performs where the MemData was taken before.
use Rattle.std.proofs.Common.{Some, ap, sym, ◌∙◌, ◌≡◌}
use Rattle.std.specs.Option.{option_map_or}
use Rattle.cxl_message.specs.declared.identifiers.Bytes64.{Bytes64}
use Rattle.coherence_model.specs.Emission.{nothing}
use Rattle.coherence_model.specs.HostTakes.{fill_emission, grant_emission}
use Rattle.coherence_model.specs.Transactions.{Transaction}
use Rattle.host_rows.specs.Rows.{filled_held}

pub held_is : (o : Transaction) (bytes : Bytes64) → o.bytes ≡ Some bytes → filled_held (Some o) ≡ grant_emission o o.bytes
held_is o bytes is = ap (λ x. option_map_or (fill_emission o) x nothing) is ∙ sym (ap (grant_emission o) is)
