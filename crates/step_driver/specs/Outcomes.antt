-- How the driving of a script ends. Every rule here is an own rule.
use Rattle.trace_stream.specs.declared.refusals.TraceWriteRefusal.{TraceWriteRefusal}
use Rattle.step_driver.specs.declared.refusals.DriveRefusal.{DriveRefusal}

-- the refusal of a writer as one of the driver
abbrev pub refusal_of : TraceWriteRefusal → DriveRefusal
refusal_of TraceWriteRefusal.WriteFault = DriveRefusal.WriteFault
refusal_of TraceWriteRefusal.Memory = DriveRefusal.Memory
