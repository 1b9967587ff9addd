-- What a migration answers. Every rule here is an own rule.
use Rattle.trace_stream.specs.declared.refusals.TraceWriteRefusal.{TraceWriteRefusal}
use Rattle.trace_migration.specs.declared.refusals.MigrateRefusal.{MigrateRefusal}

-- the refusal of a migration for that of a writer
abbrev pub refusal_of : TraceWriteRefusal → MigrateRefusal
refusal_of TraceWriteRefusal.WriteFault = MigrateRefusal.WriteFault
refusal_of TraceWriteRefusal.Memory = MigrateRefusal.Memory
