-- An open request or eviction as it is kept, and the model's. All of it is an own rule.
use Rattle.std.specs.Prelude.{IsTrue, ◌≡◌}
use Rattle.cxl_message.specs.Formed.{place_exists}
use Rattle.std.proofs.Common.{refl}
use Rattle.coherence_model.specs.Transactions.{Kind, Transaction}
use Rattle.line_states.specs.declared.opens.Open.TheInside.{Inside}
use Rattle.line_states.specs.declared.opens.OpenKind.{OpenKind}

-- the model's kind
abbrev pub kind_of : OpenKind → Kind
kind_of OpenKind.ReadShared = Kind.ReadShared
kind_of OpenKind.ReadAny = Kind.ReadAny
kind_of OpenKind.Invalidate = Kind.Invalidate
kind_of OpenKind.CleanEviction = Kind.CleanEviction
kind_of OpenKind.DirtyEviction = Kind.DirtyEviction

-- and back
abbrev pub kept_kind : Kind → OpenKind
kept_kind Kind.ReadShared = OpenKind.ReadShared
kept_kind Kind.ReadAny = OpenKind.ReadAny
kept_kind Kind.Invalidate = OpenKind.Invalidate
kept_kind Kind.CleanEviction = OpenKind.CleanEviction
kept_kind Kind.DirtyEviction = OpenKind.DirtyEviction

abbrev pub open_view : Inside → Transaction
open_view o = record { kind = kind_of o.kind; tag = o.tag.0; stream = o.stream; index = o.index; op = o.op; grant = o.grant; bytes = o.bytes }

abbrev pub inside_of : Transaction → Inside
inside_of o = record { kind = kept_kind o.kind; tag = record { 0 = o.tag }; stream = o.stream; index = o.index; op = o.op; grant = o.grant; bytes = o.bytes }

kind_back : (k : OpenKind) → kept_kind (kind_of k) ≡ k
kind_back OpenKind.ReadShared = refl
kind_back OpenKind.ReadAny = refl
kind_back OpenKind.Invalidate = refl
kind_back OpenKind.CleanEviction = refl
kind_back OpenKind.DirtyEviction = refl

pub restored : (a : Inside) → IsTrue (place_exists a.op) → inside_of (open_view a) ≡ a
restored a h = λ i. record { kind = kind_back a.kind i; tag = a.tag; stream = a.stream; index = a.index; op = a.op; grant = a.grant; bytes = a.bytes }
