-- What the rows H3 to H6 say where they emit something.
use Rattle.std.proofs.Common.{◌≡◌, ◌⊎◌, ℕ, Bool, true, false, List, Option, Some, None, refl, inl, inr}
use Rattle.std.specs.Prelude.{is_none, not, ◌&&◌}
use Rattle.std.specs.List.{list_all}
use Rattle.std.proofs.lemmas.Bool.{and_parts, not-true}
use Rattle.cxl_message.specs.declared.channels.Channel.{Channel}
use Rattle.cxl_message.specs.declared.events.Event.{Event}
use Rattle.cxl_message.specs.declared.identifiers.Bytes64.{Bytes64}
use Rattle.cxl_message.specs.declared.opcodes.NdrOp.{NdrOp}
use Rattle.cxl_message.specs.declared.opcodes.Span.{Span}
use Rattle.cxl_message.specs.Setup.{Configuration}
use Rattle.cxl_message.specs.Spans.{lines_of}
use Rattle.coherence_model.specs.Credits.{lacks_credit}
use Rattle.coherence_model.specs.Emission.{Emission, nothing}
use Rattle.coherence_model.specs.HostTakes.{data_emission, grant_emission, h3_completion, h3_data, h3_grant, h4_snoop, h5_conflict_ack, h6_credit, may_grant}
use Rattle.coherence_model.specs.Snoops.{is_snooped}
use Rattle.coherence_model.specs.Tags.{is_conflict_open}
use Rattle.coherence_model.specs.Transactions.{Transaction, is_read, is_request}
use Rattle.coherence_lemmas.proofs.Options.{none_is, when_some}

-- H3, Cmp: the write-back is open, and no eviction with the tag
pub record WriteBackCompleted (written_back : Bool) (open_one : Option Transaction) (w : Emission) : Type 0 where
  pub none_open : open_one ≡ None
  pub is_open : written_back ≡ true
  pub emits : w ≡ nothing

-- H3, Cmp: an eviction with the tag is open
pub record EvictionCompleted (open_one : Option Transaction) (w : Emission) : Type 0 where
  pub o : Transaction
  pub is_open : open_one ≡ Some o
  pub eviction : is_request o.kind ≡ false
  pub emits : w ≡ nothing

pub h3_completion-inv : (written_back : Bool) (open_one : Option Transaction) (w : Emission) → h3_completion written_back open_one ≡ Some w → WriteBackCompleted written_back open_one w ⊎ EvictionCompleted open_one w
h3_completion-inv written_back None w e = let given = when_some written_back nothing w e in inl (record { none_open = refl; is_open = given.holds; emits = given.same })
h3_completion-inv written_back (Some o) w e =
    let given = when_some (not (is_request o.kind)) nothing w e in
    inr (record { o = o; is_open = refl; eviction = not-true _ given.holds; emits = given.same })

-- H3, Cmp-S and Cmp-E: a request with the tag is open, that the grant may answer and that had none
pub record Granted (c : NdrOp) (open_one : Option Transaction) (w : Emission) : Type 0 where
  pub o : Transaction
  pub is_open : open_one ≡ Some o
  pub may : may_grant c o.kind ≡ true
  pub first : o.grant ≡ None
  pub emits : w ≡ grant_emission o o.bytes

pub h3_grant-inv : (c : NdrOp) (open_one : Option Transaction) (w : Emission) → h3_grant c open_one ≡ Some w → Granted c open_one w
h3_grant-inv c None w e = cc
h3_grant-inv c (Some o) w e =
    let given = when_some (may_grant c o.kind && is_none o.grant) (grant_emission o o.bytes) w e in
    let parts = and_parts _ _ given.holds in
    record { o = o; is_open = refl; may = parts.0; first = none_is o.grant parts.1; emits = given.same }

-- H3, MemData: a read with the tag is open that had none
pub record DataTaken (bytes : Bytes64) (open_one : Option Transaction) (w : Emission) : Type 0 where
  pub o : Transaction
  pub is_open : open_one ≡ Some o
  pub read : is_read o.kind ≡ true
  pub first : o.bytes ≡ None
  pub emits : w ≡ data_emission o bytes

pub h3_data-inv : (bytes : Bytes64) (open_one : Option Transaction) (w : Emission) → h3_data bytes open_one ≡ Some w → DataTaken bytes open_one w
h3_data-inv bytes None w e = cc
h3_data-inv bytes (Some o) w e =
    let given = when_some (is_read o.kind && is_none o.bytes) (data_emission o bytes) w e in
    let parts = and_parts _ _ given.holds in
    record { o = o; is_open = refl; read = parts.0; first = none_is o.bytes parts.1; emits = given.same }

-- H4: no line of the snoop's span is Snooped
pub record SnoopTaken (first : ℕ) (span : Span) (mine : List Event) (w : Emission) : Type 0 where
  pub unsnooped : list_all (λ a. not (is_snooped a mine)) (lines_of first span) ≡ true
  pub emits : w ≡ nothing

pub h4_snoop-inv : (first : ℕ) (span : Span) (mine : List Event) (w : Emission) → h4_snoop first span mine ≡ Some w → SnoopTaken first span mine w
h4_snoop-inv first span mine w e = let given = when_some _ nothing w e in record { unsnooped = given.holds; emits = given.same }

-- H5: some line is Asked with the tag
pub record ConflictAcknowledged (tag : ℕ) (mine : List Event) (w : Emission) : Type 0 where
  pub is_open : is_conflict_open tag mine ≡ true
  pub emits : w ≡ nothing

pub h5_conflict_ack-inv : (tag : ℕ) (mine : List Event) (w : Emission) → h5_conflict_ack tag mine ≡ Some w → ConflictAcknowledged tag mine w
h5_conflict_ack-inv tag mine w e = let given = when_some _ nothing w e in record { is_open = given.holds; emits = given.same }

-- H6: a credit is missing
pub record CreditTaken (setup : Configuration) (h : ℕ) (c : Channel) (mine : List Event) (w : Emission) : Type 0 where
  pub lacks : lacks_credit setup h c mine ≡ true
  pub emits : w ≡ nothing

pub h6_credit-inv : (setup : Configuration) (h : ℕ) (c : Channel) (mine : List Event) (w : Emission) → h6_credit setup h c mine ≡ Some w → CreditTaken setup h c mine w
h6_credit-inv setup h c mine w e = let given = when_some _ nothing w e in record { lacks = given.holds; emits = given.same }
