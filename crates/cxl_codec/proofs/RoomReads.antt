-- An event that is read part after part into a room is the event that is read as a whole.
use Rattle.std.proofs.Common.{◌≡◌, ℕ, zero, suc, List, refl, sym, ap, ◌∙◌}
use Rattle.std.specs.Prelude.{Option, Some, None, Ok, Err}
use Rattle.cxl_message.specs.declared.events.Cause.{Cause}
use Rattle.cxl_message.specs.declared.events.Out.{Out}
use Rattle.cxl_message.specs.declared.events.Sends.{Sends}
use Rattle.cxl_message.specs.declared.events.Commit.{Commit}
use Rattle.cxl_message.specs.declared.events.Event.{Event}
use Rattle.event_room.specs.Made.{begun, emitting, with_send}
use Rattle.cxl_codec.specs.declared.versions.Version.{Version}
use Rattle.cxl_codec.specs.declared.fields.FieldName.{FieldName}
use Rattle.cxl_codec.specs.Reading.{Read, ◌>>=◌, field_of, within}
use Rattle.cxl_codec.specs.ReadingEvents.{cause_at, out_at, outs_at, sends_at, flagged_at, commit_at, event_at}
use Rattle.cxl_codec.specs.ReadingRooms.{begun_at, sent_at, all_sent_at, sends_sent_at, flagged_set_at, commit_set_at, room_event_at}

-- reads that agree at each value go on alike
alike : {A B : Type 0} (read : Read A) (f g : A × List ℕ → Read B) → ((x : A × List ℕ) → f x ≡ g x) → (read >>= f) ≡ (read >>= g)
alike (Ok x) f g same = same x
alike (Err e) f g same = refl

-- one read after another after a third
in_turn : {A B C : Type 0} (read : Read A) (f : A × List ℕ → Read B) (g : B × List ℕ → Read C) → ((read >>= f) >>= g) ≡ (read >>= (λ x. f x >>= g))
in_turn (Ok x) f g = refl
in_turn (Err e) f g = refl

module _ (version : Version) where
  -- so many messages are sent one after the other
  counted : (agent : ℕ) (cause : Cause) (n : ℕ) (bytes : List ℕ) → (all_sent_at version) n (begun agent cause) bytes ≡ ((outs_at version) n bytes >>= (λ sends. Ok (emitting (begun agent cause) sends.0 None, sends.1)))
  unfolding all_sent_at sent_at outs_at
  counted agent cause zero bytes = refl
  counted agent cause (suc zero) bytes = sym (in_turn ((out_at version) bytes) _ _)
  counted agent cause (suc (suc n)) bytes =
      in_turn ((out_at version) bytes) _ _
      ∙ alike ((out_at version) bytes) _ _ (λ first. sym (in_turn ((out_at version) first.1) _ _))
      ∙ sym (in_turn ((out_at version) bytes) _ _)

  -- the messages that are counted first
  sent : (agent : ℕ) (cause : Cause) (bytes : List ℕ) → (sends_sent_at version) (begun agent cause) bytes ≡ ((sends_at version) bytes >>= (λ sends. Ok (emitting (begun agent cause) sends.0 None, sends.1)))
  unfolding sends_sent_at sends_at
  sent agent cause bytes =
      alike (field_of FieldName.SendCount (within 0 2) bytes) _ _ (λ count. counted agent cause count.0 count.1)
      ∙ sym (in_turn (field_of FieldName.SendCount (within 0 2) bytes) _ _)

  -- the commit behind a flag
  flagged : (agent : ℕ) (cause : Cause) (sends : Sends) (flag : ℕ) (bytes : List ℕ) → flagged_set_at flag (emitting (begun agent cause) sends None) bytes ≡ (flagged_at flag bytes >>= (λ commit. Ok (record { agent = agent; cause = cause; sends = sends; commit = commit.0 }, commit.1)))
  unfolding flagged_set_at flagged_at
  flagged agent cause sends zero bytes = refl
  flagged agent cause sends (suc n) bytes = refl

  -- the commit, if there is one
  committed : (agent : ℕ) (cause : Cause) (sends : Sends) (bytes : List ℕ) → commit_set_at (emitting (begun agent cause) sends None) bytes ≡ (commit_at bytes >>= (λ commit. Ok (record { agent = agent; cause = cause; sends = sends; commit = commit.0 }, commit.1)))
  unfolding commit_set_at commit_at
  committed agent cause sends bytes =
      alike (field_of FieldName.CommitFlag (within 0 1) bytes) _ _ (λ flag. flagged agent cause sends flag.0 flag.1)
      ∙ sym (in_turn (field_of FieldName.CommitFlag (within 0 1) bytes) _ _)

  -- all parts
  pub event_parts_read : (bytes : List ℕ) → (room_event_at version) bytes ≡ (event_at version) bytes
  unfolding room_event_at begun_at event_at
  event_parts_read bytes = alike (field_of FieldName.Agent (within 0 16) bytes) _ _ (λ agent.
      in_turn ((cause_at version) agent.1) _ _
      ∙ alike ((cause_at version) agent.1) _ _ (λ cause.
      ap (λ read. read >>= (λ sent. commit_set_at sent.0 sent.1)) (sent agent.0 cause.0 cause.1)
      ∙ in_turn ((sends_at version) cause.1) _ _
      ∙ alike ((sends_at version) cause.1) _ _ (λ sends. committed agent.0 cause.0 sends.0 sends.1)))
