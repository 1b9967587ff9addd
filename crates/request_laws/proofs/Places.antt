-- What holds of a host's tag: where its request, eviction or write-back is, and that its messages and its task name its line.
use Rattle.std.proofs.Common.{◌≡◌, ℕ, ◌+◌, Bool, true, false, List, [], ◌∷◌, ◌++◌, Option, Some, cond, count_by, filter, map, refl}
use Rattle.std.specs.Prelude.{◌&&◌, ◌==◌}
use Rattle.std.specs.Option.{option_map_or}
use Rattle.std.proofs.lemmas.Bool.{eq-eqb}
use Rattle.cxl_message.specs.declared.channels.Channel.{Channel}
use Rattle.cxl_message.specs.declared.events.Out.{Out}
use Rattle.cxl_message.specs.declared.events.Sends.{Sends}
use Rattle.cxl_message.specs.declared.messages.Message.{Message}
use Rattle.cxl_message.specs.Codes.{channel_eq}
use Rattle.cxl_message.specs.Events.{outs}
use Rattle.cxl_message.specs.Messages.{channel_of, has_tag}
use Rattle.cxl_message.specs.Setup.{Configuration}
use Rattle.coherence_model.specs.Flight.{is_on}
use Rattle.coherence_model.specs.OwnerFacts.{purpose_fits}
use Rattle.coherence_model.specs.RequestFacts.{grants, is_ndr_with, is_request_with, is_task_of, is_write_with}
use Rattle.coherence_model.specs.Tasks.{Task}
use Rattle.coherence_model.specs.Transactions.{Transaction}
use Rattle.coherence_model.specs.WriteBacks.{completes}
use Rattle.request_laws.proofs.Balances.{Balanced}
use Rattle.request_laws.proofs.Each.{Each}
pub use Rattle.request_laws.specs.Writes.{is_write_of}

-- a Req message is of the kind that is open with its tag, and names its line
pub record FitsRequest (tag : ℕ) (o : Option Transaction) (a : Option ℕ) (m : Message) : Type 0 where
  pub x : Transaction
  pub there : o ≡ Some x
  pub l : ℕ
  pub at_line : a ≡ Some l
  pub is : is_request_with x.kind l tag m ≡ true

abbrev pub OwnRequest : ℕ → Option Transaction → Option ℕ → Message → Type 0
OwnRequest tag o a m = has_tag tag m ≡ true → FitsRequest tag o a m

-- a MemWr names the line of what is open with its tag
pub record FitsWrite (tag : ℕ) (a : Option ℕ) (m : Message) : Type 0 where
  pub l : ℕ
  pub at_line : a ≡ Some l
  pub is : is_write_with l tag m ≡ true

abbrev pub OwnWrite : ℕ → Option Transaction → Option ℕ → Message → Type 0
OwnWrite tag o a m = is_write_of tag m ≡ true → (x : Transaction) → o ≡ Some x → FitsWrite tag a m

-- a request task stands at the line of what is open with its tag, and is for its kind
pub record FitsTask (o : Option Transaction) (a : Option ℕ) (l : ℕ) (t : Task) : Type 0 where
  pub x : Transaction
  pub there : o ≡ Some x
  pub at_line : a ≡ Some l
  pub purpose : purpose_fits t.purpose x.kind ≡ true

-- 1 where the task at a tag's line is that of the tag
abbrev pub is_task_at : ℕ → ℕ → (ℕ → Option Task) → ℕ → Bool
is_task_at h tag task l = option_map_or (is_task_of h tag) (task l) false

abbrev pub task_at : ℕ → ℕ → (ℕ → Option Task) → Option ℕ → ℕ
task_at h tag task a = option_map_or (λ l. cond (is_task_at h tag task l) 1 0) a 0

-- 1 where the tag is the write-back tag and in use
abbrev pub write_back_at : Configuration → ℕ → Bool → ℕ
write_back_at setup tag writing = cond ((tag == setup.tags) && writing) 1 0

-- all that holds of a tag of a host: of the messages in flight and those buffered, and of the tasks
pub record Here (h tag : ℕ) (o : Option Transaction) (a : Option ℕ) (b : ℕ) (flying_r held_r flying_w held_w ndr drs : List Message) (task : ℕ → Option Task) : Type 0 where
  pub balanced :
      Balanced o b (count_by (has_tag tag) flying_r + count_by (has_tag tag) held_r) (count_by (is_write_of tag) flying_w + count_by (is_write_of tag) held_w)
      (count_by (is_ndr_with completes tag) ndr) (count_by (is_ndr_with grants tag) ndr) (count_by (has_tag tag) drs) (task_at h tag task a)
  pub flying_requests : Each (OwnRequest tag o a) flying_r
  pub held_requests : Each (OwnRequest tag o a) held_r
  pub flying_writes : Each (OwnWrite tag o a) flying_w
  pub held_writes : Each (OwnWrite tag o a) held_w
  pub tasks : (l : ℕ) (t : Task) → task l ≡ Some t → is_task_of h tag t ≡ true → FitsTask o a l t

-- the messages of what is sent that go on a channel of a host
abbrev pub on_channel : ℕ → Channel → Sends → List Message
on_channel h c sends = map (λ (o : Out). o.message) (filter (is_on h c) (outs sends))

-- a message that goes there, or none
abbrev pub if_there : Bool → Message → List Message
if_there b m = cond b (m ∷ []) []

one_kept : (b k : Bool) (o : Out) → b ≡ true → map (λ (x : Out). x.message) (cond (b && k) (o ∷ []) []) ≡ if_there k o.message
one_kept true true o h = refl
one_kept true false o h = refl
one_kept false k o h = cc

pub sent_one : (h : ℕ) (c : Channel) (m : Message) → on_channel h c (Sends.One (record { host = h; message = m })) ≡ if_there (channel_eq (channel_of m) c) m
sent_one h c m = one_kept (h == h) (channel_eq (channel_of m) c) (record { host = h; message = m }) (eq-eqb h h refl)

two_kept : (b k j : Bool) (o p : Out) → b ≡ true
    → map (λ (x : Out). x.message) (cond (b && k) (o ∷ cond (b && j) (p ∷ []) []) (cond (b && j) (p ∷ []) [])) ≡ if_there k o.message ++ if_there j p.message
two_kept true true true o p h = refl
two_kept true true false o p h = refl
two_kept true false true o p h = refl
two_kept true false false o p h = refl
two_kept false k j o p h = cc

pub sent_two : (h : ℕ) (c : Channel) (m n : Message)
    → on_channel h c (Sends.Two (record { host = h; message = m }) (record { host = h; message = n })) ≡ if_there (channel_eq (channel_of m) c) m ++ if_there (channel_eq (channel_of n) c) n
sent_two h c m n = two_kept (h == h) (channel_eq (channel_of m) c) (channel_eq (channel_of n) c) (record { host = h; message = m }) (record { host = h; message = n }) (eq-eqb h h refl)
