-- What a host's event leaves of the places of its tags, by its row.
use Rattle.std.proofs.Common.{◌≡◌, ℕ, ◌+◌, ◌≤◌, Bool, true, false, List, [], ◌∷◌, ◌++◌, Option, Some, None, cond, count_by, refl, sym, ◌∙◌, ap, subst, arith}
use Rattle.std.specs.Prelude.{nat_le, not, option_and_then, ◌&&◌, ◌==◌, ◌||◌}
use Rattle.std.specs.Option.{option_map_or}
use Rattle.std.proofs.lemmas.Bool.{cond-false, cond-true, eq-eqb, eqb-true, false≢true, ne_eqb}
use Rattle.std.proofs.lemmas.Option.{none-some}
use Rattle.cxl_message.specs.declared.channels.Channel.{Channel}
use Rattle.cxl_message.specs.declared.events.Act.{Act}
use Rattle.cxl_message.specs.declared.events.Cause.{Cause}
use Rattle.cxl_message.specs.declared.events.Event.{Event}
use Rattle.cxl_message.specs.declared.events.Sends.{Sends}
use Rattle.cxl_message.specs.declared.messages.Message.{Message}
use Rattle.cxl_message.specs.declared.opcodes.RspOp.{RspOp}
use Rattle.cxl_message.specs.Codes.{channel_eq}
use Rattle.cxl_message.specs.Messages.{channel_of, has_tag}
use Rattle.cxl_message.specs.Setup.{Configuration}
use Rattle.coherence_model.specs.Emission.{Emission, one_send}
use Rattle.coherence_model.specs.Fitting.{cause_fits}
use Rattle.coherence_model.specs.Flight.{takes_on, without_taken}
use Rattle.coherence_model.specs.HostActs.{host_returns, write_back_message}
use Rattle.coherence_model.specs.HostRows.{host_emission}
use Rattle.coherence_model.specs.RequestFacts.{grants, is_ndr_with}
use Rattle.coherence_model.specs.Snoops.{host_owed}
use Rattle.coherence_model.specs.Tags.{if_tagged, open_with, tagged_line}
use Rattle.coherence_model.specs.Tasks.{Task}
use Rattle.coherence_model.specs.Transactions.{Transaction, open_after_take, open_at}
use Rattle.coherence_model.specs.WriteBacks.{completes, is_write_back_open, takes_completion}
use Rattle.coherence_lemmas.proofs.Directions.{take_parts}
use Rattle.coherence_lemmas.proofs.Queues.{counts}
use Rattle.request_laws.proofs.Balances.{Balanced, balance_as, balance_of, balance_write_begun}
use Rattle.request_laws.proofs.Counts.{count_by-append, count_by-cons}
use Rattle.request_laws.proofs.Each.{each_append}
use Rattle.request_laws.proofs.HostOperations.{Operated, operated}
use Rattle.request_laws.proofs.HostTakes.{WriteBackRow, answer_row, block_row, conflict_row, sends_of, take_row, takes_send_nothing, write_back_row}
use Rattle.request_laws.proofs.OpenLines.{LeadBack, take_keeps, with_tag}
use Rattle.request_laws.proofs.OperationsPlaced.{here_as, sent_others}
use Rattle.request_laws.proofs.Options.{when_some}
use Rattle.request_laws.proofs.Places.{Here, OwnRequest, OwnWrite, if_there, is_write_of, on_channel, sent_one, task_at, write_back_at}
use Rattle.request_laws.proofs.TakesPlaced.{data_balance, ndr_balance, take_places, write_back_after}
use Rattle.request_laws.proofs.OpenedPlaces.{After, Before, operation_places}

-- what is open with a tag has it
pub record Tagged (f : ℕ → Option Transaction) (g : ℕ → Option ℕ) (tag : ℕ) (x : Transaction) : Type 0 where
  pub l : ℕ
  pub named : g tag ≡ Some l
  pub there : f l ≡ Some x
  pub tagged : x.tag ≡ tag

if_tagged_some : (tag : ℕ) (o : Option Transaction) (x : Transaction) → option_and_then (if_tagged tag) o ≡ Some x → (o ≡ Some x) × (x.tag ≡ tag)
if_tagged_some tag None x h = absurd (none-some x h)
if_tagged_some tag (Some y) x h = by_test (y.tag == tag) refl h
  where
    by_test : (b : Bool) → (y.tag == tag) ≡ b → cond b (Some y) None ≡ Some x → (Some y ≡ Some x) × (x.tag ≡ tag)
    by_test true is e = (e, ap (λ (z : Transaction). z.tag) (same e) ∙ eqb-true y.tag tag is)
      where
        same : ◌≡◌ {A = Option Transaction} (Some y) (Some x) → x ≡ y
        same e' = cc
    by_test false is e = absurd (none-some x e)

tagged_by : (f : ℕ → Option Transaction) (g : ℕ → Option ℕ) (tag : ℕ) (x : Transaction) (named : Option ℕ) → g tag ≡ named → option_and_then (if_tagged tag) (option_and_then f named) ≡ Some x → Tagged f g tag x
tagged_by f g tag x None is h = absurd (none-some x h)
tagged_by f g tag x (Some l) is h = let parts = if_tagged_some tag (f l) x h in record { l = l; named = is; there = parts.0; tagged = parts.1 }

pub tagged : (f : ℕ → Option Transaction) (g : ℕ → Option ℕ) (tag : ℕ) (x : Transaction) → with_tag f g tag ≡ Some x → Tagged f g tag x
tagged f g tag x h = tagged_by f g tag x (g tag) refl h

-- what is open with a tag after a take
take_with_tag : (m : Message) (f : ℕ → Option Transaction) (g : ℕ → Option ℕ) (tag : ℕ) → ((x p : Transaction) → open_after_take m x ≡ Some p → p.tag ≡ x.tag)
    → with_tag (λ a. option_and_then (open_after_take m) (f a)) g tag ≡ option_and_then (open_after_take m) (with_tag f g tag)
take_with_tag m f g tag keeps = by_name (g tag)
  where
    by_test : (b : Bool) (x : Transaction) → (x.tag == tag) ≡ b → (left : Option Transaction) → open_after_take m x ≡ left → option_and_then (if_tagged tag) left ≡ option_and_then (open_after_take m) (cond b (Some x) None)
    by_test true x is None e = sym e
    by_test true x is (Some p) e = cond-true (p.tag == tag) (Some p) None (ap (λ n. n == tag) (keeps x p e) ∙ is) ∙ sym e
    by_test false x is None e = refl
    by_test false x is (Some p) e = cond-false (p.tag == tag) (Some p) None (ap (λ n. n == tag) (keeps x p e) ∙ is)

    by_there : (o : Option Transaction) → option_and_then (if_tagged tag) (option_and_then (open_after_take m) o) ≡ option_and_then (open_after_take m) (option_and_then (if_tagged tag) o)
    by_there None = refl
    by_there (Some x) = by_test (x.tag == tag) x refl (open_after_take m x) refl

    by_name : (named : Option ℕ) → option_and_then (if_tagged tag) (option_and_then (λ a. option_and_then (open_after_take m) (f a)) named) ≡ option_and_then (open_after_take m) (option_and_then (if_tagged tag) (option_and_then f named))
    by_name None = refl
    by_name (Some a) = by_there (f a)

-- a message on another channel isn't taken from this one
pub takes_off : (h host : ℕ) (c : Channel) (m : Message) → channel_eq (channel_of m) c ≡ false → takes_on h c (Cause.Take host m) ≡ None
takes_off h host c m off = by_host (host == h) off
  where
    by_host : (b : Bool) {d : Bool} → d ≡ false → cond (b && d) (Some m) None ≡ None
    by_host true e = ap (λ x. cond x (Some m) None) e
    by_host false e = refl

pub takes_here : (h host : ℕ) (c : Channel) (m : Message) → host ≡ h → channel_eq (channel_of m) c ≡ true → takes_on h c (Cause.Take host m) ≡ Some m
takes_here h host c m same on = ap (λ b. cond (b && channel_eq (channel_of m) c) (Some m) None) (eq-eqb host h same) ∙ ap (λ b. cond b (Some m) None) on

-- how what is taken from a channel counts
abbrev pub Taken : Option Message → List Message → Type 0
Taken o ns = (p : Message → Bool) → count_by p ns ≡ option_map_or (counts p) o 0 + count_by p (without_taken o ns)

pub one_taken : (o : Option Message) (m : Message) (ns : List Message) → Taken o ns → o ≡ Some m → (p : Message → Bool) → count_by p ns ≡ cond (p m) 1 0 + count_by p (without_taken o ns)
one_taken o m ns taken is p = taken p ∙ ap (λ x. option_map_or (counts p) x 0 + count_by p (without_taken o ns)) is

pub none_taken : (o : Option Message) (ns : List Message) → o ≡ None → (p : Message → Bool) → count_by p ns ≡ count_by p (without_taken o ns)
none_taken o ns is p = sym (ap (λ x. count_by p (without_taken x ns)) is)

flag_small : (b : Bool) → cond b 1 0 ≤ 1
flag_small true = omega arith
flag_small false = omega arith

still_open : (o : Option Transaction) → option_and_then (λ x. Some x) o ≡ o
still_open None = refl
still_open (Some x) = refl

-- a tag after a take
take_after :
    (setup : Configuration) (h tag host : ℕ) (m : Message) (sends : Sends) (past : List Event) (fr hr fw hw ndr drs : List Message) (task : ℕ → Option Task) → sends ≡ Sends.Nothing
    → ((x p : Transaction) → open_after_take m x ≡ Some p → p.tag ≡ x.tag)
    → Before setup h tag past fr hr fw hw ndr drs task
    → Balanced (option_and_then (open_after_take m) (open_with tag past)) (write_back_at setup tag (not (takes_completion setup.tags (Cause.Take host m)) && (false || is_write_back_open setup past)))
    (count_by (has_tag tag) fr + count_by (has_tag tag) hr) (count_by (is_write_of tag) fw + count_by (is_write_of tag) hw)
    (count_by (is_ndr_with completes tag) (without_taken (takes_on h Channel.Ndr (Cause.Take host m)) ndr)) (count_by (is_ndr_with grants tag) (without_taken (takes_on h Channel.Ndr (Cause.Take host m)) ndr))
    (count_by (has_tag tag) (without_taken (takes_on h Channel.Drs (Cause.Take host m)) drs)) (task_at h tag task (tagged_line tag past))
    → After setup h tag (Cause.Take host m) sends past fr hr fw hw ndr drs task
take_after setup h tag host m sends past fr hr fw hw ndr drs task none keeps inv balanced =
    let placed = take_places h tag m (open_with tag past) (tagged_line tag past) _ _ fr hr fw hw ndr drs _ _ task inv balanced in
    subst (λ x. After setup h tag (Cause.Take host m) x past fr hr fw hw ndr drs task) (sym none)
    (sent_others h tag _ _ _ fr hr fw hw _ _ task [] [] refl refl
    (here_as h tag _ _ _ _ _ _ _ _ hr _ _ hw _ _ task (sym (take_with_tag m (λ a. open_at a past) (λ t. tagged_line t past) tag keeps)) refl refl refl refl placed))

-- a take that has nothing to do with what is open
quiet_take :
    (setup : Configuration) (h tag host : ℕ) (m : Message) (sends : Sends) (past : List Event) (fr hr fw hw ndr drs : List Message) (task : ℕ → Option Task) → sends ≡ Sends.Nothing
    → ((x : Transaction) → open_after_take m x ≡ Some x) → takes_completion setup.tags (Cause.Take host m) ≡ false
    → channel_eq (channel_of m) Channel.Ndr ≡ false → channel_eq (channel_of m) Channel.Drs ≡ false
    → Before setup h tag past fr hr fw hw ndr drs task → After setup h tag (Cause.Take host m) sends past fr hr fw hw ndr drs task
quiet_take setup h tag host m sends past fr hr fw hw ndr drs task none same incomplete off_ndr off_drs inv =
    take_after setup h tag host m sends past fr hr fw hw ndr drs task none (λ x p e. ap (λ (z : Transaction). z.tag) (some_same p x (sym e ∙ same x))) inv
    (balance_of (open_with tag past) _ (sym (unchanged (open_with tag past))) _ _ _ _ _ _ _
    (balance_as (open_with tag past) (ap (λ c. write_back_at setup tag (not c && (false || is_write_back_open setup past))) (sym incomplete)) refl refl
    (none_taken _ ndr (takes_off h host Channel.Ndr m off_ndr) (is_ndr_with completes tag)) (none_taken _ ndr (takes_off h host Channel.Ndr m off_ndr) (is_ndr_with grants tag))
    (none_taken _ drs (takes_off h host Channel.Drs m off_drs) (has_tag tag)) refl inv.balanced))
  where
    some_same : (y z : Transaction) → ◌≡◌ {A = Option Transaction} (Some y) (Some z) → y ≡ z
    some_same y z e = cc

    unchanged : (o : Option Transaction) → option_and_then (open_after_take m) o ≡ o
    unchanged None = refl
    unchanged (Some x) = same x

pub credit_off_ndr : (c : Channel) → channel_eq (channel_of (Message.Credit c)) Channel.Ndr ≡ false
credit_off_ndr Channel.Req = refl
credit_off_ndr Channel.Rwd = refl
credit_off_ndr Channel.BiRsp = refl
credit_off_ndr Channel.Ndr = refl
credit_off_ndr Channel.Drs = refl
credit_off_ndr Channel.BiSnp = refl
credit_off_ndr Channel.CreditUp = refl
credit_off_ndr Channel.CreditDown = refl

pub credit_off_drs : (c : Channel) → channel_eq (channel_of (Message.Credit c)) Channel.Drs ≡ false
credit_off_drs Channel.Req = refl
credit_off_drs Channel.Rwd = refl
credit_off_drs Channel.BiRsp = refl
credit_off_drs Channel.Ndr = refl
credit_off_drs Channel.Drs = refl
credit_off_drs Channel.BiSnp = refl
credit_off_drs Channel.CreditUp = refl
credit_off_drs Channel.CreditDown = refl

pub credit_off_req : (c : Channel) → channel_eq (channel_of (Message.Credit c)) Channel.Req ≡ false
credit_off_req Channel.Req = refl
credit_off_req Channel.Rwd = refl
credit_off_req Channel.BiRsp = refl
credit_off_req Channel.Ndr = refl
credit_off_req Channel.Drs = refl
credit_off_req Channel.BiSnp = refl
credit_off_req Channel.CreditUp = refl
credit_off_req Channel.CreditDown = refl

pub credit_off_rwd : (c : Channel) → channel_eq (channel_of (Message.Credit c)) Channel.Rwd ≡ false
credit_off_rwd Channel.Req = refl
credit_off_rwd Channel.Rwd = refl
credit_off_rwd Channel.BiRsp = refl
credit_off_rwd Channel.Ndr = refl
credit_off_rwd Channel.Drs = refl
credit_off_rwd Channel.BiSnp = refl
credit_off_rwd Channel.CreditUp = refl
credit_off_rwd Channel.CreditDown = refl

take_places_after :
    (setup : Configuration) (h tag host : ℕ) (m : Message) (sends : Sends) (past : List Event) (w : Emission) (fr hr fw hw ndr drs : List Message) (task : ℕ → Option Task)
    → host_emission setup h (Cause.Take host m) past ≡ Some w → sends ≡ w.sends → cause_fits setup h (Cause.Take host m) ≡ true
    → ((x : Transaction) → open_with tag past ≡ Some x → x.tag ≡ tag)
    → Taken (takes_on h Channel.Ndr (Cause.Take host m)) ndr → Taken (takes_on h Channel.Drs (Cause.Take host m)) drs
    → Before setup h tag past fr hr fw hw ndr drs task → After setup h tag (Cause.Take host m) sends past fr hr fw hw ndr drs task
take_places_after setup h tag host (Message.Req op meta snp t line) sends past w fr hr fw hw ndr drs task row sent fits named ns ds inv = absurd (none-some w (take_row setup h (Message.Req op meta snp t line) past w row))
take_places_after setup h tag host (Message.MemWr meta snp t line bytes) sends past w fr hr fw hw ndr drs task row sent fits named ns ds inv = absurd (none-some w (take_row setup h (Message.MemWr meta snp t line bytes) past w row))
take_places_after setup h tag host (Message.BiConflict t) sends past w fr hr fw hw ndr drs task row sent fits named ns ds inv = absurd (none-some w (take_row setup h (Message.BiConflict t) past w row))
take_places_after setup h tag host (Message.BiRsp op bitag low) sends past w fr hr fw hw ndr drs task row sent fits named ns ds inv = absurd (none-some w (take_row setup h (Message.BiRsp op bitag low) past w row))
take_places_after setup h tag host (Message.Ndr op t) sends past w fr hr fw hw ndr drs task row sent fits named ns ds inv =
    let m = Message.Ndr op t in
    let own = sym (take_parts setup h host m fits).receiver in
    let taken = takes_here h host Channel.Ndr m own refl in
    take_after setup h tag host m sends past fr hr fw hw ndr drs task (sent ∙ takes_send_nothing setup h m past w (take_row setup h m past w row)) (λ x p e. (take_keeps m x p e).tag) inv
    (balance_as _ (sym (write_back_after (completes op) t.0 tag setup.tags (is_write_back_open setup past))) refl refl refl refl (none_taken _ drs (takes_off h host Channel.Drs m refl) (has_tag tag)) refl
    (ndr_balance op t.0 tag (open_with tag past) named _ _ _ _ _ _ _ _ _ (t.0 == tag) refl (flag_small ((tag == setup.tags) && is_write_back_open setup past))
    (one_taken _ m ndr ns taken (is_ndr_with completes tag)) (one_taken _ m ndr ns taken (is_ndr_with grants tag)) inv.balanced))
take_places_after setup h tag host (Message.MemData t bytes) sends past w fr hr fw hw ndr drs task row sent fits named ns ds inv =
    let m = Message.MemData t bytes in
    let own = sym (take_parts setup h host m fits).receiver in
    let taken = takes_here h host Channel.Drs m own refl in
    let off = takes_off h host Channel.Ndr m refl in
    take_after setup h tag host m sends past fr hr fw hw ndr drs task (sent ∙ takes_send_nothing setup h m past w (take_row setup h m past w row)) (λ x p e. (take_keeps m x p e).tag) inv
    (balance_as _ refl refl refl (none_taken _ ndr off (is_ndr_with completes tag)) (none_taken _ ndr off (is_ndr_with grants tag)) refl refl
    (data_balance bytes t.0 tag (open_with tag past) named _ _ _ _ _ _ _ _ (t.0 == tag) refl (one_taken _ m drs ds taken (has_tag tag)) inv.balanced))
take_places_after setup h tag host (Message.BiSnp op bitag line span) sends past w fr hr fw hw ndr drs task row sent fits named ns ds inv =
    let m = Message.BiSnp op bitag line span in
    quiet_take setup h tag host m sends past fr hr fw hw ndr drs task (sent ∙ takes_send_nothing setup h m past w (take_row setup h m past w row)) (λ x. refl) refl refl refl inv
take_places_after setup h tag host (Message.Credit c) sends past w fr hr fw hw ndr drs task row sent fits named ns ds inv =
    let m = Message.Credit c in
    quiet_take setup h tag host m sends past fr hr fw hw ndr drs task (sent ∙ takes_send_nothing setup h m past w (take_row setup h m past w row)) (λ x. refl) refl (credit_off_ndr c) (credit_off_drs c) inv

-- an act that sends no request and no write
quiet_act :
    (h tag : ℕ) (o : Option Transaction) (a : Option ℕ) (b : ℕ) (fr hr fw hw ndr drs : List Message) (task : ℕ → Option Task) (sends : Sends) (m : Message)
    → sends ≡ Sends.One (record { host = h; message = m }) → channel_eq (channel_of m) Channel.Req ≡ false → is_write_of tag m ≡ false
    → Here h tag o a b fr hr fw hw ndr drs task → Here h tag o a b (fr ++ on_channel h Channel.Req sends) hr (fw ++ on_channel h Channel.Rwd sends) hw ndr drs task
quiet_act h tag o a b fr hr fw hw ndr drs task sends m sent off no_write inv =
    sent_others h tag o a b fr hr fw hw ndr drs task _ _
    (ap (λ x. count_by (has_tag tag) (on_channel h Channel.Req x)) sent ∙ ap (count_by (has_tag tag)) (sent_one h Channel.Req m ∙ ap (λ c. if_there c m) off))
    (ap (λ x. count_by (is_write_of tag) (on_channel h Channel.Rwd x)) sent ∙ ap (count_by (is_write_of tag)) (sent_one h Channel.Rwd m) ∙ none_there (channel_eq (channel_of m) Channel.Rwd)) inv
  where
    none_there : (c : Bool) → count_by (is_write_of tag) (if_there c m) ≡ 0
    none_there true = count_by-cons (is_write_of tag) m [] ∙ ap (λ x. cond x 1 0 + 0) no_write
    none_there false = refl

-- a write-back takes the write-back tag
written_here :
    (setup : Configuration) (h : ℕ) (m : Message) (a : Option ℕ) (fr hr fw hw ndr drs : List Message) (task : ℕ → Option Task) → is_write_of setup.tags m ≡ true
    → Here h setup.tags None a 0 fr hr fw hw ndr drs task → Here h setup.tags None a 1 (fr ++ []) hr (fw ++ if_there true m) hw ndr drs task
written_here setup h m a fr hr fw hw ndr drs task is inv = record {
  balanced =
      balance_as None refl (sym (ap (λ n. n + count_by (has_tag setup.tags) hr) (count_by-append (has_tag setup.tags) fr []) ∙ zero_more (count_by (has_tag setup.tags) fr) (count_by (has_tag setup.tags) hr)))
      (sym (ap (λ n. n + count_by (is_write_of setup.tags) hw) (count_by-append (is_write_of setup.tags) fw (m ∷ []) ∙ ap (λ n. count_by (is_write_of setup.tags) fw + n) (count_by-cons (is_write_of setup.tags) m [] ∙ ap (λ x. cond x 1 0 + 0) is))
      ∙ one_more (count_by (is_write_of setup.tags) fw) (count_by (is_write_of setup.tags) hw)))
      refl refl refl refl
      (balance_write_begun (count_by (has_tag setup.tags) fr + count_by (has_tag setup.tags) hr) (count_by (is_write_of setup.tags) fw + count_by (is_write_of setup.tags) hw)
      (count_by (is_ndr_with completes setup.tags) ndr) (count_by (is_ndr_with grants setup.tags) ndr) (count_by (has_tag setup.tags) drs) (task_at h setup.tags task a) inv.balanced);
  flying_requests = each_append (OwnRequest setup.tags None a) fr [] inv.flying_requests tt;
  held_requests = inv.held_requests;
  flying_writes = each_append (OwnWrite setup.tags None a) fw (m ∷ []) inv.flying_writes (λ yes x there. absurd (none-some x there), tt);
  held_writes = inv.held_writes;
  tasks = inv.tasks;
}
  where
    zero_more : (n k : ℕ) → n + 0 + k ≡ n + k
    zero_more n k = omega arith

    one_more : (n k : ℕ) → n + (1 + 0) + k ≡ n + k + 1
    one_more n k = omega arith

pub nothing_has : (setup : Configuration) (past : List Event) → LeadBack setup (λ a. open_at a past) (λ t. tagged_line t past) → (o : Option Transaction) → open_with setup.tags past ≡ o → o ≡ None
nothing_has setup past lead None is = refl
nothing_has setup past lead (Some x) is =
    let there = tagged (λ a. open_at a past) (λ t. tagged_line t past) setup.tags x is in
    let less = (lead there.l x there.there).tag in
    let same = there.tagged in
    absurd (omega arith)

write_back_places :
    (setup : Configuration) (h tag l : ℕ) (sends : Sends) (past : List Event) (w : Emission) (fr hr fw hw ndr drs : List Message) (task : ℕ → Option Task)
    → host_emission setup h (Cause.Act (Act.WriteBack (record { 0 = l }))) past ≡ Some w → sends ≡ w.sends → LeadBack setup (λ a. open_at a past) (λ t. tagged_line t past)
    → Before setup h tag past fr hr fw hw ndr drs task → After setup h tag (Cause.Act (Act.WriteBack (record { 0 = l }))) sends past fr hr fw hw ndr drs task
write_back_places setup h tag l sends past w fr hr fw hw ndr drs task row sent lead inv = by_tag (tag == setup.tags) refl
  where
    back : WriteBackRow setup h l past w.sends
    back = write_back_row setup h l past w row

    by_tag : (same : Bool) → (tag == setup.tags) ≡ same → After setup h tag (Cause.Act (Act.WriteBack (record { 0 = l }))) sends past fr hr fw hw ndr drs task
    by_tag true is =
        let same = eqb-true tag setup.tags is in
        let m = write_back_message setup back.s.op l past in
        subst (λ n. After setup h n (Cause.Act (Act.WriteBack (record { 0 = l }))) sends past fr hr fw hw ndr drs task) (sym same)
        (here_as h setup.tags None _ (tagged_line setup.tags past) _ 1 _ (fr ++ []) _ hr (fw ++ if_there true m) _ hw ndr drs task
        (sym (nothing_has setup past lead (open_with setup.tags past) refl)) refl
        (sym (ap (λ c. cond (c && true) 1 0) (eq-eqb setup.tags setup.tags refl)))
        (ap (λ x. fr ++ x) (sym (ap (on_channel h Channel.Req) (sent ∙ back.sent) ∙ sent_one h Channel.Req m)))
        (ap (λ x. fw ++ x) (sym (ap (on_channel h Channel.Rwd) (sent ∙ back.sent) ∙ sent_one h Channel.Rwd m)))
        (written_here setup h m (tagged_line setup.tags past) fr hr fw hw ndr drs task (eq-eqb setup.tags setup.tags refl)
        (here_as h setup.tags _ None (tagged_line setup.tags past) (tagged_line setup.tags past) _ 0 fr fr hr fw fw hw ndr drs task
        (nothing_has setup past lead (open_with setup.tags past) refl) refl (ap (λ c. write_back_at setup setup.tags c) back.free ∙ ap (λ c. cond (c && false) 1 0) (eq-eqb setup.tags setup.tags refl)) refl refl
        (subst (λ n. Before setup h n past fr hr fw hw ndr drs task) same inv))))
    by_tag false is =
        let m = write_back_message setup back.s.op l past in
        quiet_act h tag (open_with tag past) (tagged_line tag past) _ fr hr fw hw ndr drs task sends m (sent ∙ back.sent) refl (ne_eqb setup.tags tag (λ e. false≢true (sym is ∙ eq-eqb tag setup.tags (sym e))))
        (here_as h tag (open_with tag past) (open_with tag past) (tagged_line tag past) (tagged_line tag past) _ _ fr fr hr fw fw hw ndr drs task refl refl
        (ap (λ c. cond (c && is_write_back_open setup past) 1 0) is ∙ sym (ap (λ c. cond (c && true) 1 0) is)) refl refl inv)

act_places :
    (setup : Configuration) (h tag : ℕ) (act : Act) (sends : Sends) (past : List Event) (w : Emission) (fr hr fw hw ndr drs : List Message) (task : ℕ → Option Task)
    → host_emission setup h (Cause.Act act) past ≡ Some w → sends ≡ w.sends → LeadBack setup (λ a. open_at a past) (λ t. tagged_line t past)
    → Before setup h tag past fr hr fw hw ndr drs task → After setup h tag (Cause.Act act) sends past fr hr fw hw ndr drs task
act_places setup h tag (Act.Conflict line) sends past w fr hr fw hw ndr drs task row sent lead inv =
    let conflict = conflict_row setup h line.0 past w row in
    quiet_act h tag _ _ _ fr hr fw hw ndr drs task sends (Message.BiConflict (record { 0 = conflict.o.tag })) (sent ∙ conflict.sent) refl refl inv
act_places setup h tag (Act.WriteBack line) sends past w fr hr fw hw ndr drs task row sent lead inv = write_back_places setup h tag line.0 sends past w fr hr fw hw ndr drs task row sent lead inv
act_places setup h tag (Act.Answer line) sends past w fr hr fw hw ndr drs task row sent lead inv =
    let answer = answer_row setup h line.0 past w row in
    quiet_act h tag _ _ _ fr hr fw hw ndr drs task sends (Message.BiRsp answer.op (record { 0 = answer.s.first }) answer.low) (sent ∙ answer.sent) refl refl inv
act_places setup h tag (Act.AnswerBlock line) sends past w fr hr fw hw ndr drs task row sent lead inv =
    let block = block_row setup h line.0 past w row in
    quiet_act h tag _ _ _ fr hr fw hw ndr drs task sends (Message.BiRsp RspOp.IBlk (record { 0 = line.0 }) 0) (sent ∙ block.sent) refl refl inv
act_places setup h tag (Act.HostReturn c) sends past w fr hr fw hw ndr drs task row sent lead inv =
    quiet_act h tag _ _ _ fr hr fw hw ndr drs task sends (Message.Credit c)
    (sent ∙ ap sends_of (sym (when_some (host_returns c && nat_le 1 (host_owed h c past)) (one_send h (Message.Credit c)) w row).1)) (credit_off_req c) refl inv
act_places setup h tag (Act.Serve host t) sends past w fr hr fw hw ndr drs task row sent lead inv = absurd (none-some w row)
act_places setup h tag (Act.Clean host t) sends past w fr hr fw hw ndr drs task row sent lead inv = absurd (none-some w row)
act_places setup h tag (Act.Start host t) sends past w fr hr fw hw ndr drs task row sent lead inv = absurd (none-some w row)
act_places setup h tag (Act.Evict host t) sends past w fr hr fw hw ndr drs task row sent lead inv = absurd (none-some w row)
act_places setup h tag (Act.Snoop host line) sends past w fr hr fw hw ndr drs task row sent lead inv = absurd (none-some w row)
act_places setup h tag (Act.Finish line) sends past w fr hr fw hw ndr drs task row sent lead inv = absurd (none-some w row)
act_places setup h tag (Act.DeviceReturn host c) sends past w fr hr fw hw ndr drs task row sent lead inv = absurd (none-some w row)

-- what a host's event leaves of the places of its tags
pub cause_places :
    (setup : Configuration) (h tag : ℕ) (cause : Cause) (sends : Sends) (past : List Event) (w : Emission) (fr hr fw hw ndr drs : List Message) (task : ℕ → Option Task)
    → host_emission setup h cause past ≡ Some w → sends ≡ w.sends → cause_fits setup h cause ≡ true → LeadBack setup (λ a. open_at a past) (λ t. tagged_line t past)
    → Taken (takes_on h Channel.Ndr cause) ndr → Taken (takes_on h Channel.Drs cause) drs
    → Before setup h tag past fr hr fw hw ndr drs task → After setup h tag cause sends past fr hr fw hw ndr drs task
cause_places setup h tag (Cause.Op s i op) sends past w fr hr fw hw ndr drs task row sent fits lead ns ds inv =
    operation_places setup h tag s i op sends past fr hr fw hw ndr drs task (subst (Operated setup h op past) (sym sent) (operated setup h s i op past w row)) inv
cause_places setup h tag (Cause.Take host m) sends past w fr hr fw hw ndr drs task row sent fits lead ns ds inv =
    take_places_after setup h tag host m sends past w fr hr fw hw ndr drs task row sent fits (λ x is. (tagged (λ a. open_at a past) (λ t. tagged_line t past) tag x is).tagged) ns ds inv
cause_places setup h tag (Cause.Act act) sends past w fr hr fw hw ndr drs task row sent fits lead ns ds inv = act_places setup h tag act sends past w fr hr fw hw ndr drs task row sent lead inv
