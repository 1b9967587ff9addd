-- What a host's operation leaves of the places of its tags, by its row.
use Rattle.std.proofs.Common.{◌≡◌, ℕ, ◌<◌, Bool, true, false, List, [], ◌++◌, Option, Some, None, cond, refl, sym, ◌∙◌, ap, subst, arith, append_assoc}
use Rattle.std.specs.Prelude.{not, option_and_then, ◌&&◌, ◌==◌, ◌||◌}
use Rattle.std.specs.Option.{option_or}
use Rattle.std.proofs.lemmas.Bool.{cond-false, eqb-true, ne_eqb}
use Rattle.cxl_message.specs.declared.channels.Channel.{Channel}
use Rattle.cxl_message.specs.declared.events.Cause.{Cause}
use Rattle.cxl_message.specs.declared.events.Event.{Event}
use Rattle.cxl_message.specs.declared.events.Op.{Op}
use Rattle.cxl_message.specs.declared.events.Sends.{Sends}
use Rattle.cxl_message.specs.declared.messages.Message.{Message}
use Rattle.cxl_message.specs.Codes.{channel_eq}
use Rattle.cxl_message.specs.Events.{line_of}
use Rattle.cxl_message.specs.Messages.{channel_of}
use Rattle.cxl_message.specs.Setup.{Configuration}
use Rattle.coherence_model.specs.Cache.{copy, is_modified}
use Rattle.coherence_model.specs.Flight.{takes_on, without_taken}
use Rattle.coherence_model.specs.HostOperations.{eviction_message, request_message}
use Rattle.coherence_model.specs.Snoops.{is_quiet}
use Rattle.coherence_model.specs.Tags.{if_tagged, open_with, tagged_after, tagged_line}
use Rattle.coherence_model.specs.Tasks.{Task}
use Rattle.coherence_model.specs.Transactions.{Transaction, open_after, open_at, opened}
use Rattle.coherence_model.specs.WriteBacks.{is_write_back, is_write_back_open, takes_completion}
use Rattle.request_laws.proofs.FreeTags.{nothing_there}
use Rattle.request_laws.proofs.HostOperations.{Alone, Evicting, Evicts, Hits, Operated, Requests, eviction_kind, kind_of, request_opens}
use Rattle.request_laws.proofs.OpenLines.{one_opens, one_tags, opening_line, quiet_parts, tagging_line, two_open, two_tag, victim_opens, with_tag}
use Rattle.request_laws.proofs.OperationsPlaced.{eviction_opens_by, here_as, open_one, request_opens_by, sent_others, with_tag_opened}
use Rattle.request_laws.proofs.Places.{Here, if_there, on_channel, sent_one, sent_two, write_back_at}

-- a tag's places before an event of its host, and after it
abbrev pub Before : Configuration → ℕ → ℕ → List Event → (fr hr fw hw ndr drs : List Message) → (ℕ → Option Task) → Type 0
Before setup h tag past fr hr fw hw ndr drs task = Here h tag (open_with tag past) (tagged_line tag past) (write_back_at setup tag (is_write_back_open setup past)) fr hr fw hw ndr drs task

abbrev pub After : Configuration → ℕ → ℕ → Cause → Sends → List Event → (fr hr fw hw ndr drs : List Message) → (ℕ → Option Task) → Type 0
After setup h tag cause sends past fr hr fw hw ndr drs task =
    Here h tag (with_tag (λ a. open_after a cause sends (open_at a past)) (λ t. tagged_after t cause sends (tagged_line t past)) tag) (tagged_after tag cause sends (tagged_line tag past))
    (write_back_at setup tag (not (takes_completion setup.tags cause) && (is_write_back cause || is_write_back_open setup past)))
    (fr ++ on_channel h Channel.Req sends) hr (fw ++ on_channel h Channel.Rwd sends) hw (without_taken (takes_on h Channel.Ndr cause) ndr) (without_taken (takes_on h Channel.Drs cause) drs) task

-- the same functions give the same
with_tag_same : (f f' : ℕ → Option Transaction) (g g' : ℕ → Option ℕ) (tag : ℕ) → ((a : ℕ) → f a ≡ f' a) → ((t : ℕ) → g t ≡ g' t) → with_tag f g tag ≡ with_tag f' g' tag
with_tag_same f f' g g' tag same names = ap (λ x. option_and_then (if_tagged tag) (option_and_then f x)) (names tag) ∙ ap (option_and_then (if_tagged tag)) (by_line (g' tag))
  where
    by_line : (x : Option ℕ) → option_and_then f x ≡ option_and_then f' x
    by_line None = refl
    by_line (Some a) = same a

-- a request's tag isn't the write-back tag
not_written : (setup : Configuration) (t tag : ℕ) (writing : Bool) → t < setup.tags → t ≡ tag → write_back_at setup tag writing ≡ 0
not_written setup t tag writing less same = ap (λ b. cond (b && writing) 1 0) (ne_eqb tag setup.tags (λ e. omega arith))

quiet_closed : (a : ℕ) (past : List Event) → is_quiet a past ≡ true → open_at a past ≡ None
quiet_closed a past quiet = nothing_there (open_at a past) (quiet_parts a past quiet).0

request_places :
    (setup : Configuration) (h tag s i : ℕ) (op : Op) (sends : Sends) (past : List Event) (fr hr fw hw ndr drs : List Message) (task : ℕ → Option Task) → Alone setup h op past sends
    → Before setup h tag past fr hr fw hw ndr drs task → After setup h tag (Cause.Op s i op) sends past fr hr fw hw ndr drs task
request_places setup h tag s i op sends past fr hr fw hw ndr drs task one inv =
    let m = request_message op one.t in
    let by = request_opens_by op one.t in
    subst (λ x. After setup h tag (Cause.Op s i op) x past fr hr fw hw ndr drs task) (sym one.sent)
    (here_as h tag _ _ _ _ _ _ _ _ hr _ _ hw ndr drs task
    (with_tag_same _ _ _ _ tag (λ a. sym (one_opens a s i h op m (line_of op) one.t (kind_of op) past (request_opens op one.t))) (λ t. sym (one_tags t s i h op m (line_of op) one.t (kind_of op) past (request_opens op one.t))))
    (sym (one_tags tag s i h op m (line_of op) one.t (kind_of op) past (request_opens op one.t))) refl
    (ap (λ x. fr ++ x) (sym (sent_one h Channel.Req m ∙ ap (λ b. if_there b m) by.on_req))) (ap (λ x. fw ++ x) (sym (sent_one h Channel.Rwd m ∙ ap (λ b. if_there b m) by.on_rwd)))
    (open_one h tag s i op m (line_of op) one.t (kind_of op) true false (λ a. open_at a past) (λ t. tagged_line t past) (write_back_at setup tag (is_write_back_open setup past)) fr hr fw hw ndr drs task by
    (quiet_closed (line_of op) past one.quiet) one.free.closed (not_written setup one.t tag (is_write_back_open setup past) one.free.exists) inv))

-- two lines or two tags, either first
either_first : {A : Type 0} (b c : Bool) (x y : A) (z : Option A) → (b ≡ true → c ≡ true → ⊥) → option_or (cond c (Some y) None) (option_or (cond b (Some x) None) z) ≡ option_or (cond b (Some x) None) (option_or (cond c (Some y) None) z)
either_first true true x y z other = absurd (other refl refl)
either_first true false x y z other = refl
either_first false true x y z other = refl
either_first false false x y z other = refl

evicting_places :
    (setup : Configuration) (h tag s i : ℕ) (op : Op) (sends : Sends) (past : List Event) (fr hr fw hw ndr drs : List Message) (task : ℕ → Option Task) → Evicting setup h op past sends
    → Before setup h tag past fr hr fw hw ndr drs task → After setup h tag (Cause.Op s i op) sends past fr hr fw hw ndr drs task
evicting_places setup h tag s i op sends past fr hr fw hw ndr drs task two inv =
    let modified = is_modified setup two.v past in
    let m = eviction_message setup two.v past two.t in
    let n = request_message op two.u in
    let l = line_of op in
    let bym = eviction_opens_by modified (copy setup two.v past).bytes two.v two.t in
    let byn = request_opens_by op two.u in
    let k = eviction_kind modified in
    let x = opened s i op k two.t in
    let y = opened s i op (kind_of op) two.u in
    let f : ℕ → Option Transaction = λ a. open_at a past in
    let g : ℕ → Option ℕ = λ t. tagged_line t past in
    let b = write_back_at setup tag (is_write_back_open setup past) in
    let names : (t : ℕ) → tagging_line l two.u (tagging_line two.v two.t g) t ≡ tagged_after t (Cause.Op s i op) (Sends.Two (record { host = h; message = m }) (record { host = h; message = n })) (tagged_line t past) =
    λ t. either_first (two.t == t) (two.u == t) two.v l (g t) (λ e e'. two.free.distinct (eqb-true two.t t e ∙ sym (eqb-true two.u t e')))
    ∙ sym (two_tag t s i h op m n two.v two.t k l two.u (kind_of op) past (victim_opens setup two.v past two.t) (request_opens op two.u)) in
    let first = open_one h tag s i op m two.v two.t k (not modified) modified f g b fr hr fw hw ndr drs task bym (quiet_closed two.v past two.idle) two.free.first.closed (not_written setup two.t tag (is_write_back_open setup past) two.free.first.exists) inv in
    let closed : opening_line two.v x f l ≡ None = ap (λ c. option_or (cond c (Some x) None) (open_at l past)) (ne_eqb two.v l two.other) ∙ quiet_closed l past two.quiet in
    let free : with_tag (opening_line two.v x f) (tagging_line two.v two.t g) two.u ≡ None =
    with_tag_opened f g two.v two.u x (quiet_closed two.v past two.idle) ∙ cond-false (two.t == two.u) (Some x) (with_tag f g two.u) (ne_eqb two.t two.u two.free.distinct) ∙ two.free.second.closed in
    subst (λ z. After setup h tag (Cause.Op s i op) z past fr hr fw hw ndr drs task) (sym two.sent)
    (here_as h tag _ _ _ _ _ _ _ _ hr _ _ hw ndr drs task
    (with_tag_same _ _ _ _ tag
    (λ a. either_first (two.v == a) (l == a) x y (f a) (λ e e'. two.other (eqb-true two.v a e ∙ sym (eqb-true l a e')))
    ∙ sym (two_open a s i h op m n two.v two.t k l two.u (kind_of op) past (victim_opens setup two.v past two.t) (request_opens op two.u))) names)
    (names tag) refl
    (append_assoc fr (if_there (not modified) m) (if_there true n) ∙ ap (λ z. fr ++ z) (sym (sent_two h Channel.Req m n ∙ ap (λ c. if_there c m ++ if_there (channel_eq (channel_of n) Channel.Req) n) bym.on_req ∙ ap (λ c. if_there (not modified) m ++ if_there c n) byn.on_req)))
    (append_assoc fw (if_there modified m) (if_there false n) ∙ ap (λ z. fw ++ z) (sym (sent_two h Channel.Rwd m n ∙ ap (λ c. if_there c m ++ if_there (channel_eq (channel_of n) Channel.Rwd) n) bym.on_rwd ∙ ap (λ c. if_there modified m ++ if_there c n) byn.on_rwd)))
    (open_one h tag s i op n l two.u (kind_of op) true false (opening_line two.v x f) (tagging_line two.v two.t g) b (fr ++ if_there (not modified) m) hr (fw ++ if_there modified m) hw ndr drs task byn closed free
    (not_written setup two.u tag (is_write_back_open setup past) two.free.second.exists) first))

pub operation_places :
    (setup : Configuration) (h tag s i : ℕ) (op : Op) (sends : Sends) (past : List Event) (fr hr fw hw ndr drs : List Message) (task : ℕ → Option Task) → Operated setup h op past sends
    → Before setup h tag past fr hr fw hw ndr drs task → After setup h tag (Cause.Op s i op) sends past fr hr fw hw ndr drs task
operation_places setup h tag s i op sends past fr hr fw hw ndr drs task (Hits none) inv =
    subst (λ x. After setup h tag (Cause.Op s i op) x past fr hr fw hw ndr drs task) (sym none) (sent_others h tag _ _ _ fr hr fw hw ndr drs task [] [] refl refl inv)
operation_places setup h tag s i op sends past fr hr fw hw ndr drs task (Requests one) inv = request_places setup h tag s i op sends past fr hr fw hw ndr drs task one inv
operation_places setup h tag s i op sends past fr hr fw hw ndr drs task (Evicts two) inv = evicting_places setup h tag s i op sends past fr hr fw hw ndr drs task two inv
