-- The copies of a line, host by host.
use Rattle.std.proofs.Common.{◌≡◌, ℕ, zero, suc, ◌+◌, ◌-◌, ◌<◌, List, [], ◌∷◌, ◌++◌, length, map, refl, ap, sym, ◌∙◌, append_assoc, arith}
use Rattle.std.proofs.lemmas.List.{length-map, map-append}
use Rattle.std.specs.Prelude.{replicate, slice_set}
use Rattle.std.specs.List.{range_with_len}
use Rattle.cxl_message.specs.declared.states.CopyState.{CopyState}
use Rattle.cxl_message.specs.Lists.{below}
use Rattle.cxl_message.specs.Setup.{Configuration}
use Rattle.coherence_model.specs.Cache.{copy}
use Rattle.coherence_model.specs.Traces.{events_of}
use Rattle.host_home.specs.Contract.{StandsFor as HostStandsFor, WhereStands as WhereHostStands}
use Rattle.host_tables.specs.Agent.{AgentRecord as HostRecord}
use Rattle.link_queues.proofs.Tables.{below_one_more}
use Rattle.machine.specs.Stands.{MachineRecord, WhereStands}
use Rattle.coherence_laws.specs.Laws.{copies_after, copies_of_first}

-- the copy at a host, by its agent
pub copy_is :
    (m : MachineRecord) (a : HostRecord) (h line : ℕ) (s : CopyState) → WhereStands m (λ setup opening t. HostStandsFor a setup h (events_of h t))
    → WhereHostStands a (λ setup g mine. s ≡ (copy setup line mine).state) → WhereStands m (λ setup opening t. s ≡ (copy setup line (events_of h t)).state)
copy_is m a h line s stands is setup opening t standing = is setup h (events_of h t) (stands setup opening t standing)

-- of no host
pub none_yet : (m : MachineRecord) (a : ℕ) (states : List CopyState) → states ≡ replicate 16 CopyState.I → WhereStands m (λ setup opening t. states ≡ copies_of_first setup t a 0)
none_yet m a states all setup opening t stands = all

set_next : (xs : List CopyState) (k n : ℕ) (s : CopyState) → length xs ≡ k → slice_set (xs ++ replicate (suc n) CopyState.I) k s ≡ xs ++ (s ∷ replicate n CopyState.I)
set_next [] zero n s count = refl
set_next [] (suc k) n s count = absurd (omega (arith, count))
set_next (x ∷ xs) zero n s count = absurd (omega (arith, count))
set_next (x ∷ xs) (suc k) n s count = let less : length xs ≡ k = omega (arith, count) in ap (λ ys. x ∷ ys) (set_next xs k n s less)

length_from : (s n : ℕ) → length (range_with_len s n) ≡ n
length_from s zero = refl
length_from s (suc n) = ap suc (length_from (s + 1) n)

one_host_more : (f : ℕ → CopyState) (n : ℕ) → map f (below (n + 1)) ≡ map f (below n) ++ (f n ∷ [])
one_host_more f n = ap (map f) (below_one_more n) ∙ map-append f (below n) (n ∷ [])

as_before : (xs : List CopyState) (s : CopyState) (rest : List CopyState) → xs ++ (s ∷ rest) ≡ (xs ++ (s ∷ [])) ++ rest
as_before xs s rest = sym (append_assoc xs (s ∷ []) rest)

-- of one host more
pub one_more :
    (m : MachineRecord) (a h : ℕ) (states : List CopyState) (s : CopyState) → h < 16 → WhereStands m (λ setup opening t. states ≡ copies_of_first setup t a h)
    → WhereStands m (λ setup opening t. s ≡ (copy setup a (events_of h t)).state) → WhereStands m (λ setup opening t. slice_set states h s ≡ copies_of_first setup t a (h + 1))
one_more m a h states s low before here setup opening t stands =
    let f : ℕ → CopyState = λ g. (copy setup a (events_of g t)).state in
    let room : 16 - h ≡ suc (16 - (h + 1)) = omega (arith, low) in
    let count : length (map f (below h)) ≡ h = length-map (below h) f ∙ length_from 0 h in
    ap (λ xs. slice_set xs h s) (before setup opening t stands ∙ ap (λ n. map f (below h) ++ replicate n CopyState.I) room)
    ∙ set_next (map f (below h)) h (16 - (h + 1)) s count
    ∙ as_before (map f (below h)) s (replicate (16 - (h + 1)) CopyState.I)
    ∙ ap (λ x. (map f (below h) ++ (x ∷ [])) ++ replicate (16 - (h + 1)) CopyState.I) (here setup opening t stands)
    ∙ ap (λ xs. xs ++ replicate (16 - (h + 1)) CopyState.I) (sym (one_host_more f h))

-- of all hosts
pub all_copies :
    (m : MachineRecord) (a n : ℕ) (states : List CopyState) → n ≡ m.setup.hosts → WhereStands m (λ setup opening t. states ≡ copies_of_first setup t a n)
    → WhereStands m (λ setup opening t. states ≡ copies_after setup t a)
all_copies m a n states all is setup opening t stands =
    is setup opening t stands ∙ ap (copies_of_first setup t a) (all ∙ ap (λ (s : Configuration). s.hosts) stands.setup_is)
