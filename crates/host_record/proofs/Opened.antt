-- What an agent keeps before its first event is the record of no events.
use Rattle.std.proofs.Common.{List, None, Option, [], ap, arith, false, length, map, refl, replicate, suc, sym, zero, ℕ, ◌+◌, ◌-◌, ◌∷◌, ◌≡◌}
use Rattle.std.specs.Prelude.{find}
use Rattle.std.specs.List.{range_with_len}
use Rattle.cxl_message.specs.Lists.{below}
use Rattle.coherence_model.specs.OwnerFacts.{is_writing}
use Rattle.coherence_model.specs.Stages.{Stage}
use Rattle.host_record.specs.Laws.{RecordsBegin}

same_from : {X : Type 0} (x : X) (a n : ℕ) → replicate n x ≡ map (λ k. x) (range_with_len a n)
same_from x a zero = refl
same_from x a (suc n) = ap (λ l. x ∷ l) (same_from x (a + 1) n)

-- a table of the same is one of a constant look-back
table_of : {X : Type 0} (x : X) (n : ℕ) → replicate n x ≡ map (λ k. x) (below n)
table_of x n = same_from x 0 n

all_left : (n : ℕ) → n ≡ (n + 0) - 0
all_left n = omega arith

none_found : {X : Type 0} (xs : List X) → ◌≡◌ {A = Option X} None (find (λ x. false) xs)
none_found [] = refl
none_found (x ∷ xs) = none_found xs

pub records_begin : RecordsBegin
records_begin setup h = λ i. record {
  ways = [];
  opened = table_of None setup.tags i;
  tag_lines = table_of None setup.tags i;
  conflicts = table_of false setup.tags i;
  line_tags = table_of None setup.lines i;
  stages = table_of Stage.New setup.lines i;
  busy = table_of false setup.lines i;
  snoops = [];
  writing = none_found (below setup.lines) i;
  streams = table_of (record { begun = 0; waits = false }) (length setup.streams) i;
  req_left = all_left setup.credits i;
  rwd_left = all_left setup.credits i;
  bi_rsp_left = all_left setup.credits i;
  ndr_owed = 0;
  drs_owed = 0;
  bi_snp_owed = 0;
}
