-- Sums over the numbers below one, and over the channels.
use Rattle.std.proofs.Common.{◌≡◌, ℕ, zero, suc, ◌+◌, ◌<◌, ◌≤◌, List, [], ◌∷◌, length, take, get_or, map, refl, ap, sym, ◌∙◌, arith}
use Rattle.std.specs.Prelude.{sum_by}
use Rattle.std.specs.List.{sum}
use Rattle.std.proofs.lemmas.List.Sums.{sum-map, sum_by_more, sum_by_push}
use Rattle.cxl_message.specs.declared.channels.Channel.{Channel}
use Rattle.cxl_message.specs.Lists.{below}
use Rattle.coherence_model.specs.Next.{channels}
use Rattle.link_queues.proofs.Picked.{no_sum, sums_all}
use Rattle.link_queues.proofs.Tables.{below_one_more, same_table}

-- below 0 there is none
pub none_below : (f : ℕ → ℕ) → sum_by f (below 0) ≡ 0
none_below f = refl

-- one number more
pub one_below_more : (f : ℕ → ℕ) (n : ℕ) → sum_by f (below (n + 1)) ≡ sum_by f (below n) + f n
one_below_more f n = ap (sum_by f) (below_one_more n) ∙ sum_by_push f (below n) n

-- sums that agree at each number below one
pub same_below : (f g : ℕ → ℕ) (n : ℕ) → ((j : ℕ) → j < n → f j ≡ g j) → sum_by f (below n) ≡ sum_by g (below n)
same_below f g n same = sym (sum-map f (below n)) ∙ ap sum (same_table f g n same) ∙ sum-map g (below n)

-- before the first channel there is none
pub none_of_channels : (f : Channel → ℕ) → sum_by f (take 0 channels) ≡ 0
none_of_channels f = no_sum f channels

-- one channel more
pub one_channel_more : (f : Channel → ℕ) (i : ℕ) (d : Channel) → i < 8 → sum_by f (take (i + 1) channels) ≡ sum_by f (take i channels) + f (get_or channels i d)
one_channel_more f i d low = let within : i < length channels = omega arith in sum_by_more f channels i d within

-- and all of them
pub all_channels : (f : Channel → ℕ) (i : ℕ) → 8 ≤ i → sum_by f (take i channels) ≡ sum_by f channels
all_channels f i h = let all : length channels ≤ i = omega arith in sums_all f channels i all
