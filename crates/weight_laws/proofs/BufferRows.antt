-- What each row of the device does to the buffers of the host that it is for, and of the others.
use Rattle.std.proofs.Common.{◌≡◌, ℕ, suc, ◌+◌, ◌-◌, ◌*◌, ◌≤◌, Bool, true, false, List, [], ◌∷◌, Option, Some, None, cond, count_by, length, sum_by, refl, sym, ◌∙◌, ap, subst, arith}
use Rattle.std.specs.Prelude.{filter, ◌&&◌, ◌==◌}
use Rattle.std.specs.Option.{option_len}
use Rattle.std.proofs.lemmas.Bool.{and_from, and_parts, eq-eqb, eqb-true, false≢true}
use Rattle.std.proofs.lemmas.List.Sums.{sum_by-append, sum_by-cons}
use lib.ListN.{length-append}
use Rattle.cxl_message.specs.declared.channels.Channel.{Channel}
use Rattle.cxl_message.specs.declared.events.Act.{Act}
use Rattle.cxl_message.specs.declared.events.Cause.{Cause}
use Rattle.cxl_message.specs.declared.events.Event.{Event}
use Rattle.cxl_message.specs.declared.events.Out.{Out}
use Rattle.cxl_message.specs.declared.events.Sends.{Sends}
use Rattle.cxl_message.specs.declared.identifiers.Line.{Line}
use Rattle.cxl_message.specs.declared.identifiers.Tag.{Tag}
use Rattle.cxl_message.specs.declared.messages.Message.{Message}
use Rattle.cxl_message.specs.Channels.{credit_channel}
use Rattle.cxl_message.specs.Codes.{channel_eq}
use Rattle.cxl_message.specs.Messages.{channel_of, has_tag, message_eq}
use Rattle.cxl_message.specs.Setup.{Configuration}
use Rattle.coherence_model.specs.Buffers.{buffered_requests, buffered_writes, message_with, tag_for, without_tag, without_used}
use Rattle.coherence_model.specs.Copies.{asks_for_grant}
use Rattle.coherence_model.specs.Credits.{is_credit_for}
use Rattle.coherence_model.specs.DeviceActs.{device_returns}
use Rattle.coherence_model.specs.DirectoryChanges.{directory}
use Rattle.coherence_model.specs.Room.{Room, evicts_for, is_for, is_no_eviction, request_room, room_after_finish}
use Rattle.coherence_model.specs.Tasks.{Task}
use Rattle.coherence_model.specs.Weight.{room_weight}
use Rattle.coherence_model.specs.Words.{with_last}
use Rattle.entry_laws.proofs.Buffered.{credit_is_no_request, credit_is_no_write}
use Rattle.entry_laws.proofs.DeviceRows.{FoundRequest}
use Rattle.weight_laws.proofs.BufferWeights.{HostPart, asking_weight, clean_weight, length_taken, messages_less, messages_taken, quiet_part, room_full, room_least, rooms, weigh, weigh_less}
use Rattle.weight_laws.proofs.Held.{device_returns_now}

-- ---- takes

-- the part of a take, by the host's test and those of the three channels
abbrev TakePart : ℕ → (ℕ → Room) → (rs ws : List Message) → Message → (b q r s : Bool) → (ret x y : ℕ) → Type 0
TakePart hosts room rs ws m b q r s ret x y =
    4 * length (with_last (cond (b && r) (Some m) None) ws) + sum_by (weigh hosts room) (with_last (cond (b && q) (Some m) None) rs) + 2 * length rs
    + 2 * (option_len (cond (b && q) (Some m) None) + option_len (cond (b && r) (Some m) None) + option_len (cond (b && s) (Some m) None)) + x
    ≤ 4 * length ws + sum_by (weigh hosts room) rs + 2 * length (with_last (cond (b && q) (Some m) None) rs) + 2 * ret + y

request_part : (hosts : ℕ) (room : ℕ → Room) (rs ws : List Message) (m : Message) (ret : ℕ) → TakePart hosts room rs ws m true true false false ret 0 (weigh hosts room m)
request_part hosts room rs ws m ret =
    let whole = sum_by-append (weigh hosts room) rs (m ∷ []) in
    let one = sum_by-cons (weigh hosts room) m [] in
    let long = length-append rs (m ∷ []) in
    omega arith

write_part : (hosts : ℕ) (room : ℕ → Room) (rs ws : List Message) (m : Message) (ret : ℕ) → TakePart hosts room rs ws m true false true false ret 0 6
write_part hosts room rs ws m ret = let long = length-append ws (m ∷ []) in omega arith

answer_part : (hosts : ℕ) (room : ℕ → Room) (rs ws : List Message) (m : Message) (ret : ℕ) → TakePart hosts room rs ws m true false false true ret 0 2
answer_part hosts room rs ws m ret = omega arith

no_part : (hosts : ℕ) (room : ℕ → Room) (rs ws : List Message) (m : Message) (b : Bool) (ret : ℕ) → TakePart hosts room rs ws m b false false false ret 0 0
no_part hosts room rs ws m true ret = omega arith
no_part hosts room rs ws m false ret = omega arith

elsewhere_part : (hosts : ℕ) (room : ℕ → Room) (rs ws : List Message) (m : Message) (q r s : Bool) (ret : ℕ) → TakePart hosts room rs ws m false q r s ret 0 0
elsewhere_part hosts room rs ws m q r s ret = omega arith

credit_is_no_answer : (c : Channel) → channel_eq (credit_channel c) Channel.BiRsp ≡ false
credit_is_no_answer Channel.Req = refl
credit_is_no_answer Channel.Rwd = refl
credit_is_no_answer Channel.BiRsp = refl
credit_is_no_answer Channel.Ndr = refl
credit_is_no_answer Channel.Drs = refl
credit_is_no_answer Channel.BiSnp = refl
credit_is_no_answer Channel.CreditUp = refl
credit_is_no_answer Channel.CreditDown = refl

module _ (setup : Configuration) (mine : List Event) (sends : Sends) where
  -- a take from another host
  pub take_elsewhere : (g k : ℕ) (m : Message) → (k == g) ≡ false → HostPart setup g (Cause.Take k m) sends mine 0 0
  take_elsewhere g k m other =
      subst (λ b. TakePart setup.hosts (rooms setup g mine) (buffered_requests g mine) (buffered_writes g mine) m b (channel_eq (channel_of m) Channel.Req) (channel_eq (channel_of m) Channel.Rwd) (channel_eq (channel_of m) Channel.BiRsp) (device_returns_now g sends) 0 0) (sym other)
      (elsewhere_part setup.hosts (rooms setup g mine) (buffered_requests g mine) (buffered_writes g mine) m (channel_eq (channel_of m) Channel.Req) (channel_eq (channel_of m) Channel.Rwd) (channel_eq (channel_of m) Channel.BiRsp) (device_returns_now g sends))

  own_take : (k : ℕ) (m : Message) (q r s : Bool) (x y : ℕ) → channel_eq (channel_of m) Channel.Req ≡ q → channel_eq (channel_of m) Channel.Rwd ≡ r → channel_eq (channel_of m) Channel.BiRsp ≡ s
      → TakePart setup.hosts (rooms setup k mine) (buffered_requests k mine) (buffered_writes k mine) m true q r s (device_returns_now k sends) x y → HostPart setup k (Cause.Take k m) sends mine x y
  own_take k m q r s x y eq er es part =
      subst (λ b. TakePart setup.hosts (rooms setup k mine) (buffered_requests k mine) (buffered_writes k mine) m b (channel_eq (channel_of m) Channel.Req) (channel_eq (channel_of m) Channel.Rwd) (channel_eq (channel_of m) Channel.BiRsp) (device_returns_now k sends) x y) (sym (eq-eqb k k refl))
      (subst (λ z. TakePart setup.hosts (rooms setup k mine) (buffered_requests k mine) (buffered_writes k mine) m true z (channel_eq (channel_of m) Channel.Rwd) (channel_eq (channel_of m) Channel.BiRsp) (device_returns_now k sends) x y) (sym eq)
      (subst (λ z. TakePart setup.hosts (rooms setup k mine) (buffered_requests k mine) (buffered_writes k mine) m true q z (channel_eq (channel_of m) Channel.BiRsp) (device_returns_now k sends) x y) (sym er)
      (subst (λ z. TakePart setup.hosts (rooms setup k mine) (buffered_requests k mine) (buffered_writes k mine) m true q r z (device_returns_now k sends) x y) (sym es) part)))

  pub take_request : (k : ℕ) (m : Message) → channel_of m ≡ Channel.Req → HostPart setup k (Cause.Take k m) sends mine 0 (weigh setup.hosts (rooms setup k mine) m)
  take_request k m on =
      own_take k m true false false 0 (weigh setup.hosts (rooms setup k mine) m) (ap (λ c. channel_eq c Channel.Req) on) (ap (λ c. channel_eq c Channel.Rwd) on) (ap (λ c. channel_eq c Channel.BiRsp) on)
      (request_part setup.hosts (rooms setup k mine) (buffered_requests k mine) (buffered_writes k mine) m (device_returns_now k sends))

  pub take_write : (k : ℕ) (m : Message) → channel_of m ≡ Channel.Rwd → HostPart setup k (Cause.Take k m) sends mine 0 6
  take_write k m on =
      own_take k m false true false 0 6 (ap (λ c. channel_eq c Channel.Req) on) (ap (λ c. channel_eq c Channel.Rwd) on) (ap (λ c. channel_eq c Channel.BiRsp) on)
      (write_part setup.hosts (rooms setup k mine) (buffered_requests k mine) (buffered_writes k mine) m (device_returns_now k sends))

  pub take_answer : (k : ℕ) (m : Message) → channel_of m ≡ Channel.BiRsp → HostPart setup k (Cause.Take k m) sends mine 0 2
  take_answer k m on =
      own_take k m false false true 0 2 (ap (λ c. channel_eq c Channel.Req) on) (ap (λ c. channel_eq c Channel.Rwd) on) (ap (λ c. channel_eq c Channel.BiRsp) on)
      (answer_part setup.hosts (rooms setup k mine) (buffered_requests k mine) (buffered_writes k mine) m (device_returns_now k sends))

  pub take_credit : (k : ℕ) (c : Channel) → HostPart setup k (Cause.Take k (Message.Credit c)) sends mine 0 0
  take_credit k c =
      own_take k (Message.Credit c) false false false 0 0 (credit_is_no_request c) (credit_is_no_write c) (credit_is_no_answer c)
      (no_part setup.hosts (rooms setup k mine) (buffered_requests k mine) (buffered_writes k mine) (Message.Credit c) true (device_returns_now k sends))

  -- ---- acts

  unused_elsewhere : (g k : ℕ) (tag : Tag) (ms : List Message) → (k == g) ≡ false → without_used (tag_for g k tag) ms ≡ ms
  unused_elsewhere g k tag ms other = ap (λ b. without_used (cond b (Some tag.0) None) ms) other

  used_here : (k : ℕ) (tag : Tag) (ms : List Message) → without_used (tag_for k k tag) ms ≡ without_tag tag.0 ms
  used_here k tag ms = ap (λ b. without_used (cond b (Some tag.0) None) ms) (eq-eqb k k refl)

  -- Serve
  pub serve_elsewhere : (g k : ℕ) (tag : Tag) → (k == g) ≡ false → HostPart setup g (Cause.Act (Act.Serve k tag)) sends mine 0 0
  serve_elsewhere g k tag other = quiet_part setup g (Cause.Act (Act.Serve k tag)) sends mine refl (unused_elsewhere g k tag (buffered_writes g mine) other) refl (λ t. omega arith)

  pub serve_here : (k : ℕ) (tag : Tag) (m : Message) → message_with tag.0 (buffered_writes k mine) ≡ Some m → HostPart setup k (Cause.Act (Act.Serve k tag)) sends mine 4 0
  serve_here k tag m found =
      let gone = length_taken tag.0 m (buffered_writes k mine) found in
      let left : length (without_used (tag_for k k tag) (buffered_writes k mine)) ≡ length (without_tag tag.0 (buffered_writes k mine)) = ap length (used_here k tag (buffered_writes k mine)) in
      sums _ _ _ _ _ _ left gone
    where
      sums : (lw' l lw r len c : ℕ) → lw' ≡ l → suc l ≡ lw → 4 * lw' + r + 2 * len + 2 * (0 + 0 + 0) + 4 ≤ 4 * lw + r + 2 * len + 2 * c + 0
      sums lw' l lw r len c a b = omega arith

  -- Clean
  pub clean_elsewhere : (g k : ℕ) (tag : Tag) → (k == g) ≡ false → HostPart setup g (Cause.Act (Act.Clean k tag)) sends mine 0 0
  clean_elsewhere g k tag other = quiet_part setup g (Cause.Act (Act.Clean k tag)) sends mine (unused_elsewhere g k tag (buffered_requests g mine) other) refl refl (λ t. omega arith)

  abbrev message : (k tag : ℕ) → FoundRequest tag (buffered_requests k mine) → Message
  message k tag r = Message.Req r.op r.meta r.snp r.own_tag r.line

  pub clean_here : (k : ℕ) (tag : Tag) (r : FoundRequest tag.0 (buffered_requests k mine)) → asks_for_grant r.op ≡ false → count_by (has_tag tag.0) (buffered_requests k mine) ≤ 1 → HostPart setup k (Cause.Act (Act.Clean k tag)) sends mine 4 0
  clean_here k tag r asks few =
      let gone = length_taken tag.0 (message k tag.0 r) (buffered_requests k mine) r.found in
      let left : length (without_used (tag_for k k tag) (buffered_requests k mine)) ≡ length (without_tag tag.0 (buffered_requests k mine)) = ap length (used_here k tag (buffered_requests k mine)) in
      let new = ap (sum_by (weigh setup.hosts (rooms setup k mine))) (used_here k tag (buffered_requests k mine)) in
      let less = messages_taken (weigh setup.hosts (rooms setup k mine)) (weigh setup.hosts (rooms setup k mine)) tag.0 (message k tag.0 r) (buffered_requests k mine) (λ n other. omega arith) few r.found in
      let six = clean_weight setup.hosts (request_room setup k r.own_tag.0 mine) r.op asks in
      sums _ _ _ _ _ _ _ _ _ left gone new less six
    where
      sums : (len' l len r' r'' r lw c w : ℕ) → len' ≡ l → suc l ≡ len → r' ≡ r'' → r'' + w ≤ r → w ≡ 6 → 4 * lw + r' + 2 * len + 2 * (0 + 0 + 0) + 4 ≤ 4 * lw + r + 2 * len' + 2 * c + 0
      sums len' l len r' r'' r lw c w a b d e f = omega arith

  -- Start
  rooms_elsewhere : (g k t : ℕ) (tag : Tag) (new : Room) → (k == g) ≡ false → cond (is_for g t k tag) new (request_room setup g t mine) ≡ request_room setup g t mine
  rooms_elsewhere g k t tag new other = ap (λ b. cond (b && (tag.0 == t)) new (request_room setup g t mine)) other

  same_weight : (hosts : ℕ) (r s : Room) → r ≡ s → room_weight hosts r ≤ room_weight hosts s
  same_weight hosts r s same = subst (λ x. room_weight hosts r ≤ room_weight hosts x) same (omega arith)

  pub start_elsewhere : (g k : ℕ) (tag : Tag) → (k == g) ≡ false → HostPart setup g (Cause.Act (Act.Start k tag)) sends mine 0 0
  start_elsewhere g k tag other =
      quiet_part setup g (Cause.Act (Act.Start k tag)) sends mine (unused_elsewhere g k tag (buffered_requests g mine) other) refl refl
      (λ t. same_weight setup.hosts _ _ (rooms_elsewhere g k t tag Room.NoEviction other))

  abbrev started : ℕ → Tag → ℕ → Room
  started k tag t = cond (is_for k t k tag) Room.NoEviction (request_room setup k t mine)

  pub start_here : 1 ≤ setup.hosts → (k : ℕ) (tag : Tag) (r : FoundRequest tag.0 (buffered_requests k mine)) → asks_for_grant r.op ≡ true → count_by (has_tag tag.0) (buffered_requests k mine) ≤ 1 → HostPart setup k (Cause.Act (Act.Start k tag)) sends mine (24 * setup.hosts - 16) 0
  start_here some k tag r asks few =
      let gone = length_taken tag.0 (message k tag.0 r) (buffered_requests k mine) r.found in
      let left : length (without_used (tag_for k k tag) (buffered_requests k mine)) ≡ length (without_tag tag.0 (buffered_requests k mine)) = ap length (used_here k tag (buffered_requests k mine)) in
      let new = ap (sum_by (weigh setup.hosts (started k tag))) (used_here k tag (buffered_requests k mine)) in
      let less = messages_taken (weigh setup.hosts (started k tag)) (weigh setup.hosts (rooms setup k mine)) tag.0 (message k tag.0 r) (buffered_requests k mine)
      (λ n other. weigh_less setup.hosts (started k tag) (rooms setup k mine) n (λ t is. same_weight setup.hosts _ _ (other_tag n t other is (is_for k t k tag) refl))) few r.found in
      let weight = asking_weight setup.hosts (request_room setup k r.own_tag.0 mine) r.op asks in
      let least = room_least setup.hosts (request_room setup k r.own_tag.0 mine) in
      sums setup.hosts _ _ _ _ _ _ _ _ _ _ some left gone new less weight least
    where
      other_tag : (n : Message) (t : ℕ) → has_tag tag.0 n ≡ false → has_tag t n ≡ true → (b : Bool) → is_for k t k tag ≡ b → cond b Room.NoEviction (request_room setup k t mine) ≡ request_room setup k t mine
      other_tag n t other is true same = absurd (false≢true (sym other ∙ ap (λ u. has_tag u n) (eqb-true tag.0 t (and_parts (k == k) (tag.0 == t) same).1) ∙ is))
      other_tag n t other is false same = refl

      sums : (hosts len' l len r' r'' r lw c w v : ℕ) → 1 ≤ hosts → len' ≡ l → suc l ≡ len → r' ≡ r'' → r'' + w ≤ r → w ≡ v → 24 * hosts - 14 ≤ v → 4 * lw + r' + 2 * len + 2 * (0 + 0 + 0) + (24 * hosts - 16) ≤ 4 * lw + r + 2 * len' + 2 * c + 0
      sums hosts len' l len r' r'' r lw c w v n a b d e f g = omega arith

  -- Evict
  pub evict_elsewhere : (g k : ℕ) (tag : Tag) → (k == g) ≡ false → HostPart setup g (Cause.Act (Act.Evict k tag)) sends mine 0 0
  evict_elsewhere g k tag other = quiet_part setup g (Cause.Act (Act.Evict k tag)) sends mine refl refl refl (λ t. same_weight setup.hosts _ _ (rooms_elsewhere g k t tag Room.EvictionInProgress other))

  abbrev evicting : ℕ → Tag → ℕ → Room
  evicting k tag t = cond (is_for k t k tag) Room.EvictionInProgress (request_room setup k t mine)

  pub evict_here : 1 ≤ setup.hosts → (k : ℕ) (tag : Tag) (r : FoundRequest tag.0 (buffered_requests k mine)) → asks_for_grant r.op ≡ true → is_no_eviction (request_room setup k tag.0 mine) ≡ true → HostPart setup k (Cause.Act (Act.Evict k tag)) sends mine (84 * setup.hosts + 2) 0
  evict_here some k tag r asks free =
      let less = messages_less (weigh setup.hosts (evicting k tag)) (weigh setup.hosts (rooms setup k mine)) tag.0 (84 * setup.hosts + 2) (message k tag.0 r) (buffered_requests k mine)
      (λ n. weigh_less setup.hosts (evicting k tag) (rooms setup k mine) n (λ t is. lower t (is_for k t k tag) refl)) at_found r.found in
      sums _ _ _ _ _ _ less
    where
      lower : (t : ℕ) (b : Bool) → is_for k t k tag ≡ b → room_weight setup.hosts (cond b Room.EvictionInProgress (request_room setup k t mine)) ≤ room_weight setup.hosts (request_room setup k t mine)
      lower t true same = room_least setup.hosts (request_room setup k t mine)
      lower t false same = omega arith

      at_found : weigh setup.hosts (evicting k tag) (message k tag.0 r) + (84 * setup.hosts + 2) ≤ weigh setup.hosts (rooms setup k mine) (message k tag.0 r)
      at_found =
          let old = asking_weight setup.hosts (request_room setup k r.own_tag.0 mine) r.op asks in
          let new = asking_weight setup.hosts (evicting k tag r.own_tag.0) r.op asks in
          let full = room_full setup.hosts (request_room setup k r.own_tag.0 mine) (subst (λ u. is_no_eviction (request_room setup k u mine) ≡ true) (sym r.same) free) in
          let mine_is : evicting k tag r.own_tag.0 ≡ Room.EvictionInProgress = ap (λ b. cond b Room.EvictionInProgress (request_room setup k r.own_tag.0 mine)) (and_from (k == k) (tag.0 == r.own_tag.0) (eq-eqb k k refl) (eq-eqb tag.0 r.own_tag.0 (sym r.same))) in
          let lowered : room_weight setup.hosts (evicting k tag r.own_tag.0) ≡ 24 * setup.hosts - 14 = ap (room_weight setup.hosts) mine_is in
          found_sums setup.hosts _ _ _ _ some old new full lowered
        where
          found_sums : (hosts wo wn ro rn : ℕ) → 1 ≤ hosts → wo ≡ ro → wn ≡ rn → ro ≡ 108 * hosts - 12 → rn ≡ 24 * hosts - 14 → wn + (84 * hosts + 2) ≤ wo
          found_sums hosts wo wn ro rn n a b c d = omega arith

      sums : (lw r' len d r c : ℕ) → r' + d ≤ r → 4 * lw + r' + 2 * len + 2 * (0 + 0 + 0) + d ≤ 4 * lw + r + 2 * len + 2 * c + 0
      sums lw r' len d r c h = omega arith

  -- Snoop, Finish and the returns
  pub snoop_part : (g k : ℕ) (line : Line) → HostPart setup g (Cause.Act (Act.Snoop k line)) sends mine 0 0
  snoop_part g k line = quiet_part setup g (Cause.Act (Act.Snoop k line)) sends mine refl refl refl (λ t. omega arith)

  pub finish_part : (g : ℕ) (line : Line) → HostPart setup g (Cause.Act (Act.Finish line)) sends mine 0 0
  finish_part g line = quiet_part setup g (Cause.Act (Act.Finish line)) sends mine refl refl refl (λ t. finished t ((directory setup mine).task line.0))
    where
      finished_if : (b : Bool) (r : Room) → room_weight setup.hosts (cond b Room.Reservation r) ≤ room_weight setup.hosts r
      finished_if true r = room_least setup.hosts r
      finished_if false r = omega arith

      finished : (t : ℕ) (found : Option Task) → room_weight setup.hosts (room_after_finish g t found (request_room setup g t mine)) ≤ room_weight setup.hosts (request_room setup g t mine)
      finished t None = omega arith
      finished t (Some task) = finished_if (evicts_for g t task) (request_room setup g t mine)

  pub return_elsewhere : (g k : ℕ) (c : Channel) → HostPart setup g (Cause.Act (Act.DeviceReturn k c)) sends mine 0 0
  return_elsewhere g k c = quiet_part setup g (Cause.Act (Act.DeviceReturn k c)) sends mine refl refl refl (λ t. omega arith)

  pub return_here : (k : ℕ) (c : Channel) → 1 ≤ device_returns_now k sends → HostPart setup k (Cause.Act (Act.DeviceReturn k c)) sends mine 2 0
  return_here k c some = sums _ _ _ _ some
    where
      sums : (lw r len ret : ℕ) → 1 ≤ ret → 4 * lw + r + 2 * len + 2 * (0 + 0 + 0) + 2 ≤ 4 * lw + r + 2 * len + 2 * ret + 0
      sums lw r len ret some = omega arith

-- a Credit that is sent is given back
credit_returned : (h : ℕ) (c : Channel) → message_eq (Message.Credit c) (Message.Credit c) ≡ true → length {A = Out} (filter (is_credit_for h c) (record { host = h; message = Message.Credit c } ∷ [])) ≡ 1
credit_returned h c same = ap (λ b. length {A = Out} (cond b (record { host = h; message = Message.Credit c } ∷ []) [])) (and_from (h == h) (message_eq (Message.Credit c) (Message.Credit c)) (eq-eqb h h refl) same)

pub some_returned : (h : ℕ) (c : Channel) → device_returns c ≡ true → 1 ≤ device_returns_now h (Sends.One (record { host = h; message = Message.Credit c }))
some_returned h Channel.Req is = let one = credit_returned h Channel.Req refl in omega arith
some_returned h Channel.Rwd is = let one = credit_returned h Channel.Rwd refl in omega arith
some_returned h Channel.BiRsp is = let one = credit_returned h Channel.BiRsp refl in omega arith
some_returned h Channel.Ndr is = absurd (false≢true is)
some_returned h Channel.Drs is = absurd (false≢true is)
some_returned h Channel.BiSnp is = absurd (false≢true is)
some_returned h Channel.CreditUp is = absurd (false≢true is)
some_returned h Channel.CreditDown is = absurd (false≢true is)
