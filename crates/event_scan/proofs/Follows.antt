-- A reader and the parts that it reads: it waits for more as long as one of them is to come.
use Rattle.std.proofs.Common.{◌≡◌, ℕ, zero, suc, ◌+◌, ◌-◌, ◌<◌, ◌≤◌, List, [], ◌∷◌, ◌++◌, length, take, drop, Option, Some, None, Ok, Err, refl, sym, ap, subst, ◌∙◌, append_assoc, arith, inl, inr, ◌⊎◌}
use Rattle.std.proofs.lemmas.List.{append-nil, length-take, take-append-drop}
use Rattle.std.proofs.lemmas.Bool.{cases_lt, lt-ltb, le-ltb}
use Rattle.cxl_codec.specs.declared.faults.Fault.{Fault}
use Rattle.event_scan.specs.declared.scans.Part.{Part}
use Rattle.cxl_codec.specs.Reading.{Read, ◌>>=◌, one, block_at}
use Rattle.event_scan.specs.Scanning.{after_byte, scan}
use Rattle.cxl_codec.proofs.Parts.{block_again}
use Rattle.event_scan.proofs.Scanning.{no_more, scan_step, scan_stop, scan_nil, known, scan_append, scan_more, scan_front}

-- these parts take the front of some bytes whole, and leave the rest
pub record TakesFront (parts : List Part) (bytes rest : List ℕ) : Type 0 where
  pub front : List ℕ
  pub whole : bytes ≡ front ++ rest
  pub scanned : scan parts front ≡ Some []

-- the reader waits for more as long as some of these parts are to come, and gives a value just where they take bytes whole
pub record Follows {X : Type 0} (parts : List Part) (reads : List ℕ → Read X) : Type 0 where
  pub short : (bytes : List ℕ) (p : Part) (ps : List Part) → scan parts bytes ≡ Some (p ∷ ps) → reads bytes ≡ Err Fault.Short
  pub whole : (bytes : List ℕ) → scan parts bytes ≡ Some [] → (x : X) × ((rest : List ℕ) → reads (bytes ++ rest) ≡ Ok (x, rest))
  pub taken : (bytes : List ℕ) (x : X) (rest : List ℕ) → reads bytes ≡ Ok (x, rest) → TakesFront parts bytes rest

-- ---- parts one after another

-- the bytes end within the first parts, or the others take what the first ones leave
Splits : (ss ts : List Part) (bytes : List ℕ) (out : List Part) → Type 0
Splits ss ts bytes out =
    ((u : Part) × (us : List Part) × (scan ss bytes ≡ Some (u ∷ us)) × (out ≡ u ∷ (us ++ ts)))
    ⊎ ((front : List ℕ) × (back : List ℕ) × (bytes ≡ front ++ back) × (scan ss front ≡ Some []) × (scan ts back ≡ Some out))

-- bytes of two lists of parts
splits : (ss ts : List Part) (bytes : List ℕ) (out : List Part) → scan (ss ++ ts) bytes ≡ Some out → Splits ss ts bytes out
unfolding Splits
splits [] ts bytes out e = inr ([], bytes, refl, scan_nil [], e)
splits (s ∷ ss) ts [] out e =
    let same : Some (s ∷ (ss ++ ts)) ≡ Some out = sym (scan_nil (s ∷ (ss ++ ts))) ∙ e in
    inl (s, ss, scan_nil (s ∷ ss), cc)
splits (s ∷ ss) ts (b ∷ bytes) out e = elim (known (after_byte s b)) [
  | inl n ↦
      let further : scan ((n.0 ++ ss) ++ ts) bytes ≡ Some out =
      ap (λ (ps : List Part). scan ps bytes) (append_assoc n.0 ss ts) ∙ sym (scan_step s (ss ++ ts) b bytes n.0 n.1) ∙ e in
      elim (splits (n.0 ++ ss) ts bytes out further) [
        | inl p ↦ inl (p.0, p.1, scan_step s ss b bytes n.0 n.1 ∙ p.2, p.3)
        | inr p ↦ inr (b ∷ p.0, p.1, ap (λ (bs : List ℕ). b ∷ bs) p.2, scan_step s ss b (p.0) n.0 n.1 ∙ p.3, p.4)
      ]
  | inr n ↦
      let stop : None ≡ Some out = sym (scan_stop s (ss ++ ts) b bytes n) ∙ e in
      absurd cc
]

-- a read that is followed by another gives a value only where both do
read_both : {A X : Type 0} (read : Read A) (k : A × List ℕ → Read X) (y : X × List ℕ) → (read >>= k) ≡ Ok y → (a : A × List ℕ) × (read ≡ Ok a) × (k a ≡ Ok y)
read_both (Ok a) k y e = (a, refl, e)
read_both (Err fault) k y e = absurd cc

-- one read leaves one rest
same_read : {X : Type 0} (x y : X × List ℕ) → ◌≡◌ {A = Read X} (Ok x) (Ok y) → x.1 ≡ y.1
same_read x y e = let same : x ≡ y = cc in ap (λ z. z.1) same

module _ {A X : Type 0} (ss ts : List Part) (reads : List ℕ → Read A) (k : A × List ℕ → Read X) (first : Follows ss reads) (then : (a : A) → Follows ts (λ bytes. k (a, bytes))) where
  -- more is wanted by the first parts, or by the others
  both_short : (bytes : List ℕ) (p : Part) (ps : List Part) → scan (ss ++ ts) bytes ≡ Some (p ∷ ps) → (reads bytes >>= k) ≡ Err Fault.Short
  unfolding Splits
  both_short bytes p ps e = elim (splits ss ts bytes (p ∷ ps) e) [
    | inl q ↦ rw (first.short bytes q.0 q.1 q.2) refl
    | inr q ↦
        let w = first.whole q.0 q.3 in
        rw (q.2, w.1 q.1) ((then w.0).short q.1 p ps q.4)
  ]

  -- the value of both
  both_whole : (bytes : List ℕ) → scan (ss ++ ts) bytes ≡ Some [] → (x : X) × ((rest : List ℕ) → (reads (bytes ++ rest) >>= k) ≡ Ok (x, rest))
  unfolding Splits
  both_whole bytes e = elim (splits ss ts bytes [] e) [
    | inl q ↦ absurd cc
    | inr q ↦
        let w = first.whole q.0 q.3 in
        let v = (then w.0).whole q.1 q.4 in
        (v.0, λ rest. rw (q.2, append_assoc q.0 q.1 rest, w.1 (q.1 ++ rest)) (v.1 rest))
  ]

  -- the bytes of both
  both_taken : (bytes : List ℕ) (x : X) (rest : List ℕ) → (reads bytes >>= k) ≡ Ok (x, rest) → TakesFront (ss ++ ts) bytes rest
  both_taken bytes x rest e =
      let r = read_both (reads bytes) k (x, rest) e in
      let f = first.taken bytes r.0.0 r.0.1 r.1 in
      let g = (then r.0.0).taken r.0.1 x rest r.2 in
      record {
        front = f.front ++ g.front;
        whole = f.whole ∙ ap (λ (bs : List ℕ). f.front ++ bs) g.whole ∙ sym (append_assoc f.front g.front rest);
        scanned = scan_append (ss ++ ts) ts f.front g.front (scan_more ss ts [] f.front f.scanned) ∙ g.scanned;
      }

  -- two readers, one after the other
  pub follows_then : Follows (ss ++ ts) (λ bytes. reads bytes >>= k)
  follows_then = record { short = both_short; whole = both_whole; taken = both_taken }

-- a reader that reads nothing more
pub follows_done : {X : Type 0} (x : X) → Follows [] (λ bytes. Ok (x, bytes))
follows_done {X} x = record { short = short; whole = whole; taken = taken } where
  short : (bytes : List ℕ) (p : Part) (ps : List Part) → scan [] bytes ≡ Some (p ∷ ps) → ◌≡◌ {A = Read X} (Ok (x, bytes)) (Err Fault.Short)
  short [] p ps e = let none : Some [] ≡ Some (p ∷ ps) = sym (scan_nil []) ∙ e in absurd cc
  short (b ∷ bytes) p ps e = absurd (no_more b bytes (p ∷ ps) e)

  whole : (bytes : List ℕ) → scan [] bytes ≡ Some [] → (y : X) × ((rest : List ℕ) → ◌≡◌ {A = Read X} (Ok (x, bytes ++ rest)) (Ok (y, rest)))
  whole [] e = (x, λ rest. refl)
  whole (b ∷ bytes) e = absurd (no_more b bytes [] e)

  taken : (bytes : List ℕ) (y : X) (rest : List ℕ) → ◌≡◌ {A = Read X} (Ok (x, bytes)) (Ok (y, rest)) → TakesFront [] bytes rest
  taken bytes y rest e = record { front = []; whole = same_read (x, bytes) (y, rest) e; scanned = scan_nil [] }

-- the last parts, and what they make
pub follows_end : {A X : Type 0} (ss : List Part) (reads : List ℕ → Read A) (f : A → X) → Follows ss reads → Follows ss (λ bytes. reads bytes >>= λ a. Ok (f a.0, a.1))
follows_end ss reads f first =
    subst (λ (ps : List Part). Follows ps (λ bytes. reads bytes >>= λ a. Ok (f a.0, a.1))) (append-nil ss) (follows_then ss [] reads (λ a. Ok (f a.0, a.1)) first (λ a. follows_done (f a)))

-- readers that give the same
follows_same : {X : Type 0} (ss : List Part) (r q : List ℕ → Read X) → ((bytes : List ℕ) → q bytes ≡ r bytes) → Follows ss r → Follows ss q
follows_same ss r q same follows = record {
  short = λ bytes p ps e. same bytes ∙ follows.short bytes p ps e;
  whole = λ bytes e. let w = follows.whole bytes e in (w.0, λ rest. same (bytes ++ rest) ∙ w.1 rest);
  taken = λ bytes x rest e. follows.taken bytes x rest (sym (same bytes) ∙ e);
}

-- ---- one byte

-- a table has a value for each byte that the part can have, and for no other
pub record IsTableOf {A : Type 0} (p : Part) (table : ℕ → Option A) (parts : A → List Part) : Type 0 where
  pub value_at : (b : ℕ) (next : List Part) → after_byte p b ≡ Some next → (a : A) × (table b ≡ Some a) × (next ≡ parts a)
  pub parts_at : (b : ℕ) (a : A) → table b ≡ Some a → after_byte p b ≡ Some (parts a)

module _ {A X : Type 0} (p : Part) (fault : ℕ → Fault) (table : ℕ → Option A) (parts : A → List Part) (k : A × List ℕ → Read X) (is_table : IsTableOf p table parts)
    (then : (a : A) → Follows (parts a) (λ bytes. k (a, bytes))) where
  -- what is to come after a byte that the table has
  goes_with : (b : ℕ) (bytes : List ℕ) (out : List Part) → scan (p ∷ []) (b ∷ bytes) ≡ Some out → (a : A) × (table b ≡ Some a) × (scan (parts a) bytes ≡ Some out)
  goes_with b bytes out e = elim (known (after_byte p b)) [
    | inl n ↦
        let a = is_table.value_at b n.0 n.1 in
        (a.0, a.1, ap (λ (ps : List Part). scan ps bytes) (sym (append-nil n.0 ∙ a.2)) ∙ sym (scan_step p [] b bytes n.0 n.1) ∙ e)
    | inr n ↦
        let stop : None ≡ Some out = sym (scan_stop p [] b bytes n) ∙ e in
        absurd cc
  ]

  -- more is wanted
  one_short : (bytes : List ℕ) (q : Part) (qs : List Part) → scan (p ∷ []) bytes ≡ Some (q ∷ qs) → (one fault table bytes >>= k) ≡ Err Fault.Short
  one_short [] q qs e = refl
  one_short (b ∷ bytes) q qs e = let a = goes_with b bytes (q ∷ qs) e in rw a.1 ((then a.0).short bytes q qs a.2)

  -- the value
  one_whole : (bytes : List ℕ) → scan (p ∷ []) bytes ≡ Some [] → (x : X) × ((rest : List ℕ) → (one fault table (bytes ++ rest) >>= k) ≡ Ok (x, rest))
  one_whole [] e = let some : Some (p ∷ []) ≡ Some [] = sym (scan_nil (p ∷ [])) ∙ e in absurd cc
  one_whole (b ∷ bytes) e =
      let a = goes_with b bytes [] e in
      let v = (then a.0).whole bytes a.2 in
      (v.0, λ rest. rw a.1 (v.1 rest))

  -- the bytes that were read
  one_taken : (bytes : List ℕ) (x : X) (rest : List ℕ) → (one fault table bytes >>= k) ≡ Ok (x, rest) → TakesFront (p ∷ []) bytes rest
  one_taken [] x rest e = absurd cc
  one_taken (b ∷ bytes) x rest e = elim (known (table b)) [
    | inl a ↦
        let read : (one fault table (b ∷ bytes) >>= k) ≡ k (a.0, bytes) = rw a.1 refl in
        let f = (then a.0).taken bytes x rest (sym read ∙ e) in
        record {
          front = b ∷ f.front;
          whole = ap (λ (bs : List ℕ). b ∷ bs) f.whole;
          scanned = scan_step p [] b f.front (parts a.0) (is_table.parts_at b a.0 a.1) ∙ ap (λ (ps : List Part). scan ps f.front) (append-nil (parts a.0)) ∙ f.scanned;
        }
    | inr none ↦
        let read : (one fault table (b ∷ bytes) >>= k) ≡ Err (fault (suc (length bytes))) = rw none refl in
        let both : ◌≡◌ {A = Read X} (Err (fault (suc (length bytes)))) (Ok (x, rest)) = sym read ∙ e in
        absurd cc
  ]

  -- a byte of a table, and what follows it
  pub follows_table : Follows (p ∷ []) (λ bytes. one fault table bytes >>= k)
  follows_table = record { short = one_short; whole = one_whole; taken = one_taken }

-- what was read is given as it is
as_it_is : {A : Type 0} (read : Read A) → read ≡ (read >>= λ a. Ok (a.0, a.1))
as_it_is (Ok x) = refl
as_it_is (Err e) = refl

-- a byte of a table alone
pub follows_byte : {A : Type 0} (p : Part) (fault : ℕ → Fault) (table : ℕ → Option A) → IsTableOf p table (λ a. []) → Follows (p ∷ []) (one fault table)
follows_byte {A} p fault table is_table =
    follows_same (p ∷ []) (λ bytes. one fault table bytes >>= λ a. Ok (a.0, a.1)) (one fault table) (λ bytes. as_it_is (one fault table bytes))
    (follows_table p fault table (λ a. []) (λ a. Ok (a.0, a.1)) is_table (λ a. follows_done a))

-- ---- bytes of any value

-- one of several free bytes
free_next : (n b : ℕ) → after_byte (Part.Free (suc (suc n))) b ≡ Some (Part.Free (suc n) ∷ [])
free_next n b =
    let less : suc (suc n) - 1 ≡ suc n = omega arith in
    rw (lt-ltb 1 (suc (suc n)) (omega arith), less) refl

-- as long as a free byte is to come there are fewer, and else as many
Counts : ℕ → List ℕ → List Part → Type 0
Counts n bytes out = ((length bytes < suc n) × ((out ≡ []) → ⊥)) ⊎ ((length bytes ≡ suc n) × (out ≡ []))

-- behind one byte
one_more : (n b : ℕ) (bytes : List ℕ) (out : List Part) → Counts n bytes out → Counts (suc n) (b ∷ bytes) out
unfolding Counts
one_more n b bytes out counts = elim counts [
  | inl c ↦ inl (omega (arith, c.0), c.1)
  | inr c ↦ inr (omega (arith, c.0), c.1)
]

-- so many free bytes
free_counts : (n : ℕ) (bytes : List ℕ) (out : List Part) → scan (Part.Free (suc n) ∷ []) bytes ≡ Some out → Counts n bytes out
unfolding Counts
free_counts n [] out e =
    let same : Some (Part.Free (suc n) ∷ []) ≡ Some out = sym (scan_nil (Part.Free (suc n) ∷ [])) ∙ e in
    inl (omega arith, λ none. let both : Some (Part.Free (suc n) ∷ []) ≡ Some [] = same ∙ ap (λ (ps : List Part). Some ps) none in absurd cc)
free_counts zero (b ∷ []) out e =
    let same : Some [] ≡ Some out = sym (scan_step (Part.Free 1) [] b [] [] refl ∙ scan_nil []) ∙ e in
    inr (refl, cc)
free_counts zero (b ∷ c ∷ bytes) out e = absurd (no_more c bytes out (sym (scan_step (Part.Free 1) [] b (c ∷ bytes) [] refl) ∙ e))
free_counts (suc n) (b ∷ bytes) out e =
    one_more n b bytes out (free_counts n bytes out (sym (scan_step (Part.Free (suc (suc n))) [] b bytes (Part.Free (suc n) ∷ []) (free_next n b)) ∙ e))

module _ (n : ℕ) where
  -- a block that is cut short
  block_short : (bytes : List ℕ) (p : Part) (ps : List Part) → scan (Part.Free (suc n) ∷ []) bytes ≡ Some (p ∷ ps) → block_at (suc n) bytes ≡ Err Fault.Short
  unfolding Counts
  block_short bytes p ps e = elim (free_counts n bytes (p ∷ ps) e) [
    | inl c ↦ rw (lt-ltb (length bytes) (suc n) c.0) refl
    | inr c ↦ absurd cc
  ]

  -- a block that is there
  block_whole : (bytes : List ℕ) → scan (Part.Free (suc n) ∷ []) bytes ≡ Some [] → (x : List ℕ) × ((rest : List ℕ) → block_at (suc n) (bytes ++ rest) ≡ Ok (x, rest))
  unfolding Counts
  block_whole bytes e = elim (free_counts n bytes [] e) [
    | inl c ↦ absurd (c.1 refl)
    | inr c ↦ (bytes, λ rest. block_again (suc n) bytes c.0 rest)
  ]

  -- the bytes of a block
  block_taken : (bytes : List ℕ) (x : List ℕ) (rest : List ℕ) → block_at (suc n) bytes ≡ Ok (x, rest) → TakesFront (Part.Free (suc n) ∷ []) bytes rest
  block_taken bytes x rest e = elim (cases_lt (length bytes) (suc n)) [
    | inl lt ↦
        let none : block_at (suc n) bytes ≡ Err Fault.Short = rw (lt-ltb (length bytes) (suc n) lt) refl in
        let both : ◌≡◌ {A = Read (List ℕ)} (Err Fault.Short) (Ok (x, rest)) = sym none ∙ e in
        absurd cc
    | inr ge ↦
        let there : block_at (suc n) bytes ≡ Ok (take (suc n) bytes, drop (suc n) bytes) = rw (le-ltb (length bytes) (suc n) ge) refl in
        record {
          front = take (suc n) bytes;
          whole = sym (take-append-drop (suc n) bytes) ∙ ap (λ (bs : List ℕ). take (suc n) bytes ++ bs) (same_read (take (suc n) bytes, drop (suc n) bytes) (x, rest) (sym there ∙ e));
          scanned = scan_front (suc n) [] (take (suc n) bytes) (omega (arith, length-take (suc n) bytes));
        }
  ]

  -- so many bytes of any value
  pub follows_block : Follows (Part.Free (suc n) ∷ []) (block_at (suc n))
  follows_block = record { short = block_short; whole = block_whole; taken = block_taken }

-- ---- two blocks in one

-- after these bytes both lists wait for more
record BothWait (parts others : List Part) (bytes : List ℕ) : Type 0 where
  first : Part
  more : List Part
  scanned : scan parts bytes ≡ Some (first ∷ more)
  other : Part
  others_more : List Part
  others_scanned : scan others bytes ≡ Some (other ∷ others_more)

-- both lists wait for more, or the same is to come of both
Alike : (parts others : List Part) (bytes : List ℕ) → Type 0
Alike parts others bytes = (scan parts bytes ≡ scan others bytes) ⊎ BothWait parts others bytes

-- behind one byte
alike_step : (p q : Part) (ps qs next then : List Part) (b : ℕ) (bytes : List ℕ) → after_byte p b ≡ Some next → after_byte q b ≡ Some then → Alike (next ++ ps) (then ++ qs) bytes → Alike (p ∷ ps) (q ∷ qs) (b ∷ bytes)
unfolding Alike
alike_step p q ps qs next then b bytes e f alike =
    let one = scan_step p ps b bytes next e in
    let two = scan_step q qs b bytes then f in
    elim alike [
      | inl same ↦ inl (one ∙ same ∙ sym two)
      | inr both ↦ inr (record { first = both.first; more = both.more; scanned = one ∙ both.scanned; other = both.other; others_more = both.others_more; others_scanned = two ∙ both.others_scanned })
    ]

-- what is to come of two blocks is as what is to come of one
joined : (m n : ℕ) (ss : List Part) (bytes : List ℕ) → 1 ≤ m → 1 ≤ n → Alike (Part.Free (m + n) ∷ ss) (Part.Free m ∷ Part.Free n ∷ ss) bytes
unfolding Alike
joined m n ss [] some more = inr (record {
  first = Part.Free (m + n);
  more = ss;
  scanned = scan_nil (Part.Free (m + n) ∷ ss);
  other = Part.Free m;
  others_more = Part.Free n ∷ ss;
  others_scanned = scan_nil (Part.Free m ∷ Part.Free n ∷ ss);
})
joined zero n ss (b ∷ bytes) some more = absurd (omega arith)
joined (suc zero) n ss (b ∷ bytes) some more =
    let less : suc zero + n - 1 ≡ n = omega arith in
    let one : after_byte (Part.Free (suc zero + n)) b ≡ Some (Part.Free n ∷ []) = rw (lt-ltb 1 (suc zero + n) (omega arith), less) refl in
    alike_step (Part.Free (suc zero + n)) (Part.Free 1) ss (Part.Free n ∷ ss) (Part.Free n ∷ []) [] b bytes one refl (inl refl)
joined (suc (suc m)) n ss (b ∷ bytes) some more =
    let less : suc (suc m) + n - 1 ≡ suc m + n = omega arith in
    let one : after_byte (Part.Free (suc (suc m) + n)) b ≡ Some (Part.Free (suc m + n) ∷ []) = rw (lt-ltb 1 (suc (suc m) + n) (omega arith), less) refl in
    alike_step (Part.Free (suc (suc m) + n)) (Part.Free (suc (suc m))) ss (Part.Free n ∷ ss) (Part.Free (suc m + n) ∷ []) (Part.Free (suc m) ∷ []) b bytes one (free_next m b) (joined (suc m) n ss bytes (omega arith) more)

-- a reader of two blocks follows them as one
pub follows_joined : {X : Type 0} (m n : ℕ) (ss : List Part) (reads : List ℕ → Read X) → 1 ≤ m → 1 ≤ n → Follows (Part.Free m ∷ Part.Free n ∷ ss) reads → Follows (Part.Free (m + n) ∷ ss) reads
unfolding Alike
follows_joined {X} m n ss reads some more follows = record { short = short; whole = whole; taken = taken } where
  short : (bytes : List ℕ) (p : Part) (ps : List Part) → scan (Part.Free (m + n) ∷ ss) bytes ≡ Some (p ∷ ps) → reads bytes ≡ Err Fault.Short
  short bytes p ps e = elim (joined m n ss bytes some more) [
    | inl same ↦ follows.short bytes p ps (sym same ∙ e)
    | inr both ↦ follows.short bytes both.other both.others_more both.others_scanned
  ]

  whole : (bytes : List ℕ) → scan (Part.Free (m + n) ∷ ss) bytes ≡ Some [] → (x : X) × ((rest : List ℕ) → reads (bytes ++ rest) ≡ Ok (x, rest))
  whole bytes e = elim (joined m n ss bytes some more) [
    | inl same ↦ follows.whole bytes (sym same ∙ e)
    | inr both ↦
        let none : Some (both.first ∷ both.more) ≡ Some [] = sym both.scanned ∙ e in
        absurd cc
  ]

  taken : (bytes : List ℕ) (x : X) (rest : List ℕ) → reads bytes ≡ Ok (x, rest) → TakesFront (Part.Free (m + n) ∷ ss) bytes rest
  taken bytes x rest e =
      let f = follows.taken bytes x rest e in
      elim (joined m n ss f.front some more) [
        | inl same ↦ record { front = f.front; whole = f.whole; scanned = same ∙ f.scanned }
        | inr both ↦
            let none : Some (both.other ∷ both.others_more) ≡ Some [] = sym both.others_scanned ∙ f.scanned in
            absurd cc
      ]
