-- Bytes have one list of items.
use Rattle.std.proofs.Common.{◌≡◌, ℕ, List, [], ◌∷◌, ◌++◌, length, drop, Option, None, Result, Ok, Err, refl, sym, ap, subst, ◌∙◌, append_assoc, inl, inr}
use Rattle.std.specs.Option.{option_map_or}
use Rattle.std.proofs.lemmas.List.{take_at, drop_at, length-map}
use Rattle.cxl_codec.specs.Cells.{Cell}
use Rattle.trace_stream.specs.declared.items.Item.{Item}
use Rattle.trace_stream.specs.declared.items.Reason.{Reason}
use Rattle.trace_stream.specs.declared.items.TraceFault.{TraceFault}
use Rattle.trace_stream.specs.declared.stages.Stage.{Stage}
use Rattle.trace_stream.specs.Items.{cells_at, item_length, advance, record_fault, fault_at, Allows, ReadsAs, Says}
use Rattle.trace_stream.specs.Runs.{bytes_from, item_bytes, items_bytes, stage_after, Follow, IsRead, Fails, HasFault}
use Rattle.trace_stream.specs.Laws.{OneReading, OneList, OneFault}
use Rattle.trace_stream.proofs.Extending.{StandsAt}

-- an item that may come stands at the front of its bytes and others
stands_front : (stage : Stage) (item : Item) (more : List ℕ) → Allows stage item → record_fault stage item ≡ None → StandsAt stage (item_bytes stage item ++ more) item
stands_front stage item more allowed right = record {
  begins = record { fits = allowed; spelled = take_at (item_bytes stage item) more (item_length stage item) (length-map (cells_at stage item) (λ (c : Cell). c.byte)); whole = refl };
  right = right;
}

-- what a whole record comes to
abbrev told : ℕ → Item → Option Reason → Result Item TraceFault
told place item fault = option_map_or (λ reason. Err (fault_at place reason)) fault (Ok item)

-- what stands there is said
reads_item : (stage : Stage) (place : ℕ) (bytes : List ℕ) (item : Item) → StandsAt stage bytes item → ReadsAs stage place bytes (Ok item)
reads_item stage place bytes item o = record {
  answer = Ok (item, item_length stage item);
  answered = o.begins;
  comes_to = ap (told place item) (sym o.right);
}

says_item : (stage : Stage) (place : ℕ) (bytes : List ℕ) (item : Item) → StandsAt stage bytes item → Says stage place bytes (Ok item)
says_item Stage.Start place bytes item o = reads_item Stage.Start place bytes item o
says_item (Stage.Names streams lines next) place bytes item o = reads_item (Stage.Names streams lines next) place bytes item o
says_item (Stage.Openings version lines next) place bytes item o = reads_item (Stage.Openings version lines next) place bytes item o
says_item (Stage.Events version count) place bytes item o = reads_item (Stage.Events version count) place bytes item o
says_item (Stage.Ended count) place bytes item o = absurd o.begins.fits

-- More is no record
more_is_none : (stage : Stage) → Allows stage Item.More → ⊥
more_is_none Stage.Start allowed = allowed
more_is_none (Stage.Names streams lines next) allowed = allowed
more_is_none (Stage.Openings version lines next) allowed = allowed
more_is_none (Stage.Events version count) allowed = allowed
more_is_none (Stage.Ended count) allowed = allowed

-- no item stands at the front of some bytes
NoItem : Stage → List ℕ → Type 0
NoItem stage bytes = (item : Item) → StandsAt stage bytes item → ⊥

-- the rests of equal lists behind equal fronts
same_rest : (front a b : List ℕ) → front ++ a ≡ front ++ b → a ≡ b
same_rest front a b e = sym (drop_at front a (length front) refl) ∙ ap (λ (l : List ℕ). drop (length front) l) e ∙ drop_at front b (length front) refl

both_cons : (x y : Item) (xs ys : List Item) → x ≡ y → xs ≡ ys → x ∷ xs ≡ y ∷ ys
both_cons x y xs ys e f = ap (λ (i : Item). i ∷ xs) e ∙ ap (λ (l : List Item). y ∷ l) f

module _ (once : OneReading) where
  -- bytes that want more or have a fault have no item
  none_stands : (stage : Stage) (place : ℕ) (bytes : List ℕ) (outcome : Result Item TraceFault) → Says stage place bytes outcome → ((item : Item) → outcome ≡ Ok item → item ≡ Item.More) → NoItem stage bytes
  unfolding NoItem
  none_stands stage place bytes outcome says no_item item o =
      let is : item ≡ Item.More = no_item item (once stage place bytes outcome (Ok item) says (says_item stage place bytes item o)) in
      more_is_none stage (subst (λ (i : Item). Allows stage i) is o.begins.fits)

  -- two items at the front of the same bytes are one
  one_item : (stage : Stage) (bytes : List ℕ) (x y : Item) → StandsAt stage bytes x → StandsAt stage bytes y → x ≡ y
  one_item stage bytes x y p q =
      let same : ◌≡◌ {A = Result Item TraceFault} (Ok x) (Ok y) = once stage 0 bytes (Ok x) (Ok y) (says_item stage 0 bytes x p) (says_item stage 0 bytes y q) in
      cc

  -- items from a stage on
  same_items : (xs ys : List Item) (stage : Stage) (r q : List ℕ) → Follow stage xs → Follow stage ys → bytes_from stage xs ++ r ≡ bytes_from stage ys ++ q
      → NoItem (stage_after stage xs) r → NoItem (stage_after stage ys) q → (xs ≡ ys) × (r ≡ q)
  unfolding NoItem
  same_items [] [] stage r q fx fy e nr nq = (refl, e)
  same_items [] (y ∷ ys) stage r q fx fy e nr nq =
      let others : List ℕ = bytes_from (advance stage y) ys in
      let begins : r ≡ item_bytes stage y ++ (others ++ q) = e ∙ append_assoc (item_bytes stage y) others q in
      absurd (nr y (subst (λ (l : List ℕ). StandsAt stage l y) (sym begins) (stands_front stage y (others ++ q) fy.0 fy.1)))
  same_items (x ∷ xs) [] stage r q fx fy e nr nq =
      let others : List ℕ = bytes_from (advance stage x) xs in
      let begins : q ≡ item_bytes stage x ++ (others ++ r) = sym e ∙ append_assoc (item_bytes stage x) others r in
      absurd (nq x (subst (λ (l : List ℕ). StandsAt stage l x) (sym begins) (stands_front stage x (others ++ r) fx.0 fx.1)))
  same_items (x ∷ xs) (y ∷ ys) stage r q fx fy e nr nq =
      let xb : List ℕ = bytes_from (advance stage x) xs in
      let yb : List ℕ = bytes_from (advance stage y) ys in
      let grouped : item_bytes stage x ++ (xb ++ r) ≡ item_bytes stage y ++ (yb ++ q) = sym (append_assoc (item_bytes stage x) xb r) ∙ e ∙ append_assoc (item_bytes stage y) yb q in
      let here : StandsAt stage (item_bytes stage y ++ (yb ++ q)) x = subst (λ (l : List ℕ). StandsAt stage l x) grouped (stands_front stage x (xb ++ r) fx.0 fx.1) in
      let same : x ≡ y = one_item stage (item_bytes stage y ++ (yb ++ q)) x y here (stands_front stage y (yb ++ q) fy.0 fy.1) in
      let behind : xb ++ r ≡ yb ++ q = same_rest (item_bytes stage y) (xb ++ r) (yb ++ q) (ap (λ (i : Item). item_bytes stage i ++ (xb ++ r)) (sym same) ∙ grouped) in
      let there : bytes_from (advance stage y) xs ++ r ≡ yb ++ q = ap (λ (i : Item). bytes_from (advance stage i) xs ++ r) (sym same) ∙ behind in
      let follow : Follow (advance stage y) xs = subst (λ (i : Item). Follow (advance stage i) xs) same fx.2 in
      let none : NoItem (stage_after (advance stage y) xs) r = subst (λ (i : Item). NoItem (stage_after (advance stage i) xs) r) same nr in
      let others = same_items xs ys (advance stage y) r q follow fy.2 there none nq in
      (both_cons x y xs ys same others.0, others.1)

  -- the same for whole inputs
  same_read : (bytes : List ℕ) (xs ys : List Item) (r q : List ℕ) → IsRead bytes xs r → NoItem (stage_after Stage.Start xs) r → IsRead bytes ys q → NoItem (stage_after Stage.Start ys) q → (xs ≡ ys) × (r ≡ q)
  same_read bytes xs ys r q p nr o nq = same_items xs ys Stage.Start r q p.follow o.follow (sym p.spelled ∙ o.spelled) nr nq

  pub one_list : OneList
  one_list bytes xs ys r q p stops_x o stops_y =
      same_read bytes xs ys r q p (none_stands (stage_after Stage.Start xs) (length (items_bytes xs)) r stops_x.outcome stops_x.says stops_x.no_item)
      o (none_stands (stage_after Stage.Start ys) (length (items_bytes ys)) q stops_y.outcome stops_y.says stops_y.no_item)

  -- where bytes fail no item stands
  none_at_fault : (stage : Stage) (place : ℕ) (rest : List ℕ) (fault : TraceFault) → Fails stage place rest fault → NoItem stage rest
  none_at_fault stage place rest fault fails = elim fails [
    | inl says ↦ none_stands stage place rest (Err fault) says (λ item e. absurd cc)
    | inr short ↦ none_stands stage place rest (Ok Item.More) short.0 (λ item e. cc)
  ]

  -- one fault of the same rest
  same_fault : (stage : Stage) (place : ℕ) (rest : List ℕ) (f g : TraceFault) → Fails stage place rest f → Fails stage place rest g → f ≡ g
  same_fault stage place rest f g p q = elim p [
    | inl a ↦ elim q [
      | inl b ↦ same_error (once stage place rest (Err f) (Err g) a b)
      | inr b ↦ absurd (no_more f (once stage place rest (Err f) (Ok Item.More) a b.0))
    ]
    | inr a ↦ elim q [
      | inl b ↦ absurd (no_more g (once stage place rest (Err g) (Ok Item.More) b a.0))
      | inr b ↦ same_end (sym a.1 ∙ b.1)
    ]
  ] where
    same_error : ◌≡◌ {A = Result Item TraceFault} (Err f) (Err g) → f ≡ g
    same_error e = cc

    same_end : ◌≡◌ {A = Result ℕ TraceFault} (Err f) (Err g) → f ≡ g
    same_end e = cc

    no_more : (h : TraceFault) → ◌≡◌ {A = Result Item TraceFault} (Err h) (Ok Item.More) → ⊥
    no_more h e = cc

  pub one_fault : OneFault
  one_fault bytes f g p q =
      let same = same_read bytes p.items q.items p.rest q.rest p.read (none_at_fault _ _ p.rest f p.fails) q.read (none_at_fault _ _ q.rest g q.fails) in
      let there : Fails (stage_after Stage.Start q.items) (length (items_bytes q.items)) q.rest f =
      subst (λ (items : List Item). Fails (stage_after Stage.Start items) (length (items_bytes items)) q.rest f) same.0
      (subst (λ (rest : List ℕ). Fails (stage_after Stage.Start p.items) (length (items_bytes p.items)) rest f) same.1 p.fails) in
      same_fault (stage_after Stage.Start q.items) (length (items_bytes q.items)) q.rest f g there q.fails

  -- items up to an end record leave no place for a fault
  pub ended_no_fault : (bytes : List ℕ) (items : List Item) (count : ℕ) (fault : TraceFault) → IsRead bytes items [] → stage_after Stage.Start items ≡ Stage.Ended count → HasFault bytes fault → ⊥
  unfolding NoItem
  ended_no_fault bytes items count fault read ended q =
      let none : NoItem (stage_after Stage.Start items) [] = subst (λ (s : Stage). NoItem s []) (sym ended) (λ item o. o.begins.fits) in
      let same = same_read bytes q.items items q.rest [] q.read (none_at_fault _ _ q.rest fault q.fails) read none in
      let stage : stage_after Stage.Start q.items ≡ Stage.Ended count = ap (λ (l : List Item). stage_after Stage.Start l) same.0 ∙ ended in
      let there : Fails (Stage.Ended count) (length (items_bytes q.items)) [] fault =
      subst (λ (s : Stage). Fails s (length (items_bytes q.items)) [] fault) stage
      (subst (λ (rest : List ℕ). Fails (stage_after Stage.Start q.items) (length (items_bytes q.items)) rest fault) same.1 q.fails) in
      elim there [
        | inl says ↦ cc
        | inr short ↦ let e : ◌≡◌ {A = Result ℕ TraceFault} (Ok count) (Err fault) = short.1 in absurd cc
      ]
