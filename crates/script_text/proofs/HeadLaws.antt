-- The seven lines that are read are those that are spelled so, and what is spelled so is read.
use Rattle.std.proofs.Common.{◌≡◌, ℕ, ◌^◌, ◌<◌, ◌≤◌, true, false, cond, List, [], ◌∷◌, ◌++◌, length, Option, Some, None, Result, Ok, Err, refl, sym, ap, subst, ◌∙◌, inl, inr, append_assoc, arith}
use Rattle.std.specs.Prelude.{◌==◌, codes}
use Rattle.std.specs.List.{flat_map}
use Rattle.std.specs.Option.{option_map, option_and_then}
use Rattle.std.specs.Fmt.{decimal}
use Rattle.std.specs.Str.{bytes_eq}
use Rattle.std.proofs.lemmas.Bool.{and_parts, and_from, ne_eqb, leb-true, le-leb}
use Rattle.std.proofs.lemmas.List.{length-append}
use Rattle.std.proofs.lemmas.Option.{same_Some, none-some}
use Rattle.std.proofs.lemmas.Slice.Eq.{bytes_eq-Decides}
use Rattle.cxl_message.specs.Script.{ScriptValue}
use Rattle.cxl_message.specs.Setup.{Configuration, IsWithinLimits, is_within}
use Rattle.script_text.specs.declared.refusals.ScriptReason.{ScriptReason}
use Rattle.script_text.specs.declared.refusals.ScriptRefusal.{ScriptRefusal}
use Rattle.script_text.specs.Spelling.{setting, settings, head_bytes}
use Rattle.script_text.specs.Words.{parts_at, number_in}
use Rattle.script_text.specs.Head.{◌>>=◌, number_behind, setting_in, limited, number_at, without_streams, head_at}
use Rattle.script_text.specs.Script.{IsScript}
use Rattle.script_text.proofs.WordLaws.{bind_some, Lacks, lacks-append, parts_take, parts_again, number_take, number_again, decimal_lacks, chosen}

-- the value of a step that did not fail
pub bind_ok : {A B : Type 0} (r : Result A ScriptRefusal) (f : A → Result B ScriptRefusal) (y : B) → (r >>= f) ≡ Ok y → (x : A) × (r ≡ Ok x) × (f x ≡ Ok y)
bind_ok (Ok x) f y e = (x, refl, e)
bind_ok (Err d) f y e = absurd cc

behind_again : (word : List ℕ) (n : ℕ) → Lacks 32 word → n < 10 ^ 10 → number_behind word (word ++ 32 ∷ decimal n) ≡ Some n
unfolding number_behind
behind_again word n space below = rw (parts_again 32 word (decimal n) space, (bytes_eq-Decides word word).1 refl, number_again n below) refl

-- a line that is spelled so is found
pub setting_again : (word : List ℕ) (n : ℕ) (rest : List ℕ) → Lacks 10 word → Lacks 32 word → n < 10 ^ 10 → setting_in word (setting word n ++ rest) ≡ Some (n, rest)
unfolding setting_in
setting_again word n rest feed space below =
    let lacks = lacks-append 10 word (32 ∷ decimal n) feed (decimal_lacks 10 n (omega arith) below) in
    ap (setting_in word) (append_assoc (word ++ 32 ∷ decimal n) (10 ∷ []) rest) ∙ rw (parts_again 10 (word ++ 32 ∷ decimal n) rest lacks, behind_again word n space below) refl

-- within its limits it is taken
pub number_line_again : (k : ℕ) (word : List ℕ) (least most n : ℕ) (rest : List ℕ) → Lacks 10 word → Lacks 32 word → n < 10 ^ 10 → least ≤ n → n ≤ most → number_at k word least most (setting word n ++ rest) ≡ Ok (n, rest)
unfolding number_at
number_line_again k word least most n rest feed space below low high =
    let some : (length (setting word n ++ rest) == 0) ≡ false =
    ne_eqb (length (setting word n ++ rest)) 0 (λ e. omega (arith, length-append (setting word n) rest, length-append (word ++ 32 ∷ decimal n) (10 ∷ []))) in
    let within : is_within least most n ≡ true = and_from _ _ (le-leb least n low) (le-leb n most high) in
    rw (some, setting_again word n rest feed space below, within) refl

behind_take : (word text : List ℕ) (n : ℕ) → number_behind word text ≡ Some n → (text ≡ word ++ 32 ∷ decimal n) × (n < 10 ^ 10)
unfolding number_behind
behind_take word text n e =
    let found = bind_some (parts_at 32 text) (λ parts. cond (bytes_eq parts.0 word) (number_in parts.1) None) n e in
    let parts = found.0 in
    elim (chosen (bytes_eq parts.0 word) _ _ (Some n) found.2) [
      | inl is ↦
          let number = number_take parts.1 n is.1 in
          let same = (bytes_eq-Decides parts.0 word).0 is.0 in
          (parts_take 32 text parts found.1 ∙ ap (λ (w : List ℕ). w ++ 32 ∷ parts.1) same ∙ ap (λ (w : List ℕ). word ++ 32 ∷ w) number.0, number.1)
      | inr is ↦ absurd (none-some n is.1)
    ]

mapped : {A B : Type 0} (o : Option A) (f : A → B) → option_and_then (λ x. Some (f x)) o ≡ option_map f o
mapped (Some x) f = refl
mapped None f = refl

-- a line of a word and a number that was found
pub setting_take : (word text : List ℕ) (found : ℕ × List ℕ) → setting_in word text ≡ Some found → (text ≡ setting word found.0 ++ found.1) × (found.0 < 10 ^ 10)
unfolding setting_in
setting_take word text found e =
    let a = bind_some (parts_at 10 text) (λ parts. option_map (λ n. (n, parts.1)) (number_behind word parts.0)) found e in
    let b = bind_some (number_behind word a.0.0) (λ n. Some (n, a.0.1)) found (mapped (number_behind word a.0.0) (λ n. (n, a.0.1)) ∙ a.2) in
    let number = behind_take word a.0.0 b.0 b.1 in
    let made : ℕ × List ℕ = (b.0, a.0.1) in
    let split : text ≡ setting word b.0 ++ a.0.1 = parts_take 10 text a.0 a.1 ∙ ap (λ (w : List ℕ). w ++ 10 ∷ a.0.1) number.0 ∙ sym (append_assoc (word ++ 32 ∷ decimal b.0) (10 ∷ []) a.0.1) in
    subst (λ (x : ℕ × List ℕ). (text ≡ setting word x.0 ++ x.1) × (x.0 < 10 ^ 10)) (same_Some made found b.2) (split, number.1)

same_Ok : {A : Type 0} (x y : A) → ◌≡◌ {A = Result A ScriptRefusal} (Ok x) (Ok y) → x ≡ y
same_Ok x y e = cc

err-ok : {A : Type 0} (refusal : ScriptRefusal) (x : A) → ◌≡◌ {A = Result A ScriptRefusal} (Err refusal) (Ok x) → ⊥
err-ok refusal x e = cc

limited_take : (k least most : ℕ) (read : Option (ℕ × List ℕ)) (found : ℕ × List ℕ) → limited k least most read ≡ Ok found → (read ≡ Some found) × (least ≤ found.0) × (found.0 ≤ most)
limited_take k least most None found e = absurd cc
limited_take k least most (Some x) found e = elim (chosen (is_within least most x.0) (Ok x) (Err (ScriptRefusal.Bad k ScriptReason.Range)) (Ok found) e) [
  | inl is ↦
      let within = and_parts _ _ is.0 in
      let same : x ≡ found = same_Ok x found is.1 in
      (ap (λ (y : ℕ × List ℕ). Some y) same, subst (λ (y : ℕ × List ℕ). least ≤ y.0) same (leb-true least x.0 within.0), subst (λ (y : ℕ × List ℕ). y.0 ≤ most) same (leb-true x.0 most within.1))
  | inr is ↦ absurd (err-ok _ found is.1)
]

pub number_line_take : (k : ℕ) (word : List ℕ) (least most : ℕ) (text : List ℕ) (found : ℕ × List ℕ) → number_at k word least most text ≡ Ok found → (text ≡ setting word found.0 ++ found.1) × (least ≤ found.0) × (found.0 ≤ most)
unfolding number_at
number_line_take k word least most text found e = elim (chosen (length text == 0) _ _ (Ok found) e) [
  | inl is ↦ absurd (err-ok _ found is.1)
  | inr is ↦ let read = limited_take k least most (setting_in word text) found is.1 in ((setting_take word text found read.0).0, read.1, read.2)
]

-- ---- all seven

-- lines of a word and a number, and then a text
abbrev pub onto : List (List ℕ × ℕ) → List ℕ → List ℕ
onto [] rest = rest
onto (pair ∷ pairs) rest = setting pair.0 pair.1 ++ onto pairs rest

pub onto_is : (pairs : List (List ℕ × ℕ)) (rest : List ℕ) → flat_map (λ pair. setting pair.0 pair.1) pairs ++ rest ≡ onto pairs rest
onto_is [] rest = refl
onto_is (pair ∷ pairs) rest = append_assoc (setting pair.0 pair.1) (flat_map (λ p. setting p.0 p.1) pairs) rest ∙ ap (λ (w : List ℕ). setting pair.0 pair.1 ++ w) (onto_is pairs rest)

more : (front text rest last : List ℕ) → text ≡ front ++ rest → rest ≡ last → text ≡ front ++ last
more front text rest last p q = p ∙ ap (λ (w : List ℕ). front ++ w) q

-- the setup of a script without its streams
abbrev pub bare : Configuration → Configuration
bare c = without_streams c.hosts c.lines c.entries c.ways c.tags c.credits

-- the script of seven lines
abbrev pub start : Configuration → ℕ → ScriptValue
start c room = record { setup = c; names = []; room = room; opening = []; operations = []; picks = [] }

pub head_again : (s : ScriptValue) (rest : List ℕ) → IsWithinLimits s.setup → (1 ≤ s.room) × (s.room ≤ 200000) → head_at (head_bytes s ++ rest) ≡ Ok (bare s.setup, s.room, rest)
unfolding head_at
head_again s rest h room =
    ap head_at (onto_is (settings s) rest)
    ∙ rw (
      number_line_again 1 (codes "hosts") 1 16 s.setup.hosts _ refl refl (omega arith) h.hosts.0 h.hosts.1,
      number_line_again 2 (codes "lines") 1 65536 s.setup.lines _ refl refl (omega arith) h.lines.0 h.lines.1,
      number_line_again 3 (codes "filter") 1 4096 s.setup.entries _ refl refl (omega arith) h.entries.0 h.entries.1,
      number_line_again 4 (codes "ways") 1 256 s.setup.ways _ refl refl (omega arith) h.ways.0 h.ways.1,
      number_line_again 5 (codes "tags") 2 1024 s.setup.tags _ refl refl (omega arith) h.tags.0 h.tags.1,
      number_line_again 6 (codes "credits") 2 64 s.setup.credits _ refl refl (omega arith) h.credits.0 h.credits.1,
      number_line_again 7 (codes "room") 1 200000 s.room _ refl refl (omega arith) room.0 room.1,
    ) refl

-- seven lines within their limits are a script
start_is : (a b c d f g h : ℕ) → (1 ≤ a) × (a ≤ 16) → (1 ≤ b) × (b ≤ 65536) → (1 ≤ c) × (c ≤ 4096) → (1 ≤ d) × (d ≤ 256) → (2 ≤ f) × (f ≤ 1024) → (2 ≤ g) × (g ≤ 64) → (1 ≤ h) × (h ≤ 200000)
    → IsScript (start (without_streams a b c d f g) h)
start_is a b c d f g h hosts lines entries ways tags credits room =
    let none : 0 ≤ 64 = omega arith in
    let no_operations : 0 ≤ 65536 = omega arith in
    let within : IsWithinLimits (without_streams a b c d f g) = record { hosts = hosts; lines = lines; entries = entries; ways = ways; tags = tags; credits = credits; streams = none; stream_hosts = refl } in
    record { setup = within; names = record { ascending = refl; spelled = refl }; named = refl; room = room; opening = record { ascending = refl; not_zero = refl }; opening_lines = refl; opening_bytes = refl; streams = refl; operations = refl; operation_count = no_operations; picks = refl }

-- their text
start_text : (a b c d f g h : ℕ) (text t1 t2 t3 t4 t5 t6 t7 : List ℕ) → text ≡ setting (codes "hosts") a ++ t1 → t1 ≡ setting (codes "lines") b ++ t2 → t2 ≡ setting (codes "filter") c ++ t3
    → t3 ≡ setting (codes "ways") d ++ t4 → t4 ≡ setting (codes "tags") f ++ t5 → t5 ≡ setting (codes "credits") g ++ t6 → t6 ≡ setting (codes "room") h ++ t7
    → text ≡ head_bytes (start (without_streams a b c d f g) h) ++ t7
start_text a b c d f g h text t1 t2 t3 t4 t5 t6 t7 e1 e2 e3 e4 e5 e6 e7 =
    let s6 = more (setting (codes "credits") g) t5 t6 _ e6 e7 in
    let s5 = more (setting (codes "tags") f) t4 t5 _ e5 s6 in
    let s4 = more (setting (codes "ways") d) t3 t4 _ e4 s5 in
    let s3 = more (setting (codes "filter") c) t2 t3 _ e3 s4 in
    let s2 = more (setting (codes "lines") b) t1 t2 _ e2 s3 in
    let s1 = more (setting (codes "hosts") a) text t1 _ e1 s2 in
    s1 ∙ sym (onto_is (settings (start (without_streams a b c d f g) h)) t7)

abbrev IsRead : List ℕ → Configuration × ℕ × List ℕ → Type 0
IsRead text head = (text ≡ head_bytes (start head.0 head.1) ++ head.2) × IsScript (start head.0 head.1)

head_made : (text : List ℕ) (a b c d f g h : ℕ × List ℕ) (head : Configuration × ℕ × List ℕ) → number_at 1 (codes "hosts") 1 16 text ≡ Ok a → number_at 2 (codes "lines") 1 65536 a.1 ≡ Ok b
    → number_at 3 (codes "filter") 1 4096 b.1 ≡ Ok c → number_at 4 (codes "ways") 1 256 c.1 ≡ Ok d → number_at 5 (codes "tags") 2 1024 d.1 ≡ Ok f → number_at 6 (codes "credits") 2 64 f.1 ≡ Ok g
    → number_at 7 (codes "room") 1 200000 g.1 ≡ Ok h → (without_streams a.0 b.0 c.0 d.0 f.0 g.0, h.0, h.1) ≡ head → IsRead text head
head_made text a b c d f g h head ea eb ec ed ef eg eh e =
    let hosts = number_line_take 1 (codes "hosts") 1 16 text a ea in
    let lines = number_line_take 2 (codes "lines") 1 65536 a.1 b eb in
    let entries = number_line_take 3 (codes "filter") 1 4096 b.1 c ec in
    let ways = number_line_take 4 (codes "ways") 1 256 c.1 d ed in
    let tags = number_line_take 5 (codes "tags") 2 1024 d.1 f ef in
    let credits = number_line_take 6 (codes "credits") 2 64 f.1 g eg in
    let room = number_line_take 7 (codes "room") 1 200000 g.1 h eh in
    let spelled = start_text a.0 b.0 c.0 d.0 f.0 g.0 h.0 text a.1 b.1 c.1 d.1 f.1 g.1 h.1 hosts.0 lines.0 entries.0 ways.0 tags.0 credits.0 room.0 in
    let is = start_is a.0 b.0 c.0 d.0 f.0 g.0 h.0 (hosts.1, hosts.2) (lines.1, lines.2) (entries.1, entries.2) (ways.1, ways.2) (tags.1, tags.2) (credits.1, credits.2) (room.1, room.2) in
    subst (λ (x : Configuration × ℕ × List ℕ). IsRead text x) e (spelled, is)

pub head_take : (text : List ℕ) (head : Configuration × ℕ × List ℕ) → head_at text ≡ Ok head → (text ≡ head_bytes (start head.0 head.1) ++ head.2) × IsScript (start head.0 head.1)
unfolding head_at
head_take text head e =
    let a = bind_ok (number_at 1 (codes "hosts") 1 16 text) _ head e in
    let b = bind_ok (number_at 2 (codes "lines") 1 65536 a.0.1) _ head a.2 in
    let c = bind_ok (number_at 3 (codes "filter") 1 4096 b.0.1) _ head b.2 in
    let d = bind_ok (number_at 4 (codes "ways") 1 256 c.0.1) _ head c.2 in
    let f = bind_ok (number_at 5 (codes "tags") 2 1024 d.0.1) _ head d.2 in
    let g = bind_ok (number_at 6 (codes "credits") 2 64 f.0.1) _ head f.2 in
    let h = bind_ok (number_at 7 (codes "room") 1 200000 g.0.1) _ head g.2 in
    head_made text a.0 b.0 c.0 d.0 f.0 g.0 h.0 head a.1 b.1 c.1 d.1 f.1 g.1 h.1 (same_Ok _ head h.2)
