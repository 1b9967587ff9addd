-- A line that is read is the line that is spelled so, and what is spelled so is read.
use Rattle.std.proofs.Common.{◌≡◌, ℕ, zero, suc, ◌^◌, ◌/◌, ◌%◌, ◌<◌, Bool, true, IsTrue, List, [], ◌∷◌, ◌++◌, length, get_or, Option, Some, None, refl, sym, ap, subst, ◌∙◌, inl, inr, append_assoc, arith}
use Rattle.std.specs.Prelude.{◌&&◌, nat_lt, codes}
use Rattle.std.specs.Fmt.{decimal}
use Rattle.std.specs.Int.{w64, to_be_bytes, from_be_bytes}
use Rattle.std.specs.Str.{bytes_eq}
use Rattle.std.proofs.lemmas.Bool.{and_parts, and_from, eqb-true, eq-eqb, ltb-true, lt-ltb}
use Rattle.std.proofs.lemmas.Nat.{be_bytes_8, from_be_bytes-to_be_bytes_8}
use Rattle.std.proofs.lemmas.Option.{same_Some, none-some}
use Rattle.std.proofs.lemmas.Slice.Eq.{bytes_eq-Decides}
use Rattle.cxl_message.specs.declared.identifiers.Bytes64.{Bytes64}
use Rattle.cxl_message.specs.Names.{is_name}
use Rattle.script_text.specs.declared.lines.ScriptLine.{ScriptLine}
use Rattle.script_text.specs.Script.{IsSpelled, are_line_bytes}
use Rattle.script_text.specs.Spelling.{hex, line_text, line_bytes}
use Rattle.script_text.specs.Words.{◌>>=◌, parts_at, number_in, name_in, just_bytes_in}
use Rattle.script_text.specs.Lines.{line_and_bytes_in, word_in, named_stream_in, stream_of_parts, stream_in, line_of_word, line_in, first_line}
use Rattle.script_text.proofs.WordLaws.{bind_some, Lacks, lacks-append, parts_take, parts_again, no_parts, number_take, number_again, decimal_lacks, name_take, name_again, name_lacks, AreBytes, just_bytes_take, just_bytes_again, hex_lacks, chosen}

-- ---- a number and 64 bytes

pair_again : (line : ℕ) (bytes : Bytes64) → line < 10 ^ 10 → IsTrue (are_line_bytes bytes) → line_and_bytes_in (decimal line ++ 32 ∷ hex bytes.0) ≡ Some (line, bytes)
unfolding line_and_bytes_in
pair_again line bytes below are =
    let is = and_parts _ _ are in
    rw (parts_again 32 (decimal line) (hex bytes.0) (decimal_lacks 32 line (omega arith) below), number_again line below, just_bytes_again 64 bytes.0 (eqb-true _ _ is.0) is.1) refl

pair_take : (text : List ℕ) (pair : ℕ × Bytes64) → line_and_bytes_in text ≡ Some pair → (text ≡ decimal pair.0 ++ 32 ∷ hex pair.1.0) × (pair.0 < 10 ^ 10) × IsTrue (are_line_bytes pair.1)
unfolding line_and_bytes_in
pair_take text pair e =
    let a = bind_some (parts_at 32 text) (λ parts. number_in parts.0 >>= λ line. just_bytes_in 64 parts.1 >>= λ bytes. Some (line, record { 0 = bytes })) pair e in
    let b = bind_some (number_in a.0.0) (λ line. just_bytes_in 64 a.0.1 >>= λ bytes. Some (line, record { 0 = bytes })) pair a.2 in
    let c = bind_some (just_bytes_in 64 a.0.1) (λ bytes. Some (b.0, record { 0 = bytes })) pair b.2 in
    let number = number_take a.0.0 b.0 b.1 in
    let bytes = just_bytes_take 64 a.0.1 c.0 c.1 in
    let made : ℕ × Bytes64 = (b.0, record { 0 = c.0 }) in
    let text-is : text ≡ decimal b.0 ++ 32 ∷ hex c.0 = parts_take 32 text a.0 a.1 ∙ ap (λ (w : List ℕ). w ++ 32 ∷ a.0.1) number.0 ∙ ap (λ (w : List ℕ). decimal b.0 ++ 32 ∷ w) bytes.0 in
    let are : IsTrue (are_line_bytes made.1) = and_from _ _ (eq-eqb _ _ bytes.2) bytes.1 in
    subst (λ (p : ℕ × Bytes64). (text ≡ decimal p.0 ++ 32 ∷ hex p.1.0) × (p.0 < 10 ^ 10) × IsTrue (are_line_bytes p.1)) (same_Some made pair c.2) (text-is, number.1, are)

-- ---- a word

bytes_at : (bytes : List ℕ) → AreBytes bytes → (i : ℕ) → get_or bytes i 0 < 256
bytes_at [] are i = omega arith
bytes_at (b ∷ bytes) are zero = ltb-true b 256 (and_parts _ _ are).0
bytes_at (b ∷ bytes) are (suc i) = bytes_at bytes (and_parts _ _ are).1 i

small_rest : (n : ℕ) (more : Bool) → more ≡ true → (nat_lt (n % 256) 256 && more) ≡ true
small_rest n more h = and_from _ _ (lt-ltb (n % 256) 256 (omega arith)) h

pub value_bytes : (value : ℕ) → AreBytes (to_be_bytes w64 value)
value_bytes value =
    let at : ℕ → ℕ = λ k. value / 256 ^ k in
    small_rest (at 7) _ (small_rest (at 6) _ (small_rest (at 5) _ (small_rest (at 4) _ (small_rest (at 3) _ (small_rest (at 2) _ (small_rest (at 1) _ (small_rest value true refl)))))))

word_again : (line place : ℕ) (bytes : List ℕ) → line < 10 ^ 10 → place < 10 ^ 10 → length bytes ≡ 8 → AreBytes bytes → word_in (decimal line ++ 32 ∷ (decimal place ++ 32 ∷ hex bytes)) ≡ Some (ScriptLine.Word line place (from_be_bytes w64 bytes))
unfolding word_in
word_again line place bytes l p len are =
    rw (parts_again 32 (decimal line) (decimal place ++ 32 ∷ hex bytes) (decimal_lacks 32 line (omega arith) l), parts_again 32 (decimal place) (hex bytes) (decimal_lacks 32 place (omega arith) p), number_again line l, number_again place p, just_bytes_again 8 bytes len are) refl

word_line_again : (line place : ℕ) (bytes : List ℕ) → line < 10 ^ 10 → place < 10 ^ 10 → length bytes ≡ 8 → AreBytes bytes → line_in (codes "word " ++ decimal line ++ 32 ∷ decimal place ++ 32 ∷ hex bytes) ≡ Some (ScriptLine.Word line place (from_be_bytes w64 bytes))
unfolding line_in line_of_word
word_line_again line place bytes l p len are =
    ap (λ (t : List ℕ). line_in (codes "word " ++ t)) (append_assoc (decimal line) (32 ∷ decimal place) (32 ∷ hex bytes))
    ∙ rw (parts_again 32 (codes "word") (decimal line ++ 32 ∷ (decimal place ++ 32 ∷ hex bytes)) refl) (word_again line place bytes l p len are)

below_value : (bytes : List ℕ) → AreBytes bytes → from_be_bytes w64 bytes < 2 ^ 64
below_value bytes are =
    let fits = bytes_at bytes are in
    omega (arith, fits 0, fits 1, fits 2, fits 3, fits 4, fits 5, fits 6, fits 7)

word_made : (text : List ℕ) (l : ScriptLine) (first rest second third : List ℕ) (line place : ℕ) (bytes : List ℕ) → text ≡ first ++ 32 ∷ rest → rest ≡ second ++ 32 ∷ third
    → (first ≡ decimal line) × (line < 10 ^ 10) → (second ≡ decimal place) × (place < 10 ^ 10) → (third ≡ hex bytes) × AreBytes bytes × (length bytes ≡ 8)
    → ScriptLine.Word line place (from_be_bytes w64 bytes) ≡ l → (codes "word" ++ 32 ∷ text ≡ line_text l) × IsSpelled l
word_made text l first rest second third line place bytes t r f s h e =
    let back : to_be_bytes w64 (from_be_bytes w64 bytes) ≡ bytes = be_bytes_8 bytes _ h.2 (bytes_at bytes h.1) refl in
    let parts : text ≡ decimal line ++ 32 ∷ (decimal place ++ 32 ∷ hex bytes) =
    t ∙ ap (λ (w : List ℕ). w ++ 32 ∷ rest) f.0 ∙ ap (λ (w : List ℕ). decimal line ++ 32 ∷ w) (r ∙ ap (λ (w : List ℕ). w ++ 32 ∷ third) s.0 ∙ ap (λ (w : List ℕ). decimal place ++ 32 ∷ w) h.0) in
    let regrouped : text ≡ decimal line ++ 32 ∷ decimal place ++ 32 ∷ hex bytes = parts ∙ sym (append_assoc (decimal line) (32 ∷ decimal place) (32 ∷ hex bytes)) in
    let spelled : codes "word" ++ 32 ∷ text ≡ line_text (ScriptLine.Word line place (from_be_bytes w64 bytes)) =
    ap (λ (w : List ℕ). codes "word " ++ w) regrouped ∙ ap (λ (w : List ℕ). codes "word " ++ decimal line ++ 32 ∷ decimal place ++ 32 ∷ hex w) (sym back) in
    subst (λ (x : ScriptLine). (codes "word" ++ 32 ∷ text ≡ line_text x) × IsSpelled x) e (spelled, (f.1, s.1, below_value bytes h.1))

word_take : (text : List ℕ) (l : ScriptLine) → word_in text ≡ Some l → (codes "word" ++ 32 ∷ text ≡ line_text l) × IsSpelled l
unfolding word_in
word_take text l e =
    let a = bind_some (parts_at 32 text) (λ parts. parts_at 32 parts.1 >>= λ words. number_in parts.0 >>= λ line. number_in words.0 >>= λ place. just_bytes_in 8 words.1 >>= λ bytes. Some (ScriptLine.Word line place (from_be_bytes w64 bytes))) l e in
    let b = bind_some (parts_at 32 a.0.1) (λ words. number_in a.0.0 >>= λ line. number_in words.0 >>= λ place. just_bytes_in 8 words.1 >>= λ bytes. Some (ScriptLine.Word line place (from_be_bytes w64 bytes))) l a.2 in
    let c = bind_some (number_in a.0.0) (λ line. number_in b.0.0 >>= λ place. just_bytes_in 8 b.0.1 >>= λ bytes. Some (ScriptLine.Word line place (from_be_bytes w64 bytes))) l b.2 in
    let d = bind_some (number_in b.0.0) (λ place. just_bytes_in 8 b.0.1 >>= λ bytes. Some (ScriptLine.Word c.0 place (from_be_bytes w64 bytes))) l c.2 in
    let f = bind_some (just_bytes_in 8 b.0.1) (λ bytes. Some (ScriptLine.Word c.0 d.0 (from_be_bytes w64 bytes))) l d.2 in
    word_made text l a.0.0 a.0.1 b.0.0 b.0.1 c.0 d.0 f.0 (parts_take 32 text a.0 a.1) (parts_take 32 a.0.1 b.0 b.1) (number_take _ c.0 c.1) (number_take _ d.0 d.1) (just_bytes_take 8 _ f.0 f.1) (same_Some _ _ f.2)

-- ---- a stream

host_again : (host : ℕ) → host < 10 ^ 10 → stream_in (decimal host) ≡ Some (ScriptLine.Stream host)
unfolding stream_in
host_again host below = rw (no_parts 32 (decimal host) (decimal_lacks 32 host (omega arith) below), number_again host below) refl

named_again : (host : ℕ) (name : List ℕ) → host < 10 ^ 10 → IsTrue (is_name name) → stream_in (decimal host ++ 32 ∷ name) ≡ Some (ScriptLine.NamedStream host (record { items = name }))
unfolding stream_in
named_again host name below is = rw (parts_again 32 (decimal host) name (decimal_lacks 32 host (omega arith) below), number_again host below, name_again name is) refl

-- what a stream's line is read from
abbrev IsStreamOf : List ℕ → ScriptLine → Type 0
IsStreamOf text l = (codes "stream" ++ 32 ∷ text ≡ line_text l) × IsSpelled l

named_take : (text first second : List ℕ) (l : ScriptLine) → text ≡ first ++ 32 ∷ second → named_stream_in first second ≡ Some l → IsStreamOf text l
named_take text first second l split e =
    let a = bind_some (number_in first) (λ host. name_in second >>= λ name. Some (ScriptLine.NamedStream host (record { items = name }))) l e in
    let b = bind_some (name_in second) (λ name. Some (ScriptLine.NamedStream a.0 (record { items = name }))) l a.2 in
    let host = number_take first a.0 a.1 in
    let name = name_take second b.0 b.1 in
    let text-is : text ≡ decimal a.0 ++ 32 ∷ b.0 = split ∙ ap (λ (w : List ℕ). w ++ 32 ∷ second) host.0 ∙ ap (λ (w : List ℕ). decimal a.0 ++ 32 ∷ w) name.0 in
    subst (λ (x : ScriptLine). IsStreamOf text x) (same_Some _ _ b.2) (ap (λ (w : List ℕ). codes "stream " ++ w) text-is, (host.1, name.1))

parts_of_stream : (text : List ℕ) (l : ScriptLine) (parts : Option (List ℕ × List ℕ)) → parts_at 32 text ≡ parts → stream_of_parts text parts ≡ Some l → IsStreamOf text l
parts_of_stream text l None is e =
    let a = bind_some (number_in text) (λ host. Some (ScriptLine.Stream host)) l e in
    let host = number_take text a.0 a.1 in
    subst (λ (x : ScriptLine). IsStreamOf text x) (same_Some _ _ a.2) (ap (λ (w : List ℕ). codes "stream " ++ w) host.0, host.1)
parts_of_stream text l (Some parts) is e = named_take text parts.0 parts.1 l (parts_take 32 text parts is) e

stream_take : (text : List ℕ) (l : ScriptLine) → stream_in text ≡ Some l → IsStreamOf text l
unfolding stream_in
stream_take text l e = parts_of_stream text l (parts_at 32 text) refl e

-- ---- lines

pub line_again : (l : ScriptLine) → IsSpelled l → line_in (line_text l) ≡ Some l
unfolding line_in line_of_word
line_again (ScriptLine.Open line bytes) h = rw (parts_again 32 (codes "open") (decimal line ++ 32 ∷ hex bytes.0) refl, pair_again line bytes h.0 h.1) refl
line_again (ScriptLine.Stream host) h = rw (parts_again 32 (codes "stream") (decimal host) refl, host_again host h) refl
line_again (ScriptLine.NamedStream host name) h = rw (parts_again 32 (codes "stream") (decimal host ++ 32 ∷ name.items) refl, named_again host name.items h.0 h.1) refl
line_again (ScriptLine.Load line) h = rw (parts_again 32 (codes "load") (decimal line) refl, number_again line h) refl
line_again (ScriptLine.Word line place value) h =
    word_line_again line place (to_be_bytes w64 value) h.0 h.1 refl (value_bytes value) ∙ ap (λ (v : ℕ). Some (ScriptLine.Word line place v)) (from_be_bytes-to_be_bytes_8 value h.2)
line_again (ScriptLine.Whole line bytes) h = rw (parts_again 32 (codes "whole") (decimal line ++ 32 ∷ hex bytes.0) refl, pair_again line bytes h.0 h.1) refl
line_again (ScriptLine.Pick pick) h = rw (parts_again 32 (codes "pick") (decimal pick) refl, number_again pick h) refl

-- a line of one number
number_form : (P : ScriptLine → Type 0) (make : ℕ → ScriptLine) (rest : List ℕ) (l : ScriptLine) → (number_in rest >>= λ n. Some (make n)) ≡ Some l → ((n : ℕ) → rest ≡ decimal n → n < 10 ^ 10 → P (make n)) → P l
number_form P make rest l e then =
    let found = bind_some (number_in rest) (λ n. Some (make n)) l e in
    let number = number_take rest found.0 found.1 in
    subst P (same_Some _ _ found.2) (then found.0 number.0 number.1)

-- a line of a number and 64 bytes
bytes_form : (P : ScriptLine → Type 0) (make : ℕ × Bytes64 → ScriptLine) (rest : List ℕ) (l : ScriptLine) → (line_and_bytes_in rest >>= λ pair. Some (make pair)) ≡ Some l
    → ((pair : ℕ × Bytes64) → rest ≡ decimal pair.0 ++ 32 ∷ hex pair.1.0 → pair.0 < 10 ^ 10 → IsTrue (are_line_bytes pair.1) → P (make pair)) → P l
bytes_form P make rest l e then =
    let found = bind_some (line_and_bytes_in rest) (λ pair. Some (make pair)) l e in
    let pair = pair_take rest found.0 found.1 in
    subst P (same_Some _ _ found.2) (then found.0 pair.0 pair.1 pair.2)

after_word : (word rest : List ℕ) (l : ScriptLine) → line_of_word word rest ≡ Some l → (word ++ 32 ∷ rest ≡ line_text l) × IsSpelled l
unfolding line_of_word
after_word word rest l e =
    let P : ScriptLine → Type 0 = λ x. (word ++ 32 ∷ rest ≡ line_text x) × IsSpelled x in
    elim (chosen (bytes_eq word (codes "open")) _ _ (Some l) e) [
      | inl is ↦ bytes_form P (λ pair. ScriptLine.Open pair.0 pair.1) rest l is.1 (λ pair text below are. (joined (codes "open") _ is.0 text, (below, are)))
      | inr e ↦ elim (chosen (bytes_eq word (codes "stream")) _ _ (Some l) e.1) [
        | inl is ↦ let line = stream_take rest l is.1 in (joined (codes "stream") rest is.0 refl ∙ line.0, line.1)
        | inr e ↦ elim (chosen (bytes_eq word (codes "load")) _ _ (Some l) e.1) [
          | inl is ↦ number_form P (λ n. ScriptLine.Load n) rest l is.1 (λ n text below. (joined (codes "load") _ is.0 text, below))
          | inr e ↦ elim (chosen (bytes_eq word (codes "word")) _ _ (Some l) e.1) [
            | inl is ↦ let line = word_take rest l is.1 in (joined (codes "word") rest is.0 refl ∙ line.0, line.1)
            | inr e ↦ elim (chosen (bytes_eq word (codes "whole")) _ _ (Some l) e.1) [
              | inl is ↦ bytes_form P (λ pair. ScriptLine.Whole pair.0 pair.1) rest l is.1 (λ pair text below are. (joined (codes "whole") _ is.0 text, (below, are)))
              | inr e ↦ elim (chosen (bytes_eq word (codes "pick")) _ _ (Some l) e.1) [
                | inl is ↦ number_form P (λ n. ScriptLine.Pick n) rest l is.1 (λ n text below. (joined (codes "pick") _ is.0 text, below))
                | inr e ↦ absurd (none-some l e.1)
              ]
            ]
          ]
        ]
      ]
    ]
  where
    joined : (named text : List ℕ) → bytes_eq word named ≡ true → rest ≡ text → word ++ 32 ∷ rest ≡ named ++ 32 ∷ text
    joined named text is same = ap (λ (w : List ℕ). w ++ 32 ∷ rest) ((bytes_eq-Decides word named).0 is) ∙ ap (λ (r : List ℕ). named ++ 32 ∷ r) same

pub line_take : (text : List ℕ) (l : ScriptLine) → line_in text ≡ Some l → (text ≡ line_text l) × IsSpelled l
unfolding line_in
line_take text l e =
    let found = bind_some (parts_at 32 text) (λ parts. line_of_word parts.0 parts.1) l e in
    let line = after_word found.0.0 found.0.1 l found.2 in
    (parts_take 32 text found.0 found.1 ∙ line.0, line.1)

line_lacks : (l : ScriptLine) → IsSpelled l → Lacks 10 (line_text l)
line_lacks (ScriptLine.Open line bytes) h = lacks-append 10 (decimal line) (32 ∷ hex bytes.0) (decimal_lacks 10 line (omega arith) h.0) (hex_lacks 10 bytes.0 (omega arith))
line_lacks (ScriptLine.Stream host) h = decimal_lacks 10 host (omega arith) h
line_lacks (ScriptLine.NamedStream host name) h = lacks-append 10 (decimal host) (32 ∷ name.items) (decimal_lacks 10 host (omega arith) h.0) (name_lacks 10 name.items (omega arith) h.1)
line_lacks (ScriptLine.Load line) h = decimal_lacks 10 line (omega arith) h
line_lacks (ScriptLine.Word line place value) h =
    let first = lacks-append 10 (decimal line) (32 ∷ decimal place) (decimal_lacks 10 line (omega arith) h.0) (decimal_lacks 10 place (omega arith) h.1) in
    lacks-append 10 (decimal line ++ 32 ∷ decimal place) (32 ∷ hex (to_be_bytes w64 value)) first (hex_lacks 10 (to_be_bytes w64 value) (omega arith))
line_lacks (ScriptLine.Whole line bytes) h = lacks-append 10 (decimal line) (32 ∷ hex bytes.0) (decimal_lacks 10 line (omega arith) h.0) (hex_lacks 10 bytes.0 (omega arith))
line_lacks (ScriptLine.Pick pick) h = decimal_lacks 10 pick (omega arith) h

pub first_again : (l : ScriptLine) (rest : List ℕ) → IsSpelled l → first_line (line_bytes l ++ rest) ≡ Some (l, rest)
unfolding first_line
first_again l rest h =
    let split : line_bytes l ++ rest ≡ line_text l ++ 10 ∷ rest = append_assoc (line_text l) (10 ∷ []) rest in
    ap first_line split ∙ rw (parts_again 10 (line_text l) rest (line_lacks l h), line_again l h) refl

pub first_take : (text : List ℕ) (found : ScriptLine × List ℕ) → first_line text ≡ Some found → (text ≡ line_bytes found.0 ++ found.1) × IsSpelled found.0
unfolding first_line
first_take text found e =
    let a = bind_some (parts_at 10 text) (λ parts. line_in parts.0 >>= λ line. Some (line, parts.1)) found e in
    let b = bind_some (line_in a.0.0) (λ line. Some (line, a.0.1)) found a.2 in
    let line = line_take a.0.0 b.0 b.1 in
    let made : ScriptLine × List ℕ = (b.0, a.0.1) in
    let split : text ≡ line_bytes b.0 ++ a.0.1 = parts_take 10 text a.0 a.1 ∙ ap (λ (w : List ℕ). w ++ 10 ∷ a.0.1) line.0 ∙ sym (append_assoc (line_text b.0) (10 ∷ []) a.0.1) in
    subst (λ (x : ScriptLine × List ℕ). (text ≡ line_bytes x.0 ++ x.1) × IsSpelled x.0) (same_Some made found b.2) (split, line.1)
