-- A word that is read is the word that is spelled so, and what is spelled so is read.
use Rattle.std.proofs.Common.{◌≡◌, ◌⊎◌, ℕ, zero, suc, ◌+◌, ◌-◌, ◌*◌, ◌/◌, ◌%◌, ◌^◌, ◌<◌, ◌≤◌, Bool, true, false, IsTrue, cond, List, [], ◌∷◌, ◌++◌, length, get_or, take, drop, Option, Some, None, refl, sym, ap, subst, ◌∙◌, inl, inr, arith}
use Rattle.std.specs.Prelude.{◌==◌, ◌&&◌, ◌||◌, not, nat_lt, nat_le}
use Rattle.std.specs.List.{list_all, position, position_or_len}
use Rattle.std.specs.Option.{option_map}
use Rattle.std.specs.Fmt.{decimal, digit_glyph}
use Rattle.std.specs.Str.{all_ascii_digits}
use Rattle.std.specs.Str.Parse.{digits_value}
use Rattle.std.proofs.lemmas.Bool.{and_parts, and_from, or_parts, or_cases, not-true, not_from_false, ltb-false, ltb-true, le-ltb, lt-ltb, eqb-true, eqb-false, eq-eqb, ne_eqb, leb-true, le-leb, lt-leb, cases_lt, cond-true, cond-false, and_right, or_from, and_cases}
use Rattle.std.proofs.lemmas.List.{drop_more, take-append-drop, take_at, drop_at, get_or_at, get_or_append_left, length-append}
use Rattle.std.proofs.lemmas.List.Quantifiers.{position-Some}
use Rattle.std.proofs.lemmas.List.Sums.{position_or_len_is}
use Rattle.std.proofs.lemmas.List.Folds.{list_all-append}
use Rattle.std.proofs.lemmas.Str.Parse.{digits_value_short}
use Rattle.std.proofs.lemmas.Fmt.{decimal_digit, decimal_nonempty, length-decimal-le, first_decimal, digits_decimal, digits_value-decimal, decimal-digits_value}
use Rattle.std.proofs.lemmas.Option.{cond_some, same_Some, none-some}
use Rattle.script_text.specs.Spelling.{hex}
use Rattle.cxl_message.specs.Names.{is_name, is_name_byte}
use Rattle.script_text.specs.Words.{◌>>=◌, parts_at, are_digits, number_in, name_in, digit_in, byte_in, bytes_in, just_bytes_in}
use Rattle.script_text.proofs.Numbers.{own, digit_there}

-- the value of a step that found one
pub bind_some : {A B : Type 0} (o : Option A) (f : A → Option B) (y : B) → (o >>= f) ≡ Some y → (x : A) × (o ≡ Some x) × (f x ≡ Some y)
bind_some (Some x) f y e = (x, refl, e)
bind_some None f y e = absurd cc

-- ---- parts

-- no such byte stands there
abbrev pub Lacks : ℕ → List ℕ → Type 0
Lacks byte bytes = IsTrue (list_all (λ b. not (b == byte)) bytes)

pub parts_take : (byte : ℕ) (bytes : List ℕ) (parts : List ℕ × List ℕ) → parts_at byte bytes ≡ Some parts → bytes ≡ parts.0 ++ byte ∷ parts.1
unfolding parts_at
parts_take byte bytes parts e =
    let b = bind_some (position (λ b. b == byte) bytes) (λ place. Some (take place bytes, drop (place + 1) bytes)) parts (option_map_is _ _ ∙ e) in
    let place = b.0 in
    let there = position-Some (λ b. b == byte) bytes place byte b.1 in
    let same : (take place bytes, drop (place + 1) bytes) ≡ parts = same_Some _ _ b.2 in
    let byte-is : get_or bytes place byte ≡ byte = eqb-true _ _ there.1 in
    let split : bytes ≡ take place bytes ++ byte ∷ drop (place + 1) bytes = sym (take-append-drop place bytes) ∙ ap (λ (xs : List ℕ). take place bytes ++ xs) (drop_more bytes place byte there.0 ∙ ap (λ b. b ∷ drop (place + 1) bytes) byte-is) in
    subst (λ (p : List ℕ × List ℕ). bytes ≡ p.0 ++ byte ∷ p.1) same split
  where
    option_map_is : {A B : Type 0} (f : A → B) (o : Option A) → (o >>= λ x. Some (f x)) ≡ option_map f o
    option_map_is f (Some x) = refl
    option_map_is f None = refl

lacks_at : (byte : ℕ) (bytes : List ℕ) (k d : ℕ) → Lacks byte bytes → k < length bytes → (get_or bytes k d == byte) ≡ false
lacks_at byte [] k d lacks below = absurd (omega arith)
lacks_at byte (b ∷ bytes) zero d lacks below = not-true _ (and_parts _ _ lacks).0
lacks_at byte (b ∷ bytes) (suc k) d lacks below = lacks_at byte bytes k d (and_parts _ _ lacks).1 (omega arith)

pub parts_again : (byte : ℕ) (front rest : List ℕ) → Lacks byte front → parts_at byte (front ++ byte ∷ rest) ≡ Some (front, rest)
unfolding parts_at
parts_again byte front rest lacks =
    let bytes = front ++ byte ∷ rest in
    let n = length front in
    let len : length bytes ≡ n + 1 + length rest = omega (arith, length-append front (byte ∷ rest)) in
    let before : (k : ℕ) → k < n → (get_or bytes k 0 == byte) ≡ false = λ k below. rw (get_or_append_left front (byte ∷ rest) 0 k below) (lacks_at byte front k 0 lacks below) in
    let there : n < length bytes → (get_or bytes n 0 == byte) ≡ true = λ _. eq-eqb _ _ (get_or_at front byte rest 0 n refl) in
    let place : position_or_len (λ b. b == byte) bytes ≡ n = position_or_len_is (λ b. b == byte) bytes n 0 (omega arith) before there in
    let found : position (λ b. b == byte) bytes ≡ Some n = rw place (cond-true (nat_lt n (length bytes)) (Some n) None (lt-ltb n (length bytes) (omega arith))) in
    let whole : drop n bytes ≡ byte ∷ rest = drop_at front (byte ∷ rest) n refl in
    let more : drop n bytes ≡ get_or bytes n byte ∷ drop (n + 1) bytes = drop_more bytes n byte (omega arith) in
    let after : drop (n + 1) bytes ≡ rest = cc in
    rw (found, take_at front (byte ∷ rest) n refl, after) refl

-- a text without such a byte has no parts
pub no_parts : (byte : ℕ) (text : List ℕ) → Lacks byte text → parts_at byte text ≡ None
unfolding parts_at
no_parts byte text lacks =
    let before : (k : ℕ) → k < length text → (get_or text k 0 == byte) ≡ false = λ k below. lacks_at byte text k 0 lacks below in
    let none : position_or_len (λ b. b == byte) text ≡ length text = position_or_len_is (λ b. b == byte) text (length text) 0 (omega arith) before (λ below. absurd (omega arith)) in
    let not_found : position (λ b. b == byte) text ≡ None = rw none (cond-false (nat_lt (length text) (length text)) (Some (length text)) None (le-ltb (length text) (length text) (omega arith))) in
    rw not_found refl

-- ---- numbers

pub number_take : (word : List ℕ) (n : ℕ) → number_in word ≡ Some n → (word ≡ decimal n) × (n < 10 ^ 10)
unfolding number_in
number_take word n e =
    let found = cond_some (are_digits word) (digits_value 10 word) n e in
    let one = and_parts _ _ found.0 in
    let two = and_parts _ _ one.0 in
    let sizes = or_parts _ _ (not-true _ two.0) in
    let few : length word ≤ 10 = ltb-false _ _ sizes.1 in
    let some : 0 < length word = let no : length word ≡ 0 → ⊥ = eqb-false _ _ sizes.0 in omega arith in
    let below = digits_value_short own word 10 one.1 few in
    let no_zero : get_or word 0 0 ≡ 48 → length word ≡ 1 = λ z. elim (and_cases _ _ (not-true _ two.1)) [
      | inl short ↦ let most : length word ≤ 1 = ltb-false _ _ short in omega arith
      | inr other ↦ absurd (eqb-false _ _ other z)
    ] in
    let again = decimal-digits_value own word one.1 some no_zero (omega arith) in
    (subst (λ m. word ≡ decimal m) found.1 (sym again), subst (λ m. m < 10 ^ 10) found.1 below)

leads : (n : ℕ) → n < 2 ^ 64 → (nat_lt 1 (length (decimal n)) && (get_or (decimal n) 0 0 == 48)) ≡ false
leads zero below = rw (decimal_digit 0 (omega arith)) refl
leads (suc n) below =
    let first = first_decimal (suc n) (omega arith) below in
    and_right _ _ (ne_eqb (get_or (decimal (suc n)) 0 0) 48 (λ e. omega arith))

pub decimal_digits : (n : ℕ) → n < 2 ^ 64 → all_ascii_digits (decimal n) ≡ true
decimal_digits n below = digits_decimal own n below

pub number_again : (n : ℕ) → n < 10 ^ 10 → number_in (decimal n) ≡ Some n
unfolding number_in
number_again n below =
    let some = decimal_nonempty n (omega arith) in
    let few = length-decimal-le 10 n (omega arith) below (omega arith) in
    let sizes = or_from _ _ (ne_eqb (length (decimal n)) 0 (λ e. omega arith)) (le-ltb 10 (length (decimal n)) few) in
    let digits : are_digits (decimal n) ≡ true = and_from _ _ (and_from _ _ (not_from_false _ sizes) (not_from_false _ (leads n (omega arith)))) (decimal_digits n (omega arith)) in
    cond-true (are_digits (decimal n)) _ _ digits ∙ ap (λ (m : ℕ). Some m) (digits_value-decimal own n (omega arith))

-- digits aren't the bytes below them
digits_lack : (byte : ℕ) (word : List ℕ) → byte < 48 → all_ascii_digits word ≡ true → Lacks byte word
digits_lack byte [] low digits = refl
digits_lack byte (d ∷ word) low digits =
    let digit = digit_there (d ∷ word) 0 digits (omega arith) in
    let least : 48 ≤ d = digit.0 in
    and_from _ _ (not_from_false _ (ne_eqb d byte (λ e. omega arith))) (digits_lack byte word low (and_parts _ _ digits).1)

pub decimal_lacks : (byte n : ℕ) → byte < 48 → n < 10 ^ 10 → Lacks byte (decimal n)
decimal_lacks byte n low below = digits_lack byte (decimal n) low (decimal_digits n (omega arith))

-- ---- names

pub name_again : (name : List ℕ) → IsTrue (is_name name) → name_in name ≡ Some name
name_again name is = cond-true (is_name name) _ _ is

pub name_take : (word name : List ℕ) → name_in word ≡ Some name → (word ≡ name) × IsTrue (is_name name)
name_take word name e =
    let found = cond_some (is_name word) word name e in
    (found.1, subst (λ (x : List ℕ). IsTrue (is_name x)) found.1 found.0)

-- a byte of a name is no byte below the digits
letter_above : (byte : ℕ) → is_name_byte byte ≡ true → 48 ≤ byte
letter_above byte is = elim (or_cases (nat_le 97 byte && nat_le byte 122) ((nat_le 48 byte && nat_le byte 57) || byte == 95) is) [
  | inl letter ↦ let least = leb-true 97 byte (and_parts (nat_le 97 byte) (nat_le byte 122) letter).0 in omega arith
  | inr other ↦ elim (or_cases (nat_le 48 byte && nat_le byte 57) (byte == 95) other) [
    | inl digit ↦ leb-true 48 byte (and_parts (nat_le 48 byte) (nat_le byte 57) digit).0
    | inr underscore ↦ let same = eqb-true byte 95 underscore in omega arith
  ]
]

letters_lack : (byte : ℕ) (name : List ℕ) → byte < 48 → list_all is_name_byte name ≡ true → Lacks byte name
letters_lack byte [] low are = refl
letters_lack byte (b ∷ name) low are =
    let parts = and_parts _ _ are in
    let above = letter_above b parts.0 in
    and_from _ _ (not_from_false _ (ne_eqb b byte (λ e. omega arith))) (letters_lack byte name low parts.1)

pub name_lacks : (byte : ℕ) (name : List ℕ) → byte < 48 → IsTrue (is_name name) → Lacks byte name
name_lacks byte name low is = letters_lack byte name low (and_parts _ _ is).1

-- ---- bytes

glyph_above : (d : ℕ) → 48 ≤ digit_glyph false d
glyph_above d = elim (cases_lt d 10) [
  | inl lt ↦ rw (cond-true (nat_lt d 10) (48 + d) (87 + d) (lt-ltb d 10 lt)) (omega arith)
  | inr le ↦ rw (cond-false (nat_lt d 10) (48 + d) (87 + d) (le-ltb d 10 le)) (omega arith)
]

pub digit_again : (d : ℕ) → d < 16 → digit_in (digit_glyph false d) ≡ Some d
unfolding digit_in
digit_again d below = elim (cases_lt d 10) [
  | inl lt ↦
      let is : (nat_le 48 (48 + d) && nat_le (48 + d) 57) ≡ true = and_from _ _ (le-leb 48 (48 + d) (omega arith)) (le-leb (48 + d) 57 (omega arith)) in
      let value : 48 + d - 48 ≡ d = omega arith in
      rw (cond-true (nat_lt d 10) (48 + d) (87 + d) (lt-ltb d 10 lt), is, value) refl
  | inr le ↦
      let other : (nat_le 48 (87 + d) && nat_le (87 + d) 57) ≡ false = and_right _ _ (lt-leb (87 + d) 57 (omega arith)) in
      let is : (nat_le 97 (87 + d) && nat_le (87 + d) 102) ≡ true = and_from _ _ (le-leb 97 (87 + d) (omega arith)) (le-leb (87 + d) 102 (omega arith)) in
      let value : 87 + d - 87 ≡ d = omega arith in
      rw (cond-false (nat_lt d 10) (48 + d) (87 + d) (le-ltb d 10 le), other, is, value) refl
]

-- which side was chosen
pub chosen : {A : Type 0} (b : Bool) (x y z : A) → cond b x y ≡ z → ((b ≡ true) × (x ≡ z)) ⊎ ((b ≡ false) × (y ≡ z))
chosen true x y z e = inl (refl, e)
chosen false x y z e = inr (refl, e)

low_digit : (c d : ℕ) → 48 ≤ c → c ≤ 57 → c - 48 ≡ d → (c ≡ digit_glyph false d) × (d < 16)
low_digit c d least most e = (rw (cond-true (nat_lt d 10) (48 + d) (87 + d) (lt-ltb d 10 (omega arith))) (omega arith), omega arith)

high_digit : (c d : ℕ) → 97 ≤ c → c ≤ 102 → c - 87 ≡ d → (c ≡ digit_glyph false d) × (d < 16)
high_digit c d least most e = (rw (cond-false (nat_lt d 10) (48 + d) (87 + d) (le-ltb d 10 (omega arith))) (omega arith), omega arith)

pub digit_take : (c d : ℕ) → digit_in c ≡ Some d → (c ≡ digit_glyph false d) × (d < 16)
unfolding digit_in
digit_take c d e = elim (chosen (nat_le 48 c && nat_le c 57) (Some (c - 48)) _ (Some d) e) [
  | inl low ↦ let is = and_parts _ _ low.0 in low_digit c d (leb-true 48 c is.0) (leb-true c 57 is.1) (same_Some _ _ low.1)
  | inr rest ↦
      let high = cond_some (nat_le 97 c && nat_le c 102) (c - 87) d rest.1 in
      let is = and_parts _ _ high.0 in
      high_digit c d (leb-true 97 c is.0) (leb-true c 102 is.1) high.1
]

pub byte_again : (byte : ℕ) → byte < 256 → byte_in (digit_glyph false (byte / 16)) (digit_glyph false (byte % 16)) ≡ Some byte
unfolding byte_in
byte_again byte below =
    let high = digit_again (byte / 16) (omega arith) in
    let low = digit_again (byte % 16) (omega arith) in
    let value : 16 * (byte / 16) + byte % 16 ≡ byte = omega arith in
    rw (high, low, value) refl

pub byte_take : (a b byte : ℕ) → byte_in a b ≡ Some byte → (a ≡ digit_glyph false (byte / 16)) × (b ≡ digit_glyph false (byte % 16)) × (byte < 256)
unfolding byte_in
byte_take a b byte e =
    let one = bind_some (digit_in a) (λ h. digit_in b >>= λ l. Some (16 * h + l)) byte e in
    let two = bind_some (digit_in b) (λ l. Some (16 * one.0 + l)) byte one.2 in
    let value : 16 * one.0 + two.0 ≡ byte = same_Some _ _ two.2 in
    let high = digit_take a one.0 one.1 in
    let low = digit_take b two.0 two.1 in
    let h : one.0 ≡ byte / 16 = omega arith in
    let l : two.0 ≡ byte % 16 = omega arith in
    (high.0 ∙ ap (λ d. digit_glyph false d) h, low.0 ∙ ap (λ d. digit_glyph false d) l, omega arith)

-- numbers that are bytes
abbrev pub AreBytes : List ℕ → Type 0
AreBytes bytes = IsTrue (list_all (λ byte. nat_lt byte 256) bytes)

pub bytes_again : (bytes : List ℕ) → AreBytes bytes → bytes_in (hex bytes) ≡ Some bytes
bytes_again [] are = refl
bytes_again (byte ∷ bytes) are =
    let parts = and_parts _ _ are in
    rw (byte_again byte (ltb-true byte 256 parts.0), bytes_again bytes parts.1) refl

spelled_pair : (a b x y : ℕ) (word rest : List ℕ) → a ≡ x → b ≡ y → word ≡ rest → a ∷ b ∷ word ≡ x ∷ y ∷ rest
spelled_pair a b x y word rest p q r = cc

pub bytes_take : (word bytes : List ℕ) → bytes_in word ≡ Some bytes → (word ≡ hex bytes) × AreBytes bytes × (length word ≡ 2 * length bytes)
bytes_take [] bytes e = subst (λ (xs : List ℕ). ([] ≡ hex xs) × AreBytes xs × (0 ≡ 2 * length xs)) (same_Some _ _ e) (refl, refl, refl)
bytes_take (a ∷ []) bytes e = absurd cc
bytes_take (a ∷ b ∷ word) bytes e =
    let one = bind_some (byte_in a b) (λ byte. bytes_in word >>= λ tail. Some (byte ∷ tail)) bytes e in
    let two = bind_some (bytes_in word) (λ tail. Some (one.0 ∷ tail)) bytes one.2 in
    let byte = byte_take a b one.0 one.1 in
    let more = bytes_take word two.0 two.1 in
    let spelled : a ∷ b ∷ word ≡ hex (one.0 ∷ two.0) = spelled_pair _ _ _ _ _ _ byte.0 byte.1 more.0 in
    subst (λ (xs : List ℕ). (a ∷ b ∷ word ≡ hex xs) × AreBytes xs × (length (a ∷ b ∷ word) ≡ 2 * length xs)) (same_Some _ _ two.2) (spelled, and_from _ _ (lt-ltb one.0 256 byte.2) more.1, omega (arith, more.2))

pub length-hex : (bytes : List ℕ) → length (hex bytes) ≡ 2 * length bytes
length-hex [] = refl
length-hex (byte ∷ bytes) = omega (arith, length-hex bytes)

pub just_bytes_again : (n : ℕ) (bytes : List ℕ) → length bytes ≡ n → AreBytes bytes → just_bytes_in n (hex bytes) ≡ Some bytes
unfolding just_bytes_in
just_bytes_again n bytes len are =
    cond-true (length (hex bytes) == 2 * n) _ _ (eq-eqb _ _ (omega (arith, length-hex bytes))) ∙ bytes_again bytes are

pub just_bytes_take : (n : ℕ) (word bytes : List ℕ) → just_bytes_in n word ≡ Some bytes → (word ≡ hex bytes) × AreBytes bytes × (length bytes ≡ n)
unfolding just_bytes_in
just_bytes_take n word bytes e = elim (chosen (length word == 2 * n) (bytes_in word) None (Some bytes) e) [
  | inl is ↦ let read = bytes_take word bytes is.1 in let len = eqb-true _ _ is.0 in (read.0, read.1, omega (arith, read.2))
  | inr is ↦ absurd (none-some bytes is.1)
]

-- hexadecimal digits aren't the bytes below them
pub hex_lacks : (byte : ℕ) (bytes : List ℕ) → byte < 48 → Lacks byte (hex bytes)
hex_lacks byte [] low = refl
hex_lacks byte (b ∷ bytes) low =
    let high = glyph_above (b / 16) in
    let rest = glyph_above (b % 16) in
    and_from _ _ (not_from_false _ (ne_eqb (digit_glyph false (b / 16)) byte (λ e. omega arith)))
    (and_from _ _ (not_from_false _ (ne_eqb (digit_glyph false (b % 16)) byte (λ e. omega arith))) (hex_lacks byte bytes low))

pub lacks-append : (byte : ℕ) (front rest : List ℕ) → Lacks byte front → Lacks byte rest → Lacks byte (front ++ rest)
lacks-append byte front rest p q = list_all-append (λ b. not (b == byte)) front rest ∙ and_from _ _ p q
