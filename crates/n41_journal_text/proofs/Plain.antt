-- Words that are written are plain: they have a byte, no space and no control.
use Rattle.std.proofs.Common.{◌≡◌, ◌≢◌, ◌<◌, ◌≤◌, ◌-◌, ◌^◌, ◌==◌, ◌&&◌, ◌||◌, not, ℕ, zero, suc, Bool, true, false, List, [], ◌∷◌, ◌++◌, length, replicate, Option, Some, None, Ok, Err, if◌then◌else◌, nat_le, nat_lt, arith, refl, inl, inr, length-append}
use Rattle.std.specs.Prelude.{IfSome}
use Rattle.std.specs.Fmt.{decimal, digits}
use Rattle.std.specs.List.{list_all, list_any}
use Rattle.std.proofs.lemmas.Bool.{cases_Bool, and_parts, or_from, or_parts, leb-true}
use Rattle.std.proofs.lemmas.Bool.Decides.{nat_tests}
use Rattle.std.proofs.lemmas.List.Sums.{list_all-from_AllPass}
use Rattle.hex.specs.Hex.{IsBytes, encode_lower, encode_upper, is_hex_digit}
use Rattle.hex.proofs.HexLemmas.{decode_of-encode_lower, decode_of-encode_upper, decode_of-ok}
use Rattle.n41_words.specs.Lines.{is_empty, is_space}
use Rattle.n41_words.specs.Words.{is_control, has_control}
use Rattle.n41_words.specs.Numbers.{is_digit, is_decimal, is_octal, spelled}
use Rattle.n41_words.specs.declared.fault.LineKind.{LineKind}
use Rattle.n41_written.proofs.Words.{IsPlain}
use Rattle.n41_written.proofs.ReadBack.{decimal_read, octal_read}
use Rattle.n41_calls.specs.Text.{hex_or_dash, decimal_or_dash, mode_text, name_byte, name_text}

-- neither a space nor a control
abbrev IsPlainByte : ℕ → Type 0
IsPlainByte b = (is_space b ≡ false) × (is_control b ≡ false)

abbrev ArePlain : List ℕ → Type 0
ArePlain bs = (list_any is_space bs ≡ false) × (has_control bs ≡ false)

plain_more : (b : ℕ) (bs : List ℕ) → IsPlainByte b → ArePlain bs → ArePlain (b ∷ bs)
plain_more b bs h k = (or_from (is_space b) (list_any is_space bs) h.0 k.0, or_from (is_control b) (has_control bs) h.1 k.1)

plain_append : (xs ys : List ℕ) → ArePlain xs → ArePlain ys → ArePlain (xs ++ ys)
plain_append [] ys h k = k
plain_append (x ∷ xs) ys h k =
    let s = or_parts (is_space x) (list_any is_space xs) h.0 in
    let c = or_parts (is_control x) (has_control xs) h.1 in
    plain_more x (xs ++ ys) (s.0, c.0) (plain_append xs ys (s.1, c.1) k)

filled : (w : List ℕ) → 0 < length w → is_empty w ≡ false
filled [] h = absurd (omega arith)
filled (b ∷ bs) h = refl

pub plain_word : (w : List ℕ) → 0 < length w → ArePlain w → IsPlain w
plain_word w some h = record { word = record { filled = filled w some; whole = h.0 }; plain = h.1 }

-- ---- numbers

digit_plain : (base c : ℕ) → base ≤ 10 → is_digit base c ≡ true → IsPlainByte c
digit_plain base c low h = grind (arith, nat_tests)

digits_plain : (base : ℕ) (ds : List ℕ) → base ≤ 10 → list_all (is_digit base) ds ≡ true → ArePlain ds
digits_plain base [] low h = (refl, refl)
digits_plain base (c ∷ cs) low h =
    let parts = and_parts (is_digit base c) (list_all (is_digit base) cs) h in
    plain_more c cs (digit_plain base c low parts.0) (digits_plain base cs low parts.1)

tested : (b : Bool) (x n : ℕ) (k : LineKind) → (if b then Ok x else Err k) ≡ Ok n → b ≡ true
tested true x n k h = refl
tested false x n k h = absurd cc

has_one : (word : List ℕ) → (is_empty word ≡ false) → 0 < length word
has_one [] h = absurd cc
has_one (b ∷ bs) h = omega arith

not_true : (b : Bool) → not b ≡ true → b ≡ false
not_true true h = absurd cc
not_true false h = refl

pub decimal_plain : (n : ℕ) → n < 2 ^ 64 → IsPlain (decimal n)
decimal_plain n small =
    let word : List ℕ = decimal n in
    let read = decimal_read (2 ^ 64) n small small in
    let form = (and_parts (is_decimal word) (nat_lt (spelled 10 0 word) (2 ^ 64)) (tested (is_decimal word && nat_lt (spelled 10 0 word) (2 ^ 64)) (spelled 10 0 word) n _ read)).0 in
    let front = (and_parts (not (is_empty word) && list_all (is_digit 10) word) _ form).0 in
    let parts = and_parts (not (is_empty word)) (list_all (is_digit 10) word) front in
    plain_word word (has_one word (not_true (is_empty word) parts.0)) (digits_plain 10 word (omega arith) parts.1)

pub octal_plain : (n : ℕ) → n < 2 ^ 64 → IsPlain (replicate (4 - length (digits 8 false n)) 48 ++ digits 8 false n)
octal_plain n small =
    let word : List ℕ = replicate (4 - length (digits 8 false n)) 48 ++ digits 8 false n in
    let read = octal_read (2 ^ 64) n small small in
    let form = (and_parts (is_octal word) (nat_lt (spelled 8 0 word) (2 ^ 64)) (tested (is_octal word && nat_lt (spelled 8 0 word) (2 ^ 64)) (spelled 8 0 word) n _ read)).0 in
    let front = (and_parts (nat_le 4 (length word) && list_all (is_digit 8) word) _ form).0 in
    let parts = and_parts (nat_le 4 (length word)) (list_all (is_digit 8) word) front in
    plain_word word (omega (arith, leb-true 4 (length word) parts.0)) (digits_plain 8 word (omega arith) parts.1)

pub optional_plain : (o : Option ℕ) → IfSome o (λ n. n < 2 ^ 64) → IsPlain (decimal_or_dash o)
optional_plain None h = record { word = record { filled = refl; whole = refl }; plain = refl }
optional_plain (Some n) h = decimal_plain n h

pub mode_plain : (o : Option ℕ) → IfSome o (λ n. n < 2 ^ 32) → IsPlain (mode_text o)
mode_plain None h = record { word = record { filled = refl; whole = refl }; plain = refl }
mode_plain (Some n) h = octal_plain n (omega (arith, h))

-- ---- bytes

hex_digit_plain : (c : ℕ) → is_hex_digit c ≡ true → IsPlainByte c
hex_digit_plain c h = grind (arith, nat_tests)

hex_digits_plain : (ds : List ℕ) → list_all is_hex_digit ds ≡ true → ArePlain ds
hex_digits_plain [] h = (refl, refl)
hex_digits_plain (c ∷ cs) h =
    let parts = and_parts (is_hex_digit c) (list_all is_hex_digit cs) h in
    plain_more c cs (hex_digit_plain c parts.0) (hex_digits_plain cs parts.1)

some_bytes : (bytes : List ℕ) → bytes ≢ [] → 0 < length bytes
some_bytes [] h = absurd (h refl)
some_bytes (b ∷ bs) h = omega arith

pub hex_plain : (bytes : List ℕ) → IsBytes bytes → bytes ≢ [] → IsPlain (encode_lower bytes)
hex_plain bytes fits some =
    let e = decode_of-ok (encode_lower bytes) bytes (decode_of-encode_lower bytes fits) in
    plain_word (encode_lower bytes) (omega (arith, e.2, some_bytes bytes some)) (hex_digits_plain (encode_lower bytes) (list_all-from_AllPass is_hex_digit (encode_lower bytes) e.1))

pub data_plain : (bytes : List ℕ) → IsBytes bytes → IsPlain (hex_or_dash bytes)
data_plain [] fits = record { word = record { filled = refl; whole = refl }; plain = refl }
data_plain (b ∷ bs) fits = hex_plain (b ∷ bs) fits (λ e. absurd cc)

-- ---- names

one_byte : (b : ℕ) → b < 256 → IsBytes (b ∷ [])
one_byte b small zero = small
one_byte b small (suc i) = omega arith

upper_plain : (b : ℕ) → b < 256 → ArePlain (encode_upper (b ∷ []))
upper_plain b small =
    let e = decode_of-ok (encode_upper (b ∷ [])) (b ∷ []) (decode_of-encode_upper (b ∷ []) (one_byte b small)) in
    hex_digits_plain (encode_upper (b ∷ [])) (list_all-from_AllPass is_hex_digit (encode_upper (b ∷ [])) e.1)

kept_plain : (b : ℕ) → (nat_lt b 33 || nat_lt 126 b || (b == 37)) ≡ false → IsPlainByte b
kept_plain b h = grind (arith, nat_tests)

byte_plain : (b : ℕ) → b < 256 → ArePlain (name_byte b)
byte_plain b small = elim (cases_Bool (nat_lt b 33 || nat_lt 126 b || (b == 37))) [
  | inl e ↦ rw e (plain_more 37 (encode_upper (b ∷ [])) (refl, refl) (upper_plain b small))
  | inr e ↦ rw e (plain_more b [] (kept_plain b e) (refl, refl))
]

bytes_plain : (name : List ℕ) → IsBytes name → ArePlain (name_text name)
bytes_plain [] fits = (refl, refl)
bytes_plain (b ∷ bs) fits = plain_append (name_byte b) (name_text bs) (byte_plain b (fits 0)) (bytes_plain bs (λ i. fits (suc i)))

byte_some : (b : ℕ) → 0 < length (name_byte b)
byte_some b = elim (cases_Bool (nat_lt b 33 || nat_lt 126 b || (b == 37))) [
  | inl e ↦ rw e (omega arith)
  | inr e ↦ rw e (omega arith)
]

name_some : (name : List ℕ) → name ≢ [] → 0 < length (name_text name)
name_some [] h = absurd (h refl)
name_some (b ∷ bs) h = omega (arith, length-append (name_byte b) (name_text bs), byte_some b)

pub name_plain : (name : List ℕ) → IsBytes name → name ≢ [] → IsPlain (name_text name)
name_plain name fits some = plain_word (name_text name) (name_some name some) (bytes_plain name fits)
