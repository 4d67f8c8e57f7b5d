-- Numbers that are written are read back.
use Rattle.std.proofs.Common.{◌≡◌, ◌<◌, ◌≤◌, ◌+◌, ◌-◌, ◌*◌, ◌/◌, ◌%◌, ◌^◌, ◌==◌, ◌&&◌, ◌||◌, ◌⊎◌, not, ℕ, zero, suc, Bool, true, false, List, [], ◌∷◌, ◌++◌, length, replicate, get_or, Ok, Err, if◌then◌else◌, arith, refl, inl, inr, ap, ◌∙◌, sym, length-append}
use Rattle.std.proofs.Math.Nat.{pow-zero, pow-suc, div-add-mod', div-lt_iff_lt-mul}
use Rattle.std.specs.Char.{digit_value}
use Rattle.std.specs.Fmt.{decimal, digits, digits_onto, digit_glyph}
use Rattle.std.specs.List.{list_all}
use Rattle.std.specs.Str.Parse.{AllDigits, digits_value, digits_value_after}
use Rattle.std.proofs.lemmas.Bool.{cases_eq, and_from, and_parts, or_left, or_right, or_cases, not-true, not_from_false, le-leb, leb-true, lt-ltb, ltb-true, eq-eqb, eqb-true, ne_eqb}
use Rattle.std.proofs.lemmas.Fmt.{digits_is_IsNumeral, decimal-digits_value}
use Rattle.std.proofs.lemmas.List.{length-replicate}
use Rattle.std.proofs.lemmas.List.Folds.{list_all-append}
use Rattle.std.proofs.lemmas.Str.{digit_value_digit}
use Rattle.std.proofs.lemmas.Str.Parse.{digit_from_value, numerals_by_value, tells_digits}
use Rattle.n41_words.specs.Lines.{is_empty, begins_with}
use Rattle.n41_words.specs.Numbers.{is_digit, spelled, is_decimal, number, is_octal, octal}
use Rattle.n41_words.specs.declared.fault.LineKind.{LineKind}

-- ---- digits by their values

digit_by_value : (base c : ℕ) → base ≤ 10 → digit_value c < base → (is_digit base c ≡ true) × (digit_value c ≡ c - 48)
digit_by_value base c low h =
    let k = digit_from_value c (omega (arith, h)) in
    let e = digit_value_digit c k in
    (and_from _ _ (le-leb 48 c k.0) (lt-ltb c (48 + base) (omega (arith, e, h))), omega (arith, e))

value_by_digit : (c : ℕ) → is_digit 10 c ≡ true → digit_value c < 10
value_by_digit c h =
    let parts = and_parts _ _ h in
    let a = leb-true 48 c parts.0 in
    let b = ltb-true c (48 + 10) parts.1 in
    omega (arith, digit_value_digit c (a, omega (arith, b)))

all_digits : (base : ℕ) (ds : List ℕ) → base ≤ 10 → AllDigits base ds → list_all (is_digit base) ds ≡ true
all_digits base [] low h = refl
all_digits base (c ∷ cs) low h = and_from _ _ (digit_by_value base c low h.0).0 (all_digits base cs low h.1)

all_values : (ds : List ℕ) → list_all (is_digit 10) ds ≡ true → AllDigits 10 ds
all_values [] h = tt
all_values (c ∷ cs) h = let parts = and_parts _ _ h in (value_by_digit c parts.0, all_values cs parts.1)

spelled_is : (base n : ℕ) (ds : List ℕ) → base ≤ 10 → AllDigits base ds → spelled base n ds ≡ digits_value_after base n ds
spelled_is base n [] low h = refl
spelled_is base n (c ∷ cs) low h =
    ap (λ (m : ℕ). spelled base (n * base + m) cs) (sym (digit_by_value base c low h.0).1) ∙ spelled_is base (n * base + digit_value c) cs low h.1

-- ---- the digits of a number

glyph_is : (d : ℕ) → d < 10 → digit_glyph false d ≡ 48 + d
glyph_is d low = rw (lt-ltb d 10 low) refl

glyph_is_none : (d : ℕ) → 0 < d → d < 10 → (digit_glyph false d == 48) ≡ false
glyph_is_none d some low = let e = glyph_is d low in ne_eqb (digit_glyph false d) 48 (λ z. omega (arith, e, z))

-- the first digit of a number above 0 is no zero
first_of : (base : ℕ) → 2 ≤ base → base ≤ 10 → (k n : ℕ) (acc : List ℕ) → 0 < n → n < base ^ k → begins_with 48 (digits_onto k base false n acc) ≡ false
first_of base low high zero n acc some fits = absurd (omega (arith, pow-zero base))
first_of base low high (suc k) n acc some fits =
    let positive : 0 < base = omega arith in
    elim (cases_eq (n / base) 0) [
      | inl e ↦
          let whole = div-add-mod' n base in
          let none : n / base * base ≡ 0 * base = ap (λ (q : ℕ). q * base) e in
          let rest : n % base ≡ n = omega (arith, whole, none) in
          let small : n % base < base = omega arith in
          rw (eq-eqb (n / base) 0 e) (glyph_is_none (n % base) (omega (arith, rest)) (omega arith))
      | inr e ↦
          let front : n / base < base ^ k = (div-lt_iff_lt-mul positive).1 (omega (arith, pow-suc base k)) in
          rw (ne_eqb (n / base) 0 e) (first_of base low high k (n / base) (digit_glyph false (n % base) ∷ acc) (omega (arith, e)) front)
    ]

first_digit : (base n : ℕ) → 2 ≤ base → base ≤ 10 → 0 < n → n < base ^ 64 → begins_with 48 (digits base false n) ≡ false
unfolding digits
first_digit base n low high some fits = first_of base low high 64 n [] some fits

digits_of_none : (base : ℕ) → 2 ≤ base → digits base false 0 ≡ 48 ∷ []
unfolding digits
digits_of_none base low =
    let positive : 0 < base = omega arith in
    let none : 0 / base ≡ 0 = omega arith in
    let rest : 0 % base ≡ 0 = omega arith in
    rw (eq-eqb (0 / base) 0 none, rest) refl

-- no zero stands in front of another digit
has_no_zeros : (base n : ℕ) → 2 ≤ base → base ≤ 10 → n < base ^ 64 → (begins_with 48 (digits base false n) ≡ false) ⊎ (length (digits base false n) ≡ 1)
has_no_zeros base zero low high fits = inr (ap length (digits_of_none base low))
has_no_zeros base (suc n) low high fits = inl (first_digit base (suc n) low high (omega arith) fits)

-- the digits of a number, and what they spell
digits_spell : (base n : ℕ) → 2 ≤ base → base ≤ 10 → n < base ^ 64 →
    (0 < length (digits base false n)) × (list_all (is_digit base) (digits base false n) ≡ true) × (spelled base 0 (digits base false n) ≡ n)
digits_spell base n low high fits =
    let k = digits_is_IsNumeral base false low (omega arith) n fits in
    (k.0.0, all_digits base (digits base false n) high k.0.1, spelled_is base 0 (digits base false n) high k.0.1 ∙ k.1)

-- ---- in decimal

number_of : (limit n : ℕ) (word : List ℕ) → is_decimal word ≡ true → spelled 10 0 word ≡ n → n < limit → number limit word ≡ Ok n
number_of limit n word d e l = rw (e, d, lt-ltb n limit l) refl

is_filled : (word : List ℕ) → 0 < length word → not (is_empty word) ≡ true
is_filled [] h = absurd (omega arith)
is_filled (b ∷ bs) h = refl

no_zeros : (word : List ℕ) (n : ℕ) → (begins_with 48 word ≡ false) ⊎ (length word ≡ n) → (not (begins_with 48 word) || (length word == n)) ≡ true
no_zeros word n (inl h) = or_left _ _ (not_from_false _ h)
no_zeros word n (inr h) = or_right (not (begins_with 48 word)) _ (eq-eqb (length word) n h)

pub decimal_read : (limit n : ℕ) → n < limit → n < 2 ^ 64 → number limit (decimal n) ≡ Ok n
decimal_read limit n l small =
    let fits : n < 10 ^ 64 = omega arith in
    let k = digits_spell 10 n (omega arith) (omega arith) fits in
    let zeros = no_zeros (decimal n) 1 (has_no_zeros 10 n (omega arith) (omega arith) fits) in
    let form = and_from _ _ (and_from _ _ (is_filled (decimal n) k.0) k.1) zeros in
    number_of limit n (decimal n) form k.2 l

number_at : (b : Bool) (x n : ℕ) (k : LineKind) → (if b then Ok x else Err k) ≡ Ok n → (b ≡ true) × (x ≡ n)
number_at true x n k h = (refl, cc)
number_at false x n k h = absurd cc

one_zero : (word : List ℕ) → (not (begins_with 48 word) || (length word == 1)) ≡ true → get_or word 0 0 ≡ 48 → length word ≡ 1
one_zero [] h e = absurd (omega arith)
one_zero (b ∷ bs) h e = elim (or_cases (not (b == 48)) _ h) [
  | inl other ↦ absurd (let f = not-true (b == 48) other in let t = eq-eqb b 48 e in cc)
  | inr same ↦ eqb-true (length (b ∷ bs)) 1 same
]

has_length : (word : List ℕ) → not (is_empty word) ≡ true → 0 < length word
has_length [] h = absurd cc
has_length (b ∷ bs) h = omega arith

pub decimal_only : (limit n : ℕ) (word : List ℕ) → limit ≤ 2 ^ 64 → number limit word ≡ Ok n → (n < limit) × (word ≡ decimal n)
decimal_only limit n word small h =
    let read = number_at _ (spelled 10 0 word) n _ h in
    let parts = and_parts (is_decimal word) _ read.0 in
    let below = ltb-true (spelled 10 0 word) limit parts.1 in
    let form = and_parts (not (is_empty word) && list_all (is_digit 10) word) _ parts.0 in
    let digits_all = and_parts (not (is_empty word)) _ form.0 in
    let values = all_values word digits_all.1 in
    let value : digits_value 10 word ≡ spelled 10 0 word = sym (spelled_is 10 0 word (omega arith) values) in
    let back = decimal-digits_value (numerals_by_value _ tells_digits) word values (has_length word digits_all.0) (one_zero word form.1) (omega (arith, value, below)) in
    (omega (arith, below, read.1), sym back ∙ ap decimal (value ∙ read.1))

-- ---- in octal

octal_of : (limit n : ℕ) (word : List ℕ) → is_octal word ≡ true → spelled 8 0 word ≡ n → n < limit → octal limit word ≡ Ok n
octal_of limit n word o e l = rw (e, o, lt-ltb n limit l) refl

zeros_are_digits : (n : ℕ) → list_all (is_digit 8) (replicate n 48) ≡ true
zeros_are_digits zero = refl
zeros_are_digits (suc n) = zeros_are_digits n

zeros_spell_nothing : (n : ℕ) (ds : List ℕ) → spelled 8 0 (replicate n 48 ++ ds) ≡ spelled 8 0 ds
zeros_spell_nothing zero ds = refl
zeros_spell_nothing (suc n) ds = zeros_spell_nothing n ds

-- at least four digits, and no zero in front of four others
padded_form : (ds : List ℕ) (n : ℕ) → n ≡ 4 - length ds → list_all (is_digit 8) ds ≡ true → (begins_with 48 ds ≡ false) ⊎ (length ds ≡ 1) → is_octal (replicate n 48 ++ ds) ≡ true
padded_form ds zero e all zeros =
    let long : 4 ≤ length ds = omega (arith, e) in
    let front : (begins_with 48 ds ≡ false) ⊎ (length ds ≡ 4) = elim zeros [ inl h ↦ inl h | inr h ↦ absurd (omega (arith, h)) ] in
    and_from _ _ (and_from _ _ (le-leb 4 (length ds) long) all) (no_zeros ds 4 front)
padded_form ds (suc n) e all zeros =
    let word : List ℕ = replicate (suc n) 48 ++ ds in
    let long : length word ≡ 4 = omega (arith, e, length-append (replicate (suc n) 48) ds, length-replicate {A = ℕ} (suc n) 48) in
    let digits_all : list_all (is_digit 8) word ≡ true = list_all-append (is_digit 8) (replicate (suc n) 48) ds ∙ and_from _ _ (zeros_are_digits (suc n)) all in
    and_from _ _ (and_from _ _ (le-leb 4 (length word) (omega (arith, long))) digits_all) (no_zeros word 4 (inr long))

pub octal_read : (limit n : ℕ) → n < limit → n < 2 ^ 64 → octal limit (replicate (4 - length (digits 8 false n)) 48 ++ digits 8 false n) ≡ Ok n
octal_read limit n l small =
    let fits : n < 8 ^ 64 = omega arith in
    let ds : List ℕ = digits 8 false n in
    let k = digits_spell 8 n (omega arith) (omega arith) fits in
    let form = padded_form ds (4 - length ds) refl k.1 (has_no_zeros 8 n (omega arith) (omega arith) fits) in
    octal_of limit n (replicate (4 - length ds) 48 ++ ds) form (zeros_spell_nothing (4 - length ds) ds ∙ k.2) l
