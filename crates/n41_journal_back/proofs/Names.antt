-- A name that is told is read as the same.
use Rattle.std.proofs.Common.{◌≡◌, ◌<◌, ◌+◌, ◌*◌, ◌/◌, ◌%◌, ◌==◌, ◌||◌, ℕ, zero, suc, Bool, true, false, List, [], ◌∷◌, ◌++◌, Option, Some, Ok, nat_lt, arith, refl, ap, ◌∙◌, inl, inr}
use Rattle.std.specs.Prelude.{slice_index}
use Rattle.std.proofs.lemmas.Bool.{cases_Bool}
use Rattle.std.proofs.lemmas.Bool.Decides.{nat_tests}
use Rattle.hex.specs.Hex.{IsBytes, upper_digits, encode_upper, encode_with}
use Rattle.n41_calls.specs.Text.{name_byte, name_text}
use Rattle.n41_journal_words.specs.Names.{is_plain, plain, digit, pair, escaped, in_front, name_of}

-- ---- digits

digit_back : (k : ℕ) → k < 16 → digit (slice_index upper_digits k) ≡ Some k
digit_back zero h = refl
digit_back (suc zero) h = refl
digit_back (suc (suc zero)) h = refl
digit_back (suc (suc (suc zero))) h = refl
digit_back (suc (suc (suc (suc zero)))) h = refl
digit_back (suc (suc (suc (suc (suc zero))))) h = refl
digit_back (suc (suc (suc (suc (suc (suc zero)))))) h = refl
digit_back (suc (suc (suc (suc (suc (suc (suc zero))))))) h = refl
digit_back (suc (suc (suc (suc (suc (suc (suc (suc zero)))))))) h = refl
digit_back (suc (suc (suc (suc (suc (suc (suc (suc (suc zero))))))))) h = refl
digit_back (suc (suc (suc (suc (suc (suc (suc (suc (suc (suc zero)))))))))) h = refl
digit_back (suc (suc (suc (suc (suc (suc (suc (suc (suc (suc (suc zero))))))))))) h = refl
digit_back (suc (suc (suc (suc (suc (suc (suc (suc (suc (suc (suc (suc zero)))))))))))) h = refl
digit_back (suc (suc (suc (suc (suc (suc (suc (suc (suc (suc (suc (suc (suc zero))))))))))))) h = refl
digit_back (suc (suc (suc (suc (suc (suc (suc (suc (suc (suc (suc (suc (suc (suc zero)))))))))))))) h = refl
digit_back (suc (suc (suc (suc (suc (suc (suc (suc (suc (suc (suc (suc (suc (suc (suc zero))))))))))))))) h = refl
digit_back (suc (suc (suc (suc (suc (suc (suc (suc (suc (suc (suc (suc (suc (suc (suc (suc n)))))))))))))))) h = absurd (omega arith)

-- two digits are a byte
whole : (b : ℕ) → b < 256 → pair (digit (slice_index upper_digits (b / 16))) (digit (slice_index upper_digits (b % 16))) ≡ Some b
whole b small =
    let high : b / 16 < 16 = omega arith in
    let low : b % 16 < 16 = omega arith in
    let sum : 16 * (b / 16) + b % 16 ≡ b = omega arith in
    rw (digit_back (b / 16) high, digit_back (b % 16) low) (ap Some sum)

-- ---- bytes

abbrev is_told_by_digits : ℕ → Bool
is_told_by_digits b = nat_lt b 33 || nat_lt 126 b || (b == 37)

is_plain_not : (b : ℕ) → is_told_by_digits b ≡ true → is_plain b ≡ false
is_plain_not b e = grind (arith, nat_tests)

is_plain_so : (b : ℕ) → is_told_by_digits b ≡ false → (is_plain b ≡ true) × ((b == 37) ≡ false)
is_plain_so b e = (grind (arith, nat_tests), grind (arith, nat_tests))

by_itself : (b : ℕ) (text : List ℕ) → (b == 37) ≡ false → name_of (b ∷ text) ≡ in_front (plain b) (name_of text)
by_itself b [] e = refl
by_itself b (c ∷ []) e = refl
by_itself b (c ∷ d ∷ text) e = rw e refl

by_digits : (b : ℕ) (text : List ℕ) → b < 256 → is_plain b ≡ false → name_of (37 ∷ (encode_upper (b ∷ []) ++ text)) ≡ in_front (Ok b) (name_of text)
unfolding encode_with
by_digits b text small e =
    ap (λ (o : Option ℕ). in_front (escaped o) (name_of text)) (whole b small)
    ∙ rw e refl

byte_back : (b : ℕ) (text : List ℕ) → b < 256 → name_of (name_byte b ++ text) ≡ in_front (Ok b) (name_of text)
byte_back b text small = elim (cases_Bool (is_told_by_digits b)) [
  | inl e ↦ rw e (by_digits b text small (is_plain_not b e))
  | inr e ↦ let p = is_plain_so b e in rw e (by_itself b text p.1 ∙ rw p.0 refl)
]

pub name_back : (name : List ℕ) → IsBytes name → name_of (name_text name) ≡ Ok name
name_back [] fits = refl
name_back (b ∷ bs) fits =
    byte_back b (name_text bs) (fits 0) ∙ rw (name_back bs (λ i. fits (suc i))) refl
