-- A word that is written is read as the same.
use Rattle.std.proofs.Common.{◌≡◌, ◌<◌, ◌^◌, ℕ, false, List, [], ◌∷◌, Option, Some, None, Result, Ok, Err, refl, arith, ap, ◌∙◌, sym, inl, inr, length}
use Rattle.std.specs.Prelude.{IfSome, codes}
use Rattle.std.specs.Cmp.Lexicographic.{bytes_decides}
use Rattle.std.proofs.lemmas.Bool.{cases_Bool}
use Rattle.hex.proofs.HexLemmas.{length-encode_with}
use Rattle.std.specs.Fmt.{decimal}
use Rattle.hex.specs.Hex.{IsBytes, encode_lower, lower_digits}
use Rattle.n41_calls.specs.Text.{hex_or_dash, decimal_or_dash, mode_text}
use Rattle.n41_xdr.specs.Reading.{◌>>=◌}
use Rattle.n41_words.specs.Words.{has_control}
use Rattle.n41_words.specs.declared.fault.LineKind.TheVariants as kind
use Rattle.n41_words.specs.declared.fault.LineKind.{LineKind}
use Rattle.n41_written.proofs.ReadBack.{decimal_read, octal_read}
use Rattle.n41_written.proofs.HexBack.{bytes_read}
use Rattle.n41_journal_text.proofs.Plain.{decimal_plain}
use Rattle.n41_journal_words.specs.Reading.{form_at, fixed, field_at, last_at}
use Rattle.n41_journal_words.specs.Answers.{number32, number64, is_dash, or_dash, mode, data_bytes}

-- ---- a word and its form

pub at_word : {X : Type 0} (form : List ℕ → Result X LineKind) (w : List ℕ) (ws : List (List ℕ)) (x : X) → has_control w ≡ false → form w ≡ Ok x → form_at form (w ∷ ws) ≡ Ok (x, ws)
at_word form w ws x e h = rw (e, h) refl

pub at_last : {X : Type 0} (form : List ℕ → Result X LineKind) (w : List ℕ) (x : X) → has_control w ≡ false → form w ≡ Ok x → last_at form (w ∷ []) ≡ Ok x
at_last form w x e h = rw (e, h) refl

pub at_field : {X : Type 0} (text : List ℕ) (form : List ℕ → Result X LineKind) (w : List ℕ) (ws : List (List ℕ)) (x : X) →
    form_at (fixed text) (text ∷ w ∷ ws) ≡ Ok (tt, w ∷ ws) → has_control w ≡ false → form w ≡ Ok x → field_at text form (text ∷ w ∷ ws) ≡ Ok (x, ws)
at_field text form w ws x t e h = ap (λ r. r >>= λ u. form_at form u.1) t ∙ at_word form w ws x e h

-- ---- numbers

pub number64_back : (n : ℕ) → n < 2 ^ 64 → number64 (decimal n) ≡ Ok n
number64_back n small = decimal_read (2 ^ 64) n small small

pub number32_back : (n : ℕ) → n < 2 ^ 32 → number32 (decimal n) ≡ Ok n
number32_back n small = decimal_read (2 ^ 32) n small (omega arith)

pub clean64 : (n : ℕ) → n < 2 ^ 64 → has_control (decimal n) ≡ false
clean64 n small = (decimal_plain n small).plain

pub clean32 : (n : ℕ) → n < 2 ^ 32 → has_control (decimal n) ≡ false
clean32 n small = (decimal_plain n (omega arith)).plain

pub at64 : (n : ℕ) (ws : List (List ℕ)) → n < 2 ^ 64 → form_at number64 (decimal n ∷ ws) ≡ Ok (n, ws)
at64 n ws small = at_word number64 (decimal n) ws n (clean64 n small) (number64_back n small)

pub at32 : (n : ℕ) (ws : List (List ℕ)) → n < 2 ^ 32 → form_at number32 (decimal n ∷ ws) ≡ Ok (n, ws)
at32 n ws small = at_word number32 (decimal n) ws n (clean32 n small) (number32_back n small)

pub last64 : (n : ℕ) → n < 2 ^ 64 → last_at number64 (decimal n ∷ []) ≡ Ok n
last64 n small = at_last number64 (decimal n) n (clean64 n small) (number64_back n small)

pub last32 : (n : ℕ) → n < 2 ^ 32 → last_at number32 (decimal n ∷ []) ≡ Ok n
last32 n small = at_last number32 (decimal n) n (clean32 n small) (number32_back n small)

-- ---- words that may be a dash

-- what a number is read from is no dash
or_back : (form : List ℕ → Result ℕ LineKind) (w : List ℕ) (n : ℕ) → form (codes "-") ≡ Err kind.Number → form w ≡ Ok n → or_dash form w ≡ Ok (Some n)
or_back form w n none h = elim (cases_Bool (is_dash w)) [
  | inl e ↦ absurd (let wrong : Ok n ≡ Err kind.Number = sym h ∙ ap form ((bytes_decides w (codes "-")).0 e) ∙ none in cc)
  | inr e ↦ rw (e, h) refl
]

pub optional_back : (o : Option ℕ) → IfSome o (λ n. n < 2 ^ 64) → or_dash number64 (decimal_or_dash o) ≡ Ok o
optional_back None h = refl
optional_back (Some n) h = or_back number64 (decimal n) n refl (number64_back n h)

pub mode_back : (o : Option ℕ) → IfSome o (λ m. m < 2 ^ 32) → or_dash mode (mode_text o) ≡ Ok o
mode_back None h = refl
mode_back (Some m) h = or_back mode (mode_text (Some m)) m refl (octal_read (2 ^ 32) m h (omega (arith, h)))

hex_is_no_dash : (b : ℕ) (bs : List ℕ) → is_dash (encode_lower (b ∷ bs)) ≡ false
hex_is_no_dash b bs = elim (cases_Bool (is_dash (encode_lower (b ∷ bs)))) [
  | inl e ↦ absurd (omega (arith, length-encode_with lower_digits (b ∷ bs), ap length ((bytes_decides (encode_lower (b ∷ bs)) (codes "-")).0 e)))
  | inr e ↦ e
]

pub data_back : (bytes : List ℕ) → IsBytes bytes → data_bytes (hex_or_dash bytes) ≡ Ok bytes
data_back [] fits = refl
data_back (b ∷ bs) fits = rw (hex_is_no_dash b bs) (bytes_read (b ∷ bs) fits (λ e. absurd cc))
