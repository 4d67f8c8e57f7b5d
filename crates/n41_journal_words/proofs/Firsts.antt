-- One first word more is not the one.
use Rattle.std.proofs.Common.{◌≡◌, ◌<◌, ◌+◌, ℕ, zero, suc, false, List, [], ◌∷◌, length, get_or, drop, refl, arith}
use Rattle.n41_words.specs.Words.{same}
use Rattle.n41_journal_words.specs.Answers.{first_text, first_among}
use Rattle.n41_journal_words.specs.declared.first.First.{First}

pub not_this : (fs : List First) (n i : ℕ) (d : First) (word : List ℕ) → n < length fs → i ≡ n + 1 → same word (first_text (get_or fs n d)) ≡ false → first_among (drop i fs) word ≡ first_among (drop n fs) word
not_this [] n i d word l e f = absurd (omega (arith, l))
not_this (g ∷ fs) zero i d word l e f = let k : i ≡ 1 = omega (arith, e) in rw (k, f) refl
not_this (g ∷ fs) (suc n) i d word l e f = let k : i ≡ suc (n + 1) = omega (arith, e) in rw k (not_this fs n (n + 1) d word (omega (arith, l)) refl f)
