-- One verb more is not the one.
use Rattle.std.proofs.Common.{◌≡◌, ◌<◌, ◌+◌, ℕ, zero, suc, false, List, [], ◌∷◌, length, get_or, drop, refl, arith}
use Rattle.n41_words.specs.Words.{same}
use Rattle.n41_commands.specs.Commands.{verb_text, verb_among}
use Rattle.n41_commands.specs.declared.verb.Verb.{Verb}

pub not_this : (vs : List Verb) (n i : ℕ) (d : Verb) (word : List ℕ) → n < length vs → i ≡ n + 1 → same word (verb_text (get_or vs n d)) ≡ false → verb_among (drop i vs) word ≡ verb_among (drop n vs) word
not_this [] n i d word l e f = absurd (omega (arith, l))
not_this (v ∷ vs) zero i d word l e f = let k : i ≡ 1 = omega (arith, e) in rw (k, f) refl
not_this (v ∷ vs) (suc n) i d word l e f = let k : i ≡ suc (n + 1) = omega (arith, e) in rw k (not_this vs n (n + 1) d word (omega (arith, l)) refl f)
