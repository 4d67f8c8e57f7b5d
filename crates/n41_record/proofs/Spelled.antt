-- How long fragments are, and what one more adds.
use Rattle.std.proofs.Common.{◌≡◌, ℕ, ◌+◌, ◌*◌, Bool, false, List, [], ◌∷◌, ◌++◌, length, refl, ap, ◌∙◌, length-append, arith}
use Rattle.std.specs.List.{concat}
use Rattle.std.proofs.lemmas.List.{append-nil}
use Rattle.std.proofs.lemmas.List.Concat.{flat_map-append}
use Rattle.std.proofs.lemmas.List.Folds.{concat-append}
use Rattle.n41_record.specs.Fragments.{header, fragment, earlier}

pub length-header : (last : Bool) (n : ℕ) → length (header last n) ≡ 4
unfolding header
length-header last n = refl

pub length-earlier : (before : List (List ℕ)) → length (earlier before) ≡ 4 * length before + length (concat before)
length-earlier [] = refl
length-earlier (f ∷ fs) = omega (arith, length-append (header false (length f) ++ f) (earlier fs), length-append (header false (length f)) f, length-header false (length f), length-append f (concat fs), length-earlier fs)

pub earlier_more : (before : List (List ℕ)) (f : List ℕ) → earlier (before ++ f ∷ []) ≡ earlier before ++ fragment false f
earlier_more before f = flat_map-append (fragment false) before (f ∷ []) ∙ ap (λ (x : List ℕ). earlier before ++ x) (append-nil (fragment false f))

pub concat_more : (before : List (List ℕ)) (f : List ℕ) → concat (before ++ f ∷ []) ≡ concat before ++ f
concat_more before f = concat-append before (f ∷ []) ∙ ap (λ (x : List ℕ). concat before ++ x) (append-nil f)
