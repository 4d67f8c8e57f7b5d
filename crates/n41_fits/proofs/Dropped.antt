-- A list from a place on.
use Rattle.std.proofs.Common.{◌≡◌, ℕ, zero, suc, List, [], ◌∷◌, drop, slice_get, Some, None, refl}

-- the element at the place is the first of them
pub first_dropped : {A : Type 0} (xs : List A) (i : ℕ) (x : A) → slice_get xs i ≡ Some x → drop i xs ≡ x ∷ drop (suc i) xs
first_dropped [] zero x e = absurd cc
first_dropped [] (suc i) x e = absurd cc
first_dropped (y ∷ ys) zero x e = cc
first_dropped (y ∷ ys) (suc i) x e = first_dropped ys i x e

-- where there is none, nothing is left
pub none_dropped : {A : Type 0} (xs : List A) (i : ℕ) → slice_get xs i ≡ None → drop i xs ≡ []
none_dropped [] zero e = refl
none_dropped [] (suc i) e = refl
none_dropped (y ∷ ys) zero e = absurd cc
none_dropped (y ∷ ys) (suc i) e = none_dropped ys i e
