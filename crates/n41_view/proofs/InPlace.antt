-- Tables that are changed in place: one element after the other, or one alone.
use Rattle.std.proofs.Common.{◌≡◌, ◌≢◌, ℕ, zero, suc, ◌+◌, ◌<◌, List, [], ◌∷◌, map, set, get_or, length, Option, Some, None, slice_get, refl, sym, ◌∙◌, ap, arith}

-- the list of which as many elements are stepped already
abbrev pub stepped : {A : Type 0} → (A → A) → ℕ → List A → List A
stepped f zero xs = xs
stepped f (suc i) [] = []
stepped f (suc i) (x ∷ xs) = f x ∷ stepped f i xs

pub stepped_whole : {A : Type 0} (f : A → A) (xs : List A) (n : ℕ) → n ≡ length xs → stepped f n xs ≡ map f xs
stepped_whole f [] zero e = refl
stepped_whole f [] (suc n) e = refl
stepped_whole f (x ∷ xs) zero e = absurd (omega arith)
stepped_whole f (x ∷ xs) (suc n) e = ap (λ ys. f x ∷ ys) (stepped_whole f xs n (omega arith))

stepped_length : {A : Type 0} (f : A → A) (xs : List A) (i : ℕ) → length (stepped f i xs) ≡ length xs
stepped_length f xs zero = refl
stepped_length f [] (suc i) = refl
stepped_length f (x ∷ xs) (suc i) = ap (λ n. suc n) (stepped_length f xs i)

stepped_at : {A : Type 0} (f : A → A) (xs : List A) (i : ℕ) (d : A) → i < length xs → set (stepped f i xs) i (f (get_or (stepped f i xs) i d)) ≡ stepped f (suc i) xs
stepped_at f [] i d l = absurd (omega arith)
stepped_at f (x ∷ xs) zero d l = refl
stepped_at f (x ∷ xs) (suc i) d l = ap (λ ys. f x ∷ ys) (stepped_at f xs i d (omega arith))

-- one element more: ys is the list so far, y its new element at i, and j the next place
pub stepped_next : {A : Type 0} (f : A → A) (xs ys : List A) (i j : ℕ) (d y : A) → ys ≡ stepped f i xs → y ≡ f (get_or ys i d) → i < length ys → j ≡ i + 1 → set ys i y ≡ stepped f j xs
stepped_next f xs ys i j d y e g l k =
    let m : i < length xs = omega (arith, stepped_length f xs i, ap length e) in
    let h = stepped_at f xs i d m in
    let q : suc i ≡ j = omega arith in
    cc (h, ap (λ n. stepped f n xs) q)

-- a step that changes no element changes nothing
pub step_none : {A : Type 0} (f : A → A) (xs : List A) → ((k : ℕ) (y : A) → slice_get xs k ≡ Some y → f y ≡ y) → map f xs ≡ xs
step_none f [] h = refl
step_none f (x ∷ xs) h = let a = h 0 x refl in let b = step_none f xs (λ k y e. h (suc k) y e) in cc

-- a step that changes one element alone is that change
pub step_one : {A : Type 0} (f : A → A) (xs : List A) (j : ℕ) (x : A) → slice_get xs j ≡ Some x → ((k : ℕ) (y : A) → slice_get xs k ≡ Some y → k ≢ j → f y ≡ y) → map f xs ≡ set xs j (f x)
step_one f [] j x e h = absurd (cc)
step_one f (y ∷ ys) zero x e h =
    let g : y ≡ x = cc in
    let a = step_none f ys (λ k z q. h (suc k) z q (λ p. omega arith)) in
    cc
step_one f (y ∷ ys) (suc j) x e h =
    let a = h 0 y refl (λ p. omega arith) in
    let b = step_one f ys j x e (λ k z q p. h (suc k) z q (λ r. p (omega arith))) in
    cc
