-- Lists whose elements name their places: a step that changes the element of one place alone.
use Rattle.std.proofs.Common.{◌≡◌, ◌≢◌, ℕ, zero, suc, ◌+◌, ◌<◌, ◌≤◌, length, List, [], ◌∷◌, map, set, get_or, refl, sym, ap, arith}
use Rattle.n41_tables.specs.Sound.{IsPlaced}

-- a step that changes no element changes nothing
pub step_nothing : {A : Type 0} (f : A → A) (xs : List A) → ((y : A) → f y ≡ y) → map f xs ≡ xs
step_nothing f [] h = refl
step_nothing f (x ∷ xs) h = let a = h x in let b = step_nothing f xs h in cc

-- the place of an element
pub place_at : {A : Type 0} (place : A → ℕ) (n i : ℕ) (xs : List A) (d : A) → IsPlaced place n xs → i < length xs → place (get_or xs i d) ≡ n + i
place_at place n i [] d p l = absurd (omega arith)
place_at place n zero (x ∷ xs) d p l = let e = p.0 in omega arith
place_at place n (suc i) (x ∷ xs) d p l = let e = place_at place (n + 1) i xs d p.1 (omega arith) in omega arith

-- a step that changes no element of these places changes nothing
pub step_off : {A : Type 0} (f : A → A) (place : A → ℕ) (n : ℕ) (xs : List A) → IsPlaced place n xs → ((y : A) → n ≤ place y → place y < n + length xs → f y ≡ y) → map f xs ≡ xs
step_off f place n [] p h = refl
step_off f place n (x ∷ xs) p h =
    let e = p.0 in
    let a = h x (omega arith) (omega arith) in
    let b = step_off f place (n + 1) xs p.1 (λ y g l. h y (omega arith) (omega arith)) in
    cc

-- no element has the place k, which is past the last
pub step_past : {A : Type 0} (f : A → A) (place : A → ℕ) (n k : ℕ) (xs : List A) → IsPlaced place n xs → ((y : A) → place y ≢ k → f y ≡ y) → n + length xs ≤ k → map f xs ≡ xs
step_past f place n k xs p h l = step_off f place n xs p (λ y g m. h y (λ q. omega arith))

-- before the place k
step_before : {A : Type 0} (f : A → A) (place : A → ℕ) (n k : ℕ) (xs : List A) → IsPlaced place n xs → ((y : A) → place y ≢ k → f y ≡ y) → k < n → map f xs ≡ xs
step_before f place n k [] p h l = refl
step_before f place n k (x ∷ xs) p h l =
    let e = p.0 in
    let a = h x (λ q. omega arith) in
    let b = step_before f place (n + 1) k xs p.1 h (omega arith) in
    cc

-- the element of the place k is stepped, the i-th of those from n on
pub step_there : {A : Type 0} (f : A → A) (place : A → ℕ) (n k i : ℕ) (xs : List A) (d : A) → IsPlaced place n xs → ((y : A) → place y ≢ k → f y ≡ y) → n + i ≡ k → i < length xs → set xs i (f (get_or xs i d)) ≡ map f xs
step_there f place n k i [] d p h e l = absurd (omega arith)
step_there f place n k zero (x ∷ xs) d p h e l =
    let b = step_before f place (n + 1) k xs p.1 h (omega arith) in
    ap (λ ys. f x ∷ ys) (sym b)
step_there f place n k (suc i) (x ∷ xs) d p h e l =
    let q = p.0 in
    let a = h x (λ r. omega arith) in
    let b = step_there f place (n + 1) k i xs d p.1 h (omega arith) (omega arith) in
    cc
