-- The results from a place on, by what stands there.
use Rattle.std.proofs.Common.{◌≡◌, ℕ, suc, ◌+◌, ◌==◌, List, ◌∷◌, drop, slice_get, true, false, Option, Some, None, refl, sym, ap, ◌∙◌, add-one}
use Rattle.n41_types.specs.declared.operations.Operation.{Operation}
use Rattle.n41_types.specs.declared.plans.Plan.{Plan}
use Rattle.n41_results.specs.declared.results.Res.{Res}
use Rattle.n41_results.specs.declared.shapes.Shape.TheVariants as shape
use Rattle.n41_results.specs.Results.{status_of}
use Rattle.n41_results.specs.Shapes.{shape_from, unasked_in, misfit, nothing_after}
use Rattle.n41_fits.specs.Answers.{answers}
use Rattle.n41_fits.proofs.Dropped.{first_dropped, none_dropped}

-- ---- the first of the results that are left

not_answered : (p : Plan) (n : ℕ) (o : Operation) (os : List Operation) (x : Res) (xs : List Res) → answers (Some o) x ≡ false
    → shape_from p n (o ∷ os) (x ∷ xs) ≡ misfit n (o ∷ os) x
not_answered p n o os x xs a = rw a refl

told_unasked : (p : Plan) (n : ℕ) (o : Operation) (os : List Operation) (x : Res) (xs : List Res) (k : ℕ) → answers (Some o) x ≡ true → unasked_in p x ≡ Some k
    → shape_from p n (o ∷ os) (x ∷ xs) ≡ Some (shape.Attr k)
told_unasked p n o os x xs k a u = rw (a, u) refl

failed : (p : Plan) (n : ℕ) (o : Operation) (os : List Operation) (x : Res) (xs : List Res) → answers (Some o) x ≡ true → unasked_in p x ≡ None
    → ((status_of x).0 == 0) ≡ false → shape_from p n (o ∷ os) (x ∷ xs) ≡ nothing_after (n + 1) os xs
failed p n o os x xs a u s = rw (a, u, s) refl

went_well : (p : Plan) (n : ℕ) (o : Operation) (os : List Operation) (x : Res) (xs : List Res) → answers (Some o) x ≡ true → unasked_in p x ≡ None
    → ((status_of x).0 == 0) ≡ true → shape_from p n (o ∷ os) (x ∷ xs) ≡ shape_from p (n + 1) os xs
went_well p n o os x xs a u s = rw (a, u, s) refl

-- ---- the same at a place

asked_there : (w : Option Operation) (x : Res) → answers w x ≡ true → (o : Operation) × (w ≡ Some o)
asked_there None x a = absurd cc
asked_there (Some o) x a = (o, refl)

-- the lists from the place on, where an operation was asked that the result answers
first_of_both : (p : Plan) (n : ℕ) (asked : List Operation) (list : List Res) (x : Res) (o : Operation) → slice_get list n ≡ Some x → slice_get asked n ≡ Some o
    → shape_from p n (drop n asked) (drop n list) ≡ shape_from p n (o ∷ drop (suc n) asked) (x ∷ drop (suc n) list)
first_of_both p n asked list x o there is = rw (first_dropped asked n o is, first_dropped list n x there) refl

misfits_by : (p : Plan) (n : ℕ) (asked : List Operation) (list : List Res) (x : Res) (w : Option Operation) → slice_get list n ≡ Some x → slice_get asked n ≡ w → answers w x ≡ false
    → shape_from p n (drop n asked) (drop n list) ≡ misfit n (drop n asked) x
misfits_by p n asked list x None there is a = rw (none_dropped asked n is, first_dropped list n x there) refl
misfits_by p n asked list x (Some o) there is a = rw (first_dropped asked n o is, first_dropped list n x there) (not_answered p n o (drop (suc n) asked) x (drop (suc n) list) a)

pub misfits : (p : Plan) (n : ℕ) (asked : List Operation) (list : List Res) (x : Res) → slice_get list n ≡ Some x → answers (slice_get asked n) x ≡ false
    → shape_from p n (drop n asked) (drop n list) ≡ misfit n (drop n asked) x
misfits p n asked list x there a = misfits_by p n asked list x (slice_get asked n) there refl a

pub unasked_told : (p : Plan) (n : ℕ) (asked : List Operation) (list : List Res) (x : Res) (k : ℕ) → slice_get list n ≡ Some x → answers (slice_get asked n) x ≡ true
    → unasked_in p x ≡ Some k → shape_from p n (drop n asked) (drop n list) ≡ Some (shape.Attr k)
unasked_told p n asked list x k there a u =
    let o = asked_there (slice_get asked n) x a in
    let answered : answers (Some o.0) x ≡ true = ap (λ (w : Option Operation). answers w x) (sym o.1) ∙ a in
    first_of_both p n asked list x o.0 there o.1 ∙ told_unasked p n o.0 (drop (suc n) asked) x (drop (suc n) list) k answered u

pub ends_there : (p : Plan) (n : ℕ) (asked : List Operation) (list : List Res) (x : Res) → slice_get list n ≡ Some x → answers (slice_get asked n) x ≡ true
    → unasked_in p x ≡ None → ((status_of x).0 == 0) ≡ false → shape_from p n (drop n asked) (drop n list) ≡ nothing_after (n + 1) (drop (n + 1) asked) (drop (n + 1) list)
ends_there p n asked list x there a u s =
    let o = asked_there (slice_get asked n) x a in
    let answered : answers (Some o.0) x ≡ true = ap (λ (w : Option Operation). answers w x) (sym o.1) ∙ a in
    let next : n + 1 ≡ suc n = add-one n in
    first_of_both p n asked list x o.0 there o.1 ∙ failed p n o.0 (drop (suc n) asked) x (drop (suc n) list) answered u s
    ∙ ap (λ (k : ℕ). nothing_after (n + 1) (drop k asked) (drop k list)) (sym next)

pub goes_on : (p : Plan) (n : ℕ) (asked : List Operation) (list : List Res) (x : Res) → slice_get list n ≡ Some x → answers (slice_get asked n) x ≡ true
    → unasked_in p x ≡ None → ((status_of x).0 == 0) ≡ true → shape_from p n (drop n asked) (drop n list) ≡ shape_from p (n + 1) (drop (n + 1) asked) (drop (n + 1) list)
goes_on p n asked list x there a u s =
    let o = asked_there (slice_get asked n) x a in
    let answered : answers (Some o.0) x ≡ true = ap (λ (w : Option Operation). answers w x) (sym o.1) ∙ a in
    let next : n + 1 ≡ suc n = add-one n in
    first_of_both p n asked list x o.0 there o.1 ∙ went_well p n o.0 (drop (suc n) asked) x (drop (suc n) list) answered u s
    ∙ ap (λ (k : ℕ). shape_from p (n + 1) (drop k asked) (drop k list)) (sym next)
