-- Lists of operations.
use Rattle.std.proofs.Common.{◌≡◌, ℕ, zero, suc, ◌+◌, ◌≤◌, List, [], ◌∷◌, ◌++◌, length, map, take, slice_get, Some, subst, sym, add-one, arith}
use Rattle.std.specs.List.{AllByRecursion}
use Rattle.n41_types.specs.Names.{IsName}
use Rattle.n41_attr.specs.Parts.{string}
use Rattle.n41_args.specs.declared.arg.Arg.{Arg}
use Rattle.n41_args.specs.declared.arg.Arg.TheVariants.{Lookup, GetFh}
use Rattle.n41_args.specs.Args.{told_arg, written_arg}
use Rattle.n41_requests.specs.Requests.{AllFit}

-- ---- what a loop has seen of a list

grows-suc : {A : Type 0} (P : A → Type 0) (xs : List A) (i : ℕ) (x : A) → slice_get xs i ≡ Some x → P x → AllByRecursion P (take i xs) → AllByRecursion P (take (suc i) xs)
grows-suc P [] i x is holds so_far = absurd cc
grows-suc P (y ∷ xs) zero x is holds so_far =
    let same : y ≡ x = cc in
    (subst P (sym same) holds, tt)
grows-suc P (y ∷ xs) (suc i) x is holds so_far = (so_far.0, grows-suc P xs i x is holds so_far.1)

pub grows : {A : Type 0} (P : A → Type 0) (xs : List A) (i : ℕ) (x : A) → slice_get xs i ≡ Some x → P x → AllByRecursion P (take i xs) → AllByRecursion P (take (i + 1) xs)
grows P xs i x is holds so_far = subst (λ (k : ℕ). AllByRecursion P (take k xs)) (sym (add-one i)) (grows-suc P xs i x is holds so_far)

pub whole : {A : Type 0} (P : A → Type 0) (xs : List A) (i : ℕ) → length xs ≤ i → AllByRecursion P (take i xs) → AllByRecursion P xs
whole P [] i end so_far = tt
whole P (x ∷ xs) zero end so_far = absurd (omega arith)
whole P (x ∷ xs) (suc i) end so_far = (so_far.0, whole P xs i (omega arith) so_far.1)

-- ---- walks

-- each name of a walk that fits can be looked up
pub each_name_fits : (names : List (List ℕ)) (i : ℕ) (name : List ℕ) → AllFit (map (λ name. Lookup name) names) → slice_get names i ≡ Some name → told_arg.Fits (written_arg (Lookup name))
each_name_fits [] i name fits is = absurd cc
each_name_fits (n ∷ names) zero name fits is =
    let same : n ≡ name = cc in
    subst (λ (x : List ℕ). told_arg.Fits (written_arg (Lookup x))) same fits.0
each_name_fits (n ∷ names) (suc i) name fits is = each_name_fits names i name fits.1 is

pub names_of : (names : List (List ℕ)) (last : List Arg) → AllFit (map (λ name. Lookup name) names ++ last) → AllFit (map (λ name. Lookup name) names)
names_of [] last fits = tt
names_of (n ∷ names) last fits = (fits.0, names_of names last fits.1)

pub last_of : (names : List (List ℕ)) (last : List Arg) → AllFit (map (λ name. Lookup name) names ++ last) → AllFit last
last_of [] last fits = fits
last_of (n ∷ names) last fits = last_of names last fits.1

pub looked_up : (names : List (List ℕ)) → AllByRecursion IsName names → AllFit (map (λ name. Lookup name) names ++ GetFh ∷ [])
unfolding told_arg string
looked_up [] are = ((omega arith, tt), tt)
looked_up (n ∷ names) are = ((omega arith, (omega (arith, are.0.1), omega (arith, are.0.1))), looked_up names are.1)
