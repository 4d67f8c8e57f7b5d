-- For the loop that reads the operations of a walk: the names that were read, put before those that are still to be read, are all.
use Rattle.std.proofs.Common.{◌≡◌, ℕ, suc, ◌+◌, ◌<◌, ◌≤◌, List, [], ◌∷◌, ◌++◌, length, drop, slice_get, Option, Some, None, refl, sym, ap, ◌∙◌, append_assoc, add-one, length-drop, arith}
use Rattle.std.proofs.lemmas.List.{append-nil}
use Rattle.std.proofs.Math.Seq.{drop-length}
use Rattle.n41_args.specs.declared.arg.Arg.{Arg}
use Rattle.n41_args.specs.declared.arg.Arg.TheVariants as arg
use Rattle.n41_compound.specs.declared.walks.Step.TheVariants.{Name, End, Other}
use Rattle.n41_compound.specs.Walks.{walked, with_name, with_names, IsStep}
use Rattle.n41_fits.proofs.Dropped.{first_dropped}

regroup : (names : List (List ℕ)) (n : List ℕ) (o : Option (List (List ℕ))) → with_names names (with_name (Some n) o) ≡ with_names (names ++ n ∷ []) o
regroup names n None = refl
regroup names n (Some more) = ap (λ (l : List (List ℕ)). let r : Option (List (List ℕ)) = Some l in r) (simp append_assoc)

pub begins : (args : List Arg) → with_names [] (walked args) ≡ walked args
begins args = as_is (walked args) where
  as_is : (o : Option (List (List ℕ))) → with_names [] o ≡ o
  as_is None = refl
  as_is (Some names) = refl

seam : (args : List Arg) (i : ℕ) (a : Arg) → slice_get args i ≡ Some a → drop i args ≡ a ∷ drop (i + 1) args
seam args i a there = rw add-one (first_dropped args i a there)

pub goes_on : (args : List Arg) (i : ℕ) (a : Arg) (names : List (List ℕ)) (n : List ℕ) → slice_get args i ≡ Some a → IsStep (Name n) a
    → with_names names (walked (drop i args)) ≡ walked args → with_names (names ++ n ∷ []) (walked (drop (i + 1) args)) ≡ walked args
goes_on args i a names n there step so_far =
    sym (regroup names n (walked (drop (i + 1) args)))
    ∙ ap (with_names names) (sym (ap walked (seam args i a there) ∙ step (drop (i + 1) args)))
    ∙ so_far

pub stops : (args : List Arg) (i : ℕ) (a : Arg) (names : List (List ℕ)) → slice_get args i ≡ Some a → IsStep Other a
    → with_names names (walked (drop i args)) ≡ walked args → None ≡ walked args
stops args i a names there step so_far = sym (ap (with_names names) (ap walked (seam args i a there) ∙ step (drop (i + 1) args))) ∙ so_far

ended : (args : List Arg) (a : Arg) (i : ℕ) → slice_get args i ≡ Some a → a ≡ arg.GetFh → walked (drop i args) ≡ walked (arg.GetFh ∷ drop (i + 1) args)
ended args a i there is = ap walked (seam args i a there ∙ ap (λ (x : Arg). x ∷ drop (i + 1) args) is)

-- at GETFH, which is the last
pub ends : (args : List Arg) (i : ℕ) (a : Arg) (names : List (List ℕ)) → slice_get args i ≡ Some a → IsStep End a → i + 1 ≡ length args
    → with_names names (walked (drop i args)) ≡ walked args → Some names ≡ walked args
ends args i a names there is last so_far =
    let gone : drop (i + 1) args ≡ [] = ap (λ (k : ℕ). drop k args) last ∙ drop-length args in
    let here : walked (drop i args) ≡ Some [] = ended args a i there is ∙ ap (λ (rest : List Arg). walked (arg.GetFh ∷ rest)) gone in
    ap (λ (l : List (List ℕ)). let r : Option (List (List ℕ)) = Some l in r) (sym (append-nil names)) ∙ sym (ap (with_names names) here) ∙ so_far

more_behind : (rest : List Arg) → (rest ≡ [] → ⊥) → walked (arg.GetFh ∷ rest) ≡ None
more_behind [] wrong = absurd (wrong refl)
more_behind (a ∷ rest) wrong = refl

-- at GETFH, behind which there is more
pub goes_past : (args : List Arg) (i : ℕ) (a : Arg) (names : List (List ℕ)) → slice_get args i ≡ Some a → IsStep End a → i + 1 < length args
    → with_names names (walked (drop i args)) ≡ walked args → None ≡ walked args
goes_past args i a names there is lt so_far =
    let more : drop (i + 1) args ≡ [] → ⊥ = λ e. omega (arith, ap length e, length-drop {A = Arg} (i + 1) args) in
    let here : walked (drop i args) ≡ None = ended args a i there is ∙ more_behind (drop (i + 1) args) more in
    sym (ap (with_names names) here) ∙ so_far

-- where all was read
pub never_ends : (args : List Arg) (i : ℕ) (names : List (List ℕ)) → i ≡ length args → with_names names (walked (drop i args)) ≡ walked args → None ≡ walked args
never_ends args i names end so_far =
    let gone : drop i args ≡ [] = ap (λ (k : ℕ). drop k args) end ∙ drop-length args in
    sym (ap (λ (rest : List Arg). with_names names (walked rest)) gone) ∙ so_far
