-- The last result tells which filehandle a reply came to.
use Rattle.std.proofs.Common.{◌≡◌, ◌∙◌, ◌-◌, suc, arith, List, [], ◌∷◌, length, Option, Some, None, Ok, ℕ, refl, slice_get}
use Rattle.n41_results.specs.declared.results.Res.{Res}
use Rattle.n41_results.specs.declared.results.Res.TheVariants as res
use Rattle.n41_calls.specs.Calls.{reached}
use Rattle.n41_said.specs.Handles.{fh_in}

abbrev pub fh_at : Option Res → Option (List ℕ)
fh_at None = None
fh_at (Some x) = fh_in x

reached_one : (x : Res) → fh_in x ≡ reached (x ∷ [])
reached_one (res.GetFh (Ok fh)) = refl
reached_one x = refl

reached_more : (x y : Res) (ys : List Res) → reached (y ∷ ys) ≡ reached (x ∷ y ∷ ys)
reached_more (res.GetFh (Ok fh)) y ys = refl
reached_more x y ys = refl

pub reached_last : (xs : List Res) → fh_at (slice_get xs (length xs - 1)) ≡ reached xs
reached_last [] = refl
reached_last (x ∷ []) = reached_one x
reached_last (x ∷ y ∷ ys) =
    let e : length (x ∷ y ∷ ys) - 1 ≡ suc (length (y ∷ ys) - 1) = omega arith in
    rw e (reached_last (y ∷ ys) ∙ reached_more x y ys)
