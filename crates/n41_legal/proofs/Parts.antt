-- A run by its newest step and those before it.
use Rattle.std.proofs.Common.{◌≡◌, ◌-◌, ◌≤◌, List, [], ◌∷◌, length, take, drop, get_or, arith}
use Rattle.std.proofs.lemmas.Grind.{common_steps}
use Rattle.n41_runs.specs.declared.steps.Step.{Step}

rest_is : (xs : List Step) → take (length xs - 1) (drop 1 xs) ≡ drop 1 xs
rest_is [] = grind (arith, common_steps)
rest_is (t ∷ ts) = grind (arith, common_steps)

pub split : (xs : List Step) (st : Step) → 1 ≤ length xs → st ≡ get_or xs 0 st → xs ≡ st ∷ take (length xs - 1) (drop 1 xs)
split [] st l e = absurd (omega (arith, l))
split (y ∷ ys) st l e =
    let a : st ≡ y = e in
    let b : take (length (y ∷ ys) - 1) (drop 1 (y ∷ ys)) ≡ ys = rest_is (y ∷ ys) in
    cc
