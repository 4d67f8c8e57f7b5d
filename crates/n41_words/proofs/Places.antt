-- What the first place that passes a test says.
use Rattle.std.proofs.Common.{◌≡◌, ◌<◌, ◌≤◌, ℕ, Bool, true, false, List, length, Some, None, if◌then◌else◌, arith, refl}
use Rattle.std.specs.List.{position, position_or_len}
use Rattle.std.proofs.lemmas.Bool.Decides.{nat_tests}

some_if : (b : Bool) (n k : ℕ) → (if b then Some n else None) ≡ Some k → (b ≡ true) × (k ≡ n)
some_if true n k e = (refl, cc)
some_if false n k e = absurd cc

none_if : (b : Bool) (n : ℕ) → (if b then Some n else None) ≡ None → b ≡ false
none_if true n e = absurd cc
none_if false n e = refl

pub at_place : (p : ℕ → Bool) (xs : List ℕ) (k : ℕ) → position p xs ≡ Some k → (k ≡ position_or_len p xs) × (position_or_len p xs < length xs)
at_place p xs k e =
    let h = some_if _ (position_or_len p xs) k e in
    (h.1, let t = h.0 in grind (arith, nat_tests, t))

pub no_place : (p : ℕ → Bool) (xs : List ℕ) → position p xs ≡ None → length xs ≤ position_or_len p xs
no_place p xs e = let h = none_if _ (position_or_len p xs) e in grind (arith, nat_tests, h)
