-- The number that digits spell grows with each of them.
use Rattle.std.proofs.Common.{◌≡◌, ◌<◌, ◌≤◌, ◌+◌, ◌-◌, ◌*◌, ℕ, List, [], ◌∷◌, length, get_or, None, arith, mul-le-mul_left}
use Rattle.std.proofs.lemmas.Bool.Decides.{nat_tests}
use Rattle.n41_words.specs.Numbers.{spelled, at_most}

times : (n base : ℕ) → 1 ≤ base → n ≤ n * base
times n base l = let h : n * 1 ≤ n * base = mul-le-mul_left n l in omega (arith, h)

grown : (base n : ℕ) (bs : List ℕ) → 1 ≤ base → n ≤ spelled base n bs
grown base n [] l = omega arith
grown base n (b ∷ bs) l =
    let h = grown base (n * base + (b - 48)) bs l in
    let k = times n base l in
    omega (arith, h, k)

is_above : (most n : ℕ) → at_most most n ≡ None → most < n
is_above most n e = grind (arith, nat_tests)

not_most : (most n : ℕ) → most < n → None ≡ at_most most n
not_most most n l = grind (arith, nat_tests)

pub too_much : (base n most : ℕ) (left : List ℕ) → 1 ≤ base → 1 ≤ length left → at_most most (n * base + (get_or left 0 0 - 48)) ≡ None → None ≡ at_most most (spelled base n left)
too_much base n most [] l k e = absurd (omega (arith, k))
too_much base n most (b ∷ bs) l k e =
    let h = grown base (n * base + (b - 48)) bs l in
    let a : most < n * base + (b - 48) = is_above most (n * base + (b - 48)) e in
    not_most most (spelled base (n * base + (b - 48)) bs) (omega (arith, h, a))
