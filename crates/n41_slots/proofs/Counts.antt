-- How many requests are out.
use Rattle.std.proofs.Common.{◌≡◌, ℕ, zero, suc, ◌+◌, ◌<◌, ◌≤◌, length, List, [], ◌∷◌, map, replicate, set, get_or, Option, Some, None, refl, arith}
use Rattle.n41_types.specs.declared.plans.Request.{Request}
use Rattle.n41_slots.specs.declared.slots.Slot.{Slot}
use Rattle.n41_slots.specs.Slots.{ones, count, idle}

pub one_most : (o : Option Request) → ones o ≤ 1
one_most None = omega arith
one_most (Some r) = omega arith

-- a slot that changes adds what is on it, and takes away what was
pub count_set : (ss : List Slot) (n : ℕ) (d x : Slot) → n < length ss → count (set ss n x) + ones (get_or ss n d).request ≡ count ss + ones x.request
count_set [] n d x l = absurd (omega arith)
count_set (s ∷ ss) zero d x l = omega arith
count_set (s ∷ ss) (suc n) d x l = let e = count_set ss n d x (omega arith) in omega arith

pub count_most : (ss : List Slot) → count ss ≤ length ss
count_most [] = omega arith
count_most (s ∷ ss) = let e = count_most ss in let o = one_most s.request in omega arith

pub count_idle : (us : List ℕ) → count (map idle us) ≡ 0
count_idle [] = refl
count_idle (u ∷ us) = let e = count_idle us in omega arith

pub count_new : (n : ℕ) → count (replicate n (idle 0)) ≡ 0
count_new zero = refl
count_new (suc n) = let e = count_new n in omega arith
