use Rattle.std.proofs.Common.{◌≡◌, ◌<◌, ℕ, false, slice_get}
use Rattle.n41_slots.specs.Slots.{is_free}
use Rattle.n41_slots.proofs.slots.first_free.Given as goal

abbrev pub invariant-loop-n : goal.invariant-loop-n
invariant-loop-n l = (k : ℕ) → k < l.n → is_free (slice_get l.slots k) ≡ false
