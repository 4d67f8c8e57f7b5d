use Rattle.std.proofs.Common.{◌≡◌, ◌<◌, ℕ, None, slice_get}
use Rattle.n41_view.specs.Due.{goes_slot}
use Rattle.n41_due.proofs.slots.first_again.Given as goal

abbrev pub invariant-loop-i : goal.invariant-loop-i
invariant-loop-i l = (k : ℕ) → k < l.i → goes_slot l.moment (slice_get l.slots k) ≡ None
