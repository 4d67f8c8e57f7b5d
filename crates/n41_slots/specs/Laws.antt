-- The laws of slots: one changes at a time, and its turn rises by one (RFC 8881, section 2.10.6.1).
use Rattle.std.specs.Prelude.{◌≡◌, ◌≢◌, ℕ, ◌+◌, Bool, Some, slice_get}
use Rattle.n41_slots.specs.declared.slots.Slot.{Slot}
use Rattle.n41_slots.specs.Slots.{Table, Asked, made, taken, left, released}

-- a request that goes out has the turn that follows the last one on its slot
abbrev pub TurnsRise : Type 0
TurnsRise = (t : Table) (n : ℕ) (a : Asked) (s : Slot) → slice_get t.slots n ≡ Some s → slice_get (taken t n a).slots n ≡ Some (record { used = s.used + 1; request = Some (made t n s a) })

-- and every other slot keeps its turn and what is out on it
abbrev pub TakeLeavesOthers : Type 0
TakeLeavesOthers = (t : Table) (n k : ℕ) (a : Asked) → k ≢ n → slice_get (taken t n a).slots k ≡ slice_get t.slots k

-- a release empties its slot
abbrev pub ReleaseEmpties : Type 0
ReleaseEmpties = (t : Table) (n : ℕ) (b : Bool) (s : Slot) → slice_get t.slots n ≡ Some s → slice_get (released t n b).slots n ≡ Some (left b s)

-- and leaves every other slot as it is
abbrev pub ReleaseLeavesOthers : Type 0
ReleaseLeavesOthers = (t : Table) (n k : ℕ) (b : Bool) → k ≢ n → slice_get (released t n b).slots k ≡ slice_get t.slots k
