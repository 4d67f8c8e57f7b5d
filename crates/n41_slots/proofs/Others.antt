-- What a change of one slot leaves.
use Rattle.std.proofs.Common.{◌≡◌, ◌≢◌, ℕ, zero, suc, ◌+◌, Bool, List, [], ◌∷◌, set, slice_get, Option, Some, None, refl, ap}
use Rattle.n41_slots.specs.declared.slots.Slot.{Slot}
use Rattle.n41_slots.specs.Slots.{Table, Asked, made, taken, taken_on, left, released, released_on}

-- a slot that is written is the one that is read
pub set_there : (ss : List Slot) (n : ℕ) (s x : Slot) → slice_get ss n ≡ Some s → slice_get (set ss n x) n ≡ Some x
set_there [] n s x e = absurd (cc)
set_there (y ∷ ss) zero s x e = refl
set_there (y ∷ ss) (suc n) s x e = set_there ss n s x e

-- and no other
pub set_elsewhere : (ss : List Slot) (n k : ℕ) (x : Slot) → k ≢ n → slice_get (set ss n x) k ≡ slice_get ss k
set_elsewhere [] n k x h = refl
set_elsewhere (y ∷ ss) zero zero x h = absurd (h refl)
set_elsewhere (y ∷ ss) zero (suc k) x h = refl
set_elsewhere (y ∷ ss) (suc n) zero x h = refl
set_elsewhere (y ∷ ss) (suc n) (suc k) x h = set_elsewhere ss n k x (λ e. h (ap suc e))

pub taken_there : (t : Table) (n : ℕ) (a : Asked) (s : Slot) → slice_get t.slots n ≡ Some s → slice_get (taken t n a).slots n ≡ Some (record { used = s.used + 1; request = Some (made t n s a) })
taken_there t n a s e = rw e (set_there t.slots n s (record { used = s.used + 1; request = Some (made t n s a) }) e)

taken_other : (t : Table) (n k : ℕ) (a : Asked) (o : Option Slot) → k ≢ n → slice_get (taken_on t n a o) k ≡ slice_get t.slots k
taken_other t n k a None h = refl
taken_other t n k a (Some s) h = set_elsewhere t.slots n k (record { used = s.used + 1; request = Some (made t n s a) }) h

pub taken_elsewhere : (t : Table) (n k : ℕ) (a : Asked) → k ≢ n → slice_get (taken t n a).slots k ≡ slice_get t.slots k
taken_elsewhere t n k a h = taken_other t n k a (slice_get t.slots n) h

pub released_there : (t : Table) (n : ℕ) (b : Bool) (s : Slot) → slice_get t.slots n ≡ Some s → slice_get (released t n b).slots n ≡ Some (left b s)
released_there t n b s e = rw e (set_there t.slots n s (left b s) e)

released_other : (ss : List Slot) (n k : ℕ) (b : Bool) (o : Option Slot) → k ≢ n → slice_get (released_on ss n b o) k ≡ slice_get ss k
released_other ss n k b None h = refl
released_other ss n k b (Some s) h = set_elsewhere ss n k (left b s) h

pub released_elsewhere : (t : Table) (n k : ℕ) (b : Bool) → k ≢ n → slice_get (released t n b).slots k ≡ slice_get t.slots k
released_elsewhere t n k b h = released_other t.slots n k b (slice_get t.slots n) h
