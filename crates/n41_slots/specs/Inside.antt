-- What is inside the slots, and what contracts see of them.
use Rattle.std.specs.Prelude.{◌≡◌, ◌≤◌, length}
use Rattle.n41_slots.specs.declared.slots.Slots.TheInside.{Inside}
use Rattle.n41_slots.specs.Slots.{Table, count, IsPlaced}

abbrev pub inside : Inside → Table
inside t = record { sid = t.sid; target = t.target; slots = t.slots.items }

-- a session has from 1 to 64 slots, and what is out on them is counted and stands where it tells
pub record IsSound (t : Inside) : Type 0 where
  pub some : 1 ≤ length t.slots.items
  pub few : length t.slots.items ≤ 64
  pub counted : t.out ≡ count t.slots.items
  pub placed : IsPlaced (inside t)
