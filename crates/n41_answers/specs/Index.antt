-- What contracts see of an index of answers.
use Rattle.std.specs.Prelude.{ℕ, ◌-◌, List, slice_index, slice_set}

-- for each caller the places of its answers, oldest first, and for how many more there is room
pub record Index : Type 0 where
  pub lists : List (List ℕ)
  pub room : List ℕ

-- the same for one caller
pub record Entry : Type 0 where
  pub places : List ℕ
  pub room : ℕ

abbrev pub places_of : Entry → List ℕ
places_of e = e.places

abbrev pub room_of : Entry → ℕ
room_of e = e.room

-- one place less of a caller's room
abbrev pub spent : List ℕ → ℕ → List ℕ
spent room c = slice_set room c (slice_index room c - 1)
