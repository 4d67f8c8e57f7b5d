-- Counts of what came from outside: they never fall, and a call that tells of something has raised its count. (own)
use Rattle.std.specs.Prelude.{ℕ, ◌+◌, ◌-◌, ◌^◌, ◌≤◌, min, Bool, true, false, IsTrue, Result, Ok, Err}

-- A count rose by one or more, or it stands at the last value of its type.
abbrev pub Rose : ℕ → ℕ → Type 0
Rose before now = min (before + 1) (2 ^ 64 - 1) ≤ now

-- A count never falls, and has risen where the call told so.
pub record Counts (before now : ℕ) (told : Bool) : Type 0 where
  pub later : before ≤ now
  pub rose : IsTrue told → Rose before now

abbrev pub is_failed : {T E : Type 0} → Result T E → Bool
is_failed (Ok x) = false
is_failed (Err e) = true
