-- Spans of bytes.
use Rattle.std.specs.Prelude.{ℕ, ◌<◌, ◌^◌, ◌-◌, Option, Some, None}

-- the bytes from an offset on: so many, or with None all to the end
pub record Extent : Type 0 where
  pub from : ℕ
  pub len : Option ℕ

-- what may be the length of a span: the number of all ones means "to the end" on the wire, and is None here (RFC 8881, length4)
abbrev pub IsLength : Option ℕ → Type 0
IsLength None = Unit {0}
IsLength (Some n) = n < 2 ^ 64 - 1

-- the number that a length has on the wire (RFC 8881, length4)
abbrev pub length_on_wire : Option ℕ → ℕ
length_on_wire None = 2 ^ 64 - 1
length_on_wire (Some n) = n
