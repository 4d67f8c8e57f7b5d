-- The names of callers (own).
use Rattle.std.specs.Prelude.{ℕ, ◌&&◌, ◌||◌, Bool, List, length, nat_le, codes}
use Rattle.std.specs.List.{list_all}
use Rattle.n41_words.specs.Words.{same}

abbrev pub is_within : ℕ → ℕ → ℕ → Bool
is_within low high b = nat_le low b && nat_le b high

-- a lower-case letter or a digit
abbrev pub is_caller_byte : ℕ → Bool
is_caller_byte b = is_within 97 122 b || is_within 48 57 b

-- the form of a caller's name
abbrev pub is_caller : List ℕ → Bool
is_caller word = is_within 1 16 (length word) && list_all is_caller_byte word

-- the first words of lines that are of no caller
abbrev pub is_kept : List ℕ → Bool
is_kept word = same word (codes "plan") || (same word (codes "user") || same word (codes "owner"))
