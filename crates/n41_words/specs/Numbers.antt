-- Numbers and bytes in lines (own).
use Rattle.std.specs.Prelude.{ℕ, ◌+◌, ◌-◌, ◌*◌, ◌==◌, ◌&&◌, ◌||◌, not, Bool, List, [], ◌∷◌, length, if◌then◌else◌, nat_le, nat_lt, Option, Some, None, Result, Ok, Err}
use Rattle.std.specs.List.{list_all}
use Rattle.hex.specs.Hex.{decode_of}
use Rattle.hex.specs.declared.error.FromHexError.{FromHexError}
use Rattle.n41_words.specs.Lines.{is_empty, begins_with}
use Rattle.n41_words.specs.declared.fault.LineKind.{LineKind}
use Rattle.n41_words.specs.declared.fault.LineKind.TheVariants as kind

-- a digit of this base, which is at most 10
abbrev pub is_digit : ℕ → ℕ → Bool
is_digit base b = nat_le 48 b && nat_lt b (48 + base)

-- the number that digits spell, the highest first, behind the number that stands before them
abbrev pub spelled : ℕ → ℕ → List ℕ → ℕ
spelled base n [] = n
spelled base n (b ∷ bs) = spelled base (n * base + (b - 48)) bs

-- a number, unless it is above the other
abbrev pub at_most : ℕ → ℕ → Option ℕ
at_most most n = if nat_lt n (most + 1) then Some n else None

-- one digit at least, and no zero in front of another
abbrev pub is_decimal : List ℕ → Bool
is_decimal word = not (is_empty word) && list_all (is_digit 10) word && (not (begins_with 48 word) || (length word == 1))

-- the number below the limit that a word is
abbrev pub number : ℕ → List ℕ → Result ℕ LineKind
number limit word = if is_decimal word && nat_lt (spelled 10 0 word) limit then Ok (spelled 10 0 word) else Err kind.Number

-- four octal digits at least, and no zero in front of four others
abbrev pub is_octal : List ℕ → Bool
is_octal word = nat_le 4 (length word) && list_all (is_digit 8) word && (not (begins_with 48 word) || (length word == 4))

-- the number below the limit that a word is in octal
abbrev pub octal : ℕ → List ℕ → Result ℕ LineKind
octal limit word = if is_octal word && nat_lt (spelled 8 0 word) limit then Ok (spelled 8 0 word) else Err kind.Number

abbrev pub of_hex : Result (List ℕ) FromHexError → Result (List ℕ) LineKind
of_hex (Ok bytes) = Ok bytes
of_hex (Err f) = Err kind.Hex

-- the bytes that a word is in hexadecimal, in either case; there is one at least
abbrev pub hex_bytes : List ℕ → Result (List ℕ) LineKind
hex_bytes word = if is_empty word then Err kind.Hex else of_hex (decode_of word)
