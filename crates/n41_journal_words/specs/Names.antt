-- Names of files as they stand in a line (own).
use Rattle.std.specs.Prelude.{ℕ, ◌+◌, ◌*◌, ◌==◌, ◌&&◌, not, nat_lt, Bool, List, [], ◌∷◌, if◌then◌else◌, Option, Some, None, Result, Ok, Err}
use Rattle.std.specs.List.{position}
use Rattle.hex.specs.Hex.{upper_digits}
use Rattle.n41_xdr.specs.Reading.{◌>>=◌}
use Rattle.n41_words.specs.declared.fault.LineKind.{LineKind}
use Rattle.n41_words.specs.declared.fault.LineKind.TheVariants as kind

-- a byte that stands for itself: none that is a blank, a control, above 0x7E, or `%`
abbrev pub is_plain : ℕ → Bool
is_plain b = nat_lt 32 b && nat_lt b 127 && not (b == 37)

abbrev pub plain : ℕ → Result ℕ LineKind
plain b = if is_plain b then Ok b else Err kind.Command

-- what an upper hexadecimal digit says
abbrev pub digit : ℕ → Option ℕ
digit d = position (λ c. c == d) upper_digits

-- a byte by its two digits
abbrev pub pair : Option ℕ → Option ℕ → Option ℕ
pair None low = None
pair (Some high) None = None
pair (Some high) (Some low) = Some (16 * high + low)

-- a byte that is told by two digits, which does not stand for itself
abbrev pub escaped : Option ℕ → Result ℕ LineKind
escaped None = Err kind.Command
escaped (Some b) = if is_plain b then Err kind.Command else Ok b

abbrev pub in_front : Result ℕ LineKind → Result (List ℕ) LineKind → Result (List ℕ) LineKind
in_front byte others = byte >>= λ b. others >>= λ bs. Ok (b ∷ bs)

-- The name that a word tells. Each byte is itself, or `%` and two upper hexadecimal digits.
abbrev pub name_of : List ℕ → Result (List ℕ) LineKind
name_of [] = Ok []
name_of (b ∷ []) = in_front (plain b) (Ok [])
name_of (b ∷ c ∷ []) = in_front (plain b) (name_of (c ∷ []))
name_of (b ∷ h ∷ l ∷ text) = if b == 37 then in_front (escaped (pair (digit h) (digit l))) (name_of text) else in_front (plain b) (name_of (h ∷ l ∷ text))
