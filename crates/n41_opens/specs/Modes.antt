-- What opens of a file let their handles do (RFC 8881, section 18.16.3, share_access).
use Rattle.std.specs.Prelude.{Bool, true, false, List, [], ◌∷◌, Option, None, Some}
use Rattle.n41_types.specs.declared.spans.Mode.{Mode}
use Rattle.n41_types.specs.declared.spans.Mode.TheVariants.{Read, Write, Both}

-- what two opens let do, taken together
abbrev pub joined : Mode → Mode → Mode
joined Read Read = Read
joined Read Write = Both
joined Read Both = Both
joined Write Read = Both
joined Write Write = Write
joined Write Both = Both
joined Both Read = Both
joined Both Write = Both
joined Both Both = Both

abbrev pub joined_with : Mode → Option Mode → Mode
joined_with m None = m
joined_with m (Some n) = joined m n

-- what a list of opens lets do, taken together; None where there are none
abbrev pub union : List Mode → Option Mode
union [] = None
union (m ∷ ms) = Some (joined_with m (union ms))

-- the first lets do less than the second
abbrev pub is_less : Mode → Mode → Bool
is_less Read Read = false
is_less Read Write = false
is_less Read Both = true
is_less Write Read = false
is_less Write Write = false
is_less Write Both = true
is_less Both n = false
