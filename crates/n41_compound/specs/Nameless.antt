-- What is told of bytes that are no name.
use Rattle.std.specs.Prelude.{◌≡◌, ℕ, List, Option, None}
use Rattle.n41_types.specs.declared.names.NameFault.{NameFault}
use Rattle.n41_types.specs.declared.names.NameFault.TheVariants.{NoMemory}

-- own: for a fault of bytes no name is told, and none for want of memory
abbrev pub IsNameless : NameFault → Option (List ℕ) → Type 0
IsNameless NoMemory name = ⊥
IsNameless _ name = name ≡ None
