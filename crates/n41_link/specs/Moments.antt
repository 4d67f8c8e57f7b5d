-- Moments that are told before they come. (own)
use Rattle.std.specs.Prelude.{◌≡◌, ℕ, max, List, [], ◌∷◌, Some, None}
use Rattle.std.specs.declared.option.Option.{Option}

-- a clock stands at the first of its moments, and gives none before its last
abbrev pub StandsAt : Option (List ℕ) → ℕ → ℕ → Type 0
StandsAt None last now = Unit {0}
StandsAt (Some []) last now = Unit {0}
StandsAt (Some (m ∷ more)) last now = now ≡ max last m

-- to the next moment, where there is one
abbrev pub moved_on : Option (List ℕ) → Option (List ℕ)
moved_on None = None
moved_on (Some []) = Some []
moved_on (Some (m ∷ [])) = Some (m ∷ [])
moved_on (Some (m ∷ (next ∷ more))) = Some (next ∷ more)
