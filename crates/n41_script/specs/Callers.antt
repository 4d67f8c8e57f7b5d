-- The callers of a script (own).
use Rattle.std.specs.Prelude.{ℕ, ◌&&◌, not, Bool, List, [], ◌∷◌, ◌++◌, length, if◌then◌else◌, nat_le, Option}
use Rattle.std.specs.List.{position}
use Rattle.std.specs.Option.{is_some, unwrap_or}
use Rattle.n41_words.specs.Words.{same}

-- a caller's place among those that came before
abbrev pub place : List (List ℕ) → List ℕ → Option ℕ
place names word = position (λ name. same name word) names

-- the number of a caller: its place, or that of one more
abbrev pub caller : List (List ℕ) → List ℕ → ℕ
caller names word = unwrap_or (place names word) (length names)

-- the callers with this one, which is added where it is new
abbrev pub with_caller : List (List ℕ) → List ℕ → List (List ℕ)
with_caller names word = if is_some (place names word) then names else names ++ word ∷ []

-- the callers that a script may have
abbrev pub caller_limit : ℕ
caller_limit = 64

abbrev pub is_too_many : List (List ℕ) → List ℕ → Bool
is_too_many names word = not (is_some (place names word)) && nat_le caller_limit (length names)
