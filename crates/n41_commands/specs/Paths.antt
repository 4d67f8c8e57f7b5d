-- Paths and names in lines (own).
use Rattle.std.specs.Prelude.{ℕ, ◌==◌, ◌&&◌, ◌||◌, not, Bool, List, [], ◌∷◌, length, if◌then◌else◌, nat_le, codes, Result, Ok, Err}
use Rattle.std.specs.List.{list_all, slice_split, flat_map}
use Rattle.n41_words.specs.Lines.{is_empty}
use Rattle.n41_words.specs.Words.{same}
use Rattle.n41_words.specs.declared.fault.LineKind.{LineKind}
use Rattle.n41_words.specs.declared.fault.LineKind.TheVariants as kind

-- the bytes of a name are no zero byte and no `/`
abbrev pub is_name_byte : ℕ → Bool
is_name_byte b = not (b == 0) && not (b == 47)

-- 1 to 255 of them (n41_types, Name)
abbrev pub is_name : List ℕ → Bool
is_name bytes = not (is_empty bytes) && nat_le (length bytes) 255 && list_all is_name_byte bytes

-- the names of a directory in itself and in the one below it, which are walked nowhere
abbrev pub is_dots : List ℕ → Bool
is_dots bytes = same bytes (codes ".") || same bytes (codes "..")

abbrev pub is_step : List ℕ → Bool
is_step bytes = is_name bytes && not (is_dots bytes)

-- a name of a path
abbrev pub step : List ℕ → Result (List ℕ) LineKind
step bytes = if is_step bytes then Ok bytes else Err kind.Path

-- the names that a path may have
abbrev pub path_limit : ℕ
path_limit = 16

abbrev pub are_steps : List (List ℕ) → Result (List (List ℕ)) LineKind
are_steps names = if list_all is_step names && nat_le (length names) path_limit then Ok names else Err kind.Path

-- what stands behind the first `/`: nothing, or names with a `/` between two of them
abbrev pub steps : List ℕ → Result (List (List ℕ)) LineKind
steps [] = Ok []
steps (b ∷ bs) = are_steps (slice_split (λ c. c == 47) (b ∷ bs))

-- the names of a path, from the root on
abbrev pub path : List ℕ → Result (List (List ℕ)) LineKind
path [] = Err kind.Path
path (b ∷ bs) = if b == 47 then steps bs else Err kind.Path

abbrev pub named : Result (List (List ℕ)) LineKind → Result (List (List ℕ)) LineKind
named (Ok names) = if is_empty names then Err kind.Path else Ok names
named (Err k) = Err k

-- a path other than the root's
abbrev pub target : List ℕ → Result (List (List ℕ)) LineKind
target word = named (path word)

-- a path as it is written
abbrev pub path_text : List (List ℕ) → List ℕ
path_text [] = codes "/"
path_text (n ∷ ns) = flat_map (λ name. 47 ∷ name) (n ∷ ns)
