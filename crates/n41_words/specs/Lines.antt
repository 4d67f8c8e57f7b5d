-- The lines of a text, and the words of a line (own).
use Rattle.std.specs.Prelude.{ℕ, ◌==◌, ◌||◌, not, Bool, true, false, List, [], ◌∷◌, if◌then◌else◌}

-- with this byte in front of the first list
abbrev pub onto_first : ℕ → List (List ℕ) → List (List ℕ)
onto_first b [] = (b ∷ []) ∷ []
onto_first b (xs ∷ xss) = (b ∷ xs) ∷ xss

-- the lines of a text: each ends with byte 0x0A, which the last may lack
abbrev pub lines : List ℕ → List (List ℕ)
lines [] = []
lines (b ∷ text) = if b == 10 then [] ∷ lines text else onto_first b (lines text)

abbrev pub is_space : ℕ → Bool
is_space b = b == 32

-- a word stands at the front
abbrev pub word_begins : List ℕ → Bool
word_begins [] = false
word_begins (b ∷ text) = not (is_space b)

-- the words of a line: the runs of bytes other than space
abbrev pub words : List ℕ → List (List ℕ)
words [] = []
words (b ∷ text) = if is_space b then words text else (if word_begins text then onto_first b (words text) else (b ∷ []) ∷ words text)

abbrev pub is_empty : {X : Type 0} → List X → Bool
is_empty [] = true
is_empty (x ∷ xs) = false

abbrev pub begins_with : ℕ → List ℕ → Bool
begins_with c [] = false
begins_with c (b ∷ text) = b == c

-- a line without a word, or with `#` as its first byte, says nothing and is tested for nothing
abbrev pub is_skipped : List ℕ → Bool
is_skipped line = begins_with 35 line || is_empty (words line)
