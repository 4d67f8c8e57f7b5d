-- The part of a line that is read (own).
use Rattle.std.specs.Prelude.{ℕ, ◌+◌, ◌-◌, not, Bool, List, length, take, if◌then◌else◌, nat_lt}
use Rattle.std.specs.List.{suffix_len}
use Rattle.n41_words.specs.Lines.{is_space}

-- the bytes that a line may have
abbrev pub line_limit : ℕ
line_limit = 140000

abbrev pub is_long : List ℕ → Bool
is_long line = nat_lt line_limit (length line)

-- a line without the word at its end
abbrev pub to_last_space : List ℕ → List ℕ
to_last_space text = take (length text - suffix_len (λ b. not (is_space b)) text) text

-- The part of a line whose words are looked at. A line that is too long has its fault at the first byte behind the limit, so there it is the
-- words that end before that byte.
abbrev pub readable : List ℕ → List ℕ
readable line = if is_long line then to_last_space (take (line_limit + 1) line) else line
