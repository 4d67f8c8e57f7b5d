-- What a word of a script is tested for (own).
use Rattle.std.specs.Prelude.{ℕ, ◌==◌, ◌||◌, Bool, List, if◌then◌else◌, nat_lt, nat_eq}
use Rattle.std.specs.List.{list_any}
use Rattle.std.specs.Cmp.Lexicographic.{pointwise}
use Rattle.n41_words.specs.declared.fault.LineKind.{LineKind}
use Rattle.n41_words.specs.declared.fault.LineKind.TheVariants.{Limit}

-- a byte that stands in no word
abbrev pub is_control : ℕ → Bool
is_control b = nat_lt b 32 || (b == 127)

abbrev pub has_control : List ℕ → Bool
has_control word = list_any is_control word

abbrev pub same : List ℕ → List ℕ → Bool
same word other = pointwise nat_eq word other

-- What is wrong where a word is missing. A line that is too long has a word, or its end, behind the limit.
abbrev pub missing : Bool → LineKind → LineKind
missing long kind = if long then Limit else kind
