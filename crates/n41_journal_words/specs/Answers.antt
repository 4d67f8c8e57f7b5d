-- An answer as it stands at the end of a line (own).
use Rattle.std.specs.Prelude.{ℕ, zero, suc, ◌^◌, Bool, true, false, List, [], ◌∷◌, if◌then◌else◌, codes, Option, Some, None, Result, Ok, Err}
use Rattle.n41_types.specs.declared.commands.Answer.{Answer}
use Rattle.n41_types.specs.declared.commands.Answer.TheVariants as says
use Rattle.n41_types.specs.declared.commands.Value.TheVariants as value
use Rattle.n41_xdr.specs.Reading.{◌>>=◌}
use Rattle.n41_words.specs.Words.{same}
use Rattle.n41_words.specs.Numbers.{number, octal, hex_bytes}
use Rattle.n41_words.specs.declared.fault.LineKind.{LineKind}
use Rattle.n41_words.specs.declared.fault.LineKind.TheVariants as kind
use Rattle.n41_journal_words.specs.Names.{name_of}
use Rattle.n41_journal_words.specs.Reading.{fixed, form_at, field_at, alone, last_at}
use Rattle.n41_journal_words.specs.declared.first.First.{First}
use Rattle.n41_journal_words.specs.declared.first.First.TheVariants as first

-- ---- the forms of words

-- the number of a u32, and that of a u64
abbrev pub number32 : List ℕ → Result ℕ LineKind
number32 word = number (2 ^ 32) word

abbrev pub number64 : List ℕ → Result ℕ LineKind
number64 word = number (2 ^ 64) word

abbrev pub is_dash : List ℕ → Bool
is_dash word = same word (codes "-")

-- what is missing is a dash
abbrev pub or_dash : (List ℕ → Result ℕ LineKind) → List ℕ → Result (Option ℕ) LineKind
or_dash form word = if is_dash word then Ok None else form word >>= λ n. Ok (Some n)

abbrev pub mode : List ℕ → Result ℕ LineKind
mode word = octal (2 ^ 32) word

-- bytes in hexadecimal, a dash for none
abbrev pub data_bytes : List ℕ → Result (List ℕ) LineKind
data_bytes word = if is_dash word then Ok [] else hex_bytes word

-- whether the bytes are the last of the file
abbrev pub is_last : List ℕ → Result Bool LineKind
is_last word = if same word (codes "end") then Ok true else if same word (codes "more") then Ok false else Err kind.Command

-- ---- the first word

abbrev pub first_text : First → List ℕ
first_text first.Opened = codes "opened"
first_text first.Data = codes "data"
first_text first.Wrote = codes "wrote"
first_text first.Locked = codes "locked"
first_text first.Unlocked = codes "unlocked"
first_text first.Free = codes "free"
first_text first.Truncated = codes "truncated"
first_text first.Closed = codes "closed"
first_text first.Stat = codes "stat"
first_text first.Names = codes "names"
first_text first.Made = codes "made"
first_text first.Removed = codes "removed"
first_text first.Renamed = codes "renamed"
first_text first.Paused = codes "paused"
first_text first.Refused = codes "refused"
first_text first.Unknown = codes "unknown"
first_text first.Lost = codes "lost"
first_text first.Unreachable = codes "unreachable"
first_text first.Not = codes "not"
first_text first.Breach = codes "breach"

abbrev pub firsts : List First
firsts = first.Opened ∷ first.Data ∷ first.Wrote ∷ first.Locked ∷ first.Unlocked ∷ first.Free ∷ first.Truncated ∷ first.Closed ∷ first.Stat ∷ first.Names ∷ first.Made ∷ first.Removed ∷ first.Renamed ∷ first.Paused ∷ first.Refused ∷ first.Unknown ∷ first.Lost ∷ first.Unreachable ∷ first.Not ∷ first.Breach ∷ []

-- the one that a word is, of these
abbrev pub first_among : List First → List ℕ → Result First LineKind
first_among [] word = Err kind.Command
first_among (f ∷ fs) word = if same word (first_text f) then Ok f else first_among fs word

abbrev pub first_of : List ℕ → Result First LineKind
first_of word = first_among firsts word

-- ---- what stands behind it

-- a number
abbrev pub numbered : (List ℕ → Result ℕ LineKind) → (ℕ → Answer) → List (List ℕ) → Result Answer LineKind
numbered form answer words = last_at form words >>= λ n. Ok (answer n)

abbrev pub data_of : List (List ℕ) → Result Answer LineKind
data_of words = form_at data_bytes words >>= λ bytes. last_at is_last bytes.1 >>= λ last. Ok (says.Done (value.Got bytes.0 last))

-- each attribute behind its name
abbrev pub stat_of : List (List ℕ) → Result Answer LineKind
stat_of words = do
  type ← field_at (codes "type") number32 words
  size ← field_at (codes "size") number64 type.1
  fileid ← field_at (codes "fileid") (or_dash number64) size.1
  mode ← field_at (codes "mode") (or_dash mode) fileid.1
  alone (says.Done (value.Stat type.0 size.0 fileid.0 mode.0)) mode.1

-- so many names
abbrev pub names_at : ℕ → List (List ℕ) → Result (List (List ℕ) × List (List ℕ)) LineKind
names_at zero words = Ok ([], words)
names_at (suc n) words = form_at name_of words >>= λ x. names_at n x.1 >>= λ y. Ok (x.0 ∷ y.0, y.1)

-- whether there are more names than are told, and what stands behind
abbrev pub more_at : List (List ℕ) → Bool × List (List ℕ)
more_at [] = (false, [])
more_at (word ∷ words) = if same word (codes "more") then (true, words) else (false, word ∷ words)

abbrev pub names_of : List (List ℕ) → Result Answer LineKind
names_of words = do
  count ← form_at number64 words
  names ← names_at count.0 count.1
  alone (says.Done (value.Names names.0 (more_at names.1).0)) (more_at names.1).1

abbrev pub not_of : List (List ℕ) → Result Answer LineKind
not_of words = last_at (fixed (codes "open")) words >>= λ done. Ok says.NotOpen

abbrev pub answer_behind : First → List (List ℕ) → Result Answer LineKind
answer_behind first.Opened words = alone (says.Done value.Opened) words
answer_behind first.Data words = data_of words
answer_behind first.Wrote words = numbered number32 (λ n. says.Done (value.Wrote n)) words
answer_behind first.Locked words = alone (says.Done value.Locked) words
answer_behind first.Unlocked words = alone (says.Done value.Unlocked) words
answer_behind first.Free words = alone (says.Done value.Free) words
answer_behind first.Truncated words = alone (says.Done value.Truncated) words
answer_behind first.Closed words = alone (says.Done value.Closed) words
answer_behind first.Stat words = stat_of words
answer_behind first.Names words = names_of words
answer_behind first.Made words = alone (says.Done value.Made) words
answer_behind first.Removed words = alone (says.Done value.Removed) words
answer_behind first.Renamed words = alone (says.Done value.Renamed) words
answer_behind first.Paused words = alone (says.Done value.Paused) words
answer_behind first.Refused words = numbered number32 (λ s. says.Refused (record { 0 = s })) words
answer_behind first.Unknown words = alone says.Unknown words
answer_behind first.Lost words = numbered number32 (λ s. says.StateLost (record { 0 = record { 0 = s } })) words
answer_behind first.Unreachable words = numbered number64 (λ n. says.Unreachable n) words
answer_behind first.Not words = not_of words
answer_behind first.Breach words = numbered number64 (λ p. says.Breach p) words

-- the answer that words say, to the end of their line
abbrev pub answer_of : List (List ℕ) → Result Answer LineKind
answer_of words = form_at first_of words >>= λ f. answer_behind f.0 f.1
