-- The commands of a script: which words are one, and how one is written (own).
use Rattle.std.specs.Prelude.{ℕ, ◌-◌, ◌^◌, ◌&&◌, not, Bool, List, [], ◌∷◌, length, if◌then◌else◌, nat_le, codes, Option, Some, None, Result, Ok, Err}
use Rattle.n41_types.specs.Spans.{Extent}
use Rattle.n41_types.specs.declared.commands.Command.{Command}
use Rattle.n41_types.specs.declared.commands.Command.TheVariants as command
use Rattle.n41_types.specs.declared.spans.LockKind.{LockKind}
use Rattle.n41_types.specs.declared.spans.LockKind.TheVariants as locks
use Rattle.n41_types.specs.declared.spans.Mode.{Mode}
use Rattle.n41_types.specs.declared.spans.Mode.TheVariants as mode
use Rattle.n41_words.specs.Words.{has_control, same, missing}
use Rattle.n41_words.specs.Numbers.{number, hex_bytes}
use Rattle.n41_words.specs.declared.fault.LineKind.{LineKind}
use Rattle.n41_words.specs.declared.fault.LineKind.TheVariants as kind
use Rattle.n41_commands.specs.Callers.{is_caller, is_kept}
use Rattle.n41_commands.specs.Paths.{path, target}
use Rattle.n41_commands.specs.declared.verb.Verb.{Verb}
use Rattle.n41_commands.specs.declared.verb.Verb.TheVariants as verb

-- ---- words, from left to right

abbrev pub onward : {X Y : Type 0} → Result X LineKind → (X → Result Y LineKind) → Result Y LineKind
onward (Ok x) go = go x
onward (Err k) go = Err k

-- The next word, by its form, and then what stands behind it. First its bytes are looked at, then its form. Where there is none, the line is at
-- its end, or at the byte behind its limit.
abbrev pub next : {X Y : Type 0} → Bool → List (List ℕ) → (List ℕ → Result X LineKind) → (X → List (List ℕ) → Result Y LineKind) → Result Y LineKind
next long [] form go = Err (missing long kind.Words)
next long (word ∷ words) form go = if has_control word then Err kind.Byte else onward (form word) (λ x. go x words)

-- the words end here
abbrev pub ended : {Y : Type 0} → Bool → List (List ℕ) → Y → Result Y LineKind
ended long [] y = if long then Err kind.Limit else Ok y
ended long (word ∷ words) y = Err (if has_control word then kind.Byte else kind.Words)

-- ---- the forms of words

-- a caller's name for a handle has the form of a caller
abbrev pub label : List ℕ → Result (List ℕ) LineKind
label word = if is_caller word && not (is_kept word) then Ok word else Err kind.Name

abbrev pub mode_of : List ℕ → Result Mode LineKind
mode_of word = if same word (codes "r") then Ok mode.Read else (if same word (codes "w") then Ok mode.Write else (if same word (codes "rw") then Ok mode.Both else Err kind.Command))

abbrev pub kind_of : List ℕ → Result LockKind LineKind
kind_of word = if same word (codes "r") then Ok locks.Read else (if same word (codes "w") then Ok locks.Write else Err kind.Command)

abbrev pub offset : List ℕ → Result ℕ LineKind
offset word = number (2 ^ 64) word

abbrev pub from_one : Result ℕ LineKind → Result ℕ LineKind
from_one (Ok n) = if nat_le 1 n then Ok n else Err kind.Number
from_one (Err k) = Err k

-- 1 to 65,536 bytes
abbrev pub count : List ℕ → Result ℕ LineKind
count word = from_one (number 65537 word)

-- at most 600 seconds
abbrev pub seconds : List ℕ → Result ℕ LineKind
seconds word = number 601 word

abbrev pub some : Result ℕ LineKind → Result (Option ℕ) LineKind
some (Ok n) = Ok (Some n)
some (Err k) = Err k

-- a length in bytes, or to the end of the file
abbrev pub extent : List ℕ → Result (Option ℕ) LineKind
extent word = if same word (codes "eof") then Ok None else some (number (2 ^ 64 - 1) word)

-- at most so many digits are the bytes of a write
abbrev pub digit_limit : ℕ
digit_limit = 131072

abbrev pub payload : List ℕ → Result (List ℕ) LineKind
payload word = if nat_le (length word) digit_limit then hex_bytes word else Err kind.Hex

-- ---- the commands

-- an offset and a length
abbrev pub span : {Y : Type 0} → Bool → List (List ℕ) → (Extent → List (List ℕ) → Result Y LineKind) → Result Y LineKind
span long words go = next long words offset (λ from words. next long words extent (λ len words. go (record { from = from; len = len }) words))

-- a file is created, or with `guarded` only where none is there
abbrev pub create : Bool → Bool → List (List ℕ) → Result Command LineKind
create guarded long words = next long words label (λ l words. next long words target (λ p words. ended long words (command.Create l p guarded)))

-- what the words behind a verb say
abbrev pub command_with : Verb → Bool → List (List ℕ) → Result Command LineKind
command_with verb.Create long words = create Bool.false long words
command_with verb.New long words = create Bool.true long words
command_with verb.Open long words = next long words label (λ l words. next long words path (λ p words. next long words mode_of (λ m words. ended long words (command.OpenFile l p m))))
command_with verb.Read long words = next long words label (λ l words. next long words offset (λ o words. next long words count (λ n words. ended long words (command.Read l o n))))
command_with verb.Write long words = next long words label (λ l words. next long words offset (λ o words. next long words payload (λ b words. ended long words (command.Write l o b))))
command_with verb.Lock long words = next long words label (λ l words. next long words kind_of (λ k words. span long words (λ s words. ended long words (command.Lock l k s))))
command_with verb.Unlock long words = next long words label (λ l words. span long words (λ s words. ended long words (command.Unlock l s)))
command_with verb.TestLock long words = next long words label (λ l words. next long words kind_of (λ k words. span long words (λ s words. ended long words (command.TestLock l k s))))
command_with verb.Truncate long words = next long words label (λ l words. next long words offset (λ n words. ended long words (command.Truncate l n)))
command_with verb.Close long words = next long words label (λ l words. ended long words (command.Close l))
command_with verb.Stat long words = next long words path (λ p words. ended long words (command.Stat p))
command_with verb.List long words = next long words path (λ p words. ended long words (command.List p))
command_with verb.MakeDir long words = next long words target (λ p words. ended long words (command.MakeDir p))
command_with verb.Remove long words = next long words target (λ p words. ended long words (command.Remove p))
command_with verb.Rename long words = next long words target (λ p words. next long words target (λ q words. ended long words (command.Rename p q)))
command_with verb.Pause long words = next long words seconds (λ s words. ended long words (command.Pause s))

-- the word of a verb
abbrev pub verb_text : Verb → List ℕ
verb_text verb.Create = codes "create"
verb_text verb.New = codes "new"
verb_text verb.Open = codes "open"
verb_text verb.Read = codes "read"
verb_text verb.Write = codes "write"
verb_text verb.Lock = codes "lock"
verb_text verb.Unlock = codes "unlock"
verb_text verb.TestLock = codes "testlock"
verb_text verb.Truncate = codes "truncate"
verb_text verb.Close = codes "close"
verb_text verb.Stat = codes "stat"
verb_text verb.List = codes "list"
verb_text verb.MakeDir = codes "mkdir"
verb_text verb.Remove = codes "remove"
verb_text verb.Rename = codes "rename"
verb_text verb.Pause = codes "pause"

abbrev pub verbs : List Verb
verbs = verb.Create ∷ verb.New ∷ verb.Open ∷ verb.Read ∷ verb.Write ∷ verb.Lock ∷ verb.Unlock ∷ verb.TestLock ∷ verb.Truncate ∷ verb.Close ∷ verb.Stat ∷ verb.List ∷ verb.MakeDir ∷ verb.Remove ∷ verb.Rename ∷ verb.Pause ∷ []

-- the verb that a word is, of these
abbrev pub verb_among : List Verb → List ℕ → Result Verb LineKind
verb_among [] word = Err kind.Command
verb_among (v ∷ vs) word = if same word (verb_text v) then Ok v else verb_among vs word

abbrev pub verb_of : List ℕ → Result Verb LineKind
verb_of word = verb_among verbs word

-- what words say as a command
abbrev pub command_of : Bool → List (List ℕ) → Result Command LineKind
command_of long [] = Err (missing long kind.Command)
command_of long (word ∷ words) = if has_control word then Err kind.Byte else onward (verb_of word) (λ v. command_with v long words)
