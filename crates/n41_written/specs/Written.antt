-- A command as it is written (own).
use Rattle.std.specs.Prelude.{◌≡◌, ℕ, Bool, true, false, List, ◌++◌, codes, Option, Some, None, Ok}
use Rattle.std.specs.Fmt.{decimal}
use Rattle.hex.specs.Hex.{encode_lower}
use Rattle.n41_types.specs.Spans.{Extent}
use Rattle.n41_types.specs.declared.commands.Command.{Command}
use Rattle.n41_types.specs.declared.commands.Command.TheVariants as command
use Rattle.n41_types.specs.declared.spans.LockKind.{LockKind}
use Rattle.n41_types.specs.declared.spans.LockKind.TheVariants as locks
use Rattle.n41_types.specs.declared.spans.Mode.{Mode}
use Rattle.n41_types.specs.declared.spans.Mode.TheVariants as mode
use Rattle.n41_words.specs.Lines.{words}
use Rattle.n41_commands.specs.Paths.{path_text}
use Rattle.n41_commands.specs.Commands.{command_of, verb_text}
use Rattle.n41_commands.specs.declared.verb.Verb.TheVariants as verb

abbrev pub mode_text : Mode → List ℕ
mode_text mode.Read = codes "r"
mode_text mode.Write = codes "w"
mode_text mode.Both = codes "rw"

abbrev pub kind_text : LockKind → List ℕ
kind_text locks.Read = codes "r"
kind_text locks.Write = codes "w"

abbrev pub extent_text : Option ℕ → List ℕ
extent_text None = codes "eof"
extent_text (Some n) = decimal n

-- two words with a space between them
infixr 5 ◌·◌
abbrev pub ◌·◌ : List ℕ → List ℕ → List ℕ
a · b = a ++ codes " " ++ b

abbrev pub span_text : Extent → List ℕ
span_text s = decimal s.from · extent_text s.len

abbrev pub create_text : Bool → List ℕ
create_text false = verb_text verb.Create
create_text true = verb_text verb.New

-- the words of a command, with one space between two of them
abbrev pub command_text : Command → List ℕ
command_text (command.Create l p g) = create_text g · (l · path_text p)
command_text (command.OpenFile l p m) = verb_text verb.Open · (l · (path_text p · mode_text m))
command_text (command.Read l o n) = verb_text verb.Read · (l · (decimal o · decimal n))
command_text (command.Write l o b) = verb_text verb.Write · (l · (decimal o · encode_lower b))
command_text (command.Lock l k s) = verb_text verb.Lock · (l · (kind_text k · span_text s))
command_text (command.Unlock l s) = verb_text verb.Unlock · (l · span_text s)
command_text (command.TestLock l k s) = verb_text verb.TestLock · (l · (kind_text k · span_text s))
command_text (command.Truncate l n) = verb_text verb.Truncate · (l · decimal n)
command_text (command.Close l) = verb_text verb.Close · l
command_text (command.Stat p) = verb_text verb.Stat · path_text p
command_text (command.List p) = verb_text verb.List · path_text p
command_text (command.MakeDir p) = verb_text verb.MakeDir · path_text p
command_text (command.Remove p) = verb_text verb.Remove · path_text p
command_text (command.Rename p q) = verb_text verb.Rename · (path_text p · path_text q)
command_text (command.Pause s) = verb_text verb.Pause · decimal s

-- The law of what is written: a command that the words of a line say is said by the words of the line that is written for it.
abbrev pub ReadsWhatIsWritten : Type 0
ReadsWhatIsWritten = (line : List ℕ) (c : Command) → command_of false (words line) ≡ Ok c → command_of false (words (command_text c)) ≡ Ok c
