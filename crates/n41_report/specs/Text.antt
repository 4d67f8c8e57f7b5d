-- The text of a script's answers, in a run with or without a breach (own).
use Rattle.std.specs.Prelude.{ℕ, suc, ◌==◌, List, [], ◌∷◌, ◌++◌, codes, Option, Some, None, get_or}
use Rattle.std.specs.Fmt.{decimal}
use Rattle.std.specs.List.{count_by}
use Rattle.n41_types.specs.declared.commands.Answer.{Answer}
use Rattle.n41_journal.specs.declared.events.Event.{Event}
use Rattle.n41_calls.specs.Text.{Line, answer_text, answer_to, unanswered_text}
use Rattle.n41_script.specs.declared.script.Script.{Script}
use Rattle.n41_script.specs.declared.script.ScriptLine.{ScriptLine}

-- how many of these commands are of a caller
abbrev pub commands_of : ℕ → List ScriptLine → ℕ
commands_of c ls = count_by (λ l. l.caller == c) ls

-- The commands of a script behind these ones, with their callers' names. The commands of a caller are numbered from 1.
abbrev pub named : List (List ℕ) → List ScriptLine → List ScriptLine → List Line
named names before [] = []
named names before (l ∷ ls) =
    record { name = get_or names l.caller []; caller = l.caller; number = suc (commands_of l.caller before) } ∷ named names (before ++ l ∷ []) ls

abbrev pub script_lines : Script → List Line
script_lines s = named s.callers [] s.lines

-- the words for how a command ended, in a run with this breach
abbrev pub ending_text : Option ℕ → Option Answer → List ℕ
ending_text breach (Some a) = answer_text a
ending_text breach None = unanswered_text breach

-- a line: the place of the command in the script, from 1, its caller's name, and how it ended
abbrev pub line_text : ℕ → List ℕ → List ℕ → List ℕ
line_text place name ending = decimal place ++ codes " " ++ name ++ codes " " ++ ending ++ codes "\n"

abbrev pub command_text : Option ℕ → List Event → ℕ → Line → List ℕ
command_text breach js place l = line_text place l.name (ending_text breach (answer_to js l.caller l.number))

abbrev pub commands_text : Option ℕ → List Event → ℕ → List Line → List ℕ
commands_text breach js k [] = []
commands_text breach js k (l ∷ ls) = command_text breach js k l ++ commands_text breach js (suc k) ls

-- the text of all commands of a script
abbrev pub script_text : Option ℕ → List Event → Script → List ℕ
script_text breach js s = commands_text breach js 1 (script_lines s)
