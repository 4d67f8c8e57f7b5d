-- The command of a line, or the first fault in its words (own).
use Rattle.std.specs.Prelude.{Bool, true, false, List, [], ◌∷◌, if◌then◌else◌, Result, Ok, Err, ℕ}
use Rattle.n41_types.specs.declared.commands.Command.{Command}
use Rattle.n41_words.specs.Words.{has_control, missing}
use Rattle.n41_words.specs.declared.fault.LineKind.{LineKind}
use Rattle.n41_words.specs.declared.fault.LineKind.TheVariants as kind
use Rattle.n41_commands.specs.Commands.{onward, verb_of, command_with}
use Rattle.n41_commands.specs.declared.verb.Verb.{Verb}
use Rattle.n41_commands.specs.declared.verb.Verb.TheVariants as verb

-- the verbs whose commands are built
abbrev pub is_built : Verb → Bool
is_built verb.Stat = true
is_built verb.List = true
is_built verb.MakeDir = true
is_built verb.Remove = true
is_built verb.Rename = true
is_built verb.Pause = true
is_built v = false

-- the verb that a word is, of those that are built
abbrev pub built_verb : List ℕ → Result Verb LineKind
built_verb word = onward (verb_of word) (λ v. if is_built v then Ok v else Err kind.Command)

-- what the words behind a verb say, where there may be a command more or not
abbrev pub room_for : Bool → Bool → List (List ℕ) → Verb → Result Command LineKind
room_for full long words v = if full then Err kind.Limit else command_with v long words

-- the words behind the caller
abbrev pub command_of : Bool → Bool → List (List ℕ) → Result Command LineKind
command_of full long [] = Err (missing long kind.Command)
command_of full long (word ∷ words) = if has_control word then Err kind.Byte else onward (built_verb word) (λ v. room_for full long words v)
