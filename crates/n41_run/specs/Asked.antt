-- What a command of the program is, and what words ask for it.
use Rattle.std.specs.Prelude.{◌≡◌, ℕ, List, [], ◌∷◌}
use Rattle.n41_run.specs.declared.words.Command.{Command}
use Rattle.n41_run.specs.declared.words.Command.TheVariants.{Probe, Run, Trace, Dump, Replay}
use Rattle.n41_run.specs.declared.words.Verb.{Verb}
use Rattle.n41_run.specs.declared.words.Verb.TheVariants as verb
use Rattle.n41_run.specs.Words.{IsAddress, verb_text, side_text}

-- the first word and the words behind it, for a command
abbrev pub Takes : Verb → List (List ℕ) → Command → Type 0
Takes v words (Probe address) = (v ≡ verb.Probe) × IsAddress address.now × (words ≡ address.now ∷ [])
Takes v words (Run address) = (v ≡ verb.Run) × IsAddress address.now × (words ≡ address.now ∷ [])
Takes v words (Trace address) = (v ≡ verb.Trace) × IsAddress address.now × (words ≡ address.now ∷ [])
Takes v words (Dump side) = (v ≡ verb.Dump) × (words ≡ side_text side ∷ [])
Takes v words Replay = (v ≡ verb.Replay) × (words ≡ [])

-- the words ask for it, and for nothing more
abbrev pub Asks : List (List ℕ) → Command → Type 0
Asks words command = (v : Verb) × (others : List (List ℕ)) × (words ≡ verb_text v ∷ others) × Takes v others command
