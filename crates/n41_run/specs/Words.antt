-- What the words of the command line may be (own).
use Rattle.std.specs.Prelude.{◌≡◌, ◌<◌, ◌≤◌, ◌+◌, ◌-◌, ℕ, List, [], ◌∷◌, ◌++◌, length, take, codes}
use Rattle.std.specs.Fmt.{decimal}
use Rattle.n41_lines.specs.declared.side.Side.{Side}
use Rattle.n41_lines.specs.declared.side.Side.TheVariants.{Client, Server}
use Rattle.n41_run.specs.declared.words.Verb.{Verb}
use Rattle.n41_run.specs.declared.words.Verb.TheVariants.{Probe, Run, Trace, Dump, Replay}

-- a port: the decimal numeral of a number from 1 to 65535
pub record IsPort (bytes : List ℕ) : Type 0 where
  pub number : ℕ
  pub from_one : 0 < number
  pub in_range : number < 65536
  pub text : bytes ≡ decimal number

-- HOST:PORT, with a host that is not empty
pub record IsAddress (bytes : List ℕ) : Type 0 where
  pub host : List ℕ
  pub port : List ℕ
  pub some_host : 0 < length host
  pub lawful_port : IsPort port
  pub text : bytes ≡ host ++ (58 ∷ port)

abbrev pub verb_text : Verb → List ℕ
verb_text Probe = codes "probe"
verb_text Run = codes "run"
verb_text Trace = codes "trace"
verb_text Dump = codes "dump"
verb_text Replay = codes "replay"

abbrev pub side_text : Side → List ℕ
side_text Client = codes "client"
side_text Server = codes "server"

-- a first word
abbrev pub IsVerb : List ℕ → Type 0
IsVerb word = (verb : Verb) × (word ≡ verb_text verb)

-- the word that may stand behind it: probe ADDR, run ADDR, trace ADDR, dump client, dump server
abbrev pub IsOperand : Verb → List ℕ → Type 0
IsOperand Probe word = IsAddress word
IsOperand Run word = IsAddress word
IsOperand Trace word = IsAddress word
IsOperand Dump word = (side : Side) × (word ≡ side_text side)
IsOperand Replay word = ⊥

-- the words behind it: one such word, or none behind replay
abbrev pub AreOperands : Verb → List (List ℕ) → Type 0
AreOperands verb [] = verb ≡ Replay
AreOperands verb (word ∷ words) = IsOperand verb word × (words ≡ [])

-- the words are one of the forms
pub record IsForm (words : List (List ℕ)) : Type 0 where
  pub verb : Verb
  pub operands : List (List ℕ)
  pub fit : AreOperands verb operands
  pub words_are : words ≡ verb_text verb ∷ operands

-- the words are the first of a form
pub record BeginsForm (words : List (List ℕ)) : Type 0 where
  pub others : List (List ℕ)
  pub form : IsForm (words ++ others)

-- The word at this place, from 1, is the first that fits none of the forms. A place one past the last says that a word is missing.
pub record IsFirstBad (words : List (List ℕ)) (place : ℕ) : Type 0 where
  pub from_one : 0 < place
  pub to_next : place ≤ length words + 1
  pub before_fit : BeginsForm (take (place - 1) words)
  pub unfit : place ≤ length words → BeginsForm (take place words) → ⊥
  pub unfinished : place ≡ length words + 1 → IsForm words → ⊥
