-- What an ear answers, beside the bytes that it has read. (own)
use Rattle.std.specs.Prelude.{◌≡◌, ◌<◌, ◌+◌, ◌-◌, ◌^◌, min, ℕ, Bool, true, false, List, [], ◌∷◌, ◌++◌, length, Result, Ok, Err}
use Rattle.n41_record.specs.Gathered.{Gathered}
use Rattle.n41_record.specs.Streams.{Records, Refused, BeginsWith}
use Rattle.n41_link.specs.declared.ear.EarGot.{EarGot}
use Rattle.n41_link.specs.declared.ear.EarGot.TheVariants.{Whole, Quiet, End}
use Rattle.n41_link.specs.declared.ear.EarFault.{EarFault}
use Rattle.n41_link.specs.declared.ear.EarFault.TheVariants.{Failed, Gather, NoMemory}

-- what was read begins with the records that were given
abbrev pub GivesFirst : Gathered → Type 0
GivesFirst g = (rest : List ℕ) × BeginsWith g.fed g.given rest

-- each whole record of what was read was given
abbrev pub GaveAll : Gathered → Type 0
GaveAll g = (g.waiting ≡ []) × ((rest : List ℕ) × Records g.fed g.given rest)

-- A record that was heard is the next one. Else none is given: it was quiet, ended or failed where none was left, or behind all records stood one that passes a limit.
abbrev pub Hears : Result EarGot EarFault → Gathered → Gathered → Type 0
Hears (Ok (Whole body)) old new = (new.given ≡ old.given ++ body ∷ []) × GivesFirst new
Hears (Ok Quiet) old new = (new.given ≡ old.given) × GaveAll new
Hears (Ok End) old new = (new.given ≡ old.given) × GaveAll new
Hears (Err Failed) old new = (new.given ≡ old.given) × GaveAll new
Hears (Err (Gather fault)) old new = (new.given ≡ old.given) × (new.waiting ≡ []) × ((rest : List ℕ) × Refused new.fed new.given rest fault)
Hears (Err NoMemory) old new = (new.given ≡ old.given) × (new.waiting ≡ []) × GivesFirst new

-- a count up to the last value of its type
abbrev pub capped : ℕ → ℕ
capped n = min n (2 ^ 64 - 1)

-- one more where it was quiet, up to the last value of the type
abbrev pub one_more : ℕ → Bool → ℕ
one_more n true = min (n + 1) (2 ^ 64 - 1)
one_more n false = n

-- The quiets since the last byte: a byte begins them at 0, and a quiet is one more.
pub record Stills (old new : List ℕ) (before now : ℕ) (quiet : Bool) : Type 0 where
  pub silent : length new ≡ length old → now ≡ one_more before quiet
  pub heard : length old < length new → now ≡ one_more 0 quiet

abbrev pub got_quiet : Result EarGot EarFault → Bool
got_quiet (Ok (Whole body)) = false
got_quiet (Ok Quiet) = true
got_quiet (Ok End) = false
got_quiet (Err e) = false

abbrev pub got_end : Result EarGot EarFault → Bool
got_end (Ok (Whole body)) = false
got_end (Ok Quiet) = false
got_end (Ok End) = true
got_end (Err e) = false

-- the inflow's failure was the cause
abbrev pub failed_to_hear : Result EarGot EarFault → Bool
failed_to_hear (Ok got) = false
failed_to_hear (Err Failed) = true
failed_to_hear (Err (Gather fault)) = false
failed_to_hear (Err NoMemory) = false
