-- What an inlet answers, beside the bytes that it has read. (own)
use Rattle.std.specs.Prelude.{◌≡◌, ◌⊎◌, ℕ, Bool, true, false, List, [], ◌∷◌, ◌++◌, length, Result, Ok, Err}
use Rattle.n41_record.specs.Gathered.{Gathered}
use Rattle.n41_record.specs.Streams.{Refused}
use Rattle.n41_link.specs.Heard.{GivesFirst, GaveAll, capped}
use Rattle.n41_results.specs.declared.replies.Reply.{Reply}
use Rattle.n41_replies.specs.Replies.{reply_at}
use Rattle.n41_wire.specs.declared.arrival.Arrival.{Arrival}
use Rattle.n41_wire.specs.declared.arrival.InGot.{InGot}
use Rattle.n41_wire.specs.declared.arrival.InGot.TheVariants.{Came, Quiet, End}
use Rattle.n41_wire.specs.declared.fault.InFault.{InFault}
use Rattle.n41_wire.specs.declared.fault.InFault.TheVariants.{Failed, Gather, Garbled, NoMemory}

-- it is this reply that came on this connection, at the place behind these
pub record IsNext (a : Arrival) (conn : ℕ) (before : List Reply) : Type 0 where
  pub here : a.conn ≡ conn
  pub behind : a.place ≡ capped (length before)

-- A record: it is the next arrival, or no reply, or memory ran out.
abbrev pub TakesRecord : Result Arrival InFault → ℕ → List ℕ → List Reply → List Reply → Type 0
TakesRecord (Ok a) conn bytes before now = (reply_at bytes ≡ Ok a.reply) × IsNext a conn before × (now ≡ before ++ a.reply ∷ [])
TakesRecord (Err Failed) conn bytes before now = ⊥
TakesRecord (Err (Gather fault)) conn bytes before now = ⊥
TakesRecord (Err (Garbled fault)) conn bytes before now = (reply_at bytes ≡ Err fault) × (now ≡ before)
TakesRecord (Err NoMemory) conn bytes before now = now ≡ before

-- An arrival and what is garbled are one record more that the ear gave, the next one. Else none was given: it was quiet, ended or failed where none was left, or
-- behind all records stood one that passes a limit. Want of memory may have come before a record or at it.
abbrev pub Gets : Result InGot InFault → ℕ → Gathered → Gathered → List Reply → List Reply → Type 0
Gets (Ok (Came a)) conn old new before now = (bytes : List ℕ) × (new.given ≡ old.given ++ bytes ∷ []) × (reply_at bytes ≡ Ok a.reply) × IsNext a conn before × (now ≡ before ++ a.reply ∷ []) × GivesFirst new
Gets (Ok Quiet) conn old new before now = (new.given ≡ old.given) × (now ≡ before) × GaveAll new
Gets (Ok End) conn old new before now = (new.given ≡ old.given) × (now ≡ before) × GaveAll new
Gets (Err Failed) conn old new before now = (new.given ≡ old.given) × (now ≡ before) × GaveAll new
Gets (Err (Gather fault)) conn old new before now = (new.given ≡ old.given) × (now ≡ before) × (new.waiting ≡ []) × ((rest : List ℕ) × Refused new.fed new.given rest fault)
Gets (Err (Garbled fault)) conn old new before now = (bytes : List ℕ) × (new.given ≡ old.given ++ bytes ∷ []) × (reply_at bytes ≡ Err fault) × (now ≡ before) × GivesFirst new
Gets (Err NoMemory) conn old new before now = ((new.given ≡ old.given) ⊎ ((bytes : List ℕ) × (new.given ≡ old.given ++ bytes ∷ []))) × (now ≡ before) × GivesFirst new

abbrev pub in_quiet : Result InGot InFault → Bool
in_quiet (Ok (Came a)) = false
in_quiet (Ok Quiet) = true
in_quiet (Ok End) = false
in_quiet (Err e) = false

abbrev pub in_end : Result InGot InFault → Bool
in_end (Ok (Came a)) = false
in_end (Ok Quiet) = false
in_end (Ok End) = true
in_end (Err e) = false

-- the inflow's failure was the cause
abbrev pub failed_to_get : Result InGot InFault → Bool
failed_to_get (Ok got) = false
failed_to_get (Err Failed) = true
failed_to_get (Err (Gather fault)) = false
failed_to_get (Err (Garbled fault)) = false
failed_to_get (Err NoMemory) = false
