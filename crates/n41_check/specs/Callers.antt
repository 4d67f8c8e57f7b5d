-- What is kept of the callers' commands.
use Rattle.std.specs.Prelude.{ℕ, false, List, [], ◌∷◌, Option, Some, None, if◌then◌else◌, nat_lt, unwrap_or}
use Rattle.std.specs.BTreeMap.{BTreeMap, get}
use Rattle.std.specs.Ordering.{nat_cmp}
use Rattle.n41_types.specs.declared.commands.Command.{Command}
use Rattle.n41_types.specs.declared.plans.Plan.{Plan}
use Rattle.n41_results.specs.declared.sessions.SessionMade.{SessionMade}
use Rattle.n41_calls.specs.Calls.{at_root, fresh_call, way_of, answered_call, put_call}
use Rattle.n41_view.specs.Step.{call_of, with_call, wants}
use Rattle.n41_view.specs.declared.tables.Seat.{Seat}

-- a caller that began nothing
abbrev pub blank_seat : ℕ → Seat
blank_seat c = record {
  caller = c;
  command = None;
  number = 0;
  began_at = 0;
  began_on = 0;
  busy = false;
  since = None;
  attempts = 0;
  earned = None;
  way = at_root None None;
}

-- what is kept of a caller
abbrev pub seat_at : BTreeMap ℕ Seat → ℕ → Seat
seat_at m c = unwrap_or (get nat_cmp m c) (blank_seat c)

-- a caller that began its command of this number, at this moment and place
abbrev pub begun : ℕ → ℕ → Command → ℕ → ℕ → Seat
begun c n k m at = with_call (record (blank_seat c) { command = Some k; number = n; began_at = at; began_on = m }) (fresh_call (way_of k))

-- a new request of its command is out
abbrev pub put : Seat → Seat
put s = with_call s (put_call (call_of s))

-- its command was answered
abbrev pub answered : Seat → Seat
answered s = with_call (record s { command = None }) (answered_call (call_of s))

-- ---- whose a new request is

-- of a caller with the place where its command began, and this one, the one whose command began first
abbrev pub sooner_of : Option (ℕ × ℕ) → ℕ → ℕ → Option (ℕ × ℕ)
sooner_of None c b = Some (c, b)
sooner_of (Some d) c b = if nat_lt b d.1 then Some (c, b) else Some d

-- the caller whose command began first, of the best so far and of these that want the plan
abbrev pub best_of : ℕ → Option SessionMade → Plan → Option (ℕ × ℕ) → List (ℕ × Seat) → Option (ℕ × ℕ)
best_of m o p best [] = best
best_of m o p best (e ∷ es) = best_of m o p (if wants m o p e.1 then sooner_of best e.0 e.1.began_at else best) es

abbrev pub caller_of : Option (ℕ × ℕ) → Option ℕ
caller_of None = None
caller_of (Some d) = Some d.0
