use Rattle.std.proofs.Common.{◌≡◌, ◌++◌, ◌-◌, []}
use Rattle.n41_view.specs.View.{seats_from}
use Rattle.n41_tables.proofs.tables.new_seats.Given as goal

abbrev pub invariant-loop-caller : goal.invariant-loop-caller
invariant-loop-caller l = seats_from l.callers [] 0 l.callers ≡ l.seats.items ++ seats_from l.callers [] l.caller (l.callers - l.caller)
