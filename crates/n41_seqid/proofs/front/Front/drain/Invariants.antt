use Rattle.std.proofs.Common.{◌≡◌, ◌≤◌, ℕ}
use Rattle.n41_seqid.specs.Fronts.{Roomy, popped_times}
use Rattle.n41_seqid.proofs.front.Front.drain.Given as goal

pub record Drains {T : Type 0} (q r : Roomy T) (n : ℕ) : Type 0 where
  pub window : r.window ≡ popped_times n q.window
  pub room : q.room ≤ r.room

abbrev pub invariant-loop-turn : goal.invariant-loop-turn
invariant-loop-turn g l = Drains l.fn.self l.self l._turn
