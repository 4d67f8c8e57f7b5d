use Rattle.std.proofs.Common.{ℕ, ◌≤◌, reverse, take}
use Rattle.n41_check.specs.Rules.{callers}
use Rattle.n41_check.proofs.Walked.{Led}
use Rattle.n41_check.proofs.walk.first_breach.Given as goal

abbrev pub invariant-loop-index : goal.invariant-loop-index
invariant-loop-index l = (n : ℕ) → callers (reverse l.events) ≤ n → Led n (reverse (take l.index l.events)) l.machine
