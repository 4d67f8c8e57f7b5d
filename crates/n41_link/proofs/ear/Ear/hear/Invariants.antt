use Rattle.std.proofs.Common.{◌≡◌, ◌≤◌, ◌<◌, ◌++◌, List, ℕ, length, ◌-◌, ◌+◌, ◌*◌, ◌^◌, false}
use Rattle.n41_link.specs.Heard.{Stills}
use Rattle.n41_link.proofs.ear.Ear.hear.Given as goal

abbrev pub invariant-loop-body : goal.invariant-loop-body
invariant-loop-body g l = record {
  stills : Stills l.initial.self.gather.fed l.self.gather.fed l.initial.self.still l.self.still false;
  given : l.self.gather.given ≡ l.initial.self.gather.given;
  waits : 0 < length l.initial.self.gather.waiting → (l.self.gather.waiting ≡ l.initial.self.gather.waiting) × (l.self.inflow ≡ l.initial.self.inflow) × (l.self.gather.fed ≡ l.initial.self.gather.fed);
  fault : l.self.fault ≡ l.initial.self.fault;
  grows : (more : List ℕ) × (l.self.gather.fed ≡ l.initial.self.gather.fed ++ more);
  faults : g.I.Inflow.faults l.initial.self.inflow ≤ g.I.Inflow.faults l.self.inflow;
  quiets : g.I.Inflow.quiets l.initial.self.inflow ≤ g.I.Inflow.quiets l.self.inflow;
  ends : g.I.Inflow.ends l.initial.self.inflow ≤ g.I.Inflow.ends l.self.inflow;
}

-- the bytes that can be read before a record is whole
abbrev pub decreases-loop-body : goal.decreases-loop-body
decreases-loop-body g l = 2 ^ 22 * (length l.self.gather.given + 1) - length l.self.gather.fed
