-- The law.
use Rattle.std.proofs.Common.{List}
use Rattle.n41_model.specs.declared.words.Setup.{Setup}
use Rattle.n41_calls.specs.Kept.{Kept}
use Rattle.n41_calls.proofs.Slots.{keeps_one_out}
use Rattle.n41_once.proofs.Counted.{Counted}
use Rattle.n41_once.proofs.Counts.{counted}
use Rattle.n41_told.proofs.Settled.{Settled, settled}
use Rattle.n41_runs.specs.Good.{Good, RunsAreGood}
use Rattle.n41_runs.specs.Rules.{Sizes}
use Rattle.n41_runs.specs.declared.steps.Step.{Step}
use Rattle.n41_runs.specs.Steps.{client}

good_by : (u : Setup) (w : List Step) → Kept u (client w) → Settled u.callers (client w) → {sizes : Sizes} → Counted u.callers sizes w → Good u w
good_by u w k s c = record {
  one_out = keeps_one_out u (client w) k;
  acts_once = record { own = c.weighed.own; most = c.weighed.most; done = c.weighed.done; undone = c.weighed.undone };
  unknown = s.unknown;
}

pub good : RunsAreGood
good u w l k = good_by u w k (settled u (client w) k) (counted u l.0 w l.1 k)
