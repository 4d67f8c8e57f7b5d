use Rattle.std.proofs.Common.{ap, ◌∙◌}
use Rattle.n41_desk.specs.Desks.{WasQuiet}
use Rattle.n41_drive.proofs.Steps.{works_left, left_after, idle_after, counts_then, counts_on}
use Rattle.n41_drive.proofs.driving.step.Goals as goal

pub returns-in_err-give-clause-counts : goal.returns-in_err-give-clause-counts
returns-in_err-give-clause-counts g c =
    λ js n h. counts_on js c.args.desk.now.core.events c.give.new.desk.core.events n _ _ c.give.ensures.failures (ap g.D.Dialer.faults c.give.ensures.dialer) h

pub returns-clause-works : goal.returns-clause-works
returns-clause-works g c =
    works_left c.give.new.desk.core c.turn.new.self.core c.args.lines.now c.give.new.places
    (left_after c.turn.result (WasQuiet c.give.new.desk c.turn.new.self) c.give.new.desk.core c.turn.new.self.core c.turn.ensures.ok c.turn.ensures.err) c.give.ensures.works

pub returns-clause-idle : goal.returns-clause-idle
returns-clause-idle g c = idle_after c.turn.result (WasQuiet c.give.new.desk c.turn.new.self) c.give.new.desk.core c.turn.new.self.core c.turn.ensures.ok

pub returns-clause-setup : goal.returns-clause-setup
returns-clause-setup g c =
    (left_after c.turn.result (WasQuiet c.give.new.desk c.turn.new.self) c.give.new.desk.core c.turn.new.self.core c.turn.ensures.ok c.turn.ensures.err).setup_is ∙ c.give.ensures.setup

pub returns-clause-counts : goal.returns-clause-counts
returns-clause-counts g c =
    λ js n h.
    counts_then js c.give.new.desk.core.events c.turn.new.self.core.events n _ _
    (counts_on js c.args.desk.now.core.events c.give.new.desk.core.events n _ _ c.give.ensures.failures (ap g.D.Dialer.faults c.give.ensures.dialer) h) c.turn.ensures.counts

pub returns-in_err-give-clause-keeps : goal.returns-in_err-give-clause-keeps
returns-in_err-give-clause-keeps g c = c.give.ensures.keeps

pub returns-clause-keeps : goal.returns-clause-keeps
returns-clause-keeps g c = λ m h. c.turn.ensures.keeps m (c.give.ensures.keeps m h)
