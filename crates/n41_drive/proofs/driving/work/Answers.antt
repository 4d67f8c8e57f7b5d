use Rattle.std.proofs.Common.{◌∙◌}
use Rattle.n41_drive.proofs.driving.work.Goals as goal

pub returns-in_err-step-clause-counts : goal.returns-in_err-step-clause-counts
returns-in_err-step-clause-counts g c = λ js n h. c.step.ensures.counts js n (c.loop.invariant.2.counts js n h)

pub returns-in-Idle-clause-counts : goal.returns-in-Idle-clause-counts
returns-in-Idle-clause-counts g c = λ js n h. c.step.ensures.counts js n (c.loop.invariant.2.counts js n h)

pub loop-preserved : goal.loop-preserved
loop-preserved g c =
    let s = c.step.ensures in
    let i = c.loop.invariant.2 in (
      tt,
      tt,
      record {
        holds = s.holds;
        size = s.size ∙ i.size;
        works = s.works;
        setup = s.setup ∙ i.setup;
        counts = λ js n h. s.counts js n (i.counts js n h);
        keeps = λ m h. s.keeps m (i.keeps m h);
        tells = s.tells ∙ i.tells;
      },
    )

pub returns-in_err-step-clause-keeps : goal.returns-in_err-step-clause-keeps
returns-in_err-step-clause-keeps g c = λ m h. c.step.ensures.keeps m (c.loop.invariant.2.keeps m h)

pub returns-in-Idle-clause-keeps : goal.returns-in-Idle-clause-keeps
returns-in-Idle-clause-keeps g c = λ m h. c.step.ensures.keeps m (c.loop.invariant.2.keeps m h)
