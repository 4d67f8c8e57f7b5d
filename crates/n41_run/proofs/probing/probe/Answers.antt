use Rattle.n41_run.proofs.Probed.{is_of_probe, at_done, at_write_fault, at_unreachable, at_breach, at_silent, without_link}
use Rattle.n41_run.proofs.probing.probe.Goals as goal

pub returns-clause-ends : goal.returns-clause-ends
returns-clause-ends g c =
    rw c.ended-status.ensures.fault record {
      of_probe = is_of_probe c.probe-outcome.result.0;
      gave = c.probe-outcome.ensures.gave;
      stands = c.probe-outcome.ensures.stands;
      asks = c.probe-outcome.ensures.asks;
      told = c.probe-outcome.ensures.told;
      done = at_done _ c.probe-outcome.result.0 c.probe-outcome.ensures.done;
      write = at_write_fault _ c.probe-outcome.result.0 c.probe-outcome.ensures.write;
      part = at_write_fault _ c.probe-outcome.result.0 c.probe-outcome.ensures.part;
      linked = without_link c.probe-outcome.result.1 c.probe-outcome.result.0 c.probe-outcome.ensures.linked;
      unreachable = λ _. c.probe-outcome.ensures.unreachable;
      cut = at_unreachable _ c.probe-outcome.result.0 c.probe-outcome.ensures.cut;
      asked = at_breach _ c.probe-outcome.result.0 c.probe-outcome.ensures.asked;
      wrong = at_breach _ c.probe-outcome.result.0 c.probe-outcome.ensures.wrong;
      silent = at_silent _ c.probe-outcome.result.0 c.probe-outcome.ensures.silent;
    }
