use Rattle.std.proofs.Common.{◌∙◌, ap}
use Rattle.n41_core.specs.State.{State}
use Rattle.n41_perform.proofs.Runs.{client_runs}
use Rattle.n41_perform.proofs.running.run_client.Goals as goal

pub returns-clause-runs : goal.returns-clause-runs
returns-clause-runs g c = λ moment i m.
    let d = c.drive-driven.ensures in
    let t = c.taken_apart.ensures in
    client_runs c.drive-driven.result c.taken_apart.result.fault c.end_of-fault.result (g.C.Clock.given c.taken_apart.result.clock) c.args.script.now c.taken_apart.result.journal.events c.drive-driven.new.desk.core.events
    c.args.core.setup c.drive-driven.new.desk.core.setup c.callers_of-callers.result c.as_slice.result.now moment
    t.fault t.journal (d.setup ∙ ap (λ (s : State). s.setup) c.new-desk.ensures.core) c.callers_of-callers.ensures c.as_slice.ensures
    (rw t.clock (d.keeps moment (rw c.new-desk.ensures.clock i))) m t.whole d.driven c.end_of-fault.ensures.ok c.end_of-fault.ensures.err
