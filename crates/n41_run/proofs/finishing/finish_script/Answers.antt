use Rattle.std.proofs.Common.{◌≡◌, sym, ◌∙◌, ap}
use Rattle.std.specs.Prelude.{Some, option_map}
use Rattle.std.specs.declared.option.Option.{Option}
use Rattle.n41_perform.specs.declared.fault.PerformFault.{PerformFault}
use Rattle.n41_run.specs.declared.fault.RunFault.{RunFault}
use Rattle.n41_run.specs.Finishes.{of_perform}
use Rattle.n41_run.proofs.finishing.finish_script.Goals.{in-None, in-Some}
use Rattle.n41_run.proofs.finishing.finish_script.Goals as goal

pub returns-clause-ends : goal.returns-clause-ends
returns-clause-ends g c =
    let e = c.perform-fault.ensures in
    let is : c.match-fault.fault ≡ option_map of_perform c.perform-fault.result.fault = elim c.match-fault.branch [ in-None w ↦ w.fault-is ∙ sym (ap (λ (o : Option PerformFault). option_map of_perform o) w.in-None.is) | in-Some w ↦ w.fault-is ∙ ap (λ (f : RunFault). Some f) w.fault_of.ensures ∙ sym (ap (λ (o : Option PerformFault). option_map of_perform o) w.in-Some.is) ] in
    record {
      cause = c.perform-fault.result.fault;
      fault_is = is;
      outcome = e.outcome;
      whole = e.whole;
      one_out = e.one_out;
      good = e.good;
      connections = e.wires;
      gave = e.given;
      dials = e.dials;
      reads = e.reads;
      writes = e.writes;
    }
