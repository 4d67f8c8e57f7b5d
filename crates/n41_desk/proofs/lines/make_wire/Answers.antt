use Rattle.std.proofs.Common.{Option, refl, ap, ◌∙◌, None}
use Rattle.n41_link.specs.Ends.{ear_log, mouth_log, mouth_fault}
use Rattle.n41_link.specs.declared.ear.EarFault.{EarFault}
use Rattle.n41_wire.specs.Faults.{fault_of}
use Rattle.n41_desk.proofs.Lined.{unheard_first, unheard_told}
use Rattle.n41_desk.proofs.lines.make_wire.Goals as goal

pub returns : goal.returns
returns g c =
    let i = c.new-inlet.ensures in
    let o = c.new-outlet.ensures in
    record {
      is_of = record { number = refl; places = i.conn; read_told = c.inflow.ensures.told; written_told = c.outflow.ensures.told; read_first = unheard_first _ _ (ap ear_log i.ear ∙ c.new.ensures.log) i.replies; can_be_told = unheard_told _ i.replies };
      silent = ap mouth_log o.mouth ∙ c.new-2.ensures.log;
      unheard = i.replies;
      hears = i.fault ∙ ap (λ (f : Option EarFault). fault_of None f) c.new.ensures.fault;
      speaks = ap mouth_fault o.mouth ∙ c.new-2.ensures.fault;
    }
