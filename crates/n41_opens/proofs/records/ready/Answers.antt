use Rattle.std.proofs.Common.{sym, ◌∙◌, ap}
use Rattle.std.specs.Option.{option_copied_mut}
use Rattle.n41_opens.proofs.Steps.{ready_by}
use Rattle.n41_opens.proofs.records.ready.Goals as goal

pub returns-in-Some : goal.returns-in-Some
returns-in-Some c =
    let e = sym c.get_mut.ensures.value ∙ ap (λ o. option_copied_mut o) c.in-Some.is in
    ready_by c.args.records.now.entries (c.get_mut.follows.lender c.widen.new.wide).entries c.args.id.now c.args.seqid c.in-Some.record.now c.widen.new.wide c.widen.result c.get_mut.ensures.ordered e (c.get_mut.follows.holds c.widen.new.wide).0 c.widen.ensures
