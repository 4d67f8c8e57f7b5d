use Rattle.std.proofs.Common.{sym, ◌∙◌, ap, subst, Option, ◌<◌, ◌+◌, ◌^◌}
use Rattle.std.specs.Option.{option_copied_mut}
use Rattle.n41_opens.specs.declared.records.Record.{Record}
use Rattle.n41_opens.specs.Inside.{amount, tally_by}
use Rattle.n41_opens.proofs.records.enter.Goals as goal

pub more-record-requires : goal.more-record-requires
more-record-requires c =
    let e = sym c.get_mut.ensures.value ∙ ap (λ o. option_copied_mut o) c.in-Some.is in
    subst (λ (o : Option Record). amount c.args.mode (tally_by o) + 1 < 2 ^ 64) e (c.requires c.args.id.now c.args.mode)
