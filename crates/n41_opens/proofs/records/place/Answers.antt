use Rattle.std.proofs.Common.{sym, ◌∙◌, ap, subst, Option, ◌<◌, ◌+◌, ◌^◌}
use Rattle.std.specs.Option.{option_copied_mut}
use Rattle.n41_types.specs.declared.spans.Mode.TheVariants.{Read}
use Rattle.n41_opens.specs.declared.records.Record.{Record}
use Rattle.n41_opens.specs.Inside.{amount, tally_by}
use Rattle.n41_opens.proofs.Settles.{place_by}
use Rattle.n41_opens.proofs.records.place.Goals as goal

pub hold-requires-clause-room : goal.hold-requires-clause-room
hold-requires-clause-room c =
    let e = sym c.get_mut.ensures.value ∙ ap (λ o. option_copied_mut o) c.in-Some.is in
    subst (λ (o : Option Record). amount Read (tally_by o) + 1 < 2 ^ 64) e (c.requires.room c.args.id.now Read)

pub returns-in-Some-clause-ok : goal.returns-in-Some-clause-ok
returns-in-Some-clause-ok c =
    let e = sym c.get_mut.ensures.value ∙ ap (λ o. option_copied_mut o) c.in-Some.is in
    place_by c.args.records.now.entries (c.get_mut.follows.lender c.hold.new.self).entries c.args.id.now c.args.seqid c.in-Some.record.now c.hold.new.self c.get_mut.ensures.ordered e (c.get_mut.follows.holds c.hold.new.self).0 c.hold.ensures.told c.hold.ensures.tally
