use Rattle.std.proofs.Common.{sym, ◌∙◌, ap}
use Rattle.std.specs.Option.{option_copied_mut}
use Rattle.n41_opens.specs.declared.handles.Open.{Open}
use Rattle.n41_opens.proofs.Tables.{mark_counted}
use Rattle.n41_opens.proofs.opens.Opens.closing.Goals as goal

pub invariant_of-self-2 : goal.invariant_of-self-2
invariant_of-self-2 c =
    let e = sym c.get_mut.ensures.value ∙ ap (λ o. option_copied_mut o) c.in-Some.is in
    let d : Open = record { id = c.in-Some.held.now.id; mode = c.in-Some.held.now.mode; closing = c.args.on } in
    mark_counted c.self.inside.handles.entries (c.get_mut.follows.lender d).entries c.self.inside.records.entries c.args.handle c.in-Some.held.now c.args.on c.self.invariant e (c.get_mut.follows.holds d).0
