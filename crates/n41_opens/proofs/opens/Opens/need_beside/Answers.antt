use Rattle.std.proofs.Common.{sym, ◌∙◌, ap, option_copied}
use Rattle.n41_opens.proofs.Tables.{need_is}
use Rattle.n41_opens.proofs.opens.Opens.need_beside.Goals as goal

pub returns : goal.returns
returns c =
    let e = sym c.get.ensures.value ∙ ap (λ o. option_copied o) c.in-Some.is in
    rw (← c.self.view_is) (c.needs.ensures ∙ need_is c.self.inside.handles.entries c.self.inside.records.entries c.args.handle c.in-Some.held.now c.self.invariant e)
