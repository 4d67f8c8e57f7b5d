use Rattle.std.proofs.Common.{sym, ◌∙◌, ap, option_copied}
use Rattle.n41_opens.proofs.Tables.{stateid_is}
use Rattle.n41_opens.proofs.opens.Opens.stateid_of.Goals as goal

pub returns : goal.returns
returns c =
    let e = sym c.get.ensures.value ∙ ap (λ o. option_copied o) c.in-Some.is in
    rw (← c.self.view_is) (stateid_is c.self.inside.handles.entries c.self.inside.records.entries c.args.handle c.in-Some.held.now c.stateid_in.result e c.stateid_in.ensures)
