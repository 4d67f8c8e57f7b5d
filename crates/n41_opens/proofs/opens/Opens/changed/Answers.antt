use Rattle.std.proofs.Common.{sym, ◌∙◌, ap, option_copied}
use Rattle.n41_opens.proofs.Tables.{is_there, changed_counted, changed_value, changed_table}
use Rattle.n41_opens.proofs.opens.Opens.changed.Goals as goal

pub change-requires : goal.change-requires
change-requires c =
    let e = sym c.get.ensures.value ∙ ap (λ o. option_copied o) c.in-Some.is in
    is_there c.self.inside.handles.entries c.self.inside.records.entries c.args.handle c.in-Some.held.now c.self.invariant e

pub invariant_of-self : goal.invariant_of-self
invariant_of-self c = changed_counted c.self.inside.handles.entries c.self.inside.records.entries c.change.new.records.entries c.in-Some.held.now.id c.args.s c.change.result c.self.invariant c.change.ensures.ok c.change.ensures.err

pub returns-clause-value : goal.returns-clause-value
returns-clause-value c =
    let e = sym c.get.ensures.value ∙ ap (λ o. option_copied o) c.in-Some.is in
    rw (← c.self.view_is) (changed_value c.self.inside.handles.entries c.self.inside.records.entries c.change.new.records.entries c.args.handle c.in-Some.held.now c.args.s c.change.result e c.change.ensures.ok)

pub returns-clause-table : goal.returns-clause-table
returns-clause-table c =
    let e = sym c.get.ensures.value ∙ ap (λ o. option_copied o) c.in-Some.is in
    rw (← c.self.view_is) (changed_table c.self.inside.handles.entries c.self.inside.records.entries c.change.new.records.entries c.args.handle c.in-Some.held.now c.args.s c.change.result e c.change.ensures.ok)
