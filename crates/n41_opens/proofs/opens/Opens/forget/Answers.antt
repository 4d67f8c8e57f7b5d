use Rattle.std.proofs.Common.{sym, ◌∙◌}
use Rattle.n41_opens.proofs.Tables.{forget_none, forget_counted, forget_some}
use Rattle.n41_opens.proofs.opens.Opens.forget.Goals as goal

pub returns-in_default-clause-table : goal.returns-in_default-clause-table
returns-in_default-clause-table c = rw (← c.self.view_is) (forget_none c.self.inside.handles.entries c.remove.new.self.entries c.self.inside.records.entries c.args.handle c.self.invariant (sym c.remove.ensures.value ∙ c.in_default.is) c.remove.ensures.entries)

pub invariant_of-self-2 : goal.invariant_of-self-2
invariant_of-self-2 c = forget_counted c.self.inside.handles.entries c.remove.new.self.entries c.self.inside.records.entries c.leave.new.records.entries c.args.handle c.in-Some.held c.self.invariant (sym c.remove.ensures.value ∙ c.in-Some.is) c.remove.ensures.entries c.leave.ensures.ordered c.leave.ensures.left

pub returns-clause-table : goal.returns-clause-table
returns-clause-table c = rw (← c.self.view_is) (forget_some c.self.inside.handles.entries c.remove.new.self.entries c.self.inside.records.entries c.leave.new.records.entries c.args.handle c.in-Some.held c.self.invariant (sym c.remove.ensures.value ∙ c.in-Some.is) c.remove.ensures.entries c.leave.ensures.ordered c.leave.ensures.left)
