use Rattle.n41_due.proofs.First.{first_retry, first_step, first_own, first_fresh, first_destroy, nothing_due}
use Rattle.n41_due.proofs.lookup.Lookup.first_item.Goals as goal

pub returns-in-Some-clause-first : goal.returns-in-Some-clause-first
returns-in-Some-clause-first c = first_retry c.args.self.now c.in-Some.slot c.if-is_again_due.ensures c.in-Some.ensures.first

pub returns-then-is_step_due-clause-first : goal.returns-then-is_step_due-clause-first
returns-then-is_step_due-clause-first c = first_step c.args.self.now c.if-is_again_due.ensures c.in_default.ensures.none

pub returns-then-is_own_due-clause-first : goal.returns-then-is_own_due-clause-first
returns-then-is_own_due-clause-first c = first_own c.args.self.now c.if-is_again_due.ensures c.in_default.ensures.none c.if-is_step_due.ensures

pub returns-in-Some-due_begin-clause-first : goal.returns-in-Some-due_begin-clause-first
returns-in-Some-due_begin-clause-first c =
    first_fresh c.args.self.now c.in-Some-due_begin.caller c.if-is_again_due.ensures c.in_default.ensures.none c.if-is_step_due.ensures c.if-is_own_due.ensures c.in-Some-due_begin.ensures.first

pub returns-then-is_destroy_due-clause-first : goal.returns-then-is_destroy_due-clause-first
returns-then-is_destroy_due-clause-first c =
    first_destroy c.args.self.now c.if-is_again_due.ensures c.in_default.ensures.none c.if-is_step_due.ensures c.if-is_own_due.ensures c.in_default-due_begin.ensures.none

pub returns-clause-none : goal.returns-clause-none
returns-clause-none c =
    nothing_due c.args.self.now c.if-is_again_due.ensures c.in_default.ensures.none c.if-is_step_due.ensures c.if-is_own_due.ensures c.in_default-due_begin.ensures.none c.if-is_destroy_due.ensures
