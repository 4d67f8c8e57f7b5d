use Rattle.std.proofs.Common.{inr, ◌∙◌, ap, sym, arith}
use Rattle.std.proofs.lemmas.Grind.{common_steps}
use Rattle.n41_view.specs.declared.tables.Facts.{Facts}
use Rattle.n41_core.proofs.Commands.{fault_absent, fault_busy, fault_quit, fault_none, number_there}
use Rattle.n41_core.proofs.posts.next_number.Goals as goal

pub returns-in_default-clause-err : goal.returns-in_default-clause-err
returns-in_default-clause-err c = inr (fault_absent (record { setup = c.args.books.now.setup; events = c.args.books.now.events }) c.args.caller c.in_default.ensures)

pub returns-then-is_some-clause-err : goal.returns-then-is_some-clause-err
returns-then-is_some-clause-err c = inr (fault_busy (record { setup = c.args.books.now.setup; events = c.args.books.now.events }) c.args.caller c.in-Some.seat.now c.in-Some.ensures (sym c.is_some.ensures ∙ c.if-is_some.true))

pub returns-then-facts-clause-err : goal.returns-then-facts-clause-err
returns-then-facts-clause-err c =
    inr (fault_quit (record { setup = c.args.books.now.setup; events = c.args.books.now.events }) c.args.caller c.in-Some.seat.now c.in-Some.ensures (sym c.is_some.ensures ∙ c.if-is_some.false) (sym (ap (λ (f : Facts). f.quit) c.facts.ensures) ∙ c.if-facts.true))

pub returns-in-Some-checked_add-clause-ok : goal.returns-in-Some-checked_add-clause-ok
returns-in-Some-checked_add-clause-ok c =
    let m = number_there c.args.books.now.setup.callers c.args.books.now.events c.args.caller c.in-Some.seat.now c.in-Some.ensures in
    let h = c.in-Some-checked_add.ensures in
    (grind (arith, common_steps, m, h), fault_none (record { setup = c.args.books.now.setup; events = c.args.books.now.events }) c.args.caller c.in-Some.seat.now c.in-Some.ensures (sym c.is_some.ensures ∙ c.if-is_some.false) (sym (ap (λ (f : Facts). f.quit) c.facts.ensures) ∙ c.if-facts.false))
