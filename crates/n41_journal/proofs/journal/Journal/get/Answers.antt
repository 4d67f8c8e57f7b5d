use Rattle.std.proofs.Common.{◌≡◌, ◌∙◌, sym, arith}
use Rattle.n41_journal.proofs.Places.{none_at_zero, placed}
use Rattle.n41_journal.proofs.journal.Journal.get.Goals as goal

pub returns-then-place-eq0-clause-value : goal.returns-then-place-eq0-clause-value
returns-then-place-eq0-clause-value c = sym (none_at_zero c.args.self.now.events c.args.place (omega (arith, c.if-place-eq0.true)))

pub returns-clause-value : goal.returns-clause-value
returns-clause-value c = rw (← c.self.view_is, c.item.ensures, c.as_slice.ensures.value) (placed c.self.inside.events.items c.args.place (omega (arith, c.if-place-eq0.false)))
