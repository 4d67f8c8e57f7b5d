use Rattle.std.proofs.Common.{sym, ◌∙◌, ap}
use Rattle.n41_journal.specs.declared.events.Event.{Event}
use Rattle.n41_view.specs.Step.{step}
use Rattle.n41_tables.proofs.tables.Tables.step.Goals as goal

pub returns-in-Answered : goal.returns-in-Answered
returns-in-Answered c =
    c.answered.ensures.moved c.in-Answered.number c.in-Answered.answer
    ∙ ap (λ (e : Event). step c.args.self.now e) (sym c.in-Answered.is ∙ c.copy.view_is)
