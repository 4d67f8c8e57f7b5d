use Rattle.std.proofs.Common.{sym, subst, ◌∙◌, ap, Option}
use Rattle.n41_journal.specs.declared.events.Event.TheVariants.{Put}
use Rattle.n41_check.specs.Asked.{Finds}
use Rattle.n41_check.specs.Rows.{row_breach}
use Rattle.n41_check.specs.declared.rules.Rule.{Rule}
use Rattle.n41_check.proofs.Puts.{finds_put}
use Rattle.n41_check.proofs.requests.Requests.breach.Goals as goal

pub returns-in-Some : goal.returns-in-Some
returns-in-Some c =
    λ n js d p k.
    subst (λ (z : Option Rule). Finds n js (Put d p c.args.request.now) z)
    (sym (c.slot_breach.ensures ∙ ap (row_breach c.args.request.now c.in-Some.place) (c.slot.ensures ∙ k.by_slot c.in-Some.place.slot)))
    (finds_put n js d p c.args.request.now c.in-Some.place c.in-Some.is k.lone)
