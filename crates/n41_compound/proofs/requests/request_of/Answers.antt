use Rattle.std.proofs.Common.{◌∙◌, Option, Some, ap, sym}
use Rattle.n41_types.specs.declared.plans.Request.{Request}
use Rattle.n41_compound.proofs.Whole.{found_is, only_is, told_plan, called_by}
use Rattle.n41_compound.proofs.requests.request_of.Goals as goal

pub returns-in-Some-2-clause-found : goal.returns-in-Some-2-clause-found
returns-in-Some-2-clause-found c =
    found_is c.args.call.now c.in-Some.uid c.in-Some.gid c.in-Some-2.plan c.as_slice-args.result.now c.behind_slot.result.now c.slot_in.result
    c.as_slice-args.ensures c.behind_slot.ensures c.slot_in.ensures c.in-Some.ensures.found (sym c.in-Some-2.is ∙ c.in_ok-plan.ensures)

pub returns-in-Some-2-clause-only : goal.returns-in-Some-2-clause-only
returns-in-Some-2-clause-only c =
    λ q fits e.
    ap (λ (r : Request). let o : Option Request = Some r in o)
    (only_is c.args.call.now q c.in-Some.uid c.in-Some.gid c.in-Some-2.plan c.as_slice-args.result.now c.behind_slot.result.now c.slot_in.result
    c.as_slice-args.ensures c.behind_slot.ensures c.slot_in.ensures
    (c.in-Some.ensures.only q.uid q.gid fits.0 fits.1 (called_by c.args.call.now q e)) (sym c.in-Some-2.is ∙ c.in_ok-plan.ensures) fits e)

pub returns-in-None-clause-only : goal.returns-in-None-clause-only
returns-in-None-clause-only c =
    λ q fits e.
    let wrong = sym c.in-None.is ∙ told_plan c.args.call.now q c.in_ok-plan.field-0 c.as_slice-args.result.now c.behind_slot.result.now c.as_slice-args.ensures c.behind_slot.ensures c.in_ok-plan.ensures fits e in
    absurd (cc wrong)

pub returns-in-None-clause-none : goal.returns-in-None-clause-none
returns-in-None-clause-none c =
    λ q fits e.
    let wrong = sym c.in-None.is ∙ told_plan c.args.call.now q c.in_ok-plan.field-0 c.as_slice-args.result.now c.behind_slot.result.now c.as_slice-args.ensures c.behind_slot.ensures c.in_ok-plan.ensures fits e in
    absurd (cc wrong)
