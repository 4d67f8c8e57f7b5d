use Rattle.std.proofs.Common.{◌≡◌, ◌≤◌, ℕ, List, ◌∙◌, ap, reverse, subst}
use Rattle.std.proofs.lemmas.List.{reverse-reverse}
use Rattle.std.proofs.lemmas.Result.{IfOk-weaker}
use Rattle.n41_journal.specs.declared.events.Event.{Event}
use Rattle.n41_check.specs.Rules.{IsVerdict, callers}
use Rattle.n41_check.proofs.Walked.{nothing_found}
use Rattle.n41_check.proofs.walk.check.Goals as goal

pub returns-clause-kept : goal.returns-clause-kept
returns-clause-kept c =
    let js = c.args.journal.now.events in
    let e : reverse c.as_slice.result.now ≡ js = ap (λ (ys : List Event). reverse ys) c.as_slice.ensures ∙ reverse-reverse js in
    IfOk-weaker c.first_breach.result _ _
    (λ found h u k. nothing_found u js found (subst (λ (ys : List Event). (n : ℕ) → callers ys ≤ n → IsVerdict n ys found) e h) k)
    c.first_breach.ensures
