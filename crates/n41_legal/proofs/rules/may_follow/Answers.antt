use Rattle.std.proofs.Common.{◌≡◌, ◌⊎◌, inl, inr, true, ℕ, ap}
use Rattle.std.proofs.lemmas.Result.{IfOk-weaker}
use Rattle.n41_types.specs.declared.plans.Request.{Request}
use Rattle.n41_results.specs.declared.sessions.Bound.{Bound}
use Rattle.n41_results.specs.declared.sessions.Identity.{Identity}
use Rattle.n41_results.specs.declared.sessions.SessionMade.{SessionMade}
use Rattle.n41_runs.specs.declared.steps.Step.{Step}
use Rattle.n41_runs.specs.declared.steps.Step.TheVariants.{Names, Makes, Binds, Ends}
use Rattle.n41_legal.specs.Answers.{is_bare_step}
use Rattle.n41_legal.specs.Legality.{sizes_of}
use Rattle.n41_legal.proofs.rules.may_follow.Goals as goal

bare_by : (st : Step) → ((k : ℕ) × (r : Request) × (i : Identity) × (st ≡ Names k r i)) ⊎ (((k : ℕ) × (r : Request) × (m : SessionMade) × (st ≡ Makes k r m)) ⊎ (((k : ℕ) × (r : Request) × (b : Bound) × (st ≡ Binds k r b)) ⊎ ((k : ℕ) × (r : Request) × (st ≡ Ends k r)))) → is_bare_step st ≡ true
bare_by st (inl (k, r, i, e)) = ap is_bare_step e
bare_by st (inr (inl (k, r, m, e))) = ap is_bare_step e
bare_by st (inr (inr (inl (k, r, b, e)))) = ap is_bare_step e
bare_by st (inr (inr (inr (k, r, e)))) = ap is_bare_step e

pub returns-in-Names : goal.returns-in-Names
returns-in-Names c =
    IfOk-weaker c.serves_bare.result _ _
    (λ b f. f (sizes_of c.args.sizes.now) (bare_by c.args.step.now c.in-Names.is))
    c.serves_bare.ensures
