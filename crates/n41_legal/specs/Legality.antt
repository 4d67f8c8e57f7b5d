-- The first step of a run that may not follow those before it (own). A run is a list of steps, the newest first.
use Rattle.std.specs.Prelude.{◌≡◌, ℕ, ◌+◌, List, [], ◌∷◌, ◌++◌, length, Option, Some, None, if◌then◌else◌}
use Rattle.n41_types.specs.declared.plans.Request.{Request}
use Rattle.n41_types.specs.declared.statuses.Status.{Status}
use Rattle.n41_types.specs.contracts.plans.RequestPartialEq.TheImpl as requests
use Rattle.n41_runs.specs.declared.steps.Step.{Step}
use Rattle.n41_runs.specs.Rules.{Allowed, LegalBy, Sizes}

-- sizes as a list: the first status that is told of a request
abbrev pub sizes_of : List (Request × Status) → Sizes
sizes_of [] r = None
sizes_of (e ∷ es) r = if requests.ghosts.eq e.0 r then Some e.1 else sizes_of es r

-- the step at this place, from 1, is the first that may not follow those before it
pub record IsIllegal (sizes : Sizes) (w : List Step) (place : ℕ) : Type 0 where
  pub after : List Step
  pub step : Step
  pub before : List Step
  pub parts : w ≡ after ++ (step ∷ before)
  pub place_is : place ≡ length before + 1
  pub legal : LegalBy sizes before
  pub refused : Allowed sizes before step → ⊥

-- the first step that may not follow those before it, or none where the run is legal
abbrev pub IsLegality : Sizes → List Step → Option ℕ → Type 0
IsLegality sizes w None = LegalBy sizes w
IsLegality sizes w (Some p) = IsIllegal sizes w p
