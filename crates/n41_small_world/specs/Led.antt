-- What is known of the journal of the client in a run.
use Rattle.std.specs.Prelude.{ℕ, Bool, true, false, List, Option, Some, None}
use Rattle.n41_calls.specs.OneOut.{Orderly}
use Rattle.n41_check.specs.Shows.{Shows}
use Rattle.n41_check.specs.declared.machine.Machine.{Machine}
use Rattle.n41_runs.specs.declared.steps.Step.{Step}
use Rattle.n41_runs.specs.Steps.{client}

-- the run is orderly and the machine has what its journal says, where there are so many callers; or the run is not orderly
abbrev pub IsLedBy : ℕ → List Step → Bool → Machine → Type 0
IsLedBy n w true m = Shows n (client w) m × Orderly (client w)
IsLedBy n w false m = Orderly (client w) → ⊥

abbrev pub IsLed : ℕ → List Step → Option Machine → Type 0
IsLed n w None = Orderly (client w) → ⊥
IsLed n w (Some m) = IsLedBy n w true m
