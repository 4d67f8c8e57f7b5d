-- Calls that are planned to fail, by their numbers from 1. (own)
use Rattle.std.specs.Prelude.{◌≡◌, ◌+◌, ◌-◌, ◌^◌, ◌==◌, min, ℕ, Bool, IsTrue, List}
use Rattle.std.specs.List.{list_any}
use Rattle.n41_mem.specs.declared.failing.Failing.{Failing}

abbrev pub failing_inner : {T : Type 0} → Failing T → T
failing_inner f = f.inner

-- the calls so far
abbrev pub failing_calls : {T : Type 0} → Failing T → ℕ
failing_calls f = f.plan.calls

-- the numbers of the calls that are to fail
abbrev pub failing_numbers : {T : Type 0} → Failing T → List ℕ
failing_numbers f = f.plan.fails.items

-- how often a call failed by its number
abbrev pub failing_faults : {T : Type 0} → Failing T → ℕ
failing_faults f = f.plan.faults

-- nothing was called yet, and these numbers are to fail
pub record IsPlanned {T : Type 0} (f : Failing T) (numbers : List ℕ) : Type 0 where
  pub planned : failing_numbers f ≡ numbers
  pub no_call : failing_calls f ≡ 0

-- a call is counted, and fails where its number is planned
pub record Follows {T : Type 0} (old new : Failing T) (failed : Bool) : Type 0 where
  pub counted : failing_calls new ≡ min (failing_calls old + 1) (2 ^ 64 - 1)
  pub same : failing_numbers new ≡ failing_numbers old
  pub planned : IsTrue (list_any (λ n. n == failing_calls new) (failing_numbers old)) → IsTrue failed
