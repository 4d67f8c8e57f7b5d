-- A run of one command, in which no dial succeeds.
use Rattle.std.proofs.Common.{◌≡◌, ℕ, zero, suc, List, [], ◌∷◌, ◌++◌, replicate, None, refl, lit<, lit≤}
use Rattle.n41_types.specs.declared.commands.Answer.TheVariants.{Unreachable}
use Rattle.n41_types.specs.declared.commands.Command.TheVariants.{Stat}
use Rattle.n41_journal.specs.declared.events.Event.{Event}
use Rattle.n41_journal.specs.declared.events.Event.TheVariants.{Began, DialFailed, Answered}
use Rattle.n41_model.specs.declared.words.Setup.{Setup}
use Rattle.n41_model.specs.Requests.{standing}
use Rattle.n41_calls.specs.Answers.{UnknownCause}
use Rattle.n41_calls.specs.Kept.{Kept}
use Rattle.n41_answers.specs.Indexed.{Indexes}

abbrev pub lone_caller : Setup
lone_caller = record { callers = 1; uid = 0; gid = 0; owner = []; verifier = replicate 8 0 }

-- so many dials after the command began
abbrev pub failed : ℕ → List Event
failed n = replicate n DialFailed ++ Began 0 1 (Stat []) 0 ∷ []

abbrev pub unheard : List Event
unheard = Answered 0 1 (Unreachable 16) ∷ failed 16

none_stands : (n : ℕ) → standing (failed n) ≡ None
none_stands zero = refl
none_stands (suc n) = none_stands n

kept_failed : (n : ℕ) → Kept lone_caller (failed n)
kept_failed zero = (tt, record { runs = refl; caller = lit< tt; idle = refl; number_is = refl; moment_is = refl; built = refl })
kept_failed (suc n) = (kept_failed n, none_stands n)

certain : UnknownCause 1 (failed 16) 0 → ⊥
certain w = let e = w.is_out in cc

pub kept_unheard : Kept lone_caller unheard
kept_unheard = (kept_failed 16, record { caller = lit< tt; asked = refl; number_is = refl; cause = record { count = refl; ungiven = refl; ended = lit≤ tt; certain = certain } })

-- one list with the place of the answer belongs to the run
pub indexed : (js : List Event) (ls : List (List ℕ)) → js ≡ unheard → ls ≡ (18 ∷ []) ∷ [] → (u : Setup) × Indexes u js ls
indexed js ls e f = (lone_caller, rw (e, f) (record { kept = kept_unheard; lists_are = refl }))
