-- The places of events.
use Rattle.std.proofs.Common.{◌≡◌, ◌<◌, ◌≤◌, ◌==◌, ◌+◌, ◌-◌, ◌⊎◌, inl, inr, ℕ, zero, suc, List, [], ◌∷◌, ◌++◌, length, reverse, Option, Some, None, slice_get, refl, ap, sym, ◌∙◌, arith, if◌then◌else◌}
use Rattle.std.proofs.lemmas.Bool.Decides.{nat_tests}
use Rattle.std.proofs.lemmas.Grind.{reverse_onto}
use Rattle.std.proofs.lemmas.List.{reverse-reverse, length-reverse}
use Rattle.n41_journal.specs.declared.events.Event.{Event}
use Rattle.n41_journal.specs.Journal.{event_at, BeginsWith, KeepsPlaces, ContinuesByOne}

pub none_at_zero : (js : List Event) (p : ℕ) → p ≡ 0 → event_at js p ≡ None
none_at_zero [] p h = refl
none_at_zero (e ∷ js) p h = grind (arith, nat_tests, h, none_at_zero js p h)

last_of : (xs : List Event) (e : Event) (p : ℕ) → slice_get (xs ++ e ∷ []) p ≡ (if p == length xs then Some e else slice_get xs p)
last_of [] e zero = grind (arith, nat_tests)
last_of [] e (suc p) = grind (arith, nat_tests)
last_of (x ∷ xs) e zero = grind (arith, nat_tests)
last_of (x ∷ xs) e (suc p) = grind (arith, nat_tests, last_of xs e p)

pub oldest_first : (js : List Event) (p : ℕ) → event_at js (suc p) ≡ slice_get (reverse js) p
oldest_first [] p = refl
oldest_first (e ∷ js) p = rw (reverse_onto js e [], last_of (reverse js) e p, length-reverse js) (grind (arith, nat_tests, oldest_first js p))

-- the event at a place, in the list of the oldest first
pub placed : (xs : List Event) (p : ℕ) → 0 < p → slice_get xs (p - 1) ≡ event_at (reverse xs) p
placed xs p l = let e : suc (p - 1) ≡ p = omega (arith, l) in
    sym (ap (λ ys. slice_get ys (p - 1)) (reverse-reverse xs)) ∙ sym (oldest_first (reverse xs) (p - 1)) ∙ ap (event_at (reverse xs)) e

pub longer : (later earlier : List Event) → BeginsWith later earlier → length earlier ≤ length later
longer [] earlier b = rw (← b) (omega arith)
longer (e ∷ js) earlier (inl same) = rw (← same) (omega arith)
longer (e ∷ js) earlier (inr b) = let l : _ = longer js earlier b in omega (arith, l)

pub places : KeepsPlaces
places [] earlier p b l = ap (λ js. event_at js p) b
places (e ∷ js) earlier p (inl same) l = ap (λ js. event_at js p) same
places (e ∷ js) earlier p (inr b) l = grind (arith, nat_tests, places js earlier p b l, longer js earlier b)

pub itself : (js : List Event) → BeginsWith js js
itself [] = refl
itself (e ∷ js) = inl refl

pub one : ContinuesByOne
one e js = inr (itself js)
