-- Looking up in lists, and in a journal by place.
use Rattle.std.proofs.Common.{◌≡◌, ◌<◌, ◌≤◌, ◌==◌, ◌+◌, ◌⊎◌, inl, inr, ℕ, zero, suc, Bool, true, false, List, [], ◌∷◌, ◌++◌, length, reverse, Some, None, slice_get, refl, ap, ◌∙◌, arith, if◌then◌else◌}
use Rattle.std.proofs.lemmas.Bool.Decides.{nat_tests}
use Rattle.std.proofs.lemmas.Grind.{reverse_onto}
use Rattle.std.proofs.lemmas.List.{length-reverse}
use Rattle.n41_journal.specs.Journal.{event_at}
use Rattle.n41_journal.specs.declared.events.Event.{Event}
use Rattle.n41_answers.specs.Answers.{places, lists_from}

pub last_of : {X : Type 0} → (xs : List X) (e : X) (p : ℕ) → slice_get (xs ++ e ∷ []) p ≡ (if p == length xs then Some e else slice_get xs p)
last_of [] e zero = grind (arith, nat_tests)
last_of [] e (suc p) = grind (arith, nat_tests)
last_of (x ∷ xs) e zero = grind (arith, nat_tests)
last_of (x ∷ xs) e (suc p) = grind (arith, nat_tests, last_of xs e p)

-- one more at the head of a list is one more at the end of its reverse
pub onto_end : {X : Type 0} → (xs : List X) (x : X) → reverse (x ∷ xs) ≡ reverse xs ++ x ∷ []
onto_end xs x = reverse_onto xs x []

pub end_of : (xs : List ℕ) (x k : ℕ) → slice_get (reverse (x ∷ xs)) k ≡ (if k == length xs then Some x else slice_get (reverse xs) k)
end_of xs x k = rw (onto_end xs x, last_of (reverse xs) x k, length-reverse xs) refl

-- ---- events by their places

-- an event that stands at a place is the newest, or stands at the place before
pub split_place : (js : List Event) (e f : Event) (p : ℕ) → event_at (e ∷ js) p ≡ Some f → ((p ≡ suc (length js)) × (Some e ≡ Some f)) ⊎ (event_at js p ≡ Some f)
split_place js e f p h = at_test (p == length js + 1) refl where
  at_test : (b : Bool) → (p == length js + 1) ≡ b → ((p ≡ suc (length js)) × (Some e ≡ Some f)) ⊎ (event_at js p ≡ Some f)
  at_test true t = inl (grind (arith, nat_tests, t), rw t at h)
  at_test false t = inr (rw t at h)

pub place_within : (js : List Event) (f : Event) (p : ℕ) → event_at js p ≡ Some f → p ≤ length js
place_within [] f p h = absurd (cc)
place_within (e ∷ js) f p h = by (place_within js f p) (split_place js e f p h) where
  by : (event_at js p ≡ Some f → p ≤ length js) → ((p ≡ suc (length js)) × (Some e ≡ Some f)) ⊎ (event_at js p ≡ Some f) → p ≤ suc (length js)
  by g (inl a) = omega (arith, a.0)
  by g (inr b) = let l : p ≤ length js = g b in omega (arith, l)

pub place_stays : (js : List Event) (e f : Event) (p : ℕ) → event_at js p ≡ Some f → event_at (e ∷ js) p ≡ Some f
place_stays js e f p h =
    let l : p ≤ length js = place_within js f p h in
    let t : (p == length js + 1) ≡ false = grind (arith, nat_tests, l) in
    rw t h

pub newest_place : (js : List Event) (e : Event) → event_at (e ∷ js) (suc (length js)) ≡ Some e
newest_place js e = let t : (suc (length js) == length js + 1) ≡ true = grind (arith, nat_tests) in rw t refl

-- ---- the lists of callers

pub list_at : (js : List Event) (c n d : ℕ) → d < n → slice_get (lists_from js c n) d ≡ Some (reverse (places js (c + d)))
list_at js c zero d l = absurd (omega (arith, l))
list_at js c (suc n) zero l = let e : c ≡ c + 0 = omega arith in ap (λ (k : ℕ). Some (reverse (places js k))) e
list_at js c (suc n) (suc d) l = let e : (c + 1) + d ≡ c + suc d = omega arith in list_at js (c + 1) n d (omega (arith, l)) ∙ ap (λ (k : ℕ). Some (reverse (places js k))) e

pub no_list_at : (js : List Event) (c n d : ℕ) → n ≤ d → slice_get (lists_from js c n) d ≡ None
no_list_at js c zero d l = refl
no_list_at js c (suc n) zero l = absurd (omega (arith, l))
no_list_at js c (suc n) (suc d) l = no_list_at js (c + 1) n d (omega (arith, l))
