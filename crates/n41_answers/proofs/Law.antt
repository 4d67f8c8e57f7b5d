-- The laws, for every journal that is kept.
use Rattle.std.proofs.Common.{◌≡◌, ◌≢◌, ◌<◌, ◌≤◌, ◌==◌, ◌+◌, ◌-◌, ◌⊎◌, inl, inr, ℕ, zero, suc, true, false, List, [], ◌∷◌, ◌++◌, length, reverse, get_or, Option, Some, None, slice_get, refl, ap, sym, subst, ◌∙◌, arith}
use Rattle.std.proofs.lemmas.Bool.Decides.{nat_tests}
use Rattle.std.proofs.lemmas.List.{length-reverse}
use Rattle.std.proofs.lemmas.Option.{slice_get-get_or}
use Rattle.n41_types.specs.declared.commands.Answer.{Answer}
use Rattle.n41_journal.specs.Journal.{event_at}
use Rattle.n41_journal.specs.declared.events.Event.{Event}
use Rattle.n41_journal.specs.declared.events.Event.TheVariants.{Answered}
use Rattle.n41_types.specs.declared.commands.Command.{Command}
use Rattle.n41_model.specs.declared.words.Setup.{Setup}
use Rattle.n41_calls.specs.Calls.{command, number}
use Rattle.n41_calls.specs.Kept.{Kept}
use Rattle.n41_calls.specs.Text.{answer_to}
use Rattle.n41_answers.specs.Answers.{HasAnswer, places, lists, lists_from, noted, numbered, place_in, answer_in}
use Rattle.n41_answers.specs.Indexed.{Indexes}
use Rattle.n41_answers.specs.Laws.{IsPlaced, PlacesAnswer, AnswersArePlaced, AnswersOnce, AnswerIsPlaced, ListsStep, BegunInOrder, EarlierAreAnswered, IdleAreAnswered}
use Rattle.n41_answers.proofs.Counted.{owed, counted}
use Rattle.n41_answers.proofs.Lookups.{onto_end, list_at, no_list_at}
use Rattle.n41_answers.proofs.Placed.{place_to, placed, found, ordered, caller_within}

pub places_answer : PlacesAnswer
places_answer u js c n p k l h =
    let e : suc (n - 1) ≡ n = omega (arith, l) in
    let w = placed js c n p (ap (place_to js c) (sym e) ∙ sym ((ordered u js c k).listed (n - 1)) ∙ h) in
    (w.answer, w.here)

pub answers_are_placed : AnswersArePlaced
answers_are_placed u js c n p a k h =
    let s = ordered u js c k in
    let w = s.known n p a h in
    let l = w.from_one in
    let m = w.counted in
    let v = (counted u js c k).count in
    let e : suc (n - 1) ≡ n = omega (arith, l) in
    record { from_one = l; began = omega (arith, m, v); listed = s.listed (n - 1) ∙ ap (place_to js c) e ∙ w.is_place }

pub answers_once : AnswersOnce
answers_once u js c n p q a b k h i =
    let s = ordered u js c k in
    let v = s.known n p a h in
    let w = s.known n q b i in
    (let z : Some p ≡ Some q = sym v.is_place ∙ w.is_place in cc, let z : Some a ≡ Some b = sym v.told ∙ w.told in cc)

pub answer_is_placed : AnswerIsPlaced
answer_is_placed u js c n a k = (there, λ w. ((ordered u js c k).known n w.0 a w.1).told) where
  there : answer_to js c n ≡ Some a → (p : ℕ) × HasAnswer js c n p a
  there h =
      let f = found js c n a h in
      let w = placed js c n f.place f.is_place in
      let e : w.answer ≡ a = (let z : Some w.answer ≡ Some a = sym w.told ∙ h in cc) in
      (f.place, subst (λ (b : Answer). HasAnswer js c n f.place b) e w.here)

-- ---- the step

-- the lists of the callers for whom an event is nothing
same_from : (js : List Event) (e : Event) (c k : ℕ) → ((d : ℕ) → c ≤ d → places (e ∷ js) d ≡ places js d) → lists_from (e ∷ js) c k ≡ lists_from js c k
same_from js e c zero f = refl
same_from js e c (suc k) f = rw (f c (omega arith), same_from js e (c + 1) k (λ d l. f d (omega (arith, l)))) refl

other_place : (js : List Event) (d m c : ℕ) (a : Answer) → d ≢ c → places (Answered d m a ∷ js) c ≡ places js c
other_place js d m c a e = let t : (d == c) ≡ false = grind (arith, nat_tests, e) in rw t refl

own_place : (js : List Event) (d m c : ℕ) (a : Answer) → d ≡ c → reverse (places (Answered d m a ∷ js) c) ≡ reverse (places js c) ++ suc (length js) ∷ []
own_place js d m c a e = let t : (d == c) ≡ true = grind (arith, nat_tests, e) in rw t (onto_end (places js c) (suc (length js)))

noted_from : (js : List Event) (d m : ℕ) (a : Answer) (c i k : ℕ) → d ≡ c + i → lists_from (Answered d m a ∷ js) c k ≡ noted (lists_from js c k) i (suc (length js))
noted_from js d m a c i zero e = refl
noted_from js d m a c zero (suc k) e = rw (own_place js d m c a (omega (arith, e)), same_from js (Answered d m a) (c + 1) k (λ x l. other_place js d m x a (omega (arith, e, l)))) refl
noted_from js d m a c (suc i) (suc k) e = rw (other_place js d m c a (omega (arith, e)), noted_from js d m a (c + 1) i k (omega (arith, e))) refl

pub lists_step : ListsStep
lists_step n js (Answered d m a) = noted_from js d m a 0 d n (omega arith)
lists_step n js e = same_from js e 0 n (λ d l. refl)

-- ---- which commands are answered

pub begun_in_order : BegunInOrder
begun_in_order u js c k = (counted u js c k).in_order

counted_placed : (u : Setup) (js : List Event) (c n : ℕ) → Kept u js → 1 ≤ n → n ≤ length (places js c) → (p : ℕ) × IsPlaced js c n p
counted_placed u js c n k l m =
    let r : n - 1 < length (reverse (places js c)) = rw (length-reverse (places js c)) (omega (arith, l, m)) in
    let p : ℕ = get_or (reverse (places js c)) (n - 1) 0 in
    (p, places_answer u js c n p k l (slice_get-get_or (reverse (places js c)) (n - 1) 0 r))

pub earlier_are_answered : EarlierAreAnswered
earlier_are_answered u js c n k l m = counted_placed u js c n k l (below (command js c) (counted u js c k).count) where
  below : (o : Option Command) → length (places js c) + owed o ≡ number js c → n ≤ length (places js c)
  below None e = omega (arith, e, m)
  below (Some x) e = omega (arith, e, m)

pub idle_are_answered : IdleAreAnswered
idle_are_answered u js c n k i l m =
    let e : length (places js c) + 0 ≡ number js c = rw i at (counted u js c k).count in
    counted_placed u js c n k l (omega (arith, e, m))

-- ---- looking up in the lists

pub some_place : (u : Setup) (js : List Event) (ls : List (List ℕ)) (c n p : ℕ) → Kept u js → ls ≡ lists u.callers js → place_in ls c n ≡ Some p → IsPlaced js c n p
some_place u js ls c zero p k e h = absurd (none (slice_get ls c) h) where
  none : (o : Option (List ℕ)) → numbered o 0 ≡ Some p → ⊥
  none None g = cc
  none (Some xs) g = cc
some_place u js ls c (suc n) p k e h = by (at_most c u.callers) where
  at_most : (a b : ℕ) → (a < b) ⊎ (b ≤ a)
  at_most a b = grind arith

  by : (c < u.callers) ⊎ (u.callers ≤ c) → IsPlaced js c (suc n) p
  by (inl l) =
      let f : slice_get ls c ≡ Some (reverse (places js c)) = ap (λ (xs : List (List ℕ)). slice_get xs c) e ∙ list_at js 0 u.callers c l ∙ ap (λ (x : ℕ). Some (reverse (places js x))) (omega arith) in
      let g : slice_get (reverse (places js c)) n ≡ Some p = rw f at h in
      let w = placed js c (suc n) p (sym ((ordered u js c k).listed n) ∙ g) in
      (w.answer, w.here)
  by (inr l) =
      let f : slice_get ls c ≡ None = ap (λ (xs : List (List ℕ)). slice_get xs c) e ∙ no_list_at js 0 u.callers c l in
      let g : None ≡ Some p = rw f at h in
      absurd (cc)

pub is_place : (u : Setup) (js : List Event) (ls : List (List ℕ)) (c n p : ℕ) (a : Answer) → Kept u js → ls ≡ lists u.callers js → HasAnswer js c n p a → place_in ls c n ≡ Some p
is_place u js ls c zero p a k e h = absurd (let l = ((ordered u js c k).known 0 p a h).from_one in omega (arith, l))
is_place u js ls c (suc n) p a k e h =
    let s = ordered u js c k in
    let l = caller_within u js c (suc n) p a k h in
    let f : slice_get ls c ≡ Some (reverse (places js c)) = ap (λ (xs : List (List ℕ)). slice_get xs c) e ∙ list_at js 0 u.callers c l ∙ ap (λ (x : ℕ). Some (reverse (places js x))) (omega arith) in
    rw f (s.listed n ∙ (s.known (suc n) p a h).is_place)

-- what an index finds is the answer
pub answer_here : (u : Setup) (js : List Event) (ls : List (List ℕ)) (c n p : ℕ) (a : Answer) → Indexes u js ls → place_in ls c n ≡ Some p → Some a ≡ answer_in (event_at js p) → HasAnswer js c n p a
answer_here u js ls c n p a i h e =
    let w = some_place u js ls c n p i.kept i.lists_are h in
    let f : Some a ≡ Some w.0 = e ∙ ap answer_in w.1 in
    let g : w.0 ≡ a = cc in
    subst (λ (b : Answer). HasAnswer js c n p b) g w.1

-- and it finds one at each place that it gives
pub answer_there : (u : Setup) (js : List Event) (ls : List (List ℕ)) (c n p : ℕ) → Indexes u js ls → place_in ls c n ≡ Some p → None ≡ answer_in (event_at js p) → ⊥
answer_there u js ls c n p i h e =
    let w = some_place u js ls c n p i.kept i.lists_are h in
    let f : None ≡ Some w.0 = e ∙ ap answer_in w.1 in
    cc

-- where it gives no place there is no answer
pub no_answer : (u : Setup) (js : List Event) (ls : List (List ℕ)) (c n : ℕ) → Indexes u js ls → place_in ls c n ≡ None → (p : ℕ) (a : Answer) → HasAnswer js c n p a → ⊥
no_answer u js ls c n i h p a w = let e = is_place u js ls c n p a i.kept i.lists_are w in cc
