-- The place of the answer to a command.
use Rattle.std.proofs.Common.{◌≡◌, ◌<◌, ◌≤◌, ◌==◌, ◌⊎◌, inl, inr, ℕ, suc, Bool, true, false, ◌&&◌, List, [], ◌∷◌, length, reverse, Option, Some, None, slice_get, refl, ap, sym, subst, ◌∙◌, arith, if◌then◌else◌}
use Rattle.std.proofs.lemmas.Bool.Decides.{nat_tests}
use Rattle.n41_types.specs.declared.commands.Answer.{Answer}
use Rattle.n41_journal.specs.Journal.{event_at}
use Rattle.n41_journal.specs.declared.events.Event.{Event}
use Rattle.n41_journal.specs.declared.events.Event.TheVariants.{Answered}
use Rattle.n41_model.specs.declared.words.Setup.{Setup}
use Rattle.n41_calls.specs.Kept.{Kept, May, MayAnswer}
use Rattle.n41_calls.specs.Text.{answer_to}
use Rattle.n41_answers.specs.Answers.{HasAnswer, places}
use Rattle.n41_answers.proofs.Counted.{Counted, counted, next_answer}
use Rattle.n41_answers.proofs.Lookups.{end_of, split_place, place_stays, newest_place}

-- the place of the newest answer to a caller's command of this number
abbrev pub place_to : List Event → ℕ → ℕ → Option ℕ
place_to [] c n = None
place_to (Answered d m a ∷ js) c n = if (d == c) && (m == n) then Some (suc (length js)) else place_to js c n
place_to (e ∷ js) c n = place_to js c n

-- ---- what stands at that place, in any journal

pub record Placed (js : List Event) (c n p : ℕ) : Type 0 where
  pub answer : Answer
  pub here : HasAnswer js c n p answer
  pub told : answer_to js c n ≡ Some answer

-- what an event leaves as it is
stays : (js : List Event) (e : Event) (c n p : ℕ) → answer_to (e ∷ js) c n ≡ answer_to js c n → Placed js c n p → Placed (e ∷ js) c n p
stays js e c n p same s = record { answer = s.answer; here = place_stays js e (Answered c n s.answer) p s.here; told = same ∙ s.told }

answered_placed : (js : List Event) (d m c n p : ℕ) (a : Answer) → (place_to js c n ≡ Some p → Placed js c n p) → place_to (Answered d m a ∷ js) c n ≡ Some p → Placed (Answered d m a ∷ js) c n p
answered_placed js d m c n p a f h = at_test ((d == c) && (m == n)) refl where
  at_test : (b : Bool) → ((d == c) && (m == n)) ≡ b → Placed (Answered d m a ∷ js) c n p
  at_test true t =
      let e : d ≡ c = grind (arith, nat_tests, t) in
      let g : m ≡ n = grind (arith, nat_tests, t) in
      let i : Some (suc (length js)) ≡ Some p = rw t at h in
      let q : suc (length js) ≡ p = cc in
      let w : event_at (Answered d m a ∷ js) p ≡ Some (Answered d m a) = ap (event_at (Answered d m a ∷ js)) (sym q) ∙ newest_place js (Answered d m a) in
      let z : Some (Answered d m a) ≡ Some (Answered c n a) = cc in
      record { answer = a; here = w ∙ z; told = rw t refl }
  at_test false t = stays js (Answered d m a) c n p (rw t refl) (f (rw t at h))

pub placed : (js : List Event) (c n p : ℕ) → place_to js c n ≡ Some p → Placed js c n p
placed [] c n p h = absurd (cc)
placed (Answered d m a ∷ js) c n p h = answered_placed js d m c n p a (placed js c n p) h
placed (e ∷ js) c n p h = stays js e c n p refl (placed js c n p h)

pub record Found (js : List Event) (c n : ℕ) : Type 0 where
  pub place : ℕ
  pub is_place : place_to js c n ≡ Some place

-- a command with an answer has its place
answered_found : (js : List Event) (d m c n : ℕ) (a b : Answer) → (answer_to js c n ≡ Some b → Found js c n) → answer_to (Answered d m a ∷ js) c n ≡ Some b → Found (Answered d m a ∷ js) c n
answered_found js d m c n a b f h = at_test ((d == c) && (m == n)) refl where
  at_test : (t : Bool) → ((d == c) && (m == n)) ≡ t → Found (Answered d m a ∷ js) c n
  at_test true t = record { place = suc (length js); is_place = rw t refl }
  at_test false t = let w = f (rw t at h) in record { place = w.place; is_place = rw t w.is_place }

pub found : (js : List Event) (c n : ℕ) (b : Answer) → answer_to js c n ≡ Some b → Found js c n
found [] c n b h = absurd (cc)
found (Answered d m a ∷ js) c n b h = answered_found js d m c n a b (found js c n b) h
found (e ∷ js) c n b h = let w = found js c n b h in record { place = w.place; is_place = w.is_place }

-- ---- a journal that is kept

-- what an answer's place tells
pub record Known (js : List Event) (c n p : ℕ) (a : Answer) : Type 0 where
  pub from_one : 1 ≤ n
  pub counted : n ≤ length (places js c)
  pub is_place : place_to js c n ≡ Some p
  pub told : answer_to js c n ≡ Some a

-- a caller's list has at each index the place of the command whose number is one more
pub record Ordered (js : List Event) (c : ℕ) : Type 0 where
  pub listed : (k : ℕ) → slice_get (reverse (places js c)) k ≡ place_to js c (suc k)
  pub known : (n p : ℕ) (a : Answer) → HasAnswer js c n p a → Known js c n p a

-- an event that is no answer of this caller
other_ordered : (js : List Event) (e : Event) (c : ℕ) → places (e ∷ js) c ≡ places js c → ((n : ℕ) → place_to (e ∷ js) c n ≡ place_to js c n) → ((n : ℕ) → answer_to (e ∷ js) c n ≡ answer_to js c n) → ((n : ℕ) (b : Answer) → Some e ≡ Some (Answered c n b) → ⊥) → Ordered js c → Ordered (e ∷ js) c
other_ordered js e c f g h i s = record {
  listed = λ k. ap (λ (xs : List ℕ). slice_get (reverse xs) k) f ∙ s.listed k ∙ sym (g (suc k));
  known = λ n p a w. by n p a (split_place js e (Answered c n a) p w);
} where
  by : (n p : ℕ) (a : Answer) → ((p ≡ suc (length js)) × (Some e ≡ Some (Answered c n a))) ⊎ HasAnswer js c n p a → Known (e ∷ js) c n p a
  by n p a (inl w) = absurd (i n a w.1)
  by n p a (inr w) =
      let k = s.known n p a w in
      record { from_one = k.from_one; counted = rw f k.counted; is_place = g n ∙ k.is_place; told = h n ∙ k.told }

-- an answer of this caller
own_listed : (js : List Event) (c m : ℕ) (a : Answer) → m ≡ suc (length (places js c)) → Ordered js c → (k : ℕ) → slice_get (reverse (suc (length js) ∷ places js c)) k ≡ (if m == suc k then Some (suc (length js)) else place_to js c (suc k))
own_listed js c m a e s k =
    let t : (k == length (places js c)) ≡ (m == suc k) = grind (arith, nat_tests, e) in
    rw (end_of (places js c) (suc (length js)) k, s.listed k, t) refl

own_new : (js : List Event) (c m n p : ℕ) (a b : Answer) → m ≡ suc (length (places js c)) → p ≡ suc (length js) → m ≡ n → a ≡ b → Known (Answered c m a ∷ js) c n p b
own_new js c m n p a b e q f g =
    let t : (c == c) ≡ true = grind (arith, nat_tests) in
    let v : (m == n) ≡ true = grind (arith, nat_tests, f) in
    record {
      from_one = omega (arith, e, f);
      counted = rw t (omega (arith, e, f));
      is_place = rw (t, v) (ap (λ (x : ℕ). Some x) (sym q));
      told = rw (t, v) (ap (λ (x : Answer). Some x) g);
    }

own_old : (js : List Event) (c m n p : ℕ) (a b : Answer) → m ≡ suc (length (places js c)) → Known js c n p b → Known (Answered c m a ∷ js) c n p b
own_old js c m n p a b e k =
    let t : (c == c) ≡ true = grind (arith, nat_tests) in
    let l = k.counted in
    let v : (m == n) ≡ false = grind (arith, nat_tests, e, l) in
    record {
      from_one = k.from_one;
      counted = rw t (omega (arith, l));
      is_place = rw (t, v) k.is_place;
      told = rw (t, v) k.told;
    }

own_ordered : (js : List Event) (c m : ℕ) (a : Answer) → m ≡ suc (length (places js c)) → Ordered js c → Ordered (Answered c m a ∷ js) c
own_ordered js c m a e s = record {
  listed = λ k. (let t : (c == c) ≡ true = grind (arith, nat_tests) in rw t (own_listed js c m a e s k));
  known = λ n p b w. by n p b (split_place js (Answered c m a) (Answered c n b) p w);
} where
  by : (n p : ℕ) (b : Answer) → ((p ≡ suc (length js)) × (Some (Answered c m a) ≡ Some (Answered c n b))) ⊎ HasAnswer js c n p b → Known (Answered c m a ∷ js) c n p b
  by n p b (inl w) =
      let f : m ≡ n = (let z = w.1 in cc) in
      let g : a ≡ b = (let z = w.1 in cc) in
      own_new js c m n p a b e w.0 f g
  by n p b (inr w) = own_old js c m n p a b e (s.known n p b w)

answered_ordered : (u : Setup) (js : List Event) (d m c : ℕ) (a : Answer) → MayAnswer u js d m a → Counted js c → Ordered js c → Ordered (Answered d m a ∷ js) c
answered_ordered u js d m c a h v s = at_test (d == c) refl where
  at_test : (b : Bool) → (d == c) ≡ b → Ordered (Answered d m a ∷ js) c
  at_test true t =
      let e : d ≡ c = grind (arith, nat_tests, t) in
      subst (λ (x : ℕ). Ordered (Answered x m a ∷ js) c) (sym e) (own_ordered js c m a (next_answer u js d m c a h v e) s)
  at_test false t =
      let e : d ≡ c → ⊥ = λ z. grind (arith, nat_tests, t, z) in
      other_ordered js (Answered d m a) c (rw t refl) (λ n. rw t refl) (λ n. rw t refl) (λ n b z. e (cc)) s

step_ordered : (u : Setup) (js : List Event) (e : Event) (c : ℕ) → May u js e → Counted js c → Ordered js c → Ordered (e ∷ js) c
step_ordered u js (Answered d m a) c h v s = answered_ordered u js d m c a h v s
step_ordered u js e c h v s = other_ordered js e c refl (λ n. refl) (λ n. refl) (λ n b z. cc) s

pub ordered : (u : Setup) (js : List Event) (c : ℕ) → Kept u js → Ordered js c
ordered u [] c k = record { listed = λ i. refl; known = λ n p a h. absurd (cc) }
ordered u (e ∷ js) c k = step_ordered u js e c k.1 (counted u js c k.0) (ordered u js c k.0)

-- an answer is a caller's that there is
newest_caller : (u : Setup) (js : List Event) (e : Event) (c n : ℕ) (a : Answer) → May u js e → Some e ≡ Some (Answered c n a) → c < u.callers
newest_caller u js (Answered d m b) c n a h z = let e : d ≡ c = cc in let l = h.caller in omega (arith, l, e)
newest_caller u js e c n a h z = absurd (cc)

pub caller_within : (u : Setup) (js : List Event) (c n p : ℕ) (a : Answer) → Kept u js → HasAnswer js c n p a → c < u.callers
caller_within u [] c n p a k h = absurd (cc)
caller_within u (e ∷ js) c n p a k h = by (caller_within u js c n p a k.0) (split_place js e (Answered c n a) p h) where
  by : (HasAnswer js c n p a → c < u.callers) → ((p ≡ suc (length js)) × (Some e ≡ Some (Answered c n a))) ⊎ HasAnswer js c n p a → c < u.callers
  by f (inl w) = newest_caller u js e c n a k.1 w.1
  by f (inr w) = f w
