-- The effects of a run, step by step.
use Rattle.std.proofs.Common.{◌≡◌, ◌≢◌, ℕ, suc, ◌+◌, ◌≤◌, ◌<◌, ◌==◌, Bool, true, false, ◌&&◌, List, ◌∷◌, Option, Some, None, if◌then◌else◌, All, IsSome, refl, sym, ◌∙◌, ap, subst, add-one, true≢false}
use Rattle.std.proofs.lemmas.Bool.Decides.{Decides-eqb}
use Rattle.std.proofs.lemmas.List.Elements.{All-cons, All-head, All-tail}
use Rattle.std.specs.Bool.{Decides}
use Rattle.std.specs.Prelude.{is_some}
use Rattle.n41_types.specs.declared.plans.Request.{Request}
use Rattle.n41_results.specs.declared.results.Res.{Res}
use Rattle.n41_results.specs.declared.sessions.Sequenced.{Sequenced}
use Rattle.n41_runs.specs.declared.commands.CommandName.{CommandName}
use Rattle.n41_runs.specs.declared.steps.Step.{Step}
use Rattle.n41_runs.specs.declared.steps.Step.TheVariants.{Does, Takes, Runs, Repeats, Refuses, Names, Makes, Binds, Ends}
use Rattle.n41_runs.specs.Effects.{Effect, acts, command_of, count_of, effects, effects_of, is_named}
use Rattle.n41_runs.specs.Steps.{client}
use Rattle.n41_small_world.specs.Promised.{IsTwice, NameTwice, Owned}
use Rattle.n41_legal.proofs.Deciding.{and, both}

-- ---- a request that ran and changed nothing, and steps in which none ran

pub idle : (n : ℕ) (w : List Step) (k : ℕ) (r : Request) (q : Sequenced) (xs : List Res) → acts r.plan xs ≡ false → effects n w ≡ effects n (Runs k r q xs ∷ w)
idle n w k r q xs e = rw e refl

pub idle_step : (n : ℕ) (w : List Step) (st : Step) → ((k : ℕ) (r : Request) (q : Sequenced) (xs : List Res) → st ≢ Runs k r q xs) → effects n w ≡ effects n (st ∷ w)
idle_step n w (Runs k r q xs) f = absurd (f k r q xs refl)
idle_step n w (Does e) f = refl
idle_step n w (Takes k c p y) f = refl
idle_step n w (Repeats k r y) f = refl
idle_step n w (Refuses k r x) f = refl
idle_step n w (Names k r i) f = refl
idle_step n w (Makes k r m) f = refl
idle_step n w (Binds k r b) f = refl
idle_step n w (Ends k r) f = refl

abbrev effect : Option CommandName → Request → List Res → Effect
effect a r xs = record { command = a; request = r; results = xs }

acted : (n : ℕ) (w : List Step) (k : ℕ) (r : Request) (q : Sequenced) (xs : List Res) → acts r.plan xs ≡ true → effects n (Runs k r q xs ∷ w) ≡ effect (command_of n (client w) k) r xs ∷ effects n w
acted n w k r q xs e = rw e refl

-- ---- how often

pub idle_count : (n : ℕ) (v w : List Step) (c m x : ℕ) → effects n v ≡ effects n w → x ≡ effects_of n v c m → x ≡ effects_of n w c m
idle_count n v w c m x e f = f ∙ ap (λ (es : List Effect). count_of es c m) e

pub counted : (n : ℕ) (w : List Step) (k : ℕ) (r : Request) (q : Sequenced) (xs : List Res) (a : Option CommandName) (c m : ℕ) → acts r.plan xs ≡ true → a ≡ command_of n (client w) k → effects_of n (Runs k r q xs ∷ w) c m ≡ (if is_named a c m then suc (effects_of n w c m) else effects_of n w c m)
counted n w k r q xs a c m e f = rw (e, f) refl

pub counts_more : (n : ℕ) (w : List Step) (k : ℕ) (r : Request) (q : Sequenced) (xs : List Res) (a : Option CommandName) (c m x : ℕ) → acts r.plan xs ≡ true → a ≡ command_of n (client w) k → is_named a c m ≡ true → x ≡ effects_of n w c m → x + 1 ≡ effects_of n (Runs k r q xs ∷ w) c m
counts_more n w k r q xs a c m x e f g h = add-one x ∙ (ap suc h ∙ sym (counted n w k r q xs a c m e f ∙ rw g refl))

pub counts_same : (n : ℕ) (w : List Step) (k : ℕ) (r : Request) (q : Sequenced) (xs : List Res) (a : Option CommandName) (c m x : ℕ) → acts r.plan xs ≡ true → a ≡ command_of n (client w) k → is_named a c m ≡ false → x ≡ effects_of n w c m → x ≡ effects_of n (Runs k r q xs ∷ w) c m
counts_same n w k r q xs a c m x e f g h = h ∙ sym (counted n w k r q xs a c m e f ∙ rw g refl)

-- ---- whose

pub idle_owned : (n : ℕ) (v w : List Step) (b : Bool) → effects n v ≡ effects n w → Decides b (Owned n v) → Decides b (Owned n w)
idle_owned n v w b e d = subst (λ (es : List Effect). Decides b (All (λ (x : Effect). IsSome x.command) es)) e d

some_test : (a : Option CommandName) → Decides (is_some a) (IsSome a)
some_test a = (λ e. e, λ e. e)

pub owned_is : (n : ℕ) (w : List Step) (k : ℕ) (r : Request) (q : Sequenced) (xs : List Res) (a : Option CommandName) (x b : Bool) → acts r.plan xs ≡ true → a ≡ command_of n (client w) k → x ≡ is_some a → Decides b (Owned n w) → Decides (x && b) (Owned n (Runs k r q xs ∷ w))
owned_is n w k r q xs a x b e f g d =
    let h : effects n (Runs k r q xs ∷ w) ≡ effect a r xs ∷ effects n w = acted n w k r q xs e ∙ ap (λ (z : Option CommandName). effect z r xs ∷ effects n w) (sym f) in
    let P = λ (z : Effect). IsSome z.command in
    subst (λ (es : List Effect). Decides (x && b) (All P es)) (sym h) (
      λ i. (let p = both x b i in All-cons P (effect a r xs) (effects n w) ((some_test a).0 (sym g ∙ p.0)) (d.0 p.1)),
      λ m. and x b (g ∙ (some_test a).1 (All-head P (effect a r xs) (effects n w) m)) (d.1 (All-tail P (effect a r xs) (effects n w) m)),
    )

-- ---- twice

named_same : (a : CommandName) (c m : ℕ) → is_named (Some a) c m ≡ true → (a.caller ≡ c) × (a.number ≡ m)
named_same a c m e = let p = both (a.caller == c) (a.number == m) e in ((Decides-eqb a.caller c).0 p.0, (Decides-eqb a.number m).0 p.1)

pub never_named : (n : ℕ) (w : List Step) → NameTwice n w None None
never_named n w c m e = absurd (true≢false (sym e))

pub not_twice : (n : ℕ) (w : List Step) (a : CommandName) (x : ℕ) → x ≡ effects_of n w a.caller a.number → x ≤ 1 → NameTwice n w (Some a) None
not_twice n w a x e l c m f =
    let p = named_same a c m f in
    subst (λ (d : ℕ). effects_of n w c d ≤ 1) p.1 (subst (λ (d : ℕ). effects_of n w d a.number ≤ 1) p.0 (subst (λ (d : ℕ). d ≤ 1) e l))

pub idle_twice : (n : ℕ) (v u w : List Step) (o : Option CommandName) → effects n v ≡ effects n u → IsTwice n v w o → IsTwice n u w o
idle_twice n v u w None e t = λ c m l. t c m (subst (λ (es : List Effect). 0 < count_of es c m) (sym e) l)
idle_twice n v u w (Some a) e t = t

pub first_fine : (n : ℕ) (v w : List Step) (k : ℕ) (r : Request) (q : Sequenced) (xs : List Res) (a o : Option CommandName) → acts r.plan xs ≡ true → a ≡ command_of n (client v) k → NameTwice n w a None → IsTwice n v w o → IsTwice n (Runs k r q xs ∷ v) w o
first_fine n v w k r q xs a (Some x) e f h t = t
first_fine n v w k r q xs a None e f h t = λ c m l. at_test c m l (is_named a c m) refl where
  at_test : (c m : ℕ) → 0 < effects_of n (Runs k r q xs ∷ v) c m → (b : Bool) → is_named a c m ≡ b → effects_of n w c m ≤ 1
  at_test c m l true g = h c m g
  at_test c m l false g = let i : effects_of n (Runs k r q xs ∷ v) c m ≡ effects_of n v c m = counted n v k r q xs a c m e f ∙ rw g refl in t c m (subst (λ (d : ℕ). 0 < d) i l)

pub twice_some : (n : ℕ) (w : List Step) (a o : Option CommandName) (x : CommandName) → o ≡ Some x → NameTwice n w a o → 1 < effects_of n w x.caller x.number
twice_some n w a o x e t = subst (λ (y : Option CommandName). NameTwice n w a y) e t
