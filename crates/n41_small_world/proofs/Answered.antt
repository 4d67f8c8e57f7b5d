-- Which promises hold.
use Rattle.std.proofs.Common.{◌≡◌, ◌≢◌, ◌⊎◌, inl, inr, ℕ, ◌≤◌, ◌==◌, Bool, true, false, ◌&&◌, ◌||◌, not, List, [], ◌∷◌, Option, Some, None, IsSome, refl, sym, ◌∙◌, ap, subst, true≢false}
use Rattle.std.proofs.lemmas.Bool.Decides.{Decides-eqb}
use Rattle.std.specs.Bool.{Decides}
use Rattle.std.specs.Prelude.{is_some}
use Rattle.n41_types.specs.declared.commands.Answer.{Answer}
use Rattle.n41_types.specs.declared.commands.Answer.TheVariants as says
use Rattle.n41_types.specs.declared.commands.Command.{Command}
use Rattle.n41_types.specs.declared.commands.Value.{Value}
use Rattle.n41_types.specs.declared.plans.Class.{Class}
use Rattle.n41_types.specs.declared.plans.Class.TheVariants as class
use Rattle.n41_types.specs.declared.plans.Request.{Request}
use Rattle.n41_types.specs.declared.plans.SlotUse.{SlotUse}
use Rattle.n41_types.specs.Plans.{class_of}
use Rattle.n41_view.specs.Causes.{is_changing as is_changing_class}
use Rattle.n41_journal.specs.declared.events.Event.{Event}
use Rattle.n41_journal.specs.declared.events.Event.TheVariants.{Began, Put, Took, CbTook, CbPut, Dialed, DialFailed, Broke, Ticked, Answered, Quit}
use Rattle.n41_calls.specs.Answers.{round_limit}
use Rattle.n41_model.specs.Replies.{is_final}
use Rattle.n41_model.specs.Requests.{doubt, first, is_on, is_use_of, made, out, outs, rounds, without}
use Rattle.n41_calls.specs.Text.{answer_to}
use Rattle.n41_check.specs.Rows.{Row, is_changing_out, row_of}
use Rattle.n41_runs.specs.declared.commands.CommandName.{CommandName}
use Rattle.n41_runs.specs.declared.steps.Step.{Step}
use Rattle.n41_runs.specs.declared.steps.Step.TheVariants.{Does, Takes, Runs, Repeats, Refuses, Names, Makes, Binds, Ends}
use Rattle.n41_runs.specs.Effects.{asked, command_on, effects_of, is_changing, is_named}
use Rattle.n41_runs.specs.Good.{IsUnknown, is_undone}
use Rattle.n41_runs.specs.Steps.{client}
use Rattle.n41_small_world.specs.declared.judgements.Promise.{Promise}
use Rattle.n41_small_world.specs.declared.judgements.Promise.TheVariants as promise
use Rattle.n41_small_world.specs.Judged.{Holds}
use Rattle.n41_small_world.specs.Promised.{AnyInDoubt, Doubts, IsInDoubt, IsKept, answered_by, is_done_change, is_undone_answer, is_unknown_answer, put_by, was_put}
use Rattle.n41_legal.proofs.Deciding.{and, both, one_of, or_left, or_right, told_of, told_to}
use Rattle.n41_small_world.proofs.Names.{puts_some}

-- ---- in doubt

changing_is : (k : Class) → Decides (is_changing_class k) (k ≡ class.Changing)
changing_is class.Changing = (λ e. refl, λ e. refl)
changing_is class.Bare = (λ e. absurd (true≢false (sym e)), λ e. absurd (cc))
changing_is class.Reading = (λ e. absurd (true≢false (sym e)), λ e. absurd (cc))
changing_is class.State = (λ e. absurd (true≢false (sym e)), λ e. absurd (cc))

some_out : (o : Option Request) (js : List Event) (s : ℕ) → o ≡ out js s → is_changing_out o ≡ true → (r : Request) × ((out js s ≡ Some r) × (class_of r.plan ≡ class.Changing))
some_out None js s e f = absurd (true≢false (sym f))
some_out (Some r) js s e f = (r, (sym e, (changing_is (class_of r.plan)).0 f))

out_some : (o : Option Request) (js : List Event) (s : ℕ) (r : Request) → o ≡ out js s → out js s ≡ Some r → class_of r.plan ≡ class.Changing → is_changing_out o ≡ true
out_some o js s r e f g = subst (λ (x : Option Request). is_changing_out x ≡ true) (sym (e ∙ f)) ((changing_is (class_of r.plan)).1 g)

pub doubt_is : (n : ℕ) (js : List Event) (s c m : ℕ) (w : Row) (a b : Bool) (o : Option CommandName) → w ≡ row_of n js s → o ≡ command_on n js s → a ≡ (is_changing_out w.out && w.doubt) → b ≡ is_named o c m → Decides (a && b) (IsInDoubt n js s c m)
doubt_is n js s c m w a b o e f g h =
    let x : w.out ≡ out js s = ap (λ (v : Row). v.out) e in
    let y : w.doubt ≡ doubt js s = ap (λ (v : Row). v.doubt) e in
    let z : is_named o c m ≡ is_named (command_on n js s) c m = ap (λ (v : Option CommandName). is_named v c m) f in (
      λ i. (let p = both a b i in
          let q = both (is_changing_out w.out) w.doubt (sym g ∙ p.0) in
          let r = some_out w.out js s x q.0 in
          record { request = r.0; is_out = r.1.0; own = sym z ∙ (sym h ∙ p.1); changing = r.1.1; broke = sym y ∙ q.1 }),
      λ d. and a b (g ∙ and (is_changing_out w.out) w.doubt (out_some w.out js s d.request x d.is_out d.changing) (y ∙ d.broke)) (h ∙ (z ∙ d.own)),
    )

pub never_put : (js : List Event) (s : ℕ) → was_put js s ≡ false → outs js s ≡ []
never_put [] s e = refl
never_put (Put c p r ∷ js) s e = put_by (is_on r s) refl e (never_put js s) where
  put_by : (b : Bool) → is_on r s ≡ b → (is_on r s || was_put js s) ≡ false → (was_put js s ≡ false → outs js s ≡ []) → outs (Put c p r ∷ js) s ≡ []
  put_by true f g h = absurd (true≢false (sym (ap (λ (x : Bool). x || was_put js s) f) ∙ g))
  put_by false f g h = rw f (h (sym (ap (λ (x : Bool). x || was_put js s) f) ∙ g))
never_put (Took c p y ∷ js) s e = took_by (is_some (made js y)) (is_final y) refl refl (never_put js s e) where
  took_by : (a b : Bool) → is_some (made js y) ≡ a → is_final y ≡ b → outs js s ≡ [] → outs (Took c p y ∷ js) s ≡ []
  took_by true b f g h = rw f refl
  took_by false true f g h = rw (f, g) (ap (λ (rs : List Request). without rs y.xid) h)
  took_by false false f g h = rw (f, g) h
never_put (Began c n k m ∷ js) s e = never_put js s e
never_put (CbTook c p x ∷ js) s e = never_put js s e
never_put (CbPut c p x ∷ js) s e = never_put js s e
never_put (Dialed c ∷ js) s e = never_put js s e
never_put (DialFailed ∷ js) s e = never_put js s e
never_put (Broke c w ∷ js) s e = never_put js s e
never_put (Ticked m ∷ js) s e = never_put js s e
never_put (Answered c n a ∷ js) s e = never_put js s e
never_put (Quit ∷ js) s e = never_put js s e

-- a slot on which one is out
pub out_put : (js : List Event) (s : ℕ) (r : Request) → out js s ≡ Some r → was_put js s ≡ true
out_put js s r e = at_test (was_put js s) refl where
  at_test : (b : Bool) → was_put js s ≡ b → was_put js s ≡ true
  at_test true f = f
  at_test false f = let g : None ≡ Some r = sym (ap first (never_put js s f)) ∙ e in absurd (cc)

pub unknown_is : (n : ℕ) (js : List Event) (c m : ℕ) (a b : Bool) → (a ≡ true → AnyInDoubt n js c m) → ((s : ℕ) → was_put js s ≡ true → IsInDoubt n js s c m → a ≡ true) → Decides b (round_limit ≤ rounds js) → Decides (a && b) (IsUnknown n js c m)
unknown_is n js c m a b f g d = (
  λ h. (let p = both a b h in
      let x = f p.0 in
      record { slot = x.0; request = x.1.request; is_out = x.1.is_out; own = x.1.own; changing = x.1.changing; broke = x.1.broke; ended = d.0 p.1 }),
  λ u. and a b (g u.slot (out_put js u.slot u.request u.is_out) (record { request = u.request; is_out = u.is_out; own = u.own; changing = u.changing; broke = u.broke })) (d.1 u.ended),
)

-- a step that puts nothing
pub put_else : (w : List Step) (st : Step) (s : ℕ) → ((c p : ℕ) (r : Request) → st ≢ Does (Put c p r)) → was_put (client (st ∷ w)) s ≡ was_put (client w) s
put_else w (Does (Put c p r)) s f = absurd (f c p r refl)
put_else w (Does (Took c p y)) s f = refl
put_else w (Does (Began c m k t)) s f = refl
put_else w (Does (CbTook c p x)) s f = refl
put_else w (Does (CbPut c p x)) s f = refl
put_else w (Does (Dialed c)) s f = refl
put_else w (Does DialFailed) s f = refl
put_else w (Does (Broke c x)) s f = refl
put_else w (Does (Ticked m)) s f = refl
put_else w (Does (Answered c m a)) s f = refl
put_else w (Does Quit) s f = refl
put_else w (Takes k c p y) s f = refl
put_else w (Runs k r q xs) s f = refl
put_else w (Repeats k r y) s f = refl
put_else w (Refuses k r x) s f = refl
put_else w (Names k r i) s f = refl
put_else w (Makes k r m) s f = refl
put_else w (Binds k r b) s f = refl
put_else w (Ends k r) s f = refl

-- ---- answers

done_asks : (o : Option Command) (p : Option Answer) (k : Command) (x : Value) → o ≡ Some k → is_changing k ≡ true → p ≡ Some (says.Done x) → is_done_change o p ≡ true
done_asks o p k x e f g = rw (e, g) f

pub record DoneChange (o : Option Command) (p : Option Answer) : Type 0 where
  pub command : Command
  pub value : Value
  pub is_command : o ≡ Some command
  pub changes : is_changing command ≡ true
  pub is_value : p ≡ Some (says.Done value)

done_parts : (o : Option Command) (p : Option Answer) → is_done_change o p ≡ true → DoneChange o p
done_parts (Some k) (Some (says.Done x)) e = record { command = k; value = x; is_command = refl; changes = e; is_value = refl }
done_parts o p e = absurd (true≢false (sym e))

pub done_is : (n : ℕ) (w : List Step) (a : CommandName) (b : Bool) (x : ℕ) → x ≡ effects_of n w a.caller a.number → b ≡ is_done_change (asked (client w) a.caller a.number) (answer_to (client w) a.caller a.number) → Decides (not b || (x == 1)) (Holds n w (promise.Done a))
done_is n w a b x e f = (
  λ h. (λ k v i j g. sym e ∙ (Decides-eqb x 1).0 (told_of b (x == 1) (f ∙ done_asks (asked (client w) a.caller a.number) (answer_to (client w) a.caller a.number) k v i j g) h)),
  λ p. told_to b (x == 1) (λ h. (let d = done_parts (asked (client w) a.caller a.number) (answer_to (client w) a.caller a.number) (sym f ∙ h) in (Decides-eqb x 1).1 (e ∙ p d.command d.value d.is_command d.changes d.is_value))),
)

undone_asks : (p : Option Answer) (x : Answer) → p ≡ Some x → is_undone x ≡ true → is_undone_answer p ≡ true
undone_asks p x e f = rw e f

undone_part : (p : Option Answer) → is_undone_answer p ≡ true → (x : Answer) × ((p ≡ Some x) × (is_undone x ≡ true))
undone_part None e = absurd (true≢false (sym e))
undone_part (Some x) e = (x, (refl, e))

pub undone_is : (n : ℕ) (w : List Step) (a : CommandName) (b : Bool) (x : ℕ) → x ≡ effects_of n w a.caller a.number → b ≡ is_undone_answer (answer_to (client w) a.caller a.number) → Decides (not b || (x == 0)) (Holds n w (promise.Undone a))
undone_is n w a b x e f = (
  λ h. (λ v i j. sym e ∙ (Decides-eqb x 0).0 (told_of b (x == 0) (f ∙ undone_asks (answer_to (client w) a.caller a.number) v i j) h)),
  λ p. told_to b (x == 0) (λ h. (let d = undone_part (answer_to (client w) a.caller a.number) (sym f ∙ h) in (Decides-eqb x 0).1 (e ∙ p d.0 d.1.0 d.1.1))),
)

unknown_part : (p : Option Answer) → is_unknown_answer p ≡ true → p ≡ Some says.Unknown
unknown_part (Some says.Unknown) e = refl
unknown_part p e = absurd (true≢false (sym e))

pub untold_is : (n : ℕ) (w : List Step) (a : CommandName) (b x : Bool) → Decides x (IsUnknown n (client w) a.caller a.number) → b ≡ is_unknown_answer (answer_to (client w) a.caller a.number) → Decides (not b || x) (Holds n w (promise.Unknown a))
untold_is n w a b x d f = (
  λ h. (λ i. d.0 (told_of b x (f ∙ ap is_unknown_answer i) h)),
  λ p. told_to b x (λ h. d.1 (p (unknown_part (answer_to (client w) a.caller a.number) (sym f ∙ h)))),
)

-- ---- all answers

pub kept_none : (n : ℕ) (w : List Step) (f : CommandName → Promise) → IsKept n [] w f None
kept_none n w f a s = absurd (true≢false (sym s))

answer_else : (v : List Step) (st : Step) (a : CommandName) → ((c m : ℕ) (x : Answer) → st ≢ Does (Answered c m x)) → answer_to (client (st ∷ v)) a.caller a.number ≡ answer_to (client v) a.caller a.number
answer_else v (Does (Answered c m x)) a f = absurd (f c m x refl)
answer_else v (Does (Put c p r)) a f = refl
answer_else v (Does (Took c p y)) a f = refl
answer_else v (Does (Began c m k t)) a f = refl
answer_else v (Does (CbTook c p x)) a f = refl
answer_else v (Does (CbPut c p x)) a f = refl
answer_else v (Does (Dialed c)) a f = refl
answer_else v (Does DialFailed) a f = refl
answer_else v (Does (Broke c x)) a f = refl
answer_else v (Does (Ticked m)) a f = refl
answer_else v (Does Quit) a f = refl
answer_else v (Takes k c p y) a f = refl
answer_else v (Runs k r q xs) a f = refl
answer_else v (Repeats k r y) a f = refl
answer_else v (Refuses k r x) a f = refl
answer_else v (Names k r i) a f = refl
answer_else v (Makes k r m) a f = refl
answer_else v (Binds k r b) a f = refl
answer_else v (Ends k r) a f = refl

pub kept_else : (n : ℕ) (v w : List Step) (st : Step) (f : CommandName → Promise) (o : Option Promise) → ((c m : ℕ) (x : Answer) → st ≢ Does (Answered c m x)) → IsKept n v w f o → IsKept n (st ∷ v) w f o
kept_else n v w st f (Some x) g k = k
kept_else n v w st f None g k = λ a s. k a (subst (λ (o : Option Answer). IsSome o) (answer_else v st a g) s)

name_is : (a b : CommandName) → a.caller ≡ b.caller → a.number ≡ b.number → a ≡ b
name_is a b e f = let p : (let x : CommandName = record { caller = a.caller; number = a.number } in x) ≡ record { caller = b.caller; number = b.number } = rw (e, f) refl in p

pub kept_answer : (n : ℕ) (v w : List Step) (c m : ℕ) (x : Answer) (b : CommandName) (f : CommandName → Promise) (o : Option Promise) → c ≡ b.caller → m ≡ b.number → Holds n w (f b) → IsKept n v w f o → IsKept n (Does (Answered c m x) ∷ v) w f o
kept_answer n v w c m x b f (Some y) e g h k = k
kept_answer n v w c m x b f None e g h k = λ a s. at_test a s ((c == a.caller) && (m == a.number)) refl where
  at_test : (a : CommandName) → IsSome (answer_to (client (Does (Answered c m x) ∷ v)) a.caller a.number) → (t : Bool) → ((c == a.caller) && (m == a.number)) ≡ t → Holds n w (f a)
  at_test a s true i =
      let p = both (c == a.caller) (m == a.number) i in
      subst (λ (z : CommandName). Holds n w (f z)) (name_is b a (sym e ∙ (Decides-eqb c a.caller).0 p.0) (sym g ∙ (Decides-eqb m a.number).0 p.1)) h
  at_test a s false i = k a (subst (λ (t : Option Answer). IsSome t) (let q : answer_to (client (Does (Answered c m x) ∷ v)) a.caller a.number ≡ answer_to (client v) a.caller a.number = rw i refl in q) s)

-- the command that a step answers
pub record Gives (st : Step) (a : CommandName) : Type 0 where
  pub answer : Answer
  pub is_step : st ≡ Does (Answered a.caller a.number answer)

gives_none : (st : Step) → None ≡ answered_by st → (c m : ℕ) (x : Answer) → st ≢ Does (Answered c m x)
gives_none st e c m x f =
    let n : CommandName = record { caller = c; number = m } in
    let z : None ≡ Some n = e ∙ ap answered_by f in
    absurd (cc)

gives_some : (st : Step) (a : CommandName) → Some a ≡ answered_by st → Gives st a
gives_some (Does (Answered c m x)) a e =
    let n : CommandName = record { caller = c; number = m } in
    let z : n ≡ a = (let y : Some a ≡ Some n = e in cc) in
    record { answer = x; is_step = ap (λ (b : CommandName). Does (Answered b.caller b.number x)) z }
gives_some (Does (Put c p q)) r e = absurd (cc)
gives_some (Does (Took c p y)) r e = absurd (cc)
gives_some (Does (Began c m k t)) r e = absurd (cc)
gives_some (Does (CbTook c p x)) r e = absurd (cc)
gives_some (Does (CbPut c p x)) r e = absurd (cc)
gives_some (Does (Dialed c)) r e = absurd (cc)
gives_some (Does DialFailed) r e = absurd (cc)
gives_some (Does (Broke c x)) r e = absurd (cc)
gives_some (Does (Ticked m)) r e = absurd (cc)
gives_some (Does Quit) r e = absurd (cc)
gives_some (Takes k c p y) r e = absurd (cc)
gives_some (Runs k q s xs) r e = absurd (cc)
gives_some (Repeats k q y) r e = absurd (cc)
gives_some (Refuses k q x) r e = absurd (cc)
gives_some (Names k q i) r e = absurd (cc)
gives_some (Makes k q m) r e = absurd (cc)
gives_some (Binds k q b) r e = absurd (cc)
gives_some (Ends k q) r e = absurd (cc)

pub kept_aside : (n : ℕ) (v w : List Step) (st : Step) (f : CommandName → Promise) (o : Option Promise) → None ≡ answered_by st → IsKept n v w f o → IsKept n (st ∷ v) w f o
kept_aside n v w st f o e k = kept_else n v w st f o (gives_none st e) k

pub kept_here : (n : ℕ) (v w : List Step) (st : Step) (a : CommandName) (f : CommandName → Promise) (o : Option Promise) (b : Bool) → Some a ≡ answered_by st → Decides b (Holds n w (f a)) → b ≡ true → IsKept n v w f o → IsKept n (st ∷ v) w f o
kept_here n v w st a f o b e d h k =
    let g = gives_some st a e in
    subst (λ (x : Step). IsKept n (x ∷ v) w f o) (sym g.is_step) (kept_answer n v w a.caller a.number g.answer a f o refl refl (d.0 h) k)

pub broken_here : (n : ℕ) (v w : List Step) (a : CommandName) (f : CommandName → Promise) (x : Promise) (b : Bool) → x ≡ f a → Decides b (Holds n w (f a)) → b ≡ false → IsKept n v w f (Some x)
broken_here n v w a f x b e d h = (a, e, λ p. true≢false (sym (d.1 (subst (λ (y : Promise). Holds n w y) e p)) ∙ h))

-- ---- slots in doubt

pub doubts_none : (n : ℕ) (w : List Step) (a : CommandName) → Doubts n [] w a false
doubts_none n w a = record { some = λ e. absurd (true≢false (sym e)); all = λ s e d. e }

pub doubts_aside : (n : ℕ) (v w : List Step) (st : Step) (a : CommandName) (b : Bool) → None ≡ put_by st → Doubts n v w a b → Doubts n (st ∷ v) w a b
doubts_aside n v w st a b e d = record { some = d.some; all = λ s f. d.all s (sym (put_else v st s (λ c p r g. (let z : None ≡ Some r = e ∙ ap put_by g in absurd (cc)))) ∙ f) }

off_use : (o : Option SlotUse) (s : ℕ) → o ≡ None → is_use_of o s ≡ false
off_use o s e = rw e refl

-- of a request without a slot
pub doubts_bare : (n : ℕ) (v w : List Step) (st : Step) (r : Request) (a : CommandName) (b : Bool) → Some r ≡ put_by st → r.slot ≡ None → Doubts n v w a b → Doubts n (st ∷ v) w a b
doubts_bare n v w st r a b e f d =
    let p = puts_some st r e in
    subst (λ (x : Step). Doubts n (x ∷ v) w a b) (sym p.is_step)
    (record { some = d.some; all = λ s g. d.all s (sym (ap (λ (x : Bool). x || was_put (client v) s) (off_use r.slot s f)) ∙ g) })

on_use : (o : Option SlotUse) (u : SlotUse) (s : ℕ) → o ≡ Some u → is_use_of o s ≡ true → u.slot ≡ s
on_use o u s e f = (Decides-eqb u.slot s).0 (sym (ap (λ (x : Option SlotUse). is_use_of x s) e) ∙ f)

pub doubts_here : (n : ℕ) (v w : List Step) (st : Step) (r : Request) (u : SlotUse) (a : CommandName) (x b y : Bool) → Some r ≡ put_by st → r.slot ≡ Some u → Decides x (IsInDoubt n (client w) u.slot a.caller a.number) → y ≡ (x || b) → Doubts n v w a b → Doubts n (st ∷ v) w a y
doubts_here n v w st r u a x b y e f d g k =
    let p = puts_some st r e in
    subst (λ (z : Step). Doubts n (z ∷ v) w a y) (sym p.is_step) (record { some = λ h. found (one_of x b (sym g ∙ h)); all = λ s h m. at_slot s m (is_on r s) refl h }) where
      found : (x ≡ true) ⊎ (b ≡ true) → AnyInDoubt n (client w) a.caller a.number
      found (inl h) = (u.slot, d.0 h)
      found (inr h) = k.some h

      at_slot : (s : ℕ) → IsInDoubt n (client w) s a.caller a.number → (t : Bool) → is_on r s ≡ t → (is_on r s || was_put (client v) s) ≡ true → y ≡ true
      at_slot s m true i h = g ∙ or_left x b (d.1 (subst (λ (z : ℕ). IsInDoubt n (client w) z a.caller a.number) (sym (on_use r.slot u s f i)) m))
      at_slot s m false i h = g ∙ or_right x b (k.all s (sym (ap (λ (z : Bool). z || was_put (client v) s) i) ∙ h) m)
