-- The client ids of a legal run, and the sequences of their sessions.
use Rattle.std.proofs.Common.{◌≡◌, ◌≢◌, ◌⊎◌, inl, inr, ℕ, ◌+◌, ◌==◌, ◌%◌, ◌^◌, Bool, true, false, ◌&&◌, ◌||◌, not, List, [], ◌∷◌, Option, Some, None, if◌then◌else◌, refl, sym, ◌∙◌, ap, subst, arith, true≢false}
use Rattle.std.proofs.lemmas.Bool.Decides.{nat_tests}
use Rattle.std.specs.Prelude.{is_some, is_none}
use Rattle.n41_types.specs.declared.identities.SessionId.{SessionId}
use Rattle.n41_types.specs.declared.plans.Plan.{Plan}
use Rattle.n41_types.specs.declared.plans.Plan.TheVariants as plan
use Rattle.n41_types.specs.declared.plans.Request.{Request}
use Rattle.n41_types.specs.declared.plans.SlotUse.{SlotUse}
use Rattle.n41_types.specs.declared.statuses.Status.{Status}
use Rattle.n41_results.specs.declared.replies.Reply.{Reply}
use Rattle.n41_results.specs.declared.results.Res.{Res}
use Rattle.n41_results.specs.declared.sessions.Sequenced.{Sequenced}
use Rattle.n41_results.specs.declared.sessions.SessionMade.{SessionMade}
use Rattle.n41_model.specs.declared.words.BareVerdict.{BareVerdict}
use Rattle.n41_model.specs.declared.words.BareVerdict.TheVariants as b
use Rattle.n41_model.specs.declared.words.KnownClient.{KnownClient}
use Rattle.n41_model.specs.Replies.{bare_verdict_of, is_bare_breach, is_wide_enough, is_delay, delayed_or_breach}
use Rattle.n41_model.specs.Requests.{bare, bare_waits}
use Rattle.n41_model.specs.Sessions.{client as client_id}
use Rattle.n41_moves.proofs.Bares.{is_create}
use Rattle.n41_moves.proofs.Single.{given}
use Rattle.n41_moves.proofs.Suits.{session_itself}
use Rattle.n41_net.proofs.Net.{Serves, last_bare, runs_serves, repeats_serves}
use Rattle.n41_breaches.proofs.Parted.{put_end, put_drop, put_create, create_of, has_id}
use Rattle.n41_runs.specs.Rules.{Sizes, Allowed, MayRepeat, MayMakeAgain, plan_refuses, misorders, is_last, is_gone, is_misordered, is_stale}
use Rattle.n41_runs.specs.Server.{was_named, confirmed, is_there, next_sequence, last_made, was_made, alive, is_bind_of}
use Rattle.n41_runs.specs.declared.steps.Step.{Step}
use Rattle.n41_runs.specs.declared.steps.Step.TheVariants.{Runs, Repeats, Names}
use Rattle.n41_runs.specs.Steps.{client, message, fate, ran_reply, refusal, made_reply}

-- the sequence with which a client id was given
abbrev pub start : List Step → ℕ → ℕ
start [] c = 0
start (Names k r i ∷ w) c = if (i.client == c) && is_none (confirmed w) then i.sequence else start w c
start (st ∷ w) c = start w c

abbrev pub Starts : List Step → ℕ → ℕ → Type 0
Starts w c s = (was_named w c ≡ true) × (start w c ≡ s)

-- what an answer says to the request without a slot that is out
pub record BareSays (w : List Step) (r : Request) (y : Reply) : Type 0 where
  pub named : (c s : ℕ) → bare_verdict_of r.plan y ≡ b.Named c s → Starts w c s
  pub stale : (q : KnownClient) → create_of r.plan ≡ Some q → bare_verdict_of r.plan y ≡ b.Stale → is_there w q.id ≡ false
  pub fine : is_bare_breach (bare_verdict_of r.plan y) ≡ false

-- the sequence of a client id is its first, or one more once a session was made
abbrev pub State : List Step → ℕ → Type 0
State w c = ((next_sequence w c ≡ start w c) × (last_made w c ≡ None)) ⊎ ((next_sequence w c ≡ (start w c + 1) % 2 ^ 32) × (last_made w c ≢ None))

pub record States (w : List Step) : Type 0 where
  pub unnamed : (c : ℕ) → was_named w c ≡ false → last_made w c ≡ None
  pub state : (c : ℕ) → was_named w c ≡ true → State w c
  pub there_named : (c : ℕ) → is_there w c ≡ true → was_named w c ≡ true
  pub wide : (c : ℕ) (m : SessionMade) → last_made w c ≡ Some m → is_wide_enough m ≡ true
  pub confirmed_put : (c : ℕ) → confirmed w ≡ Some c → put_create (client w) c ≡ true
  pub ended : (i : SessionId) → was_made w i ≡ true → (alive w i ≡ true) ⊎ (put_end (client w) ≡ true)

-- where a client id went for which a session was asked
abbrev pub Whereabouts : List Step → ℕ → Type 0
Whereabouts w c = (has_id (client_id (client w)) c ≡ true) ⊎ ((is_there w c ≡ false) ⊎ ((given (client w) ≢ None) ⊎ (put_drop (client w) ≡ true)))

pub record Clients (w : List Step) : Type 0 where
  pub create_start : (k : ℕ) (r : Request) (q : KnownClient) → message (client w) k ≡ Some r → r.slot ≡ None → create_of r.plan ≡ Some q → Starts w q.id q.sequence
  pub created_named : (c : ℕ) → put_create (client w) c ≡ true → was_named w c ≡ true
  pub client_start : (q : KnownClient) → client_id (client w) ≡ Some q → given (client w) ≡ None → Starts w q.id q.sequence
  pub kept_create : (c : ℕ) → put_create (client w) c ≡ true → Whereabouts w c
  pub awaited : (r : Request) (y : Reply) → bare (client w) ≡ Some r → bare_waits (client w) ≡ true → fate w (last_bare (client w)) ≡ Some y → BareSays w r y

-- ---- a step of the server

-- client ids that were given stay given as they were, and what is gone stays gone
pub record Grows (w : List Step) (st : Step) : Type 0 where
  pub named : (c : ℕ) → was_named w c ≡ true → was_named (st ∷ w) c ≡ true
  pub starts : (c : ℕ) → was_named w c ≡ true → start (st ∷ w) c ≡ start w c
  pub gone : (c : ℕ) → was_named w c ≡ true → is_there w c ≡ false → is_there (st ∷ w) c ≡ false

pub starts_still : (w : List Step) (st : Step) → Grows w st → (c s : ℕ) → Starts w c s → Starts (st ∷ w) c s
starts_still w st g c s (e, f) = (g.named c e, g.starts c e ∙ f)

pub says_still : (w : List Step) (st : Step) → Grows w st → Clients w → (r : Request) (y : Reply) → bare (client w) ≡ Some r → message (client w) (last_bare (client w)) ≡ Some r → r.slot ≡ None → BareSays w r y → BareSays (st ∷ w) r y
says_still w st g c r y e m n s = record {
  named = λ i j f. starts_still w st g i j (s.named i j f);
  stale = λ q f h. g.gone q.id (c.create_start (last_bare (client w)) r q m n f).0 (s.stale q f h);
  fine = s.fine;
}

pub served_clients : (w : List Step) (st : Step) (j : ℕ) (r : Request) (y : Reply) → ((q : Request) → bare (client w) ≡ Some q → (message (client w) (last_bare (client w)) ≡ Some q) × (q.slot ≡ None)) → Clients w → Serves w st j r y → Grows w st → ((q : Request) → bare (client w) ≡ Some q → q ≡ r → q.slot ≡ None → BareSays (st ∷ w) q y) → Clients (st ∷ w)
served_clients w st j r y m c s g n = record {
  create_start = λ k q x e f h. let d = s.same in starts_still w st g x.id x.sequence (c.create_start k q x (rw d at e) f h);
  created_named = λ x e. let d = s.same in g.named x (c.created_named x (rw d at e));
  client_start = λ q e f. let d = s.same in starts_still w st g q.id q.sequence (c.client_start q (rw d at e) (rw d at f));
  kept_create = λ x e. let d = s.same in kept_by x (rw d at e) (c.kept_create x (rw d at e));
  awaited = λ q z e f h. let d = s.same in awaited_by q z (rw d at e) (rw d at f) (rw d at h);
} where
  kept_by : (x : ℕ) → put_create (client w) x ≡ true → Whereabouts w x → Whereabouts (st ∷ w) x
  kept_by x e (inl f) = let d = s.same in inl (rw d f)
  kept_by x e (inr (inl f)) = inr (inl (g.gone x (c.created_named x e) f))
  kept_by x e (inr (inr (inl f))) = let d = s.same in inr (inr (inl (rw d f)))
  kept_by x e (inr (inr (inr f))) = let d = s.same in inr (inr (inr (rw d f)))

  awaited_by : (q : Request) (z : Reply) → bare (client w) ≡ Some q → bare_waits (client w) ≡ true → fate (st ∷ w) (last_bare (client w)) ≡ Some z → BareSays (st ∷ w) q z
  awaited_by q z e f h = at (j == last_bare (client w)) refl where
    a : (message (client w) (last_bare (client w)) ≡ Some q) × (q.slot ≡ None)
    a = m q e

    at : (t : Bool) → (j == last_bare (client w)) ≡ t → BareSays (st ∷ w) q z
    at true i =
        let k : j ≡ last_bare (client w) = grind (arith, nat_tests, i) in
        let l : Some y ≡ Some z = sym (s.fates (last_bare (client w)) ∙ ap (λ (x : Bool). if x then Some y else fate w (last_bare (client w))) i) ∙ h in
        let o : y ≡ z = cc in
        let p : message (client w) (last_bare (client w)) ≡ Some r = subst (λ (x : ℕ). message (client w) x ≡ Some r) k s.pending.put in
        let v : q ≡ r = (let x : Some q ≡ Some r = sym a.0 ∙ p in cc) in
        subst (λ (x : Reply). BareSays (st ∷ w) q x) o (n q e v a.1)
    at false i =
        let l : fate w (last_bare (client w)) ≡ Some z = sym (s.fates (last_bare (client w)) ∙ ap (λ (x : Bool). if x then Some y else fate w (last_bare (client w))) i) ∙ h in
        says_still w st g c q z e a.0 a.1 (c.awaited q z e f l)

-- ---- the answers, by their plans

pub says_by : (w : List Step) (r : Request) (y : Reply) (x : BareVerdict) → bare_verdict_of r.plan y ≡ x → ((c s : ℕ) → x ≡ b.Named c s → Starts w c s) → ((q : KnownClient) → create_of r.plan ≡ Some q → x ≡ b.Stale → is_there w q.id ≡ false) → is_bare_breach x ≡ false → BareSays w r y
says_by w r y x e f g h = record {
  named = λ c s i. f c s (sym e ∙ i);
  stale = λ q i j. g q i (sym e ∙ j);
  fine = ap (λ (z : BareVerdict). is_bare_breach z) e ∙ h;
}

delayed_is : (s : Status) → is_delay s ≡ true → delayed_or_breach s ≡ b.Delayed
delayed_is s e = rw e refl

says_delay : (w : List Step) (r : Request) (y : Reply) → bare_verdict_of r.plan y ≡ b.Delayed → BareSays w r y
says_delay w r y e = says_by w r y b.Delayed e (λ c s i. absurd (cc)) (λ q i j. absurd (cc)) refl

-- ---- steps that leave client ids

pub record Leaves (w : List Step) (st : Step) : Type 0 where
  pub names : (c : ℕ) → was_named (st ∷ w) c ≡ was_named w c
  pub begins : (c : ℕ) → start (st ∷ w) c ≡ start w c
  pub theres : (c : ℕ) → is_there (st ∷ w) c ≡ is_there w c

pub leaves_grow : (w : List Step) (st : Step) → Leaves w st → Grows w st
leaves_grow w st l = record {
  named = λ c e. l.names c ∙ e;
  starts = λ c e. l.begins c;
  gone = λ c e f. l.theres c ∙ f;
}

pub no_bare : {A : Type 0} (r q : Request) (p : SlotUse) → q ≡ r → r.slot ≡ Some p → q.slot ≡ None → A
no_bare r q p e f g = absurd (let h : Some p ≡ None = sym f ∙ (sym (ap (λ (x : Request). x.slot) e) ∙ g) in cc)

pub runs_clients : (sizes : Sizes) (w : List Step) (j : ℕ) (r : Request) (q : Sequenced) (xs : List Res) → ((x : Request) → bare (client w) ≡ Some x → (message (client w) (last_bare (client w)) ≡ Some x) × (x.slot ≡ None)) → Clients w → Allowed sizes w (Runs j r q xs) → Clients (Runs j r q xs ∷ w)
runs_clients sizes w j r q xs m c a = served_clients w (Runs j r q xs) j r (ran_reply r q xs) m c (runs_serves sizes w j r q xs a) (leaves_grow w (Runs j r q xs) (record { names = λ _. refl; begins = λ _. refl; theres = λ _. refl })) (λ x e f g. no_bare r x a.1.0 f a.1.1.slot g)

pub create_verdict_made : (p : Plan) (r : Request) (m : SessionMade) → is_wide_enough m ≡ true → is_create p ≡ true → bare_verdict_of p (made_reply r m) ≡ b.Made m
create_verdict_made (plan.CreateSession c n) r m e f = rw e refl
create_verdict_made p r m e f = absurd (true≢false (sym f))

pub says_made : (w : List Step) (r : Request) (m : SessionMade) (y : Reply) → bare_verdict_of r.plan y ≡ b.Made m → BareSays w r y
says_made w r m y e = says_by w r y (b.Made m) e (λ c s i. absurd (cc)) (λ q i j. absurd (cc)) refl

again_says : (w : List Step) (r : Request) (y : Reply) → States w → (p : Plan) → r.plan ≡ p → MayMakeAgain w r p y → BareSays w r y
again_says w r y s (plan.CreateSession c n) e (m, h) =
    let f : bare_verdict_of r.plan y ≡ b.Made m = ap (λ (x : Plan). bare_verdict_of x y) e ∙ (ap (λ (x : Reply). bare_verdict_of (plan.CreateSession c n) x) h.answer ∙ create_verdict_made (plan.CreateSession c n) r m (s.wide c m h.same) refl) in
    says_made w r m y f
again_says w r y s p e h = absurd h

pub says_moved : (w : List Step) (st : Step) → Grows w st → (r : Request) (y : Reply) → ((q : KnownClient) → create_of r.plan ≡ Some q → was_named w q.id ≡ true) → BareSays w r y → BareSays (st ∷ w) r y
says_moved w st g r y f s = record {
  named = λ i j e. starts_still w st g i j (s.named i j e);
  stale = λ q e h. g.gone q.id (f q e) (s.stale q e h);
  fine = s.fine;
}

pub repeats_clients : (sizes : Sizes) (w : List Step) (j : ℕ) (r : Request) (y : Reply) → ((x : Request) → bare (client w) ≡ Some x → (message (client w) (last_bare (client w)) ≡ Some x) × (x.slot ≡ None)) → States w → Clients w → Allowed sizes w (Repeats j r y) → Clients (Repeats j r y ∷ w)
repeats_clients sizes w j r y m s c a = served_clients w (Repeats j r y) j r y m c (repeats_serves sizes w j r y a) g (λ x e f n. by x f n a.1) where
  g : Grows w (Repeats j r y)
  g = leaves_grow w (Repeats j r y) (record { names = λ _. refl; begins = λ _. refl; theres = λ _. refl })

  by : (x : Request) → x ≡ r → x.slot ≡ None → ((u : SlotUse) × MayRepeat sizes w r u y) ⊎ ((r.slot ≡ None) × MayMakeAgain w r r.plan y) → BareSays (Repeats j r y ∷ w) x y
  by x e n (inl (u, h)) = no_bare r x u e h.slot n
  by x e n (inr (o, h)) =
      let d = again_says w r y s r.plan refl h in
      subst (λ (z : Request). BareSays (Repeats j r y ∷ w) z y) (sym e) (says_moved w (Repeats j r y) g r y (λ q f. (c.create_start j r q a.0.put o f).0) d)

-- a CREATE_SESSION is in order
in_order : (w : List Step) (c n : ℕ) → States w → Starts w c n → misorders w c n ≡ false
in_order w c n s (e, f) = by (s.state c e) where
  same_sequence : (x : ℕ) → x ≡ n → (not (n == x) && not (is_last n x && is_some (last_made w c))) ≡ false
  same_sequence x h = let g : (n == x) ≡ true = grind (arith, nat_tests, h) in rw g refl

  raised_is : (x : ℕ) → x ≡ (n + 1) % 2 ^ 32 → is_last n x ≡ true
  raised_is x h = let g : ((n + 1) % 2 ^ 32) ≡ x = sym h in eq_test ((n + 1) % 2 ^ 32) x g where
    eq_test : (a d : ℕ) → a ≡ d → (a == d) ≡ true
    eq_test a d i = grind (arith, nat_tests, i)

  some_is : (o : Option SessionMade) → o ≢ None → is_some o ≡ true
  some_is None h = absurd (h refl)
  some_is (Some m) h = refl

  no_second : (a d : Bool) → d ≡ true → (a && not d) ≡ false
  no_second true d h = rw h refl
  no_second false d h = refl

  both : (a d : Bool) → a ≡ true → d ≡ true → (a && d) ≡ true
  both true d h i = i
  both false d h i = absurd (true≢false (sym h))

  by : State w c → misorders w c n ≡ false
  by (inl (h, i)) = same_sequence (next_sequence w c) (h ∙ f)
  by (inr (h, i)) =
      let g = raised_is (next_sequence w c) (h ∙ ap (λ (x : ℕ). (x + 1) % 2 ^ 32) f) in
      no_second (not (n == next_sequence w c)) (is_last n (next_sequence w c) && is_some (last_made w c)) (both (is_last n (next_sequence w c)) (is_some (last_made w c)) g (some_is (last_made w c) i))

pub or_case : (a d : Bool) → (a || d) ≡ true → (a ≡ true) ⊎ (d ≡ true)
or_case true d e = inl refl
or_case false d e = inr e

pub and_case : (a d : Bool) → (a && d) ≡ true → (a ≡ true) × (d ≡ true)
and_case true d e = (refl, e)
and_case false d e = absurd (true≢false (sym e))

pub not_case : (a : Bool) → not a ≡ true → a ≡ false
not_case true e = absurd (true≢false (sym e))
not_case false e = refl

-- what a refusal says
pub refusal_says : (w : List Step) (r : Request) (s : Status) (p : Plan) → r.plan ≡ p → r.slot ≡ None → States w → ((q : KnownClient) → create_of r.plan ≡ Some q → Starts w q.id q.sequence) → ((i : SessionId) → is_bind_of r.plan i ≡ true → alive w i ≡ true) → plan_refuses w p s ≡ true → BareSays w r (refusal r s)
refusal_says w r s (plan.ExchangeId v o) e n t f g h =
    says_delay w r (refusal r s) (let d : bare_verdict_of (plan.ExchangeId v o) (refusal r s) ≡ delayed_or_breach s = rw (n, e) refl in ap (λ (x : Plan). bare_verdict_of x (refusal r s)) e ∙ (d ∙ delayed_is s h))
refusal_says w r s (plan.CreateSession c k) e n t f g h = by (or_case (is_delay s) (if is_there w c then is_misordered s && misorders w c k else is_stale s) h) where
  verdict : bare_verdict_of r.plan (refusal r s) ≡ (if s.0 == 10022 then b.Stale else delayed_or_breach s)
  verdict = let d : bare_verdict_of (plan.CreateSession c k) (refusal r s) ≡ (if s.0 == 10022 then b.Stale else delayed_or_breach s) = rw (n, e) refl in ap (λ (x : Plan). bare_verdict_of x (refusal r s)) e ∙ d

  not_stale : is_delay s ≡ true → (s.0 == 10022) ≡ false
  not_stale i = grind (arith, nat_tests, i)

  there_by : (x : Bool) → is_there w c ≡ x → (if x then is_misordered s && misorders w c k else is_stale s) ≡ true → BareSays w r (refusal r s)
  there_by true i j =
      let q : create_of r.plan ≡ Some (record { id = c; sequence = k }) = ap (λ (x : Plan). create_of x) e in
      absurd (true≢false (sym (and_case (is_misordered s) (misorders w c k) j).1 ∙ in_order w c k t (f (record { id = c; sequence = k }) q)))
  there_by false i j = says_by w r (refusal r s) b.Stale (verdict ∙ ap (λ (x : Bool). if x then b.Stale else delayed_or_breach s) j) (λ a d l. absurd (cc)) (λ q l o. same_id q l) refl where
    same_id : (q : KnownClient) → create_of r.plan ≡ Some q → is_there w q.id ≡ false
    same_id q l =
        let m : Some (record { id = c; sequence = k }) ≡ Some q = sym (ap (λ (x : Plan). create_of x) e) ∙ l in
        let o : record { id = c; sequence = k } ≡ q = cc in
        subst (λ (x : KnownClient). is_there w x.id ≡ false) o i

  by : (is_delay s ≡ true) ⊎ ((if is_there w c then is_misordered s && misorders w c k else is_stale s) ≡ true) → BareSays w r (refusal r s)
  by (inl i) = says_delay w r (refusal r s) (verdict ∙ (ap (λ (x : Bool). if x then b.Stale else delayed_or_breach s) (not_stale i) ∙ delayed_is s i))
  by (inr i) = there_by (is_there w c) refl i
refusal_says w r s (plan.Bind j) e n t f g h = by (or_case (is_delay s) (is_gone s && not (alive w j)) h) where
  verdict : bare_verdict_of r.plan (refusal r s) ≡ delayed_or_breach s
  verdict = let d : bare_verdict_of (plan.Bind j) (refusal r s) ≡ delayed_or_breach s = rw (n, e) refl in ap (λ (x : Plan). bare_verdict_of x (refusal r s)) e ∙ d

  by : (is_delay s ≡ true) ⊎ ((is_gone s && not (alive w j)) ≡ true) → BareSays w r (refusal r s)
  by (inl i) = says_delay w r (refusal r s) (verdict ∙ delayed_is s i)
  by (inr i) =
      let a = g j (ap (λ (x : Plan). is_bind_of x j) e ∙ session_itself j) in
      absurd (true≢false (sym a ∙ not_case (alive w j) (and_case (is_gone s) (not (alive w j)) i).1))
refusal_says w r s (plan.DestroySession j) e n t f g h = says_by w r (refusal r s) b.SessionGone (let d : bare_verdict_of (plan.DestroySession j) (refusal r s) ≡ b.SessionGone = rw (n, e) refl in ap (λ (x : Plan). bare_verdict_of x (refusal r s)) e ∙ d) (λ a d l. absurd (cc)) (λ q l o. absurd (cc)) refl
refusal_says w r s (plan.DestroyClient j) e n t f g h = says_by w r (refusal r s) b.ClientGone (let d : bare_verdict_of (plan.DestroyClient j) (refusal r s) ≡ b.ClientGone = rw (n, e) refl in ap (λ (x : Plan). bare_verdict_of x (refusal r s)) e ∙ d) (λ a d l. absurd (cc)) (λ q l o. absurd (cc)) refl
refusal_says w r s p e n t f g h = absurd (true≢false (sym h))
