-- The caller for whom a request is put.
use Rattle.std.proofs.Common.{◌≡◌, ◌≢◌, ◌⊎◌, inl, inr, ℕ, zero, suc, ◌<◌, ◌==◌, Bool, true, false, ◌&&◌, not, List, Option, Some, None, if◌then◌else◌, refl, sym, ◌∙◌, subst, arith, true≢false}
use Rattle.std.proofs.lemmas.Bool.Decides.{nat_tests}
use Rattle.std.specs.Prelude.{is_none, nat_lt}
use Rattle.n41_types.specs.declared.commands.Answer.{Answer}
use Rattle.n41_types.specs.declared.commands.Command.{Command}
use Rattle.n41_types.specs.declared.plans.Plan.{Plan}
use Rattle.n41_types.specs.declared.plans.Request.{Request}
use Rattle.n41_types.specs.Plans.{class_of}
use Rattle.n41_journal.specs.declared.events.Event.{Event}
use Rattle.n41_model.specs.declared.words.Phase.{Phase}
use Rattle.n41_model.specs.declared.words.Phase.TheVariants.{Running}
use Rattle.n41_calls.specs.Calls.{Call, command, began_at, call, ledger, chosen, sooner, is_ready_call, is_plan, next_plan, in_running}
use Rattle.n41_model.specs.Requests.{moment}
use Rattle.n41_model.specs.Sessions.{phase, session, passed}
use Rattle.n41_moves.proofs.Suits.{Suits, is_bare_class, plan_suits}

-- the caller is ready, and this is its next plan
pub record Wants (js : List Event) (calls : ℕ → Call) (p : Plan) (d : ℕ) : Type 0 where
  pub ready : is_ready_call (moment js) (command js d) (calls d) ≡ true
  pub plan : is_plan (next_plan (session js) (command js d) (calls d).way) p ≡ true

and_two : (a b : Bool) → (a && b) ≡ true → (a ≡ true) × (b ≡ true)
and_two true b e = (refl, e)
and_two false b e = absurd (true≢false (sym e))

sooner_is : (js : List Event) (o : Option ℕ) (c d : ℕ) → sooner js o c ≡ Some d → (c ≡ d) ⊎ (o ≡ Some d)
sooner_is js None c d e = inl (let f : Some c ≡ Some d = e in cc)
sooner_is js (Some b) c d e = at (nat_lt (began_at js c) (began_at js b)) refl where
  at : (t : Bool) → nat_lt (began_at js c) (began_at js b) ≡ t → (c ≡ d) ⊎ (Some b ≡ Some d)
  at true f = inl (let g : Some c ≡ Some d = (rw f at e) in cc)
  at false f = inr (rw f at e)

wants_at : (js : List Event) (calls : ℕ → Call) (p : Plan) (c d : ℕ) → (chosen js calls p c ≡ Some d → Wants js calls p d) → (b : Bool) → (is_ready_call (moment js) (command js c) (calls c) && is_plan (next_plan (session js) (command js c) (calls c).way) p) ≡ b → (if b then sooner js (chosen js calls p c) c else chosen js calls p c) ≡ Some d → Wants js calls p d
wants_at js calls p c d f true q e = by (sooner_is js (chosen js calls p c) c d e) where
  by : (c ≡ d) ⊎ (chosen js calls p c ≡ Some d) → Wants js calls p d
  by (inl g) =
      let h = and_two (is_ready_call (moment js) (command js c) (calls c)) (is_plan (next_plan (session js) (command js c) (calls c).way) p) q in
      subst (λ (x : ℕ). Wants js calls p x) g (record { ready = h.0; plan = h.1 })
  by (inr g) = f g
wants_at js calls p c d f false q e = f e

pub chosen_wants : (js : List Event) (calls : ℕ → Call) (p : Plan) (n d : ℕ) → chosen js calls p n ≡ Some d → Wants js calls p d
chosen_wants js calls p zero d e = absurd (cc)
chosen_wants js calls p (suc c) d e = wants_at js calls p c d (chosen_wants js calls p c d) (is_ready_call (moment js) (command js c) (calls c) && is_plan (next_plan (session js) (command js c) (calls c).way) p) refl e

sooner_some : (js : List Event) (o : Option ℕ) (c : ℕ) → sooner js o c ≢ None
sooner_some js None c e = absurd (cc)
sooner_some js (Some b) c e = at (nat_lt (began_at js c) (began_at js b)) refl where
  at : (t : Bool) → nat_lt (began_at js c) (began_at js b) ≡ t → ⊥
  at true f = absurd (let g : Some c ≡ None = (rw f at e) in cc)
  at false f = absurd (let g : Some b ≡ None = (rw f at e) in cc)

some_at : (js : List Event) (calls : ℕ → Call) (p : Plan) (c d : ℕ) → Wants js calls p d → (d < c → chosen js calls p c ≢ None) → d < suc c → (t : Bool) → (d == c) ≡ t → (b : Bool) → (is_ready_call (moment js) (command js c) (calls c) && is_plan (next_plan (session js) (command js c) (calls c).way) p) ≡ b → (if b then sooner js (chosen js calls p c) c else chosen js calls p c) ≢ None
some_at js calls p c d w f l t h true q = sooner_some js (chosen js calls p c) c
some_at js calls p c d w f l true h false q =
    let e : d ≡ c = grind (arith, nat_tests, h) in
    let g : (is_ready_call (moment js) (command js d) (calls d) && is_plan (next_plan (session js) (command js d) (calls d).way) p) ≡ true = (let a = w.ready in let b = w.plan in rw (a, b) refl) in
    absurd (true≢false (sym g ∙ subst (λ (x : ℕ). (is_ready_call (moment js) (command js x) (calls x) && is_plan (next_plan (session js) (command js x) (calls x).way) p) ≡ false) (sym e) q))
some_at js calls p c d w f l false h false q = f (grind (arith, nat_tests, h, l))

-- where a caller wants it some caller is chosen
pub wants_chosen : (js : List Event) (calls : ℕ → Call) (p : Plan) (n d : ℕ) → d < n → Wants js calls p d → chosen js calls p n ≢ None
wants_chosen js calls p zero d l w = absurd (omega arith)
wants_chosen js calls p (suc c) d l w = some_at js calls p c d w (λ g. wants_chosen js calls p c d g w) l (d == c) refl (is_ready_call (moment js) (command js c) (calls c) && is_plan (next_plan (session js) (command js c) (calls c).way) p) refl

-- what is known of a caller that is ready
pub record IsReady (js : List Event) (k : Call) (p : Plan) (d : ℕ) : Type 0 where
  pub asked : Command
  pub command_is : command js d ≡ Some asked
  pub idle : k.busy ≡ false
  pub unearned : k.earned ≡ None
  pub suits : Suits asked p

none_is : (o : Option Answer) → is_none o ≡ true → o ≡ None
none_is None e = refl
none_is (Some a) e = absurd (true≢false (sym e))

not_is : (b : Bool) → not b ≡ true → b ≡ false
not_is true e = absurd (true≢false (sym e))
not_is false e = refl

ready_by : (js : List Event) (k : Call) (p : Plan) (d : ℕ) (o : Option Command) → command js d ≡ o → is_ready_call (moment js) o k ≡ true → is_plan (next_plan (session js) o k.way) p ≡ true → IsReady js k p d
ready_by js k p d None e r q = absurd (true≢false (sym r))
ready_by js k p d (Some a) e r q =
    let h = and_two (not k.busy && is_none k.earned) (passed k.since (moment js)) r in
    let i = and_two (not k.busy) (is_none k.earned) h.0 in
    record { asked = a; command_is = e; idle = not_is k.busy i.0; unearned = none_is k.earned i.1; suits = plan_suits (session js) a k.way p q }

pub wants_ready : (js : List Event) (calls : ℕ → Call) (p : Plan) (d : ℕ) → Wants js calls p d → IsReady js (calls d) p d
wants_ready js calls p d w = ready_by js (calls d) p d (command js d) refl w.ready w.plan

-- the caller of a request that is new
abbrev pub new_owner : ℕ → List Event → Request → Option ℕ
new_owner n js r = in_running (phase js) (chosen js (ledger n js).calls r.plan n)

running_some : (f : Phase) (o : Option ℕ) (d : ℕ) → in_running f o ≡ Some d → o ≡ Some d
running_some Running o d e = e
running_some f o d e = absurd (cc)

pub owner_ready : (n : ℕ) (js : List Event) (r : Request) (d : ℕ) → new_owner n js r ≡ Some d → IsReady js (call n js d) r.plan d
owner_ready n js r d e = wants_ready js (ledger n js).calls r.plan d (chosen_wants js (ledger n js).calls r.plan n d (running_some (phase js) (chosen js (ledger n js).calls r.plan n) d e))

-- a request without a slot is no caller's
pub bare_owner : (n : ℕ) (js : List Event) (r : Request) → is_bare_class (class_of r.plan) ≡ true → new_owner n js r ≡ None
bare_owner n js r e = at (new_owner n js r) refl where
  at : (o : Option ℕ) → new_owner n js r ≡ o → new_owner n js r ≡ None
  at None f = f
  at (Some d) f = absurd (true≢false (sym e ∙ (owner_ready n js r d f).suits.slotted))
