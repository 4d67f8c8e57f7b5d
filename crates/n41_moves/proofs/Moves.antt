-- What a request that is put, and a reply that is taken, make of the slots.
use Rattle.n41_view.specs.Step.{has}
use Rattle.std.proofs.Common.{◌≡◌, ◌≢◌, ◌⊎◌, inl, inr, ℕ, ◌-◌, ◌==◌, Bool, true, false, ◌&&◌, List, [], ◌∷◌, Option, Some, None, if◌then◌else◌, refl, sym, ◌∙◌, ap, subst, arith}
use Rattle.std.proofs.lemmas.Bool.Decides.{nat_tests}
use Rattle.std.specs.Prelude.{is_some}
use Rattle.n41_types.specs.declared.plans.Request.{Request}
use Rattle.n41_types.specs.declared.plans.SlotUse.{SlotUse}
use Rattle.n41_results.specs.declared.replies.Reply.{Reply}
use Rattle.n41_results.specs.declared.sessions.SessionMade.{SessionMade}
use Rattle.n41_results.specs.Shapes.{shape_of}
use Rattle.n41_journal.specs.declared.events.Event.{Event}
use Rattle.n41_journal.specs.declared.events.Event.TheVariants.{Put, Took}
use Rattle.n41_model.specs.declared.words.Sent.TheVariants.{Waits}
use Rattle.n41_model.specs.declared.words.Setup.{Setup}
use Rattle.n41_calls.specs.Kept.{MayTake, IsAwaited, WaitsBare, WaitsOn}
use Rattle.n41_model.specs.Replies.{is_final, gives_back, sequence_status}
use Rattle.n41_model.specs.Requests.{request, bares, bare, bare_waits, outs, out, used, sent, sent_after, made, knows, is_on, is_use_of, is_bare, is_bare_use, without, first, moment}
use Rattle.n41_calls.proofs.Slots.{Seats}
use Rattle.n41_view.proofs.Lists.{one_on, knows_is, without_is, first_on, first_bare}
use Rattle.n41_view.proofs.Known.{Known}
use Rattle.n41_view.proofs.Found.{no_use, use_on, fits_xid, found_bare, found_on, only_on, not_on}
use Rattle.n41_moves.proofs.Puts.{AgainOn, NewOn}

-- ---- requests on slots

pub on_place : (r : Request) (p : SlotUse) → r.slot ≡ Some p → (n : ℕ) → is_on r n ≡ (p.slot == n)
on_place r p e n = ap (λ (o : Option SlotUse). is_use_of o n) e

pub slot_is : (p : SlotUse) (n : ℕ) → (p.slot == n) ≡ true → p.slot ≡ n
slot_is p n e = grind (arith, nat_tests, e)

pub itself : (p : SlotUse) → (p.slot == p.slot) ≡ true
itself p = grind (arith, nat_tests)

-- a request that goes again on its slot
pub record PutsAgain (js : List Event) (r : Request) (p : SlotUse) : Type 0 where
  pub placed : r.slot ≡ Some p
  pub is_out : out js p.slot ≡ Some r
  pub quiet : sent js p.slot ≢ Waits
  pub known : knows (outs js p.slot) r.xid ≡ true
  pub on : (n : ℕ) → is_on r n ≡ (p.slot == n)

-- a new request on a free slot
pub record PutsNew (js : List Event) (r : Request) (p : SlotUse) : Type 0 where
  pub placed : r.slot ≡ Some p
  pub free : out js p.slot ≡ None
  pub known : knows (outs js p.slot) r.xid ≡ false
  pub on : (n : ℕ) → is_on r n ≡ (p.slot == n)

has_itself : (r : Request) → has r.xid (Some r) ≡ true
has_itself r = grind (arith, nat_tests)

knows_out : (js : List Event) (n : ℕ) (x : ℕ) → Seats js → knows (outs js n) x ≡ has x (out js n)
knows_out js n x s = knows_is (outs js n) x (one_on n (outs js n) (s.on n))

pub puts_again : (js : List Event) (r : Request) → Seats js → AgainOn js r → (p : SlotUse) × PutsAgain js r p
puts_again js r s a =
    let i = first_on a.slot (outs js a.slot) r (s.on a.slot) a.is_out in
    let u = use_on r.slot a.slot i in (
      u.0,
      record {
        placed = u.1;
        is_out = subst (λ (n : ℕ). out js n ≡ Some r) (sym u.2) a.is_out;
        quiet = subst (λ (n : ℕ). sent js n ≢ Waits) (sym u.2) a.quiet;
        known = subst (λ (n : ℕ). knows (outs js n) r.xid ≡ true) (sym u.2) (knows_out js a.slot r.xid s ∙ (ap (λ (o : Option Request). has r.xid o) a.is_out ∙ has_itself r));
        on = on_place r u.0 u.1;
      },
    )

pub puts_new : (u : Setup) (js : List Event) (r : Request) → Seats js → (a : NewOn u js r) → PutsNew js r a.place
puts_new u js r s a = record {
  placed = a.placed;
  free = ap (λ (l : List Request). first l) a.free;
  known = ap (λ (l : List Request). knows l r.xid) a.free;
  on = on_place r a.place a.placed;
}

-- ---- what is out after a Put

some_or : (b : Bool) (o : Option Request) (r : Request) → (b ≡ true → o ≡ Some r) → o ≡ (if b then Some r else o)
some_or true o r f = f refl
some_or false o r f = refl

again_same : (js : List Event) (c k n : ℕ) (r : Request) (p : SlotUse) → PutsAgain js r p → (b : Bool) → (p.slot == n) ≡ b → outs (Put c k r ∷ js) n ≡ outs js n
again_same js c k n r p a true e =
    let m : p.slot ≡ n = grind (arith, nat_tests, e) in
    let h : knows (outs js n) r.xid ≡ true = subst (λ (i : ℕ). knows (outs js i) r.xid ≡ true) m a.known in
    rw (a.on n ∙ e, h) refl
again_same js c k n r p a false e = rw (a.on n ∙ e) refl

pub again_outs : (js : List Event) (c k n : ℕ) (r : Request) (p : SlotUse) → PutsAgain js r p → outs (Put c k r ∷ js) n ≡ outs js n
again_outs js c k n r p a = again_same js c k n r p a (p.slot == n) refl

pub again_out : (js : List Event) (c k n : ℕ) (r : Request) (p : SlotUse) → PutsAgain js r p → out (Put c k r ∷ js) n ≡ out js n
again_out js c k n r p a = ap (λ (l : List Request). first l) (again_outs js c k n r p a)

none_first : (rs : List Request) → first rs ≡ None → rs ≡ []
none_first [] e = refl
none_first (r ∷ rs) e = absurd (cc)

new_at : (js : List Event) (c k n : ℕ) (r : Request) (p : SlotUse) → PutsNew js r p → (b : Bool) → (p.slot == n) ≡ b → out (Put c k r ∷ js) n ≡ (if b then Some r else out js n)
new_at js c k n r p a true e =
    let m : p.slot ≡ n = grind (arith, nat_tests, e) in
    let f : outs js n ≡ [] = subst (λ (i : ℕ). outs js i ≡ []) m (none_first (outs js p.slot) a.free) in
    rw (a.on n ∙ e, f) refl
new_at js c k n r p a false e = rw (a.on n ∙ e) refl

pub new_out : (js : List Event) (c k n : ℕ) (r : Request) (p : SlotUse) → PutsNew js r p → out (Put c k r ∷ js) n ≡ (if p.slot == n then Some r else out js n)
new_out js c k n r p a = new_at js c k n r p a (p.slot == n) refl

pub bare_on_none : (r : Request) → r.slot ≡ None → (n : ℕ) → is_on r n ≡ false
bare_on_none r e n = ap (λ (o : Option SlotUse). is_use_of o n) e

pub bare_outs : (js : List Event) (c k n : ℕ) (r : Request) → r.slot ≡ None → outs (Put c k r ∷ js) n ≡ outs js n
bare_outs js c k n r e = rw (bare_on_none r e n) refl

-- ---- replies

-- the reply to the request on a slot
pub record TakesOn (js : List Event) (y : Reply) (r : Request) (p : SlotUse) : Type 0 where
  pub placed : r.slot ≡ Some p
  pub is_out : out js p.slot ≡ Some r
  pub waits : sent js p.slot ≡ Waits
  pub found : request js y.xid ≡ Some r
  pub fits : shape_of r y ≡ None
  pub makes : made js y ≡ None
  pub here : knows (outs js p.slot) y.xid ≡ true
  pub others : (n : ℕ) → (p.slot == n) ≡ false → knows (outs js n) y.xid ≡ false

-- the reply to the request without one
pub record TakesBare (js : List Event) (y : Reply) (r : Request) : Type 0 where
  pub no_slot : r.slot ≡ None
  pub is_out : bare js ≡ Some r
  pub waits : bare_waits js ≡ true
  pub found : request js y.xid ≡ Some r
  pub fits : shape_of r y ≡ None
  pub others : (n : ℕ) → knows (outs js n) y.xid ≡ false

slotted_not_bare : (r : Request) (p : SlotUse) → r.slot ≡ Some p → is_bare r ≡ false
slotted_not_bare r p e = ap (λ (o : Option SlotUse). is_bare_use o) e

no_session : (js : List Event) (y : Reply) (r : Request) → request js y.xid ≡ Some r → is_bare r ≡ false → made js y ≡ None
no_session js y r e b = rw (e, b) refl

is_other : (js : List Event) (x : ℕ) (r : Request) (p : SlotUse) → Seats js → Known js → request js x ≡ Some r → r.slot ≡ Some p → (n : ℕ) → (p.slot == n) ≡ false → (b : Bool) → has x (out js n) ≡ b → has x (out js n) ≡ false
is_other js x r p s k f e n d true h =
    let m : n ≡ p.slot = only_on js x p.slot r s k f (on_place r p e p.slot ∙ grind (arith, nat_tests)) n (out js n) refl h in
    absurd (grind (arith, nat_tests, m, d))
is_other js x r p s k f e n d false h = h

takes_on : (js : List Event) (y : Reply) (r : Request) (n : ℕ) → Seats js → Known js → shape_of r y ≡ None → WaitsOn js n r → (p : SlotUse) × TakesOn js y r p
takes_on js y r n s k f w =
    let u = use_on r.slot n (first_on n (outs js n) r (s.on n) w.is_out) in
    let o : out js u.0.slot ≡ Some r = subst (λ (i : ℕ). out js i ≡ Some r) (sym u.2) w.is_out in
    let x = fits_xid r y f in
    let g = found_on js y.xid u.0.slot r k o x in (
      u.0,
      record {
        placed = u.1;
        is_out = o;
        waits = subst (λ (i : ℕ). sent js i ≡ Waits) (sym u.2) w.waits;
        found = g;
        fits = f;
        makes = no_session js y r g (slotted_not_bare r u.0 u.1);
        here = knows_out js u.0.slot y.xid s ∙ (ap (λ (q : Option Request). has y.xid q) o ∙ grind (arith, nat_tests, x));
        others = λ m d. knows_out js m y.xid s ∙ is_other js y.xid r u.0 s k g u.1 m d (has y.xid (out js m)) refl;
      },
    )

takes_bare : (js : List Event) (y : Reply) (r : Request) → Seats js → Known js → shape_of r y ≡ None → WaitsBare js r → TakesBare js y r
takes_bare js y r s k f w =
    let x = fits_xid r y f in
    let g = found_bare js y.xid r k w.is_out x in
    let d = no_use r.slot (first_bare (bares js) r s.lone w.is_out) in
    record {
      no_slot = d;
      is_out = w.is_out;
      waits = w.waits;
      found = g;
      fits = f;
      others = λ m. knows_out js m y.xid s ∙ not_on js y.xid r s k g d m (out js m) refl;
    }

abbrev pub TakesIs : List Event → Reply → Request → Type 0
TakesIs js y r = TakesBare js y r ⊎ ((p : SlotUse) × TakesOn js y r p)

pub takes_is : (js : List Event) (c n : ℕ) (y : Reply) (r : Request) → Seats js → Known js → MayTake js c n y r → TakesIs js y r
takes_is js c n y r s k m = by m.awaited where
  by : IsAwaited js r → TakesIs js y r
  by (inl w) = inl (takes_bare js y r s k m.fits w)
  by (inr w) = inr (takes_on js y r w.0 s k m.fits w.1)

-- ---- what is out after a reply on a slot

if_has : (b : Bool) (o : Option Request) → (if b then None else o) ≡ (if b then None else o)
if_has b o = refl

took_first : (js : List Event) (c k n : ℕ) (y : Reply) (r : Request) (p : SlotUse) → Seats js → TakesOn js y r p → (b f : Bool) → (p.slot == n) ≡ b → is_final y ≡ f → out (Took c k y ∷ js) n ≡ (if b && f then None else out js n)
took_first js c k n y r p s t true true e f =
    let m : p.slot ≡ n = grind (arith, nat_tests, e) in
    let h : has y.xid (out js n) ≡ true = sym (knows_out js n y.xid s) ∙ subst (λ (i : ℕ). knows (outs js i) y.xid ≡ true) m t.here in
    let g = without_is (outs js n) y.xid (one_on n (outs js n) (s.on n)) in
    let z : out (Took c k y ∷ js) n ≡ first (without (outs js n) y.xid) = rw (t.makes, f) refl in
    z ∙ (g ∙ ap (λ (q : Bool). if q then None else out js n) h)
took_first js c k n y r p s t true false e f = rw (t.makes, f) refl
took_first js c k n y r p s t false true e f =
    let h : has y.xid (out js n) ≡ false = sym (knows_out js n y.xid s) ∙ t.others n e in
    let g = without_is (outs js n) y.xid (one_on n (outs js n) (s.on n)) in
    let z : out (Took c k y ∷ js) n ≡ first (without (outs js n) y.xid) = rw (t.makes, f) refl in
    z ∙ (g ∙ ap (λ (q : Bool). if q then None else out js n) h)
took_first js c k n y r p s t false false e f = rw (t.makes, f) refl

pub took_out : (js : List Event) (c k n : ℕ) (y : Reply) (r : Request) (p : SlotUse) → Seats js → TakesOn js y r p → out (Took c k y ∷ js) n ≡ (if (p.slot == n) && is_final y then None else out js n)
took_out js c k n y r p s t = took_first js c k n y r p s t (p.slot == n) (is_final y) refl refl

took_used_at : (js : List Event) (c k n : ℕ) (y : Reply) (r : Request) (p : SlotUse) → TakesOn js y r p → (b : Bool) → (p.slot == n) ≡ b → used (Took c k y ∷ js) n ≡ (if b && gives_back y then used js n - 1 else used js n)
took_used_at js c k n y r p t true e =
    let m : p.slot ≡ n = grind (arith, nat_tests, e) in
    let h : knows (outs js n) y.xid ≡ true = subst (λ (i : ℕ). knows (outs js i) y.xid ≡ true) m t.here in
    rw (t.makes, h) refl
took_used_at js c k n y r p t false e = rw (t.makes, t.others n e) refl

pub took_used : (js : List Event) (c k n : ℕ) (y : Reply) (r : Request) (p : SlotUse) → TakesOn js y r p → used (Took c k y ∷ js) n ≡ (if (p.slot == n) && gives_back y then used js n - 1 else used js n)
took_used js c k n y r p t = took_used_at js c k n y r p t (p.slot == n) refl

took_sent_at : (js : List Event) (c k n : ℕ) (y : Reply) (r : Request) (p : SlotUse) → TakesOn js y r p → (b : Bool) → (p.slot == n) ≡ b → sent (Took c k y ∷ js) n ≡ (if b then sent_after (moment js) (sequence_status y.body) else sent js n)
took_sent_at js c k n y r p t true e =
    let m : p.slot ≡ n = grind (arith, nat_tests, e) in
    let h : knows (outs js n) y.xid ≡ true = subst (λ (i : ℕ). knows (outs js i) y.xid ≡ true) m t.here in
    rw h refl
took_sent_at js c k n y r p t false e = rw (t.others n e) refl

pub took_sent : (js : List Event) (c k n : ℕ) (y : Reply) (r : Request) (p : SlotUse) → TakesOn js y r p → sent (Took c k y ∷ js) n ≡ (if p.slot == n then sent_after (moment js) (sequence_status y.body) else sent js n)
took_sent js c k n y r p t = took_sent_at js c k n y r p t (p.slot == n) refl

-- ---- and after one without a slot

bare_took_at : (js : List Event) (c k n : ℕ) (y : Reply) (r : Request) → Seats js → TakesBare js y r → (m : Option SessionMade) → made js y ≡ m → (f : Bool) → is_final y ≡ f → out (Took c k y ∷ js) n ≡ (if is_some m then None else out js n)
bare_took_at js c k n y r s t (Some m) d f e = rw d refl
bare_took_at js c k n y r s t None d true e =
    let h : has y.xid (out js n) ≡ false = sym (knows_out js n y.xid s) ∙ t.others n in
    let g = without_is (outs js n) y.xid (one_on n (outs js n) (s.on n)) in
    let z : out (Took c k y ∷ js) n ≡ first (without (outs js n) y.xid) = rw (d, e) refl in
    z ∙ (g ∙ ap (λ (q : Bool). if q then None else out js n) h)
bare_took_at js c k n y r s t None d false e = rw (d, e) refl

pub bare_took : (js : List Event) (c k n : ℕ) (y : Reply) (r : Request) → Seats js → TakesBare js y r → out (Took c k y ∷ js) n ≡ (if is_some (made js y) then None else out js n)
bare_took js c k n y r s t = bare_took_at js c k n y r s t (made js y) refl (is_final y) refl

pub bare_took_used : (js : List Event) (c k n : ℕ) (y : Reply) (r : Request) → TakesBare js y r → used (Took c k y ∷ js) n ≡ (if is_some (made js y) then 0 else used js n)
bare_took_used js c k n y r t = at (is_some (made js y)) refl where
  at : (b : Bool) → is_some (made js y) ≡ b → used (Took c k y ∷ js) n ≡ (if is_some (made js y) then 0 else used js n)
  at true e = rw e refl
  at false e = rw (e, t.others n) refl

pub bare_took_sent : (js : List Event) (c k n : ℕ) (y : Reply) (r : Request) → TakesBare js y r → sent (Took c k y ∷ js) n ≡ sent js n
bare_took_sent js c k n y r t = rw (t.others n) refl
