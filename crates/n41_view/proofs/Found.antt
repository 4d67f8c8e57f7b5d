-- What has an xid and is out is the one request that is found by it.
use Rattle.std.proofs.Common.{◌≡◌, ◌==◌, ℕ, Bool, true, false, List, Option, Some, None, refl, ◌∙◌, ap, subst, arith}
use Rattle.std.proofs.lemmas.Bool.Decides.{nat_tests}
use Rattle.n41_types.specs.declared.plans.Request.{Request}
use Rattle.n41_types.specs.declared.plans.SlotUse.{SlotUse}
use Rattle.n41_results.specs.declared.replies.Reply.{Reply}
use Rattle.n41_results.specs.Shapes.{shape_of}
use Rattle.n41_journal.specs.declared.events.Event.{Event}
use Rattle.n41_model.specs.Requests.{request, bares, bare, outs, out, is_on, is_use_of, is_bare_use, has_xid}
use Rattle.n41_calls.proofs.Slots.{Seats}
use Rattle.n41_view.specs.Step.{has}
use Rattle.n41_view.proofs.Lists.{first_on, first_bare}
use Rattle.n41_view.proofs.Known.{Known}

-- a request has one of the two, a slot or none
pub no_use : (o : Option SlotUse) → is_bare_use o ≡ true → o ≡ None
no_use None e = refl
no_use (Some u) e = absurd (cc)

pub use_on : (o : Option SlotUse) (n : ℕ) → is_use_of o n ≡ true → (u : SlotUse) × (o ≡ Some u) × (u.slot ≡ n)
use_on None n e = absurd (cc)
use_on (Some u) n e = (u, refl, grind (arith, nat_tests, e))

-- a reply that fits a request has its xid
pub fits_xid : (r : Request) (y : Reply) → shape_of r y ≡ None → r.xid ≡ y.xid
fits_xid r y e = at (r.xid == y.xid) refl where
  at : (b : Bool) → (r.xid == y.xid) ≡ b → r.xid ≡ y.xid
  at true q = grind (arith, nat_tests, q)
  at false q = absurd (let h : Some _ ≡ None = (rw q at e) in cc)

-- the request that is found
pub found_bare : (js : List Event) (x : ℕ) (r : Request) → Known js → bare js ≡ Some r → r.xid ≡ x → request js x ≡ Some r
found_bare js x r k o h = subst (λ (z : ℕ). request js z ≡ Some r) h (k.lone r o)

pub found_on : (js : List Event) (x : ℕ) (s : ℕ) (r : Request) → Known js → out js s ≡ Some r → r.xid ≡ x → request js x ≡ Some r
found_on js x s r k o h = subst (λ (z : ℕ). request js z ≡ Some r) h (k.on s r o)

-- any request on a slot with this xid is the one found
has_found : (js : List Event) (x : ℕ) (s : ℕ) (r q : Request) → Known js → request js x ≡ Some r → out js s ≡ Some q → has_xid x q ≡ true → q ≡ r
has_found js x s r q k e o h = let g : q.xid ≡ x = grind (arith, nat_tests, h) in let f = found_on js x s q k o g in cc

bare_found : (js : List Event) (x : ℕ) (r q : Request) → Known js → request js x ≡ Some r → bare js ≡ Some q → has_xid x q ≡ true → q ≡ r
bare_found js x r q k e o h = let g : q.xid ≡ x = grind (arith, nat_tests, h) in let f = found_bare js x q k o g in cc

-- a request without a slot is on no slot
pub not_on : (js : List Event) (x : ℕ) (r : Request) → Seats js → Known js → request js x ≡ Some r → r.slot ≡ None → (m : ℕ) (o : Option Request) → out js m ≡ o → has x o ≡ false
not_on js x r t k e f m None o = refl
not_on js x r t k e f m (Some q) o = at (has_xid x q) refl where
  at : (b : Bool) → has_xid x q ≡ b → has_xid x q ≡ false
  at true h =
      let g = has_found js x m r q k e o h in
      let i : is_use_of q.slot m ≡ true = first_on m (outs js m) q (t.on m) o in
      let j : q.slot ≡ None = ap (λ (z : Request). z.slot) g ∙ f in
      absurd (let l : is_use_of None m ≡ true = subst (λ (z : Option SlotUse). is_use_of z m ≡ true) j i in cc)
  at false h = h

-- and the other way round
pub not_bare : (js : List Event) (x : ℕ) (r : Request) (u : SlotUse) → Seats js → Known js → request js x ≡ Some r → r.slot ≡ Some u → (o : Option Request) → bare js ≡ o → has x o ≡ false
not_bare js x r u t k e f None o = refl
not_bare js x r u t k e f (Some q) o = at (has_xid x q) refl where
  at : (b : Bool) → has_xid x q ≡ b → has_xid x q ≡ false
  at true h =
      let g = bare_found js x r q k e o h in
      let i : is_bare_use q.slot ≡ true = first_bare (bares js) q t.lone o in
      let j : q.slot ≡ Some u = ap (λ (z : Request). z.slot) g ∙ f in
      absurd (let l : is_bare_use (Some u) ≡ true = subst (λ (z : Option SlotUse). is_bare_use z ≡ true) j i in cc)
  at false h = h

-- what is found on a slot stands there alone
pub only_on : (js : List Event) (x : ℕ) (s : ℕ) (r : Request) → Seats js → Known js → request js x ≡ Some r → is_on r s ≡ true → (m : ℕ) (o : Option Request) → out js m ≡ o → has x o ≡ true → m ≡ s
only_on js x s r t k e i m None o h = absurd (cc)
only_on js x s r t k e i m (Some q) o h =
    let g = has_found js x m r q k e o h in
    let a : is_use_of q.slot m ≡ true = first_on m (outs js m) q (t.on m) o in
    let b : is_use_of r.slot m ≡ true = subst (λ (z : Request). is_use_of z.slot m ≡ true) g a in
    use_is r.slot m s b i where
      use_is : (o : Option SlotUse) (a b : ℕ) → is_use_of o a ≡ true → is_use_of o b ≡ true → a ≡ b
      use_is None a b v z = absurd (cc)
      use_is (Some p) a b v z = grind (arith, nat_tests, v, z)
