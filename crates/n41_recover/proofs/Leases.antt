-- The request with the xid that is kept asks for the lease time.
use Rattle.std.proofs.Common.{◌≡◌, ℕ, ◌==◌, Bool, true, false, ◌&&◌, List, [], ◌∷◌, Option, Some, None, if◌then◌else◌, refl, ◌∙◌, ap, arith}
use Rattle.std.proofs.lemmas.Bool.Decides.{nat_tests}
use Rattle.n41_types.specs.declared.plans.Request.{Request}
use Rattle.n41_journal.specs.declared.events.Event.{Event}
use Rattle.n41_journal.specs.declared.events.Event.TheVariants.{Began, Put, Took, CbTook, CbPut, Dialed, DialFailed, Broke, Ticked, Answered, Quit}
use Rattle.n41_model.specs.Replies.{is_final}
use Rattle.n41_model.specs.Requests.{request}
use Rattle.n41_recover.specs.Recovery.{is_lease, is_xid, lease}

abbrev pub leases : Option Request → Bool
leases None = false
leases (Some q) = is_lease q

pub xid_is : (l : Option ℕ) (x : ℕ) → is_xid l x ≡ true → l ≡ Some x
xid_is None x e = absurd (cc)
xid_is (Some l) x e = let d : l ≡ x = grind (arith, nat_tests, e) in ap (λ (n : ℕ). Some n) d

not_xid : (l : Option ℕ) (y x : ℕ) → l ≡ Some x → is_xid l y ≡ false → (y == x) ≡ false
not_xid None y x e g = absurd (cc)
not_xid (Some l) y x e g = let d : l ≡ x = cc in grind (arith, nat_tests, d, g)

put_plan : (js : List Event) (c p : ℕ) (r : Request) (x : ℕ) → (lease js ≡ Some x → leases (request js x) ≡ true) → (a b : Bool) → is_lease r ≡ a → is_xid (lease js) r.xid ≡ b → (if a then Some r.xid else if b then None else lease js) ≡ Some x → leases (request (Put c p r ∷ js) x) ≡ true
put_plan js c p r x h true b f g e =
    let l : r.xid ≡ x = cc in
    let m : (r.xid == x) ≡ true = grind (arith, nat_tests, l) in
    ap (λ (z : Bool). leases (if z then Some r else request js x)) m ∙ f
put_plan js c p r x h false true f g e = absurd (cc)
put_plan js c p r x h false false f g e =
    let m = not_xid (lease js) r.xid x e g in
    ap (λ (z : Bool). leases (if z then Some r else request js x)) m ∙ h e

still : (b : Bool) (l : Option ℕ) (x : ℕ) → (if b then None else l) ≡ Some x → l ≡ Some x
still true l x e = absurd (cc)
still false l x e = e

pub lease_plan : (js : List Event) (x : ℕ) → lease js ≡ Some x → leases (request js x) ≡ true
lease_plan [] x e = absurd (cc)
lease_plan (Began c n k m ∷ js) x e = lease_plan js x e
lease_plan (Put c p r ∷ js) x e = put_plan js c p r x (lease_plan js x) (is_lease r) (is_xid (lease js) r.xid) refl refl e
lease_plan (Took c p y ∷ js) x e = lease_plan js x (still (is_xid (lease js) y.xid && is_final y) (lease js) x e)
lease_plan (CbTook c p y ∷ js) x e = lease_plan js x e
lease_plan (CbPut c p y ∷ js) x e = lease_plan js x e
lease_plan (Dialed c ∷ js) x e = lease_plan js x e
lease_plan (DialFailed ∷ js) x e = lease_plan js x e
lease_plan (Broke c w ∷ js) x e = lease_plan js x e
lease_plan (Ticked m ∷ js) x e = lease_plan js x e
lease_plan (Answered c n a ∷ js) x e = lease_plan js x e
lease_plan (Quit ∷ js) x e = lease_plan js x e
