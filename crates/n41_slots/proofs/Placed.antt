-- What is out on each slot tells where it stands.
use Rattle.std.proofs.Common.{◌≡◌, ◌≢◌, ℕ, zero, suc, ◌+◌, ◌<◌, ◌==◌, Bool, true, false, length, List, [], ◌∷◌, map, replicate, slice_get, Some, None, refl, sym, ◌∙◌, ap, subst, arith}
use Rattle.std.proofs.lemmas.Bool.Decides.{nat_tests}
use Rattle.n41_types.specs.declared.identities.SessionId.{SessionId}
use Rattle.n41_types.specs.declared.plans.Request.{Request}
use Rattle.n41_slots.specs.declared.slots.Slot.{Slot}
use Rattle.n41_slots.specs.Slots.{Table, Asked, Tells, IsPlaced, idle, made, taken, left, released}
use Rattle.n41_slots.proofs.Others.{taken_there, taken_elsewhere, released_there, released_elsewhere}

some_is : {A : Type 0} (x y : A) → Some x ≡ Some y → x ≡ y
some_is x y e = cc

made_tells : (t : Table) (n : ℕ) (a : Asked) (o s : Slot) (r : Request) → Some (record { used = o.used + 1; request = Some (made t n o a) }) ≡ Some s → s.request ≡ Some r → Tells t.sid n s.used r.slot
made_tells t n a o s r e f =
    let d : record { used = o.used + 1; request = Some (made t n o a) } ≡ s = some_is _ s e in
    let g : made t n o a ≡ r = some_is (made t n o a) r (ap (λ (z : Slot). z.request) d ∙ f) in
    let u : o.used + 1 ≡ s.used = ap (λ (z : Slot). z.used) d in
    subst (λ (m : ℕ). Tells t.sid n m r.slot) u (subst (λ (z : Request). Tells t.sid n (o.used + 1) z.slot) g (refl, refl, refl))

taken_at : (t : Table) (n k : ℕ) (a : Asked) (o s : Slot) (r : Request) → slice_get t.slots n ≡ Some o → IsPlaced t → slice_get (taken t n a).slots k ≡ Some s → s.request ≡ Some r → (b : Bool) → (n == k) ≡ b → Tells t.sid k s.used r.slot
taken_at t n k a o s r g p e f true h =
    let d : n ≡ k = grind (arith, nat_tests, h) in
    let w : slice_get (taken t n a).slots n ≡ Some s = subst (λ (m : ℕ). slice_get (taken t n a).slots m ≡ Some s) (sym d) e in
    subst (λ (m : ℕ). Tells t.sid m s.used r.slot) d (made_tells t n a o s r (sym (taken_there t n a o g) ∙ w) f)
taken_at t n k a o s r g p e f false h =
    let d : k ≢ n = λ q. (let z : (n == k) ≡ true = grind (arith, nat_tests, q) in let y : true ≡ false = sym z ∙ h in absurd (cc)) in
    p k s r (sym (taken_elsewhere t n k a d) ∙ e) f

found : (ss : List Slot) (n : ℕ) → n < length ss → (o : Slot) × (slice_get ss n ≡ Some o)
found [] n l = absurd (omega arith)
found (s ∷ ss) zero l = (s, refl)
found (s ∷ ss) (suc n) l = found ss n (omega arith)

pub taken_placed : (t : Table) (n : ℕ) (a : Asked) → n < length t.slots → IsPlaced t → IsPlaced (taken t n a)
taken_placed t n a l p = let o = found t.slots n l in λ k s r e f. taken_at t n k a o.0 s r o.1 p e f (n == k) refl

left_none : (b : Bool) (o s : Slot) (r : Request) → Some (left b o) ≡ Some s → s.request ≡ Some r → ⊥
left_none b o s r e f =
    let d : left b o ≡ s = some_is (left b o) s e in
    let g : None ≡ Some r = ap (λ (z : Slot). z.request) d ∙ f in
    absurd (cc)

released_at : (t : Table) (n k : ℕ) (b : Bool) (o s : Slot) (r : Request) → slice_get t.slots n ≡ Some o → IsPlaced t → slice_get (released t n b).slots k ≡ Some s → s.request ≡ Some r → (c : Bool) → (n == k) ≡ c → Tells t.sid k s.used r.slot
released_at t n k b o s r g p e f true h =
    let d : n ≡ k = grind (arith, nat_tests, h) in
    let w : slice_get (released t n b).slots n ≡ Some s = subst (λ (m : ℕ). slice_get (released t n b).slots m ≡ Some s) (sym d) e in
    absurd (left_none b o s r (sym (released_there t n b o g) ∙ w) f)
released_at t n k b o s r g p e f false h =
    let d : k ≢ n = λ q. (let z : (n == k) ≡ true = grind (arith, nat_tests, q) in let y : true ≡ false = sym z ∙ h in absurd (cc)) in
    p k s r (sym (released_elsewhere t n k b d) ∙ e) f

pub released_placed : (t : Table) (n : ℕ) (b : Bool) → n < length t.slots → IsPlaced t → IsPlaced (released t n b)
released_placed t n b l p = let o = found t.slots n l in λ k s r e f. released_at t n k b o.0 s r o.1 p e f (n == k) refl

idle_none : (us : List ℕ) (n : ℕ) (s : Slot) (r : Request) → slice_get (map idle us) n ≡ Some s → s.request ≡ Some r → ⊥
idle_none [] n s r e f = absurd (cc)
idle_none (u ∷ us) zero s r e f =
    let d : idle u ≡ s = some_is (idle u) s e in
    let g : None ≡ Some r = ap (λ (z : Slot). z.request) d ∙ f in
    absurd (cc)
idle_none (u ∷ us) (suc n) s r e f = idle_none us n s r e f

pub used_placed : (i : SessionId) (m : ℕ) (us : List ℕ) → IsPlaced (record { sid = i; target = m; slots = map idle us })
used_placed i m us = λ n s r e f. absurd (idle_none us n s r e f)

new_none : (k n : ℕ) (s : Slot) (r : Request) → slice_get (replicate k (idle 0)) n ≡ Some s → s.request ≡ Some r → ⊥
new_none zero n s r e f = absurd (cc)
new_none (suc k) zero s r e f =
    let d : idle 0 ≡ s = some_is (idle 0) s e in
    let g : None ≡ Some r = ap (λ (z : Slot). z.request) d ∙ f in
    absurd (cc)
new_none (suc k) (suc n) s r e f = new_none k n s r e f

pub new_placed : (i : SessionId) (m k : ℕ) → IsPlaced (record { sid = i; target = m; slots = replicate k (idle 0) })
new_placed i m k = λ n s r e f. absurd (new_none k n s r e f)
