-- One slot changes.
use Rattle.std.proofs.Common.{◌≡◌, ℕ, zero, suc, ◌+◌, ◌-◌, ◌<◌, ◌≤◌, length, List, [], ◌∷◌, Bool, true, set, get_or, slice_get, Option, Some, None, refl, arith, ◌&&◌, nat_lt}
use Rattle.std.specs.Prelude.{is_none}
use Rattle.std.proofs.lemmas.Option.{slice_get_read}
use Rattle.n41_types.specs.Plans.{class_of, is_cached}
use Rattle.n41_types.specs.declared.plans.Request.{Request}
use Rattle.n41_slots.specs.declared.slots.Slot.{Slot}
use Rattle.n41_slots.specs.Slots.{Table, Asked, is_free, request_at, ones, count, highest_from, taken, left, released}
use Rattle.n41_slots.proofs.Counts.{count_set}

-- a slot that is free is one of these
pub free_within : (ss : List Slot) (n : ℕ) → is_free (slice_get ss n) ≡ true → n < length ss
free_within [] n e = absurd (cc)
free_within (s ∷ ss) zero e = omega arith
free_within (s ∷ ss) (suc n) e = let h = free_within ss n e in omega arith

-- the slot that is read
pub read : (ss : List Slot) (n : ℕ) (d : Slot) → n < length ss → d ≡ get_or ss n d → slice_get ss n ≡ Some d
read ss n d l e = slice_get_read ss (length ss) n d refl l e

nothing_in : (o : Option Request) (b : Bool) → (is_none o && b) ≡ true → ones o ≡ 0
nothing_in None b e = refl
nothing_in (Some r) b e = absurd (cc)

nothing_on : (s : Slot) → is_free (Some s) ≡ true → ones s.request ≡ 0
nothing_on s e = nothing_in s.request (nat_lt s.used 4294967295) e

-- nothing is out on a slot that is free
pub free_ones : (ss : List Slot) (n : ℕ) (d : Slot) → n < length ss → d ≡ get_or ss n d → is_free (slice_get ss n) ≡ true → ones (get_or ss n d).request ≡ 0
free_ones ss n d l p e = let g = read ss n d l p in let h : is_free (Some d) ≡ true = rw g at e in rw (← p) (nothing_on d h)

-- one request more is out
pub count_taken : (ss : List Slot) (n : ℕ) (d x : Slot) (r : Request) → d ≡ get_or ss n d → is_free (slice_get ss n) ≡ true → x ≡ record { used = d.used + 1; request = Some r } → count (set ss n x) ≡ count ss + 1
count_taken ss n d x r p e q =
    let l = free_within ss n e in
    let h = free_ones ss n d l p e in
    let k = count_set ss n d x l in
    let o : ones x.request ≡ 1 = rw q refl in
    omega arith

pub taken_is : (t : Table) (n : ℕ) (a : Asked) (i d x : Slot) (h : ℕ) (b : Bool) → n < length t.slots → i ≡ get_or t.slots n i → d ≡ get_or t.slots n d → h ≡ highest_from 0 t.slots n → b ≡ is_cached (class_of a.plan) → x ≡ record { used = d.used + 1; request = Some (record { xid = a.xid; uid = a.uid; gid = a.gid; minor = a.minor; slot = Some (record { sid = t.sid; slot = n; turn = i.used + 1; highest = h; cache = b }); plan = a.plan }) } → record t { slots = set t.slots n x } ≡ taken t n a
taken_is t n a i d x h b l p q r s e =
    let g = read t.slots n i l p in
    let f = read t.slots n d l q in
    let k : i ≡ d = cc in
    rw (f, e, r, s, k) refl

-- what is out on the slot is counted
pub count_left : (ss : List Slot) (n : ℕ) (d : Slot) → n < length ss → d ≡ get_or ss n d → ones d.request ≤ count ss
count_left ss n d l p =
    let k = count_set ss n d (record { used = 0; request = None }) l in
    let o : ones (get_or ss n d).request ≡ ones d.request = rw (← p) refl in
    omega arith

pub count_released : (ss : List Slot) (n : ℕ) (k : Bool) (d x : Slot) → n < length ss → d ≡ get_or ss n d → x ≡ left k d → count (set ss n x) ≡ count ss - ones d.request
count_released ss n k d x l p e =
    let c = count_set ss n d x l in
    let o : ones (get_or ss n d).request ≡ ones d.request = rw (← p) refl in
    let z : ones x.request ≡ 0 = rw e refl in
    omega arith

pub released_is : (t : Table) (n : ℕ) (k : Bool) (d x : Slot) → n < length t.slots → d ≡ get_or t.slots n d → x ≡ left k d → record t { slots = set t.slots n x } ≡ released t n k
released_is t n k d x l p e = let g = read t.slots n d l p in rw (g, e) refl

pub request_is : (t : Table) (n : ℕ) (d : Slot) → n < length t.slots → d ≡ get_or t.slots n d → d.request ≡ request_at t n
request_is t n d l p = let g = read t.slots n d l p in rw g refl
