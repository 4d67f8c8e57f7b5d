-- The slots of a session, as its client uses them (RFC 8881, section 2.10.6.1).
use Rattle.std.specs.Prelude.{◌≡◌, ℕ, suc, ◌+◌, ◌-◌, ◌<◌, ◌≤◌, max, Bool, true, false, ◌&&◌, ◌||◌, List, [], ◌∷◌, Option, Some, None, if◌then◌else◌, is_none, nat_lt, slice_get, slice_set}
use Rattle.n41_types.specs.declared.identities.SessionId.{SessionId}
use Rattle.n41_types.specs.declared.plans.Plan.{Plan}
use Rattle.n41_types.specs.declared.plans.Request.{Request}
use Rattle.n41_types.specs.declared.plans.SlotUse.{SlotUse}
use Rattle.n41_types.specs.Plans.{class_of, is_cached}
use Rattle.n41_slots.specs.declared.slots.Slot.{Slot}

-- what contracts see of the slots; slot n is the n-th, and requests go on none above the target
pub record Table : Type 0 where
  pub sid : SessionId
  pub target : ℕ
  pub slots : List Slot

-- what is asked to go out
pub record Asked : Type 0 where
  pub xid : ℕ
  pub uid : ℕ
  pub gid : ℕ
  pub minor : ℕ
  pub plan : Plan

-- a slot on which nothing was put since this turn
abbrev pub idle : ℕ → Slot
idle u = record { used = u; request = None }

-- ---- which slot a request goes on

-- nothing is out on the slot, and its turns are not spent
abbrev pub is_free : Option Slot → Bool
is_free None = false
is_free (Some s) = is_none s.request && nat_lt s.used 4294967295

-- the lowest slot that is free and not above the target
pub record IsLowestFree (t : Table) (n : ℕ) : Type 0 where
  pub within : n ≤ t.target
  pub free : is_free (slice_get t.slots n) ≡ true
  pub lowest : (k : ℕ) → k < n → is_free (slice_get t.slots k) ≡ false

-- no slot up to the target is free
abbrev pub NoneIsFree : Table → Type 0
NoneIsFree t = (k : ℕ) → k ≤ t.target → is_free (slice_get t.slots k) ≡ false

-- ---- what is out

abbrev pub request_on : Option Slot → Option Request
request_on None = None
request_on (Some s) = s.request

-- the request that is out on the slot with this number
abbrev pub request_at : Table → ℕ → Option Request
request_at t n = request_on (slice_get t.slots n)

abbrev pub ones : Option Request → ℕ
ones None = 0
ones (Some r) = 1

-- how many requests are out
abbrev pub count : List Slot → ℕ
count [] = 0
count (s ∷ ss) = ones s.request + count ss

-- the highest slot that is out of those from number n on, and no less than h
abbrev pub highest_from : ℕ → List Slot → ℕ → ℕ
highest_from n [] h = h
highest_from n (s ∷ ss) h = highest_from (suc n) ss (if is_none s.request then h else max n h)

-- the session, the slot and the turn that a request tells
abbrev pub Tells : SessionId → ℕ → ℕ → Option SlotUse → Type 0
Tells i n u None = ⊥
Tells i n u (Some k) = (k.sid ≡ i) × (k.slot ≡ n) × (k.turn ≡ u)

-- what is out on each slot tells this session, that slot and the last turn there
abbrev pub IsPlaced : Table → Type 0
IsPlaced t = (n : ℕ) (s : Slot) (r : Request) → slice_get t.slots n ≡ Some s → s.request ≡ Some r → Tells t.sid n s.used r.slot

-- ---- what changes

-- the request that is made for slot n: its turn is one more than the last, and it tells the highest slot that is out, this one included
abbrev pub made : Table → ℕ → Slot → Asked → Request
made t n s a = record {
  xid = a.xid;
  uid = a.uid;
  gid = a.gid;
  minor = a.minor;
  slot = Some (record { sid = t.sid; slot = n; turn = s.used + 1; highest = highest_from 0 t.slots n; cache = is_cached (class_of a.plan) });
  plan = a.plan;
}

abbrev pub taken_on : Table → ℕ → Asked → Option Slot → List Slot
taken_on t n a None = t.slots
taken_on t n a (Some s) = slice_set t.slots n (record { used = s.used + 1; request = Some (made t n s a) })

-- the table once a request has gone on slot n
abbrev pub taken : Table → ℕ → Asked → Table
taken t n a = record t { slots = taken_on t n a (slice_get t.slots n) }

-- the slot once its request is released: a turn that was not used is given back
abbrev pub left : Bool → Slot → Slot
left k s = record { used = if k || is_none s.request then s.used else s.used - 1; request = None }

abbrev pub released_on : List Slot → ℕ → Bool → Option Slot → List Slot
released_on ss n k None = ss
released_on ss n k (Some s) = slice_set ss n (left k s)

-- the table once what is out on slot n is released
abbrev pub released : Table → ℕ → Bool → Table
released t n k = record t { slots = released_on t.slots n k (slice_get t.slots n) }
