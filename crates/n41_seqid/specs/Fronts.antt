-- Items that wait for their turn, by the seqids with which they came (own).
use Rattle.std.specs.Prelude.{◌≡◌, ◌≢◌, ◌<◌, ◌≤◌, ℕ, zero, suc, Bool, true, false, ◌&&◌, List, [], ◌∷◌, ◌++◌, length, Result, Ok, Err, Option, None, Some, is_none, nat_eq, slice_get, ⊤}
use Rattle.std.specs.Map.{lookup, remove_entry}
use Rattle.n41_seqid.specs.declared.front.SeqFault.{SeqFault}
use Rattle.n41_seqid.specs.declared.front.SeqFault.TheVariants.{Twice, NoMemory}
use Rattle.n41_seqid.specs.Seqids.{next, is_newer}

-- the seqid to which a front has come, and the items that wait with their seqids, in the order in which they came
pub record Window (T : Type 0) : Type 0 where
  pub at : ℕ
  pub waiting : List (ℕ × T)

-- what contracts see of a front: beside these, for how many more items there is room
pub record Roomy (T : Type 0) : Type 0 where
  pub window : Window T
  pub room : ℕ

-- the item that waits with a seqid
abbrev pub waits : {T : Type 0} → Window T → ℕ → Option T
waits w s = lookup (nat_eq s) w.waiting

-- a seqid is newer than the front, and nothing waits with it
abbrev pub is_new : {T : Type 0} → Window T → ℕ → Bool
is_new w s = is_newer s w.at && is_none (waits w s)

-- a window once an item waits behind the others
abbrev pub added : {T : Type 0} → Window T → ℕ → T → Window T
added w s x = record { at = w.at; waiting = w.waiting ++ (s, x) ∷ [] }

abbrev pub popped_by : {T : Type 0} → Window T → Option T → Window T
popped_by w None = w
popped_by w (Some x) = record { at = next w.at; waiting = remove_entry (nat_eq (next w.at)) w.waiting }

-- a window once the front has moved over the seqid that follows it, where an item waits with that; else it stays
abbrev pub popped : {T : Type 0} → Window T → Window T
popped w = popped_by w (waits w (next w.at))

-- the same so many times
abbrev pub popped_times : {T : Type 0} → ℕ → Window T → Window T
popped_times zero w = w
popped_times (suc n) w = popped (popped_times n w)

-- a window once the front has moved as far as it can
abbrev pub drained : {T : Type 0} → Window T → Window T
drained w = popped_times (length w.waiting) w

-- the front once an item waits; at most one place of its room is taken
pub record Adds {T : Type 0} (q : Roomy T) (s : ℕ) (x : T) (r : Roomy T) : Type 0 where
  pub window : r.window ≡ added q.window s x
  pub room : q.room ≤ suc r.room

-- what an item and its seqid get: they wait where the seqid is new, or else come back as told twice; for want of memory they come back only
-- where there was no room
abbrev pub PutGives : {T : Type 0} → Roomy T → ℕ → T → Result ⊤ (SeqFault T) → Roomy T → Type 0
PutGives q s x (Ok _) r = (is_new q.window s ≡ true) × Adds q s x r
PutGives q s x (Err (Twice t y)) r = (is_new q.window s ≡ false) × (t ≡ s) × (y ≡ x) × (r ≡ q)
PutGives q s x (Err (NoMemory y)) r = (is_new q.window s ≡ true) × (q.room ≡ 0) × (y ≡ x) × (r ≡ q)

-- the first item with a seqid stands at a place
pub record IsPlaceOf {T : Type 0} (s : ℕ) (ws : List (ℕ × T)) (n : ℕ) : Type 0 where
  pub item : (x : T) × (slice_get ws n ≡ Some (s, x))
  pub first : (k : ℕ) (t : ℕ) (x : T) → k < n → slice_get ws k ≡ Some (t, x) → t ≢ s
