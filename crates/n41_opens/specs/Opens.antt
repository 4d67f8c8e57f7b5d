-- Open records: the handles that share each, and which of its changes are told (RFC 8881, sections 8.2.2, 9.7, 18.2, 18.16 and 18.18).
use Rattle.std.specs.Prelude.{◌≡◌, ℕ, Bool, true, false, not, ◌&&◌, ◌||◌, ◌==◌, nat_lt, List, [], ◌∷◌, map, filter, Option, None, Some, unwrap_or, nat_eq, Result, Ok, Err, if◌then◌else◌, ⊤}
use Rattle.std.specs.Ordering.{nat_cmp, is_eq}
use Rattle.std.specs.Cmp.Lexicographic.{pointwise}
use Rattle.std.specs.Map.{lookup, remove_entry, set_value}
use Rattle.std.specs.BTreeMap.{insert_entry}
use Rattle.n41_types.specs.declared.identities.Stateid.{Stateid}
use Rattle.n41_types.specs.declared.spans.Mode.{Mode}
use Rattle.n41_seqid.specs.Fronts.{Window, is_new, added, drained}
use Rattle.n41_opens.specs.declared.ids.RecordKey.{RecordKey}
use Rattle.n41_opens.specs.declared.ids.RecordId.{RecordId}
use Rattle.n41_opens.specs.declared.handles.Open.{Open}
use Rattle.n41_opens.specs.declared.answers.AttachFault.{AttachFault}
use Rattle.n41_opens.specs.declared.answers.AttachFault.TheVariants.{Seq, NoMemory}
use Rattle.n41_opens.specs.declared.answers.Shrink.{Shrink}
use Rattle.n41_opens.specs.declared.answers.Shrink.TheVariants.{Keep, Downgrade, Close}
use Rattle.n41_opens.specs.Modes.{joined, union, is_less}
use Rattle.n41_opens.specs.Ids.{id_cmp, is_key, is_id}

-- which changes of a record are told: all up to the front, and those whose seqids wait behind it. Until seqid 1 is told the front has not
-- begun, and stands before it
pub record Told : Type 0 where
  pub window : Window ⊤
  pub begun : Bool

-- the handles by rising number, each with its open, and the records that they have
pub record Table : Type 0 where
  pub handles : List (ℕ × Open)
  pub records : List (RecordId × Told)

-- ---- the changes of one record

-- none is told: the seqid before 1 is 2^32 - 1
abbrev pub untold : Told
untold = record { window = record { at = 4294967295; waiting = [] }; begun = false }

-- all are told up to this one
abbrev pub told_to : ℕ → Told
told_to s = record { window = record { at = s; waiting = [] }; begun = true }

-- one more is told, by its seqid, and the front moves as far as it can
abbrev pub heard : ℕ → Told → Told
heard s o =
    let w = drained (added o.window s tt) in
    record { window = w; begun = o.begun || not (w.at == o.window.at) }

-- the seqid of the front, or 1 while it stands before that
abbrev pub seqid_of : Told → ℕ
seqid_of o = if o.begun then o.window.at else 1

-- what is told of a record: of one that is not there, nothing
abbrev pub told_of : List (RecordId × Told) → RecordId → Told
told_of rs r = unwrap_or (lookup (is_id r) rs) untold

-- the stateid with which a record is closed or changed
abbrev pub stateid_in : Table → RecordId → Stateid
stateid_in t r = record { seqid = seqid_of (told_of t.records r); other = r.other }

-- ---- the handles of a record

-- two numbers of handles are the same
abbrev pub is_number : ℕ → ℕ → Bool
is_number h k = is_eq (nat_cmp h k)

abbrev pub open_of : List (ℕ × Open) → ℕ → Option Open
open_of hs h = lookup (is_number h) hs

abbrev pub without : List (ℕ × Open) → ℕ → List (ℕ × Open)
without hs h = remove_entry (is_number h) hs

-- whether some handle has the record, and whether one has a record under the key
abbrev pub has : List (ℕ × Open) → RecordId → Bool
has [] r = false
has (e ∷ es) r = is_id r e.1.id || has es r

abbrev pub has_key : List (ℕ × Open) → RecordKey → Bool
has_key [] k = false
has_key (e ∷ es) k = is_key k e.1.id.key || has_key es k

-- the modes of the handles that have the record
abbrev pub modes : List (ℕ × Open) → RecordId → List Mode
modes [] r = []
modes (e ∷ es) r = if is_id r e.1.id then e.1.mode ∷ modes es r else modes es r

-- the same of all but one handle
abbrev pub others : List (ℕ × Open) → RecordId → ℕ → List Mode
others hs r h = modes (without hs h) r

-- ---- what changes

-- these handles with these records: a record is there while a handle has it
abbrev pub with_handles : List (ℕ × Open) → List (RecordId × Told) → Table
with_handles hs rs = record { handles = hs; records = filter (λ e. has hs e.0) rs }

abbrev pub is_marked : Option Open → Bool
is_marked None = false
is_marked (Some o) = o.closing

-- a handle has this record in this mode; one that was there leaves its record, and keeps its mark
abbrev pub seated : List (ℕ × Open) → ℕ → RecordId → Mode → List (ℕ × Open)
seated hs h r m = insert_entry nat_cmp hs h (record { id = r; mode = m; closing = is_marked (open_of hs h) })

abbrev pub all_seated : List (ℕ × Open) → RecordId → List (ℕ × Mode) → List (ℕ × Open)
all_seated hs r [] = hs
all_seated hs r (e ∷ es) = all_seated (seated hs e.0 r e.1) r es

-- the records, and what is told of this one
abbrev pub telling : List (RecordId × Told) → RecordId → Told → List (RecordId × Told)
telling rs r o = insert_entry id_cmp rs r o

-- an open was answered with this seqid
abbrev pub attached : Table → ℕ → RecordId → ℕ → Mode → Table
attached t h r s m = with_handles (seated t.handles h r m) (telling t.records r (heard s (told_of t.records r)))

-- a handle leaves
abbrev pub forgotten : Table → ℕ → Table
forgotten t h = with_handles (without t.handles h) t.records

abbrev pub moved : RecordId → Open → Open
moved r o = if is_key r.key o.id.key then record o { id = r } else o

abbrev pub all_moved : RecordId → List (ℕ × Open) → List (ℕ × Open)
all_moved r hs = map (λ e. (e.0, moved r e.1)) hs

-- all handles of a key have this record of it, all whose changes are told up to a seqid
abbrev pub refreshed : Table → RecordId → ℕ → Table
refreshed t r s = with_handles (all_moved r t.handles) (telling t.records r (told_to s))

-- these handles have this record, all whose changes are told up to a seqid
abbrev pub reclaimed : Table → RecordId → ℕ → List (ℕ × Mode) → Table
reclaimed t r s es = with_handles (all_seated t.handles r es) (telling t.records r (told_to s))

abbrev pub marked : Bool → Open → Open
marked b o = record o { closing = b }

abbrev pub mark_at : List (ℕ × Open) → ℕ → Bool → Option Open → List (ℕ × Open)
mark_at hs h b None = hs
mark_at hs h b (Some o) = set_value (is_number h) hs (marked b o)

-- a handle is marked as closing, or no longer
abbrev pub with_mark : Table → ℕ → Bool → Table
with_mark t h b = record t { handles = mark_at t.handles h b (open_of t.handles h) }

-- ---- what is answered

-- what a handle's close sends, by what the other handles of its record need: a CLOSE where there are none, an OPEN_DOWNGRADE where they need
-- less than with it, and nothing where they need the same
abbrev pub shrink_by : Option Mode → Mode → Stateid → Shrink
shrink_by None m s = Close s
shrink_by (Some u) m s = if is_less u (joined u m) then Downgrade u s else Keep

abbrev pub need_at : Table → ℕ → Option Open → Option Mode
need_at t h None = None
need_at t h (Some o) = union (others t.handles o.id h)

-- what the other handles of a handle's record need
abbrev pub need_beside : Table → ℕ → Option Mode
need_beside t h = need_at t h (open_of t.handles h)

abbrev pub shrink_at : Table → ℕ → Option Open → Option Shrink
shrink_at t h None = None
shrink_at t h (Some o) = Some (shrink_by (union (others t.handles o.id h)) o.mode (stateid_in t o.id))

abbrev pub shrink_in : Table → ℕ → Option Shrink
shrink_in t h = shrink_at t h (open_of t.handles h)

abbrev pub stateid_at : Table → Option Open → Option Stateid
stateid_at t None = None
stateid_at t (Some o) = Some (stateid_in t o.id)

-- the first entry with a greater number: the handles rise, so it is the least
abbrev pub entry_after : List (ℕ × Open) → ℕ → Option (ℕ × Open)
entry_after [] h = None
entry_after (e ∷ es) h = if nat_lt h e.0 then Some e else entry_after es h

-- what is told of an entry: the handle, the key of its record, and its mode
abbrev pub told_row : ℕ × Open → ℕ × RecordKey × Mode
told_row e = (e.0, e.1.id.key, e.1.mode)

-- an open was answered with a seqid: what becomes of the table, and None where the record was told this seqid before, or a newer one
abbrev pub attach_in : Table → ℕ → RecordId → ℕ → Mode → Option Table
attach_in t h r s m = if is_new (told_of t.records r).window s then Some (attached t h r s m) else None

-- a stateid is of the record, and its seqid is new to it
abbrev pub is_change : Told → RecordId → Stateid → Bool
is_change o r s = pointwise nat_eq s.other r.other && not (s.seqid == 0) && is_new o.window s.seqid

abbrev pub changed_by : Table → Stateid → Option Open → Option Table
changed_by t s None = None
changed_by t s (Some o) = if is_change (told_of t.records o.id) o.id s then Some (record t { records = telling t.records o.id (heard s.seqid (told_of t.records o.id)) }) else None

-- an OPEN_DOWNGRADE of a handle was answered with a stateid: what becomes of the table, and None where that is no change of the record
abbrev pub changed_in : Table → ℕ → Stateid → Option Table
changed_in t h s = changed_by t s (open_of t.handles h)

abbrev pub gone_by : ℕ → Option Table → Option Table
gone_by h None = None
gone_by h (Some t) = Some (forgotten t h)

abbrev pub applied_by : Table → ℕ → Stateid → Option Mode → Option Table
applied_by t h s None = Some (forgotten t h)
applied_by t h s (Some u) = gone_by h (changed_in t h s)

abbrev pub applied_at : Table → ℕ → Stateid → Option Open → Option Table
applied_at t h s None = None
applied_at t h s (Some o) = applied_by t h s (union (others t.handles o.id h))

-- what a handle's close sent was answered OK, and the handle leaves: a CLOSE where no other handle has the record, whose stateid is not looked
-- at, or else an OPEN_DOWNGRADE
abbrev pub applied_in : Table → ℕ → Stateid → Option Table
applied_in t h s = applied_at t h s (open_of t.handles h)

-- what an open's answer gives; for want of memory nothing changes
abbrev pub AttachGives : Table → ℕ → RecordId → ℕ → Mode → Result ⊤ AttachFault → Table → Type 0
AttachGives t h r s m (Ok _) u = attach_in t h r s m ≡ Some u
AttachGives t h r s m (Err (Seq n)) u = (attach_in t h r s m ≡ None) × (n ≡ s) × (u ≡ t)
AttachGives t h r s m (Err NoMemory) u = u ≡ t
