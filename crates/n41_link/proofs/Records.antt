-- What is read as records, and what was given of them.
use Rattle.std.proofs.Common.{◌≡◌, ◌≤◌, ◌<◌, ◌+◌, ◌-◌, ◌*◌, ◌^◌, ◌∙◌, ap, sym, ℕ, List, [], ◌∷◌, ◌++◌, length, arith, length-append, append_assoc, append-nil, refl, subst, inl, inr, None, Some, true}
use Rattle.std.specs.List.{concat}
use Rattle.std.specs.declared.option.Option.{Option}
use Rattle.n41_record.specs.declared.fault.GatherFault.{GatherFault}
use Rattle.n41_record.specs.declared.fault.GatherFault.TheVariants.{TooLong, TooMany, NoMemory}
use Rattle.n41_record.specs.Fragments.{header, earlier, fragment, IsFragments, IsRest}
use Rattle.n41_record.specs.Streams.{AreRecords, Records, Refused, BeginsWith}
use Rattle.n41_record.specs.Gathered.{Gathered, IsReadAs, IsStanding}
use Rattle.n41_record.proofs.Spelled.{length-header, length-earlier}
use Rattle.n41_link.specs.Heard.{GivesFirst, GaveAll}

-- records are some and then the others
split_records : (text : List ℕ) (xs ys : List (List ℕ)) → AreRecords text (xs ++ ys) → (front : List ℕ) × (after : List ℕ) × (text ≡ front ++ after) × AreRecords front xs × AreRecords after ys
split_records text [] ys h = ([], text, refl, refl, h)
split_records text (x ∷ xs) ys h =
    let more = split_records h.1 xs ys h.4 in (
      h.0 ++ more.0,
      more.1,
      h.2 ∙ ap (λ (t : List ℕ). h.0 ++ t) more.2 ∙ sym (append_assoc h.0 more.0 more.1),
      (h.0, more.0, refl, h.3, more.3),
      more.4,
    )

begins : (stream : List ℕ) (list : List (List ℕ)) (rest : List ℕ) (fault : Option GatherFault) → IsReadAs stream list rest fault → BeginsWith stream list rest
begins stream list rest None h = record { front = h.front; whole = h.whole; records = h.records }
begins stream list rest (Some NoMemory) h = h
begins stream list rest (Some (TooLong sum)) h = record { front = h.front; whole = h.whole; records = h.records }
begins stream list rest (Some TooMany) h = record { front = h.front; whole = h.whole; records = h.records }

-- what was given stands before what waits
pub gives_first : (g : Gathered) → IsStanding g → GivesFirst g
gives_first g h =
    let all = begins g.fed (g.given ++ g.waiting) h.0 g.fault h.1 in
    let parts = split_records all.front g.given g.waiting all.records in (
      parts.1 ++ h.0,
      record {
        front = parts.0;
        whole = all.whole ∙ ap (λ (t : List ℕ). t ++ h.0) parts.2 ∙ append_assoc parts.0 parts.1 h.0;
        records = parts.3;
      },
    )

given_is_all : (g : Gathered) → g.waiting ≡ [] → g.given ++ g.waiting ≡ g.given
given_is_all g none = ap (λ (w : List (List ℕ)). g.given ++ w) none ∙ append-nil g.given

pub gave_all : (g : Gathered) → g.waiting ≡ [] → g.fault ≡ None → IsStanding g → GaveAll g
gave_all g none is h =
    (none, (h.0, subst (λ (list : List (List ℕ)). Records g.fed list h.0) (given_is_all g none) (subst (IsReadAs g.fed (g.given ++ g.waiting) h.0) is h.1)))

limit_passed : (stream : List ℕ) (list : List (List ℕ)) (rest : List ℕ) (f : GatherFault) → (f ≡ NoMemory → ⊥) → IsReadAs stream list rest (Some f) → Refused stream list rest f
limit_passed stream list rest NoMemory other h = absurd (other refl)
limit_passed stream list rest (TooLong sum) other h = h
limit_passed stream list rest TooMany other h = h

pub refused : (g : Gathered) (f : GatherFault) → g.waiting ≡ [] → g.fault ≡ Some f → (f ≡ NoMemory → ⊥) → IsStanding g → (rest : List ℕ) × Refused g.fed g.given rest f
refused g f none is other h =
    (h.0, limit_passed g.fed g.given h.0 f other (subst (λ (list : List (List ℕ)). IsReadAs g.fed list h.0 (Some f)) (given_is_all g none) (subst (IsReadAs g.fed (g.given ++ g.waiting) h.0) is h.1)))

-- ---- how much was read

record_size : (bytes text : List ℕ) → IsFragments bytes text → length text ≤ 2 ^ 22
record_size bytes text i =
    omega (arith, ap length i.spelled, length-append (earlier i.before) (fragment true i.final), length-append (header true (length i.final)) i.final, length-header true (length i.final), length-earlier i.before, ap length i.joined, length-append (concat i.before) i.final, i.many, i.long)

records_size : (text : List ℕ) (list : List (List ℕ)) → AreRecords text list → length text ≤ 2 ^ 22 * length list
records_size text [] h = omega (arith, ap length h)
records_size text (bytes ∷ list) h = omega (arith, ap length h.2, length-append h.0 h.1, record_size bytes h.0 h.3, records_size h.1 list h.4)

rest_size : (rest : List ℕ) → IsRest rest → length rest < 2 ^ 22
rest_size rest r =
    let size : length rest ≡ 4 * length r.before + length (concat r.before) + length r.tail =
    omega (arith, ap length r.spelled, length-append (earlier r.before) r.tail, length-earlier r.before) in
    elim r.short [
      | inl few ↦ omega (arith, size, few, r.within.many, r.within.long)
      | inr o ↦ omega (arith, size, r.within.many, o.long, o.lacks, ap length o.spelled, length-append (header o.last o.size) o.came, length-header o.last o.size)
    ]

-- what was read is little where each whole record of it was given
pub read_size : (fed : List ℕ) (given : List (List ℕ)) (rest : List ℕ) → Records fed given rest → length fed < 2 ^ 22 * (length given + 1)
read_size fed given rest r = omega (arith, ap length r.whole, length-append r.front rest, records_size r.front given r.records, rest_size rest r.ending)

-- a read of some bytes leaves fewer to be read before a record is whole
pub wait_shrinks : (old mid now : Gathered) → mid.fed ≡ old.fed → mid.given ≡ old.given → GaveAll mid → now.given ≡ mid.given → length mid.fed < length now.fed
    → 2 ^ 22 * (length now.given + 1) - length now.fed < 2 ^ 22 * (length old.given + 1) - length old.fed
wait_shrinks old mid now fed given all same more =
    omega (arith, ap length fed, ap length given, ap length same, more, read_size mid.fed mid.given all.1.0 all.1.1)

-- the same list with nothing behind it
pub none_more : {X : Type 0} (xs ys : List X) → xs ≡ ys ++ [] → xs ≡ ys
none_more xs ys e = e ∙ append-nil ys

pub none_waits : (old new : List (List ℕ)) → old ≡ [] → old ≡ [] ++ new → new ≡ []
none_waits old new none e = sym e ∙ none

pub grows_on : (first old mid now one two : List ℕ) → old ≡ first ++ one → mid ≡ old → now ≡ mid ++ two → (more : List ℕ) × (now ≡ first ++ more)
grows_on first old mid now one two e same n = (one ++ two, n ∙ ap (λ (t : List ℕ). t ++ two) (same ∙ e) ∙ append_assoc first one two)

-- none was given where none is left
pub gave_none : (mid now : Gathered) (given : List (List ℕ)) → now ≡ mid → mid.waiting ≡ [] → mid.given ≡ given → IsStanding mid → (now.given ≡ given) × (now.waiting ≡ []) × GivesFirst now
gave_none mid now given same none is h = subst (λ (g : Gathered). (g.given ≡ given) × (g.waiting ≡ []) × GivesFirst g) (sym same) (is, none, gives_first mid h)
