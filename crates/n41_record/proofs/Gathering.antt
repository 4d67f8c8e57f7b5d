-- Records one after another, and the record under way as a rest.
use Rattle.std.proofs.Common.{◌≡◌, ℕ, ◌+◌, List, [], ◌∷◌, ◌++◌, length, refl, sym, ap, subst, ◌∙◌, append_assoc, length-append, arith, Option, None, Some, Result, Ok, Err, inl, inr}
use Rattle.std.proofs.lemmas.List.{append-nil}
use Rattle.std.specs.List.{concat}
use Rattle.std.specs.declared.vec.Vec.{Vec}
use Rattle.std.specs.declared.alloc.Global.{Global}
use Rattle.n41_record.specs.declared.partial.Partial.{Partial}
use Rattle.n41_record.specs.declared.partial.Open.{Open}
use Rattle.n41_record.specs.declared.fault.GatherFault.{GatherFault}
use Rattle.n41_record.specs.declared.fault.GatherFault.TheVariants.{TooLong, TooMany, NoMemory}
use Rattle.n41_record.specs.Fragments.{header, IsRest}
use Rattle.n41_record.specs.Streams.{AreRecords, BeginsWith}
use Rattle.n41_record.specs.Gathered.{IsReadAs}
use Rattle.n41_record.specs.Partials.{IsPlaced, Holds, Grows, Stops}
use Rattle.n41_record.specs.Sound.{IsStored, IsSound, Goes, Gathers}

pub records_append : (a b : List ℕ) (xs ys : List (List ℕ)) → AreRecords a xs → AreRecords b ys → AreRecords (a ++ b) (xs ++ ys)
records_append a b [] ys e rs = subst (λ (x : List ℕ). AreRecords (x ++ b) ys) (sym e) rs
records_append a b (x ∷ xs) ys r rs =
    (r.0, r.1 ++ b, ap (λ (t : List ℕ). t ++ b) r.2 ∙ append_assoc r.0 r.1 b, r.3, records_append r.1 b xs ys r.4 rs)

placed_rest : (p : Partial) (rest : List ℕ) (o : Option Open) → IsPlaced p rest o → IsRest rest
placed_rest p rest None h = record {
  before = h.0.before;
  tail = p.head.items;
  spelled = h.0.spelled;
  within = record { many = omega (arith, h.0.count, h.0.many); long = omega (arith, h.0.long, ap length h.0.bytes) };
  short = inl h.1;
}
placed_rest p rest (Some o) h = record {
  before = h.0.before;
  tail = header o.last (length h.0.came + o.left) ++ h.0.came;
  spelled = h.0.spelled;
  within = record { many = omega (arith, h.0.many); long = omega (arith, h.0.long, ap length h.0.bytes, length-append (concat h.0.before) h.0.came) };
  short = inr (record {
    last = o.last;
    size = length h.0.came + o.left;
    came = h.0.came;
    spelled = refl;
    lacks = omega (arith, h.1);
    many = h.0.many;
    long = omega (arith, h.0.long, ap length h.0.bytes, length-append (concat h.0.before) h.0.came);
  });
}

-- what is held of a record is a rest
pub held_rest : (p : Partial) (rest : List ℕ) → Holds p rest → IsRest rest
held_rest p rest h = placed_rest p rest p.part h.placed

pub read_as : (fed : List ℕ) (list : List (List ℕ)) (p : Partial) (rest : List ℕ) (fault : Option GatherFault) → IsStored fed list p rest fault
    → IsReadAs fed list rest fault × (p.came ≡ length rest)
read_as fed list p rest None h = (record { front = h.0.front; whole = h.0.whole; records = h.0.records; ending = held_rest p rest h.1 }, h.1.size)
read_as fed list p rest (Some fault) h = h

pub along : (fed later : List ℕ) (list others : List (List ℕ)) (p : Partial) (fault : Option GatherFault) → fed ≡ later → list ≡ others → IsSound fed list p fault → IsSound later others p fault
along fed later list others p fault e f h = subst (λ (x : List ℕ). IsSound x others p fault) e (subst (λ (x : List (List ℕ)). IsSound fed x p fault) f h)

-- what a Gather keeps is what its callers see
pub sound_leaves : (fed : List ℕ) (list : List (List ℕ)) (p : Partial) (fault : Option GatherFault) → IsSound fed list p fault → (rest : List ℕ) × IsReadAs fed list rest fault
sound_leaves fed list p fault s = (s.0, (read_as fed list p s.0 fault s.1).0)

pub is_held : (fed : List ℕ) (list : List (List ℕ)) (p : Partial) (fault : Option GatherFault) → fault ≡ None → IsSound fed list p fault
    → (rest : List ℕ) × BeginsWith fed list rest × Holds p rest
is_held fed list p fault e h =
    let k : IsSound fed list p None = subst (IsSound fed list p) e h in
    (k.0, k.1.0, k.1.1)

cut_along : (rest piece front after : List ℕ) → piece ≡ front ++ after → rest ++ piece ≡ (rest ++ front) ++ after
cut_along rest piece front after cut = ap (λ (x : List ℕ). rest ++ x) cut ∙ sym (append_assoc rest front after)

-- a record has come whole, and waits
pub went_whole : (p : Partial) (old new : List (List ℕ)) (rest piece front after : List ℕ) (whole : Option (Vec ℕ Global)) (v : Vec ℕ Global) → piece ≡ front ++ after
    → Grows p (rest ++ front) whole → whole ≡ Some v → new ≡ old ++ v.items ∷ [] → Goes p old new (rest ++ piece) after
went_whole p old new rest piece front after whole v cut grown is e =
    let g : Grows p (rest ++ front) (Some v) = subst (Grows p (rest ++ front)) is grown in
    record {
      front = rest ++ front;
      added = v.items ∷ [];
      rest = [];
      cut = cut_along rest piece front after cut;
      records = (rest ++ front, [], sym (append-nil (rest ++ front)), g.0, refl);
      waiting = e;
      holds = g.1;
    }

-- the record under way is not whole
pub went_more : (p : Partial) (old new : List (List ℕ)) (rest piece front after : List ℕ) (whole : Option (Vec ℕ Global)) → piece ≡ front ++ after
    → Grows p (rest ++ front) whole → whole ≡ None → new ≡ old → Goes p old new (rest ++ piece) after
went_more p old new rest piece front after whole cut grown is e = record {
  front = [];
  added = [];
  rest = rest ++ front;
  cut = cut_along rest piece front after cut;
  records = refl;
  waiting = e ∙ sym (append-nil old);
  holds = subst (Grows p (rest ++ front)) is grown;
}

pub goes_on : (p q : Partial) (old mid new : List (List ℕ)) (text after later : List ℕ) → Goes p old mid text after
    → ((rest : List ℕ) → Holds p rest → Goes q mid new (rest ++ after) later) → Goes q old new text later
goes_on p q old mid new text after later g next =
    let h : Goes q mid new (g.rest ++ after) later = next g.rest g.holds in
    record {
      front = g.front ++ h.front;
      added = g.added ++ h.added;
      rest = h.rest;
      cut = g.cut ∙ ap (λ (x : List ℕ). g.front ++ x) h.cut ∙ sym (append_assoc g.front h.front (h.rest ++ later));
      records = records_append g.front h.front g.added h.added g.records h.records;
      waiting = h.waiting ∙ ap (λ (x : List (List ℕ)). x ++ h.added) g.waiting ∙ append_assoc old g.added h.added;
      holds = h.holds;
    }

pub stopped : {T : Type 0} (p q : Partial) (old mid new : List (List ℕ)) (text after : List ℕ) (f : GatherFault) → Goes p old mid text after
    → ((rest : List ℕ) → Holds p rest → (new ≡ mid) × Stops (rest ++ after) f) → q.came ≡ p.came + length after → Gathers {T = T} q old new text (Err f)
stopped p q old mid new text after f g next came =
    let h : (new ≡ mid) × Stops (g.rest ++ after) f = next g.rest g.holds in
    record {
      front = g.front;
      added = g.added;
      rest = g.rest ++ after;
      cut = g.cut;
      records = g.records;
      waiting = h.0 ∙ g.waiting;
      ends = (omega (arith, came, g.holds.size, length-append g.rest after), h.1);
    }

nothing_left : (xs : List ℕ) → length xs ≡ 0 → xs ≡ []
nothing_left [] e = refl
nothing_left (x ∷ xs) e = absurd (omega (arith, e))

pub ended : {T : Type 0} (p : Partial) (old new : List (List ℕ)) (text after : List ℕ) (x : T) → Goes p old new text after → length after ≡ 0 → Gathers p old new text (Ok x)
ended p old new text after x g e = record {
  front = g.front;
  added = g.added;
  rest = g.rest;
  cut = g.cut ∙ ap (λ (t : List ℕ). g.front ++ t) (ap (λ (t : List ℕ). g.rest ++ t) (nothing_left after e) ∙ append-nil g.rest);
  records = g.records;
  waiting = g.waiting;
  ends = g.holds;
}

begun : {T : Type 0} (fed piece : List ℕ) (given old new : List (List ℕ)) (q : Partial) (rest : List ℕ) (r : Result T GatherFault) → BeginsWith fed (given ++ old) rest
    → (g : Gathers q old new (rest ++ piece) r) → BeginsWith (fed ++ piece) (given ++ new) g.rest
begun fed piece given old new q rest r b g = record {
  front = b.front ++ g.front;
  whole = ap (λ (x : List ℕ). x ++ piece) b.whole ∙ append_assoc b.front rest piece ∙ ap (λ (x : List ℕ). b.front ++ x) g.cut ∙ sym (append_assoc b.front g.front g.rest);
  records = subst (AreRecords (b.front ++ g.front)) (append_assoc given old g.added ∙ ap (λ (x : List (List ℕ)). given ++ x) (sym g.waiting)) (records_append b.front g.front (given ++ old) g.added b.records g.records);
}

faulty : (fed : List ℕ) (list : List (List ℕ)) (rest : List ℕ) (f : GatherFault) → BeginsWith fed list rest → Stops rest f → IsReadAs fed list rest (Some f)
faulty fed list rest (TooLong n) b s = record { front = b.front; whole = b.whole; records = b.records; ending = s }
faulty fed list rest TooMany b s = record { front = b.front; whole = b.whole; records = b.records; ending = s }
faulty fed list rest NoMemory b s = b

-- a piece was gathered whole, or up to a fault
pub sound_ok : {T : Type 0} (fed piece : List ℕ) (given old new : List (List ℕ)) (p q : Partial) (fault : Option GatherFault) (x : T) → fault ≡ None → IsSound fed (given ++ old) p fault
    → ((rest : List ℕ) → Holds p rest → Gathers q old new (rest ++ piece) (Ok x)) → IsSound (fed ++ piece) (given ++ new) q fault
sound_ok fed piece given old new p q fault x e h next =
    let k = is_held fed (given ++ old) p fault e h in
    let g = next k.0 k.2 in
    let s : IsSound (fed ++ piece) (given ++ new) q None = (g.rest, (begun fed piece given old new q k.0 (Ok x) k.1 g, g.ends)) in
    subst (IsSound (fed ++ piece) (given ++ new) q) (sym e) s

pub sound_err : {T : Type 0} (fed piece : List ℕ) (given old new : List (List ℕ)) (p q : Partial) (fault : Option GatherFault) (f : GatherFault) → fault ≡ None → IsSound fed (given ++ old) p fault
    → ((rest : List ℕ) → Holds p rest → Gathers {T = T} q old new (rest ++ piece) (Err f)) → IsSound (fed ++ piece) (given ++ new) q (Some f)
sound_err {T} fed piece given old new p q fault f e h next =
    let k = is_held fed (given ++ old) p fault e h in
    let g = next k.0 k.2 in
    (g.rest, (faulty (fed ++ piece) (given ++ new) g.rest f (begun {T = T} fed piece given old new q k.0 (Err f) k.1 g) g.ends.1, g.ends.0))
