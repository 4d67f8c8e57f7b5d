-- What was printed of a stream, as it goes on.
use Rattle.std.proofs.Common.{◌≡◌, ◌≤◌, ◌+◌, ◌∙◌, ap, sym, subst, ℕ, suc, List, [], ◌∷◌, ◌++◌, length, arith, length-append, append_assoc, append-nil, refl, take, drop, None, Some, Ok, Err, Result, Bool, true, false, inl}
use Rattle.std.proofs.lemmas.List.{take-append-drop}
use Rattle.std.specs.Result.{is_err}
use Rattle.std.specs.Prelude.{IsSome, OnOk, OnErr}
use Rattle.std.specs.declared.option.Option.{Option}
use Rattle.std.specs.Io.KnownBytes.{prepend_known, append_known}
use Rattle.n41_record.specs.declared.fault.GatherFault.{GatherFault}
use Rattle.n41_record.specs.declared.fault.GatherFault.TheVariants.{TooLong, TooMany, NoMemory}
use Rattle.n41_record.specs.Fragments.{header, earlier, fragment}
use Rattle.n41_record.specs.Streams.{AreRecords, Records, Refused, BeginsWith}
use Rattle.n41_record.specs.Gathered.{Gathered, IsReadAs, IsStanding, Leaves}
use Rattle.n41_record.proofs.Spelled.{length-header}
use Rattle.n41_record.proofs.Cut.{refused_stays}
use Rattle.n41_link.specs.Counts.{Counts}
use Rattle.n41_link.proofs.Records.{gives_first, refused}
use Rattle.n41_lines.specs.declared.side.Side.{Side}
use Rattle.n41_lines.specs.declared.last.Last.TheVariants.{Rest, Long, Many}
use Rattle.n41_lines.specs.Lines.{line}
use Rattle.n41_dump.specs.declared.printer.Printer.{Printer}
use Rattle.n41_dump.specs.Dumps.{lines, EndsAs, EndsIn, Dumps, BeginsDump}
use Rattle.n41_streams.specs.Streams.{Gave, TookPart}
use Rattle.n41_dump.specs.Steps.{IsPrinted, Puts, IsFed, Stands, Raises, IsStarted}
use Rattle.n41_streams.proofs.Growing.{append_known-append}

-- ---- texts

pub lines_more : (side : Side) (n : ℕ) (list : List (List ℕ)) (b : List ℕ) → lines side n (list ++ b ∷ []) ≡ lines side n list ++ line side (n + length list) b
lines_more side n [] b = append-nil (line side n b) ∙ ap (λ (m : ℕ). line side m b) (omega arith)
lines_more side n (x ∷ list) b =
    ap (λ (t : List ℕ). line side n x ++ t) (lines_more side (suc n) list b ∙ ap (λ (m : ℕ). lines side (suc n) list ++ line side m b) (omega arith))
    ∙ sym (append_assoc (line side n x) (lines side (suc n) list) (line side (n + length (x ∷ list)) b))

-- a text behind another
pub printed_more : (broken broken_new : Bool) (start old new : Option (List ℕ)) (text more : List ℕ) → IsPrinted broken start old text → Puts broken broken_new old new more → IsPrinted broken_new start new (text ++ more)
printed_more false false start old new text more p q = q ∙ ap (λ (t : Option (List ℕ)). append_known t more) p ∙ sym (append_known-append start text more)
printed_more false true start old new text more p q = record {
  part = text ++ q.part;
  more = q.more;
  cut = ap (λ (t : List ℕ). text ++ t) q.cut ∙ sym (append_assoc text q.part q.more);
  took = q.took ∙ ap (λ (t : Option (List ℕ)). append_known t q.part) p ∙ sym (append_known-append start text q.part);
}
printed_more true false start old new text more p q = absurd cc
printed_more true true start old new text more p q = record {
  part = p.part;
  more = p.more ++ more;
  cut = ap (λ (t : List ℕ). t ++ more) p.cut ∙ append_assoc p.part p.more more;
  took = q.1 ∙ p.took;
}

-- a text was written, or a part of it
pub put_text : {T E : Type 0} (broken is : Bool) (r : Result T E) (old new : Option (List ℕ)) (text : List ℕ) → broken ≡ false → is ≡ is_err r
    → OnOk r (new ≡ append_known old text) → OnErr r ((n : ℕ) × (new ≡ append_known old (take n text))) → Puts broken is old new text
put_text broken is (Ok x) old new text e1 e2 ok err = rw (e1, e2) ok
put_text broken is (Err x) old new text e1 e2 ok err = rw (e1, e2) (record { part = take err.0 text; more = drop err.0 text; cut = sym (take-append-drop err.0 text); took = err.1 })

pub as_part : (broken : Bool) (start taken : Option (List ℕ)) (text : List ℕ) → IsPrinted broken start taken text → TookPart start taken text
as_part false start taken text p = record { part = text; more = []; cut = sym (append-nil text); took = p }
as_part true start taken text p = p

-- a part of a text is one of a longer one
pub part_of_more : (start taken : Option (List ℕ)) (text more : List ℕ) → TookPart start taken text → TookPart start taken (text ++ more)
part_of_more start taken text more p = record {
  part = p.part;
  more = p.more ++ more;
  cut = ap (λ (t : List ℕ). t ++ more) p.cut ∙ append_assoc p.part p.more more;
  took = p.took;
}

-- ---- streams

pub prepend_more : (xs ys : List ℕ) (known : Option (List ℕ)) → prepend_known xs (prepend_known ys known) ≡ prepend_known (xs ++ ys) known
prepend_more xs ys None = refl
prepend_more xs ys (Some zs) = ap Some (sym (append_assoc xs ys zs))

pub gave_none : (left : Option (List ℕ)) → Gave left left []
gave_none None = refl
gave_none (Some xs) = refl

pub gave_more : (a b c : Option (List ℕ)) (stream piece : List ℕ) → Gave a b stream → Gave b c piece → Gave a c (stream ++ piece)
gave_more a b c stream piece g h = g ∙ ap (prepend_known stream) h ∙ prepend_more stream piece c

pub gave_same : (a b c : Option (List ℕ)) (stream : List ℕ) → Gave a b stream → c ≡ b → Gave a c stream
gave_same a b c stream g e = g ∙ ap (prepend_known stream) (sym e)

all_fed : (f : Option GatherFault) (fed stream : List ℕ) → stream ≡ fed → IsFed f fed stream
all_fed None fed stream e = e
all_fed (Some f) fed stream e = ([], e ∙ sym (append-nil fed))

fed_front : (f : Option GatherFault) (fed stream : List ℕ) → IsFed f fed stream → (more : List ℕ) × (stream ≡ fed ++ more)
fed_front None fed stream e = ([], e ∙ sym (append-nil fed))
fed_front (Some f) fed stream e = e

fed_more_by : (f : Option GatherFault) (old new : Gathered) (stream piece : List ℕ) → old.fault ≡ f → (old.fault ≡ None → new.fed ≡ old.fed ++ piece) → (IsSome old.fault → new ≡ old) → IsFed f old.fed stream → IsFed new.fault new.fed (stream ++ piece)
fed_more_by None old new stream piece is fed later e = all_fed new.fault new.fed (stream ++ piece) (ap (λ (t : List ℕ). t ++ piece) e ∙ sym (fed is))
fed_more_by (Some f) old new stream piece is fed later e =
    let same : new ≡ old = later (rw is refl) in
    subst (λ (g : Gathered). IsFed g.fault g.fed (stream ++ piece)) (sym same)
    (rw is (e.0 ++ piece, ap (λ (t : List ℕ). t ++ piece) e.1 ∙ append_assoc old.fed e.0 piece))

-- a piece was fed
pub fed_more : (old new : Gathered) (stream piece : List ℕ) → (old.fault ≡ None → new.fed ≡ old.fed ++ piece) → (IsSome old.fault → new ≡ old) → IsFed old.fault old.fed stream → IsFed new.fault new.fed (stream ++ piece)
fed_more old new stream piece fed later e = fed_more_by old.fault old new stream piece refl fed later e

begins_on : (fed stream : List ℕ) (list : List (List ℕ)) (rest more : List ℕ) → stream ≡ fed ++ more → BeginsWith fed list rest → BeginsWith stream list (rest ++ more)
begins_on fed stream list rest more e b = record {
  front = b.front;
  whole = e ∙ ap (λ (t : List ℕ). t ++ more) b.whole ∙ append_assoc b.front rest more;
  records = b.records;
}

-- what was given stands first in the stream
pub given_first : (g : Gathered) (stream : List ℕ) → IsFed g.fault g.fed stream → IsStanding g → (rest : List ℕ) × BeginsWith stream g.given rest
given_first g stream e standing =
    let first = gives_first g standing in
    let all = fed_front g.fault g.fed stream e in
    (first.0 ++ all.0, begins_on g.fed stream g.given first.0 all.0 all.1 first.1)

pub begun : (side : Side) (g : Gathered) (stream : List ℕ) (start taken : Option (List ℕ)) → IsFed g.fault g.fed stream → IsStanding g → TookPart start taken (lines side 1 g.given) → BeginsDump side stream start taken
begun side g stream start taken e standing p =
    let first = given_first g stream e standing in
    record { list = g.given; rest = first.0; begins = first.1; took = p }

-- a dump that has begun has begun of a longer stream
pub begun_more : (side : Side) (stream more : List ℕ) (start taken : Option (List ℕ)) → BeginsDump side stream start taken → BeginsDump side (stream ++ more) start taken
begun_more side stream more start taken b = record {
  list = b.list;
  rest = b.rest ++ more;
  begins = begins_on stream (stream ++ more) b.list b.rest more refl b.begins;
  took = b.took;
}

-- ---- how many records there are

records_size : (text : List ℕ) (list : List (List ℕ)) → AreRecords text list → length list ≤ length text
records_size text [] h = omega arith
records_size text (x ∷ list) h =
    omega (
      arith,
      records_size h.1 list h.4,
      ap length h.2,
      length-append h.0 h.1,
      ap length h.3.spelled,
      length-append (earlier h.3.before) (fragment true h.3.final),
      length-append (header true (length h.3.final)) h.3.final,
      length-header true (length h.3.final),
    )

pub begins_size : (stream : List ℕ) (list : List (List ℕ)) (rest : List ℕ) → BeginsWith stream list rest → length list ≤ length stream
begins_size stream list rest b = omega (arith, records_size b.front list b.records, ap length b.whole, length-append b.front rest)

-- ---- counts

pub raises_none : (broken : Bool) (n : ℕ) → Raises broken broken n n
raises_none false n = record { later = omega arith; rose = λ t. absurd (cc t) }
raises_none true n = (refl, refl)

pub raises_on : (a b c : Bool) (f g h : ℕ) → Raises a b f g → Raises b c g h → Raises a c f h
raises_on true b c f g h r s =
    let t : Raises true c g h = subst (λ (x : Bool). Raises x c g h) r.0 s in
    (t.0, t.1 ∙ r.1)
raises_on false false c f g h r s = record { later = omega (arith, r.later, s.later); rose = λ t. omega (arith, r.later, s.rose t) }
raises_on false true c f g h r s = subst (λ (x : Bool). Counts f h x) (sym s.0) (record { later = omega (arith, r.later, s.1); rose = λ t. omega (arith, r.rose refl, s.1) })

-- counted from where nothing was broken
pub raises_counts : (b c : Bool) (f g h : ℕ) → Counts f g b → Raises b c g h → Counts f h c
raises_counts b c f g h r s = raises_on false b c f g h r s

-- ---- a printer

pub started : (p : Printer) (taken : Option (List ℕ)) → IsStarted p → Stands p [] taken taken
started p taken s = record {
  fed = rw s.fed refl;
  standing = rw s.fed (
    [],
    record {
      front = [];
      whole = refl;
      records = refl;
      ending = record { before = []; tail = []; spelled = refl; within = record { many = omega arith; long = omega arith }; short = inl (omega arith) };
    },
  );
  counted = rw (s.fed, s.number) refl;
  printed = rw (s.fed, s.whole) (sym (nothing_more taken));
} where
  nothing_more : (known : Option (List ℕ)) → append_known known [] ≡ known
  nothing_more None = refl
  nothing_more (Some xs) = ap Some (append-nil xs)

pub stands_more : (p q : Printer) (stream : List ℕ) (start taken taken_new : Option (List ℕ)) (b : List ℕ) → Stands p stream start taken
    → q.gather.given ≡ p.gather.given ++ b ∷ [] → q.gather.fed ≡ p.gather.fed → q.gather.fault ≡ p.gather.fault → IsStanding q.gather → q.number ≡ p.number + 1 → q.side ≡ p.side
    → Puts p.broken q.broken taken taken_new (line q.side q.number b) → Stands q stream start taken_new
stands_more p q stream start taken taken_new b s given fed fault standing number side puts =
    let count : q.number ≡ 1 + length p.gather.given = omega (arith, number, s.counted) in
    let put : Puts p.broken q.broken taken taken_new (line p.side (1 + length p.gather.given) b) = subst (λ (t : List ℕ). Puts p.broken q.broken taken taken_new t) (ap (λ (z : Side). line z q.number b) side ∙ ap (λ (n : ℕ). line p.side n b) count) puts in
    record {
      fed = rw (fault, fed) s.fed;
      standing = standing;
      counted = omega (arith, number, s.counted, ap length given, length-append p.gather.given (b ∷ []));
      printed = rw (side, given, lines_more p.side 1 p.gather.given b) (printed_more p.broken q.broken start taken taken_new (lines p.side 1 p.gather.given) (line p.side (1 + length p.gather.given) b) s.printed put);
    }

-- a record was taken, and there was no memory to print it
pub begun_more_given : (p : Printer) (g : Gathered) (stream : List ℕ) (start taken : Option (List ℕ)) (b : List ℕ) → Stands p stream start taken
    → g.given ≡ p.gather.given ++ b ∷ [] → g.fed ≡ p.gather.fed → g.fault ≡ p.gather.fault → IsStanding g → BeginsDump p.side stream start taken
begun_more_given p g stream start taken b s given fed fault standing =
    begun p.side g stream start taken (rw (fault, fed) s.fed) standing
    (rw (given, lines_more p.side 1 p.gather.given b) (part_of_more start taken (lines p.side 1 p.gather.given) (line p.side (1 + length p.gather.given) b) (as_part p.broken start taken (lines p.side 1 p.gather.given) s.printed)))

-- no more records are printed than bytes came
pub number_bound : (p : Printer) (stream : List ℕ) (start taken : Option (List ℕ)) → Stands p stream start taken → p.number ≤ length stream
number_bound p stream start taken s =
    let first = given_first p.gather stream s.fed s.standing in
    omega (arith, s.counted, begins_size stream p.gather.given first.0 first.1)

-- a piece was fed
pub stands_fed : (p q : Printer) (stream piece : List ℕ) (start taken : Option (List ℕ)) → Stands p stream start taken
    → (p.gather.fault ≡ None → q.gather.fed ≡ p.gather.fed ++ piece) → (IsSome p.gather.fault → q.gather ≡ p.gather) → q.gather.given ≡ p.gather.given → IsStanding q.gather
    → q.number ≡ p.number → q.side ≡ p.side → q.broken ≡ p.broken → Stands q (stream ++ piece) start taken
stands_fed p q stream piece start taken s fed later given standing number side broken = record {
  fed = fed_more p.gather q.gather stream piece fed later s.fed;
  standing = standing;
  counted = omega (arith, number, s.counted, ap length given);
  printed = rw (side, given, broken) s.printed;
}

-- a piece was fed, and there was no memory for it
pub begun_fed : (p : Printer) (g : Gathered) (stream piece : List ℕ) (start taken : Option (List ℕ)) → Stands p stream start taken
    → (p.gather.fault ≡ None → g.fed ≡ p.gather.fed ++ piece) → (IsSome p.gather.fault → g ≡ p.gather) → g.given ≡ p.gather.given → IsStanding g → BeginsDump p.side (stream ++ piece) start taken
begun_fed p g stream piece start taken s fed later given standing =
    begun p.side g (stream ++ piece) start taken (fed_more p.gather g stream piece fed later s.fed) standing
    (rw given (as_part p.broken start taken (lines p.side 1 p.gather.given) s.printed))

-- a dump of a standing printer has begun
pub stands_begun : (p : Printer) (stream : List ℕ) (start taken : Option (List ℕ)) → Stands p stream start taken → BeginsDump p.side stream start taken
stands_begun p stream start taken s = begun p.side p.gather stream start taken s.fed s.standing (as_part p.broken start taken (lines p.side 1 p.gather.given) s.printed)

-- ---- the end

given_is_all : (g : Gathered) → g.waiting ≡ [] → g.given ++ g.waiting ≡ g.given
given_is_all g none = ap (λ (w : List (List ℕ)). g.given ++ w) none ∙ append-nil g.given

pub ends_at_rest : (g : Gathered) (stream rest : List ℕ) → g.waiting ≡ [] → g.fault ≡ None → Leaves g rest → IsFed g.fault g.fed stream → EndsAs stream g.given (Rest (length rest))
ends_at_rest g stream rest none is leaves fed =
    let whole : stream ≡ g.fed = rw is at fed in
    let all : Records g.fed (g.given ++ g.waiting) rest = subst (λ (f : Option GatherFault). IsReadAs g.fed (g.given ++ g.waiting) rest f) is leaves in
    (rest, rw whole (subst (λ (list : List (List ℕ)). Records g.fed list rest) (given_is_all g none) all), refl)

ends_refused : (g : Gathered) (stream : List ℕ) (f : GatherFault) → (f ≡ NoMemory → ⊥) → g.waiting ≡ [] → g.fault ≡ Some f → IsStanding g → IsFed g.fault g.fed stream → (rest : List ℕ) × Refused stream g.given rest f
ends_refused g stream f other none is standing fed =
    let r = refused g f none is other standing in
    let more = fed_front g.fault g.fed stream fed in
    (r.0 ++ more.0, subst (λ (t : List ℕ). Refused t g.given (r.0 ++ more.0) f) (sym more.1) (refused_stays g.fed more.0 g.given r.0 f r.1))

pub ends_long : (g : Gathered) (stream : List ℕ) (sum : ℕ) → g.waiting ≡ [] → g.fault ≡ Some (TooLong sum) → IsStanding g → IsFed g.fault g.fed stream → EndsAs stream g.given Long
ends_long g stream sum none is standing fed =
    let r = ends_refused g stream (TooLong sum) (λ e. cc) none is standing fed in
    (r.0, sum, r.1)

pub ends_many : (g : Gathered) (stream : List ℕ) → g.waiting ≡ [] → g.fault ≡ Some TooMany → IsStanding g → IsFed g.fault g.fed stream → EndsAs stream g.given Many
ends_many g stream none is standing fed = ends_refused g stream TooMany (λ e. cc) none is standing fed

pub finished : (p : Printer) (stream : List ℕ) (start taken taken_new : Option (List ℕ)) (b is : Bool) (final text : List ℕ) → Stands p stream start taken → EndsIn stream p.gather.given final → text ≡ final
    → Puts p.broken b taken taken_new text → b ≡ is → (whole : List ℕ) × Dumps p.side stream whole × IsPrinted is start taken_new whole
finished p stream start taken taken_new b is final text s ends e puts same = (
  lines p.side 1 p.gather.given ++ final,
  record { list = p.gather.given; final = final; ends = ends; spelled = refl },
  subst (λ (x : Bool). IsPrinted x start taken_new (lines p.side 1 p.gather.given ++ final)) same
      (printed_more p.broken b start taken taken_new (lines p.side 1 p.gather.given) final s.printed (subst (λ (t : List ℕ). Puts p.broken b taken taken_new t) e puts)),
)
