-- How many handles a record has in each mode, and what they let do together.
use Rattle.std.proofs.Common.{◌≡◌, ℕ, ◌+◌, ◌-◌, nat_lt, Bool, true, false, if◌then◌else◌, List, [], ◌∷◌, None, Some, refl, sym, ◌∙◌, ap, arith}
use Rattle.std.specs.Map.{values_of}
use Rattle.std.proofs.lemmas.Bool.{lt-ltb}
use Rattle.std.proofs.lemmas.Bool.Decides.{nat_tests}
use Rattle.std.proofs.lemmas.List.Sums.{sum_by-cons}
use Rattle.n41_types.specs.declared.spans.Mode.{Mode}
use Rattle.n41_types.specs.declared.spans.Mode.TheVariants.{Read, Write, Both}
use Rattle.n41_opens.specs.declared.ids.RecordId.{RecordId}
use Rattle.n41_opens.specs.declared.handles.Open.{Open}
use Rattle.n41_opens.specs.declared.modes.Tally.{Tally}
use Rattle.n41_opens.specs.Ids.{is_id}
use Rattle.n41_opens.specs.Modes.{joined_with, union}
use Rattle.n41_opens.specs.Opens.{has, modes}
use Rattle.n41_opens.specs.Inside.{nothing, amount, more, fewer, union_by, union_of, is_mode, weight, count}

abbrev pub one : Bool → ℕ
one b = if b then 1 else 0

pub amount_nothing : (m : Mode) → amount m nothing ≡ 0
amount_nothing Read = refl
amount_nothing Write = refl
amount_nothing Both = refl

pub amount_more : (k m : Mode) (t : Tally) → amount k (more m t) ≡ amount k t + one (is_mode k m)
amount_more Read Read t = refl
amount_more Read Write t = omega arith
amount_more Read Both t = omega arith
amount_more Write Read t = omega arith
amount_more Write Write t = refl
amount_more Write Both t = omega arith
amount_more Both Read t = omega arith
amount_more Both Write t = omega arith
amount_more Both Both t = refl

pub amount_fewer : (k m : Mode) (t : Tally) → amount k (fewer m t) ≡ amount k t - one (is_mode k m)
amount_fewer Read Read t = refl
amount_fewer Read Write t = omega arith
amount_fewer Read Both t = omega arith
amount_fewer Write Read t = omega arith
amount_fewer Write Write t = refl
amount_fewer Write Both t = omega arith
amount_fewer Both Read t = omega arith
amount_fewer Both Write t = omega arith
amount_fewer Both Both t = refl

pub is_mode_itself : (m : Mode) → is_mode m m ≡ true
is_mode_itself Read = refl
is_mode_itself Write = refl
is_mode_itself Both = refl

-- tallies with the same amounts are the same
pub same_amounts : (s t : Tally) → ((m : Mode) → amount m s ≡ amount m t) → s ≡ t
same_amounts s t h =
    ap (λ (n : ℕ). record { read = n; write = s.write; both = s.both }) (h Read)
    ∙ (ap (λ (n : ℕ). record { read = t.read; write = n; both = s.both }) (h Write)
    ∙ ap (λ (n : ℕ). record { read = t.read; write = t.write; both = n }) (h Both))

-- ---- what they let do together

more_read : (r w b : Bool) → union_by true w b ≡ Some (joined_with Read (union_by r w b))
more_read true true true = refl
more_read true true false = refl
more_read true false true = refl
more_read true false false = refl
more_read false true true = refl
more_read false true false = refl
more_read false false true = refl
more_read false false false = refl

more_write : (r w b : Bool) → union_by r true b ≡ Some (joined_with Write (union_by r w b))
more_write true true true = refl
more_write true true false = refl
more_write true false true = refl
more_write true false false = refl
more_write false true true = refl
more_write false true false = refl
more_write false false true = refl
more_write false false false = refl

more_both : (r w b : Bool) → union_by r w true ≡ Some (joined_with Both (union_by r w b))
more_both true true true = refl
more_both true true false = refl
more_both true false true = refl
more_both true false false = refl
more_both false true true = refl
more_both false true false = refl
more_both false false true = refl
more_both false false false = refl

some_more : (n : ℕ) → nat_lt 0 (n + 1) ≡ true
some_more n = lt-ltb 0 (n + 1) (omega arith)

pub union_more : (m : Mode) (t : Tally) → union_of (more m t) ≡ Some (joined_with m (union_of t))
union_more Read t = rw (some_more t.read) (more_read (nat_lt 0 t.read) (nat_lt 0 t.write) (nat_lt 0 t.both))
union_more Write t = rw (some_more t.write) (more_write (nat_lt 0 t.read) (nat_lt 0 t.write) (nat_lt 0 t.both))
union_more Both t = rw (some_more t.both) (more_both (nat_lt 0 t.read) (nat_lt 0 t.write) (nat_lt 0 t.both))

pub union_some : (m : Mode) (t : Tally) → union_of (more m t) ≡ None → ⊥
union_some m t e = absurd (let f = union_more m t in cc)

all_zero : (r w b : Bool) → union_by r w b ≡ None → (r ≡ false) × (w ≡ false) × (b ≡ false)
all_zero true true true e = absurd (cc)
all_zero true true false e = absurd (cc)
all_zero true false true e = absurd (cc)
all_zero true false false e = absurd (cc)
all_zero false true true e = absurd (cc)
all_zero false true false e = absurd (cc)
all_zero false false true e = absurd (cc)
all_zero false false false e = (refl, refl, refl)

not_positive : (n : ℕ) → nat_lt 0 n ≡ false → n ≡ 0
not_positive n e = grind (arith, nat_tests, e)

pub union_none : (t : Tally) → union_of t ≡ None → (m : Mode) → amount m t ≡ 0
union_none t e Read = not_positive t.read (all_zero (nat_lt 0 t.read) (nat_lt 0 t.write) (nat_lt 0 t.both) e).0
union_none t e Write = not_positive t.write (all_zero (nat_lt 0 t.read) (nat_lt 0 t.write) (nat_lt 0 t.both) e).1
union_none t e Both = not_positive t.both (all_zero (nat_lt 0 t.read) (nat_lt 0 t.write) (nat_lt 0 t.both) e).2

pub none_union : (t : Tally) → ((m : Mode) → amount m t ≡ 0) → union_of t ≡ None
none_union t h = rw (same_amounts t nothing (λ m. h m ∙ sym (amount_nothing m))) refl

-- ---- the handles of a record

pub count_cons : (e : ℕ × Open) (es : List (ℕ × Open)) (r : RecordId) (m : Mode) → count (e ∷ es) r m ≡ weight r m e.1 + count es r m
count_cons e es r m = sum_by-cons (weight r m) e.1 (values_of es)

abbrev pub tallied : List Mode → Tally
tallied [] = nothing
tallied (m ∷ ms) = more m (tallied ms)

union_tallied : (ms : List Mode) → union_of (tallied ms) ≡ union ms
union_tallied [] = refl
union_tallied (m ∷ ms) = union_more m (tallied ms) ∙ ap (λ u. Some (joined_with m u)) (union_tallied ms)

tallied_by : (e : ℕ × Open) (es : List (ℕ × Open)) (r : RecordId) (k : Mode) → amount k (tallied (modes es r)) ≡ count es r k → (b : Bool) → is_id r e.1.id ≡ b → amount k (tallied (modes (e ∷ es) r)) ≡ count (e ∷ es) r k
tallied_by e es r k ih true h =
    let f : weight r k e.1 ≡ one (is_mode k e.1.mode) = rw h refl in
    let g = amount_more k e.1.mode (tallied (modes es r)) in
    let d = count_cons e es r k in
    rw h (omega (arith, ih, f, g, d))
tallied_by e es r k ih false h =
    let f : weight r k e.1 ≡ 0 = rw h refl in
    let d = count_cons e es r k in
    rw h (omega (arith, ih, f, d))

pub amount_tallied : (es : List (ℕ × Open)) (r : RecordId) (k : Mode) → amount k (tallied (modes es r)) ≡ count es r k
amount_tallied [] r k = amount_nothing k
amount_tallied (e ∷ es) r k = tallied_by e es r k (amount_tallied es r k) (is_id r e.1.id) refl

-- a tally with the counts of a record says what its handles let do together
pub union_counted : (es : List (ℕ × Open)) (r : RecordId) (t : Tally) → ((m : Mode) → amount m t ≡ count es r m) → union_of t ≡ union (modes es r)
union_counted es r t h = ap (λ (s : Tally). union_of s) (same_amounts t (tallied (modes es r)) (λ m. h m ∙ sym (amount_tallied es r m))) ∙ union_tallied (modes es r)

-- ---- whether a record has handles

has_none_by : (e : ℕ × Open) (es : List (ℕ × Open)) (r : RecordId) (m : Mode) → (has es r ≡ false → count es r m ≡ 0) → has (e ∷ es) r ≡ false → (b : Bool) → is_id r e.1.id ≡ b → count (e ∷ es) r m ≡ 0
has_none_by e es r m ih n true h = absurd (let f : has (e ∷ es) r ≡ true = rw h refl in cc)
has_none_by e es r m ih n false h =
    let f : has (e ∷ es) r ≡ has es r = rw h refl in
    let g : weight r m e.1 ≡ 0 = rw h refl in
    let d = count_cons e es r m in
    let i = ih (sym f ∙ n) in
    omega (arith, d, g, i)

pub has_none : (es : List (ℕ × Open)) (r : RecordId) (m : Mode) → has es r ≡ false → count es r m ≡ 0
has_none [] r m n = refl
has_none (e ∷ es) r m n = has_none_by e es r m (has_none es r m) n (is_id r e.1.id) refl

none_has_by : (e : ℕ × Open) (es : List (ℕ × Open)) (r : RecordId) → (((m : Mode) → count es r m ≡ 0) → has es r ≡ false) → ((m : Mode) → count (e ∷ es) r m ≡ 0) → (b : Bool) → is_id r e.1.id ≡ b → has (e ∷ es) r ≡ false
none_has_by e es r ih z true h = absurd (
    let f : weight r e.1.mode e.1 ≡ 1 = rw (h, is_mode_itself e.1.mode) refl in
    let d = count_cons e es r e.1.mode in
    let y = z e.1.mode in
    omega (arith, d, f, y))
none_has_by e es r ih z false h = rw h (ih (λ m. (let d = count_cons e es r m in let y = z m in omega (arith, d, y))))

pub none_has : (es : List (ℕ × Open)) (r : RecordId) → ((m : Mode) → count es r m ≡ 0) → has es r ≡ false
none_has [] r z = refl
none_has (e ∷ es) r z = none_has_by e es r (none_has es r) z (is_id r e.1.id) refl
