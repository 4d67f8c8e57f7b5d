-- All handles move at once: each has its new record before any leaves its older one.
use Rattle.std.proofs.Common.{◌≡◌, ℕ, ◌+◌, ◌-◌, ◌<◌, ◌≤◌, ◌^◌, Bool, true, false, cond, ◌&&◌, ◌||◌, List, [], ◌∷◌, length, filter, Option, None, Some, IsSome, option_map, refl, sym, ◌∙◌, ap, subst, arith}
use Rattle.std.specs.Map.{lookup, remove_entry, set_value, keys_of}
use Rattle.std.specs.BTreeMap.{insert_entry}
use Rattle.std.specs.declared.cmp.Ordering.{Ordering}
use Rattle.std.specs.declared.cmp.Ordering.TheVariants.{Less}
use Rattle.std.specs.List.{AllByRecursion}
use Rattle.std.specs.List.Sorted.{IsStrictlySortedBy}
use Rattle.std.proofs.lemmas.Map.{keys-set_value}
use Rattle.std.proofs.lemmas.Map.Steps.{set_value_same}
use Rattle.n41_types.specs.declared.spans.Mode.{Mode}
use Rattle.n41_types.specs.declared.spans.Mode.TheVariants.{Read}
use Rattle.n41_opens.specs.declared.ids.RecordId.{RecordId}
use Rattle.n41_opens.specs.declared.handles.Open.{Open}
use Rattle.n41_opens.specs.declared.modes.Tally.{Tally}
use Rattle.n41_opens.specs.declared.records.Record.{Record}
use Rattle.n41_opens.specs.Ids.{id_cmp, is_id, id_total}
use Rattle.n41_opens.specs.Opens.{Told, Table, has, with_handles, telling, told_to}
use Rattle.n41_opens.specs.Inside.{amount, more, fewer, union_of, is_mode, weight, count, told_in, seen, tally_by, tally_in, IsCounted, Places, HasRoom, AreFrom, entered, entered_by, all_entered, all_left, lessened_by, left_by, left}
use Rattle.n41_opens.proofs.Lists.{set_is_insert, drop_one, through_set, through_remove, through_lookup, through_insert}
use Rattle.n41_opens.proofs.Tallies.{one, amount_nothing, amount_more, has_none, none_has, count_cons}
use Rattle.n41_opens.proofs.Counts.{id_exact, laws, lookup_set, lookup_gone, Tallied, part, joins, leaves, whole, counts_are, tallied_of, weight_is, count_most}
use Rattle.n41_opens.proofs.Steps.{seen_same}
use Rattle.n41_opens.proofs.Moves.{has_head, has_tail, or_cases}

tallied_as : (rs : List (RecordId × Record)) (n m : RecordId → Mode → ℕ) → Tallied rs n → ((q : RecordId) (k : Mode) → n q k ≡ m q k) → Tallied rs m
tallied_as rs n m v h = record { counted = λ q k. v.counted q k ∙ h q k; some = v.some }

-- ---- the keys stay in order

all_but_by : {K X : Type 0} (P : K → Type 0) (t : K → Bool) (e : K × X) (es : List (K × X)) → AllByRecursion P (keys_of (e ∷ es)) → AllByRecursion P (keys_of (remove_entry t es)) → (b : Bool) → t e.0 ≡ b → AllByRecursion P (keys_of (remove_entry t (e ∷ es)))
all_but_by P t e es a ih true h = rw h a.1
all_but_by P t e es a ih false h = rw h (a.0, ih)

all_but : {K X : Type 0} (P : K → Type 0) (t : K → Bool) (es : List (K × X)) → AllByRecursion P (keys_of es) → AllByRecursion P (keys_of (remove_entry t es))
all_but P t [] a = tt
all_but P t (e ∷ es) a = all_but_by P t e es a (all_but P t es a.1) (t e.0) refl

sorted_by : {K X : Type 0} (R : K → K → Ordering) (t : K → Bool) (e : K × X) (es : List (K × X)) → IsStrictlySortedBy R (keys_of (e ∷ es)) → IsStrictlySortedBy R (keys_of (remove_entry t es)) → (b : Bool) → t e.0 ≡ b → IsStrictlySortedBy R (keys_of (remove_entry t (e ∷ es)))
unfolding IsStrictlySortedBy
sorted_by R t e es s ih true h = rw h s.1
sorted_by R t e es s ih false h = rw h (all_but (λ y. R e.0 y ≡ Less) t es s.0, ih)

sorted_but : {K X : Type 0} (R : K → K → Ordering) (t : K → Bool) (es : List (K × X)) → IsStrictlySortedBy R (keys_of es) → IsStrictlySortedBy R (keys_of (remove_entry t es))
unfolding IsStrictlySortedBy
sorted_but R t [] s = tt
sorted_but R t (e ∷ es) s = sorted_by R t e es s (sorted_but R t es s.1) (t e.0) refl

pub sorted_set : (rs : List (RecordId × Record)) (r : RecordId) (d : Record) → IsStrictlySortedBy id_cmp (keys_of rs) → IsStrictlySortedBy id_cmp (keys_of (set_value (is_id r) rs d))
sorted_set rs r d s = subst (λ ks. IsStrictlySortedBy id_cmp ks) (sym (keys-set_value (is_id r) rs d)) s

-- ---- a handle more

enters : (rs : List (RecordId × Record)) (r : RecordId) (m : Mode) (n : RecordId → Mode → ℕ) → Tallied rs n → (o : Option Record) → lookup (is_id r) rs ≡ o → IsSome o → Tallied (entered_by rs r m o) (λ q k. n q k + part r m q k)
enters rs r m n v None e s = absurd (cc)
enters rs r m n v (Some c) e s =
    let d : Record = record c { tally = more m c.tally } in
    joins rs (set_value (is_id r) rs d) r m d n v (record { at = λ q. lookup_set rs r c d e q; tally = ap (λ o. more m (tally_by o)) (sym e) })

entered_seen : (rs : List (RecordId × Record)) (r : RecordId) (m : Mode) (o : Option Record) → lookup (is_id r) rs ≡ o → seen (entered_by rs r m o) ≡ seen rs
entered_seen rs r m None e = refl
entered_seen rs r m (Some c) e = seen_same rs r c (record c { tally = more m c.tally }) e refl

entered_sorted : (rs : List (RecordId × Record)) (r : RecordId) (m : Mode) (o : Option Record) → IsStrictlySortedBy id_cmp (keys_of rs) → IsStrictlySortedBy id_cmp (keys_of (entered_by rs r m o))
entered_sorted rs r m None s = s
entered_sorted rs r m (Some c) s = sorted_set rs r (record c { tally = more m c.tally }) s

some_set : (rs : List (RecordId × Record)) (r q : RecordId) (c d : Record) → lookup (is_id r) rs ≡ Some c → IsSome (lookup (is_id q) rs) → (b : Bool) → is_id r q ≡ b → IsSome (lookup (is_id q) (set_value (is_id r) rs d))
some_set rs r q c d e s true h =
    let l : lookup (is_id q) (set_value (is_id r) rs d) ≡ Some d = lookup_set rs r c d e q ∙ rw h refl in
    subst (λ (o : Option Record). IsSome o) (sym l) refl
some_set rs r q c d e s false h =
    let l : lookup (is_id q) (set_value (is_id r) rs d) ≡ lookup (is_id q) rs = lookup_set rs r c d e q ∙ rw h refl in
    subst (λ (o : Option Record). IsSome o) (sym l) s

entered_there : (rs : List (RecordId × Record)) (r q : RecordId) (m : Mode) (o : Option Record) → lookup (is_id r) rs ≡ o → IsSome (lookup (is_id q) rs) → IsSome (lookup (is_id q) (entered_by rs r m o))
entered_there rs r q m None e s = s
entered_there rs r q m (Some c) e s = some_set rs r q c (record c { tally = more m c.tally }) e s (is_id r q) refl

-- ---- and all of them

enters_all : (es : List (ℕ × Open)) (rs : List (RecordId × Record)) (n : RecordId → Mode → ℕ) → Tallied rs n → ((q : RecordId) → has es q ≡ true → IsSome (lookup (is_id q) rs)) → Tallied (all_entered rs es) (λ q k. n q k + count es q k)
enters_all [] rs n v h = tallied_as rs n (λ q k. n q k + count [] q k) v (λ q k. (let z : count [] q k ≡ 0 = refl in omega (arith, z)))
enters_all (e ∷ es) rs n v h =
    let r = e.1.id in
    let m = e.1.mode in
    let w : Tallied (entered rs r m) (λ q k. n q k + part r m q k) = enters rs r m n v (lookup (is_id r) rs) refl (h r (has_head e es)) in
    tallied_as (all_entered (entered rs r m) es) (λ q k. (n q k + part r m q k) + count es q k) (λ q k. n q k + count (e ∷ es) q k) (enters_all es (entered rs r m) (λ q k. n q k + part r m q k) w (λ q g. entered_there rs r q m (lookup (is_id r) rs) refl (h q (has_tail e es q g)))) (λ q k. (let d = count_cons e es q k in let x = weight_is q k e.1 in omega (arith, d, x)))

all_entered_seen : (es : List (ℕ × Open)) (rs : List (RecordId × Record)) → seen (all_entered rs es) ≡ seen rs
all_entered_seen [] rs = refl
all_entered_seen (e ∷ es) rs = all_entered_seen es (entered rs e.1.id e.1.mode) ∙ entered_seen rs e.1.id e.1.mode (lookup (is_id e.1.id) rs) refl

all_entered_sorted : (es : List (ℕ × Open)) (rs : List (RecordId × Record)) → IsStrictlySortedBy id_cmp (keys_of rs) → IsStrictlySortedBy id_cmp (keys_of (all_entered rs es))
all_entered_sorted [] rs s = s
all_entered_sorted (e ∷ es) rs s = all_entered_sorted es (entered rs e.1.id e.1.mode) (entered_sorted rs e.1.id e.1.mode (lookup (is_id e.1.id) rs) s)

-- ---- a handle less

lessened_sorted : (rs : List (RecordId × Record)) (r : RecordId) (d : Record) (u : Option Mode) → IsStrictlySortedBy id_cmp (keys_of rs) → IsStrictlySortedBy id_cmp (keys_of (lessened_by rs r d u))
lessened_sorted rs r d None s = sorted_but id_cmp (is_id r) rs s
lessened_sorted rs r d (Some u) s = sorted_set rs r d s

left_sorted : (rs : List (RecordId × Record)) (r : RecordId) (m : Mode) (o : Option Record) → IsStrictlySortedBy id_cmp (keys_of rs) → IsStrictlySortedBy id_cmp (keys_of (left_by rs r m o))
left_sorted rs r m None s = s
left_sorted rs r m (Some c) s = lessened_sorted rs r (record c { tally = fewer m c.tally }) (union_of (fewer m c.tally)) s

-- a record that goes is one that none of these handles has
lessened_kept : (gs : List (ℕ × Open)) (rs : List (RecordId × Record)) (r : RecordId) (c d : Record) (n : RecordId → Mode → ℕ) → told_in d ≡ told_in c → lookup (is_id r) rs ≡ Some c → IsStrictlySortedBy id_cmp (keys_of rs) → ((k : Mode) → count gs r k ≤ n r k) → (u : Option Mode) → Tallied (lessened_by rs r d u) n → filter (λ e. has gs e.0) (seen (lessened_by rs r d u)) ≡ filter (λ e. has gs e.0) (seen rs)
lessened_kept gs rs r c d n t e s h None v =
    let l : lookup (is_id r) (remove_entry (is_id r) rs) ≡ None = lookup_gone rs r s r ∙ rw (laws.refl r) refl in
    let z : has gs r ≡ false = none_has gs r (λ k. (let a : amount k (tally_in (remove_entry (is_id r) rs) r) ≡ 0 = ap (λ o. amount k (tally_by o)) l ∙ amount_nothing k in let b = v.counted r k in let g = h k in omega (arith, a, b, g))) in
    ap (λ es. filter (λ x. has gs x.0) es) (through_remove told_in (is_id r) rs)
    ∙ drop_one (has gs) (is_id r) (seen rs) (λ q f. subst (λ x. has gs x ≡ false) (id_exact r q f) z)
lessened_kept gs rs r c d n t e s h (Some u) v =
    let l : lookup (is_id r) (seen rs) ≡ Some (told_in d) = through_lookup told_in (is_id r) rs ∙ (ap (λ o. option_map told_in o) e ∙ ap (λ o. Some o) (sym t)) in
    ap (λ es. filter (λ x. has gs x.0) es) (through_set told_in (is_id r) rs d ∙ set_value_same (is_id r) (seen rs) (told_in d) l)

left_kept : (gs : List (ℕ × Open)) (rs : List (RecordId × Record)) (r : RecordId) (m : Mode) (n : RecordId → Mode → ℕ) → IsStrictlySortedBy id_cmp (keys_of rs) → ((k : Mode) → count gs r k ≤ n r k) → (o : Option Record) → lookup (is_id r) rs ≡ o → Tallied (left_by rs r m o) n → filter (λ e. has gs e.0) (seen (left_by rs r m o)) ≡ filter (λ e. has gs e.0) (seen rs)
left_kept gs rs r m n s h None e v = refl
left_kept gs rs r m n s h (Some c) e v = lessened_kept gs rs r c (record c { tally = fewer m c.tally }) n refl e s h (union_of (fewer m c.tally)) v

-- ---- and all of them

record Leaves (gs : List (ℕ × Open)) (rs us : List (RecordId × Record)) (n : RecordId → Mode → ℕ) : Type 0 where
  pub tallied : Tallied us n
  pub ordered : IsStrictlySortedBy id_cmp (keys_of us)
  pub seen : filter (λ e. has gs e.0) (seen us) ≡ filter (λ e. has gs e.0) (seen rs)

leaves_one : (gs : List (ℕ × Open)) (rs : List (RecordId × Record)) (r : RecordId) (m : Mode) (n : RecordId → Mode → ℕ) → Tallied rs n → IsStrictlySortedBy id_cmp (keys_of rs) → ((k : Mode) → count gs r k ≤ n r k - part r m r k) → Leaves gs rs (left rs r m) (λ q k. n q k - part r m q k)
leaves_one gs rs r m n v s h =
    let w : Tallied (left rs r m) (λ q k. n q k - part r m q k) = leaves rs r m n v s in
    record {
      tallied = w;
      ordered = left_sorted rs r m (lookup (is_id r) rs) s;
      seen = left_kept gs rs r m (λ q k. n q k - part r m q k) s h (lookup (is_id r) rs) refl w;
    }

leaves_all : (hs gs : List (ℕ × Open)) (rs : List (RecordId × Record)) (n : RecordId → Mode → ℕ) → Tallied rs n → IsStrictlySortedBy id_cmp (keys_of rs) → ((q : RecordId) (k : Mode) → count gs q k + count hs q k ≤ n q k) → Leaves gs rs (all_left rs hs) (λ q k. n q k - count hs q k)
leaves_all [] gs rs n v s h = record {
  tallied = tallied_as rs n (λ q k. n q k - count [] q k) v (λ q k. (let z : count [] q k ≡ 0 = refl in omega (arith, z)));
  ordered = s;
  seen = refl;
}
leaves_all (e ∷ hs) gs rs n v s h =
    let r = e.1.id in
    let m = e.1.mode in
    let bound : (q : RecordId) (k : Mode) → count gs q k + count hs q k ≤ n q k - part r m q k = λ q k. (let d = count_cons e hs q k in let x = weight_is q k e.1 in let g = h q k in omega (arith, d, x, g)) in
    let a = leaves_one gs rs r m n v s (λ k. (let b = bound r k in omega (arith, b))) in
    let i = leaves_all hs gs (left rs r m) (λ q k. n q k - part r m q k) a.tallied a.ordered bound in
    record {
      tallied = tallied_as (all_left (left rs r m) hs) (λ q k. (n q k - part r m q k) - count hs q k) (λ q k. n q k - count (e ∷ hs) q k) i.tallied (λ q k. (let d = count_cons e hs q k in let x = weight_is q k e.1 in omega (arith, d, x)));
      ordered = i.ordered;
      seen = i.seen ∙ a.seen;
    }

-- ---- the records of the handles are there

there_by : (hs : List (ℕ × Open)) (rs : List (RecordId × Record)) (q : RecordId) → IsCounted hs rs → has hs q ≡ true → (o : Option Record) → lookup (is_id q) rs ≡ o → IsSome o
there_by hs rs q i h None e = absurd (
    let z : has hs q ≡ false = none_has hs q (λ k. sym (i.counted q k) ∙ (ap (λ o. amount k (tally_by o)) e ∙ amount_nothing k)) in
    let f : true ≡ false = sym h ∙ z in
    cc)
there_by hs rs q i h (Some c) e = refl

placed_at : (rs ss : List (RecordId × Record)) (r q : RecordId) (c : Record) → lookup (is_id q) ss ≡ cond (is_id r q) (Some c) (lookup (is_id q) rs) → (is_id r q ≡ false → IsSome (lookup (is_id q) rs)) → (b : Bool) → is_id r q ≡ b → IsSome (lookup (is_id q) ss)
placed_at rs ss r q c a h true e =
    let l : lookup (is_id q) ss ≡ Some c = a ∙ rw e refl in
    subst (λ (o : Option Record). IsSome o) (sym l) refl
placed_at rs ss r q c a h false e =
    let l : lookup (is_id q) ss ≡ lookup (is_id q) rs = a ∙ rw e refl in
    subst (λ (o : Option Record). IsSome o) (sym l) (h e)

second : (a b : Bool) → (a || b) ≡ true → a ≡ false → b ≡ true
second true b e f = absurd (cc)
second false b e f = e

-- ---- the whole

one_most : (b : Bool) → one b ≤ 1
one_most true = omega arith
one_most false = omega arith

placed : (hs : List (ℕ × Open)) (rs ss : List (RecordId × Record)) (r : RecordId) (s : ℕ) → IsCounted hs rs → Places rs r s ss → Tallied ss (λ q k. count hs q k + part r Read q k)
placed hs rs ss r s i p = joins rs ss r Read p.placed.0 (count hs) (tallied_of hs rs i) (record { at = p.placed.4; tally = p.placed.2 })

pub has_room : (hs : List (ℕ × Open)) (rs : List (RecordId × Record)) → IsCounted hs rs → length hs < 2 ^ 63 → HasRoom rs 1
has_room hs rs i l q k =
    let a = i.counted q k in
    let b = count_most hs q k in
    omega (arith, a, b, l)

pub placed_room : (hs gs : List (ℕ × Open)) (rs ss : List (RecordId × Record)) (r : RecordId) (s : ℕ) → IsCounted hs rs → Places rs r s ss → length hs < 2 ^ 63 → length gs < 2 ^ 63 → HasRoom ss (length gs)
placed_room hs gs rs ss r s i p l g q k =
    let v = placed hs rs ss r s i p in
    let a : amount k (tally_in ss q) ≡ count hs q k + part r Read q k = v.counted q k in
    let b = count_most hs q k in
    let o = one_most (is_id r q && is_mode k Read) in
    omega (arith, a, b, o, l, g)

pub record Settles (gs hs : List (ℕ × Open)) (rs ts : List (RecordId × Record)) (r : RecordId) (s : ℕ) : Type 0 where
  pub counted : IsCounted gs ts
  pub table : record { handles = gs; records = seen ts } ≡ with_handles gs (telling (seen rs) r (told_to s))

settled_at : (hs gs : List (ℕ × Open)) (rs ss : List (RecordId × Record)) (r : RecordId) (s : ℕ) → IsCounted hs rs → AreFrom gs hs r → Places rs r s ss → Settles gs hs rs (left (all_left (all_entered ss gs) hs) r Read) r s
settled_at hs gs rs ss r s i f p =
    let us = all_entered ss gs in
    let vs = all_left us hs in
    let ts = left vs r Read in
    let there : (q : RecordId) → has gs q ≡ true → IsSome (lookup (is_id q) ss) = λ q g. placed_at rs ss r q p.placed.0 (p.placed.4 q) (λ e. there_by hs rs q i (second (is_id r q) (has hs q) (f q g) e) (lookup (is_id q) rs) refl) (is_id r q) refl in
    let a : Tallied us (λ q k. (count hs q k + part r Read q k) + count gs q k) = enters_all gs ss (λ q k. count hs q k + part r Read q k) (placed hs rs ss r s i p) there in
    let b = leaves_all hs gs us (λ q k. (count hs q k + part r Read q k) + count gs q k) a (all_entered_sorted gs ss p.ordered) (λ q k. omega arith) in
    let c = leaves_one gs vs r Read (λ q k. ((count hs q k + part r Read q k) + count gs q k) - count hs q k) b.tallied b.ordered (λ k. omega arith) in
    let v : IsCounted gs ts = counts_are gs ts (λ q k. (((count hs q k + part r Read q k) + count gs q k) - count hs q k) - part r Read q k) c.tallied (λ q k. omega arith) in
    let t : seen ss ≡ telling (seen rs) r (told_to s) = ap (λ es. seen es) p.placed.3 ∙ (through_insert told_in id_cmp rs r p.placed.0 ∙ ap (λ (z : Told). insert_entry id_cmp (seen rs) r z) p.placed.1) in
    record {
      counted = v;
      table = ap (λ es. record { handles = gs; records = es }) (sym (whole gs ts v) ∙ (c.seen ∙ (b.seen ∙ ap (λ es. filter (λ x. has gs x.0) es) (all_entered_seen gs ss ∙ t))));
    }

pub settles : (hs gs : List (ℕ × Open)) (rs ss us vs ts : List (RecordId × Record)) (r : RecordId) (s : ℕ) → IsCounted hs rs → AreFrom gs hs r → Places rs r s ss → us ≡ all_entered ss gs → vs ≡ all_left us hs → ts ≡ left vs r Read → Settles gs hs rs ts r s
settles hs gs rs ss us vs ts r s i f p x y z =
    let e : ts ≡ left (all_left (all_entered ss gs) hs) r Read = z ∙ ap (λ es. left es r Read) (y ∙ ap (λ es. all_left es hs) x) in
    subst (λ es. Settles gs hs rs es r s) (sym e) (settled_at hs gs rs ss r s i f p)

-- ---- room while they enter

grown : (rs : List (RecordId × Record)) (r q : RecordId) (m k : Mode) (c : Record) → lookup (is_id r) rs ≡ Some c → (b : Bool) → is_id r q ≡ b → amount k (tally_in (set_value (is_id r) rs (record c { tally = more m c.tally })) q) ≤ amount k (tally_in rs q) + 1
grown rs r q m k c e true h =
    let d : Record = record c { tally = more m c.tally } in
    let l : lookup (is_id q) (set_value (is_id r) rs d) ≡ Some d = lookup_set rs r c d e q ∙ rw h refl in
    let a : amount k (tally_in (set_value (is_id r) rs d) q) ≡ amount k (more m c.tally) = ap (λ o. amount k (tally_by o)) l in
    let g = amount_more k m c.tally in
    let w : amount k (tally_in rs q) ≡ amount k c.tally = sym (ap (λ x. amount k (tally_in rs x)) (id_exact r q h)) ∙ ap (λ o. amount k (tally_by o)) e in
    let o = one_most (is_mode k m) in
    omega (arith, a, g, w, o)
grown rs r q m k c e false h =
    let d : Record = record c { tally = more m c.tally } in
    let l : lookup (is_id q) (set_value (is_id r) rs d) ≡ lookup (is_id q) rs = lookup_set rs r c d e q ∙ rw h refl in
    let a : amount k (tally_in (set_value (is_id r) rs d) q) ≡ amount k (tally_in rs q) = ap (λ o. amount k (tally_by o)) l in
    omega (arith, a)

room_by : (rs : List (RecordId × Record)) (e : ℕ × Open) (es : List (ℕ × Open)) → HasRoom rs (length (e ∷ es)) → (o : Option Record) → lookup (is_id e.1.id) rs ≡ o → HasRoom (entered_by rs e.1.id e.1.mode o) (length es)
room_by rs e es h None f q k = (let g = h q k in omega (arith, g))
room_by rs e es h (Some c) f q k = (let g = h q k in let a = grown rs e.1.id q e.1.mode k c f (is_id e.1.id q) refl in omega (arith, g, a))

pub room_left : (rs ss : List (RecordId × Record)) (e : ℕ × Open) (es fs : List (ℕ × Open)) → fs ≡ e ∷ es → ss ≡ entered rs e.1.id e.1.mode → HasRoom rs (length fs) → HasRoom ss (length es)
room_left rs ss e es fs f g h = subst (λ x. HasRoom x (length es)) (sym g) (room_by rs e es (subst (λ x. HasRoom rs (length x)) f h) (lookup (is_id e.1.id) rs) refl)

pub entered_so_far : (rs ss : List (RecordId × Record)) (e : ℕ × Open) (es fs : List (ℕ × Open)) → fs ≡ e ∷ es → ss ≡ entered rs e.1.id e.1.mode → all_entered ss es ≡ all_entered rs fs
entered_so_far rs ss e es fs f g = ap (λ x. all_entered x es) g ∙ sym (ap (λ x. all_entered rs x) f)

pub place_by : (rs ss : List (RecordId × Record)) (r : RecordId) (s : ℕ) (c d : Record) → IsStrictlySortedBy id_cmp (keys_of rs) → lookup (is_id r) rs ≡ Some c → ss ≡ set_value (is_id r) rs d → told_in d ≡ told_to s → d.tally ≡ more Read c.tally → Places rs r s ss
place_by rs ss r s c d o e f t a = record {
  placed = (d, t, a ∙ ap (λ x. more Read (tally_by x)) (sym e), f ∙ set_is_insert id_total rs r c d o e, λ q. ap (λ es. lookup (is_id q) es) f ∙ lookup_set rs r c d e q);
  ordered = subst (λ es. IsStrictlySortedBy id_cmp (keys_of es)) (sym f) (sorted_set rs r d o);
}
