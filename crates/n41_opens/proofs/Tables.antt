-- What the calls on one handle give, by what is inside.
use Rattle.std.proofs.Common.{◌≡◌, ℕ, ◌+◌, ◌≤◌, Bool, true, false, List, Option, None, Some, IsSome, is_some, Result, Ok, Err, IfOk, OnOk, OnErr, option_map, unwrap_or, refl, sym, ◌∙◌, ap, subst, arith}
use Rattle.std.specs.Map.{lookup, set_value, keys_of}
use Rattle.std.specs.BTreeMap.{insert_entry}
use Rattle.std.specs.List.Sorted.{IsStrictlySortedBy}
use Rattle.std.proofs.lemmas.Map.Entries.{sum_by-remove_entry, sum_by-set_value}
use Rattle.n41_types.specs.declared.identities.Stateid.{Stateid}
use Rattle.n41_types.specs.declared.spans.Mode.{Mode}
use Rattle.n41_opens.specs.declared.ids.RecordId.{RecordId}
use Rattle.n41_opens.specs.declared.handles.Open.{Open}
use Rattle.n41_opens.specs.declared.records.Record.{Record}
use Rattle.n41_opens.specs.declared.modes.Tally.{Tally}
use Rattle.n41_opens.specs.Ids.{id_cmp, is_id, id_total}
use Rattle.n41_opens.specs.Opens.{Told, is_change, heard, told_of, seqid_of, telling, is_number, open_of, without, forgotten, need_at, stateid_at, changed_by, changed_in}
use Rattle.n41_opens.specs.Inside.{amount, fewer, union_of, weight, count, told_in, told_by, seen, tally_by, tally_in, IsCounted, Hears, Changes, HearGives, left}
use Rattle.n41_opens.proofs.Lists.{set_is_insert, through_insert}
use Rattle.n41_opens.proofs.Tallies.{amount_nothing, is_mode_itself}
use Rattle.n41_opens.proofs.Counts.{laws, id_exact, lookup_set, leaves, whole, settled, counts_are, tallied_of, gone_count, others_need}
use Rattle.n41_opens.proofs.Steps.{told_seen, remove_absent}

-- ---- what is read

pub need_is : (hs : List (ℕ × Open)) (rs : List (RecordId × Record)) (h : ℕ) (o : Open) → IsCounted hs rs → open_of hs h ≡ Some o → union_of (fewer o.mode (tally_in rs o.id)) ≡ need_at (record { handles = hs; records = seen rs }) h (open_of hs h)
need_is hs rs h o i e = others_need hs rs h o i e ∙ ap (λ x. need_at (record { handles = hs; records = seen rs }) h x) (sym e)

pub stateid_is : (hs : List (ℕ × Open)) (rs : List (RecordId × Record)) (h : ℕ) (o : Open) (g : Stateid) → open_of hs h ≡ Some o → g ≡ record { seqid = seqid_of (told_by (lookup (is_id o.id) rs)); other = o.id.other } → Some g ≡ stateid_at (record { handles = hs; records = seen rs }) (open_of hs h)
stateid_is hs rs h o g e f =
    ap (λ x. Some x) (f ∙ ap (λ (t : Told). record { seqid = seqid_of t; other = o.id.other }) (sym (told_seen rs o.id)))
    ∙ ap (λ x. stateid_at (record { handles = hs; records = seen rs }) x) (sym e)

-- ---- a handle's record is there

counts_one : (hs : List (ℕ × Open)) (h : ℕ) (o : Open) → open_of hs h ≡ Some o → 1 ≤ count hs o.id o.mode
counts_one hs h o e =
    let f : count (without hs h) o.id o.mode + unwrap_or (option_map (weight o.id o.mode) (lookup (is_number h) hs)) 0 ≡ count hs o.id o.mode = sum_by-remove_entry (weight o.id o.mode) (is_number h) hs in
    let g : unwrap_or (option_map (weight o.id o.mode) (lookup (is_number h) hs)) 0 ≡ weight o.id o.mode o = ap (λ x. unwrap_or (option_map (weight o.id o.mode) x) 0) e in
    let w : weight o.id o.mode o ≡ 1 = rw (laws.refl o.id, is_mode_itself o.mode) refl in
    omega (arith, f, g, w)

there_by : (hs : List (ℕ × Open)) (rs : List (RecordId × Record)) (h : ℕ) (o : Open) → IsCounted hs rs → open_of hs h ≡ Some o → (x : Option Record) → lookup (is_id o.id) rs ≡ x → IsSome x
there_by hs rs h o i e None f = absurd (
    let a : amount o.mode (tally_in rs o.id) ≡ 0 = ap (λ y. amount o.mode (tally_by y)) f ∙ amount_nothing o.mode in
    let b = i.counted o.id o.mode in
    let c = counts_one hs h o e in
    omega (arith, a, b, c))
there_by hs rs h o i e (Some c) f = refl

pub is_there : (hs : List (ℕ × Open)) (rs : List (RecordId × Record)) (h : ℕ) (o : Open) → IsCounted hs rs → open_of hs h ≡ Some o → IsSome (lookup (is_id o.id) rs)
is_there hs rs h o i e = there_by hs rs h o i e (lookup (is_id o.id) rs) refl

-- ---- a handle leaves

pub forget_none : (hs gs : List (ℕ × Open)) (rs : List (RecordId × Record)) (h : ℕ) → IsCounted hs rs → open_of hs h ≡ None → gs ≡ without hs h → record { handles = gs; records = seen rs } ≡ forgotten (record { handles = hs; records = seen rs }) h
forget_none hs gs rs h i e f =
    let a : without hs h ≡ hs = remove_absent (is_number h) hs e in
    let v : IsCounted (without hs h) rs = subst (λ x. IsCounted x rs) (sym a) i in
    ap (λ x. record { handles = x; records = seen rs }) f
    ∙ ap (λ x. record { handles = without hs h; records = x }) (sym (whole (without hs h) rs v))

pub forget_counted : (hs gs : List (ℕ × Open)) (rs ts : List (RecordId × Record)) (h : ℕ) (o : Open) → IsCounted hs rs → open_of hs h ≡ Some o → gs ≡ without hs h → IsStrictlySortedBy id_cmp (keys_of rs) → ts ≡ left rs o.id o.mode → IsCounted gs ts
forget_counted hs gs rs ts h o i e f s g =
    let v : IsCounted (without hs h) (left rs o.id o.mode) = counts_are (without hs h) (left rs o.id o.mode) _ (leaves rs o.id o.mode (count hs) (tallied_of hs rs i) s) (λ q k. gone_count hs h o q k e) in
    subst (λ x. IsCounted x ts) (sym f) (subst (λ x. IsCounted (without hs h) x) (sym g) v)

pub forget_some : (hs gs : List (ℕ × Open)) (rs ts : List (RecordId × Record)) (h : ℕ) (o : Open) → IsCounted hs rs → open_of hs h ≡ Some o → gs ≡ without hs h → IsStrictlySortedBy id_cmp (keys_of rs) → ts ≡ left rs o.id o.mode → record { handles = gs; records = seen ts } ≡ forgotten (record { handles = hs; records = seen rs }) h
forget_some hs gs rs ts h o i e f s g =
    let v : IsCounted (without hs h) (left rs o.id o.mode) = forget_counted hs (without hs h) rs (left rs o.id o.mode) h o i e refl s refl in
    ap (λ x. record { handles = x; records = seen ts }) f
    ∙ (ap (λ x. record { handles = without hs h; records = seen x }) g
    ∙ ap (λ x. record { handles = without hs h; records = x }) (sym (settled (without hs h) rs o.id o.mode s v)))

-- ---- a handle is marked

pub mark_counted : (hs gs : List (ℕ × Open)) (rs : List (RecordId × Record)) (h : ℕ) (o : Open) (b : Bool) → IsCounted hs rs → open_of hs h ≡ Some o → gs ≡ set_value (is_number h) hs (record { id = o.id; mode = o.mode; closing = b }) → IsCounted gs rs
mark_counted hs gs rs h o b i e f = record {
  counted = λ q k. (let p : Open = record { id = o.id; mode = o.mode; closing = b } in
      let g : count (set_value (is_number h) hs p) q k + weight q k o ≡ count hs q k + weight q k p = sum_by-set_value (weight q k) (is_number h) hs o p e in
      let w : weight q k p ≡ weight q k o = refl in
      let j = i.counted q k in
      let l : count gs q k ≡ count (set_value (is_number h) hs p) q k = ap (λ x. count x q k) f in
      omega (arith, g, w, j, l));
  some = i.some;
}

-- ---- a change is told

some_is : {A : Type 0} (x y : A) → Some x ≡ Some y → x ≡ y
some_is x y e = cc

told_at : (rs ss : List (RecordId × Record)) (r q : RecordId) (s : ℕ) (c d : Record) (k : Mode) → Hears rs r s c d ss → d.tally ≡ c.tally → (b : Bool) → is_id r q ≡ b → amount k (tally_in ss q) ≡ amount k (tally_in rs q)
told_at rs ss r q s c d k h t true e =
    let l : lookup (is_id q) (set_value (is_id r) rs d) ≡ Some d = lookup_set rs r c d h.was q ∙ rw e refl in
    let m : lookup (is_id q) ss ≡ Some d = ap (λ x. lookup (is_id q) x) h.entries ∙ l in
    ap (λ x. amount k (tally_by x)) m
    ∙ (ap (λ (x : Tally). amount k x) t ∙ (sym (ap (λ x. amount k (tally_by x)) h.was) ∙ ap (λ x. amount k (tally_in rs x)) (id_exact r q e)))
told_at rs ss r q s c d k h t false e =
    let l : lookup (is_id q) (set_value (is_id r) rs d) ≡ lookup (is_id q) rs = lookup_set rs r c d h.was q ∙ rw e refl in
    let m : lookup (is_id q) ss ≡ lookup (is_id q) rs = ap (λ x. lookup (is_id q) x) h.entries ∙ l in
    ap (λ x. amount k (tally_by x)) m

told_some : (hs : List (ℕ × Open)) (rs ss : List (RecordId × Record)) (r q : RecordId) (s : ℕ) (c d x : Record) → IsCounted hs rs → Hears rs r s c d ss → d.tally ≡ c.tally → lookup (is_id q) ss ≡ Some x → union_of x.tally ≡ None → (b : Bool) → is_id r q ≡ b → ⊥
told_some hs rs ss r q s c d x i h t l u true e =
    let m : lookup (is_id q) (set_value (is_id r) rs d) ≡ Some d = lookup_set rs r c d h.was q ∙ rw e refl in
    let f : d ≡ x = some_is d x (sym (ap (λ y. lookup (is_id q) y) h.entries ∙ m) ∙ l) in
    i.some r c h.was (ap (λ (y : Tally). union_of y) (sym t) ∙ (ap (λ (y : Record). union_of y.tally) f ∙ u))
told_some hs rs ss r q s c d x i h t l u false e =
    let m : lookup (is_id q) (set_value (is_id r) rs d) ≡ lookup (is_id q) rs = lookup_set rs r c d h.was q ∙ rw e refl in
    i.some q x (sym (ap (λ y. lookup (is_id q) y) h.entries ∙ m) ∙ l) u

change_counted : (hs : List (ℕ × Open)) (rs ss : List (RecordId × Record)) (r : RecordId) (s : Stateid) → IsCounted hs rs → Changes rs r s ss → IsCounted hs ss
change_counted hs rs ss r s i v =
    let c = v.heard.0 in
    let d = v.heard.1 in
    record {
      counted = λ q k. told_at rs ss r q s.seqid c d k v.heard.2 v.heard.3 (is_id r q) refl ∙ i.counted q k;
      some = λ q x l u. told_some hs rs ss r q s.seqid c d x i v.heard.2 v.heard.3 l u (is_id r q) refl;
    }

pub changed_counted : {E : Type 0} (hs : List (ℕ × Open)) (rs ss : List (RecordId × Record)) (r : RecordId) (s : Stateid) (g : Result Bool E) → IsCounted hs rs → IfOk g (λ b. HearGives rs r s b ss) → OnErr g (ss ≡ rs) → IsCounted hs ss
changed_counted hs rs ss r s (Ok true) i v w = change_counted hs rs ss r s i v
changed_counted hs rs ss r s (Ok false) i v w = subst (λ x. IsCounted hs x) (sym v.1) i
changed_counted hs rs ss r s (Err x) i v w = subst (λ x. IsCounted hs x) (sym w) i

telling_is : (rs ss : List (RecordId × Record)) (r : RecordId) (s : Stateid) → Changes rs r s ss → seen ss ≡ telling (seen rs) r (heard s.seqid (told_of (seen rs) r))
telling_is rs ss r s v =
    let h = v.heard.2 in
    let c = v.heard.0 in
    let d = v.heard.1 in
    let t : told_in d ≡ heard s.seqid (told_of (seen rs) r) = h.told ∙ ap (λ (z : Told). heard s.seqid z) (sym (ap (λ x. told_by x) h.was) ∙ sym (told_seen rs r)) in
    ap (λ es. seen es) (h.entries ∙ set_is_insert id_total rs r c d v.ordered h.was)
    ∙ (through_insert told_in id_cmp rs r d ∙ ap (λ (z : Told). insert_entry id_cmp (seen rs) r z) t)

changed_is : (hs : List (ℕ × Open)) (rs ss : List (RecordId × Record)) (h : ℕ) (o : Open) (s : Stateid) → open_of hs h ≡ Some o → Changes rs o.id s ss → changed_in (record { handles = hs; records = seen rs }) h s ≡ Some (record { handles = hs; records = seen ss })
changed_is hs rs ss h o s e v =
    let f : is_change (told_of (seen rs) o.id) o.id s ≡ true = ap (λ (t : Told). is_change t o.id s) (told_seen rs o.id) ∙ v.change in
    ap (λ x. changed_by (record { handles = hs; records = seen rs }) s x) e
    ∙ (rw f (ap (λ x. Some (record { handles = hs; records = x })) (sym (telling_is rs ss o.id s v))))

unchanged_is : (hs : List (ℕ × Open)) (rs : List (RecordId × Record)) (h : ℕ) (o : Open) (s : Stateid) → open_of hs h ≡ Some o → is_change (told_by (lookup (is_id o.id) rs)) o.id s ≡ false → changed_in (record { handles = hs; records = seen rs }) h s ≡ None
unchanged_is hs rs h o s e n =
    let f : is_change (told_of (seen rs) o.id) o.id s ≡ false = ap (λ (t : Told). is_change t o.id s) (told_seen rs o.id) ∙ n in
    ap (λ x. changed_by (record { handles = hs; records = seen rs }) s x) e ∙ rw f refl

pub changed_value : {E : Type 0} (hs : List (ℕ × Open)) (rs ss : List (RecordId × Record)) (h : ℕ) (o : Open) (s : Stateid) (g : Result Bool E) → open_of hs h ≡ Some o → IfOk g (λ b. HearGives rs o.id s b ss) → IfOk g (λ b. b ≡ is_some (changed_in (record { handles = hs; records = seen rs }) h s))
changed_value hs rs ss h o s (Ok true) e v = sym (ap (λ x. is_some x) (changed_is hs rs ss h o s e v))
changed_value hs rs ss h o s (Ok false) e v = sym (ap (λ x. is_some x) (unchanged_is hs rs h o s e v.0))
changed_value hs rs ss h o s (Err x) e v = tt

pub changed_table : {E : Type 0} (hs : List (ℕ × Open)) (rs ss : List (RecordId × Record)) (h : ℕ) (o : Open) (s : Stateid) (g : Result Bool E) → open_of hs h ≡ Some o → IfOk g (λ b. HearGives rs o.id s b ss) → OnOk g (record { handles = hs; records = seen ss } ≡ unwrap_or (changed_in (record { handles = hs; records = seen rs }) h s) (record { handles = hs; records = seen rs }))
changed_table hs rs ss h o s (Ok true) e v = sym (ap (λ x. unwrap_or x (record { handles = hs; records = seen rs })) (changed_is hs rs ss h o s e v))
changed_table hs rs ss h o s (Ok false) e v = ap (λ x. record { handles = hs; records = seen x }) v.1 ∙ sym (ap (λ x. unwrap_or x (record { handles = hs; records = seen rs })) (unchanged_is hs rs h o s e v.0))
changed_table hs rs ss h o s (Err x) e v = tt
