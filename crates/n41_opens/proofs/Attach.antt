-- An open's answer: a record is made ready, a handle joins it, and leaves the one that it had.
use Rattle.std.proofs.Common.{◌≡◌, ℕ, ◌+◌, ◌-◌, ◌<◌, ◌^◌, Bool, true, false, cond, List, length, filter, Option, None, Some, IsSome, Err, refl, sym, ◌∙◌, ap, subst, arith}
use Rattle.std.specs.Ordering.{nat_cmp}
use Rattle.std.specs.Map.{lookup, remove_entry, set_value, keys_of}
use Rattle.std.specs.BTreeMap.{insert_entry}
use Rattle.std.specs.List.Sorted.{IsStrictlySortedBy}
use Rattle.n41_types.specs.declared.spans.Mode.{Mode}
use Rattle.n41_seqid.specs.Fronts.{is_new}
use Rattle.n41_opens.specs.declared.ids.RecordId.{RecordId}
use Rattle.n41_opens.specs.declared.answers.AttachFault.{AttachFault}
use Rattle.n41_opens.specs.declared.answers.AttachFault.TheVariants.{Seq, NoMemory}
use Rattle.n41_opens.specs.declared.handles.Open.{Open}
use Rattle.n41_opens.specs.declared.modes.Tally.{Tally}
use Rattle.n41_opens.specs.declared.records.Record.{Record}
use Rattle.n41_opens.specs.Ids.{id_cmp, is_id, id_total}
use Rattle.n41_opens.specs.Opens.{Told, Table, heard, told_of, telling, has, open_of, is_marked, seated, attached, attach_in, AttachGives}
use Rattle.n41_opens.specs.Inside.{nothing, amount, more, union_of, told_in, told_by, seen, tally_by, tally_in, count, IsCounted, IsReady, Readies, Hears, Joins, CanJoin, ReadyGives, discarded, discarded_by, left}
use Rattle.n41_opens.proofs.Lists.{set_after_insert, remove_after_insert, through_insert}
use Rattle.n41_opens.proofs.Counts.{laws, id_exact, lookup_set, Joined, joins, leaves, whole, settled, counts_are, tallied_of, new_count, moved_count, part, count_most}
use Rattle.n41_opens.proofs.Steps.{told_seen}

some_is : {A : Type 0} (x y : A) → Some x ≡ Some y → x ≡ y
some_is x y e = cc

there : (rs ss : List (RecordId × Record)) (r : RecordId) (c : Record) → IsReady rs r c ss → lookup (is_id r) ss ≡ Some c
there rs ss r c y = y.at r ∙ rw (laws.refl r) refl

-- ---- where there is no memory for the handle

at_ready : (rs ss : List (RecordId × Record)) (r q : RecordId) (c : Record) → IsReady rs r c ss → (b : Bool) → is_id r q ≡ b → tally_in ss q ≡ tally_in rs q
at_ready rs ss r q c y true h =
    let l : lookup (is_id q) ss ≡ Some c = y.at q ∙ rw h refl in
    ap (λ o. tally_by o) l ∙ (y.tally ∙ ap (λ x. tally_in rs x) (id_exact r q h))
at_ready rs ss r q c y false h =
    let l : lookup (is_id q) ss ≡ lookup (is_id q) rs = y.at q ∙ rw h refl in
    ap (λ o. tally_by o) l

some_ready : (hs : List (ℕ × Open)) (rs ss : List (RecordId × Record)) (r q : RecordId) (a c d : Record) → IsCounted hs rs → IsReady rs r c ss → lookup (is_id r) rs ≡ Some a → lookup (is_id q) ss ≡ Some d → union_of d.tally ≡ None → (b : Bool) → is_id r q ≡ b → ⊥
some_ready hs rs ss r q a c d i y e l u true h =
    let f : c ≡ d = some_is c d (sym (y.at q ∙ rw h refl) ∙ l) in
    let t : c.tally ≡ a.tally = y.tally ∙ ap (λ o. tally_by o) e in
    i.some r a e (ap (λ (x : Tally). union_of x) (sym t) ∙ (ap (λ (x : Record). union_of x.tally) f ∙ u))
some_ready hs rs ss r q a c d i y e l u false h = i.some q d (sym (y.at q ∙ rw h refl) ∙ l) u

pub record Undone (hs : List (ℕ × Open)) (rs us : List (RecordId × Record)) : Type 0 where
  pub counted : IsCounted hs us
  pub seen : seen us ≡ seen rs

undone_some : (hs : List (ℕ × Open)) (rs ss : List (RecordId × Record)) (r : RecordId) (a c : Record) → IsCounted hs rs → IsReady rs r c ss → lookup (is_id r) rs ≡ Some a → (u : Option Mode) → union_of (tally_in ss r) ≡ u → Undone hs rs (discarded_by ss r u)
undone_some hs rs ss r a c i y e None f = absurd (
    let t : tally_in ss r ≡ a.tally = at_ready rs ss r r c y true (laws.refl r) ∙ ap (λ o. tally_by o) e in
    i.some r a e (ap (λ (x : Tally). union_of x) (sym t) ∙ f))
undone_some hs rs ss r a c i y e (Some x) f = record {
  counted = record {
    counted = λ q k. ap (λ (z : Tally). amount k z) (at_ready rs ss r q c y (is_id r q) refl) ∙ i.counted q k;
    some = λ q d l u. some_ready hs rs ss r q a c d i y e l u (is_id r q) refl;
  };
  seen = y.same (subst (λ (o : Option Record). IsSome o) (sym e) refl);
}

undone_none : (hs : List (ℕ × Open)) (rs ss : List (RecordId × Record)) (r : RecordId) (c : Record) → IsCounted hs rs → IsReady rs r c ss → lookup (is_id r) rs ≡ None → Undone hs rs (discarded ss r)
undone_none hs rs ss r c i y e =
    let t : tally_in ss r ≡ nothing = at_ready rs ss r r c y true (laws.refl r) ∙ ap (λ o. tally_by o) e in
    let u : union_of (tally_in ss r) ≡ None = ap (λ (x : Tally). union_of x) t in
    let f : discarded ss r ≡ rs = ap (λ o. discarded_by ss r o) u ∙ (ap (λ es. remove_entry (is_id r) es) y.entries ∙ remove_after_insert id_total rs r c e) in
    record { counted = subst (λ es. IsCounted hs es) (sym f) i; seen = ap (λ es. seen es) f }

undone_by : (hs : List (ℕ × Open)) (rs ss : List (RecordId × Record)) (r : RecordId) (c : Record) → IsCounted hs rs → IsReady rs r c ss → (o : Option Record) → lookup (is_id r) rs ≡ o → Undone hs rs (discarded ss r)
undone_by hs rs ss r c i y None e = undone_none hs rs ss r c i y e
undone_by hs rs ss r c i y (Some a) e = undone_some hs rs ss r a c i y e (union_of (tally_in ss r)) refl

pub undone : (hs : List (ℕ × Open)) (rs ss : List (RecordId × Record)) (r : RecordId) (s : ℕ) → IsCounted hs rs → Readies rs r s ss → Undone hs rs (discarded ss r)
undone hs rs ss r s i y = undone_by hs rs ss r y.ready.0 i y.ready.1 (lookup (is_id r) rs) refl

-- ---- where there is

pub can_join : (hs : List (ℕ × Open)) (rs ss : List (RecordId × Record)) (r : RecordId) (s : ℕ) (m : Mode) → IsCounted hs rs → Readies rs r s ss → length hs < 2 ^ 63 → CanJoin ss r s m
can_join hs rs ss r s m i y l =
    let c = y.ready.0 in
    let w = y.ready.1 in
    let n : is_new c.front.window s ≡ true = ap (λ (o : Told). is_new o.window s) w.told ∙ y.new in
    let a : amount m c.tally ≡ count hs r m = ap (λ (x : Tally). amount m x) w.tally ∙ i.counted r m in
    let b = count_most hs r m in
    record { there = (c, there rs ss r c w, n, w.room, omega (arith, a, b, l)) }

-- the records once a handle has joined one
pub record Attaches (rs : List (RecordId × Record)) (r : RecordId) (s : ℕ) (m : Mode) (d : Record) (us : List (RecordId × Record)) : Type 0 where
  pub joined : Joined rs r m d us
  pub seen : seen us ≡ telling (seen rs) r (heard s (told_of (seen rs) r))

joined_at : (rs ss us : List (RecordId × Record)) (r q : RecordId) (c d e : Record) → IsReady rs r c ss → lookup (is_id r) ss ≡ Some e → us ≡ set_value (is_id r) ss d → (b : Bool) → is_id r q ≡ b → lookup (is_id q) us ≡ cond (is_id r q) (Some d) (lookup (is_id q) rs)
joined_at rs ss us r q c d e y f g true h = ap (λ es. lookup (is_id q) es) g ∙ (lookup_set ss r e d f q ∙ rw h refl)
joined_at rs ss us r q c d e y f g false h = ap (λ es. lookup (is_id q) es) g ∙ (lookup_set ss r e d f q ∙ (rw h (y.at q ∙ rw h refl)))

attaches_by : (rs ss us : List (RecordId × Record)) (r : RecordId) (s : ℕ) (m : Mode) (c d e : Record) → IsReady rs r c ss → Hears ss r s e d us → d.tally ≡ more m e.tally → Attaches rs r s m d us
attaches_by rs ss us r s m c d e y h t =
    let x : e ≡ c = some_is e c (sym h.was ∙ there rs ss r c y) in
    let w : us ≡ insert_entry id_cmp rs r d = h.entries ∙ (ap (λ es. set_value (is_id r) es d) y.entries ∙ set_after_insert id_total rs r c d) in
    let o : told_in d ≡ heard s (told_of (seen rs) r) = h.told ∙ ap (λ (z : Told). heard s z) (ap (λ (z : Record). told_in z) x ∙ (y.told ∙ sym (told_seen rs r))) in
    record {
      joined = record {
        at = λ q. joined_at rs ss us r q c d e y h.was h.entries (is_id r q) refl;
        tally = t ∙ ap (λ (z : Tally). more m z) (ap (λ (z : Record). z.tally) x ∙ y.tally);
      };
      seen = ap (λ es. seen es) w ∙ (through_insert told_in id_cmp rs r d ∙ ap (λ (z : Told). insert_entry id_cmp (seen rs) r z) o);
    }

pub attaches : (rs ss us : List (RecordId × Record)) (r : RecordId) (s : ℕ) (m : Mode) → Readies rs r s ss → Joins ss r s m us → (d : Record) × Attaches rs r s m d us
attaches rs ss us r s m y j = (j.heard.1, attaches_by rs ss us r s m y.ready.0 j.heard.1 j.heard.0 y.ready.1 j.heard.2 j.heard.3)

-- the table that comes of it
pub record Ends (t : Table) (h : ℕ) (r : RecordId) (s : ℕ) (m : Mode) (gs : List (ℕ × Open)) (us : List (RecordId × Record)) : Type 0 where
  pub counted : IsCounted gs us
  pub attached : record { handles = gs; records = seen us } ≡ attached t h r s m

pub ends_new : (hs : List (ℕ × Open)) (rs us : List (RecordId × Record)) (h : ℕ) (r : RecordId) (s : ℕ) (m : Mode) (d : Record) → IsCounted hs rs → IsStrictlySortedBy nat_cmp (keys_of hs) → open_of hs h ≡ None → Attaches rs r s m d us → Ends (record { handles = hs; records = seen rs }) h r s m (seated hs h r m) us
ends_new hs rs us h r s m d i o e a =
    let g : List (ℕ × Open) = seated hs h r m in
    let v : IsCounted g us = counts_are g us (λ q k. count hs q k + part r m q k) (joins rs us r m d (count hs) (tallied_of hs rs i) a.joined) (λ q k. new_count hs h (record { id = r; mode = m; closing = is_marked (open_of hs h) }) q k o e) in
    record {
      counted = v;
      attached = ap (λ es. record { handles = g; records = es }) (sym (whole g us v) ∙ ap (λ es. filter (λ x. has g x.0) es) a.seen);
    }

pub ends_moved : (hs : List (ℕ × Open)) (rs us : List (RecordId × Record)) (h : ℕ) (r : RecordId) (s : ℕ) (m : Mode) (d : Record) (p : Open) → IsCounted hs rs → IsStrictlySortedBy nat_cmp (keys_of hs) → open_of hs h ≡ Some p → Attaches rs r s m d us → IsStrictlySortedBy id_cmp (keys_of us) → Ends (record { handles = hs; records = seen rs }) h r s m (seated hs h r m) (left us p.id p.mode)
ends_moved hs rs us h r s m d p i o e a w =
    let g : List (ℕ × Open) = seated hs h r m in
    let ts = left us p.id p.mode in
    let v : IsCounted g ts = counts_are g ts (λ q k. (count hs q k + part r m q k) - part p.id p.mode q k) (leaves us p.id p.mode (λ q k. count hs q k + part r m q k) (joins rs us r m d (count hs) (tallied_of hs rs i) a.joined) w) (λ q k. moved_count hs h (record { id = r; mode = m; closing = is_marked (open_of hs h) }) p q k o e) in
    record {
      counted = v;
      attached = ap (λ es. record { handles = g; records = es }) (sym (settled g us p.id p.mode w v) ∙ ap (λ es. filter (λ x. has g x.0) es) a.seen);
    }

-- what is answered
pub answered : (hs : List (ℕ × Open)) (rs : List (RecordId × Record)) (h : ℕ) (r : RecordId) (s : ℕ) (m : Mode) (u : Table) → is_new (told_by (lookup (is_id r) rs)).window s ≡ true → u ≡ attached (record { handles = hs; records = seen rs }) h r s m → attach_in (record { handles = hs; records = seen rs }) h r s m ≡ Some u
answered hs rs h r s m u n e =
    let f : is_new (told_of (seen rs) r).window s ≡ true = ap (λ (o : Told). is_new o.window s) (told_seen rs r) ∙ n in
    rw f (ap (λ z. Some z) (sym e))

pub refused : (hs : List (ℕ × Open)) (rs : List (RecordId × Record)) (h : ℕ) (r : RecordId) (s : ℕ) (m : Mode) → is_new (told_by (lookup (is_id r) rs)).window s ≡ false → attach_in (record { handles = hs; records = seen rs }) h r s m ≡ None
refused hs rs h r s m n =
    let f : is_new (told_of (seen rs) r).window s ≡ false = ap (λ (o : Told). is_new o.window s) (told_seen rs r) ∙ n in
    rw f refl

-- ---- each way out

-- the record was told the seqid, or there is no memory for it
pub refuse_ready : (hs : List (ℕ × Open)) (rs ss : List (RecordId × Record)) (h : ℕ) (r : RecordId) (s : ℕ) (m : Mode) (f : AttachFault) → ReadyGives rs r s (Err f) ss → AttachGives (record { handles = hs; records = seen rs }) h r s m (Err f) (record { handles = hs; records = seen ss })
refuse_ready hs rs ss h r s m (Seq n) w = (refused hs rs h r s m w.0, w.1, ap (λ es. record { handles = hs; records = seen es }) w.2)
refuse_ready hs rs ss h r s m NoMemory w = ap (λ es. record { handles = hs; records = seen es }) w

pub refuse_counted : (hs : List (ℕ × Open)) (rs ss : List (RecordId × Record)) (r : RecordId) (s : ℕ) (f : AttachFault) → IsCounted hs rs → ReadyGives rs r s (Err f) ss → IsCounted hs ss
refuse_counted hs rs ss r s (Seq n) i w = subst (λ es. IsCounted hs es) (sym w.2) i
refuse_counted hs rs ss r s NoMemory i w = subst (λ es. IsCounted hs es) (sym w) i

-- there is no memory for the handle
pub unseated_counted : (hs gs : List (ℕ × Open)) (rs ss us : List (RecordId × Record)) (r : RecordId) (s : ℕ) → IsCounted hs rs → Readies rs r s ss → gs ≡ hs → us ≡ discarded ss r → IsCounted gs us
unseated_counted hs gs rs ss us r s i y e f = subst (λ x. IsCounted x us) (sym e) (subst (λ x. IsCounted hs x) (sym f) (undone hs rs ss r s i y).counted)

pub unseated : (hs gs : List (ℕ × Open)) (rs ss us : List (RecordId × Record)) (r : RecordId) (s : ℕ) → IsCounted hs rs → Readies rs r s ss → gs ≡ hs → us ≡ discarded ss r → ◌≡◌ {A = Table} (record { handles = gs; records = seen us }) (record { handles = hs; records = seen rs })
unseated hs gs rs ss us r s i y e f =
    let a : ◌≡◌ {A = Table} (record { handles = gs; records = seen us }) (record { handles = hs; records = seen us }) = ap (λ (x : List (ℕ × Open)). record { handles = x; records = seen us }) e in
    let b : seen us ≡ seen rs = ap (λ x. seen x) f ∙ (undone hs rs ss r s i y).seen in
    a ∙ ap (λ (x : List (RecordId × Told)). record { handles = hs; records = x }) b

-- the handle is new
pub seated_new : (hs gs : List (ℕ × Open)) (rs ss us : List (RecordId × Record)) (h : ℕ) (r : RecordId) (s : ℕ) (m : Mode) → IsCounted hs rs → IsStrictlySortedBy nat_cmp (keys_of hs) → open_of hs h ≡ None → Readies rs r s ss → Joins ss r s m us → gs ≡ seated hs h r m → Ends (record { handles = hs; records = seen rs }) h r s m gs us
seated_new hs gs rs ss us h r s m i o e y j f =
    let a = attaches rs ss us r s m y j in
    subst (λ x. Ends (record { handles = hs; records = seen rs }) h r s m x us) (sym f) (ends_new hs rs us h r s m a.0 i o e a.1)

-- the handle was there
pub seated_moved : (hs gs : List (ℕ × Open)) (rs ss us ts : List (RecordId × Record)) (h : ℕ) (r : RecordId) (s : ℕ) (m : Mode) (p : Open) → IsCounted hs rs → IsStrictlySortedBy nat_cmp (keys_of hs) → open_of hs h ≡ Some p → Readies rs r s ss → Joins ss r s m us → gs ≡ seated hs h r m → IsStrictlySortedBy id_cmp (keys_of us) → ts ≡ left us p.id p.mode → Ends (record { handles = hs; records = seen rs }) h r s m gs ts
seated_moved hs gs rs ss us ts h r s m p i o e y j f w g =
    let a = attaches rs ss us r s m y j in
    subst (λ x. Ends (record { handles = hs; records = seen rs }) h r s m x ts) (sym f)
    (subst (λ x. Ends (record { handles = hs; records = seen rs }) h r s m (seated hs h r m) x) (sym g) (ends_moved hs rs us h r s m a.0 p i o e a.1 w))

pub accepted : (hs gs : List (ℕ × Open)) (rs ss ts : List (RecordId × Record)) (h : ℕ) (r : RecordId) (s : ℕ) (m : Mode) → Readies rs r s ss → Ends (record { handles = hs; records = seen rs }) h r s m gs ts → attach_in (record { handles = hs; records = seen rs }) h r s m ≡ Some (record { handles = gs; records = seen ts })
accepted hs gs rs ss ts h r s m y e = answered hs rs h r s m (record { handles = gs; records = seen ts }) y.new e.attached
