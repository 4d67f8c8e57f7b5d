-- What the steps on records give.
use Rattle.std.proofs.Common.{◌≡◌, ℕ, Bool, true, false, List, [], ◌∷◌, Option, None, Some, Result, Ok, Err, IfOk, OnErr, is_some, not, option_map, unwrap_or, refl, sym, ◌∙◌, ap, subst}
use Rattle.std.specs.Prelude.{⊤}
use Rattle.std.specs.Map.{lookup, remove_entry, set_value, keys_of}
use Rattle.std.specs.List.Sorted.{IsStrictlySortedBy}
use Rattle.std.proofs.lemmas.Map.Steps.{set_value_same}
use Rattle.n41_types.specs.declared.identities.Stateid.{Stateid}
use Rattle.n41_types.specs.declared.spans.Mode.{Mode}
use Rattle.n41_seqid.specs.Fronts.{is_new}
use Rattle.n41_opens.specs.declared.ids.RecordId.{RecordId}
use Rattle.n41_opens.specs.declared.answers.AttachFault.{AttachFault}
use Rattle.n41_opens.specs.declared.answers.AttachFault.TheVariants.{Seq, NoMemory}
use Rattle.n41_opens.specs.declared.records.Record.{Record}
use Rattle.n41_opens.specs.Ids.{id_cmp, is_id, id_total}
use Rattle.n41_opens.specs.Opens.{is_change, heard, untold, told_of}
use Rattle.n41_opens.specs.Inside.{more, fewer, left, left_by, lessened_by, union_of, told_in, told_by, seen, tally_by, Joins, ReadyGives, WidenGives, HearGives, TellGives, discarded, discarded_by}
use Rattle.n41_opens.proofs.Lists.{set_is_insert, through_set, through_lookup}
use Rattle.n41_opens.proofs.Counts.{lookup_set}

-- ---- entries

remove_set_by : {K X : Type 0} (t : K → Bool) (e : K × X) (es : List (K × X)) (w : X) → remove_entry t (set_value t es w) ≡ remove_entry t es → (b : Bool) → t e.0 ≡ b → remove_entry t (set_value t (e ∷ es) w) ≡ remove_entry t (e ∷ es)
remove_set_by t e es w ih true h = rw h (rw h refl)
remove_set_by t e es w ih false h = rw h (rw h (ap (λ fs. e ∷ fs) ih))

-- what was written and then taken out
pub remove_after_set : {K X : Type 0} (t : K → Bool) (es : List (K × X)) (w : X) → remove_entry t (set_value t es w) ≡ remove_entry t es
remove_after_set t [] w = refl
remove_after_set t (e ∷ es) w = remove_set_by t e es w (remove_after_set t es w) (t e.0) refl

absent_by : {K X : Type 0} (t : K → Bool) (e : K × X) (es : List (K × X)) → (lookup t es ≡ None → remove_entry t es ≡ es) → lookup t (e ∷ es) ≡ None → (b : Bool) → t e.0 ≡ b → remove_entry t (e ∷ es) ≡ e ∷ es
absent_by t e es ih n true h = absurd (let f : lookup t (e ∷ es) ≡ Some e.1 = rw h refl in cc)
absent_by t e es ih n false h =
    let f : lookup t (e ∷ es) ≡ lookup t es = rw h refl in
    rw h (ap (λ fs. e ∷ fs) (ih (sym f ∙ n)))

-- what is not there is not taken out
pub remove_absent : {K X : Type 0} (t : K → Bool) (es : List (K × X)) → lookup t es ≡ None → remove_entry t es ≡ es
remove_absent t [] n = refl
remove_absent t (e ∷ es) n = absent_by t e es (remove_absent t es) n (t e.0) refl

-- ---- what is told

told_some : (o : Option Record) → unwrap_or (option_map told_in o) untold ≡ told_by o
told_some None = refl
told_some (Some c) = refl

pub told_seen : (rs : List (RecordId × Record)) (r : RecordId) → told_of (seen rs) r ≡ told_by (lookup (is_id r) rs)
told_seen rs r = ap (λ o. unwrap_or o untold) (through_lookup told_in (is_id r) rs) ∙ told_some (lookup (is_id r) rs)

-- ---- a record that is written in its place

pub seen_same : (rs : List (RecordId × Record)) (r : RecordId) (c d : Record) → lookup (is_id r) rs ≡ Some c → told_in d ≡ told_in c → seen (set_value (is_id r) rs d) ≡ seen rs
seen_same rs r c d e t = through_set told_in (is_id r) rs d ∙ set_value_same (is_id r) (seen rs) (told_in d) (through_lookup told_in (is_id r) rs ∙ (ap (λ o. option_map told_in o) e ∙ ap (λ o. Some o) (sym t)))

pub ready_by : (rs ss : List (RecordId × Record)) (r : RecordId) (s : ℕ) (c d : Record) (g : Result ⊤ AttachFault) → IsStrictlySortedBy id_cmp (keys_of rs) → lookup (is_id r) rs ≡ Some c → ss ≡ set_value (is_id r) rs d → WidenGives c s g d → ReadyGives rs r s g ss
ready_by rs ss r s c d (Ok u) o e f w = record {
  new = subst (λ x. is_new (told_by x).window s ≡ true) (sym e) w.0;
  ready = (
    d,
    record {
      told = w.1 ∙ sym (ap (λ x. told_by x) e);
      tally = w.2 ∙ sym (ap (λ x. tally_by x) e);
      room = w.3;
      entries = f ∙ set_is_insert id_total rs r c d o e;
      at = λ q. ap (λ es. lookup (is_id q) es) f ∙ lookup_set rs r c d e q;
      same = λ i. ap (λ es. seen es) f ∙ seen_same rs r c d e w.1;
    },
  );
}
ready_by rs ss r s c d (Err (Seq n)) o e f w = (subst (λ x. is_new (told_by x).window s ≡ false) (sym e) w.0, w.1, f ∙ set_value_same (is_id r) rs d (e ∙ ap (λ x. Some x) (sym w.2)))
ready_by rs ss r s c d (Err NoMemory) o e f w = f ∙ set_value_same (is_id r) rs d (e ∙ ap (λ x. Some x) (sym w))

pub join_by : (rs ss : List (RecordId × Record)) (r : RecordId) (s : ℕ) (m : Mode) (c d : Record) → lookup (is_id r) rs ≡ Some c → ss ≡ set_value (is_id r) rs d → told_in d ≡ heard s (told_in c) → d.tally ≡ more m c.tally → Joins rs r s m ss
join_by rs ss r s m c d e f t a = record { heard = (c, d, record { was = e; told = t; entries = f }, a) }

pub change_by : (rs ss : List (RecordId × Record)) (r : RecordId) (s : Stateid) (c d : Record) (b : Bool) → IsStrictlySortedBy id_cmp (keys_of rs) → lookup (is_id r) rs ≡ Some c → ss ≡ set_value (is_id r) rs d → TellGives c r s b d → HearGives rs r s b ss
change_by rs ss r s c d true o e f w = record {
  change = subst (λ x. is_change (told_by x) r s ≡ true) (sym e) w.0;
  heard = (c, d, record { was = e; told = w.1; entries = f }, w.2);
  ordered = o;
}
change_by rs ss r s c d false o e f w = (subst (λ x. is_change (told_by x) r s ≡ false) (sym e) w.0, f ∙ set_value_same (is_id r) rs d (e ∙ ap (λ x. Some x) (sym w.1)))

pub change_ok : {E : Type 0} (rs ss : List (RecordId × Record)) (r : RecordId) (s : Stateid) (c d : Record) (g : Result Bool E) → IsStrictlySortedBy id_cmp (keys_of rs) → lookup (is_id r) rs ≡ Some c → ss ≡ set_value (is_id r) rs d → IfOk g (λ b. TellGives c r s b d) → IfOk g (λ b. HearGives rs r s b ss)
change_ok rs ss r s c d (Ok b) o e f w = change_by rs ss r s c d b o e f w
change_ok rs ss r s c d (Err x) o e f w = tt

pub change_err : {E : Type 0} (rs ss : List (RecordId × Record)) (r : RecordId) (c d : Record) (g : Result Bool E) → lookup (is_id r) rs ≡ Some c → ss ≡ set_value (is_id r) rs d → OnErr g (d ≡ c) → OnErr g (ss ≡ rs)
change_err rs ss r c d (Ok b) e f w = tt
change_err rs ss r c d (Err x) e f w = f ∙ set_value_same (is_id r) rs d (e ∙ ap (λ y. Some y) (sym w))

-- ---- a handle leaves

not_some : {A : Type 0} (o : Option A) (b : Bool) → is_some o ≡ not b → b ≡ true → o ≡ None
not_some None b e f = refl
not_some (Some x) b e f = absurd (let g : true ≡ not true = e ∙ ap (λ z. not z) f in cc)

pub leave_last : (rs ts : List (RecordId × Record)) (r : RecordId) (m : Mode) (c : Record) (u : Option Mode) (b : Bool) → lookup (is_id r) rs ≡ Some c → u ≡ union_of (fewer m c.tally) → is_some u ≡ not b → b ≡ true → ts ≡ remove_entry (is_id r) rs → ts ≡ left rs r m
leave_last rs ts r m c u b e f g h t =
    let n : union_of (fewer m c.tally) ≡ None = sym f ∙ not_some u b g h in
    t ∙ sym (ap (λ o. left_by rs r m o) e ∙ ap (λ o. lessened_by rs r (record c { tally = fewer m c.tally }) o) n)

pub discard_absent : (rs : List (RecordId × Record)) (r : RecordId) → lookup (is_id r) rs ≡ None → rs ≡ discarded rs r
discard_absent rs r e = sym (ap (λ o. discarded_by rs r (union_of (tally_by o))) e ∙ remove_absent (is_id r) rs e)
