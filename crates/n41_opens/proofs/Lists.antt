-- Lists of entries: what is put in, taken out, and seen through a function of the values.
use Rattle.std.proofs.Common.{◌≡◌, Bool, true, false, cond, List, [], ◌∷◌, map, filter, None, Some, Result, Ok, Err, IfOk, option_map, refl, sym, ◌∙◌, ap}
use Rattle.std.specs.declared.cmp.Ordering.{Ordering}
use Rattle.std.specs.declared.cmp.Ordering.TheVariants.{Less, Equal, Greater}
use Rattle.std.specs.Ordering.{is_eq}
use Rattle.std.specs.Cmp.{IsTotalOrder, eq_by_cmp_equiv}
use Rattle.std.specs.Result.{MatchResult}
use Rattle.std.specs.Map.{lookup, remove_entry, set_value, keys_of}
use Rattle.std.specs.BTreeMap.{insert_entry}
use Rattle.std.specs.List.Sorted.{IsStrictlySortedBy}
use Rattle.std.proofs.lemmas.Map.{lookup-none}
use Rattle.std.proofs.lemmas.Map.Entries.{none_below_head}
use Rattle.std.proofs.lemmas.Map.Keys.{sorted_tail}

-- the keys that are equal to one
abbrev pub at : {K : Type 0} → (K → K → Ordering) → K → K → Bool
at R k q = is_eq (R k q)

itself : {K : Type 0} {R : K → K → Ordering} → IsTotalOrder R → (k : K) → at R k k ≡ true
itself o k = (eq_by_cmp_equiv o).refl k

none_is_none : {A : Type 0} (x : A) → Some x ≡ None → ⊥
none_is_none x e = absurd (cc)

-- ---- what was put in and then written anew

set_after_by : {K X : Type 0} {R : K → K → Ordering} (o : IsTotalOrder R) (e : K × X) (es : List (K × X)) (k : K) (v w : X) → set_value (at R k) (insert_entry R es k v) w ≡ insert_entry R es k w → (c : Ordering) → R k e.0 ≡ c → set_value (at R k) (insert_entry R (e ∷ es) k v) w ≡ insert_entry R (e ∷ es) k w
set_after_by o e es k v w ih Less h = rw (h, itself o k) refl
set_after_by o e es k v w ih Equal h = rw (h, h) refl
set_after_by o e es k v w ih Greater h = rw (h, h) (ap (λ fs. e ∷ fs) ih)

pub set_after_insert : {K X : Type 0} {R : K → K → Ordering} (o : IsTotalOrder R) (es : List (K × X)) (k : K) (v w : X) → set_value (at R k) (insert_entry R es k v) w ≡ insert_entry R es k w
set_after_insert o [] k v w = rw (itself o k) refl
set_after_insert {R = R} o (e ∷ es) k v w = set_after_by o e es k v w (set_after_insert o es k v w) (R k e.0) refl

-- ---- what was put in where it was not, and then taken out

remove_after_by : {K X : Type 0} {R : K → K → Ordering} (o : IsTotalOrder R) (e : K × X) (es : List (K × X)) (k : K) (v : X) → (lookup (at R k) es ≡ None → remove_entry (at R k) (insert_entry R es k v) ≡ es) → lookup (at R k) (e ∷ es) ≡ None → (c : Ordering) → R k e.0 ≡ c → remove_entry (at R k) (insert_entry R (e ∷ es) k v) ≡ e ∷ es
remove_after_by o e es k v ih n Less h = rw (h, itself o k) refl
remove_after_by {R = R} o e es k v ih n Equal h = absurd (let f : lookup (at R k) (e ∷ es) ≡ Some e.1 = rw h refl in none_is_none e.1 (sym f ∙ n))
remove_after_by {R = R} o e es k v ih n Greater h =
    let f : lookup (at R k) (e ∷ es) ≡ lookup (at R k) es = rw h refl in
    rw (h, h) (ap (λ fs. e ∷ fs) (ih (sym f ∙ n)))

pub remove_after_insert : {K X : Type 0} {R : K → K → Ordering} (o : IsTotalOrder R) (es : List (K × X)) (k : K) (v : X) → lookup (at R k) es ≡ None → remove_entry (at R k) (insert_entry R es k v) ≡ es
remove_after_insert o [] k v n = rw (itself o k) refl
remove_after_insert {R = R} o (e ∷ es) k v n = remove_after_by o e es k v (remove_after_insert o es k v) n (R k e.0) refl

-- ---- what is there and is written anew

set_insert_by : {K X : Type 0} {R : K → K → Ordering} (o : IsTotalOrder R) (e : K × X) (es : List (K × X)) (k : K) (u v : X) → (lookup (at R k) es ≡ Some u → set_value (at R k) es v ≡ insert_entry R es k v) → IsStrictlySortedBy R (keys_of (e ∷ es)) → lookup (at R k) (e ∷ es) ≡ Some u → (c : Ordering) → R k e.0 ≡ c → set_value (at R k) (e ∷ es) v ≡ insert_entry R (e ∷ es) k v
set_insert_by {R = R} o e es k u v ih s l Less h = absurd (none_is_none u (sym l ∙ lookup-none (at R k) (e ∷ es) (none_below_head o k e es s h)))
set_insert_by o e es k u v ih s l Equal h = rw h refl
set_insert_by {R = R} o e es k u v ih s l Greater h =
    let f : lookup (at R k) (e ∷ es) ≡ lookup (at R k) es = rw h refl in
    rw h (ap (λ fs. e ∷ fs) (ih (sym f ∙ l)))

pub set_is_insert : {K X : Type 0} {R : K → K → Ordering} (o : IsTotalOrder R) (es : List (K × X)) (k : K) (u v : X) → IsStrictlySortedBy R (keys_of es) → lookup (at R k) es ≡ Some u → set_value (at R k) es v ≡ insert_entry R es k v
set_is_insert o [] k u v s l = absurd (cc)
set_is_insert {R = R} o (e ∷ es) k u v s l = set_insert_by o e es k u v (set_is_insert o es k u v (sorted_tail R e.0 (keys_of es) s)) s l (R k e.0) refl

-- ---- seen through a function of the values

through_insert_by : {K X Y : Type 0} (f : X → Y) (R : K → K → Ordering) (e : K × X) (es : List (K × X)) (k : K) (v : X) → map (λ d. (d.0, f d.1)) (insert_entry R es k v) ≡ insert_entry R (map (λ d. (d.0, f d.1)) es) k (f v) → (c : Ordering) → R k e.0 ≡ c → map (λ d. (d.0, f d.1)) (insert_entry R (e ∷ es) k v) ≡ insert_entry R (map (λ d. (d.0, f d.1)) (e ∷ es)) k (f v)
through_insert_by f R e es k v ih Less h = rw h refl
through_insert_by f R e es k v ih Equal h = rw h refl
through_insert_by f R e es k v ih Greater h = rw h (ap (λ fs. (e.0, f e.1) ∷ fs) ih)

pub through_insert : {K X Y : Type 0} (f : X → Y) (R : K → K → Ordering) (es : List (K × X)) (k : K) (v : X) → map (λ d. (d.0, f d.1)) (insert_entry R es k v) ≡ insert_entry R (map (λ d. (d.0, f d.1)) es) k (f v)
through_insert f R [] k v = refl
through_insert f R (e ∷ es) k v = through_insert_by f R e es k v (through_insert f R es k v) (R k e.0) refl

through_set_by : {K X Y : Type 0} (f : X → Y) (t : K → Bool) (e : K × X) (es : List (K × X)) (w : X) → map (λ d. (d.0, f d.1)) (set_value t es w) ≡ set_value t (map (λ d. (d.0, f d.1)) es) (f w) → (b : Bool) → t e.0 ≡ b → map (λ d. (d.0, f d.1)) (set_value t (e ∷ es) w) ≡ set_value t (map (λ d. (d.0, f d.1)) (e ∷ es)) (f w)
through_set_by f t e es w ih true h = rw h refl
through_set_by f t e es w ih false h = rw h (ap (λ fs. (e.0, f e.1) ∷ fs) ih)

pub through_set : {K X Y : Type 0} (f : X → Y) (t : K → Bool) (es : List (K × X)) (w : X) → map (λ d. (d.0, f d.1)) (set_value t es w) ≡ set_value t (map (λ d. (d.0, f d.1)) es) (f w)
through_set f t [] w = refl
through_set f t (e ∷ es) w = through_set_by f t e es w (through_set f t es w) (t e.0) refl

through_remove_by : {K X Y : Type 0} (f : X → Y) (t : K → Bool) (e : K × X) (es : List (K × X)) → map (λ d. (d.0, f d.1)) (remove_entry t es) ≡ remove_entry t (map (λ d. (d.0, f d.1)) es) → (b : Bool) → t e.0 ≡ b → map (λ d. (d.0, f d.1)) (remove_entry t (e ∷ es)) ≡ remove_entry t (map (λ d. (d.0, f d.1)) (e ∷ es))
through_remove_by f t e es ih true h = rw h refl
through_remove_by f t e es ih false h = rw h (ap (λ fs. (e.0, f e.1) ∷ fs) ih)

pub through_remove : {K X Y : Type 0} (f : X → Y) (t : K → Bool) (es : List (K × X)) → map (λ d. (d.0, f d.1)) (remove_entry t es) ≡ remove_entry t (map (λ d. (d.0, f d.1)) es)
through_remove f t [] = refl
through_remove f t (e ∷ es) = through_remove_by f t e es (through_remove f t es) (t e.0) refl

through_lookup_by : {K X Y : Type 0} (f : X → Y) (t : K → Bool) (e : K × X) (es : List (K × X)) → lookup t (map (λ d. (d.0, f d.1)) es) ≡ option_map f (lookup t es) → (b : Bool) → t e.0 ≡ b → lookup t (map (λ d. (d.0, f d.1)) (e ∷ es)) ≡ option_map f (lookup t (e ∷ es))
through_lookup_by f t e es ih true h = rw h refl
through_lookup_by f t e es ih false h = rw h ih

pub through_lookup : {K X Y : Type 0} (f : X → Y) (t : K → Bool) (es : List (K × X)) → lookup t (map (λ d. (d.0, f d.1)) es) ≡ option_map f (lookup t es)
through_lookup f t [] = refl
through_lookup f t (e ∷ es) = through_lookup_by f t e es (through_lookup f t es) (t e.0) refl

-- ---- by a test of the keys

found_behind : {K X : Type 0} (t : K → Bool) (e : K × X) (es : List (K × X)) (v : X) → lookup t es ≡ Some v → (b : Bool) → t e.0 ≡ b → (u : X) × (lookup t (e ∷ es) ≡ Some u)
found_behind t e es v l true h = (e.1, rw h refl)
found_behind t e es v l false h = (v, rw h l)

-- all entries pass, where each key that is found does
pub keep_all : {K X : Type 0} {R : K → K → Ordering} (o : IsTotalOrder R) (p : K → Bool) (es : List (K × X)) → ((k : K) (v : X) → lookup (at R k) es ≡ Some v → p k ≡ true) → filter (λ e. p e.0) es ≡ es
keep_all o p [] h = refl
keep_all {R = R} o p (e ∷ es) h =
    let g : p e.0 ≡ true = h e.0 e.1 (rw (itself o e.0) refl) in
    rw g (ap (λ fs. e ∷ fs) (keep_all o p es (λ k v l. (let f = found_behind (at R k) e es v l (at R k e.0) refl in h k f.0 f.1))))

-- an entry that does not pass may be gone
drop_by : {K X : Type 0} (p t : K → Bool) (e : K × X) (es : List (K × X)) → ((q : K) → t q ≡ true → p q ≡ false) → filter (λ d. p d.0) (remove_entry t es) ≡ filter (λ d. p d.0) es → (b : Bool) → t e.0 ≡ b → filter (λ d. p d.0) (remove_entry t (e ∷ es)) ≡ filter (λ d. p d.0) (e ∷ es)
drop_by p t e es n ih true h = rw (h, n e.0 h) refl
drop_by p t e es n ih false h = rw h (ap (λ fs. cond (p e.0) (e ∷ fs) fs) ih)

pub drop_one : {K X : Type 0} (p t : K → Bool) (es : List (K × X)) → ((q : K) → t q ≡ true → p q ≡ false) → filter (λ d. p d.0) (remove_entry t es) ≡ filter (λ d. p d.0) es
drop_one p t [] n = refl
drop_one p t (e ∷ es) n = drop_by p t e es n (drop_one p t es n) (t e.0) refl

-- ---- what is said of a value that came

pub ok_as : {A E : Type 0} {P Q : A → Type 0} (F : E → Type 0) (r : Result A E) → MatchResult r P F → ((x : A) → P x → Q x) → IfOk r Q
ok_as F (Ok x) m h = h x m
ok_as F (Err e) m h = tt
