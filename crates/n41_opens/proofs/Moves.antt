-- Handles that move: which records they then have.
use Rattle.std.proofs.Common.{◌≡◌, ℕ, Bool, true, false, ◌||◌, List, [], ◌∷◌, refl, sym, ◌∙◌, ap, subst}
use Rattle.std.specs.declared.cmp.Ordering.{Ordering}
use Rattle.std.specs.declared.cmp.Ordering.TheVariants.{Less, Equal, Greater}
use Rattle.std.specs.Ordering.{nat_cmp}
use Rattle.std.specs.BTreeMap.{insert_entry}
use Rattle.n41_types.specs.declared.spans.Mode.{Mode}
use Rattle.n41_opens.specs.declared.ids.RecordKey.{RecordKey}
use Rattle.n41_opens.specs.declared.ids.RecordId.{RecordId}
use Rattle.n41_opens.specs.declared.handles.Open.{Open}
use Rattle.n41_opens.specs.Ids.{key_cmp, is_key, is_id}
use Rattle.n41_opens.specs.Opens.{has, moved, all_moved, seated, all_seated, is_marked, open_of}
use Rattle.n41_opens.specs.Inside.{AreFrom}
use Rattle.n41_opens.proofs.Counts.{is_equal, key_exact, laws}

-- ---- one of two

pub or_left : (a b : Bool) → a ≡ true → (a || b) ≡ true
or_left a b e = rw e refl

pub or_right : (a b : Bool) → b ≡ true → (a || b) ≡ true
or_right true b e = refl
or_right false b e = e

pub or_cases : (a b c : Bool) → (a || b) ≡ true → (a ≡ true → c ≡ true) → (b ≡ true → c ≡ true) → c ≡ true
or_cases true b c e f g = f refl
or_cases false b c e f g = g e

pub has_head : (e : ℕ × Open) (es : List (ℕ × Open)) → has (e ∷ es) e.1.id ≡ true
has_head e es = or_left (is_id e.1.id e.1.id) (has es e.1.id) (laws.refl e.1.id)

pub has_tail : (e : ℕ × Open) (es : List (ℕ × Open)) (q : RecordId) → has es q ≡ true → has (e ∷ es) q ≡ true
has_tail e es q h = or_right (is_id q e.1.id) (has es q) h

turned : (q r : RecordId) → is_id q r ≡ true → is_id r q ≡ true
turned q r h = sym (laws.symm q r) ∙ h

-- ---- all handles of a key

same_key : (r : RecordId) (o : Open) → is_key r.key o.id.key ≡ true → record o { id = record { key = o.id.key; other = r.other } } ≡ record o { id = r }
same_key r o h = ap (λ (k : RecordKey). record o { id = record { key = k; other = r.other } }) (sym (key_exact r.key o.id.key (is_equal (key_cmp r.key o.id.key) h)))

pub moved_there : (r : RecordId) (o : Open) → is_key r.key o.id.key ≡ true → record o { id = record { key = o.id.key; other = r.other } } ≡ moved r o
moved_there r o h = rw h (same_key r o h)

moved_by : (e : ℕ × Open) (hs gs : List (ℕ × Open)) (r q : RecordId) → ((is_id r q || has hs q) ≡ true → (is_id r q || has (e ∷ hs) q) ≡ true) → (has gs q ≡ true → (is_id r q || has hs q) ≡ true) → has ((e.0, moved r e.1) ∷ gs) q ≡ true → (b : Bool) → is_key r.key e.1.id.key ≡ b → (is_id r q || has (e ∷ hs) q) ≡ true
moved_by e hs gs r q up ih h true f =
    let m : moved r e.1 ≡ record e.1 { id = r } = rw f refl in
    let g : (is_id q r || has gs q) ≡ true = subst (λ (o : Open). (is_id q o.id || has gs q) ≡ true) m h in
    or_cases (is_id q r) (has gs q) (is_id r q || has (e ∷ hs) q) g (λ a. or_left (is_id r q) (has (e ∷ hs) q) (turned q r a)) (λ a. up (ih a))
moved_by e hs gs r q up ih h false f =
    let m : moved r e.1 ≡ e.1 = rw f refl in
    let g : (is_id q e.1.id || has gs q) ≡ true = subst (λ (o : Open). (is_id q o.id || has gs q) ≡ true) m h in
    or_cases (is_id q e.1.id) (has gs q) (is_id r q || has (e ∷ hs) q) g (λ a. or_right (is_id r q) (has (e ∷ hs) q) (or_left (is_id q e.1.id) (has hs q) a)) (λ a. up (ih a))

behind : (e : ℕ × Open) (hs : List (ℕ × Open)) (r q : RecordId) → (is_id r q || has hs q) ≡ true → (is_id r q || has (e ∷ hs) q) ≡ true
behind e hs r q h = or_cases (is_id r q) (has hs q) (is_id r q || has (e ∷ hs) q) h (λ a. or_left (is_id r q) (has (e ∷ hs) q) a) (λ a. or_right (is_id r q) (has (e ∷ hs) q) (has_tail e hs q a))

pub moved_from : (hs : List (ℕ × Open)) (r : RecordId) → AreFrom (all_moved r hs) hs r
moved_from [] r q h = or_right (is_id r q) false h
moved_from (e ∷ hs) r q h = moved_by e hs (all_moved r hs) r q (behind e hs r q) (moved_from hs r q) h (is_key r.key e.1.id.key) refl

-- ---- some handles

put_by : (e : ℕ × Open) (hs : List (ℕ × Open)) (h : ℕ) (o : Open) (q : RecordId) → (has (insert_entry nat_cmp hs h o) q ≡ true → (is_id q o.id || has hs q) ≡ true) → has (insert_entry nat_cmp (e ∷ hs) h o) q ≡ true → (c : Ordering) → nat_cmp h e.0 ≡ c → (is_id q o.id || has (e ∷ hs) q) ≡ true
put_by e hs h o q ih g Less f =
    let i : insert_entry nat_cmp (e ∷ hs) h o ≡ (h, o) ∷ e ∷ hs = rw f refl in
    sym (ap (λ x. has x q) i) ∙ g
put_by e hs h o q ih g Equal f =
    let i : insert_entry nat_cmp (e ∷ hs) h o ≡ (e.0, o) ∷ hs = rw f refl in
    let j : (is_id q o.id || has hs q) ≡ true = sym (ap (λ x. has x q) i) ∙ g in
    or_cases (is_id q o.id) (has hs q) (is_id q o.id || has (e ∷ hs) q) j (λ a. or_left (is_id q o.id) (has (e ∷ hs) q) a) (λ a. or_right (is_id q o.id) (has (e ∷ hs) q) (has_tail e hs q a))
put_by e hs h o q ih g Greater f =
    let i : insert_entry nat_cmp (e ∷ hs) h o ≡ e ∷ insert_entry nat_cmp hs h o = rw f refl in
    let j : (is_id q e.1.id || has (insert_entry nat_cmp hs h o) q) ≡ true = sym (ap (λ x. has x q) i) ∙ g in
    or_cases (is_id q e.1.id) (has (insert_entry nat_cmp hs h o) q) (is_id q o.id || has (e ∷ hs) q) j (λ a. or_right (is_id q o.id) (has (e ∷ hs) q) (or_left (is_id q e.1.id) (has hs q) a)) (λ a. or_cases (is_id q o.id) (has hs q) (is_id q o.id || has (e ∷ hs) q) (ih a) (λ b. or_left (is_id q o.id) (has (e ∷ hs) q) b) (λ b. or_right (is_id q o.id) (has (e ∷ hs) q) (has_tail e hs q b)))

has_put : (hs : List (ℕ × Open)) (h : ℕ) (o : Open) (q : RecordId) → has (insert_entry nat_cmp hs h o) q ≡ true → (is_id q o.id || has hs q) ≡ true
has_put [] h o q g = g
has_put (e ∷ hs) h o q g = put_by e hs h o q (has_put hs h o q) g (nat_cmp h e.0) refl

has_seated : (hs : List (ℕ × Open)) (h : ℕ) (r : RecordId) (m : Mode) (q : RecordId) → has (seated hs h r m) q ≡ true → (is_id r q || has hs q) ≡ true
has_seated hs h r m q g = or_cases (is_id q r) (has hs q) (is_id r q || has hs q) (has_put hs h (record { id = r; mode = m; closing = is_marked (open_of hs h) }) q g) (λ a. or_left (is_id r q) (has hs q) (turned q r a)) (λ a. or_right (is_id r q) (has hs q) a)

pub seated_from : (hs : List (ℕ × Open)) (r : RecordId) (es : List (ℕ × Mode)) → AreFrom (all_seated hs r es) hs r
seated_from hs r [] q h = or_right (is_id r q) (has hs q) h
seated_from hs r (e ∷ es) q h =
    let i : (is_id r q || has (seated hs e.0 r e.1) q) ≡ true = seated_from (seated hs e.0 r e.1) r es q h in
    or_cases (is_id r q) (has (seated hs e.0 r e.1) q) (is_id r q || has hs q) i (λ a. or_left (is_id r q) (has hs q) a) (λ a. has_seated hs e.0 r e.1 q a)
