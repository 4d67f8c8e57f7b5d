-- The first item with a seqid, by its place.
use Rattle.std.proofs.Common.{◌≡◌, ◌≢◌, ◌+◌, inl, inr, length, get_or, ℕ, zero, suc, ◌<◌, ◌≤◌, true, false, List, [], ◌∷◌, Some, None, slice_get, nat_eq, refl, sym, ◌∙◌, ap, arith}
use Rattle.std.specs.Map.{lookup, remove_entry}
use Rattle.std.specs.List.{remove}
use Rattle.std.proofs.lemmas.Bool.{ne_eqb, eq-eqb, cases_lt, and_right}
use Rattle.n41_seqid.specs.Fronts.{Window, is_new, IsPlaceOf, waits, popped}
use Rattle.n41_seqid.specs.Seqids.{next, is_newer}
use Rattle.std.proofs.lemmas.Option.{get_or_from_slice_get, slice_get-get_or}

-- none of the items has the seqid
pub absent : {T : Type 0} → (s : ℕ) (ws : List (ℕ × T)) → ((k t : ℕ) (x : T) → slice_get ws k ≡ Some (t, x) → t ≢ s) → lookup (nat_eq s) ws ≡ None
absent s [] h = refl
absent s (w ∷ ws) h =
    let e : nat_eq s w.0 ≡ false = ne_eqb s w.0 (λ p. h zero w.0 w.1 refl (sym p)) in
    rw e (absent s ws (λ k t x. h (suc k) t x))

some_is : {A : Type 0} (x y : A) → Some x ≡ Some y → x ≡ y
some_is x y e = cc

found : {T : Type 0} → (s : ℕ) (ws : List (ℕ × T)) (n : ℕ) (x : T) → slice_get ws n ≡ Some (s, x) → ((k t : ℕ) (y : T) → k < n → slice_get ws k ≡ Some (t, y) → t ≢ s) → lookup (nat_eq s) ws ≡ Some x
found s [] n x g h = absurd (cc)
found s (w ∷ ws) zero x g h =
    let d : w ≡ (s, x) = some_is w (s, x) g in
    let e : nat_eq s w.0 ≡ true = eq-eqb s w.0 (sym (ap (λ v. v.0) d)) in
    rw e (ap (λ v. Some v.1) d)
found s (w ∷ ws) (suc n) x g h =
    let e : nat_eq s w.0 ≡ false = ne_eqb s w.0 (λ p. h zero w.0 w.1 (omega arith) refl (sym p)) in
    rw e (found s ws n x g (λ k t y l. h (suc k) t y (omega arith)))

removed : {T : Type 0} → (s : ℕ) (ws : List (ℕ × T)) (n : ℕ) (x : T) → slice_get ws n ≡ Some (s, x) → ((k t : ℕ) (y : T) → k < n → slice_get ws k ≡ Some (t, y) → t ≢ s) → remove_entry (nat_eq s) ws ≡ remove ws n
removed s [] n x g h = absurd (cc)
removed s (w ∷ ws) zero x g h =
    let d : w ≡ (s, x) = some_is w (s, x) g in
    let e : nat_eq s w.0 ≡ true = eq-eqb s w.0 (sym (ap (λ v. v.0) d)) in
    rw e refl
removed s (w ∷ ws) (suc n) x g h =
    let e : nat_eq s w.0 ≡ false = ne_eqb s w.0 (λ p. h zero w.0 w.1 (omega arith) refl (sym p)) in
    rw e (ap (λ vs. w ∷ vs) (removed s ws n x g (λ k t y l. h (suc k) t y (omega arith))))

-- the item at the place is the one that waits, and it leaves
pub taken : {T : Type 0} (w : Window T) (n : ℕ) (d : ℕ × T) → IsPlaceOf (next w.at) w.waiting n → d ≡ get_or w.waiting n d → Some d.1 ≡ waits w (next w.at)
taken w n d p e =
    let y = p.item.0 in
    let a : get_or w.waiting n d ≡ (next w.at, y) = get_or_from_slice_get w.waiting n (next w.at, y) d p.item.1 in
    ap (λ z. Some z.1) (e ∙ a) ∙ sym (found (next w.at) w.waiting n y p.item.1 p.first)

pub moved : {T : Type 0} (w : Window T) (n : ℕ) → IsPlaceOf (next w.at) w.waiting n → record { at = next w.at; waiting = remove w.waiting n } ≡ popped w
moved w n p =
    let y = p.item.0 in
    let a : waits w (next w.at) ≡ Some y = found (next w.at) w.waiting n y p.item.1 p.first in
    let b : remove_entry (nat_eq (next w.at)) w.waiting ≡ remove w.waiting n = removed (next w.at) w.waiting n y p.item.1 p.first in
    rw a (ap (λ ws. record { at = next w.at; waiting = ws }) (sym b))

-- a seqid with which an item waits is not new
pub not_new : {T : Type 0} (w : Window T) (s n : ℕ) → IsPlaceOf s w.waiting n → false ≡ is_new w s
not_new w s n p =
    let f : waits w s ≡ Some p.item.0 = found s w.waiting n p.item.0 p.item.1 p.first in
    rw f (sym (and_right (is_newer s w.at) false refl))

-- ---- the search

-- the item at n, where the loop has come, has the seqid
pub here : {T : Type 0} (ws : List (ℕ × T)) (n s : ℕ) (r : ℕ × T) → n < length ws → r ≡ get_or ws n r → r.0 ≡ s → ((k t : ℕ) (x : T) → k < n → slice_get ws k ≡ Some (t, x) → t ≢ s) → IsPlaceOf s ws n
here ws n s r l e f h = record { item = (r.1, slice_get-get_or ws n r l ∙ ap (λ z. Some z) (sym e) ∙ ap (λ m. Some (m, r.1)) f); first = h }

at_most : {T : Type 0} (ws : List (ℕ × T)) (n s k t : ℕ) (r : ℕ × T) (x : T) → n < length ws → r ≡ get_or ws n r → (r.0 ≡ s → ⊥) → k ≡ n → slice_get ws k ≡ Some (t, x) → t ≢ s
at_most ws n s k t r x l e f q g =
    let a : slice_get ws n ≡ Some r = slice_get-get_or ws n r l ∙ ap (λ z. Some z) (sym e) in
    let b : Some r ≡ Some (t, x) = sym a ∙ (ap (λ m. slice_get ws m) (sym q) ∙ g) in
    let d : r ≡ (t, x) = some_is r (t, x) b in
    λ p. f (ap (λ z. z.0) d ∙ p)

-- or it has not, and the search goes on
pub passed : {T : Type 0} (ws : List (ℕ × T)) (n s : ℕ) (r : ℕ × T) → n < length ws → r ≡ get_or ws n r → (r.0 ≡ s → ⊥) → ((k t : ℕ) (x : T) → k < n → slice_get ws k ≡ Some (t, x) → t ≢ s) → (k t : ℕ) (x : T) → k < n + 1 → slice_get ws k ≡ Some (t, x) → t ≢ s
passed ws n s r l e f h k t x i g = elim (cases_lt k n) [
  | inl p ↦ h k t x p g
  | inr p ↦ at_most ws n s k t r x l e f (omega arith) g
]

within : {T : Type 0} (ws : List (ℕ × T)) (k : ℕ) (y : ℕ × T) → slice_get ws k ≡ Some y → k < length ws
within [] k y g = absurd (cc)
within (w ∷ ws) zero y g = omega arith
within (w ∷ ws) (suc k) y g = (let i = within ws k y g in omega arith)

-- to the end, where none has it
pub none_there : {T : Type 0} (ws : List (ℕ × T)) (n s : ℕ) → length ws ≤ n → ((k t : ℕ) (x : T) → k < n → slice_get ws k ≡ Some (t, x) → t ≢ s) → lookup (nat_eq s) ws ≡ None
none_there ws n s l h = absent s ws (λ k t x g. (let i = within ws k (t, x) g in h k t x (omega arith) g))
