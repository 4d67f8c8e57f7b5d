-- One row is changed, and the others stay.
use Rattle.std.proofs.Common.{◌≡◌, ◌<◌, ◌≤◌, ◌+◌, ◌-◌, ℕ, zero, suc, List, [], ◌∷◌, ◌++◌, map, length, get_or, refl, ap, ◌∙◌, arith, append_assoc}
use Rattle.std.proofs.Math.ListN.{set}
use Rattle.n41_answers.specs.Answers.{noted, lists_from}
use Rattle.n41_answers.specs.Index.{Index, Entry, places_of, room_of, spent}

-- what contracts see of the rows
abbrev pub index_of : List Entry → Index
index_of rows = record { lists = map places_of rows; room = map room_of rows }

pub places_kept : (rows : List Entry) (i : ℕ) (d s : Entry) → s.places ≡ (get_or rows i d).places → map places_of (set rows i s) ≡ map places_of rows
places_kept [] zero d s f = refl
places_kept [] (suc i) d s f = refl
places_kept (x ∷ rows) zero d s f = ap (λ (ps : List ℕ). ps ∷ map places_of rows) f
places_kept (x ∷ rows) (suc i) d s f = ap (λ (ls : List (List ℕ)). x.places ∷ ls) (places_kept rows i d s f)

pub room_grows : (rows : List Entry) (i : ℕ) (d s : Entry) (c : ℕ) → (get_or rows i d).room ≤ s.room → get_or (map room_of rows) c 0 ≤ get_or (map room_of (set rows i s)) c 0
room_grows [] zero d s c l = omega arith
room_grows [] (suc i) d s c l = omega arith
room_grows (x ∷ rows) zero d s zero l = l
room_grows (x ∷ rows) zero d s (suc c) l = omega arith
room_grows (x ∷ rows) (suc i) d s zero l = omega arith
room_grows (x ∷ rows) (suc i) d s (suc c) l = room_grows rows i d s c l

pub room_made : (rows : List Entry) (i : ℕ) (s : Entry) → i < length rows → 0 < s.room → 0 < get_or (map room_of (set rows i s)) i 0
room_made [] i s l m = absurd (omega (arith, l))
room_made (x ∷ rows) zero s l m = m
room_made (x ∷ rows) (suc i) s l m = room_made rows i s (omega (arith, l)) m

pub room_within : (rows : List Entry) (c : ℕ) → 0 < get_or (map room_of rows) c 0 → c < length rows
room_within [] zero l = absurd (omega (arith, l))
room_within [] (suc c) l = absurd (omega (arith, l))
room_within (x ∷ rows) zero l = omega arith
room_within (x ∷ rows) (suc c) l = let m = room_within rows c l in omega (arith, m)

pub room_at : (rows : List Entry) (c : ℕ) (r : Entry) → c < length rows → r ≡ get_or rows c r → r.room ≡ get_or (map room_of rows) c 0
room_at [] c r l e = absurd (omega (arith, l))
room_at (x ∷ rows) zero r l e = ap room_of e
room_at (x ∷ rows) (suc c) r l e = room_at rows c r (omega (arith, l)) e

pub places_noted : (rows : List Entry) (c : ℕ) (r s : Entry) (p : ℕ) → r ≡ get_or rows c r → s.places ≡ r.places ++ p ∷ [] → map places_of (set rows c s) ≡ noted (map places_of rows) c p
places_noted [] zero r s p e f = refl
places_noted [] (suc c) r s p e f = refl
places_noted (x ∷ rows) zero r s p e f = ap (λ (ps : List ℕ). ps ∷ map places_of rows) (f ∙ ap (λ (y : Entry). y.places ++ p ∷ []) e)
places_noted (x ∷ rows) (suc c) r s p e f = ap (λ (ls : List (List ℕ)). x.places ∷ ls) (places_noted rows c r s p e f)

pub room_set : (rows : List Entry) (c : ℕ) (s : Entry) → map room_of (set rows c s) ≡ set (map room_of rows) c s.room
room_set [] zero s = refl
room_set [] (suc c) s = refl
room_set (x ∷ rows) zero s = refl
room_set (x ∷ rows) (suc c) s = ap (λ (ks : List ℕ). x.room ∷ ks) (room_set rows c s)

-- what is seen of the rows once a place was added to one that had room
pub noted_row : (rows : List Entry) (c p : ℕ) (r s : Entry) → 0 < get_or (map room_of rows) c 0 → r ≡ get_or rows c r → s ≡ record { places = r.places ++ p ∷ []; room = r.room - 1 } → index_of (set rows c s) ≡ record { lists = noted (map places_of rows) c p; room = spent (map room_of rows) c }
noted_row rows c p r s l e f =
    let a : map places_of (set rows c s) ≡ noted (map places_of rows) c p = places_noted rows c r s p e (ap places_of f) in
    let b : s.room ≡ get_or (map room_of rows) c 0 - 1 = ap room_of f ∙ ap (λ (k : ℕ). k - 1) (room_at rows c r (room_within rows c l) e) in
    let d : map room_of (set rows c s) ≡ spent (map room_of rows) c = room_set rows c s ∙ ap (λ (k : ℕ). set (map room_of rows) c k) b in
    rw (a, d) refl

pub places_more : (rows : List Entry) (r : Entry) → map places_of (rows ++ r ∷ []) ≡ map places_of rows ++ r.places ∷ []
places_more [] r = refl
places_more (x ∷ rows) r = ap (λ (ls : List (List ℕ)). x.places ∷ ls) (places_more rows r)

-- one more row without places is one more list of the empty journal
pub one_more : (rows : List Entry) (r : Entry) (n i : ℕ) (ls : List (List ℕ)) → i < n → r.places ≡ [] → ls ≡ map places_of rows ++ lists_from [] i (n - i) → ls ≡ map places_of (rows ++ r ∷ []) ++ lists_from [] (i + 1) (n - (i + 1))
one_more rows r n i ls l e h =
    let k : n - i ≡ suc (n - (i + 1)) = omega (arith, l) in
    rw (places_more rows r, e, append_assoc (map places_of rows) ([] ∷ []) (lists_from [] (i + 1) (n - (i + 1)))) (h ∙ ap (λ (m : ℕ). map places_of rows ++ lists_from [] i m) k)
