-- A format that reads the same bytes as another one does, and sees another value in them.
use Rattle.std.specs.Int.{w32}
use Rattle.std.proofs.Common.{◌≡◌, ◌<◌, ◌^◌, ℕ, zero, suc, Bool, true, false, cond, List, [], ◌∷◌, ◌++◌, length, map, Option, Some, None, Result, Ok, Err, refl, sym, ap, subst, ◌∙◌}
use Rattle.std.specs.List.{flat_map, AllByRecursion}
use Rattle.std.proofs.lemmas.List.Concat.{flat_map-cons}
use Rattle.n41_xdr.specs.declared.fault.XdrFault.{XdrFault}
use Rattle.n41_xdr.specs.Spelling as spelling
use Rattle.n41_xdr.specs.Reading.{◌>>=◌, number_at, boolean_at}
use Rattle.n41_xdr.specs.Format.{Format, ◌&◌, mapped, made, fault_as, many_at, list, chain, chain_at, chain_next}

-- q reads what p reads, seen by to, and spells what p spells of a value that from gives
pub record IsSeen {E A B : Type 0} (to : A → B) (from : B → A) (p : Format E A) (q : Format E B) : Type 0 where
  pub reads : (bytes : List ℕ) → q.read bytes ≡ made to p bytes
  pub spells : (b : B) → q.spell b ≡ p.spell (from b)
  pub fits : (b : B) → p.Fits (from b) → q.Fits b

pub mapped_seen : {E A B : Type 0} (to : A → B) (from : B → A) (p : Format E A) → IsSeen to from p (mapped to from p)
mapped_seen to from p = record { reads = λ bytes. refl; spells = λ b. refl; fits = λ b fits. fits }

-- ---- behind a part, and before one

abbrev seen : {E A B : Type 0} → (A → B) → Result (A × List ℕ) E → Result (B × List ℕ) E
seen to read = read >>= λ x. Ok (to x.0, x.1)

abbrev pair_with : {E A B : Type 0} → A → Result (B × List ℕ) E → Result ((A × B) × List ℕ) E
pair_with a read = read >>= λ y. Ok ((a, y.0), y.1)

pair_seen : {E A B C : Type 0} (to : B → C) (a : A) (read : Result (B × List ℕ) E) → pair_with a (seen to read) ≡ seen (λ v. (v.0, to v.1)) (pair_with a read)
pair_seen to a (Ok y) = refl
pair_seen to a (Err e) = refl

behind_reads : {E O A B : Type 0} (to : A → B) (from : B → A) (p : Format E A) (q : Format E B) → IsSeen to from p q → (read : Result (O × List ℕ) E)
    → (read >>= λ x. pair_with x.0 (q.read x.1)) ≡ seen (λ v. (v.0, to v.1)) (read >>= λ x. pair_with x.0 (p.read x.1))
behind_reads to from p q h (Ok x) = ap (pair_with x.0) (h.reads x.1) ∙ pair_seen to x.0 (p.read x.1)
behind_reads to from p q h (Err e) = refl

pub behind_seen : {E O A B : Type 0} (to : A → B) (from : B → A) (o : Format E O) (p : Format E A) (q : Format E B) → IsSeen to from p q → IsSeen (λ v. (v.0, to v.1)) (λ v. (v.0, from v.1)) (o & p) (o & q)
behind_seen to from o p q h = record {
  reads = λ bytes. behind_reads to from p q h (o.read bytes);
  spells = λ v. ap (λ (t : List ℕ). o.spell v.0 ++ t) (h.spells v.1);
  fits = λ v fits. (fits.0, h.fits v.1 fits.1);
}

pair_before : {E A B O : Type 0} (to : A → B) (a : A) (read : Result (O × List ℕ) E) → pair_with (to a) read ≡ seen (λ v. (to v.0, v.1)) (pair_with a read)
pair_before to a (Ok y) = refl
pair_before to a (Err e) = refl

before_reads : {E A B O : Type 0} (to : A → B) (o : Format E O) (read : Result (A × List ℕ) E)
    → (seen to read >>= λ x. pair_with x.0 (o.read x.1)) ≡ seen (λ v. (to v.0, v.1)) (read >>= λ x. pair_with x.0 (o.read x.1))
before_reads to o (Ok x) = pair_before to x.0 (o.read x.1)
before_reads to o (Err e) = refl

pub before_seen : {E A B O : Type 0} (to : A → B) (from : B → A) (p : Format E A) (q : Format E B) (o : Format E O) → IsSeen to from p q → IsSeen (λ v. (to v.0, v.1)) (λ v. (from v.0, v.1)) (p & o) (q & o)
before_seen to from p q o h = record {
  reads = λ bytes. ap (λ r. r >>= λ x. pair_with x.0 (o.read x.1)) (h.reads bytes) ∙ before_reads to o (p.read bytes);
  spells = λ v. ap (λ (t : List ℕ). t ++ o.spell v.1) (h.spells v.0);
  fits = λ v fits. (h.fits v.0 fits.0, fits.1);
}

-- ---- seen once more

again_seen : {E A B C D : Type 0} (to : A → B) (top : A → C) (on : C → D) (toq : B → D) → ((a : A) → on (top a) ≡ toq (to a)) → (read : Result (A × List ℕ) E) → seen toq (seen to read) ≡ seen on (seen top read)
again_seen {E} {A} {B} {C} {D} to top on toq same (Ok x) = ap (λ (d : D). let r : Result (D × List ℕ) E = Ok (d, x.1) in r) (sym (same x.0))
again_seen to top on toq same (Err e) = refl

-- both formats as other types
pub both_mapped_seen : {E A B C D : Type 0} (to : A → B) (from : B → A) (p : Format E A) (q : Format E B) (top : A → C) (fromp : C → A) (toq : B → D) (fromq : D → B) (on : C → D) (back : D → C)
    → IsSeen to from p q → ((a : A) → on (top a) ≡ toq (to a)) → ((d : D) → fromp (back d) ≡ from (fromq d)) → IsSeen on back (mapped top fromp p) (mapped toq fromq q)
both_mapped_seen to from p q top fromp toq fromq on back h there here = record {
  reads = λ bytes. ap (seen toq) (h.reads bytes) ∙ again_seen to top on toq there (p.read bytes);
  spells = λ d. h.spells (fromq d) ∙ ap p.spell (sym (here d));
  fits = λ d fits. h.fits (fromq d) (subst p.Fits (here d) fits);
}

-- ---- linked lists

abbrev more_with : {E A : Type 0} → A → Result (List A × List ℕ) E → Result (List A × List ℕ) E
more_with a read = read >>= λ y. Ok (a ∷ y.0, y.1)

more_seen : {E A B : Type 0} (to : A → B) (a : A) (read : Result (List A × List ℕ) E) → more_with (to a) (seen (map to) read) ≡ seen (map to) (more_with a read)
more_seen to a (Ok y) = refl
more_seen to a (Err e) = refl

abbrev item : {E A : Type 0} → Result (A × List ℕ) E → Result (Option A × List ℕ) E
item read = read >>= λ x. Ok (Some x.0, x.1)

abbrev linked : {E A : Type 0} → (List ℕ → Result (List A × List ℕ) E) → Result (Option A × List ℕ) E → Result (List A × List ℕ) E
linked others read = read >>= λ m. chain_next m.0 m.1 others

linked_seen : {E A B : Type 0} (to : A → B) (others : List ℕ → Result (List A × List ℕ) E) (seen_others : List ℕ → Result (List B × List ℕ) E) → ((bytes : List ℕ) → seen_others bytes ≡ seen (map to) (others bytes)) → (read : Result (A × List ℕ) E)
    → linked seen_others (item (seen to read)) ≡ seen (map to) (linked others (item read))
linked_seen to others seen_others h (Ok x) = ap (more_with (to x.0)) (h x.1) ∙ more_seen to x.0 (others x.1)
linked_seen to others seen_others h (Err e) = refl

flagged_seen : {E A B : Type 0} (to : A → B) (from : B → A) (p : Format E A) (q : Format E B) → IsSeen to from p q → (others : List ℕ → Result (List A × List ℕ) E) (seen_others : List ℕ → Result (List B × List ℕ) E)
    → ((bytes : List ℕ) → seen_others bytes ≡ seen (map to) (others bytes)) → (more : Bool) (rest : List ℕ)
    → linked seen_others (cond more (item (q.read rest)) (Ok (None, rest))) ≡ seen (map to) (linked others (cond more (item (p.read rest)) (Ok (None, rest))))
flagged_seen to from p q h others seen_others same true rest = ap (λ r. linked seen_others (item r)) (h.reads rest) ∙ linked_seen to others seen_others same (p.read rest)
flagged_seen to from p q h others seen_others same false rest = refl

any_flag_seen : {E A B : Type 0} (to : A → B) (from : B → A) (p : Format E A) (q : Format E B) → IsSeen to from p q → (others : List ℕ → Result (List A × List ℕ) E) (seen_others : List ℕ → Result (List B × List ℕ) E)
    → ((bytes : List ℕ) → seen_others bytes ≡ seen (map to) (others bytes)) → (read : Result (Bool × List ℕ) E)
    → linked seen_others (read >>= λ more. cond more.0 (item (q.read more.1)) (Ok (None, more.1))) ≡ seen (map to) (linked others (read >>= λ more. cond more.0 (item (p.read more.1)) (Ok (None, more.1))))
any_flag_seen to from p q h others seen_others same (Ok more) = flagged_seen to from p q h others seen_others same more.0 more.1
any_flag_seen to from p q h others seen_others same (Err e) = refl

chain_at_seen : {E A B : Type 0} (f : XdrFault → E) (to : A → B) (from : B → A) (p : Format E A) (q : Format E B) → IsSeen to from p q → (n : ℕ) (bytes : List ℕ) → chain_at f q n bytes ≡ seen (map to) (chain_at f p n bytes)
chain_at_seen f to from p q h zero bytes = refl
chain_at_seen f to from p q h (suc n) bytes = any_flag_seen to from p q h (chain_at f p n) (chain_at f q n) (chain_at_seen f to from p q h n) (fault_as f (boolean_at bytes))

items_spell : {E A B : Type 0} (to : A → B) (from : B → A) (p : Format E A) (q : Format E B) → IsSeen to from p q → (xs : List B)
    → flat_map (λ x. spelling.boolean true ++ q.spell x) xs ≡ flat_map (λ x. spelling.boolean true ++ p.spell x) (map from xs)
items_spell to from p q h [] = refl
items_spell to from p q h (x ∷ xs) =
    ap (λ (t : List ℕ). (spelling.boolean true ++ t) ++ flat_map (λ x. spelling.boolean true ++ q.spell x) xs) (h.spells x)
    ∙ ap (λ (t : List ℕ). (spelling.boolean true ++ p.spell (from x)) ++ t) (items_spell to from p q h xs)

items_fit : {E A B : Type 0} (to : A → B) (from : B → A) (p : Format E A) (q : Format E B) → IsSeen to from p q → (xs : List B) → AllByRecursion p.Fits (map from xs) → AllByRecursion q.Fits xs
items_fit to from p q h [] fits = tt
items_fit to from p q h (x ∷ xs) fits = (h.fits x fits.0, items_fit to from p q h xs fits.1)

pub chain_seen : {E A B : Type 0} (f : XdrFault → E) (to : A → B) (from : B → A) (p : Format E A) (q : Format E B) → IsSeen to from p q → IsSeen (map to) (map from) (chain f p) (chain f q)
chain_seen f to from p q h = record {
  reads = λ bytes. chain_at_seen f to from p q h (suc (length bytes)) bytes;
  spells = λ xs. ap (λ (t : List ℕ). t ++ spelling.boolean false) (items_spell to from p q h xs);
  fits = items_fit to from p q h;
}

-- ---- arrays

many_next_seen : {E A B : Type 0} (to : A → B) (others : List ℕ → Result (List A × List ℕ) E) (seen_others : List ℕ → Result (List B × List ℕ) E) → ((bytes : List ℕ) → seen_others bytes ≡ seen (map to) (others bytes)) → (read : Result (A × List ℕ) E)
    → (seen to read >>= λ x. more_with x.0 (seen_others x.1)) ≡ seen (map to) (read >>= λ x. more_with x.0 (others x.1))
many_next_seen to others seen_others same (Ok x) = ap (more_with (to x.0)) (same x.1) ∙ more_seen to x.0 (others x.1)
many_next_seen to others seen_others same (Err e) = refl

many_at_seen : {E A B : Type 0} (to : A → B) (from : B → A) (p : Format E A) (q : Format E B) → IsSeen to from p q → (n : ℕ) (bytes : List ℕ) → many_at q n bytes ≡ seen (map to) (many_at p n bytes)
many_at_seen to from p q h zero bytes = refl
many_at_seen to from p q h (suc n) bytes =
    ap (λ r. r >>= λ x. more_with x.0 (many_at q n x.1)) (h.reads bytes) ∙ many_next_seen to (many_at p n) (many_at q n) (many_at_seen to from p q h n) (p.read bytes)

counted_seen : {E A B : Type 0} (to : A → B) (from : B → A) (p : Format E A) (q : Format E B) → IsSeen to from p q → (read : Result (ℕ × List ℕ) E) → (read >>= λ n. many_at q n.0 n.1) ≡ seen (map to) (read >>= λ n. many_at p n.0 n.1)
counted_seen to from p q h (Ok n) = many_at_seen to from p q h n.0 n.1
counted_seen to from p q h (Err e) = refl

elements_spell : {E A B : Type 0} (to : A → B) (from : B → A) (p : Format E A) (q : Format E B) → IsSeen to from p q → (xs : List B) → flat_map q.spell xs ≡ flat_map p.spell (map from xs)
elements_spell to from p q h [] = refl
elements_spell to from p q h (x ∷ xs) = ap (λ (t : List ℕ). t ++ flat_map q.spell xs) (h.spells x) ∙ ap (λ (t : List ℕ). p.spell (from x) ++ t) (elements_spell to from p q h xs)

map_length : {A B : Type 0} (f : A → B) (xs : List A) → length (map f xs) ≡ length xs
map_length f [] = refl
map_length f (x ∷ xs) = ap suc (map_length f xs)

pub list_seen : {E A B : Type 0} (f : XdrFault → E) (to : A → B) (from : B → A) (p : Format E A) (q : Format E B) → IsSeen to from p q → IsSeen (map to) (map from) (list f p) (list f q)
list_seen f to from p q h = record {
  reads = λ bytes. counted_seen to from p q h (fault_as f (number_at w32 bytes));
  spells = λ xs. ap (λ (t : List ℕ). spelling.word (length xs) ++ t) (elements_spell to from p q h xs) ∙ ap (λ (n : ℕ). spelling.word n ++ flat_map p.spell (map from xs)) (sym (map_length from xs));
  fits = λ xs fits. (subst (λ (n : ℕ). n < 2 ^ 32) (map_length from xs) fits.0, items_fit to from p q h xs fits.1);
}
