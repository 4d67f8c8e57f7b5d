-- What is written for attributes is a spelling of them.
use Rattle.std.proofs.Common.{◌≡◌, ℕ, ◌+◌, ◌<◌, ◌≤◌, ◌^◌, ◌%◌, append_assoc, Bool, true, false, cond, not, ◌&&◌, eqb, List, [], ◌∷◌, ◌++◌, length, take, Option, Some, None, Ok, refl, sym, ap, ◌∙◌, arith}
use Rattle.std.specs.Prelude.{is_some, is_none, IfSome}
use Rattle.std.proofs.lemmas.Bool.{and_parts}
use Rattle.std.proofs.lemmas.List.{append-nil, length-append}
use Rattle.n41_xdr.specs.Spelling as spelling
use Rattle.n41_xdr.specs.Spelling.{fill, fill_len}
use Rattle.n41_xdr.specs.Format.{made, word, hyper}
use Rattle.n41_xdr.proofs.Lawful.{made_again}
use Rattle.n41_types.specs.declared.attributes.Attrs.{Attrs}
use Rattle.n41_attr.specs.Bitmaps.{bitmap, has, least_unknown}
use Rattle.n41_attr.specs.Attributes.{when_text, WhenFits, values, values_text, first_text, last_text, behind, told, attrs_of, mask_of, first_word, written, AttrsFit}
use Rattle.n41_attr.proofs.Lawful.{told_lawful}

-- ---- the opaque has no fill

pub no_fill : (text : List ℕ) → length text % 4 ≡ 0 → spelling.opaque text ≡ spelling.word (length text) ++ text
unfolding spelling.opaque spelling.fixed
no_fill text words =
    let none : fill_len (length text) ≡ 0 = omega arith in
    ap (λ (n : ℕ). spelling.word (length text) ++ (text ++ take n (0 ∷ 0 ∷ 0 ∷ []))) none ∙ ap (λ (t : List ℕ). spelling.word (length text) ++ t) (append-nil text)

-- ---- the bitmap has just what is told

abbrev first_bits : Bool → Bool → Bool → Bool → Bool → ℕ
first_bits k c s l f = cond k 2 0 + (cond c 8 0 + (cond s 16 0 + (cond l 1024 0 + cond f 1048576 0)))

abbrev mask_bits : Bool → Bool → Bool → Bool → Bool → Bool → List ℕ
mask_bits k c s l f m = cond m (first_bits k c s l f ∷ 2 ∷ []) (cond (eqb (first_bits k c s l f) 0) [] (first_bits k c s l f ∷ []))

same : Bool → Bool → Bool
same x y = cond x y (not y)

same_is : (x y : Bool) → same x y ≡ true → x ≡ y
unfolding same
same_is true true e = refl
same_is true false e = absurd cc
same_is false true e = absurd cc
same_is false false e = refl

agrees : Bool → Bool → Bool → Bool → Bool → Bool → Bool
unfolding same
agrees k c s l f m =
    same (has (mask_bits k c s l f m) 1) k && (same (has (mask_bits k c s l f m) 3) c && (same (has (mask_bits k c s l f m) 4) s && (same (has (mask_bits k c s l f m) 10) l
    && (same (has (mask_bits k c s l f m) 20) f && (same (has (mask_bits k c s l f m) 33) m && is_none (least_unknown (mask_bits k c s l f m)))))))

both_ways : (Bool → Bool) → Bool
both_ways test = test false && test true

each : (test : Bool → Bool) → both_ways test ≡ true → (b : Bool) → test b ≡ true
unfolding both_ways
each test e false = (and_parts (test false) (test true) e).0
each test e true = (and_parts (test false) (test true) e).1

agrees_always : both_ways (λ k. both_ways (λ c. both_ways (λ s. both_ways (λ l. both_ways (λ f. both_ways (λ m. agrees k c s l f m)))))) ≡ true
unfolding both_ways agrees same
agrees_always = refl

agrees_at : (k c s l f m : Bool) → agrees k c s l f m ≡ true
agrees_at k c s l f m = each (agrees k c s l f) (each (λ f. both_ways (agrees k c s l f)) (each (λ l. both_ways (λ f. both_ways (agrees k c s l f))) (each (λ s. both_ways (λ l. both_ways (λ f. both_ways (agrees k c s l f))))
    (each (λ c. both_ways (λ s. both_ways (λ l. both_ways (λ f. both_ways (agrees k c s l f))))) (each (λ k. both_ways (λ c. both_ways (λ s. both_ways (λ l. both_ways (λ f. both_ways (agrees k c s l f)))))) agrees_always k) c) s) l) f) m

-- the bitmap mask has just these of the attributes, and no other
record HasJust (mask : List ℕ) (k c s l f m : Bool) : Type 0 where
  pub kind : has mask 1 ≡ k
  pub change : has mask 3 ≡ c
  pub size : has mask 4 ≡ s
  pub lease : has mask 10 ≡ l
  pub fileid : has mask 20 ≡ f
  pub mode : has mask 33 ≡ m
  pub known : least_unknown mask ≡ None

is_none-none : {A : Type 0} (o : Option A) → is_none o ≡ true → o ≡ None
is_none-none None e = refl
is_none-none (Some a) e = absurd cc

has_just : (k c s l f m : Bool) → HasJust (mask_bits k c s l f m) k c s l f m
unfolding agrees
has_just k c s l f m =
    let h = and_parts _ _ (agrees_at k c s l f m) in
    let h3 = and_parts _ _ h.1 in
    let h4 = and_parts _ _ h3.1 in
    let h10 = and_parts _ _ h4.1 in
    let h20 = and_parts _ _ h10.1 in
    let h33 = and_parts _ _ h20.1 in
    record {
      kind = same_is _ _ h.0;
      change = same_is _ _ h3.0;
      size = same_is _ _ h4.0;
      lease = same_is _ _ h10.0;
      fileid = same_is _ _ h20.0;
      mode = same_is _ _ h33.0;
      known = is_none-none _ h33.1;
    }

-- ---- it fits

short_fits : (b : Bool) (x : ℕ) → x < 2 ^ 32 → bitmap.Fits (cond b [] (x ∷ []))
unfolding bitmap
short_fits true x lt = (omega arith, tt)
short_fits false x lt = (omega arith, (lt, tt))

mask_fits : (m b : Bool) (x : ℕ) → x < 2 ^ 32 → bitmap.Fits (cond m (x ∷ 2 ∷ []) (cond b [] (x ∷ [])))
unfolding bitmap
mask_fits true b x lt = (omega arith, (lt, (omega arith, tt)))
mask_fits false b x lt = short_fits b x lt

bit_le : (b : Bool) (n : ℕ) → cond b n 0 ≤ n
bit_le true n = omega arith
bit_le false n = omega arith

when_fits : {A : Type 0} (Fits : A → Type 0) (b : Bool) (o : Option A) → b ≡ is_some o → IfSome o Fits → WhenFits b Fits o
when_fits Fits b None e h = e
when_fits Fits b (Some x) e h = (e, h)

word_le : (o : Option ℕ) → length (when_text word.spell o) ≤ 4
unfolding spelling.word
word_le None = omega arith
word_le (Some n) = omega arith

hyper_le : (o : Option ℕ) → length (when_text hyper.spell o) ≤ 8
unfolding spelling.hyper
hyper_le None = omega arith
hyper_le (Some n) = omega arith

regrouped : (a b c d e f : List ℕ) → a ++ (b ++ (c ++ (d ++ (e ++ f)))) ≡ ((a ++ b) ++ c) ++ ((d ++ e) ++ f)
regrouped a b c d e f = simp append_assoc

values_spell : (mask : List ℕ) (a : Attrs) → (values mask).spell a ≡ values_text a
unfolding values
values_spell mask a =
    regrouped (when_text word.spell a.kind) (when_text hyper.spell a.change) (when_text hyper.spell a.size) (when_text word.spell a.lease) (when_text hyper.spell a.fileid) (when_text word.spell a.mode)

six_le : (a b c d e f : List ℕ) → length a ≤ 4 → length b ≤ 8 → length c ≤ 8 → length d ≤ 4 → length e ≤ 8 → length f ≤ 4 → length (((a ++ b) ++ c) ++ ((d ++ e) ++ f)) ≤ 36
six_le a b c d e f ha hb hc hd he hf =
    omega (arith, length-append ((a ++ b) ++ c) ((d ++ e) ++ f), length-append (a ++ b) c, length-append a b, length-append (d ++ e) f, length-append d e)

values_le : (a : Attrs) → length (values_text a) ≤ 36
values_le a = six_le _ _ _ _ _ _ (word_le a.kind) (hyper_le a.change) (hyper_le a.size) (word_le a.lease) (hyper_le a.fileid) (word_le a.mode)

values_fit : (mask : List ℕ) (a : Attrs) → HasJust mask (is_some a.kind) (is_some a.change) (is_some a.size) (is_some a.lease) (is_some a.fileid) (is_some a.mode) → AttrsFit a → (values mask).Fits a
unfolding values
values_fit mask a h fits =
    (when_fits _ _ a.kind h.kind fits.0, (when_fits _ _ a.change h.change fits.1, (when_fits _ _ a.size h.size fits.2, (when_fits _ _ a.lease h.lease fits.3, (when_fits _ _ a.fileid h.fileid fits.4, when_fits _ _ a.mode h.mode fits.5)))))

first_word_lt : (a : Attrs) → first_word a < 2 ^ 32
first_word_lt a = omega (arith, bit_le (is_some a.kind) 2, bit_le (is_some a.change) 8, bit_le (is_some a.size) 16, bit_le (is_some a.lease) 1024, bit_le (is_some a.fileid) 1048576)

pub written_fits : (a : Attrs) → AttrsFit a → told.Fits (written a)
unfolding told behind
written_fits a fits =
    let h = has_just (is_some a.kind) (is_some a.change) (is_some a.size) (is_some a.lease) (is_some a.fileid) (is_some a.mode) in
    let room : length ((values (mask_of a)).spell a) < 2 ^ 32 = omega (arith, ap length (values_spell (mask_of a) a), values_le a) in
    (mask_fits (is_some a.mode) (eqb (first_word a) 0) (first_word a) (first_word_lt a), (refl, (h.known, (values_fit (mask_of a) a h fits, room))))

pub written_read : (a : Attrs) (rest : List ℕ) → AttrsFit a → made attrs_of told (told.spell (written a) ++ rest) ≡ Ok (a, rest)
written_read a rest fits = made_again attrs_of told told_lawful (written a) rest (written_fits a fits)

pub written_text : (a : Attrs) → length (values_text a) % 4 ≡ 0 → told.spell (written a) ≡ bitmap.spell (mask_of a) ++ (spelling.word (length (values_text a)) ++ values_text a)
unfolding told behind
written_text a words =
    ap (λ (t : List ℕ). bitmap.spell (mask_of a) ++ spelling.opaque t) (values_spell (mask_of a) a) ∙ ap (λ (t : List ℕ). bitmap.spell (mask_of a) ++ t) (no_fill (values_text a) words)
