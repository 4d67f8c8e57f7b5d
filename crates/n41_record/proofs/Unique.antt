-- A stream is its records in one way.
use Rattle.std.proofs.Common.{◌≡◌, ℕ, ◌+◌, ◌<◌, ◌≤◌, ◌^◌, Bool, true, false, List, [], ◌∷◌, ◌++◌, length, refl, sym, ap, subst, ◌∙◌, append_assoc, length-append, arith, inl, inr}
use Rattle.std.specs.List.{concat}
use Rattle.std.specs.Int.{w32, from_be_bytes}
use Rattle.std.proofs.lemmas.Nat.{from_be_bytes-to_be_bytes_4}
use Rattle.n41_record.specs.declared.fault.GatherFault.{GatherFault}
use Rattle.n41_record.specs.declared.fault.GatherFault.TheVariants.{TooLong, TooMany, NoMemory}
use Rattle.n41_record.specs.Fragments.{word_of, header, fragment, earlier, most_bytes, most_fragments, IsFragments, AreWithin, IsShort, IsRest, IsRefused, Passes}
use Rattle.n41_record.specs.Streams.{AreRecords, Records, Refused}
use Rattle.n41_record.proofs.Spelled.{length-header}

split_same : (xs ys a b : List ℕ) → length xs ≡ length ys → xs ++ a ≡ ys ++ b → (xs ≡ ys) × (a ≡ b)
split_same [] [] a b n e = (refl, e)
split_same [] (y ∷ ys) a b n e = absurd (omega (arith, n))
split_same (x ∷ xs) [] a b n e = absurd (omega (arith, n))
split_same (x ∷ xs) (y ∷ ys) a b n e =
    let head : x ≡ y = cc in
    let tail : xs ++ a ≡ ys ++ b = cc in
    let size : length xs ≡ length ys = omega (arith, n) in
    let k = split_same xs ys a b size tail in
    let both : xs ≡ ys = k.0 in
    (cc, k.1)

word_one : (a b : Bool) (n m : ℕ) → n < 2 ^ 31 → m < 2 ^ 31 → word_of a n ≡ word_of b m → (a ≡ b) × (n ≡ m)
word_one true true n m h k e = (refl, omega (arith, e))
word_one false false n m h k e = (refl, e)
word_one true false n m h k e = absurd (omega (arith, e))
word_one false true n m h k e = absurd (omega (arith, e))

word_fits : (a : Bool) (n : ℕ) → n < 2 ^ 31 → word_of a n < 2 ^ 32
word_fits true n h = omega arith
word_fits false n h = omega arith

header_word : (a : Bool) (n : ℕ) → n < 2 ^ 31 → from_be_bytes w32 (header a n) ≡ word_of a n
unfolding header
header_word a n h = from_be_bytes-to_be_bytes_4 (word_of a n) (word_fits a n h)

header_one : (a b : Bool) (n m : ℕ) (x y : List ℕ) → n < 2 ^ 31 → m < 2 ^ 31 → header a n ++ x ≡ header b m ++ y → (a ≡ b) × (n ≡ m) × (x ≡ y)
header_one a b n m x y h k e =
    let s = split_same (header a n) (header b m) x y (length-header a n ∙ sym (length-header b m)) e in
    let w = word_one a b n m h k (sym (header_word a n h) ∙ ap (from_be_bytes w32) s.0 ∙ header_word b m k) in
    (w.0, w.1, s.1)

fragment_one : (a b : Bool) (f g x y : List ℕ) → length f < 2 ^ 31 → length g < 2 ^ 31 → header a (length f) ++ (f ++ x) ≡ header b (length g) ++ (g ++ y) → (a ≡ b) × (f ≡ g) × (x ≡ y)
fragment_one a b f g x y h k e =
    let o = header_one a b (length f) (length g) (f ++ x) (g ++ y) h k e in
    let s = split_same f g x y o.1 o.2 in
    (o.0, s.0, s.1)

-- no whole fragment that keeps the limits stands at the front of the tail
abbrev Stuck : Bool → ℕ → ℕ → List ℕ → Type 0
Stuck last count sum tail = (g more : List ℕ) → tail ≡ header last (length g) ++ (g ++ more) → count < most_fragments → sum + length g ≤ most_bytes → ⊥

same_before : (b d : List (List ℕ)) (c s c1 s1 c2 s2 : ℕ) (t u : List ℕ) → c1 ≡ c + length b → s1 ≡ s + length (concat b) → c2 ≡ c + length d → s2 ≡ s + length (concat d)
    → c1 ≤ most_fragments → s1 ≤ most_bytes → c2 ≤ most_fragments → s2 ≤ most_bytes → Stuck false c1 s1 t → Stuck false c2 s2 u → earlier b ++ t ≡ earlier d ++ u → (b ≡ d) × (t ≡ u)
same_before [] [] c s c1 s1 c2 s2 t u e1 f1 e2 f2 h1 k1 h2 k2 st su e = (refl, e)
same_before [] (g ∷ gs) c s c1 s1 c2 s2 t u e1 f1 e2 f2 h1 k1 h2 k2 st su e =
    absurd (st g (earlier gs ++ u) (e ∙ append_assoc (fragment false g) (earlier gs) u ∙ append_assoc (header false (length g)) g (earlier gs ++ u)) (omega (arith, e1, e2, h2)) (omega (arith, f1, f2, k2, length-append g (concat gs))))
same_before (f ∷ fs) [] c s c1 s1 c2 s2 t u e1 f1 e2 f2 h1 k1 h2 k2 st su e =
    absurd (su f (earlier fs ++ t) (sym e ∙ append_assoc (fragment false f) (earlier fs) t ∙ append_assoc (header false (length f)) f (earlier fs ++ t)) (omega (arith, e1, e2, h1)) (omega (arith, f1, f2, k1, length-append f (concat fs))))
same_before (f ∷ fs) (g ∷ gs) c s c1 s1 c2 s2 t u e1 f1 e2 f2 h1 k1 h2 k2 st su e =
    let o = fragment_one false false f g (earlier fs ++ t) (earlier gs ++ u) (omega (arith, f1, k1, length-append f (concat fs))) (omega (arith, f2, k2, length-append g (concat gs)))
    (sym (append_assoc (header false (length f)) f (earlier fs ++ t)) ∙ sym (append_assoc (fragment false f) (earlier fs) t) ∙ e ∙ append_assoc (fragment false g) (earlier gs) u ∙ append_assoc (header false (length g)) g (earlier gs ++ u)) in
    let size : length f ≡ length g = ap length o.1 in
    let k = same_before fs gs (c + 1) (s + length f) c1 s1 c2 s2 t u (omega (arith, e1)) (omega (arith, f1, length-append f (concat fs))) (omega (arith, e2)) (omega (arith, f2, size, length-append g (concat gs))) h1 k1 h2 k2 st su o.2 in
    let first : f ≡ g = o.1 in
    let later : fs ≡ gs = k.0 in
    (cc, k.1)

-- the same from the start
same_start : (b d : List (List ℕ)) (t u : List ℕ) → AreWithin b → AreWithin d → Stuck false (length b) (length (concat b)) t → Stuck false (length d) (length (concat d)) u → earlier b ++ t ≡ earlier d ++ u → (b ≡ d) × (t ≡ u)
same_start b d t u v w st su e = same_before b d 0 0 (length b) (length (concat b)) (length d) (length (concat d)) t u (omega arith) (omega arith) (omega arith) (omega arith) v.many v.long w.many w.long st su e

-- a record's beginning at which no whole record stands
record Ending (r : List ℕ) : Type 0 where
  before : List (List ℕ)
  tail : List ℕ
  spelled : r ≡ earlier before ++ tail
  within : AreWithin before
  stuck : (last : Bool) → Stuck last (length before) (length (concat before)) tail

stuck_short : (b : List (List ℕ)) (t : List ℕ) → IsShort b t → (last : Bool) → Stuck last (length b) (length (concat b)) t
stuck_short b t (inl few) last g more e many long = omega (arith, few, ap length e, length-append (header last (length g)) (g ++ more), length-header last (length g))
stuck_short b t (inr o) last g more e many long =
    let h = header_one o.last last o.size (length g) o.came (g ++ more) (omega (arith, o.long)) (omega (arith, long)) (sym o.spelled ∙ e) in
    omega (arith, o.lacks, h.1, ap length h.2, length-append g more)

passes_not : (b : List (List ℕ)) (n : ℕ) (f : GatherFault) → Passes b n f → length b < most_fragments → length (concat b) + n ≤ most_bytes → ⊥
passes_not b n (TooLong sum) p many long = omega (arith, p.0, p.1)
passes_not b n TooMany p many long = omega (arith, p.0)
passes_not b n NoMemory p many long = p

rest_ending : (r : List ℕ) → IsRest r → Ending r
rest_ending r i = record { before = i.before; tail = i.tail; spelled = i.spelled; within = i.within; stuck = stuck_short i.before i.tail i.short }

refused_ending : (r : List ℕ) (f : GatherFault) → IsRefused r f → Ending r
refused_ending r f i = record {
  before = i.before;
  tail = header i.last i.size ++ i.after;
  spelled = i.spelled;
  within = i.within;
  stuck = λ last g more e many long.
      let h = header_one i.last last i.size (length g) i.after (g ++ more) i.fits (omega (arith, long)) e in
      passes_not i.before i.size f i.passes many (omega (arith, long, h.1));
}

stuck_last : (c s : ℕ) (final more : List ℕ) → length final < 2 ^ 31 → Stuck false c s (header true (length final) ++ (final ++ more))
stuck_last c s final more h g other e many long =
    let o = fragment_one true false final g more other h (omega (arith, long)) e in
    let same : true ≡ false = o.0 in
    cc

text_cut : (before : List (List ℕ)) (final text after : List ℕ) → text ≡ earlier before ++ fragment true final → text ++ after ≡ earlier before ++ (header true (length final) ++ (final ++ after))
text_cut before final text after e = ap (λ (x : List ℕ). x ++ after) e ∙ append_assoc (earlier before) (fragment true final) after ∙ ap (λ (x : List ℕ). earlier before ++ x) (append_assoc (header true (length final)) final after)

fragments_within : (bytes text : List ℕ) (i : IsFragments bytes text) → AreWithin i.before × (length i.final < 2 ^ 31)
fragments_within bytes text i =
    (record { many = omega (arith, i.many); long = omega (arith, i.long, ap length i.joined, length-append (concat i.before) i.final) }, omega (arith, i.long, ap length i.joined, length-append (concat i.before) i.final))

record_one : (x y a b front other : List ℕ) → IsFragments x front → IsFragments y other → front ++ a ≡ other ++ b → (x ≡ y) × (a ≡ b)
record_one x y a b front other i j e =
    let v = fragments_within x front i in
    let w = fragments_within y other j in
    let k = same_start i.before j.before _ _ v.0 w.0 (stuck_last _ _ i.final a v.1) (stuck_last _ _ j.final b w.1) (sym (text_cut i.before i.final front a i.spelled) ∙ e ∙ text_cut j.before j.final other b j.spelled) in
    let o = fragment_one true true i.final j.final a b v.1 w.1 k.1 in
    let before : i.before ≡ j.before = k.0 in
    let final : i.final ≡ j.final = o.1 in
    (i.joined ∙ ap (λ (q : List (List ℕ)). concat q ++ i.final) before ∙ ap (λ (q : List ℕ). concat j.before ++ q) final ∙ sym j.joined, o.2)

no_record : (x a front r : List ℕ) → IsFragments x front → Ending r → r ≡ front ++ a → ⊥
no_record x a front r i n e =
    let v = fragments_within x front i in
    let k = same_start n.before i.before n.tail _ n.within v.0 (n.stuck false) (stuck_last _ _ i.final a v.1) (sym n.spelled ∙ e ∙ text_cut i.before i.final front a i.spelled) in
    let before : n.before ≡ i.before = k.0 in
    n.stuck true i.final a k.1 (omega (arith, ap length before, i.many)) (omega (arith, ap (λ (q : List (List ℕ)). length (concat q)) before, i.long, ap length i.joined, length-append (concat i.before) i.final))

one_list : (xs ys : List (List ℕ)) (front other r q : List ℕ) → AreRecords front xs → AreRecords other ys → Ending r → Ending q → front ++ r ≡ other ++ q → (xs ≡ ys) × (r ≡ q)
one_list [] [] front other r q a b n m e = (refl, ap (λ (x : List ℕ). x ++ r) (sym a) ∙ e ∙ ap (λ (x : List ℕ). x ++ q) b)
one_list [] (y ∷ ys) front other r q a b n m e =
    absurd (no_record y (b.1 ++ q) b.0 r b.3 n (ap (λ (x : List ℕ). x ++ r) (sym a) ∙ e ∙ ap (λ (x : List ℕ). x ++ q) b.2 ∙ append_assoc b.0 b.1 q))
one_list (x ∷ xs) [] front other r q a b n m e =
    absurd (no_record x (a.1 ++ r) a.0 q a.3 m (ap (λ (t : List ℕ). t ++ q) (sym b) ∙ sym e ∙ ap (λ (t : List ℕ). t ++ r) a.2 ∙ append_assoc a.0 a.1 r))
one_list (x ∷ xs) (y ∷ ys) front other r q a b n m e =
    let o = record_one x y (a.1 ++ r) (b.1 ++ q) a.0 b.0 a.3 b.3 (sym (append_assoc a.0 a.1 r) ∙ ap (λ (t : List ℕ). t ++ r) (sym a.2) ∙ e ∙ ap (λ (t : List ℕ). t ++ q) b.2 ∙ append_assoc b.0 b.1 q) in
    let k = one_list xs ys a.1 b.1 r q a.4 b.4 n m o.1 in
    let first : x ≡ y = o.0 in
    let later : xs ≡ ys = k.0 in
    (cc, k.1)

pub records_one : (stream : List ℕ) (xs ys : List (List ℕ)) (r q : List ℕ) → Records stream xs r → Records stream ys q → (xs ≡ ys) × (r ≡ q)
records_one stream xs ys r q a b = one_list xs ys a.front b.front r q a.records b.records (rest_ending r a.ending) (rest_ending q b.ending) (sym a.whole ∙ b.whole)

fault_one : (b : List (List ℕ)) (n : ℕ) (f g : GatherFault) → Passes b n f → Passes b n g → f ≡ g
fault_one b n (TooLong x) (TooLong y) p q = ap TooLong (p.0 ∙ sym q.0)
fault_one b n (TooLong x) TooMany p q = absurd (omega (arith, p.0, p.1, q.1))
fault_one b n (TooLong x) NoMemory p q = absurd q
fault_one b n TooMany (TooLong y) p q = absurd (omega (arith, q.0, q.1, p.1))
fault_one b n TooMany TooMany p q = refl
fault_one b n TooMany NoMemory p q = absurd q
fault_one b n NoMemory g p q = absurd p

refused_same : (r : List ℕ) (f g : GatherFault) → IsRefused r f → IsRefused r g → f ≡ g
unfolding refused_ending
refused_same r f g i j =
    let n = refused_ending r f i in
    let m = refused_ending r g j in
    let k = same_start i.before j.before _ _ i.within j.within (n.stuck false) (m.stuck false) (sym i.spelled ∙ j.spelled) in
    let h = header_one i.last j.last i.size j.size i.after j.after i.fits j.fits k.1 in
    let P : List (List ℕ) → Type 0 = λ b. Passes b j.size f in
    fault_one j.before j.size f g (subst P k.0 (subst (λ (z : ℕ). Passes i.before z f) h.1 i.passes)) j.passes

pub refused_one : (stream : List ℕ) (xs ys : List (List ℕ)) (r q : List ℕ) (f g : GatherFault) → Refused stream xs r f → Refused stream ys q g → (xs ≡ ys) × (r ≡ q) × (f ≡ g)
refused_one stream xs ys r q f g a b =
    let k = one_list xs ys a.front b.front r q a.records b.records (refused_ending r f a.ending) (refused_ending q g b.ending) (sym a.whole ∙ b.whole) in
    let same : r ≡ q = k.1 in
    (k.0, same, refused_same q f g (subst (λ (x : List ℕ). IsRefused x f) same a.ending) b.ending)

short_not : (b : List (List ℕ)) (t : List ℕ) (last : Bool) (n : ℕ) (after : List ℕ) (f : GatherFault) → IsShort b t → n < 2 ^ 31 → Passes b n f → t ≡ header last n ++ after → ⊥
short_not b t last n after f (inl few) fits p e = omega (arith, few, ap length e, length-append (header last n) after, length-header last n)
short_not b t last n after f (inr o) fits p e =
    let h = header_one o.last last o.size n o.came after (omega (arith, o.long)) fits (sym o.spelled ∙ e) in
    passes_not b n f p o.many (omega (arith, o.long, h.1))

rest_not : (r : List ℕ) (f : GatherFault) → IsRest r → IsRefused r f → ⊥
unfolding rest_ending refused_ending
rest_not r f i j =
    let n = rest_ending r i in
    let m = refused_ending r f j in
    let k = same_start i.before j.before i.tail _ i.within j.within (n.stuck false) (m.stuck false) (sym i.spelled ∙ j.spelled) in
    let s : IsShort j.before i.tail = subst (λ (b : List (List ℕ)). IsShort b i.tail) k.0 i.short in
    short_not j.before i.tail j.last j.size j.after f s j.fits j.passes k.1

pub either_one : (stream : List ℕ) (xs ys : List (List ℕ)) (r q : List ℕ) (f : GatherFault) → Records stream xs r → Refused stream ys q f → ⊥
either_one stream xs ys r q f a b =
    let k = one_list xs ys a.front b.front r q a.records b.records (rest_ending r a.ending) (refused_ending q f b.ending) (sym a.whole ∙ b.whole) in
    rest_not q f (subst IsRest k.1 a.ending) b.ending
