-- One thing alone is found in a journal.
use Rattle.std.proofs.Common.{◌≡◌, ◌⊎◌, ◌<◌, ◌+◌, ℕ, List, [], ◌∷◌, Option, Some, None, inl, inr, refl, sym, ap, subst, arith, length}
use Rattle.std.proofs.lemmas.Bool.{cases_order}
use Rattle.n41_check.specs.Rules.{Breaks, Clean, IsFirst, IsVerdict, rank}
use Rattle.n41_check.specs.declared.rules.Rule.{Rule}
use Rattle.n41_check.specs.declared.rules.Rule.TheVariants.{Slots, Retries, Turns, Causes, Answers}
use Rattle.n41_journal.specs.Journal.{BeginsWith}
use Rattle.n41_journal.specs.declared.events.Event.{Event}

-- ---- rules

same_rank : (x y : Rule) → rank x ≡ rank y → x ≡ y
same_rank Slots Slots e = refl
same_rank Slots Retries e = absurd (omega (arith, e))
same_rank Slots Turns e = absurd (omega (arith, e))
same_rank Slots Causes e = absurd (omega (arith, e))
same_rank Slots Answers e = absurd (omega (arith, e))
same_rank Retries Slots e = absurd (omega (arith, e))
same_rank Retries Retries e = refl
same_rank Retries Turns e = absurd (omega (arith, e))
same_rank Retries Causes e = absurd (omega (arith, e))
same_rank Retries Answers e = absurd (omega (arith, e))
same_rank Turns Slots e = absurd (omega (arith, e))
same_rank Turns Retries e = absurd (omega (arith, e))
same_rank Turns Turns e = refl
same_rank Turns Causes e = absurd (omega (arith, e))
same_rank Turns Answers e = absurd (omega (arith, e))
same_rank Causes Slots e = absurd (omega (arith, e))
same_rank Causes Retries e = absurd (omega (arith, e))
same_rank Causes Turns e = absurd (omega (arith, e))
same_rank Causes Causes e = refl
same_rank Causes Answers e = absurd (omega (arith, e))
same_rank Answers Slots e = absurd (omega (arith, e))
same_rank Answers Retries e = absurd (omega (arith, e))
same_rank Answers Turns e = absurd (omega (arith, e))
same_rank Answers Causes e = absurd (omega (arith, e))
same_rank Answers Answers e = refl

-- one event breaks one rule first
one_rule_by : (n : ℕ) (js : List Event) (e : Event) (x y : Rule) → (rank x ≡ rank y) ⊎ ((rank x < rank y) ⊎ (rank y < rank x)) → Breaks n js e x → Breaks n js e y → x ≡ y
one_rule_by n js e x y (inl q) a b = same_rank x y q
one_rule_by n js e x y (inr (inl lt)) a b = absurd (a.broken (b.before x lt))
one_rule_by n js e x y (inr (inr lt)) a b = absurd (b.broken (a.before y lt))

one_rule : (n : ℕ) (js : List Event) (e : Event) (x y : Rule) → Breaks n js e x → Breaks n js e y → x ≡ y
one_rule n js e x y a b = one_rule_by n js e x y (cases_order (rank x) (rank y)) a b

-- ---- places

clean_from : (n : ℕ) (js earlier : List Event) → BeginsWith js earlier → Clean n js → Clean n earlier
clean_from n [] earlier e c = subst (λ (ks : List Event). Clean n ks) e c
clean_from n (x ∷ js) earlier (inl e) c = subst (λ (ks : List Event). Clean n ks) e c
clean_from n (x ∷ js) earlier (inr b) c = clean_from n js earlier b c.0

-- of two beginnings of a journal one is a beginning of the other
in_order : (js xs ys : List Event) → BeginsWith js xs → BeginsWith js ys → BeginsWith xs ys ⊎ BeginsWith ys xs
in_order [] xs ys a b = inl (subst (λ (z : List Event). BeginsWith z ys) a b)
in_order (e ∷ js) xs ys (inl a) b = inl (subst (λ (z : List Event). BeginsWith z ys) a b)
in_order (e ∷ js) xs ys (inr a) (inl b) = inr (subst (λ (z : List Event). BeginsWith z xs) b (inr a))
in_order (e ∷ js) xs ys (inr a) (inr b) = in_order js xs ys a b

-- before the first event that breaks a rule there is none
same_place : (n : ℕ) (e f : Event) (js ks : List Event) (y : Rule) → BeginsWith (e ∷ js) (f ∷ ks) → Clean n js → Breaks n ks f y → e ∷ js ≡ f ∷ ks
same_place n e f js ks y (inl q) c b = q
same_place n e f js ks y (inr later) c b = absurd (b.broken ((clean_from n js (f ∷ ks) later c).1 y))

both : (n : ℕ) (js : List Event) (p q : ℕ) (x y : Rule) (a : IsFirst n js p x) (b : IsFirst n js q y) → BeginsWith (a.event ∷ a.before) (b.event ∷ b.before) ⊎ BeginsWith (b.event ∷ b.before) (a.event ∷ a.before) → a.event ∷ a.before ≡ b.event ∷ b.before
both n js p q x y a b (inl later) = same_place n a.event b.event a.before b.before y later a.clean b.breaks
both n js p q x y a b (inr later) = sym (same_place n b.event a.event b.before a.before x later b.clean a.breaks)

same_found : (n : ℕ) (e f : Event) (js ks : List Event) (p q : ℕ) (x y : Rule) → e ∷ js ≡ f ∷ ks → p ≡ length js + 1 → q ≡ length ks + 1 → Breaks n js e x → Breaks n ks f y → ◌≡◌ {A = ℕ × Rule} (p, x) (q, y)
same_found n e f js ks p q x y same i j a b =
    let front : e ≡ f = cc in
    let back : js ≡ ks = cc in
    let rules : x ≡ y = one_rule n ks f x y (subst (λ (z : Event). Breaks n ks z x) front (subst (λ (zs : List Event). Breaks n zs e x) back a)) b in
    let places : p ≡ q = omega (arith, i, j, ap length back) in
    cc

pub one_verdict : (n : ℕ) (js : List Event) (a b : Option (ℕ × Rule)) → IsVerdict n js a → IsVerdict n js b → a ≡ b
one_verdict n js None None a b = refl
one_verdict n js None (Some y) a b = absurd (b.breaks.broken ((clean_from n js (b.event ∷ b.before) b.part a).1 y.1))
one_verdict n js (Some x) None a b = absurd (a.breaks.broken ((clean_from n js (a.event ∷ a.before) a.part b).1 x.1))
one_verdict n js (Some x) (Some y) a b =
    let same = both n js x.0 y.0 x.1 y.1 a b (in_order js (a.event ∷ a.before) (b.event ∷ b.before) a.part b.part) in
    ap (λ (z : ℕ × Rule). Some z) (same_found n a.event b.event a.before b.before x.0 y.0 x.1 y.1 same a.place_is b.place_is a.breaks b.breaks)
