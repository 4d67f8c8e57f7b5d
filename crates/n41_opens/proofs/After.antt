-- The entry with the least greater number.
use Rattle.std.proofs.Common.{◌≡◌, ℕ, nat_lt, ◌==◌, Bool, true, false, cond, not, ◌&&◌, List, [], ◌∷◌, filter, None, Some, refl, sym, ◌∙◌, ap}
use Rattle.std.specs.declared.cmp.Ordering.TheVariants.{Less, Equal, Greater}
use Rattle.std.specs.Ordering.{is_lt, nat_cmp}
use Rattle.n41_opens.specs.declared.handles.Open.{Open}
use Rattle.n41_opens.specs.Opens.{entry_after}

lt_by : (a b : Bool) → is_lt (cond a Less (cond b Equal Greater)) ≡ a
lt_by true true = refl
lt_by true false = refl
lt_by false true = refl
lt_by false false = refl

lt_is : (h k : ℕ) → is_lt (nat_cmp h k) ≡ nat_lt h k
lt_is h k = lt_by (nat_lt h k) (h == k)

abbrev pub greater : ℕ → List (ℕ × Open) → List (ℕ × Open)
greater h es = filter (λ d. is_lt (nat_cmp h d.0) && not false) es

passes : (h k : ℕ) (b : Bool) → nat_lt h k ≡ b → (is_lt (nat_cmp h k) && not false) ≡ b
passes h k true f = ap (λ x. x && not false) (lt_is h k ∙ f)
passes h k false f = ap (λ x. x && not false) (lt_is h k ∙ f)

heads : (d e : ℕ × Open) (s t : List (ℕ × Open)) → d ∷ s ≡ e ∷ t → d ≡ e
heads d e s t q = cc

no_head : (d : ℕ × Open) (s : List (ℕ × Open)) → d ∷ s ≡ [] → ⊥
no_head d s q = absurd (cc)

some_by : (d : ℕ × Open) (es : List (ℕ × Open)) (h : ℕ) (e : ℕ × Open) (t : List (ℕ × Open)) → (greater h es ≡ e ∷ t → entry_after es h ≡ Some e) → greater h (d ∷ es) ≡ e ∷ t → (b : Bool) → nat_lt h d.0 ≡ b → entry_after (d ∷ es) h ≡ Some e
some_by d es h e t ih q true f =
    let g : greater h (d ∷ es) ≡ d ∷ greater h es = ap (λ b. cond b (d ∷ greater h es) (greater h es)) (passes h d.0 true f) in
    rw f (ap (λ x. Some x) (heads d e (greater h es) t (sym g ∙ q)))
some_by d es h e t ih q false f =
    let g : greater h (d ∷ es) ≡ greater h es = ap (λ b. cond b (d ∷ greater h es) (greater h es)) (passes h d.0 false f) in
    rw f (ih (sym g ∙ q))

pub after_some : (es : List (ℕ × Open)) (h : ℕ) (e : ℕ × Open) (t : List (ℕ × Open)) → greater h es ≡ e ∷ t → entry_after es h ≡ Some e
after_some [] h e t q = absurd (no_head e t (sym q))
after_some (d ∷ es) h e t q = some_by d es h e t (after_some es h e t) q (nat_lt h d.0) refl

none_by : (d : ℕ × Open) (es : List (ℕ × Open)) (h : ℕ) → (greater h es ≡ [] → entry_after es h ≡ None) → greater h (d ∷ es) ≡ [] → (b : Bool) → nat_lt h d.0 ≡ b → entry_after (d ∷ es) h ≡ None
none_by d es h ih q true f = absurd (
    let g : greater h (d ∷ es) ≡ d ∷ greater h es = ap (λ b. cond b (d ∷ greater h es) (greater h es)) (passes h d.0 true f) in
    no_head d (greater h es) (sym g ∙ q))
none_by d es h ih q false f =
    let g : greater h (d ∷ es) ≡ greater h es = ap (λ b. cond b (d ∷ greater h es) (greater h es)) (passes h d.0 false f) in
    rw f (ih (sym g ∙ q))

pub after_none : (es : List (ℕ × Open)) (h : ℕ) → greater h es ≡ [] → entry_after es h ≡ None
after_none [] h q = refl
after_none (d ∷ es) h q = none_by d es h (after_none es h) q (nat_lt h d.0) refl
