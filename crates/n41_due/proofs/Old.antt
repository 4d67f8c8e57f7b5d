-- Requests whose replies are overdue.
use Rattle.std.proofs.Common.{◌≡◌, ℕ, ◌-◌, ◌≤◌, Bool, true, false, ◌||◌, List, [], ◌∷◌, length, take, drop, get_or, Option, Some, None, refl, sym, ◌∙◌, ap, subst, arith}
use Rattle.std.proofs.lemmas.Grind.{common_steps}
use Rattle.std.specs.Prelude.{IfSome, IfNone}
use Rattle.n41_view.specs.View.{View}
use Rattle.n41_view.specs.Causes.{is_old_held, any_old, is_old_in}
use Rattle.n41_view.specs.declared.tables.Slot.{Slot}
use Rattle.n41_due.specs.Old.{is_bare_old}

neither : (a b : Bool) → a ≡ false → b ≡ false → (a || b) ≡ false
neither true b p q = p
neither false b p q = q

or_right : (a b : Bool) → b ≡ true → (a || b) ≡ true
or_right true b q = refl
or_right false b q = q

rest_is : (xs : List Slot) → take (length xs - 1) (drop 1 xs) ≡ drop 1 xs
rest_is [] = grind (arith, common_steps)
rest_is (t ∷ ts) = grind (arith, common_steps)

-- none is old where neither the first is nor any of the others
pub none_old : (m : ℕ) (xs : List Slot) (s : Slot) (o : Option ℕ) → 1 ≤ length xs → s ≡ get_or xs 0 s → ((x : ℕ) → is_old_held m x s.held ≡ false) → IfNone o ((x : ℕ) → any_old m x (take (length xs - 1) (drop 1 xs)) ≡ false) → IfNone o ((x : ℕ) → any_old m x xs ≡ false)
none_old m [] s None l e a h = absurd (omega arith)
none_old m (t ∷ ts) s None l e a h =
    λ x. neither (is_old_held m x t.held) (any_old m x ts) (ap (λ (z : Slot). is_old_held m x z.held) (sym e) ∙ a x) (subst (λ (z : List Slot). any_old m x z ≡ false) (rest_is (t ∷ ts)) (h x))
none_old m xs s (Some y) l e a h = tt

pub none_old_in : (w : View) (o : Option ℕ) → ((x : ℕ) → is_bare_old w x ≡ false) → IfNone o ((x : ℕ) → any_old w.facts.moment x w.slots ≡ false) → IfNone o ((x : ℕ) → is_old_in w x ≡ false)
none_old_in w None a h = λ x. neither (is_bare_old w x) (any_old w.facts.moment x w.slots) (a x) (h x)
none_old_in w (Some y) a h = tt

pub some_old_in : (w : View) (o : Option ℕ) → IfSome o (λ x. any_old w.facts.moment x w.slots ≡ true) → IfSome o (λ x. is_old_in w x ≡ true)
some_old_in w None h = tt
some_old_in w (Some x) h = or_right (is_bare_old w x) (any_old w.facts.moment x w.slots) h
