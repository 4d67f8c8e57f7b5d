-- Maps whose keys are numbers.
use Rattle.std.proofs.Common.{◌≡◌, ℕ, ◌==◌, Bool, true, false, Option, if◌then◌else◌, refl, ◌∙◌, ap, arith, Bor}
use Rattle.std.proofs.lemmas.Bool.Decides.{nat_tests}
use Rattle.std.specs.Prelude.{nat_lt, option_map, option_copied}
use Rattle.std.specs.BTreeMap.{BTreeMap, get, is_at, Updates}
use Rattle.std.specs.Ordering.{nat_cmp}

at_equal : (k q : ℕ) (a b : Bool) → nat_lt k q ≡ a → (k == q) ≡ b → is_at (nat_cmp k) q ≡ b
at_equal k q true true e f = absurd (grind (arith, nat_tests, e, f))
at_equal k q true false e f = rw e refl
at_equal k q false true e f = rw (e, f) refl
at_equal k q false false e f = rw (e, f) refl

-- a key is found where it is the same number
pub at_key : (k q : ℕ) → is_at (nat_cmp k) q ≡ (k == q)
at_key k q = at_equal k q (nat_lt k q) (k == q) refl refl

pub map_if : {X Y : Type 0} (f : X → Y) (b : Bool) (x y : Option X) → option_map f (if b then x else y) ≡ (if b then option_map f x else option_map f y)
map_if f true x y = refl
map_if f false x y = refl

pub copied_if : {X : Type 0} (b : Bool) (x y : Option (Bor X)) → option_copied (if b then x else y) ≡ (if b then option_copied x else option_copied y)
copied_if true x y = refl
copied_if false x y = refl

-- what a change at one key leaves at each
pub got : {X : Type 0} (m n : BTreeMap ℕ X) (k : ℕ) (w : Option X) → Updates nat_cmp m n k w → (q : ℕ) → get nat_cmp n q ≡ (if k == q then w else get nat_cmp m q)
got m n k w u q = u.0 q ∙ ap (λ (b : Bool). if b then w else get nat_cmp m q) (at_key k q)
