-- What tests tell.
use Rattle.std.proofs.Common.{◌≡◌, ◌⊎◌, inl, inr, ℕ, Bool, true, false, ◌&&◌, Option, Some, None, if◌then◌else◌, refl}
use Rattle.std.specs.Prelude.{is_none}

pub and_true : (a b : Bool) → (a && b) ≡ true → (a ≡ true) × (b ≡ true)
and_true true b e = (refl, e)
and_true false b e = absurd (cc)

pub if_some : {A : Type 0} (b : Bool) (o : Option A) (y : A) → (if b then o else None) ≡ Some y → (b ≡ true) × (o ≡ Some y)
if_some true o y e = (refl, e)
if_some false o y e = absurd (cc)

pub chosen : {A : Type 0} (b : Bool) (x y z : A) → (if b then x else y) ≡ z → ((b ≡ true) × (x ≡ z)) ⊎ ((b ≡ false) × (y ≡ z))
chosen true x y z e = inl (refl, e)
chosen false x y z e = inr (refl, e)

pub none_is : {A : Type 0} (o : Option A) → is_none o ≡ true → o ≡ None
none_is None e = refl
none_is (Some x) e = absurd (cc)

-- where something is made of what may not be there, it is there
pub there : {A B : Type 0} (o : Option A) (f : Option A → Option B) (y : B) → f None ≡ None → f o ≡ Some y → (x : A) × (o ≡ Some x) × (f (Some x) ≡ Some y)
there None f y nothing e = absurd (cc)
there (Some x) f y nothing e = (x, refl, e)
