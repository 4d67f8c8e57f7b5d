-- What stands behind a reference that is found.
use Rattle.std.proofs.Common.{◌≡◌, Bool, true, false, Option, if◌then◌else◌, refl}
use Rattle.std.specs.Option.{option_map}

pub map_cond : {X Y : Type 0} (f : X → Y) (b : Bool) (x y : Option X) → option_map f (if b then x else y) ≡ (if b then option_map f x else option_map f y)
map_cond f true x y = refl
map_cond f false x y = refl
