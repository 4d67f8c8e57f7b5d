-- Walks: a LOOKUP for each name, and GETFH.
use Rattle.std.specs.Prelude.{◌≡◌, ℕ, List, [], ◌∷◌, ◌++◌, Option, Some, None}
use Rattle.n41_types.specs.declared.plans.Place.{Place}
use Rattle.n41_types.specs.declared.plans.Plan.{Plan}
use Rattle.n41_types.specs.declared.plans.Plan.TheVariants as plan
use Rattle.n41_args.specs.declared.arg.Arg.{Arg}
use Rattle.n41_args.specs.declared.arg.Arg.TheVariants as arg
use Rattle.n41_compound.specs.Parts.{name_of}
use Rattle.n41_compound.specs.declared.walks.Step.{Step}
use Rattle.n41_compound.specs.declared.walks.Step.TheVariants.{Name, End, Other}

abbrev pub with_name : Option (List ℕ) → Option (List (List ℕ)) → Option (List (List ℕ))
with_name None names = None
with_name (Some name) None = None
with_name (Some name) (Some names) = Some (name ∷ names)

-- the names that are looked up
abbrev pub walked : List Arg → Option (List (List ℕ))
walked [] = None
walked (arg.GetFh ∷ []) = Some []
walked (arg.GetFh ∷ a ∷ args) = None
walked (arg.Lookup name ∷ args) = with_name (name_of name) (walked args)
walked (_ ∷ args) = None

abbrev pub walk_at : Option (List (List ℕ)) → Option Place → Option Plan
walk_at None from = None
walk_at (Some names) None = None
walk_at (Some names) (Some from) = Some (plan.Walk from names)

-- own: names that were looked up before
abbrev pub with_names : List (List ℕ) → Option (List (List ℕ)) → Option (List (List ℕ))
with_names names None = None
with_names names (Some more) = Some (names ++ more)

-- own: what one operation says, whatever is behind it
abbrev pub IsStep : Step → Arg → Type 0
IsStep (Name name) a = (args : List Arg) → walked (a ∷ args) ≡ with_name (Some name) (walked args)
IsStep End a = a ≡ arg.GetFh
IsStep Other a = (args : List Arg) → walked (a ∷ args) ≡ None
