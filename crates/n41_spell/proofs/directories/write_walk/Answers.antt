use Rattle.std.proofs.Common.{[], ◌∷◌, List, ℕ, map, subst, sym}
use Rattle.n41_args.specs.declared.arg.Arg.TheVariants.{Lookup, GetFh}
use Rattle.n41_requests.specs.Requests.{AllFit}
use Rattle.n41_requests.proofs.Lists.{names_of, last_of}
use Rattle.n41_spell.proofs.directories.write_walk.Goals as goal

pub write_names-requires : goal.write_names-requires
write_names-requires c =
    subst (λ (names : List (List ℕ)). AllFit (map (λ name. Lookup name) names)) (sym c.as_slice.ensures) (names_of c.args.names.now (GetFh ∷ []) c.requires.1)

pub write_arg-requires : goal.write_arg-requires
write_arg-requires c = (last_of c.args.names.now (GetFh ∷ []) c.requires.1).0
