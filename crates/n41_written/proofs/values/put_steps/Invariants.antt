use Rattle.std.proofs.Common.{◌≡◌, ◌++◌, ◌∷◌, List, ℕ, take}
use Rattle.std.specs.List.{flat_map}
use Rattle.n41_written.proofs.values.put_steps.Given as goal

abbrev pub invariant-loop-name : goal.invariant-loop-name
invariant-loop-name l = l.out.items ≡ l.initial.out.items ++ flat_map (λ (name : List ℕ). 47 ∷ name) (take l.name-index l.names)
