use Rattle.std.proofs.Common.{◌≡◌, ◌++◌, List, ℕ, codes, take}
use Rattle.std.specs.List.{flat_map}
use Rattle.n41_calls.specs.Text.{name_text}
use Rattle.n41_report.proofs.values.put_each_name.Given as goal

abbrev pub invariant-loop-name : goal.invariant-loop-name
invariant-loop-name l = l.out.items ≡ l.initial.out.items ++ flat_map (λ (n : List ℕ). codes " " ++ name_text n) (take l.name-index l.names)
