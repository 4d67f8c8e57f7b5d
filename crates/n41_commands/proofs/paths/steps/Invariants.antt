use Rattle.std.proofs.Common.{◌≡◌, ◌≤◌, true, length, map}
use Rattle.std.specs.List.{list_all}
use Rattle.n41_commands.specs.Paths.{is_step}
use Rattle.n41_commands.proofs.paths.steps.Given as goal

abbrev pub invariant-loop-name : goal.invariant-loop-name
invariant-loop-name l =
    (goal.iterator-loop-name).can_next l.name-iterator ×
    (goal.iterator-loop-name).is_finite l.name-iterator ×
    (l.names.items ≡ map (λ x. x.now) l.yielded) ×
    (list_all is_step l.names.items ≡ true) ×
    (length l.names.items ≤ 16)
