use Rattle.std.proofs.Common.{◌≡◌, ◌-◌, [], ◌++◌, map}
use Rattle.n41_answers.specs.Answers.{lists, lists_from}
use Rattle.n41_answers.specs.Index.{places_of}
use Rattle.n41_answers.proofs.answers.Answers.new.Given as goal

abbrev pub invariant-loop : goal.invariant-loop
invariant-loop l = lists l.callers [] ≡ map places_of l.rows.items ++ lists_from [] l.counter (l.callers - l.counter)
