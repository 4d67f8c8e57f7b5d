use Rattle.std.proofs.Common.{◌≡◌, ◌∷◌, Ok, take}
use Rattle.n41_results.specs.declared.results.Res.TheVariants as res
use Rattle.n41_legal.proofs.replies.with_sequence.Given as goal

abbrev pub invariant-loop-answer : goal.invariant-loop-answer
invariant-loop-answer l = l.list.items ≡ res.Sequence (Ok l.fn.sequenced) ∷ take l.answer-index l.results
