use Rattle.std.proofs.Common.{◌≡◌, ◌++◌, map, take}
use Rattle.std.specs.List.{flat_map}
use Rattle.n41_ops.specs.Results.{told_res, written_res}
use Rattle.n41_replies.proofs.writing.write_list.Given as goal

abbrev pub invariant-loop-answer : goal.invariant-loop-answer
invariant-loop-answer l = l.w ≡ l.fn.w ++ flat_map told_res.spell (map written_res (take l.answer-index l.list))
