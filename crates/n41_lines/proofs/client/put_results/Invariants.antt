use Rattle.std.proofs.Common.{◌≡◌, ◌++◌, take}
use Rattle.std.specs.Prelude.{string_bytes}
use Rattle.std.specs.List.{flat_map}
use Rattle.n41_lines.specs.Lines.{cb_res_text}
use Rattle.n41_lines.proofs.client.put_results.Given as goal

abbrev pub invariant-loop-outcome : goal.invariant-loop-outcome
invariant-loop-outcome l = string_bytes l.text ≡ string_bytes l.fn.text ++ flat_map cb_res_text (take l.outcome-index l.list)
