use Rattle.std.proofs.Common.{◌≡◌, ◌++◌, map, take}
use Rattle.std.specs.Prelude.{string_bytes}
use Rattle.n41_lines.specs.Lines.{numbers, arg_number}
use Rattle.n41_lines.proofs.client.put_args.Given as goal

abbrev pub invariant-loop-arg : goal.invariant-loop-arg
invariant-loop-arg l = string_bytes l.text ≡ string_bytes l.fn.text ++ numbers (map arg_number (take l.arg-index l.list))
