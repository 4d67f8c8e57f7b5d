use Rattle.std.proofs.Common.{◌≡◌, ◌++◌, map, take}
use Rattle.n41_args.specs.declared.arg.Arg.TheVariants.{Lookup}
use Rattle.n41_requests.specs.Requests.{args_text}
use Rattle.n41_spell.proofs.directories.write_names.Given as goal

abbrev pub invariant-loop-name : goal.invariant-loop-name
invariant-loop-name l = l.w ≡ l.fn.w ++ args_text (map (λ name. Lookup name) (take l.name-index l.names))
