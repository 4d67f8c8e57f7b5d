use Rattle.std.proofs.Common.{◌≡◌, drop}
use Rattle.n41_commands.specs.Commands.{verbs, verb_among, verb_of}
use Rattle.n41_commands.proofs.verb.read_verb.Given as goal

abbrev pub invariant-loop-verb : goal.invariant-loop-verb
invariant-loop-verb l = verb_among (drop l.verb-index verbs) l.word ≡ verb_of l.word
