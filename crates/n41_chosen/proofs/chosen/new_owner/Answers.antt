use Rattle.std.proofs.Common.{None, sym, ◌∙◌}
use Rattle.n41_chosen.proofs.Choices.{then_of, else_of}
use Rattle.n41_chosen.proofs.chosen.new_owner.Goals as goal

pub returns-then-is_new : goal.returns-then-is_new
returns-then-is_new c = c.running_owner.ensures ∙ sym (then_of _ _ None (sym (c.if-is_new.ensures c.args.facts.now)))

pub returns-else-is_new : goal.returns-else-is_new
returns-else-is_new c = sym (else_of _ _ None (sym (c.if-is_new.ensures c.args.facts.now)))
