use Rattle.std.proofs.Common.{◌∙◌, sym, ap}
use Rattle.n41_words.specs.Numbers.{at_most}
use Rattle.n41_words.proofs.Values.{too_much}
use Rattle.n41_words.proofs.numbers.value.Goals as goal

pub returns-in_err-value : goal.returns-in_err-value
returns-in_err-value c =
    c.from_residual.ensures
    ∙ too_much c.args.base c.loop-left.value c.args.most c.loop-left.left.now c.requires.base c.in-len1-up.len_at_least (sym c.grown.ensures ∙ c.in_err-value.was)
    ∙ ap (at_most c.args.most) c.loop-left.invariant.same
