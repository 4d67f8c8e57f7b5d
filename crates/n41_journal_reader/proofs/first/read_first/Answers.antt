use Rattle.std.proofs.Common.{◌≡◌, get_or, sym, ap, ◌∙◌, refl, false, arith}
use Rattle.n41_words.specs.Words.{same}
use Rattle.n41_journal_reader.specs.Events.{firsts, first_text}
use Rattle.n41_journal_reader.specs.declared.first.First.TheVariants as first
use Rattle.n41_journal_reader.proofs.Firsts.{not_this}
use Rattle.n41_journal_reader.proofs.first.read_first.Goals as goal

pub loop-first-preserved : goal.loop-first-preserved
loop-first-preserved c =
    let e : c.text.result.now ≡ first_text (get_or firsts c.loop-first.first-index first.Began) = c.text.ensures in
    let f : same c.args.word.now (first_text (get_or firsts c.loop-first.first-index first.Began)) ≡ false = ap (same c.args.word.now) (sym e) ∙ sym c.is_word.ensures ∙ c.if-is_word.false in
    not_this firsts c.loop-first.first-index _ _ c.args.word.now (omega arith) refl f ∙ c.loop-first.invariant
