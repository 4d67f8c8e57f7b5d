use Rattle.std.proofs.Common.{◌∙◌, sym, subst, reverse, arith}
use Rattle.n41_words.specs.declared.fault.ScriptFault.{ScriptFault}
use Rattle.n41_words.specs.Lines.{lines}
use Rattle.n41_journal_reader.specs.Journals.{IsLineFault}
use Rattle.n41_journal_reader.proofs.Steps.{said_more, left, refused, all_said}
use Rattle.n41_journal_reader.proofs.reading.read_lines.Goals as goal

pub loop-line-preserved : goal.loop-line-preserved
loop-line-preserved c =
    let now = c.loop-line.invariant.left ∙ c.in-Some.ensures.lines in
    record {
      said = said_more (lines c.args.text.now) c.loop-line.number _ c.in-Some.line.now (lines c.in-Some.behind.now) c.loop-line.journal.events c.take_line.new.journal.events (omega arith) now c.loop-line.invariant.said c.in_default-take_line.ensures;
      left = left (lines c.args.text.now) c.loop-line.number _ c.in-Some.line.now (lines c.in-Some.behind.now) (omega arith) now;
      within = omega (arith, c.loop-line.invariant.within, c.in-Some.ensures.less);
    }

pub returns-in-Err-clause-err : goal.returns-in-Err-clause-err
returns-in-Err-clause-err c =
    subst (λ (f : ScriptFault). IsLineFault c.args.text.now f) (sym c.at.ensures)
    (refused c.args.text.now c.loop-line.number _ c.in-Some.line.now (lines c.in-Some.behind.now) c.loop-line.journal.events c.take_line.new.journal.events c.in-Err.fault (omega arith) (c.loop-line.invariant.left ∙ c.in-Some.ensures.lines) c.loop-line.invariant.said c.in-Err.ensures)

pub returns-clause-ok : goal.returns-clause-ok
returns-clause-ok c =
    all_said (lines c.args.text.now) c.loop-line.number (reverse c.loop-line.journal.events) (c.loop-line.invariant.left ∙ c.in_default.ensures.lines) c.loop-line.invariant.said
