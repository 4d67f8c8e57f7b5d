use Rattle.std.proofs.Common.{refl, sym, ◌∙◌, ap, length}
use Rattle.std.proofs.lemmas.Option.{slice_get_read}
use Rattle.n41_script.specs.declared.script.ScriptLine.{ScriptLine}
use Rattle.n41_drive.proofs.Given.{passed_over}
use Rattle.n41_drive.proofs.next.next_of.Goals as goal

pub loop-place-preserved : goal.loop-place-preserved
loop-place-preserved c =
    passed_over c.args.caller c.args.lines.now c.loop-place.place c.index-lines-place.result c.loop-place-test.true (sym c.index-lines-place.is) (λ e. c.if-lines-place.false (ap (λ (x : ScriptLine). x.caller) (sym c.index-lines-place.is) ∙ e))
    ∙ c.loop-place.invariant

pub returns-then-lines-place-clause-some : goal.returns-then-lines-place-clause-some
returns-then-lines-place-clause-some c = (
  c.index-lines-place.result,
  record {
    there = slice_get_read c.args.lines.now (length c.args.lines.now) c.loop-place.place c.index-lines-place.result refl c.loop-place-test.true c.index-lines-place.is;
    caller = ap (λ (x : ScriptLine). x.caller) c.index-lines-place.is ∙ c.if-lines-place.true;
    first = c.loop-place.invariant;
  },
)
