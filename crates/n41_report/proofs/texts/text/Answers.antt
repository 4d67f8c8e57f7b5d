use Rattle.std.proofs.Common.{◌≡◌, ◌∙◌, ◌+◌, ◌<◌, [], List, ap, arith, subst, ℕ, length, get_or}
use Rattle.n41_script.specs.declared.script.ScriptLine.{ScriptLine}
use Rattle.n41_report.proofs.Printed.{text_step, count_step}
use Rattle.n41_report.proofs.texts.text.Goals as goal

pub loop-line-preserved : goal.loop-line-preserved
loop-line-preserved c =
    let l = c.loop-line in
    let x = c.line-item.result in
    let within : l.line-index < length c.args.script.now.lines = subst (λ (ls : List ScriptLine). l.line-index < length ls) c.as_slice-line-items.ensures c.loop-line-test.true in
    let there : x ≡ get_or c.args.script.now.lines l.line-index x = subst (λ (ls : List ScriptLine). x ≡ get_or ls l.line-index x) c.as_slice-line-items.ensures c.line-item.is in
    record {
      text = text_step c.args.breach c.args.journal.now.events c.args.script.now.callers c.args.script.now.lines l.line-index x l.out.items _ _ l.place c.in_ok-number.number c.name_of-name.result.now _
          within there l.invariant.text l.invariant.place (c.in_ok-number.ensures.number ∙ ap (λ (n : ℕ). n + 1) (l.invariant.counted x.caller))
          (c.name_of-name.ensures ∙ ap (λ (ns : List (List ℕ)). get_or ns x.caller []) c.as_slice.ensures) (c.get-answer.ensures ∙ c.in_ok-found.ensures x.caller c.in_ok-number.number) c.in_ok-put_line.ensures;
      counted = λ d. count_step c.args.script.now.lines l.line-index x d _ _ within there (l.invariant.counted d) (c.in_ok-number.ensures.counted d);
      place = omega (arith, l.invariant.place);
    }
