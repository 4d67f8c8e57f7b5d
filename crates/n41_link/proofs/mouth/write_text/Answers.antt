use Rattle.std.proofs.Common.{arith, rules, ap, length, length-drop}
use Rattle.n41_link.proofs.Texts.{known_front, known_same}
use Rattle.n41_link.proofs.mouth.write_text.Goals as goal

pub loop-len-preserved : goal.loop-len-preserved
loop-len-preserved g c = record {
  within = omega (arith, c.in-Ok.ensures.bound.0, ap length c.rest_of.ensures, length-drop c.loop-len.len c.args.text.now, c.loop-len.invariant.within);
  told = λ xs k. known_front _ _ xs c.args.text.now _ c.loop-len.len c.in-Ok.n c.rest_of.ensures c.in-Ok.ensures.bytes (c.loop-len.invariant.told xs k);
  faults = search rules;
}

pub returns-in-Err-clause-told : goal.returns-in-Err-clause-told
returns-in-Err-clause-told g c = λ xs k. known_same _ _ _ c.in-Err.ensures.bytes (c.loop-len.invariant.told xs k)
