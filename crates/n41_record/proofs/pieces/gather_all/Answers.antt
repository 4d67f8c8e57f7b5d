use Rattle.std.proofs.Common.{refl, arith}
use Rattle.std.proofs.lemmas.Bool.Decides.{nat_tests}
use Rattle.n41_record.proofs.Grown.{held_size}
use Rattle.n41_record.proofs.Gathering.{goes_on, stopped, ended}
use Rattle.n41_record.proofs.pieces.gather_all.Goals as goal

pub overflow_add-came : goal.overflow_add-came
overflow_add-came c =
    let g = c.loop-left.invariant.goes c.requires.0 c.requires.1 in
    omega (arith, g.holds.size, held_size _ _ g.holds, c.loop-left.invariant.short)

pub loop-left-preserved : goal.loop-left-preserved
loop-left-preserved c =
    let g = c.loop-left.invariant.goes c.requires.0 c.requires.1 in
    record {
      goes = λ rest h. goes_on _ _ _ _ _ _ _ _ (c.loop-left.invariant.goes rest h) (λ r k. (c.in-Ok.ensures r k).0);
      short = omega (arith, (c.in-Ok.ensures g.rest g.holds).1, c.loop-left.invariant.short);
    }

pub returns-in-Err : goal.returns-in-Err
returns-in-Err c = λ rest h. stopped _ _ _ _ _ _ _ _ (c.loop-left.invariant.goes rest h) (λ r k. c.in-Err.ensures r k) refl

pub returns : goal.returns
returns c = λ rest h. ended _ _ _ _ _ _ (c.loop-left.invariant.goes rest h) (grind (arith, nat_tests, c.is_empty.ensures, c.loop-left-test.false))
