use Rattle.n41_small_world.proofs.Answered.{doubts_here}
use Rattle.n41_small_world.proofs.promises.doubt_step.Goals as goal

pub returns-in_ok-here-in-Some-slot : goal.returns-in_ok-here-in-Some-slot
returns-in_ok-here-in-Some-slot c = λ n w o s d.
    doubts_here n w c.args.run.now c.args.step.now c.in-Some.request.now c.in-Some-slot.place c.args.name c.in_ok-here-in-Some-slot.here c.args.others c.either.result
    c.in-Some.ensures c.in-Some-slot.is (c.in_ok-here-in-Some-slot.ensures n o s) c.either.ensures d
