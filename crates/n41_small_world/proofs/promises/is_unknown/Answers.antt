use Rattle.n41_legal.proofs.Deciding.{same}
use Rattle.n41_runs.specs.Steps.{client}
use Rattle.n41_small_world.proofs.Answered.{unknown_is}
use Rattle.n41_small_world.proofs.Leading.{led_shows}
use Rattle.n41_small_world.proofs.promises.is_unknown.Goals as goal

pub returns-in_ok-doubted-in-Some : goal.returns-in_ok-doubted-in-Some
returns-in_ok-doubted-in-Some c = λ n o.
    let js = client c.args.run.now in
    let s = led_shows n c.args.run.now c.in_ok-led.led c.in-Some.machine c.in-Some.is (c.in_ok-led.ensures n o.few) in
    let d = c.in_ok-doubted-in-Some.ensures n o s in
    same c.both.result _ c.both.ensures
    (unknown_is n js c.args.name.caller c.args.name.number c.in_ok-doubted-in-Some.doubted c.is_over-over.result d.some d.all (c.is_over-over.ensures n js s))
