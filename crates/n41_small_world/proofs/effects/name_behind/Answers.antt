use Rattle.n41_runs.specs.Steps.{client}
use Rattle.n41_small_world.proofs.Leading.{led_shows}
use Rattle.n41_small_world.proofs.effects.name_behind.Goals as goal

pub returns-in-Some : goal.returns-in-Some
returns-in-Some c = λ n o. c.new_name.ensures n (client c.args.run.now) (led_shows n c.args.run.now c.in_ok-led.led c.in-Some.machine c.in-Some.is (c.in_ok-led.ensures n o.few))
