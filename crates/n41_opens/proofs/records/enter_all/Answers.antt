use Rattle.std.proofs.Common.{ℕ, ◌∙◌}
use Rattle.n41_opens.specs.declared.handles.Open.{Open}
use Rattle.n41_opens.proofs.Settles.{room_left, entered_so_far}
use Rattle.n41_opens.proofs.records.enter_all.Goals as goal

pub loop-number-preserved : goal.loop-number-preserved
loop-number-preserved c =
    let rs = c.loop-number.records.entries in
    let ss = c.enter.new.records.entries in
    let e : ℕ × Open = (c.in-Some._number.now, c.in-Some.held.now) in (
      tt,
      tt,
      entered_so_far rs ss e c.next.new.self c.loop-number._number-iterator c.in-Some.ensures.steps c.enter.ensures ∙ c.loop-number.invariant.2,
      room_left rs ss e c.next.new.self c.loop-number._number-iterator c.in-Some.ensures.steps c.enter.ensures c.loop-number.invariant.3,
    )
