use Rattle.n41_journal_text.proofs.Turns.{lines_more, legible_more}
use Rattle.n41_journal_text.proofs.text.put_lines.Goals as goal

pub loop-event-preserved : goal.loop-event-preserved
loop-event-preserved c =
    let l = c.loop-event in
    let events = c.args.events.now in
    record {
      told = lines_more events l.event-index c.event-item.result _ _ _ c.loop-event-test.true c.event-item.is l.invariant.told c.in_ok-put_line.ensures.told;
      legible = legible_more events l.event-index c.event-item.result c.loop-event-test.true c.event-item.is l.invariant.legible c.in_ok-put_line.ensures.legible;
    }
