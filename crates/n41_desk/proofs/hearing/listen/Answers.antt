use Rattle.n41_wire.specs.Ends.{inlet_conn, inlet_gather, inlet_refused, inlet_replies}
use Rattle.n41_desk.proofs.Heard.{gives_first, shown}
use Rattle.n41_desk.proofs.hearing.listen.Goals as goal

pub returns-clause-first : goal.returns-clause-first
returns-clause-first g c =
    let old = c.args.inlet.now in
    let new = c.next-got.new.self in
    c.replies_stand_first.ensures (inlet_gather new) (inlet_refused new) (inlet_replies new)
    (gives_first c.next-got.result (inlet_conn old) (inlet_gather old) (inlet_gather new) (inlet_replies old) (inlet_replies new) (c.next-got.ensures.gets c.requires))
    c.next-got.ensures.stands

pub returns-clause-shows : goal.returns-clause-shows
returns-clause-shows g c =
    let n = c.next-got.ensures in
    shown c.next-got.result c.args.inlet.now c.next-got.new.self c.requires c.inflow.ensures.stands n.conn n.grows n.gets n.kept n.stills n.ends n.failed
