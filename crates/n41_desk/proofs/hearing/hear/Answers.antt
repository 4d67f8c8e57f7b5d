use Rattle.std.proofs.Common.{List, length, sym, ap, ◌∙◌}
use Rattle.n41_results.specs.declared.replies.Reply.{Reply}
use Rattle.n41_model.specs.Requests.{takes}
use Rattle.n41_wire.specs.Ends.{inlet_replies, inlet_inflow}
use Rattle.n41_desk.proofs.Linked.{hears, next_here, reads}
use Rattle.n41_desk.proofs.hearing.hear.Goals as goal

pub follow-requires-clause-next : goal.follow-requires-clause-next
follow-requires-clause-next g c =
    let l = c.listen-got.ensures in
    let r = c.requires in
    next_here c.listen-got.result (inlet_replies c.args.wire.now.inlet) c.args.conn (takes c.args.core.now.events) c.listen-got.new.inlet (l.conn ∙ r.is_of.places) (r.count ∙ ap (λ (ys : List Reply). length ys) (sym r.answered)) l.shows

pub returns-clause-fares : goal.returns-clause-fares
returns-clause-fares g c =
    let l = c.listen-got.ensures in
    hears c.listen-got.result c.follow.result c.args.core.now c.follow.new.core c.args.conn c.args.wire.now c.listen-got.new.inlet c.requires l.conn l.told l.first l.spelled l.shows c.follow.ensures

pub returns-clause-reads : goal.returns-clause-reads
returns-clause-reads g c =
    reads c.listen-got.result c.follow.result c.args.core.now c.follow.new.core c.args.conn (g.I.Inflow.quiets (inlet_inflow c.args.wire.now.inlet)) (g.I.Inflow.quiets (inlet_inflow c.listen-got.new.inlet)) c.listen-got.ensures.quiets c.follow.ensures
