use Rattle.std.proofs.Common.{◌<◌, ◌^◌, length, sym, subst}
use Rattle.n41_opens.specs.Opens.{Table}
use Rattle.n41_opens.specs.Inside.{AreFrom}
use Rattle.n41_opens.proofs.Settles.{has_room, placed_room, settles}
use Rattle.n41_opens.proofs.opens.Opens.settle.Goals as goal

pub place-requires-clause-room : goal.place-requires-clause-room
place-requires-clause-room c =
    let l : length c.self.inside.handles.entries < 2 ^ 63 = subst (λ n. n < 2 ^ 63) c.len-had.ensures.len c.len-had.ensures.small in
    has_room c.self.inside.handles.entries c.self.inside.records.entries c.self.invariant l

pub enter_all-requires : goal.enter_all-requires
enter_all-requires c =
    let l : length c.self.inside.handles.entries < 2 ^ 63 = subst (λ n. n < 2 ^ 63) c.len-had.ensures.len c.len-had.ensures.small in
    let m : length c.args.next.entries < 2 ^ 63 = subst (λ n. n < 2 ^ 63) c.len-has.ensures.len c.len-has.ensures.small in
    placed_room c.self.inside.handles.entries c.args.next.entries c.self.inside.records.entries c.place.new.records.entries c.args.id.now c.args.seqid c.self.invariant c.in_ok-place.ensures.ok l m

pub invariant_of-self-2 : goal.invariant_of-self-2
invariant_of-self-2 c =
    let f : AreFrom c.args.next.entries c.self.inside.handles.entries c.args.id.now = subst (λ (t : Table). AreFrom c.args.next.entries t.handles c.args.id.now) (sym c.self.view_is) c.requires.from in
    (settles c.self.inside.handles.entries c.args.next.entries c.self.inside.records.entries c.place.new.records.entries c.enter_all.new.records.entries c.leave_all.new.records.entries c.leave.new.records.entries c.args.id.now c.args.seqid c.self.invariant f c.in_ok-place.ensures.ok c.enter_all.ensures c.leave_all.ensures c.leave.ensures.left).counted

pub returns-clause-ok : goal.returns-clause-ok
returns-clause-ok c =
    let f : AreFrom c.args.next.entries c.self.inside.handles.entries c.args.id.now = subst (λ (t : Table). AreFrom c.args.next.entries t.handles c.args.id.now) (sym c.self.view_is) c.requires.from in
    rw (← c.self.view_is) (settles c.self.inside.handles.entries c.args.next.entries c.self.inside.records.entries c.place.new.records.entries c.enter_all.new.records.entries c.leave_all.new.records.entries c.leave.new.records.entries c.args.id.now c.args.seqid c.self.invariant f c.in_ok-place.ensures.ok c.enter_all.ensures c.leave_all.ensures c.leave.ensures.left).table
