use Rattle.n41_seqid.specs.Fronts.{Window, IsPlaceOf}
use Rattle.n41_seqid.proofs.Places.{taken, moved}
use Rattle.n41_seqid.proofs.front.Front.pop.Goals as goal

pub returns-clause-value : goal.returns-clause-value
returns-clause-value g c =
    let w : Window g.row.T.Denot = record { at = c.self.inside.at; waiting = c.self.inside.waiting.items } in
    let p : IsPlaceOf c.next-following.result c.self.inside.waiting.items c.in-Some.place = rw (← c.as_slice.ensures.value) c.in-Some.ensures.some in
    rw (← c.self.view_is) (taken w c.in-Some.place c.remove-seqid.result (rw (← c.next-following.ensures) p) c.remove-seqid.ensures.value)

pub returns-clause-window : goal.returns-clause-window
returns-clause-window g c =
    let w : Window g.row.T.Denot = record { at = c.self.inside.at; waiting = c.self.inside.waiting.items } in
    let p : IsPlaceOf c.next-following.result c.self.inside.waiting.items c.in-Some.place = rw (← c.as_slice.ensures.value) c.in-Some.ensures.some in
    rw (← c.self.view_is, c.remove-seqid.ensures.items, c.next-following.ensures) (moved w c.in-Some.place (rw (← c.next-following.ensures) p))
