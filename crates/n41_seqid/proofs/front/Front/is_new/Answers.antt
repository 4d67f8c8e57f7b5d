use Rattle.n41_seqid.proofs.Places.{not_new}
use Rattle.n41_seqid.proofs.front.Front.is_new.Goals as goal

pub returns-in-Some : goal.returns-in-Some
returns-in-Some g c =
    let p = c.in-Some.ensures.some in
    rw (← c.self.view_is) (not_new (record { at = c.self.inside.at; waiting = c.self.inside.waiting.items }) c.args.seqid c.in-Some._place (rw (← c.as_slice.ensures.value) p))
