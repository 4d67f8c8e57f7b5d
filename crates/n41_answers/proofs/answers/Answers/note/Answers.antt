use Rattle.std.proofs.Common.{◌<◌, get_or, map, sym, subst}
use Rattle.n41_answers.specs.Index.{Index, room_of}
use Rattle.n41_answers.proofs.Rows.{noted_row}
use Rattle.n41_answers.proofs.answers.Answers.note.Goals as goal

pub returns : goal.returns
returns c =
    let l : 0 < get_or (map room_of c.self.inside.rows.items) c.args.caller 0 = subst (λ (i : Index). 0 < get_or i.room c.args.caller 0) (sym c.self.view_is) c.requires in
    rw (← c.self.view_is) (noted_row c.self.inside.rows.items c.args.caller c.args.place c.index_mut.result.now c.note.new.self l c.index_mut.ensures.value c.note.ensures)
