use Rattle.std.proofs.Common.{sym, ◌∙◌, ap}
use Rattle.std.specs.Option.{option_copied_mut}
use Rattle.n41_opens.specs.declared.modes.Tally.{Tally}
use Rattle.n41_opens.specs.declared.records.Record.{Record}
use Rattle.n41_opens.specs.Inside.{more}
use Rattle.n41_opens.proofs.Steps.{join_by}
use Rattle.n41_opens.proofs.records.join.Goals as goal

pub returns-in-Some : goal.returns-in-Some
returns-in-Some c =
    let e = sym c.get_mut.ensures.value ∙ ap (λ o. option_copied_mut o) c.in-Some.is in
    let d : Record = record { front = c.hear.new.self.front; begun = c.hear.new.self.begun; tally = c.more-record.result } in
    join_by c.args.records.now.entries (c.get_mut.follows.lender d).entries c.args.id.now c.args.seqid c.args.mode c.in-Some.record.now d e (c.get_mut.follows.holds d).0 c.hear.ensures.told (c.more-record.ensures ∙ ap (λ (t : Tally). more c.args.mode t) c.hear.ensures.tally)
