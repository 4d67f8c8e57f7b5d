use Rattle.std.proofs.Common.{sym, ◌∙◌, ap}
use Rattle.std.specs.Option.{option_copied_mut}
use Rattle.n41_opens.specs.declared.modes.Tally.{Tally}
use Rattle.n41_opens.specs.declared.records.Record.{Record}
use Rattle.n41_opens.specs.Inside.{union_of}
use Rattle.n41_opens.specs.Ids.{is_id}
use Rattle.std.specs.Map.{remove_entry}
use Rattle.n41_opens.proofs.Steps.{leave_last, remove_after_set}
use Rattle.n41_opens.proofs.records.leave.Goals as goal

pub returns-then-is_none-clause-left : goal.returns-then-is_none-clause-left
returns-then-is_none-clause-left c =
    let e = sym c.get_mut.ensures.value ∙ ap (λ o. option_copied_mut o) c.in-Some.is in
    let d : Record = record { front = c.in-Some.record.now.front; begun = c.in-Some.record.now.begun; tally = c.fewer-record.result } in
    leave_last c.args.records.now.entries c.remove.new.self.entries c.args.id.now c.args.mode c.in-Some.record.now c.union.result c.is_none.result e (c.union.ensures ∙ ap (λ (t : Tally). union_of t) c.fewer-record.ensures) c.is_none.ensures c.if-is_none.true
    (c.remove.ensures.entries ∙ (ap (λ es. remove_entry (is_id c.args.id.now) es) (c.get_mut.follows.holds d).0 ∙ remove_after_set (is_id c.args.id.now) c.args.records.now.entries d))
