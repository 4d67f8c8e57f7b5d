use Rattle.std.proofs.Common.{◌∙◌, subst, All, reverse}
use Rattle.n41_tellable.specs.Tellable.{IsTellable}
use Rattle.n41_journal_text.proofs.Reversed.{all_reversed}
use Rattle.n41_journal_back.specs.Kept.{IsTyped}
use Rattle.n41_journal_back.proofs.Journals.{all_kept, again, no_fault}
use Rattle.n41_journal_back.proofs.again.written_and_read.Goals as goal

pub returns-clause-ok : goal.returns-clause-ok
returns-clause-ok c =
    let events = c.args.journal.now.events in
    again events c.as_slice-2.result.now c.read_journal.result (c.as_slice-2.ensures ∙ c.in-Ok.ensures.told)
    (all_kept (reverse events) (all_reversed IsTellable events c.requires.tellable) (c.in-Ok.ensures.legible c.requires.sayable) (subst (All IsTyped) c.as_slice.ensures c.events_are_typed.ensures))
    c.read_journal.ensures.ok c.read_journal.ensures.only

pub returns-clause-err : goal.returns-clause-err
returns-clause-err c =
    let events = c.args.journal.now.events in
    no_fault events c.as_slice-2.result.now c.read_journal.result (c.as_slice-2.ensures ∙ c.in-Ok.ensures.told)
    (all_kept (reverse events) (all_reversed IsTellable events c.requires.tellable) (c.in-Ok.ensures.legible c.requires.sayable) (subst (All IsTyped) c.as_slice.ensures c.events_are_typed.ensures))
    c.read_journal.ensures.err c.read_journal.ensures.only
