use Rattle.std.proofs.Common.{◌≡◌, ◌++◌, All, take}
use Rattle.n41_journal_text.specs.Text.{journal_lines}
use Rattle.n41_journal_text.specs.Words.{IsLegible, IsSayable}
use Rattle.n41_journal_text.proofs.text.put_lines.Given as goal

abbrev pub invariant-loop-event : goal.invariant-loop-event
invariant-loop-event l = record {
  told : l.out.items ≡ l.initial.out.items ++ journal_lines (take l.event-index l.events);
  legible : All IsSayable l.events → All IsLegible (take l.event-index l.events);
}
