use Rattle.std.proofs.Common.{◌≡◌, ◌≤◌, ◌+◌, take, drop, length, reverse}
use Rattle.n41_words.specs.Lines.{lines}
use Rattle.n41_journal_reader.specs.Journals.{told_lines, SayEach}
use Rattle.n41_journal_reader.proofs.reading.read_lines.Given as goal

abbrev pub invariant-loop-line : goal.invariant-loop-line
invariant-loop-line l = record {
  said : SayEach (told_lines (take l.number (lines l.text))) (reverse l.journal.events);
  left : drop l.number (lines l.text) ≡ lines l.rest;
  within : l.number + length l.rest ≤ length l.text;
}

abbrev pub decreases-loop-line : goal.decreases-loop-line
decreases-loop-line l = length l.rest
