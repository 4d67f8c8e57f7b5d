use Rattle.std.proofs.Common.{◌≡◌, ◌≤◌, ◌+◌, take, drop, length, Ok}
use Rattle.n41_words.specs.Lines.{lines}
use Rattle.n41_script.specs.Scripts.{said_by}
use Rattle.n41_script.proofs.reading.read_lines.Given as goal

abbrev pub invariant-loop-line : goal.invariant-loop-line
invariant-loop-line l = record {
  said : said_by (take l.number (lines l.text)) ≡ Ok l.reading;
  left : drop l.number (lines l.text) ≡ lines l.rest;
  within : l.number + length l.rest ≤ length l.text;
}

abbrev pub decreases-loop-line : goal.decreases-loop-line
decreases-loop-line l = length l.rest
