use Rattle.std.proofs.Common.{◌≡◌, ◌++◌, ◌+◌, ℕ, suc, take, drop}
use Rattle.n41_report.specs.Text.{named, commands_of, commands_text, script_text}
use Rattle.n41_report.specs.Found.{count}
use Rattle.n41_report.proofs.texts.text.Given as goal

abbrev pub invariant-loop-line : goal.invariant-loop-line
invariant-loop-line l = record {
  text : l.out.items ++ commands_text l.breach l.journal.events (suc l.line-index) (named l.script.callers (take l.line-index l.script.lines) (drop l.line-index l.script.lines)) ≡ script_text l.breach l.journal.events l.script;
  counted : (c : ℕ) → count l.numbers c ≡ commands_of c (take l.line-index l.script.lines);
  place : l.place ≡ l.line-index;
}
