use Rattle.std.proofs.Common.{sym}
use Rattle.n41_script.proofs.Ends.{before_last_space, all_one_word}
use Rattle.n41_script.proofs.lines.to_last_space.Goals as goal

pub returns-in-Some : goal.returns-in-Some
returns-in-Some c = before_last_space c.args.text.now c.in-Some.count (sym c.in-Some.ensures)

pub returns-in-None : goal.returns-in-None
returns-in-None c = all_one_word c.args.text.now (sym c.in-None.ensures)
