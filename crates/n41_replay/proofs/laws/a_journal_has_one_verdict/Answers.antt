use Rattle.n41_check.specs.Rules.{callers}
use Rattle.n41_replay.proofs.One.{one_verdict}
use Rattle.n41_replay.proofs.laws.a_journal_has_one_verdict.Goals as goal

pub returns : goal.returns
returns c = λ js a b x y. one_verdict (callers js) js a b x y
