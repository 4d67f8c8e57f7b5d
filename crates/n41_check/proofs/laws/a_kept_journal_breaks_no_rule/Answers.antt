use Rattle.n41_check.proofs.Kept.{kept_is_clean}
use Rattle.n41_check.proofs.laws.a_kept_journal_breaks_no_rule.Goals as goal

pub returns : goal.returns
returns c = kept_is_clean
