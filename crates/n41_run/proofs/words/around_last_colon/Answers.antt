use Rattle.n41_run.proofs.Address.{none_behind, none_at_all}
use Rattle.n41_run.proofs.words.around_last_colon.Goals as goal

pub returns-clause-last : goal.returns-clause-last
returns-clause-last c = none_behind c.args.text.now c.rsplit_once.result c.rsplit_once.ensures.cases

pub returns-clause-none : goal.returns-clause-none
returns-clause-none c = none_at_all c.args.text.now c.rsplit_once.result c.rsplit_once.ensures.cases
