use Rattle.n41_once.proofs.Goods.{good}
use Rattle.n41_once.proofs.laws.a_change_takes_effect_once.Goals as goal

pub returns : goal.returns
returns c = good
