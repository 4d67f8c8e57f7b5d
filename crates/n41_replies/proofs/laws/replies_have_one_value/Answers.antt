use Rattle.n41_replies.proofs.Spelled.{one_value}
use Rattle.n41_replies.proofs.laws.replies_have_one_value.Goals as goal

pub returns : goal.returns
returns c = one_value
