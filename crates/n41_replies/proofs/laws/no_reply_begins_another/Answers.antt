use Rattle.n41_replies.proofs.Spelled.{none_begins_another}
use Rattle.n41_replies.proofs.laws.no_reply_begins_another.Goals as goal

pub returns : goal.returns
returns c = none_begins_another
