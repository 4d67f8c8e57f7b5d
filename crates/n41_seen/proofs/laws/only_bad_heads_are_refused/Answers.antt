use Rattle.n41_seen.proofs.Spelled.{call_is_ok, reply_is_refused}
use Rattle.n41_seen.proofs.laws.only_bad_heads_are_refused.Goals as goal

pub returns : goal.returns
returns c = record { calls = call_is_ok; replies = reply_is_refused }
