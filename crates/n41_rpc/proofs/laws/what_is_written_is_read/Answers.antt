use Rattle.n41_rpc.proofs.Lawful.{call_read, reply_read}
use Rattle.n41_rpc.proofs.laws.what_is_written_is_read.Goals as goal

pub returns : goal.returns
returns c = record { calls = call_read; replies = reply_read }
