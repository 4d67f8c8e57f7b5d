use Rattle.n41_seen.proofs.Spelled.{read_is_spelled, spelled_is_read}
use Rattle.n41_seen.proofs.laws.calls_are_read_where_spelled.Goals as goal

pub returns : goal.returns
returns c = λ c bytes fits. (read_is_spelled c bytes fits, spelled_is_read c bytes fits)
