use Rattle.n41_written.proofs.HexBack.{bytes_read, bytes_some}
use Rattle.n41_written.proofs.laws.bytes_are_read_back.Goals as goal

pub returns : goal.returns
returns c = record { read = bytes_read; some = bytes_some }
