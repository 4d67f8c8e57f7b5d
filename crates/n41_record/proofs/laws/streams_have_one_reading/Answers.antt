use Rattle.n41_record.proofs.Unique.{records_one, refused_one, either_one}
use Rattle.n41_record.proofs.laws.streams_have_one_reading.Goals as goal

pub returns : goal.returns
returns c = record { records = records_one; faults = refused_one; never_both = either_one }
