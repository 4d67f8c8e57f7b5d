use Rattle.n41_record.proofs.Cut.{records_cut, refused_cut, refused_stays}
use Rattle.n41_record.proofs.laws.cutting_changes_nothing.Goals as goal

pub returns : goal.returns
returns c = record { records = records_cut; fault = refused_cut; stays = refused_stays }
