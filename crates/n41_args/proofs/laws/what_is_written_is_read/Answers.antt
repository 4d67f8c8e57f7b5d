use Rattle.n41_args.proofs.ArgsLawful.{arg_kept, written_read}
use Rattle.n41_args.proofs.Fits.{arg_fits}
use Rattle.n41_args.proofs.laws.what_is_written_is_read.Goals as goal

pub returns : goal.returns
returns c = record { fits = arg_fits; whole = arg_kept; read = written_read }
