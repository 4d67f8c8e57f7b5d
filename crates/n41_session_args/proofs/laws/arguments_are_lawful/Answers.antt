use Rattle.n41_session_args.proofs.Lawful.{exchange_id_lawful, create_session_lawful, bind_lawful, sequence_lawful}
use Rattle.n41_session_args.proofs.laws.arguments_are_lawful.Goals as goal

pub returns : goal.returns
returns c = record { exchange_id = exchange_id_lawful; create_session = create_session_lawful; bind = bind_lawful; sequence = sequence_lawful }
