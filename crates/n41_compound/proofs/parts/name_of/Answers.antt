use Rattle.n41_compound.proofs.Named.{name_found, none_found}
use Rattle.n41_compound.proofs.parts.name_of.Goals as goal

pub returns-in-Ok : goal.returns-in-Ok
returns-in-Ok c = name_found c.as_slice.result.now c.args.bytes.now c.in-Ok.name c.as_slice.ensures c.in-Ok.ensures

pub returns-in-Err : goal.returns-in-Err
returns-in-Err c = none_found c.as_slice.result.now c.args.bytes.now c.in-Err.fault c.nameless.result c.as_slice.ensures c.in-Err.ensures c.nameless.ensures
