use Rattle.std.proofs.Common.{length, refl}
use Rattle.std.proofs.lemmas.Option.{slice_get_read}
use Rattle.n41_types.specs.Names.{IsName}
use Rattle.n41_requests.proofs.Lists.{grows, whole}
use Rattle.n41_requests.proofs.names.are_names.Goals as goal

pub loop-name-preserved : goal.loop-name-preserved
loop-name-preserved c =
    grows IsName c.args.names.now c.loop-name.name-index c.name-item.result
    (slice_get_read c.args.names.now (length c.args.names.now) c.loop-name.name-index c.name-item.result refl c.loop-name-test.true c.name-item.is)
    c.is_name.ensures
    c.loop-name.invariant

pub returns : goal.returns
returns c = whole IsName c.args.names.now c.loop-name.name-index c.loop-name-test.false c.loop-name.invariant
