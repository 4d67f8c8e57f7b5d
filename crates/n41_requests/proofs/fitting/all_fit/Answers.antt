use Rattle.std.proofs.lemmas.Option.{slice_get-get_or}
use Rattle.n41_attr.specs.Parts.{stateid}
use Rattle.n41_requests.proofs.Lists.{grows, whole}
use Rattle.n41_requests.proofs.fitting.all_fit.Goals as goal

pub loop-stateid-preserved : goal.loop-stateid-preserved
loop-stateid-preserved c =
    grows stateid.Fits c.args.stateids.now c.loop-stateid.stateid-index _
    (slice_get-get_or c.args.stateids.now c.loop-stateid.stateid-index _ c.loop-stateid-test.true)
    c.stateid_fits.ensures
    c.loop-stateid.invariant

pub returns : goal.returns
returns c = whole stateid.Fits c.args.stateids.now c.loop-stateid.stateid-index c.loop-stateid-test.false c.loop-stateid.invariant
