use Rattle.std.proofs.Common.{length, refl, subst}
use Rattle.std.proofs.lemmas.Option.{slice_get_read}
use Rattle.n41_compound.specs.declared.walks.Step.{Step}
use Rattle.n41_compound.specs.Walks.{IsStep}
use Rattle.n41_compound.proofs.WalkLoop.{goes_on}
use Rattle.n41_compound.proofs.walks.walked.Goals as goal

pub loop-place-preserved : goal.loop-place-preserved
loop-place-preserved c =
    let x = c.index-args-place.result in
    let n = c.loop-place.place in
    let there = slice_get_read c.args.args.now (length c.args.args.now) n x refl c.loop-place-test.true c.index-args-place.is in
    let step = subst (λ (s : Step). IsStep s x) c.in-Name.is c.in_ok-name.ensures in
    rw c.in_ok-push-in-Name.ensures.items (goes_on c.args.args.now n x c.loop-place.names.items c.in-Name.name there step c.loop-place.invariant)
