use Rattle.std.proofs.Common.{◌≡◌, subst, IfOk}
use Rattle.n41_seen.specs.declared.compounds.Step.{Step}
use Rattle.n41_seen.specs.Calls.{Seen, ops_seen}
use Rattle.n41_seen.specs.Steps.{IsStep}
use Rattle.n41_seen.proofs.OpsLoop.{goes_on, ends, is_garbled}
use Rattle.n41_seen.proofs.compounds.read_ops.Goals as goal

pub returns-in-Last : goal.returns-in-Last
returns-in-Last c =
    let step = subst (λ (s : Step). IsStep s c.loop.r c.read_step.new.r) c.in-Last.is c.in_ok-x.ensures in
    subst (λ (seen : Seen). IfOk c.ops_of.result (λ s. s ≡ seen))
    (ends c.loop.list.items c.args.count c.loop.counter c.loop.r c.read_step.new.r c.in-Last.tail (ops_seen c.args.count c.args.r.now) c.loop-test.true step c.loop.invariant)
    c.ops_of.ensures

pub returns-in-Broken : goal.returns-in-Broken
returns-in-Broken c =
    let step = subst (λ (s : Step). IsStep s c.loop.r c.read_step.new.r) c.in-Broken.is c.in_ok-x.ensures in
    is_garbled c.loop.list.items c.args.count c.loop.counter c.loop.r c.read_step.new.r (ops_seen c.args.count c.args.r.now) c.loop-test.true step c.loop.invariant

pub loop-preserved : goal.loop-preserved
loop-preserved c =
    let step = subst (λ (s : Step). IsStep s c.loop.r c.read_step.new.r) c.in-Known.is c.in_ok-x.ensures in
    rw c.in_ok-push-in-Known.ensures.items (goes_on c.loop.list.items c.args.count c.loop.counter c.loop.r c.read_step.new.r c.in-Known.x (ops_seen c.args.count c.args.r.now) c.loop-test.true step c.loop.invariant)
