use Rattle.std.proofs.Common.{◌≡◌, ◌⊎◌, ◌<◌, ◌++◌, List, ℕ, length, take, subst}
use Rattle.n41_streams.specs.declared.reading.ReadFault.TheVariants.{TooLong, NoMemory}
use Rattle.n41_streams.proofs.Given.{refused}
use Rattle.n41_streams.proofs.reading.read_all.Goals as goal

pub returns-in-Err-clause-err : goal.returns-in-Err-clause-err
returns-in-Err-clause-err g c =
    refused c.in-Err.fault c.args.most _ _ _ _ _ c.loop-n.invariant.gave c.in-Ok-read_once.ensures.bytes.0
    (subst (λ (room : List ℕ). (c.in-Err.fault ≡ NoMemory) ⊎ ((c.in-Err.fault ≡ TooLong) × (c.args.most < length (c.loop-n.bytes.items ++ take c.in-Ok-read_once.n room)))) c.deref.ensures.value c.in-Err.ensures.err)
