use Rattle.std.proofs.Common.{◌∙◌, refl}
use Rattle.n41_probe.proofs.Asked.{nothing_asked, partly_asked}
use Rattle.n41_probe.proofs.probing.ask.Goals as goal

pub returns-in_default-clause-begun : goal.returns-in_default-clause-begun
returns-in_default-clause-begun g c = nothing_asked c.args.moment _ _ c.requires.log refl

pub returns-in-Err-Failed-clause-begun : goal.returns-in-Err-Failed-clause-begun
returns-in-Err-Failed-clause-begun g c =
    let said = rw c.in-Err-Failed.field-0-is at (c.in-Err-Failed.ensures.says c.requires.fault) in
    partly_asked c.args.moment said.0 _ _ c.as_slice.result.now c.requires.log (c.as_slice.ensures ∙ c.in-Ok.ensures.spelled) said.2

pub returns-clause-begun : goal.returns-clause-begun
returns-clause-begun g c =
    let said = rw c.in-Err-NoMemory.field-0-is at (c.in-Err-NoMemory.ensures.says c.requires.fault) in
    nothing_asked c.args.moment _ _ c.requires.log said
