-- Which operations have a spelling where they are written: those whose numbers and lengths are such as the wire has.
use Rattle.std.specs.Prelude.{◌<◌, ◌^◌}
use Rattle.n41_attr.specs.Attributes.{AttrsFit}
use Rattle.n41_attr.specs.Parts.{string, stateid}
use Rattle.n41_args.specs.declared.openings.OpenHow.{OpenHow}
use Rattle.n41_args.specs.declared.openings.OpenHow.TheVariants as how
use Rattle.n41_args.specs.declared.openings.OpenArgs.{OpenArgs}
use Rattle.n41_args.specs.declared.arg.Arg.{Arg}
use Rattle.n41_args.specs.declared.arg.Arg.TheVariants as arg
use Rattle.n41_args.specs.Owners.{state_owner}
use Rattle.n41_args.specs.Openings.{open_claim}
use Rattle.n41_args.specs.Args.{kept_arm}

abbrev pub HowFits : OpenHow → Type 0
HowFits how.NoCreate = Unit {0}
HowFits (how.Create guarded a) = AttrsFit a

abbrev pub OpenFits : OpenArgs → Type 0
OpenFits a = (a.seqid < 2 ^ 32) × (a.access < 2 ^ 32) × (a.deny < 2 ^ 32) × state_owner.Fits a.owner × HowFits a.how × open_claim.Fits a.claim

abbrev pub ArgFits : Arg → Type 0
ArgFits (arg.Create a) = string.Fits a.name × AttrsFit a.attrs
ArgFits (arg.Open a) = OpenFits a
ArgFits (arg.SetAttr a) = stateid.Fits a.stateid × AttrsFit a.attrs
ArgFits a = (kept_arm a).Fits
