-- Operations that were read can be written.
use Rattle.std.proofs.Common.{◌≡◌, ℕ, Bool, true, false, List, Option, Some, None, Result, Ok, Err, sym, ap, subst, arith}
use Rattle.n41_xdr.specs.Format.{made}
use Rattle.n41_xdr.specs.Lawful.{IsBytes, IsLawful}
use Rattle.n41_xdr.proofs.Lawful.{bind_ok}
use Rattle.n41_attr.specs.declared.fault.OpFault.{OpFault}
use Rattle.n41_args.specs.declared.openings.OpenHow.{OpenHow}
use Rattle.n41_args.specs.declared.arg.Arg.{Arg}
use Rattle.n41_args.specs.declared.arg.Arg.TheVariants as arg
use Rattle.n41_args.specs.Openings.{ToldHow, NoCreate, Create, how_of, told_how, open_of, told_open}
use Rattle.n41_args.specs.Files.{set_attr_of, told_set_attr}
use Rattle.n41_args.specs.Directories.{create_of, told_create}
use Rattle.n41_args.specs.Args as args
use Rattle.n41_args.specs.Args.{ToldArg, told_arg, arg_of, written_arg}
use Rattle.n41_args.specs.Fits.{HowFits}
use Rattle.n41_args.proofs.ArgsLawful.{told_arg_lawful}
use Rattle.n41_args.proofs.Fits.{arg_fits}
use Rattle.n41_codec_tests.proofs.Attributes.{attrs_fit}

how_fits : (h : ToldHow) → told_how.Fits h → HowFits (how_of h)
unfolding told_how
how_fits NoCreate fits = tt
how_fits (Create g t) fits = attrs_fit t fits.1.1

told_again : (t : ToldArg) → told_arg.Fits t → told_arg.Fits (written_arg (arg_of t))
unfolding told_arg told_create told_set_attr told_open
told_again (args.Kept (arg.Create a)) fits = absurd fits.1
told_again (args.Kept (arg.Open a)) fits = absurd fits.1
told_again (args.Kept (arg.SetAttr a)) fits = absurd fits.1
told_again (args.Kept _) fits = fits
told_again (args.Create a) fits = arg_fits (arg.Create (create_of a)) (fits.1.1.0, attrs_fit a.attrs fits.1.1.1)
told_again (args.Open a) fits = arg_fits (arg.Open (open_of a)) (fits.1.0, fits.1.1.0, fits.1.1.1.0, fits.1.1.1.1.0, how_fits a.how fits.1.1.1.1.1.0, fits.1.1.1.1.1.1)
told_again (args.SetAttr a) fits = arg_fits (arg.SetAttr (set_attr_of a)) (fits.1.0, attrs_fit a.attrs fits.1.1)

abbrev both : Arg → List ℕ → Arg × List ℕ
both a rest = (a, rest)

abbrev seen : ToldArg × List ℕ → Result (Arg × List ℕ) OpFault
seen x = Ok (arg_of x.0, x.1)

-- an operation that was read
pub read_fits : (bytes : List ℕ) (a : Arg) (rest : List ℕ) → IsBytes bytes → made arg_of told_arg bytes ≡ Ok (a, rest) → told_arg.Fits (written_arg a)
read_fits bytes a rest fits e =
    let t = bind_ok (told_arg.read bytes) seen (a, rest) e in
    let pair : both a rest ≡ both (arg_of t.0.0) t.0.1 = cc t.2 in
    let same : a ≡ arg_of t.0.0 = ap (λ (p : Arg × List ℕ). p.0) pair in
    subst (λ (x : Arg). told_arg.Fits (written_arg x)) (sym same) (told_again t.0.0 (told_arg_lawful.takes bytes t.0 fits t.1).1)
