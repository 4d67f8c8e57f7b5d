-- What fits is written as a spelling.
use Rattle.std.proofs.Common.{◌≡◌, ◌<◌, ◌^◌, ℕ, true, false, Bool, arith}
use Rattle.n41_attr.specs.Attributes.{AttrsFit, written}
use Rattle.n41_attr.specs.Parts.{fattr}
use Rattle.n41_attr.proofs.Written.{written_fits}
use Rattle.n41_types.specs.declared.attributes.Attrs.{Attrs}
use Rattle.n41_args.specs.declared.openings.OpenHow.{OpenHow}
use Rattle.n41_args.specs.declared.openings.OpenHow.TheVariants as how
use Rattle.n41_args.specs.declared.arg.Arg.{Arg}
use Rattle.n41_args.specs.declared.arg.Arg.TheVariants as arg
use Rattle.n41_args.specs.Openings.{guarded, told_how, written_how, told_open}
use Rattle.n41_args.specs.Files.{told_set_attr}
use Rattle.n41_args.specs.Directories.{directory_type, told_create}
use Rattle.n41_args.specs.Args.{told_arg, written_arg}
use Rattle.n41_args.specs.Fits.{HowFits, ArgFits}

fattr_fits : (a : Attrs) → AttrsFit a → fattr.Fits (written a)
unfolding fattr
fattr_fits a fits = written_fits a fits

guarded_fits : (g : Bool) → guarded.Fits g
unfolding guarded
guarded_fits false = (omega arith, tt)
guarded_fits true = (omega arith, tt)

how_fits : (h : OpenHow) → HowFits h → told_how.Fits (written_how h)
unfolding told_how
how_fits how.NoCreate fits = (omega arith, tt)
how_fits (how.Create g a) fits = (omega arith, (guarded_fits g, fattr_fits a fits))

pub arg_fits : (a : Arg) → ArgFits a → told_arg.Fits (written_arg a)
unfolding told_arg told_create told_set_attr told_open directory_type
arg_fits (arg.Close a) fits = (omega arith, fits)
arg_fits (arg.Commit a) fits = (omega arith, fits)
arg_fits (arg.Create a) fits = (omega arith, (omega arith, (fits.0, fattr_fits a.attrs fits.1)))
arg_fits (arg.DelegReturn s) fits = (omega arith, fits)
arg_fits (arg.GetAttr mask) fits = (omega arith, fits)
arg_fits arg.GetFh fits = (omega arith, tt)
arg_fits (arg.Lock a) fits = (omega arith, fits)
arg_fits (arg.LockTest a) fits = (omega arith, fits)
arg_fits (arg.Unlock a) fits = (omega arith, fits)
arg_fits (arg.Lookup name) fits = (omega arith, fits)
arg_fits (arg.Open a) fits = (omega arith, (fits.0, (fits.1, (fits.2, (fits.3, (how_fits a.how fits.4, fits.5))))))
arg_fits (arg.OpenDowngrade a) fits = (omega arith, fits)
arg_fits (arg.PutFh x) fits = (omega arith, fits)
arg_fits arg.PutRootFh fits = (omega arith, tt)
arg_fits (arg.Read a) fits = (omega arith, fits)
arg_fits (arg.ReadDir a) fits = (omega arith, fits)
arg_fits (arg.Remove name) fits = (omega arith, fits)
arg_fits (arg.Rename a) fits = (omega arith, fits)
arg_fits arg.SaveFh fits = (omega arith, tt)
arg_fits (arg.SetAttr a) fits = (omega arith, (fits.0, fattr_fits a.attrs fits.1))
arg_fits (arg.Write a) fits = (omega arith, fits)
arg_fits (arg.Bind a) fits = (omega arith, fits)
arg_fits (arg.ExchangeId a) fits = (omega arith, fits)
arg_fits (arg.CreateSession a) fits = (omega arith, fits)
arg_fits (arg.DestroySession sid) fits = (omega arith, fits)
arg_fits (arg.FreeStateid s) fits = (omega arith, fits)
arg_fits (arg.Sequence a) fits = (omega arith, fits)
arg_fits (arg.TestStateid list) fits = (omega arith, fits)
arg_fits (arg.DestroyClient client) fits = (omega arith, fits)
arg_fits (arg.ReclaimComplete one_fs) fits = (omega arith, fits)
arg_fits arg.Illegal fits = (omega arith, tt)
