-- Attributes that are set fit in their spelling.
use Rattle.std.proofs.Common.{◌<◌, ◌^◌, ℕ, Bool, true, false, arith}
use Rattle.n41_attr.specs.Attributes.{written}
use Rattle.n41_attr.specs.Parts.{fattr}
use Rattle.n41_attr.proofs.Written.{written_fits}
use Rattle.n41_args.specs.declared.openings.OpenHow.TheVariants.{Create}
use Rattle.n41_args.specs.Openings.{guarded, told_how, written_how}
use Rattle.n41_requests.specs.Plans.{with_mode, with_size}

pub size_fits : (size : ℕ) → size < 2 ^ 64 → fattr.Fits (written (with_size size))
unfolding fattr
size_fits size lt = written_fits (with_size size) (tt, tt, lt, tt, tt, tt)

mode_fits : (mode : ℕ) → mode < 2 ^ 32 → fattr.Fits (written (with_mode mode))
unfolding fattr
mode_fits mode lt = written_fits (with_mode mode) (tt, tt, tt, tt, tt, lt)

pub directory_mode_fits : fattr.Fits (written (with_mode 493))
directory_mode_fits = mode_fits 493 (omega arith)

guarded_fits : (g : Bool) → guarded.Fits g
unfolding guarded
guarded_fits false = (omega arith, tt)
guarded_fits true = (omega arith, tt)

pub created_fits : (g : Bool) → told_how.Fits (written_how (Create g (with_mode 420)))
unfolding told_how
created_fits g = (omega arith, (guarded_fits g, mode_fits 420 (omega arith)))
