-- Attributes that were read can be written.
use Rattle.std.proofs.Common.{ℕ, Bool, Option, Some, None}
use Rattle.std.specs.Prelude.{IfSome}
use Rattle.n41_attr.specs.Attributes.{AttrsFit, Told, WhenFits, attrs_of, behind, told, values, written}
use Rattle.n41_attr.specs.Parts.{fattr}
use Rattle.n41_attr.proofs.Written.{written_fits}

if_there : (b : Bool) (P : ℕ → Type 0) (o : Option ℕ) → WhenFits b P o → IfSome o P
if_there b P None fits = tt
if_there b P (Some x) fits = fits.1

pub attrs_fit : (t : Told) → fattr.Fits t → AttrsFit (attrs_of t)
unfolding fattr told behind values
attrs_fit t fits =
    let v = fits.1.1.1.0 in
    (if_there _ _ t.attrs.kind v.0, if_there _ _ t.attrs.change v.1.0, if_there _ _ t.attrs.size v.1.1.0, if_there _ _ t.attrs.lease v.1.1.1.0, if_there _ _ t.attrs.fileid v.1.1.1.1.0, if_there _ _ t.attrs.mode v.1.1.1.1.1)

pub attrs_again : (t : Told) → fattr.Fits t → fattr.Fits (written (attrs_of t))
unfolding fattr
attrs_again t fits = written_fits (attrs_of t) (attrs_fit t fits)
