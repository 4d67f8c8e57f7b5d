use Rattle.std.proofs.lemmas.Result.{err_from_is_err_and}
use Rattle.n41_attr.specs.Attributes.{told}
use Rattle.n41_attr.specs.Parts.{fattr}
use Rattle.n41_attr.proofs.Convert.{attrs_ok, attrs_fail}
use Rattle.n41_attr.proofs.parts.read_fattr.Goals as goal

pub returns : goal.returns
unfolding fattr
returns c = attrs_ok (told.read c.args.r.now) (_, c.read_attrs.new.r) c.in_ok-read_attrs.ensures

pub returns-in_err-read_attrs : goal.returns-in_err-read_attrs
unfolding fattr
returns-in_err-read_attrs c =
    let p = err_from_is_err_and c.from_residual.result c.from_residual.ensures.1 in
    rw (p.1, p.2) (attrs_fail c.in_err-read_attrs.field-0.0 c.args.r.now c.read_attrs.new.r (told.read c.args.r.now) c.in_err-read_attrs.ensures)
