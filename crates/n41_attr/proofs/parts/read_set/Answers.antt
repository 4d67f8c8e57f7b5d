use Rattle.std.proofs.lemmas.Result.{err_from_is_err_and}
use Rattle.std.proofs.Common.{List, ℕ}
use Rattle.n41_attr.specs.Bitmaps as bitmaps
use Rattle.n41_attr.specs.Parts.{bitmap}
use Rattle.n41_attr.proofs.Convert.{bitmap_ok, bitmap_fails}
use Rattle.n41_attr.proofs.parts.read_set.Goals as goal

pub returns : goal.returns
unfolding bitmap
returns c = bitmap_ok (bitmaps.bitmap.read c.args.r.now) (_, c.read_bitmap.new.r) c.in_ok-read_bitmap.ensures

pub returns-in_err-read_bitmap : goal.returns-in_err-read_bitmap
unfolding bitmap
returns-in_err-read_bitmap c =
    let p = err_from_is_err_and c.from_residual.result c.from_residual.ensures.1 in
    rw (p.1, p.2) (bitmap_fails {X = List ℕ} (λ mask. mask) c.in_err-read_bitmap.field-0.0 c.args.r.now c.read_bitmap.new.r (bitmaps.bitmap.read c.args.r.now) c.in_err-read_bitmap.ensures)
