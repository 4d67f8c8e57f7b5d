use Rattle.std.proofs.Common.{◌≡◌, ap, append_assoc, arith, length, ◌%◌}
use Rattle.n41_attr.specs.Attributes.{values_text}
use Rattle.n41_attr.proofs.Written.{written_text}
use Rattle.n41_attr.proofs.attributes.write_attrs.Goals as goal

pub returns : goal.returns
returns c =
    let words : length (values_text c.args.a.now) % 4 ≡ 0 = omega (arith, c.values_len.ensures.len, c.values_len.ensures.words) in
    rw (written_text c.args.a.now words, c.in_ok-write_values.ensures, c.in_ok-put_u32.ensures.ok, c.in_ok-write_mask.ensures, c.values_len.ensures.len) (simp append_assoc)
