use Rattle.std.proofs.Common.{◌≡◌, ℕ, suc, ◌-◌, ◌+◌, ◌*◌, ◌<◌, length, Bool, false, Option, sym, ◌∙◌, arith, refl}
use Rattle.n41_attr.specs.Bitmaps.{is_unknown, least, least_unknown}
use Rattle.n41_attr.proofs.bitmaps.least_unknown.Goals as goal

skips : (test : ℕ → Bool) (count i : ℕ) (total : Option ℕ) → i < count → test i ≡ false → least test i (count - i) ≡ total → least test (i + 1) (count - (i + 1)) ≡ total
skips test count i total lt isnt so_far =
    let k : count - i ≡ suc (count - (i + 1)) = omega arith in
    let one : least test i (count - i) ≡ least test (i + 1) (count - (i + 1)) = rw (k, isnt) refl in
    sym one ∙ so_far

pub loop-number-preserved : goal.loop-number-preserved
loop-number-preserved c =
    skips (is_unknown c.args.mask.now) (32 * length c.args.mask.now) c.loop-number.number (least_unknown c.args.mask.now) (omega arith) (sym c.is_unknown.ensures ∙ c.if-is_unknown.false) c.loop-number.invariant
