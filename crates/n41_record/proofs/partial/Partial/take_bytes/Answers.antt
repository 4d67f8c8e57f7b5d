use Rattle.std.proofs.Common.{◌-◌, ℕ, List, ◌++◌, length, refl, arith}
use Rattle.n41_record.proofs.Grown.{grown_inside, inside_size, cut_at, size_more}
use Rattle.n41_record.proofs.partial.Partial.take_bytes.Goals as goal

pub overflow_add-self : goal.overflow_add-self
overflow_add-self c = omega (arith, c.requires.inside.1, inside_size _ _ _ _ c.requires.inside.2, c.split_at.ensures.front_len, c.min.ensures)

pub returns-then-left-eq0 : goal.returns-then-left-eq0
returns-then-left-eq0 c = λ rest size i.
    let front : List ℕ = c.split_at.result.0.now in
    record {
      front = front;
      cut = cut_at c.min.result _ _ _ c.split_at.ensures.front c.split_at.ensures.back;
      some = omega (arith, c.split_at.ensures.back_len, c.min.ensures, c.requires.some);
      grown = c.close-whole.ensures (rest ++ front) (size_more _ rest front size) (grown_inside _ _ c.args.part.last c.args.part.left 0 rest front i c.in_ok-extend_from_slice.ensures.items refl refl (omega (arith, c.if-left-eq0.true, c.split_at.ensures.front_len, c.min.ensures)));
    }

pub returns : goal.returns
returns c = λ rest size i.
    let front : List ℕ = c.split_at.result.0.now in
    record {
      front = front;
      cut = cut_at c.min.result _ _ _ c.split_at.ensures.front c.split_at.ensures.back;
      some = omega (arith, c.split_at.ensures.back_len, c.min.ensures, c.requires.some);
      grown = record { size = size_more _ rest front size; placed = (grown_inside _ _ c.args.part.last c.args.part.left (c.args.part.left - length front) rest front i c.in_ok-extend_from_slice.ensures.items refl refl (omega (arith, c.split_at.ensures.front_len, c.min.ensures)), omega (arith, c.if-left-eq0.false)) };
    }
