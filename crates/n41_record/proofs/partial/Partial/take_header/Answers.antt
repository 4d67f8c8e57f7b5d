use Rattle.std.proofs.Common.{◌≤◌, ℕ, List, ◌++◌, length, refl, arith, length-append}
use Rattle.std.proofs.lemmas.Result.{err_from_is_err_and}
use Rattle.n41_record.proofs.Grown.{grown_between, between_size, cut_at, size_more, stops_along}
use Rattle.n41_record.proofs.partial.Partial.take_header.Goals as goal

pub overflow_add-self : goal.overflow_add-self
overflow_add-self c = omega (arith, c.requires.between.1, between_size _ _ c.requires.between.2, c.split_at.ensures.front_len, c.min.ensures)

pub returns-in_err-whole : goal.returns-in_err-whole
returns-in_err-whole c = λ rest size b.
    let p = err_from_is_err_and c.from_residual-in_err-whole.result c.from_residual-in_err-whole.ensures.1 in
    let front : List ℕ = c.split_at.result.0.now in
    let fits : length (c.args.self.now.head.items ++ front) ≤ 4 = omega (arith, length-append c.args.self.now.head.items front, c.split_at.ensures.front_len, c.min.ensures, c.len.ensures, b.below) in
    rw (p.1, p.2) (stops_along rest front c.split_at.result.1.now c.args.piece.now c.in_err-whole.field-0.0 (cut_at c.min.result _ _ _ c.split_at.ensures.front c.split_at.ensures.back)
    (c.in_err-whole.ensures (rest ++ front) (size_more _ rest front size) (grown_between _ _ rest front b c.in_ok-extend_from_slice.ensures.items refl refl fits) c.split_at.result.1.now))

pub returns : goal.returns
returns c = λ rest size b.
    let front : List ℕ = c.split_at.result.0.now in
    let fits : length (c.args.self.now.head.items ++ front) ≤ 4 = omega (arith, length-append c.args.self.now.head.items front, c.split_at.ensures.front_len, c.min.ensures, c.len.ensures, b.below) in
    record {
      front = front;
      cut = cut_at c.min.result _ _ _ c.split_at.ensures.front c.split_at.ensures.back;
      some = omega (arith, c.split_at.ensures.back_len, c.min.ensures, c.len.ensures, c.requires.some, c.requires.between.3);
      grown = c.in_ok-whole.ensures (rest ++ front) (size_more _ rest front size) (grown_between _ _ rest front b c.in_ok-extend_from_slice.ensures.items refl refl fits);
    }
