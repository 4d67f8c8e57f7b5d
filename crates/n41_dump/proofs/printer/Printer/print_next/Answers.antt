use Rattle.std.proofs.Common.{arith, refl, subst, List, ℕ, ◌+◌}
use Rattle.std.proofs.lemmas.Result.{err_from_is_err_and}
use Rattle.n41_lines.specs.Lines.{line}
use Rattle.n41_dump.specs.Steps.{Puts}
use Rattle.n41_dump.proofs.Printing.{number_bound, stands_more, begun_more_given}
use Rattle.n41_dump.proofs.printer.Printer.print_next.Goals as goal

pub overflow_add-self : goal.overflow_add-self
overflow_add-self g c = omega (arith, number_bound _ _ _ _ c.requires.2, c.requires.3)

pub returns-in_err-put_line-clause-steps : goal.returns-in_err-put_line-clause-steps
returns-in_err-put_line-clause-steps g c =
    let p = err_from_is_err_and c.from_residual.result c.from_residual.ensures.1 in
    λ stream start s. rw (p.1, c.in_err-put_line.ensures.err.1) (begun_more_given c.args.self.now c.next.new.self stream start _ c.in-Some.bytes s c.in-Some.ensures.given c.in-Some.ensures.fed c.in-Some.ensures.fault c.in-Some.ensures.stands)

pub returns-clause-steps : goal.returns-clause-steps
returns-clause-steps g c =
    let puts : Puts c.args.self.now.broken c.put_line.new.broken (g.K.Sink.taken c.args.sink.now) (g.K.Sink.taken c.put_line.new.sink) (line c.args.self.now.side (c.args.self.now.number + 1) c.in-Some.bytes) =
    subst (λ (t : List ℕ). Puts c.args.self.now.broken c.put_line.new.broken (g.K.Sink.taken c.args.sink.now) (g.K.Sink.taken c.put_line.new.sink) (line c.args.self.now.side (c.args.self.now.number + 1) t)) c.as_slice.ensures c.in_ok-put_line.ensures.ok in
    λ stream start s. stands_more c.args.self.now _ stream start _ _ c.in-Some.bytes s c.in-Some.ensures.given c.in-Some.ensures.fed c.in-Some.ensures.fault c.in-Some.ensures.stands refl refl puts
