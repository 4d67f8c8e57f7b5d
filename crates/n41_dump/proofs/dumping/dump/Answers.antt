use Rattle.std.proofs.Common.{◌∙◌, ap}
use Rattle.n41_dump.specs.declared.printer.Printer.{Printer}
use Rattle.n41_dump.proofs.Finished.{answers, read_finished, finishes_at, not_begun}
use Rattle.n41_dump.proofs.dumping.dump.Goals as goal

pub returns-in_default-clause-answers : goal.returns-in_default-clause-answers
returns-in_default-clause-answers g c = not_begun c.args.side _ _

pub returns-clause-answers : goal.returns-clause-answers
returns-clause-answers g c =
    let prints = c.in_ok-print_all.ensures.prints in
    answers c.finish.result c.args.side prints.0 _ _ _ _ prints.1
    (finishes_at c.finish.result _ _ prints.0 _ _ (prints.4 ∙ ap (λ (p : Printer). p.side) c.new-printer.ensures) (c.finish.ensures.finishes prints.0 _ prints.2))

pub returns-clause-read : goal.returns-clause-read
returns-clause-read g c =
    let prints = c.in_ok-print_all.ensures.prints in
    read_finished c.finish.result _ prints.0 _ _ _ _ (c.finish.ensures.finishes prints.0 _ prints.2) c.in_ok-print_all.ensures.read
