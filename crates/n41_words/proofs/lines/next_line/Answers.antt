use Rattle.std.proofs.Common.{◌∙◌, ◌∷◌, ap, sym, List, ℕ, take}
use Rattle.n41_words.specs.Lines.{lines}
use Rattle.n41_words.proofs.Cuts.{line_ends, line_is_last}
use Rattle.n41_words.proofs.lines.next_line.Goals as goal

pub returns-in-Some-clause-lines : goal.returns-in-Some-clause-lines
returns-in-Some-clause-lines c =
    line_ends c.args.text.now c.in-Some.place (sym c.in-Some.ensures)
    ∙ ap (λ (rest : List ℕ). take c.in-Some.place c.args.text.now ∷ lines rest) (sym c.rest_of-behind.ensures)

pub returns-in-None-clause-lines : goal.returns-in-None-clause-lines
returns-in-None-clause-lines c = line_is_last c.args.text.now (sym c.if-is_empty.ensures) (sym c.in-None.ensures)
