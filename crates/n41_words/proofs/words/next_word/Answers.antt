use Rattle.std.proofs.Common.{sym, ap, ◌∙◌}
use Rattle.n41_words.specs.Lines.{words, word_begins}
use Rattle.n41_words.proofs.Cuts.{word_there, behind_spaces, no_words}
use Rattle.n41_words.proofs.words.next_word.Goals as goal

pub around_word-requires : goal.around_word-requires
around_word-requires c = ap word_begins c.rest_of.ensures ∙ word_there c.args.text.now c.in-Some.place (sym c.in-Some.ensures)

pub returns-in-Some : goal.returns-in-Some
returns-in-Some c = behind_spaces c.args.text.now c.in-Some.place (sym c.in-Some.ensures) ∙ ap words (sym c.rest_of.ensures) ∙ c.around_word.ensures

pub returns-in-None : goal.returns-in-None
returns-in-None c = no_words c.args.text.now (sym c.in-None.ensures)
