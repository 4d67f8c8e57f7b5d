use Rattle.std.proofs.Common.{sym}
use Rattle.n41_words.proofs.Cuts.{word_ends, word_is_last}
use Rattle.n41_words.proofs.words.around_word.Goals as goal

pub returns-in-Some : goal.returns-in-Some
returns-in-Some c = rw (c.split_at.ensures.front, c.split_at.ensures.back) (word_ends c.args.text.now c.in-Some.place c.requires (sym c.in-Some.ensures))

pub returns-in-None : goal.returns-in-None
returns-in-None c = word_is_last c.args.text.now c.requires (sym c.in-None.ensures)
