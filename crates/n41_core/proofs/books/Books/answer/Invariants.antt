use Rattle.n41_core.proofs.books.Books.answer.Given as goal

abbrev pub ghost-answer : goal.ghost-answer
ghost-answer g a = g.given
