use Rattle.n41_core.proofs.books.Books.answer_of.Goals as goal

pub answer_of-requires : goal.answer_of-requires
answer_of-requires c = (c.self.inside.tied.setup, rw c.journal.ensures (record { kept = c.kept.ensures; lists_are = c.self.invariant }))

pub returns-clause-none : goal.returns-clause-none
returns-clause-none c = let h = rw c.journal.ensures at c.answer_of.ensures.none in rw (← c.self.view_is) h
