use Rattle.n41_core.specs.Books.{handed}
use Rattle.n41_core.proofs.Answered.{the_answer}
use Rattle.n41_core.proofs.answering.settle_one.Given as goal

abbrev pub ghost-answer : goal.ghost-answer
ghost-answer a = the_answer (handed a.self.now a.caller a.late)
