use Rattle.n41_core.proofs.Answered.{the_answer}
use Rattle.n41_core.proofs.posts.note_command.Given as goal

abbrev pub ghost-answer : goal.ghost-answer
ghost-answer a = the_answer a.late
