use Rattle.std.proofs.Common.{◌≡◌, Some, None, sym}
use Rattle.n41_journal.specs.Journal.{event_at}
use Rattle.n41_answers.specs.Answers.{place_in, answer_in}
use Rattle.n41_answers.proofs.Law.{answer_here, answer_there, no_answer}
use Rattle.n41_answers.proofs.answers.answer_of.Goals as goal

pub returns-in_err-place-clause-none : goal.returns-in_err-place-clause-none
returns-in_err-place-clause-none c =
    let h : None ≡ place_in c.args.answers.now.lists c.args.caller c.args.number = c.in_err-place.ensures in
    rw c.from_residual.ensures (no_answer c.requires.0 c.args.journal.now.events c.args.answers.now.lists c.args.caller c.args.number c.requires.1 (sym h))

pub returns-in_err-answer-clause-none : goal.returns-in_err-answer-clause-none
returns-in_err-answer-clause-none c =
    let h : Some c.in_ok-place.place ≡ place_in c.args.answers.now.lists c.args.caller c.args.number = c.in_ok-place.ensures in
    let e : None ≡ answer_in (event_at c.args.journal.now.events c.in_ok-place.place) = c.in_err-answer.ensures in
    absurd (answer_there c.requires.0 c.args.journal.now.events c.args.answers.now.lists c.args.caller c.args.number c.in_ok-place.place c.requires.1 (sym h) e)

pub returns-clause-some : goal.returns-clause-some
returns-clause-some c =
    let h : Some c.in_ok-place.place ≡ place_in c.args.answers.now.lists c.args.caller c.args.number = c.in_ok-place.ensures in
    let e : Some c.in_ok-answer.answer.now ≡ answer_in (event_at c.args.journal.now.events c.in_ok-place.place) = c.in_ok-answer.ensures in
    answer_here c.requires.0 c.args.journal.now.events c.args.answers.now.lists c.args.caller c.args.number c.in_ok-place.place c.in_ok-answer.answer.now c.requires.1 (sym h) e
