use Rattle.std.proofs.Common.{rules}
use Rattle.n41_journal_words.specs.Answers.{names_at}
use Rattle.n41_journal_words.proofs.Loop.{goes_on, fails, is_done}
use Rattle.n41_journal_words.proofs.answers.names_of.Goals as goal

pub returns-in_err-name : goal.returns-in_err-name
returns-in_err-name c =
    fails c.in_err-name.field-0.0 c.loop-place.names.items c.args.count c.loop-place._place c.loop-place.words c.next_name.new.words c.next_name.new.words (names_at c.args.count c.args.words.now) c.from_residual.result (search rules) c.loop-place-test.true c.in_err-name.ensures c.loop-place.invariant

pub loop-place-preserved : goal.loop-place-preserved
loop-place-preserved c =
    rw c.in_ok-push.ensures.items (goes_on c.loop-place.names.items c.args.count c.loop-place._place c.loop-place.words c.in_ok-name.name c.next_name.new.words (names_at c.args.count c.args.words.now) c.loop-place-test.true c.in_ok-name.ensures c.loop-place.invariant)

pub returns : goal.returns
returns c = rw c.from_vec.ensures (is_done c.loop-place.names.items c.args.count c.loop-place._place c.loop-place.words (names_at c.args.count c.args.words.now) c.loop-place-test.false c.loop-place.invariant)
