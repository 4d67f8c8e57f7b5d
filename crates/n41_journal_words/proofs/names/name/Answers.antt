use Rattle.n41_journal_words.proofs.Bytes.{goes_on}
use Rattle.n41_journal_words.proofs.names.name.Goals as goal

pub loop-rest-preserved : goal.loop-rest-preserved
loop-rest-preserved c =
    rw c.in_ok-push.ensures.items (goes_on c.loop-rest.bytes.items c.in_ok-byte.byte c.loop-rest.rest.now c.in_ok-byte.behind.now c.args.word.now c.in_ok-byte.ensures.byte c.loop-rest.invariant)
