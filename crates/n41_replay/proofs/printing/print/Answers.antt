use Rattle.std.proofs.Common.{ℕ, List, ◌∙◌, subst}
use Rattle.n41_streams.specs.Streams.{TookPart}
use Rattle.n41_replay.proofs.Printings.{took_part}
use Rattle.n41_replay.proofs.printing.print.Goals as goal

pub returns-clause-err : goal.returns-clause-err
returns-clause-err g c =
    subst (λ (text : List ℕ). TookPart (g.K.Sink.taken c.args.sink.now) (g.K.Sink.taken c.put_all.new.sink) text) (c.as_bytes.ensures.value ∙ c.in-Ok.ensures) (took_part _ _ _ c.in-Err.ensures.err)
