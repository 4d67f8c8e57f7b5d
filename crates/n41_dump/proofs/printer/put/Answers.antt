use Rattle.n41_dump.proofs.Printing.{put_text}
use Rattle.n41_dump.proofs.printer.put.Goals as goal

pub returns-clause-puts : goal.returns-clause-puts
returns-clause-puts g c = put_text _ _ c.put_all.result _ _ c.args.text.now c.if-broken.false c.is_err.ensures.value c.put_all.ensures.ok c.put_all.ensures.err
