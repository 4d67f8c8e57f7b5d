use Rattle.std.proofs.Common.{refl}
use Rattle.n41_check.specs.Rows.{took_row}
use Rattle.n41_check.proofs.Knowing.{knows_took, rows_with}
use Rattle.n41_check.proofs.requests.Requests.took.Goals as goal

pub returns : goal.returns
returns c = λ n js d p k e. knows_took n js d p c.args.reply.now c.args.makes c.args.self.now _ (λ x. refl) (rows_with c.args.self.now.slots (took_row c.args.makes c.args.reply.now) c.deref_mut.result.now c.took_slots.new.slots c.deref_mut.ensures.value c.took_slots.ensures) k e
