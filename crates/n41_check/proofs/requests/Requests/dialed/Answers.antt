use Rattle.std.proofs.Common.{refl}
use Rattle.n41_check.specs.Rows.{dialed_row}
use Rattle.n41_check.proofs.Knowing.{knows_dialed, rows_with}
use Rattle.n41_check.proofs.requests.Requests.dialed.Goals as goal

pub returns : goal.returns
returns c = λ n js d k. knows_dialed n js d c.args.self.now _ (λ x. refl) (rows_with c.args.self.now.slots dialed_row c.deref_mut.result.now c.dialed_slots.new.slots c.deref_mut.ensures.value c.dialed_slots.ensures) k
