use Rattle.std.proofs.Common.{refl}
use Rattle.n41_check.specs.Rows.{broke_row}
use Rattle.n41_check.proofs.Knowing.{knows_broke, rows_with}
use Rattle.n41_check.proofs.requests.Requests.broke.Goals as goal

pub returns : goal.returns
returns c = λ n js d w k. knows_broke n js d w c.args.self.now _ (λ x. refl) (rows_with c.args.self.now.slots broke_row c.deref_mut.result.now c.broke_slots.new.slots c.deref_mut.ensures.value c.broke_slots.ensures) k
