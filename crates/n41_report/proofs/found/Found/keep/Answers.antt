use Rattle.std.proofs.Common.{◌≡◌, ◌∙◌, ap, ℕ, Bor}
use Rattle.std.specs.Option.{option_map}
use Rattle.n41_types.specs.declared.commands.Answer.{Answer}
use Rattle.n41_report.proofs.Kept.{map_cond}
use Rattle.n41_report.proofs.found.Found.keep.Goals as goal

pub returns : goal.returns
returns c = λ d n. ap (option_map (λ (a : Bor Answer). a.now)) (c.in_ok-insert.ensures.updates.0 (record { caller = d; number = n })) ∙ map_cond (λ (a : Bor Answer). a.now) _ _ _
