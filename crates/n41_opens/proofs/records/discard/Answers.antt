use Rattle.std.proofs.Common.{sym, ◌∙◌, ap, option_copied}
use Rattle.n41_opens.proofs.Steps.{discard_absent}
use Rattle.n41_opens.proofs.records.discard.Goals as goal

pub returns-in_default : goal.returns-in_default
returns-in_default c = discard_absent c.args.records.now.entries c.args.id.now (sym c.get.ensures.value ∙ ap (λ o. option_copied o) c.in_default.is)
