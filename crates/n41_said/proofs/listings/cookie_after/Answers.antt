use Rattle.std.proofs.Common.{◌∙◌, ap}
use Rattle.n41_said.proofs.Cookies.{cookie_at, cookie_last}
use Rattle.n41_said.proofs.listings.cookie_after.Goals as goal

pub returns-in-Some : goal.returns-in-Some
returns-in-Some c = ap (cookie_at c.args.cookie) c.in-Some.ensures.value ∙ cookie_last c.args.cookie c.args.entries.now
