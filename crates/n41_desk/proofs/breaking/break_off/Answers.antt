use Rattle.n41_desk.proofs.Taken.{surely}
use Rattle.n41_desk.proofs.breaking.break_off.Goals as goal

pub returns-clause-broke : goal.returns-clause-broke
returns-clause-broke c = surely c.broke-broke.result c.broke-broke.ensures.no c.broke-broke.ensures.yes c.requires.stands
