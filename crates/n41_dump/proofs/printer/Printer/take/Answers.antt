use Rattle.std.proofs.Common.{◌++◌, refl}
use Rattle.n41_dump.proofs.Printing.{stands_fed, begun_fed}
use Rattle.n41_dump.proofs.printer.Printer.take.Goals as goal

pub returns-in-Err-NoMemory-clause-steps : goal.returns-in-Err-NoMemory-clause-steps
returns-in-Err-NoMemory-clause-steps g c =
    λ stream start s. begun_fed c.args.self.now c.feed.new.self stream c.args.piece.now start _ s c.feed.ensures.fed c.feed.ensures.later c.feed.ensures.given c.feed.ensures.stands

pub print_waiting-requires : goal.print_waiting-requires
print_waiting-requires g c = (
  c.requires.0 ++ c.args.piece.now,
  c.requires.1,
  stands_fed c.args.self.now _ c.requires.0 c.args.piece.now c.requires.1 _ c.requires.2 c.feed.ensures.fed c.feed.ensures.later c.feed.ensures.given c.feed.ensures.stands refl refl refl,
  c.requires.3,
)

pub returns-clause-steps : goal.returns-clause-steps
returns-clause-steps g c =
    λ stream start s.
    c.print_waiting.ensures.steps (stream ++ c.args.piece.now) start
    (stands_fed c.args.self.now _ stream c.args.piece.now start _ s c.feed.ensures.fed c.feed.ensures.later c.feed.ensures.given c.feed.ensures.stands refl refl refl)
