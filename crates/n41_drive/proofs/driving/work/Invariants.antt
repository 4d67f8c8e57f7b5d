use Rattle.std.proofs.Common.{◌≡◌, ℕ, List, length}
use Rattle.n41_journal.specs.declared.events.Event.{Event}
use Rattle.n41_desk.specs.Desks.{Holds}
use Rattle.n41_desk.specs.Moments.{CountsDials, KeepsGiven}
use Rattle.n41_drive.specs.Drives.{Works}
use Rattle.n41_drive.proofs.driving.work.Given as goal

abbrev pub invariant-loop : goal.invariant-loop
invariant-loop g l =
    (goal.iterator-loop g).can_next l.iterator' × (goal.iterator-loop g).is_finite l.iterator' × record {
      holds : Holds g.C.Clock.given l.desk;
      size : length l.places ≡ length l.initial.places;
      works : Works l.desk.core l.lines l.places;
      setup : l.desk.core.setup ≡ l.initial.desk.core.setup;
      counts : (js : List Event) (n : ℕ) → CountsDials js l.initial.desk.core.events n (g.D.Dialer.faults l.initial.desk.dialer) → CountsDials js l.desk.core.events n (g.D.Dialer.faults l.desk.dialer);
      keeps : KeepsGiven (g.C.Clock.given l.initial.desk.clock) (g.C.Clock.given l.desk.clock);
      tells : g.C.Clock.tells l.desk.clock ≡ g.C.Clock.tells l.initial.desk.clock;
    }
