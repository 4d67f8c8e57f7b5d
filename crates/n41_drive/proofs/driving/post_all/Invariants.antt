use Rattle.std.proofs.Common.{◌≡◌, ◌<◌, ℕ, length, true}
use Rattle.n41_desk.specs.Desks.{Holds}
use Rattle.n41_desk.specs.Moments.{KeepsGiven}
use Rattle.n41_drive.specs.Drives.{AreBegun, IsFound, PostsOnly}
use Rattle.n41_drive.proofs.driving.post_all.Given as goal

abbrev pub invariant-loop-caller : goal.invariant-loop-caller
invariant-loop-caller g l = record {
  holds : Holds g.C.Clock.given l.desk;
  size : length l.places ≡ length l.initial.places;
  begun : AreBegun (length l.initial.places) l.desk.core.events l.lines l.places;
  posts : PostsOnly l.initial.desk.core l.desk.core;
  dialer : l.desk.dialer ≡ l.initial.desk.dialer;
  keeps : KeepsGiven (g.C.Clock.given l.initial.desk.clock) (g.C.Clock.given l.desk.clock);
  tells : g.C.Clock.tells l.desk.clock ≡ g.C.Clock.tells l.initial.desk.clock;
  found : l.all_done ≡ true → (c : ℕ) → c < l.caller → IsFound l.desk.core.events l.lines c;
}
