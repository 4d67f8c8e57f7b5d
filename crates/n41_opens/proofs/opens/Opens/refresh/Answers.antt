use Rattle.std.proofs.Common.{List, ℕ, sym, subst}
use Rattle.n41_opens.specs.declared.handles.Open.{Open}
use Rattle.n41_opens.specs.Inside.{AreFrom}
use Rattle.n41_opens.proofs.Moves.{moved_from}
use Rattle.n41_opens.proofs.opens.Opens.refresh.Goals as goal

pub settle-requires-clause-from : goal.settle-requires-clause-from
settle-requires-clause-from c =
    let f : AreFrom c.in_ok-next.next.entries c.self.inside.handles.entries c.in_ok-id.id = subst (λ (x : List (ℕ × Open)). AreFrom x c.self.inside.handles.entries c.in_ok-id.id) (sym c.in_ok-next.ensures) (moved_from c.self.inside.handles.entries c.in_ok-id.id) in
    rw (← c.self.view_is) f
