use Rattle.std.proofs.Common.{◌≡◌, ℕ, Bool, inl, subst, sym}
use Rattle.std.specs.Prelude.{Result, Ok, Err, OnErr, IsTrue}
use Rattle.n41_core.specs.State.{State}
use Rattle.n41_desk.specs.Lines.{StaysQuiet}
use Rattle.n41_desk.specs.Steps.{IsNoted}
use Rattle.n41_desk.proofs.Acted.{counts_still}
use Rattle.n41_desk.proofs.Lined.{counts_then}
use Rattle.n41_desk.proofs.Held.{acted_owner, acted_given, noted_owner, noted_lines, noted_counts, noted_then, takes_turn}
use Rattle.n41_desk.proofs.desk.Desk.turn.Goals as goal

nothing_noted : {T E : Type 0} (r : Result T E) (old new : State) → new ≡ old → OnErr r (IsNoted old new)
nothing_noted (Ok t) old new e = tt
nothing_noted (Err x) old new e = inl e

pub note-requires : goal.note-requires
note-requires g c = c.requires.holds.all_given

pub returns-in_err-note-clause-err : goal.returns-in_err-note-clause-err
returns-in_err-note-clause-err g c = nothing_noted c.from_residual.result c.args.self.now.core c.note.new.core c.in_err-note.ensures.err

pub returns-in_err-note-clause-counts : goal.returns-in_err-note-clause-counts
returns-in_err-note-clause-counts g c = counts_still c.args.self.now.core c.note.new.core _ c.in_err-note.ensures.err

pub returns-in_err-note-clause-holds : goal.returns-in_err-note-clause-holds
returns-in_err-note-clause-holds g c =
    let h = c.requires.holds in
    record { owner = rw c.in_err-note.ensures.err h.owner; lines = rw c.in_err-note.ensures.err h.lines; all_given = c.note.ensures.given }

pub act-requires-clause-owner : goal.act-requires-clause-owner
act-requires-clause-owner g c κs within =
    let n = c.in_ok-note.ensures.notes in
    noted_owner c.args.self.now.core c.note.new.core n.0 n.1 n.2 c.requires.holds.owner

pub act-requires-clause-lines : goal.act-requires-clause-lines
act-requires-clause-lines g c κs within =
    let n = c.in_ok-note.ensures.notes in
    noted_lines c.args.self.now.core c.note.new.core n.0 n.1 c.args.self.now.lines.ended.items c.args.self.now.lines.wire n.2 c.requires.holds.lines

pub returns-clause-ok : goal.returns-clause-ok
returns-clause-ok g c =
    let n = c.in_ok-note.ensures.notes in
    takes_turn c.act.result (StaysQuiet c.args.self.now.lines.wire c.act.new.lines.wire) c.args.self.now.core c.note.new.core c.act.new.core n.0 n.1 c.wants-want.result n.2 c.wants-want.ensures c.act.ensures.acts

pub returns-clause-err : goal.returns-clause-err
returns-clause-err g c =
    let n = c.in_ok-note.ensures.notes in
    noted_then c.act.result c.args.self.now.core c.note.new.core c.act.new.core n.0 n.1 n.2 c.act.ensures.err

pub returns-clause-counts : goal.returns-clause-counts
returns-clause-counts g c =
    let n = c.in_ok-note.ensures.notes in
    let before = g.D.Dialer.faults c.args.self.now.dialer in
    counts_then c.args.self.now.core.events c.note.new.core.events c.act.new.core.events before before (g.D.Dialer.faults c.act.new.dialer)
    (noted_counts c.args.self.now.core c.note.new.core n.0 n.1 before n.2) c.act.ensures.counts

pub returns-clause-holds : goal.returns-clause-holds
returns-clause-holds g c =
    let n = c.in_ok-note.ensures.notes in
    let a = c.act.ensures in
    let q = StaysQuiet c.args.self.now.lines.wire c.act.new.lines.wire in
    record {
      owner = acted_owner c.act.result q c.note.new.core c.act.new.core c.wants-want.result a.acts a.err (noted_owner c.args.self.now.core c.note.new.core n.0 n.1 n.2 c.requires.holds.owner);
      lines = a.lines;
      all_given = acted_given c.act.result q (g.C.Clock.given c.note.new.clock) (g.C.Clock.given c.act.new.clock) c.note.new.core c.act.new.core c.wants-want.result a.given a.acts a.err c.note.ensures.given;
    }

pub returns-in_err-note-clause-keeps : goal.returns-in_err-note-clause-keeps
returns-in_err-note-clause-keeps g c = c.note.ensures.keeps

pub returns-clause-keeps : goal.returns-clause-keeps
returns-clause-keeps g c = λ m h. subst (λ (f : ℕ → Bool). IsTrue (f m)) (sym c.act.ensures.given) (c.note.ensures.keeps m h)
