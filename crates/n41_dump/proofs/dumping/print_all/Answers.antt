use Rattle.std.proofs.Common.{◌∙◌, ◌++◌, [], sym, refl, take, arith, false}
use Rattle.std.proofs.lemmas.Result.{err_from_is_err_and}
use Rattle.n41_dump.proofs.Printing.{gave_none, gave_more, raises_none, raises_counts, started, stands_begun}
use Rattle.n41_dump.proofs.Finished.{stopped, piece_fits, begun_at}
use Rattle.n41_dump.proofs.dumping.print_all.Goals as goal

pub returns-in_err-n-clause-prints : goal.returns-in_err-n-clause-prints
returns-in_err-n-clause-prints g c =
    let p = err_from_is_err_and c.from_residual.result c.from_residual.ensures.1 in
    let so_far = c.pieces.invariant.stream in
    rw (p.1, p.2) (stopped (Unit {0}) c.in_err-n.field-0.0 c.args.printer.now.side c.pieces.printer so_far.0 _ _ _ _ _ c.read_piece.new.room c.pieces.came c.read_piece.new.came so_far.1 so_far.2
    (begun_at _ _ so_far.0 _ _ c.pieces.invariant.side (stands_begun c.pieces.printer so_far.0 _ _ so_far.3)) c.in_err-n.ensures.reads)

pub pieces-init : goal.pieces-init
pieces-init g c = record {
  stream = ([], gave_none _, refl, started c.args.printer.now _ c.requires.started);
  within = omega arith;
  waiting = rw c.requires.started.fed refl;
  side = refl;
  read = omega arith;
  write = rw c.requires.started.whole (raises_none false _);
}

pub pieces-preserved : goal.pieces-preserved
pieces-preserved g c =
    let so_far = c.pieces.invariant.stream in
    let reads = c.in_ok-n.ensures.reads in
    record {
      stream = (
        so_far.0 ++ take c.in_ok-n.n c.read_piece.new.room,
        gave_more _ _ _ so_far.0 (take c.in_ok-n.n c.read_piece.new.room) so_far.1 reads.1,
        sym (piece_fits so_far.0 c.read_piece.new.room (take c.in_ok-n.n c.read_piece.new.room) c.in_ok-n.n c.pieces.came c.read_piece.new.came so_far.2 reads.0 refl reads.3),
        c.in-Ok.ensures.steps so_far.0 _ so_far.3,
      );
      within = reads.4;
      waiting = c.in-Ok.ensures.none;
      side = c.take.ensures.same ∙ c.pieces.invariant.side;
      read = omega (arith, c.pieces.invariant.read, c.read_piece.ensures.cause.later);
      write = raises_counts _ _ _ _ _ c.pieces.invariant.write c.take.ensures.raises;
    }

pub returns-in-Err-clause-prints : goal.returns-in-Err-clause-prints
returns-in-Err-clause-prints g c =
    let so_far = c.pieces.invariant.stream in
    record {
      stream = so_far.0 ++ take c.in_ok-n.n c.read_piece.new.room;
      gave = gave_more _ _ _ so_far.0 (take c.in_ok-n.n c.read_piece.new.room) so_far.1 c.in_ok-n.ensures.reads.1;
      begun = begun_at _ _ _ _ _ (c.take.ensures.same ∙ c.pieces.invariant.side) (c.in-Err.ensures.steps so_far.0 _ so_far.3);
    }
