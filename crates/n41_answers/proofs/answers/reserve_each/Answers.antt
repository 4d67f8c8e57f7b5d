use Rattle.std.proofs.Common.{◌≤◌, ℕ, map, get_or, ◌∙◌, arith, below_more, ◌≤◌}
use Rattle.std.proofs.Math.ListN.{set}
use Rattle.n41_answers.specs.Index.{room_of}
use Rattle.n41_answers.proofs.Rows.{places_kept, room_grows, room_made}
use Rattle.n41_answers.proofs.answers.reserve_each.Goals as goal

pub returns-in_err-reserve-clause-more : goal.returns-in_err-reserve-clause-more
returns-in_err-reserve-clause-more c = λ d. (let l = c.loop-row.invariant.more d in
    let m = room_grows c.loop-row.rows c.loop-row.row-index c.row-item.result c.reserve.new.self d c.reserve.ensures.more in
    omega (arith, l, m))

pub returns-in_err-reserve-clause-places : goal.returns-in_err-reserve-clause-places
returns-in_err-reserve-clause-places c = places_kept c.loop-row.rows c.loop-row.row-index c.row-item.result c.reserve.new.self c.reserve.ensures.places ∙ c.loop-row.invariant.places

pub loop-row-preserved : goal.loop-row-preserved
loop-row-preserved c =
    let rows = c.loop-row.rows in
    let i = c.loop-row.row-index in
    let s = c.reserve.new.self in
    let grows : (d : ℕ) → get_or (map room_of rows) d 0 ≤ get_or (map room_of (set rows i s)) d 0 = λ d. room_grows rows i c.row-item.result s d c.reserve.ensures.more in
    record {
      filled = below_more _ _
          (λ d l. (let a = c.loop-row.invariant.filled d l in let b = grows d in omega (arith, a, b)))
          (room_made rows i s (omega arith) c.in_ok-reserve.ensures.ok);
      more = λ d. (let a = c.loop-row.invariant.more d in let b = grows d in omega (arith, a, b));
      places = places_kept rows i c.row-item.result s c.reserve.ensures.places ∙ c.loop-row.invariant.places;
    }
