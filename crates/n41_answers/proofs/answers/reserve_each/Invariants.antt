use Rattle.std.proofs.Common.{◌≡◌, ◌<◌, ◌≤◌, ℕ, map, get_or}
use Rattle.n41_answers.specs.Index.{places_of, room_of}
use Rattle.n41_answers.proofs.answers.reserve_each.Given as goal

abbrev pub invariant-loop-row : goal.invariant-loop-row
invariant-loop-row l = record {
  filled : (c : ℕ) → c < l.row-index → 0 < get_or (map room_of l.rows) c 0;
  more : (c : ℕ) → get_or (map room_of l.initial.rows) c 0 ≤ get_or (map room_of l.rows) c 0;
  places : map places_of l.rows ≡ map places_of l.initial.rows;
}
