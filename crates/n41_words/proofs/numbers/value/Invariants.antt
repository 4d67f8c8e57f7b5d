use Rattle.std.proofs.Common.{◌≡◌, ◌≤◌, true, length}
use Rattle.std.specs.List.{list_all}
use Rattle.n41_words.specs.Numbers.{is_digit, spelled}
use Rattle.n41_words.proofs.numbers.value.Given as goal

abbrev pub invariant-loop-left : goal.invariant-loop-left
invariant-loop-left l = record {
  same : spelled l.base l.value l.left ≡ spelled l.base 0 l.digits;
  digits : list_all (is_digit l.base) l.left ≡ true;
  within : l.value ≤ l.most;
}

abbrev pub decreases-loop-left : goal.decreases-loop-left
decreases-loop-left l = length l.left
