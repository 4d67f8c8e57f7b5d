-- A line without the word at its end.
use Rattle.std.proofs.Common.{◌≡◌, ◌-◌, ℕ, List, [], length, take, reverse, Some, None, arith, refl}
use Rattle.std.specs.List.{position, position_or_len}
use Rattle.std.proofs.lemmas.List.{length-reverse}
use Rattle.n41_words.specs.Lines.{is_space}
use Rattle.n41_words.proofs.Places.{at_place, no_place}
use Rattle.n41_script.specs.Lines.{to_last_space}

pub before_last_space : (text : List ℕ) (k : ℕ) → position is_space (reverse text) ≡ Some k → take (length text - k) text ≡ to_last_space text
before_last_space text k e = let h = at_place is_space (reverse text) k e in rw (h.0) refl

pub all_one_word : (text : List ℕ) → position is_space (reverse text) ≡ None → [] ≡ to_last_space text
all_one_word text e =
    let h = no_place is_space (reverse text) e in
    let z : length text - position_or_len is_space (reverse text) ≡ 0 = omega (arith, h, length-reverse text) in
    rw z refl
