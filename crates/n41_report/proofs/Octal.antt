-- A number is filled up with zeros to four digits.
use Rattle.std.proofs.Common.{◌≡◌, ◌-◌, ◌^◌, ℕ, List, [], length, false, arith, refl}
use Rattle.std.proofs.lemmas.List.{append-nil}
use Rattle.std.specs.Fmt.{padded_integral, format_spec, char_count}
use Rattle.n41_calls.specs.Text.{padded}

pub four_digits : (ds : List ℕ) → padded_integral (format_spec 32 0 4 4 (2 ^ 64 - 1)) false [] ds ≡ padded 4 ds
unfolding padded_integral char_count
four_digits ds = let z : 4 - length ds - 0 - 0 ≡ 4 - length ds = omega arith in rw (z, append-nil ds) refl
