-- Bitmaps of attribute numbers (RFC 8881, bitmap4).
use Rattle.std.specs.Prelude.{ℕ, zero, suc, ◌+◌, ◌*◌, ◌/◌, ◌%◌, ◌==◌, ◌&&◌, ◌||◌, not, List, length, Bool, Option, Some, None, slice_index, if◌then◌else◌}
use Rattle.std.specs.Int.{bit_at}
use Rattle.n41_xdr.specs.declared.fault.XdrFault.{XdrFault}
use Rattle.n41_xdr.specs.Format.{Format, list, word}

-- an array of words
unfoldable pub bitmap : Format XdrFault (List ℕ)
bitmap = list (λ f. f) word

-- attribute n is bit n mod 32 of word n div 32; where there is no such word it is not in the bitmap
abbrev pub has : List ℕ → ℕ → Bool
has mask n = bit_at (slice_index mask (n / 32)) (n % 32) == 1

-- type, change, size, lease_time, fileid and mode
abbrev pub is_known : ℕ → Bool
is_known n = n == 1 || n == 3 || n == 4 || n == 10 || n == 20 || n == 33

-- the least of the k numbers from n on that passes the test
abbrev pub least : (ℕ → Bool) → ℕ → ℕ → Option ℕ
least test n zero = None
least test n (suc k) = if test n then Some n else least test (n + 1) k

abbrev pub is_unknown : List ℕ → ℕ → Bool
is_unknown mask n = has mask n && not (is_known n)

-- the least attribute of the bitmap that is not known
abbrev pub least_unknown : List ℕ → Option ℕ
least_unknown mask = least (is_unknown mask) 0 (32 * length mask)
