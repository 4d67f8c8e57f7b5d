-- Bytes that are written in hexadecimal are read back.
use Rattle.std.proofs.Common.{◌≡◌, ◌≢◌, ◌<◌, ℕ, false, List, [], ◌∷◌, length, Result, Ok, Err, arith, refl, ap}
use Rattle.hex.specs.Hex.{IsBytes, encode_lower, lower_digits, decode_of}
use Rattle.hex.specs.declared.error.FromHexError.{FromHexError}
use Rattle.hex.proofs.HexLemmas.{length-encode_with, decode_of-encode_lower, decode_of-ok}
use Rattle.n41_words.specs.Lines.{is_empty}
use Rattle.n41_words.specs.Numbers.{hex_bytes, of_hex}

is_some : (word : List ℕ) → 0 < length word → is_empty word ≡ false
is_some [] h = absurd (omega arith)
is_some (b ∷ bs) h = refl

some_length : (bytes : List ℕ) → bytes ≢ [] → 0 < length bytes
some_length [] h = absurd (h refl)
some_length (b ∷ bs) h = omega arith

pub bytes_read : (bytes : List ℕ) → IsBytes bytes → bytes ≢ [] → hex_bytes (encode_lower bytes) ≡ Ok bytes
bytes_read bytes h some =
    let long = length-encode_with lower_digits bytes in
    let filled = is_some (encode_lower bytes) (omega (arith, long, some_length bytes some)) in
    rw (filled, decode_of-encode_lower bytes h) refl

no_bytes : (bytes : List ℕ) → length bytes ≢ 0 → bytes ≢ []
no_bytes bytes h e = h (ap length e)

read_by : (word bytes : List ℕ) (r : Result (List ℕ) FromHexError) → decode_of word ≡ r → 0 < length word → of_hex r ≡ Ok bytes → IsBytes bytes × (bytes ≢ [])
read_by word bytes (Ok xs) e some h =
    let same : xs ≡ bytes = cc in
    let k = decode_of-ok word xs e in
    rw (← same) (k.3, no_bytes xs (λ z. omega (arith, k.2, z, some)))
read_by word bytes (Err f) e some h = absurd cc

pub bytes_some : (word bytes : List ℕ) → hex_bytes word ≡ Ok bytes → IsBytes bytes × (bytes ≢ [])
bytes_some [] bytes h = absurd cc
bytes_some (b ∷ bs) bytes h = read_by (b ∷ bs) bytes (decode_of (b ∷ bs)) refl (omega arith) h
