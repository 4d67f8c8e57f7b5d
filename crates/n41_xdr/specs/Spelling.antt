-- How the basic types are written (RFC 4506): in units of four bytes, big-endian.
use Rattle.std.specs.Prelude.{ℕ, ◌-◌, ◌%◌, List, [], ◌∷◌, ◌++◌, length, take, Bool, true, false}
use Rattle.std.specs.Int.{w32, w64, to_be_bytes}

-- how many zeros fill n bytes to a multiple of four (section 3)
abbrev pub fill_len : ℕ → ℕ
fill_len n = (4 - n % 4) % 4

abbrev pub fill : ℕ → List ℕ
fill n = take (fill_len n) (0 ∷ 0 ∷ 0 ∷ [])

-- unsigned integer (section 4.2)
unfoldable pub word : ℕ → List ℕ
word n = to_be_bytes w32 n

-- unsigned hyper integer (section 4.5)
unfoldable pub hyper : ℕ → List ℕ
hyper n = to_be_bytes w64 n

-- section 4.4
unfoldable pub boolean : Bool → List ℕ
boolean false = word 0
boolean true = word 1

-- fixed-length opaque data: the bytes and their fill (section 4.9)
unfoldable pub fixed : List ℕ → List ℕ
fixed bytes = bytes ++ fill (length bytes)

-- variable-length opaque data: the length, the bytes and their fill (section 4.10)
unfoldable pub opaque : List ℕ → List ℕ
opaque bytes = word (length bytes) ++ fixed bytes
