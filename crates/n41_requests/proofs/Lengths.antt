-- How long spellings are.
use Rattle.std.proofs.Common.{◌≡◌, ℕ, List, [], ◌∷◌, ◌++◌, length, length-append, refl, arith}
use Rattle.n41_xdr.specs.Spelling as spelling
use Rattle.n41_rpc.specs.Heads.{system, system_of}

pub word_length : (n : ℕ) → length (spelling.word n) ≡ 4
unfolding spelling.word
word_length n = refl

pub hyper_length : (n : ℕ) → length (spelling.hyper n) ≡ 8
unfolding spelling.hyper
hyper_length n = refl

name_length : length (spelling.opaque (110 ∷ 52 ∷ 49 ∷ [])) ≡ 8
unfolding spelling.opaque spelling.fixed spelling.word
name_length = refl

pub system_length : (uid gid : ℕ) → length (system.spell (system_of uid gid)) ≡ 24
unfolding system
system_length uid gid =
    let last : List ℕ = spelling.word gid ++ (spelling.word 0 ++ []) in
    let ids : List ℕ = spelling.word uid ++ last in
    omega (
      arith,
      length-append (spelling.word 0) (spelling.opaque (110 ∷ 52 ∷ 49 ∷ []) ++ ids),
      length-append (spelling.opaque (110 ∷ 52 ∷ 49 ∷ [])) ids,
      length-append (spelling.word uid) last,
      length-append (spelling.word gid) (spelling.word 0 ++ []),
      length-append (spelling.word 0) [],
      word_length 0,
      word_length uid,
      word_length gid,
      name_length,
    )
