-- What is known of bytes that were written bit by bit.
use Rattle.std.proofs.Common.{◌≡◌, ◌+◌, ◌∙◌, ap, sym, ℕ, List, ◌++◌, length, drop, take, append_assoc, take-add, Some, None, refl}
use Rattle.std.specs.declared.option.Option.{Option}
use Rattle.std.specs.Io.KnownBytes.{append_known}
use Rattle.std.proofs.Math.Seq.{drop-append_seam, take-append-add, take-length}
use Rattle.n41_link.specs.Flow.{KnownAs}

pub known_same : (old new : Option (List ℕ)) (xs : List ℕ) → new ≡ old → KnownAs old xs → KnownAs new xs
known_same old new xs e k = λ ys told. k ys (sym e ∙ told)

pub known_as : (known : Option (List ℕ)) (xs ys : List ℕ) → xs ≡ ys → KnownAs known xs → KnownAs known ys
known_as known xs ys e k = λ zs told. k zs told ∙ e

-- known bytes that grow by a piece
pub known_grows : (old new : Option (List ℕ)) (xs piece : List ℕ) → new ≡ append_known old piece → KnownAs old xs → KnownAs new (xs ++ piece)
known_grows None new xs piece e k = λ ys told. cc (e, told)
known_grows (Some zs) new xs piece e k = λ ys told. cc (e, told, k zs refl)

-- a piece behind a front is a longer front
pub front_grows : (xs text : List ℕ) (done n : ℕ) → (xs ++ take done text) ++ take n (drop done text) ≡ xs ++ take (done + n) text
front_grows xs text done n = append_assoc xs (take done text) (take n (drop done text)) ∙ ap (λ t. xs ++ t) (sym (take-add done n text))

pub known_front : (old new : Option (List ℕ)) (xs text rest : List ℕ) (done n : ℕ) → rest ≡ drop done text → new ≡ append_known old (take n rest) → KnownAs old (xs ++ take done text) → KnownAs new (xs ++ take (done + n) text)
known_front old new xs text rest done n er e k =
    known_as new _ _ (ap (λ t. (xs ++ take done text) ++ take n t) er ∙ front_grows xs text done n) (known_grows old new _ (take n rest) e k)

-- the rest of a log from where its last text began
pub rest_is_text : (old text now rest : List ℕ) (start : ℕ) → start ≡ length old → now ≡ old ++ text → rest ≡ drop start now → rest ≡ text
rest_is_text old text now rest start es en er = er ∙ ap (λ n. drop n now) es ∙ ap (drop (length old)) en ∙ drop-append_seam old text

-- a part of the last text
pub part_of_text : (old text now : List ℕ) (start n : ℕ) → start ≡ length old → now ≡ old ++ text → take (start + n) now ≡ old ++ take n text
part_of_text old text now start n es en = ap (λ k. take (k + n) now) es ∙ ap (take (length old + n)) en ∙ take-append-add old text n

pub take_all : (xs : List ℕ) (n : ℕ) → n ≡ length xs → take n xs ≡ xs
take_all xs n e = ap (λ k. take k xs) e ∙ take-length xs
