-- Words that stand in a line, with one space between two of them.
use Rattle.std.proofs.Common.{◌≡◌, ℕ, true, false, List, [], ◌∷◌, ◌++◌, refl, inl, inr}
use Rattle.std.specs.List.{list_any}
use Rattle.std.proofs.lemmas.Bool.{cases_Bool, or_parts, or_from}
use Rattle.n41_words.specs.Lines.{onto_first, words, is_space, word_begins, is_empty}
use Rattle.n41_words.specs.Words.{has_control}
use Rattle.n41_written.specs.Written.{◌·◌}

-- a word as it stands in a line
pub record IsWord (w : List ℕ) : Type 0 where
  pub filled : is_empty w ≡ false
  pub whole : list_any is_space w ≡ false

-- one that no command is refused for
pub record IsPlain (w : List ℕ) : Type 0 where
  pub word : IsWord w
  pub plain : has_control w ≡ false

abbrev pub AreWords : List (List ℕ) → Type 0
AreWords [] = Unit {0}
AreWords (w ∷ ws) = IsWord w × AreWords ws

-- ---- the words of a line

grown : (b : ℕ) (ws : List (List ℕ)) → is_space b ≡ false → AreWords ws → AreWords (onto_first b ws)
grown b [] e h = (record { filled = refl; whole = or_from (is_space b) false e refl }, tt)
grown b (w ∷ ws) e h = (record { filled = refl; whole = or_from (is_space b) (list_any is_space w) e h.0.whole }, h.1)

pub are_words : (line : List ℕ) → AreWords (words line)
are_words [] = tt
are_words (b ∷ text) = elim (cases_Bool (is_space b)) [
  | inl e ↦ rw e (are_words text)
  | inr e ↦ elim (cases_Bool (word_begins text)) [
    | inl t ↦ rw (e, t) (grown b (words text) e (are_words text))
    | inr t ↦ rw (e, t) (record { filled = refl; whole = or_from (is_space b) false e refl }, are_words text)
  ]
]

-- ---- the words of what is written

begins : (c : ℕ) (cs : List ℕ) → is_space c ≡ false → word_begins (c ∷ cs) ≡ true
begins c cs e = rw e refl

pub last_words : (w : List ℕ) → IsWord w → words w ≡ w ∷ []
last_words [] h = absurd (let f = h.filled in cc)
last_words (b ∷ []) h = let e = (or_parts (is_space b) false h.whole).0 in rw e refl
last_words (b ∷ c ∷ cs) h =
    let e = or_parts (is_space b) (list_any is_space (c ∷ cs)) h.whole in
    let f = begins c cs (or_parts (is_space c) (list_any is_space cs) e.1).0 in
    rw (e.0, f, last_words (c ∷ cs) (record { filled = refl; whole = e.1 })) refl

pub first_words : (w rest : List ℕ) → IsWord w → words (w · rest) ≡ w ∷ words rest
first_words [] rest h = absurd (let f = h.filled in cc)
first_words (b ∷ []) rest h = let e = (or_parts (is_space b) false h.whole).0 in rw e refl
first_words (b ∷ c ∷ cs) rest h =
    let e = or_parts (is_space b) (list_any is_space (c ∷ cs)) h.whole in
    let f = begins c (cs ++ 32 ∷ rest) (or_parts (is_space c) (list_any is_space cs) e.1).0 in
    rw (e.0, f, first_words (c ∷ cs) rest (record { filled = refl; whole = e.1 })) refl
