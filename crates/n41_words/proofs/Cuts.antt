-- The first line and the first word of a text.
use Rattle.std.proofs.Common.{◌≡◌, ◌<◌, ◌≤◌, ◌+◌, ◌==◌, not, ℕ, suc, true, false, List, [], ◌∷◌, length, take, drop, Some, None, arith, refl, inl, inr, ap, ◌∙◌}
use Rattle.std.specs.List.{position, position_or_len}
use Rattle.std.proofs.lemmas.Bool.{cases_Bool}
use Rattle.std.proofs.lemmas.List.{take_all, drop_all}
use Rattle.n41_words.specs.Lines.{lines, words, is_space, word_begins}
use Rattle.n41_words.proofs.Places.{at_place, no_place}

-- ---- lines

-- the place of the first line end, or the length
abbrev end_at : List ℕ → ℕ
end_at text = position_or_len (λ b. b == 10) text

end_here : (b : ℕ) (bs : List ℕ) → (b == 10) ≡ true → end_at (b ∷ bs) ≡ 0
end_here b bs e = rw e refl

end_later : (b : ℕ) (bs : List ℕ) → (b == 10) ≡ false → end_at (b ∷ bs) ≡ 1 + end_at bs
end_later b bs e = rw e refl

begun : (b : ℕ) (bs : List ℕ) (n k i : ℕ) → (b == 10) ≡ false → k ≡ suc n → i ≡ suc (n + 1) → lines bs ≡ take n bs ∷ lines (drop (n + 1) bs) → lines (b ∷ bs) ≡ take k (b ∷ bs) ∷ lines (drop i (b ∷ bs))
begun b bs n k i e f g h = rw (e, f, g, h) refl

line_cut : (text : List ℕ) → end_at text < length text → lines text ≡ take (end_at text) text ∷ lines (drop (end_at text + 1) text)
line_cut [] l = absurd (omega (arith, l))
line_cut (b ∷ bs) l = elim (cases_Bool (b == 10)) [
  | inl e ↦ rw e refl
  | inr e ↦
      let f = end_later b bs e in
      begun b bs (end_at bs) (end_at (b ∷ bs)) (end_at (b ∷ bs) + 1) e (omega (arith, f)) (omega (arith, f)) (line_cut bs (omega (arith, l, f)))
]

whole_line : (b : ℕ) (bs : List ℕ) → length (b ∷ bs) ≤ end_at (b ∷ bs) → lines (b ∷ bs) ≡ (b ∷ bs) ∷ []
whole_line b [] l = elim (cases_Bool (b == 10)) [
  | inl e ↦ let f = end_here b [] e in absurd (omega (arith, l, f))
  | inr e ↦ rw e refl
]
whole_line b (c ∷ cs) l = elim (cases_Bool (b == 10)) [
  | inl e ↦ let f = end_here b (c ∷ cs) e in absurd (omega (arith, l, f))
  | inr e ↦ let f = end_later b (c ∷ cs) e in rw (e, whole_line c cs (omega (arith, l, f))) refl
]

pub line_ends : (text : List ℕ) (k : ℕ) → position (λ b. b == 10) text ≡ Some k → lines text ≡ take k text ∷ lines (drop (k + 1) text)
line_ends text k e = let h = at_place (λ b. b == 10) text k e in rw (h.0) (line_cut text h.1)

pub line_is_last : (text : List ℕ) → (length text == 0) ≡ false → position (λ b. b == 10) text ≡ None → lines text ≡ text ∷ []
line_is_last [] f e = absurd cc
line_is_last (b ∷ bs) f e = whole_line b bs (no_place (λ b. b == 10) (b ∷ bs) e)

-- ---- words

-- the place of the first byte of a word, or the length
abbrev word_at : List ℕ → ℕ
word_at text = position_or_len (λ b. not (is_space b)) text

-- the place of the first space, or the length
abbrev space_at : List ℕ → ℕ
space_at text = position_or_len is_space text

before_word : (b : ℕ) (bs : List ℕ) → is_space b ≡ true → word_at (b ∷ bs) ≡ 1 + word_at bs
before_word b bs e = rw e refl

at_word : (b : ℕ) (bs : List ℕ) → is_space b ≡ false → word_at (b ∷ bs) ≡ 0
at_word b bs e = rw e refl

passed : (b : ℕ) (bs : List ℕ) (n k : ℕ) → is_space b ≡ true → k ≡ suc n → words bs ≡ words (drop n bs) → words (b ∷ bs) ≡ words (drop k (b ∷ bs))
passed b bs n k e f h = rw (e, f) h

skipped : (text : List ℕ) → words text ≡ words (drop (word_at text) text)
skipped [] = refl
skipped (b ∷ bs) = elim (cases_Bool (is_space b)) [
  | inl e ↦ let f = before_word b bs e in passed b bs (word_at bs) (word_at (b ∷ bs)) e (omega (arith, f)) (skipped bs)
  | inr e ↦ let f = at_word b bs e in rw f refl
]

begins : (text : List ℕ) → word_at text < length text → word_begins (drop (word_at text) text) ≡ true
begins [] l = absurd (omega (arith, l))
begins (b ∷ bs) l = elim (cases_Bool (is_space b)) [
  | inl e ↦ let f = before_word b bs e in later b bs (word_at bs) (word_at (b ∷ bs)) (omega (arith, f)) (begins bs (omega (arith, l, f)))
  | inr e ↦ let f = at_word b bs e in rw (f, e) refl
] where
  later : (b : ℕ) (bs : List ℕ) (n k : ℕ) → k ≡ suc n → word_begins (drop n bs) ≡ true → word_begins (drop k (b ∷ bs)) ≡ true
  later b bs n k f h = rw f h

pub behind_spaces : (text : List ℕ) (k : ℕ) → position (λ b. not (is_space b)) text ≡ Some k → words text ≡ words (drop k text)
behind_spaces text k e = let h = at_place (λ b. not (is_space b)) text k e in rw (h.0) (skipped text)

pub word_there : (text : List ℕ) (k : ℕ) → position (λ b. not (is_space b)) text ≡ Some k → word_begins (drop k text) ≡ true
word_there text k e = let h = at_place (λ b. not (is_space b)) text k e in rw (h.0) (begins text h.1)

pub place_within : (text : List ℕ) (k : ℕ) → position (λ b. not (is_space b)) text ≡ Some k → k ≤ length text
place_within text k e = let h = at_place (λ b. not (is_space b)) text k e in omega (arith, h.0, h.1)

pub no_words : (text : List ℕ) → position (λ b. not (is_space b)) text ≡ None → words text ≡ []
no_words text e = skipped text ∙ ap words (drop_all (word_at text) text (no_place (λ b. not (is_space b)) text e))

space_later : (b : ℕ) (bs : List ℕ) → is_space b ≡ false → space_at (b ∷ bs) ≡ 1 + space_at bs
space_later b bs e = rw e refl

no_word_here : (bs : List ℕ) → word_begins bs ≡ false → space_at bs ≡ 0
no_word_here [] e = refl
no_word_here (b ∷ bs) e = let f : is_space b ≡ true = grind (arith, e) in rw f refl

grown : (b : ℕ) (bs : List ℕ) (n k : ℕ) → is_space b ≡ false → word_begins bs ≡ true → k ≡ suc n → words bs ≡ take n bs ∷ words (drop n bs) → words (b ∷ bs) ≡ take k (b ∷ bs) ∷ words (drop k (b ∷ bs))
grown b bs n k e t f h = rw (e, t, f, h) refl

lone : (b : ℕ) (bs : List ℕ) (k : ℕ) → is_space b ≡ false → word_begins bs ≡ false → k ≡ 1 → words (b ∷ bs) ≡ take k (b ∷ bs) ∷ words (drop k (b ∷ bs))
lone b bs k e t f = rw (e, t, f) refl

word_cut : (text : List ℕ) → word_begins text ≡ true → words text ≡ take (space_at text) text ∷ words (drop (space_at text) text)
word_cut [] w = absurd cc
word_cut (b ∷ bs) w =
    let e : is_space b ≡ false = grind (arith, w) in
    let f = space_later b bs e in
    elim (cases_Bool (word_begins bs)) [
      | inl t ↦ grown b bs (space_at bs) (space_at (b ∷ bs)) e t (omega (arith, f)) (word_cut bs t)
      | inr t ↦ let z = no_word_here bs t in lone b bs (space_at (b ∷ bs)) e t (omega (arith, f, z))
    ]

pub word_ends : (text : List ℕ) (k : ℕ) → word_begins text ≡ true → position is_space text ≡ Some k → words text ≡ take k text ∷ words (drop k text)
word_ends text k w e = let h = at_place is_space text k e in rw (h.0) (word_cut text w)

pub word_is_last : (text : List ℕ) → word_begins text ≡ true → position is_space text ≡ None → words text ≡ text ∷ []
word_is_last text w e =
    let l = no_place is_space text e in
    word_cut text w ∙ rw (take_all (space_at text) text l, drop_all (space_at text) text l) refl
