-- Rows that are found by the number of their slot.
use Rattle.std.proofs.Common.{◌≡◌, ◌⊎◌, inl, inr, ℕ, ◌==◌, Bool, true, false, ◌||◌, List, [], ◌∷◌, ◌++◌, map, refl, sym, ◌∙◌, ap, arith}
use Rattle.std.proofs.lemmas.Bool.Decides.{nat_tests}
use Rattle.std.specs.List.{list_any}
use Rattle.n41_check.specs.Rows.{Row, row_at, blank, is_there, with_row, Apart}

-- a step that keeps the number of each row
abbrev pub KeepsNumbers : (Row → Row) → Type 0
KeepsNumbers f = (w : Row) → (f w).number ≡ w.number

number_at : (w : Row) (ws : List Row) (s : ℕ) (b : Bool) → (w.number == s) ≡ b → (row_at ws s).number ≡ s → (row_at (w ∷ ws) s).number ≡ s
number_at w ws s true e h = rw e (grind (arith, nat_tests, e))
number_at w ws s false e h = rw e h

pub row_number : (ws : List Row) (s : ℕ) → (row_at ws s).number ≡ s
row_number [] s = refl
row_number (w ∷ ws) s = number_at w ws s (w.number == s) refl (row_number ws s)

later_there : (w : Row) (ws : List Row) (s : ℕ) (f : Row → Row) → (w.number == s) ≡ false → (f (blank s) ≡ blank s) ⊎ (is_there (w ∷ ws) s ≡ true) → (f (blank s) ≡ blank s) ⊎ (is_there ws s ≡ true)
later_there w ws s f e (inl g) = inl g
later_there w ws s f e (inr g) = inr (grind (arith, nat_tests, e, g))

moved_at : (f : Row → Row) → KeepsNumbers f → (w : Row) (ws : List Row) (s : ℕ) (b : Bool) → (w.number == s) ≡ b → (b ≡ false → row_at (map f ws) s ≡ f (row_at ws s)) → row_at (map f (w ∷ ws)) s ≡ f (row_at (w ∷ ws) s)
moved_at f k w ws s true e h = let q : ((f w).number == s) ≡ true = ap (λ n. n == s) (k w) ∙ e in rw (q, e) refl
moved_at f k w ws s false e h = let q : ((f w).number == s) ≡ false = ap (λ n. n == s) (k w) ∙ e in rw (q, e) (h refl)

-- the row of a slot moves by the step, where it is there or a blank one is not moved
pub row_moved : (f : Row → Row) → KeepsNumbers f → (ws : List Row) (s : ℕ) → (f (blank s) ≡ blank s) ⊎ (is_there ws s ≡ true) → row_at (map f ws) s ≡ f (row_at ws s)
row_moved f k [] s (inl e) = sym e
row_moved f k [] s (inr e) = absurd (cc)
row_moved f k (w ∷ ws) s h = moved_at f k w ws s (w.number == s) refl (λ e. row_moved f k ws s (later_there w ws s f e h))

there_moved : (f : Row → Row) → KeepsNumbers f → (ws : List Row) (s : ℕ) → is_there (map f ws) s ≡ is_there ws s
there_moved f k [] s = refl
there_moved f k (w ∷ ws) s = rw (k w, there_moved f k ws s) refl

pub apart_moved : (f : Row → Row) → KeepsNumbers f → (ws : List Row) → Apart ws → Apart (map f ws)
apart_moved f k [] a = tt
apart_moved f k (w ∷ ws) a = (rw (k w, there_moved f k ws w.number) a.0, apart_moved f k ws a.1)

-- ---- a row more

there_last : (ws : List Row) (s t : ℕ) → is_there (ws ++ blank s ∷ []) t ≡ (is_there ws t || (s == t))
there_last [] s t = grind (arith, nat_tests)
there_last (w ∷ ws) s t = grind (arith, nat_tests, there_last ws s t)

row_last : (ws : List Row) (s t : ℕ) → row_at (ws ++ blank s ∷ []) t ≡ row_at ws t
row_last [] s t = at_test (s == t) refl where
  at_test : (b : Bool) → (s == t) ≡ b → row_at (blank s ∷ []) t ≡ blank t
  at_test true e = rw e (let q : s ≡ t = grind (arith, nat_tests, e) in ap blank q)
  at_test false e = rw e refl
row_last (w ∷ ws) s t = rw (row_last ws s t) refl

pub row_with : (ws : List Row) (s t : ℕ) → row_at (with_row s ws) t ≡ row_at ws t
row_with ws s t = at_test (is_there ws s) refl where
  at_test : (b : Bool) → is_there ws s ≡ b → row_at (with_row s ws) t ≡ row_at ws t
  at_test true e = rw e refl
  at_test false e = rw e (row_last ws s t)

pub there_with : (ws : List Row) (s : ℕ) → is_there (with_row s ws) s ≡ true
there_with ws s = at_test (is_there ws s) refl where
  at_test : (b : Bool) → is_there ws s ≡ b → is_there (with_row s ws) s ≡ true
  at_test true e = rw e e
  at_test false e = rw e (grind (arith, nat_tests, there_last ws s s))

apart_last : (ws : List Row) (s : ℕ) → is_there ws s ≡ false → Apart ws → Apart (ws ++ blank s ∷ [])
apart_last [] s e a = (refl, tt)
apart_last (w ∷ ws) s e a =
    (grind (arith, nat_tests, there_last ws s w.number, a.0, e), apart_last ws s (grind (arith, nat_tests, e)) a.1)

pub apart_with : (ws : List Row) (s : ℕ) → Apart ws → Apart (with_row s ws)
apart_with ws s a = at_test (is_there ws s) refl where
  at_test : (b : Bool) → is_there ws s ≡ b → Apart (with_row s ws)
  at_test true e = rw e a
  at_test false e = rw e (apart_last ws s e a)

-- ---- a test of all rows

-- what is found among rows is there, and the test holds of it
abbrev pub IsFound : (Row → Bool) → List Row → ℕ → Type 0
IsFound f ws s = (is_there ws s ≡ true) × (f (row_at ws s) ≡ true)

found_first : (f : Row → Bool) (w : Row) (ws : List Row) → f w ≡ true → IsFound f (w ∷ ws) w.number
found_first f w ws g = let e : (w.number == w.number) ≡ true = grind (arith, nat_tests) in (rw e refl, rw e g)

found_later : (f : Row → Bool) (w : Row) (ws : List Row) (s : ℕ) (b : Bool) → is_there ws w.number ≡ false → (w.number == s) ≡ b → IsFound f ws s → IsFound f (w ∷ ws) s
found_later f w ws s true a e h = absurd (let q : w.number ≡ s = grind (arith, nat_tests, e) in let t : is_there ws s ≡ false = rw q at a in let u = h.0 in cc)
found_later f w ws s false a e h = (rw (e, h.0) refl, rw e h.1)

found_at : (f : Row → Bool) (w : Row) (ws : List Row) (b : Bool) → f w ≡ b → is_there ws w.number ≡ false → (b ≡ false → (s : ℕ) × IsFound f ws s) → (s : ℕ) × IsFound f (w ∷ ws) s
found_at f w ws true g a h = (w.number, found_first f w ws g)
found_at f w ws false g a h = let k = h refl in (k.0, found_later f w ws k.0 (w.number == k.0) a refl k.1)

-- where the test holds of a row, it holds of the row of a slot
pub found_row : (f : Row → Bool) (ws : List Row) → Apart ws → list_any f ws ≡ true → (s : ℕ) × IsFound f ws s
found_row f [] a e = absurd (cc)
found_row f (w ∷ ws) a e = found_at f w ws (f w) refl a.0 (λ g. found_row f ws a.1 (rw g at e))

none_at : (f : Row → Bool) (w : Row) (ws : List Row) (s : ℕ) (b : Bool) → (w.number == s) ≡ b → f w ≡ false → f (row_at ws s) ≡ false → f (row_at (w ∷ ws) s) ≡ false
none_at f w ws s true e g h = rw e g
none_at f w ws s false e g h = rw e h

-- where it holds of none and of no blank row, it holds of no slot
pub none_found : (f : Row → Bool) (ws : List Row) → list_any f ws ≡ false → (s : ℕ) → f (blank s) ≡ false → f (row_at ws s) ≡ false
none_found f [] e s g = g
none_found f (w ∷ ws) e s g =
    let h : (f w || list_any f ws) ≡ false = e in
    none_at f w ws s (w.number == s) refl (grind (arith, nat_tests, h)) (none_found f ws (grind (arith, nat_tests, h)) s g)
