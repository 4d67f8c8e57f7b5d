-- One line more is read.
use Rattle.std.proofs.Common.{◌≡◌, ℕ, zero, suc, not, Bool, true, false, if◌then◌else◌, List, [], ◌∷◌, ◌++◌, take, drop, reverse, slice_get, Ok, Err, Some, refl, ap, sym, subst, ◌∙◌, inl, inr}
use Rattle.std.proofs.lemmas.Grind.{reverse_onto}
use Rattle.n41_journal.specs.declared.events.Event.{Event}
use Rattle.n41_words.specs.Lines.{lines, is_skipped}
use Rattle.n41_words.specs.Faults.{at_line}
use Rattle.n41_words.specs.declared.fault.LineFault.{LineFault}
use Rattle.n41_words.specs.declared.fault.LineFault.TheVariants.{Kind, NoMemory}
use Rattle.n41_journal_reader.specs.Journals.{SaysEvent, told_lines, SayEach, Adds, IsLineFault}

-- ---- lists of lines

got : (xs : List (List ℕ)) (n : ℕ) (x : List ℕ) (ys : List (List ℕ)) → drop n xs ≡ x ∷ ys → slice_get xs n ≡ Some x
got [] zero x ys e = absurd cc
got [] (suc n) x ys e = absurd cc
got (z ∷ zs) zero x ys e = let f : z ≡ x = cc in ap Some f
got (z ∷ zs) (suc n) x ys e = got zs n x ys e

taken : (xs : List (List ℕ)) (n m : ℕ) (x : List ℕ) (ys : List (List ℕ)) → m ≡ suc n → drop n xs ≡ x ∷ ys → take m xs ≡ take n xs ++ x ∷ []
taken [] zero m x ys f e = absurd cc
taken [] (suc n) m x ys f e = absurd cc
taken (z ∷ zs) zero m x ys f e = let g : z ≡ x = cc in rw f (ap (λ (w : List ℕ). w ∷ []) g)
taken (z ∷ zs) (suc n) m x ys f e = rw f (ap (λ (ws : List (List ℕ)). z ∷ ws) (taken zs n (suc n) x ys refl e))

pub left : (xs : List (List ℕ)) (n m : ℕ) (x : List ℕ) (ys : List (List ℕ)) → m ≡ suc n → drop n xs ≡ x ∷ ys → drop m xs ≡ ys
left [] zero m x ys f e = absurd cc
left [] (suc n) m x ys f e = absurd cc
left (z ∷ zs) zero m x ys f e = let g : zs ≡ ys = cc in rw f g
left (z ∷ zs) (suc n) m x ys f e = rw f (left zs n (suc n) x ys refl e)

-- where no line is left, all were taken
all_taken : (xs : List (List ℕ)) (n : ℕ) → drop n xs ≡ [] → take n xs ≡ xs
all_taken [] zero e = refl
all_taken [] (suc n) e = refl
all_taken (x ∷ xs) zero e = absurd cc
all_taken (x ∷ xs) (suc n) e = ap (λ (ws : List (List ℕ)). x ∷ ws) (all_taken xs n e)

-- ---- what lines say

-- a line in front, where it is told
abbrev first_line : Bool → List ℕ → List (List ℕ) → List (List ℕ)
first_line b y ls = if b then y ∷ ls else ls

passed_by : (xs : List (List ℕ)) (x : List ℕ) → is_skipped x ≡ true → told_lines (xs ++ x ∷ []) ≡ told_lines xs
passed_by [] x e = rw e refl
passed_by (y ∷ ys) x e = ap (first_line (not (is_skipped y)) y) (passed_by ys x e)

behind_first : (b : Bool) (y : List ℕ) (ls ms : List (List ℕ)) → first_line b y (ls ++ ms) ≡ first_line b y ls ++ ms
behind_first true y ls ms = refl
behind_first false y ls ms = refl

told_last : (xs : List (List ℕ)) (x : List ℕ) → is_skipped x ≡ false → told_lines (xs ++ x ∷ []) ≡ told_lines xs ++ x ∷ []
told_last [] x e = rw e refl
told_last (y ∷ ys) x e = ap (first_line (not (is_skipped y)) y) (told_last ys x e) ∙ behind_first (not (is_skipped y)) y (told_lines ys) (x ∷ [])

say_last : (ls : List (List ℕ)) (es : List Event) (x : List ℕ) (e : Event) → SayEach ls es → SaysEvent x e → SayEach (ls ++ x ∷ []) (es ++ e ∷ [])
say_last [] [] x e h s = (s, tt)
say_last [] (f ∷ es) x e h s = absurd h
say_last (l ∷ ls) [] x e h s = absurd h
say_last (l ∷ ls) (f ∷ es) x e h s = (h.0, say_last ls es x e h.1 s)

-- what is said by one line more
said_with : (xs : List (List ℕ)) (x : List ℕ) (old new : List Event) → SayEach (told_lines xs) (reverse old) → Adds (Ok tt) x old new → SayEach (told_lines (xs ++ x ∷ [])) (reverse new)
said_with xs x old new h (inl p) =
    subst (λ (es : List Event). SayEach (told_lines (xs ++ x ∷ [])) (reverse es)) (sym p.1) (subst (λ (ls : List (List ℕ)). SayEach ls (reverse old)) (sym (passed_by xs x p.0)) h)
said_with xs x old new h (inr p) =
    let longer : reverse new ≡ reverse old ++ p.1.0 ∷ [] = ap reverse p.1.2 ∙ reverse_onto old p.1.0 [] in
    subst (λ (es : List Event). SayEach (told_lines (xs ++ x ∷ [])) es) (sym longer)
    (subst (λ (ls : List (List ℕ)). SayEach ls (reverse old ++ p.1.0 ∷ [])) (sym (told_last xs x p.0)) (say_last (told_lines xs) (reverse old) x p.1.0 h p.1.1))

pub said_more : (xs : List (List ℕ)) (n m : ℕ) (x : List ℕ) (ys : List (List ℕ)) (old new : List Event) → m ≡ suc n → drop n xs ≡ x ∷ ys →
    SayEach (told_lines (take n xs)) (reverse old) → Adds (Ok tt) x old new → SayEach (told_lines (take m xs)) (reverse new)
said_more xs n m x ys old new f e h a = subst (λ (ls : List (List ℕ)). SayEach (told_lines ls) (reverse new)) (sym (taken xs n m x ys f e)) (said_with (take n xs) x old new h a)

-- the first line that is refused
pub refused : (text : List ℕ) (n number : ℕ) (x : List ℕ) (ys : List (List ℕ)) (old new : List Event) (f : LineFault) →
    number ≡ suc n → drop n (lines text) ≡ x ∷ ys → SayEach (told_lines (take n (lines text))) (reverse old) → Adds (Err f) x old new → IsLineFault text (at_line number f)
refused text n number x ys old new (Kind k) f e h a =
    record { place = n; number_is = f; line = x; there = got (lines text) n x ys e; told = a.0; before = reverse old; said = h; refused = a.1 }
refused text n number x ys old new NoMemory f e h a = tt

-- where no line is left, all is said
pub all_said : (xs : List (List ℕ)) (n : ℕ) (es : List Event) → drop n xs ≡ [] → SayEach (told_lines (take n xs)) es → SayEach (told_lines xs) es
all_said xs n es e h = subst (λ (ls : List (List ℕ)). SayEach (told_lines ls) es) (all_taken xs n e) h
