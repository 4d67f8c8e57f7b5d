-- One line more is read.
use Rattle.std.proofs.Common.{◌≡◌, ℕ, zero, suc, List, [], ◌∷◌, ◌++◌, take, drop, slice_get, Result, Ok, Err, Some, refl, ap, ◌∙◌}
use Rattle.n41_words.specs.declared.fault.LineKind.{LineKind}
use Rattle.n41_words.specs.declared.fault.LineFault.{LineFault}
use Rattle.n41_words.specs.declared.fault.LineFault.TheVariants.{Kind, NoMemory}
use Rattle.n41_words.specs.Faults.{at_line}
use Rattle.n41_script.specs.Faults.{Leaves}
use Rattle.n41_words.specs.Lines.{lines}
use Rattle.n41_script.specs.Scripts.{Said, after_line, then_line, after_lines, said_by, IsLineFault}

got : (xs : List (List ℕ)) (n : ℕ) (x : List ℕ) (ys : List (List ℕ)) → drop n xs ≡ x ∷ ys → slice_get xs n ≡ Some x
got [] zero x ys e = absurd cc
got [] (suc n) x ys e = absurd cc
got (z ∷ zs) zero x ys e = let f : z ≡ x = cc in ap Some f
got (z ∷ zs) (suc n) x ys e = got zs n x ys e

taken : (xs : List (List ℕ)) (n m : ℕ) (x : List ℕ) (ys : List (List ℕ)) → m ≡ suc n → drop n xs ≡ x ∷ ys → take m xs ≡ take n xs ++ x ∷ []
taken [] zero m x ys f e = absurd cc
taken [] (suc n) m x ys f e = absurd cc
taken (z ∷ zs) zero m x ys f e = let g : z ≡ x = cc in rw f (ap (λ (w : List ℕ). w ∷ []) g)
taken (z ∷ zs) (suc n) m x ys f e = rw f (ap (λ (ws : List (List ℕ)). z ∷ ws) (taken zs n (suc n) x ys refl e))

left : (xs : List (List ℕ)) (n m : ℕ) (x : List ℕ) (ys : List (List ℕ)) → m ≡ suc n → drop n xs ≡ x ∷ ys → drop m xs ≡ ys
left [] zero m x ys f e = absurd cc
left [] (suc n) m x ys f e = absurd cc
left (z ∷ zs) zero m x ys f e = let g : zs ≡ ys = cc in rw f g
left (z ∷ zs) (suc n) m x ys f e = rw f (left zs n (suc n) x ys refl e)

one_more : (r : Result Said LineKind) (xs : List (List ℕ)) (x : List ℕ) → after_lines r (xs ++ x ∷ []) ≡ then_line (after_lines r xs) x
one_more r [] x = refl
one_more r (y ∷ ys) x = one_more (then_line r y) ys x

-- what is said by one line more
pub said_more : (xs : List (List ℕ)) (n m : ℕ) (x : List ℕ) (ys : List (List ℕ)) (s t : Said) →
    m ≡ suc n → drop n xs ≡ x ∷ ys → said_by (take n xs) ≡ Ok s → after_line s x ≡ Ok t → said_by (take m xs) ≡ Ok t
said_more xs n m x ys s t f e h i =
    ap said_by (taken xs n m x ys f e) ∙ one_more _ (take n xs) x ∙ ap (λ (r : Result Said LineKind). then_line r x) h ∙ i

pub left_more : (xs : List (List ℕ)) (n m : ℕ) (x : List ℕ) (ys : List (List ℕ)) → m ≡ suc n → drop n xs ≡ x ∷ ys → drop m xs ≡ ys
left_more xs n m x ys f e = left xs n m x ys f e

-- the first line with a fault
pub refused : (text : List ℕ) (n number : ℕ) (line : List ℕ) (ys : List (List ℕ)) (s t : Said) (f : LineFault) →
    number ≡ suc n → drop n (lines text) ≡ line ∷ ys → said_by (take n (lines text)) ≡ Ok s → Leaves (Err f) t (after_line s line) → IsLineFault text (at_line number f)
refused text n number line ys s t (Kind k) f e h i =
    record { place = n; number_is = f; line = line; there = got (lines text) n line ys e; said = s; before = h; fault = i }
refused text n number line ys s t NoMemory f e h i = tt

-- where no line is left, all were taken
pub all_taken : (xs : List (List ℕ)) (n : ℕ) → drop n xs ≡ [] → take n xs ≡ xs
all_taken [] zero e = refl
all_taken [] (suc n) e = refl
all_taken (x ∷ xs) zero e = absurd cc
all_taken (x ∷ xs) (suc n) e = ap (λ (ws : List (List ℕ)). x ∷ ws) (all_taken xs n e)
