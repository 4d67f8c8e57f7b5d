-- The formats of the basic types are lawful.
use Rattle.std.proofs.Common.{◌≡◌, ℕ, zero, suc, ◌+◌, ◌^◌, ◌<◌, ◌≤◌, Bool, true, false, cond, ltb, eqb, List, [], ◌∷◌, ◌++◌, length, take, drop, replicate, Ok, Err, refl, sym, ap, subst, ◌∙◌, arith, inl, inr, ◌⊎◌}
use Rattle.std.specs.Bool.{MatchBool}
use Rattle.std.specs.Int.{Width, w32, w64, byte_len, from_be_bytes, to_be_bytes}
use Rattle.std.proofs.lemmas.Bool.{ltb-false, le-ltb, eqb-true, eq-eqb, and_parts}
use Rattle.std.proofs.lemmas.List.{append-nil, take_at, drop_at, take-append-drop, length-append, length-take, length-drop, take-replicate}
use Rattle.std.proofs.lemmas.Nat.{be_bytes_4, be_bytes_8, from_be_bytes-to_be_bytes_4, from_be_bytes-to_be_bytes_8}
use Rattle.n41_xdr.specs.declared.fault.XdrFault.{XdrFault}
use Rattle.n41_xdr.specs.declared.fault.XdrFault.TheVariants.{Short, BadBool, BadPad, TooLong, BadArm}
use Rattle.n41_xdr.specs.Spelling as spelling
use Rattle.n41_xdr.specs.Spelling.{fill, fill_len}
use Rattle.n41_xdr.specs.Reading.{taken_at, number_at, boolean_at, fixed_at, opaque_at, all_zero}
use Rattle.n41_xdr.specs.Format.{Format, word, hyper, flag, fixed, opaque, given, nothing, refused, dependent, choice, only}
use Rattle.n41_xdr.specs.Lawful.{IsBytes, Takes, IsLawful}
use Rattle.n41_xdr.proofs.Steps.{IsBytes-drop, IsBytes-take, bind_ok, guard_ok, chosen}
use Rattle.n41_xdr.proofs.Combined.{same_lawful, given_lawful, nothing_lawful, refused_lawful, dependent_lawful, choice_lawful}

-- ---- n bytes

pub record Took (n : ℕ) (bytes : List ℕ) (x : List ℕ × List ℕ) : Type 0 where
  pub parts : bytes ≡ x.0 ++ x.1
  pub len : length x.0 ≡ n
  pub fits : IsBytes x.0
  pub rest_fits : IsBytes x.1

taken_takes : (n : ℕ) (bytes : List ℕ) (x : List ℕ × List ℕ) → IsBytes bytes → taken_at n bytes ≡ Ok x → Took n bytes x
taken_takes n bytes x fits e =
    let g = guard_ok (ltb (length bytes) n) (Short n (length bytes)) (Ok (take n bytes, drop n bytes)) x e in
    let long : n ≤ length bytes = ltb-false _ _ g.0 in
    let x-is : (take n bytes, drop n bytes) ≡ x = cc in
    subst (λ (y : List ℕ × List ℕ). Took n bytes y) x-is (record {
      parts = sym (take-append-drop n bytes);
      len = omega (arith, length-take n bytes);
      fits = IsBytes-take n bytes fits;
      rest_fits = IsBytes-drop n bytes fits;
    })

taken_again : (n : ℕ) (text rest : List ℕ) → length text ≡ n → taken_at n (text ++ rest) ≡ Ok (text, rest)
taken_again n text rest len =
    let long : ltb (length (text ++ rest)) n ≡ false = le-ltb _ _ (omega (arith, length-append text rest)) in
    rw (long, take_at text rest n len, drop_at text rest n len) refl

-- ---- numbers

-- numbers below the limit are written in bytes of this width, and each such text is a number's
record IsWide (w : Width) (limit : ℕ) : Type 0 where
  pub len : (n : ℕ) → length (to_be_bytes w n) ≡ byte_len w
  pub text_of : (bytes : List ℕ) → length bytes ≡ byte_len w → IsBytes bytes → to_be_bytes w (from_be_bytes w bytes) ≡ bytes
  pub number_of : (n : ℕ) → n < limit → from_be_bytes w (to_be_bytes w n) ≡ n
  pub below : (bytes : List ℕ) → IsBytes bytes → from_be_bytes w bytes < limit

wide32 : IsWide w32 (2 ^ 32)
wide32 = record {
  len = λ n. refl;
  text_of = λ bytes len fits. be_bytes_4 bytes _ len fits refl;
  number_of = λ n lt. from_be_bytes-to_be_bytes_4 n lt;
  below = λ bytes fits. omega (arith, fits 0, fits 1, fits 2, fits 3);
}

wide64 : IsWide w64 (2 ^ 64)
wide64 = record {
  len = λ n. refl;
  text_of = λ bytes len fits. be_bytes_8 bytes _ len fits refl;
  number_of = λ n lt. from_be_bytes-to_be_bytes_8 n lt;
  below = λ bytes fits. omega (arith, fits 0, fits 1, fits 2, fits 3, fits 4, fits 5, fits 6, fits 7);
}

abbrev number : Width → ℕ → Format XdrFault ℕ
number w limit = record { read = number_at w; spell = to_be_bytes w; Fits = λ n. n < limit }

number_lawful : (w : Width) (limit : ℕ) → IsWide w limit → IsLawful (number w limit)
number_lawful w limit wide = record {
  takes = λ bytes x fits e.
      let b = bind_ok (taken_at (byte_len w) bytes) (λ t. Ok (from_be_bytes w t.0, t.1)) x e in
      let t = taken_takes (byte_len w) bytes b.0 fits b.1 in
      let x-is : (from_be_bytes w b.0.0, b.0.1) ≡ x = cc in
      let whole : bytes ≡ to_be_bytes w (from_be_bytes w b.0.0) ++ b.0.1 = rw (wide.text_of b.0.0 t.len t.fits) t.parts in
      subst (λ (y : ℕ × List ℕ). Takes bytes (to_be_bytes w y.0) y.1 × (y.0 < limit)) x-is (record { parts = whole; rest_fits = t.rest_fits }, wide.below b.0.0 t.fits);
  again = λ n rest lt. rw (taken_again (byte_len w) (to_be_bytes w n) rest (wide.len n), wide.number_of n lt) refl;
}

pub word_lawful : IsLawful word
unfolding spelling.word
word_lawful = let h = number_lawful w32 (2 ^ 32) wide32 in record { takes = h.takes; again = h.again }

pub hyper_lawful : IsLawful hyper
unfolding spelling.hyper
hyper_lawful = let h = number_lawful w64 (2 ^ 64) wide64 in record { takes = h.takes; again = h.again }

-- ---- a number that chooses

pub match_cases : (t : Bool) (P Q : Type 0) → MatchBool t P Q → ((t ≡ true) × P) ⊎ ((t ≡ false) × Q)
match_cases true P Q h = inl (refl, h)
match_cases false P Q h = inr (refl, h)

-- behind 0 and 1 there is a format each, and behind another number a fault
abbrev pub by_number : {E A : Type 0} → Format E A → Format E A → (ℕ → E) → ℕ → Format E A
by_number p q other n = choice (eqb n 0) p (choice (eqb n 1) q (refused (other n)))

pub by_number_lawful : {E B : Type 0} (numbers : Format E ℕ) (first : B → ℕ) (p q : Format E B) (other : ℕ → E) → IsLawful numbers → IsLawful p → IsLawful q → ((b : B) → p.Fits b → first b ≡ 0) → ((b : B) → q.Fits b → first b ≡ 1)
    → IsLawful (dependent numbers first (by_number p q other))
by_number_lawful numbers first p q other h hp hq is_0 is_1 =
    dependent_lawful numbers first (by_number p q other) h (λ n. choice_lawful _ _ _ hp (choice_lawful _ _ _ hq (refused_lawful (other n)))) (λ n b fits. elim (match_cases (eqb n 0) _ _ fits) [
      | inl c ↦ is_0 b c.1 ∙ sym (eqb-true n 0 c.0)
      | inr c ↦ elim (match_cases (eqb n 1) _ _ c.1) [ inl d ↦ is_1 b d.1 ∙ sym (eqb-true n 1 d.0) | inr d ↦ absurd d.1 ]
    ])

number_of_flag : Bool → ℕ
number_of_flag false = 0
number_of_flag true = 1

abbrev numbered_flag : Format XdrFault Bool
numbered_flag = dependent word number_of_flag (by_number (given false) (given true) BadBool)

flag_spells : (a : Bool) → spelling.boolean a ≡ numbered_flag.spell a
unfolding spelling.boolean number_of_flag
flag_spells false = sym (append-nil (spelling.word 0))
flag_spells true = sym (append-nil (spelling.word 1))

flag_fits : (a : Bool) → Unit {0} → numbered_flag.Fits a
unfolding number_of_flag
flag_fits false fits = (omega arith, refl)
flag_fits true fits = (omega arith, refl)

pub flag_lawful : IsLawful flag
unfolding boolean_at number_of_flag
flag_lawful =
    same_lawful flag numbered_flag (record { reads = λ bytes. refl; spells = flag_spells; there = flag_fits; back = λ a fits. tt })
    (by_number_lawful word number_of_flag (given false) (given true) BadBool word_lawful (given_lawful false) (given_lawful true) (λ b is. ap number_of_flag is) (λ b is. ap number_of_flag is))

abbrev checked_number : ℕ → Format XdrFault (Unit {0})
checked_number n = dependent word (λ _. n) (λ m. choice (eqb m n) nothing (refused (BadArm m)))

pub only_lawful : (n : ℕ) → IsLawful (only n)
only_lawful n =
    let same : eqb n n ≡ true = eq-eqb n n refl in
    same_lawful (only n) (checked_number n) (record {
      reads = λ bytes. refl;
      spells = λ a. sym (ap (λ (b : Bool). spelling.word n ++ cond b [] []) same ∙ append-nil (spelling.word n));
      there = λ a fits. (fits, subst (λ (b : Bool). MatchBool b (Unit {0}) ⊥) (sym same) tt);
      back = λ a fits. fits.0;
    })
    (dependent_lawful word (λ _. n) (λ m. choice (eqb m n) nothing (refused (BadArm m))) word_lawful (λ m. choice_lawful _ _ _ nothing_lawful (refused_lawful (BadArm m)))
    (λ m a fits. elim (match_cases (eqb m n) _ _ fits) [ inl c ↦ sym (eqb-true m n c.0) | inr c ↦ absurd c.1 ]))

-- ---- bytes and their fill

zeros_of : (bytes : List ℕ) → all_zero bytes ≡ true → bytes ≡ replicate (length bytes) 0
zeros_of [] z = refl
zeros_of (b ∷ bytes) z =
    let h = and_parts (eqb b 0) (all_zero bytes) z in
    let first : b ≡ 0 = eqb-true b 0 h.0 in
    let others : bytes ≡ replicate (length bytes) 0 = zeros_of bytes h.1 in
    cc

zeros_pass : (k : ℕ) → all_zero (replicate k 0) ≡ true
zeros_pass zero = refl
zeros_pass (suc k) = zeros_pass k

fill_len_le : (n : ℕ) → fill_len n ≤ 3
fill_len_le n = omega arith

fill_length : (n : ℕ) → length (fill n) ≡ fill_len n
fill_length n = omega (arith, length-take {A = ℕ} (fill_len n) (0 ∷ 0 ∷ 0 ∷ []))

fill_zeros : (n : ℕ) → fill n ≡ replicate (fill_len n) 0
fill_zeros n = take-replicate (fill_len n) 3 0 (fill_len_le n)

-- what passes as the fill of n bytes is it
fill_of : (n : ℕ) (bytes : List ℕ) → all_zero bytes ≡ true → length bytes ≡ fill_len n → bytes ≡ fill n
fill_of n bytes z len = zeros_of bytes z ∙ ap (λ (k : ℕ). replicate k 0) len ∙ sym (fill_zeros n)

fill_passes : (n : ℕ) → all_zero (fill n) ≡ true
fill_passes n = ap all_zero (fill_zeros n) ∙ zeros_pass (fill_len n)

fixed_takes : (n : ℕ) (bytes : List ℕ) (x : List ℕ × List ℕ) → IsBytes bytes → fixed_at n bytes ≡ Ok x → Takes bytes (spelling.fixed x.0) x.1 × (length x.0 ≡ n)
unfolding fixed_at spelling.fixed
fixed_takes n bytes x fits e =
    let b = bind_ok (taken_at (n + fill_len n) bytes) (λ x. cond (all_zero (drop n x.0)) (Ok (take n x.0, x.1)) (Err BadPad)) x e in
    let t = taken_takes (n + fill_len n) bytes b.0 fits b.1 in
    elim (chosen (all_zero (drop n b.0.0)) (Ok (take n b.0.0, b.0.1)) (Err BadPad) (Ok x) b.2) [
      | inl h ↦
          let x-is : (take n b.0.0, b.0.1) ≡ x = cc in
          let len : length (take n b.0.0) ≡ n = omega (arith, length-take n b.0.0, t.len) in
          let fill_is : drop n b.0.0 ≡ fill n = fill_of n (drop n b.0.0) h.0 (omega (arith, length-drop n b.0.0, t.len)) in
          let whole : bytes ≡ (take n b.0.0 ++ fill n) ++ b.0.1 = t.parts ∙ ap (λ (w : List ℕ). w ++ b.0.1) (sym (take-append-drop n b.0.0) ∙ ap (λ (w : List ℕ). take n b.0.0 ++ w) fill_is) in
          let spelled : bytes ≡ spelling.fixed (take n b.0.0) ++ b.0.1 = whole ∙ ap (λ (k : ℕ). (take n b.0.0 ++ fill k) ++ b.0.1) (sym len) in
          subst (λ (y : List ℕ × List ℕ). Takes bytes (spelling.fixed y.0) y.1 × (length y.0 ≡ n)) x-is (record { parts = spelled; rest_fits = t.rest_fits }, len)
      | inr h ↦ absurd cc
    ]

fixed_again : (n : ℕ) (text rest : List ℕ) → length text ≡ n → fixed_at n (spelling.fixed text ++ rest) ≡ Ok (text, rest)
unfolding fixed_at spelling.fixed
fixed_again n text rest len =
    let whole_len : length (text ++ fill n) ≡ n + fill_len n = omega (arith, length-append text (fill n), fill_length n, len) in
    ap (λ (f : List ℕ). fixed_at n ((text ++ f) ++ rest)) (ap fill len)
    ∙ rw (taken_again (n + fill_len n) (text ++ fill n) rest whole_len, drop_at text (fill n) n len, take_at text (fill n) n len, fill_passes n) refl

pub fixed_lawful : (n : ℕ) → IsLawful (fixed n)
fixed_lawful n = record { takes = fixed_takes n; again = fixed_again n }

-- a fault where the test holds
abbrev pub unless : {E A : Type 0} → Bool → E → Format E A → Format E A
unless b e p = record { read = λ bytes. cond b (Err e) (p.read bytes); spell = p.spell; Fits = λ a. (b ≡ false) × p.Fits a }

pub unless_lawful : {E A : Type 0} (b : Bool) (e : E) (p : Format E A) → IsLawful p → IsLawful (unless b e p)
unless_lawful b e p h = record {
  takes = λ bytes x fits is.
      let g = guard_ok b e (p.read bytes) x is in
      let t = h.takes bytes x fits g.1 in
      (t.0, (g.0, t.1));
  again = λ a rest fits. rw fits.0 (h.again a rest fits.1);
}

abbrev measured : ℕ → Format XdrFault (List ℕ)
measured max = dependent word (λ bytes. length bytes) (λ n. unless (ltb max n) (TooLong n max) (fixed n))

pub opaque_lawful : (max : ℕ) → IsLawful (opaque max)
unfolding opaque_at spelling.opaque
opaque_lawful max =
    same_lawful (opaque max) (measured max) (record {
      reads = λ bytes. refl;
      spells = λ a. refl;
      there = λ a fits. (fits.1, (le-ltb max (length a) fits.0, refl));
      back = λ a fits. (ltb-false max (length a) fits.1.0, fits.0);
    })
    (dependent_lawful word (λ bytes. length bytes) (λ n. unless (ltb max n) (TooLong n max) (fixed n)) word_lawful (λ n. unless_lawful _ _ _ (fixed_lawful n)) (λ n a fits. fits.1))
