-- The first word that fits no form, case by case.
use Rattle.std.proofs.Common.{◌≡◌, ℕ, ◌<◌, List, [], ◌∷◌, length, refl, sym, ap, subst, ◌∙◌, arith, lit<, codes, map, String, string_bytes, Global}
use Rattle.std.proofs.lemmas.Fmt.{decimal_digit}
use Rattle.std.specs.Prelude.{IfErr, IfNone, IfOk, IfSome, Result, Some, None}
use Rattle.std.specs.Option.{ok_or}
use Rattle.std.specs.declared.option.Option.{Option}
use Rattle.n41_lines.specs.declared.side.Side.TheVariants.{Client}
use Rattle.n41_run.specs.declared.words.Command.{Command}
use Rattle.n41_run.specs.declared.words.Command.TheVariants as asks
use Rattle.n41_run.specs.Asked.{Asks, Takes}
use Rattle.n41_run.specs.declared.words.Verb.{Verb}
use Rattle.n41_run.specs.declared.words.Verb.TheVariants.{Probe, Run, Trace, Dump, Replay}
use Rattle.n41_run.specs.Words.{IsPort, IsAddress, IsVerb, IsOperand, AreOperands, IsForm, BeginsForm, IsFirstBad, verb_text, side_text}

a_port : IsPort (codes "1")
a_port = record { number = 1; from_one = lit< tt; in_range = lit< tt; text = sym (decimal_digit 1 (lit< tt)) }

an_address : IsAddress (codes "x:1")
an_address = record { host = codes "x"; port = codes "1"; some_host = lit< tt; lawful_port = a_port; text = refl }

-- each first word has its operands
operands_of : (v : Verb) → (words : List (List ℕ)) × AreOperands v words
operands_of Probe = (codes "x:1" ∷ [], (an_address, refl))
operands_of Run = (codes "x:1" ∷ [], (an_address, refl))
operands_of Trace = (codes "x:1" ∷ [], (an_address, refl))
operands_of Dump = (codes "client" ∷ [], ((Client, refl), refl))
operands_of Replay = ([], refl)

-- a first letter tells words of one length apart
abbrev letter : List ℕ → ℕ
letter [] = 0
letter (c ∷ cs) = c

letters_differ : letter (codes "probe") ≡ letter (codes "trace") → ⊥
letters_differ e = let d : letter (codes "probe") < letter (codes "trace") = lit< tt in omega (arith, d, e)

same_verb : (a b : Verb) → verb_text a ≡ verb_text b → a ≡ b
same_verb Probe Probe e = refl
same_verb Probe Run e = cc e
same_verb Probe Trace e = absurd (letters_differ (ap letter e))
same_verb Probe Dump e = cc e
same_verb Probe Replay e = cc e
same_verb Run Probe e = cc e
same_verb Run Run e = refl
same_verb Run Trace e = cc e
same_verb Run Dump e = cc e
same_verb Run Replay e = cc e
same_verb Trace Probe e = absurd (letters_differ (sym (ap letter e)))
same_verb Trace Run e = cc e
same_verb Trace Trace e = refl
same_verb Trace Dump e = cc e
same_verb Trace Replay e = cc e
same_verb Dump Probe e = cc e
same_verb Dump Run e = cc e
same_verb Dump Trace e = cc e
same_verb Dump Dump e = refl
same_verb Dump Replay e = cc e
same_verb Replay Probe e = cc e
same_verb Replay Run e = cc e
same_verb Replay Trace e = cc e
same_verb Replay Dump e = cc e
same_verb Replay Replay e = refl

form : (v : Verb) (words : List (List ℕ)) → AreOperands v words → IsForm (verb_text v ∷ words)
form v words fit = record { verb = v; operands = words; fit = fit; words_are = refl }

verb_begins : (v : Verb) → BeginsForm (verb_text v ∷ [])
verb_begins v = record { others = (operands_of v).0; form = form v (operands_of v).0 (operands_of v).1 }

nothing_begins : BeginsForm []
nothing_begins = record { others = verb_text Probe ∷ (codes "x:1" ∷ []); form = form Probe (codes "x:1" ∷ []) (an_address, refl) }

operand_begins : (v : Verb) (a : List ℕ) → IsOperand v a → BeginsForm (verb_text v ∷ (a ∷ []))
operand_begins v a fits = record { others = []; form = form v (a ∷ []) (fits, refl) }

-- what fits behind one first word fits behind the same
moved : (v u : Verb) (xs ys : List (List ℕ)) → verb_text v ≡ verb_text u → xs ≡ ys → AreOperands u ys → AreOperands v xs
moved v u xs ys e1 e2 fit = subst (λ (w : Verb). AreOperands w xs) (sym (same_verb v u e1)) (subst (λ (x : List (List ℕ)). AreOperands u x) (sym e2) fit)

-- the operands of a form that begins with this word
operands_in : (v : Verb) (xs : List (List ℕ)) (f : IsForm (verb_text v ∷ xs)) → AreOperands v xs
operands_in v xs f = moved v f.verb xs f.operands (cc f.words_are) (cc f.words_are) f.fit

pub no_words : IsFirstBad [] 1
no_words = record {
  from_one = omega arith;
  to_next = omega arith;
  before_fit = nothing_begins;
  unfit = λ here begins. absurd (omega arith);
  unfinished = λ next form. cc form.words_are;
}

pub other_first : (word : List ℕ) (rest : List (List ℕ)) → (IsVerb word → ⊥) → IsFirstBad (word ∷ rest) 1
other_first word rest other = record {
  from_one = omega arith;
  to_next = omega arith;
  before_fit = nothing_begins;
  unfit = λ here begins. other (begins.form.verb, cc begins.form.words_are);
  unfinished = λ next form. other (form.verb, cc form.words_are);
}

pub no_operand : (v : Verb) → (v ≡ Replay → ⊥) → IsFirstBad (verb_text v ∷ []) 2
no_operand v other = record {
  from_one = omega arith;
  to_next = omega arith;
  before_fit = verb_begins v;
  unfit = λ here begins. absurd (omega arith);
  unfinished = λ next form. other (operands_in v [] form);
}

pub bad_operand : (v : Verb) (a : List ℕ) (rest : List (List ℕ)) → (IsOperand v a → ⊥) → IsFirstBad (verb_text v ∷ (a ∷ rest)) 2
bad_operand v a rest unfit = record {
  from_one = omega arith;
  to_next = omega arith;
  before_fit = verb_begins v;
  unfit = λ here begins. unfit (operands_in v (a ∷ begins.others) begins.form).0;
  unfinished = λ next form. unfit (operands_in v (a ∷ rest) form).0;
}

pub third_word : (v : Verb) (a b : List ℕ) (rest : List (List ℕ)) → IsOperand v a → IsFirstBad (verb_text v ∷ (a ∷ (b ∷ rest))) 3
third_word v a b rest fits = record {
  from_one = omega arith;
  to_next = omega arith;
  before_fit = operand_begins v a fits;
  unfit = λ here begins. let last : b ∷ begins.others ≡ [] = (operands_in v (a ∷ (b ∷ begins.others)) begins.form).1 in cc last;
  unfinished = λ next form. let last : b ∷ rest ≡ [] = (operands_in v (a ∷ (b ∷ rest)) form).1 in cc last;
}

-- ---- the same of the words as they are handed in

pub empty_is : {X : Type 0} (xs : List X) → length xs ≡ 0 → xs ≡ []
empty_is [] e = refl
empty_is (x ∷ xs) e = absurd (omega arith)

pub bad_at : (words same : List (List ℕ)) (place : ℕ) → words ≡ same → IsFirstBad same place → IsFirstBad words place
bad_at words same place e bad = rw e bad

pub joined : {X : Type 0} {a b : X} {xs ys : List X} → a ≡ b → xs ≡ ys → a ∷ xs ≡ b ∷ ys
joined p q = cc

pub two_texts : (words others more : List (String Global)) (first second : String Global) (v : Verb) → words ≡ first ∷ others → others ≡ second ∷ more → string_bytes first ≡ verb_text v
    → map string_bytes words ≡ verb_text v ∷ (string_bytes second ∷ map string_bytes more)
two_texts words others more first second v e1 e2 e3 = ap (map string_bytes) e1 ∙ joined e3 (ap (map string_bytes) e2)

pub more_bad : (v : Verb) (a : List ℕ) (more : List (String Global)) → IsOperand v a → 0 < length more → IsFirstBad (verb_text v ∷ (a ∷ map string_bytes more)) 3
more_bad v a [] fits some = absurd (omega arith)
more_bad v a (m ∷ more) fits some = third_word v a (string_bytes m) (map string_bytes more) fits

moved_to : (v u : Verb) (xs ys : List (List ℕ)) → v ≡ u → xs ≡ ys → AreOperands u ys → AreOperands v xs
moved_to v u xs ys e1 e2 fit = moved v u xs ys (ap verb_text e1) e2 fit

-- what is taken fits
pub taken_fits : (v : Verb) (words : List (List ℕ)) (c : Command) → Takes v words c → AreOperands v words
taken_fits v words (asks.Probe a) t = moved_to v Probe words (a.now ∷ []) t.0 t.2 (t.1, refl)
taken_fits v words (asks.Run a) t = moved_to v Run words (a.now ∷ []) t.0 t.2 (t.1, refl)
taken_fits v words (asks.Trace a) t = moved_to v Trace words (a.now ∷ []) t.0 t.2 (t.1, refl)
taken_fits v words (asks.Dump s) t = moved_to v Dump words (side_text s ∷ []) t.0 t.1 ((s, refl), refl)
taken_fits v words asks.Replay t = moved_to v Replay words [] t.0 t.1 refl

pub same_fits : (v : Verb) (a b : List ℕ) → a ≡ b → IsOperand v a → IsOperand v b
same_fits v a b e fits = subst (IsOperand v) e fits

-- ---- a first word alone

pub alone_bad : (words : List (List ℕ)) (v : Verb) (o : Option Command) (r : Result Command ℕ) → words ≡ verb_text v ∷ [] → r ≡ ok_or o 2 → IfNone o (v ≡ Replay → ⊥) → IfErr r (λ place. IsFirstBad words place)
alone_bad words v None r e q other = subst (λ (x : Result Command ℕ). IfErr x (λ place. IsFirstBad words place)) (sym q) (bad_at words (verb_text v ∷ []) 2 e (no_operand v other))
alone_bad words v (Some c) r e q other = subst (λ (x : Result Command ℕ). IfErr x (λ place. IsFirstBad words place)) (sym q) tt

pub alone_asks : (words : List (List ℕ)) (v : Verb) (o : Option Command) (r : Result Command ℕ) → words ≡ verb_text v ∷ [] → r ≡ ok_or o 2 → IfSome o (λ c. Takes v [] c) → IfOk r (λ c. Asks words c)
alone_asks words v None r e q takes = subst (λ (x : Result Command ℕ). IfOk x (λ c. Asks words c)) (sym q) tt
alone_asks words v (Some c) r e q takes = subst (λ (x : Result Command ℕ). IfOk x (λ c. Asks words c)) (sym q) (v, [], e, takes)
