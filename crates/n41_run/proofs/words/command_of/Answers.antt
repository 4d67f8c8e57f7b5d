use Rattle.std.proofs.Common.{◌≡◌, ◌∷◌, ◌∙◌, [], map, string_bytes, ap, refl, sym, arith}
use Rattle.std.proofs.lemmas.Bool.Decides.{nat_tests}
use Rattle.n41_run.specs.Words.{IsOperand, verb_text}
use Rattle.n41_run.proofs.Forms.{no_words, other_first, alone_bad, alone_asks, bad_operand, bad_at, empty_is, joined, two_texts, more_bad, taken_fits, same_fits}
use Rattle.n41_run.proofs.words.command_of.Goals as goal

pub returns-in_default-clause-bad : goal.returns-in_default-clause-bad
returns-in_default-clause-bad c =
    bad_at _ [] 1 (ap (map string_bytes) (empty_is c.args.words.now c.in_default.ensures.cases)) no_words

pub returns-in_default-verb_of-clause-bad : goal.returns-in_default-verb_of-clause-bad
returns-in_default-verb_of-clause-bad c =
    bad_at _ _ 1 (ap (map string_bytes) c.in-Some.ensures.cases.0)
    (other_first _ _ (λ is. c.in_default-verb_of.ensures.none (is.0, c.as_str.ensures.value ∙ is.1)))

pub returns-in_default-split_first-clause-bad : goal.returns-in_default-split_first-clause-bad
returns-in_default-split_first-clause-bad c =
    let first : string_bytes c.in-Some.first.now ≡ verb_text c.in-Some-verb_of.verb = sym c.as_str.ensures.value ∙ c.in-Some-verb_of.ensures.some in
    let others : c.in-Some.others.now ≡ [] = empty_is c.in-Some.others.now c.in_default-split_first.ensures.cases in
    alone_bad _ c.in-Some-verb_of.verb c.command_alone.result c.ok_or.result (ap (map string_bytes) c.in-Some.ensures.cases.0 ∙ joined first (ap (map string_bytes) others)) c.ok_or.ensures.value c.command_alone.ensures.none

pub returns-in_default-split_first-clause-asks : goal.returns-in_default-split_first-clause-asks
returns-in_default-split_first-clause-asks c =
    let first : string_bytes c.in-Some.first.now ≡ verb_text c.in-Some-verb_of.verb = sym c.as_str.ensures.value ∙ c.in-Some-verb_of.ensures.some in
    let others : c.in-Some.others.now ≡ [] = empty_is c.in-Some.others.now c.in_default-split_first.ensures.cases in
    alone_asks _ c.in-Some-verb_of.verb c.command_alone.result c.ok_or.result (ap (map string_bytes) c.in-Some.ensures.cases.0 ∙ joined first (ap (map string_bytes) others)) c.ok_or.ensures.value c.command_alone.ensures.some

pub returns-in_default-command_with-clause-bad : goal.returns-in_default-command_with-clause-bad
returns-in_default-command_with-clause-bad c =
    let v = c.in-Some-verb_of.verb in
    let first : string_bytes c.in-Some.first.now ≡ verb_text v = sym c.as_str.ensures.value ∙ c.in-Some-verb_of.ensures.some in
    bad_at _ _ 2 (two_texts _ _ _ _ _ v c.in-Some.ensures.cases.0 c.in-Some-split_first.ensures.cases.0 first)
    (bad_operand v _ _ (λ fits. c.in_default-command_with.ensures.none (same_fits v _ _ (sym c.as_str-2.ensures.value) fits)))

pub returns-then-not-is_empty-clause-bad : goal.returns-then-not-is_empty-clause-bad
returns-then-not-is_empty-clause-bad c =
    let v = c.in-Some-verb_of.verb in
    let first : string_bytes c.in-Some.first.now ≡ verb_text v = sym c.as_str.ensures.value ∙ c.in-Some-verb_of.ensures.some in
    let fits : IsOperand v (string_bytes c.in-Some-split_first.second.now) = same_fits v _ _ c.as_str-2.ensures.value (taken_fits v _ _ c.in-Some-command_with.ensures.some).0 in
    bad_at _ _ 3 (two_texts _ _ _ _ _ v c.in-Some.ensures.cases.0 c.in-Some-split_first.ensures.cases.0 first)
    (more_bad v (string_bytes c.in-Some-split_first.second.now) c.in-Some-split_first.more.now fits (grind (arith, nat_tests)))

pub returns-clause-asks : goal.returns-clause-asks
returns-clause-asks c =
    let v = c.in-Some-verb_of.verb in
    let first : string_bytes c.in-Some.first.now ≡ verb_text v = sym c.as_str.ensures.value ∙ c.in-Some-verb_of.ensures.some in
    let more : c.in-Some-split_first.more.now ≡ [] = empty_is c.in-Some-split_first.more.now (grind (arith, nat_tests)) in
    (v, c.as_str-2.result.now ∷ [], two_texts _ _ _ _ _ v c.in-Some.ensures.cases.0 c.in-Some-split_first.ensures.cases.0 first ∙ joined refl (joined (sym c.as_str-2.ensures.value) (ap (map string_bytes) more)), c.in-Some-command_with.ensures.some)
