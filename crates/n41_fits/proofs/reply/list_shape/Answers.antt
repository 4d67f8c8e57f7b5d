use Rattle.std.proofs.Common.{◌≡◌, ◌∙◌, ◌+◌, ◌==◌, ℕ, List, length, drop, slice_get, true, false, refl, sym, ap, subst, arith}
use Rattle.std.proofs.lemmas.Bool.{not-true, not-false}
use Rattle.std.proofs.lemmas.List.{take_rest}
use Rattle.std.proofs.lemmas.Option.{slice_get_read}
use Rattle.std.proofs.Math.Seq.{drop-length}
use Rattle.std.specs.Option.{option_map}
use Rattle.n41_types.specs.declared.statuses.Status.{Status}
use Rattle.n41_results.specs.declared.results.Res.{Res}
use Rattle.n41_results.specs.Results.{status_of}
use Rattle.n41_results.specs.Shapes.{asked_of, told, nothing_after, shape_from}
use Rattle.n41_fits.specs.Answers.{answers}
use Rattle.n41_fits.proofs.Going.{misfits, unasked_told, ends_there, goes_on}
use Rattle.n41_fits.proofs.reply.list_shape.Goals as goal

pub returns-then-not-is_answer : goal.returns-then-not-is_answer
returns-then-not-is_answer c =
    let x = c.index-list-place.result in
    let there = slice_get_read c.args.list.now (length c.args.list.now) c.loop-place.place x refl c.loop-place-test.true c.index-list-place.is in
    let a : answers (slice_get (asked_of c.args.request.now) c.loop-place.place) x ≡ false = ap (λ w. answers w x) (sym c.asked.ensures) ∙ sym c.is_answer.ensures ∙ c.if-not-is_answer.true in
    c.unfit.ensures ∙ ap (option_map told) (sym (c.loop-place.invariant ∙ misfits c.args.request.now.plan c.loop-place.place (asked_of c.args.request.now) c.args.list.now x there a))

pub returns-in-Some : goal.returns-in-Some
returns-in-Some c =
    let x = c.index-list-place.result in
    let there = slice_get_read c.args.list.now (length c.args.list.now) c.loop-place.place x refl c.loop-place-test.true c.index-list-place.is in
    let a : answers (slice_get (asked_of c.args.request.now) c.loop-place.place) x ≡ true = ap (λ w. answers w x) (sym c.asked.ensures) ∙ sym c.is_answer.ensures ∙ c.if-not-is_answer.false in
    ap (option_map told) (sym (c.loop-place.invariant ∙ unasked_told c.args.request.now.plan c.loop-place.place (asked_of c.args.request.now) c.args.list.now x c.in-Some.attribute there a (sym c.unasked_in.ensures ∙ c.in-Some.is)))

pub returns-then-ne : goal.returns-then-ne
returns-then-ne c =
    let x = c.index-list-place.result in
    let n = c.loop-place.place in
    let there = slice_get_read c.args.list.now (length c.args.list.now) n x refl c.loop-place-test.true c.index-list-place.is in
    let a : answers (slice_get (asked_of c.args.request.now) n) x ≡ true = ap (λ w. answers w x) (sym c.asked.ensures) ∙ sym c.is_answer.ensures ∙ c.if-not-is_answer.false in
    let s : ((status_of x).0 == 0) ≡ false = ap (λ (t : Status). t.0 == 0) (sym c.status.ensures) ∙ not-true _ (sym c.ne.ensures ∙ c.if-ne.true) in
    let ends = ends_there c.args.request.now.plan n (asked_of c.args.request.now) c.args.list.now x there a (sym c.unasked_in.ensures ∙ c.in_default.is) s in
    c.after_failure.ensures
    ∙ ap (λ (rest : List Res). option_map told (nothing_after (n + 1) (drop (n + 1) (asked_of c.args.request.now)) rest)) (take_rest c.args.list.now (n + 1))
    ∙ ap (option_map told) (sym (c.loop-place.invariant ∙ ends))

pub returns : goal.returns
returns c =
    let end : c.loop-place.place ≡ length c.args.list.now = omega (arith, c.loop-place-test.false, c.loop-place.auto.place-end) in
    let at_end = subst (λ (n : ℕ). shape_from c.args.request.now.plan 0 (asked_of c.args.request.now) c.args.list.now ≡ shape_from c.args.request.now.plan n (drop n (asked_of c.args.request.now)) (drop n c.args.list.now)) end c.loop-place.invariant in
    let all_gone = ap (shape_from c.args.request.now.plan (length c.args.list.now) (drop (length c.args.list.now) (asked_of c.args.request.now))) (drop-length c.args.list.now) in
    c.ended.ensures ∙ ap (option_map told) (sym (at_end ∙ all_gone))

pub loop-place-preserved : goal.loop-place-preserved
loop-place-preserved c =
    let x = c.index-list-place.result in
    let n = c.loop-place.place in
    let there = slice_get_read c.args.list.now (length c.args.list.now) n x refl c.loop-place-test.true c.index-list-place.is in
    let a : answers (slice_get (asked_of c.args.request.now) n) x ≡ true = ap (λ w. answers w x) (sym c.asked.ensures) ∙ sym c.is_answer.ensures ∙ c.if-not-is_answer.false in
    let s : ((status_of x).0 == 0) ≡ true = ap (λ (t : Status). t.0 == 0) (sym c.status.ensures) ∙ not-false _ (sym c.ne.ensures ∙ c.if-ne.false) in
    c.loop-place.invariant ∙ goes_on c.args.request.now.plan n (asked_of c.args.request.now) c.args.list.now x there a (sym c.unasked_in.ensures ∙ c.in_default.is) s
