use Rattle.std.proofs.Common.{◌≡◌, ◌==◌, ◌++◌, ◌∷◌, [], ◌∙◌, ap, sym, map, length, Err, ℕ, List, arith, rules, tests, length-append}
use Rattle.std.proofs.lemmas.Iterator.Consumers.{YieldsList-turn, YieldsList-end, YieldsList-at}
use Rattle.std.proofs.lemmas.Iterator.Splits.{YieldsList-from_slice_split}
use Rattle.std.proofs.lemmas.List.{length-map, map-append}
use Rattle.std.specs.List.{slice_split}
use Rattle.n41_commands.proofs.Steps.{too_many, no_step, one_more, a_path}
use Rattle.n41_commands.proofs.paths.steps.Goals as goal

pub returns-then-len-eq-PATH_LIMIT : goal.returns-then-len-eq-PATH_LIMIT
returns-then-len-eq-PATH_LIMIT c =
    let t = YieldsList-turn (YieldsList-at c.into_iter-name-iterator.ensures.into_iter_gives (YieldsList-from_slice_split _ (λ b. b == 47) c.args.text.now c.split-name-items.ensures.rest c.split-name-items.ensures.done c.split-name-items.ensures.closure (λ x r q k. search (rules, tests)))) c.loop-name.yielded _ c.loop-name.yielded_by _ _ c.in-Some.name c.in-Some.is c.next.ensures.steps in
    let l : length c.loop-name.names.items ≡ length c.loop-name.yielded = ap length c.loop-name.invariant.2 ∙ length-map c.loop-name.yielded _ in
    too_many (slice_split (λ b. b == 47) c.args.text.now) (omega (arith, t.0, l, c.len.ensures, c.loop-name.names.ok.0))

pub returns-in_err-step : goal.returns-in_err-step
returns-in_err-step c =
    let t = YieldsList-turn (YieldsList-at c.into_iter-name-iterator.ensures.into_iter_gives (YieldsList-from_slice_split _ (λ b. b == 47) c.args.text.now c.split-name-items.ensures.rest c.split-name-items.ensures.done c.split-name-items.ensures.closure (λ x r q k. search (rules, tests)))) c.loop-name.yielded _ c.loop-name.yielded_by _ _ c.in-Some.name c.in-Some.is c.next.ensures.steps in
    let e : c.from_residual.result ≡ Err c.in_err-step.field-0.0 = search rules in
    rw e (no_step (slice_split (λ b. b == 47) c.args.text.now) c.in-Some.name.now _ c.in_err-step.field-0.0 t c.in_err-step.ensures)

pub loop-name-preserved : goal.loop-name-preserved
loop-name-preserved c =
    let m = one_more c.loop-name.names.items c.in-Some.name.now c.in_ok-step.field-0 c.loop-name.invariant.3 c.in_ok-step.ensures in
    record {
      0 = search rules;
      1 = tt;
      2 = c.in_ok-push.ensures.items ∙ ap (λ (ns : List (List ℕ)). ns ++ c.in_ok-step.field-0 ∷ []) c.loop-name.invariant.2 ∙ ap (λ (n : List ℕ). map (λ x. x.now) c.loop-name.yielded ++ n ∷ []) m.1 ∙ sym (map-append _ c.loop-name.yielded (c.in-Some.name ∷ []));
      3 = rw c.in_ok-push.ensures.items m.0;
      4 = rw (c.in_ok-push.ensures.items, length-append) (omega arith);
    }

pub returns : goal.returns
returns c =
    let t = YieldsList-end (YieldsList-at c.into_iter-name-iterator.ensures.into_iter_gives (YieldsList-from_slice_split _ (λ b. b == 47) c.args.text.now c.split-name-items.ensures.rest c.split-name-items.ensures.done c.split-name-items.ensures.closure (λ x r q k. search (rules, tests)))) c.loop-name.yielded _ c.loop-name.yielded_by _ _ c.in-None.is c.next.ensures.steps in
    let n = c.loop-name.invariant.2 ∙ t.0 in
    rw c.in_ok-from_vec.ensures (a_path (slice_split (λ b. b == 47) c.args.text.now) c.loop-name.names.items n c.loop-name.invariant.3 c.loop-name.invariant.4)
