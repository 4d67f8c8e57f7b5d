use Rattle.std.proofs.Common.{◌∙◌, sym, ap, arith, length, length-append, rules, List, ℕ, [], ◌∷◌, ◌++◌}
use Rattle.n41_link.proofs.Records.{gives_first, gave_all, wait_shrinks, none_more, none_waits, grows_on, gave_none}
use Rattle.n41_link.proofs.ear.Ear.hear.Goals as goal

pub returns-in-Some-clause-hears : goal.returns-in-Some-clause-hears
returns-in-Some-clause-hears g c =
    (c.in-Some.ensures.given ∙ ap (λ (t : List (List ℕ)). t ++ c.in-Some.body ∷ []) c.loop-body.invariant.given, gives_first _ c.in-Some.ensures.stands)

pub loop-body-smaller : goal.loop-body-smaller
loop-body-smaller g c =
    let none = none_waits _ _ c.in_default.ensures.none c.in_default.ensures.waiting in
    let all = gave_all c.next.new.self none (sym c.in-None.ensures.value) c.in-None.ensures.stands in
    wait_shrinks c.loop-body.self.gather c.next.new.self c.read.new.self.gather c.in_default.ensures.fed (none_more _ _ c.in_default.ensures.given) all c.in-Enough.ensures.given c.in-Enough.ensures.bytes

pub loop-body-preserved : goal.loop-body-preserved
loop-body-preserved g c =
    let inv = c.loop-body.invariant in
    let said = c.in-Enough.ensures in
    let grown = grows_on _ _ _ _ _ _ inv.grows.1 c.in_default.ensures.fed said.grows.1 in
    record {
      stills = record {
        silent = λ e. absurd (omega (arith, e, said.bytes, ap length c.in_default.ensures.fed, ap length inv.grows.1, length-append c.args.self.now.gather.fed inv.grows.0));
        heard = λ longer. said.stills.heard said.bytes;
      };
      given = said.given ∙ none_more _ _ c.in_default.ensures.given ∙ inv.given;
      waits = λ some. absurd (omega (arith, some, ap length (inv.waits some).0, ap length c.in_default.ensures.none));
      fault = said.fault ∙ inv.fault;
      grows = grown;
      faults = omega (arith, inv.faults, said.faults.later);
      quiets = omega (arith, inv.quiets, said.quiets.later);
      ends = omega (arith, inv.ends, said.ends.later);
    }

pub returns-in-NoMemory-clause-hears : goal.returns-in-NoMemory-clause-hears
returns-in-NoMemory-clause-hears g c =
    let none = none_waits _ _ c.in_default.ensures.none c.in_default.ensures.waiting in
    let said = c.in-NoMemory.ensures in
    gave_none c.next.new.self _ _ (said.same (search rules)) none (none_more _ _ c.in_default.ensures.given ∙ c.loop-body.invariant.given) c.in-None.ensures.stands
