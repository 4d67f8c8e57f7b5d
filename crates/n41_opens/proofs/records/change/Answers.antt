use Rattle.std.proofs.Common.{sym, ◌∙◌, ap}
use Rattle.std.specs.Option.{option_copied_mut}
use Rattle.n41_opens.proofs.Steps.{change_ok, change_err}
use Rattle.n41_opens.proofs.records.change.Goals as goal

pub returns-in-Some-clause-ok : goal.returns-in-Some-clause-ok
returns-in-Some-clause-ok c =
    let e = sym c.get_mut.ensures.value ∙ ap (λ o. option_copied_mut o) c.in-Some.is in
    change_ok c.args.records.now.entries (c.get_mut.follows.lender c.tell.new.kept).entries c.args.id.now c.args.s c.in-Some.kept.now c.tell.new.kept c.tell.result c.get_mut.ensures.ordered e (c.get_mut.follows.holds c.tell.new.kept).0 c.tell.ensures.ok

pub returns-in-Some-clause-err : goal.returns-in-Some-clause-err
returns-in-Some-clause-err c =
    let e = sym c.get_mut.ensures.value ∙ ap (λ o. option_copied_mut o) c.in-Some.is in
    change_err c.args.records.now.entries (c.get_mut.follows.lender c.tell.new.kept).entries c.args.id.now c.in-Some.kept.now c.tell.new.kept c.tell.result e (c.get_mut.follows.holds c.tell.new.kept).0 c.tell.ensures.err
