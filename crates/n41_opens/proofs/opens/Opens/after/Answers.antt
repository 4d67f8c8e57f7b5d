use Rattle.std.proofs.Common.{option_map, sym, ◌∙◌, ap}
use Rattle.n41_opens.specs.Opens.{told_row}
use Rattle.n41_opens.proofs.After.{after_some, after_none}
use Rattle.n41_opens.proofs.opens.Opens.after.Goals as goal

pub returns-in_default : goal.returns-in_default
returns-in_default c =
    let s = c.in_default.ensures.steps in
    rw (← c.self.view_is) (sym (ap (λ x. option_map told_row x) (after_none c.self.inside.handles.entries c.args.handle (sym (c.range-greater.ensures.between tt) ∙ s.0))))

pub returns : goal.returns
returns c =
    let s = c.in-Some.ensures.steps in
    rw (← c.self.view_is) (sym (ap (λ x. option_map told_row x) (after_some c.self.inside.handles.entries c.args.handle (c.in-Some.number.now, c.in-Some.held.now) c.next.new.self (sym (c.range-greater.ensures.between tt) ∙ s))))
