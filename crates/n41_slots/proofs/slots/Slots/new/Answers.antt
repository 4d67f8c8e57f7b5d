use Rattle.std.proofs.Common.{List, length, ap, sym, ◌∙◌, arith, subst}
use Rattle.std.proofs.lemmas.List.{length-replicate}
use Rattle.n41_slots.specs.declared.slots.Slot.{Slot}
use Rattle.n41_slots.specs.Slots.{count, idle, IsPlaced}
use Rattle.n41_slots.proofs.Counts.{count_new}
use Rattle.n41_slots.proofs.Placed.{new_placed}
use Rattle.n41_slots.proofs.slots.Slots.new.Goals as goal

pub invariant_of-result : goal.invariant_of-result
invariant_of-result c =
    let e = c.in_ok-new_slots.ensures in
    let l = ap (λ (ss : List Slot). length ss) e ∙ length-replicate c.args.n (idle 0) in
    let s = c.requires.some in
    let f = c.requires.few in
    record { some = omega arith; few = omega arith; counted = sym (ap (λ (ss : List Slot). count ss) e ∙ count_new c.args.n); placed = subst (λ (ss : List Slot). IsPlaced (record { sid = c.args.sid; target = c.args.target; slots = ss })) (sym e) (new_placed c.args.sid c.args.target c.args.n) }
