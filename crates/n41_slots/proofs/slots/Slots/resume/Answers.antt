use Rattle.std.proofs.Common.{List, length, ap, sym, ◌∙◌, arith, subst}
use Rattle.std.proofs.lemmas.List.{length-map}
use Rattle.n41_slots.specs.declared.slots.Slot.{Slot}
use Rattle.n41_slots.specs.Slots.{count, idle, IsPlaced}
use Rattle.n41_slots.proofs.Counts.{count_idle}
use Rattle.n41_slots.proofs.Placed.{used_placed}
use Rattle.n41_slots.proofs.slots.Slots.resume.Goals as goal

pub invariant_of-result : goal.invariant_of-result
invariant_of-result c =
    let e = c.in_ok-used_slots.ensures in
    let l = ap (λ (ss : List Slot). length ss) e ∙ length-map c.args.used.now idle in
    let s = c.requires.some in
    let f = c.requires.few in
    record { some = omega arith; few = omega arith; counted = sym (ap (λ (ss : List Slot). count ss) e ∙ count_idle c.args.used.now); placed = subst (λ (ss : List Slot). IsPlaced (record { sid = c.args.sid; target = c.args.target; slots = ss })) (sym e) (used_placed c.args.sid c.args.target c.args.used.now) }
