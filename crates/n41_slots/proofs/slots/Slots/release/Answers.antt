use Rattle.std.proofs.Common.{◌≡◌, ◌<◌, length, ◌∙◌, arith, subst, sym}
use Rattle.std.proofs.lemmas.List.{length-set}
use Rattle.n41_slots.specs.Slots.{ones, Table, IsPlaced}
use Rattle.n41_slots.proofs.Changes.{count_left, count_released, released_is, request_is}
use Rattle.n41_slots.proofs.Placed.{released_placed}
use Rattle.n41_slots.proofs.slots.Slots.release.Goals as goal

pub overflow_sub-self : goal.overflow_sub-self
overflow_sub-self c =
    let l : c.args.slot < length c.self.inside.slots.items = omega arith in
    let e = count_left c.self.inside.slots.items c.args.slot c.index_mut.result.now l c.index_mut.ensures.value in
    let o : c.ones.result ≡ ones c.index_mut.result.now.request = rw c.leave-request.ensures.value at c.ones.ensures in
    let n = c.self.invariant.counted in
    omega arith

pub invariant_of-self : goal.invariant_of-self
invariant_of-self c =
    let l : c.args.slot < length c.self.inside.slots.items = omega arith in
    let e = length-set c.self.inside.slots.items c.args.slot c.leave-request.new.self in
    let k = count_released c.self.inside.slots.items c.args.slot c.args.used c.index_mut.result.now c.leave-request.new.self l c.index_mut.ensures.value c.leave-request.ensures.slot in
    let o : c.ones.result ≡ ones c.index_mut.result.now.request = rw c.leave-request.ensures.value at c.ones.ensures in
    let s = c.self.invariant.some in
    let w = c.self.invariant.few in
    let n = c.self.invariant.counted in
    let t : Table = record { sid = c.self.inside.sid; target = c.self.inside.target; slots = c.self.inside.slots.items } in
    let q = released_is t c.args.slot c.args.used c.index_mut.result.now c.leave-request.new.self l c.index_mut.ensures.value c.leave-request.ensures.slot in
    record { some = omega arith; few = omega arith; counted = omega arith; placed = subst (λ (z : Table). IsPlaced z) (sym q) (released_placed t c.args.slot c.args.used l c.self.invariant.placed) }

pub returns-clause-value : goal.returns-clause-value
returns-clause-value c =
    let l : c.args.slot < length c.self.inside.slots.items = omega arith in
    rw (← c.self.view_is) (c.leave-request.ensures.value ∙ request_is (record { sid = c.self.inside.sid; target = c.self.inside.target; slots = c.self.inside.slots.items }) c.args.slot c.index_mut.result.now l c.index_mut.ensures.value)

pub returns-clause-table : goal.returns-clause-table
returns-clause-table c =
    let l : c.args.slot < length c.self.inside.slots.items = omega arith in
    rw (← c.self.view_is) (released_is (record { sid = c.self.inside.sid; target = c.self.inside.target; slots = c.self.inside.slots.items }) c.args.slot c.args.used c.index_mut.result.now c.leave-request.new.self l c.index_mut.ensures.value c.leave-request.ensures.slot)
