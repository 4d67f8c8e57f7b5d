use Rattle.std.proofs.Common.{◌≡◌, true, slice_get, arith, subst, sym}
use Rattle.std.proofs.lemmas.List.{length-set}
use Rattle.n41_slots.specs.Slots.{is_free, Table, Asked, IsPlaced}
use Rattle.n41_slots.proofs.Counts.{count_most}
use Rattle.n41_slots.proofs.Changes.{free_within, count_taken, taken_is}
use Rattle.n41_slots.proofs.Placed.{taken_placed}
use Rattle.n41_slots.proofs.slots.Slots.take.Goals as goal

pub overflow_add-self : goal.overflow_add-self
overflow_add-self c =
    let e = count_most c.self.inside.slots.items in
    let f = c.self.invariant.few in
    let g = c.self.invariant.counted in
    omega arith

pub invariant_of-self : goal.invariant_of-self
invariant_of-self c =
    let f : is_free (slice_get c.self.inside.slots.items c.in-Some.n) ≡ true = rw (← c.self.view_is) at c.in-Some.ensures.some.free in
    let e = length-set c.self.inside.slots.items c.in-Some.n c.hold.new.self in
    let k = count_taken c.self.inside.slots.items c.in-Some.n c.index_mut.result.now c.hold.new.self _ c.index_mut.ensures.value f c.hold.ensures in
    let s = c.self.invariant.some in
    let w = c.self.invariant.few in
    let n = c.self.invariant.counted in
    let t : Table = record { sid = c.self.inside.sid; target = c.self.inside.target; slots = c.self.inside.slots.items } in
    let a : Asked = record { xid = c.args.xid; uid = c.args.uid; gid = c.args.gid; minor = c.args.minor; plan = c.args.plan } in
    let l = free_within c.self.inside.slots.items c.in-Some.n f in
    let q = taken_is t c.in-Some.n a c.index.result.now c.index_mut.result.now c.hold.new.self c.highest.result c.is_cached.result l c.index.ensures c.index_mut.ensures.value (rw c.deref.ensures.value at c.highest.ensures) c.is_cached.ensures c.hold.ensures in
    record { some = omega arith; few = omega arith; counted = omega arith; placed = subst (λ (z : Table). IsPlaced z) (sym q) (taken_placed t c.in-Some.n a l c.self.invariant.placed) }

pub returns-clause-ok : goal.returns-clause-ok
returns-clause-ok c =
    let f : is_free (slice_get c.self.inside.slots.items c.in-Some.n) ≡ true = rw (← c.self.view_is) at c.in-Some.ensures.some.free in
    let l = free_within c.self.inside.slots.items c.in-Some.n f in
    rw (← c.self.view_is) (taken_is (record { sid = c.self.inside.sid; target = c.self.inside.target; slots = c.self.inside.slots.items }) c.in-Some.n (record { xid = c.args.xid; uid = c.args.uid; gid = c.args.gid; minor = c.args.minor; plan = c.args.plan }) c.index.result.now c.index_mut.result.now c.hold.new.self c.highest.result c.is_cached.result l c.index.ensures c.index_mut.ensures.value (rw c.deref.ensures.value at c.highest.ensures) c.is_cached.ensures c.hold.ensures)
