use Rattle.std.proofs.Common.{◌≤◌, ◌∙◌, ap, vec_capacity, arith}
use Rattle.std.specs.Vec.{with_items}
use Rattle.n41_journal.specs.declared.events.Event.TheVariants.{Took}
use Rattle.n41_view.specs.View.{View}
use Rattle.n41_view.specs.Step.{step, took_slot, took_seat}
use Rattle.n41_tables.proofs.Moved.{ready, with_map, took_moved, said_is}
use Rattle.n41_tables.proofs.tables.Tables.took.Goals as goal

pub invariant_of-self : goal.invariant_of-self
invariant_of-self c =
    let a = said_is c.self.inside c.args.reply c.of-said.result _ c.deref.result.now c.as_ref.ensures.value c.deref.ensures.value c.of-said.ensures in
    let q = with_map c.self.inside.seats (took_seat c.self.inside.facts.moment c.of-said.result c.args.reply) c.deref_mut.result.now c.took_seats.new.seats c.deref_mut.ensures.value c.took_seats.ensures in
    let u = with_map c.self.inside.slots (took_slot c.self.inside.facts.moment c.args.reply) c.deref_mut-2.result.now c.took_slots.new.slots c.deref_mut-2.ensures.value c.took_slots.ensures in
    let l : 64 ≤ vec_capacity c.slots_made.new.slots = omega (arith, c.slots_made.ensures.capacity, c.self.invariant.room) in
    ready c.self.inside (record { facts = c.counted.new.facts; bare = c.took_bare.new.bare; slots = c.slots_made.new.slots; seats = with_items c.self.inside.seats c.took_seats.new.seats }) (Took 0 0 c.args.reply) c.self.invariant
    (took_moved c.self.inside c.counted.new.facts c.took_facts.new.facts c.took_bare.new.bare c.slots_made.new.slots.items (with_items c.self.inside.slots c.took_slots.new.slots).items (with_items c.self.inside.seats c.took_seats.new.seats).items c.args.reply c.of-said.result c.made-made.result a c.made-made.ensures c.took_facts.ensures c.counted.ensures c.took_bare.ensures u c.slots_made.ensures.items q)
    l

pub returns : goal.returns
returns c =
    let a = said_is c.self.inside c.args.reply c.of-said.result _ c.deref.result.now c.as_ref.ensures.value c.deref.ensures.value c.of-said.ensures in
    let q = with_map c.self.inside.seats (took_seat c.self.inside.facts.moment c.of-said.result c.args.reply) c.deref_mut.result.now c.took_seats.new.seats c.deref_mut.ensures.value c.took_seats.ensures in
    let u = with_map c.self.inside.slots (took_slot c.self.inside.facts.moment c.args.reply) c.deref_mut-2.result.now c.took_slots.new.slots c.deref_mut-2.ensures.value c.took_slots.ensures in
    took_moved c.self.inside c.counted.new.facts c.took_facts.new.facts c.took_bare.new.bare c.slots_made.new.slots.items (with_items c.self.inside.slots c.took_slots.new.slots).items (with_items c.self.inside.seats c.took_seats.new.seats).items c.args.reply c.of-said.result c.made-made.result a c.made-made.ensures c.took_facts.ensures c.counted.ensures c.took_bare.ensures u c.slots_made.ensures.items q
    ∙ ap (λ (w : View). step w (Took 0 0 c.args.reply)) c.self.view_is
