use Rattle.std.proofs.Common.{◌≡◌, ◌+◌, ◌∙◌, map, ap}
use Rattle.std.specs.Vec.{with_items}
use Rattle.n41_journal.specs.declared.events.Event.TheVariants.{Began}
use Rattle.n41_view.specs.View.{View}
use Rattle.n41_view.specs.Step.{step, began_seat}
use Rattle.n41_tables.proofs.Moved.{ready, with_map, began_moved}
use Rattle.n41_tables.proofs.tables.Tables.began.Goals as goal

pub invariant_of-self : goal.invariant_of-self
invariant_of-self c =
    let q : (with_items c.self.inside.seats c.began_seats.new.seats).items ≡ map (began_seat c.args.caller c.args.number c.args.command c.args.moment (c.self.inside.facts.events + 1)) c.self.inside.seats.items = with_map c.self.inside.seats (began_seat c.args.caller c.args.number c.args.command c.args.moment (c.self.inside.facts.events + 1)) c.deref_mut.result.now c.began_seats.new.seats c.deref_mut.ensures.value c.began_seats.ensures in
    ready c.self.inside (record { facts = c.counted.new.facts; bare = c.self.inside.bare; slots = c.self.inside.slots; seats = with_items c.self.inside.seats c.began_seats.new.seats }) (Began c.args.caller c.args.number c.args.command c.args.moment) c.self.invariant
    (began_moved c.self.inside c.counted.new.facts (with_items c.self.inside.seats c.began_seats.new.seats).items c.args.caller c.args.number c.args.command c.args.moment c.counted.ensures q)
    c.self.invariant.room

pub returns : goal.returns
returns c =
    let q : (with_items c.self.inside.seats c.began_seats.new.seats).items ≡ map (began_seat c.args.caller c.args.number c.args.command c.args.moment (c.self.inside.facts.events + 1)) c.self.inside.seats.items = with_map c.self.inside.seats (began_seat c.args.caller c.args.number c.args.command c.args.moment (c.self.inside.facts.events + 1)) c.deref_mut.result.now c.began_seats.new.seats c.deref_mut.ensures.value c.began_seats.ensures in
    began_moved c.self.inside c.counted.new.facts (with_items c.self.inside.seats c.began_seats.new.seats).items c.args.caller c.args.number c.args.command c.args.moment c.counted.ensures q
    ∙ ap (λ (w : View). step w (Began c.args.caller c.args.number c.args.command c.args.moment)) c.self.view_is
