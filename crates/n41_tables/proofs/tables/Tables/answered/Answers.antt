use Rattle.std.proofs.Common.{◌≡◌, ◌∙◌, List, map, slice_get, ap}
use Rattle.std.specs.Vec.{with_items}
use Rattle.n41_types.specs.declared.commands.Answer.TheVariants as answers
use Rattle.n41_journal.specs.declared.events.Event.TheVariants.{Answered}
use Rattle.n41_view.specs.declared.tables.Seat.{Seat}
use Rattle.n41_view.specs.View.{View}
use Rattle.n41_view.specs.Step.{step, answered_seat}
use Rattle.n41_tables.specs.Earned.{earned_at}
use Rattle.n41_tables.proofs.Moved.{ready, with_map, answered_moved}
use Rattle.n41_tables.proofs.tables.Tables.answered.Goals as goal

pub invariant_of-self : goal.invariant_of-self
invariant_of-self c =
    let q : (with_items c.self.inside.seats c.answered_seats-earned.new.seats).items ≡ map (answered_seat c.args.caller) c.self.inside.seats.items = with_map c.self.inside.seats (answered_seat c.args.caller) c.deref_mut.result.now c.answered_seats-earned.new.seats c.deref_mut.ensures.value c.answered_seats-earned.ensures.seats in
    ready c.self.inside (record { facts = c.counted.new.facts; bare = c.self.inside.bare; slots = c.self.inside.slots; seats = with_items c.self.inside.seats c.answered_seats-earned.new.seats }) (Answered c.args.caller 0 answers.Unknown) c.self.invariant
    (answered_moved c.self.inside c.counted.new.facts (with_items c.self.inside.seats c.answered_seats-earned.new.seats).items c.args.caller 0 answers.Unknown c.counted.ensures q)
    c.self.invariant.room

pub returns-clause-earned : goal.returns-clause-earned
returns-clause-earned c =
    c.answered_seats-earned.ensures.earned
    ∙ (ap (λ (xs : List Seat). earned_at (slice_get xs c.args.caller)) c.deref_mut.ensures.value
    ∙ ap (λ (w : View). earned_at (slice_get w.seats c.args.caller)) c.self.view_is)

pub returns-clause-moved : goal.returns-clause-moved
returns-clause-moved c n a =
    let q : (with_items c.self.inside.seats c.answered_seats-earned.new.seats).items ≡ map (answered_seat c.args.caller) c.self.inside.seats.items = with_map c.self.inside.seats (answered_seat c.args.caller) c.deref_mut.result.now c.answered_seats-earned.new.seats c.deref_mut.ensures.value c.answered_seats-earned.ensures.seats in
    answered_moved c.self.inside c.counted.new.facts (with_items c.self.inside.seats c.answered_seats-earned.new.seats).items c.args.caller n a c.counted.ensures q
    ∙ ap (λ (w : View). step w (Answered c.args.caller n a)) c.self.view_is
