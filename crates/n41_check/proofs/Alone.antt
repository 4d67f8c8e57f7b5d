-- A request that goes to the only caller there is, or to none.
use Rattle.std.proofs.Common.{◌≡◌, ℕ, Bool, true, false, [], ◌∷◌, Option, Some, None, refl}
use Rattle.std.specs.Prelude.{is_some}
use Rattle.n41_types.specs.declared.plans.Request.{Request}
use Rattle.n41_model.specs.Requests.{slot_number}
use Rattle.n41_model.specs.declared.words.Phase.TheVariants.{Running}
use Rattle.n41_view.specs.Step.{is_new_in, new_owner, wants}
use Rattle.n41_view.specs.View.{View}
use Rattle.n41_view.specs.declared.tables.Facts.{Facts}
use Rattle.n41_view.specs.declared.tables.Seat.{Seat}

-- tables with this caller alone
abbrev pub alone_in : Facts → Seat → View
alone_in f s = record { facts = f; bare = None; slots = []; seats = s ∷ [] }

is_new_alone : (f : Facts) (s : Seat) (r : Request) (o : Option ℕ) → is_new_in (alone_in f s) r o ≡ true
is_new_alone f s r None = refl
is_new_alone f s r (Some n) = refl

some_if : (f : Facts) (s : Seat) (r : Request) (b : Bool) → wants f.moment f.session r.plan s ≡ b → f.phase ≡ Running → is_some (new_owner (alone_in f s) r) ≡ b
some_if f s r true e g = rw (is_new_alone f s r (slot_number r.slot), g, e) refl
some_if f s r false e g = rw (is_new_alone f s r (slot_number r.slot), g, e) refl

pub wants_alone : (f : Facts) (s : Seat) (r : Request) → f.phase ≡ Running → is_some (new_owner (alone_in f s) r) ≡ wants f.moment f.session r.plan s
wants_alone f s r g = some_if f s r (wants f.moment f.session r.plan s) refl g
