-- A new request on a slot, by its parts.
use Rattle.std.proofs.Common.{◌≡◌, ℕ, Option, Some, None, refl}
use Rattle.n41_types.specs.declared.plans.Plan.{Plan}
use Rattle.n41_types.specs.Plans.{class_of, is_cached}
use Rattle.n41_results.specs.declared.sessions.SessionMade.{SessionMade}
use Rattle.n41_model.specs.declared.words.Setup.{Setup}
use Rattle.n41_view.specs.View.{View}
use Rattle.n41_view.specs.Due.{on_slot}
use Rattle.n41_view.specs.declared.tables.Slot.{Slot}
use Rattle.n41_due.specs.Places.{place_on, numbered}

pub placed : (u : Setup) (w : View) (p : Plan) (m : Option SessionMade) (s : Option Slot) (x : Option ℕ) → on_slot u w p m s x ≡ numbered u p (place_on w.slots (is_cached (class_of p)) m s) x
placed u w p None s x = refl
placed u w p (Some m) None x = refl
placed u w p (Some m) (Some s) None = refl
placed u w p (Some m) (Some s) (Some x) = refl
