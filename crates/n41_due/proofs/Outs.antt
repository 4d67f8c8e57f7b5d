-- The requests that are out, by their parts.
use Rattle.std.proofs.Common.{◌≡◌, ℕ, suc, ◌+◌, ◌-◌, ◌<◌, true, ◌||◌, List, [], ◌∷◌, ◌++◌, length, Option, Some, None, refl, ◌∙◌, ap, arith}
use Rattle.std.proofs.lemmas.Grind.{common_steps}
use Rattle.n41_types.specs.declared.plans.Request.{Request}
use Rattle.n41_model.specs.Requests.{knows}
use Rattle.n41_model.specs.Sessions.{xid_after, unused_xid}
use Rattle.n41_view.specs.View.{View}
use Rattle.n41_view.specs.Step.{has, request_in, holds, alone, held_requests, requests}
use Rattle.n41_view.specs.Due.{any_held}
use Rattle.n41_view.specs.declared.tables.Slot.{Slot}

pub knows_alone : (o : Option Request) (rs : List Request) (x : ℕ) → knows (alone o ++ rs) x ≡ (has x o || knows rs x)
knows_alone None rs x = refl
knows_alone (Some r) rs x = refl

pub knows_held : (ss : List Slot) (x : ℕ) → knows (held_requests ss) x ≡ any_held (holds x) ss
knows_held [] x = refl
knows_held (s ∷ ss) x = rw (knows_alone (request_in s.held) (held_requests ss) x, knows_held ss x) refl

-- a request that is out is the one without a slot, or on a slot
pub knows_out : (w : View) (x : ℕ) → knows (requests w) x ≡ (has x w.bare || any_held (holds x) w.slots)
knows_out w x = rw (knows_alone w.bare (held_requests w.slots) x, knows_held w.slots x) refl

pub length_alone : (o : Option Request) (rs : List Request) → length (alone o ++ rs) ≡ length (alone o) + length rs
length_alone None rs = grind arith
length_alone (Some r) rs = grind (arith, common_steps)

-- an xid that a request has is passed over
pub passed_over : (rs : List Request) (x y n t : ℕ) → t < n → knows rs x ≡ true → y ≡ xid_after x → unused_xid rs x (n - t) ≡ unused_xid rs y (n - (t + 1))
passed_over rs x y n t l k e =
    let q : n - t ≡ suc (n - (t + 1)) = omega arith in
    ap (unused_xid rs x) q ∙ rw (k, e) refl
