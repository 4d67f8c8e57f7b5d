-- Where a new request goes, and what it is made of (RFC 8881, section 2.10.6.1).
use Rattle.std.specs.Prelude.{ℕ, ◌+◌, Bool, List, Option, Some, None}
use Rattle.n41_types.specs.declared.plans.Plan.{Plan}
use Rattle.n41_types.specs.declared.plans.Request.{Request}
use Rattle.n41_types.specs.declared.plans.SlotUse.{SlotUse}
use Rattle.n41_results.specs.declared.sessions.SessionMade.{SessionMade}
use Rattle.n41_model.specs.declared.words.Setup.{Setup}
use Rattle.n41_view.specs.Due.{highest_in}
use Rattle.n41_view.specs.declared.tables.Slot.{Slot}

-- the next turn on this slot of this session
abbrev pub place_on : List Slot → Bool → Option SessionMade → Option Slot → Option SlotUse
place_on ss k (Some m) (Some s) = Some (record { sid = m.sid; slot = s.number; turn = s.used + 1; highest = highest_in ss s.number; cache = k })
place_on ss k m s = None

abbrev pub numbered : Setup → Plan → Option SlotUse → Option ℕ → Option Request
numbered u p (Some q) (Some x) = Some (record { xid = x; uid = u.uid; gid = u.gid; minor = 1; slot = Some q; plan = p })
numbered u p q x = None
