-- What a client wants next (own).
use Rattle.std.specs.Prelude.{◌≡◌, ℕ, ◌+◌, ◌^◌, ◌-◌, min, Bool, true, false, ◌&&◌, ◌||◌, ◌⊎◌, List, [], ◌∷◌, Option, Some, None, if◌then◌else◌, nat_le, is_none, is_some, IsSome}
use Rattle.n41_types.specs.declared.commands.Command.{Command}
use Rattle.n41_types.specs.declared.commands.Command.TheVariants as asks
use Rattle.n41_model.specs.declared.words.Item.{Item}
use Rattle.n41_model.specs.declared.words.Sent.{Sent}
use Rattle.n41_model.specs.declared.words.Sent.TheVariants.{Never, Waits, Delayed, Unbound}
use Rattle.n41_model.specs.declared.words.Setup.{Setup}
use Rattle.n41_view.specs.View.{View}
use Rattle.n41_view.specs.Due.{any_waiting, put_off_in, due_in, has_ended_in}
use Rattle.n41_view.specs.declared.tables.Facts.{Facts}
use Rattle.n41_view.specs.declared.tables.Held.{Held}
use Rattle.n41_view.specs.declared.tables.Seat.{Seat}
use Rattle.n41_view.specs.declared.tables.Slot.{Slot}
use Rattle.n41_wants.specs.declared.wants.Want.{Want}
use Rattle.n41_wants.specs.declared.wants.Want.TheVariants as want

-- ---- moments that are waited for

-- two seconds after this moment, where that lies ahead; no clock goes past the last moment
abbrev pub ahead : ℕ → Option ℕ → Option ℕ
ahead m None = None
ahead m (Some t) = if nat_le (t + 2) m then None else Some (min (t + 2) (2 ^ 64 - 1))

abbrev pub delay_in : Sent → Option ℕ
delay_in Never = None
delay_in Waits = None
delay_in (Delayed t) = Some t
delay_in Unbound = None

-- when the request on a slot goes again after a DELAY
abbrev pub held_wait : ℕ → Option Held → Option ℕ
held_wait m None = None
held_wait m (Some h) = ahead m (delay_in h.sent)

abbrev pub earlier : Option ℕ → Option ℕ → Option ℕ
earlier None o = o
earlier (Some a) None = Some a
earlier (Some a) (Some b) = Some (min a b)

-- when a pause is over that began at this moment
abbrev pub pause_wait : ℕ → Option Command → Option ℕ
pause_wait b (Some (asks.Pause s)) = Some (min (b + s) (2 ^ 64 - 1))
pause_wait b k = None

-- when the command is tried again after a DELAY or GRACE, or is over as a pause
abbrev pub seat_wait : ℕ → Seat → Option ℕ
seat_wait m s =
    if is_none s.command || s.busy || is_some s.earned then None else earlier (ahead m s.since) (pause_wait s.began_on s.command)

-- the earliest of this moment and of those that these slots wait for
abbrev pub slots_wait : ℕ → List Slot → Option ℕ → Option ℕ
slots_wait m [] best = best
slots_wait m (s ∷ ss) best = slots_wait m ss (earlier best (held_wait m s.held))

abbrev pub seats_wait : ℕ → List Seat → Option ℕ → Option ℕ
seats_wait m [] best = best
seats_wait m (s ∷ ss) best = seats_wait m ss (earlier best (seat_wait m s))

-- when the request of the phase, which was put off, goes again
abbrev pub phase_wait : Facts → Option ℕ
phase_wait f = ahead f.moment (put_off_in f.put_off f.phase)

-- the earliest moment at which a request or a command stops waiting
abbrev pub wait_in : View → Option ℕ
wait_in w = seats_wait w.facts.moment w.seats (slots_wait w.facts.moment w.slots (phase_wait w.facts))

-- ---- what is wanted

-- a request waits for its reply on the standing connection
abbrev pub awaits_in : View → Bool
awaits_in w = (is_some w.bare && w.facts.bare_waits) || any_waiting w.slots

-- the run goes on, on this connection
pub record RunsOn (w : View) (c : ℕ) : Type 0 where
  pub goes_on : has_ended_in w ≡ false
  pub stands : w.facts.standing ≡ Some c

abbrev pub NothingDueIn : Setup → View → Type 0
NothingDueIn u w = (i : Item) → due_in u w i ≡ None

-- nothing is due or awaited, and this is the first moment at which something stops waiting
pub record IsPause (u : Setup) (w : View) (m c : ℕ) : Type 0 where
  pub runs : RunsOn w c
  pub idle : NothingDueIn u w
  pub quiet : awaits_in w ≡ false
  pub waits : wait_in w ≡ Some m

-- nothing is due, and a reply is awaited or nothing waits for a moment
pub record IsRead (u : Setup) (w : View) (c : ℕ) : Type 0 where
  pub runs : RunsOn w c
  pub idle : NothingDueIn u w
  pub waits : (awaits_in w ≡ true) ⊎ (wait_in w ≡ None)

-- what is wanted, and where
abbrev pub WantIn : Setup → View → Want → Type 0
WantIn u w want.Dial = (has_ended_in w ≡ false) × (w.facts.standing ≡ None)
WantIn u w (want.Send c) = RunsOn w c × ((i : Item) × IsSome (due_in u w i))
WantIn u w (want.Read c) = IsRead u w c
WantIn u w (want.Pause m) = (c : ℕ) × IsPause u w m c
WantIn u w want.Nothing = has_ended_in w ≡ true
