-- The request without a slot, where its reply is overdue.
use Rattle.std.specs.Prelude.{ℕ, ◌+◌, Bool, ◌&&◌, nat_le}
use Rattle.n41_view.specs.View.{View}
use Rattle.n41_view.specs.Step.{has}

-- it has this xid, was put on the connection at least 60 seconds ago, and has no reply
abbrev pub is_bare_old : View → ℕ → Bool
is_bare_old w x = has x w.bare && w.facts.bare_waits && nat_le (w.facts.bare_put_at + 60) w.facts.moment
