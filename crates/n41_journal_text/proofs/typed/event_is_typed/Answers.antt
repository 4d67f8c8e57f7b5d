use Rattle.std.proofs.Common.{sym, subst}
use Rattle.hex.specs.Hex.{IsBytes}
use Rattle.n41_journal.specs.declared.events.Event.{Event}
use Rattle.n41_journal_text.specs.Text.{message}
use Rattle.n41_journal_text.specs.Words.{IsLegible}
use Rattle.n41_journal_text.proofs.typed.event_is_typed.Goals as goal

pub returns-in-Put : goal.returns-in-Put
returns-in-Put c = λ said bytes.
    subst IsLegible (sym c.in-Put.is) (c.is_place.ensures.conn, c.is_place.ensures.place, subst (λ (e : Event). IsBytes (message e)) c.in-Put.is bytes)

pub returns-in-CbPut : goal.returns-in-CbPut
returns-in-CbPut c = λ said bytes.
    subst IsLegible (sym c.in-CbPut.is) (c.is_place-in-CbPut.ensures.conn, c.is_place-in-CbPut.ensures.place, subst (λ (e : Event). IsBytes (message e)) c.in-CbPut.is bytes)
