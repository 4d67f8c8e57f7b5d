-- What was read begins with the records of the replies.
use Rattle.std.proofs.Common.{◌≡◌, ◌∙◌, ap, sym, subst, refl, ℕ, List, [], ◌∷◌, ◌++◌, append_assoc, Some, None}
use Rattle.std.specs.declared.option.Option.{Option}
use Rattle.n41_record.specs.Gathered.{Gathered}
use Rattle.n41_record.specs.Streams.{AreRecords, BeginsWith}
use Rattle.n41_link.specs.Heard.{GivesFirst}
use Rattle.n41_results.specs.declared.replies.Reply.{Reply}
use Rattle.n41_replies.specs.declared.fault.MsgFault.{MsgFault}
use Rattle.n41_wire.specs.Logs.{IsRead, StandFirst}

-- where a text is some records and more, some of it is the first
front_records : (text : List ℕ) (some more : List (List ℕ)) → AreRecords text (some ++ more) → (front : List ℕ) × (after : List ℕ) × (text ≡ front ++ after) × AreRecords front some
front_records text [] more h = ([], text, refl, refl)
front_records text (x ∷ some) more h =
    let next = front_records h.1 some more h.4 in
    (h.0 ++ next.0, next.1, h.2 ∙ ap (λ (t : List ℕ). h.0 ++ t) next.2 ∙ sym (append_assoc h.0 next.0 next.1), (h.0, next.0, refl, h.3, next.3))

front_begins : (text : List ℕ) (some more : List (List ℕ)) (rest : List ℕ) → BeginsWith text (some ++ more) rest → (behind : List ℕ) × BeginsWith text some behind
front_begins text some more rest h =
    let parts = front_records h.front some more h.records in
    (parts.1 ++ rest, record { front = parts.0; whole = h.whole ∙ ap (λ (t : List ℕ). t ++ rest) parts.2 ∙ append_assoc parts.0 parts.1 rest; records = parts.3 })

pub stand_first : (g : Gathered) (fault : Option MsgFault) (replies : List Reply) → GivesFirst g → IsRead fault g.given replies → StandFirst g.fed replies
stand_first g None replies first read = (g.given, first.0, first.1, read)
stand_first g (Some fault) replies first read =
    let begun = front_begins g.fed read.0 (read.1 ∷ []) first.0 (subst (λ (list : List (List ℕ)). BeginsWith g.fed list first.0) read.2 first.1) in
    (read.0, begun.0, begun.1, read.3)
