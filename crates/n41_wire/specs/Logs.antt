-- What the log of an inlet says: the records that its ear gave, and the replies that they were read as. (own)
use Rattle.std.specs.Prelude.{◌≡◌, ℕ, List, [], ◌∷◌, ◌++◌, map, Some, None, Ok}
use Rattle.std.specs.declared.option.Option.{Option}
use Rattle.n41_record.specs.Streams.{BeginsWith}
use Rattle.n41_results.specs.declared.replies.Reply.{Reply}
use Rattle.n41_replies.specs.declared.fault.MsgFault.{MsgFault}
use Rattle.n41_replies.specs.Faults.{Fails}
use Rattle.n41_replies.specs.Replies.{reply_at}

-- the records, the replies that were handed out, and the fault of the last record, if any
pub record Logged : Type 0 where
  pub given : List (List ℕ)
  pub replies : List Reply
  pub fault : Option MsgFault

-- reading these records, in order, gives these replies
abbrev pub AreReadAs : List (List ℕ) → List Reply → Type 0
AreReadAs given replies = map reply_at given ≡ map Ok replies

-- Each record was read as a reply. Where there is a fault, the last was not: that is its fault, or memory ran out.
abbrev pub IsRead : Option MsgFault → List (List ℕ) → List Reply → Type 0
IsRead None given replies = AreReadAs given replies
IsRead (Some fault) given replies = (before : List (List ℕ)) × (bytes : List ℕ) × (given ≡ before ++ bytes ∷ []) × AreReadAs before replies × Fails fault (reply_at bytes)

abbrev pub IsStanding : Logged → Type 0
IsStanding l = IsRead l.fault l.given l.replies

-- the bytes begin with records that are read as these replies
abbrev pub StandFirst : List ℕ → List Reply → Type 0
StandFirst bytes replies = (list : List (List ℕ)) × (rest : List ℕ) × BeginsWith bytes list rest × AreReadAs list replies
