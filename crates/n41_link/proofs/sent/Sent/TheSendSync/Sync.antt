-- What was sent owns nothing, so any thread may share it.
use denote.Param.Send.{IsSync, part_keyless}
use Rattle.n41_link.specs.contracts.sent.Sent as C
use Rattle.n41_link.proofs.sent.Sent.TheSendSync.Send.{send}

pub sync : IsSync C.the_row
sync = record { shared = λ d b o κ q. part_keyless C.the_row send q d b o }
