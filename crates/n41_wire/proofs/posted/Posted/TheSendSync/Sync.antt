-- It owns nothing, so any thread may share it.
use denote.Param.Send.{IsSync, part_keyless}
use Rattle.n41_wire.specs.contracts.posted.Posted as C
use Rattle.n41_wire.proofs.posted.Posted.TheSendSync.Send.{send}

pub sync : IsSync C.the_row
sync = record { shared = λ d b o κ q. part_keyless C.the_row send q d b o }
