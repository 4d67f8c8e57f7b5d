-- It owns nothing, so it may go to any thread.
use denote.Param.Send.{IsSend, owning_send}
use Rattle.n41_wire.specs.contracts.taken.Taken as C

pub send : IsSend C.the_row
send = owning_send C.the_type tt (λ h. tt) (λ k x w. tt)
