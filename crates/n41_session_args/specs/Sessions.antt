-- What the operations of client ids and sessions take (RFC 8881, sections 18.34 to 18.36 and 18.46).
use Rattle.n41_xdr.specs.Format.{Format, ◌&◌, mapped}
use Rattle.n41_types.specs.declared.plans.SlotUse.{SlotUse}
use Rattle.n41_attr.specs.declared.fault.OpFault.{OpFault}
use Rattle.n41_shared.specs.Sessions.{channel, impl_option}
use Rattle.n41_attr.specs.Parts.{word, hyper, flag, owner_bytes, verifier, always_zero, session}
use Rattle.n41_session_args.specs.declared.sessions.ExchangeIdArgs.{ExchangeIdArgs}
use Rattle.n41_session_args.specs.declared.sessions.CreateSessionArgs.{CreateSessionArgs}
use Rattle.n41_session_args.specs.declared.sessions.BindArgs.{BindArgs}
use Rattle.n41_session_args.specs.Security.{securities}

-- EXCHANGE_ID4args, without protection of state
unfoldable pub exchange_id : Format OpFault ExchangeIdArgs
exchange_id =
    mapped
    (λ x. record { verifier = x.0; owner = x.1.0; flags = x.1.1.0; implementation = x.1.1.1.1 })
    (λ a. (a.verifier, (a.owner, (a.flags, (tt, a.implementation)))))
    (verifier & owner_bytes & word & always_zero & impl_option)

-- CREATE_SESSION4args
unfoldable pub create_session : Format OpFault CreateSessionArgs
create_session =
    mapped
    (λ x. record { client = x.0; sequence = x.1.0; flags = x.1.1.0; fore = x.1.1.1.0; back = x.1.1.1.1.0; program = x.1.1.1.1.1.0; securities = x.1.1.1.1.1.1 })
    (λ a. (a.client, (a.sequence, (a.flags, (a.fore, (a.back, (a.program, a.securities)))))))
    (hyper & word & word & channel & channel & word & securities)

-- BIND_CONN_TO_SESSION4args
unfoldable pub bind : Format OpFault BindArgs
bind = mapped (λ x. record { sid = x.0; direction = x.1.0; rdma = x.1.1 }) (λ a. (a.sid, (a.direction, a.rdma))) (session & word & flag)

-- SEQUENCE4args
unfoldable pub sequence : Format OpFault SlotUse
sequence =
    mapped
    (λ x. record { sid = x.0; turn = x.1.0; slot = x.1.1.0; highest = x.1.1.1.0; cache = x.1.1.1.1 })
    (λ s. (s.sid, (s.turn, (s.slot, (s.highest, s.cache)))))
    (session & word & word & word & flag)
