-- What the operations of client ids and sessions answer (RFC 8881, sections 18.34 to 18.36, 18.46 and 18.48).
use Rattle.std.specs.Prelude.{List}
use Rattle.n41_xdr.specs.Format.{Format, ◌&◌, mapped, list}
use Rattle.n41_types.specs.declared.statuses.Status.{Status}
use Rattle.n41_results.specs.declared.sessions.Identity.{Identity}
use Rattle.n41_results.specs.declared.sessions.SessionMade.{SessionMade}
use Rattle.n41_results.specs.declared.sessions.Bound.{Bound}
use Rattle.n41_results.specs.declared.sessions.Sequenced.{Sequenced}
use Rattle.n41_attr.specs.declared.fault.OpFault.{OpFault}
use Rattle.n41_attr.specs.declared.fault.OpFault.TheVariants.{Xdr}
use Rattle.n41_shared.specs.Sessions.{channel, impl_option}
use Rattle.n41_attr.specs.Parts.{word, hyper, flag, owner_bytes, always_zero, session, status}

-- EXCHANGE_ID4resok, without protection of state
unfoldable pub identity : Format OpFault Identity
identity =
    mapped
    (λ x. record { client = x.0; sequence = x.1.0; flags = x.1.1.0; minor = x.1.1.1.1.0; major = x.1.1.1.1.1.0; scope = x.1.1.1.1.1.1.0; implementation = x.1.1.1.1.1.1.1 })
    (λ i. (i.client, (i.sequence, (i.flags, (tt, (i.minor, (i.major, (i.scope, i.implementation))))))))
    (hyper & word & word & always_zero & hyper & owner_bytes & owner_bytes & impl_option)

-- CREATE_SESSION4resok
unfoldable pub session_made : Format OpFault SessionMade
session_made =
    mapped
    (λ x. record { sid = x.0; sequence = x.1.0; flags = x.1.1.0; fore = x.1.1.1.0; back = x.1.1.1.1 })
    (λ m. (m.sid, (m.sequence, (m.flags, (m.fore, m.back)))))
    (session & word & word & channel & channel)

-- BIND_CONN_TO_SESSION4resok
unfoldable pub bound : Format OpFault Bound
bound = mapped (λ x. record { sid = x.0; direction = x.1.0; rdma = x.1.1 }) (λ b. (b.sid, (b.direction, b.rdma))) (session & word & flag)

-- SEQUENCE4resok
unfoldable pub sequenced : Format OpFault Sequenced
sequenced =
    mapped
    (λ x. record { sid = x.0; turn = x.1.0; slot = x.1.1.0; highest = x.1.1.1.0; target = x.1.1.1.1.0; flags = x.1.1.1.1.1 })
    (λ s. (s.sid, (s.turn, (s.slot, (s.highest, (s.target, s.flags))))))
    (session & word & word & word & word & word)

-- TEST_STATEID4resok
unfoldable pub statuses : Format OpFault (List Status)
statuses = list Xdr status
