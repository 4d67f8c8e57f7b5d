-- The plans of one operation: those without a slot, and those that ask of stateids or tell of a reclaim.
use Rattle.std.specs.Prelude.{ℕ, ◌==◌, ◌&&◌, if◌then◌else◌, is_none, Bool, true, false, List, [], ◌∷◌, Option, Some, None}
use Rattle.n41_types.specs.declared.plans.Plan.{Plan}
use Rattle.n41_types.specs.declared.plans.Plan.TheVariants as plan
use Rattle.n41_results.specs.declared.sessions.Channel.{Channel}
use Rattle.n41_session_args.specs.declared.security.Security.{Security}
use Rattle.n41_session_args.specs.declared.security.Security.TheVariants as security
use Rattle.n41_session_args.specs.declared.sessions.BindArgs.{BindArgs}
use Rattle.n41_session_args.specs.declared.sessions.CreateSessionArgs.{CreateSessionArgs}
use Rattle.n41_session_args.specs.declared.sessions.ExchangeIdArgs.{ExchangeIdArgs}
use Rattle.n41_args.specs.declared.arg.Arg.{Arg}
use Rattle.n41_args.specs.declared.arg.Arg.TheVariants as arg

-- neither flags nor an implementation are told (own)
abbrev pub exchange_of : ExchangeIdArgs → Option Plan
exchange_of a = if (a.flags == 0) && is_none a.implementation then Some (plan.ExchangeId a.verifier a.owner) else None

-- a channel with these sizes, the same of requests and replies, and no more
unfoldable pub is_channel : Channel → ℕ → ℕ → ℕ → ℕ → Bool
is_channel c size cached ops requests =
    (c.header_pad == 0) && (c.request_max == size) && (c.reply_max == size) && (c.cached_max == cached) && (c.ops_max == ops) && (c.requests_max == requests) && is_none c.ird

-- one AUTH_NONE
unfoldable pub is_unsecured : List Security → Bool
is_unsecured (security.None ∷ []) = true
is_unsecured _ = false

-- what this client asks of a session (own)
abbrev pub is_asked : CreateSessionArgs → Bool
is_asked a =
    (a.flags == 0) && (a.program == 1073741824) && is_channel a.fore 69632 4096 32 64 && is_channel a.back 4096 4096 8 4 && is_unsecured a.securities

abbrev pub session_of : CreateSessionArgs → Option Plan
session_of a = if is_asked a then Some (plan.CreateSession a.client a.sequence) else None

-- the fore direction without RDMA (own)
abbrev pub bind_of : BindArgs → Option Plan
bind_of a = if a.direction == 1 then (if a.rdma then None else Some (plan.Bind a.sid)) else None

-- the plan of which an operation is all
abbrev pub single : Arg → Option Plan
single (arg.ExchangeId a) = exchange_of a
single (arg.CreateSession a) = session_of a
single (arg.Bind a) = bind_of a
single (arg.DestroySession sid) = Some (plan.DestroySession sid)
single (arg.DestroyClient client) = Some (plan.DestroyClient client)
single (arg.TestStateid list) = Some (plan.Test list)
single (arg.FreeStateid stateid) = Some (plan.Free stateid)
single (arg.ReclaimComplete one_fs) = if one_fs then None else Some plan.Complete
single _ = None
