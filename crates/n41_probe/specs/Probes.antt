-- A probe: its one call, the reply to it, the line that is printed of that, and what was said, heard and printed.
use Rattle.std.specs.Prelude.{◌≡◌, ◌<◌, ◌≤◌, ◌⊎◌, ◌^◌, ℕ, List, [], ◌∷◌, ◌++◌, take, codes, nat_le, if◌then◌else◌, Bool, true, false, Result, Ok, Err, None}
use Rattle.std.specs.declared.option.Option.{Option}
use Rattle.std.specs.Fmt.{decimal}
use Rattle.std.specs.Io.KnownBytes.{append_known}
use Rattle.hex.specs.Hex.{encode_lower}
use Rattle.n41_types.specs.declared.plans.Plan.TheVariants as plan
use Rattle.n41_types.specs.declared.plans.Request.{Request}
use Rattle.n41_results.specs.declared.replies.Reply.{Reply}
use Rattle.n41_results.specs.declared.replies.ReplyBody.TheVariants.{Results}
use Rattle.n41_results.specs.declared.results.Res.TheVariants as res
use Rattle.n41_results.specs.declared.sessions.Identity.{Identity}
use Rattle.n41_record.specs.declared.fault.GatherFault.{GatherFault}
use Rattle.n41_record.specs.Fragments.{fragment}
use Rattle.n41_record.specs.Streams.{BeginsWith, Refused}
use Rattle.n41_xdr.specs.Spelling as spelling
use Rattle.n41_requests.specs.Requests.{spelled}
use Rattle.n41_replies.specs.Replies.{reply_at}
use Rattle.n41_probe.specs.declared.fault.ProbeFault.{ProbeFault}
use Rattle.n41_probe.specs.declared.fault.ProbeFault.TheVariants.{Unreachable, Breach, WriteFault, NoMemory}

-- ---- the call

-- EXCHANGE_ID of the owner n41, with the moment as its verifier (RFC 8881, section 18.35): xid 1, uid and gid 1000, minor version 1
abbrev pub probe_request : ℕ → Request
probe_request moment = record { xid = 1; uid = 1000; gid = 1000; minor = 1; slot = None; plan = plan.ExchangeId (spelling.hyper moment) (codes "n41") }

-- its bytes (RFC 5531, section 9; RFC 8881, section 16.2)
unfoldable pub request : ℕ → List ℕ
request moment = spelled (probe_request moment)

-- ---- the reply

-- the reply to xid 1 with status OK, whose one result is EXCHANGE_ID's and says x (RFC 8881, sections 16.2 and 18.35)
abbrev pub reply_with : Identity → Reply
reply_with x = record { xid = 1; body = Results (record { 0 = 0 }) (res.ExchangeId (Ok x) ∷ []) }

-- the bytes are that reply, with nothing behind it
abbrev pub IsReply : Identity → List ℕ → Type 0
IsReply x bytes = reply_at bytes ≡ Ok (reply_with x)

-- which reply bytes are; a breach, where they are none
abbrev pub Reads : Result Reply ProbeFault → List ℕ → Type 0
Reads (Ok r) bytes = reply_at bytes ≡ Ok r
Reads (Err Unreachable) bytes = ⊥
Reads (Err Breach) bytes = (r : Reply) → reply_at bytes ≡ Ok r → ⊥
Reads (Err WriteFault) bytes = ⊥
Reads (Err NoMemory) bytes = Unit {0}

-- ---- the line (own)

abbrev pub hex_or_dash : List ℕ → List ℕ
hex_or_dash [] = codes "-"
hex_or_dash (b ∷ bytes) = encode_lower (b ∷ bytes)

-- the highest flag, EXCHGID4_FLAG_CONFIRMED_R, says that the client id was confirmed (RFC 8881, section 18.35)
abbrev pub confirmed : ℕ → List ℕ
confirmed flags = if nat_le (2 ^ 31) flags then codes "yes" else codes "no"

abbrev pub joined : List (List ℕ) → List ℕ
joined [] = []
joined (piece ∷ pieces) = piece ++ joined pieces

-- the server is named by the major id of its owner (RFC 8881, section 18.35, eir_server_owner)
unfoldable pub line : Identity → List ℕ
line x = joined (
    codes "client " ∷ decimal x.client ∷ codes ", sequence " ∷ decimal x.sequence ∷
    codes ", confirmed " ∷ confirmed x.flags ∷
    codes ", server " ∷ hex_or_dash x.major ∷ codes ", scope " ∷ hex_or_dash x.scope ∷ codes "\n" ∷ [])

-- ---- what was said, heard and printed (own)

-- the first record in the bytes is a reply that says x
pub record Hears (x : Identity) (bytes : List ℕ) : Type 0 where
  pub body : List ℕ
  pub rest : List ℕ
  pub first : BeginsWith bytes (body ∷ []) rest
  pub says : IsReply x body

-- the first record in the bytes is no reply to a probe
pub record HearsNone (bytes : List ℕ) : Type 0 where
  pub body : List ℕ
  pub rest : List ℕ
  pub first : BeginsWith bytes (body ∷ []) rest
  pub none : (x : Identity) → IsReply x body → ⊥

-- the bytes are the first of the one request at this moment, or all of it
pub record BeginsToAsk (moment : ℕ) (written : List ℕ) : Type 0 where
  pub rest : List ℕ
  pub begins : fragment true (request moment) ≡ written ++ rest

pub record IsProbed (moment : ℕ) (old new : Option (List ℕ)) (read written : List ℕ) : Type 0 where
  pub result : Identity
  -- one request, with the clock's moment
  pub asked : written ≡ fragment true (request moment)
  -- the first record that was read is its reply
  pub heard : Hears result read
  -- the line of that reply, and nothing else
  pub printed : new ≡ append_known old (line result)

-- the same, with a part of the line
pub record IsPartlyProbed (moment : ℕ) (old new : Option (List ℕ)) (read written : List ℕ) : Type 0 where
  pub result : Identity
  pub length : ℕ
  pub asked : written ≡ fragment true (request moment)
  pub heard : Hears result read
  pub printed : new ≡ append_known old (take length (line result))

-- the faults at which nothing is printed: all but the sink's
abbrev pub is_silent : {T : Type 0} → Result T ProbeFault → Bool
is_silent (Ok x) = false
is_silent (Err Unreachable) = true
is_silent (Err Breach) = true
is_silent (Err WriteFault) = false
is_silent (Err NoMemory) = true

-- ---- why no record came (own)

-- the first record that was read passes a limit
abbrev pub PassesAtOnce : List ℕ → Type 0
PassesAtOnce log = (rest : List ℕ) × (fault : GatherFault) × Refused log [] rest fault

-- What was read from failed or ended, the first record passes a limit, or nothing came for 60 turns.
abbrev pub IsCut : ℕ → ℕ → List ℕ → ℕ → Type 0
IsCut faults ends log still = (0 < faults) ⊎ ((0 < ends) ⊎ (PassesAtOnce log ⊎ (60 ≤ still)))
