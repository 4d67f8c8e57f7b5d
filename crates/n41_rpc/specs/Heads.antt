-- The heads of calls and replies (RFC 5531, section 9).
use Rattle.std.specs.Prelude.{◌≡◌, ◌≤◌, ◌<◌, ◌^◌, ◌==◌, if◌then◌else◌, ℕ, List, [], ◌∷◌, length, Result, Ok, Err}
use Rattle.n41_xdr.specs.Format.{Format, ◌&◌, mapped, lifted, nothing, only, made, Arm, arm, union, list}
use Rattle.n41_xdr.specs.Format as xdr
use Rattle.n41_xdr.specs.declared.fault.XdrFault.{XdrFault}
use Rattle.n41_xdr.specs.declared.fault.XdrFault.TheVariants.{BadArm}
use Rattle.n41_rpc.specs.declared.fault.RpcFault.{RpcFault}
use Rattle.n41_rpc.specs.declared.fault.RpcFault.TheVariants.{Xdr, BadKind}
use Rattle.n41_rpc.specs.declared.heads.Cred.{Cred}
use Rattle.n41_rpc.specs.declared.heads.CallHead.{CallHead}
use Rattle.n41_rpc.specs.declared.heads.ReplyHead.{ReplyHead}
use Rattle.n41_rpc.specs.declared.heads.HeadBody.{HeadBody}
use Rattle.n41_rpc.specs.declared.heads.HeadBody.TheVariants.{Success, Rejected, Denied}
use Rattle.n41_rpc.specs.declared.heads.Head.{Head}
use Rattle.n41_rpc.specs.declared.heads.Head.TheVariants.{Call, Reply}

abbrev pub word : Format RpcFault ℕ
word = lifted Xdr xdr.word

abbrev pub bad_arm : ℕ → RpcFault
bad_arm n = Xdr (BadArm n)

-- a credential or a verifier: a flavor, and at most 400 bytes that are not looked into (section 8.2)
unfoldable pub cred : Format RpcFault Cred
cred = mapped (λ x. record { flavor = x.0; body = x.1 }) (λ c. (c.flavor, c.body)) (word & lifted Xdr (xdr.opaque 400))

-- ---- replies

-- what is said of a call that was accepted (section 9, accept_stat)
pub data Accept : Type 0 where
  success : Accept
  no_program : Accept
  mismatch : ℕ → ℕ → Accept
  no_procedure : Accept
  garbage : Accept
  system_error : Accept

abbrev pub accept_arm : Accept → Arm
accept_arm success = arm 0 (nothing {E = RpcFault}) tt
accept_arm no_program = arm 1 (nothing {E = RpcFault}) tt
accept_arm (mismatch low high) = arm 2 (word & word) (low, high)
accept_arm no_procedure = arm 3 (nothing {E = RpcFault}) tt
accept_arm garbage = arm 4 (nothing {E = RpcFault}) tt
accept_arm system_error = arm 5 (nothing {E = RpcFault}) tt

abbrev pub accept_rows : List (ℕ × (List ℕ → Result (Accept × List ℕ) RpcFault))
accept_rows =
    (0, made (λ _. success) nothing) ∷
    (1, made (λ _. no_program) nothing) ∷
    (2, made (λ x. mismatch x.0 x.1) (word & word)) ∷
    (3, made (λ _. no_procedure) nothing) ∷
    (4, made (λ _. garbage) nothing) ∷
    (5, made (λ _. system_error) nothing) ∷
    []

unfoldable pub accept : Format RpcFault Accept
accept = union Xdr bad_arm accept_rows accept_arm

-- what is kept of it
abbrev pub accept_body : Accept → HeadBody
accept_body success = Success
accept_body no_program = Rejected 1
accept_body (mismatch low high) = Rejected 2
accept_body no_procedure = Rejected 3
accept_body garbage = Rejected 4
accept_body system_error = Rejected 5

-- why a call was denied (section 9, reject_stat)
pub data Denial : Type 0 where
  versions : ℕ → ℕ → Denial
  auth : ℕ → Denial

abbrev pub denial_arm : Denial → Arm
denial_arm (versions low high) = arm 0 (word & word) (low, high)
denial_arm (auth n) = arm 1 word n

abbrev pub denial_rows : List (ℕ × (List ℕ → Result (Denial × List ℕ) RpcFault))
denial_rows = (0, made (λ x. versions x.0 x.1) (word & word)) ∷ (1, made (λ x. auth x) word) ∷ []

unfoldable pub denial : Format RpcFault Denial
denial = union Xdr bad_arm denial_rows denial_arm

abbrev pub denial_body : Denial → HeadBody
denial_body (versions low high) = Denied 0
denial_body (auth n) = Denied 1

-- a verifier with what was accepted, or a denial (section 9, reply_stat)
pub data Verdict : Type 0 where
  accepted : Cred → Accept → Verdict
  denied : Denial → Verdict

abbrev pub verdict_arm : Verdict → Arm
verdict_arm (accepted v a) = arm 0 (cred & accept) (v, a)
verdict_arm (denied d) = arm 1 denial d

abbrev pub verdict_rows : List (ℕ × (List ℕ → Result (Verdict × List ℕ) RpcFault))
verdict_rows = (0, made (λ x. accepted x.0 x.1) (cred & accept)) ∷ (1, made (λ x. denied x) denial) ∷ []

unfoldable pub verdict : Format RpcFault Verdict
verdict = union Xdr bad_arm verdict_rows verdict_arm

abbrev pub verdict_body : Verdict → HeadBody
verdict_body (accepted v a) = accept_body a
verdict_body (denied d) = denial_body d

-- ---- messages

-- version 2, program, its version, procedure, credential and verifier (section 9, call_body)
unfoldable pub called : Format RpcFault (Unit {0} × (ℕ × (ℕ × (ℕ × (Cred × Cred)))))
called = lifted Xdr (only 2) & word & word & word & cred & cred

-- all that a message says behind its xid, without what follows its head (section 9, rpc_msg)
pub data Spoken : Type 0 where
  call : ℕ → ℕ → ℕ → Cred → Cred → Spoken
  reply : Verdict → Spoken

abbrev pub spoken_arm : Spoken → Arm
spoken_arm (call prog vers procedure c v) = arm 0 called (tt, (prog, (vers, (procedure, (c, v)))))
spoken_arm (reply v) = arm 1 verdict v

abbrev pub spoken_rows : List (ℕ × (List ℕ → Result (Spoken × List ℕ) RpcFault))
spoken_rows = (0, made (λ x. call x.1.0 x.1.1.0 x.1.1.1.0 x.1.1.1.1.0 x.1.1.1.1.1) called) ∷ (1, made (λ x. reply x) verdict) ∷ []

unfoldable pub spoken : Format RpcFault Spoken
spoken = union Xdr BadKind spoken_rows spoken_arm

-- the xid, and what is said
abbrev pub head : Format RpcFault (ℕ × Spoken)
head = word & spoken

-- what is kept of a head: not the verifier, nor the versions and the number behind a refusal
abbrev pub kept : ℕ → Spoken → Head
kept xid (call prog vers procedure c v) = Call (record { xid = xid; prog = prog; vers = vers; procedure = procedure; cred = c })
kept xid (reply v) = Reply (record { xid = xid; body = verdict_body v })

abbrev pub head_of : ℕ × Spoken → Head
head_of x = kept x.0 x.1

-- ---- what is written

-- AUTH_NONE (section 10.1)
abbrev pub no_auth : Cred
no_auth = record { flavor = 0; body = [] }

abbrev pub written_accept : ℕ → Accept
written_accept n = if n == 1 then no_program else if n == 2 then mismatch 4 4 else if n == 3 then no_procedure else if n == 4 then garbage else system_error

-- PROG_MISMATCH with the versions 4 to 4, RPC_MISMATCH with 2 to 2, and AUTH_ERROR with 1, a bad credential (own)
abbrev pub written_verdict : HeadBody → Verdict
written_verdict Success = accepted no_auth success
written_verdict (Rejected n) = accepted no_auth (written_accept n)
written_verdict (Denied n) = denied (if n == 0 then versions 2 2 else auth 1)

abbrev pub written_call : CallHead → ℕ × Spoken
written_call h = (h.xid, call h.prog h.vers h.procedure h.cred no_auth)

abbrev pub written_reply : ReplyHead → ℕ × Spoken
written_reply h = (h.xid, reply (written_verdict h.body))

-- the numbers of an acceptance are 1 to 5, and those of a denial 0 and 1
abbrev pub IsBody : HeadBody → Type 0
IsBody Success = Unit {0}
IsBody (Rejected n) = (1 ≤ n) × (n ≤ 5)
IsBody (Denied n) = n ≤ 1

-- the numbers of a call are below 2^32, and its credential is written
abbrev pub CallFits : CallHead → Type 0
CallFits h = (h.xid < 2 ^ 32) × (h.prog < 2 ^ 32) × (h.vers < 2 ^ 32) × (h.procedure < 2 ^ 32) × cred.Fits h.cred

-- ---- AUTH_SYS (RFC 5531, appendix A)

-- stamp, machine name, uid, gid and at most 16 gids
unfoldable pub system : Format XdrFault (ℕ × (List ℕ × (ℕ × (ℕ × List ℕ))))
system = xdr.word & xdr.opaque 255 & xdr.word & xdr.word & list (λ f. f) xdr.word

-- stamp 0, the name `n41` and no gids (own)
abbrev pub system_of : ℕ → ℕ → ℕ × (List ℕ × (ℕ × (ℕ × List ℕ)))
system_of uid gid = (0, (110 ∷ 52 ∷ 49 ∷ [], (uid, (gid, []))))
