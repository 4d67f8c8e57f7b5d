-- Answers to callbacks: how they are read, how they are spelled, and what is written (RFC 5531, reply_body; RFC 8881, CB_COMPOUND4res).
use Rattle.std.specs.Prelude.{◌≡◌, ◌<◌, ◌^◌, ◌++◌, ◌==◌, if◌then◌else◌, ℕ, List, [], ◌∷◌, length, Result, Ok, Err}
use Rattle.n41_xdr.specs.declared.fault.XdrFault.TheVariants.{BadArm}
use Rattle.n41_xdr.specs.Reading.{◌>>=◌}
use Rattle.n41_xdr.specs.Format.{Format, ◌&◌, word, lifted, dependent, fault_as, made}
use Rattle.n41_types.specs.declared.statuses.Status.{Status}
use Rattle.n41_rpc.specs.declared.fault.RpcFault.TheVariants as rpc
use Rattle.n41_rpc.specs.declared.heads.Cred.{Cred}
use Rattle.n41_rpc.specs.declared.heads.HeadBody.{HeadBody}
use Rattle.n41_rpc.specs.declared.heads.HeadBody.TheVariants.{Success, Rejected, Denied}
use Rattle.n41_rpc.specs.declared.heads.Head.{Head}
use Rattle.n41_rpc.specs.declared.heads.Head.TheVariants.{Call, Reply}
use Rattle.n41_rpc.specs.Heads.{Accept, success, no_program, mismatch, no_procedure, garbage, accepted, reply, head, head_of, no_auth}
use Rattle.n41_results.specs.declared.callbacks.CbRes.{CbRes}
use Rattle.n41_results.specs.declared.callbacks.CbReply.{CbReply}
use Rattle.n41_results.specs.declared.callbacks.CbBody.{CbBody}
use Rattle.n41_results.specs.declared.callbacks.CbBody.TheVariants.{Mismatch, NoProgram, NoProcedure, Garbage, Null, Results}
use Rattle.n41_results.specs.Callbacks.{cb_status_of}
use Rattle.n41_cbmsg.specs.declared.fault.MsgFault.{MsgFault}
use Rattle.n41_cbmsg.specs.declared.fault.MsgFault.TheVariants.{Rpc, Count, Left}
use Rattle.n41_cbmsg.specs.Reading.{of_rpc, of_xdr}
use Rattle.n41_cbmsg.specs.Tags.{tag}
use Rattle.n41_cbmsg.specs.Outcomes.{outcomes}

-- ---- results

-- the status of the last, or that one where there is none
abbrev pub last_status : Status → List CbRes → Status
last_status s [] = s
last_status s (x ∷ xs) = last_status (cb_status_of x) xs

-- status, tag and results
unfoldable pub told : Format MsgFault (ℕ × (List ℕ × List CbRes))
told = lifted of_xdr word & lifted of_xdr tag & dependent (lifted of_xdr word) (λ xs. length xs) outcomes

abbrev pub last_of : ℕ × (List ℕ × List CbRes) → ℕ
last_of x = (last_status (record { 0 = x.0 }) x.1.1).0

-- the same, where the status is that of the last
unfoldable pub results : Format MsgFault (ℕ × (List ℕ × List CbRes))
results = record {
  read = λ bytes. told.read bytes >>= λ x. if last_of x.0 == x.0.0 then Ok x else Err (Count x.0.0 (last_of x.0));
  spell = told.spell;
  Fits = λ x. told.Fits x × (last_of x ≡ x.0);
}

abbrev pub results_body : ℕ × (List ℕ × List CbRes) → CbBody
results_body x = Results (record { 0 = x.0 }) x.1.1

-- ---- reading

-- nothing may be left
abbrev pub ended : {A : Type 0} → Result (A × List ℕ) MsgFault → Result A MsgFault
ended (Ok x) = if length x.1 == 0 then Ok x.0 else Err (Left (length x.1))
ended (Err e) = Err e

-- a result of no bytes is that of the null procedure
abbrev pub succeeded : List ℕ → Result CbBody MsgFault
succeeded bytes = if length bytes == 0 then Ok Null else ended (made results_body results bytes)

-- PROG_UNAVAIL, PROG_MISMATCH, PROC_UNAVAIL or GARBAGE_ARGS
abbrev pub rejection : ℕ → Result CbBody MsgFault
rejection n =
    if n == 1 then Ok NoProgram else if n == 2 then Ok Mismatch else if n == 3 then Ok NoProcedure else if n == 4 then Ok Garbage else
    Err (of_xdr (BadArm n))

-- no denial is an answer to a callback
abbrev pub body_at : HeadBody → List ℕ → Result CbBody MsgFault
body_at Success bytes = succeeded bytes
body_at (Rejected n) bytes = rejection n >>= λ b. ended (Ok (b, bytes))
body_at (Denied n) bytes = Err (of_xdr (BadArm 1))

abbrev pub behind_head : Head → List ℕ → Result CbReply MsgFault
behind_head (Call h) bytes = Err (Rpc (rpc.BadKind 0))
behind_head (Reply h) bytes = body_at h.body bytes >>= λ b. Ok (record { xid = h.xid; body = b })

unfoldable pub answer_at : List ℕ → Result CbReply MsgFault
answer_at bytes = fault_as of_rpc (made head_of head bytes) >>= λ h. behind_head h.0 h.1

-- ---- spelling

-- what is accepted, and what stands behind it
abbrev pub SpellsBody : CbBody → Accept → List ℕ → Type 0
SpellsBody Mismatch accept rest = ((low : ℕ) × (high : ℕ) × (accept ≡ mismatch low high)) × (rest ≡ [])
SpellsBody NoProgram accept rest = (accept ≡ no_program) × (rest ≡ [])
SpellsBody NoProcedure accept rest = (accept ≡ no_procedure) × (rest ≡ [])
SpellsBody Garbage accept rest = (accept ≡ garbage) × (rest ≡ [])
SpellsBody Null accept rest = (accept ≡ success) × (rest ≡ [])
SpellsBody (Results s list) accept rest = (accept ≡ success) × ((label : List ℕ) × results.Fits (s.0, (label, list)) × (rest ≡ results.spell (s.0, (label, list))))

-- with any verifier
pub record SpellsAnswer (r : CbReply) (bytes : List ℕ) : Type 0 where
  pub verifier : Cred
  pub accept : Accept
  pub rest : List ℕ
  pub fits : head.Fits (r.xid, reply (accepted verifier accept))
  pub parts : bytes ≡ head.spell (r.xid, reply (accepted verifier accept)) ++ rest
  pub body : SpellsBody r.body accept rest

-- ---- writing

-- versions 1 to 4 are served
abbrev pub written_accept : CbBody → Accept
written_accept Mismatch = mismatch 1 4
written_accept NoProgram = no_program
written_accept NoProcedure = no_procedure
written_accept Garbage = garbage
written_accept Null = success
written_accept (Results s list) = success

-- an empty tag
abbrev pub written_results : CbBody → List ℕ
written_results (Results s list) = results.spell (s.0, ([], list))
written_results _ = []

abbrev pub BodyFits : CbBody → Type 0
BodyFits (Results s list) = results.Fits (s.0, ([], list))
BodyFits _ = Unit {0}

-- which answers have a spelling
abbrev pub AnswerFits : CbReply → Type 0
AnswerFits r = (r.xid < 2 ^ 32) × BodyFits r.body

-- the verifier AUTH_NONE
abbrev pub written_answer : CbReply → List ℕ
written_answer r = head.spell (r.xid, reply (accepted no_auth (written_accept r.body))) ++ written_results r.body
