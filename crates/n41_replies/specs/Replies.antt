-- Replies to a COMPOUND (RFC 5531, section 9; RFC 8881, section 16.2.2).
use Rattle.std.specs.Prelude.{◌≡◌, ℕ, zero, suc, ◌<◌, ◌≤◌, ◌^◌, ◌==◌, if◌then◌else◌, List, [], ◌∷◌, ◌++◌, length, map, Result, Ok, Err}
use Rattle.std.specs.List.{flat_map, AllByRecursion}
use Rattle.std.specs.Int.{w32}
use Rattle.n41_xdr.specs.Reading.{◌>>=◌, number_at, opaque_at}
use Rattle.n41_xdr.specs.Spelling as spelling
use Rattle.n41_xdr.specs.Format.{fault_as, made}
use Rattle.n41_results.specs.declared.replies.Reply.{Reply}
use Rattle.n41_results.specs.declared.replies.ReplyBody.{ReplyBody}
use Rattle.n41_results.specs.declared.replies.ReplyBody.TheVariants.{Denied, Rejected, Results}
use Rattle.n41_results.specs.declared.results.Res.{Res}
use Rattle.n41_results.specs.Results.{status_of}
use Rattle.n41_rpc.specs.declared.fault.RpcFault.TheVariants as rpc
use Rattle.n41_rpc.specs.declared.heads.Head.{Head}
use Rattle.n41_rpc.specs.declared.heads.Head.TheVariants as heads
use Rattle.n41_rpc.specs.declared.heads.HeadBody.{HeadBody}
use Rattle.n41_rpc.specs.declared.heads.HeadBody.TheVariants as body
use Rattle.n41_rpc.specs.Heads.{Verdict, reply, head, head_of, verdict_body, written_verdict, IsBody}
use Rattle.n41_ops.specs.Results.{ToldRes, told_res, res_of, written_res}
use Rattle.n41_replies.specs.declared.fault.MsgFault.{MsgFault}
use Rattle.n41_replies.specs.declared.fault.MsgFault.TheVariants.{Rpc, Count, Left}
use Rattle.n41_replies.specs.Faults.{of_rpc, of_xdr, of_op}

-- the status of the last result, or this one where there is none
abbrev pub last_status : ℕ → List Res → ℕ
last_status s [] = s
last_status s (x ∷ xs) = last_status (status_of x).0 xs

-- ---- reading

-- so many results from a place on, with the place of a fault
abbrev pub results_at : ℕ → ℕ → List ℕ → Result (List Res × List ℕ) MsgFault
results_at place zero bytes = Ok ([], bytes)
results_at place (suc n) bytes = fault_as (of_op place) (made res_of told_res bytes) >>= λ x. results_at (suc place) n x.1 >>= λ y. Ok (x.0 ∷ y.0, y.1)

-- status, tag and results; the status is that of the last result
unfoldable pub body_at : List ℕ → Result (ReplyBody × List ℕ) MsgFault
body_at bytes = do
  status ← fault_as of_xdr (number_at w32 bytes)
  tag ← fault_as of_xdr (opaque_at 65536 status.1)
  count ← fault_as of_xdr (number_at w32 tag.1)
  list ← results_at 0 count.0 count.1
  if last_status status.0 list.0 == status.0 then Ok (Results (record { 0 = status.0 }) list.0, list.1) else Err (Count status.0 (last_status status.0 list.0))

abbrev pub behind : ℕ → HeadBody → List ℕ → Result (Reply × List ℕ) MsgFault
behind xid (body.Denied n) bytes = Ok (record { xid = xid; body = Denied n }, bytes)
behind xid (body.Rejected n) bytes = Ok (record { xid = xid; body = Rejected n }, bytes)
behind xid body.Success bytes = body_at bytes >>= λ b. Ok (record { xid = xid; body = b.0 }, b.1)

-- what follows a head; a call is no reply
abbrev pub rest_at : Head → List ℕ → Result (Reply × List ℕ) MsgFault
rest_at (heads.Call c) bytes = Err (Rpc (rpc.BadKind 0))
rest_at (heads.Reply h) bytes = behind h.xid h.body bytes

-- a whole reply, with nothing behind it
unfoldable pub reply_at : List ℕ → Result Reply MsgFault
reply_at bytes = do
  h ← fault_as of_rpc (made head_of head bytes)
  r ← rest_at h.0 h.1
  if length r.1 == 0 then Ok r.0 else Err (Left (length r.1))

-- ---- spelling

-- what the head of a reply says
abbrev pub head_body : ReplyBody → HeadBody
head_body (Denied n) = body.Denied n
head_body (Rejected n) = body.Rejected n
head_body (Results s list) = body.Success

-- status, a tag, and results as they are told
abbrev pub body_text : ReplyBody → List ℕ → List ToldRes → List ℕ
body_text (Denied n) tag list = []
body_text (Rejected n) tag list = []
body_text (Results s _) tag list = spelling.word s.0 ++ (spelling.opaque tag ++ (spelling.word (length list) ++ flat_map told_res.spell list))

-- these results are told of it, and can be
abbrev pub BodyFits : ReplyBody → List ToldRes → Type 0
BodyFits (Denied n) told = told ≡ []
BodyFits (Rejected n) told = told ≡ []
BodyFits (Results s list) told = (s.0 < 2 ^ 32) × (length told < 2 ^ 32) × AllByRecursion told_res.Fits told × (map res_of told ≡ list) × (last_status s.0 list ≡ s.0)

-- The bytes spell the reply: with some verifier and some tag, and with results that tell it.
pub record Spells (r : Reply) (bytes : List ℕ) : Type 0 where
  pub verdict : Verdict
  pub tag : List ℕ
  pub told : List ToldRes
  pub says : verdict_body verdict ≡ head_body r.body
  pub head_fits : head.Fits (r.xid, reply verdict)
  pub tag_fits : length tag ≤ 65536
  pub body_fits : BodyFits r.body told
  pub whole : bytes ≡ head.spell (r.xid, reply verdict) ++ body_text r.body tag told

-- ---- writing

-- the results that are told where a reply is written
abbrev pub told_of : ReplyBody → List ToldRes
told_of (Denied n) = []
told_of (Rejected n) = []
told_of (Results s list) = map written_res list

-- what is told of the results can be written, and the status is that of the last
abbrev pub WrittenFits : ReplyBody → Type 0
WrittenFits (Denied n) = Unit {0}
WrittenFits (Rejected n) = Unit {0}
WrittenFits (Results s list) = (s.0 < 2 ^ 32) × (length list < 2 ^ 32) × AllByRecursion told_res.Fits (map written_res list) × (last_status s.0 list ≡ s.0)

-- the reply can be written
abbrev pub IsSpellable : Reply → Type 0
IsSpellable r = (r.xid < 2 ^ 32) × IsBody (head_body r.body) × WrittenFits r.body

-- what is written: the verifier AUTH_NONE and an empty tag
abbrev pub written : Reply → List ℕ
written r = head.spell (r.xid, reply (written_verdict (head_body r.body))) ++ body_text r.body [] (told_of r.body)
