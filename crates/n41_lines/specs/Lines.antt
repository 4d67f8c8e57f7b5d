-- The line that is printed of a record (own).
use Rattle.std.specs.Prelude.{ℕ, List, [], ◌∷◌, ◌++◌, map, codes, Result, Ok, Err}
use Rattle.std.specs.List.{flat_map}
use Rattle.std.specs.Fmt.{decimal}
use Rattle.hex.specs.Hex.{encode_lower}
use Rattle.n41_types.specs.Operations.{number}
use Rattle.n41_args.specs.declared.arg.Arg.{Arg}
use Rattle.n41_args.specs.Args as args
use Rattle.n41_results.specs.Results as results
use Rattle.n41_results.specs.Callbacks.{cb_number_of, cb_status_of}
use Rattle.n41_results.specs.declared.results.Res.{Res}
use Rattle.n41_results.specs.declared.replies.Reply.{Reply}
use Rattle.n41_results.specs.declared.replies.ReplyBody.{ReplyBody}
use Rattle.n41_results.specs.declared.replies.ReplyBody.TheVariants.{Denied, Rejected, Results}
use Rattle.n41_results.specs.declared.callbacks.CbArg.{CbArg}
use Rattle.n41_results.specs.declared.callbacks.CbArg.TheVariants.{Recall, RecallAny, RecallSlot, Sequence}
use Rattle.n41_results.specs.declared.callbacks.CbRes.{CbRes}
use Rattle.n41_results.specs.declared.callbacks.CbCall.{CbCall}
use Rattle.n41_results.specs.declared.callbacks.CbReply.{CbReply}
use Rattle.n41_results.specs.declared.callbacks.CbBody.{CbBody}
use Rattle.n41_results.specs.declared.callbacks.CbBody.TheVariants as cb
use Rattle.n41_results.specs.declared.callbacks.Tail.{Tail}
use Rattle.n41_results.specs.declared.callbacks.Tail.TheVariants as tail
use Rattle.n41_seen.specs.declared.calls.CallSeen.{CallSeen}
use Rattle.n41_seen.specs.declared.calls.SeenTail.{SeenTail}
use Rattle.n41_seen.specs.declared.calls.SeenTail.TheVariants as seen
use Rattle.n41_seen.specs.Calls as calls
use Rattle.n41_replies.specs.Replies.{reply_at}
use Rattle.n41_replies.specs.declared.fault.MsgFault.{MsgFault}
use Rattle.n41_cbmsg.specs.Calls as callbacks
use Rattle.n41_cbmsg.specs.Answers.{answer_at}
use Rattle.n41_cbmsg.specs.declared.fault.MsgFault.{MsgFault as CbFault}
use Rattle.n41_lines.specs.declared.side.Side.{Side}
use Rattle.n41_lines.specs.declared.side.Side.TheVariants.{Client, Server}
use Rattle.n41_lines.specs.declared.last.Last.{Last}
use Rattle.n41_lines.specs.declared.last.Last.TheVariants.{Rest, Long, Many}

-- ---- parts

-- numbers, each behind a space
abbrev pub numbers : List ℕ → List ℕ
numbers list = flat_map (λ n. codes " " ++ decimal n) list

-- an operation and its status
abbrev pub outcome_text : ℕ → ℕ → List ℕ
outcome_text n s = codes " " ++ (decimal n ++ (codes ":" ++ decimal s))

-- the number of the operation of an argument
abbrev pub arg_number : Arg → ℕ
arg_number x = number (args.operation_of x)

-- the number of the operation of an argument of a callback (RFC 8881, nfs_cb_opnum4)
abbrev pub cb_arg_number : CbArg → ℕ
cb_arg_number (Recall x) = 4
cb_arg_number (RecallAny x) = 8
cb_arg_number (RecallSlot n) = 10
cb_arg_number (Sequence x) = 11

-- a result's operation and status
abbrev pub res_text : Res → List ℕ
res_text x = outcome_text (number (results.operation_of x)) (results.status_of x).0

-- the same of a callback
abbrev pub cb_res_text : CbRes → List ℕ
cb_res_text x = outcome_text (cb_number_of x) (cb_status_of x).0

-- bytes in lower hexadecimal, and none as a dash
abbrev pub hex_or_dash : List ℕ → List ℕ
hex_or_dash [] = codes "-"
hex_or_dash (b ∷ bytes) = encode_lower (b ∷ bytes)

-- what kind of message it is, and its number
abbrev pub begins : List ℕ → ℕ → List ℕ
begins kind xid = kind ++ (codes " xid " ++ decimal xid)

-- with the operations that it asks for
abbrev pub asks : List ℕ → ℕ → List ℕ → List ℕ
asks kind xid list = begins kind xid ++ (codes " ops" ++ numbers list)

-- with its status, and the outcomes of its operations
abbrev pub tells : List ℕ → ℕ → ℕ → List ℕ → List ℕ
tells kind xid status outcomes = begins kind xid ++ (codes " status " ++ (decimal status ++ (codes " ops" ++ outcomes)))

-- with the number of its refusal
abbrev pub refuses : List ℕ → ℕ → ℕ → List ℕ
refuses kind xid n = begins kind xid ++ (codes " " ++ decimal n)

-- bytes that are no message, or one whose arguments have no form
abbrev pub bad : List ℕ → List ℕ
bad bytes = codes "bad " ++ hex_or_dash bytes

-- ---- messages

-- the operations before the tail, and that of a tail that has one
abbrev pub call_text : SeenTail → CallSeen → List ℕ → List ℕ
call_text seen.Whole c bytes = asks (codes "call") c.xid (map arg_number c.list)
call_text (seen.Unknown n) c bytes = asks (codes "call") c.xid (map arg_number c.list ++ n ∷ [])
call_text (seen.BadArgs n) c bytes = asks (codes "call") c.xid (map arg_number c.list ++ n ∷ [])
call_text seen.Garbage c bytes = bad bytes
call_text seen.Unread c bytes = bad bytes

-- the same of a callback
abbrev pub callback_text : Tail → CbCall → List ℕ → List ℕ
callback_text tail.Whole c bytes = asks (codes "callback") c.xid (map cb_arg_number c.ops.list)
callback_text (tail.Unknown n) c bytes = asks (codes "callback") c.xid (map cb_arg_number c.ops.list ++ n ∷ [])
callback_text tail.Garbage c bytes = bad bytes
callback_text tail.Unread c bytes = bad bytes

-- a reply to a call
abbrev pub reply_text : ℕ → ReplyBody → List ℕ
reply_text xid (Denied n) = refuses (codes "denied") xid n
reply_text xid (Rejected n) = refuses (codes "rejected") xid n
reply_text xid (Results s list) = tells (codes "reply") xid s.0 (flat_map res_text list)

-- a reply to a callback; a refusal has the number of its accept status (RFC 5531, accept_stat)
abbrev pub answer_text : ℕ → CbBody → List ℕ
answer_text xid cb.NoProgram = refuses (codes "rejected") xid 1
answer_text xid cb.Mismatch = refuses (codes "rejected") xid 2
answer_text xid cb.NoProcedure = refuses (codes "rejected") xid 3
answer_text xid cb.Garbage = refuses (codes "rejected") xid 4
answer_text xid cb.Null = tells (codes "cbreply") xid 0 []
answer_text xid (cb.Results s list) = tells (codes "cbreply") xid s.0 (flat_map cb_res_text list)

-- ---- records

abbrev pub answer_or_bad : Result CbReply CbFault → List ℕ → List ℕ
answer_or_bad (Ok r) bytes = answer_text r.xid r.body
answer_or_bad (Err f) bytes = bad bytes

-- a client writes calls, and replies to callbacks
abbrev pub of_client : Result CallSeen MsgFault → List ℕ → List ℕ
of_client (Ok c) bytes = call_text c.tail c bytes
of_client (Err f) bytes = answer_or_bad (answer_at bytes) bytes

abbrev pub callback_or_bad : Result CbCall CbFault → List ℕ → List ℕ
callback_or_bad (Ok c) bytes = callback_text c.ops.tail c bytes
callback_or_bad (Err f) bytes = bad bytes

-- a server writes replies to calls, and callbacks
abbrev pub of_server : Result Reply MsgFault → List ℕ → List ℕ
of_server (Ok r) bytes = reply_text r.xid r.body
of_server (Err f) bytes = callback_or_bad (callbacks.call_at bytes) bytes

-- what a record of this side is
abbrev pub message : Side → List ℕ → List ℕ
message Client bytes = of_client (calls.call_at bytes) bytes
message Server bytes = of_server (reply_at bytes) bytes

-- the line of a record, with the record's number
unfoldable pub line : Side → ℕ → List ℕ → List ℕ
line side n bytes = decimal n ++ (codes " " ++ (message side bytes ++ codes "\n"))

-- the last line: how many bytes were left that are no whole record, or which limit a record passes
unfoldable pub last_line : Last → List ℕ
last_line (Rest n) = codes "rest " ++ (decimal n ++ codes "\n")
last_line Long = codes "stop long\n"
last_line Many = codes "stop many\n"
