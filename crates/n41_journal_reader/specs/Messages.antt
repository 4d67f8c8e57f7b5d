-- The messages of a journal, each as one word in hexadecimal (own).
use Rattle.std.specs.Prelude.{◌≡◌, ℕ, List, Option, Some, None, Result, Ok, Err}
use Rattle.n41_types.specs.declared.plans.Request.{Request}
use Rattle.n41_results.specs.declared.replies.Reply.{Reply}
use Rattle.n41_results.specs.declared.callbacks.CbCall.{CbCall}
use Rattle.n41_results.specs.declared.callbacks.CbReply.{CbReply}
use Rattle.n41_xdr.specs.Reading.{◌>>=◌}
use Rattle.n41_seen.specs.declared.calls.CallSeen.{CallSeen}
use Rattle.n41_seen.specs.Calls as calls
use Rattle.n41_compound.specs.Calls.{seen_of, IsLawful}
use Rattle.n41_replies.specs.Replies.{reply_at}
use Rattle.n41_replies.specs.declared.fault.MsgFault.{MsgFault}
use Rattle.n41_cbmsg.specs.Calls as callbacks
use Rattle.n41_cbmsg.specs.Answers.{answer_at}
use Rattle.n41_words.specs.Numbers.{hex_bytes}
use Rattle.n41_words.specs.declared.fault.LineKind.{LineKind}
use Rattle.n41_words.specs.declared.fault.LineKind.TheVariants as kind

-- bytes that spell no message are `hex`
abbrev pub message : {X F : Type 0} → Result X F → Result X LineKind
message (Ok x) = Ok x
message (Err f) = Err kind.Hex

abbrev pub reply_of : List ℕ → Result Reply LineKind
reply_of word = hex_bytes word >>= λ bytes. message (reply_at bytes)

abbrev pub callback_of : List ℕ → Result CbCall LineKind
callback_of word = hex_bytes word >>= λ bytes. message (callbacks.call_at bytes)

abbrev pub callback_reply_of : List ℕ → Result CbReply LineKind
callback_reply_of word = hex_bytes word >>= λ bytes. message (answer_at bytes)

-- The bytes are a call of this request, with any verifier and tag. What the types of its parts say holds of it.
pub record IsCallOf (bytes : List ℕ) (q : Request) : Type 0 where
  pub lawful : IsLawful q
  pub is_seen : calls.call_at bytes ≡ Ok (seen_of q)

-- the call that was read, where there is one
abbrev pub seen : Result CallSeen MsgFault → Option CallSeen
seen (Ok c) = Some c
seen (Err f) = None

-- the request of which bytes are a call, or that there is none
abbrev pub IsFoundIn : List ℕ → Option Request → Type 0
IsFoundIn bytes (Some q) = IsCallOf bytes q
IsFoundIn bytes None = (q : Request) → IsCallOf bytes q → ⊥
