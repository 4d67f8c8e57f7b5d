-- The operations of callbacks that are served, with their arguments (RFC 8881, section 20).
use Rattle.std.specs.Prelude.{ℕ, List, [], ◌∷◌, Bool, Result, ◌==◌, ◌||◌}
use Rattle.n41_xdr.specs.Format.{Format, ◌&◌, mapped, list, made, Arm, arm, union}
use Rattle.n41_results.specs.declared.callbacks.ReferringCall.{ReferringCall}
use Rattle.n41_results.specs.declared.callbacks.ReferringList.{ReferringList}
use Rattle.n41_results.specs.declared.callbacks.CbRecall.{CbRecall}
use Rattle.n41_results.specs.declared.callbacks.CbRecallAny.{CbRecallAny}
use Rattle.n41_results.specs.declared.callbacks.CbSequence.{CbSequence}
use Rattle.n41_results.specs.declared.callbacks.CbArg.{CbArg}
use Rattle.n41_results.specs.declared.callbacks.CbArg.TheVariants.{Recall, RecallAny, RecallSlot, Sequence}
use Rattle.n41_attr.specs.declared.fault.OpFault.{OpFault}
use Rattle.n41_attr.specs.declared.fault.OpFault.TheVariants.{Xdr}
use Rattle.n41_attr.specs.Parts.{word, flag, bad_arm, stateid, session, fh, bitmap}

-- stateid, truncate and filehandle (section 20.2)
unfoldable pub recall : Format OpFault CbRecall
recall = mapped (λ x. record { stateid = x.0; truncate = x.1.0; fh = x.1.1 }) (λ a. (a.stateid, (a.truncate, a.fh))) (stateid & flag & fh)

-- how many to keep, and of which kinds (section 20.6)
unfoldable pub recall_any : Format OpFault CbRecallAny
recall_any = mapped (λ x. record { keep = x.0; mask = x.1 }) (λ a. (a.keep, a.mask)) (word & bitmap)

-- a turn and its slot (section 20.9, referring_call4)
unfoldable pub referring_call : Format OpFault ReferringCall
referring_call = mapped (λ x. record { turn = x.0; slot = x.1 }) (λ c. (c.turn, c.slot)) (word & word)

-- the calls of one session (section 20.9, referring_call_list4)
unfoldable pub referring_list : Format OpFault ReferringList
referring_list = mapped (λ x. record { sid = x.0; calls = x.1 }) (λ l. (l.sid, l.calls)) (session & list Xdr referring_call)

-- session, turn, slot, highest slot, whether the answer is kept, and the calls that are referred to (section 20.9)
unfoldable pub sequence : Format OpFault CbSequence
sequence =
    mapped
    (λ x. record { sid = x.0; turn = x.1.0; slot = x.1.1.0; highest = x.1.1.1.0; cache = x.1.1.1.1.0; referring = x.1.1.1.1.1 })
    (λ a. (a.sid, (a.turn, (a.slot, (a.highest, (a.cache, a.referring))))))
    (session & word & word & word & flag & list Xdr referring_list)

-- the numbers of the four (nfs_cb_opnum4)
abbrev pub is_served : ℕ → Bool
is_served n = n == 4 || n == 8 || n == 10 || n == 11

abbrev pub argument_arm : CbArg → Arm
argument_arm (Recall a) = arm 4 recall a
argument_arm (RecallAny a) = arm 8 recall_any a
argument_arm (RecallSlot n) = arm 10 word n
argument_arm (Sequence a) = arm 11 sequence a

abbrev pub argument_rows : List (ℕ × (List ℕ → Result (CbArg × List ℕ) OpFault))
argument_rows =
    (4, made (λ x. Recall x) recall) ∷
    (8, made (λ x. RecallAny x) recall_any) ∷
    (10, made (λ x. RecallSlot x) word) ∷
    (11, made (λ x. Sequence x) sequence) ∷
    []

-- an operation: its number and its arguments (nfs_cb_argop4)
unfoldable pub argument : Format OpFault CbArg
argument = union Xdr bad_arm argument_rows argument_arm
