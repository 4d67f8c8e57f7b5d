-- The results of the operations of callbacks (RFC 8881, section 20).
use Rattle.std.specs.Prelude.{◌≡◌, ℕ, zero, suc, List, [], ◌∷◌, length, Result, Ok, Err}
use Rattle.std.specs.List.{flat_map, AllByRecursion}
use Rattle.n41_xdr.specs.declared.fault.XdrFault.{XdrFault}
use Rattle.n41_xdr.specs.declared.fault.XdrFault.TheVariants.{BadArm}
use Rattle.n41_xdr.specs.Reading.{◌>>=◌}
use Rattle.n41_xdr.specs.Format.{Format, ◌&◌, word, fixed, given, mapped, fault_as, made, Arm, arm, union}
use Rattle.n41_types.specs.declared.statuses.Status.{Status}
use Rattle.n41_results.specs.declared.sessions.Sequenced.{Sequenced}
use Rattle.n41_results.specs.declared.callbacks.Unserved.{Unserved}
use Rattle.n41_results.specs.declared.callbacks.Unserved.TheVariants.{GetAttr, LayoutRecall, Notify, PushDeleg, ObjectAvailable, WantsCancelled, NotifyLock, NotifyDevice}
use Rattle.n41_results.specs.declared.callbacks.CbRes.{CbRes}
use Rattle.n41_results.specs.declared.callbacks.CbRes.TheVariants as res
use Rattle.n41_results.specs.Callbacks.{number_of}
use Rattle.n41_attr.specs.Parts.{failure_arm}
use Rattle.n41_attr.specs.Unions.{open_union}
use Rattle.n41_cbmsg.specs.declared.fault.MsgFault.{MsgFault}
use Rattle.n41_cbmsg.specs.Reading.{of_op}

abbrev pub same_fault : XdrFault → XdrFault
same_fault f = f

unfoldable pub status : Format XdrFault Status
status = mapped (λ n. record { 0 = n }) (λ s. s.0) word

-- a status that is never OK
abbrev pub failure_rows : List (ℕ × (List ℕ → Result (Status × List ℕ) XdrFault))
failure_rows = (0, λ _. Err (BadArm 0)) ∷ []

unfoldable pub failure : Format XdrFault Status
failure = open_union same_fault (λ n. record { 0 = n }) failure_rows failure_arm

-- session, turn, slot, highest slot and target (section 20.9, CB_SEQUENCE4resok); it has no flags, which are 0 in the value (own)
unfoldable pub sequenced : Format XdrFault Sequenced
sequenced =
    mapped
    (λ x. record { sid = record { 0 = x.1.0 }; turn = x.1.1.0; slot = x.1.1.1.0; highest = x.1.1.1.1.0; target = x.1.1.1.1.1; flags = x.0 })
    (λ s. (s.flags, (s.sid.0, (s.turn, (s.slot, (s.highest, s.target))))))
    (given 0 & fixed 16 & word & word & word & word)

-- a status, and behind OK what is told
abbrev pub sequence_arm : Result Sequenced Status → Arm
sequence_arm (Ok s) = arm 0 sequenced s
sequence_arm (Err s) = failure_arm s

abbrev pub sequence_rows : List (ℕ × (List ℕ → Result (Result Sequenced Status × List ℕ) XdrFault))
sequence_rows = (0, made (λ x. Ok x) sequenced) ∷ []

unfoldable pub sequence_outcome : Format XdrFault (Result Sequenced Status)
sequence_outcome = open_union same_fault (λ n. Err (record { 0 = n })) sequence_rows sequence_arm

abbrev pub outcome_arm : CbRes → Arm
outcome_arm (res.Recall s) = arm 4 status s
outcome_arm (res.RecallAny s) = arm 8 status s
outcome_arm (res.RecallSlot s) = arm 10 status s
outcome_arm (res.Sequence r) = arm 11 sequence_outcome r
outcome_arm (res.Unserved op s) = arm (number_of op) failure s
outcome_arm (res.Illegal s) = arm 10044 failure s

abbrev pub unserved_row : Unserved → ℕ × (List ℕ → Result (CbRes × List ℕ) XdrFault)
unserved_row op = (number_of op, made (λ s. res.Unserved op s) failure)

abbrev pub outcome_rows : List (ℕ × (List ℕ → Result (CbRes × List ℕ) XdrFault))
outcome_rows =
    (4, made (λ s. res.Recall s) status) ∷
    (8, made (λ s. res.RecallAny s) status) ∷
    (10, made (λ s. res.RecallSlot s) status) ∷
    (11, made (λ r. res.Sequence r) sequence_outcome) ∷
    unserved_row GetAttr ∷
    unserved_row LayoutRecall ∷
    unserved_row Notify ∷
    unserved_row PushDeleg ∷
    unserved_row ObjectAvailable ∷
    unserved_row WantsCancelled ∷
    unserved_row NotifyLock ∷
    unserved_row NotifyDevice ∷
    (10044, made (λ s. res.Illegal s) failure) ∷
    []

-- a result: the number of its operation and its outcome (nfs_cb_resop4)
unfoldable pub outcome : Format XdrFault CbRes
outcome = union same_fault (λ n. BadArm n) outcome_rows outcome_arm

-- the results from a place on, with the place of a fault
abbrev pub outcomes_at : ℕ → ℕ → List ℕ → Result (List CbRes × List ℕ) MsgFault
outcomes_at place zero bytes = Ok ([], bytes)
outcomes_at place (suc n) bytes = fault_as (of_op place) (outcome.read bytes) >>= λ x. outcomes_at (suc place) n x.1 >>= λ y. Ok (x.0 ∷ y.0, y.1)

abbrev pub outcomes : ℕ → Format MsgFault (List CbRes)
outcomes n = record { read = outcomes_at 0 n; spell = flat_map outcome.spell; Fits = λ xs. (length xs ≡ n) × AllByRecursion outcome.Fits xs }
