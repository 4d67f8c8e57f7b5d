-- The arguments and the results of callbacks are read just where they are spelled.
use Rattle.std.proofs.Common.{◌≡◌, ℕ, zero, suc, List, ◌∷◌, ◌++◌, Result, Ok, Err, refl, ap}
use Rattle.std.specs.List.{flat_map}
use Rattle.n41_xdr.specs.declared.fault.XdrFault.{XdrFault}
use Rattle.n41_xdr.specs.declared.fault.XdrFault.TheVariants.{BadArm}
use Rattle.n41_xdr.specs.Reading.{◌>>=◌}
use Rattle.n41_xdr.specs.Format.{choose, many_at, fault_as}
use Rattle.n41_xdr.specs.Lawful.{IsLawful}
use Rattle.n41_xdr.proofs.Lawful.{bind_ok, fault_as_ok, given_lawful, word_lawful as xdr_word, fixed_lawful as xdr_fixed, mapped_lawful, both_lawful, list_lawful, many_lawful, row_lawful, made_again, union_lawful}
use Rattle.n41_types.specs.declared.statuses.Status.{Status}
use Rattle.n41_results.specs.declared.sessions.Sequenced.{Sequenced}
use Rattle.n41_results.specs.declared.callbacks.CbArg.{CbArg}
use Rattle.n41_results.specs.declared.callbacks.CbArg.TheVariants as arg
use Rattle.n41_results.specs.declared.callbacks.CbRes.{CbRes}
use Rattle.n41_results.specs.declared.callbacks.CbRes.TheVariants as res
use Rattle.n41_results.specs.declared.callbacks.Unserved.{Unserved}
use Rattle.n41_results.specs.declared.callbacks.Unserved.TheVariants.{GetAttr, LayoutRecall, Notify, PushDeleg, ObjectAvailable, WantsCancelled, NotifyLock, NotifyDevice}
use Rattle.n41_attr.specs.declared.fault.OpFault.TheVariants.{Xdr}
use Rattle.n41_attr.specs.Parts.{bad_arm, failure_arm}
use Rattle.n41_attr.specs.Unions.{choose_or}
use Rattle.n41_attr.proofs.Unions.{open_union_lawful}
use Rattle.n41_attr.proofs.PartsLawful.{word_lawful, flag_lawful, stateid_lawful, session_lawful, fh_lawful, bitmap_lawful, differs, apart}
use Rattle.n41_cbmsg.specs.declared.fault.MsgFault.{MsgFault}
use Rattle.n41_cbmsg.specs.Reading.{of_op}
use Rattle.n41_cbmsg.specs.Arguments.{recall, recall_any, referring_call, referring_list, sequence, argument, argument_arm, argument_rows}
use Rattle.n41_cbmsg.specs.Outcomes.{same_fault, status, failure, failure_rows, sequenced, sequence_arm, sequence_rows, sequence_outcome, outcome, outcome_arm, outcome_rows, outcomes_at, outcomes}

-- ---- arguments

recall_lawful : IsLawful recall
unfolding recall
recall_lawful = mapped_lawful _ _ _ (λ _. refl) (λ _. refl) (both_lawful _ _ stateid_lawful (both_lawful _ _ flag_lawful fh_lawful))

recall_any_lawful : IsLawful recall_any
unfolding recall_any
recall_any_lawful = mapped_lawful _ _ _ (λ _. refl) (λ _. refl) (both_lawful _ _ word_lawful bitmap_lawful)

referring_call_lawful : IsLawful referring_call
unfolding referring_call
referring_call_lawful = mapped_lawful _ _ _ (λ _. refl) (λ _. refl) (both_lawful _ _ word_lawful word_lawful)

referring_list_lawful : IsLawful referring_list
unfolding referring_list
referring_list_lawful = mapped_lawful _ _ _ (λ _. refl) (λ _. refl) (both_lawful _ _ session_lawful (list_lawful _ _ referring_call_lawful))

sequence_lawful : IsLawful sequence
unfolding sequence
sequence_lawful =
    mapped_lawful _ _ _ (λ _. refl) (λ _. refl)
    (both_lawful _ _ session_lawful (both_lawful _ _ word_lawful (both_lawful _ _ word_lawful (both_lawful _ _ word_lawful (both_lawful _ _ flag_lawful (list_lawful _ _ referring_list_lawful))))))

pub argument_back : (a : CbArg) (rest : List ℕ) → (argument_arm a).Fits → choose bad_arm argument_rows (argument_arm a).number ((argument_arm a).text ++ rest) ≡ Ok (a, rest)
argument_back (arg.Recall a) rest fits = made_again _ _ recall_lawful a rest fits
argument_back (arg.RecallAny a) rest fits = made_again _ _ recall_any_lawful a rest fits
argument_back (arg.RecallSlot n) rest fits = made_again _ _ word_lawful n rest fits
argument_back (arg.Sequence a) rest fits = made_again _ _ sequence_lawful a rest fits

pub argument_lawful : IsLawful argument
unfolding argument
argument_lawful =
    union_lawful Xdr bad_arm argument_rows argument_arm (
      row_lawful argument_arm 4 (λ x. arg.Recall x) _ (λ _. refl) recall_lawful,
      (
        row_lawful argument_arm 8 (λ x. arg.RecallAny x) _ (λ _. refl) recall_any_lawful,
        (row_lawful argument_arm 10 (λ x. arg.RecallSlot x) _ (λ _. refl) word_lawful, (row_lawful argument_arm 11 (λ x. arg.Sequence x) _ (λ _. refl) sequence_lawful, tt)),
      ),
    )
    argument_back

-- ---- results

status_lawful : IsLawful status
unfolding status
status_lawful = mapped_lawful _ _ _ (λ _. refl) (λ _. refl) xdr_word

failure_lawful : IsLawful failure
unfolding failure
failure_lawful =
    open_union_lawful same_fault (λ n. record { 0 = n }) failure_rows failure_arm
    (record { takes = λ bytes x fits e. absurd cc }, tt)
    (λ n none. record { number = refl; text = refl; fits = differs n 0 none.0 })
    (λ s rest fits. rw (apart s.0 0 fits) refl)

sequenced_lawful : IsLawful sequenced
unfolding sequenced
sequenced_lawful =
    mapped_lawful _ _ _ (λ _. refl) (λ _. refl)
    (both_lawful _ _ (given_lawful 0) (both_lawful _ _ (xdr_fixed 16) (both_lawful _ _ xdr_word (both_lawful _ _ xdr_word (both_lawful _ _ xdr_word xdr_word)))))

sequence_back : (a : Result Sequenced Status) (rest : List ℕ) → (sequence_arm a).Fits → choose_or (λ n. Err (record { 0 = n })) sequence_rows (sequence_arm a).number ((sequence_arm a).text ++ rest) ≡ Ok (a, rest)
sequence_back (Ok s) rest fits = made_again (λ x. Ok x) sequenced sequenced_lawful s rest fits
sequence_back (Err s) rest fits = rw (apart s.0 0 fits) refl

sequence_outcome_lawful : IsLawful sequence_outcome
unfolding sequence_outcome
sequence_outcome_lawful =
    open_union_lawful same_fault (λ n. Err (record { 0 = n })) sequence_rows sequence_arm
    (row_lawful sequence_arm 0 (λ x. Ok x) sequenced (λ _. refl) sequenced_lawful, tt)
    (λ n none. record { number = refl; text = refl; fits = differs n 0 none.0 })
    sequence_back

unserved_back : (op : Unserved) (s : Status) (rest : List ℕ) → failure.Fits s
    → choose (λ n. BadArm n) outcome_rows (outcome_arm (res.Unserved op s)).number ((outcome_arm (res.Unserved op s)).text ++ rest) ≡ Ok (res.Unserved op s, rest)
unserved_back GetAttr s rest fits = made_again _ _ failure_lawful s rest fits
unserved_back LayoutRecall s rest fits = made_again _ _ failure_lawful s rest fits
unserved_back Notify s rest fits = made_again _ _ failure_lawful s rest fits
unserved_back PushDeleg s rest fits = made_again _ _ failure_lawful s rest fits
unserved_back ObjectAvailable s rest fits = made_again _ _ failure_lawful s rest fits
unserved_back WantsCancelled s rest fits = made_again _ _ failure_lawful s rest fits
unserved_back NotifyLock s rest fits = made_again _ _ failure_lawful s rest fits
unserved_back NotifyDevice s rest fits = made_again _ _ failure_lawful s rest fits

outcome_back : (a : CbRes) (rest : List ℕ) → (outcome_arm a).Fits → choose (λ n. BadArm n) outcome_rows (outcome_arm a).number ((outcome_arm a).text ++ rest) ≡ Ok (a, rest)
outcome_back (res.Recall s) rest fits = made_again _ _ status_lawful s rest fits
outcome_back (res.RecallAny s) rest fits = made_again _ _ status_lawful s rest fits
outcome_back (res.RecallSlot s) rest fits = made_again _ _ status_lawful s rest fits
outcome_back (res.Sequence r) rest fits = made_again _ _ sequence_outcome_lawful r rest fits
outcome_back (res.Unserved op s) rest fits = unserved_back op s rest fits
outcome_back (res.Illegal s) rest fits = made_again _ _ failure_lawful s rest fits

pub outcome_lawful : IsLawful outcome
unfolding outcome
outcome_lawful =
    union_lawful same_fault (λ n. BadArm n) outcome_rows outcome_arm (
      row_lawful outcome_arm 4 (λ s. res.Recall s) _ (λ _. refl) status_lawful,
      (
        row_lawful outcome_arm 8 (λ s. res.RecallAny s) _ (λ _. refl) status_lawful,
        (
          row_lawful outcome_arm 10 (λ s. res.RecallSlot s) _ (λ _. refl) status_lawful,
          (
            row_lawful outcome_arm 11 (λ r. res.Sequence r) _ (λ _. refl) sequence_outcome_lawful,
            (
              row_lawful outcome_arm 3 (λ s. res.Unserved GetAttr s) _ (λ _. refl) failure_lawful,
              (
                row_lawful outcome_arm 5 (λ s. res.Unserved LayoutRecall s) _ (λ _. refl) failure_lawful,
                (
                  row_lawful outcome_arm 6 (λ s. res.Unserved Notify s) _ (λ _. refl) failure_lawful,
                  (
                    row_lawful outcome_arm 7 (λ s. res.Unserved PushDeleg s) _ (λ _. refl) failure_lawful,
                    (
                      row_lawful outcome_arm 9 (λ s. res.Unserved ObjectAvailable s) _ (λ _. refl) failure_lawful,
                      (
                        row_lawful outcome_arm 12 (λ s. res.Unserved WantsCancelled s) _ (λ _. refl) failure_lawful,
                        (
                          row_lawful outcome_arm 13 (λ s. res.Unserved NotifyLock s) _ (λ _. refl) failure_lawful,
                          (
                            row_lawful outcome_arm 14 (λ s. res.Unserved NotifyDevice s) _ (λ _. refl) failure_lawful,
                            (row_lawful outcome_arm 10044 (λ s. res.Illegal s) _ (λ _. refl) failure_lawful, tt),
                          ),
                        ),
                      ),
                    ),
                  ),
                ),
              ),
            ),
          ),
        ),
      ),
    )
    outcome_back

-- ---- places of faults aside, results are read as an array is

abbrev part_ok : List CbRes × List ℕ → Result (List CbRes × List ℕ) XdrFault
part_ok x = Ok x

abbrev whole_ok : List CbRes × List ℕ → Result (List CbRes × List ℕ) MsgFault
whole_ok x = Ok x

many_from_outcomes : (place n : ℕ) (bytes : List ℕ) (x : List CbRes × List ℕ) → outcomes_at place n bytes ≡ Ok x → many_at outcome n bytes ≡ Ok x
many_from_outcomes place zero bytes x e = cc
many_from_outcomes place (suc n) bytes x e =
    let a = bind_ok (fault_as (of_op place) (outcome.read bytes)) (λ x. outcomes_at (suc place) n x.1 >>= λ y. Ok (x.0 ∷ y.0, y.1)) x e in
    let b = bind_ok (outcomes_at (suc place) n a.0.1) (λ y. Ok (a.0.0 ∷ y.0, y.1)) x a.2 in
    let x-is : (a.0.0 ∷ b.0.0, b.0.1) ≡ x = cc in
    rw (fault_as_ok (of_op place) (outcome.read bytes) a.0 a.1, many_from_outcomes (suc place) n a.0.1 b.0 b.1) (ap part_ok x-is)

outcomes_from_many : (place n : ℕ) (bytes : List ℕ) (x : List CbRes × List ℕ) → many_at outcome n bytes ≡ Ok x → outcomes_at place n bytes ≡ Ok x
outcomes_from_many place zero bytes x e = cc
outcomes_from_many place (suc n) bytes x e =
    let a = bind_ok (outcome.read bytes) (λ x. many_at outcome n x.1 >>= λ y. Ok (x.0 ∷ y.0, y.1)) x e in
    let b = bind_ok (many_at outcome n a.0.1) (λ y. Ok (a.0.0 ∷ y.0, y.1)) x a.2 in
    let x-is : (a.0.0 ∷ b.0.0, b.0.1) ≡ x = cc in
    rw (a.1, outcomes_from_many (suc place) n a.0.1 b.0 b.1) (ap whole_ok x-is)

pub outcomes_lawful : (n : ℕ) → IsLawful (outcomes n)
outcomes_lawful n =
    let h = many_lawful outcome n outcome_lawful in
    record {
      takes = λ bytes x fits e. h.takes bytes x fits (many_from_outcomes 0 n bytes x e);
      again = λ xs rest fits. outcomes_from_many 0 n (flat_map outcome.spell xs ++ rest) (xs, rest) (h.again xs rest fits);
    }
