-- The heads are lawful, and what is written is a spelling of the head.
use Rattle.std.proofs.Common.{◌≡◌, ℕ, zero, suc, ◌<◌, ◌≤◌, ◌^◌, List, ◌++◌, Result, Ok, refl, ap, ◌∙◌, arith}
use Rattle.n41_xdr.specs.Format.{choose, nothing, made}
use Rattle.n41_xdr.specs.Lawful.{IsLawful}
use Rattle.n41_xdr.proofs.Lawful.{word_lawful as xdr_word, opaque_lawful as xdr_opaque, only_lawful, lifted_lawful, mapped_lawful, both_lawful, nothing_lawful, list_lawful, row_lawful, made_again, union_lawful}
use Rattle.n41_rpc.specs.declared.fault.RpcFault.{RpcFault}
use Rattle.n41_rpc.specs.declared.fault.RpcFault.TheVariants.{Xdr, BadKind}
use Rattle.n41_rpc.specs.declared.heads.CallHead.{CallHead}
use Rattle.n41_rpc.specs.declared.heads.ReplyHead.{ReplyHead}
use Rattle.n41_rpc.specs.declared.heads.Head.{Head}
use Rattle.n41_rpc.specs.declared.heads.Head.TheVariants.{Call, Reply}
use Rattle.n41_rpc.specs.declared.heads.HeadBody.{HeadBody}
use Rattle.n41_rpc.specs.declared.heads.HeadBody.TheVariants.{Success, Rejected, Denied}
use Rattle.n41_rpc.specs.Heads.{word, bad_arm, cred, Accept, success, no_program, mismatch, no_procedure, garbage, system_error, accept, accept_arm, accept_rows, Denial, versions, auth, denial, denial_arm, denial_rows, Verdict, accepted, denied, verdict, verdict_arm, verdict_rows, verdict_body, called, Spoken, call, reply, spoken, spoken_arm, spoken_rows, head, head_of, written_verdict, written_accept, written_call, written_reply, no_auth, IsBody, CallFits, system}

word_lawful : IsLawful word
word_lawful = lifted_lawful _ _ xdr_word

cred_lawful : IsLawful cred
unfolding cred
cred_lawful = mapped_lawful _ _ _ (λ _. refl) (λ _. refl) (both_lawful _ _ word_lawful (lifted_lawful _ _ (xdr_opaque 400)))

accept_lawful : IsLawful accept
unfolding accept
accept_lawful =
    union_lawful Xdr bad_arm accept_rows accept_arm (
      row_lawful accept_arm 0 (λ _. success) _ (λ _. refl) nothing_lawful,
      (
        row_lawful accept_arm 1 (λ _. no_program) _ (λ _. refl) nothing_lawful,
        (
          row_lawful accept_arm 2 _ _ (λ _. refl) (both_lawful _ _ word_lawful word_lawful),
          (
            row_lawful accept_arm 3 (λ _. no_procedure) _ (λ _. refl) nothing_lawful,
            (
              row_lawful accept_arm 4 (λ _. garbage) _ (λ _. refl) nothing_lawful,
              (row_lawful accept_arm 5 (λ _. system_error) _ (λ _. refl) nothing_lawful, tt),
            ),
          ),
        ),
      ),
    )
    (elim [
      | success ↦ λ rest fits. refl
      | no_program ↦ λ rest fits. refl
      | mismatch low high ↦ λ rest fits. made_again _ _ (both_lawful _ _ word_lawful word_lawful) (low, high) rest fits
      | no_procedure ↦ λ rest fits. refl
      | garbage ↦ λ rest fits. refl
      | system_error ↦ λ rest fits. refl
    ])

denial_lawful : IsLawful denial
unfolding denial
denial_lawful =
    union_lawful Xdr bad_arm denial_rows denial_arm (
      row_lawful denial_arm 0 _ _ (λ _. refl) (both_lawful _ _ word_lawful word_lawful),
      (row_lawful denial_arm 1 _ _ (λ _. refl) word_lawful, tt),
    )
    (elim [
      | versions low high ↦ λ rest fits. made_again _ _ (both_lawful _ _ word_lawful word_lawful) (low, high) rest fits
      | auth n ↦ λ rest fits. made_again _ _ word_lawful n rest fits
    ])

verdict_lawful : IsLawful verdict
unfolding verdict
verdict_lawful =
    union_lawful Xdr bad_arm verdict_rows verdict_arm (
      row_lawful verdict_arm 0 _ _ (λ _. refl) (both_lawful _ _ cred_lawful accept_lawful),
      (row_lawful verdict_arm 1 _ _ (λ _. refl) denial_lawful, tt),
    )
    (elim [
      | accepted v a ↦ λ rest fits. made_again _ _ (both_lawful _ _ cred_lawful accept_lawful) (v, a) rest fits
      | denied d ↦ λ rest fits. made_again _ _ denial_lawful d rest fits
    ])

called_lawful : IsLawful called
unfolding called
called_lawful =
    both_lawful _ _ (lifted_lawful _ _ (only_lawful 2))
    (both_lawful _ _ word_lawful (both_lawful _ _ word_lawful (both_lawful _ _ word_lawful (both_lawful _ _ cred_lawful cred_lawful))))

spoken_lawful : IsLawful spoken
unfolding spoken
spoken_lawful =
    union_lawful Xdr BadKind spoken_rows spoken_arm (
      row_lawful spoken_arm 0 (λ x. call x.1.0 x.1.1.0 x.1.1.1.0 x.1.1.1.1.0 x.1.1.1.1.1) _ (λ _. refl) called_lawful,
      (row_lawful spoken_arm 1 _ _ (λ _. refl) verdict_lawful, tt),
    )
    (elim [
      | call prog vers procedure c v ↦ λ rest fits. made_again _ _ called_lawful (tt, (prog, (vers, (procedure, (c, v))))) rest fits
      | reply v ↦ λ rest fits. made_again _ _ verdict_lawful v rest fits
    ])

pub head_lawful : IsLawful head
head_lawful = both_lawful _ _ word_lawful spoken_lawful

pub system_lawful : IsLawful system
unfolding system
system_lawful = both_lawful _ _ xdr_word (both_lawful _ _ (xdr_opaque 255) (both_lawful _ _ xdr_word (both_lawful _ _ xdr_word (list_lawful _ _ xdr_word))))

-- ---- what is written spells the head

written_kept : (b : HeadBody) → IsBody b → verdict_body (written_verdict b) ≡ b
written_kept Success fits = refl
written_kept (Rejected zero) fits = absurd (omega arith)
written_kept (Rejected (suc zero)) fits = refl
written_kept (Rejected (suc (suc zero))) fits = refl
written_kept (Rejected (suc (suc (suc zero)))) fits = refl
written_kept (Rejected (suc (suc (suc (suc zero))))) fits = refl
written_kept (Rejected (suc (suc (suc (suc (suc zero)))))) fits = refl
written_kept (Rejected (suc (suc (suc (suc (suc (suc n))))))) fits = absurd (omega arith)
written_kept (Denied zero) fits = refl
written_kept (Denied (suc zero)) fits = refl
written_kept (Denied (suc (suc n))) fits = absurd (omega arith)

accept_fits : (n : ℕ) → (1 ≤ n) × (n ≤ 5) → accept.Fits (written_accept n)
unfolding accept
accept_fits zero fits = absurd (omega arith)
accept_fits (suc zero) fits = (omega arith, tt)
accept_fits (suc (suc zero)) fits = (omega arith, (omega arith, omega arith))
accept_fits (suc (suc (suc zero))) fits = (omega arith, tt)
accept_fits (suc (suc (suc (suc zero)))) fits = (omega arith, tt)
accept_fits (suc (suc (suc (suc (suc zero))))) fits = (omega arith, tt)
accept_fits (suc (suc (suc (suc (suc (suc n)))))) fits = absurd (omega arith)

no_auth_fits : cred.Fits no_auth
unfolding cred
no_auth_fits = (omega arith, (omega arith, omega arith))

reply_fits : (xid : ℕ) (b : HeadBody) → xid < 2 ^ 32 → IsBody b → head.Fits (xid, reply (written_verdict b))
unfolding spoken verdict denial accept
reply_fits xid Success lt fits = (lt, (omega arith, (omega arith, (no_auth_fits, (omega arith, tt)))))
reply_fits xid (Rejected n) lt fits = (lt, (omega arith, (omega arith, (no_auth_fits, accept_fits n fits))))
reply_fits xid (Denied zero) lt fits = (lt, (omega arith, (omega arith, (omega arith, (omega arith, omega arith)))))
reply_fits xid (Denied (suc zero)) lt fits = (lt, (omega arith, (omega arith, (omega arith, omega arith))))
reply_fits xid (Denied (suc (suc n))) lt fits = absurd (omega arith)

pub reply_read : (h : ReplyHead) (rest : List ℕ) → h.xid < 2 ^ 32 → IsBody h.body → made head_of head (head.spell (written_reply h) ++ rest) ≡ Ok (Reply h, rest)
reply_read h rest lt fits =
    made_again head_of head head_lawful (written_reply h) rest (reply_fits h.xid h.body lt fits)
    ∙ ap (λ (b : HeadBody). let r : Result (Head × List ℕ) RpcFault = Ok (Reply (record { xid = h.xid; body = b }), rest) in r) (written_kept h.body fits)

call_fits : (h : CallHead) → CallFits h → head.Fits (written_call h)
unfolding spoken called
call_fits h fits = (fits.0, (omega arith, (omega arith, (fits.1, (fits.2, (fits.3, (fits.4, no_auth_fits)))))))

pub call_read : (h : CallHead) (rest : List ℕ) → CallFits h → made head_of head (head.spell (written_call h) ++ rest) ≡ Ok (Call h, rest)
call_read h rest fits = made_again head_of head head_lawful (written_call h) rest (call_fits h fits)
