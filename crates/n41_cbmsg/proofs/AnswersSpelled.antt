-- Answers to callbacks are read just where they are spelled.
use Rattle.std.proofs.Common.{◌≡◌, ◌≢◌, ℕ, ◌<◌, ◌^◌, true, false, cond, eqb, List, [], ◌++◌, length, length-append, Result, Ok, Err, refl, sym, ap, subst, ◌∙◌, append_assoc, arith, inl, inr}
use Rattle.std.specs.Prelude.{IfOk}
use Rattle.std.proofs.lemmas.Bool.{eqb-true}
use Rattle.std.proofs.lemmas.List.{append-nil, nil_from_length}
use Rattle.n41_xdr.specs.Spelling as spelling
use Rattle.n41_xdr.specs.Reading.{◌>>=◌}
use Rattle.n41_xdr.specs.Format.{word, made, fault_as, lifted}
use Rattle.n41_xdr.specs.Lawful.{IsBytes, Takes, IsLawful}
use Rattle.n41_xdr.proofs.Lawful.{bind_ok, fault_as_ok, chosen, made_again, word_lawful, opaque_lawful, lifted_lawful, both_lawful, dependent_lawful}
use Rattle.n41_rpc.specs.declared.fault.RpcFault.{RpcFault}
use Rattle.n41_rpc.specs.declared.heads.Cred.{Cred}
use Rattle.n41_rpc.specs.declared.heads.HeadBody.TheVariants.{Rejected}
use Rattle.n41_rpc.specs.declared.heads.Head.{Head}
use Rattle.n41_rpc.specs.Heads.{Spoken, call, reply, accepted, denied, versions, auth, Accept, success, no_program, mismatch, no_procedure, garbage, system_error, accept, accept_body, verdict, spoken, head, head_of, kept, cred, no_auth}
use Rattle.n41_rpc.proofs.Lawful.{head_lawful}
use Rattle.n41_results.specs.declared.callbacks.CbRes.{CbRes}
use Rattle.n41_results.specs.declared.callbacks.CbReply.{CbReply}
use Rattle.n41_results.specs.declared.callbacks.CbBody.{CbBody}
use Rattle.n41_results.specs.declared.callbacks.CbBody.TheVariants.{Mismatch, NoProgram, NoProcedure, Garbage, Null, Results}
use Rattle.n41_attr.proofs.PartsLawful.{apart}
use Rattle.n41_cbmsg.specs.declared.fault.MsgFault.{MsgFault}
use Rattle.n41_cbmsg.specs.declared.fault.MsgFault.TheVariants.{Count, Left}
use Rattle.n41_cbmsg.specs.Reading.{of_rpc, of_xdr, IsRead}
use Rattle.n41_cbmsg.specs.Outcomes.{outcomes}
use Rattle.n41_cbmsg.specs.Answers.{last_of, told, results, results_body, ended, succeeded, body_at, behind_head, answer_at, SpellsBody, SpellsAnswer, written_accept, written_results, BodyFits, AnswerFits, written_answer}
use Rattle.n41_cbmsg.proofs.Parts.{outcomes_lawful}

-- ---- results

told_lawful : IsLawful told
unfolding told
told_lawful =
    both_lawful _ _ (lifted_lawful of_xdr _ word_lawful)
    (both_lawful _ _ (lifted_lawful of_xdr _ (opaque_lawful 65536)) (dependent_lawful (lifted of_xdr word) (λ xs. length xs) outcomes (lifted_lawful of_xdr word word_lawful) outcomes_lawful (λ n xs fits. fits.0)))

eqb_same : (n : ℕ) → eqb n n ≡ true
eqb_same n = grind arith

abbrev Told : Type 0
Told = ℕ × (List ℕ × List CbRes)

abbrev told_ok : Told × List ℕ → Result (Told × List ℕ) MsgFault
told_ok x = Ok x

pub results_lawful : IsLawful results
unfolding results
results_lawful = record {
  takes = λ bytes x fits e.
      let a = bind_ok (told.read bytes) (λ x. cond (eqb (last_of x.0) x.0.0) (told_ok x) (Err (Count x.0.0 (last_of x.0)))) x e in
      let t = told_lawful.takes bytes a.0 fits a.1 in
      elim (chosen (eqb (last_of a.0.0) a.0.0.0) (told_ok a.0) (Err (Count a.0.0.0 (last_of a.0.0))) (Ok x) a.2) [
        | inl c ↦
            let x-is : a.0 ≡ x = cc in
            subst (λ (y : Told × List ℕ). Takes bytes (told.spell y.0) y.1 × (told.Fits y.0 × (last_of y.0 ≡ y.0.0))) x-is (t.0, (t.1, eqb-true _ _ c.0))
        | inr c ↦ absurd cc
      ];
  again = λ v rest fits. rw (told_lawful.again v rest fits.0, fits.1, eqb_same v.0) refl;
}

-- results take bytes
word_len : (n : ℕ) → length (spelling.word n) ≡ 4
unfolding spelling.word
word_len n = refl

some_bytes : (n : ℕ) (a b : List ℕ) → 0 < length ((spelling.word n ++ a) ++ b)
some_bytes n a b = omega (arith, length-append (spelling.word n ++ a) b, length-append (spelling.word n) a, word_len n)

is_not_empty : (x : Told) (rest : List ℕ) → eqb (length (results.spell x ++ rest)) 0 ≡ false
unfolding results told
is_not_empty x rest =
    let some : 0 < length (results.spell x ++ rest) = some_bytes x.0 _ rest in
    apart (length (results.spell x ++ rest)) 0 (λ e. absurd (omega (arith, some, e)))

-- ---- behind a head

abbrev body_ok : CbBody → Result CbBody MsgFault
body_ok b = Ok b

abbrev read_with : CbBody → List ℕ → Result (CbBody × List ℕ) MsgFault
read_with b bytes = Ok (b, bytes)

ended_ok : (r : Result (CbBody × List ℕ) MsgFault) (b : CbBody) → ended r ≡ Ok b → r ≡ read_with b []
ended_ok (Err e) b is = absurd cc
ended_ok (Ok x) b is =
    elim (chosen (eqb (length x.1) 0) (body_ok x.0) (Err (Left (length x.1))) (Ok b) is) [
      | inl c ↦
          let none : x.1 ≡ [] = nil_from_length x.1 (eqb-true _ _ c.0) in
          let same : x.0 ≡ b = cc in
          ap (read_with x.0) none ∙ ap (λ (v : CbBody). read_with v []) same
      | inr c ↦ absurd cc
    ]

alone : (a b : CbBody) (bytes : List ℕ) → ended (read_with a bytes) ≡ Ok b → (a ≡ b) × (bytes ≡ [])
alone a b bytes e =
    let same : read_with a bytes ≡ read_with b [] = ended_ok (read_with a bytes) b e in
    let pair : (a, bytes) ≡ (b, []) = cc in
    (ap (λ (v : CbBody × List ℕ). v.0) pair, ap (λ (v : CbBody × List ℕ). v.1) pair)

-- what is read behind an acceptance spells its body

results_takes : (bytes : List ℕ) (b : CbBody) → IsBytes bytes → ended (made results_body results bytes) ≡ Ok b → SpellsBody b success bytes
results_takes bytes b fits e =
    let m = bind_ok (results.read bytes) (λ y. read_with (results_body y.0) y.1) (b, []) (ended_ok (made results_body results bytes) b e) in
    let t = results_lawful.takes bytes m.0 fits m.1 in
    let read : read_with (results_body m.0.0) m.0.1 ≡ read_with b [] = m.2 in
    let pair : (results_body m.0.0, m.0.1) ≡ (b, []) = cc in
    let b-is : results_body m.0.0 ≡ b = ap (λ (v : CbBody × List ℕ). v.0) pair in
    let none : m.0.1 ≡ [] = ap (λ (v : CbBody × List ℕ). v.1) pair in
    let whole : bytes ≡ results.spell m.0.0 = t.0.parts ∙ ap (λ (w : List ℕ). results.spell m.0.0 ++ w) none ∙ append-nil (results.spell m.0.0) in
    subst (λ (v : CbBody). SpellsBody v success bytes) b-is (refl, (m.0.0.1.0, t.1, whole))

accepted_takes : (a : Accept) (bytes : List ℕ) (b : CbBody) → IsBytes bytes → body_at (accept_body a) bytes ≡ Ok b → SpellsBody b a bytes
accepted_takes success bytes b fits e =
    elim (chosen (eqb (length bytes) 0) (body_ok Null) (ended (made results_body results bytes)) (Ok b) e) [
      | inl c ↦
          let none : bytes ≡ [] = nil_from_length bytes (eqb-true _ _ c.0) in
          let same : Null ≡ b = cc in
          subst (λ (v : CbBody). SpellsBody v success bytes) same (refl, none)
      | inr c ↦ results_takes bytes b fits c.1
    ]
accepted_takes no_program bytes b fits e = let a = alone NoProgram b bytes e in subst (λ (v : CbBody). SpellsBody v no_program bytes) a.0 (refl, a.1)
accepted_takes (mismatch low high) bytes b fits e = let a = alone Mismatch b bytes e in subst (λ (v : CbBody). SpellsBody v (mismatch low high) bytes) a.0 ((low, high, refl), a.1)
accepted_takes no_procedure bytes b fits e = let a = alone NoProcedure b bytes e in subst (λ (v : CbBody). SpellsBody v no_procedure bytes) a.0 (refl, a.1)
accepted_takes garbage bytes b fits e = let a = alone Garbage b bytes e in subst (λ (v : CbBody). SpellsBody v garbage bytes) a.0 (refl, a.1)
accepted_takes system_error bytes b fits e = absurd cc

-- a spelled body is read, and more behind it is left; only Null is another body then
body_more : (b : CbBody) (a : Accept) (rest more : List ℕ) → SpellsBody b a rest → b ≢ Null → body_at (accept_body a) (rest ++ more) ≡ ended (read_with b more)
body_more Mismatch a rest more s ne = ap (λ (v : Accept). body_at (accept_body v) (rest ++ more)) s.0.2 ∙ ap (λ (w : List ℕ). body_at (Rejected 2) (w ++ more)) s.1
body_more NoProgram a rest more s ne = ap (λ (v : Accept). body_at (accept_body v) (rest ++ more)) s.0 ∙ ap (λ (w : List ℕ). body_at (Rejected 1) (w ++ more)) s.1
body_more NoProcedure a rest more s ne = ap (λ (v : Accept). body_at (accept_body v) (rest ++ more)) s.0 ∙ ap (λ (w : List ℕ). body_at (Rejected 3) (w ++ more)) s.1
body_more Garbage a rest more s ne = ap (λ (v : Accept). body_at (accept_body v) (rest ++ more)) s.0 ∙ ap (λ (w : List ℕ). body_at (Rejected 4) (w ++ more)) s.1
body_more Null a rest more s ne = absurd (ne refl)
body_more (Results st list) a rest more s ne =
    let label : List ℕ = s.1.0 in
    ap (λ (v : Accept). body_at (accept_body v) (rest ++ more)) s.0 ∙ ap (λ (w : List ℕ). succeeded (w ++ more)) s.1.2
    ∙ rw (is_not_empty (st.0, (label, list)) more) (ap ended (made_again results_body results results_lawful (st.0, (label, list)) more s.1.1))

null_or_more : (b : CbBody) (a : Accept) (rest : List ℕ) → SpellsBody b a rest → body_at (accept_body a) rest ≡ body_ok b
null_or_more Null a rest s = ap (λ (v : Accept). body_at (accept_body v) rest) s.0 ∙ ap succeeded s.1
null_or_more Mismatch a rest s = ap (body_at (accept_body a)) (sym (append-nil rest)) ∙ body_more Mismatch a rest [] s (λ e. cc)
null_or_more NoProgram a rest s = ap (body_at (accept_body a)) (sym (append-nil rest)) ∙ body_more NoProgram a rest [] s (λ e. cc)
null_or_more NoProcedure a rest s = ap (body_at (accept_body a)) (sym (append-nil rest)) ∙ body_more NoProcedure a rest [] s (λ e. cc)
null_or_more Garbage a rest s = ap (body_at (accept_body a)) (sym (append-nil rest)) ∙ body_more Garbage a rest [] s (λ e. cc)
null_or_more (Results st list) a rest s = ap (body_at (accept_body a)) (sym (append-nil rest)) ∙ body_more (Results st list) a rest [] s (λ e. cc)

-- ---- answers

abbrev reply_ok : CbReply → Result CbReply MsgFault
reply_ok r = Ok r

abbrev head_ok : Head × List ℕ → Result (Head × List ℕ) RpcFault
head_ok x = Ok x

abbrev with_xid : ℕ → Result CbBody MsgFault → Result CbReply MsgFault
with_xid xid b = b >>= λ b. Ok (record { xid = xid; body = b })

answer_again : (xid : ℕ) (v : Cred) (a : Accept) (rest : List ℕ) → head.Fits (xid, reply (accepted v a)) → answer_at (head.spell (xid, reply (accepted v a)) ++ rest) ≡ with_xid xid (body_at (accept_body a) rest)
unfolding answer_at
answer_again xid v a rest fits = rw (made_again head_of head head_lawful (xid, reply (accepted v a)) rest fits) refl

pub spelled_answer_read : (r : CbReply) (bytes : List ℕ) → SpellsAnswer r bytes → answer_at bytes ≡ Ok r
spelled_answer_read r bytes s =
    ap answer_at s.parts ∙ answer_again r.xid s.verifier s.accept s.rest s.fits ∙ ap (with_xid r.xid) (null_or_more r.body s.accept s.rest s.body)

spoken_takes : (xid : ℕ) (s : Spoken) (bytes rest : List ℕ) (r : CbReply) → Takes bytes (head.spell (xid, s)) rest → head.Fits (xid, s) → behind_head (kept xid s) rest ≡ Ok r → SpellsAnswer r bytes
spoken_takes xid (call prog vers procedure c v) bytes rest r t fits e = absurd cc
spoken_takes xid (reply (denied (versions low high))) bytes rest r t fits e = absurd cc
spoken_takes xid (reply (denied (auth n))) bytes rest r t fits e = absurd cc
spoken_takes xid (reply (accepted v a)) bytes rest r t fits e =
    let b = bind_ok (body_at (accept_body a) rest) (λ b. reply_ok (record { xid = xid; body = b })) r e in
    let r-is : record { xid = xid; body = b.0 } ≡ r = cc in
    subst (λ (q : CbReply). SpellsAnswer q bytes) r-is (record {
      verifier = v;
      accept = a;
      rest = rest;
      fits = fits;
      parts = t.parts;
      body = accepted_takes a rest b.0 t.rest_fits b.1;
    })

pub read_answer_spelled : (r : CbReply) (bytes : List ℕ) → IsBytes bytes → answer_at bytes ≡ Ok r → SpellsAnswer r bytes
unfolding answer_at
read_answer_spelled r bytes fits e =
    let a = bind_ok (fault_as of_rpc (made head_of head bytes)) (λ h. behind_head h.0 h.1) r e in
    let h = bind_ok (head.read bytes) (λ x. head_ok (head_of x.0, x.1)) a.0 (fault_as_ok of_rpc (made head_of head bytes) a.0 a.1) in
    let t = head_lawful.takes bytes h.0 fits h.1 in
    let a-is : (head_of h.0.0, h.0.1) ≡ a.0 = cc in
    spoken_takes h.0.0.0 h.0.0.1 bytes h.0.1 r t.0 t.1 (ap (λ (v : Head × List ℕ). behind_head v.0 v.1) a-is ∙ a.2)

pub one_answer : (r s : CbReply) (bytes : List ℕ) → SpellsAnswer r bytes → SpellsAnswer s bytes → r ≡ s
one_answer r s bytes p q =
    let same : reply_ok r ≡ reply_ok s = sym (spelled_answer_read r bytes p) ∙ spelled_answer_read s bytes q in
    cc

same_body : (xid : ℕ) (b : CbBody) (more : List ℕ) (s : CbReply) → with_xid xid (ended (read_with b more)) ≡ Ok s → (record { xid = xid; body = b } ≡ s) × (more ≡ [])
same_body xid b more s e =
    let c = bind_ok (ended (read_with b more)) (λ b. reply_ok (record { xid = xid; body = b })) s e in
    let a = alone b c.0 more c.1 in
    let s-is : record { xid = xid; body = c.0 } ≡ s = cc in
    (ap (λ (v : CbBody). let q : CbReply = record { xid = xid; body = v } in q) a.0 ∙ s-is, a.1)

pub no_answer_begins_another : (r s : CbReply) (a b more : List ℕ) → SpellsAnswer r a → SpellsAnswer s b → b ≡ a ++ more → r.body ≢ Null → (r ≡ s) × (more ≡ [])
no_answer_begins_another r s a b more p q e ne =
    let text : b ≡ head.spell (r.xid, reply (accepted p.verifier p.accept)) ++ (p.rest ++ more) =
    e ∙ ap (λ (w : List ℕ). w ++ more) p.parts ∙ append_assoc (head.spell (r.xid, reply (accepted p.verifier p.accept))) p.rest more in
    let read : answer_at b ≡ with_xid r.xid (ended (read_with r.body more)) =
    ap answer_at text ∙ answer_again r.xid p.verifier p.accept (p.rest ++ more) p.fits ∙ ap (with_xid r.xid) (body_more r.body p.accept p.rest more p.body ne) in
    same_body r.xid r.body more s (sym read ∙ spelled_answer_read s b q)

-- ---- what is written

no_auth_fits : cred.Fits no_auth
unfolding cred
no_auth_fits = (omega arith, (omega arith, omega arith))

written_fits : (xid : ℕ) (b : CbBody) → xid < 2 ^ 32 → head.Fits (xid, reply (accepted no_auth (written_accept b)))
unfolding spoken verdict accept
written_fits xid Mismatch lt = (lt, (omega arith, (omega arith, (no_auth_fits, (omega arith, (omega arith, omega arith))))))
written_fits xid NoProgram lt = (lt, (omega arith, (omega arith, (no_auth_fits, (omega arith, tt)))))
written_fits xid NoProcedure lt = (lt, (omega arith, (omega arith, (no_auth_fits, (omega arith, tt)))))
written_fits xid Garbage lt = (lt, (omega arith, (omega arith, (no_auth_fits, (omega arith, tt)))))
written_fits xid Null lt = (lt, (omega arith, (omega arith, (no_auth_fits, (omega arith, tt)))))
written_fits xid (Results s list) lt = (lt, (omega arith, (omega arith, (no_auth_fits, (omega arith, tt)))))

written_body : (b : CbBody) → BodyFits b → SpellsBody b (written_accept b) (written_results b)
written_body Mismatch fits = ((1, 4, refl), refl)
written_body NoProgram fits = (refl, refl)
written_body NoProcedure fits = (refl, refl)
written_body Garbage fits = (refl, refl)
written_body Null fits = (refl, refl)
written_body (Results s list) fits = (refl, ([], fits, refl))

pub written_answer_spelled : (r : CbReply) → AnswerFits r → SpellsAnswer r (written_answer r)
written_answer_spelled r fits = record {
  verifier = no_auth;
  accept = written_accept r.body;
  rest = written_results r.body;
  fits = written_fits r.xid r.body fits.0;
  parts = refl;
  body = written_body r.body fits.1;
}

pub written_answer_read : (r : CbReply) → AnswerFits r → answer_at (written_answer r) ≡ Ok r
written_answer_read r fits = spelled_answer_read r (written_answer r) (written_answer_spelled r fits)

-- ---- what is spelled can be written

body_fits : (b : CbBody) (a : Accept) (rest : List ℕ) → SpellsBody b a rest → BodyFits b
unfolding results told
body_fits Mismatch a rest s = tt
body_fits NoProgram a rest s = tt
body_fits NoProcedure a rest s = tt
body_fits Garbage a rest s = tt
body_fits Null a rest s = tt
body_fits (Results st list) a rest s =
    let f = s.1.1 in
    ((f.0.0, ((omega arith, omega arith), f.0.1.1)), f.1)

pub spelled_answer_fits : (r : CbReply) (bytes : List ℕ) → SpellsAnswer r bytes → AnswerFits r
spelled_answer_fits r bytes s = (s.fits.0, body_fits r.body s.accept s.rest s.body)

pub read_answer_fits : (bytes : List ℕ) (r : Result CbReply MsgFault) → IsBytes bytes → IsRead r (answer_at bytes) → IfOk r (λ r. AnswerFits r)
read_answer_fits bytes (Ok r) fits e = spelled_answer_fits r bytes (read_answer_spelled r bytes fits e)
read_answer_fits bytes (Err f) fits e = tt
