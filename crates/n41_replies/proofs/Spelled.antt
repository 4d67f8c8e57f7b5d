-- Replies are read just where they are spelled.
use Rattle.std.proofs.Common.{◌≡◌, ℕ, zero, suc, ◌<◌, ◌≤◌, ◌^◌, cond, eqb, true, List, [], ◌∷◌, ◌++◌, length, map, slice_get, Some, Result, Ok, Err, refl, sym, ap, subst, ◌∙◌, append_assoc, arith, inl, inr}
use Rattle.std.specs.List.{flat_map, AllByRecursion}
use Rattle.std.specs.Int.{w32}
use Rattle.std.specs.Prelude.{IfOk}
use Rattle.std.proofs.lemmas.Bool.{eqb-true}
use Rattle.std.proofs.lemmas.List.{append-nil, nil_from_length}
use Rattle.std.proofs.lemmas.List.Concat.{flat_map-cons}
use Rattle.n41_xdr.specs.Reading.{◌>>=◌, number_at, opaque_at}
use Rattle.n41_xdr.specs.Spelling as spelling
use Rattle.n41_xdr.specs.Format.{fault_as, made, many_at}
use Rattle.n41_xdr.specs.Lawful.{IsBytes, Takes}
use Rattle.n41_xdr.proofs.Lawful.{bind_ok, chosen, fault_as_ok, Takes-then, word_lawful, opaque_lawful, many_lawful, made_again}
use Rattle.n41_types.specs.declared.statuses.Status.{Status}
use Rattle.n41_results.specs.declared.replies.Reply.{Reply}
use Rattle.n41_results.specs.declared.replies.ReplyBody.{ReplyBody}
use Rattle.n41_results.specs.declared.replies.ReplyBody.TheVariants.{Denied, Rejected, Results}
use Rattle.n41_results.specs.declared.results.Res.{Res}
use Rattle.n41_rpc.specs.declared.fault.RpcFault.{RpcFault}
use Rattle.n41_rpc.specs.declared.heads.Head.{Head}
use Rattle.n41_rpc.specs.declared.heads.HeadBody.{HeadBody}
use Rattle.n41_rpc.specs.declared.heads.HeadBody.TheVariants as body
use Rattle.n41_rpc.specs.Heads.{accept, cred, denial, Verdict, verdict, verdict_body, Spoken, call, reply, spoken, head, head_of, kept, no_auth, written_accept, written_verdict, IsBody}
use Rattle.n41_rpc.proofs.Lawful.{head_lawful}
use Rattle.n41_ops.specs.Results.{ToldRes, told_res, res_of, written_res}
use Rattle.n41_ops.proofs.Kept.{res_kept}
use Rattle.n41_ops.proofs.ResultsLawful.{told_res_lawful}
use Rattle.n41_replies.specs.declared.fault.MsgFault.{MsgFault}
use Rattle.n41_replies.specs.declared.fault.MsgFault.TheVariants.{Left, Count}
use Rattle.n41_replies.specs.Faults.{of_rpc, of_xdr, of_op, Gives}
use Rattle.n41_replies.specs.Replies.{last_status, results_at, body_at, behind, rest_at, reply_at, head_body, body_text, BodyFits, Spells, told_of, WrittenFits, IsSpellable, written}

abbrev okm : {A : Type 0} → A → Result A MsgFault
okm x = Ok x

abbrev okh : Head × List ℕ → Result (Head × List ℕ) RpcFault
okh x = Ok x

-- ---- results

-- results that are read are those of results that are told
record Told (place n : ℕ) (bytes : List ℕ) (x : List Res × List ℕ) : Type 0 where
  told : List ToldRes
  read : many_at told_res n bytes ≡ Ok (told, x.1)
  kept_is : map res_of told ≡ x.0

-- one more in front
told_cons : (n : ℕ) (bytes after rest : List ℕ) (t : ToldRes × List ℕ) (told : List ToldRes) → told_res.read bytes ≡ Ok t → t.1 ≡ after → many_at told_res n after ≡ Ok (told, rest) → many_at told_res (suc n) bytes ≡ Ok (t.0 ∷ told, rest)
told_cons n bytes after rest t told first is others = rw (first, is, others) refl

told_at : (place n : ℕ) (bytes : List ℕ) (x : List Res × List ℕ) → results_at place n bytes ≡ Ok x → Told place n bytes x
told_at place zero bytes x e =
    let none : List Res × List ℕ = ([], bytes) in
    let x-is : none ≡ x = cc in
    subst (λ (y : List Res × List ℕ). Told place zero bytes y) x-is (record { told = []; read = refl; kept_is = refl })
told_at place (suc n) bytes x e =
    let a = bind_ok (fault_as (of_op place) (made res_of told_res bytes)) (λ x. results_at (suc place) n x.1 >>= λ y. Ok (x.0 ∷ y.0, y.1)) x e in
    let b = bind_ok (results_at (suc place) n a.0.1) (λ y. Ok (a.0.0 ∷ y.0, y.1)) x a.2 in
    let t = bind_ok (told_res.read bytes) (λ x. Ok (res_of x.0, x.1)) a.0 (fault_as_ok (of_op place) (made res_of told_res bytes) a.0 a.1) in
    let others = told_at (suc place) n a.0.1 b.0 b.1 in
    let a-is : (res_of t.0.0, t.0.1) ≡ a.0 = cc in
    let x-is : (a.0.0 ∷ b.0.0, b.0.1) ≡ x = cc in
    let after : t.0.1 ≡ a.0.1 = ap (λ (v : Res × List ℕ). v.1) a-is in
    let first : res_of t.0.0 ≡ a.0.0 = ap (λ (v : Res × List ℕ). v.0) a-is in
    subst (λ (y : List Res × List ℕ). Told place (suc n) bytes y) x-is (record {
      told = t.0.0 ∷ others.told;
      read = told_cons n bytes a.0.1 b.0.1 t.0 others.told t.1 after others.read;
      kept_is = ap (λ (r : Res). r ∷ map res_of others.told) first ∙ ap (λ (rs : List Res). a.0.0 ∷ rs) others.kept_is;
    })

results_again : (place : ℕ) (told : List ToldRes) (rest : List ℕ) → AllByRecursion told_res.Fits told → results_at place (length told) (flat_map told_res.spell told ++ rest) ≡ Ok (map res_of told, rest)
results_again place [] rest fits = refl
results_again place (t ∷ told) rest fits =
    let regrouped : flat_map told_res.spell (t ∷ told) ++ rest ≡ told_res.spell t ++ (flat_map told_res.spell told ++ rest) =
    ap (λ (w : List ℕ). w ++ rest) (flat_map-cons told_res.spell t told) ∙ append_assoc (told_res.spell t) (flat_map told_res.spell told) rest in
    ap (results_at place (suc (length told))) regrouped
    ∙ rw (made_again res_of told_res told_res_lawful t (flat_map told_res.spell told ++ rest) fits.0, results_again (suc place) told rest fits.1) refl

-- ---- what is read is spelled so

-- what is read behind a head
record Body (b : ReplyBody) (bytes rest : List ℕ) : Type 0 where
  tag : List ℕ
  told : List ToldRes
  tag_fits : length tag ≤ 65536
  body_fits : BodyFits b told
  takes : Takes bytes (body_text b tag told) rest

body_takes : (bytes : List ℕ) (x : ReplyBody × List ℕ) → IsBytes bytes → body_at bytes ≡ Ok x → Body x.0 bytes x.1 × (head_body x.0 ≡ body.Success)
unfolding body_at
body_takes bytes x fits e =
    let a = bind_ok (fault_as of_xdr (number_at w32 bytes)) _ x e in
    let b = bind_ok (fault_as of_xdr (opaque_at 65536 a.0.1)) _ x a.2 in
    let c = bind_ok (fault_as of_xdr (number_at w32 b.0.1)) _ x b.2 in
    let d = bind_ok (results_at 0 c.0.0 c.0.1) _ x c.2 in
    let t = told_at 0 c.0.0 c.0.1 d.0 d.1 in
    let ta = word_lawful.takes bytes a.0 fits (fault_as_ok of_xdr (number_at w32 bytes) a.0 a.1) in
    let tb = (opaque_lawful 65536).takes a.0.1 b.0 ta.0.rest_fits (fault_as_ok of_xdr (opaque_at 65536 a.0.1) b.0 b.1) in
    let tc = word_lawful.takes b.0.1 c.0 tb.0.rest_fits (fault_as_ok of_xdr (number_at w32 b.0.1) c.0 c.1) in
    let td = (many_lawful told_res c.0.0 told_res_lawful).takes c.0.1 (t.told, d.0.1) tc.0.rest_fits t.read in
    let counted : Takes b.0.1 (spelling.word (length t.told)) c.0.1 = subst (λ (k : ℕ). Takes b.0.1 (spelling.word k) c.0.1) (sym td.1.0) tc.0 in
    let two = Takes-then b.0.1 (spelling.word (length t.told)) c.0.1 (flat_map told_res.spell t.told) d.0.1 counted td.0 in
    let three = Takes-then a.0.1 (spelling.opaque b.0.0) b.0.1 (spelling.word (length t.told) ++ flat_map told_res.spell t.told) d.0.1 tb.0 two in
    let four = Takes-then bytes (spelling.word a.0.0) a.0.1 (spelling.opaque b.0.0 ++ (spelling.word (length t.told) ++ flat_map told_res.spell t.told)) d.0.1 ta.0 three in
    elim (chosen (eqb (last_status a.0.0 d.0.0) a.0.0) (Ok (Results (record { 0 = a.0.0 }) d.0.0, d.0.1)) (Err (Count a.0.0 (last_status a.0.0 d.0.0))) (Ok x) d.2) [
      | inl h ↦
          let x-is : (Results (record { 0 = a.0.0 }) d.0.0, d.0.1) ≡ x = cc in
          let same : last_status a.0.0 d.0.0 ≡ a.0.0 = eqb-true _ _ h.0 in
          subst (λ (y : ReplyBody × List ℕ). Body y.0 bytes y.1 × (head_body y.0 ≡ body.Success)) x-is
          (record { tag = b.0.0; told = t.told; tag_fits = tb.1.0; body_fits = (ta.1, omega (arith, td.1.0, tc.1), td.1.1, t.kept_is, same); takes = four }, refl)
      | inr h ↦ absurd cc
    ]

behind_takes : (xid : ℕ) (hb : HeadBody) (bytes : List ℕ) (x : Reply × List ℕ) → IsBytes bytes → behind xid hb bytes ≡ Ok x → Body x.0.body bytes x.1 × (head_body x.0.body ≡ hb) × (x.0.xid ≡ xid)
behind_takes xid (body.Denied n) bytes x fits e =
    let read : Reply × List ℕ = (record { xid = xid; body = Denied n }, bytes) in
    let x-is : read ≡ x = cc in
    subst (λ (y : Reply × List ℕ). Body y.0.body bytes y.1 × (head_body y.0.body ≡ body.Denied n) × (y.0.xid ≡ xid)) x-is
    (record { tag = []; told = []; tag_fits = omega arith; body_fits = refl; takes = record { parts = refl; rest_fits = fits } }, refl, refl)
behind_takes xid (body.Rejected n) bytes x fits e =
    let read : Reply × List ℕ = (record { xid = xid; body = Rejected n }, bytes) in
    let x-is : read ≡ x = cc in
    subst (λ (y : Reply × List ℕ). Body y.0.body bytes y.1 × (head_body y.0.body ≡ body.Rejected n) × (y.0.xid ≡ xid)) x-is
    (record { tag = []; told = []; tag_fits = omega arith; body_fits = refl; takes = record { parts = refl; rest_fits = fits } }, refl, refl)
behind_takes xid body.Success bytes x fits e =
    let b = bind_ok (body_at bytes) (λ b. Ok (record { xid = xid; body = b.0 }, b.1)) x e in
    let t = body_takes bytes b.0 fits b.1 in
    let read : Reply × List ℕ = (record { xid = xid; body = b.0.0 }, b.0.1) in
    let x-is : read ≡ x = cc in
    subst (λ (y : Reply × List ℕ). Body y.0.body bytes y.1 × (head_body y.0.body ≡ body.Success) × (y.0.xid ≡ xid)) x-is (t.0, t.1, refl)

rest_takes : (xid : ℕ) (s : Spoken) (bytes : List ℕ) (x : Reply × List ℕ) → IsBytes bytes → rest_at (kept xid s) bytes ≡ Ok x → (v : Verdict) × (s ≡ reply v) × Body x.0.body bytes x.1 × (head_body x.0.body ≡ verdict_body v) × (x.0.xid ≡ xid)
rest_takes xid (call prog vers procedure c v) bytes x fits e = absurd cc
rest_takes xid (reply v) bytes x fits e =
    let t = behind_takes xid (verdict_body v) bytes x fits e in
    (v, refl, t.0, t.1, t.2)

abbrev spoken_by : ℕ → Spoken → ℕ × Spoken
spoken_by a s = (a, s)

pair_is : (a b : ℕ) (s u : Spoken) → a ≡ b → s ≡ u → spoken_by a s ≡ spoken_by b u
pair_is a b s u p q = cc

-- a head and a body, behind which nothing is left
in_parts : (bytes : List ℕ) (v w : ℕ × Spoken) (behind text rest : List ℕ) → bytes ≡ head.spell v ++ behind → v ≡ w → behind ≡ text ++ rest → rest ≡ [] → bytes ≡ head.spell w ++ text
in_parts bytes v w behind text rest parts is body_parts none =
    parts ∙ ap (λ (s : ℕ × Spoken). head.spell s ++ behind) is
    ∙ ap (λ (t : List ℕ). head.spell w ++ t) (body_parts ∙ ap (λ (t : List ℕ). text ++ t) none ∙ append-nil text)

reply_takes : (bytes : List ℕ) (r : Reply) → IsBytes bytes → reply_at bytes ≡ Ok r → Spells r bytes
unfolding reply_at
reply_takes bytes r fits e =
    let a = bind_ok (fault_as of_rpc (made head_of head bytes)) _ r e in
    let b = bind_ok (rest_at a.0.0 a.0.1) _ r a.2 in
    let h = bind_ok (head.read bytes) (λ x. Ok (head_of x.0, x.1)) a.0 (fault_as_ok of_rpc (made head_of head bytes) a.0 a.1) in
    let th = head_lawful.takes bytes h.0 fits h.1 in
    let a-is : (kept h.0.0.0 h.0.0.1, h.0.1) ≡ a.0 = cc in
    let read : rest_at (kept h.0.0.0 h.0.0.1) h.0.1 ≡ Ok b.0 = ap (λ (v : Head × List ℕ). rest_at v.0 v.1) a-is ∙ b.1 in
    let t = rest_takes h.0.0.0 h.0.0.1 h.0.1 b.0 th.0.rest_fits read in
    elim (chosen (eqb (length b.0.1) 0) (Ok b.0.0) (Err (Left (length b.0.1))) (Ok r) b.2) [
      | inl g ↦
          let r-is : b.0.0 ≡ r = cc in
          let nothing : b.0.1 ≡ [] = nil_from_length b.0.1 (eqb-true _ _ g.0) in
          let spoken-is : spoken_by h.0.0.0 h.0.0.1 ≡ spoken_by b.0.0.xid (reply t.0) = pair_is h.0.0.0 b.0.0.xid h.0.0.1 (reply t.0) (sym t.4) t.1 in
          subst (λ (v : Reply). Spells v bytes) r-is (record {
            verdict = t.0;
            tag = t.2.tag;
            told = t.2.told;
            says = sym t.3;
            head_fits = subst (λ (v : ℕ × Spoken). head.Fits v) spoken-is th.1;
            tag_fits = t.2.tag_fits;
            body_fits = t.2.body_fits;
            whole = in_parts bytes (spoken_by h.0.0.0 h.0.0.1) (spoken_by b.0.0.xid (reply t.0)) h.0.1 (body_text b.0.0.body t.2.tag t.2.told) b.0.1 th.0.parts spoken-is t.2.takes.parts nothing;
          })
      | inr g ↦ absurd cc
    ]

pub is_found : (bytes : List ℕ) (r : Result Reply MsgFault) → IsBytes bytes → Gives r (reply_at bytes) → IfOk r (λ v. Spells v bytes)
is_found bytes (Ok v) fits given = reply_takes bytes v fits given
is_found bytes (Err e) fits given = tt

-- ---- what is spelled so is read

eqb_same : (n : ℕ) → eqb n n ≡ true
eqb_same n = grind arith

body_again : (s : Status) (list : List Res) (tag : List ℕ) (told : List ToldRes) (more : List ℕ) → length tag ≤ 65536 → BodyFits (Results s list) told → body_at (body_text (Results s list) tag told ++ more) ≡ okm (Results s list, more)
unfolding body_at
body_again s list tag told more tag_fits fits =
    let list_again : results_at 0 (length told) (flat_map told_res.spell told ++ more) ≡ okm (list, more) =
    results_again 0 told more fits.2 ∙ ap (λ (rs : List Res). okm (rs, more)) fits.3 in
    let regrouped : body_text (Results s list) tag told ++ more ≡ spelling.word s.0 ++ (spelling.opaque tag ++ (spelling.word (length told) ++ (flat_map told_res.spell told ++ more))) = simp append_assoc in
    ap body_at regrouped
    ∙ rw (
      word_lawful.again s.0 (spelling.opaque tag ++ (spelling.word (length told) ++ (flat_map told_res.spell told ++ more))) fits.0,
      (opaque_lawful 65536).again tag (spelling.word (length told) ++ (flat_map told_res.spell told ++ more)) (tag_fits, omega arith),
      word_lawful.again (length told) (flat_map told_res.spell told ++ more) fits.1,
      list_again,
      fits.4,
      eqb_same s.0,
    ) refl

-- a body that fits is read again behind its head
behind_again : (xid : ℕ) (b : ReplyBody) (tag : List ℕ) (told : List ToldRes) (more : List ℕ) → length tag ≤ 65536 → BodyFits b told → behind xid (head_body b) (body_text b tag told ++ more) ≡ okm (record { xid = xid; body = b }, more)
behind_again xid (Denied n) tag told more tag_fits fits = refl
behind_again xid (Rejected n) tag told more tag_fits fits = refl
behind_again xid (Results s list) tag told more tag_fits fits = rw (body_again s list tag told more tag_fits fits) refl

front_at : List ℕ → Result (Reply × List ℕ) MsgFault
front_at bytes = fault_as of_rpc (made head_of head bytes) >>= λ h. rest_at h.0 h.1

front_again : (r : Reply) (bytes more : List ℕ) → Spells r bytes → front_at (bytes ++ more) ≡ okm (r, more)
unfolding front_at
front_again r bytes more h =
    let regrouped : bytes ++ more ≡ head.spell (r.xid, reply h.verdict) ++ (body_text r.body h.tag h.told ++ more) =
    ap (λ (w : List ℕ). w ++ more) h.whole ∙ append_assoc (head.spell (r.xid, reply h.verdict)) (body_text r.body h.tag h.told) more in
    let read : made head_of head (bytes ++ more) ≡ okh (kept r.xid (reply h.verdict), body_text r.body h.tag h.told ++ more) =
    ap (made head_of head) regrouped ∙ made_again head_of head head_lawful (r.xid, reply h.verdict) (body_text r.body h.tag h.told ++ more) h.head_fits in
    let rest : rest_at (kept r.xid (reply h.verdict)) (body_text r.body h.tag h.told ++ more) ≡ okm (r, more) =
    ap (λ (b : HeadBody). behind r.xid b (body_text r.body h.tag h.told ++ more)) h.says ∙ behind_again r.xid r.body h.tag h.told more h.tag_fits h.body_fits in
    rw (read, rest) refl

whole : (h : Result (Head × List ℕ) MsgFault) (r : Reply) → (h >>= λ h. rest_at h.0 h.1) ≡ okm (r, [])
    → (h >>= λ h. rest_at h.0 h.1 >>= λ r. cond (eqb (length r.1) 0) (okm r.0) (Err (Left (length r.1)))) ≡ Ok r
whole (Ok h) r e = rw e refl
whole (Err f) r e = absurd cc

finishes : (bytes : List ℕ) (r : Reply) → front_at bytes ≡ okm (r, []) → reply_at bytes ≡ Ok r
unfolding reply_at front_at
finishes bytes r e = whole (fault_as of_rpc (made head_of head bytes)) r e

pub reply_again : (r : Reply) (bytes : List ℕ) → Spells r bytes → reply_at bytes ≡ Ok r
reply_again r bytes h = finishes bytes r (ap front_at (sym (append-nil bytes)) ∙ front_again r bytes [] h)

-- ---- two spellings

same_ok : (x y : Reply × List ℕ) → okm x ≡ okm y → (x.0 ≡ y.0) × (x.1 ≡ y.1)
same_ok x y e =
    let pair : x ≡ y = cc in
    (ap (λ (v : Reply × List ℕ). v.0) pair, ap (λ (v : Reply × List ℕ). v.1) pair)

pub none_begins_another : (r s : Reply) (a b more : List ℕ) → Spells r a → Spells s b → b ≡ a ++ more → (r ≡ s) × (more ≡ [])
none_begins_another r s a b more hr hs e =
    let one : front_at b ≡ okm (r, more) = ap front_at e ∙ front_again r a more hr in
    let two : front_at b ≡ okm (s, []) = ap front_at (sym (append-nil b)) ∙ front_again s b [] hs in
    same_ok (r, more) (s, []) (sym one ∙ two)

pub one_value : (r s : Reply) (bytes : List ℕ) → Spells r bytes → Spells s bytes → r ≡ s
one_value r s bytes hr hs =
    let both = none_begins_another r s bytes bytes [] hr hs (sym (append-nil bytes)) in
    both.0

-- ---- what is written

all_kept : (list : List Res) → map res_of (map written_res list) ≡ list
all_kept [] = refl
all_kept (x ∷ list) = ap (λ (r : Res). r ∷ map res_of (map written_res list)) (res_kept x) ∙ ap (λ (rs : List Res). x ∷ rs) (all_kept list)

-- each result that is told of a list fits
pub each_fits : (list : List Res) (i : ℕ) (x : Res) → AllByRecursion told_res.Fits (map written_res list) → slice_get list i ≡ Some x → told_res.Fits (written_res x)
each_fits [] i x fits is = absurd cc
each_fits (y ∷ list) zero x fits is =
    let same : y ≡ x = cc in
    subst (λ (r : Res). told_res.Fits (written_res r)) same fits.0
each_fits (y ∷ list) (suc i) x fits is = each_fits list i x fits.1 is

pub told_length : (list : List Res) → length (map written_res list) ≡ length list
told_length [] = refl
told_length (x ∷ list) = ap suc (told_length list)

written_fits : (b : ReplyBody) → WrittenFits b → BodyFits b (told_of b)
written_fits (Denied n) fits = refl
written_fits (Rejected n) fits = refl
written_fits (Results s list) fits = (fits.0, omega (arith, told_length list, fits.1), fits.2, all_kept list, fits.3)

-- ---- the head that is written

says_it : (b : HeadBody) → IsBody b → verdict_body (written_verdict b) ≡ b
says_it body.Success fits = refl
says_it (body.Rejected zero) fits = absurd (omega arith)
says_it (body.Rejected (suc zero)) fits = refl
says_it (body.Rejected (suc (suc zero))) fits = refl
says_it (body.Rejected (suc (suc (suc zero)))) fits = refl
says_it (body.Rejected (suc (suc (suc (suc zero))))) fits = refl
says_it (body.Rejected (suc (suc (suc (suc (suc zero)))))) fits = refl
says_it (body.Rejected (suc (suc (suc (suc (suc (suc n))))))) fits = absurd (omega arith)
says_it (body.Denied zero) fits = refl
says_it (body.Denied (suc zero)) fits = refl
says_it (body.Denied (suc (suc n))) fits = absurd (omega arith)

accept_fits : (n : ℕ) → (1 ≤ n) × (n ≤ 5) → accept.Fits (written_accept n)
unfolding accept
accept_fits zero fits = absurd (omega arith)
accept_fits (suc zero) fits = (omega arith, tt)
accept_fits (suc (suc zero)) fits = (omega arith, (omega arith, omega arith))
accept_fits (suc (suc (suc zero))) fits = (omega arith, tt)
accept_fits (suc (suc (suc (suc zero)))) fits = (omega arith, tt)
accept_fits (suc (suc (suc (suc (suc zero))))) fits = (omega arith, tt)
accept_fits (suc (suc (suc (suc (suc (suc n)))))) fits = absurd (omega arith)

no_auth_fits : cred.Fits no_auth
unfolding cred
no_auth_fits = (omega arith, (omega arith, omega arith))

head_fits : (xid : ℕ) (b : HeadBody) → xid < 2 ^ 32 → IsBody b → head.Fits (xid, reply (written_verdict b))
unfolding spoken verdict denial accept
head_fits xid body.Success lt fits = (lt, (omega arith, (omega arith, (no_auth_fits, (omega arith, tt)))))
head_fits xid (body.Rejected n) lt fits = (lt, (omega arith, (omega arith, (no_auth_fits, accept_fits n fits))))
head_fits xid (body.Denied zero) lt fits = (lt, (omega arith, (omega arith, (omega arith, (omega arith, omega arith)))))
head_fits xid (body.Denied (suc zero)) lt fits = (lt, (omega arith, (omega arith, (omega arith, omega arith))))
head_fits xid (body.Denied (suc (suc n))) lt fits = absurd (omega arith)

pub written_spells : (r : Reply) → IsSpellable r → Spells r (written r)
written_spells r fits = record {
  verdict = written_verdict (head_body r.body);
  tag = [];
  told = told_of r.body;
  says = says_it (head_body r.body) fits.1;
  head_fits = head_fits r.xid (head_body r.body) fits.0 fits.1;
  tag_fits = omega arith;
  body_fits = written_fits r.body fits.2;
  whole = refl;
}

pub written_again : (r : Reply) → IsSpellable r → reply_at (written r) ≡ Ok r
written_again r fits = reply_again r (written r) (written_spells r fits)
