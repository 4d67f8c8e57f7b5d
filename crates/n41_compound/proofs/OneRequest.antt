-- A call is of one request.
use Rattle.std.proofs.Common.{◌≡◌, ◌<◌, ◌^◌, ℕ, List, Option, Some, sym, ap, ◌∙◌}
use Rattle.n41_xdr.specs.Format.{made}
use Rattle.n41_types.specs.declared.plans.Request.{Request}
use Rattle.n41_seen.specs.declared.calls.CallSeen.{CallSeen}
use Rattle.n41_compound.specs.Calls.{IsLawful, IsSpelledBy}
use Rattle.n41_compound.specs.Heads.{ids, ids_in, slot_in, told_ids}
use Rattle.n41_compound.proofs.Callers.{ids_again, ids_pair, body_by}
use Rattle.n41_compound.proofs.Whole.{called_by, plan_found, found_again, request}

abbrev body_ids : CallSeen → Option (ℕ × ℕ)
body_ids c = ids_in (made told_ids ids c.cred.body)

pub ids_found : (c : CallSeen) (q : Request) → IsLawful q → IsSpelledBy c q → body_ids c ≡ Some (q.uid, q.gid)
ids_found c q fits e =
    ap (λ (b : List ℕ). ids_in (made told_ids ids b)) (body_by c q.uid q.gid (called_by c q e)) ∙ ids_again q.uid q.gid fits.0 fits.1

pub one_request : (c : CallSeen) (q r : Request) → IsLawful q → IsLawful r → IsSpelledBy c q → IsSpelledBy c r → q ≡ r
one_request c q r fits others e f =
    let who : Some (q.uid, q.gid) ≡ Some (r.uid, r.gid) = sym (ids_found c q fits e) ∙ ids_found c r others f in
    let what : Some q.plan ≡ Some r.plan = sym (plan_found c q fits e) ∙ plan_found c r others f in
    let pair : ids_pair q.uid q.gid ≡ ids_pair r.uid r.gid = cc who in
    let u : q.uid ≡ r.uid = ap (λ (p : ℕ × ℕ). p.0) pair in
    let g : q.gid ≡ r.gid = ap (λ (p : ℕ × ℕ). p.1) pair in
    let p : q.plan ≡ r.plan = cc what in
    let same : request c.xid q.uid q.gid c.minor (slot_in c.list) q.plan ≡ request c.xid r.uid r.gid c.minor (slot_in c.list) r.plan = cc in
    sym (found_again c q e) ∙ same ∙ found_again c r f
