-- The two ids of a caller are those of the body of AUTH_SYS.
use Rattle.std.proofs.Common.{◌≡◌, ◌<◌, ◌≤◌, ◌^◌, ℕ, Bool, true, false, ◌&&◌, ◌==◌, List, [], ◌∷◌, ◌++◌, length, Option, Some, None, Result, Ok, Err, if◌then◌else◌, refl, sym, ap, subst, ◌∙◌, arith}
use Rattle.std.specs.Prelude.{IfSome}
use Rattle.std.proofs.lemmas.Bool.{eqb-true}
use Rattle.std.proofs.lemmas.List.{append-nil, nil_from_length}
use Rattle.n41_xdr.specs.declared.fault.XdrFault.{XdrFault}
use Rattle.n41_xdr.specs.Spelling as spelling
use Rattle.n41_xdr.specs.Format.{made}
use Rattle.n41_xdr.specs.Lawful.{IsBytes, Takes, IsLawful}
use Rattle.n41_xdr.proofs.Lawful.{word_lawful, opaque_lawful, both_lawful, bind_ok, made_again}
use Rattle.n41_rpc.specs.declared.heads.Cred.{Cred}
use Rattle.n41_rpc.specs.Heads.{system, system_of}
use Rattle.n41_args.specs.declared.arg.Arg.{Arg}
use Rattle.n41_seen.specs.declared.calls.CallSeen.{CallSeen}
use Rattle.n41_seen.specs.declared.calls.SeenTail.{SeenTail}
use Rattle.n41_seen.specs.declared.calls.SeenTail.TheVariants.{Whole}
use Rattle.n41_seen.specs.Calls.{whole_call}
use Rattle.n41_compound.specs.declared.heads.Ids.{Ids}
use Rattle.n41_compound.specs.Heads.{cred_of, ids, ids_in, is_ended, is_machine, is_whole, told_ids, IsCallBy}
use Rattle.n41_compound.proofs.Truths.{and_true, if_some}

abbrev Told : Type 0
Told = ℕ × (List ℕ × (ℕ × (ℕ × ℕ)))

ids_lawful : IsLawful ids
unfolding ids
ids_lawful = both_lawful _ _ word_lawful (both_lawful _ _ (opaque_lawful 255) (both_lawful _ _ word_lawful (both_lawful _ _ word_lawful word_lawful)))

-- what this client tells
abbrev ids_of : ℕ → ℕ → Told
ids_of uid gid = (0, (110 ∷ 52 ∷ 49 ∷ [], (uid, (gid, 0))))

ids_fit : (uid gid : ℕ) → uid < 2 ^ 32 → gid < 2 ^ 32 → ids.Fits (ids_of uid gid)
unfolding ids
ids_fit uid gid u g = (omega arith, ((omega arith, omega arith), (u, (g, omega arith))))

-- no further gids are told by their count alone
same_text : (uid gid : ℕ) → ids.spell (ids_of uid gid) ≡ system.spell (system_of uid gid)
unfolding ids system
same_text uid gid = simp append-nil

machine_is : (name : List ℕ) → is_machine name ≡ true → name ≡ 110 ∷ 52 ∷ 49 ∷ []
machine_is [] e = absurd cc
machine_is (a ∷ []) e = absurd cc
machine_is (a ∷ b ∷ []) e = absurd cc
machine_is (a ∷ b ∷ c ∷ []) e =
    let t = and_true ((a == 110) && (b == 52)) (c == 49) e in
    let s = and_true (a == 110) (b == 52) t.0 in
    let x : a ≡ 110 = eqb-true a 110 s.0 in
    let y : b ≡ 52 = eqb-true b 52 s.1 in
    let z : c ≡ 49 = eqb-true c 49 t.1 in
    cc
machine_is (a ∷ b ∷ c ∷ d ∷ name) e = absurd cc

told_whole : (s u g n : ℕ) (name : List ℕ) → s ≡ 0 → name ≡ 110 ∷ 52 ∷ 49 ∷ [] → n ≡ 0 → (let t : Told = (s, (name, (u, (g, n)))) in t) ≡ ids_of u g
told_whole s u g n name a b c = cc

abbrev pub ids_pair : ℕ → ℕ → ℕ × ℕ
ids_pair uid gid = (uid, gid)

abbrev as_ids : Result (Told × List ℕ) XdrFault → Option (ℕ × ℕ)
as_ids (Ok x) = ids_in (Ok (told_ids x.0, x.1))
as_ids (Err f) = None

ids_by : (bytes : List ℕ) (r : Result (Told × List ℕ) XdrFault) (uid gid : ℕ) → IsBytes bytes → ids.read bytes ≡ r → as_ids r ≡ Some (uid, gid) → bytes ≡ system.spell (system_of uid gid)
ids_by bytes (Err f) uid gid fits is e = absurd cc
ids_by bytes (Ok x) uid gid fits is e =
    let t = if_some ((x.0.0 == 0) && is_machine x.0.1.0 && (x.0.1.1.1.1 == 0) && (length x.1 == 0)) (Some (x.0.1.1.0, x.0.1.1.1.0)) (uid, gid) e in
    let a = and_true ((x.0.0 == 0) && is_machine x.0.1.0 && (x.0.1.1.1.1 == 0)) (length x.1 == 0) t.0 in
    let b = and_true ((x.0.0 == 0) && is_machine x.0.1.0) (x.0.1.1.1.1 == 0) a.0 in
    let d = and_true (x.0.0 == 0) (is_machine x.0.1.0) b.0 in
    let whole = told_whole x.0.0 x.0.1.1.0 x.0.1.1.1.0 x.0.1.1.1.1 x.0.1.0 (eqb-true x.0.0 0 d.0) (machine_is x.0.1.0 d.1) (eqb-true x.0.1.1.1.1 0 b.1) in
    let pair : ids_pair x.0.1.1.0 x.0.1.1.1.0 ≡ ids_pair uid gid = cc t.1 in
    let u : x.0.1.1.0 ≡ uid = ap (λ (p : ℕ × ℕ). p.0) pair in
    let g : x.0.1.1.1.0 ≡ gid = ap (λ (p : ℕ × ℕ). p.1) pair in
    let gone : x.1 ≡ [] = nil_from_length x.1 (eqb-true (length x.1) 0 a.1) in
    (ids_lawful.takes bytes x fits is).0.parts
    ∙ ap (λ (rest : List ℕ). ids.spell x.0 ++ rest) gone
    ∙ append-nil (ids.spell x.0)
    ∙ ap ids.spell whole
    ∙ same_text x.0.1.1.0 x.0.1.1.1.0
    ∙ ap (λ (n : ℕ). system.spell (system_of n x.0.1.1.1.0)) u
    ∙ ap (λ (n : ℕ). system.spell (system_of uid n)) g

as_made : (r : Result (Told × List ℕ) XdrFault) (bytes : List ℕ) → ids.read bytes ≡ r → ids_in (made told_ids ids bytes) ≡ as_ids r
as_made (Ok x) bytes is = rw is refl
as_made (Err f) bytes is = rw is refl

-- what is found is what is spelled
pub ids_are : (bytes : List ℕ) (uid gid : ℕ) → IsBytes bytes → ids_in (made told_ids ids bytes) ≡ Some (uid, gid) → bytes ≡ system.spell (system_of uid gid)
ids_are bytes uid gid fits e = ids_by bytes (ids.read bytes) uid gid fits refl (sym (as_made (ids.read bytes) bytes refl) ∙ e)

-- what is spelled is found
pub ids_again : (uid gid : ℕ) → uid < 2 ^ 32 → gid < 2 ^ 32 → ids_in (made told_ids ids (system.spell (system_of uid gid))) ≡ Some (uid, gid)
ids_again uid gid u g =
    let read : ids.read (system.spell (system_of uid gid)) ≡ Ok (ids_of uid gid, []) =
    ap ids.read (sym (same_text uid gid) ∙ sym (append-nil (ids.spell (ids_of uid gid)))) ∙ ids_lawful.again (ids_of uid gid) [] (ids_fit uid gid u g) in
    as_made (Ok (ids_of uid gid, [])) (system.spell (system_of uid gid)) read

-- ---- the head

ended_is : (t : SeenTail) → is_ended t ≡ true → t ≡ Whole
ended_is Whole e = refl
ended_is _ e = absurd cc

call_whole : (x p v n f m : ℕ) (b : List ℕ) (l : List Arg) (t : SeenTail) (c : List ℕ) → p ≡ 100003 → v ≡ 4 → n ≡ 1 → f ≡ 1 → b ≡ c → t ≡ Whole
    → (let r : CallSeen = record { xid = x; prog = p; vers = v; procedure = n; cred = record { flavor = f; body = b }; minor = m; list = l; tail = t } in r)
    ≡ whole_call x (record { flavor = 1; body = c }) m l
call_whole x p v n f m b l t c h i j k q s = cc

pub call_is : (c : CallSeen) (uid gid : ℕ) → is_whole c ≡ true → c.cred.body ≡ system.spell (system_of uid gid) → IsCallBy c uid gid
call_is c uid gid e body =
    let t = and_true ((c.prog == 100003) && (c.vers == 4) && (c.procedure == 1) && (c.cred.flavor == 1)) (is_ended c.tail) e in
    let f = and_true ((c.prog == 100003) && (c.vers == 4) && (c.procedure == 1)) (c.cred.flavor == 1) t.0 in
    let p = and_true ((c.prog == 100003) && (c.vers == 4)) (c.procedure == 1) f.0 in
    let v = and_true (c.prog == 100003) (c.vers == 4) p.0 in
    call_whole c.xid c.prog c.vers c.procedure c.cred.flavor c.minor c.cred.body c.list c.tail (system.spell (system_of uid gid))
    (eqb-true c.prog 100003 v.0) (eqb-true c.vers 4 v.1) (eqb-true c.procedure 1 p.1) (eqb-true c.cred.flavor 1 f.1) body (ended_is c.tail t.1)

pub is_whole_by : (c : CallSeen) (uid gid : ℕ) → IsCallBy c uid gid → is_whole c ≡ true
is_whole_by c uid gid e = ap is_whole e

pub body_by : (c : CallSeen) (uid gid : ℕ) → IsCallBy c uid gid → c.cred.body ≡ system.spell (system_of uid gid)
body_by c uid gid e = ap (λ (x : CallSeen). x.cred.body) e

-- what is found of a call whose body has these ids
pub found_by : (r : Option (ℕ × ℕ)) (c : CallSeen) (body : List ℕ) → is_whole c ≡ true → r ≡ ids_in (made told_ids ids body) → IsBytes body → body ≡ c.cred.body
    → IfSome r (λ who. IsCallBy c who.0 who.1)
found_by None c body whole is bytes same = tt
found_by (Some who) c body whole is bytes same = call_is c who.0 who.1 whole (sym same ∙ ids_are body who.0 who.1 bytes (sym is))
