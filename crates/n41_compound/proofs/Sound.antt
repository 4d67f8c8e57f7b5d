-- What is found is a plan that has these operations.
use Rattle.std.proofs.Common.{◌≡◌, ℕ, Bool, true, false, ◌&&◌, ◌==◌, List, [], ◌∷◌, ◌++◌, map, Option, Some, None, inl, inr, if◌then◌else◌, refl, sym, ap, subst, ◌∙◌, arith}
use Rattle.std.specs.Prelude.{is_none}
use Rattle.std.proofs.lemmas.Bool.{eqb-true, eq-eqb, ne_eqb, cases_eq}
use Rattle.n41_types.specs.Spans.{length_on_wire}
use Rattle.n41_types.specs.declared.attributes.Attrs.{Attrs}
use Rattle.n41_types.specs.declared.identities.SessionId.{SessionId}
use Rattle.n41_types.specs.declared.identities.Stateid.{Stateid}
use Rattle.n41_types.specs.declared.plans.Claim.{Claim}
use Rattle.n41_types.specs.declared.plans.Claim.TheVariants as right
use Rattle.n41_types.specs.declared.plans.Locker.{Locker}
use Rattle.n41_types.specs.declared.plans.Locker.TheVariants as who
use Rattle.n41_types.specs.declared.plans.Place.{Place}
use Rattle.n41_types.specs.declared.plans.Place.TheVariants.{Root, At}
use Rattle.n41_types.specs.declared.plans.Plan.{Plan}
use Rattle.n41_types.specs.declared.plans.Plan.TheVariants as plan
use Rattle.n41_types.specs.declared.spans.LockKind.{LockKind}
use Rattle.n41_types.specs.declared.spans.LockKind.TheVariants as kind
use Rattle.n41_types.specs.declared.spans.Mode.{Mode}
use Rattle.n41_types.specs.declared.spans.Mode.TheVariants as mode
use Rattle.n41_results.specs.declared.results.LockType.{LockType}
use Rattle.n41_results.specs.declared.results.LockType.TheVariants as lock_type
use Rattle.n41_results.specs.declared.sessions.Channel.{Channel}
use Rattle.n41_results.specs.declared.sessions.ImplId.{ImplId}
use Rattle.n41_session_args.specs.declared.security.Security.{Security}
use Rattle.n41_session_args.specs.declared.security.Security.TheVariants as security
use Rattle.n41_session_args.specs.declared.sessions.BindArgs.{BindArgs}
use Rattle.n41_session_args.specs.declared.sessions.CreateSessionArgs.{CreateSessionArgs}
use Rattle.n41_session_args.specs.declared.sessions.ExchangeIdArgs.{ExchangeIdArgs}
use Rattle.n41_args.specs.declared.arg.Arg.{Arg}
use Rattle.n41_args.specs.declared.arg.Arg.TheVariants as arg
use Rattle.n41_args.specs.declared.directories.CreateArgs.{CreateArgs}
use Rattle.n41_args.specs.declared.directories.ReadDirArgs.{ReadDirArgs}
use Rattle.n41_args.specs.declared.directories.RenameArgs.{RenameArgs}
use Rattle.n41_args.specs.declared.files.ReadArgs.{ReadArgs}
use Rattle.n41_args.specs.declared.files.SetAttrArgs.{SetAttrArgs}
use Rattle.n41_args.specs.declared.files.WriteArgs.{WriteArgs}
use Rattle.n41_args.specs.declared.locks.LockArgs.{LockArgs}
use Rattle.n41_args.specs.declared.locks.LockTestArgs.{LockTestArgs}
use Rattle.n41_args.specs.declared.locks.LockerArgs.{LockerArgs}
use Rattle.n41_args.specs.declared.locks.LockerArgs.TheVariants as locker
use Rattle.n41_args.specs.declared.locks.UnlockArgs.{UnlockArgs}
use Rattle.n41_args.specs.declared.openings.CloseArgs.{CloseArgs}
use Rattle.n41_args.specs.declared.openings.DowngradeArgs.{DowngradeArgs}
use Rattle.n41_args.specs.declared.openings.OpenArgs.{OpenArgs}
use Rattle.n41_args.specs.declared.openings.OpenClaim.{OpenClaim}
use Rattle.n41_args.specs.declared.openings.OpenClaim.TheVariants as claim
use Rattle.n41_args.specs.declared.openings.OpenHow.{OpenHow}
use Rattle.n41_args.specs.declared.openings.OpenHow.TheVariants as how
use Rattle.n41_args.specs.declared.owners.StateOwner.{StateOwner}
use Rattle.n41_requests.specs.Plans.{args_of, put, access_of, claim_of, lock_type_of, locker_of, owner_of, lease_mask, stat_mask, with_mode, with_size, create_session_args, fore_channel, back_channel}
use Rattle.n41_compound.specs.Parts.{place_in, fh_in, name_of, mode_in, kind_in, len_of, span_of, claim_in, locker_in}
use Rattle.n41_compound.specs.Singles.{exchange_of, is_channel, is_unsecured, is_asked, session_of, bind_of, single}
use Rattle.n41_compound.specs.Readings.{is_stat_mask, is_lease_mask, is_empty_mask, stat_at, lease_at, look_of, read_at, list_at, list_of, test_lock_at, test_lock_of}
use Rattle.n41_compound.specs.States.{open_at, downgrade_at, downgrade_of, close_at, close_of, lock_at, lock_of, is_write_lock, unlock_at, unlock_of, return_at}
use Rattle.n41_compound.specs.Changes.{is_told, is_mode, size_in, write_at, write_of, resize_at, make_dir_at, make_dir_of, remove_at, rename_at, rename_of, claimed_name, create_at, create_of, opened_how, opened}
use Rattle.n41_compound.specs.Walks.{walked, walk_at, with_name}
use Rattle.n41_compound.specs.Plans.{pair, opening, saving, headed, plan_of}
use Rattle.n41_compound.proofs.Truths.{and_true, if_some, chosen, none_is, there}
use Rattle.n41_compound.proofs.Named.{name_is}

-- ---- parts

place_is : (a : Arg) (at : Place) → place_in a ≡ Some at → a ≡ put at
place_is arg.PutRootFh at e = let same : Root ≡ at = cc in ap put same
place_is (arg.PutFh fh) at e = let same : At fh ≡ at = cc in ap put same
place_is _ at e = absurd cc

fh_is : (a : Arg) (fh : List ℕ) → fh_in a ≡ Some fh → a ≡ arg.PutFh fh
fh_is (arg.PutFh x) fh e = let same : x ≡ fh = cc in ap (λ (y : List ℕ). arg.PutFh y) same
fh_is _ fh e = absurd cc

mode_is : (n : ℕ) (m : Mode) → mode_in n ≡ Some m → n ≡ access_of m
mode_is n m e =
    elim (chosen (n == 1) (Some mode.Read) (if n == 2 then Some mode.Write else if n == 3 then Some mode.Both else None) (Some m) e) [
      | inl c ↦ let same : mode.Read ≡ m = cc c.1 in eqb-true n 1 c.0 ∙ ap access_of same
      | inr c ↦ elim (chosen (n == 2) (Some mode.Write) (if n == 3 then Some mode.Both else None) (Some m) c.1) [
        | inl d ↦ let same : mode.Write ≡ m = cc d.1 in eqb-true n 2 d.0 ∙ ap access_of same
        | inr d ↦ let f = if_some (n == 3) (Some mode.Both) m d.1 in let same : mode.Both ≡ m = cc f.1 in eqb-true n 3 f.0 ∙ ap access_of same
      ]
    ]

kind_is : (t : LockType) (k : LockKind) → kind_in t ≡ Some k → t ≡ lock_type_of k
kind_is lock_type.Read k e = let same : kind.Read ≡ k = cc in ap lock_type_of same
kind_is lock_type.Write k e = let same : kind.Write ≡ k = cc in ap lock_type_of same
kind_is _ k e = absurd cc

wire_is : (n : ℕ) → n ≡ length_on_wire (len_of n)
wire_is n =
    elim (cases_eq n 18446744073709551615) [
      | inl is ↦ rw (eq-eqb n 18446744073709551615 is) is
      | inr differs ↦ rw (ne_eqb n 18446744073709551615 differs) refl
    ]

owner_is : (o : StateOwner) → (o.client == 0) ≡ true → o ≡ owner_of o.owner
owner_is o e = ap (λ (n : ℕ). let x : StateOwner = record { client = n; owner = o.owner } in x) (eqb-true o.client 0 e)

claim_is : (x : OpenClaim) (c : Claim) → claim_in x ≡ Some c → x ≡ claim_of c
claim_is (claim.Null name) c e = absurd cc
claim_is (claim.Previous type) c e = let same : right.Previous type ≡ c = cc in ap claim_of same
claim_is claim.Fh c e = let same : right.Fh ≡ c = cc in ap claim_of same
claim_is (claim.DelegCur stateid) c e = let same : right.DelegCur stateid ≡ c = cc in ap claim_of same

new_locker : (s l : ℕ) (opener : Stateid) (o p : StateOwner) → s ≡ 0 → l ≡ 0 → o ≡ p → locker.New s opener l o ≡ locker.New 0 opener 0 p
new_locker s l opener o p a b c = cc

locker_is : (x : LockerArgs) (w : Locker) → locker_in x ≡ Some w → x ≡ locker_of w
locker_is (locker.New s opener l o) w e =
    let t = if_some ((s == 0) && (l == 0) && (o.client == 0)) (Some (who.New opener o.owner)) w e in
    let a = and_true ((s == 0) && (l == 0)) (o.client == 0) t.0 in
    let b = and_true (s == 0) (l == 0) a.0 in
    let same : who.New opener o.owner ≡ w = cc t.1 in
    new_locker s l opener o (owner_of o.owner) (eqb-true s 0 b.0) (eqb-true l 0 b.1) (owner_is o a.1) ∙ ap locker_of same
locker_is (locker.Old stateid s) w e =
    let t = if_some (s == 0) (Some (who.Old stateid)) w e in
    let same : who.Old stateid ≡ w = cc t.1 in
    ap (locker.Old stateid) (eqb-true s 0 t.0) ∙ ap locker_of same

-- a plan that is found has these operations, if they are those of what is found
is_plan : (q p : Plan) → Some q ≡ Some p → args_of q ≡ args_of p
is_plan q p e = let same : q ≡ p = cc in ap args_of same

-- ---- plans of one operation

exchange_whole : (v o : List ℕ) (f : ℕ) (i : Option ImplId) → f ≡ 0 → i ≡ None → arg.ExchangeId (record { verifier = v; owner = o; flags = f; implementation = i }) ∷ [] ≡ args_of (plan.ExchangeId v o)
exchange_whole v o f i a b = cc

exchange_is : (a : ExchangeIdArgs) (p : Plan) → exchange_of a ≡ Some p → arg.ExchangeId a ∷ [] ≡ args_of p
exchange_is a p e =
    let t = if_some ((a.flags == 0) && is_none a.implementation) (Some (plan.ExchangeId a.verifier a.owner)) p e in
    let b = and_true (a.flags == 0) (is_none a.implementation) t.0 in
    exchange_whole a.verifier a.owner a.flags a.implementation (eqb-true a.flags 0 b.0) (none_is a.implementation b.1)
    ∙ is_plan (plan.ExchangeId a.verifier a.owner) p t.1

channel_whole : (h q r k o n s l m t : ℕ) (i : Option ℕ) → h ≡ 0 → q ≡ s → r ≡ s → k ≡ l → o ≡ m → n ≡ t → i ≡ None
    → (let c : Channel = record { header_pad = h; request_max = q; reply_max = r; cached_max = k; ops_max = o; requests_max = n; ird = i } in c)
    ≡ (let c : Channel = record { header_pad = 0; request_max = s; reply_max = s; cached_max = l; ops_max = m; requests_max = t; ird = None } in c)
channel_whole h q r k o n s l m t i a b c d e f g = cc

channel_is : (c : Channel) (s l m t : ℕ) → is_channel c s l m t ≡ true
    → c ≡ (let c : Channel = record { header_pad = 0; request_max = s; reply_max = s; cached_max = l; ops_max = m; requests_max = t; ird = None } in c)
unfolding is_channel
channel_is c s l m t e =
    let g = and_true ((c.header_pad == 0) && (c.request_max == s) && (c.reply_max == s) && (c.cached_max == l) && (c.ops_max == m) && (c.requests_max == t)) (is_none c.ird) e in
    let f = and_true ((c.header_pad == 0) && (c.request_max == s) && (c.reply_max == s) && (c.cached_max == l) && (c.ops_max == m)) (c.requests_max == t) g.0 in
    let o = and_true ((c.header_pad == 0) && (c.request_max == s) && (c.reply_max == s) && (c.cached_max == l)) (c.ops_max == m) f.0 in
    let k = and_true ((c.header_pad == 0) && (c.request_max == s) && (c.reply_max == s)) (c.cached_max == l) o.0 in
    let r = and_true ((c.header_pad == 0) && (c.request_max == s)) (c.reply_max == s) k.0 in
    let q = and_true (c.header_pad == 0) (c.request_max == s) r.0 in
    channel_whole c.header_pad c.request_max c.reply_max c.cached_max c.ops_max c.requests_max s l m t c.ird
    (eqb-true c.header_pad 0 q.0) (eqb-true c.request_max s q.1) (eqb-true c.reply_max s r.1) (eqb-true c.cached_max l k.1) (eqb-true c.ops_max m o.1)
    (eqb-true c.requests_max t f.1) (none_is c.ird g.1)

unsecured_is : (list : List Security) → is_unsecured list ≡ true → list ≡ security.None ∷ []
unfolding is_unsecured
unsecured_is [] e = absurd cc
unsecured_is (security.None ∷ []) e = refl
unsecured_is (security.None ∷ s ∷ list) e = absurd cc
unsecured_is (security.System a ∷ list) e = absurd cc

session_whole : (client seq f g : ℕ) (x y z w : Channel) (s t : List Security) → f ≡ 0 → g ≡ 1073741824 → x ≡ z → y ≡ w → s ≡ t
    → arg.CreateSession (record { client = client; sequence = seq; flags = f; fore = x; back = y; program = g; securities = s })
    ≡ arg.CreateSession (record { client = client; sequence = seq; flags = 0; fore = z; back = w; program = 1073741824; securities = t })
session_whole client seq f g x y z w s t a b c d e = cc

session_is : (a : CreateSessionArgs) (p : Plan) → session_of a ≡ Some p → arg.CreateSession a ∷ [] ≡ args_of p
session_is a p e =
    let t = if_some (is_asked a) (Some (plan.CreateSession a.client a.sequence)) p e in
    let fore : Bool = is_channel a.fore 69632 4096 32 64 in
    let back : Bool = is_channel a.back 4096 4096 8 4 in
    let u = and_true ((a.flags == 0) && (a.program == 1073741824) && is_channel a.fore 69632 4096 32 64 && is_channel a.back 4096 4096 8 4) (is_unsecured a.securities) t.0 in
    let b = and_true ((a.flags == 0) && (a.program == 1073741824) && is_channel a.fore 69632 4096 32 64) (is_channel a.back 4096 4096 8 4) u.0 in
    let f = and_true ((a.flags == 0) && (a.program == 1073741824)) (is_channel a.fore 69632 4096 32 64) b.0 in
    let g = and_true (a.flags == 0) (a.program == 1073741824) f.0 in
    ap (λ (x : Arg). x ∷ []) (session_whole a.client a.sequence a.flags a.program a.fore a.back fore_channel back_channel a.securities (security.None ∷ [])
    (eqb-true a.flags 0 g.0) (eqb-true a.program 1073741824 g.1) (channel_is a.fore 69632 4096 32 64 f.1) (channel_is a.back 4096 4096 8 4 b.1) (unsecured_is a.securities u.1))
    ∙ is_plan (plan.CreateSession a.client a.sequence) p t.1

bind_whole : (s : SessionId) (d : ℕ) (r : Bool) → d ≡ 1 → r ≡ false → arg.Bind (record { sid = s; direction = d; rdma = r }) ∷ [] ≡ args_of (plan.Bind s)
bind_whole s d r a b = cc

bind_is : (a : BindArgs) (p : Plan) → bind_of a ≡ Some p → arg.Bind a ∷ [] ≡ args_of p
bind_is a p e =
    let t = if_some (a.direction == 1) (if a.rdma then None else Some (plan.Bind a.sid)) p e in
    elim (chosen a.rdma None (Some (plan.Bind a.sid)) (Some p) t.1) [
      | inl c ↦ absurd (cc c.1)
      | inr c ↦ bind_whole a.sid a.direction a.rdma (eqb-true a.direction 1 t.0) c.0 ∙ is_plan (plan.Bind a.sid) p c.1
    ]

single_is : (a : Arg) (p : Plan) → single a ≡ Some p → a ∷ [] ≡ args_of p
single_is (arg.ExchangeId a) p e = exchange_is a p e
single_is (arg.CreateSession a) p e = session_is a p e
single_is (arg.Bind a) p e = bind_is a p e
single_is (arg.DestroySession sid) p e = is_plan (plan.DestroySession sid) p e
single_is (arg.DestroyClient client) p e = is_plan (plan.DestroyClient client) p e
single_is (arg.TestStateid list) p e = is_plan (plan.Test list) p e
single_is (arg.FreeStateid stateid) p e = is_plan (plan.Free stateid) p e
single_is (arg.ReclaimComplete false) p e = is_plan plan.Complete p e
single_is (arg.ReclaimComplete true) p e = absurd cc
single_is _ p e = absurd cc

-- ---- plans of two operations

behind_put : (p q : Arg) (a b : Arg) → p ≡ q → a ≡ b → p ∷ a ∷ [] ≡ q ∷ b ∷ []
behind_put p q a b first second = cc

stat_mask_is : (mask : List ℕ) → is_stat_mask mask ≡ true → mask ≡ stat_mask
stat_mask_is [] e = absurd cc
stat_mask_is (a ∷ []) e = absurd cc
stat_mask_is (a ∷ b ∷ []) e =
    let t = and_true (a == 1048602) (b == 2) e in
    let x : a ≡ 1048602 = eqb-true a 1048602 t.0 in
    let y : b ≡ 2 = eqb-true b 2 t.1 in
    cc
stat_mask_is (a ∷ b ∷ c ∷ mask) e = absurd cc

lease_mask_is : (mask : List ℕ) → is_lease_mask mask ≡ true → mask ≡ lease_mask
lease_mask_is [] e = absurd cc
lease_mask_is (a ∷ []) e = let x : a ≡ 1024 = eqb-true a 1024 e in cc
lease_mask_is (a ∷ b ∷ mask) e = absurd cc

lease_is : (p : Arg) (q : Plan) → lease_at p ≡ Some q → p ∷ arg.GetAttr lease_mask ∷ [] ≡ args_of q
lease_is arg.PutRootFh q e = is_plan plan.LeaseTime q e
lease_is _ q e = absurd cc

look_is : (p : Arg) (mask : List ℕ) (q : Plan) → look_of p mask ≡ Some q → p ∷ arg.GetAttr mask ∷ [] ≡ args_of q
look_is p mask q e =
    elim (chosen (is_stat_mask mask) (stat_at (place_in p)) (if is_lease_mask mask then lease_at p else None) (Some q) e) [
      | inl c ↦
          let t = there (place_in p) stat_at q refl c.1 in
          behind_put p (put t.0) (arg.GetAttr mask) (arg.GetAttr stat_mask) (place_is p t.0 t.1) (ap (λ (m : List ℕ). arg.GetAttr m) (stat_mask_is mask c.0)) ∙ is_plan (plan.Stat t.0) q t.2
      | inr c ↦
          let t = if_some (is_lease_mask mask) (lease_at p) q c.1 in
          ap (λ (m : List ℕ). p ∷ arg.GetAttr m ∷ []) (lease_mask_is mask t.0) ∙ lease_is p q t.1
    ]

read_is : (p : Arg) (a : ReadArgs) (q : Plan) → read_at (fh_in p) a ≡ Some q → p ∷ arg.Read a ∷ [] ≡ args_of q
read_is p a q e =
    let t = there (fh_in p) (λ (o : Option (List ℕ)). read_at o a) q refl e in
    ap (λ (x : Arg). x ∷ arg.Read a ∷ []) (fh_is p t.0 t.1) ∙ is_plan (plan.Read t.0 a.stateid a.offset a.count) q t.2

empty_is : (mask : List ℕ) → is_empty_mask mask ≡ true → mask ≡ []
empty_is [] e = refl
empty_is (a ∷ mask) e = absurd cc

list_whole : (c : ℕ) (v : List ℕ) (d m : ℕ) (mask : List ℕ) → d ≡ m → mask ≡ []
    → arg.ReadDir (record { cookie = c; verifier = v; dircount = d; maxcount = m; mask = mask }) ≡ arg.ReadDir (record { cookie = c; verifier = v; dircount = m; maxcount = m; mask = [] })
list_whole c v d m mask a b = cc

list_is : (p : Arg) (a : ReadDirArgs) (q : Plan) → list_of p a ≡ Some q → p ∷ arg.ReadDir a ∷ [] ≡ args_of q
list_is p a q e =
    let s = if_some ((a.dircount == a.maxcount) && is_empty_mask a.mask) (list_at (place_in p) a) q e in
    let b = and_true (a.dircount == a.maxcount) (is_empty_mask a.mask) s.0 in
    let t = there (place_in p) (λ (o : Option Place). list_at o a) q refl s.1 in
    behind_put p (put t.0) _ _ (place_is p t.0 t.1) (list_whole a.cookie a.verifier a.dircount a.maxcount a.mask (eqb-true a.dircount a.maxcount b.0) (empty_is a.mask b.1))
    ∙ is_plan (plan.List t.0 a.cookie a.verifier a.maxcount) q t.2

test_lock_whole : (t u : LockType) (o n m : ℕ) (x y : StateOwner) → t ≡ u → n ≡ m → x ≡ y
    → arg.LockTest (record { kind = t; offset = o; length = n; owner = x }) ≡ arg.LockTest (record { kind = u; offset = o; length = m; owner = y })
test_lock_whole t u o n m x y a b c = cc

test_lock_is : (p : Arg) (a : LockTestArgs) (q : Plan) → test_lock_of p a ≡ Some q → p ∷ arg.LockTest a ∷ [] ≡ args_of q
test_lock_is p a q e =
    let s = if_some (a.owner.client == 0) (test_lock_at (kind_in a.kind) (fh_in p) a) q e in
    let k = there (kind_in a.kind) (λ (o : Option LockKind). test_lock_at o (fh_in p) a) q refl s.1 in
    let t = there (fh_in p) (λ (o : Option (List ℕ)). test_lock_at (Some k.0) o a) q refl k.2 in
    behind_put p (arg.PutFh t.0) _ _ (fh_is p t.0 t.1)
    (test_lock_whole a.kind (lock_type_of k.0) a.offset a.length (length_on_wire (len_of a.length)) a.owner (owner_of a.owner.owner) (kind_is a.kind k.0 k.1) (wire_is a.length) (owner_is a.owner s.0))
    ∙ is_plan (plan.TestLock t.0 k.0 (span_of a.offset a.length) a.owner.owner) q t.2

downgrade_whole : (s : Stateid) (n a m d : ℕ) → n ≡ 0 → a ≡ m → d ≡ 0
    → arg.OpenDowngrade (record { stateid = s; seqid = n; access = a; deny = d }) ≡ arg.OpenDowngrade (record { stateid = s; seqid = 0; access = m; deny = 0 })
downgrade_whole s n a m d x y z = cc

downgrade_is : (p : Arg) (a : DowngradeArgs) (q : Plan) → downgrade_of p a ≡ Some q → p ∷ arg.OpenDowngrade a ∷ [] ≡ args_of q
downgrade_is p a q e =
    let s = if_some ((a.seqid == 0) && (a.deny == 0)) (downgrade_at (mode_in a.access) (fh_in p) a) q e in
    let b = and_true (a.seqid == 0) (a.deny == 0) s.0 in
    let m = there (mode_in a.access) (λ (o : Option Mode). downgrade_at o (fh_in p) a) q refl s.1 in
    let t = there (fh_in p) (λ (o : Option (List ℕ)). downgrade_at (Some m.0) o a) q refl m.2 in
    behind_put p (arg.PutFh t.0) _ _ (fh_is p t.0 t.1)
    (downgrade_whole a.stateid a.seqid a.access (access_of m.0) a.deny (eqb-true a.seqid 0 b.0) (mode_is a.access m.0 m.1) (eqb-true a.deny 0 b.1))
    ∙ is_plan (plan.Downgrade t.0 a.stateid m.0) q t.2

close_whole : (n : ℕ) (s : Stateid) → n ≡ 0 → arg.Close (record { seqid = n; stateid = s }) ≡ arg.Close (record { seqid = 0; stateid = s })
close_whole n s a = cc

close_is : (p : Arg) (a : CloseArgs) (q : Plan) → close_of p a ≡ Some q → p ∷ arg.Close a ∷ [] ≡ args_of q
close_is p a q e =
    let s = if_some (a.seqid == 0) (close_at (fh_in p) a) q e in
    let t = there (fh_in p) (λ (o : Option (List ℕ)). close_at o a) q refl s.1 in
    behind_put p (arg.PutFh t.0) _ _ (fh_is p t.0 t.1) (close_whole a.seqid a.stateid (eqb-true a.seqid 0 s.0)) ∙ is_plan (plan.CloseState t.0 a.stateid) q t.2

lock_whole : (t u : LockType) (r : Bool) (o n m : ℕ) (x y : LockerArgs) → t ≡ u → n ≡ m → x ≡ y
    → arg.Lock (record { kind = t; reclaim = r; offset = o; length = n; locker = x }) ≡ arg.Lock (record { kind = u; reclaim = r; offset = o; length = m; locker = y })
lock_whole t u r o n m x y a b c = cc

lock_is : (p : Arg) (a : LockArgs) (q : Plan) → lock_of p a ≡ Some q → p ∷ arg.Lock a ∷ [] ≡ args_of q
lock_is p a q e =
    let k = there (kind_in a.kind) (λ (o : Option LockKind). lock_at o (fh_in p) (locker_in a.locker) a) q refl e in
    let t = there (fh_in p) (λ (o : Option (List ℕ)). lock_at (Some k.0) o (locker_in a.locker) a) q refl k.2 in
    let l = there (locker_in a.locker) (λ (o : Option Locker). lock_at (Some k.0) (Some t.0) o a) q refl t.2 in
    behind_put p (arg.PutFh t.0) _ _ (fh_is p t.0 t.1)
    (lock_whole a.kind (lock_type_of k.0) a.reclaim a.offset a.length (length_on_wire (len_of a.length)) a.locker (locker_of l.0) (kind_is a.kind k.0 k.1) (wire_is a.length) (locker_is a.locker l.0 l.1))
    ∙ is_plan (plan.LockBytes t.0 k.0 (span_of a.offset a.length) a.reclaim l.0) q l.2

write_lock_is : (t : LockType) → is_write_lock t ≡ true → t ≡ lock_type.Write
write_lock_is lock_type.Write e = refl
write_lock_is _ e = absurd cc

unlock_whole : (t u : LockType) (s : ℕ) (i : Stateid) (o n m : ℕ) → t ≡ u → s ≡ 0 → n ≡ m
    → arg.Unlock (record { kind = t; seqid = s; stateid = i; offset = o; length = n }) ≡ arg.Unlock (record { kind = u; seqid = 0; stateid = i; offset = o; length = m })
unlock_whole t u s i o n m a b c = cc

unlock_is : (p : Arg) (a : UnlockArgs) (q : Plan) → unlock_of p a ≡ Some q → p ∷ arg.Unlock a ∷ [] ≡ args_of q
unlock_is p a q e =
    let s = if_some ((a.seqid == 0) && is_write_lock a.kind) (unlock_at (fh_in p) a) q e in
    let b = and_true (a.seqid == 0) (is_write_lock a.kind) s.0 in
    let t = there (fh_in p) (λ (o : Option (List ℕ)). unlock_at o a) q refl s.1 in
    behind_put p (arg.PutFh t.0) _ _ (fh_is p t.0 t.1)
    (unlock_whole a.kind lock_type.Write a.seqid a.stateid a.offset a.length (length_on_wire (len_of a.length)) (write_lock_is a.kind b.1) (eqb-true a.seqid 0 b.0) (wire_is a.length))
    ∙ is_plan (plan.UnlockBytes t.0 (span_of a.offset a.length) a.stateid) q t.2

return_is : (p : Arg) (s : Stateid) (q : Plan) → return_at (fh_in p) s ≡ Some q → p ∷ arg.DelegReturn s ∷ [] ≡ args_of q
return_is p s q e =
    let t = there (fh_in p) (λ (o : Option (List ℕ)). return_at o s) q refl e in
    ap (λ (x : Arg). x ∷ arg.DelegReturn s ∷ []) (fh_is p t.0 t.1) ∙ is_plan (plan.ReturnDeleg t.0 s) q t.2

write_whole : (s : Stateid) (o n : ℕ) (b : List ℕ) → n ≡ 2 → arg.Write (record { stateid = s; offset = o; stable = n; bytes = b }) ≡ arg.Write (record { stateid = s; offset = o; stable = 2; bytes = b })
write_whole s o n b a = cc

write_is : (p : Arg) (a : WriteArgs) (q : Plan) → write_of p a ≡ Some q → p ∷ arg.Write a ∷ [] ≡ args_of q
write_is p a q e =
    let s = if_some (a.stable == 2) (write_at (fh_in p) a) q e in
    let t = there (fh_in p) (λ (o : Option (List ℕ)). write_at o a) q refl s.1 in
    behind_put p (arg.PutFh t.0) _ _ (fh_is p t.0 t.1) (write_whole a.stateid a.offset a.stable a.bytes (eqb-true a.stable 2 s.0)) ∙ is_plan (plan.WriteBytes t.0 a.stateid a.offset a.bytes) q t.2

told_is : (o : Option ℕ) (n : ℕ) → is_told o n ≡ true → o ≡ Some n
told_is None n e = absurd cc
told_is (Some m) n e = ap (λ (x : ℕ). let o : Option ℕ = Some x in o) (eqb-true m n e)

attrs_whole : (k k' c c' s s' l l' f f' m m' : Option ℕ) → k ≡ k' → c ≡ c' → s ≡ s' → l ≡ l' → f ≡ f' → m ≡ m'
    → (let a : Attrs = record { kind = k; change = c; size = s; lease = l; fileid = f; mode = m } in a)
    ≡ (let a : Attrs = record { kind = k'; change = c'; size = s'; lease = l'; fileid = f'; mode = m' } in a)
attrs_whole k k' c c' s s' l l' f f' m m' x y z u v w = cc

attrs_mode : (a : Attrs) (n : ℕ) → is_mode a n ≡ true → a ≡ with_mode n
unfolding is_mode
attrs_mode a n e =
    let m = and_true (is_none a.kind && is_none a.change && is_none a.size && is_none a.lease && is_none a.fileid) (is_told a.mode n) e in
    let f = and_true (is_none a.kind && is_none a.change && is_none a.size && is_none a.lease) (is_none a.fileid) m.0 in
    let l = and_true (is_none a.kind && is_none a.change && is_none a.size) (is_none a.lease) f.0 in
    let s = and_true (is_none a.kind && is_none a.change) (is_none a.size) l.0 in
    let c = and_true (is_none a.kind) (is_none a.change) s.0 in
    attrs_whole a.kind None a.change None a.size None a.lease None a.fileid None a.mode (Some n)
    (none_is a.kind c.0) (none_is a.change c.1) (none_is a.size s.1) (none_is a.lease l.1) (none_is a.fileid f.1) (told_is a.mode n m.1)

attrs_size : (a : Attrs) (n : ℕ) → size_in a ≡ Some n → a ≡ with_size n
unfolding size_in
attrs_size a n e =
    let t = if_some (is_none a.kind && is_none a.change && is_none a.lease && is_none a.fileid && is_none a.mode) a.size n e in
    let m = and_true (is_none a.kind && is_none a.change && is_none a.lease && is_none a.fileid) (is_none a.mode) t.0 in
    let f = and_true (is_none a.kind && is_none a.change && is_none a.lease) (is_none a.fileid) m.0 in
    let l = and_true (is_none a.kind && is_none a.change) (is_none a.lease) f.0 in
    let c = and_true (is_none a.kind) (is_none a.change) l.0 in
    attrs_whole a.kind None a.change None a.size (Some n) a.lease None a.fileid None a.mode None
    (none_is a.kind c.0) (none_is a.change c.1) t.1 (none_is a.lease l.1) (none_is a.fileid f.1) (none_is a.mode m.1)

set_whole : (s : Stateid) (a b : Attrs) → a ≡ b → arg.SetAttr (record { stateid = s; attrs = a }) ≡ arg.SetAttr (record { stateid = s; attrs = b })
set_whole s a b e = cc

resize_is : (p : Arg) (a : SetAttrArgs) (q : Plan) → resize_at (size_in a.attrs) (fh_in p) a ≡ Some q → p ∷ arg.SetAttr a ∷ [] ≡ args_of q
resize_is p a q e =
    let s = there (size_in a.attrs) (λ (o : Option ℕ). resize_at o (fh_in p) a) q refl e in
    let t = there (fh_in p) (λ (o : Option (List ℕ)). resize_at (Some s.0) o a) q refl s.2 in
    behind_put p (arg.PutFh t.0) _ _ (fh_is p t.0 t.1) (set_whole a.stateid a.attrs (with_size s.0) (attrs_size a.attrs s.0 s.1)) ∙ is_plan (plan.Resize t.0 a.stateid s.0) q t.2

make_whole : (n m : List ℕ) (a b : Attrs) → n ≡ m → a ≡ b → arg.Create (record { name = n; attrs = a }) ≡ arg.Create (record { name = m; attrs = b })
make_whole n m a b x y = cc

make_dir_is : (p : Arg) (a : CreateArgs) (q : Plan) → make_dir_of p a ≡ Some q → p ∷ arg.Create a ∷ [] ≡ args_of q
make_dir_is p a q e =
    let s = if_some (is_mode a.attrs 493) (make_dir_at (place_in p) (name_of a.name)) q e in
    let d = there (place_in p) (λ (o : Option Place). make_dir_at o (name_of a.name)) q refl s.1 in
    let n = there (name_of a.name) (make_dir_at (Some d.0)) q refl d.2 in
    behind_put p (put d.0) _ _ (place_is p d.0 d.1) (make_whole a.name n.0 a.attrs (with_mode 493) (name_is a.name n.0 n.1).0 (attrs_mode a.attrs 493 s.0)) ∙ is_plan (plan.MakeDir d.0 n.0) q n.2

remove_is : (p : Arg) (name : List ℕ) (q : Plan) → remove_at (place_in p) (name_of name) ≡ Some q → p ∷ arg.Remove name ∷ [] ≡ args_of q
remove_is p name q e =
    let d = there (place_in p) (λ (o : Option Place). remove_at o (name_of name)) q refl e in
    let n = there (name_of name) (remove_at (Some d.0)) q refl d.2 in
    behind_put p (put d.0) _ _ (place_is p d.0 d.1) (ap (λ (x : List ℕ). arg.Remove x) (name_is name n.0 n.1).0) ∙ is_plan (plan.Remove d.0 n.0) q n.2

pair_is : (p a : Arg) (q : Plan) → pair p a ≡ Some q → p ∷ a ∷ [] ≡ args_of q
pair_is p (arg.GetAttr mask) q e = look_is p mask q e
pair_is p (arg.Read a) q e = read_is p a q e
pair_is p (arg.ReadDir a) q e = list_is p a q e
pair_is p (arg.LockTest a) q e = test_lock_is p a q e
pair_is p (arg.OpenDowngrade a) q e = downgrade_is p a q e
pair_is p (arg.Close a) q e = close_is p a q e
pair_is p (arg.Lock a) q e = lock_is p a q e
pair_is p (arg.Unlock a) q e = unlock_is p a q e
pair_is p (arg.DelegReturn s) q e = return_is p s q e
pair_is p (arg.Write a) q e = write_is p a q e
pair_is p (arg.SetAttr a) q e = resize_is p a q e
pair_is p (arg.Create a) q e = make_dir_is p a q e
pair_is p (arg.Remove name) q e = remove_is p name q e
pair_is p _ q e = absurd cc

-- ---- openings, renames and walks

three : (p q a b : Arg) → p ≡ q → a ≡ b → p ∷ a ∷ arg.GetFh ∷ [] ≡ q ∷ b ∷ arg.GetFh ∷ []
three p q a b x y = cc

open_whole : (s a d b : ℕ) (o x : StateOwner) (h i : OpenHow) (c k : OpenClaim) → s ≡ 0 → a ≡ b → d ≡ 0 → o ≡ x → h ≡ i → c ≡ k
    → arg.Open (record { seqid = s; access = a; deny = d; owner = o; how = h; claim = c }) ≡ arg.Open (record { seqid = 0; access = b; deny = 0; owner = x; how = i; claim = k })
open_whole s a d b o x h i c k e f g l m n = cc

claimed_is : (x : OpenClaim) (name : List ℕ) → claimed_name x ≡ Some name → x ≡ claim.Null name
claimed_is (claim.Null n) name e = ap (λ (y : List ℕ). claim.Null y) (name_is n name e).0
claimed_is _ name e = absurd cc

opened_how_is : (p : Arg) (h : OpenHow) (a : OpenArgs) (q : Plan) → a.how ≡ h → a.seqid ≡ 0 → a.deny ≡ 0 → a.owner ≡ owner_of a.owner.owner → opened_how p h a ≡ Some q
    → p ∷ arg.Open a ∷ arg.GetFh ∷ [] ≡ args_of q
opened_how_is p how.NoCreate a q is z d o e =
    let m = there (mode_in a.access) (λ (x : Option Mode). open_at x (claim_in a.claim) (fh_in p) a) q refl e in
    let c = there (claim_in a.claim) (λ (x : Option Claim). open_at (Some m.0) x (fh_in p) a) q refl m.2 in
    let t = there (fh_in p) (λ (x : Option (List ℕ)). open_at (Some m.0) (Some c.0) x a) q refl c.2 in
    three p (arg.PutFh t.0) _ _ (fh_is p t.0 t.1)
    (open_whole a.seqid a.access a.deny (access_of m.0) a.owner (owner_of a.owner.owner) a.how how.NoCreate a.claim (claim_of c.0) z (mode_is a.access m.0 m.1) d o is (claim_is a.claim c.0 c.1))
    ∙ is_plan (plan.OpenAt t.0 m.0 a.owner.owner c.0) q t.2
opened_how_is p (how.Create g attrs) a q is z d o e =
    let s = if_some ((a.access == 3) && is_mode attrs 420) (create_at (place_in p) (claimed_name a.claim) g a) q e in
    let b = and_true (a.access == 3) (is_mode attrs 420) s.0 in
    let t = there (place_in p) (λ (x : Option Place). create_at x (claimed_name a.claim) g a) q refl s.1 in
    let n = there (claimed_name a.claim) (λ (x : Option (List ℕ)). create_at (Some t.0) x g a) q refl t.2 in
    three p (put t.0) _ _ (place_is p t.0 t.1)
    (open_whole a.seqid a.access a.deny 3 a.owner (owner_of a.owner.owner) a.how (how.Create g (with_mode 420)) a.claim (claim.Null n.0) z (eqb-true a.access 3 b.0) d o
    (is ∙ ap (how.Create g) (attrs_mode attrs 420 b.1)) (claimed_is a.claim n.0 n.1))
    ∙ is_plan (plan.CreateFile t.0 n.0 g a.owner.owner) q n.2

opened_is : (p : Arg) (a : OpenArgs) (q : Plan) → opened p a ≡ Some q → p ∷ arg.Open a ∷ arg.GetFh ∷ [] ≡ args_of q
opened_is p a q e =
    let s = if_some ((a.seqid == 0) && (a.deny == 0) && (a.owner.client == 0)) (opened_how p a.how a) q e in
    let o = and_true ((a.seqid == 0) && (a.deny == 0)) (a.owner.client == 0) s.0 in
    let d = and_true (a.seqid == 0) (a.deny == 0) o.0 in
    opened_how_is p a.how a q refl (eqb-true a.seqid 0 d.0) (eqb-true a.deny 0 d.1) (owner_is a.owner o.1) s.1

opening_is : (p : Arg) (a : OpenArgs) (args : List Arg) (q : Plan) → opening p a args ≡ Some q → p ∷ arg.Open a ∷ args ≡ args_of q
opening_is p a [] q e = absurd cc
opening_is p a (arg.GetFh ∷ []) q e = opened_is p a q e
opening_is p a (arg.GetFh ∷ b ∷ args) q e = absurd cc
opening_is p a (_ ∷ args) q e = absurd cc

rename_whole : (p q t u : Arg) (o n x y : List ℕ) → p ≡ q → t ≡ u → o ≡ x → n ≡ y
    → p ∷ arg.SaveFh ∷ t ∷ arg.Rename (record { old = o; new = n }) ∷ [] ≡ q ∷ arg.SaveFh ∷ u ∷ arg.Rename (record { old = x; new = y }) ∷ []
rename_whole p q t u o n x y a b c d = cc

rename_is : (p t : Arg) (a : RenameArgs) (q : Plan) → rename_of p t a ≡ Some q → p ∷ arg.SaveFh ∷ t ∷ arg.Rename a ∷ [] ≡ args_of q
rename_is p t a q e =
    let f = there (place_in p) (λ (x : Option Place). rename_at x (place_in t) (name_of a.old) (name_of a.new)) q refl e in
    let g = there (place_in t) (λ (x : Option Place). rename_at (Some f.0) x (name_of a.old) (name_of a.new)) q refl f.2 in
    let o = there (name_of a.old) (λ (x : Option (List ℕ)). rename_at (Some f.0) (Some g.0) x (name_of a.new)) q refl g.2 in
    let n = there (name_of a.new) (rename_at (Some f.0) (Some g.0) (Some o.0)) q refl o.2 in
    rename_whole p (put f.0) t (put g.0) a.old a.new o.0 n.0 (place_is p f.0 f.1) (place_is t g.0 g.1) (name_is a.old o.0 o.1).0 (name_is a.new n.0 n.1).0
    ∙ is_plan (plan.Rename f.0 o.0 g.0 n.0) q n.2

saving_is : (p : Arg) (args : List Arg) (q : Plan) → saving p args ≡ Some q → p ∷ arg.SaveFh ∷ args ≡ args_of q
saving_is p [] q e = absurd cc
saving_is p (t ∷ []) q e = absurd cc
saving_is p (t ∷ arg.Rename a ∷ []) q e = rename_is p t a q e
saving_is p (t ∷ arg.Rename a ∷ b ∷ args) q e = absurd cc
saving_is p (t ∷ _ ∷ args) q e = absurd cc

abbrev looking : List (List ℕ) → List Arg
looking names = map (λ name. arg.Lookup name) names ++ arg.GetFh ∷ []

looked : (n m : List ℕ) (args rest : List Arg) → n ≡ m → args ≡ rest → arg.Lookup n ∷ args ≡ arg.Lookup m ∷ rest
looked n m args rest a b = cc

walked_is : (args : List Arg) (names : List (List ℕ)) → walked args ≡ Some names → args ≡ looking names
walked_is [] names e = absurd cc
walked_is (arg.GetFh ∷ []) names e = let same : [] ≡ names = cc in ap looking same
walked_is (arg.GetFh ∷ a ∷ args) names e = absurd cc
walked_is (arg.Lookup n ∷ args) names e =
    let f = there (name_of n) (λ (x : Option (List ℕ)). with_name x (walked args)) names refl e in
    let r = there (walked args) (with_name (Some f.0)) names refl f.2 in
    let same : f.0 ∷ r.0 ≡ names = cc r.2 in
    looked n f.0 args (looking r.0) (name_is n f.0 f.1).0 (walked_is args r.0 r.1) ∙ ap looking same
walked_is (_ ∷ args) names e = absurd cc

walk_whole : (p q : Arg) (args rest : List Arg) → p ≡ q → args ≡ rest → p ∷ args ≡ q ∷ rest
walk_whole p q args rest a b = cc

walk_is : (p : Arg) (args : List Arg) (q : Plan) → walk_at (walked args) (place_in p) ≡ Some q → p ∷ args ≡ args_of q
walk_is p args q e =
    let n = there (walked args) (λ (x : Option (List (List ℕ))). walk_at x (place_in p)) q refl e in
    let f = there (place_in p) (walk_at (Some n.0)) q refl n.2 in
    walk_whole p (put f.0) args (looking n.0) (place_is p f.0 f.1) (walked_is args n.0 n.1) ∙ is_plan (plan.Walk f.0 n.0) q f.2

-- ---- all plans

headed_is : (a : Arg) (args : List Arg) (q : Plan) → headed a args ≡ Some q → a ∷ args ≡ args_of q
headed_is a [] q e = single_is a q e
headed_is a (arg.Open o ∷ args) q e = opening_is a o args q e
headed_is a (arg.SaveFh ∷ args) q e = saving_is a args q e
headed_is a (arg.GetFh ∷ args) q e = walk_is a (arg.GetFh ∷ args) q e
headed_is a (arg.Lookup name ∷ args) q e = walk_is a (arg.Lookup name ∷ args) q e
headed_is a (b ∷ []) q e = pair_is a b q e
headed_is a (b ∷ c ∷ args) q e = absurd cc

pub plan_is : (args : List Arg) (q : Plan) → plan_of args ≡ Some q → args ≡ args_of q
plan_is [] q e = is_plan plan.Renew q e
plan_is (a ∷ args) q e = headed_is a args q e
