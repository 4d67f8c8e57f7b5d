-- Short requests.
use Rattle.std.proofs.Common.{◌≡◌, ◌≤◌, ◌+◌, ◌*◌, ℕ, Bool, true, false, List, [], ◌∷◌, ◌++◌, length, map, length-append, length-take, Option, Some, None, arith}
use Rattle.std.specs.List.{AllByRecursion}
use Rattle.n41_xdr.specs.Spelling as spelling
use Rattle.n41_types.specs.Names.{IsName}
use Rattle.n41_types.specs.declared.identities.SessionId.{SessionId}
use Rattle.n41_types.specs.declared.plans.Place.{Place}
use Rattle.n41_types.specs.declared.plans.Place.TheVariants.{Root, At}
use Rattle.n41_types.specs.declared.plans.Plan.{Plan}
use Rattle.n41_types.specs.declared.plans.Plan.TheVariants as plan
use Rattle.n41_types.specs.declared.plans.Request.{Request}
use Rattle.n41_types.specs.declared.plans.SlotUse.{SlotUse}
use Rattle.n41_attr.specs.Bitmaps as bitmaps
use Rattle.n41_attr.specs.Attributes.{told, behind as behind_mask, values}
use Rattle.n41_attr.specs.Parts.{owner_bytes, verifier, session, always_zero, bitmap, fattr, fh, string}
use Rattle.n41_session_args.specs.Security.{securities, callback_security}
use Rattle.n41_shared.specs.Sessions.{impl_option, channel}
use Rattle.n41_session_args.specs.Sessions.{exchange_id, create_session, bind, sequence}
use Rattle.n41_rpc.specs.Heads.{head, spoken, called, cred, system, system_of, written_call}
use Rattle.n41_args.specs.declared.arg.Arg.{Arg}
use Rattle.n41_args.specs.declared.arg.Arg.TheVariants as arg
use Rattle.n41_args.specs.Args.{told_arg, written_arg}
use Rattle.n41_args.specs.Directories.{directory_type, read_dir, rename, told_create}
use Rattle.n41_requests.specs.Plans.{args_of, behind, put, request_args, stat_mask, with_mode}
use Rattle.n41_requests.specs.Requests.{call_head, args_text, body_text, spelled, AllFit, Fits, HasNames, IsSmall}
use Rattle.n41_requests.proofs.Lengths.{word_length, hyper_length, system_length}

boolean_length : (b : Bool) → length (spelling.boolean b) ≡ 4
unfolding spelling.boolean
boolean_length false = word_length 0
boolean_length true = word_length 1

fixed_length : (bytes : List ℕ) → length (spelling.fixed bytes) ≤ length bytes + 3
unfolding spelling.fixed
fixed_length bytes = omega (arith, length-append bytes (spelling.fill (length bytes)), length-take {A = ℕ} (spelling.fill_len (length bytes)) (0 ∷ 0 ∷ 0 ∷ []))

opaque_length : (bytes : List ℕ) → length (spelling.opaque bytes) ≤ length bytes + 7
unfolding spelling.opaque
opaque_length bytes = omega (arith, length-append (spelling.word (length bytes)) (spelling.fixed bytes), word_length (length bytes), fixed_length bytes)

-- ---- the operations of the short plans

exchange_short : (v o : List ℕ) → AllFit (args_of (plan.ExchangeId v o)) → length (args_text (args_of (plan.ExchangeId v o))) ≤ 2400
unfolding told_arg exchange_id owner_bytes verifier always_zero impl_option
exchange_short v o fits = simp (length-append, word_length) (omega (arith, fixed_length v, opaque_length o, fits.0.1.0, fits.0.1.1.0.0))

create_short : (client seq : ℕ) → length (args_text (args_of (plan.CreateSession client seq))) ≤ 2400
unfolding told_arg create_session channel securities callback_security
create_short client seq = simp (length-append, word_length, hyper_length) (omega arith)

bind_short : (sid : SessionId) → AllFit (args_of (plan.Bind sid)) → length (args_text (args_of (plan.Bind sid))) ≤ 2400
unfolding told_arg bind session
bind_short sid fits = simp (length-append, word_length, boolean_length) (omega (arith, fixed_length sid.0, fits.0.1.0))

destroy_short : (sid : SessionId) → AllFit (args_of (plan.DestroySession sid)) → length (args_text (args_of (plan.DestroySession sid))) ≤ 2400
unfolding told_arg session
destroy_short sid fits = simp (length-append, word_length) (omega (arith, fixed_length sid.0, fits.0.1))

client_short : (client : ℕ) → length (args_text (args_of (plan.DestroyClient client))) ≤ 2400
unfolding told_arg
client_short client = simp (length-append, word_length, hyper_length) (omega arith)

complete_short : length (args_text (args_of plan.Complete)) ≤ 2400
unfolding told_arg
complete_short = simp (length-append, word_length, boolean_length) (omega arith)

lease_short : length (args_text (args_of plan.LeaseTime)) ≤ 2400
unfolding told_arg bitmap bitmaps.bitmap
lease_short = simp (length-append, word_length) (omega arith)

put_short : (at : Place) → told_arg.Fits (written_arg (put at)) → length (told_arg.spell (written_arg (put at))) ≤ 140
unfolding told_arg fh
put_short Root fits = simp (length-append, word_length) (omega arith)
put_short (At bytes) fits = simp (length-append, word_length) (omega (arith, opaque_length bytes, fits.1.0))

lookup_short : (name : List ℕ) → IsName name → length (told_arg.spell (written_arg (arg.Lookup name))) ≤ 266
unfolding told_arg string
lookup_short name is = simp (length-append, word_length) (omega (arith, opaque_length name, is.1))

names_short : (names : List (List ℕ)) → AllByRecursion IsName names → length (args_text (map (λ name. arg.Lookup name) names ++ arg.GetFh ∷ [])) ≤ 266 * length names + 4
unfolding told_arg
names_short [] are = simp (length-append, word_length) (omega arith)
names_short (n ∷ names) are =
    omega (
      arith,
      length-append (told_arg.spell (written_arg (arg.Lookup n))) (args_text (map (λ name. arg.Lookup name) names ++ arg.GetFh ∷ [])),
      lookup_short n are.0,
      names_short names are.1,
    )

-- operations behind a place that is put
behind_put : (at : Place) (rest : List Arg) (most : ℕ) → told_arg.Fits (written_arg (put at)) → length (args_text rest) ≤ most → length (args_text (put at ∷ rest)) ≤ most + 140
behind_put at rest most fits short = omega (arith, length-append (told_arg.spell (written_arg (put at))) (args_text rest), put_short at fits, short)

walk_short : (from : Place) (names : List (List ℕ)) → length names ≤ 8 → AllByRecursion IsName names → AllFit (args_of (plan.Walk from names)) → length (args_text (args_of (plan.Walk from names))) ≤ 2400
walk_short from names few are fits =
    omega (arith, few, behind_put from (map (λ name. arg.Lookup name) names ++ arg.GetFh ∷ []) (266 * length names + 4) fits.0 (names_short names are))

look_short : length (args_text (arg.GetAttr stat_mask ∷ [])) ≤ 100
unfolding told_arg bitmap bitmaps.bitmap
look_short = simp (length-append, word_length) (omega arith)

stat_short : (at : Place) → AllFit (args_of (plan.Stat at)) → length (args_text (args_of (plan.Stat at))) ≤ 2400
stat_short at fits = omega (arith, behind_put at (arg.GetAttr stat_mask ∷ []) 100 fits.0 look_short)

listed_short : (cookie : ℕ) (v : List ℕ) (max : ℕ) → AllFit (arg.ReadDir (record { cookie = cookie; verifier = v; dircount = max; maxcount = max; mask = [] }) ∷ []) → length (args_text (arg.ReadDir (record { cookie = cookie; verifier = v; dircount = max; maxcount = max; mask = [] }) ∷ [])) ≤ 100
unfolding told_arg read_dir verifier bitmap bitmaps.bitmap
listed_short cookie v max fits = simp (length-append, word_length, hyper_length) (omega (arith, fixed_length v, fits.0.1.1.0))

list_short : (at : Place) (cookie : ℕ) (v : List ℕ) (max : ℕ) → AllFit (args_of (plan.List at cookie v max)) → length (args_text (args_of (plan.List at cookie v max))) ≤ 2400
list_short at cookie v max fits =
    omega (arith, behind_put at (arg.ReadDir (record { cookie = cookie; verifier = v; dircount = max; maxcount = max; mask = [] }) ∷ []) 100 fits.0 (listed_short cookie v max fits.1))

made_short : (name : List ℕ) → IsName name → length (args_text (arg.Create (record { name = name; attrs = with_mode 493 }) ∷ [])) ≤ 400
unfolding told_arg told_create directory_type string fattr told behind_mask values bitmap bitmaps.bitmap
made_short name is = simp (length-append, word_length) (omega (arith, opaque_length name, opaque_length (spelling.word 493), word_length 493, is.1))

make_dir_short : (dir : Place) (name : List ℕ) → IsName name → AllFit (args_of (plan.MakeDir dir name)) → length (args_text (args_of (plan.MakeDir dir name))) ≤ 2400
make_dir_short dir name is fits = omega (arith, behind_put dir (arg.Create (record { name = name; attrs = with_mode 493 }) ∷ []) 400 fits.0 (made_short name is))

removed_short : (name : List ℕ) → IsName name → length (args_text (arg.Remove name ∷ [])) ≤ 300
unfolding told_arg string
removed_short name is = simp (length-append, word_length) (omega (arith, opaque_length name, is.1))

remove_short : (dir : Place) (name : List ℕ) → IsName name → AllFit (args_of (plan.Remove dir name)) → length (args_text (args_of (plan.Remove dir name))) ≤ 2400
remove_short dir name is fits = omega (arith, behind_put dir (arg.Remove name ∷ []) 300 fits.0 (removed_short name is))

renamed_short : (old new : List ℕ) → IsName old → IsName new → length (args_text (arg.Rename (record { old = old; new = new }) ∷ [])) ≤ 600
unfolding told_arg rename string
renamed_short old new was is = simp (length-append, word_length) (omega (arith, opaque_length old, opaque_length new, was.1, is.1))

saved_short : length (told_arg.spell (written_arg arg.SaveFh)) ≤ 4
unfolding told_arg
saved_short = simp (length-append, word_length) (omega arith)

rename_short : (from : Place) (old : List ℕ) (to : Place) (new : List ℕ) → IsName old → IsName new → AllFit (args_of (plan.Rename from old to new)) → length (args_text (args_of (plan.Rename from old to new))) ≤ 2400
rename_short from old to new was is fits =
    let last : List Arg = arg.Rename (record { old = old; new = new }) ∷ [] in
    let put_to : length (args_text (put to ∷ last)) ≤ 740 = behind_put to last 600 fits.1.1.0 (renamed_short old new was is) in
    let saved : length (args_text (arg.SaveFh ∷ put to ∷ last)) ≤ 744 =
    omega (arith, length-append (told_arg.spell (written_arg arg.SaveFh)) (args_text (put to ∷ last)), saved_short, put_to) in
    omega (arith, behind_put from (arg.SaveFh ∷ put to ∷ last) 744 fits.0 saved)

plan_short : (p : Plan) → IsSmall p → HasNames p → AllFit (args_of p) → length (args_text (args_of p)) ≤ 2400
plan_short (plan.ExchangeId v o) small are fits = exchange_short v o fits
plan_short (plan.CreateSession c s) small are fits = create_short c s
plan_short (plan.Bind sid) small are fits = bind_short sid fits
plan_short (plan.DestroySession sid) small are fits = destroy_short sid fits
plan_short (plan.DestroyClient c) small are fits = client_short c
plan_short (plan.Walk f n) small are fits = walk_short f n small are fits
plan_short (plan.Stat at) small are fits = stat_short at fits
plan_short plan.LeaseTime small are fits = lease_short
plan_short (plan.Read f s o n) small are fits = absurd small
plan_short (plan.List a c v m) small are fits = list_short a c v m fits
plan_short (plan.TestLock f k s o) small are fits = absurd small
plan_short (plan.Test s) small are fits = absurd small
plan_short plan.Renew small are fits = omega arith
plan_short (plan.OpenAt f m o c) small are fits = absurd small
plan_short (plan.Downgrade f s m) small are fits = absurd small
plan_short (plan.CloseState f s) small are fits = absurd small
plan_short (plan.LockBytes f k s r l) small are fits = absurd small
plan_short (plan.UnlockBytes f s t) small are fits = absurd small
plan_short (plan.ReturnDeleg f s) small are fits = absurd small
plan_short (plan.Free s) small are fits = absurd small
plan_short plan.Complete small are fits = complete_short
plan_short (plan.CreateFile d n g o) small are fits = absurd small
plan_short (plan.WriteBytes f s o b) small are fits = absurd small
plan_short (plan.Resize f s n) small are fits = absurd small
plan_short (plan.MakeDir d n) small are fits = make_dir_short d n are fits
plan_short (plan.Remove d n) small are fits = remove_short d n are fits
plan_short (plan.Rename a b c d) small are fits = rename_short a b c d are.0 are.1 fits

-- ---- behind a SEQUENCE

sequence_short : (slot : SlotUse) → told_arg.Fits (written_arg (arg.Sequence slot)) → length (told_arg.spell (written_arg (arg.Sequence slot))) ≤ 60
unfolding told_arg sequence session
sequence_short slot fits = simp (length-append, word_length, boolean_length) (omega (arith, fixed_length slot.sid.0, fits.1.0))

args_short : (slot : Option SlotUse) (args : List Arg) → AllFit (behind slot args) → (AllFit args → length (args_text args) ≤ 2400) → length (args_text (behind slot args)) ≤ 2460
args_short None args fits short = omega (arith, short fits)
args_short (Some slot) args fits short =
    omega (arith, length-append (told_arg.spell (written_arg (arg.Sequence slot))) (args_text args), sequence_short slot fits.0, short fits.1)

-- ---- the head

head_short : (q : Request) → length (head.spell (written_call (call_head q))) ≤ 100
unfolding spoken called cred
head_short q = simp (length-append, word_length) (omega (arith, opaque_length (system.spell (system_of q.uid q.gid)), system_length q.uid q.gid, opaque_length []))

body_short : (q : Request) → length (args_text (request_args q)) ≤ 2460 → length (body_text q) ≤ 2500
body_short q short = simp (length-append, word_length) (omega (arith, short, opaque_length []))

pub is_short : (q : Request) → IsSmall q.plan → HasNames q.plan → Fits q → length (spelled q) ≤ 4000
unfolding spelled Fits
is_short q small are fits =
    omega (
      arith,
      length-append (head.spell (written_call (call_head q))) (body_text q),
      head_short q,
      body_short q (args_short q.slot (args_of q.plan) fits.5 (plan_short q.plan small are)),
    )
