-- Replies that are equal by their test are equal.
use Rattle.std.proofs.Common.{◌≡◌, ℕ, Bool, true, false, ◌&&◌, List, [], ◌∷◌, Option, Some, None, Result, Ok, Err, refl, sym, ◌∙◌, subst, true≢false}
use Rattle.std.specs.Prelude.{nat_eq}
use Rattle.std.specs.Bool.{beq, Decides}
use Rattle.std.specs.Option.{option_eq}
use Rattle.std.specs.Result.{result_eq}
use Rattle.std.specs.Cmp.{booleans_Decides}
use Rattle.std.specs.Cmp.Lexicographic.{pointwise, bytes_decides}
use Rattle.std.proofs.lemmas.Bool.Decides.{Decides-eqb}
use Rattle.n41_types.specs.declared.statuses.Status.{Status}
use Rattle.n41_types.specs.contracts.statuses.StatusPartialEq.TheImpl as statuses
use Rattle.n41_types.specs.declared.identities.SessionId.{SessionId}
use Rattle.n41_types.specs.contracts.identities.SessionIdPartialEq.TheImpl as session_ids
use Rattle.n41_types.specs.declared.identities.Stateid.{Stateid}
use Rattle.n41_types.specs.contracts.identities.StateidPartialEq.TheImpl as stateids
use Rattle.n41_types.specs.declared.attributes.Attrs.{Attrs}
use Rattle.n41_types.specs.contracts.attributes.AttrsPartialEq.TheImpl as attributes
use Rattle.n41_results.specs.declared.sessions.Channel.{Channel}
use Rattle.n41_results.specs.contracts.sessions.ChannelPartialEq.TheImpl as channels
use Rattle.n41_results.specs.declared.sessions.ImplId.{ImplId}
use Rattle.n41_results.specs.contracts.sessions.ImplIdPartialEq.TheImpl as impl_ids
use Rattle.n41_results.specs.declared.sessions.Identity.{Identity}
use Rattle.n41_results.specs.contracts.sessions.IdentityPartialEq.TheImpl as identities
use Rattle.n41_results.specs.declared.sessions.SessionMade.{SessionMade}
use Rattle.n41_results.specs.contracts.sessions.SessionMadePartialEq.TheImpl as sessions_made
use Rattle.n41_results.specs.declared.sessions.Bound.{Bound}
use Rattle.n41_results.specs.contracts.sessions.BoundPartialEq.TheImpl as bounds
use Rattle.n41_results.specs.declared.sessions.Sequenced.{Sequenced}
use Rattle.n41_results.specs.contracts.sessions.SequencedPartialEq.TheImpl as sequences
use Rattle.n41_results.specs.declared.openings.ChangeInfo.{ChangeInfo}
use Rattle.n41_results.specs.contracts.openings.ChangeInfoPartialEq.TheImpl as changes
use Rattle.n41_results.specs.declared.openings.Ace.{Ace}
use Rattle.n41_results.specs.contracts.openings.AcePartialEq.TheImpl as aces
use Rattle.n41_results.specs.declared.openings.Limit.{Limit}
use Rattle.n41_results.specs.declared.openings.Limit.TheVariants as limit
use Rattle.n41_results.specs.contracts.openings.LimitPartialEq.TheImpl as limits
use Rattle.n41_results.specs.declared.openings.Why.{Why}
use Rattle.n41_results.specs.declared.openings.Why.TheVariants as why
use Rattle.n41_results.specs.contracts.openings.WhyPartialEq.TheImpl as whys
use Rattle.n41_results.specs.declared.openings.Delegation.{Delegation}
use Rattle.n41_results.specs.declared.openings.Delegation.TheVariants as deleg
use Rattle.n41_results.specs.contracts.openings.DelegationPartialEq.TheImpl as delegations
use Rattle.n41_results.specs.declared.openings.Opened.{Opened}
use Rattle.n41_results.specs.contracts.openings.OpenedPartialEq.TheImpl as openeds
use Rattle.n41_results.specs.declared.results.LockType.{LockType}
use Rattle.n41_results.specs.declared.results.LockType.TheVariants as lock
use Rattle.n41_results.specs.contracts.results.LockTypePartialEq.TheImpl as lock_types
use Rattle.n41_results.specs.declared.results.LockDenied.{LockDenied}
use Rattle.n41_results.specs.contracts.results.LockDeniedPartialEq.TheImpl as locks_denied
use Rattle.n41_results.specs.declared.results.LockRefusal.{LockRefusal}
use Rattle.n41_results.specs.declared.results.LockRefusal.TheVariants as refusal
use Rattle.n41_results.specs.contracts.results.LockRefusalPartialEq.TheImpl as lock_refusals
use Rattle.n41_results.specs.declared.results.Created.{Created}
use Rattle.n41_results.specs.contracts.results.CreatedPartialEq.TheImpl as createds
use Rattle.n41_results.specs.declared.results.Content.{Content}
use Rattle.n41_results.specs.contracts.results.ContentPartialEq.TheImpl as contents
use Rattle.n41_results.specs.declared.results.Entry.{Entry}
use Rattle.n41_results.specs.contracts.results.EntryPartialEq.TheImpl as entries
use Rattle.n41_results.specs.declared.results.Listing.{Listing}
use Rattle.n41_results.specs.contracts.results.ListingPartialEq.TheImpl as listings
use Rattle.n41_results.specs.declared.results.Renamed.{Renamed}
use Rattle.n41_results.specs.contracts.results.RenamedPartialEq.TheImpl as renameds
use Rattle.n41_results.specs.declared.results.Written.{Written}
use Rattle.n41_results.specs.contracts.results.WrittenPartialEq.TheImpl as writtens
use Rattle.n41_results.specs.declared.results.Res.{Res}
use Rattle.n41_results.specs.declared.results.Res.TheVariants as res
use Rattle.n41_results.specs.contracts.results.ResPartialEq.TheImpl as results
use Rattle.n41_results.specs.declared.replies.ReplyBody.{ReplyBody}
use Rattle.n41_results.specs.declared.replies.ReplyBody.TheVariants as body
use Rattle.n41_results.specs.contracts.replies.ReplyBodyPartialEq.TheImpl as bodies
use Rattle.n41_results.specs.declared.replies.Reply.{Reply}
use Rattle.n41_results.specs.contracts.replies.ReplyPartialEq.TheImpl as replies
use Rattle.n41_results.specs.contracts.replies.ReplyEq.TheImpl.Laws.{laws-law as reply-law}
use Rattle.n41_results.specs.contracts.replies.ReplyBodyEq.TheImpl.Laws.{laws-law as body-law}

pair : (a b : Bool) → (a && b) ≡ true → (a ≡ true) × (b ≡ true)
pair true b e = (refl, e)
pair false b e = absurd (cc)

-- ---- numbers, lists, options, results

nat_same : (p q : ℕ) → nat_eq p q ≡ true → p ≡ q
nat_same p q e = (Decides-eqb p q).0 e

bool_same : (p q : Bool) → beq p q ≡ true → p ≡ q
bool_same p q e = (booleans_Decides p q).0 e

bytes_same : (p q : List ℕ) → pointwise nat_eq p q ≡ true → p ≡ q
bytes_same p q e = (bytes_decides p q).0 e

unit_same : (p q : Unit {0}) → true ≡ true → p ≡ q
unit_same p q e = refl

list_same : {A : Type 0} (f : A → A → Bool) → ((a b : A) → f a b ≡ true → a ≡ b) → (p q : List A) → pointwise f p q ≡ true → p ≡ q
list_same f h [] [] e = refl
list_same f h [] (y ∷ ys) e = absurd (true≢false (sym e))
list_same f h (x ∷ xs) [] e = absurd (true≢false (sym e))
list_same f h (x ∷ xs) (y ∷ ys) e =
    let g = pair (f x y) (pointwise f xs ys) e in
    let a = h x y g.0 in
    let b = list_same f h xs ys g.1 in
    cc

option_same : {A : Type 0} (f : A → A → Bool) → ((a b : A) → f a b ≡ true → a ≡ b) → (p q : Option A) → option_eq f p q ≡ true → p ≡ q
option_same f h None None e = refl
option_same f h None (Some y) e = absurd (true≢false (sym e))
option_same f h (Some x) None e = absurd (true≢false (sym e))
option_same f h (Some x) (Some y) e = let s = h x y e in cc

result_same : {A B : Type 0} (f : A → A → Bool) (g : B → B → Bool) → ((a b : A) → f a b ≡ true → a ≡ b) → ((a b : B) → g a b ≡ true → a ≡ b) → (p q : Result A B) → result_eq f g p q ≡ true → p ≡ q
result_same f g h i (Ok x) (Ok y) e = let s = h x y e in cc
result_same f g h i (Ok x) (Err y) e = absurd (true≢false (sym e))
result_same f g h i (Err x) (Ok y) e = absurd (true≢false (sym e))
result_same f g h i (Err x) (Err y) e = let s = i x y e in cc

-- ---- what replies are made of

status_parts : {a x : ℕ} → a ≡ x → (let r : Status = record { 0 = a } in r) ≡ record { 0 = x }
status_parts e0 = cc

status_same : (p q : Status) → statuses.ghosts.eq p q ≡ true → p ≡ q
status_same p q e =
    let s0 = nat_same p.0 q.0 e in
    status_parts s0

session_id_parts : {a x : List ℕ} → a ≡ x → (let r : SessionId = record { 0 = a } in r) ≡ record { 0 = x }
session_id_parts e0 = cc

pub session_id_same : (p q : SessionId) → session_ids.ghosts.eq p q ≡ true → p ≡ q
session_id_same p q e =
    let s0 = bytes_same p.0 q.0 e in
    session_id_parts s0

stateid_parts : {a x : ℕ} {b y : List ℕ} → a ≡ x → b ≡ y → (let r : Stateid = record { seqid = a; other = b } in r) ≡ record { seqid = x; other = y }
stateid_parts e0 e1 = cc

stateid_same : (p q : Stateid) → stateids.ghosts.eq p q ≡ true → p ≡ q
stateid_same p q e =
    let h0 = pair (nat_eq p.seqid q.seqid) ((pointwise nat_eq) p.other q.other) e in
    let s0 = nat_same p.seqid q.seqid h0.0 in
    let s1 = bytes_same p.other q.other h0.1 in
    stateid_parts s0 s1

attrs_parts : {a x : Option ℕ} {b y : Option ℕ} {c z : Option ℕ} {d u : Option ℕ} {f v : Option ℕ} {g w : Option ℕ} → a ≡ x → b ≡ y → c ≡ z → d ≡ u → f ≡ v → g ≡ w → (let r : Attrs = record { kind = a; change = b; size = c; lease = d; fileid = f; mode = g } in r) ≡ record { kind = x; change = y; size = z; lease = u; fileid = v; mode = w }
attrs_parts e0 e1 e2 e3 e4 e5 = cc

attrs_same : (p q : Attrs) → attributes.ghosts.eq p q ≡ true → p ≡ q
attrs_same p q e =
    let h0 = pair ((option_eq nat_eq) p.kind q.kind) ((option_eq nat_eq) p.change q.change && ((option_eq nat_eq) p.size q.size && ((option_eq nat_eq) p.lease q.lease && ((option_eq nat_eq) p.fileid q.fileid && (option_eq nat_eq) p.mode q.mode)))) e in
    let s0 = (option_same nat_eq nat_same) p.kind q.kind h0.0 in
    let h1 = pair ((option_eq nat_eq) p.change q.change) ((option_eq nat_eq) p.size q.size && ((option_eq nat_eq) p.lease q.lease && ((option_eq nat_eq) p.fileid q.fileid && (option_eq nat_eq) p.mode q.mode))) h0.1 in
    let s1 = (option_same nat_eq nat_same) p.change q.change h1.0 in
    let h2 = pair ((option_eq nat_eq) p.size q.size) ((option_eq nat_eq) p.lease q.lease && ((option_eq nat_eq) p.fileid q.fileid && (option_eq nat_eq) p.mode q.mode)) h1.1 in
    let s2 = (option_same nat_eq nat_same) p.size q.size h2.0 in
    let h3 = pair ((option_eq nat_eq) p.lease q.lease) ((option_eq nat_eq) p.fileid q.fileid && (option_eq nat_eq) p.mode q.mode) h2.1 in
    let s3 = (option_same nat_eq nat_same) p.lease q.lease h3.0 in
    let h4 = pair ((option_eq nat_eq) p.fileid q.fileid) ((option_eq nat_eq) p.mode q.mode) h3.1 in
    let s4 = (option_same nat_eq nat_same) p.fileid q.fileid h4.0 in
    let s5 = (option_same nat_eq nat_same) p.mode q.mode h4.1 in
    attrs_parts s0 s1 s2 s3 s4 s5

channel_parts : {a x : ℕ} {b y : ℕ} {c z : ℕ} {d u : ℕ} {f v : ℕ} {g w : ℕ} {m n : Option ℕ} → a ≡ x → b ≡ y → c ≡ z → d ≡ u → f ≡ v → g ≡ w → m ≡ n → (let r : Channel = record { header_pad = a; request_max = b; reply_max = c; cached_max = d; ops_max = f; requests_max = g; ird = m } in r) ≡ record { header_pad = x; request_max = y; reply_max = z; cached_max = u; ops_max = v; requests_max = w; ird = n }
channel_parts e0 e1 e2 e3 e4 e5 e6 = cc

channel_same : (p q : Channel) → channels.ghosts.eq p q ≡ true → p ≡ q
channel_same p q e =
    let h0 = pair (nat_eq p.header_pad q.header_pad) (nat_eq p.request_max q.request_max && (nat_eq p.reply_max q.reply_max && (nat_eq p.cached_max q.cached_max && (nat_eq p.ops_max q.ops_max && (nat_eq p.requests_max q.requests_max && (option_eq nat_eq) p.ird q.ird))))) e in
    let s0 = nat_same p.header_pad q.header_pad h0.0 in
    let h1 = pair (nat_eq p.request_max q.request_max) (nat_eq p.reply_max q.reply_max && (nat_eq p.cached_max q.cached_max && (nat_eq p.ops_max q.ops_max && (nat_eq p.requests_max q.requests_max && (option_eq nat_eq) p.ird q.ird)))) h0.1 in
    let s1 = nat_same p.request_max q.request_max h1.0 in
    let h2 = pair (nat_eq p.reply_max q.reply_max) (nat_eq p.cached_max q.cached_max && (nat_eq p.ops_max q.ops_max && (nat_eq p.requests_max q.requests_max && (option_eq nat_eq) p.ird q.ird))) h1.1 in
    let s2 = nat_same p.reply_max q.reply_max h2.0 in
    let h3 = pair (nat_eq p.cached_max q.cached_max) (nat_eq p.ops_max q.ops_max && (nat_eq p.requests_max q.requests_max && (option_eq nat_eq) p.ird q.ird)) h2.1 in
    let s3 = nat_same p.cached_max q.cached_max h3.0 in
    let h4 = pair (nat_eq p.ops_max q.ops_max) (nat_eq p.requests_max q.requests_max && (option_eq nat_eq) p.ird q.ird) h3.1 in
    let s4 = nat_same p.ops_max q.ops_max h4.0 in
    let h5 = pair (nat_eq p.requests_max q.requests_max) ((option_eq nat_eq) p.ird q.ird) h4.1 in
    let s5 = nat_same p.requests_max q.requests_max h5.0 in
    let s6 = (option_same nat_eq nat_same) p.ird q.ird h5.1 in
    channel_parts s0 s1 s2 s3 s4 s5 s6

impl_id_parts : {a x : List ℕ} {b y : List ℕ} {c z : List ℕ} {d u : ℕ} → a ≡ x → b ≡ y → c ≡ z → d ≡ u → (let r : ImplId = record { domain = a; name = b; seconds = c; nanoseconds = d } in r) ≡ record { domain = x; name = y; seconds = z; nanoseconds = u }
impl_id_parts e0 e1 e2 e3 = cc

impl_id_same : (p q : ImplId) → impl_ids.ghosts.eq p q ≡ true → p ≡ q
impl_id_same p q e =
    let h0 = pair ((pointwise nat_eq) p.domain q.domain) ((pointwise nat_eq) p.name q.name && ((pointwise nat_eq) p.seconds q.seconds && nat_eq p.nanoseconds q.nanoseconds)) e in
    let s0 = bytes_same p.domain q.domain h0.0 in
    let h1 = pair ((pointwise nat_eq) p.name q.name) ((pointwise nat_eq) p.seconds q.seconds && nat_eq p.nanoseconds q.nanoseconds) h0.1 in
    let s1 = bytes_same p.name q.name h1.0 in
    let h2 = pair ((pointwise nat_eq) p.seconds q.seconds) (nat_eq p.nanoseconds q.nanoseconds) h1.1 in
    let s2 = bytes_same p.seconds q.seconds h2.0 in
    let s3 = nat_same p.nanoseconds q.nanoseconds h2.1 in
    impl_id_parts s0 s1 s2 s3

identity_parts : {a x : ℕ} {b y : ℕ} {c z : ℕ} {d u : ℕ} {f v : List ℕ} {g w : List ℕ} {m n : Option ImplId} → a ≡ x → b ≡ y → c ≡ z → d ≡ u → f ≡ v → g ≡ w → m ≡ n → (let r : Identity = record { client = a; sequence = b; flags = c; minor = d; major = f; scope = g; implementation = m } in r) ≡ record { client = x; sequence = y; flags = z; minor = u; major = v; scope = w; implementation = n }
identity_parts e0 e1 e2 e3 e4 e5 e6 = cc

identity_same : (p q : Identity) → identities.ghosts.eq p q ≡ true → p ≡ q
identity_same p q e =
    let h0 = pair (nat_eq p.client q.client) (nat_eq p.sequence q.sequence && (nat_eq p.flags q.flags && (nat_eq p.minor q.minor && ((pointwise nat_eq) p.major q.major && ((pointwise nat_eq) p.scope q.scope && (option_eq impl_ids.ghosts.eq) p.implementation q.implementation))))) e in
    let s0 = nat_same p.client q.client h0.0 in
    let h1 = pair (nat_eq p.sequence q.sequence) (nat_eq p.flags q.flags && (nat_eq p.minor q.minor && ((pointwise nat_eq) p.major q.major && ((pointwise nat_eq) p.scope q.scope && (option_eq impl_ids.ghosts.eq) p.implementation q.implementation)))) h0.1 in
    let s1 = nat_same p.sequence q.sequence h1.0 in
    let h2 = pair (nat_eq p.flags q.flags) (nat_eq p.minor q.minor && ((pointwise nat_eq) p.major q.major && ((pointwise nat_eq) p.scope q.scope && (option_eq impl_ids.ghosts.eq) p.implementation q.implementation))) h1.1 in
    let s2 = nat_same p.flags q.flags h2.0 in
    let h3 = pair (nat_eq p.minor q.minor) ((pointwise nat_eq) p.major q.major && ((pointwise nat_eq) p.scope q.scope && (option_eq impl_ids.ghosts.eq) p.implementation q.implementation)) h2.1 in
    let s3 = nat_same p.minor q.minor h3.0 in
    let h4 = pair ((pointwise nat_eq) p.major q.major) ((pointwise nat_eq) p.scope q.scope && (option_eq impl_ids.ghosts.eq) p.implementation q.implementation) h3.1 in
    let s4 = bytes_same p.major q.major h4.0 in
    let h5 = pair ((pointwise nat_eq) p.scope q.scope) ((option_eq impl_ids.ghosts.eq) p.implementation q.implementation) h4.1 in
    let s5 = bytes_same p.scope q.scope h5.0 in
    let s6 = (option_same impl_ids.ghosts.eq impl_id_same) p.implementation q.implementation h5.1 in
    identity_parts s0 s1 s2 s3 s4 s5 s6

session_made_parts : {a x : SessionId} {b y : ℕ} {c z : ℕ} {d u : Channel} {f v : Channel} → a ≡ x → b ≡ y → c ≡ z → d ≡ u → f ≡ v → (let r : SessionMade = record { sid = a; sequence = b; flags = c; fore = d; back = f } in r) ≡ record { sid = x; sequence = y; flags = z; fore = u; back = v }
session_made_parts e0 e1 e2 e3 e4 = cc

session_made_same : (p q : SessionMade) → sessions_made.ghosts.eq p q ≡ true → p ≡ q
session_made_same p q e =
    let h0 = pair (session_ids.ghosts.eq p.sid q.sid) (nat_eq p.sequence q.sequence && (nat_eq p.flags q.flags && (channels.ghosts.eq p.fore q.fore && channels.ghosts.eq p.back q.back))) e in
    let s0 = session_id_same p.sid q.sid h0.0 in
    let h1 = pair (nat_eq p.sequence q.sequence) (nat_eq p.flags q.flags && (channels.ghosts.eq p.fore q.fore && channels.ghosts.eq p.back q.back)) h0.1 in
    let s1 = nat_same p.sequence q.sequence h1.0 in
    let h2 = pair (nat_eq p.flags q.flags) (channels.ghosts.eq p.fore q.fore && channels.ghosts.eq p.back q.back) h1.1 in
    let s2 = nat_same p.flags q.flags h2.0 in
    let h3 = pair (channels.ghosts.eq p.fore q.fore) (channels.ghosts.eq p.back q.back) h2.1 in
    let s3 = channel_same p.fore q.fore h3.0 in
    let s4 = channel_same p.back q.back h3.1 in
    session_made_parts s0 s1 s2 s3 s4

bound_parts : {a x : SessionId} {b y : ℕ} {c z : Bool} → a ≡ x → b ≡ y → c ≡ z → (let r : Bound = record { sid = a; direction = b; rdma = c } in r) ≡ record { sid = x; direction = y; rdma = z }
bound_parts e0 e1 e2 = cc

bound_same : (p q : Bound) → bounds.ghosts.eq p q ≡ true → p ≡ q
bound_same p q e =
    let h0 = pair (session_ids.ghosts.eq p.sid q.sid) (nat_eq p.direction q.direction && beq p.rdma q.rdma) e in
    let s0 = session_id_same p.sid q.sid h0.0 in
    let h1 = pair (nat_eq p.direction q.direction) (beq p.rdma q.rdma) h0.1 in
    let s1 = nat_same p.direction q.direction h1.0 in
    let s2 = bool_same p.rdma q.rdma h1.1 in
    bound_parts s0 s1 s2

sequenced_parts : {a x : SessionId} {b y : ℕ} {c z : ℕ} {d u : ℕ} {f v : ℕ} {g w : ℕ} → a ≡ x → b ≡ y → c ≡ z → d ≡ u → f ≡ v → g ≡ w → (let r : Sequenced = record { sid = a; turn = b; slot = c; highest = d; target = f; flags = g } in r) ≡ record { sid = x; turn = y; slot = z; highest = u; target = v; flags = w }
sequenced_parts e0 e1 e2 e3 e4 e5 = cc

sequenced_same : (p q : Sequenced) → sequences.ghosts.eq p q ≡ true → p ≡ q
sequenced_same p q e =
    let h0 = pair (session_ids.ghosts.eq p.sid q.sid) (nat_eq p.turn q.turn && (nat_eq p.slot q.slot && (nat_eq p.highest q.highest && (nat_eq p.target q.target && nat_eq p.flags q.flags)))) e in
    let s0 = session_id_same p.sid q.sid h0.0 in
    let h1 = pair (nat_eq p.turn q.turn) (nat_eq p.slot q.slot && (nat_eq p.highest q.highest && (nat_eq p.target q.target && nat_eq p.flags q.flags))) h0.1 in
    let s1 = nat_same p.turn q.turn h1.0 in
    let h2 = pair (nat_eq p.slot q.slot) (nat_eq p.highest q.highest && (nat_eq p.target q.target && nat_eq p.flags q.flags)) h1.1 in
    let s2 = nat_same p.slot q.slot h2.0 in
    let h3 = pair (nat_eq p.highest q.highest) (nat_eq p.target q.target && nat_eq p.flags q.flags) h2.1 in
    let s3 = nat_same p.highest q.highest h3.0 in
    let h4 = pair (nat_eq p.target q.target) (nat_eq p.flags q.flags) h3.1 in
    let s4 = nat_same p.target q.target h4.0 in
    let s5 = nat_same p.flags q.flags h4.1 in
    sequenced_parts s0 s1 s2 s3 s4 s5

change_info_parts : {a x : Bool} {b y : ℕ} {c z : ℕ} → a ≡ x → b ≡ y → c ≡ z → (let r : ChangeInfo = record { atomic = a; before = b; after = c } in r) ≡ record { atomic = x; before = y; after = z }
change_info_parts e0 e1 e2 = cc

change_info_same : (p q : ChangeInfo) → changes.ghosts.eq p q ≡ true → p ≡ q
change_info_same p q e =
    let h0 = pair (beq p.atomic q.atomic) (nat_eq p.before q.before && nat_eq p.after q.after) e in
    let s0 = bool_same p.atomic q.atomic h0.0 in
    let h1 = pair (nat_eq p.before q.before) (nat_eq p.after q.after) h0.1 in
    let s1 = nat_same p.before q.before h1.0 in
    let s2 = nat_same p.after q.after h1.1 in
    change_info_parts s0 s1 s2

ace_parts : {a x : ℕ} {b y : ℕ} {c z : ℕ} {d u : List ℕ} → a ≡ x → b ≡ y → c ≡ z → d ≡ u → (let r : Ace = record { kind = a; flags = b; mask = c; who = d } in r) ≡ record { kind = x; flags = y; mask = z; who = u }
ace_parts e0 e1 e2 e3 = cc

ace_same : (p q : Ace) → aces.ghosts.eq p q ≡ true → p ≡ q
ace_same p q e =
    let h0 = pair (nat_eq p.kind q.kind) (nat_eq p.flags q.flags && (nat_eq p.mask q.mask && (pointwise nat_eq) p.who q.who)) e in
    let s0 = nat_same p.kind q.kind h0.0 in
    let h1 = pair (nat_eq p.flags q.flags) (nat_eq p.mask q.mask && (pointwise nat_eq) p.who q.who) h0.1 in
    let s1 = nat_same p.flags q.flags h1.0 in
    let h2 = pair (nat_eq p.mask q.mask) ((pointwise nat_eq) p.who q.who) h1.1 in
    let s2 = nat_same p.mask q.mask h2.0 in
    let s3 = bytes_same p.who q.who h2.1 in
    ace_parts s0 s1 s2 s3

limit_same : (p q : Limit) → limits.ghosts.eq p q ≡ true → p ≡ q
limit_same (limit.Size a) (limit.Size x) e =
    let s0 = nat_same a x e in
    cc
limit_same (limit.Blocks a b) (limit.Blocks x y) e =
    let h0 = pair (nat_eq a x) (nat_eq b y) e in
    let s0 = nat_same a x h0.0 in
    let s1 = nat_same b y h0.1 in
    cc
limit_same p q e = absurd (true≢false (sym e))

why_same : (p q : Why) → whys.ghosts.eq p q ≡ true → p ≡ q
why_same (why.Contention a) (why.Contention x) e =
    let s0 = bool_same a x e in
    cc
why_same (why.Resource a) (why.Resource x) e =
    let s0 = bool_same a x e in
    cc
why_same (why.Other a) (why.Other x) e =
    let s0 = nat_same a x e in
    cc
why_same p q e = absurd (true≢false (sym e))

delegation_same : (p q : Delegation) → delegations.ghosts.eq p q ≡ true → p ≡ q
delegation_same deleg.Nothing deleg.Nothing e = refl
delegation_same (deleg.Read a b c) (deleg.Read x y z) e =
    let h0 = pair (stateids.ghosts.eq a x) (beq b y && aces.ghosts.eq c z) e in
    let s0 = stateid_same a x h0.0 in
    let h1 = pair (beq b y) (aces.ghosts.eq c z) h0.1 in
    let s1 = bool_same b y h1.0 in
    let s2 = ace_same c z h1.1 in
    cc
delegation_same (deleg.Write a b c d) (deleg.Write x y z u) e =
    let h0 = pair (stateids.ghosts.eq a x) (beq b y && (limits.ghosts.eq c z && aces.ghosts.eq d u)) e in
    let s0 = stateid_same a x h0.0 in
    let h1 = pair (beq b y) (limits.ghosts.eq c z && aces.ghosts.eq d u) h0.1 in
    let s1 = bool_same b y h1.0 in
    let h2 = pair (limits.ghosts.eq c z) (aces.ghosts.eq d u) h1.1 in
    let s2 = limit_same c z h2.0 in
    let s3 = ace_same d u h2.1 in
    cc
delegation_same (deleg.Refused a) (deleg.Refused x) e =
    let s0 = why_same a x e in
    cc
delegation_same p q e = absurd (true≢false (sym e))

opened_parts : {a x : Stateid} {b y : ChangeInfo} {c z : ℕ} {d u : List ℕ} {f v : Delegation} → a ≡ x → b ≡ y → c ≡ z → d ≡ u → f ≡ v → (let r : Opened = record { stateid = a; change = b; flags = c; set = d; delegation = f } in r) ≡ record { stateid = x; change = y; flags = z; set = u; delegation = v }
opened_parts e0 e1 e2 e3 e4 = cc

opened_same : (p q : Opened) → openeds.ghosts.eq p q ≡ true → p ≡ q
opened_same p q e =
    let h0 = pair (stateids.ghosts.eq p.stateid q.stateid) (changes.ghosts.eq p.change q.change && (nat_eq p.flags q.flags && ((pointwise nat_eq) p.set q.set && delegations.ghosts.eq p.delegation q.delegation))) e in
    let s0 = stateid_same p.stateid q.stateid h0.0 in
    let h1 = pair (changes.ghosts.eq p.change q.change) (nat_eq p.flags q.flags && ((pointwise nat_eq) p.set q.set && delegations.ghosts.eq p.delegation q.delegation)) h0.1 in
    let s1 = change_info_same p.change q.change h1.0 in
    let h2 = pair (nat_eq p.flags q.flags) ((pointwise nat_eq) p.set q.set && delegations.ghosts.eq p.delegation q.delegation) h1.1 in
    let s2 = nat_same p.flags q.flags h2.0 in
    let h3 = pair ((pointwise nat_eq) p.set q.set) (delegations.ghosts.eq p.delegation q.delegation) h2.1 in
    let s3 = bytes_same p.set q.set h3.0 in
    let s4 = delegation_same p.delegation q.delegation h3.1 in
    opened_parts s0 s1 s2 s3 s4

lock_type_same : (p q : LockType) → lock_types.ghosts.eq p q ≡ true → p ≡ q
lock_type_same lock.Read lock.Read e = refl
lock_type_same lock.Write lock.Write e = refl
lock_type_same lock.ReadWaiting lock.ReadWaiting e = refl
lock_type_same lock.WriteWaiting lock.WriteWaiting e = refl
lock_type_same p q e = absurd (true≢false (sym e))

lock_denied_parts : {a x : ℕ} {b y : ℕ} {c z : LockType} {d u : ℕ} {f v : List ℕ} → a ≡ x → b ≡ y → c ≡ z → d ≡ u → f ≡ v → (let r : LockDenied = record { offset = a; length = b; kind = c; client = d; owner = f } in r) ≡ record { offset = x; length = y; kind = z; client = u; owner = v }
lock_denied_parts e0 e1 e2 e3 e4 = cc

lock_denied_same : (p q : LockDenied) → locks_denied.ghosts.eq p q ≡ true → p ≡ q
lock_denied_same p q e =
    let h0 = pair (nat_eq p.offset q.offset) (nat_eq p.length q.length && (lock_types.ghosts.eq p.kind q.kind && (nat_eq p.client q.client && (pointwise nat_eq) p.owner q.owner))) e in
    let s0 = nat_same p.offset q.offset h0.0 in
    let h1 = pair (nat_eq p.length q.length) (lock_types.ghosts.eq p.kind q.kind && (nat_eq p.client q.client && (pointwise nat_eq) p.owner q.owner)) h0.1 in
    let s1 = nat_same p.length q.length h1.0 in
    let h2 = pair (lock_types.ghosts.eq p.kind q.kind) (nat_eq p.client q.client && (pointwise nat_eq) p.owner q.owner) h1.1 in
    let s2 = lock_type_same p.kind q.kind h2.0 in
    let h3 = pair (nat_eq p.client q.client) ((pointwise nat_eq) p.owner q.owner) h2.1 in
    let s3 = nat_same p.client q.client h3.0 in
    let s4 = bytes_same p.owner q.owner h3.1 in
    lock_denied_parts s0 s1 s2 s3 s4

lock_refusal_same : (p q : LockRefusal) → lock_refusals.ghosts.eq p q ≡ true → p ≡ q
lock_refusal_same (refusal.Denied a) (refusal.Denied x) e =
    let s0 = lock_denied_same a x e in
    cc
lock_refusal_same (refusal.Other a) (refusal.Other x) e =
    let s0 = status_same a x e in
    cc
lock_refusal_same p q e = absurd (true≢false (sym e))

created_parts : {a x : ChangeInfo} {b y : List ℕ} → a ≡ x → b ≡ y → (let r : Created = record { change = a; set = b } in r) ≡ record { change = x; set = y }
created_parts e0 e1 = cc

created_same : (p q : Created) → createds.ghosts.eq p q ≡ true → p ≡ q
created_same p q e =
    let h0 = pair (changes.ghosts.eq p.change q.change) ((pointwise nat_eq) p.set q.set) e in
    let s0 = change_info_same p.change q.change h0.0 in
    let s1 = bytes_same p.set q.set h0.1 in
    created_parts s0 s1

content_parts : {a x : Bool} {b y : List ℕ} → a ≡ x → b ≡ y → (let r : Content = record { eof = a; bytes = b } in r) ≡ record { eof = x; bytes = y }
content_parts e0 e1 = cc

content_same : (p q : Content) → contents.ghosts.eq p q ≡ true → p ≡ q
content_same p q e =
    let h0 = pair (beq p.eof q.eof) ((pointwise nat_eq) p.bytes q.bytes) e in
    let s0 = bool_same p.eof q.eof h0.0 in
    let s1 = bytes_same p.bytes q.bytes h0.1 in
    content_parts s0 s1

entry_parts : {a x : ℕ} {b y : List ℕ} {c z : Attrs} → a ≡ x → b ≡ y → c ≡ z → (let r : Entry = record { cookie = a; name = b; attrs = c } in r) ≡ record { cookie = x; name = y; attrs = z }
entry_parts e0 e1 e2 = cc

entry_same : (p q : Entry) → entries.ghosts.eq p q ≡ true → p ≡ q
entry_same p q e =
    let h0 = pair (nat_eq p.cookie q.cookie) ((pointwise nat_eq) p.name q.name && attributes.ghosts.eq p.attrs q.attrs) e in
    let s0 = nat_same p.cookie q.cookie h0.0 in
    let h1 = pair ((pointwise nat_eq) p.name q.name) (attributes.ghosts.eq p.attrs q.attrs) h0.1 in
    let s1 = bytes_same p.name q.name h1.0 in
    let s2 = attrs_same p.attrs q.attrs h1.1 in
    entry_parts s0 s1 s2

listing_parts : {a x : List ℕ} {b y : List Entry} {c z : Bool} → a ≡ x → b ≡ y → c ≡ z → (let r : Listing = record { verifier = a; entries = b; eof = c } in r) ≡ record { verifier = x; entries = y; eof = z }
listing_parts e0 e1 e2 = cc

listing_same : (p q : Listing) → listings.ghosts.eq p q ≡ true → p ≡ q
listing_same p q e =
    let h0 = pair ((pointwise nat_eq) p.verifier q.verifier) ((pointwise entries.ghosts.eq) p.entries q.entries && beq p.eof q.eof) e in
    let s0 = bytes_same p.verifier q.verifier h0.0 in
    let h1 = pair ((pointwise entries.ghosts.eq) p.entries q.entries) (beq p.eof q.eof) h0.1 in
    let s1 = (list_same entries.ghosts.eq entry_same) p.entries q.entries h1.0 in
    let s2 = bool_same p.eof q.eof h1.1 in
    listing_parts s0 s1 s2

renamed_parts : {a x : ChangeInfo} {b y : ChangeInfo} → a ≡ x → b ≡ y → (let r : Renamed = record { source = a; target = b } in r) ≡ record { source = x; target = y }
renamed_parts e0 e1 = cc

renamed_same : (p q : Renamed) → renameds.ghosts.eq p q ≡ true → p ≡ q
renamed_same p q e =
    let h0 = pair (changes.ghosts.eq p.source q.source) (changes.ghosts.eq p.target q.target) e in
    let s0 = change_info_same p.source q.source h0.0 in
    let s1 = change_info_same p.target q.target h0.1 in
    renamed_parts s0 s1

written_parts : {a x : ℕ} {b y : ℕ} {c z : List ℕ} → a ≡ x → b ≡ y → c ≡ z → (let r : Written = record { count = a; committed = b; verifier = c } in r) ≡ record { count = x; committed = y; verifier = z }
written_parts e0 e1 e2 = cc

written_same : (p q : Written) → writtens.ghosts.eq p q ≡ true → p ≡ q
written_same p q e =
    let h0 = pair (nat_eq p.count q.count) (nat_eq p.committed q.committed && (pointwise nat_eq) p.verifier q.verifier) e in
    let s0 = nat_same p.count q.count h0.0 in
    let h1 = pair (nat_eq p.committed q.committed) ((pointwise nat_eq) p.verifier q.verifier) h0.1 in
    let s1 = nat_same p.committed q.committed h1.0 in
    let s2 = bytes_same p.verifier q.verifier h1.1 in
    written_parts s0 s1 s2

res_same : (p q : Res) → results.ghosts.eq p q ≡ true → p ≡ q
res_same (res.Close a) (res.Close x) e =
    let s0 = (result_same stateids.ghosts.eq statuses.ghosts.eq stateid_same status_same) a x e in
    cc
res_same (res.Commit a) (res.Commit x) e =
    let s0 = (result_same (pointwise nat_eq) statuses.ghosts.eq bytes_same status_same) a x e in
    cc
res_same (res.Create a) (res.Create x) e =
    let s0 = (result_same createds.ghosts.eq statuses.ghosts.eq created_same status_same) a x e in
    cc
res_same (res.DelegReturn a) (res.DelegReturn x) e =
    let s0 = status_same a x e in
    cc
res_same (res.GetAttr a) (res.GetAttr x) e =
    let s0 = (result_same attributes.ghosts.eq statuses.ghosts.eq attrs_same status_same) a x e in
    cc
res_same (res.GetFh a) (res.GetFh x) e =
    let s0 = (result_same (pointwise nat_eq) statuses.ghosts.eq bytes_same status_same) a x e in
    cc
res_same (res.Lock a) (res.Lock x) e =
    let s0 = (result_same stateids.ghosts.eq lock_refusals.ghosts.eq stateid_same lock_refusal_same) a x e in
    cc
res_same (res.LockTest a) (res.LockTest x) e =
    let s0 = (result_same (λ (a b : Unit {0}). true) lock_refusals.ghosts.eq unit_same lock_refusal_same) a x e in
    cc
res_same (res.Unlock a) (res.Unlock x) e =
    let s0 = (result_same stateids.ghosts.eq statuses.ghosts.eq stateid_same status_same) a x e in
    cc
res_same (res.Lookup a) (res.Lookup x) e =
    let s0 = status_same a x e in
    cc
res_same (res.Open a) (res.Open x) e =
    let s0 = (result_same openeds.ghosts.eq statuses.ghosts.eq opened_same status_same) a x e in
    cc
res_same (res.OpenDowngrade a) (res.OpenDowngrade x) e =
    let s0 = (result_same stateids.ghosts.eq statuses.ghosts.eq stateid_same status_same) a x e in
    cc
res_same (res.PutFh a) (res.PutFh x) e =
    let s0 = status_same a x e in
    cc
res_same (res.PutRootFh a) (res.PutRootFh x) e =
    let s0 = status_same a x e in
    cc
res_same (res.Read a) (res.Read x) e =
    let s0 = (result_same contents.ghosts.eq statuses.ghosts.eq content_same status_same) a x e in
    cc
res_same (res.ReadDir a) (res.ReadDir x) e =
    let s0 = (result_same listings.ghosts.eq statuses.ghosts.eq listing_same status_same) a x e in
    cc
res_same (res.Remove a) (res.Remove x) e =
    let s0 = (result_same changes.ghosts.eq statuses.ghosts.eq change_info_same status_same) a x e in
    cc
res_same (res.Rename a) (res.Rename x) e =
    let s0 = (result_same renameds.ghosts.eq statuses.ghosts.eq renamed_same status_same) a x e in
    cc
res_same (res.SaveFh a) (res.SaveFh x) e =
    let s0 = status_same a x e in
    cc
res_same (res.SetAttr a b) (res.SetAttr x y) e =
    let h0 = pair (statuses.ghosts.eq a x) ((pointwise nat_eq) b y) e in
    let s0 = status_same a x h0.0 in
    let s1 = bytes_same b y h0.1 in
    cc
res_same (res.Write a) (res.Write x) e =
    let s0 = (result_same writtens.ghosts.eq statuses.ghosts.eq written_same status_same) a x e in
    cc
res_same (res.Bind a) (res.Bind x) e =
    let s0 = (result_same bounds.ghosts.eq statuses.ghosts.eq bound_same status_same) a x e in
    cc
res_same (res.ExchangeId a) (res.ExchangeId x) e =
    let s0 = (result_same identities.ghosts.eq statuses.ghosts.eq identity_same status_same) a x e in
    cc
res_same (res.CreateSession a) (res.CreateSession x) e =
    let s0 = (result_same sessions_made.ghosts.eq statuses.ghosts.eq session_made_same status_same) a x e in
    cc
res_same (res.DestroySession a) (res.DestroySession x) e =
    let s0 = status_same a x e in
    cc
res_same (res.FreeStateid a) (res.FreeStateid x) e =
    let s0 = status_same a x e in
    cc
res_same (res.Sequence a) (res.Sequence x) e =
    let s0 = (result_same sequences.ghosts.eq statuses.ghosts.eq sequenced_same status_same) a x e in
    cc
res_same (res.TestStateid a) (res.TestStateid x) e =
    let s0 = (result_same (pointwise statuses.ghosts.eq) statuses.ghosts.eq (list_same statuses.ghosts.eq status_same) status_same) a x e in
    cc
res_same (res.DestroyClient a) (res.DestroyClient x) e =
    let s0 = status_same a x e in
    cc
res_same (res.ReclaimComplete a) (res.ReclaimComplete x) e =
    let s0 = status_same a x e in
    cc
res_same (res.Illegal a) (res.Illegal x) e =
    let s0 = status_same a x e in
    cc
res_same p q e = absurd (true≢false (sym e))

body_same : (p q : ReplyBody) → bodies.ghosts.eq p q ≡ true → p ≡ q
body_same (body.Denied a) (body.Denied x) e =
    let s0 = nat_same a x e in
    cc
body_same (body.Rejected a) (body.Rejected x) e =
    let s0 = nat_same a x e in
    cc
body_same (body.Results a b) (body.Results x y) e =
    let h0 = pair (statuses.ghosts.eq a x) ((pointwise results.ghosts.eq) b y) e in
    let s0 = status_same a x h0.0 in
    let s1 = (list_same results.ghosts.eq res_same) b y h0.1 in
    cc
body_same p q e = absurd (true≢false (sym e))

reply_parts : {a x : ℕ} {b y : ReplyBody} → a ≡ x → b ≡ y → (let r : Reply = record { xid = a; body = b } in r) ≡ record { xid = x; body = y }
reply_parts e0 e1 = cc

reply_same : (p q : Reply) → replies.ghosts.eq p q ≡ true → p ≡ q
reply_same p q e =
    let h0 = pair (nat_eq p.xid q.xid) (bodies.ghosts.eq p.body q.body) e in
    let s0 = nat_same p.xid q.xid h0.0 in
    let s1 = body_same p.body q.body h0.1 in
    reply_parts s0 s1

pub reply_is : (p q : Reply) → Decides (replies.ghosts.eq p q) (p ≡ q)
reply_is p q = (reply_same p q, λ e. subst (λ (r : Reply). replies.ghosts.eq p r ≡ true) e (reply-law.refl p))

pub body_is : (p q : ReplyBody) → Decides (bodies.ghosts.eq p q) (p ≡ q)
body_is p q = (body_same p q, λ e. subst (λ (r : ReplyBody). bodies.ghosts.eq p r ≡ true) e (body-law.refl p))

-- a test against what is the same as another
pub reply_as : (p k q : Reply) (b : Bool) → b ≡ replies.ghosts.eq p k → k ≡ q → Decides b (p ≡ q)
reply_as p k q b e f = let d = reply_is p k in (λ h. d.0 (sym e ∙ h) ∙ f, λ h. e ∙ d.1 (h ∙ sym f))
