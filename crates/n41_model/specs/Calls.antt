-- What a journal says of commands, and whose each request is.
use Rattle.std.specs.Prelude.{ℕ, zero, suc, ◌+◌, ◌-◌, ◌==◌, min, take, drop, map, replicate, Bool, true, false, ◌&&◌, ◌||◌, not, List, [], ◌∷◌, length, Option, Some, None, Result, Ok, Err, if◌then◌else◌, nat_le, nat_lt, is_none, is_some}
use Rattle.n41_types.specs.Texts.{name_limit, gathered}
use Rattle.n41_types.specs.declared.attributes.Attrs.{Attrs}
use Rattle.n41_types.specs.declared.commands.Answer.{Answer}
use Rattle.n41_types.specs.declared.commands.Answer.TheVariants as says
use Rattle.n41_types.specs.declared.commands.Command.{Command}
use Rattle.n41_types.specs.declared.commands.Command.TheVariants as asks
use Rattle.n41_types.specs.declared.commands.Value.{Value}
use Rattle.n41_types.specs.declared.commands.Value.TheVariants as value
use Rattle.n41_types.specs.declared.plans.Place.{Place}
use Rattle.n41_types.specs.declared.plans.Place.TheVariants.{Root, At}
use Rattle.n41_types.specs.declared.plans.Plan.{Plan}
use Rattle.n41_types.specs.declared.plans.Plan.TheVariants as plan
use Rattle.n41_types.specs.declared.plans.Request.{Request}
use Rattle.n41_results.specs.declared.replies.Reply.{Reply}
use Rattle.n41_results.specs.declared.replies.ReplyBody.{ReplyBody}
use Rattle.n41_results.specs.declared.replies.ReplyBody.TheVariants.{Results}
use Rattle.n41_results.specs.declared.results.Entry.{Entry}
use Rattle.n41_results.specs.declared.results.Listing.{Listing}
use Rattle.n41_results.specs.declared.results.Res.{Res}
use Rattle.n41_results.specs.declared.results.Res.TheVariants as res
use Rattle.n41_types.specs.declared.statuses.Status.{Status}
use Rattle.n41_types.specs.contracts.plans.PlanPartialEq.TheImpl as plans
use Rattle.n41_journal.specs.declared.events.Event.{Event}
use Rattle.n41_journal.specs.declared.events.Event.TheVariants.{Began, Put, Took, Answered}
use Rattle.n41_model.specs.declared.words.Phase.{Phase}
use Rattle.n41_model.specs.declared.words.Phase.TheVariants.{Running}
use Rattle.n41_results.specs.declared.sessions.SessionMade.{SessionMade}
use Rattle.n41_model.specs.declared.words.Listed.{Listed}
use Rattle.n41_model.specs.declared.words.Way.{Way}
use Rattle.n41_model.specs.declared.words.Verdict.{Verdict}
use Rattle.n41_model.specs.declared.words.Verdict.TheVariants as v
use Rattle.n41_model.specs.Replies.{is_ok, is_delay, is_grace, is_final}
use Rattle.n41_model.specs.Requests.{request, outs, out, knows, is_on, moment, verdict, slot_number}
use Rattle.n41_model.specs.Sessions.{phase, passed, plan_of, session}

-- the command of a caller that is unanswered
abbrev pub command : List Event → ℕ → Option Command
command [] c = None
command (Began d n k m ∷ js) c = if d == c then Some k else command js c
command (Answered d n a ∷ js) c = if d == c then None else command js c
command (e ∷ js) c = command js c

-- the number of a caller's last command, from 1
abbrev pub number : List Event → ℕ → ℕ
number [] c = 0
number (Began d n k m ∷ js) c = if d == c then n else number js c
number (e ∷ js) c = number js c

-- the place of the event with which a caller's last command began
abbrev pub began_at : List Event → ℕ → ℕ
began_at [] c = 0
began_at (Began d n k m ∷ js) c = if d == c then suc (length js) else began_at js c
began_at (e ∷ js) c = began_at js c

-- the moment at which a caller's last command began
abbrev pub began_on : List Event → ℕ → ℕ
began_on [] c = 0
began_on (Began d n k m ∷ js) c = if d == c then m else began_on js c
began_on (e ∷ js) c = began_on js c

-- ---- walks

abbrev pub is_none_left : List (List ℕ) → Bool
is_none_left [] = true
is_none_left (n ∷ ns) = false

abbrev pub first_name : List (List ℕ) → Option (List ℕ)
first_name [] = None
first_name (n ∷ ns) = Some n

-- the commands that are built; those that change something need a name to work on
abbrev pub is_built : Command → Bool
is_built (asks.Stat p) = true
is_built (asks.List p) = true
is_built (asks.Pause s) = true
is_built (asks.MakeDir p) = not (is_none_left p)
is_built (asks.Remove p) = not (is_none_left p)
is_built (asks.Rename p q) = not (is_none_left p) && not (is_none_left q)
is_built k = false

-- a listing at its beginning: it reads from the first entry on (RFC 8881, section 18.23)
abbrev pub nothing_listed : Listed
nothing_listed = record { names = []; cookie = 0; verifier = replicate 8 0 }

abbrev pub listed_of : Command → Option Listed
listed_of (asks.List p) = Some nothing_listed
listed_of k = None

-- a command at its beginning stands at the root
abbrev pub at_root : Option Place → Option Listed → Way
at_root old l = record { at = Root; walked = 0; old = old; listed = l }

-- the names from the root to the directory that a path's last name is in
abbrev pub parents : List (List ℕ) → List (List ℕ)
parents p = take (length p - 1) p

-- the names that a command walks: all of a stat's or a list's, and all but the last of the others'. A rename walks to its old name first.
abbrev pub route : Command → Option Place → List (List ℕ)
route (asks.Stat p) old = p
route (asks.List p) old = p
route (asks.MakeDir p) old = parents p
route (asks.Remove p) old = parents p
route (asks.Rename p q) None = parents p
route (asks.Rename p q) (Some d) = parents q
route k old = []

-- the names that are still to be walked
abbrev pub ahead : Command → Way → List (List ℕ)
ahead k w = drop w.walked (route k w.old)

-- the directory of the old name was reached: the walk to the new one begins at the root
abbrev pub turned : Command → Way → Way
turned (asks.Rename p q) w = if is_none w.old && is_none_left (ahead (asks.Rename p q) w) then at_root (Some w.at) w.listed else w
turned k w = w

abbrev pub way_of : Command → Way
way_of k = turned k (at_root None (listed_of k))

-- a walk of so many names came to this file, and no further than to the end of its route
abbrev pub walked : Command → ℕ → List ℕ → Way → Way
walked k n fh w = turned k (record w { at = At fh; walked = min (w.walked + n) (length (route k w.old)) })

abbrev pub last_of : List (List ℕ) → Option (List ℕ)
last_of p = first_name (drop (length p - 1) p)

abbrev pub make_dir : Place → Option (List ℕ) → Option Plan
make_dir at None = None
make_dir at (Some n) = Some (plan.MakeDir at n)

abbrev pub remove : Place → Option (List ℕ) → Option Plan
remove at None = None
remove at (Some n) = Some (plan.Remove at n)

abbrev pub rename : Option Place → Option (List ℕ) → Place → Option (List ℕ) → Option Plan
rename (Some d) (Some m) at (Some n) = Some (plan.Rename d m at n)
rename d m at n = None

-- a listing goes on where it has come to
abbrev pub list : ℕ → Place → Option Listed → Option Plan
list size at None = None
list size at (Some l) = Some (plan.List at l.cookie l.verifier size)

-- what a command asks for at the end of its walk; this many bytes are asked of a directory at once
abbrev pub goal : ℕ → Command → Way → Option Plan
goal size (asks.Stat p) w = Some (plan.Stat w.at)
goal size (asks.List p) w = list size w.at w.listed
goal size (asks.MakeDir p) w = make_dir w.at (last_of p)
goal size (asks.Remove p) w = remove w.at (last_of p)
goal size (asks.Rename p q) w = rename w.old (last_of p) w.at (last_of q)
goal size k w = None

-- a walk from here over as many of these names as go into one request, or what is asked for where none is left
abbrev pub walk_or : ℕ → Place → List (List ℕ) → Option Plan → Option Plan
walk_or most at [] p = p
walk_or most at (n ∷ ns) p = Some (plan.Walk at (take most (n ∷ ns)))

-- The names that go into one request: 8, or what the session's operations leave beside SEQUENCE, PUTFH and GETFH.
abbrev pub walk_most : Option SessionMade → ℕ
walk_most None = 8
walk_most (Some m) = min 8 (m.fore.ops_max - 3)

-- The bytes that are asked of a directory at once: 32,768, or what the session's replies hold beside 1,024.
abbrev pub list_size : Option SessionMade → ℕ
list_size None = 32768
list_size (Some m) = min 32768 (m.fore.reply_max - 1024)

-- the next plan of a command that has come so far
abbrev pub next_plan : Option SessionMade → Option Command → Way → Option Plan
next_plan m None w = None
next_plan m (Some k) w = walk_or (walk_most m) w.at (ahead k w) (goal (list_size m) k w)

-- whether a request with this plan is the command's next
abbrev pub is_plan : Option Plan → Plan → Bool
is_plan None q = false
is_plan (Some p) q = plans.ghosts.eq p q

-- ---- what a reply gives (own; the statuses are those of RFC 8881, section 15)

abbrev pub value_of_attrs : Option ℕ → Option ℕ → Attrs → Option Value
value_of_attrs (Some kind) (Some size) a = Some (value.Stat kind size a.fileid a.mode)
value_of_attrs kind size a = None

-- the attributes of the one GETATTR behind SEQUENCE and PUTROOTFH or PUTFH
abbrev pub stat_value : List Res → Option Value
stat_value (s ∷ put ∷ res.GetAttr (Ok a) ∷ []) = value_of_attrs a.kind a.size a
stat_value xs = None

-- ---- listings (RFC 8881, section 18.23)

abbrev pub names_of : List Entry → List (List ℕ)
names_of es = map (λ e. e.name) es

-- where the directory is read on: behind the last of these entries
abbrev pub cookie_after : ℕ → List Entry → ℕ
cookie_after n [] = n
cookie_after n (e ∷ es) = cookie_after e.cookie es

-- Whether a listing of so many names ends where these come, and if so, whether there is more than it tells: where names are left out, or
-- where the directory has no end yet and brought nothing, or brought as many names as are told.
abbrev pub ends_with : ℕ → ℕ → Bool → Option Bool
ends_with n k eof =
    if nat_lt name_limit (n + k) then Some true else if eof then Some false else if (k == 0) || (n + k == name_limit) then Some true else None

abbrev pub ends_by : Listed → Listing → Option Bool
ends_by l x = ends_with (length l.names) (length x.entries) x.eof

abbrev pub names_value : List (List ℕ) → Option Bool → Option Value
names_value ns None = None
names_value ns (Some more) = Some (value.Names ns more)

-- the names of a listing that ends
abbrev pub list_value : Option Listed → Option Listing → Option Value
list_value (Some l) (Some x) = names_value (gathered l.names (names_of x.entries)) (ends_by l x)
list_value l x = None

-- a listing that goes on
abbrev pub grown : Listed → Listing → Listed
grown l x = record { names = gathered l.names (names_of x.entries); cookie = cookie_after l.cookie x.entries; verifier = x.verifier }

abbrev pub listed_after : Option Listed → Option Listing → Option Listed
listed_after (Some l) (Some x) = if is_some (ends_by l x) then None else Some (grown l x)
listed_after l x = l

-- the one READDIR behind SEQUENCE and PUTROOTFH or PUTFH
abbrev pub listing_of : List Res → Option Listing
listing_of (s ∷ put ∷ res.ReadDir (Ok x) ∷ []) = Some x
listing_of xs = None

abbrev pub listing_in : ReplyBody → Option Listing
listing_in (Results s xs) = listing_of xs
listing_in body = None

-- ---- what a command is answered

-- a walk has no value of its own, and a listing none before its end
abbrev pub body_value : Option Listed → Plan → ReplyBody → Option Value
body_value l (plan.Stat at) (Results s xs) = stat_value xs
body_value l (plan.List at n v size) (Results s xs) = list_value l (listing_of xs)
body_value l (plan.MakeDir dir name) (Results s xs) = Some value.Made
body_value l (plan.Remove dir name) (Results s xs) = Some value.Removed
body_value l (plan.Rename from old to new) (Results s xs) = Some value.Renamed
body_value l p body = None

-- the value that the reply to the last request of a command spells, behind what a listing told before
abbrev pub value_of : Option Listed → Plan → Reply → Option Value
value_of l p y = body_value l p y.body

abbrev pub done_with : Option Value → Option Answer
done_with None = None
done_with (Some x) = Some (says.Done x)

-- the filehandle of a last GETFH
abbrev pub reached : List Res → Option (List ℕ)
reached [] = None
reached (res.GetFh (Ok fh) ∷ []) = Some fh
reached (x ∷ xs) = reached xs

abbrev pub reached_in : ReplyBody → Option (List ℕ)
reached_in (Results s xs) = reached xs
reached_in body = None

-- DELAY and GRACE lead to a new attempt, 64 times
abbrev pub is_again : Status → ℕ → Bool
is_again s n = (is_delay s || is_grace s) && nat_lt n 64

-- the answer that a reply gives to the command of whose step it ended this attempt; None where it gives none yet
abbrev pub answer_in : Option Listed → Plan → Option Verdict → ℕ → Reply → Option Answer
answer_in l p (Some (v.Ran s)) n y =
    if is_ok s then done_with (value_of l p y) else if is_again s n then None else Some (says.Refused s)
answer_in l p (Some (v.TooBig s)) n y = Some (says.Refused s)
answer_in l p w n y = None

abbrev pub is_put_off_by : Option Verdict → ℕ → Bool
is_put_off_by (Some (v.Ran s)) n = is_again s n
is_put_off_by w n = false

-- ---- a call: the caller's unanswered command, as its requests and replies have left it

-- what is known of the call of one caller
pub record Call : Type 0 where
  pub busy : Bool  -- a request of it is out
  pub since : Option ℕ  -- the moment of a DELAY or GRACE, while no new attempt was made
  pub attempts : ℕ  -- the attempts of its step so far
  pub earned : Option Answer  -- the answer that its last reply gives
  pub way : Way  -- how far it has come

abbrev pub fresh_call : Way → Call
fresh_call w = record { busy = false; since = None; attempts = 0; earned = None; way = w }

abbrev pub put_call : Call → Call
put_call k = record { busy = true; since = None; attempts = k.attempts + 1; earned = k.earned; way = k.way }

-- the attempts of a step are counted anew after an OK
abbrev pub attempts_after : Option Verdict → ℕ → ℕ
attempts_after (Some (v.Ran s)) n = if is_ok s then 0 else n
attempts_after w n = n

abbrev pub walked_by : Command → List (List ℕ) → Option (List ℕ) → Way → Way
walked_by c ns None w = w
walked_by c ns (Some fh) w = walked c (length ns) fh w

abbrev pub step_of : Option Command → Plan → Reply → Way → Way
step_of (Some c) (plan.Walk from ns) y w = walked_by c ns (reached_in y.body) w
step_of c (plan.List at n v size) y w = record w { listed = listed_after w.listed (listing_in y.body) }
step_of c p y w = w

-- a walk or a listing that was answered OK leads on
abbrev pub way_after : Option Command → Plan → Option Verdict → Reply → Way → Way
way_after c p (Some (v.Ran s)) y w = if is_ok s then step_of c p y w else w
way_after c p v y w = w

-- a final reply to the request of a call that is out; one to a request of the caller's command before changes nothing
abbrev pub took_call : ℕ → Option Command → Plan → Option Verdict → Reply → Call → Call
took_call m c p w y k =
    if is_final y && k.busy
    then record {
      busy = false;
      since = if is_put_off_by w k.attempts then Some m else None;
      attempts = attempts_after w k.attempts;
      earned = answer_in k.way.listed p w k.attempts y;
      way = way_after c p w y k.way;
    }
    else k

-- its answer was given
abbrev pub answered_call : Call → Call
answered_call k = record k { earned = None }

-- the command can go on: it has no answer yet, no request out, and is not in its two seconds
abbrev pub is_ready_call : ℕ → Option Command → Call → Bool
is_ready_call m None k = false
is_ready_call m (Some c) k = not k.busy && is_none k.earned && passed k.since m

-- of two callers the one whose command began first
abbrev pub sooner : List Event → Option ℕ → ℕ → Option ℕ
sooner js None c = Some c
sooner js (Some d) c = if nat_lt (began_at js c) (began_at js d) then Some c else Some d

abbrev pub is_caller : Option ℕ → ℕ → Bool
is_caller None c = false
is_caller (Some d) c = d == c

-- the caller whose ready command began first, of those whose next plan this is
abbrev pub chosen : List Event → (ℕ → Call) → Plan → ℕ → Option ℕ
chosen js calls p zero = None
chosen js calls p (suc c) =
    if is_ready_call (moment js) (command js c) (calls c) && is_plan (next_plan (session js) (command js c) (calls c).way) p
    then sooner js (chosen js calls p c) c
    else chosen js calls p c

abbrev pub in_running : Phase → Option ℕ → Option ℕ
in_running Running o = o
in_running q o = None

-- a request is new where it is not out yet
abbrev pub is_new : List Event → Request → Option ℕ → Bool
is_new js r None = true
is_new js r (Some n) = not (knows (outs js n) r.xid)

-- the calls, and whose the request on each slot is: of a caller, or with None the client's own
pub record Ledger : Type 0 where
  pub calls : ℕ → Call
  pub owners : ℕ → Option ℕ

abbrev pub slot_in : Option Request → Option ℕ
slot_in None = None
slot_in (Some r) = slot_number r.slot

abbrev pub owner_at : (ℕ → Option ℕ) → Option ℕ → Option ℕ
owner_at owners None = None
owner_at owners (Some n) = owners n

abbrev pub put_ledger : List Event → ℕ → Request → Option ℕ → Ledger → Ledger
put_ledger js n r s l =
    if is_new js r s
    then (let o = in_running (phase js) (chosen js l.calls r.plan n) in
    record { calls = λ c. if is_caller o c then put_call (l.calls c) else l.calls c; owners = λ m. if is_on r m then o else l.owners m })
    else l

abbrev pub took_ledger : List Event → Reply → Option ℕ → Ledger → Ledger
took_ledger js y o l =
    record { calls = λ c. if is_caller o c then took_call (moment js) (command js c) (plan_of js y) (verdict js y) y (l.calls c) else l.calls c; owners = l.owners }

abbrev pub began_ledger : ℕ → Command → Ledger → Ledger
began_ledger d k l = record { calls = λ c. if d == c then fresh_call (way_of k) else l.calls c; owners = l.owners }

abbrev pub answered_ledger : ℕ → Ledger → Ledger
answered_ledger d l = record { calls = λ c. if d == c then answered_call (l.calls c) else l.calls c; owners = l.owners }

-- A new request belongs, in phase Running, to the command that began first of those that are ready and whose next plan it is;
-- otherwise it is the client's own. There are so many callers.
abbrev pub ledger : ℕ → List Event → Ledger
ledger n [] = record { calls = λ c. fresh_call (at_root None None); owners = λ s. None }
ledger n (Began d k a m ∷ js) = began_ledger d a (ledger n js)
ledger n (Put c p r ∷ js) = put_ledger js n r (slot_number r.slot) (ledger n js)
ledger n (Took c p y ∷ js) = took_ledger js y (owner_at (ledger n js).owners (slot_in (request js y.xid))) (ledger n js)
ledger n (Answered d m a ∷ js) = answered_ledger d (ledger n js)
ledger n (e ∷ js) = ledger n js

-- the call of a caller, and the caller whose the last request on a slot is
abbrev pub call : ℕ → List Event → ℕ → Call
call n js c = (ledger n js).calls c

abbrev pub owner : ℕ → List Event → ℕ → Option ℕ
owner n js s = (ledger n js).owners s

-- the next plan of a caller's command
abbrev pub plan_next : ℕ → List Event → ℕ → Option Plan
plan_next n js c = next_plan (session js) (command js c) (call n js c).way

-- the command of a caller can go on
abbrev pub is_ready : ℕ → List Event → ℕ → Bool
is_ready n js c = is_ready_call (moment js) (command js c) (call n js c)

-- every command is answered
abbrev pub all_answered : List Event → ℕ → Bool
all_answered js zero = true
all_answered js (suc c) = is_none (command js c) && all_answered js c

-- ---- answers

-- a pause is done once its seconds have passed since it began
abbrev pub pause_given : ℕ → ℕ → Option Command → Option Answer
pause_given b m (Some (asks.Pause s)) = if nat_le s (m - b) then Some (says.Done value.Paused) else None
pause_given b m k = None

abbrev pub either : Option Answer → Option Answer → Option Answer
either (Some a) b = Some a
either None b = b

-- the answer that a command has by now: what its last reply gives, or what the moments give to a pause
abbrev pub given : ℕ → List Event → ℕ → Option Answer
given n js c = either (call n js c).earned (pause_given (began_on js c) (moment js) (command js c))
