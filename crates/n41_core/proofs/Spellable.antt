-- Each request that is due is small and has a spelling.
use Rattle.std.proofs.Common.{◌≡◌, ◌≤◌, ℕ, arith, length-take, Bool, true, false, not, List, [], ◌∷◌, length, Option, Some, None, Result, Ok, Err, if◌then◌else◌, subst}
use Rattle.std.specs.Prelude.{is_some, IfOk, IfSome}
use Rattle.n41_types.specs.declared.commands.Command.{Command}
use Rattle.n41_types.specs.declared.commands.Command.TheVariants as asks
use Rattle.n41_types.specs.declared.plans.Place.{Place}
use Rattle.n41_types.specs.declared.plans.Plan.{Plan}
use Rattle.n41_types.specs.declared.plans.Request.{Request}
use Rattle.n41_results.specs.declared.sessions.SessionMade.{SessionMade}
use Rattle.n41_journal.specs.declared.events.Event.{Event}
use Rattle.n41_journal.specs.declared.events.Event.TheVariants.{Began, Put, Took, CbTook, CbPut, Dialed, DialFailed, Broke, Ticked, Answered, Quit}
use Rattle.n41_model.specs.declared.words.Item.{Item}
use Rattle.n41_model.specs.declared.words.Item.TheVariants as item
use Rattle.n41_model.specs.declared.words.KnownClient.{KnownClient}
use Rattle.n41_model.specs.declared.words.Phase.{Phase}
use Rattle.n41_model.specs.declared.words.Phase.TheVariants.{Binding, Session, ClientId, Completing}
use Rattle.n41_model.specs.declared.words.Setup.{Setup}
use Rattle.n41_model.specs.declared.words.Listed.{Listed}
use Rattle.n41_model.specs.declared.words.Way.{Way}
use Rattle.n41_calls.specs.Calls.{command, call, ahead, goal, last_of, list, list_size, make_dir, remove, rename, next_plan, plan_next, walk_most, walk_or}
use Rattle.n41_calls.specs.Due.{due, only_if, with_plan, bare_with, bare_due, on_free, on_free_slot, phase_plan, step_plan, own_plan, own_plan_in, destroy_plan, destroy_in, bind_in, create_in, is_open, may_retry, may_step, may_own, may_begin, may_destroy, item_due}
use Rattle.n41_calls.specs.Kept.{Kept}
use Rattle.n41_model.specs.Replies.{is_final}
use Rattle.n41_model.specs.Requests.{bares, outs, first, joined, without, knows, has_xid, is_bare, is_on, made, bare_waits, bare, out}
use Rattle.n41_model.specs.Sessions.{session, client, phase, completed, next_xid, free_slot}
use Rattle.n41_requests.specs.Requests.{IsSpellable, IsSpellablePlan, IsSmall}

-- a plan whose requests are small and have a spelling
abbrev pub IsShortPlan : Plan → Type 0
IsShortPlan p = IsSmall p × IsSpellablePlan p

abbrev Some1 : Option Request → Type 0
Some1 None = Unit {0}
Some1 (Some r) = IsShortPlan r.plan

abbrev SomePlan : Option Plan → Type 0
SomePlan None = Unit {0}
SomePlan (Some p) = IsShortPlan p

abbrev Each : List Request → Type 0
Each [] = Unit {0}
Each (r ∷ rs) = IsShortPlan r.plan × Each rs

-- all that is out is small and has a spelling
record Spelt (js : List Event) : Type 0 where
  bares_are : Each (bares js)
  outs_are : (n : ℕ) → Each (outs js n)

-- ---- what is due

if_only : (b : Bool) (o : Option Request) → Some1 o → Some1 (only_if b o)
if_only true o h = h
if_only false o h = tt

of_plan : (o : Option Plan) (f : Plan → Option Request) → SomePlan o → ((p : Plan) → IsShortPlan p → Some1 (f p)) → Some1 (with_plan o f)
of_plan None f h g = tt
of_plan (Some p) f h g = g p h

bare_by : (u : Setup) (p : Plan) (x : Option ℕ) → IsShortPlan p → Some1 (bare_with u p x)
bare_by u p None h = tt
bare_by u p (Some x) h = h

free_by : (u : Setup) (js : List Event) (p : Plan) (m : Option SessionMade) (n x : Option ℕ) → IsShortPlan p → Some1 (on_free u js p m n x)
free_by u js p None n x h = tt
free_by u js p (Some m) None x h = tt
free_by u js p (Some m) (Some n) None h = tt
free_by u js p (Some m) (Some n) (Some x) h = h

bind_is : (m : Option SessionMade) → SomePlan (bind_in m)
bind_is None = tt
bind_is (Some m) = (tt, tt)

create_is : (k : Option KnownClient) → SomePlan (create_in k)
create_is None = tt
create_is (Some k) = (tt, tt)

phase_is : (u : Setup) (js : List Event) (p : Phase) → length u.owner ≤ 1024 → SomePlan (phase_plan u js p)
phase_is u js Binding l = bind_is (session js)
phase_is u js Session l = create_is (client js)
phase_is u js ClientId l = (tt, l)
phase_is u js p l = tt

own_either : (b : Bool) (p q : Plan) → IsShortPlan p → IsShortPlan q → IsShortPlan (if b then p else q)
own_either true p q g h = g
own_either false p q g h = h

own_is : (p : Phase) (done : Bool) → SomePlan (own_plan_in p done)
own_is Completing true = (tt, tt)
own_is Completing false = (tt, tt)
own_is p done = tt

destroy_is : (m : Option SessionMade) (k : Option KnownClient) → SomePlan (destroy_in m k)
destroy_is (Some m) k = (tt, tt)
destroy_is None (Some k) = (tt, tt)
destroy_is None None = tt

most_small : (m : Option SessionMade) → walk_most m ≤ 8
most_small None = omega arith
most_small (Some m) = omega arith

-- a walk of a few names is short
walk_is : (most : ℕ) (at : Place) (ns : List (List ℕ)) (p : Option Plan) → most ≤ 8 → SomePlan p → SomePlan (walk_or most at ns p)
walk_is most at [] p l h = h
walk_is most at (n ∷ ns) p l h =
    let e = length-take most (n ∷ ns) in
    (omega (arith, l, e), omega (arith, l, e))

make_is : (at : Place) (o : Option (List ℕ)) → SomePlan (make_dir at o)
make_is at None = tt
make_is at (Some n) = (tt, tt)

remove_is : (at : Place) (o : Option (List ℕ)) → SomePlan (remove at o)
remove_is at None = tt
remove_is at (Some n) = (tt, tt)

rename_is : (from : Option Place) (old : Option (List ℕ)) (at : Place) (new : Option (List ℕ)) → SomePlan (rename from old at new)
rename_is None old at new = tt
rename_is (Some d) None at new = tt
rename_is (Some d) (Some m) at None = tt
rename_is (Some d) (Some m) at (Some n) = (tt, tt)

list_is : (size : ℕ) (at : Place) (o : Option Listed) → SomePlan (list size at o)
list_is size at None = tt
list_is size at (Some l) = (tt, tt)

goal_is : (size : ℕ) (k : Command) (w : Way) → SomePlan (goal size k w)
goal_is size (asks.Stat p) w = (tt, tt)
goal_is size (asks.List p) w = list_is size w.at w.listed
goal_is size (asks.MakeDir p) w = make_is w.at (last_of p)
goal_is size (asks.Remove p) w = remove_is w.at (last_of p)
goal_is size (asks.Rename p q) w = rename_is w.old (last_of p) w.at (last_of q)
goal_is size k w = tt

next_is : (m : Option SessionMade) (o : Option Command) (w : Way) → SomePlan (next_plan m o w)
next_is m None w = tt
next_is m (Some k) w = walk_is (walk_most m) w.at (ahead k w) (goal (list_size m) k w) (most_small m) (goal_is (list_size m) k w)

first_is : (rs : List Request) → Each rs → Some1 (first rs)
first_is [] h = tt
first_is (r ∷ rs) h = h.0

item_is : (u : Setup) (js : List Event) (i : Item) → length u.owner ≤ 1024 → Spelt js → Some1 (item_due u js i)
item_is u js item.Again l s = if_only (not (bare_waits js)) (bare js) (first_is (bares js) s.bares_are)
item_is u js (item.Retry n) l s = if_only (may_retry u js n) (out js n) (first_is (outs js n) (s.outs_are n))
item_is u js item.Step l s = if_only (may_step u js) (with_plan (step_plan u js) (bare_due u js)) (of_plan (step_plan u js) (bare_due u js) (phase_is u js (phase js) l) (λ p h. bare_by u p (next_xid js) h))
item_is u js item.Own l s = if_only (may_own u js) (with_plan (own_plan js) (on_free_slot u js)) (of_plan (own_plan js) (on_free_slot u js) (own_is (phase js) (completed js)) (λ p h. free_by u js p (session js) (free_slot js) (next_xid js) h))
item_is u js (item.Fresh c) l s = if_only (may_begin u js c) (with_plan (plan_next u.callers js c) (on_free_slot u js)) (of_plan (plan_next u.callers js c) (on_free_slot u js) (next_is (session js) (command js c) (call u.callers js c).way) (λ p h. free_by u js p (session js) (free_slot js) (next_xid js) h))
item_is u js item.Destroy l s = if_only (may_destroy u js) (with_plan (destroy_plan js) (bare_due u js)) (of_plan (destroy_plan js) (bare_due u js) (destroy_is (session js) (client js)) (λ p h. bare_by u p (next_xid js) h))

due_by : (u : Setup) (js : List Event) (i : Item) (r : Request) → length u.owner ≤ 1024 → Spelt js → due u js i ≡ Some r → IsShortPlan r.plan
due_by u js i r l s e = subst (λ (o : Option Request). Some1 o) e (if_only (is_open js) (item_due u js i) (item_is u js i l s))

-- ---- what is out

each_either : (b : Bool) (xs ys : List Request) → Each xs → Each ys → Each (if b then xs else ys)
each_either true xs ys g h = g
each_either false xs ys g h = h

each_joined : (rs : List Request) (r : Request) → Each rs → IsShortPlan r.plan → Each (joined rs r)
each_joined rs r g h = each_either (knows rs r.xid) rs (r ∷ rs) g (h, g)

each_without : (rs : List Request) (x : ℕ) → Each rs → Each (without rs x)
each_without [] x g = tt
each_without (r ∷ rs) x g = each_either (not (has_xid x r)) (r ∷ without rs x) (without rs x) (g.0, each_without rs x g.1) (each_without rs x g.1)

spelt : (u : Setup) (js : List Event) → length u.owner ≤ 1024 → Kept u js → Spelt js
spelt u [] l k = record { bares_are = tt; outs_are = λ n. tt }
spelt u (Put c p r ∷ js) l k =
    let s = spelt u js l k.0 in
    let h : IsShortPlan r.plan = due_by u js k.1.0 r l s k.1.1.is_due in
    record {
      bares_are = each_either (is_bare r) (joined (bares js) r) (bares js) (each_joined (bares js) r s.bares_are h) s.bares_are;
      outs_are = λ n. each_either (is_on r n) (joined (outs js n) r) (outs js n) (each_joined (outs js n) r (s.outs_are n) h) (s.outs_are n);
    }
spelt u (Took c p y ∷ js) l k =
    let s = spelt u js l k.0 in
    record {
      bares_are = each_without (bares js) y.xid s.bares_are;
      outs_are = λ n. each_either (is_some (made js y)) [] (if is_final y then without (outs js n) y.xid else outs js n) tt (each_either (is_final y) (without (outs js n) y.xid) (outs js n) (each_without (outs js n) y.xid (s.outs_are n)) (s.outs_are n));
    }
spelt u (Began d n c m ∷ js) l k = let s = spelt u js l k.0 in record { bares_are = s.bares_are; outs_are = s.outs_are }
spelt u (CbTook c p x ∷ js) l k = let s = spelt u js l k.0 in record { bares_are = s.bares_are; outs_are = s.outs_are }
spelt u (CbPut c p x ∷ js) l k = let s = spelt u js l k.0 in record { bares_are = s.bares_are; outs_are = s.outs_are }
spelt u (Dialed c ∷ js) l k = let s = spelt u js l k.0 in record { bares_are = s.bares_are; outs_are = s.outs_are }
spelt u (DialFailed ∷ js) l k = let s = spelt u js l k.0 in record { bares_are = s.bares_are; outs_are = s.outs_are }
spelt u (Broke c w ∷ js) l k = let s = spelt u js l k.0 in record { bares_are = s.bares_are; outs_are = s.outs_are }
spelt u (Ticked m ∷ js) l k = let s = spelt u js l k.0 in record { bares_are = s.bares_are; outs_are = s.outs_are }
spelt u (Answered c n a ∷ js) l k = let s = spelt u js l k.0 in record { bares_are = s.bares_are; outs_are = s.outs_are }
spelt u (Quit ∷ js) l k = let s = spelt u js l k.0 in record { bares_are = s.bares_are; outs_are = s.outs_are }

-- a request that is due is small and has a spelling
pub due_short : (u : Setup) (js : List Event) (i : Item) (r : Request) → length u.owner ≤ 1024 → Kept u js → due u js i ≡ Some r → IsShortPlan r.plan
due_short u js i r l k e = due_by u js i r l (spelt u js l k) e

pub short_all : {E : Type 0} (u : Setup) (js : List Event) (r : Result (Option Request) E) → length u.owner ≤ 1024 → Kept u js → IfOk r (λ o. IfSome o (λ q. (i : Item) × (due u js i ≡ Some q))) → IfOk r (λ o. IfSome o (λ q. IsSmall q.plan × IsSpellable q))
short_all u js (Ok (Some q)) l k h = due_short u js h.0 q l k h.1
short_all u js (Ok None) l k h = tt
short_all u js (Err x) l k h = tt
