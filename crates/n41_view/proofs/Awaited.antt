-- What is awaited and what is old, by the tables and by the journal.
use Rattle.std.proofs.Common.{◌≡◌, ◌↔◌, ◌⊎◌, inl, inr, ℕ, zero, suc, ◌+◌, ◌≤◌, Bool, true, false, ◌&&◌, ◌||◌, List, Option, Some, None, if◌then◌else◌, refl, sym, ◌∙◌, ap, subst, arith}
use Rattle.std.proofs.lemmas.Bool.Decides.{nat_tests}
use Rattle.std.specs.Prelude.{nat_le}
use Rattle.n41_types.specs.declared.plans.Request.{Request}
use Rattle.n41_journal.specs.declared.events.Event.{Event}
use Rattle.n41_model.specs.declared.words.Sent.{Sent}
use Rattle.n41_model.specs.declared.words.Sent.TheVariants.{Never, Waits, Delayed, Unbound}
use Rattle.n41_calls.specs.Due.{only_if}
use Rattle.n41_calls.specs.Kept.{IsAwaited, IsOld, WaitsBare, WaitsOn}
use Rattle.n41_model.specs.Requests.{bare, bare_waits, bare_put_at, moment, outs, out, sent, put_at, is_waiting, is_on, has_xid}
use Rattle.n41_model.specs.Sessions.{slots}
use Rattle.n41_calls.proofs.Slots.{Seats}
use Rattle.n41_calls.proofs.Tests.{only_if_some}
use Rattle.n41_view.specs.View.{view, held_of, slots_from}
use Rattle.n41_view.specs.Step.{has, held_with}
use Rattle.n41_view.specs.Causes.{awaited_in, awaited_held, is_old_held, any_old, is_old_in}
use Rattle.n41_view.proofs.Lists.{first_on}
use Rattle.n41_view.proofs.Known.{Known}
use Rattle.n41_view.proofs.Found.{found_on, use_on, not_bare, only_on}
use Rattle.n41_view.proofs.Lookups.{holds_is, found_from, some_held, any_below}

waits_is : (s : Sent) → is_waiting s ≡ true → s ≡ Waits
waits_is Never e = absurd (cc)
waits_is Waits e = refl
waits_is (Delayed m) e = absurd (cc)
waits_is Unbound e = absurd (cc)

xid_is : (x : ℕ) (r : Request) → has_xid x r ≡ true → r.xid ≡ x
xid_is x r e = grind (arith, nat_tests, e)

is_xid : (x : ℕ) (r : Request) → r.xid ≡ x → has_xid x r ≡ true
is_xid x r e = grind (arith, nat_tests, e)

-- ---- from the tables

abbrev AwaitedOn : List Event → ℕ → Request → Type 0
AwaitedOn js x r = (s : ℕ) × WaitsOn js s r × (r.xid ≡ x)

awaited_at : (n : ℕ) (js : List Event) (x s : ℕ) (r : Request) (q : Option Request) → out js s ≡ q → has x q ≡ true → awaited_held (held_of n js s q) ≡ Some r → AwaitedOn js x r
awaited_at n js x s r None o h e = absurd (cc)
awaited_at n js x s r (Some q) o h e =
    let f = only_if_some (is_waiting (sent js s)) (Some q) r e in
    let g : q ≡ r = cc in
    let a : out js s ≡ Some r = o ∙ f.1 in
    let b : r.xid ≡ x = subst (λ (z : Request). z.xid ≡ x) g (xid_is x q h) in
    (s, record { is_out = a; waits = waits_is (sent js s) f.0 }, b)

awaited_step : (n : ℕ) (js : List Event) (x i k : ℕ) (r : Request) → (awaited_held (held_with (slots_from n js (i + 1) k) x) ≡ Some r → AwaitedOn js x r) → (b : Bool) → has x (out js i) ≡ b → awaited_held (held_with (slots_from n js i (suc k)) x) ≡ Some r → AwaitedOn js x r
awaited_step n js x i k r f true h e =
    let a : held_with (slots_from n js i (suc k)) x ≡ held_of n js i (out js i) = rw (holds_is n js i x (out js i), h) refl in
    awaited_at n js x i r (out js i) refl h (ap awaited_held (sym a) ∙ e)
awaited_step n js x i k r f false h e =
    let a : held_with (slots_from n js i (suc k)) x ≡ held_with (slots_from n js (i + 1) k) x = rw (holds_is n js i x (out js i), h) refl in
    f (ap awaited_held (sym a) ∙ e)

awaited_from : (n : ℕ) (js : List Event) (x i k : ℕ) (r : Request) → awaited_held (held_with (slots_from n js i k) x) ≡ Some r → AwaitedOn js x r
awaited_from n js x i zero r e = absurd (cc)
awaited_from n js x i (suc k) r e = awaited_step n js x i k r (awaited_from n js x (i + 1) k r) (has x (out js i)) refl e

on_slot : (n : ℕ) (js : List Event) (x : ℕ) (r : Request) → awaited_held (held_with (slots_from n js 0 (slots js)) x) ≡ Some r → IsAwaited js r × (r.xid ≡ x)
on_slot n js x r e = let h = awaited_from n js x 0 (slots js) r e in (inr (h.0, h.1), h.2)

awaited_to : (n : ℕ) (js : List Event) (x : ℕ) (r : Request) (q : Option Request) → bare js ≡ q → (b : Bool) → has x q ≡ b → (if has x q then only_if (bare_waits js) q else awaited_held (held_with (slots_from n js 0 (slots js)) x)) ≡ Some r → IsAwaited js r × (r.xid ≡ x)
awaited_to n js x r None o b h e = on_slot n js x r e
awaited_to n js x r (Some q) o true h e =
    let f = only_if_some (bare_waits js) (Some q) r (rw h at e) in
    let g : q ≡ r = (let i = f.1 in cc) in
    (inl (record { is_out = o ∙ f.1; waits = f.0 }), subst (λ (z : Request). z.xid ≡ x) g (xid_is x q h))
awaited_to n js x r (Some q) o false h e = on_slot n js x r (rw h at e)

-- ---- from the journal

awaited_bare : (n : ℕ) (js : List Event) (x : ℕ) (r : Request) → WaitsBare js r → r.xid ≡ x → awaited_in (view n js) x ≡ Some r
awaited_bare n js x r w e = let o = w.is_out in let b = w.waits in let h = is_xid x r e in rw (o, h, b) refl

awaited_on : (n : ℕ) (js : List Event) (x s : ℕ) (r : Request) → Seats js → Known js → WaitsOn js s r → r.xid ≡ x → awaited_in (view n js) x ≡ Some r
awaited_on n js x s r t k w e =
    let o = w.is_out in
    let v = w.waits in
    let f = found_on js x s r k o e in
    let i : is_on r s ≡ true = first_on s (outs js s) r (t.on s) o in
    let u = use_on r.slot s i in
    let a : has x (out js s) ≡ true = subst (λ (z : Option Request). has x z ≡ true) (sym o) (is_xid x r e) in
    let h : held_with (slots_from n js 0 (slots js)) x ≡ held_of n js s (out js s) = found_from n js x 0 (slots js) s (omega arith) (let l = k.below s r o in omega arith) a (λ m. only_on js x s r t k f i m (out js m) refl) in
    let b : has x (bare js) ≡ false = not_bare js x r u.0 t k f u.1 (bare js) refl in
    rw (b, h, o, v) refl

pub awaited_is : (n : ℕ) (js : List Event) (x : ℕ) (r : Request) → Seats js → Known js → (awaited_in (view n js) x ≡ Some r) ↔ (IsAwaited js r × (r.xid ≡ x))
awaited_is n js x r t k = (λ e. awaited_to n js x r (bare js) refl (has x (bare js)) refl e, λ h. by h.0 h.1) where
  by : IsAwaited js r → r.xid ≡ x → awaited_in (view n js) x ≡ Some r
  by (inl w) e = awaited_bare n js x r w e
  by (inr w) e = awaited_on n js x w.0 r t k w.1 e

-- ---- what is old

and_three : (a b c : Bool) → (a && b && c) ≡ true → (a ≡ true) × (b ≡ true) × (c ≡ true)
and_three true true true e = (refl, refl, refl)
and_three true true false e = absurd (cc)
and_three true false c e = absurd (cc)
and_three false b c e = absurd (cc)

or_true : (a b : Bool) → (a || b) ≡ true → (a ≡ true) ⊎ (b ≡ true)
or_true true b e = inl refl
or_true false b e = inr e

or_first : (a b : Bool) → a ≡ true → (a || b) ≡ true
or_first true b e = refl
or_first false b e = absurd (cc)

or_last : (a b : Bool) → b ≡ true → (a || b) ≡ true
or_last true b e = refl
or_last false b e = e

up_to : (a b : ℕ) → nat_le a b ≡ true → a ≤ b
up_to a b e = grind (arith, nat_tests, e)

is_up_to : (a b : ℕ) → a ≤ b → nat_le a b ≡ true
is_up_to a b e = grind (arith, nat_tests, e)

old_bare : (js : List Event) (x : ℕ) (q : Option Request) → bare js ≡ q → (has x q && bare_waits js && nat_le (bare_put_at js + 60) (moment js)) ≡ true → IsOld js x
old_bare js x None o e = absurd (cc)
old_bare js x (Some r) o e =
    let h = and_three (has_xid x r) (bare_waits js) (nat_le (bare_put_at js + 60) (moment js)) e in
    inl (r, record { is_out = o; waits = h.1 }, xid_is x r h.0, up_to (bare_put_at js + 60) (moment js) h.2)

old_on : (n : ℕ) (js : List Event) (x s : ℕ) (q : Option Request) → out js s ≡ q → is_old_held (moment js) x (held_of n js s q) ≡ true → IsOld js x
old_on n js x s None o e = absurd (cc)
old_on n js x s (Some r) o e =
    let h = and_three (has_xid x r) (is_waiting (sent js s)) (nat_le (put_at js s + 60) (moment js)) e in
    inr (s, r, record { is_out = o; waits = waits_is (sent js s) h.1 }, xid_is x r h.0, up_to (put_at js s + 60) (moment js) h.2)

old_to : (n : ℕ) (js : List Event) (x : ℕ) → ((has x (bare js) && bare_waits js && nat_le (bare_put_at js + 60) (moment js)) ≡ true) ⊎ (any_old (moment js) x (slots_from n js 0 (slots js)) ≡ true) → IsOld js x
old_to n js x (inl e) = old_bare js x (bare js) refl e
old_to n js x (inr e) = let h = some_held (is_old_held (moment js) x) n js 0 (slots js) e in old_on n js x h.0 (out js h.0) refl h.1

old_from : (n : ℕ) (js : List Event) (x : ℕ) → Known js → IsOld js x → is_old_in (view n js) x ≡ true
old_from n js x k (inl w) =
    let o = w.1.is_out in
    let v = w.1.waits in
    let h = is_xid x w.0 w.2 in
    let g = is_up_to (bare_put_at js + 60) (moment js) w.3 in
    or_first (has x (bare js) && bare_waits js && nat_le (bare_put_at js + 60) (moment js)) (any_old (moment js) x (slots_from n js 0 (slots js))) (rw (o, h, v, g) refl)
old_from n js x k (inr w) =
    let o = w.2.is_out in
    let v = w.2.waits in
    let h = is_xid x w.1 w.3 in
    let g = is_up_to (put_at js w.0 + 60) (moment js) w.4 in
    let d : is_old_held (moment js) x (held_of n js w.0 (out js w.0)) ≡ true = rw (o, h, v, g) refl in
    or_last (has x (bare js) && bare_waits js && nat_le (bare_put_at js + 60) (moment js)) (any_old (moment js) x (slots_from n js 0 (slots js))) (any_below (is_old_held (moment js) x) n js (slots js) w.0 d (k.below w.0 w.1 o))

pub old_is : (n : ℕ) (js : List Event) (x : ℕ) → Known js → (is_old_in (view n js) x ≡ true) ↔ IsOld js x
old_is n js x k = (λ e. old_to n js x (or_true (has x (bare js) && bare_waits js && nat_le (bare_put_at js + 60) (moment js)) (any_old (moment js) x (slots_from n js 0 (slots js))) e), λ h. old_from n js x k h)
