-- A request that goes as it should, and what stays of an orderly journal.
use Rattle.std.proofs.Common.{◌≡◌, ◌≢◌, ◌⊎◌, inl, inr, ℕ, suc, ◌+◌, ◌≤◌, ◌==◌, Bool, true, false, ◌&&◌, not, List, [], ◌∷◌, length, Option, Some, None, refl, sym, ◌∙◌, ap, subst, arith, add-one, true≢false}
use Rattle.std.proofs.lemmas.Bool.Decides.{Decides-eqb, nat_tests}
use Rattle.std.specs.Bool.{Decides}
use Rattle.std.specs.Prelude.{is_some, option_to_list, unwrap_or}
use Rattle.n41_types.specs.declared.plans.Request.{Request}
use Rattle.n41_types.specs.declared.plans.SlotUse.{SlotUse}
use Rattle.n41_journal.specs.declared.events.Event.{Event}
use Rattle.n41_journal.specs.declared.events.Event.TheVariants.{Began, Put, Took, CbTook, CbPut, Dialed, DialFailed, Broke, Ticked, Answered, Quit}
use Rattle.n41_calls.specs.OneOut.{IsOrderly, IsOrderlyBare, IsOrderlyOn, OneOut, Orderly}
use Rattle.n41_model.specs.Requests.{bare_waits, bares, has_xid, is_use_of, is_waiting, joined, knows, out, outs, sent, used, without}
use Rattle.n41_model.specs.declared.words.Sent.{Sent}
use Rattle.n41_model.specs.declared.words.Sent.TheVariants.{Never, Waits, Delayed, Unbound}
use Rattle.n41_check.specs.Rows.{has}
use Rattle.n41_check.proofs.Rows.{IsLone, lone_length, put_lone, took_lone}
use Rattle.n41_legal.proofs.Deciding.{and, both, is_not, to_not}

-- ---- on a slot

not_waits : (s : Sent) → is_waiting s ≡ false → s ≢ Waits
not_waits s e f = let g : is_waiting s ≡ true = ap is_waiting f in absurd (true≢false (sym g ∙ e))

waits_not : (s : Sent) → s ≢ Waits → is_waiting s ≡ false
waits_not Waits f = absurd (f refl)
waits_not Never f = refl
waits_not (Delayed m) f = refl
waits_not Unbound f = refl

one_is : (p q : Request) → p ∷ [] ≡ q ∷ [] → p ≡ q
one_is p q e = cc

-- what goes on a slot that has a request out
pub on_busy : (js : List Event) (u : SlotUse) (r q : Request) (a w : Bool) → outs js u.slot ≡ q ∷ [] → Decides a (r ≡ q) → w ≡ is_waiting (sent js u.slot) → Decides (a && not w) (IsOrderlyOn js u r)
on_busy js u r q a w e d f = (
  λ h. (let p = both a (not w) h in
      record {
        same = λ x g. (d.0 p.0 ∙ one_is q x (sym e ∙ g), not_waits (sent js u.slot) (sym f ∙ is_not w p.1));
        next = λ g. (let z : q ∷ [] ≡ [] = sym e ∙ g in absurd (cc));
      }),
  λ m. (let k = m.same q e in and a (not w) (d.1 k.0) (to_not w (f ∙ waits_not (sent js u.slot) k.1))),
)

-- what goes on one that has none
pub on_free : (js : List Event) (u : SlotUse) (r : Request) (x : ℕ) → outs js u.slot ≡ [] → x ≡ used js u.slot → Decides (u.turn == x + 1) (IsOrderlyOn js u r)
on_free js u r x e f = (
  λ h. record {
    same = λ q g. (let z : [] ≡ q ∷ [] = sym e ∙ g in absurd (cc));
    next = λ g. (Decides-eqb u.turn (x + 1)).0 h ∙ (add-one x ∙ ap suc f);
  },
  λ m. (Decides-eqb u.turn (x + 1)).1 (m.next e ∙ (ap suc (sym f) ∙ sym (add-one x))),
)

-- ---- without a slot

pub bare_busy : (js : List Event) (r q : Request) (a w : Bool) → bares js ≡ q ∷ [] → Decides a (r ≡ q) → w ≡ bare_waits js → Decides (a && not w) (IsOrderlyBare js r)
bare_busy js r q a w e d f = (
  λ h. (let p = both a (not w) h in record { same = λ x g. (d.0 p.0 ∙ one_is q x (sym e ∙ g), sym f ∙ is_not w p.1) }),
  λ m. (let k = m.same q e in and a (not w) (d.1 k.0) (to_not w (f ∙ k.1))),
)

pub bare_free : (js : List Event) (r : Request) → bares js ≡ [] → Decides true (IsOrderlyBare js r)
bare_free js r e = (λ h. record { same = λ q g. (let z : [] ≡ q ∷ [] = sym e ∙ g in absurd (cc)) }, λ m. refl)

-- the request without a slot that is out, after a Put of one
joined_bare : (js : List Event) (r : Request) (o : Option Request) → IsOrderlyBare js r → bares js ≡ option_to_list o → joined (bares js) r ≡ option_to_list (Some (unwrap_or o r))
joined_bare js r None m e = ap (λ (rs : List Request). joined rs r) e
joined_bare js r (Some q) m e =
    let f : r ≡ q = (m.same q e).0 in
    let g : knows (q ∷ []) r.xid ≡ true = subst (λ (x : Request). knows (x ∷ []) r.xid ≡ true) f (grind (arith, nat_tests)) in
    ap (λ (rs : List Request). joined rs r) e ∙ rw g refl

bare_at : (js : List Event) (c p : ℕ) (r : Request) (u : Option SlotUse) (o : Option Request) → r.slot ≡ u → u ≡ None → IsOrderly js u r → bares js ≡ option_to_list o → bares (Put c p r ∷ js) ≡ option_to_list (Some (unwrap_or o r))
bare_at js c p r None o e f m g =
    let a : bares (Put c p r ∷ js) ≡ joined (bares js) r = rw e refl in
    a ∙ joined_bare js r o m g
bare_at js c p r (Some u) o e f m g = absurd (cc)

pub bare_put : (js : List Event) (c p : ℕ) (r : Request) (o : Option Request) → r.slot ≡ None → Orderly (Put c p r ∷ js) → bares js ≡ option_to_list o → bares (Put c p r ∷ js) ≡ option_to_list (Some (unwrap_or o r))
bare_put js c p r o e m g = bare_at js c p r r.slot o refl e m.1 g

slotted_at : (js : List Event) (c p : ℕ) (r : Request) (u : Option SlotUse) → r.slot ≡ u → is_some u ≡ true → bares (Put c p r ∷ js) ≡ bares js
slotted_at js c p r None e f = absurd (true≢false (sym f))
slotted_at js c p r (Some u) e f = rw e refl

pub slotted_put : (js : List Event) (c p : ℕ) (r : Request) → is_some r.slot ≡ true → bares (Put c p r ∷ js) ≡ bares js
slotted_put js c p r e = slotted_at js c p r r.slot refl e

-- ---- an orderly journal has one request out on each slot

room_on : (js : List Event) (c p : ℕ) (r : Request) (s : ℕ) (o : Option Request) (u : SlotUse) → r.slot ≡ Some u → u.slot ≡ s → outs js s ≡ option_to_list o → IsOrderlyOn js u r → (o ≡ None) ⊎ (has r.xid o ≡ true)
room_on js c p r s None u e f g m = inl refl
room_on js c p r s (Some q) u e f g m =
    let h : r ≡ q = (m.same q (ap (λ (t : ℕ). outs js t) f ∙ g)).0 in
    inr (subst (λ (x : Request). has r.xid (Some x) ≡ true) h (grind (arith, nat_tests)))

room_at : (js : List Event) (c p : ℕ) (r : Request) (s : ℕ) (v : Option SlotUse) → r.slot ≡ v → IsLone js s → IsOrderly js v r → is_use_of v s ≡ true → (out js s ≡ None) ⊎ (has r.xid (out js s) ≡ true)
room_at js c p r s None e l m h = absurd (true≢false (sym h))
room_at js c p r s (Some u) e l m h = room_on js c p r s (out js s) u e ((Decides-eqb u.slot s).0 h) l m

pub orderly_put : (js : List Event) (c p : ℕ) (r : Request) → ((s : ℕ) → IsLone js s) → IsOrderly js r.slot r → (s : ℕ) → IsLone (Put c p r ∷ js) s
orderly_put js c p r l m s = put_lone js c p r s (l s) (λ h. room_at js c p r s r.slot refl (l s) m h)

pub lone_next : (js : List Event) (e : Event) → Orderly (e ∷ js) → ((s : ℕ) → IsLone js s) → (s : ℕ) → IsLone (e ∷ js) s
lone_next js (Put c p r) o l s = orderly_put js c p r l o.1 s
lone_next js (Took c p y) o l s = took_lone js c p y s (l s)
lone_next js (Began c n k m) o l s = l s
lone_next js (CbTook c p x) o l s = l s
lone_next js (CbPut c p x) o l s = l s
lone_next js (Dialed c) o l s = l s
lone_next js DialFailed o l s = l s
lone_next js (Broke c w) o l s = l s
lone_next js (Ticked m) o l s = l s
lone_next js (Answered c n a) o l s = l s
lone_next js Quit o l s = l s

-- the journal before the last event
pub tail_orderly : (js : List Event) (e : Event) → Orderly (e ∷ js) → Orderly js
tail_orderly js (Put c p r) o = o.0
tail_orderly js (Took c p y) o = o
tail_orderly js (Began c n k m) o = o
tail_orderly js (CbTook c p x) o = o
tail_orderly js (CbPut c p x) o = o
tail_orderly js (Dialed c) o = o
tail_orderly js DialFailed o = o
tail_orderly js (Broke c w) o = o
tail_orderly js (Ticked m) o = o
tail_orderly js (Answered c n a) o = o
tail_orderly js Quit o = o

pub other_orderly : (js : List Event) (e : Event) → ((c p : ℕ) (r : Request) → e ≢ Put c p r) → Orderly js → Orderly (e ∷ js)
other_orderly js (Put c p r) f o = absurd (f c p r refl)
other_orderly js (Took c p y) f o = o
other_orderly js (Began c n k m) f o = o
other_orderly js (CbTook c p x) f o = o
other_orderly js (CbPut c p x) f o = o
other_orderly js (Dialed c) f o = o
other_orderly js DialFailed f o = o
other_orderly js (Broke c w) f o = o
other_orderly js (Ticked m) f o = o
other_orderly js (Answered c n a) f o = o
other_orderly js Quit f o = o

pub all_lone : (js : List Event) → Orderly js → (s : ℕ) → IsLone js s
all_lone [] o s = refl
all_lone (e ∷ js) o s = lone_next js e o (all_lone js (tail_orderly js e o)) s

-- ---- an orderly journal has one request out

some_length : (o : Option Request) (rs : List Request) → rs ≡ option_to_list o → length rs ≤ 1
some_length None rs e = rw e (omega arith)
some_length (Some r) rs e = rw e (omega arith)

-- at most one of these
pub record OneOf (rs : List Request) : Type 0 where
  pub member : Option Request
  pub is_member : rs ≡ option_to_list member

without_one : (o : Option Request) (x : ℕ) → OneOf (without (option_to_list o) x)
without_one None x = record { member = None; is_member = refl }
without_one (Some r) x = at_test (has_xid x r) refl where
  at_test : (b : Bool) → has_xid x r ≡ b → OneOf (without (r ∷ []) x)
  at_test true e = record { member = None; is_member = rw e refl }
  at_test false e = record { member = Some r; is_member = rw e refl }

bare_next : (js : List Event) (c p : ℕ) (r : Request) (u : Option SlotUse) → r.slot ≡ u → Orderly (Put c p r ∷ js) → OneOf (bares js) → OneOf (bares (Put c p r ∷ js))
bare_next js c p r None e o m = record { member = Some (unwrap_or m.member r); is_member = bare_put js c p r m.member e o m.is_member }
bare_next js c p r (Some u) e o m = record { member = m.member; is_member = slotted_put js c p r (ap is_some e) ∙ m.is_member }

all_bare : (js : List Event) → Orderly js → OneOf (bares js)
all_bare [] o = record { member = None; is_member = refl }
all_bare (Put c p r ∷ js) o = bare_next js c p r r.slot refl o (all_bare js o.0)
all_bare (Took c p y ∷ js) o = let m = all_bare js o in subst (λ (rs : List Request). OneOf (without rs y.xid)) (sym m.is_member) (without_one m.member y.xid)
all_bare (Began c n k m ∷ js) o = all_bare js o
all_bare (CbTook c p x ∷ js) o = all_bare js o
all_bare (CbPut c p x ∷ js) o = all_bare js o
all_bare (Dialed c ∷ js) o = all_bare js o
all_bare (DialFailed ∷ js) o = all_bare js o
all_bare (Broke c w ∷ js) o = all_bare js o
all_bare (Ticked m ∷ js) o = all_bare js o
all_bare (Answered c n a ∷ js) o = all_bare js o
all_bare (Quit ∷ js) o = all_bare js o

pub one_out : (js : List Event) → Orderly js → OneOut js
one_out js o = record {
  slots = λ s. lone_length (out js s) (outs js s) (all_lone js o s);
  without_slot = (let m = all_bare js o in some_length m.member (bares js) m.is_member);
  orderly = o;
}

-- whether a Put leaves the journal orderly
pub put_decides : (js : List Event) (c p : ℕ) (r : Request) (b : Bool) → Orderly js → Decides b (IsOrderly js r.slot r) → Decides b (Orderly (Put c p r ∷ js))
put_decides js c p r b o d = (λ h. (o, d.0 h), λ m. d.1 m.1)
