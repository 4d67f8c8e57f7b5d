-- What each event leaves of commands that wait.
use Rattle.std.proofs.Common.{◌≡◌, ◌⊎◌, inl, inr, ℕ, ◌==◌, Bool, true, false, List, [], ◌∷◌, ◌++◌, Option, Some, None, if◌then◌else◌, refl, sym, ◌∙◌, ap, arith, append_assoc}
use Rattle.std.proofs.lemmas.Bool.Decides.{nat_tests}
use Rattle.n41_types.specs.declared.commands.Answer.{Answer}
use Rattle.n41_types.specs.declared.commands.Answer.TheVariants.{Breach}
use Rattle.n41_types.specs.declared.commands.Command.{Command}
use Rattle.n41_types.specs.declared.plans.Request.{Request}
use Rattle.n41_journal.specs.declared.events.Cause.{Cause}
use Rattle.n41_journal.specs.declared.events.Event.{Event}
use Rattle.n41_journal.specs.declared.events.Event.TheVariants.{Began, Put, Dialed, DialFailed, Broke, Answered, Quit}
use Rattle.n41_model.specs.Requests.{slot_number}
use Rattle.n41_model.specs.Sessions.{phase}
use Rattle.n41_calls.specs.Calls.{Call, Ledger, ledger, call, command, put_call, fresh_call, way_of, is_caller, is_new, in_running, chosen}
use Rattle.n41_calls.specs.Answers.{breach_at}
use Rattle.n41_core.specs.Settled.{Waits, IsSettled, IsDone, IsDecided}
use Rattle.n41_core.specs.State.{OnlyAnswers, AddsAnswers}

-- ---- answers behind events

pub no_answers : (js : List Event) → AddsAnswers js js []
no_answers js = record { only = tt; later_is = refl }

pub one_answer : (js : List Event) (c n : ℕ) (a : Answer) → AddsAnswers js (Answered c n a ∷ js) (Answered c n a ∷ [])
one_answer js c n a = record { only = tt; later_is = refl }

only_both : (xs ys : List Event) → OnlyAnswers ys → OnlyAnswers xs → OnlyAnswers (ys ++ xs)
only_both xs [] g h = h
only_both xs (Answered c n a ∷ ys) g h = only_both xs ys g h
only_both xs (e ∷ ys) g h = absurd g

pub more_answers : (js ks ls xs ys : List Event) → AddsAnswers js ks xs → AddsAnswers ks ls ys → AddsAnswers js ls (ys ++ xs)
more_answers js ks ls xs ys g h = record {
  only = only_both xs ys h.only g.only;
  later_is = h.later_is ∙ ap (λ (zs : List Event). ys ++ zs) g.later_is ∙ sym (append_assoc ys xs js);
}

-- ---- an answer

none_either : (b : Bool) (o : Option Command) → o ≡ None → (if b then None else o) ≡ None
none_either true o e = refl
none_either false o e = e

pub answered_self : (n : ℕ) (js : List Event) (c k : ℕ) (a : Answer) → IsDone n (Answered c k a ∷ js) c
answered_self n js c k a = let t : (c == c) ≡ true = grind (arith, nat_tests) in inl (rw t refl)

pub answered_other : (n : ℕ) (js : List Event) (c k : ℕ) (a : Answer) (d : ℕ) → IsDone n js d → IsDone n (Answered c k a ∷ js) d
answered_other n js c k a d (inl e) = inl (none_either (c == d) (command js d) e)
answered_other n js c k a d (inr g) = at_test (c == d) refl where
  at_test : (b : Bool) → (c == d) ≡ b → IsDone n (Answered c k a ∷ js) d
  at_test true t = inl (rw t refl)
  at_test false t = inr (record { waits = record { unearned = rw t g.waits.unearned; unbroken = g.waits.unbroken }; ungiven = rw t g.ungiven; reached = g.reached })

-- ---- other events

-- the same is known of the caller's command after other events
waits_as : (n : ℕ) (js ks : List Event) (c : ℕ) → command ks c ≡ command js c → (call n ks c).earned ≡ (call n js c).earned → breach_at ks ≡ breach_at js → (command js c ≡ None) ⊎ Waits n js c → (command ks c ≡ None) ⊎ Waits n ks c
waits_as n js ks c e f g (inl h) = inl (e ∙ h)
waits_as n js ks c e f g (inr w) = inr (record { unearned = f ∙ w.unearned; unbroken = g ∙ w.unbroken })

pub settled_dialed : (n : ℕ) (js : List Event) (c : ℕ) → IsSettled n js → IsSettled n (Dialed c ∷ js)
settled_dialed n js c h = λ d l. waits_as n js (Dialed c ∷ js) d refl refl refl (h d l)

pub settled_unmade : (n : ℕ) (js : List Event) → IsSettled n js → IsSettled n (DialFailed ∷ js)
settled_unmade n js h = λ d l. waits_as n js (DialFailed ∷ js) d refl refl refl (h d l)

pub settled_broke : (n : ℕ) (js : List Event) (c : ℕ) (w : Cause) → IsSettled n js → IsSettled n (Broke c w ∷ js)
settled_broke n js c w h = λ d l. waits_as n js (Broke c w ∷ js) d refl refl refl (h d l)

pub settled_quit : (n : ℕ) (js : List Event) → IsSettled n js → IsSettled n (Quit ∷ js)
settled_quit n js h = λ d l. waits_as n js (Quit ∷ js) d refl refl refl (h d l)

earned_either : (b : Bool) (x y : Call) → x.earned ≡ y.earned → (if b then x else y).earned ≡ y.earned
earned_either true x y e = e
earned_either false x y e = refl

ledger_either : (b : Bool) (l m : Ledger) (c : ℕ) → (l.calls c).earned ≡ (m.calls c).earned → ((if b then l else m).calls c).earned ≡ (m.calls c).earned
ledger_either true l m c e = e
ledger_either false l m c e = refl

put_earned : (n : ℕ) (js : List Event) (c p : ℕ) (r : Request) (d : ℕ) → (call n (Put c p r ∷ js) d).earned ≡ (call n js d).earned
put_earned n js c p r d =
    ledger_either (is_new js r (slot_number r.slot)) _ (ledger n js) d
    (earned_either (is_caller (in_running (phase js) (chosen js (ledger n js).calls r.plan n)) d) (put_call ((ledger n js).calls d)) ((ledger n js).calls d) refl)

pub settled_put : (n : ℕ) (js : List Event) (c p : ℕ) (r : Request) → IsSettled n js → IsSettled n (Put c p r ∷ js)
settled_put n js c p r h = λ d l. waits_as n js (Put c p r ∷ js) d refl (put_earned n js c p r d) refl (h d l)

-- ---- a command

pub settled_decided : (n : ℕ) (js : List Event) → IsDecided n js → IsSettled n js
settled_decided n js h = λ d l. at_caller d (h d l) where
  at_caller : (d : ℕ) → IsDone n js d → (command js d ≡ None) ⊎ Waits n js d
  at_caller d (inl e) = inl e
  at_caller d (inr g) = inr g.waits

began_waits : (b : Bool) (o : Option Command) (k : Command) (x : Call) → (o ≡ None) ⊎ (x.earned ≡ None) → ((if b then Some k else o) ≡ None) ⊎ ((if b then fresh_call (way_of k) else x).earned ≡ None)
began_waits true o k x h = inr refl
began_waits false o k x h = h

-- a command began, where no reply broke the rules
pub settled_began : (n : ℕ) (js : List Event) (c i : ℕ) (k : Command) (m : ℕ) → breach_at js ≡ None → IsSettled n js → IsSettled n (Began c i k m ∷ js)
settled_began n js c i k m b h = λ d l. after d (began_waits (c == d) (command js d) k ((ledger n js).calls d) (before d (h d l))) where
  before : (d : ℕ) → (command js d ≡ None) ⊎ Waits n js d → (command js d ≡ None) ⊎ ((call n js d).earned ≡ None)
  before d (inl e) = inl e
  before d (inr w) = inr w.unearned

  after : (d : ℕ) → (command (Began c i k m ∷ js) d ≡ None) ⊎ ((call n (Began c i k m ∷ js) d).earned ≡ None) → (command (Began c i k m ∷ js) d ≡ None) ⊎ Waits n (Began c i k m ∷ js) d
  after d (inl e) = inl e
  after d (inr e) = inr (record { unearned = e; unbroken = b })

idle_either : (b : Bool) (o : Option Command) (k : Command) → o ≡ None → (if b then None else if b then Some k else o) ≡ None
idle_either true o k e = refl
idle_either false o k e = e

-- a command began after that, and was answered
pub settled_met : (n : ℕ) (js : List Event) (c i : ℕ) (k : Command) (m p j : ℕ) → breach_at js ≡ Some p → IsSettled n js → IsSettled n (Answered c j (Breach p) ∷ Began c i k m ∷ js)
settled_met n js c i k m p j b h = λ d l. inl (idle_either (c == d) (command js d) k (before d (h d l))) where
  before : (d : ℕ) → (command js d ≡ None) ⊎ Waits n js d → command js d ≡ None
  before d (inl e) = e
  before d (inr w) = absurd (let e : Some p ≡ None = sym b ∙ w.unbroken in cc)
