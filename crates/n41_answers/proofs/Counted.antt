-- A kept journal counts the answers of a caller, and has each where its number says.
use Rattle.std.proofs.Common.{◌≡◌, ◌==◌, ◌+◌, ℕ, suc, Bool, true, false, List, [], ◌∷◌, length, Option, Some, None, refl, ap, sym, ◌∙◌, arith}
use Rattle.std.specs.Prelude.{IsSome}
use Rattle.std.proofs.lemmas.Bool.Decides.{nat_tests}
use Rattle.n41_types.specs.declared.commands.Answer.{Answer}
use Rattle.n41_types.specs.declared.commands.Command.{Command}
use Rattle.n41_journal.specs.declared.events.Event.{Event}
use Rattle.n41_journal.specs.declared.events.Event.TheVariants.{Began, Answered}
use Rattle.n41_model.specs.declared.words.Setup.{Setup}
use Rattle.n41_calls.specs.Calls.{command, number}
use Rattle.n41_calls.specs.Kept.{Kept, May, MayBegin, MayAnswer}
use Rattle.n41_answers.specs.Answers.{places, begun, down_from}

-- a command that is unanswered, as a number
abbrev pub owed : Option Command → ℕ
owed None = 0
owed (Some k) = 1

pub record Counted (js : List Event) (c : ℕ) : Type 0 where
  pub count : length (places js c) + owed (command js c) ≡ number js c
  pub in_order : begun js c ≡ down_from (number js c)

one_owed : (o : Option Command) → IsSome o → owed o ≡ 1
one_owed None h = absurd (cc)
one_owed (Some k) h = refl

began_counted : (u : Setup) (js : List Event) (d n m c : ℕ) (k : Command) → MayBegin u js d n k m → Counted js c → Counted (Began d n k m ∷ js) c
began_counted u js d n m c k h s = at_test (d == c) refl where
  at_test : (b : Bool) → (d == c) ≡ b → Counted (Began d n k m ∷ js) c
  at_test true t =
      let e : d ≡ c = grind (arith, nat_tests, t) in
      let i : command js c ≡ None = ap (command js) (sym e) ∙ h.idle in
      let f : n ≡ suc (number js c) = h.number_is ∙ ap (λ (x : ℕ). suc (number js x)) e in
      let g : length (places js c) + 0 ≡ number js c = rw i at s.count in
      record { count = rw t (omega (arith, f, g)); in_order = rw (t, f, s.in_order) refl }
  at_test false t = record { count = rw t s.count; in_order = rw t s.in_order }

answered_counted : (u : Setup) (js : List Event) (d n c : ℕ) (a : Answer) → MayAnswer u js d n a → Counted js c → Counted (Answered d n a ∷ js) c
answered_counted u js d n c a h s = at_test (d == c) refl where
  at_test : (b : Bool) → (d == c) ≡ b → Counted (Answered d n a ∷ js) c
  at_test true t =
      let e : d ≡ c = grind (arith, nat_tests, t) in
      let o : owed (command js c) ≡ 1 = ap (λ (x : ℕ). owed (command js x)) (sym e) ∙ one_owed (command js d) h.asked in
      record { count = rw t (let k = s.count in omega (arith, o, k)); in_order = s.in_order }
  at_test false t = record { count = rw t s.count; in_order = s.in_order }

step_counted : (u : Setup) (js : List Event) (e : Event) (c : ℕ) → May u js e → Counted js c → Counted (e ∷ js) c
step_counted u js (Began d n k m) c h s = began_counted u js d n m c k h s
step_counted u js (Answered d n a) c h s = answered_counted u js d n c a h s
step_counted u js e c h s = record { count = s.count; in_order = s.in_order }

pub counted : (u : Setup) (js : List Event) (c : ℕ) → Kept u js → Counted js c
counted u [] c k = record { count = refl; in_order = refl }
counted u (e ∷ js) c k = step_counted u js e c k.1 (counted u js c k.0)

-- an answer is to the command that is one more than those answered before
pub next_answer : (u : Setup) (js : List Event) (d n c : ℕ) (a : Answer) → MayAnswer u js d n a → Counted js c → d ≡ c → n ≡ suc (length (places js c))
next_answer u js d n c a h s e =
    let o : owed (command js c) ≡ 1 = ap (λ (x : ℕ). owed (command js x)) (sym e) ∙ one_owed (command js d) h.asked in
    let f : n ≡ number js c = h.number_is ∙ ap (number js) e in
    let k = s.count in
    omega (arith, o, f, k)
