-- Callers are answered one after another.
use Rattle.std.proofs.Common.{◌≡◌, ◌≢◌, ℕ, ◌+◌, ◌-◌, ◌<◌, List, [], ◌∷◌, ◌++◌, get_or, refl, subst, ◌∙◌, arith, below_more}
use Rattle.std.proofs.lemmas.List.{get_or-set_other}
use Rattle.n41_types.specs.declared.commands.Answer.{Answer}
use Rattle.n41_journal.specs.declared.events.Event.{Event}
use Rattle.n41_journal.specs.declared.events.Event.TheVariants.{Answered}
use Rattle.n41_model.specs.declared.words.Setup.{Setup}
use Rattle.n41_answers.specs.Answers.{lists_after}
use Rattle.n41_core.specs.Books.{Book, IsNoAnswer, HasSpare, Settles, answers_with}
use Rattle.n41_core.specs.Settled.{IsDone}
use Rattle.n41_core.specs.State.{AddsAnswers}
use Rattle.n41_core.proofs.Settling.{no_answers, one_answer, more_answers, answered_self, answered_other}

pub lists_stay : (ls : List (List ℕ)) (p : ℕ) (e : Event) → IsNoAnswer e → lists_after ls p e ≡ ls
lists_stay ls p (Answered c n a) h = absurd h
lists_stay ls p e h = refl

pub settles_none : (b : Book) (c : ℕ) → HasSpare c b → IsDone b.setup.callers b.events c → Settles b b c []
settles_none b c h d = record {
  setup_is = refl;
  room = omega arith;
  spare = λ k l m. h k (omega (arith, l)) m;
  added = no_answers b.events;
  done = d;
  others = λ k i. i;
}

pub settles_answer : (b : Book) (c n : ℕ) (a : Answer) → 0 < b.room → HasSpare c b → Settles b (answers_with b c n a) c (Answered c n a ∷ [])
settles_answer b c n a l h = record {
  setup_is = refl;
  room = omega (arith, l);
  spare = λ k i m. (let o : k ≢ c = omega (arith, i) in rw (get_or-set_other b.spare c k (get_or b.spare c 0 - 1) 0 o) (h k (omega (arith, i)) m));
  added = one_answer b.events c n a;
  done = answered_self b.setup.callers b.events c n a;
  others = λ k i. answered_other b.setup.callers b.events c n a k i;
}

-- the callers before this one were answered, or go on
pub record SoFar (old now : Book) (c : ℕ) (xs : List Event) : Type 0 where
  pub setup_is : now.setup ≡ old.setup
  pub room : old.setup.callers < now.room + c
  pub spare : HasSpare c now
  pub added : AddsAnswers old.events now.events xs
  pub done : (d : ℕ) → d < c → IsDone old.setup.callers now.events d

pub none_yet : (b : Book) → b.setup.callers < b.room → HasSpare 0 b → SoFar b b 0 []
none_yet b l h = record {
  setup_is = refl;
  room = omega (arith, l);
  spare = h;
  added = no_answers b.events;
  done = λ d i. absurd (omega (arith, i));
}

pub one_more : (old now next : Book) (c : ℕ) (xs ys : List Event) → SoFar old now c xs → Settles now next c ys → SoFar old next (c + 1) (ys ++ xs)
one_more old now next c xs ys s t =
    let moved : (d : ℕ) → IsDone old.setup.callers now.events d → IsDone old.setup.callers next.events d = subst (λ (u : Setup). (d : ℕ) → IsDone u.callers now.events d → IsDone u.callers next.events d) s.setup_is t.others in
    let here : IsDone old.setup.callers next.events c = subst (λ (u : Setup). IsDone u.callers next.events c) s.setup_is t.done in
    let r = s.room in
    let q = t.room in
    record {
      setup_is = t.setup_is ∙ s.setup_is;
      room = omega (arith, r, q);
      spare = λ d l m. t.spare d (omega (arith, l)) m;
      added = more_answers old.events now.events next.events xs ys s.added t.added;
      done = below_more _ _ (λ d l. moved d (s.done d l)) here;
    }
