-- No two things are wanted at once.
use Rattle.std.proofs.Common.{◌≡◌, ◌⊎◌, ℕ, Bool, true, false, inl, inr, Option, Some, None, refl}
use Rattle.std.specs.Prelude.{IsSome}
use Rattle.n41_types.specs.declared.plans.Request.{Request}
use Rattle.n41_model.specs.declared.words.Setup.{Setup}
use Rattle.n41_view.specs.View.{View}
use Rattle.n41_view.specs.Due.{due_in, has_ended_in}
use Rattle.n41_wants.specs.declared.wants.Want.{Want}
use Rattle.n41_wants.specs.declared.wants.Want.TheVariants.{Dial, Send, Read, Pause, Nothing}
use Rattle.n41_wants.specs.Wants.{WantIn, RunsOn, awaits_in, wait_in}

clash : (b : Bool) → b ≡ true → b ≡ false → ⊥
clash b p q = cc

apart : (o : Option ℕ) (c : ℕ) → o ≡ None → o ≡ Some c → ⊥
apart o c p q = cc

same : (o : Option ℕ) (c d : ℕ) → o ≡ Some c → o ≡ Some d → c ≡ d
same o c d p q = cc

empty : (o : Option Request) → o ≡ None → IsSome o → ⊥
empty None p q = cc
empty (Some r) p q = cc

on_one : (w : View) (c d : ℕ) → RunsOn w c → RunsOn w d → c ≡ d
on_one w c d p q = same w.facts.standing c d p.stands q.stands

waits_or_not : (w : View) (m : ℕ) → (awaits_in w ≡ true) ⊎ (wait_in w ≡ None) → awaits_in w ≡ false → wait_in w ≡ Some m → ⊥
waits_or_not w m (inl e) q r = clash (awaits_in w) e q
waits_or_not w m (inr e) q r = apart (wait_in w) m e r

pub one_want : (u : Setup) (w : View) (a b : Want) → WantIn u w a → WantIn u w b → a ≡ b
one_want u w Dial Dial p q = refl
one_want u w Dial (Send d) p q = absurd (apart w.facts.standing d p.1 q.0.stands)
one_want u w Dial (Read d) p q = absurd (apart w.facts.standing d p.1 q.runs.stands)
one_want u w Dial (Pause n) p q = absurd (apart w.facts.standing q.0 p.1 q.1.runs.stands)
one_want u w Dial Nothing p q = absurd (clash (has_ended_in w) q p.0)
one_want u w (Send c) Dial p q = absurd (apart w.facts.standing c q.1 p.0.stands)
one_want u w (Send c) (Send d) p q = let e = on_one w c d p.0 q.0 in cc
one_want u w (Send c) (Read d) p q = absurd (empty (due_in u w p.1.0) (q.idle p.1.0) p.1.1)
one_want u w (Send c) (Pause n) p q = absurd (empty (due_in u w p.1.0) (q.1.idle p.1.0) p.1.1)
one_want u w (Send c) Nothing p q = absurd (clash (has_ended_in w) q p.0.goes_on)
one_want u w (Read c) Dial p q = absurd (apart w.facts.standing c q.1 p.runs.stands)
one_want u w (Read c) (Send d) p q = absurd (empty (due_in u w q.1.0) (p.idle q.1.0) q.1.1)
one_want u w (Read c) (Read d) p q = let e = on_one w c d p.runs q.runs in cc
one_want u w (Read c) (Pause n) p q = absurd (waits_or_not w n p.waits q.1.quiet q.1.waits)
one_want u w (Read c) Nothing p q = absurd (clash (has_ended_in w) q p.runs.goes_on)
one_want u w (Pause m) Dial p q = absurd (apart w.facts.standing p.0 q.1 p.1.runs.stands)
one_want u w (Pause m) (Send d) p q = absurd (empty (due_in u w q.1.0) (p.1.idle q.1.0) q.1.1)
one_want u w (Pause m) (Read d) p q = absurd (waits_or_not w m q.waits p.1.quiet p.1.waits)
one_want u w (Pause m) (Pause n) p q = let e = same (wait_in w) m n p.1.waits q.1.waits in cc
one_want u w (Pause m) Nothing p q = absurd (clash (has_ended_in w) q p.1.runs.goes_on)
one_want u w Nothing Dial p q = absurd (clash (has_ended_in w) p q.0)
one_want u w Nothing (Send d) p q = absurd (clash (has_ended_in w) p q.0.goes_on)
one_want u w Nothing (Read d) p q = absurd (clash (has_ended_in w) p q.runs.goes_on)
one_want u w Nothing (Pause n) p q = absurd (clash (has_ended_in w) p q.1.runs.goes_on)
one_want u w Nothing Nothing p q = refl
