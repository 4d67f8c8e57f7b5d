-- The request that goes first is there, as its kind is due.
use Rattle.std.proofs.Common.{◌≡◌, true, Option, Some, None, Result, Ok, Err, sym}
use Rattle.std.specs.Prelude.{IsSome, IfSome, IfNone, IfOk}
use Rattle.n41_types.specs.declared.plans.Request.{Request}
use Rattle.n41_model.specs.declared.words.Item.{Item}
use Rattle.n41_model.specs.declared.words.Setup.{Setup}
use Rattle.n41_view.specs.View.{View}
use Rattle.n41_view.specs.Due.{due_in}
use Rattle.n41_due.specs.Order.{goes_before, IsNext}

pub next_some : {E : Type 0} (u : Setup) (w : View) (i : Item) (r : Result (Option Request) E) → IfOk r (λ o. o ≡ due_in u w i) → ((j : Item) → goes_before w j i ≡ true → due_in u w j ≡ None) → IfOk r (λ o. IfSome o (λ q. (j : Item) × IsNext u w q j))
next_some u w i (Ok None) h f = tt
next_some u w i (Ok (Some q)) h f = (i, record { due = sym h; first = f })
next_some u w i (Err e) h f = tt

clash : (o : Option Request) → IsSome o → None ≡ o → ⊥
clash None p q = cc
clash (Some r) p q = cc

pub next_none : {E : Type 0} (u : Setup) (w : View) (i : Item) (r : Result (Option Request) E) → IfOk r (λ o. o ≡ due_in u w i) → IsSome (due_in u w i) → IfOk r (λ o. IfNone o ((j : Item) → due_in u w j ≡ None))
next_none u w i (Ok None) h s = absurd (clash (due_in u w i) s h)
next_none u w i (Ok (Some q)) h s = tt
next_none u w i (Err e) h s = tt
