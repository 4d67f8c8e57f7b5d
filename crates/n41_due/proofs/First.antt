-- Which of the requests that are due goes first.
use Rattle.std.proofs.Common.{◌≡◌, ℕ, ◌<◌, true, false, Option, Some, None, slice_get, refl, arith}
use Rattle.std.proofs.lemmas.Bool.Decides.{nat_tests}
use Rattle.std.specs.Prelude.{is_some, nat_lt}
use Rattle.n41_types.specs.declared.plans.Request.{Request}
use Rattle.n41_model.specs.declared.words.Item.{Item}
use Rattle.n41_model.specs.declared.words.Item.TheVariants.{Again, Retry, Step, Own, Fresh, Destroy}
use Rattle.n41_model.specs.declared.words.Setup.{Setup}
use Rattle.n41_view.specs.View.{View}
use Rattle.n41_view.specs.Due.{due_item}
use Rattle.n41_due.specs.Order.{began_of, goes_before}

pub none_is : (o : Option Request) → is_some o ≡ false → o ≡ None
none_is None e = refl
none_is (Some r) e = absurd (cc)

less : (m n : ℕ) → nat_lt m n ≡ true → m < n
less m n e = grind (arith, nat_tests, e)

-- what is not due of each kind, up to the one that is found
abbrev NoAgain : View → Type 0
NoAgain w = (u : Setup) → is_some (due_item u w Again) ≡ false

abbrev NoRetry : View → Type 0
NoRetry w = (u : Setup) (k : ℕ) → due_item u w (Retry k) ≡ None

abbrev NoStep : View → Type 0
NoStep w = (u : Setup) → is_some (due_item u w Step) ≡ false

abbrev NoOwn : View → Type 0
NoOwn w = (u : Setup) → is_some (due_item u w Own) ≡ false

abbrev NoFresh : View → Type 0
NoFresh w = (u : Setup) (d : ℕ) → due_item u w (Fresh d) ≡ None

abbrev NoDestroy : View → Type 0
NoDestroy w = (u : Setup) → is_some (due_item u w Destroy) ≡ false

abbrev First : View → Item → Type 0
First w i = (u : Setup) (j : Item) → goes_before w j i ≡ true → due_item u w j ≡ None

pub first_again : (w : View) → First w Again
first_again w u Again h = absurd (cc)
first_again w u (Retry k) h = absurd (cc)
first_again w u Step h = absurd (cc)
first_again w u Own h = absurd (cc)
first_again w u (Fresh d) h = absurd (cc)
first_again w u Destroy h = absurd (cc)

pub first_retry : (w : View) (n : ℕ) → NoAgain w → ((u : Setup) (k : ℕ) → k < n → due_item u w (Retry k) ≡ None) → First w (Retry n)
first_retry w n a b u Again h = none_is (due_item u w Again) (a u)
first_retry w n a b u (Retry k) h = b u k (less k n h)
first_retry w n a b u Step h = absurd (cc)
first_retry w n a b u Own h = absurd (cc)
first_retry w n a b u (Fresh d) h = absurd (cc)
first_retry w n a b u Destroy h = absurd (cc)

pub first_step : (w : View) → NoAgain w → NoRetry w → First w Step
first_step w a b u Again h = none_is (due_item u w Again) (a u)
first_step w a b u (Retry k) h = b u k
first_step w a b u Step h = absurd (cc)
first_step w a b u Own h = absurd (cc)
first_step w a b u (Fresh d) h = absurd (cc)
first_step w a b u Destroy h = absurd (cc)

pub first_own : (w : View) → NoAgain w → NoRetry w → NoStep w → First w Own
first_own w a b d u Again h = none_is (due_item u w Again) (a u)
first_own w a b d u (Retry k) h = b u k
first_own w a b d u Step h = none_is (due_item u w Step) (d u)
first_own w a b d u Own h = absurd (cc)
first_own w a b d u (Fresh c) h = absurd (cc)
first_own w a b d u Destroy h = absurd (cc)

pub first_fresh : (w : View) (c : ℕ) → NoAgain w → NoRetry w → NoStep w → NoOwn w → ((u : Setup) (d : ℕ) → began_of (slice_get w.seats d) < began_of (slice_get w.seats c) → due_item u w (Fresh d) ≡ None) → First w (Fresh c)
first_fresh w c a b d e f u Again h = none_is (due_item u w Again) (a u)
first_fresh w c a b d e f u (Retry k) h = b u k
first_fresh w c a b d e f u Step h = none_is (due_item u w Step) (d u)
first_fresh w c a b d e f u Own h = none_is (due_item u w Own) (e u)
first_fresh w c a b d e f u (Fresh k) h = f u k (less (began_of (slice_get w.seats k)) (began_of (slice_get w.seats c)) h)
first_fresh w c a b d e f u Destroy h = absurd (cc)

pub first_destroy : (w : View) → NoAgain w → NoRetry w → NoStep w → NoOwn w → NoFresh w → First w Destroy
first_destroy w a b d e f u Again h = none_is (due_item u w Again) (a u)
first_destroy w a b d e f u (Retry k) h = b u k
first_destroy w a b d e f u Step h = none_is (due_item u w Step) (d u)
first_destroy w a b d e f u Own h = none_is (due_item u w Own) (e u)
first_destroy w a b d e f u (Fresh k) h = f u k
first_destroy w a b d e f u Destroy h = absurd (cc)

-- every kind is one of these
pub nothing_due : (w : View) → NoAgain w → NoRetry w → NoStep w → NoOwn w → NoFresh w → NoDestroy w → (u : Setup) (i : Item) → due_item u w i ≡ None
nothing_due w a b d e f g u Again = none_is (due_item u w Again) (a u)
nothing_due w a b d e f g u (Retry k) = b u k
nothing_due w a b d e f g u Step = none_is (due_item u w Step) (d u)
nothing_due w a b d e f g u Own = none_is (due_item u w Own) (e u)
nothing_due w a b d e f g u (Fresh k) = f u k
nothing_due w a b d e f g u Destroy = none_is (due_item u w Destroy) (g u)
