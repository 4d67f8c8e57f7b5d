-- The callers and slots of the tables, by their places.
use Rattle.std.proofs.Common.{◌≡◌, ℕ, zero, suc, ◌+◌, ◌<◌, ◌≤◌, Bool, true, false, List, length, Some, None, slice_get, refl, ◌∙◌, ap, arith}
use Rattle.std.proofs.lemmas.Bool.Decides.{nat_tests}
use Rattle.std.specs.Prelude.{nat_lt}
use Rattle.n41_journal.specs.declared.events.Event.{Event}
use Rattle.n41_view.specs.View.{view, slots_from, seats_from, seat_of}
use Rattle.n41_view.specs.declared.tables.Seat.{Seat}

pub slots_length : (n : ℕ) (js : List Event) (s k : ℕ) → length (slots_from n js s k) ≡ k
slots_length n js s zero = refl
slots_length n js s (suc k) = ap (λ (m : ℕ). suc m) (slots_length n js (s + 1) k)

pub seats_length : (n : ℕ) (js : List Event) (c k : ℕ) → length (seats_from n js c k) ≡ k
seats_length n js c zero = refl
seats_length n js c (suc k) = ap (λ (m : ℕ). suc m) (seats_length n js (c + 1) k)

pub seat_here : (n : ℕ) (js : List Event) (s k c : ℕ) → c < k → slice_get (seats_from n js s k) c ≡ Some (seat_of n js (s + c))
seat_here n js s zero c l = absurd (omega (arith, l))
seat_here n js s (suc k) zero l = let e : s ≡ s + 0 = omega arith in ap (λ (d : ℕ). Some (seat_of n js d)) e
seat_here n js s (suc k) (suc c) l = let e : (s + 1) + c ≡ s + suc c = omega arith in seat_here n js (s + 1) k c (omega (arith, l)) ∙ ap (λ (d : ℕ). Some (seat_of n js d)) e

pub no_seat : (n : ℕ) (js : List Event) (s k c : ℕ) → k ≤ c → slice_get (seats_from n js s k) c ≡ None
no_seat n js s zero c l = refl
no_seat n js s (suc k) zero l = absurd (omega (arith, l))
no_seat n js s (suc k) (suc c) l = no_seat n js (s + 1) k c (omega (arith, l))

-- the caller at this seat
pub record Sits (n : ℕ) (js : List Event) (c : ℕ) (s : Seat) : Type 0 where
  pub within : c < n
  pub is_seat : s ≡ seat_of n js c

pub sits : (n : ℕ) (js : List Event) (c : ℕ) (s : Seat) → Some s ≡ slice_get (view n js).seats c → Sits n js c s
sits n js c s h = at_test (nat_lt c n) refl where
  at_test : (b : Bool) → nat_lt c n ≡ b → Sits n js c s
  at_test true t =
      let l : c < n = grind (arith, nat_tests, t) in
      let e : Some s ≡ Some (seat_of n js c) = h ∙ seat_here n js 0 n c l ∙ (let z : 0 + c ≡ c = omega arith in ap (λ (d : ℕ). Some (seat_of n js d)) z) in
      record { within = l; is_seat = cc }
  at_test false t =
      let l : n ≤ c = grind (arith, nat_tests, t) in
      let e : Some s ≡ None = h ∙ no_seat n js 0 n c l in
      absurd (cc)

pub absent : (n : ℕ) (js : List Event) (c : ℕ) → None ≡ slice_get (view n js).seats c → n ≤ c
absent n js c h = at_test (nat_lt c n) refl where
  at_test : (b : Bool) → nat_lt c n ≡ b → n ≤ c
  at_test true t =
      let l : c < n = grind (arith, nat_tests, t) in
      let e : None ≡ Some (seat_of n js (0 + c)) = h ∙ seat_here n js 0 n c l in
      absurd (cc)
  at_test false t = grind (arith, nat_tests, t)
