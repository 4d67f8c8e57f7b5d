-- The caller that is chosen among the seats is the one that the journal tells.
use Rattle.std.proofs.Common.{◌≡◌, ℕ, zero, suc, ◌+◌, Bool, true, false, List, Option, Some, None, if◌then◌else◌, refl, sym, ◌∙◌, ap, arith, add-one}
use Rattle.std.specs.Prelude.{nat_lt}
use Rattle.n41_types.specs.declared.plans.Plan.{Plan}
use Rattle.n41_journal.specs.declared.events.Event.{Event}
use Rattle.n41_model.specs.Requests.{moment}
use Rattle.n41_model.specs.Sessions.{session}
use Rattle.n41_calls.specs.Calls.{began_at, ledger, chosen, sooner}
use Rattle.n41_view.specs.View.{seat_of, seats_from}
use Rattle.n41_view.specs.Step.{wants, sooner_seat, chosen_from, caller_in}
use Rattle.n41_view.specs.declared.tables.Seat.{Seat}

-- the seat of a caller
abbrev pub seat_in : ℕ → List Event → Option ℕ → Option Seat
seat_in n js None = None
seat_in n js (Some c) = Some (seat_of n js c)

pub caller_seat : (n : ℕ) (js : List Event) (o : Option ℕ) → caller_in (seat_in n js o) ≡ o
caller_seat n js None = refl
caller_seat n js (Some c) = refl

sooner_is : (n : ℕ) (js : List Event) (o : Option ℕ) (c : ℕ) → Some (sooner_seat (seat_in n js o) (seat_of n js c)) ≡ seat_in n js (sooner js o c)
sooner_is n js None c = refl
sooner_is n js (Some d) c = at (nat_lt (began_at js c) (began_at js d)) refl where
  at : (b : Bool) → nat_lt (began_at js c) (began_at js d) ≡ b → Some (if nat_lt (began_at js c) (began_at js d) then seat_of n js c else seat_of n js d) ≡ seat_in n js (if nat_lt (began_at js c) (began_at js d) then Some c else Some d)
  at true e = rw e refl
  at false e = rw e refl

one_more : (n : ℕ) (js : List Event) (p : Plan) (c : ℕ) (b : Bool) → wants (moment js) (session js) p (seat_of n js c) ≡ b → (if wants (moment js) (session js) p (seat_of n js c) then Some (sooner_seat (seat_in n js (chosen js (ledger n js).calls p c)) (seat_of n js c)) else seat_in n js (chosen js (ledger n js).calls p c)) ≡ seat_in n js (chosen js (ledger n js).calls p (suc c))
one_more n js p c true e = rw e (sooner_is n js (chosen js (ledger n js).calls p c) c)
one_more n js p c false e = rw e refl

chosen_is : (n : ℕ) (js : List Event) (p : Plan) (i k : ℕ) → chosen_from (moment js) (session js) p (seat_in n js (chosen js (ledger n js).calls p i)) (seats_from n js i k) ≡ seat_in n js (chosen js (ledger n js).calls p (i + k))
chosen_is n js p i zero = let e : i + 0 ≡ i = omega arith in rw e refl
chosen_is n js p i (suc k) =
    let e : i + suc k ≡ (i + 1) + k = omega arith in
    let f : i + 1 ≡ suc i = add-one i in
    let a = one_more n js p i (wants (moment js) (session js) p (seat_of n js i)) refl in
    let b : seat_in n js (chosen js (ledger n js).calls p (suc i)) ≡ seat_in n js (chosen js (ledger n js).calls p (i + 1)) = ap (λ (m : ℕ). seat_in n js (chosen js (ledger n js).calls p m)) (sym f) in
    ap (λ (z : Option Seat). chosen_from (moment js) (session js) p z (seats_from n js (i + 1) k)) (a ∙ b) ∙ (chosen_is n js p (i + 1) k ∙ ap (λ (m : ℕ). seat_in n js (chosen js (ledger n js).calls p m)) (sym e))

pub chosen_all : (n : ℕ) (js : List Event) (p : Plan) → caller_in (chosen_from (moment js) (session js) p None (seats_from n js 0 n)) ≡ chosen js (ledger n js).calls p n
chosen_all n js p =
    let e : 0 + n ≡ n = omega arith in
    let h = chosen_is n js p 0 n in
    ap (λ (z : Option Seat). caller_in z) h ∙ (caller_seat n js (chosen js (ledger n js).calls p (0 + n)) ∙ ap (λ (m : ℕ). chosen js (ledger n js).calls p m) e)
