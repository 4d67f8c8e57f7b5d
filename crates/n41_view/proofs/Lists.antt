-- Lists of at most one request are what their first request tells.
use Rattle.std.proofs.Common.{◌≡◌, ℕ, Bool, true, false, List, [], ◌∷◌, Some, None, if◌then◌else◌, refl, sym, ◌∙◌, arith}
use Rattle.std.specs.Prelude.{is_none}
use Rattle.n41_types.specs.declared.plans.Request.{Request}
use Rattle.n41_model.specs.Requests.{has_xid, knows, without, joined, first, is_on, is_bare}
use Rattle.n41_model.specs.Sessions.{is_empty}
use Rattle.n41_calls.proofs.Slots.{Seat as OneOn, Lone as OneBare}
use Rattle.n41_view.specs.Step.{has, alone}

-- at most one request
abbrev pub One : List Request → Type 0
One [] = Unit {0}
One (r ∷ []) = Unit {0}
One (r ∷ q ∷ rs) = ⊥

pub one_on : (n : ℕ) (rs : List Request) → OneOn n rs → One rs
one_on n [] s = tt
one_on n (r ∷ []) s = tt
one_on n (r ∷ q ∷ rs) s = absurd s

pub one_bare : (rs : List Request) → OneBare rs → One rs
one_bare [] s = tt
one_bare (r ∷ []) s = tt
one_bare (r ∷ q ∷ rs) s = absurd s

pub knows_is : (rs : List Request) (x : ℕ) → One rs → knows rs x ≡ has x (first rs)
knows_is [] x s = refl
knows_is (r ∷ []) x s = at (has_xid x r) refl where
  at : (b : Bool) → has_xid x r ≡ b → knows (r ∷ []) x ≡ has_xid x r
  at true e = rw e refl
  at false e = rw e refl
knows_is (r ∷ q ∷ rs) x s = absurd s

pub without_is : (rs : List Request) (x : ℕ) → One rs → first (without rs x) ≡ (if has x (first rs) then None else first rs)
without_is [] x s = refl
without_is (r ∷ []) x s = at (has_xid x r) refl where
  at : (b : Bool) → has_xid x r ≡ b → first (without (r ∷ []) x) ≡ (if has_xid x r then None else Some r)
  at true e = rw e refl
  at false e = rw e refl
without_is (r ∷ q ∷ rs) x s = absurd s

pub joined_is : (rs : List Request) (r : Request) → One rs → first (joined rs r) ≡ (if has r.xid (first rs) then first rs else Some r)
joined_is rs r s = at (knows rs r.xid) refl where
  at : (b : Bool) → knows rs r.xid ≡ b → first (joined rs r) ≡ (if has r.xid (first rs) then first rs else Some r)
  at true e = rw (e, (sym (knows_is rs r.xid s) ∙ e)) refl
  at false e = rw (e, (sym (knows_is rs r.xid s) ∙ e)) refl

pub empty_is_none : (rs : List Request) → is_empty rs ≡ is_none (first rs)
empty_is_none [] = refl
empty_is_none (r ∷ rs) = refl

pub alone_is : (rs : List Request) → One rs → rs ≡ alone (first rs)
alone_is [] s = refl
alone_is (r ∷ []) s = refl
alone_is (r ∷ q ∷ rs) s = absurd s

pub first_on : (n : ℕ) (rs : List Request) (r : Request) → OneOn n rs → first rs ≡ Some r → is_on r n ≡ true
first_on n [] r s e = absurd (cc)
first_on n (q ∷ []) r s e = grind (arith, e, s)
first_on n (q ∷ p ∷ rs) r s e = absurd s

pub first_bare : (rs : List Request) (r : Request) → OneBare rs → first rs ≡ Some r → is_bare r ≡ true
first_bare [] r s e = absurd (cc)
first_bare (q ∷ []) r s e = grind (arith, e, s)
first_bare (q ∷ p ∷ rs) r s e = absurd s
