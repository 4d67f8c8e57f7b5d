-- The request of a call.
use Rattle.std.proofs.Common.{◌≡◌, ℕ, List, Option, Some, None, Result, Ok, Err, ap, sym, ◌∙◌}
use Rattle.std.specs.Prelude.{IfOk}
use Rattle.n41_types.specs.declared.plans.Request.{Request}
use Rattle.n41_replies.specs.declared.fault.MsgFault.{MsgFault}
use Rattle.n41_seen.specs.declared.calls.CallSeen.{CallSeen}
use Rattle.n41_seen.specs.Calls.{call_at}
use Rattle.n41_compound.specs.Calls.{seen_of, IsLawful, IsSpelledBy}
use Rattle.n41_journal_reader.specs.Messages.{seen, IsFoundIn}

-- ---- a call that was read

pub found_of : (c : CallSeen) (q : Request) (bytes : List ℕ) → IsSpelledBy c q → IsLawful q → call_at bytes ≡ Ok c → IsFoundIn bytes (Some q)
found_of c q bytes s l e = record { lawful = l; is_seen = e ∙ ap (λ (d : CallSeen). Ok d) s }

one_call : (a b : CallSeen) (r : Result CallSeen MsgFault) → r ≡ Ok a → r ≡ Ok b → a ≡ b
one_call a b r e f = let both : Ok a ≡ Ok b = sym e ∙ f in cc both

pub none_of : (c : CallSeen) (bytes : List ℕ) → ((q : Request) → IsLawful q → IsSpelledBy c q → ⊥) → call_at bytes ≡ Ok c → IsFoundIn bytes None
none_of c bytes n e = λ q h. n q h.lawful (one_call c (seen_of q) (call_at bytes) e h.is_seen)

-- ---- bytes

seen_is : (r : Result CallSeen MsgFault) (c : CallSeen) → Some c ≡ seen r → r ≡ Ok c
seen_is (Ok d) c e = let f : c ≡ d = cc in ap (λ (x : CallSeen). Ok x) (sym f)
seen_is (Err f) c e = absurd cc

none_seen : (r : Result CallSeen MsgFault) (c : CallSeen) → None ≡ seen r → r ≡ Ok c → ⊥
none_seen (Ok d) c e f = absurd cc
none_seen (Err g) c e f = absurd cc

pub found_in : {E : Type 0} (bytes : List ℕ) (call : Option CallSeen) (c : CallSeen) (r : Result (Option Request) E) → call ≡ seen (call_at bytes) → call ≡ Some c →
    IfOk r (λ found. (bytes : List ℕ) → call_at bytes ≡ Ok c → IsFoundIn bytes found) → IfOk r (λ found. IsFoundIn bytes found)
found_in bytes call c (Ok found) is there h = h bytes (seen_is (call_at bytes) c (sym there ∙ is))
found_in bytes call c (Err e) is there h = tt

pub none_in : (bytes : List ℕ) (call : Option CallSeen) → call ≡ seen (call_at bytes) → call ≡ None → IsFoundIn bytes None
none_in bytes call is none = λ q h. none_seen (call_at bytes) (seen_of q) (sym none ∙ is) h.is_seen
