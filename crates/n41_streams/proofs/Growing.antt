-- What is told of a sink grows by a text, piece by piece.
use Rattle.std.proofs.Common.{◌≡◌, ◌∙◌, ap, sym, ℕ, List, take, drop, ◌++◌, ◌+◌, append_assoc, take-add, Some, None, refl}
use Rattle.std.specs.declared.option.Option.{Option}
use Rattle.std.specs.Io.KnownBytes.{append_known}

pub append_known-append : (known : Option (List ℕ)) (xs ys : List ℕ) → append_known known (xs ++ ys) ≡ append_known (append_known known xs) ys
append_known-append None xs ys = refl
append_known-append (Some bytes) xs ys = ap Some (sym (append_assoc bytes xs ys))

-- after `done` bytes of a text and then n bytes of its rest
pub append_known-take : (start before after : Option (List ℕ)) (text rest : List ℕ) (done n : ℕ) → before ≡ append_known start (take done text) → after ≡ append_known before (take n rest) → rest ≡ drop done text → after ≡ append_known start (take (done + n) text)
append_known-take start before after text rest done n e1 e2 e3 =
    e2 ∙ rw (e1, e3) (sym (ap (append_known start) (take-add done n text) ∙ append_known-append start (take done text) (take n (drop done text))))
