-- A fault is answered again by an end whose ear or mouth answers it again, and what it keeps stays.
use Rattle.std.proofs.Common.{◌≡◌, ap, sym, subst, ◌∙◌, Some, None, Err, IfSome, Result}
use Rattle.std.specs.declared.option.Option.{Option}
use Rattle.n41_link.specs.declared.ear.EarFault.{EarFault}
use Rattle.n41_link.specs.declared.ear.EarGot.{EarGot}
use Rattle.n41_link.specs.declared.mouth.SayFault.{SayFault}
use Rattle.n41_replies.specs.declared.fault.MsgFault.{MsgFault}
use Rattle.n41_wire.specs.Faults.{of_ear, fault_of}
use Rattle.n41_wire.specs.declared.arrival.InGot.{InGot}
use Rattle.n41_wire.specs.declared.fault.InFault.{InFault}

-- an ear's fault is answered again, by an inlet that has none of its own
pub heard_again : {X Y : Type 0} (own : Option MsgFault) (heard : Option EarFault) (fault : EarFault) (answer : InFault) (a b : X) → (own ≡ None) → answer ≡ of_ear fault → (a ≡ b → Y)
    → IfSome heard (λ f. (let was : Result EarGot EarFault = Err fault in was ≡ Err f) × (a ≡ b)) → IfSome (fault_of own heard) (λ f. (let is : Result InGot InFault = Err answer in is ≡ Err f) × Y)
heard_again {X} {Y} own None fault answer a b none is same h = subst (λ (o : Option MsgFault). IfSome (fault_of o None) (λ f. (let is : Result InGot InFault = Err answer in is ≡ Err f) × Y)) (sym none) tt
heard_again {X} {Y} own (Some f) fault answer a b none is same h =
    let one : fault ≡ f = cc h.0 in
    subst (λ (o : Option MsgFault). IfSome (fault_of o (Some f)) (λ f. (let is : Result InGot InFault = Err answer in is ≡ Err f) × Y)) (sym none) (ap Err (is ∙ ap of_ear one), same h.1)

-- a mouth's fault is answered again by its outlet
pub said_again : {X Y : Type 0} (fault : Option SayFault) (now was : Result (Unit {0}) SayFault) (a b : X) → now ≡ was → (a ≡ b → Y)
    → IfSome fault (λ f. (was ≡ Err f) × (a ≡ b)) → IfSome fault (λ f. (now ≡ Err f) × Y)
said_again None now was a b is same h = tt
said_again (Some f) now was a b is same h = (is ∙ h.0, same h.1)
