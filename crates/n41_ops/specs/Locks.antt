-- What LOCK and LOCKT answer (RFC 8881, sections 18.10 and 18.11).
use Rattle.std.specs.Prelude.{◌≢◌, ℕ, List, [], ◌∷◌, Result, Ok, Err}
use Rattle.n41_xdr.specs.Format.{Format, ◌&◌, mapped, made, Arm, arm}
use Rattle.n41_results.specs.declared.results.LockDenied.{LockDenied}
use Rattle.n41_results.specs.declared.results.LockRefusal.{LockRefusal}
use Rattle.n41_results.specs.declared.results.LockRefusal.TheVariants.{Denied, Other}
use Rattle.n41_attr.specs.declared.fault.OpFault.{OpFault}
use Rattle.n41_attr.specs.declared.fault.OpFault.TheVariants.{Xdr}
use Rattle.n41_attr.specs.Unions.{open_union}
use Rattle.n41_shared.specs.Locks.{lock_type}
use Rattle.n41_attr.specs.Parts.{hyper, owner_bytes}

-- LOCK4denied
unfoldable pub lock_denied : Format OpFault LockDenied
lock_denied =
    mapped
    (λ x. record { offset = x.0; length = x.1.0; kind = x.1.1.0; client = x.1.1.1.0; owner = x.1.1.1.1 })
    (λ d. (d.offset, (d.length, (d.kind, (d.client, d.owner)))))
    (hyper & hyper & lock_type & hyper & owner_bytes)

-- a status; behind OK what p says, and behind DENIED the lock that stands in the way
abbrev pub lock_arm : {A : Type 0} → Format OpFault A → Result A LockRefusal → Arm
lock_arm p (Ok a) = arm 0 p a
lock_arm p (Err (Denied d)) = arm 10010 lock_denied d
lock_arm p (Err (Other s)) = record { number = s.0; text = []; Fits = (s.0 ≢ 0) × (s.0 ≢ 10010) }

abbrev pub lock_rows : {A : Type 0} → Format OpFault A → List (ℕ × (List ℕ → Result (Result A LockRefusal × List ℕ) OpFault))
lock_rows p = (0, made (λ x. Ok x) p) ∷ (10010, made (λ x. Err (Denied x)) lock_denied) ∷ []

abbrev pub lock_outcome : {A : Type 0} → Format OpFault A → Format OpFault (Result A LockRefusal)
lock_outcome p = open_union Xdr (λ n. Err (Other (record { 0 = n }))) (lock_rows p) (lock_arm p)
