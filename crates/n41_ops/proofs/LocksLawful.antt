-- What LOCK and LOCKT answer is lawful.
use Rattle.std.proofs.Common.{◌≡◌, ℕ, List, ◌++◌, Result, Ok, Err, refl}
use Rattle.n41_xdr.specs.Format.{Format}
use Rattle.n41_xdr.specs.Lawful.{IsLawful}
use Rattle.n41_xdr.proofs.Lawful.{mapped_lawful, both_lawful, row_lawful, made_again}
use Rattle.n41_results.specs.declared.results.LockRefusal.{LockRefusal}
use Rattle.n41_results.specs.declared.results.LockRefusal.TheVariants.{Denied, Other}
use Rattle.n41_attr.specs.declared.fault.OpFault.{OpFault}
use Rattle.n41_attr.specs.declared.fault.OpFault.TheVariants.{Xdr}
use Rattle.n41_attr.specs.Unions.{choose_or}
use Rattle.n41_attr.proofs.Unions.{open_union_lawful}
use Rattle.n41_attr.proofs.PartsLawful.{hyper_lawful, owner_bytes_lawful, differs, apart}
use Rattle.n41_shared.proofs.Lawful.{lock_type_lawful}
use Rattle.n41_ops.specs.Locks.{lock_denied, lock_outcome, lock_arm, lock_rows}

lock_denied_lawful : IsLawful lock_denied
unfolding lock_denied
lock_denied_lawful = mapped_lawful _ _ _ (λ _. refl) (λ _. refl) (both_lawful _ _ hyper_lawful (both_lawful _ _ hyper_lawful (both_lawful _ _ lock_type_lawful (both_lawful _ _ hyper_lawful owner_bytes_lawful))))

lock_again : {A : Type 0} (p : Format OpFault A) → IsLawful p → (a : Result A LockRefusal) (rest : List ℕ) → (lock_arm p a).Fits
    → choose_or (λ n. Err (Other (record { 0 = n }))) (lock_rows p) (lock_arm p a).number ((lock_arm p a).text ++ rest) ≡ Ok (a, rest)
lock_again p h (Ok a) rest fits = made_again (λ x. Ok x) p h a rest fits
lock_again p h (Err (Denied d)) rest fits = made_again (λ x. Err (Denied x)) lock_denied lock_denied_lawful d rest fits
lock_again p h (Err (Other s)) rest fits = rw (apart s.0 0 fits.0, apart s.0 10010 fits.1) refl

pub lock_outcome_lawful : {A : Type 0} (p : Format OpFault A) → IsLawful p → IsLawful (lock_outcome p)
lock_outcome_lawful p h =
    open_union_lawful Xdr (λ n. Err (Other (record { 0 = n }))) (lock_rows p) (lock_arm p)
    (row_lawful (lock_arm p) 0 (λ x. Ok x) p (λ _. refl) h, (row_lawful (lock_arm p) 10010 (λ x. Err (Denied x)) lock_denied (λ _. refl) lock_denied_lawful, tt))
    (λ n none. record { number = refl; text = refl; fits = (differs n 0 none.0, differs n 10010 none.1.0) })
    (lock_again p h)
