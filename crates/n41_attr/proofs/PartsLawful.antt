-- The parts of results are lawful.
use Rattle.std.proofs.Common.{◌≡◌, ◌≢◌, ℕ, eqb, false, List, ◌++◌, Result, Ok, Err, refl, arith}
use Rattle.n41_xdr.specs.Format.{Format, Arm}
use Rattle.n41_xdr.specs.Lawful.{IsLawful, RowIsLawful}
use Rattle.n41_xdr.proofs.Lawful.{word_lawful as xdr_word, hyper_lawful as xdr_hyper, flag_lawful as xdr_flag, fixed_lawful as xdr_fixed, opaque_lawful as xdr_opaque, lifted_lawful, mapped_lawful, only_lawful, both_lawful, row_lawful, made_again}
use Rattle.n41_types.specs.declared.statuses.Status.{Status}
use Rattle.n41_attr.specs.declared.fault.OpFault.{OpFault}
use Rattle.n41_attr.specs.declared.fault.OpFault.TheVariants.{Xdr}
use Rattle.n41_attr.proofs.Lawful.{bitmap_lawful as attr_bitmap, told_lawful}
use Rattle.n41_attr.specs.Unions.{choose_or, open_union}
use Rattle.n41_attr.specs.Parts.{word, hyper, flag, fixed, opaque, bad_arm, always_zero, string, content_bytes, owner_bytes, verifier, stateid, session, fh, bitmap, fattr, status, outcome, outcome_arm, outcome_rows, failure, failure_arm, failure_rows}
use Rattle.n41_attr.proofs.Unions.{open_union_lawful}

pub word_lawful : IsLawful word
word_lawful = lifted_lawful _ _ xdr_word

pub hyper_lawful : IsLawful hyper
hyper_lawful = lifted_lawful _ _ xdr_hyper

pub flag_lawful : IsLawful flag
flag_lawful = lifted_lawful _ _ xdr_flag

pub fixed_lawful : (n : ℕ) → IsLawful (fixed n)
fixed_lawful n = lifted_lawful _ _ (xdr_fixed n)

pub opaque_lawful : (max : ℕ) → IsLawful (opaque max)
opaque_lawful max = lifted_lawful _ _ (xdr_opaque max)

pub zero_lawful : IsLawful always_zero
unfolding always_zero
zero_lawful = lifted_lawful _ _ (only_lawful 0)

pub string_lawful : IsLawful string
unfolding string
string_lawful = opaque_lawful 65536

pub content_bytes_lawful : IsLawful content_bytes
unfolding content_bytes
content_bytes_lawful = opaque_lawful 4294967295

pub owner_bytes_lawful : IsLawful owner_bytes
unfolding owner_bytes
owner_bytes_lawful = opaque_lawful 1024

pub verifier_lawful : IsLawful verifier
unfolding verifier
verifier_lawful = fixed_lawful 8

pub stateid_lawful : IsLawful stateid
unfolding stateid
stateid_lawful = mapped_lawful _ _ _ (λ _. refl) (λ _. refl) (both_lawful _ _ word_lawful (fixed_lawful 12))

pub session_lawful : IsLawful session
unfolding session
session_lawful = mapped_lawful _ _ _ (λ _. refl) (λ _. refl) (fixed_lawful 16)

pub fh_lawful : IsLawful fh
unfolding fh
fh_lawful = opaque_lawful 128

pub bitmap_lawful : IsLawful bitmap
unfolding bitmap
bitmap_lawful = lifted_lawful _ _ attr_bitmap

pub fattr_lawful : IsLawful fattr
unfolding fattr
fattr_lawful = lifted_lawful _ _ told_lawful

pub status_lawful : IsLawful status
unfolding status
status_lawful = mapped_lawful _ _ _ (λ _. refl) (λ _. refl) word_lawful

-- ---- statuses that choose

pub differs : (n m : ℕ) → eqb n m ≡ false → n ≢ m
differs n m e h = grind (arith)

pub apart : (n m : ℕ) → n ≢ m → eqb n m ≡ false
apart n m ne = grind arith

outcome_again : {A : Type 0} (p : Format OpFault A) → IsLawful p → (a : Result A Status) (rest : List ℕ) → (outcome_arm p a).Fits
    → choose_or (λ n. Err (record { 0 = n })) (outcome_rows p) (outcome_arm p a).number ((outcome_arm p a).text ++ rest) ≡ Ok (a, rest)
outcome_again p h (Ok a) rest fits = made_again (λ x. Ok x) p h a rest fits
outcome_again p h (Err s) rest fits = rw (apart s.0 0 fits) refl

pub outcome_lawful : {A : Type 0} (p : Format OpFault A) → IsLawful p → IsLawful (outcome p)
outcome_lawful p h =
    open_union_lawful Xdr (λ n. Err (record { 0 = n })) (outcome_rows p) (outcome_arm p)
    (row_lawful (outcome_arm p) 0 (λ x. Ok x) p (λ _. refl) h, tt)
    (λ n none. record { number = refl; text = refl; fits = differs n 0 none.0 })
    (outcome_again p h)

pub failure_lawful : IsLawful failure
unfolding failure
failure_lawful =
    open_union_lawful Xdr (λ n. record { 0 = n }) failure_rows failure_arm
    (record { takes = λ bytes x fits e. absurd cc }, tt)
    (λ n none. record { number = refl; text = refl; fits = differs n 0 none.0 })
    (λ s rest fits. rw (apart s.0 0 fits) refl)
