-- Kinds of locks.
use Rattle.std.specs.Prelude.{ℕ, List, [], ◌∷◌, Result}
use Rattle.n41_xdr.specs.Format.{Format, nothing, made, Arm, arm, union}
use Rattle.n41_results.specs.declared.results.LockType.{LockType}
use Rattle.n41_results.specs.declared.results.LockType.TheVariants as kind
use Rattle.n41_attr.specs.declared.fault.OpFault.{OpFault}
use Rattle.n41_attr.specs.declared.fault.OpFault.TheVariants.{Xdr}
use Rattle.n41_attr.specs.Parts.{bad_arm}

-- nfs_lock_type4
abbrev pub lock_type_arm : LockType → Arm
lock_type_arm kind.Read = arm 1 (nothing {E = OpFault}) tt
lock_type_arm kind.Write = arm 2 (nothing {E = OpFault}) tt
lock_type_arm kind.ReadWaiting = arm 3 (nothing {E = OpFault}) tt
lock_type_arm kind.WriteWaiting = arm 4 (nothing {E = OpFault}) tt

abbrev pub lock_type_rows : List (ℕ × (List ℕ → Result (LockType × List ℕ) OpFault))
lock_type_rows =
    (1, made (λ _. kind.Read) nothing) ∷ (2, made (λ _. kind.Write) nothing) ∷ (3, made (λ _. kind.ReadWaiting) nothing) ∷ (4, made (λ _. kind.WriteWaiting) nothing) ∷ []

unfoldable pub lock_type : Format OpFault LockType
lock_type = union Xdr bad_arm lock_type_rows lock_type_arm
