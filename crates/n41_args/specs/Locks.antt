-- What LOCK, LOCKT and LOCKU take (RFC 8881, sections 18.10 to 18.12).
use Rattle.std.specs.Prelude.{ℕ, List, [], ◌∷◌, Result}
use Rattle.n41_xdr.specs.Format.{Format, ◌&◌, mapped, made, Arm, arm, union}
use Rattle.n41_xdr.specs.declared.fault.XdrFault.TheVariants.{BadBool}
use Rattle.n41_types.specs.declared.identities.Stateid.{Stateid}
use Rattle.n41_attr.specs.declared.fault.OpFault.{OpFault}
use Rattle.n41_attr.specs.declared.fault.OpFault.TheVariants.{Xdr}
use Rattle.n41_shared.specs.Locks.{lock_type}
use Rattle.n41_attr.specs.Parts.{word, hyper, flag, stateid}
use Rattle.n41_args.specs.declared.owners.StateOwner.{StateOwner}
use Rattle.n41_args.specs.declared.locks.LockerArgs.{LockerArgs}
use Rattle.n41_args.specs.declared.locks.LockerArgs.TheVariants.{New, Old}
use Rattle.n41_args.specs.declared.locks.LockArgs.{LockArgs}
use Rattle.n41_args.specs.declared.locks.LockTestArgs.{LockTestArgs}
use Rattle.n41_args.specs.declared.locks.UnlockArgs.{UnlockArgs}
use Rattle.n41_args.specs.Owners.{state_owner}

-- open_to_lock_owner4
unfoldable pub new_locker : Format OpFault (ℕ × (Stateid × (ℕ × StateOwner)))
new_locker = word & stateid & word & state_owner

-- exist_lock_owner4
unfoldable pub old_locker : Format OpFault (Stateid × ℕ)
old_locker = stateid & word

-- locker4, whose discriminant is a bool
abbrev pub locker_arm : LockerArgs → Arm
locker_arm (New seqid opener lock_seqid owner) = arm 1 new_locker (seqid, (opener, (lock_seqid, owner)))
locker_arm (Old stateid seqid) = arm 0 old_locker (stateid, seqid)

abbrev pub locker_rows : List (ℕ × (List ℕ → Result (LockerArgs × List ℕ) OpFault))
locker_rows = (0, made (λ x. Old x.0 x.1) old_locker) ∷ (1, made (λ x. New x.0 x.1.0 x.1.1.0 x.1.1.1) new_locker) ∷ []

unfoldable pub locker : Format OpFault LockerArgs
locker = union Xdr (λ n. Xdr (BadBool n)) locker_rows locker_arm

-- LOCK4args
unfoldable pub lock : Format OpFault LockArgs
lock =
    mapped
    (λ x. record { kind = x.0; reclaim = x.1.0; offset = x.1.1.0; length = x.1.1.1.0; locker = x.1.1.1.1 })
    (λ a. (a.kind, (a.reclaim, (a.offset, (a.length, a.locker)))))
    (lock_type & flag & hyper & hyper & locker)

-- LOCKT4args
unfoldable pub lock_test : Format OpFault LockTestArgs
lock_test =
    mapped
    (λ x. record { kind = x.0; offset = x.1.0; length = x.1.1.0; owner = x.1.1.1 })
    (λ a. (a.kind, (a.offset, (a.length, a.owner))))
    (lock_type & hyper & hyper & state_owner)

-- LOCKU4args
unfoldable pub unlock : Format OpFault UnlockArgs
unlock =
    mapped
    (λ x. record { kind = x.0; seqid = x.1.0; stateid = x.1.1.0; offset = x.1.1.1.0; length = x.1.1.1.1 })
    (λ a. (a.kind, (a.seqid, (a.stateid, (a.offset, a.length)))))
    (lock_type & word & stateid & hyper & hyper)
