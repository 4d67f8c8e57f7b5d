-- What the operations take is lawful.
use Rattle.std.proofs.Common.{true, false, refl}
use Rattle.n41_xdr.specs.Lawful.{IsLawful}
use Rattle.n41_xdr.specs.declared.fault.XdrFault.TheVariants.{BadBool}
use Rattle.n41_xdr.proofs.Lawful.{both_lawful, mapped_lawful, lifted_lawful, only_lawful, nothing_lawful, list_lawful, row_lawful, made_again, union_lawful}
use Rattle.n41_attr.specs.declared.fault.OpFault.TheVariants.{Xdr}
use Rattle.n41_attr.specs.Parts.{bad_arm}
use Rattle.n41_attr.proofs.PartsLawful.{word_lawful, hyper_lawful, flag_lawful, string_lawful, content_bytes_lawful, owner_bytes_lawful, verifier_lawful, stateid_lawful, bitmap_lawful, fattr_lawful}
use Rattle.n41_args.specs.declared.locks.LockerArgs.TheVariants.{New, Old}
use Rattle.n41_args.specs.declared.openings.OpenClaim.TheVariants as claim
use Rattle.n41_args.specs.Owners.{state_owner}
use Rattle.n41_shared.proofs.Lawful.{lock_type_lawful}
use Rattle.n41_args.specs.Locks.{new_locker, old_locker, locker, locker_rows, locker_arm, lock, lock_test, unlock}
use Rattle.n41_args.specs.Openings.{close, downgrade, open_claim, claim_rows, claim_arm, guarded, guarded_rows, guarded_arm, NoCreate, Create, told_how, how_rows, how_arm, told_open}
use Rattle.n41_args.specs.Files.{commit, read_args, write_args, told_set_attr, stateids}
use Rattle.n41_args.specs.Directories.{directory_type, told_create, read_dir, rename}

state_owner_lawful : IsLawful state_owner
unfolding state_owner
state_owner_lawful = mapped_lawful _ _ _ (λ _. refl) (λ _. refl) (both_lawful _ _ hyper_lawful owner_bytes_lawful)

-- ---- locks

new_locker_lawful : IsLawful new_locker
unfolding new_locker
new_locker_lawful = both_lawful _ _ word_lawful (both_lawful _ _ stateid_lawful (both_lawful _ _ word_lawful state_owner_lawful))

old_locker_lawful : IsLawful old_locker
unfolding old_locker
old_locker_lawful = both_lawful _ _ stateid_lawful word_lawful

locker_lawful : IsLawful locker
unfolding locker
locker_lawful =
    union_lawful Xdr (λ n. Xdr (BadBool n)) locker_rows locker_arm
    (row_lawful locker_arm 0 (λ x. Old x.0 x.1) _ (λ _. refl) old_locker_lawful, (row_lawful locker_arm 1 (λ x. New x.0 x.1.0 x.1.1.0 x.1.1.1) _ (λ _. refl) new_locker_lawful, tt))
    (elim [
      | New seqid opener lock_seqid owner ↦ λ rest fits. made_again _ _ new_locker_lawful (seqid, (opener, (lock_seqid, owner))) rest fits
      | Old s seqid ↦ λ rest fits. made_again _ _ old_locker_lawful (s, seqid) rest fits
    ])

pub lock_lawful : IsLawful lock
unfolding lock
lock_lawful =
    mapped_lawful _ _ _ (λ _. refl) (λ _. refl)
    (both_lawful _ _ lock_type_lawful (both_lawful _ _ flag_lawful (both_lawful _ _ hyper_lawful (both_lawful _ _ hyper_lawful locker_lawful))))

pub lock_test_lawful : IsLawful lock_test
unfolding lock_test
lock_test_lawful = mapped_lawful _ _ _ (λ _. refl) (λ _. refl) (both_lawful _ _ lock_type_lawful (both_lawful _ _ hyper_lawful (both_lawful _ _ hyper_lawful state_owner_lawful)))

pub unlock_lawful : IsLawful unlock
unfolding unlock
unlock_lawful =
    mapped_lawful _ _ _ (λ _. refl) (λ _. refl)
    (both_lawful _ _ lock_type_lawful (both_lawful _ _ word_lawful (both_lawful _ _ stateid_lawful (both_lawful _ _ hyper_lawful hyper_lawful))))

-- ---- openings

pub close_lawful : IsLawful close
unfolding close
close_lawful = mapped_lawful _ _ _ (λ _. refl) (λ _. refl) (both_lawful _ _ word_lawful stateid_lawful)

pub downgrade_lawful : IsLawful downgrade
unfolding downgrade
downgrade_lawful = mapped_lawful _ _ _ (λ _. refl) (λ _. refl) (both_lawful _ _ stateid_lawful (both_lawful _ _ word_lawful (both_lawful _ _ word_lawful word_lawful)))

open_claim_lawful : IsLawful open_claim
unfolding open_claim
open_claim_lawful =
    union_lawful Xdr bad_arm claim_rows claim_arm (
      row_lawful claim_arm 0 _ _ (λ _. refl) string_lawful,
      (
        row_lawful claim_arm 1 _ _ (λ _. refl) word_lawful,
        (
          row_lawful claim_arm 4 (λ _. claim.Fh) _ (λ _. refl) nothing_lawful,
          (row_lawful claim_arm 5 _ _ (λ _. refl) stateid_lawful, tt),
        ),
      ),
    )
    (elim [
      | claim.Null name ↦ λ rest fits. made_again _ _ string_lawful name rest fits
      | claim.Previous kind ↦ λ rest fits. made_again _ _ word_lawful kind rest fits
      | claim.Fh ↦ λ rest fits. refl
      | claim.DelegCur s ↦ λ rest fits. made_again _ _ stateid_lawful s rest fits
    ])

guarded_lawful : IsLawful guarded
unfolding guarded
guarded_lawful =
    union_lawful Xdr bad_arm guarded_rows guarded_arm
    (row_lawful guarded_arm 0 (λ _. false) _ (λ _. refl) nothing_lawful, (row_lawful guarded_arm 1 (λ _. true) _ (λ _. refl) nothing_lawful, tt))
    (elim [ false ↦ λ rest fits. refl | true ↦ λ rest fits. refl ])

told_how_lawful : IsLawful told_how
unfolding told_how
told_how_lawful =
    union_lawful Xdr bad_arm how_rows how_arm
    (row_lawful how_arm 0 (λ _. NoCreate) _ (λ _. refl) nothing_lawful, (row_lawful how_arm 1 _ _ (λ _. refl) (both_lawful _ _ guarded_lawful fattr_lawful), tt))
    (elim [
      | NoCreate ↦ λ rest fits. refl
      | Create g t ↦ λ rest fits. made_again _ _ (both_lawful _ _ guarded_lawful fattr_lawful) (g, t) rest fits
    ])

pub told_open_lawful : IsLawful told_open
unfolding told_open
told_open_lawful =
    mapped_lawful _ _ _ (λ _. refl) (λ _. refl)
    (both_lawful _ _ word_lawful (both_lawful _ _ word_lawful (both_lawful _ _ word_lawful (both_lawful _ _ state_owner_lawful (both_lawful _ _ told_how_lawful open_claim_lawful)))))

-- ---- files

pub commit_lawful : IsLawful commit
unfolding commit
commit_lawful = mapped_lawful _ _ _ (λ _. refl) (λ _. refl) (both_lawful _ _ hyper_lawful word_lawful)

pub read_args_lawful : IsLawful read_args
unfolding read_args
read_args_lawful = mapped_lawful _ _ _ (λ _. refl) (λ _. refl) (both_lawful _ _ stateid_lawful (both_lawful _ _ hyper_lawful word_lawful))

pub write_args_lawful : IsLawful write_args
unfolding write_args
write_args_lawful = mapped_lawful _ _ _ (λ _. refl) (λ _. refl) (both_lawful _ _ stateid_lawful (both_lawful _ _ hyper_lawful (both_lawful _ _ word_lawful content_bytes_lawful)))

pub told_set_attr_lawful : IsLawful told_set_attr
unfolding told_set_attr
told_set_attr_lawful = mapped_lawful _ _ _ (λ _. refl) (λ _. refl) (both_lawful _ _ stateid_lawful fattr_lawful)

pub stateids_lawful : IsLawful stateids
unfolding stateids
stateids_lawful = list_lawful _ _ stateid_lawful

-- ---- directories

directory_type_lawful : IsLawful directory_type
unfolding directory_type
directory_type_lawful = lifted_lawful _ _ (only_lawful 2)

pub told_create_lawful : IsLawful told_create
unfolding told_create
told_create_lawful = mapped_lawful _ _ _ (λ _. refl) (λ _. refl) (both_lawful _ _ directory_type_lawful (both_lawful _ _ string_lawful fattr_lawful))

pub read_dir_lawful : IsLawful read_dir
unfolding read_dir
read_dir_lawful =
    mapped_lawful _ _ _ (λ _. refl) (λ _. refl)
    (both_lawful _ _ hyper_lawful (both_lawful _ _ verifier_lawful (both_lawful _ _ word_lawful (both_lawful _ _ word_lawful bitmap_lawful))))

pub rename_lawful : IsLawful rename
unfolding rename
rename_lawful = mapped_lawful _ _ _ (λ _. refl) (λ _. refl) (both_lawful _ _ string_lawful string_lawful)
