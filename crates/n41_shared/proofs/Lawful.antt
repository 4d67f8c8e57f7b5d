-- What operations and results have in common is lawful.
use Rattle.std.proofs.Common.{refl}
use Rattle.n41_xdr.specs.Lawful.{IsLawful}
use Rattle.n41_xdr.proofs.Lawful.{mapped_lawful, both_lawful, option_lawful, nothing_lawful, row_lawful, union_lawful}
use Rattle.n41_results.specs.declared.results.LockType.TheVariants as kind
use Rattle.n41_attr.specs.declared.fault.OpFault.TheVariants.{Xdr}
use Rattle.n41_attr.specs.Parts.{bad_arm}
use Rattle.n41_attr.proofs.PartsLawful.{word_lawful, fixed_lawful, string_lawful}
use Rattle.n41_shared.specs.Sessions.{channel, impl_id, impl_option}
use Rattle.n41_shared.specs.Locks.{lock_type, lock_type_rows, lock_type_arm}

pub channel_lawful : IsLawful channel
unfolding channel
channel_lawful =
    mapped_lawful _ _ _ (λ _. refl) (λ _. refl)
    (both_lawful _ _ word_lawful (both_lawful _ _ word_lawful (both_lawful _ _ word_lawful (both_lawful _ _ word_lawful (both_lawful _ _ word_lawful (both_lawful _ _ word_lawful (option_lawful _ _ word_lawful)))))))

impl_id_lawful : IsLawful impl_id
unfolding impl_id
impl_id_lawful = mapped_lawful _ _ _ (λ _. refl) (λ _. refl) (both_lawful _ _ string_lawful (both_lawful _ _ string_lawful (both_lawful _ _ (fixed_lawful 8) word_lawful)))

pub impl_option_lawful : IsLawful impl_option
unfolding impl_option
impl_option_lawful = option_lawful _ _ impl_id_lawful

pub lock_type_lawful : IsLawful lock_type
unfolding lock_type
lock_type_lawful =
    union_lawful Xdr bad_arm lock_type_rows lock_type_arm (
      row_lawful lock_type_arm 1 (λ _. kind.Read) _ (λ _. refl) nothing_lawful,
      (
        row_lawful lock_type_arm 2 (λ _. kind.Write) _ (λ _. refl) nothing_lawful,
        (
          row_lawful lock_type_arm 3 (λ _. kind.ReadWaiting) _ (λ _. refl) nothing_lawful,
          (row_lawful lock_type_arm 4 (λ _. kind.WriteWaiting) _ (λ _. refl) nothing_lawful, tt),
        ),
      ),
    )
    (elim [
      | kind.Read ↦ λ rest fits. refl
      | kind.Write ↦ λ rest fits. refl
      | kind.ReadWaiting ↦ λ rest fits. refl
      | kind.WriteWaiting ↦ λ rest fits. refl
    ])
