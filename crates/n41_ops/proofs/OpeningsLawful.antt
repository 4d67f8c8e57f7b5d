-- What OPEN answers is lawful.
use Rattle.std.proofs.Common.{◌≡◌, ◌≢◌, ℕ, eqb, false, List, ◌++◌, Ok, refl, arith}
use Rattle.n41_xdr.specs.Format.{Arm}
use Rattle.n41_xdr.specs.Lawful.{IsLawful}
use Rattle.n41_xdr.proofs.Lawful.{mapped_lawful, both_lawful, nothing_lawful, row_lawful, made_again, union_lawful}
use Rattle.n41_results.specs.declared.openings.Limit.TheVariants.{Size, Blocks}
use Rattle.n41_results.specs.declared.openings.Why.{Why}
use Rattle.n41_results.specs.declared.openings.Why.TheVariants.{Contention, Resource, Other}
use Rattle.n41_results.specs.declared.openings.Delegation.TheVariants as deleg
use Rattle.n41_attr.specs.declared.fault.OpFault.TheVariants.{Xdr}
use Rattle.n41_attr.specs.Unions.{choose_or}
use Rattle.n41_attr.specs.Parts.{flag, bad_arm}
use Rattle.n41_attr.proofs.Unions.{open_union_lawful}
use Rattle.n41_attr.proofs.PartsLawful.{word_lawful, hyper_lawful, flag_lawful, string_lawful, stateid_lawful, bitmap_lawful, differs, apart}
use Rattle.n41_ops.specs.Openings.{change_info, ace, limit, limit_arm, limit_rows, why, why_arm, why_rows, delegation, delegation_arm, delegation_rows, opened}

pub change_info_lawful : IsLawful change_info
unfolding change_info
change_info_lawful = mapped_lawful _ _ _ (λ _. refl) (λ _. refl) (both_lawful _ _ flag_lawful (both_lawful _ _ hyper_lawful hyper_lawful))

ace_lawful : IsLawful ace
unfolding ace
ace_lawful = mapped_lawful _ _ _ (λ _. refl) (λ _. refl) (both_lawful _ _ word_lawful (both_lawful _ _ word_lawful (both_lawful _ _ word_lawful string_lawful)))

limit_lawful : IsLawful limit
unfolding limit
limit_lawful =
    union_lawful Xdr bad_arm limit_rows limit_arm
    (row_lawful limit_arm 1 _ _ (λ _. refl) hyper_lawful, (row_lawful limit_arm 2 _ _ (λ _. refl) (both_lawful _ _ word_lawful word_lawful), tt))
    (elim [
      | Size n ↦ λ rest fits. made_again _ _ hyper_lawful n rest fits
      | Blocks count size ↦ λ rest fits. made_again _ _ (both_lawful _ _ word_lawful word_lawful) (count, size) rest fits
    ])

why_again : (x : Why) (rest : List ℕ) → (why_arm x).Fits → choose_or (λ n. Other n) why_rows (why_arm x).number ((why_arm x).text ++ rest) ≡ Ok (x, rest)
why_again (Contention will) rest fits = made_again (λ x. Contention x) flag flag_lawful will rest fits
why_again (Resource will) rest fits = made_again (λ x. Resource x) flag flag_lawful will rest fits
why_again (Other n) rest fits = rw (apart n 1 fits.0, apart n 2 fits.1) refl

why_lawful : IsLawful why
unfolding why
why_lawful =
    open_union_lawful Xdr (λ n. Other n) why_rows why_arm
    (row_lawful why_arm 1 _ _ (λ _. refl) flag_lawful, (row_lawful why_arm 2 _ _ (λ _. refl) flag_lawful, tt))
    (λ n none. record { number = refl; text = refl; fits = (differs n 1 none.0, differs n 2 none.1.0) })
    why_again

delegation_lawful : IsLawful delegation
unfolding delegation
delegation_lawful =
    let read = both_lawful _ _ stateid_lawful (both_lawful _ _ flag_lawful ace_lawful) in
    let write = both_lawful _ _ stateid_lawful (both_lawful _ _ flag_lawful (both_lawful _ _ limit_lawful ace_lawful)) in
    union_lawful Xdr bad_arm delegation_rows delegation_arm (
      row_lawful delegation_arm 0 (λ _. deleg.Nothing) _ (λ _. refl) nothing_lawful,
      (
        row_lawful delegation_arm 1 (λ x. deleg.Read x.0 x.1.0 x.1.1) _ (λ _. refl) read,
        (
          row_lawful delegation_arm 2 (λ x. deleg.Write x.0 x.1.0 x.1.1.0 x.1.1.1) _ (λ _. refl) write,
          (row_lawful delegation_arm 3 _ _ (λ _. refl) why_lawful, tt),
        ),
      ),
    )
    (elim [
      | deleg.Nothing ↦ λ rest fits. refl
      | deleg.Read s recall a ↦ λ rest fits. made_again _ _ read (s, (recall, a)) rest fits
      | deleg.Write s recall l a ↦ λ rest fits. made_again _ _ write (s, (recall, (l, a))) rest fits
      | deleg.Refused x ↦ λ rest fits. made_again _ _ why_lawful x rest fits
    ])

pub opened_lawful : IsLawful opened
unfolding opened
opened_lawful = mapped_lawful _ _ _ (λ _. refl) (λ _. refl) (both_lawful _ _ stateid_lawful (both_lawful _ _ change_info_lawful (both_lawful _ _ word_lawful (both_lawful _ _ bitmap_lawful delegation_lawful))))
