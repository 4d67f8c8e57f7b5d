-- What the operations of client ids and sessions take is lawful.
use Rattle.std.proofs.Common.{ℕ, ltb, List, length, refl}
use Rattle.std.proofs.lemmas.Bool.{ltb-false, le-ltb}
use Rattle.n41_xdr.specs.declared.fault.XdrFault.TheVariants.{TooLong}
use Rattle.n41_xdr.specs.Format.{Format, dependent, many}
use Rattle.n41_xdr.specs.Lawful.{IsLawful}
use Rattle.n41_xdr.proofs.Lawful.{same_lawful, both_lawful, dependent_lawful, mapped_lawful, nothing_lawful, list_lawful, many_lawful, row_lawful, made_again, union_lawful, unless, unless_lawful}
use Rattle.n41_attr.specs.declared.fault.OpFault.{OpFault}
use Rattle.n41_attr.specs.declared.fault.OpFault.TheVariants.{Xdr}
use Rattle.n41_attr.specs.Parts.{word, bad_arm}
use Rattle.n41_attr.proofs.PartsLawful.{word_lawful, hyper_lawful, flag_lawful, opaque_lawful, owner_bytes_lawful, verifier_lawful, zero_lawful, session_lawful}
use Rattle.n41_session_args.specs.declared.security.Security.TheVariants as security
use Rattle.n41_session_args.specs.Security.{at_most, gids, system_auth, security_arm, security_rows, callback_security, securities}
use Rattle.n41_shared.proofs.Lawful.{channel_lawful, impl_option_lawful}
use Rattle.n41_session_args.specs.Sessions.{exchange_id, create_session, bind, sequence}

abbrev counted : {A : Type 0} → ℕ → Format OpFault A → Format OpFault (List A)
counted max p = dependent word (λ xs. length xs) (λ n. unless (ltb max n) (Xdr (TooLong n max)) (many p n))

at_most_lawful : {A : Type 0} (max : ℕ) (p : Format OpFault A) → IsLawful p → IsLawful (at_most max p)
at_most_lawful max p h =
    same_lawful (at_most max p) (counted max p) (record {
      reads = λ bytes. refl;
      spells = λ xs. refl;
      there = λ xs fits. (fits.1.0, (le-ltb max (length xs) fits.0, (refl, fits.1.1)));
      back = λ xs fits. (ltb-false max (length xs) fits.1.0, (fits.0, fits.1.1.1));
    })
    (dependent_lawful word (λ xs. length xs) (λ n. unless (ltb max n) (Xdr (TooLong n max)) (many p n)) word_lawful (λ n. unless_lawful _ _ _ (many_lawful p n h)) (λ n xs fits. fits.1.0))

gids_lawful : IsLawful gids
unfolding gids
gids_lawful = at_most_lawful 16 word word_lawful

system_auth_lawful : IsLawful system_auth
unfolding system_auth
system_auth_lawful = mapped_lawful _ _ _ (λ _. refl) (λ _. refl) (both_lawful _ _ word_lawful (both_lawful _ _ (opaque_lawful 255) (both_lawful _ _ word_lawful (both_lawful _ _ word_lawful gids_lawful))))

callback_security_lawful : IsLawful callback_security
unfolding callback_security
callback_security_lawful =
    union_lawful Xdr bad_arm security_rows security_arm
    (row_lawful security_arm 0 (λ _. security.None) _ (λ _. refl) nothing_lawful, (row_lawful security_arm 1 _ _ (λ _. refl) system_auth_lawful, tt))
    (elim [
      | security.None ↦ λ rest fits. refl
      | security.System a ↦ λ rest fits. made_again _ _ system_auth_lawful a rest fits
    ])

securities_lawful : IsLawful securities
unfolding securities
securities_lawful = list_lawful _ _ callback_security_lawful

pub exchange_id_lawful : IsLawful exchange_id
unfolding exchange_id
exchange_id_lawful =
    mapped_lawful _ _ _ (λ _. refl) (λ _. refl)
    (both_lawful _ _ verifier_lawful (both_lawful _ _ owner_bytes_lawful (both_lawful _ _ word_lawful (both_lawful _ _ zero_lawful impl_option_lawful))))

pub create_session_lawful : IsLawful create_session
unfolding create_session
create_session_lawful =
    mapped_lawful _ _ _ (λ _. refl) (λ _. refl)
    (both_lawful _ _ hyper_lawful (both_lawful _ _ word_lawful (both_lawful _ _ word_lawful (both_lawful _ _ channel_lawful (both_lawful _ _ channel_lawful (both_lawful _ _ word_lawful securities_lawful))))))

pub bind_lawful : IsLawful bind
unfolding bind
bind_lawful = mapped_lawful _ _ _ (λ _. refl) (λ _. refl) (both_lawful _ _ session_lawful (both_lawful _ _ word_lawful flag_lawful))

pub sequence_lawful : IsLawful sequence
unfolding sequence
sequence_lawful = mapped_lawful _ _ _ (λ _. refl) (λ _. refl) (both_lawful _ _ session_lawful (both_lawful _ _ word_lawful (both_lawful _ _ word_lawful (both_lawful _ _ word_lawful flag_lawful))))
