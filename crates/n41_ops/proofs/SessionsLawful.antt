-- What the operations of client ids and sessions answer is lawful.
use Rattle.std.proofs.Common.{refl}
use Rattle.n41_xdr.specs.Lawful.{IsLawful}
use Rattle.n41_xdr.proofs.Lawful.{mapped_lawful, both_lawful, list_lawful}
use Rattle.n41_attr.proofs.PartsLawful.{word_lawful, hyper_lawful, flag_lawful, owner_bytes_lawful, zero_lawful, session_lawful, status_lawful}
use Rattle.n41_shared.proofs.Lawful.{channel_lawful, impl_option_lawful}
use Rattle.n41_ops.specs.Sessions.{identity, session_made, bound, sequenced, statuses}

pub identity_lawful : IsLawful identity
unfolding identity
identity_lawful =
    mapped_lawful _ _ _ (λ _. refl) (λ _. refl)
    (both_lawful _ _ hyper_lawful (both_lawful _ _ word_lawful (both_lawful _ _ word_lawful (both_lawful _ _ zero_lawful
    (both_lawful _ _ hyper_lawful (both_lawful _ _ owner_bytes_lawful (both_lawful _ _ owner_bytes_lawful impl_option_lawful)))))))

pub session_made_lawful : IsLawful session_made
unfolding session_made
session_made_lawful = mapped_lawful _ _ _ (λ _. refl) (λ _. refl) (both_lawful _ _ session_lawful (both_lawful _ _ word_lawful (both_lawful _ _ word_lawful (both_lawful _ _ channel_lawful channel_lawful))))

pub bound_lawful : IsLawful bound
unfolding bound
bound_lawful = mapped_lawful _ _ _ (λ _. refl) (λ _. refl) (both_lawful _ _ session_lawful (both_lawful _ _ word_lawful flag_lawful))

pub sequenced_lawful : IsLawful sequenced
unfolding sequenced
sequenced_lawful = mapped_lawful _ _ _ (λ _. refl) (λ _. refl) (both_lawful _ _ session_lawful (both_lawful _ _ word_lawful (both_lawful _ _ word_lawful (both_lawful _ _ word_lawful (both_lawful _ _ word_lawful word_lawful)))))

pub statuses_lawful : IsLawful statuses
unfolding statuses
statuses_lawful = list_lawful _ _ status_lawful
