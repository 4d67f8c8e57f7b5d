-- What the operations of files and directories answer is lawful.
use Rattle.std.proofs.Common.{refl}
use Rattle.n41_xdr.specs.Lawful.{IsLawful}
use Rattle.n41_xdr.proofs.Lawful.{mapped_lawful, both_lawful, chain_lawful}
use Rattle.n41_attr.proofs.PartsLawful.{word_lawful, hyper_lawful, flag_lawful, string_lawful, content_bytes_lawful, verifier_lawful, bitmap_lawful, fattr_lawful}
use Rattle.n41_ops.specs.Files.{created, renamed, content, put, told_entry, told_listing}
use Rattle.n41_ops.proofs.OpeningsLawful.{change_info_lawful}

pub created_lawful : IsLawful created
unfolding created
created_lawful = mapped_lawful _ _ _ (λ _. refl) (λ _. refl) (both_lawful _ _ change_info_lawful bitmap_lawful)

pub renamed_lawful : IsLawful renamed
unfolding renamed
renamed_lawful = mapped_lawful _ _ _ (λ _. refl) (λ _. refl) (both_lawful _ _ change_info_lawful change_info_lawful)

pub content_lawful : IsLawful content
unfolding content
content_lawful = mapped_lawful _ _ _ (λ _. refl) (λ _. refl) (both_lawful _ _ flag_lawful content_bytes_lawful)

pub put_lawful : IsLawful put
unfolding put
put_lawful = mapped_lawful _ _ _ (λ _. refl) (λ _. refl) (both_lawful _ _ word_lawful (both_lawful _ _ word_lawful verifier_lawful))

told_entry_lawful : IsLawful told_entry
unfolding told_entry
told_entry_lawful = mapped_lawful _ _ _ (λ _. refl) (λ _. refl) (both_lawful _ _ hyper_lawful (both_lawful _ _ string_lawful fattr_lawful))

pub told_listing_lawful : IsLawful told_listing
unfolding told_listing
told_listing_lawful = mapped_lawful _ _ _ (λ _. refl) (λ _. refl) (both_lawful _ _ verifier_lawful (both_lawful _ _ (chain_lawful _ _ told_entry_lawful) flag_lawful))
