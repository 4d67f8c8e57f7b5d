-- All that the crates above need to show their formats lawful.
pub use Rattle.n41_xdr.proofs.Steps.{IsBytes-drop, IsBytes-take, Takes-then, bind_ok, fault_as_ok, guard_ok, chosen}
pub use Rattle.n41_xdr.proofs.Combined.{IsSame, same_lawful, given_lawful, nothing_lawful, refused_lawful, both_lawful, dependent_lawful, choice_lawful, mapped_lawful, lifted_lawful, one_spelling}
pub use Rattle.n41_xdr.proofs.Basic.{word_lawful, hyper_lawful, flag_lawful, match_cases, by_number, by_number_lawful, only_lawful, fixed_lawful, unless, unless_lawful, opaque_lawful}
pub use Rattle.n41_xdr.proofs.Arrays.{many_lawful, list_lawful, option_lawful, optional_lawful}
pub use Rattle.n41_xdr.proofs.Unions.{row_lawful, made_again, union_lawful}
pub use Rattle.n41_xdr.proofs.Chains.{chain_lawful}
