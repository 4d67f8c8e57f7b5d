-- Operations are lawful, and what is written of one is read again.
use Rattle.std.proofs.Common.{◌≡◌, ℕ, List, ◌++◌, Result, Ok, refl, ap, ◌∙◌}
use Rattle.std.specs.List.{AllByRecursion}
use Rattle.n41_xdr.specs.Format.{choose, made, nothing}
use Rattle.n41_xdr.specs.Lawful.{IsLawful, RowIsLawful}
use Rattle.n41_xdr.proofs.Lawful.{nothing_lawful, row_lawful, made_again, union_lawful}
use Rattle.n41_types.specs.Operations.{number}
use Rattle.n41_types.specs.declared.operations.Operation.TheVariants as op
use Rattle.n41_attr.specs.declared.fault.OpFault.{OpFault}
use Rattle.n41_attr.specs.declared.fault.OpFault.TheVariants.{Xdr, Illegal}
use Rattle.n41_attr.proofs.PartsLawful.{hyper_lawful, flag_lawful, string_lawful, stateid_lawful, session_lawful, fh_lawful, bitmap_lawful}
use Rattle.n41_session_args.proofs.Lawful.{exchange_id_lawful, create_session_lawful, bind_lawful, sequence_lawful}
use Rattle.n41_args.specs.declared.openings.OpenArgs.{OpenArgs}
use Rattle.n41_args.specs.declared.openings.OpenHow.{OpenHow}
use Rattle.n41_args.specs.declared.openings.OpenHow.TheVariants as how
use Rattle.n41_args.specs.declared.arg.Arg.{Arg}
use Rattle.n41_args.specs.declared.arg.Arg.TheVariants as arg
use Rattle.n41_args.specs.Openings.{how_of, written_how, open_of, written_open}
use Rattle.n41_args.specs.Args.{operation_of, ToldArg, Kept, Create, Open, SetAttr, arg_of, written_arg, kept_arm, arg_arm, arg_rows, told_arg}
use Rattle.n41_args.proofs.PartsLawful.{lock_lawful, lock_test_lawful, unlock_lawful, close_lawful, downgrade_lawful, told_open_lawful, commit_lawful, read_args_lawful, write_args_lawful, told_set_attr_lawful, stateids_lawful, told_create_lawful, read_dir_lawful, rename_lawful}

rows_lawful : AllByRecursion (RowIsLawful arg_arm) arg_rows
rows_lawful = (
  row_lawful arg_arm (number op.Close) (λ a. Kept (arg.Close a)) _ (λ _. refl) close_lawful,
  (
    row_lawful arg_arm (number op.Commit) (λ a. Kept (arg.Commit a)) _ (λ _. refl) commit_lawful,
    (
      row_lawful arg_arm (number op.Create) (λ a. Create a) _ (λ _. refl) told_create_lawful,
      (
        row_lawful arg_arm (number op.DelegReturn) (λ s. Kept (arg.DelegReturn s)) _ (λ _. refl) stateid_lawful,
        (
          row_lawful arg_arm (number op.GetAttr) (λ mask. Kept (arg.GetAttr mask)) _ (λ _. refl) bitmap_lawful,
          (
            row_lawful arg_arm (number op.GetFh) (λ _. Kept arg.GetFh) _ (λ _. refl) nothing_lawful,
            (
              row_lawful arg_arm (number op.Lock) (λ a. Kept (arg.Lock a)) _ (λ _. refl) lock_lawful,
              (
                row_lawful arg_arm (number op.LockTest) (λ a. Kept (arg.LockTest a)) _ (λ _. refl) lock_test_lawful,
                (
                  row_lawful arg_arm (number op.Unlock) (λ a. Kept (arg.Unlock a)) _ (λ _. refl) unlock_lawful,
                  (
                    row_lawful arg_arm (number op.Lookup) (λ name. Kept (arg.Lookup name)) _ (λ _. refl) string_lawful,
                    (
                      row_lawful arg_arm (number op.Open) (λ a. Open a) _ (λ _. refl) told_open_lawful,
                      (
                        row_lawful arg_arm (number op.OpenDowngrade) (λ a. Kept (arg.OpenDowngrade a)) _ (λ _. refl) downgrade_lawful,
                        (
                          row_lawful arg_arm (number op.PutFh) (λ x. Kept (arg.PutFh x)) _ (λ _. refl) fh_lawful,
                          (
                            row_lawful arg_arm (number op.PutRootFh) (λ _. Kept arg.PutRootFh) _ (λ _. refl) nothing_lawful,
                            (
                              row_lawful arg_arm (number op.Read) (λ a. Kept (arg.Read a)) _ (λ _. refl) read_args_lawful,
                              (
                                row_lawful arg_arm (number op.ReadDir) (λ a. Kept (arg.ReadDir a)) _ (λ _. refl) read_dir_lawful,
                                (
                                  row_lawful arg_arm (number op.Remove) (λ name. Kept (arg.Remove name)) _ (λ _. refl) string_lawful,
                                  (
                                    row_lawful arg_arm (number op.Rename) (λ a. Kept (arg.Rename a)) _ (λ _. refl) rename_lawful,
                                    (
                                      row_lawful arg_arm (number op.SaveFh) (λ _. Kept arg.SaveFh) _ (λ _. refl) nothing_lawful,
                                      (
                                        row_lawful arg_arm (number op.SetAttr) (λ a. SetAttr a) _ (λ _. refl) told_set_attr_lawful,
                                        (
                                          row_lawful arg_arm (number op.Write) (λ a. Kept (arg.Write a)) _ (λ _. refl) write_args_lawful,
                                          (
                                            row_lawful arg_arm (number op.Bind) (λ a. Kept (arg.Bind a)) _ (λ _. refl) bind_lawful,
                                            (
                                              row_lawful arg_arm (number op.ExchangeId) (λ a. Kept (arg.ExchangeId a)) _ (λ _. refl) exchange_id_lawful,
                                              (
                                                row_lawful arg_arm (number op.CreateSession) (λ a. Kept (arg.CreateSession a)) _ (λ _. refl) create_session_lawful,
                                                (
                                                  row_lawful arg_arm (number op.DestroySession) (λ sid. Kept (arg.DestroySession sid)) _ (λ _. refl) session_lawful,
                                                  (
                                                    row_lawful arg_arm (number op.FreeStateid) (λ s. Kept (arg.FreeStateid s)) _ (λ _. refl) stateid_lawful,
                                                    (
                                                      row_lawful arg_arm (number op.Sequence) (λ a. Kept (arg.Sequence a)) _ (λ _. refl) sequence_lawful,
                                                      (
                                                        row_lawful arg_arm (number op.TestStateid) (λ list. Kept (arg.TestStateid list)) _ (λ _. refl) stateids_lawful,
                                                        (
                                                          row_lawful arg_arm (number op.DestroyClient) (λ client. Kept (arg.DestroyClient client)) _ (λ _. refl) hyper_lawful,
                                                          (
                                                            row_lawful arg_arm (number op.ReclaimComplete) (λ one_fs. Kept (arg.ReclaimComplete one_fs)) _ (λ _. refl) flag_lawful,
                                                            (
                                                              row_lawful arg_arm (number op.Illegal) (λ _. Kept arg.Illegal) _ (λ _. refl) nothing_lawful,
                                                              tt,
                                                            ),
                                                          ),
                                                        ),
                                                      ),
                                                    ),
                                                  ),
                                                ),
                                              ),
                                            ),
                                          ),
                                        ),
                                      ),
                                    ),
                                  ),
                                ),
                              ),
                            ),
                          ),
                        ),
                      ),
                    ),
                  ),
                ),
              ),
            ),
          ),
        ),
      ),
    ),
  ),
)

kept_again : (a : Arg) (rest : List ℕ) → (kept_arm a).Fits → choose Illegal arg_rows (kept_arm a).number ((kept_arm a).text ++ rest) ≡ Ok (Kept a, rest)
kept_again (arg.Close a) rest fits = made_again (λ a. Kept (arg.Close a)) _ close_lawful a rest fits
kept_again (arg.Commit a) rest fits = made_again (λ a. Kept (arg.Commit a)) _ commit_lawful a rest fits
kept_again (arg.Create a) rest fits = absurd fits
kept_again (arg.DelegReturn s) rest fits = made_again (λ s. Kept (arg.DelegReturn s)) _ stateid_lawful s rest fits
kept_again (arg.GetAttr mask) rest fits = made_again (λ mask. Kept (arg.GetAttr mask)) _ bitmap_lawful mask rest fits
kept_again arg.GetFh rest fits = refl
kept_again (arg.Lock a) rest fits = made_again (λ a. Kept (arg.Lock a)) _ lock_lawful a rest fits
kept_again (arg.LockTest a) rest fits = made_again (λ a. Kept (arg.LockTest a)) _ lock_test_lawful a rest fits
kept_again (arg.Unlock a) rest fits = made_again (λ a. Kept (arg.Unlock a)) _ unlock_lawful a rest fits
kept_again (arg.Lookup name) rest fits = made_again (λ name. Kept (arg.Lookup name)) _ string_lawful name rest fits
kept_again (arg.Open a) rest fits = absurd fits
kept_again (arg.OpenDowngrade a) rest fits = made_again (λ a. Kept (arg.OpenDowngrade a)) _ downgrade_lawful a rest fits
kept_again (arg.PutFh x) rest fits = made_again (λ x. Kept (arg.PutFh x)) _ fh_lawful x rest fits
kept_again arg.PutRootFh rest fits = refl
kept_again (arg.Read a) rest fits = made_again (λ a. Kept (arg.Read a)) _ read_args_lawful a rest fits
kept_again (arg.ReadDir a) rest fits = made_again (λ a. Kept (arg.ReadDir a)) _ read_dir_lawful a rest fits
kept_again (arg.Remove name) rest fits = made_again (λ name. Kept (arg.Remove name)) _ string_lawful name rest fits
kept_again (arg.Rename a) rest fits = made_again (λ a. Kept (arg.Rename a)) _ rename_lawful a rest fits
kept_again arg.SaveFh rest fits = refl
kept_again (arg.SetAttr a) rest fits = absurd fits
kept_again (arg.Write a) rest fits = made_again (λ a. Kept (arg.Write a)) _ write_args_lawful a rest fits
kept_again (arg.Bind a) rest fits = made_again (λ a. Kept (arg.Bind a)) _ bind_lawful a rest fits
kept_again (arg.ExchangeId a) rest fits = made_again (λ a. Kept (arg.ExchangeId a)) _ exchange_id_lawful a rest fits
kept_again (arg.CreateSession a) rest fits = made_again (λ a. Kept (arg.CreateSession a)) _ create_session_lawful a rest fits
kept_again (arg.DestroySession sid) rest fits = made_again (λ sid. Kept (arg.DestroySession sid)) _ session_lawful sid rest fits
kept_again (arg.FreeStateid s) rest fits = made_again (λ s. Kept (arg.FreeStateid s)) _ stateid_lawful s rest fits
kept_again (arg.Sequence a) rest fits = made_again (λ a. Kept (arg.Sequence a)) _ sequence_lawful a rest fits
kept_again (arg.TestStateid list) rest fits = made_again (λ list. Kept (arg.TestStateid list)) _ stateids_lawful list rest fits
kept_again (arg.DestroyClient client) rest fits = made_again (λ client. Kept (arg.DestroyClient client)) _ hyper_lawful client rest fits
kept_again (arg.ReclaimComplete one_fs) rest fits = made_again (λ one_fs. Kept (arg.ReclaimComplete one_fs)) _ flag_lawful one_fs rest fits
kept_again arg.Illegal rest fits = refl

again : (a : ToldArg) (rest : List ℕ) → (arg_arm a).Fits → choose Illegal arg_rows (arg_arm a).number ((arg_arm a).text ++ rest) ≡ Ok (a, rest)
again (Kept a) rest fits = kept_again a rest fits
again (Create a) rest fits = made_again (λ a. Create a) _ told_create_lawful a rest fits
again (Open a) rest fits = made_again (λ a. Open a) _ told_open_lawful a rest fits
again (SetAttr a) rest fits = made_again (λ a. SetAttr a) _ told_set_attr_lawful a rest fits

pub told_arg_lawful : IsLawful told_arg
unfolding told_arg
told_arg_lawful = union_lawful Xdr Illegal arg_rows arg_arm rows_lawful again

-- ---- what is written

how_kept : (h : OpenHow) → how_of (written_how h) ≡ h
how_kept how.NoCreate = refl
how_kept (how.Create guarded a) = refl

open_kept : (a : OpenArgs) → open_of (written_open a) ≡ a
open_kept a = ap (λ (h : OpenHow). let r : OpenArgs = record a { how = h } in r) (how_kept a.how)

pub arg_kept : (a : Arg) → arg_of (written_arg a) ≡ a
arg_kept (arg.Close a) = refl
arg_kept (arg.Commit a) = refl
arg_kept (arg.Create a) = refl
arg_kept (arg.DelegReturn s) = refl
arg_kept (arg.GetAttr mask) = refl
arg_kept arg.GetFh = refl
arg_kept (arg.Lock a) = refl
arg_kept (arg.LockTest a) = refl
arg_kept (arg.Unlock a) = refl
arg_kept (arg.Lookup name) = refl
arg_kept (arg.Open a) = ap (λ (x : OpenArgs). arg.Open x) (open_kept a)
arg_kept (arg.OpenDowngrade a) = refl
arg_kept (arg.PutFh x) = refl
arg_kept arg.PutRootFh = refl
arg_kept (arg.Read a) = refl
arg_kept (arg.ReadDir a) = refl
arg_kept (arg.Remove name) = refl
arg_kept (arg.Rename a) = refl
arg_kept arg.SaveFh = refl
arg_kept (arg.SetAttr a) = refl
arg_kept (arg.Write a) = refl
arg_kept (arg.Bind a) = refl
arg_kept (arg.ExchangeId a) = refl
arg_kept (arg.CreateSession a) = refl
arg_kept (arg.DestroySession sid) = refl
arg_kept (arg.FreeStateid s) = refl
arg_kept (arg.Sequence a) = refl
arg_kept (arg.TestStateid list) = refl
arg_kept (arg.DestroyClient client) = refl
arg_kept (arg.ReclaimComplete one_fs) = refl
arg_kept arg.Illegal = refl

pub written_read : (a : Arg) (rest : List ℕ) → told_arg.Fits (written_arg a) → made arg_of told_arg (told_arg.spell (written_arg a) ++ rest) ≡ Ok (a, rest)
written_read a rest fits =
    made_again arg_of told_arg told_arg_lawful (written_arg a) rest fits
    ∙ ap (λ (x : Arg). let r : Result (Arg × List ℕ) OpFault = Ok (x, rest) in r) (arg_kept a)

-- the number that is written is that of the operation
pub number_kept : (a : Arg) → (arg_arm (written_arg a)).number ≡ number (operation_of a)
number_kept (arg.Close a) = refl
number_kept (arg.Commit a) = refl
number_kept (arg.Create a) = refl
number_kept (arg.DelegReturn s) = refl
number_kept (arg.GetAttr mask) = refl
number_kept arg.GetFh = refl
number_kept (arg.Lock a) = refl
number_kept (arg.LockTest a) = refl
number_kept (arg.Unlock a) = refl
number_kept (arg.Lookup name) = refl
number_kept (arg.Open a) = refl
number_kept (arg.OpenDowngrade a) = refl
number_kept (arg.PutFh x) = refl
number_kept arg.PutRootFh = refl
number_kept (arg.Read a) = refl
number_kept (arg.ReadDir a) = refl
number_kept (arg.Remove name) = refl
number_kept (arg.Rename a) = refl
number_kept arg.SaveFh = refl
number_kept (arg.SetAttr a) = refl
number_kept (arg.Write a) = refl
number_kept (arg.Bind a) = refl
number_kept (arg.ExchangeId a) = refl
number_kept (arg.CreateSession a) = refl
number_kept (arg.DestroySession sid) = refl
number_kept (arg.FreeStateid s) = refl
number_kept (arg.Sequence a) = refl
number_kept (arg.TestStateid list) = refl
number_kept (arg.DestroyClient client) = refl
number_kept (arg.ReclaimComplete one_fs) = refl
number_kept arg.Illegal = refl
