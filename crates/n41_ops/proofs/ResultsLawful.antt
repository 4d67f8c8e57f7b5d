-- The results of operations are lawful.
use Rattle.std.proofs.Common.{◌≡◌, ℕ, List, ◌++◌, Result, Ok, refl, ap, ◌∙◌}
use Rattle.std.specs.List.{AllByRecursion}
use Rattle.n41_xdr.specs.Format.{choose, made, Arm}
use Rattle.n41_xdr.specs.Lawful.{IsLawful, RowIsLawful}
use Rattle.n41_xdr.proofs.Lawful.{both_lawful, nothing_lawful, row_lawful, made_again, union_lawful}
use Rattle.n41_types.specs.Operations.{number}
use Rattle.n41_types.specs.declared.operations.Operation.TheVariants as op
use Rattle.n41_results.specs.declared.results.Res.{Res}
use Rattle.n41_results.specs.declared.results.Res.TheVariants as res
use Rattle.n41_attr.specs.declared.fault.OpFault.{OpFault}
use Rattle.n41_attr.specs.declared.fault.OpFault.TheVariants.{Xdr, Illegal}
use Rattle.n41_attr.proofs.PartsLawful.{stateid_lawful, verifier_lawful, fh_lawful, bitmap_lawful, fattr_lawful, status_lawful, outcome_lawful, failure_lawful}
use Rattle.n41_ops.specs.Results.{ToldRes, Kept, GetAttr, ReadDir, kept_arm, res_arm, res_rows, told_res, res_of, written_res}
use Rattle.n41_ops.proofs.OpeningsLawful.{change_info_lawful, opened_lawful}
use Rattle.n41_ops.proofs.LocksLawful.{lock_outcome_lawful}
use Rattle.n41_ops.proofs.SessionsLawful.{identity_lawful, session_made_lawful, bound_lawful, sequenced_lawful, statuses_lawful}
use Rattle.n41_ops.proofs.FilesLawful.{created_lawful, renamed_lawful, content_lawful, put_lawful, told_listing_lawful}
use Rattle.n41_ops.proofs.Kept.{res_kept}

rows_lawful : AllByRecursion (RowIsLawful res_arm) res_rows
rows_lawful = (
  row_lawful res_arm (number op.Close) (λ x. Kept (res.Close x)) _ (λ _. refl) (outcome_lawful _ stateid_lawful),
  (
    row_lawful res_arm (number op.Commit) (λ x. Kept (res.Commit x)) _ (λ _. refl) (outcome_lawful _ verifier_lawful),
    (
      row_lawful res_arm (number op.Create) (λ x. Kept (res.Create x)) _ (λ _. refl) (outcome_lawful _ created_lawful),
      (
        row_lawful res_arm (number op.DelegReturn) (λ x. Kept (res.DelegReturn x)) _ (λ _. refl) status_lawful,
        (
          row_lawful res_arm (number op.GetAttr) (λ x. GetAttr x) _ (λ _. refl) (outcome_lawful _ fattr_lawful),
          (
            row_lawful res_arm (number op.GetFh) (λ x. Kept (res.GetFh x)) _ (λ _. refl) (outcome_lawful _ fh_lawful),
            (
              row_lawful res_arm (number op.Lock) (λ x. Kept (res.Lock x)) _ (λ _. refl) (lock_outcome_lawful _ stateid_lawful),
              (
                row_lawful res_arm (number op.LockTest) (λ x. Kept (res.LockTest x)) _ (λ _. refl) (lock_outcome_lawful _ nothing_lawful),
                (
                  row_lawful res_arm (number op.Unlock) (λ x. Kept (res.Unlock x)) _ (λ _. refl) (outcome_lawful _ stateid_lawful),
                  (
                    row_lawful res_arm (number op.Lookup) (λ x. Kept (res.Lookup x)) _ (λ _. refl) status_lawful,
                    (
                      row_lawful res_arm (number op.Open) (λ x. Kept (res.Open x)) _ (λ _. refl) (outcome_lawful _ opened_lawful),
                      (
                        row_lawful res_arm (number op.OpenDowngrade) (λ x. Kept (res.OpenDowngrade x)) _ (λ _. refl) (outcome_lawful _ stateid_lawful),
                        (
                          row_lawful res_arm (number op.PutFh) (λ x. Kept (res.PutFh x)) _ (λ _. refl) status_lawful,
                          (
                            row_lawful res_arm (number op.PutRootFh) (λ x. Kept (res.PutRootFh x)) _ (λ _. refl) status_lawful,
                            (
                              row_lawful res_arm (number op.Read) (λ x. Kept (res.Read x)) _ (λ _. refl) (outcome_lawful _ content_lawful),
                              (
                                row_lawful res_arm (number op.ReadDir) (λ x. ReadDir x) _ (λ _. refl) (outcome_lawful _ told_listing_lawful),
                                (
                                  row_lawful res_arm (number op.Remove) (λ x. Kept (res.Remove x)) _ (λ _. refl) (outcome_lawful _ change_info_lawful),
                                  (
                                    row_lawful res_arm (number op.Rename) (λ x. Kept (res.Rename x)) _ (λ _. refl) (outcome_lawful _ renamed_lawful),
                                    (
                                      row_lawful res_arm (number op.SaveFh) (λ x. Kept (res.SaveFh x)) _ (λ _. refl) status_lawful,
                                      (
                                        row_lawful res_arm (number op.SetAttr) (λ x. Kept (res.SetAttr x.0 x.1)) _ (λ _. refl) (both_lawful _ _ status_lawful bitmap_lawful),
                                        (
                                          row_lawful res_arm (number op.Write) (λ x. Kept (res.Write x)) _ (λ _. refl) (outcome_lawful _ put_lawful),
                                          (
                                            row_lawful res_arm (number op.Bind) (λ x. Kept (res.Bind x)) _ (λ _. refl) (outcome_lawful _ bound_lawful),
                                            (
                                              row_lawful res_arm (number op.ExchangeId) (λ x. Kept (res.ExchangeId x)) _ (λ _. refl) (outcome_lawful _ identity_lawful),
                                              (
                                                row_lawful res_arm (number op.CreateSession) (λ x. Kept (res.CreateSession x)) _ (λ _. refl) (outcome_lawful _ session_made_lawful),
                                                (
                                                  row_lawful res_arm (number op.DestroySession) (λ x. Kept (res.DestroySession x)) _ (λ _. refl) status_lawful,
                                                  (
                                                    row_lawful res_arm (number op.FreeStateid) (λ x. Kept (res.FreeStateid x)) _ (λ _. refl) status_lawful,
                                                    (
                                                      row_lawful res_arm (number op.Sequence) (λ x. Kept (res.Sequence x)) _ (λ _. refl) (outcome_lawful _ sequenced_lawful),
                                                      (
                                                        row_lawful res_arm (number op.TestStateid) (λ x. Kept (res.TestStateid x)) _ (λ _. refl) (outcome_lawful _ statuses_lawful),
                                                        (
                                                          row_lawful res_arm (number op.DestroyClient) (λ x. Kept (res.DestroyClient x)) _ (λ _. refl) status_lawful,
                                                          (
                                                            row_lawful res_arm (number op.ReclaimComplete) (λ x. Kept (res.ReclaimComplete x)) _ (λ _. refl) status_lawful,
                                                            (row_lawful res_arm (number op.Illegal) (λ x. Kept (res.Illegal x)) _ (λ _. refl) failure_lawful, tt),
                                                          ),
                                                        ),
                                                      ),
                                                    ),
                                                  ),
                                                ),
                                              ),
                                            ),
                                          ),
                                        ),
                                      ),
                                    ),
                                  ),
                                ),
                              ),
                            ),
                          ),
                        ),
                      ),
                    ),
                  ),
                ),
              ),
            ),
          ),
        ),
      ),
    ),
  ),
)

kept_again : (x : Res) (rest : List ℕ) → (kept_arm x).Fits → choose Illegal res_rows (kept_arm x).number ((kept_arm x).text ++ rest) ≡ Ok (Kept x, rest)
kept_again (res.Close x) rest fits = made_again _ _ (outcome_lawful _ stateid_lawful) x rest fits
kept_again (res.Commit x) rest fits = made_again _ _ (outcome_lawful _ verifier_lawful) x rest fits
kept_again (res.Create x) rest fits = made_again _ _ (outcome_lawful _ created_lawful) x rest fits
kept_again (res.DelegReturn x) rest fits = made_again _ _ status_lawful x rest fits
kept_again (res.GetAttr x) rest fits = absurd fits
kept_again (res.GetFh x) rest fits = made_again _ _ (outcome_lawful _ fh_lawful) x rest fits
kept_again (res.Lock x) rest fits = made_again _ _ (lock_outcome_lawful _ stateid_lawful) x rest fits
kept_again (res.LockTest x) rest fits = made_again _ _ (lock_outcome_lawful _ nothing_lawful) x rest fits
kept_again (res.Unlock x) rest fits = made_again _ _ (outcome_lawful _ stateid_lawful) x rest fits
kept_again (res.Lookup x) rest fits = made_again _ _ status_lawful x rest fits
kept_again (res.Open x) rest fits = made_again _ _ (outcome_lawful _ opened_lawful) x rest fits
kept_again (res.OpenDowngrade x) rest fits = made_again _ _ (outcome_lawful _ stateid_lawful) x rest fits
kept_again (res.PutFh x) rest fits = made_again _ _ status_lawful x rest fits
kept_again (res.PutRootFh x) rest fits = made_again _ _ status_lawful x rest fits
kept_again (res.Read x) rest fits = made_again _ _ (outcome_lawful _ content_lawful) x rest fits
kept_again (res.ReadDir x) rest fits = absurd fits
kept_again (res.Remove x) rest fits = made_again _ _ (outcome_lawful _ change_info_lawful) x rest fits
kept_again (res.Rename x) rest fits = made_again _ _ (outcome_lawful _ renamed_lawful) x rest fits
kept_again (res.SaveFh x) rest fits = made_again _ _ status_lawful x rest fits
kept_again (res.SetAttr s set) rest fits = made_again _ _ (both_lawful _ _ status_lawful bitmap_lawful) (s, set) rest fits
kept_again (res.Write x) rest fits = made_again _ _ (outcome_lawful _ put_lawful) x rest fits
kept_again (res.Bind x) rest fits = made_again _ _ (outcome_lawful _ bound_lawful) x rest fits
kept_again (res.ExchangeId x) rest fits = made_again _ _ (outcome_lawful _ identity_lawful) x rest fits
kept_again (res.CreateSession x) rest fits = made_again _ _ (outcome_lawful _ session_made_lawful) x rest fits
kept_again (res.DestroySession x) rest fits = made_again _ _ status_lawful x rest fits
kept_again (res.FreeStateid x) rest fits = made_again _ _ status_lawful x rest fits
kept_again (res.Sequence x) rest fits = made_again _ _ (outcome_lawful _ sequenced_lawful) x rest fits
kept_again (res.TestStateid x) rest fits = made_again _ _ (outcome_lawful _ statuses_lawful) x rest fits
kept_again (res.DestroyClient x) rest fits = made_again _ _ status_lawful x rest fits
kept_again (res.ReclaimComplete x) rest fits = made_again _ _ status_lawful x rest fits
kept_again (res.Illegal x) rest fits = made_again _ _ failure_lawful x rest fits

res_again : (x : ToldRes) (rest : List ℕ) → (res_arm x).Fits → choose Illegal res_rows (res_arm x).number ((res_arm x).text ++ rest) ≡ Ok (x, rest)
res_again (Kept x) rest fits = kept_again x rest fits
res_again (GetAttr x) rest fits = made_again _ _ (outcome_lawful _ fattr_lawful) x rest fits
res_again (ReadDir x) rest fits = made_again _ _ (outcome_lawful _ told_listing_lawful) x rest fits

pub told_res_lawful : IsLawful told_res
unfolding told_res
told_res_lawful = union_lawful Xdr Illegal res_rows res_arm rows_lawful res_again

-- what is written is read as the result that it was
pub written_read : (x : Res) (rest : List ℕ) → told_res.Fits (written_res x) → made res_of told_res (told_res.spell (written_res x) ++ rest) ≡ Ok (x, rest)
written_read x rest fits =
    made_again res_of told_res told_res_lawful (written_res x) rest fits ∙ ap (λ (r : Res). let z : Result (Res × List ℕ) OpFault = Ok (r, rest) in z) (res_kept x)
