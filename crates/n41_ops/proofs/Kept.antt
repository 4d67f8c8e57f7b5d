-- What is kept of attributes, listings and results.
use Rattle.std.proofs.Common.{◌≡◌, ℕ, List, [], ◌∷◌, map, Result, Ok, Err, refl, ap, ◌∙◌}
use Rattle.n41_xdr.specs.declared.fault.XdrFault.{XdrFault}
use Rattle.n41_xdr.specs.Reading.{◌>>=◌}
use Rattle.n41_xdr.specs.Format.{chain}
use Rattle.n41_types.specs.Operations.{number}
use Rattle.n41_types.specs.declared.statuses.Status.{Status}
use Rattle.n41_results.specs.Results.{operation_of}
use Rattle.n41_types.specs.declared.attributes.Attrs.{Attrs}
use Rattle.n41_results.specs.declared.results.Entry.{Entry}
use Rattle.n41_results.specs.declared.results.Listing.{Listing}
use Rattle.n41_results.specs.declared.results.Res.{Res}
use Rattle.n41_results.specs.declared.results.Res.TheVariants as res
use Rattle.n41_attr.specs.declared.fault.OpFault.{OpFault}
use Rattle.n41_attr.specs.declared.fault.OpFault.TheVariants.{Xdr, Attr, Illegal, NoMemory}
use Rattle.n41_attr.specs.Attributes.{attrs_of, written}
use Rattle.n41_attr.specs.Operations.{Gives}
use Rattle.n41_attr.specs.Parts.{hyper, string, verifier, flag, fattr}
use Rattle.n41_ops.specs.Files.{told_entry, entry, entries, told_listing, listing, entry_of, written_entry, listing_of, written_listing, attrs, entry_parts, listing_parts}
use Rattle.n41_ops.specs.Results.{ToldRes, Kept, GetAttr, ReadDir, answer_as, res_of, written_res, res_arm, as_kept}
use Rattle.n41_ops.proofs.Seen.{IsSeen, mapped_seen, behind_seen, before_seen, both_mapped_seen, chain_seen}

pub entry_seen : IsSeen entry_of written_entry told_entry entry
unfolding told_entry entry
entry_seen =
    both_mapped_seen _ _ (entry_parts fattr) (entry_parts attrs) _ _ _ _ _ _
    (behind_seen _ _ hyper _ _ (behind_seen _ _ string _ _ (mapped_seen attrs_of written fattr)))
    (λ _. refl) (λ _. refl)

entries_seen : IsSeen (map entry_of) (map written_entry) (chain Xdr told_entry) entries
unfolding entries
entries_seen = chain_seen Xdr _ _ _ _ entry_seen

pub listing_seen : IsSeen listing_of written_listing told_listing listing
unfolding told_listing listing
listing_seen =
    both_mapped_seen _ _ (listing_parts (chain Xdr told_entry)) (listing_parts entries) _ _ _ _ _ _
    (behind_seen _ _ verifier _ _ (before_seen _ _ _ _ flag entries_seen))
    (λ _. refl) (λ _. refl)

-- ---- what is written is kept

entries_kept : (xs : List Entry) → map entry_of (map written_entry xs) ≡ xs
entries_kept [] = refl
entries_kept (x ∷ xs) = ap (λ (ys : List Entry). x ∷ ys) (entries_kept xs)

listing_kept : (l : Listing) → listing_of (written_listing l) ≡ l
listing_kept l = ap (λ (xs : List Entry). let r : Listing = record l { entries = xs } in r) (entries_kept l.entries)

answer_kept : {A B : Type 0} (to : A → B) (from : B → A) → ((b : B) → to (from b) ≡ b) → (x : Result B Status) → answer_as to (answer_as from x) ≡ x
answer_kept {A} {B} to from same (Ok b) = ap (λ (b : B). let r : Result B Status = Ok b in r) (same b)
answer_kept to from same (Err s) = refl

pub res_kept : (x : Res) → res_of (written_res x) ≡ x
res_kept (res.Close x) = refl
res_kept (res.Commit x) = refl
res_kept (res.Create x) = refl
res_kept (res.DelegReturn x) = refl
res_kept (res.GetAttr x) = ap (λ (r : Result Attrs Status). res.GetAttr r) (answer_kept attrs_of written (λ _. refl) x)
res_kept (res.GetFh x) = refl
res_kept (res.Lock x) = refl
res_kept (res.LockTest x) = refl
res_kept (res.Unlock x) = refl
res_kept (res.Lookup x) = refl
res_kept (res.Open x) = refl
res_kept (res.OpenDowngrade x) = refl
res_kept (res.PutFh x) = refl
res_kept (res.PutRootFh x) = refl
res_kept (res.Read x) = refl
res_kept (res.ReadDir x) = ap (λ (r : Result Listing Status). res.ReadDir r) (answer_kept listing_of written_listing listing_kept x)
res_kept (res.Remove x) = refl
res_kept (res.Rename x) = refl
res_kept (res.SaveFh x) = refl
res_kept (res.SetAttr s set) = refl
res_kept (res.Write x) = refl
res_kept (res.Bind x) = refl
res_kept (res.ExchangeId x) = refl
res_kept (res.CreateSession x) = refl
res_kept (res.DestroySession x) = refl
res_kept (res.FreeStateid x) = refl
res_kept (res.Sequence x) = refl
res_kept (res.TestStateid x) = refl
res_kept (res.DestroyClient x) = refl
res_kept (res.ReclaimComplete x) = refl
res_kept (res.Illegal x) = refl

-- what is written has the number of its operation
pub number_kept : (x : Res) → (res_arm (written_res x)).number ≡ number (operation_of x)
number_kept (res.Close x) = refl
number_kept (res.Commit x) = refl
number_kept (res.Create x) = refl
number_kept (res.DelegReturn x) = refl
number_kept (res.GetAttr x) = refl
number_kept (res.GetFh x) = refl
number_kept (res.Lock x) = refl
number_kept (res.LockTest x) = refl
number_kept (res.Unlock x) = refl
number_kept (res.Lookup x) = refl
number_kept (res.Open x) = refl
number_kept (res.OpenDowngrade x) = refl
number_kept (res.PutFh x) = refl
number_kept (res.PutRootFh x) = refl
number_kept (res.Read x) = refl
number_kept (res.ReadDir x) = refl
number_kept (res.Remove x) = refl
number_kept (res.Rename x) = refl
number_kept (res.SaveFh x) = refl
number_kept (res.SetAttr s set) = refl
number_kept (res.Write x) = refl
number_kept (res.Bind x) = refl
number_kept (res.ExchangeId x) = refl
number_kept (res.CreateSession x) = refl
number_kept (res.DestroySession x) = refl
number_kept (res.FreeStateid x) = refl
number_kept (res.Sequence x) = refl
number_kept (res.TestStateid x) = refl
number_kept (res.DestroyClient x) = refl
number_kept (res.ReclaimComplete x) = refl
number_kept (res.Illegal x) = refl

-- ---- an answer behind OK, of which more is told than is kept

abbrev answered : {A : Type 0} → Result (A × List ℕ) OpFault → Result (Result A Status × List ℕ) OpFault
answered read = read >>= λ x. Ok (Ok x.0, x.1)

abbrev told_as : {B : Type 0} → (B → ToldRes) → Result (B × List ℕ) OpFault → Result (ToldRes × List ℕ) OpFault
told_as to read = read >>= λ x. Ok (to x.0, x.1)

abbrev told_answer : {A : Type 0} → (Result A Status → ToldRes) → Result (A × List ℕ) OpFault → Result (Res × List ℕ) OpFault
told_answer to read = as_kept (told_as to (answered read))

abbrev seen : {A B : Type 0} → (A → B) → Result (A × List ℕ) OpFault → Result (B × List ℕ) OpFault
seen to read = read >>= λ x. Ok (to x.0, x.1)

pub answer_ok : {A B : Type 0} (view : A → B) (to : Result A Status → ToldRes) (from : B → Res) → ((a : A) → res_of (to (Ok a)) ≡ from (view a))
    → (read : Result (A × List ℕ) OpFault) (x : B × List ℕ) → seen view read ≡ Ok x → told_answer to read ≡ Ok (from x.0, x.1)
answer_ok {A} {B} view to from same (Ok a) x e =
    let x-is : (view a.0, a.1) ≡ x = cc in
    ap (λ (r : Res). let z : Result (Res × List ℕ) OpFault = Ok (r, a.1) in z) (same a.0) ∙ ap (λ (y : B × List ℕ). let z : Result (Res × List ℕ) OpFault = Ok (from y.0, y.1) in z) x-is
answer_ok view to from same (Err f) x e = absurd cc

answer_err : {A B : Type 0} (view : A → B) (to : Result A Status → ToldRes) (read : Result (A × List ℕ) OpFault) (f : OpFault) → seen view read ≡ Err f → told_answer to read ≡ Err f
answer_err view to (Ok a) f e = absurd cc
answer_err view to (Err g) f e = cc

pub answer_fails : {A B : Type 0} (view : A → B) (to : Result A Status → ToldRes) (f : OpFault) (new : List ℕ) (read : Result (A × List ℕ) OpFault)
    → Gives {X = B} {Y = B} (λ x. x) (Err f) new (seen view read) → Gives {X = Res} {Y = Res} (λ x. x) (Err f) new (told_answer to read)
answer_fails view to (Xdr f) new read h = answer_err view to read (Xdr f) h
answer_fails view to (Attr f) new read h = answer_err view to read (Attr f) h
answer_fails view to (Illegal n) new read h = answer_err view to read (Illegal n) h
answer_fails view to NoMemory new read h = tt
