-- Replies that were read can be written.
use Rattle.std.proofs.Common.{◌≡◌, ◌<◌, ◌≤◌, ◌^◌, ℕ, List, [], ◌∷◌, length, map, Result, Ok, Err, refl, sym, ap, subst, ◌∙◌, arith}
use Rattle.std.specs.List.{AllByRecursion}
use Rattle.std.proofs.lemmas.List.{length-map}
use Rattle.n41_attr.specs.Attributes.{Told}
use Rattle.n41_results.specs.declared.replies.Reply.{Reply}
use Rattle.n41_results.specs.declared.replies.ReplyBody.{ReplyBody}
use Rattle.n41_results.specs.declared.replies.ReplyBody.TheVariants.{Denied, Rejected, Results}
use Rattle.n41_results.specs.declared.results.Res.{Res}
use Rattle.n41_results.specs.declared.results.Res.TheVariants as res
use Rattle.n41_rpc.specs.declared.heads.HeadBody.{HeadBody}
use Rattle.n41_rpc.specs.Heads.{Verdict, accepted, denied, success, no_program, mismatch, no_procedure, garbage, system_error, versions, auth, verdict_body, IsBody}
use Rattle.n41_ops.specs.Files.{ToldEntry, ToldListing, told_entry, entry_of, written_entry, told_listing, listing_of, written_listing}
use Rattle.n41_ops.specs.Results.{ToldRes, Kept, GetAttr, ReadDir, told_res, res_of, written_res}
use Rattle.n41_replies.specs.Replies.{head_body, BodyFits, Spells, WrittenFits, IsSpellable}
use Rattle.n41_codec_tests.proofs.Attributes.{attrs_again}

entries_again : (es : List ToldEntry) → AllByRecursion told_entry.Fits es → AllByRecursion told_entry.Fits (map written_entry (map entry_of es))
unfolding told_entry
entries_again [] fits = tt
entries_again (e ∷ es) fits = ((fits.0.0, (fits.0.1.0, attrs_again e.attrs fits.0.1.1)), entries_again es fits.1)

listing_again : (l : ToldListing) → told_listing.Fits l → told_listing.Fits (written_listing (listing_of l))
unfolding told_listing
listing_again l fits = (fits.0, (entries_again l.entries fits.1.0, fits.1.1))

res_again : (t : ToldRes) → told_res.Fits t → told_res.Fits (written_res (res_of t))
unfolding told_res
res_again (Kept (res.GetAttr x)) fits = absurd fits.1
res_again (Kept (res.ReadDir x)) fits = absurd fits.1
res_again (Kept _) fits = fits
res_again (GetAttr (Ok t)) fits = (fits.0, (fits.1.0, attrs_again t fits.1.1))
res_again (GetAttr (Err s)) fits = fits
res_again (ReadDir (Ok l)) fits = (fits.0, (fits.1.0, listing_again l fits.1.1))
res_again (ReadDir (Err s)) fits = fits

list_again : (told : List ToldRes) → AllByRecursion told_res.Fits told → AllByRecursion told_res.Fits (map written_res (map res_of told))
list_again [] fits = tt
list_again (t ∷ told) fits = (res_again t fits.0, list_again told fits.1)

body_again : (b : ReplyBody) (told : List ToldRes) → BodyFits b told → WrittenFits b
body_again (Denied n) told fits = tt
body_again (Rejected n) told fits = tt
body_again (Results s list) told fits = (
  fits.0,
  omega (arith, fits.1, ap length fits.3, length-map {A = ToldRes} {B = Res} told res_of),
  subst (λ (l : List Res). AllByRecursion told_res.Fits (map written_res l)) fits.3 (list_again told fits.2),
  fits.4,
)

is_body : (v : Verdict) → IsBody (verdict_body v)
is_body (accepted c success) = tt
is_body (accepted c no_program) = (omega arith, omega arith)
is_body (accepted c (mismatch low high)) = (omega arith, omega arith)
is_body (accepted c no_procedure) = (omega arith, omega arith)
is_body (accepted c garbage) = (omega arith, omega arith)
is_body (accepted c system_error) = (omega arith, omega arith)
is_body (denied (versions low high)) = omega arith
is_body (denied (auth n)) = omega arith

-- a reply that was read
pub reply_fits : (r : Reply) (bytes : List ℕ) → Spells r bytes → IsSpellable r
reply_fits r bytes s = (s.head_fits.0, subst (λ (b : HeadBody). IsBody b) s.says (is_body s.verdict), body_again r.body s.told s.body_fits)
