use Rattle.std.proofs.Common.{sym, ◌∙◌, refl, Ok}
use Rattle.std.proofs.lemmas.Result.{err_from_is_err_and}
use Rattle.n41_results.specs.declared.results.Res.TheVariants as res
use Rattle.n41_ops.specs.Files.{told_listing, listing_of}
use Rattle.n41_ops.specs.Results.{ReadDir}
use Rattle.n41_ops.proofs.Kept.{listing_seen, answer_ok, answer_fails}
use Rattle.n41_ops.proofs.directories.read_read_dir.Goals as goal

pub returns-in_ok-read_listing-in-0 : goal.returns-in_ok-read_listing-in-0
returns-in_ok-read_listing-in-0 c =
    rw (c.in_ok-number.ensures, c.in-0.is)
    (answer_ok listing_of (λ x. ReadDir x) (λ l. res.ReadDir (Ok l)) (λ _. refl) (told_listing.read c.u32.new.self) (c.in_ok-read_listing-in-0.field-0, c.read_listing.new.r) (sym (listing_seen.reads c.u32.new.self) ∙ c.in_ok-read_listing-in-0.ensures))

pub returns-in_err-read_listing-in-0 : goal.returns-in_err-read_listing-in-0
returns-in_err-read_listing-in-0 c =
    let p = err_from_is_err_and c.from_residual-in_err-read_listing-in-0.result c.from_residual-in_err-read_listing-in-0.ensures.1 in
    rw (c.in_ok-number.ensures, c.in-0.is, p.1, p.2)
    (answer_fails listing_of (λ x. ReadDir x) c.in_err-read_listing-in-0.field-0.0 c.read_listing.new.r (told_listing.read c.u32.new.self) (rw (listing_seen.reads c.u32.new.self) at c.in_err-read_listing-in-0.ensures))
