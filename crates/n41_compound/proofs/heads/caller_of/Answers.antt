use Rattle.std.proofs.Common.{List, ℕ, sym, ap, ◌∙◌}
use Rattle.n41_xdr.specs.Format.{made}
use Rattle.n41_compound.specs.Heads.{ids, ids_in, told_ids}
use Rattle.n41_compound.proofs.Callers.{found_by, ids_again, body_by}
use Rattle.n41_compound.proofs.heads.caller_of.Goals as goal

pub returns-clause-found : goal.returns-clause-found
returns-clause-found c =
    found_by c.ids_in.result c.args.call.now c.as_slice.result.now (sym c.is_whole.ensures ∙ c.if-not-is_whole.false) c.ids_in.ensures.ids c.ids_in.ensures.bytes c.as_slice.ensures

pub returns-clause-only : goal.returns-clause-only
returns-clause-only c =
    λ uid gid u g by.
    c.ids_in.ensures.ids
    ∙ ap (λ (b : List ℕ). ids_in (made told_ids ids b)) (c.as_slice.ensures ∙ body_by c.args.call.now uid gid by)
    ∙ ids_again uid gid u g
