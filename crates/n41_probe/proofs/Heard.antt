-- The first record that was heard, as it is lent out.
use Rattle.std.proofs.Common.{◌≡◌, ℕ, List, [], ◌∷◌, subst}
use Rattle.n41_record.specs.Streams.{BeginsWith}
use Rattle.n41_results.specs.declared.sessions.Identity.{Identity}
use Rattle.n41_probe.specs.Probes.{IsReply, HearsNone}

pub hears_none : (log body lent rest : List ℕ) → lent ≡ body → BeginsWith log (body ∷ []) rest → ((x : Identity) → IsReply x lent → ⊥) → HearsNone log
hears_none log body lent rest e first none = record {
  body = body;
  rest = rest;
  first = first;
  none = subst (λ (bytes : List ℕ). (x : Identity) → IsReply x bytes → ⊥) e none;
}
