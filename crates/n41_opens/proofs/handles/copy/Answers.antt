use Rattle.std.proofs.lemmas.Map.Entries.{entries_from_clone}
use Rattle.n41_opens.proofs.Lists.{ok_as}
use Rattle.n41_opens.proofs.handles.copy.Goals as goal

pub returns : goal.returns
returns c = ok_as _ c.clone.result c.clone.ensures.cases (λ n z. entries_from_clone _ _ (λ x y e. e) (λ v w e. e) _ _ z)
