use Rattle.std.proofs.Common.{rules}
use Rattle.std.proofs.lemmas.Map.Made.{map_same_pairs}
use Rattle.n41_opens.specs.Opens.{moved}
use Rattle.n41_opens.proofs.handles.move_all.Goals as goal

pub returns : goal.returns
returns c = map_same_pairs _ (λ v. moved c.args.id.now v) _ (λ k v b w f' t. search rules) _ _ c.retain.ensures.filtered
