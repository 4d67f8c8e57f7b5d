use Rattle.std.proofs.Common.{◌≡◌, ◌++◌, ◌∷◌, [], Some, None, List, ℕ, ap, ◌∙◌, Global}
use Rattle.std.specs.declared.collections.VecDeque.{VecDeque}
use Rattle.n41_record.proofs.Gathering.{went_whole, went_more}
use Rattle.n41_record.proofs.pieces.gather_some.Goals as goal
use Rattle.n41_record.proofs.pieces.gather_some.Goals.{in-Some+in_ok-from_vec-in-Some+in_ok-push_back-in-Some, in-None}

pub returns : goal.returns
returns c = λ rest h.
    let u = c.in_ok-after.ensures rest h in (
      elim c.match-whole.branch [
        | in-Some+in_ok-from_vec-in-Some+in_ok-push_back-in-Some w ↦
            let is : c.in_ok-after.field-0.whole ≡ Some w.in-Some.bytes = cc in
            let new : c.match-whole.waiting.items ≡ c.args.waiting.now.items ++ w.in-Some.bytes.items ∷ [] = ap (λ (q : VecDeque (List ℕ) Global). q.items) w.waiting-is ∙ w.in_ok-push_back-in-Some.ensures.items ∙ ap (λ (b : List ℕ). c.args.waiting.now.items ++ b ∷ []) w.in_ok-from_vec-in-Some.ensures.ok in
            went_whole _ _ _ rest _ u.front _ c.in_ok-after.field-0.whole w.in-Some.bytes u.cut u.grown is new
        | in-None w ↦
            let is : c.in_ok-after.field-0.whole ≡ None = cc in
            let new : c.match-whole.waiting.items ≡ c.args.waiting.now.items = cc in
            went_more _ _ _ rest _ u.front _ c.in_ok-after.field-0.whole u.cut u.grown is new
      ],
      u.some,
    )
