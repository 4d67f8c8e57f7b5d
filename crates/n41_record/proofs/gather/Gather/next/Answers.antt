use Rattle.std.proofs.Common.{List, ℕ, ◌++◌, ◌∷◌, [], refl, sym, ap, ◌∙◌, append_assoc}
use Rattle.n41_record.proofs.Gathering.{sound_leaves, along}
use Rattle.n41_record.proofs.gather.Gather.next.Goals as goal

pub returns-in_err-bytes-clause-stands : goal.returns-in_err-bytes-clause-stands
returns-in_err-bytes-clause-stands c =
    sound_leaves _ _ c.self.inside.partial c.self.inside.fault
    (along _ _ _ _ _ _ refl (ap (λ (w : List (List ℕ)). c.self.inside.history.given ++ w) c.in_err-bytes.ensures.items) c.self.invariant)

pub invariant_of-self-2 : goal.invariant_of-self-2
invariant_of-self-2 c =
    let given : List (List ℕ) = c.self.inside.history.given in
    let new : List (List ℕ) = c.pop_front.new.self.items in
    along _ _ _ _ c.self.inside.partial c.self.inside.fault (sym c.with_record.ensures.0)
    (ap (λ (w : List (List ℕ)). given ++ w) c.in_ok-bytes.ensures.items ∙ sym (append_assoc given (c.in_ok-bytes.bytes ∷ []) new)
    ∙ ap (λ (g : List (List ℕ)). g ++ new) (sym (c.with_record.ensures.1 ∙ ap (λ (b : List ℕ). given ++ b ∷ []) c.as_slice.ensures)))
    c.self.invariant

pub returns-clause-stands : goal.returns-clause-stands
returns-clause-stands c =
    let given : List (List ℕ) = c.self.inside.history.given in
    let new : List (List ℕ) = c.pop_front.new.self.items in
    sound_leaves _ _ c.self.inside.partial c.self.inside.fault
    (along _ _ _ _ c.self.inside.partial c.self.inside.fault (sym c.with_record.ensures.0)
    (ap (λ (w : List (List ℕ)). given ++ w) c.in_ok-bytes.ensures.items ∙ sym (append_assoc given (c.in_ok-bytes.bytes ∷ []) new)
    ∙ ap (λ (g : List (List ℕ)). g ++ new) (sym (c.with_record.ensures.1 ∙ ap (λ (b : List ℕ). given ++ b ∷ []) c.as_slice.ensures)))
    c.self.invariant)
