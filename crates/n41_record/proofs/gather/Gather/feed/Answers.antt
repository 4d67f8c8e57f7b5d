use Rattle.std.proofs.Common.{List, ℕ, ◌++◌, ◌≡◌, None, Some, sym, ap, rules}
use Rattle.n41_record.proofs.Gathering.{sound_leaves, along, sound_ok, sound_err}
use Rattle.n41_record.proofs.gather.Gather.feed.Goals as goal

pub invariant_of-self : goal.invariant_of-self
invariant_of-self c =
    let is : c.self.inside.fault ≡ None = search rules in
    along _ _ _ _ _ _ (sym c.with_piece.ensures.0) (ap (λ (g : List (List ℕ)). g ++ c.gather_all.new.waiting.items) (sym c.with_piece.ensures.1))
    (sound_ok _ c.args.piece.now c.self.inside.history.given c.self.inside.waiting.items c.gather_all.new.waiting.items c.self.inside.partial _ _ c.in-Ok.field-0 is c.self.invariant (λ rest h. c.in-Ok.ensures rest h))

pub invariant_of-self-in-Err : goal.invariant_of-self-in-Err
invariant_of-self-in-Err c =
    let is : c.self.inside.fault ≡ None = search rules in
    along _ _ _ _ c.gather_all.new.partial (Some c.in-Err.fault) (sym c.with_piece.ensures.0) (ap (λ (g : List (List ℕ)). g ++ c.gather_all.new.waiting.items) (sym c.with_piece.ensures.1))
    (sound_err {T = Unit {0}} _ c.args.piece.now c.self.inside.history.given c.self.inside.waiting.items c.gather_all.new.waiting.items c.self.inside.partial _ _ c.in-Err.fault is c.self.invariant (λ rest h. c.in-Err.ensures rest h))

pub returns-in-Ok-clause-stands : goal.returns-in-Ok-clause-stands
returns-in-Ok-clause-stands c =
    let is : c.self.inside.fault ≡ None = search rules in
    sound_leaves _ _ c.gather_all.new.partial c.self.inside.fault
    (along _ _ _ _ _ _ (sym c.with_piece.ensures.0) (ap (λ (g : List (List ℕ)). g ++ c.gather_all.new.waiting.items) (sym c.with_piece.ensures.1))
    (sound_ok _ c.args.piece.now c.self.inside.history.given c.self.inside.waiting.items c.gather_all.new.waiting.items c.self.inside.partial _ _ c.in-Ok.field-0 is c.self.invariant (λ rest h. c.in-Ok.ensures rest h)))

pub returns-in-Err-clause-stands : goal.returns-in-Err-clause-stands
returns-in-Err-clause-stands c =
    let is : c.self.inside.fault ≡ None = search rules in
    sound_leaves _ _ c.gather_all.new.partial (Some c.in-Err.fault)
    (along _ _ _ _ c.gather_all.new.partial (Some c.in-Err.fault) (sym c.with_piece.ensures.0) (ap (λ (g : List (List ℕ)). g ++ c.gather_all.new.waiting.items) (sym c.with_piece.ensures.1))
    (sound_err {T = Unit {0}} _ c.args.piece.now c.self.inside.history.given c.self.inside.waiting.items c.gather_all.new.waiting.items c.self.inside.partial _ _ c.in-Err.fault is c.self.invariant (λ rest h. c.in-Err.ensures rest h)))
