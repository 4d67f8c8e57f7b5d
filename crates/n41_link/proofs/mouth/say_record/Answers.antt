use Rattle.std.proofs.Common.{◌∙◌, ap, sym, take, ◌++◌, List, ℕ}
use Rattle.n41_link.proofs.Texts.{known_as}
use Rattle.n41_link.proofs.mouth.say_record.Goals as goal

pub returns-then-written-clause-told : goal.returns-then-written-clause-told
returns-then-written-clause-told g c = λ k.
    known_as _ _ c.with_piece.result.bytes
    (ap (λ (t : List ℕ). c.args.sent.now.bytes ++ take c.write_text-written.result.len t) (c.deref.ensures.value ∙ sym c.deref-2.ensures.value)
    ∙ ap (λ (t : List ℕ). c.args.sent.now.bytes ++ t) (sym c.front_of.ensures) ∙ sym c.with_piece.ensures)
    (c.write_text-written.ensures.told c.args.sent.now.bytes k)

pub returns-clause-told : goal.returns-clause-told
returns-clause-told g c = λ k.
    known_as _ _ c.with_piece.result.bytes
    (ap (λ (t : List ℕ). c.args.sent.now.bytes ++ take c.write_text-written.result.len t) (c.deref.ensures.value ∙ sym c.deref-2.ensures.value)
    ∙ ap (λ (t : List ℕ). c.args.sent.now.bytes ++ t) (sym c.front_of.ensures) ∙ sym c.with_piece.ensures)
    (c.write_text-written.ensures.told c.args.sent.now.bytes k)
