use Rattle.std.proofs.Common.{◌≡◌, get_or, sym, ap, ◌∙◌, refl, false, arith}
use Rattle.n41_words.specs.Words.{same}
use Rattle.n41_commands.specs.Commands.{verbs, verb_text}
use Rattle.n41_commands.specs.declared.verb.Verb.TheVariants as verb
use Rattle.n41_commands.proofs.Verbs.{not_this}
use Rattle.n41_commands.proofs.verb.read_verb.Goals as goal

pub loop-verb-preserved : goal.loop-verb-preserved
loop-verb-preserved c =
    let e : c.text.result.now ≡ verb_text (get_or verbs c.loop-verb.verb-index verb.Create) = c.text.ensures in
    let f : same c.args.word.now (verb_text (get_or verbs c.loop-verb.verb-index verb.Create)) ≡ false = ap (same c.args.word.now) (sym e) ∙ sym c.is_word.ensures ∙ c.if-is_word.false in
    not_this verbs c.loop-verb.verb-index _ _ c.args.word.now (omega arith) refl f ∙ c.loop-verb.invariant
