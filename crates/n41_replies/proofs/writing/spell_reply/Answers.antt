use Rattle.std.proofs.Common.{◌≡◌, List, ℕ, subst, sym, arith}
use Rattle.std.proofs.lemmas.Grind.{common_steps}
use Rattle.n41_replies.specs.Replies.{Spells, written}
use Rattle.n41_replies.proofs.Spelled.{written_spells}
use Rattle.n41_replies.proofs.writing.spell_reply.Goals as goal

pub returns-clause-spells : goal.returns-clause-spells
returns-clause-spells c =
    let text : c.in_ok-from_vec.field-0 ≡ written c.args.reply.now = grind (arith, common_steps) in
    subst (λ (bytes : List ℕ). Spells c.args.reply.now bytes) (sym text) (written_spells c.args.reply.now c.requires)
