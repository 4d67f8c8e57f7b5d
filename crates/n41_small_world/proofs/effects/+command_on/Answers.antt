use Rattle.std.proofs.lemmas.Result.{IfOk-weaker}
use Rattle.std.proofs.Common.{◌-◌, length, take, drop}
use Rattle.n41_legal.proofs.Parts.{split}
use Rattle.n41_small_world.proofs.Leading.{before_of}
use Rattle.n41_small_world.proofs.Names.{named_before, named_here}
use Rattle.n41_small_world.proofs.effects.+command_on.Goals as goal

pub returns-in-Some : goal.returns-in-Some
returns-in-Some t c = λ n o.
    let xs = c.args.run.now in
    let ys = take (length xs - 1) (drop 1 xs) in
    let st = c.step-item.result in
    let e = split xs st c.in-len1-up.len_at_least c.step-item.is in
    named_here n xs ys st c.args.slot c.in-Some.name c.in_ok-named.named e c.in-Some.is (c.in_ok-named.ensures n (before_of xs ys st n e o))

pub returns-in-None : goal.returns-in-None
returns-in-None t c =
    let xs = c.args.run.now in
    let ys = take (length xs - 1) (drop 1 xs) in
    let st = c.step-item.result in
    let e = split xs st c.in-len1-up.len_at_least c.step-item.is in
    IfOk-weaker c.command_on.result _ _
    (λ x h n o. named_before n xs ys st c.args.slot x c.in_ok-named.named e c.in-None.is (c.in_ok-named.ensures n (before_of xs ys st n e o)) (h n (before_of xs ys st n e o)))
    c.command_on.ensures
