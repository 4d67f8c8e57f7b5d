use Rattle.std.proofs.Common.{◌-◌, length, take, drop}
use Rattle.n41_legal.specs.Legality.{sizes_of}
use Rattle.n41_legal.proofs.Illegal.{earlier, illegal_now}
use Rattle.n41_legal.proofs.Parts.{split}
use Rattle.n41_legal.proofs.rules.+first_illegal.Goals as goal

pub returns-in-Some : goal.returns-in-Some
returns-in-Some t c =
    let xs = c.args.run.now in
    earlier (sizes_of c.args.sizes.now) xs (take (length xs - 1) (drop 1 xs)) c.step-item.result c.in-Some.place c.in_ok-earlier.earlier (split xs c.step-item.result c.in-len1-up.len_at_least c.step-item.is) c.in-Some.is c.in_ok-earlier.ensures

pub returns-else-follows : goal.returns-else-follows
returns-else-follows t c =
    let xs = c.args.run.now in
    illegal_now (sizes_of c.args.sizes.now) xs (take (length xs - 1) (drop 1 xs)) c.step-item.result c.in_ok-earlier.earlier c.in_ok-follows.follows (split xs c.step-item.result c.in-len1-up.len_at_least c.step-item.is)
    c.in_default-earlier.not-Some c.in_ok-earlier.ensures c.in_ok-follows.ensures c.if-follows.false
