use Rattle.std.proofs.Common.{◌<◌, length, arith}
use Rattle.std.proofs.lemmas.Bool.Decides.{nat_tests}
use Rattle.n41_run.proofs.Address.{address_from, address_parts, no_address}
use Rattle.n41_run.proofs.words.is_address.Goals as goal

pub returns-then-not-is_empty : goal.returns-then-not-is_empty
returns-then-not-is_empty c =
    let said = c.in-Some.ensures in
    let some : 0 < length c.in-Some.host.now = grind (arith, nat_tests) in (
      λ ok. address_from c.args.text.now c.in-Some.host.now c.in-Some.port.now said.parts some (c.is_port.ensures.0 ok),
      λ address. c.is_port.ensures.1 (address_parts c.args.text.now c.in-Some.host.now c.in-Some.port.now said.parts said.last address).1,
    )

pub returns-else-not-is_empty : goal.returns-else-not-is_empty
returns-else-not-is_empty c =
    let said = c.in-Some.ensures in (
      λ ok. cc,
      λ address.
          let some : 0 < length c.in-Some.host.now = (address_parts c.args.text.now c.in-Some.host.now c.in-Some.port.now said.parts said.last address).0 in
          absurd (grind (arith, nat_tests)),
    )

pub returns-in-None : goal.returns-in-None
returns-in-None c = (λ ok. cc, λ address. absurd (no_address c.args.text.now c.in-None.ensures.none address))
