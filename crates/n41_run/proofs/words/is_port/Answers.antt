use Rattle.std.proofs.Common.{◌≡◌, ◌<◌, get_or, arith, lit<}
use Rattle.std.proofs.lemmas.Str.Pattern.{starts_char}
use Rattle.n41_run.proofs.Address.{port_of_parsed, parsed_port, port_begins}
use Rattle.n41_run.proofs.words.is_port.Goals as goal
use Rattle.n41_run.proofs.words.is_port.Goals.{then-starts_with-via-then-starts_with, then-starts_with-via-else-starts_with+then-starts_with-2}

pub returns-then-starts_with : goal.returns-then-starts_with
returns-then-starts_with c = (
  λ never. cc,
  λ port. let first : 48 < get_or c.args.text.now 0 0 = port_begins c.args.text.now port in
      elim c.then-starts_with.branch [
        | then-starts_with-via-then-starts_with w ↦
            let zero : get_or c.args.text.now 0 0 ≡ 48 = (starts_char 48 c.args.text.now _ c.starts_with.ensures.cases (lit< tt) (lit< tt)).0 w.if-starts_with.true in
            absurd (omega arith)
        | then-starts_with-via-else-starts_with+then-starts_with-2 w ↦
            let plus : get_or c.args.text.now 0 0 ≡ 43 = (starts_char 43 c.args.text.now _ w.starts_with-else-starts_with.ensures.cases (lit< tt) (lit< tt)).0 w.if-starts_with-2.true in
            absurd (omega arith)
      ],
)

pub returns : goal.returns
returns c =
    let zero = (starts_char 48 c.args.text.now _ c.starts_with.ensures.cases (lit< tt) (lit< tt)).1 in
    let plus = (starts_char 43 c.args.text.now _ c.starts_with-else-starts_with.ensures.cases (lit< tt) (lit< tt)).1 in (
      λ ok. port_of_parsed c.args.text.now c.parse.result c.parse.ensures.value.0 (λ e. cc (zero e)) (λ e. cc (plus e)) (cc),
      λ port. let parsed = parsed_port c.args.text.now c.parse.result c.parse.ensures.value.0 port in cc,
    )
