use Rattle.std.proofs.Common.{◌≡◌, ◌∙◌, ◌^◌, ◌-◌, ℕ, List, [], false, Option, subst, string_bytes}
use Rattle.std.specs.Option.{option_map, IfSome}
use Rattle.std.specs.Fmt.{digits, padded_integral, format_spec, styled_digits_output}
use Rattle.n41_report.proofs.Octal.{four_digits}
use Rattle.n41_report.proofs.values.octal.Goals as goal

pub returns : goal.returns
returns c =
    let shown = subst (λ s. IfSome (styled_digits_output c.in_radix.result s) (λ bs. string_bytes c.in_ok-text.text ≡ bs)) c.laid_out.ensures c.in_ok-text.ensures.ok in
    subst (λ (o : Option (List ℕ)). IfSome (option_map (padded_integral (format_spec 32 0 4 4 (2 ^ 64 - 1)) false []) o) (λ bs. string_bytes c.in_ok-text.text ≡ bs)) c.in_radix.ensures shown
    ∙ four_digits (digits 8 false c.args.mode)
