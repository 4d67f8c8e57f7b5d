use Rattle.std.proofs.Common.{◌≡◌, [], drop}
use Rattle.n41_results.specs.Shapes.{unasked_entry}
use Rattle.n41_fits.proofs.attributes.unasked_entry.Given as goal

abbrev pub invariant-loop-entry : goal.invariant-loop-entry
invariant-loop-entry l = unasked_entry [] l.entries ≡ unasked_entry [] (drop l.entry-index l.entries)
