-- The filehandle that one result tells.
use Rattle.std.specs.Prelude.{ℕ, List, Option, Some, None, Ok}
use Rattle.n41_results.specs.declared.results.Res.{Res}
use Rattle.n41_results.specs.declared.results.Res.TheVariants as res

abbrev pub fh_in : Res → Option (List ℕ)
fh_in (res.GetFh (Ok fh)) = Some fh
fh_in x = None
