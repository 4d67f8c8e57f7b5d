-- Which result answers an operation.
use Rattle.std.specs.Prelude.{◌==◌, Bool, false, Option, Some, None}
use Rattle.n41_types.specs.declared.operations.Operation.{Operation}
use Rattle.n41_types.specs.Operations.{number}
use Rattle.n41_results.specs.declared.results.Res.{Res}
use Rattle.n41_results.specs.Results.{operation_of}

-- the operation was asked for, and this is its result
abbrev pub answers : Option Operation → Res → Bool
answers None x = false
answers (Some o) x = number (operation_of x) == number o
