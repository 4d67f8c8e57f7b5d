-- What an outlet sends. (own)
use Rattle.std.specs.Prelude.{◌≡◌, List, [], ◌∷◌, ◌++◌, ℕ, true, Result, Ok, Err}
use Rattle.n41_record.specs.Fragments.{fragment}
use Rattle.n41_link.specs.declared.mouth.SayFault.{SayFault}
use Rattle.n41_results.specs.declared.messages.Parts.{Parts}

-- a message as it is written: its body, marked as one record
abbrev pub marked : Parts → List ℕ
marked parts = fragment true parts.body

-- a message is one more that was sent where it was written whole
abbrev pub Sends : Result (Unit {0}) SayFault → List Parts → List Parts → Parts → Type 0
Sends (Ok x) old new parts = new ≡ old ++ parts ∷ []
Sends (Err e) old new parts = new ≡ old
