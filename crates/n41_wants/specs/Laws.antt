-- The laws of what a client wants.
use Rattle.std.specs.Prelude.{◌≡◌}
use Rattle.n41_model.specs.declared.words.Setup.{Setup}
use Rattle.n41_view.specs.View.{View}
use Rattle.n41_wants.specs.declared.wants.Want.{Want}
use Rattle.n41_wants.specs.Wants.{WantIn}

-- no two things are wanted at once
abbrev pub OneWant : Type 0
OneWant = (u : Setup) (w : View) (a b : Want) → WantIn u w a → WantIn u w b → a ≡ b
