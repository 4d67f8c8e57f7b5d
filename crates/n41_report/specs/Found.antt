-- What is kept of a journal and of a script to find answers without a scan.
use Rattle.std.specs.Prelude.{◌≡◌, ℕ, ◌==◌, ◌&&◌, nat_eq, Bool, List, Option}
use Rattle.std.specs.Option.{option_map, unwrap_or}
use Rattle.std.specs.HashMap.{HashMap, get}
use Rattle.n41_types.specs.declared.commands.Answer.{Answer}
use Rattle.n41_journal.specs.declared.events.Event.{Event}
use Rattle.n41_calls.specs.Text.{answer_to}
use Rattle.n41_report.specs.declared.found.Asked.{Asked}
use Rattle.n41_report.specs.declared.found.Found.{Found}
use Rattle.n41_report.specs.declared.numbers.Numbers.{Numbers}

abbrev pub is_asked : Asked → Asked → Bool
is_asked x y = (x.caller == y.caller) && (x.number == y.number)

-- the answer that is kept for a caller's command of this number
abbrev pub found : Found → ℕ → ℕ → Option Answer
found f c n = option_map (λ a. a.now) (get is_asked f.answers (record { caller = c; number = n }))

-- it is the newest that these events have
abbrev pub Finds : Found → List Event → Type 0
Finds f js = (c n : ℕ) → found f c n ≡ answer_to js c n

-- how many commands of a caller were counted
abbrev pub count : Numbers → ℕ → ℕ
count m c = unwrap_or (get nat_eq m.counts c) 0
