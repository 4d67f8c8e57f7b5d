-- A journal that is read and checked by itself: what was read, found and printed (own).
use Rattle.std.specs.Prelude.{◌≡◌, ◌⊎◌, ◌++◌, ℕ, Bool, true, false, List, length, reverse, codes, Result, Ok, Err, Some, None}
use Rattle.std.specs.declared.option.Option.{Option}
use Rattle.std.specs.Fmt.{decimal}
use Rattle.std.specs.Io.KnownBytes.{append_known}
use Rattle.n41_check.specs.Rules.{IsVerdict, callers}
use Rattle.n41_check.specs.declared.rules.Rule.{Rule}
use Rattle.n41_check.specs.declared.rules.Rule.TheVariants.{Slots, Retries, Turns, Causes, Answers}
use Rattle.n41_journal.specs.declared.events.Event.{Event}
use Rattle.n41_journal_reader.specs.Journals.{IsJournal, IsFault}
use Rattle.n41_script.specs.Scripts.{script_limit}
use Rattle.n41_streams.specs.Streams.{IsRead, IsTooLong, TookPart}
use Rattle.n41_streams.specs.declared.reading.ReadFault.{ReadFault}
use Rattle.n41_streams.specs.declared.reading.ReadFault.TheVariants as unread
use Rattle.n41_words.specs.declared.fault.LineKind.{LineKind}
use Rattle.n41_words.specs.declared.fault.LineKind.TheVariants.{Limit}
use Rattle.n41_words.specs.declared.fault.ScriptFault.{ScriptFault}
use Rattle.n41_words.specs.declared.fault.ScriptFault.TheVariants as refused
use Rattle.n41_replay.specs.declared.fault.ReplayFault.{ReplayFault}
use Rattle.n41_replay.specs.declared.fault.ReplayFault.TheVariants as fault

-- ---- what is printed

abbrev pub rule_text : Rule → List ℕ
rule_text Slots = codes "slots"
rule_text Retries = codes "retries"
rule_text Turns = codes "turns"
rule_text Causes = codes "causes"
rule_text Answers = codes "answers"

-- the line for what was found among so many events: that none breaks a rule, or the place of the first that breaks one, and the rule
unfoldable pub verdict_text : ℕ → Option (ℕ × Rule) → List ℕ
verdict_text n None = codes "ok " ++ (decimal n ++ codes "\n")
verdict_text n (Some found) = codes "event " ++ (decimal found.0 ++ (codes " breaks " ++ (rule_text found.1 ++ codes "\n")))

-- ---- what is read

-- a journal was read, to the end of its source; of its events the newest comes first
pub record ReadJournal (old new : Option (List ℕ)) (js : List Event) : Type 0 where
  pub bytes : List ℕ
  pub read : IsRead script_limit old new bytes
  pub is : IsJournal bytes (reverse js)

-- the source was read to its end, and this is the fault of what it gave; or it is longer than a journal may be
abbrev pub RefusedSource : Option (List ℕ) → Option (List ℕ) → ℕ → LineKind → Type 0
RefusedSource old new line kind =
    ((bytes : List ℕ) × IsRead script_limit old new bytes × IsFault bytes (refused.Line line kind))
    ⊎ (IsTooLong script_limit old new × (line ≡ 0) × (kind ≡ Limit))

-- ---- the faults

-- what the fault of a source is to the whole
abbrev pub of_source : ReadFault → ReplayFault
of_source unread.TooLong = fault.Script 0 Limit
of_source unread.Failed = fault.ReadFault
of_source unread.NoMemory = fault.NoMemory

-- what the fault of a text is to the whole
abbrev pub of_text : ScriptFault → ReplayFault
of_text (refused.Line line kind) = fault.Script line kind
of_text refused.NoMemory = fault.NoMemory

-- why no journal was read: the source gave none, it failed, or memory was wanting
abbrev pub ReadFails : ReplayFault → Option (List ℕ) → Option (List ℕ) → Type 0
ReadFails (fault.Script line kind) old new = RefusedSource old new line kind
ReadFails fault.ReadFault old new = Unit {0}
ReadFails fault.WriteFault old new = ⊥
ReadFails fault.NoMemory old new = Unit {0}

abbrev pub is_of_source : ReplayFault → Bool
is_of_source (fault.Script line kind) = false
is_of_source fault.ReadFault = true
is_of_source fault.WriteFault = false
is_of_source fault.NoMemory = false

abbrev pub is_of_sink : ReplayFault → Bool
is_of_sink (fault.Script line kind) = false
is_of_sink fault.ReadFault = false
is_of_sink fault.WriteFault = true
is_of_sink fault.NoMemory = false

-- the source's failure was the cause
abbrev pub is_read_fault : {T : Type 0} → Result T ReplayFault → Bool
is_read_fault (Ok x) = false
is_read_fault (Err f) = is_of_source f

-- the sink's failure was the cause
abbrev pub is_write_fault : {T : Type 0} → Result T ReplayFault → Bool
is_write_fault (Ok x) = false
is_write_fault (Err f) = is_of_sink f

-- ---- what was done

-- a journal was checked, and this was found: nothing, or the first event that breaks a rule, and the first rule that it breaks
abbrev pub Found : List Event → Option (ℕ × Rule) → Type 0
Found js found = IsVerdict (callers js) js found

-- why not all was printed: the sink failed and took a part, or memory was wanting and it took nothing
abbrev pub PrintFails : ReplayFault → Option (List ℕ) → Option (List ℕ) → List ℕ → Type 0
PrintFails (fault.Script line kind) old new text = ⊥
PrintFails fault.ReadFault old new text = ⊥
PrintFails fault.WriteFault old new text = TookPart old new text
PrintFails fault.NoMemory old new text = new ≡ old

-- the line for it was printed, whole or where the sink failed in part; nothing was printed where memory was wanting
abbrev pub Judged : Result (Option (ℕ × Rule)) ReplayFault → List Event → Option (List ℕ) → Option (List ℕ) → Type 0
Judged (Ok found) js taken taken_new = Found js found × (taken_new ≡ append_known taken (verdict_text (length js) found))
Judged (Err fault.WriteFault) js taken taken_new = (found : Option (ℕ × Rule)) × Found js found × TookPart taken taken_new (verdict_text (length js) found)
Judged (Err fault.NoMemory) js taken taken_new = taken_new ≡ taken
Judged (Err (fault.Script line kind)) js taken taken_new = ⊥
Judged (Err fault.ReadFault) js taken taken_new = ⊥

-- a journal was read and checked, and the line for what was found was printed
pub record IsReplayed (found : Option (ℕ × Rule)) (left left_new taken taken_new : Option (List ℕ)) : Type 0 where
  pub events : List Event
  pub read : ReadJournal left left_new events
  pub checked : Found events found
  pub printed : taken_new ≡ append_known taken (verdict_text (length events) found)

-- the same, and a part of the line was printed
pub record IsPartlyReplayed (left left_new taken taken_new : Option (List ℕ)) : Type 0 where
  pub events : List Event
  pub found : Option (ℕ × Rule)
  pub read : ReadJournal left left_new events
  pub checked : Found events found
  pub printed : TookPart taken taken_new (verdict_text (length events) found)

-- what was read, found and printed, by the answer; nothing was printed where the text is no journal, the source failed or memory was wanting
abbrev pub Outcome : Result (Option (ℕ × Rule)) ReplayFault → Option (List ℕ) → Option (List ℕ) → Option (List ℕ) → Option (List ℕ) → Type 0
Outcome (Ok found) left left_new taken taken_new = IsReplayed found left left_new taken taken_new
Outcome (Err (fault.Script line kind)) left left_new taken taken_new = RefusedSource left left_new line kind × (taken_new ≡ taken)
Outcome (Err fault.ReadFault) left left_new taken taken_new = taken_new ≡ taken
Outcome (Err fault.WriteFault) left left_new taken taken_new = IsPartlyReplayed left left_new taken taken_new
Outcome (Err fault.NoMemory) left left_new taken taken_new = taken_new ≡ taken
