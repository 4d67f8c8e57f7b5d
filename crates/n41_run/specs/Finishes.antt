-- What a run of the program leaves, by what its words ask for. (own)
use Rattle.std.specs.Prelude.{◌≡◌, ◌<◌, ◌⊎◌, ℕ, Bool, true, IsTrue, List, [], ◌∷◌, codes, Some, None, IfSome, IfNone, IsSomeAnd, option_map, Result, Ok, Err}
use Rattle.std.specs.declared.option.Option.{Option}
use Rattle.n41_record.specs.Fragments.{fragment}
use Rattle.n41_link.specs.Counts.{Counts, Rose}
use Rattle.n41_link.specs.Ends.{ear_log, ear_given, ear_inflow, ear_still, mouth_log, mouth_outflow}
use Rattle.n41_link.specs.Flow.{KnownAs}
use Rattle.n41_link.specs.Moments.{StandsAt}
use Rattle.n41_link.specs.declared.connection.Inflow.{Ghosts as InGhosts}
use Rattle.n41_link.specs.declared.connection.Outflow.{Ghosts as OutGhosts}
use Rattle.n41_results.specs.declared.messages.Parcel.{Ghosts as ParcelGhosts}
use Rattle.n41_journal.specs.declared.events.Event.{Event}
use Rattle.n41_model.specs.declared.words.Setup.{Setup}
use Rattle.n41_wire.specs.declared.wire.Wire.{Wire}
use Rattle.n41_desk.specs.Journals.{moments}
use Rattle.n41_desk.specs.Lines.{AreWires}
use Rattle.n41_desk.specs.Moments.{AreGiven, CountsDials}
use Rattle.n41_perform.specs.Performs.{AlwaysGood, AlwaysOneOut, IsWhole, Outcome, is_read_fault, is_write_fault}
use Rattle.n41_perform.specs.declared.fault.PerformFault.{PerformFault}
use Rattle.n41_perform.specs.declared.fault.PerformFault.TheVariants as perform
use Rattle.n41_perform.specs.declared.printing.Print.{Print}
use Rattle.n41_lines.specs.declared.side.Side.{Side}
use Rattle.n41_dump.specs.Causes as dumps
use Rattle.n41_dump.specs.declared.fault.DumpFault.{DumpFault}
use Rattle.n41_dump.specs.declared.fault.DumpFault.TheVariants as dump
use Rattle.n41_probe.specs.Probes.{request, HearsNone, BeginsToAsk, IsProbed, IsPartlyProbed, IsCut}
use Rattle.n41_probe.specs.declared.fault.ProbeFault.{ProbeFault}
use Rattle.n41_probe.specs.declared.fault.ProbeFault.TheVariants as probe
use Rattle.n41_probe.specs.declared.talk.Talk.{Talk}
use Rattle.n41_words.specs.declared.fault.LineKind.TheVariants as kind
use Rattle.n41_check.specs.declared.rules.Rule.{Rule}
use Rattle.n41_replay.specs.Replays as replays
use Rattle.n41_replay.specs.declared.fault.ReplayFault.{ReplayFault}
use Rattle.n41_replay.specs.declared.fault.ReplayFault.TheVariants as replay
use Rattle.n41_run.specs.declared.fault.RunFault.{RunFault}
use Rattle.n41_run.specs.declared.fault.RunFault.TheVariants as run
use Rattle.n41_run.specs.Causes.{number, status, IsOfProbe}
use Rattle.n41_run.specs.Words.{IsAddress, IsFirstBad, side_text}

-- ---- what the words ask for

abbrev pub AsksProbe : List (List ℕ) → List ℕ → Type 0
AsksProbe words address = IsAddress address × (words ≡ codes "probe" ∷ (address ∷ []))

abbrev pub AsksRun : List (List ℕ) → List ℕ → Type 0
AsksRun words address = IsAddress address × (words ≡ codes "run" ∷ (address ∷ []))

abbrev pub AsksTrace : List (List ℕ) → List ℕ → Type 0
AsksTrace words address = IsAddress address × (words ≡ codes "trace" ∷ (address ∷ []))

abbrev pub AsksDump : List (List ℕ) → Side → Type 0
AsksDump words side = words ≡ codes "dump" ∷ (side_text side ∷ [])

abbrev pub AsksReplay : List (List ℕ) → Type 0
AsksReplay words = words ≡ codes "replay" ∷ []

-- ---- the faults of the calls that a run stands on

abbrev pub of_perform : PerformFault → RunFault
of_perform (perform.Script line k) = run.Script line k
of_perform perform.ReadFault = run.ReadFault
of_perform perform.WriteFault = run.WriteFault
of_perform (perform.Unreachable n) = run.Unreachable n
of_perform (perform.Breach p) = run.Breach p
of_perform perform.NoMemory = run.NoMemory

-- a stream that is too long is refused as a script's line 0 is
abbrev pub of_dump : DumpFault → RunFault
of_dump dump.Limit = run.Script 0 kind.Limit
of_dump dump.ReadFault = run.ReadFault
of_dump dump.WriteFault = run.WriteFault
of_dump dump.NoMemory = run.NoMemory

abbrev pub dump_fault : {T : Type 0} → Result T DumpFault → Option RunFault
dump_fault (Ok x) = None
dump_fault (Err f) = Some (of_dump f)

abbrev pub of_replay : ReplayFault → RunFault
of_replay (replay.Script line k) = run.Script line k
of_replay replay.ReadFault = run.ReadFault
of_replay replay.WriteFault = run.WriteFault
of_replay replay.NoMemory = run.NoMemory

-- a broken rule is no fault
abbrev pub replay_fault : {T : Type 0} → Result T ReplayFault → Option RunFault
replay_fault (Ok x) = None
replay_fault (Err f) = Some (of_replay f)

-- it has a status of its own, which is 1
abbrev pub replay_status : Result (Option (ℕ × Rule)) ReplayFault → ℕ
replay_status (Ok None) = 0
replay_status (Ok (Some found)) = 1
replay_status (Err f) = number (of_replay f)

-- the status is that of the fault; 1 alone has none, and stands for a rule that a replayed journal breaks
abbrev pub HasStatus : List (List ℕ) → ℕ → Option RunFault → Type 0
HasStatus words n fault = (n ≡ status fault) ⊎ (AsksReplay words × (n ≡ 1) × (fault ≡ None))

-- one round is made, and a probe has event 0 alone
abbrev pub of_probe : ProbeFault → RunFault
of_probe probe.Unreachable = run.Unreachable 1
of_probe probe.Breach = run.Breach 0
of_probe probe.WriteFault = run.WriteFault
of_probe probe.NoMemory = run.NoMemory

abbrev pub probe_fault : {T : Type 0} → Result T ProbeFault → Option RunFault
probe_fault (Ok x) = None
probe_fault (Err f) = Some (of_probe f)

-- ---- what each command leaves

-- no client was made, and no connection of one
abbrev pub HasNoClient : {W : Type 0} → List Event → List W → Type 0
HasNoClient js wires = (js ≡ []) × (wires ≡ [])

-- what a probe leaves: the clock's last moment is the one of its request
pub record ProbeEnds {I O : Type 0} {g : InGhosts I} {h : OutGhosts O} (fault : Option RunFault) (probed : Option (Talk I O g h)) (given : ℕ → Bool) (ahead : Option (List ℕ)) (last last_new : ℕ) (dialed dialed_new : ℕ) (taken taken_new : Option (List ℕ)) (wrote wrote_new : ℕ) : Type 0 where
  pub of_probe : IsOfProbe fault
  pub gave : IsTrue (given last_new)
  pub stands : StandsAt ahead last last_new
  -- what was written is the one request, with that moment, or a first part of it
  pub asks : IfSome probed (λ talk. BeginsToAsk last_new (mouth_log talk.mouth))
  pub told : IfSome probed (λ talk. KnownAs (g.got (ear_inflow talk.ear)) (ear_log talk.ear) × KnownAs (h.put (mouth_outflow talk.mouth)) (mouth_log talk.mouth))
  pub done : status fault ≡ 0 → IsSomeAnd probed (λ talk. IsProbed last_new taken taken_new (ear_log talk.ear) (mouth_log talk.mouth))
  pub write : status fault ≡ 5 → Rose wrote wrote_new
  pub part : status fault ≡ 5 → IsSomeAnd probed (λ talk. IsPartlyProbed last_new taken taken_new (ear_log talk.ear) (mouth_log talk.mouth))
  -- status 6: there is no connection, or one that brought no record
  pub linked : IfNone probed (status fault ≡ 6)
  pub unreachable : status fault ≡ 6 → IfNone probed (Rose dialed dialed_new)
  pub cut : status fault ≡ 6 → IfSome probed (λ talk. (ear_given talk.ear ≡ []) × ((0 < h.faults (mouth_outflow talk.mouth)) ⊎ IsCut (g.faults (ear_inflow talk.ear)) (g.ends (ear_inflow talk.ear)) (ear_log talk.ear) (ear_still talk.ear)))
  -- status 7: the request was written, and the first record is no such reply
  pub asked : status fault ≡ 7 → IsSomeAnd probed (λ talk. mouth_log talk.mouth ≡ fragment true (request last_new))
  pub wrong : status fault ≡ 7 → IsSomeAnd probed (λ talk. HearsNone (ear_log talk.ear))
  pub silent : 5 < status fault → taken_new ≡ taken

-- what a script that was run leaves, where its answers or its journal are shown
pub record RunEnds {I O P : Type 0} {g : InGhosts I} {h : OutGhosts O} {k : ParcelGhosts P} (shows : Print) (fault : Option RunFault) (js : List Event) (wires : List (Wire I O P g h k)) (given : ℕ → Bool) (dialed dialed_new : ℕ) (left left_new : Option (List ℕ)) (read read_new : ℕ) (taken taken_new : Option (List ℕ)) (wrote wrote_new : ℕ) : Type 0 where
  pub cause : Option PerformFault
  pub fault_is : fault ≡ option_map of_perform cause
  pub outcome : Outcome shows cause given left left_new taken taken_new js
  pub whole : (u : Setup) × IsWhole u js
  pub one_out : AlwaysOneOut js
  pub good : AlwaysGood js
  pub connections : AreWires js wires
  pub gave : AreGiven given (moments js)
  pub dials : CountsDials [] js dialed dialed_new
  pub reads : Counts read read_new (is_read_fault cause)
  pub writes : Counts wrote wrote_new (is_write_fault cause)

-- what a dump leaves
pub record DumpEnds (side : Side) (fault : Option RunFault) (left left_new : Option (List ℕ)) (read read_new : ℕ) (taken taken_new : Option (List ℕ)) (wrote wrote_new : ℕ) : Type 0 where
  pub answer : Result (Unit {0}) DumpFault
  pub fault_is : fault ≡ dump_fault answer
  pub answers : dumps.Answers answer side left left_new taken taken_new
  pub reads : Counts read read_new (dumps.is_read_fault answer)
  pub writes : Counts wrote wrote_new (dumps.is_write_fault answer)

-- what a replay leaves
pub record ReplayEnds (n : ℕ) (fault : Option RunFault) (left left_new : Option (List ℕ)) (read read_new : ℕ) (taken taken_new : Option (List ℕ)) (wrote wrote_new : ℕ) : Type 0 where
  pub answer : Result (Option (ℕ × Rule)) ReplayFault
  pub status_is : n ≡ replay_status answer
  pub fault_is : fault ≡ replay_fault answer
  pub outcome : replays.Outcome answer left left_new taken taken_new
  pub reads : Counts read read_new (replays.is_read_fault answer)
  pub writes : Counts wrote wrote_new (replays.is_write_fault answer)

-- the words are no form, and this is the place of the first that fits none
abbrev pub RefusesWords : List (List ℕ) → Option RunFault → Type 0
RefusesWords words fault = (place : ℕ) × (fault ≡ Some (run.Words place)) × IsFirstBad words place
