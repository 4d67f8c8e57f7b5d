-- What the words ask for, and why no command that is done has the status of words that are no form.
use Rattle.std.proofs.Common.{◌≡◌, ℕ, List, [], ◌∷◌, Result, Ok, Err, ◌∙◌, ap, arith, refl, inl, inr}
use Rattle.std.specs.Prelude.{Some, None, option_map}
use Rattle.std.specs.declared.option.Option.{Option}
use Rattle.n41_lines.specs.declared.side.Side.{Side}
use Rattle.n41_dump.specs.declared.fault.DumpFault.{DumpFault}
use Rattle.n41_dump.specs.declared.fault.DumpFault.TheVariants as dump
use Rattle.n41_check.specs.declared.rules.Rule.{Rule}
use Rattle.n41_replay.specs.declared.fault.ReplayFault.{ReplayFault}
use Rattle.n41_replay.specs.declared.fault.ReplayFault.TheVariants as replay
use Rattle.n41_perform.specs.declared.fault.PerformFault.{PerformFault}
use Rattle.n41_perform.specs.declared.fault.PerformFault.TheVariants as perform
use Rattle.n41_run.specs.declared.fault.RunFault.{RunFault}
use Rattle.n41_run.specs.declared.fault.RunFault.TheVariants.{Words, Script, ReadFault, WriteFault, Unreachable, Breach, NoMemory}
use Rattle.n41_run.specs.declared.words.Verb.{Verb}
use Rattle.n41_run.specs.declared.words.Verb.TheVariants.{Probe, Run, Trace, Dump, Replay}
use Rattle.n41_run.specs.Causes.{number, status, IsOfProbe}
use Rattle.n41_run.specs.Finishes.{AsksDump, AsksProbe, AsksReplay, AsksRun, AsksTrace, HasStatus, dump_fault, of_perform, of_replay, replay_fault, replay_status}
use Rattle.n41_run.specs.Words.{IsAddress, side_text, verb_text}

asked : (words others operands : List (List ℕ)) (v u : Verb) → words ≡ verb_text v ∷ others → v ≡ u → others ≡ operands → words ≡ verb_text u ∷ operands
asked words others operands v u e q d = e ∙ ap (λ (w : Verb). verb_text w ∷ others) q ∙ ap (λ (ws : List (List ℕ)). verb_text u ∷ ws) d

pub probe_asked : (words others : List (List ℕ)) (v : Verb) (a : List ℕ) → words ≡ verb_text v ∷ others → v ≡ Probe → IsAddress a → others ≡ a ∷ [] → AsksProbe words a
probe_asked words others v a e q i d = (i, asked words others (a ∷ []) v Probe e q d)

pub run_asked : (words others : List (List ℕ)) (v : Verb) (a : List ℕ) → words ≡ verb_text v ∷ others → v ≡ Run → IsAddress a → others ≡ a ∷ [] → AsksRun words a
run_asked words others v a e q i d = (i, asked words others (a ∷ []) v Run e q d)

pub trace_asked : (words others : List (List ℕ)) (v : Verb) (a : List ℕ) → words ≡ verb_text v ∷ others → v ≡ Trace → IsAddress a → others ≡ a ∷ [] → AsksTrace words a
trace_asked words others v a e q i d = (i, asked words others (a ∷ []) v Trace e q d)

pub dump_asked : (words others : List (List ℕ)) (v : Verb) (s : Side) → words ≡ verb_text v ∷ others → v ≡ Dump → others ≡ side_text s ∷ [] → AsksDump words s
dump_asked words others v s e q d = asked words others (side_text s ∷ []) v Dump e q d

pub replay_asked : (words others : List (List ℕ)) (v : Verb) → words ≡ verb_text v ∷ others → v ≡ Replay → others ≡ [] → AsksReplay words
replay_asked words others v e q d = asked words others [] v Replay e q d

pub probe_not_two : (f : Option RunFault) → IsOfProbe f → status f ≡ 2 → ⊥
probe_not_two None h e = omega (arith, e)
probe_not_two (Some (Words place)) h e = h
probe_not_two (Some (Script line kind)) h e = h
probe_not_two (Some ReadFault) h e = h
probe_not_two (Some WriteFault) h e = omega (arith, e)
probe_not_two (Some (Unreachable rounds)) h e = omega (arith, e)
probe_not_two (Some (Breach event)) h e = omega (arith, e)
probe_not_two (Some NoMemory) h e = omega (arith, e)

pub run_not_two : (o : Option PerformFault) → status (option_map of_perform o) ≡ 2 → ⊥
run_not_two None e = omega (arith, e)
run_not_two (Some (perform.Script line kind)) e = omega (arith, e)
run_not_two (Some perform.ReadFault) e = omega (arith, e)
run_not_two (Some perform.WriteFault) e = omega (arith, e)
run_not_two (Some (perform.Unreachable n)) e = omega (arith, e)
run_not_two (Some (perform.Breach p)) e = omega (arith, e)
run_not_two (Some perform.NoMemory) e = omega (arith, e)

pub dump_not_two : {T : Type 0} (r : Result T DumpFault) → status (dump_fault r) ≡ 2 → ⊥
dump_not_two (Ok x) e = omega (arith, e)
dump_not_two (Err dump.Limit) e = omega (arith, e)
dump_not_two (Err dump.ReadFault) e = omega (arith, e)
dump_not_two (Err dump.WriteFault) e = omega (arith, e)
dump_not_two (Err dump.NoMemory) e = omega (arith, e)

fault_not_two : (f : ReplayFault) → number (of_replay f) ≡ 2 → ⊥
fault_not_two (replay.Script line kind) e = omega (arith, e)
fault_not_two replay.ReadFault e = omega (arith, e)
fault_not_two replay.WriteFault e = omega (arith, e)
fault_not_two replay.NoMemory e = omega (arith, e)

pub replay_not_two : (r : Result (Option (ℕ × Rule)) ReplayFault) → replay_status r ≡ 2 → ⊥
replay_not_two (Ok None) e = omega (arith, e)
replay_not_two (Ok (Some found)) e = omega (arith, e)
replay_not_two (Err f) e = fault_not_two f e

-- the status of a replay
status_at : (words : List (List ℕ)) (r : Result (Option (ℕ × Rule)) ReplayFault) → AsksReplay words → HasStatus words (replay_status r) (replay_fault r)
status_at words (Ok None) asks = inl refl
status_at words (Ok (Some found)) asks = inr (asks, refl, refl)
status_at words (Err f) asks = inl refl

pub replay_has_status : (words : List (List ℕ)) (r : Result (Option (ℕ × Rule)) ReplayFault) (n : ℕ) (fault : Option RunFault) → AsksReplay words → n ≡ replay_status r → fault ≡ replay_fault r → HasStatus words n fault
replay_has_status words r n fault asks e f = rw (e, f) (status_at words r asks)
