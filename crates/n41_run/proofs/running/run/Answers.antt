use Rattle.std.proofs.Common.{◌≡◌, true, false, refl, sym, ◌∙◌, ap, inl, inr}
use Rattle.n41_run.specs.declared.fault.RunFault.{RunFault}
use Rattle.std.specs.declared.option.Option.{Option}
use Rattle.n41_run.specs.Causes.{status}
use Rattle.n41_run.proofs.Ended.{probe_asked, run_asked, trace_asked, dump_asked, replay_asked, replay_has_status, probe_not_two, run_not_two, dump_not_two, replay_not_two}
use Rattle.n41_run.proofs.running.run.Goals as goal

not_ok : false ≡ true → ⊥
not_ok e = cc

pub returns-in-Ok-Probe-clause-status : goal.returns-in-Ok-Probe-clause-status
returns-in-Ok-Probe-clause-status g c = inl c.finish_probe.ensures.status

pub returns-in-Ok-Probe-clause-words : goal.returns-in-Ok-Probe-clause-words
returns-in-Ok-Probe-clause-words g c =
    let p = c.finish_probe.ensures in
    (λ e f. probe_not_two c.finish_probe.result.fault p.ends.of_probe (sym p.status ∙ e), λ f. absurd (f (c.in-Ok-Probe.ensures.exact.0 refl)))

pub returns-in-Ok-Probe-clause-untouched : goal.returns-in-Ok-Probe-clause-untouched
returns-in-Ok-Probe-clause-untouched g c = λ e. let p = c.finish_probe.ensures in absurd (probe_not_two c.finish_probe.result.fault p.ends.of_probe (sym p.status ∙ e))

pub returns-in-Ok-Probe-clause-no_link : goal.returns-in-Ok-Probe-clause-no_link
returns-in-Ok-Probe-clause-no_link g c = λ e. let p = c.finish_probe.ensures in absurd (probe_not_two c.finish_probe.result.fault p.ends.of_probe (sym p.status ∙ e))

pub returns-in-Ok-Probe-clause-ends : goal.returns-in-Ok-Probe-clause-ends
returns-in-Ok-Probe-clause-ends g c =
    let p = c.finish_probe.ensures in
    let h = c.in-Ok-Probe.ensures.asks in
    let t = rw c.in-Ok-Probe.field-0-is at h.3 in
    inr (inl (c.in-Ok-Probe.addr.now, probe_asked _ h.1 h.0 _ h.2 t.0 t.1 t.2, refl, p.no_client, p.ends))

pub returns-in-Ok-Run-clause-status : goal.returns-in-Ok-Run-clause-status
returns-in-Ok-Run-clause-status g c = inl c.finish_script.ensures.status

pub returns-in-Ok-Run-clause-words : goal.returns-in-Ok-Run-clause-words
returns-in-Ok-Run-clause-words g c =
    let s = c.finish_script.ensures in
    (λ e f. run_not_two s.ends.cause (ap status (sym s.ends.fault_is) ∙ sym s.status ∙ e), λ f. absurd (f (c.in-Ok-Run.ensures.exact.0 refl)))

pub returns-in-Ok-Run-clause-untouched : goal.returns-in-Ok-Run-clause-untouched
returns-in-Ok-Run-clause-untouched g c = λ e. let s = c.finish_script.ensures in absurd (run_not_two s.ends.cause (ap status (sym s.ends.fault_is) ∙ sym s.status ∙ e))

pub returns-in-Ok-Run-clause-no_client : goal.returns-in-Ok-Run-clause-no_client
returns-in-Ok-Run-clause-no_client g c = λ e. let s = c.finish_script.ensures in absurd (run_not_two s.ends.cause (ap status (sym s.ends.fault_is) ∙ sym s.status ∙ e))

pub returns-in-Ok-Run-clause-ends : goal.returns-in-Ok-Run-clause-ends
returns-in-Ok-Run-clause-ends g c =
    let s = c.finish_script.ensures in
    let h = c.in-Ok-Run.ensures.asks in
    let t = rw c.in-Ok-Run.field-0-is at h.3 in
    inr (inr (inl (c.in-Ok-Run.addr.now, run_asked _ h.1 h.0 _ h.2 t.0 t.1 t.2, s.no_link, s.ends)))

pub returns-in-Ok-Trace-clause-status : goal.returns-in-Ok-Trace-clause-status
returns-in-Ok-Trace-clause-status g c = inl c.finish_script-in-Ok-Trace.ensures.status

pub returns-in-Ok-Trace-clause-words : goal.returns-in-Ok-Trace-clause-words
returns-in-Ok-Trace-clause-words g c =
    let s = c.finish_script-in-Ok-Trace.ensures in
    (λ e f. run_not_two s.ends.cause (ap status (sym s.ends.fault_is) ∙ sym s.status ∙ e), λ f. absurd (f (c.in-Ok-Trace.ensures.exact.0 refl)))

pub returns-in-Ok-Trace-clause-untouched : goal.returns-in-Ok-Trace-clause-untouched
returns-in-Ok-Trace-clause-untouched g c = λ e. let s = c.finish_script-in-Ok-Trace.ensures in absurd (run_not_two s.ends.cause (ap status (sym s.ends.fault_is) ∙ sym s.status ∙ e))

pub returns-in-Ok-Trace-clause-no_client : goal.returns-in-Ok-Trace-clause-no_client
returns-in-Ok-Trace-clause-no_client g c = λ e. let s = c.finish_script-in-Ok-Trace.ensures in absurd (run_not_two s.ends.cause (ap status (sym s.ends.fault_is) ∙ sym s.status ∙ e))

pub returns-in-Ok-Trace-clause-ends : goal.returns-in-Ok-Trace-clause-ends
returns-in-Ok-Trace-clause-ends g c =
    let s = c.finish_script-in-Ok-Trace.ensures in
    let h = c.in-Ok-Trace.ensures.asks in
    let t = rw c.in-Ok-Trace.field-0-is at h.3 in
    inr (inr (inr (inl (c.in-Ok-Trace.addr.now, trace_asked _ h.1 h.0 _ h.2 t.0 t.1 t.2, s.no_link, s.ends))))

pub returns-in-Ok-Dump-clause-status : goal.returns-in-Ok-Dump-clause-status
returns-in-Ok-Dump-clause-status g c = inl c.finish_dump.ensures.status

pub returns-in-Ok-Dump-clause-words : goal.returns-in-Ok-Dump-clause-words
returns-in-Ok-Dump-clause-words g c =
    let d = c.finish_dump.ensures in
    (λ e f. dump_not_two d.ends.answer (ap status (sym d.ends.fault_is) ∙ sym d.status ∙ e), λ f. absurd (f (c.in-Ok-Dump.ensures.exact.0 refl)))

pub returns-in-Ok-Dump-clause-untouched : goal.returns-in-Ok-Dump-clause-untouched
returns-in-Ok-Dump-clause-untouched g c = λ e. let d = c.finish_dump.ensures in absurd (dump_not_two d.ends.answer (ap status (sym d.ends.fault_is) ∙ sym d.status ∙ e))

pub returns-in-Ok-Dump-clause-ends : goal.returns-in-Ok-Dump-clause-ends
returns-in-Ok-Dump-clause-ends g c =
    let d = c.finish_dump.ensures in
    let h = c.in-Ok-Dump.ensures.asks in
    let t = rw c.in-Ok-Dump.field-0-is at h.3 in
    inr (inr (inr (inr (inl (c.in-Ok-Dump.side, dump_asked _ h.1 h.0 _ h.2 t.0 t.1, d.no_link, d.no_client, d.same.0, d.same.2, d.ends)))))

pub returns-in-Ok-Replay-clause-status : goal.returns-in-Ok-Replay-clause-status
returns-in-Ok-Replay-clause-status g c =
    let r = c.finish_replay.ensures in
    let h = c.in-Ok-Replay.ensures.asks in
    let t = rw c.in-Ok-Replay.field-0-is at h.3 in
    replay_has_status _ r.ends.answer _ _ (replay_asked _ h.1 h.0 h.2 t.0 t.1) r.ends.status_is r.ends.fault_is

pub returns-in-Ok-Replay-clause-words : goal.returns-in-Ok-Replay-clause-words
returns-in-Ok-Replay-clause-words g c =
    let r = c.finish_replay.ensures in
    (λ e f. replay_not_two r.ends.answer (sym r.ends.status_is ∙ e), λ f. absurd (f (c.in-Ok-Replay.ensures.exact.0 refl)))

pub returns-in-Ok-Replay-clause-untouched : goal.returns-in-Ok-Replay-clause-untouched
returns-in-Ok-Replay-clause-untouched g c = λ e. let r = c.finish_replay.ensures in absurd (replay_not_two r.ends.answer (sym r.ends.status_is ∙ e))

pub returns-in-Ok-Replay-clause-ends : goal.returns-in-Ok-Replay-clause-ends
returns-in-Ok-Replay-clause-ends g c =
    let r = c.finish_replay.ensures in
    let h = c.in-Ok-Replay.ensures.asks in
    let t = rw c.in-Ok-Replay.field-0-is at h.3 in
    inr (inr (inr (inr (inr (replay_asked _ h.1 h.0 h.2 t.0 t.1, r.no_link, r.no_client, r.same.0, r.same.2, r.ends)))))

pub returns-in-Err-clause-status : goal.returns-in-Err-clause-status
returns-in-Err-clause-status g c = inl (c.refuse.ensures.status ∙ sym (ap status c.refuse.ensures.fault))

pub returns-in-Err-clause-words : goal.returns-in-Err-clause-words
returns-in-Err-clause-words g c = (λ e f. not_ok (c.in-Err.ensures.exact.1 f), λ f. c.refuse.ensures.status)
