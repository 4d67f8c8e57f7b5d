-- What a probe left, by the status of its outcome.
use Rattle.std.proofs.Common.{◌≡◌, ◌<◌, Result, Ok, Err, refl, ap, arith}
use Rattle.std.specs.Prelude.{Some, None, OnOk, IsErrOf, IsTrue, IfNone}
use Rattle.std.specs.declared.option.Option.{Option}
use Rattle.n41_probe.specs.Probes.{is_silent}
use Rattle.n41_probe.specs.declared.fault.ProbeFault.{ProbeFault}
use Rattle.n41_probe.specs.declared.fault.ProbeFault.TheVariants.{Unreachable, Breach, WriteFault, NoMemory}
use Rattle.n41_run.specs.Causes.{status, IsOfProbe}
use Rattle.n41_run.specs.Finishes.{probe_fault}

pub is_of_probe : {T : Type 0} (r : Result T ProbeFault) → IsOfProbe (probe_fault r)
is_of_probe (Ok x) = tt
is_of_probe (Err Unreachable) = refl
is_of_probe (Err Breach) = refl
is_of_probe (Err WriteFault) = tt
is_of_probe (Err NoMemory) = tt

pub at_done : {T : Type 0} (P : Type 0) (r : Result T ProbeFault) → OnOk r P → status (probe_fault r) ≡ 0 → P
at_done P (Ok x) h e = h
at_done P (Err Unreachable) h e = absurd (omega arith)
at_done P (Err Breach) h e = absurd (omega arith)
at_done P (Err WriteFault) h e = absurd (omega arith)
at_done P (Err NoMemory) h e = absurd (omega arith)

pub at_write_fault : {T : Type 0} (P : Type 0) (r : Result T ProbeFault) → (IsErrOf r WriteFault → P) → status (probe_fault r) ≡ 5 → P
at_write_fault P (Ok x) h e = absurd (omega arith)
at_write_fault P (Err Unreachable) h e = absurd (omega arith)
at_write_fault P (Err Breach) h e = absurd (omega arith)
at_write_fault P (Err WriteFault) h e = h refl
at_write_fault P (Err NoMemory) h e = absurd (omega arith)

pub at_unreachable : {T : Type 0} (P : Type 0) (r : Result T ProbeFault) → (IsErrOf r Unreachable → P) → status (probe_fault r) ≡ 6 → P
at_unreachable P (Ok x) h e = absurd (omega arith)
at_unreachable P (Err Unreachable) h e = h refl
at_unreachable P (Err Breach) h e = absurd (omega arith)
at_unreachable P (Err WriteFault) h e = absurd (omega arith)
at_unreachable P (Err NoMemory) h e = absurd (omega arith)

pub at_breach : {T : Type 0} (P : Type 0) (r : Result T ProbeFault) → (IsErrOf r Breach → P) → status (probe_fault r) ≡ 7 → P
at_breach P (Ok x) h e = absurd (omega arith)
at_breach P (Err Unreachable) h e = absurd (omega arith)
at_breach P (Err Breach) h e = h refl
at_breach P (Err WriteFault) h e = absurd (omega arith)
at_breach P (Err NoMemory) h e = absurd (omega arith)

pub at_silent : {T : Type 0} (P : Type 0) (r : Result T ProbeFault) → (IsTrue (is_silent r) → P) → 5 < status (probe_fault r) → P
at_silent P (Ok x) h lt = absurd (omega arith)
at_silent P (Err Unreachable) h lt = h refl
at_silent P (Err Breach) h lt = h refl
at_silent P (Err WriteFault) h lt = absurd (omega arith)
at_silent P (Err NoMemory) h lt = h refl

-- without a connection the status is 6
pub without_link : {T A : Type 0} (probed : Option A) (r : Result T ProbeFault) → IfNone probed (IsErrOf r Unreachable) → IfNone probed (status (probe_fault r) ≡ 6)
without_link None r h = ap (λ (x : Result _ ProbeFault). status (probe_fault x)) h
without_link (Some a) r h = tt
