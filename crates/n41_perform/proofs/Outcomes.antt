-- What was read, done and printed, by the fault of the whole.
use Rattle.std.proofs.Common.{◌≡◌, ℕ, Bool, false, List, [], Option, Some, None, refl, sym, subst, arith}
use Rattle.n41_journal.specs.declared.events.Event.{Event}
use Rattle.n41_link.specs.Counts.{Counts}
use Rattle.n41_script.specs.declared.script.Script.{Script}
use Rattle.n41_perform.specs.declared.fault.PerformFault.{PerformFault}
use Rattle.n41_perform.specs.declared.fault.PerformFault.TheVariants as fault
use Rattle.n41_perform.specs.declared.printing.Print.{Print}
use Rattle.n41_perform.specs.Performs.{ReadScript, ReadFails, Prints, Outcome, is_read_fault, is_write_fault}

-- ---- a script was read

pub outcome : (shows : Print) (f : Option PerformFault) (given : ℕ → Bool) (s : Script) (left left_new taken taken_new : Option (List ℕ)) (js : List Event) → ReadScript left left_new s → Prints shows f given s taken taken_new js → Outcome shows f given left left_new taken taken_new js
outcome shows None given s left left_new taken taken_new js r p = record { script = s; read = r; runs = p.0; printed = p.1 }
outcome shows (Some (fault.Script line kind)) given s left left_new taken taken_new js r p = absurd p.0.ends
outcome shows (Some fault.ReadFault) given s left left_new taken taken_new js r p = absurd p.0.ends
outcome shows (Some fault.WriteFault) given s left left_new taken taken_new js r p = record { script = s; read = r; fault = p.0; runs = p.1; printed = p.2 }
outcome shows (Some (fault.Unreachable n)) given s left left_new taken taken_new js r p = record { script = s; read = r; runs = p.0; printed = p.1 }
outcome shows (Some (fault.Breach b)) given s left left_new taken taken_new js r p = record { script = s; read = r; runs = p.0; printed = p.1 }
outcome shows (Some fault.NoMemory) given s left left_new taken taken_new js r p = p

pub reads_of : (shows : Print) (f : Option PerformFault) (given : ℕ → Bool) (s : Script) (taken taken_new : Option (List ℕ)) (js : List Event) (before now : ℕ) → Prints shows f given s taken taken_new js → Counts before now false → Counts before now (is_read_fault f)
reads_of shows None given s taken taken_new js before now p c = c
reads_of shows (Some (fault.Script line kind)) given s taken taken_new js before now p c = c
reads_of shows (Some fault.ReadFault) given s taken taken_new js before now p c = absurd p.0.ends
reads_of shows (Some fault.WriteFault) given s taken taken_new js before now p c = c
reads_of shows (Some (fault.Unreachable n)) given s taken taken_new js before now p c = c
reads_of shows (Some (fault.Breach b)) given s taken taken_new js before now p c = c
reads_of shows (Some fault.NoMemory) given s taken taken_new js before now p c = c

-- ---- no script was read

untouched_at : (shows : Print) (f : PerformFault) (given : ℕ → Bool) (left left_new taken : Option (List ℕ)) → ReadFails f left left_new → Outcome shows (Some f) given left left_new taken taken []
untouched_at shows (fault.Script line kind) given left left_new taken h = (h, record { silent = refl; none = refl })
untouched_at shows fault.ReadFault given left left_new taken h = record { silent = refl; none = refl }
untouched_at shows fault.WriteFault given left left_new taken h = absurd h
untouched_at shows (fault.Unreachable n) given left left_new taken h = absurd h
untouched_at shows (fault.Breach p) given left left_new taken h = absurd h
untouched_at shows fault.NoMemory given left left_new taken h = refl

pub untouched : (shows : Print) (f : PerformFault) (g : Option PerformFault) (given : ℕ → Bool) (left left_new taken : Option (List ℕ)) (js : List Event) → g ≡ Some f → js ≡ [] → ReadFails f left left_new → Outcome shows g given left left_new taken taken js
untouched shows f g given left left_new taken js e n h = rw (e, n) (untouched_at shows f given left left_new taken h)

counts_none : (n : ℕ) → Counts n n false
counts_none n = record { later = omega arith; rose = λ e. absurd (cc) }

unread_writes_at : (f : PerformFault) (left left_new : Option (List ℕ)) (n : ℕ) → ReadFails f left left_new → Counts n n (is_write_fault (Some f))
unread_writes_at (fault.Script line kind) left left_new n h = counts_none n
unread_writes_at fault.ReadFault left left_new n h = counts_none n
unread_writes_at fault.WriteFault left left_new n h = absurd h
unread_writes_at (fault.Unreachable k) left left_new n h = counts_none n
unread_writes_at (fault.Breach p) left left_new n h = counts_none n
unread_writes_at fault.NoMemory left left_new n h = counts_none n

pub unread_writes : (f : PerformFault) (g : Option PerformFault) (left left_new : Option (List ℕ)) (n : ℕ) → g ≡ Some f → ReadFails f left left_new → Counts n n (is_write_fault g)
unread_writes f g left left_new n e h = subst (λ (x : Option PerformFault). Counts n n (is_write_fault x)) (sym e) (unread_writes_at f left left_new n h)
