-- What was read, where its text is no script.
use Rattle.std.proofs.Common.{◌≡◌, ℕ, List, inl, sym, subst}
use Rattle.std.specs.declared.option.Option.{Option}
use Rattle.n41_script.specs.Scripts.{IsFault, script_limit}
use Rattle.n41_words.specs.declared.fault.ScriptFault.{ScriptFault}
use Rattle.n41_words.specs.declared.fault.ScriptFault.TheVariants as refused
use Rattle.n41_streams.specs.Streams.{IsRead}
use Rattle.n41_perform.specs.declared.fault.PerformFault.{PerformFault}
use Rattle.n41_perform.specs.Performs.{ReadFails, of_script}

fails_by_text : (f : ScriptFault) (old new : Option (List ℕ)) (bytes : List ℕ) → IsRead script_limit old new bytes → IsFault bytes f → ReadFails (of_script f) old new
fails_by_text (refused.Line line kind) old new bytes r h = inl (bytes, r, h)
fails_by_text refused.NoMemory old new bytes r h = tt

pub refused_fails : (f : ScriptFault) (g : PerformFault) (old new : Option (List ℕ)) (bytes : List ℕ) → g ≡ of_script f → IsRead script_limit old new bytes → IsFault bytes f → ReadFails g old new
refused_fails f g old new bytes e r h = subst (λ (x : PerformFault). ReadFails x old new) (sym e) (fails_by_text f old new bytes r h)
