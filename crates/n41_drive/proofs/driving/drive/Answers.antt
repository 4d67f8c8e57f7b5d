use Rattle.std.proofs.Common.{◌≡◌, ◌∙◌, ℕ, List, [], sym, ap}
use Rattle.std.specs.Prelude.{Result, Ok, Err, OnErr}
use Rattle.n41_journal.specs.declared.events.Event.{Event}
use Rattle.n41_model.specs.declared.words.Setup.{Setup}
use Rattle.n41_script.specs.declared.script.ScriptLine.{ScriptLine}
use Rattle.n41_drive.specs.Drives.{Begins}
use Rattle.n41_drive.proofs.Steps.{begins_none, works_new, driven_after, begins_after, counts_at}
use Rattle.n41_drive.proofs.driving.drive.Goals as goal

none_begun : {T E : Type 0} (r : Result T E) (n : ℕ) (js : List Event) (ls : List ScriptLine) → js ≡ [] → OnErr r (Begins n js ls)
none_begun (Ok t) n js ls e = tt
none_begun (Err x) n js ls e = begins_none n js ls e

pub returns-in_err-places-clause-begun : goal.returns-in_err-places-clause-begun
returns-in_err-places-clause-begun g c = none_begun c.from_residual.result c.args.callers c.args.desk.now.core.events c.args.lines.now c.requires.new

pub returns-in_err-places-clause-counts : goal.returns-in_err-places-clause-counts
returns-in_err-places-clause-counts g c = counts_at c.args.desk.now.core.events _ c.requires.new

pub work-requires-clause-works : goal.work-requires-clause-works
work-requires-clause-works g c κs within = works_new c.args.desk.now.core c.args.lines.now c.as_mut_slice.result.now c.args.callers c.requires.new (c.as_mut_slice.ensures.value ∙ c.in_ok-places.ensures) c.requires.all

pub returns-clause-driven : goal.returns-clause-driven
returns-clause-driven g c =
    driven_after c.work.result c.args.callers c.work.new.desk.core c.args.lines.now c.work.new.places (c.requires.all ∙ sym (ap (λ (u : Setup). u.callers) c.work.ensures.setup)) c.work.ensures.works c.work.ensures.answered

pub returns-clause-begun : goal.returns-clause-begun
returns-clause-begun g c =
    begins_after c.work.result c.args.callers c.work.new.desk.core c.args.lines.now c.work.new.places (c.requires.all ∙ sym (ap (λ (u : Setup). u.callers) c.work.ensures.setup)) c.work.ensures.works

pub returns-clause-counts : goal.returns-clause-counts
returns-clause-counts g c = c.work.ensures.counts _ _ (counts_at c.args.desk.now.core.events _ c.requires.new)
