-- Which plans leave the way of a command as it is, and which give no value.
use Rattle.std.proofs.Common.{◌≡◌, ℕ, List, Option, Some, None, refl}
use Rattle.n41_types.specs.declared.commands.Command.{Command}
use Rattle.n41_types.specs.declared.plans.Place.{Place}
use Rattle.n41_types.specs.declared.plans.Plan.TheVariants as plan
use Rattle.n41_results.specs.declared.replies.Reply.{Reply}
use Rattle.n41_model.specs.declared.words.Way.{Way}
use Rattle.n41_calls.specs.Calls.{step_of}

pub stat_stays : (c : Option Command) (at : Place) (y : Reply) (w : Way) → step_of c (plan.Stat at) y w ≡ w
stat_stays None at y w = refl
stat_stays (Some k) at y w = refl

pub make_dir_stays : (c : Option Command) (at : Place) (n : List ℕ) (y : Reply) (w : Way) → step_of c (plan.MakeDir at n) y w ≡ w
make_dir_stays None at n y w = refl
make_dir_stays (Some k) at n y w = refl

pub remove_stays : (c : Option Command) (at : Place) (n : List ℕ) (y : Reply) (w : Way) → step_of c (plan.Remove at n) y w ≡ w
remove_stays None at n y w = refl
remove_stays (Some k) at n y w = refl

pub rename_stays : (c : Option Command) (from : Place) (old : List ℕ) (to : Place) (new : List ℕ) (y : Reply) (w : Way) → step_of c (plan.Rename from old to new) y w ≡ w
rename_stays None from old to new y w = refl
rename_stays (Some k) from old to new y w = refl
