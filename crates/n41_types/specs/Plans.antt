-- The classes of plans.
use Rattle.std.specs.Prelude.{Bool, true, false}
use Rattle.n41_types.specs.declared.plans.Class.{Class}
use Rattle.n41_types.specs.declared.plans.Class.TheVariants.{Bare, Reading, State, Changing}
use Rattle.n41_types.specs.declared.plans.Plan.{Plan}
use Rattle.n41_types.specs.declared.plans.Plan.TheVariants as plan

-- what a plan does to the server (own)
abbrev pub class_of : Plan → Class
class_of (plan.ExchangeId _ _) = Bare
class_of (plan.CreateSession _ _) = Bare
class_of (plan.Bind _) = Bare
class_of (plan.DestroySession _) = Bare
class_of (plan.DestroyClient _) = Bare
class_of (plan.Walk _ _) = Reading
class_of (plan.Stat _) = Reading
class_of plan.LeaseTime = Reading
class_of (plan.Read _ _ _ _) = Reading
class_of (plan.List _ _ _ _) = Reading
class_of (plan.TestLock _ _ _ _) = Reading
class_of (plan.Test _) = Reading
class_of plan.Renew = Reading
class_of (plan.OpenAt _ _ _ _) = State
class_of (plan.Downgrade _ _ _) = State
class_of (plan.CloseState _ _) = State
class_of (plan.LockBytes _ _ _ _ _) = State
class_of (plan.UnlockBytes _ _ _) = State
class_of (plan.ReturnDeleg _ _) = State
class_of (plan.Free _) = State
class_of plan.Complete = State
class_of (plan.CreateFile _ _ _ _) = Changing
class_of (plan.WriteBytes _ _ _ _) = Changing
class_of (plan.Resize _ _ _) = Changing
class_of (plan.MakeDir _ _) = Changing
class_of (plan.Remove _ _) = Changing
class_of (plan.Rename _ _ _ _) = Changing

-- whether the server is asked to keep the reply: of all but the reading ones, since those may run twice (own; RFC 8881, sa_cachethis)
abbrev pub is_cached : Class → Bool
is_cached Reading = false
is_cached _ = true
