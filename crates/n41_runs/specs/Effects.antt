-- Whose each request is, and what took effect.
use Rattle.std.specs.Prelude.{ℕ, suc, ◌==◌, Bool, true, false, ◌&&◌, not, List, [], ◌∷◌, Option, Some, None, if◌then◌else◌}
use Rattle.std.specs.List.{list_any}
use Rattle.n41_types.specs.declared.commands.Command.{Command}
use Rattle.n41_types.specs.declared.commands.Command.TheVariants as asks
use Rattle.n41_types.specs.declared.operations.Operation.{Operation}
use Rattle.n41_types.specs.declared.operations.Operation.TheVariants as op
use Rattle.n41_types.specs.declared.plans.Plan.{Plan}
use Rattle.n41_types.specs.declared.plans.Plan.TheVariants as plan
use Rattle.n41_types.specs.declared.plans.Request.{Request}
use Rattle.n41_types.specs.Operations.{number as op_number}
use Rattle.n41_results.specs.declared.results.Res.{Res}
use Rattle.n41_results.specs.Results.{operation_of, status_of}
use Rattle.n41_journal.specs.declared.events.Event.{Event}
use Rattle.n41_journal.specs.declared.events.Event.TheVariants.{Began, Put}
use Rattle.n41_calls.specs.Calls.{number, owner}
use Rattle.n41_model.specs.Replies.{is_ok}
use Rattle.n41_model.specs.Requests.{is_on, knows, outs, slot_number}
use Rattle.n41_runs.specs.declared.commands.CommandName.{CommandName}
use Rattle.n41_runs.specs.declared.steps.Step.{Step}
use Rattle.n41_runs.specs.declared.steps.Step.TheVariants.{Runs}
use Rattle.n41_runs.specs.Steps.{client, messages}

-- ---- commands and their attempts (own)

abbrev pub is_named : Option CommandName → ℕ → ℕ → Bool
is_named None c n = false
is_named (Some a) c n = (a.caller == c) && (a.number == n)

-- the command that a caller began
abbrev pub asked : List Event → ℕ → ℕ → Option Command
asked [] c n = None
asked (Began d m k t ∷ js) c n = if (d == c) && (m == n) then Some k else asked js c n
asked (e ∷ js) c n = asked js c n

-- the changing commands
abbrev pub is_changing : Command → Bool
is_changing (asks.Create l p g) = true
is_changing (asks.Write l o b) = true
is_changing (asks.Truncate l z) = true
is_changing (asks.MakeDir p) = true
is_changing (asks.Remove p) = true
is_changing (asks.Rename p q) = true
is_changing k = false

-- the last command of this caller
abbrev pub last_of : List Event → Option ℕ → Option CommandName
last_of js None = None
last_of js (Some c) = Some (record { caller = c; number = number js c })

-- The command whose attempt the last new request on a slot is; None where it is the client's own. There are `n` callers.
abbrev pub command_on : ℕ → List Event → ℕ → Option CommandName
command_on n [] s = None
command_on n (Put c p r ∷ js) s =
    if is_on r s && not (knows (outs js s) r.xid) then last_of js (owner n (Put c p r ∷ js) s) else command_on n js s
command_on n (e ∷ js) s = command_on n js s

abbrev pub command_at : ℕ → List Event → Option ℕ → Option CommandName
command_at n js None = None
command_at n js (Some s) = command_on n js s

-- the command whose request was put in message k, for the first time or again
abbrev pub command_of : ℕ → List Event → ℕ → Option CommandName
command_of n [] k = None
command_of n (Put c p r ∷ js) k = if messages js == k then command_at n (Put c p r ∷ js) (slot_number r.slot) else command_of n js k
command_of n (e ∷ js) k = command_of n js k

-- ---- effects

-- the operation by which a plan changes files or directories
abbrev pub change_of : Plan → Option Operation
change_of (plan.CreateFile d m g o) = Some op.Open
change_of (plan.WriteBytes f i o b) = Some op.Write
change_of (plan.Resize f i z) = Some op.SetAttr
change_of (plan.MakeDir d m) = Some op.Create
change_of (plan.Remove d m) = Some op.Remove
change_of (plan.Rename d m e k) = Some op.Rename
change_of p = None

-- it is the result of this operation, and OK
abbrev pub is_done : Operation → Res → Bool
is_done o x = (op_number (operation_of x) == op_number o) && is_ok (status_of x)

abbrev pub has_done : Option Operation → List Res → Bool
has_done None xs = false
has_done (Some o) xs = list_any (is_done o) xs

-- the changing operation of the plan answered OK
abbrev pub acts : Plan → List Res → Bool
acts p xs = has_done (change_of p) xs

-- a changing request that took effect, with its results behind SEQUENCE, and the command whose attempt it is
pub record Effect : Type 0 where
  pub command : Option CommandName
  pub request : Request
  pub results : List Res

-- what took effect at the server, the newest first
abbrev pub effects : ℕ → List Step → List Effect
effects n [] = []
effects n (Runs k r q xs ∷ w) =
    if acts r.plan xs then record { command = command_of n (client w) k; request = r; results = xs } ∷ effects n w else effects n w
effects n (st ∷ w) = effects n w

-- how many of these are a command's
abbrev pub count_of : List Effect → ℕ → ℕ → ℕ
count_of [] c m = 0
count_of (e ∷ es) c m = if is_named e.command c m then suc (count_of es c m) else count_of es c m

-- how often a command took effect
abbrev pub effects_of : ℕ → List Step → ℕ → ℕ → ℕ
effects_of n w c m = count_of (effects n w) c m
