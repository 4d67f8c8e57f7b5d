-- Which plan operations are those of.
use Rattle.std.specs.Prelude.{List, [], ◌∷◌, Option, Some, None}
use Rattle.n41_types.specs.declared.plans.Plan.{Plan}
use Rattle.n41_types.specs.declared.plans.Plan.TheVariants as plan
use Rattle.n41_args.specs.declared.arg.Arg.{Arg}
use Rattle.n41_args.specs.declared.arg.Arg.TheVariants as arg
use Rattle.n41_args.specs.declared.openings.OpenArgs.{OpenArgs}
use Rattle.n41_compound.specs.Parts.{place_in, fh_in, name_of}
use Rattle.n41_compound.specs.Singles.{single}
use Rattle.n41_compound.specs.Readings.{look_of, read_at, list_of, test_lock_of}
use Rattle.n41_compound.specs.States.{downgrade_of, close_of, lock_of, unlock_of, return_at}
use Rattle.n41_compound.specs.Changes.{write_of, size_in, resize_at, make_dir_of, remove_at, rename_of, opened}
use Rattle.n41_compound.specs.Walks.{walked, walk_at}

-- by the one operation behind PUTROOTFH or PUTFH
abbrev pub pair : Arg → Arg → Option Plan
pair put (arg.GetAttr mask) = look_of put mask
pair put (arg.Read a) = read_at (fh_in put) a
pair put (arg.ReadDir a) = list_of put a
pair put (arg.LockTest a) = test_lock_of put a
pair put (arg.OpenDowngrade a) = downgrade_of put a
pair put (arg.Close a) = close_of put a
pair put (arg.Lock a) = lock_of put a
pair put (arg.Unlock a) = unlock_of put a
pair put (arg.DelegReturn stateid) = return_at (fh_in put) stateid
pair put (arg.Write a) = write_of put a
pair put (arg.SetAttr a) = resize_at (size_in a.attrs) (fh_in put) a
pair put (arg.Create a) = make_dir_of put a
pair put (arg.Remove name) = remove_at (place_in put) (name_of name)
pair put _ = None

-- OPEN and GETFH
abbrev pub opening : Arg → OpenArgs → List Arg → Option Plan
opening put a (arg.GetFh ∷ []) = opened put a
opening put a _ = None

-- SAVEFH, PUTROOTFH or PUTFH, and RENAME
abbrev pub saving : Arg → List Arg → Option Plan
saving from (to ∷ arg.Rename a ∷ []) = rename_of from to a
saving from _ = None

-- by the first operation, and what follows
abbrev pub headed : Arg → List Arg → Option Plan
headed a [] = single a
headed put (arg.Open a ∷ args) = opening put a args
headed put (arg.SaveFh ∷ args) = saving put args
headed put (arg.GetFh ∷ args) = walk_at (walked (arg.GetFh ∷ args)) (place_in put)
headed put (arg.Lookup name ∷ args) = walk_at (walked (arg.Lookup name ∷ args)) (place_in put)
headed put (a ∷ []) = pair put a
headed put (a ∷ b ∷ args) = None

-- the plan that has these operations behind its SEQUENCE
abbrev pub plan_of : List Arg → Option Plan
plan_of [] = Some plan.Renew
plan_of (a ∷ args) = headed a args
