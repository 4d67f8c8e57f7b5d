-- The plans that change files and directories, by the operations behind PUTROOTFH or PUTFH.
use Rattle.std.specs.Prelude.{ℕ, ◌==◌, ◌&&◌, if◌then◌else◌, is_none, Bool, true, false, List, Option, Some, None}
use Rattle.n41_types.specs.declared.attributes.Attrs.{Attrs}
use Rattle.n41_types.specs.declared.plans.Place.{Place}
use Rattle.n41_types.specs.declared.plans.Plan.{Plan}
use Rattle.n41_types.specs.declared.plans.Plan.TheVariants as plan
use Rattle.n41_args.specs.declared.arg.Arg.{Arg}
use Rattle.n41_args.specs.declared.directories.CreateArgs.{CreateArgs}
use Rattle.n41_args.specs.declared.directories.RenameArgs.{RenameArgs}
use Rattle.n41_args.specs.declared.files.SetAttrArgs.{SetAttrArgs}
use Rattle.n41_args.specs.declared.files.WriteArgs.{WriteArgs}
use Rattle.n41_args.specs.declared.openings.OpenArgs.{OpenArgs}
use Rattle.n41_args.specs.declared.openings.OpenClaim.{OpenClaim}
use Rattle.n41_args.specs.declared.openings.OpenClaim.TheVariants as claim
use Rattle.n41_args.specs.declared.openings.OpenHow.{OpenHow}
use Rattle.n41_args.specs.declared.openings.OpenHow.TheVariants as how
use Rattle.n41_compound.specs.Parts.{place_in, fh_in, mode_in, name_of, claim_in}
use Rattle.n41_compound.specs.States.{open_at}

-- a number that is told, and is this one
abbrev pub is_told : Option ℕ → ℕ → Bool
is_told None n = false
is_told (Some m) n = m == n

-- a mode alone
unfoldable pub is_mode : Attrs → ℕ → Bool
is_mode a n = is_none a.kind && is_none a.change && is_none a.size && is_none a.lease && is_none a.fileid && is_told a.mode n

-- the size, where it is all that is told
unfoldable pub size_in : Attrs → Option ℕ
size_in a = if is_none a.kind && is_none a.change && is_none a.lease && is_none a.fileid && is_none a.mode then a.size else None

abbrev pub write_at : Option (List ℕ) → WriteArgs → Option Plan
write_at None a = None
write_at (Some fh) a = Some (plan.WriteBytes fh a.stateid a.offset a.bytes)

-- FILE_SYNC4, which is 2
abbrev pub write_of : Arg → WriteArgs → Option Plan
write_of put a = if a.stable == 2 then write_at (fh_in put) a else None

abbrev pub resize_at : Option ℕ → Option (List ℕ) → SetAttrArgs → Option Plan
resize_at None fh a = None
resize_at (Some size) None a = None
resize_at (Some size) (Some fh) a = Some (plan.Resize fh a.stateid size)

abbrev pub make_dir_at : Option Place → Option (List ℕ) → Option Plan
make_dir_at None name = None
make_dir_at (Some dir) None = None
make_dir_at (Some dir) (Some name) = Some (plan.MakeDir dir name)

-- mode 0755
abbrev pub make_dir_of : Arg → CreateArgs → Option Plan
make_dir_of put a = if is_mode a.attrs 493 then make_dir_at (place_in put) (name_of a.name) else None

abbrev pub remove_at : Option Place → Option (List ℕ) → Option Plan
remove_at None name = None
remove_at (Some dir) None = None
remove_at (Some dir) (Some name) = Some (plan.Remove dir name)

abbrev pub rename_at : Option Place → Option Place → Option (List ℕ) → Option (List ℕ) → Option Plan
rename_at None to old new = None
rename_at (Some from) None old new = None
rename_at (Some from) (Some to) None new = None
rename_at (Some from) (Some to) (Some old) None = None
rename_at (Some from) (Some to) (Some old) (Some new) = Some (plan.Rename from old to new)

abbrev pub rename_of : Arg → Arg → RenameArgs → Option Plan
rename_of from to a = rename_at (place_in from) (place_in to) (name_of a.old) (name_of a.new)

-- a file is made by its name in a directory (CLAIM_NULL)
abbrev pub claimed_name : OpenClaim → Option (List ℕ)
claimed_name (claim.Null name) = name_of name
claimed_name _ = None

abbrev pub create_at : Option Place → Option (List ℕ) → Bool → OpenArgs → Option Plan
create_at None name guarded a = None
create_at (Some dir) None guarded a = None
create_at (Some dir) (Some name) guarded a = Some (plan.CreateFile dir name guarded a.owner.owner)

-- with mode 0644 and access BOTH, which is 3
abbrev pub create_of : Arg → Bool → Attrs → OpenArgs → Option Plan
create_of put guarded attrs a = if (a.access == 3) && is_mode attrs 420 then create_at (place_in put) (claimed_name a.claim) guarded a else None

-- OPEN of what is there, or of what is made
abbrev pub opened_how : Arg → OpenHow → OpenArgs → Option Plan
opened_how put how.NoCreate a = open_at (mode_in a.access) (claim_in a.claim) (fh_in put) a
opened_how put (how.Create guarded attrs) a = create_of put guarded attrs a

abbrev pub opened : Arg → OpenArgs → Option Plan
opened put a = if (a.seqid == 0) && (a.deny == 0) && (a.owner.client == 0) then opened_how put a.how a else None
