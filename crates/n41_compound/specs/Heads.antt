-- The head of a call that a client of this kind makes (RFC 5531, section 9 and appendix A; RFC 8881, section 16.2).
use Rattle.std.specs.Prelude.{◌≡◌, ◌==◌, ◌&&◌, if◌then◌else◌, ℕ, Bool, true, false, List, [], ◌∷◌, length, Option, Some, None, Result, Ok, Err}
use Rattle.n41_xdr.specs.declared.fault.XdrFault.{XdrFault}
use Rattle.n41_xdr.specs.Format.{Format, ◌&◌, word, opaque}
use Rattle.n41_types.specs.declared.plans.SlotUse.{SlotUse}
use Rattle.n41_rpc.specs.declared.heads.Cred.{Cred}
use Rattle.n41_rpc.specs.Heads.{system, system_of}
use Rattle.n41_args.specs.declared.arg.Arg.{Arg}
use Rattle.n41_args.specs.declared.arg.Arg.TheVariants as arg
use Rattle.n41_seen.specs.declared.calls.CallSeen.{CallSeen}
use Rattle.n41_seen.specs.declared.calls.SeenTail.{SeenTail}
use Rattle.n41_seen.specs.declared.calls.SeenTail.TheVariants.{Whole}
use Rattle.n41_seen.specs.Calls.{whole_call}
use Rattle.n41_compound.specs.declared.heads.Ids.{Ids}

-- AUTH_SYS, which is 1, with the machine name `n41`, stamp 0 and no further gids
abbrev pub cred_of : ℕ → ℕ → Cred
cred_of uid gid = record { flavor = 1; body = system.spell (system_of uid gid) }

-- the call is a whole COMPOUND by these two ids
abbrev pub IsCallBy : CallSeen → ℕ → ℕ → Type 0
IsCallBy c uid gid = c ≡ whole_call c.xid (cred_of uid gid) c.minor c.list

-- all but the ids is that of such a call
abbrev pub is_ended : SeenTail → Bool
is_ended Whole = true
is_ended _ = false

abbrev pub is_whole : CallSeen → Bool
is_whole c = (c.prog == 100003) && (c.vers == 4) && (c.procedure == 1) && (c.cred.flavor == 1) && is_ended c.tail

-- the body of AUTH_SYS up to how many further gids there are: stamp, machine name, uid and gid
unfoldable pub ids : Format XdrFault (ℕ × (List ℕ × (ℕ × (ℕ × ℕ))))
ids = word & opaque 255 & word & word & word

-- whether this is the machine name `n41`
abbrev pub is_machine : List ℕ → Bool
is_machine (a ∷ b ∷ c ∷ []) = (a == 110) && (b == 52) && (c == 49)
is_machine _ = false

-- what is kept of them
abbrev pub told_ids : ℕ × (List ℕ × (ℕ × (ℕ × ℕ))) → Ids
told_ids x = record { stamp = x.0; is_ours = is_machine x.1.0; uid = x.1.1.0; gid = x.1.1.1.0; count = x.1.1.1.1 }

-- the uid and the gid, where they are all that is told beside the machine name
abbrev pub ids_in : Result (Ids × List ℕ) XdrFault → Option (ℕ × ℕ)
ids_in (Ok x) = if (x.0.stamp == 0) && x.0.is_ours && (x.0.count == 0) && (length x.1 == 0) then Some (x.0.uid, x.0.gid) else None
ids_in (Err f) = None

-- the slot that SEQUENCE takes, where it is the first of the operations
abbrev pub slot_in : List Arg → Option SlotUse
slot_in (arg.Sequence slot ∷ args) = Some slot
slot_in args = None

-- the operations behind SEQUENCE, where it is the first
abbrev pub behind_slot : List Arg → List Arg
behind_slot (arg.Sequence slot ∷ args) = args
behind_slot args = args
