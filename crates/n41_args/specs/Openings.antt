-- What OPEN, OPEN_DOWNGRADE and CLOSE take (RFC 8881, sections 18.16, 18.18 and 18.2).
use Rattle.std.specs.Prelude.{ℕ, List, [], ◌∷◌, Bool, true, false, Result, Ok, Err}
use Rattle.n41_xdr.specs.Format.{Format, ◌&◌, mapped, nothing, made, Arm, arm, union}
use Rattle.n41_types.specs.declared.identities.Stateid.{Stateid}
use Rattle.n41_attr.specs.declared.fault.OpFault.{OpFault}
use Rattle.n41_attr.specs.declared.fault.OpFault.TheVariants.{Xdr}
use Rattle.n41_attr.specs.Attributes.{Told, attrs_of, written}
use Rattle.n41_attr.specs.Parts.{word, string, stateid, fattr, bad_arm}
use Rattle.n41_args.specs.declared.owners.StateOwner.{StateOwner}
use Rattle.n41_args.specs.declared.openings.CloseArgs.{CloseArgs}
use Rattle.n41_args.specs.declared.openings.DowngradeArgs.{DowngradeArgs}
use Rattle.n41_args.specs.declared.openings.OpenArgs.{OpenArgs}
use Rattle.n41_args.specs.declared.openings.OpenHow.{OpenHow}
use Rattle.n41_args.specs.declared.openings.OpenHow.TheVariants as how
use Rattle.n41_args.specs.declared.openings.OpenClaim.{OpenClaim}
use Rattle.n41_args.specs.declared.openings.OpenClaim.TheVariants as claim
use Rattle.n41_args.specs.Owners.{state_owner}

-- CLOSE4args
unfoldable pub close : Format OpFault CloseArgs
close = mapped (λ x. record { seqid = x.0; stateid = x.1 }) (λ a. (a.seqid, a.stateid)) (word & stateid)

-- OPEN_DOWNGRADE4args
unfoldable pub downgrade : Format OpFault DowngradeArgs
downgrade =
    mapped
    (λ x. record { stateid = x.0; seqid = x.1.0; access = x.1.1.0; deny = x.1.1.1 })
    (λ a. (a.stateid, (a.seqid, (a.access, a.deny))))
    (stateid & word & word & word)

-- open_claim4, of which CLAIM_NULL, CLAIM_PREVIOUS, CLAIM_FH and CLAIM_DELEG_CUR_FH are read
abbrev pub claim_arm : OpenClaim → Arm
claim_arm (claim.Null name) = arm 0 string name
claim_arm (claim.Previous kind) = arm 1 word kind
claim_arm claim.Fh = arm 4 (nothing {E = OpFault}) tt
claim_arm (claim.DelegCur s) = arm 5 stateid s

abbrev pub claim_rows : List (ℕ × (List ℕ → Result (OpenClaim × List ℕ) OpFault))
claim_rows =
    (0, made (λ x. claim.Null x) string) ∷
    (1, made (λ x. claim.Previous x) word) ∷
    (4, made (λ _. claim.Fh) nothing) ∷
    (5, made (λ x. claim.DelegCur x) stateid) ∷
    []

unfoldable pub open_claim : Format OpFault OpenClaim
open_claim = union Xdr bad_arm claim_rows claim_arm

-- createmode4, of which UNCHECKED4 and GUARDED4 are read
abbrev pub guarded_arm : Bool → Arm
guarded_arm false = arm 0 (nothing {E = OpFault}) tt
guarded_arm true = arm 1 (nothing {E = OpFault}) tt

abbrev pub guarded_rows : List (ℕ × (List ℕ → Result (Bool × List ℕ) OpFault))
guarded_rows = (0, made (λ _. false) nothing) ∷ (1, made (λ _. true) nothing) ∷ []

unfoldable pub guarded : Format OpFault Bool
guarded = union Xdr bad_arm guarded_rows guarded_arm

-- openflag4 as it is told
pub data ToldHow : Type 0 where
  NoCreate : ToldHow
  Create : Bool → Told → ToldHow

abbrev pub how_of : ToldHow → OpenHow
how_of NoCreate = how.NoCreate
how_of (Create guarded t) = how.Create guarded (attrs_of t)

abbrev pub written_how : OpenHow → ToldHow
written_how how.NoCreate = NoCreate
written_how (how.Create guarded a) = Create guarded (written a)

abbrev pub how_arm : ToldHow → Arm
how_arm NoCreate = arm 0 (nothing {E = OpFault}) tt
how_arm (Create g t) = arm 1 (guarded & fattr) (g, t)

abbrev pub how_rows : List (ℕ × (List ℕ → Result (ToldHow × List ℕ) OpFault))
how_rows = (0, made (λ _. NoCreate) nothing) ∷ (1, made (λ x. Create x.0 x.1) (guarded & fattr)) ∷ []

unfoldable pub told_how : Format OpFault ToldHow
told_how = union Xdr bad_arm how_rows how_arm

-- OPEN4args as they are told
pub record ToldOpen : Type 0 where
  pub seqid : ℕ
  pub access : ℕ
  pub deny : ℕ
  pub owner : StateOwner
  pub how : ToldHow
  pub claim : OpenClaim

abbrev pub open_of : ToldOpen → OpenArgs
open_of a = record { seqid = a.seqid; access = a.access; deny = a.deny; owner = a.owner; how = how_of a.how; claim = a.claim }

abbrev pub written_open : OpenArgs → ToldOpen
written_open a = record { seqid = a.seqid; access = a.access; deny = a.deny; owner = a.owner; how = written_how a.how; claim = a.claim }

unfoldable pub told_open : Format OpFault ToldOpen
told_open =
    mapped
    (λ x. record { seqid = x.0; access = x.1.0; deny = x.1.1.0; owner = x.1.1.1.0; how = x.1.1.1.1.0; claim = x.1.1.1.1.1 })
    (λ a. (a.seqid, (a.access, (a.deny, (a.owner, (a.how, a.claim))))))
    (word & word & word & state_owner & told_how & open_claim)
