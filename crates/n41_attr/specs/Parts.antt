-- The parts that results share (RFC 5662).
use Rattle.std.specs.Prelude.{◌≡◌, ◌≢◌, ℕ, List, [], ◌∷◌, Bool, Option, Result, Ok, Err}
use Rattle.n41_xdr.specs.Format.{Format, ◌&◌, mapped, lifted, list, made, Arm, arm}
use Rattle.n41_xdr.specs.Format as xdr
use Rattle.n41_xdr.specs.declared.fault.XdrFault.TheVariants.{BadArm}
use Rattle.n41_types.specs.declared.identities.Stateid.{Stateid}
use Rattle.n41_types.specs.declared.identities.SessionId.{SessionId}
use Rattle.n41_types.specs.declared.statuses.Status.{Status}
use Rattle.n41_attr.specs.declared.fault.OpFault.{OpFault}
use Rattle.n41_attr.specs.declared.fault.OpFault.TheVariants.{Xdr}
use Rattle.n41_attr.specs.Faults.{op_of_attr}
use Rattle.n41_attr.specs.Bitmaps as bitmaps
use Rattle.n41_attr.specs.Attributes.{Told, told}
use Rattle.n41_attr.specs.Unions.{open_union}

abbrev pub word : Format OpFault ℕ
word = lifted Xdr xdr.word

abbrev pub hyper : Format OpFault ℕ
hyper = lifted Xdr xdr.hyper

abbrev pub flag : Format OpFault Bool
flag = lifted Xdr xdr.flag

abbrev pub fixed : ℕ → Format OpFault (List ℕ)
fixed n = lifted Xdr (xdr.fixed n)

abbrev pub opaque : ℕ → Format OpFault (List ℕ)
opaque max = lifted Xdr (xdr.opaque max)

abbrev pub bad_arm : ℕ → OpFault
bad_arm n = Xdr (BadArm n)

unfoldable pub always_zero : Format OpFault (Unit {0})
always_zero = lifted Xdr (xdr.only 0)

-- a string of no stated length has at most 65,536 bytes (own)
unfoldable pub string : Format OpFault (List ℕ)
string = opaque 65536

-- the bytes of a read, of no stated length
unfoldable pub content_bytes : Format OpFault (List ℕ)
content_bytes = opaque 4294967295

-- the bytes of an owner, of a major id and of a scope (NFS4_OPAQUE_LIMIT)
unfoldable pub owner_bytes : Format OpFault (List ℕ)
owner_bytes = opaque 1024

unfoldable pub verifier : Format OpFault (List ℕ)
verifier = fixed 8

unfoldable pub stateid : Format OpFault Stateid
stateid = mapped (λ x. record { seqid = x.0; other = x.1 }) (λ s. (s.seqid, s.other)) (word & fixed 12)

unfoldable pub session : Format OpFault SessionId
session = mapped (λ x. record { 0 = x }) (λ s. s.0) (fixed 16)

unfoldable pub fh : Format OpFault (List ℕ)
fh = opaque 128

unfoldable pub bitmap : Format OpFault (List ℕ)
bitmap = lifted Xdr bitmaps.bitmap

-- attributes as they are told
unfoldable pub fattr : Format OpFault Told
fattr = lifted op_of_attr told

unfoldable pub status : Format OpFault Status
status = mapped (λ x. record { 0 = x }) (λ s. s.0) word

-- ---- a status, and behind OK what p says

abbrev pub outcome_arm : {A : Type 0} → Format OpFault A → Result A Status → Arm
outcome_arm p (Ok a) = arm 0 p a
outcome_arm p (Err s) = record { number = s.0; text = []; Fits = s.0 ≢ 0 }

abbrev pub outcome_rows : {A : Type 0} → Format OpFault A → List (ℕ × (List ℕ → Result (Result A Status × List ℕ) OpFault))
outcome_rows p = (0, made (λ x. Ok x) p) ∷ []

abbrev pub outcome : {A : Type 0} → Format OpFault A → Format OpFault (Result A Status)
outcome p = open_union Xdr (λ n. Err (record { 0 = n })) (outcome_rows p) (outcome_arm p)

-- a status that is never OK
abbrev pub failure_arm : Status → Arm
failure_arm s = record { number = s.0; text = []; Fits = s.0 ≢ 0 }

abbrev pub failure_rows : List (ℕ × (List ℕ → Result (Status × List ℕ) OpFault))
failure_rows = (0, λ _. Err (bad_arm 0)) ∷ []

unfoldable pub failure : Format OpFault Status
failure = open_union Xdr (λ n. record { 0 = n }) failure_rows failure_arm
