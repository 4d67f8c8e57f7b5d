-- Calls of COMPOUND as a server sees them: how they are read, and how they are spelled (RFC 5531, call_body; RFC 8881, COMPOUND4args).
use Rattle.std.specs.Prelude.{◌≡◌, ◌<◌, ◌≤◌, ◌^◌, ◌+◌, ◌++◌, ◌==◌, ◌&&◌, ◌||◌, if◌then◌else◌, ℕ, zero, suc, List, [], ◌∷◌, length, map, Bool, true, false, Option, Some, None, Result, Ok, Err}
use Rattle.std.specs.List.{flat_map, AllByRecursion}
use Rattle.std.specs.Int.{w32}
use Rattle.n41_xdr.specs.declared.fault.XdrFault.{XdrFault}
use Rattle.n41_xdr.specs.Spelling as spelling
use Rattle.n41_xdr.specs.Reading.{◌>>=◌, number_at}
use Rattle.n41_xdr.specs.Format.{Format, ◌&◌, word, opaque, fault_as, made}
use Rattle.n41_rpc.specs.declared.fault.RpcFault.TheVariants as rpc
use Rattle.n41_rpc.specs.declared.heads.Cred.{Cred}
use Rattle.n41_rpc.specs.declared.heads.CallHead.{CallHead}
use Rattle.n41_rpc.specs.declared.heads.Head.{Head}
use Rattle.n41_rpc.specs.declared.heads.Head.TheVariants.{Call, Reply}
use Rattle.n41_rpc.specs.Heads.{call, head, head_of}
use Rattle.n41_attr.specs.declared.fault.OpFault.{OpFault}
use Rattle.n41_args.specs.declared.arg.Arg.{Arg}
use Rattle.n41_args.specs.Args.{ToldArg, told_arg, arg_of, arg_rows}
use Rattle.n41_replies.specs.declared.fault.MsgFault.{MsgFault}
use Rattle.n41_replies.specs.declared.fault.MsgFault.TheVariants.{Rpc}
use Rattle.n41_replies.specs.Faults.{of_rpc}
use Rattle.n41_seen.specs.declared.calls.SeenTail.{SeenTail}
use Rattle.n41_seen.specs.declared.calls.SeenTail.TheVariants.{Whole, Unknown, BadArgs, Garbage, Unread}
use Rattle.n41_seen.specs.declared.calls.CallSeen.{CallSeen}
use Rattle.n41_seen.specs.declared.compounds.Operations.{Operations}
use Rattle.n41_seen.specs.declared.compounds.Compound.{Compound}

-- the program of NFS, its version 4, and its procedure COMPOUND (RFC 8881, section 16.2)
abbrev pub is_compound : ℕ → ℕ → ℕ → Bool
is_compound prog vers procedure = (prog == 100003) && (vers == 4) && (procedure == 1)

-- tag, minor version, and how many operations there are; a string of no stated length has at most 65,536 bytes (own)
unfoldable pub front : Format XdrFault (List ℕ × (ℕ × ℕ))
front = opaque 65536 & word & word

-- whether a row has this number
abbrev pub is_row : {A : Type 0} → List (ℕ × A) → ℕ → Bool
is_row [] n = false
is_row (row ∷ rows) n = (n == row.0) || is_row rows n

-- whether there is an operation of this number
unfoldable pub is_operation : ℕ → Bool
is_operation n = is_row arg_rows n

-- ---- reading

-- the operations that are read, and what comes behind them; None is garbage
abbrev pub Seen : Type 0
Seen = Option Operations

-- one more in front
abbrev pub with : Arg → Seen → Seen
with x None = None
with x (Some ops) = Some (record { list = x ∷ ops.list; tail = ops.tail })

-- an operation of this number: it is read, or what stands there is none of its arguments
abbrev pub argued : Result (Arg × List ℕ) OpFault → ℕ → (List ℕ → Seen) → Seen
argued (Ok x) n others = with x.0 (others x.1)
argued (Err f) n others = Some (record { list = []; tail = BadArgs n })

-- the number comes first, and behind that of no operation nothing is read
abbrev pub numbered : Result (ℕ × List ℕ) XdrFault → List ℕ → (List ℕ → Seen) → Seen
numbered (Ok m) bytes others = if is_operation m.0 then argued (made arg_of told_arg bytes) m.0 others else Some (record { list = []; tail = Unknown m.0 })
numbered (Err f) bytes others = None

-- so many operations, behind which nothing is left
abbrev pub ops_seen : ℕ → List ℕ → Seen
ops_seen zero bytes = if length bytes == 0 then Some (record { list = []; tail = Whole }) else None
ops_seen (suc n) bytes = numbered (number_at w32 bytes) bytes (ops_seen n)

-- no operations, with the tail that tells why
abbrev pub none_read : SeenTail → Compound
none_read tail = record { minor = 0; ops = record { list = []; tail = tail } }

abbrev pub with_minor : ℕ → Seen → Compound
with_minor minor None = none_read Garbage
with_minor minor (Some ops) = record { minor = minor; ops = ops }

-- the minor version and the count
abbrev pub told_front : List ℕ → Result ((ℕ × ℕ) × List ℕ) XdrFault
told_front bytes = made (λ x. x.1) front bytes

abbrev pub behind_front : Result ((ℕ × ℕ) × List ℕ) XdrFault → Compound
behind_front (Ok x) = with_minor x.0.0 (ops_seen x.0.1 x.1)
behind_front (Err f) = none_read Garbage

abbrev pub compound_at : Bool → List ℕ → Compound
compound_at is bytes = if is then behind_front (told_front bytes) else none_read Unread

abbrev pub call_of : CallHead → Compound → CallSeen
call_of h c = record { xid = h.xid; prog = h.prog; vers = h.vers; procedure = h.procedure; cred = h.cred; minor = c.minor; list = c.ops.list; tail = c.ops.tail }

abbrev pub behind_head : Head → List ℕ → Result CallSeen MsgFault
behind_head (Call h) bytes = Ok (call_of h (compound_at (is_compound h.prog h.vers h.procedure) bytes))
behind_head (Reply h) bytes = Err (Rpc (rpc.BadKind 1))

unfoldable pub call_at : List ℕ → Result CallSeen MsgFault
call_at bytes = fault_as of_rpc (made head_of head bytes) >>= λ h. behind_head h.0 h.1

-- ---- spelling

-- a number stands in front
abbrev pub Begins : ℕ → List ℕ → Type 0
Begins n bytes = (n < 2 ^ 32) × ((after : List ℕ) × (bytes ≡ spelling.word n ++ after))

-- no operation stands in front
abbrev pub BeginsNone : List ℕ → Type 0
BeginsNone bytes = (x : ToldArg) (after : List ℕ) → told_arg.Fits x → bytes ≡ told_arg.spell x ++ after → ⊥

-- what comes behind the operations, where so many more are told of
abbrev pub SpellsTail : SeenTail → ℕ → List ℕ → Type 0
SpellsTail Whole more rest = (more ≡ 0) × (rest ≡ [])
SpellsTail (Unknown n) more rest = (0 < more) × (is_operation n ≡ false) × Begins n rest
SpellsTail (BadArgs n) more rest = (0 < more) × (is_operation n ≡ true) × Begins n rest × BeginsNone rest
SpellsTail Garbage more rest = ⊥
SpellsTail Unread more rest = ⊥

-- so many operations are told of; those of the list come first
pub record SpellsOps (ops : Operations) (count : ℕ) (bytes : List ℕ) : Type 0 where
  pub told : List ToldArg
  pub more : ℕ
  pub rest : List ℕ
  pub counted : length told + more ≡ count
  pub fits : AllByRecursion told_arg.Fits told
  pub kept : map arg_of told ≡ ops.list
  pub parts : bytes ≡ flat_map told_arg.spell told ++ rest
  pub behind : SpellsTail ops.tail more rest

-- the arguments of a COMPOUND, whole or up to the first operation that is none or has no arguments of its own
pub record SpellsCompound (c : Compound) (bytes : List ℕ) : Type 0 where
  pub tag : List ℕ
  pub count : ℕ
  pub rest : List ℕ
  pub fits : front.Fits (tag, (c.minor, count))
  pub parts : bytes ≡ front.spell (tag, (c.minor, count)) ++ rest
  pub ops : SpellsOps c.ops count rest

-- what stands behind a head: the arguments, what spells none, or, where it is no head of a COMPOUND, anything
abbrev pub SpellsBehind : SeenTail → Bool → Compound → List ℕ → Type 0
SpellsBehind Whole is c bytes = (is ≡ true) × SpellsCompound c bytes
SpellsBehind (Unknown n) is c bytes = (is ≡ true) × SpellsCompound c bytes
SpellsBehind (BadArgs n) is c bytes = (is ≡ true) × SpellsCompound c bytes
SpellsBehind Garbage is c bytes = (is ≡ true) × (c ≡ none_read Garbage) × ((b : Compound) → SpellsCompound b bytes → ⊥)
SpellsBehind Unread is c bytes = (is ≡ false) × (c ≡ none_read Unread)

abbrev pub compound_of : CallSeen → Compound
compound_of c = record { minor = c.minor; ops = record { list = c.list; tail = c.tail } }

-- with any verifier
pub record SpellsCall (c : CallSeen) (bytes : List ℕ) : Type 0 where
  pub verifier : Cred
  pub rest : List ℕ
  pub fits : head.Fits (c.xid, call c.prog c.vers c.procedure c.cred verifier)
  pub parts : bytes ≡ head.spell (c.xid, call c.prog c.vers c.procedure c.cred verifier) ++ rest
  pub behind : SpellsBehind c.tail (is_compound c.prog c.vers c.procedure) (compound_of c) rest

-- ---- whole calls

-- a call of COMPOUND with these operations, where so many are told of
abbrev pub call_text : ℕ → Cred → Cred → List ℕ → ℕ → ℕ → List ToldArg → List ℕ
call_text xid cred verifier tag minor count told =
    head.spell (xid, call 100003 4 1 cred verifier) ++ (spelling.opaque tag ++ (spelling.word minor ++ (spelling.word count ++ flat_map told_arg.spell told)))

-- the parts have a spelling
abbrev pub TextFits : ℕ → Cred → Cred → List ℕ → ℕ → List ToldArg → Type 0
TextFits xid cred verifier tag minor told =
    head.Fits (xid, call 100003 4 1 cred verifier) × (length tag ≤ 65536) × (minor < 2 ^ 32) × (length told < 2 ^ 32) × AllByRecursion told_arg.Fits told

-- what is seen of it
abbrev pub whole_call : ℕ → Cred → ℕ → List Arg → CallSeen
whole_call xid cred minor list = record { xid = xid; prog = 100003; vers = 4; procedure = 1; cred = cred; minor = minor; list = list; tail = Whole }
