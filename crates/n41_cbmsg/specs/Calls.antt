-- Callbacks: how they are read, how they are spelled, and what is written (RFC 5531, call_body; RFC 8881, CB_COMPOUND4args).
use Rattle.std.specs.Prelude.{◌≡◌, ◌<◌, ◌^◌, ◌+◌, ◌++◌, ◌==◌, ◌&&◌, ◌||◌, if◌then◌else◌, ℕ, zero, suc, List, [], ◌∷◌, length, Bool, true, false, Option, Some, None, Result, Ok, Err}
use Rattle.std.specs.List.{flat_map, AllByRecursion}
use Rattle.std.specs.Int.{w32}
use Rattle.n41_xdr.specs.declared.fault.XdrFault.{XdrFault}
use Rattle.n41_xdr.specs.Spelling as spelling
use Rattle.n41_xdr.specs.Reading.{◌>>=◌, number_at}
use Rattle.n41_xdr.specs.Format.{Format, ◌&◌, word, fault_as, made, choose}
use Rattle.n41_rpc.specs.declared.fault.RpcFault.TheVariants as rpc
use Rattle.n41_rpc.specs.declared.heads.Cred.{Cred}
use Rattle.n41_rpc.specs.declared.heads.CallHead.{CallHead}
use Rattle.n41_rpc.specs.declared.heads.Head.{Head}
use Rattle.n41_rpc.specs.declared.heads.Head.TheVariants.{Call, Reply}
use Rattle.n41_rpc.specs.Heads.{call, head, head_of, no_auth}
use Rattle.n41_results.specs.declared.callbacks.CbArg.{CbArg}
use Rattle.n41_results.specs.declared.callbacks.CbCall.{CbCall}
use Rattle.n41_results.specs.declared.callbacks.CbOps.{CbOps}
use Rattle.n41_results.specs.declared.callbacks.Tail.{Tail}
use Rattle.n41_results.specs.declared.callbacks.Tail.TheVariants.{Whole, Unknown, Garbage, Unread}
use Rattle.n41_attr.specs.declared.fault.OpFault.{OpFault}
use Rattle.n41_attr.specs.Parts.{bad_arm}
use Rattle.n41_cbmsg.specs.declared.fault.MsgFault.{MsgFault}
use Rattle.n41_cbmsg.specs.declared.fault.MsgFault.TheVariants.{Rpc}
use Rattle.n41_cbmsg.specs.declared.compounds.Arguments.{Arguments}
use Rattle.n41_cbmsg.specs.Reading.{of_rpc}
use Rattle.n41_cbmsg.specs.Tags.{tag}
use Rattle.n41_cbmsg.specs.Arguments.{is_served, argument, argument_rows}

-- the program 0x40000000, of which CREATE_SESSION tells the server, in version 1 or 4 (own), and its procedure CB_COMPOUND (section 20)
abbrev pub is_compound : ℕ → ℕ → ℕ → Bool
is_compound prog vers procedure = (prog == 1073741824) && ((vers == 1) || (vers == 4)) && (procedure == 1)

-- tag, minor version, callback_ident, and how many operations there are
unfoldable pub front : Format XdrFault (List ℕ × (ℕ × (ℕ × ℕ)))
front = tag & word & word & word

-- ---- reading

-- the operations that are read, and what comes behind them; None is garbage
abbrev pub Seen : Type 0
Seen = Option CbOps

-- one more in front
abbrev pub with : CbArg → Seen → Seen
with x None = None
with x (Some ops) = Some (record { list = x ∷ ops.list; tail = ops.tail })

abbrev pub argued : Result (CbArg × List ℕ) OpFault → (List ℕ → Seen) → Seen
argued (Ok x) others = with x.0 (others x.1)
argued (Err f) others = None

-- behind the number of an operation that is not served nothing is read
abbrev pub numbered : Result (ℕ × List ℕ) XdrFault → (List ℕ → Seen) → Seen
numbered (Ok m) others = if is_served m.0 then argued (choose bad_arm argument_rows m.0 m.1) others else Some (record { list = []; tail = Unknown m.0 })
numbered (Err f) others = None

-- so many operations, behind which nothing is left
abbrev pub ops_seen : ℕ → List ℕ → Seen
ops_seen zero bytes = if length bytes == 0 then Some (record { list = []; tail = Whole }) else None
ops_seen (suc n) bytes = numbered (number_at w32 bytes) (ops_seen n)

-- no operations, with the tail that tells why
abbrev pub none_read : Tail → Arguments
none_read tail = record { minor = 0; ops = record { list = []; tail = tail } }

abbrev pub with_minor : ℕ → Seen → Arguments
with_minor minor None = none_read Garbage
with_minor minor (Some ops) = record { minor = minor; ops = ops }

abbrev pub minor_and_count : List ℕ → Result ((ℕ × ℕ) × List ℕ) XdrFault
minor_and_count bytes = made (λ x. (x.1.0, x.1.1.1)) front bytes

abbrev pub behind_front : Result ((ℕ × ℕ) × List ℕ) XdrFault → Arguments
behind_front (Ok x) = with_minor x.0.0 (ops_seen x.0.1 x.1)
behind_front (Err f) = none_read Garbage

abbrev pub arguments_at : Bool → List ℕ → Arguments
arguments_at is_cb bytes = if is_cb then behind_front (minor_and_count bytes) else none_read Unread

abbrev pub call_of : CallHead → Arguments → CbCall
call_of h a = record { xid = h.xid; prog = h.prog; vers = h.vers; procedure = h.procedure; minor = a.minor; ops = a.ops }

abbrev pub behind_head : Head → List ℕ → Result CbCall MsgFault
behind_head (Call h) bytes = Ok (call_of h (arguments_at (is_compound h.prog h.vers h.procedure) bytes))
behind_head (Reply h) bytes = Err (Rpc (rpc.BadKind 1))

unfoldable pub call_at : List ℕ → Result CbCall MsgFault
call_at bytes = fault_as of_rpc (made head_of head bytes) >>= λ h. behind_head h.0 h.1

-- ---- spelling

-- what comes behind the operations, where so many more are told of
abbrev pub SpellsTail : Tail → ℕ → List ℕ → Type 0
SpellsTail Whole more rest = (more ≡ 0) × (rest ≡ [])
SpellsTail (Unknown n) more rest = (0 < more) × (is_served n ≡ false) × (n < 2 ^ 32) × ((after : List ℕ) × (rest ≡ spelling.word n ++ after))
SpellsTail Garbage more rest = ⊥
SpellsTail Unread more rest = ⊥

-- so many operations are told of; those of the list come first
pub record SpellsOps (ops : CbOps) (count : ℕ) (bytes : List ℕ) : Type 0 where
  pub more : ℕ
  pub rest : List ℕ
  pub counted : length ops.list + more ≡ count
  pub fits : AllByRecursion argument.Fits ops.list
  pub parts : bytes ≡ flat_map argument.spell ops.list ++ rest
  pub behind : SpellsTail ops.tail more rest

-- the arguments of a CB_COMPOUND, whole or up to an operation that is not served
pub record SpellsArguments (a : Arguments) (bytes : List ℕ) : Type 0 where
  pub label : List ℕ
  pub ident : ℕ
  pub count : ℕ
  pub rest : List ℕ
  pub fits : front.Fits (label, (a.minor, (ident, count)))
  pub parts : bytes ≡ front.spell (label, (a.minor, (ident, count))) ++ rest
  pub ops : SpellsOps a.ops count rest

-- what stands behind a head: the arguments, what spells none, or, where it is no CB_COMPOUND, anything
abbrev pub SpellsBehind : Tail → Bool → Arguments → List ℕ → Type 0
SpellsBehind Whole is_cb a bytes = (is_cb ≡ true) × SpellsArguments a bytes
SpellsBehind (Unknown n) is_cb a bytes = (is_cb ≡ true) × SpellsArguments a bytes
SpellsBehind Garbage is_cb a bytes = (is_cb ≡ true) × (a ≡ none_read Garbage) × ((b : Arguments) → SpellsArguments b bytes → ⊥)
SpellsBehind Unread is_cb a bytes = (is_cb ≡ false) × (a ≡ none_read Unread)

abbrev pub arguments_of : CbCall → Arguments
arguments_of c = record { minor = c.minor; ops = c.ops }

-- with any credential and any verifier
pub record SpellsCall (c : CbCall) (bytes : List ℕ) : Type 0 where
  pub credential : Cred
  pub verifier : Cred
  pub rest : List ℕ
  pub fits : head.Fits (c.xid, call c.prog c.vers c.procedure credential verifier)
  pub parts : bytes ≡ head.spell (c.xid, call c.prog c.vers c.procedure credential verifier) ++ rest
  pub behind : SpellsBehind c.ops.tail (is_compound c.prog c.vers c.procedure) (arguments_of c) rest

-- ---- writing

-- which callbacks have a spelling, behind a head that is one of a CB_COMPOUND or not
abbrev pub TailFits : Tail → Bool → Arguments → Type 0
TailFits Whole is_cb a = (is_cb ≡ true) × (a.minor < 2 ^ 32) × (length a.ops.list < 2 ^ 32) × AllByRecursion argument.Fits a.ops.list
TailFits (Unknown n) is_cb a = (is_cb ≡ true) × (a.minor < 2 ^ 32) × (length a.ops.list + 1 < 2 ^ 32) × AllByRecursion argument.Fits a.ops.list × (is_served n ≡ false) × (n < 2 ^ 32)
TailFits Garbage is_cb a = (is_cb ≡ true) × (a ≡ none_read Garbage)
TailFits Unread is_cb a = (is_cb ≡ false) × (a ≡ none_read Unread)

abbrev pub CallFits : CbCall → Type 0
CallFits c = (c.xid < 2 ^ 32) × (c.prog < 2 ^ 32) × (c.vers < 2 ^ 32) × (c.procedure < 2 ^ 32) × TailFits c.ops.tail (is_compound c.prog c.vers c.procedure) (arguments_of c)

-- an empty tag and callback_ident 0, and behind an operation that is not served nothing
abbrev pub written_behind : Tail → ℕ → List CbArg → List ℕ
written_behind Whole minor list = front.spell ([], (minor, (0, length list))) ++ flat_map argument.spell list
written_behind (Unknown n) minor list = front.spell ([], (minor, (0, length list + 1))) ++ (flat_map argument.spell list ++ spelling.word n)
written_behind Garbage minor list = []
written_behind Unread minor list = []

-- AUTH_NONE as credential and verifier
abbrev pub written_call : CbCall → List ℕ
written_call c = head.spell (c.xid, call c.prog c.vers c.procedure no_auth no_auth) ++ written_behind c.ops.tail c.minor c.ops.list
