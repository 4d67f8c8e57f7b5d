-- Calls are read just where they are spelled.
use Rattle.std.proofs.Common.{◌≡◌, ◌^◌, ◌<◌, ◌≤◌, ℕ, zero, suc, ◌+◌, Bool, true, false, eqb, List, [], ◌∷◌, ◌++◌, length, map, Some, None, Result, Ok, Err, refl, sym, ap, subst, ◌∙◌, append_assoc, zero-add, arith, inl, inr}
use Rattle.std.specs.Prelude.{IfOk, IsOk}
use Rattle.std.specs.List.{flat_map, AllByRecursion}
use Rattle.std.specs.Int.{w32}
use Rattle.std.proofs.Math.Seq.{drop-append_seam}
use Rattle.std.proofs.lemmas.Bool.{eqb-true}
use Rattle.std.proofs.lemmas.List.{append-nil, nil_from_length, length-map}
use Rattle.std.proofs.lemmas.List.Concat.{flat_map-cons}
use Rattle.n41_xdr.specs.declared.fault.XdrFault.{XdrFault}
use Rattle.n41_xdr.specs.Spelling as spelling
use Rattle.n41_xdr.specs.Reading.{◌>>=◌, number_at}
use Rattle.n41_xdr.specs.Format.{made, fault_as, choose}
use Rattle.n41_xdr.specs.Lawful.{IsBytes, Takes, IsLawful}
use Rattle.n41_xdr.proofs.Lawful.{IsBytes-drop, bind_ok, fault_as_ok, chosen, made_again, word_lawful, opaque_lawful, both_lawful}
use Rattle.n41_rpc.specs.declared.fault.RpcFault.{RpcFault}
use Rattle.n41_rpc.specs.declared.fault.RpcFault.TheVariants.{BadKind}
use Rattle.n41_rpc.specs.declared.heads.CallHead.{CallHead}
use Rattle.n41_rpc.specs.declared.heads.Cred.{Cred}
use Rattle.n41_rpc.specs.declared.heads.Head.{Head}
use Rattle.n41_rpc.specs.Heads.{Spoken, Verdict, call, reply, head, head_of, kept}
use Rattle.n41_rpc.proofs.Lawful.{head_lawful}
use Rattle.n41_attr.specs.declared.fault.OpFault.{OpFault}
use Rattle.n41_attr.specs.declared.fault.OpFault.TheVariants.{Xdr, Illegal}
use Rattle.n41_attr.proofs.PartsLawful.{apart}
use Rattle.n41_args.specs.declared.arg.Arg.{Arg}
use Rattle.n41_args.specs.Args.{ToldArg, told_arg, arg_of, arg_rows, written_arg}
use Rattle.n41_args.proofs.ArgsLawful.{told_arg_lawful, arg_kept}
use Rattle.n41_replies.specs.declared.fault.MsgFault.{MsgFault}
use Rattle.n41_replies.specs.declared.fault.MsgFault.TheVariants.{Rpc}
use Rattle.n41_replies.specs.Faults.{of_rpc, Gives}
use Rattle.n41_seen.specs.declared.calls.SeenTail.{SeenTail}
use Rattle.n41_seen.specs.declared.calls.SeenTail.TheVariants.{Whole, Unknown, BadArgs, Garbage, Unread}
use Rattle.n41_seen.specs.declared.calls.CallSeen.{CallSeen}
use Rattle.n41_seen.specs.declared.compounds.Operations.{Operations}
use Rattle.n41_seen.specs.declared.compounds.Compound.{Compound}
use Rattle.n41_seen.specs.Calls.{is_compound, front, is_row, is_operation, Seen, with, argued, numbered, ops_seen, none_read, with_minor, told_front, behind_front, compound_at, call_of, behind_head, call_at, Begins, BeginsNone, SpellsTail, SpellsOps, SpellsCompound, SpellsBehind, compound_of, SpellsCall, call_text, TextFits, whole_call}
use Rattle.n41_seen.proofs.OpsLoop.{with_ops, seen_as}

IsBytes-behind : (text rest : List ℕ) → IsBytes (text ++ rest) → IsBytes rest
IsBytes-behind text rest h = subst (λ (w : List ℕ). IsBytes w) (drop-append_seam text rest) (IsBytes-drop (length text) (text ++ rest) h)

-- ---- one operation

-- what a row reads has its number
read_in_row : {E A : Type 0} (other : ℕ → E) (rows : List (ℕ × (List ℕ → Result (A × List ℕ) E))) (n : ℕ) (bytes : List ℕ) (x : A × List ℕ) → choose other rows n bytes ≡ Ok x → is_row rows n ≡ true
read_in_row other [] n bytes x e = absurd cc
read_in_row other (row ∷ rows) n bytes x e =
    elim (chosen (eqb n row.0) (row.1 bytes) (choose other rows n bytes) (Ok x) e) [
      | inl c ↦ rw c.0 refl
      | inr c ↦ rw c.0 (read_in_row other rows n bytes x c.1)
    ]

number_of_read : (bytes : List ℕ) (x : ToldArg × List ℕ) → told_arg.read bytes ≡ Ok x → (m : ℕ × List ℕ) × (number_at w32 bytes ≡ Ok m) × (is_operation m.0 ≡ true)
unfolding told_arg is_operation
number_of_read bytes x e =
    let a = bind_ok (fault_as (λ f. Xdr f) (number_at w32 bytes)) (λ n. choose (λ n. Illegal n) arg_rows n.0 n.1) x e in
    (a.0, fault_as_ok (λ f. Xdr f) (number_at w32 bytes) a.0 a.1, read_in_row (λ n. Illegal n) arg_rows a.0.0 a.0.1 x a.2)

number_again : (n : ℕ) (bytes : List ℕ) (b : Begins n bytes) → number_at w32 bytes ≡ Ok (n, b.1.0)
number_again n bytes b = ap (number_at w32) b.1.1 ∙ word_lawful.again n b.1.0 b.0

fault_is_none : (f : OpFault) (bytes : List ℕ) → told_arg.read bytes ≡ Err f → BeginsNone bytes
fault_is_none f bytes is x after fits e =
    let read : told_arg.read bytes ≡ Ok (x, after) = ap told_arg.read e ∙ told_arg_lawful.again x after fits in
    absurd cc

-- what comes behind a number
abbrev as_arg : Result (ToldArg × List ℕ) OpFault → Result (Arg × List ℕ) OpFault
as_arg r = r >>= λ x. Ok (arg_of x.0, x.1)

none_is_bad : (n : ℕ) (bytes : List ℕ) (others : List ℕ → Seen) → IsBytes bytes → BeginsNone bytes → (r : Result (ToldArg × List ℕ) OpFault) → told_arg.read bytes ≡ r → argued (as_arg r) n others ≡ seen_as (BadArgs n) []
none_is_bad n bytes others fits none (Ok x) is =
    let t = told_arg_lawful.takes bytes x fits is in
    absurd (none x.0 x.1 t.1 t.0.parts)
none_is_bad n bytes others fits none (Err f) is = refl

-- ---- operations: what is read is spelled so

-- what comes behind a first operation is read as all of them are
abbrev AreSpelled : ℕ → Type 0
AreSpelled n = (bytes : List ℕ) (ops : Operations) → IsBytes bytes → ops_seen n bytes ≡ Some ops → SpellsOps ops n bytes

one_more : (x : ToldArg) (ops : Operations) (n : ℕ) (bytes after : List ℕ) → Takes bytes (told_arg.spell x) after → told_arg.Fits x → SpellsOps ops n after
    → SpellsOps (record { list = arg_of x ∷ ops.list; tail = ops.tail }) (suc n) bytes
one_more x ops n bytes after t fits s = record {
  told = x ∷ s.told;
  more = s.more;
  rest = s.rest;
  counted = omega (arith, s.counted);
  fits = (fits, s.fits);
  kept = ap (λ (l : List Arg). arg_of x ∷ l) s.kept;
  parts =
      t.parts ∙ ap (λ (w : List ℕ). told_arg.spell x ++ w) s.parts ∙ sym (append_assoc (told_arg.spell x) (flat_map told_arg.spell s.told) s.rest)
      ∙ ap (λ (w : List ℕ). w ++ s.rest) (sym (flat_map-cons told_arg.spell x s.told));
  behind = s.behind;
}

with_some : (x : Arg) (seen : Seen) (ops : Operations) → with x seen ≡ Some ops → (others : Operations) × (seen ≡ Some others) × (record { list = x ∷ others.list; tail = others.tail } ≡ ops)
with_some x None ops e = absurd cc
with_some x (Some others) ops e = (others, refl, cc)

-- none is read, for this reason
ended_at : (tail : SeenTail) (n : ℕ) (bytes : List ℕ) (ops : Operations) → SpellsTail tail (suc n) bytes → seen_as tail [] ≡ Some ops → SpellsOps ops (suc n) bytes
ended_at tail n bytes ops behind e =
    let ops-is : record { list = []; tail = tail } ≡ ops = cc in
    subst (λ (o : Operations). SpellsOps o (suc n) bytes) ops-is (record { told = []; more = suc n; rest = bytes; counted = omega arith; fits = tt; kept = refl; parts = refl; behind = behind })

argued_takes : (m n : ℕ) (bytes : List ℕ) (ops : Operations) → IsBytes bytes → AreSpelled n → is_operation m ≡ true → Begins m bytes
    → (r : Result (ToldArg × List ℕ) OpFault) → told_arg.read bytes ≡ r → argued (as_arg r) m (ops_seen n) ≡ Some ops → SpellsOps ops (suc n) bytes
argued_takes m n bytes ops fits others known begins (Err f) is e = ended_at (BadArgs m) n bytes ops (omega arith, known, begins, fault_is_none f bytes is) e
argued_takes m n bytes ops fits others known begins (Ok x) is e =
    let t = told_arg_lawful.takes bytes x fits is in
    let w = with_some (arg_of x.0) (ops_seen n x.1) ops e in
    subst (λ (o : Operations). SpellsOps o (suc n) bytes) w.2 (one_more x.0 w.0 n bytes x.1 t.0 t.1 (others x.1 w.0 t.0.rest_fits w.1))

numbered_takes : (n : ℕ) (bytes : List ℕ) (ops : Operations) → IsBytes bytes → AreSpelled n → (r : Result (ℕ × List ℕ) XdrFault) → number_at w32 bytes ≡ r → numbered r bytes (ops_seen n) ≡ Some ops → SpellsOps ops (suc n) bytes
numbered_takes n bytes ops fits others (Err f) is e = absurd cc
numbered_takes n bytes ops fits others (Ok m) is e =
    let t = word_lawful.takes bytes m fits is in
    let begins : Begins m.0 bytes = (t.1, (m.1, t.0.parts)) in
    elim (chosen (is_operation m.0) (argued (made arg_of told_arg bytes) m.0 (ops_seen n)) (seen_as (Unknown m.0) []) (Some ops) e) [
      | inl c ↦ argued_takes m.0 n bytes ops fits others c.0 begins (told_arg.read bytes) refl c.1
      | inr c ↦ ended_at (Unknown m.0) n bytes ops (omega arith, c.0, begins) c.1
    ]

ops_takes : (n : ℕ) → AreSpelled n
ops_takes zero bytes ops fits e =
    elim (chosen (eqb (length bytes) 0) (seen_as Whole []) None (Some ops) e) [
      | inl c ↦
          let ops-is : record { list = []; tail = Whole } ≡ ops = cc in
          let none : bytes ≡ [] = nil_from_length bytes (eqb-true _ _ c.0) in
          subst (λ (o : Operations). SpellsOps o 0 bytes) ops-is (record { told = []; more = 0; rest = []; counted = refl; fits = tt; kept = refl; parts = none; behind = (refl, refl) })
      | inr c ↦ absurd cc
    ]
ops_takes (suc n) bytes ops fits e = numbered_takes n bytes ops fits (ops_takes n) (number_at w32 bytes) refl e

-- ---- operations: what is spelled so is read

numbered_known : (m : ℕ × List ℕ) (bytes : List ℕ) (others : List ℕ → Seen) (x : ToldArg × List ℕ) → number_at w32 bytes ≡ Ok m → is_operation m.0 ≡ true → told_arg.read bytes ≡ Ok x
    → numbered (number_at w32 bytes) bytes others ≡ with (arg_of x.0) (others x.1)
numbered_known m bytes others x number known read = rw (number, known, read) refl

one_again : (x : ToldArg) (rest : List ℕ) (others : List ℕ → Seen) → told_arg.Fits x → numbered (number_at w32 (told_arg.spell x ++ rest)) (told_arg.spell x ++ rest) others ≡ with (arg_of x) (others rest)
one_again x rest others fits =
    let read = told_arg_lawful.again x rest fits in
    let n = number_of_read (told_arg.spell x ++ rest) (x, rest) read in
    numbered_known n.0 (told_arg.spell x ++ rest) others (x, rest) n.1 n.2 read

with-with_ops : (x : Arg) (before : List Arg) (seen : Seen) → with x (with_ops before seen) ≡ with_ops (x ∷ before) seen
with-with_ops x before None = refl
with-with_ops x before (Some ops) = refl

with_none : (seen : Seen) → seen ≡ with_ops [] seen
with_none None = refl
with_none (Some ops) = refl

ops_again : (told : List ToldArg) (k : ℕ) (rest : List ℕ) → AllByRecursion told_arg.Fits told → ops_seen (length told + k) (flat_map told_arg.spell told ++ rest) ≡ with_ops (map arg_of told) (ops_seen k rest)
ops_again [] k rest fits = ap (λ (n : ℕ). ops_seen n rest) (zero-add k) ∙ with_none (ops_seen k rest)
ops_again (x ∷ told) k rest fits =
    let count : length (x ∷ told) + k ≡ suc (length told + k) = omega arith in
    let text : flat_map told_arg.spell (x ∷ told) ++ rest ≡ told_arg.spell x ++ (flat_map told_arg.spell told ++ rest) =
    ap (λ (w : List ℕ). w ++ rest) (flat_map-cons told_arg.spell x told) ∙ append_assoc (told_arg.spell x) (flat_map told_arg.spell told) rest in
    ap (λ (n : ℕ). ops_seen n (flat_map told_arg.spell (x ∷ told) ++ rest)) count
    ∙ ap (ops_seen (suc (length told + k))) text
    ∙ one_again x (flat_map told_arg.spell told ++ rest) (ops_seen (length told + k)) fits.0
    ∙ ap (with (arg_of x)) (ops_again told k rest fits.1)
    ∙ with-with_ops (arg_of x) (map arg_of told) (ops_seen k rest)

tail_again : (tail : SeenTail) (k : ℕ) (rest : List ℕ) → IsBytes rest → SpellsTail tail k rest → ops_seen k rest ≡ seen_as tail []
tail_again Whole k rest fits s = ap (λ (n : ℕ). ops_seen n rest) s.0 ∙ ap (ops_seen 0) s.1
tail_again (Unknown n) zero rest fits s = absurd (omega (arith, s.0))
tail_again (Unknown n) (suc k) rest fits s = rw (number_again n rest s.2, s.1) refl
tail_again (BadArgs n) zero rest fits s = absurd (omega (arith, s.0))
tail_again (BadArgs n) (suc k) rest fits s = rw (number_again n rest s.2, s.1) (none_is_bad n rest (ops_seen k) fits s.3 (told_arg.read rest) refl)
tail_again Garbage k rest fits none = absurd none
tail_again Unread k rest fits none = absurd none

ops_read : (ops : Operations) (count : ℕ) (bytes : List ℕ) → IsBytes bytes → SpellsOps ops count bytes → ops_seen count bytes ≡ Some ops
ops_read ops count bytes fits s =
    let rest_fits : IsBytes s.rest = IsBytes-behind (flat_map told_arg.spell s.told) s.rest (subst (λ (w : List ℕ). IsBytes w) s.parts fits) in
    ap (λ (n : ℕ). ops_seen n bytes) (sym s.counted)
    ∙ ap (ops_seen (length s.told + s.more)) s.parts
    ∙ ops_again s.told s.more s.rest s.fits
    ∙ ap (with_ops (map arg_of s.told)) (tail_again ops.tail s.more s.rest rest_fits s.behind)
    ∙ ap (seen_as ops.tail) (append-nil (map arg_of s.told) ∙ s.kept)

-- ---- the arguments of a COMPOUND

front_lawful : IsLawful front
unfolding front
front_lawful = both_lawful _ _ (opaque_lawful 65536) (both_lawful _ _ word_lawful word_lawful)

abbrev front_ok : ℕ → ℕ → List ℕ → Result ((ℕ × ℕ) × List ℕ) XdrFault
front_ok minor count rest = Ok ((minor, count), rest)

front_again : (tag : List ℕ) (minor count : ℕ) (rest : List ℕ) → front.Fits (tag, (minor, count)) → told_front (front.spell (tag, (minor, count)) ++ rest) ≡ front_ok minor count rest
front_again tag minor count rest fits = made_again (λ x. x.1) front front_lawful (tag, (minor, count)) rest fits

compound_again : (c : Compound) (bytes : List ℕ) → IsBytes bytes → SpellsCompound c bytes → behind_front (told_front bytes) ≡ c
compound_again c bytes fits s =
    let rest_fits : IsBytes s.rest = IsBytes-behind (front.spell (s.tag, (c.minor, s.count))) s.rest (subst (λ (w : List ℕ). IsBytes w) s.parts fits) in
    ap (λ (w : List ℕ). behind_front (told_front w)) s.parts
    ∙ ap behind_front (front_again s.tag c.minor s.count s.rest s.fits)
    ∙ ap (with_minor c.minor) (ops_read c.ops s.count s.rest rest_fits s.ops)

-- what is read as garbage spells no arguments
is_no_spelling : (bytes : List ℕ) → IsBytes bytes → behind_front (told_front bytes) ≡ none_read Garbage → (b : Compound) → SpellsCompound b bytes → ⊥
is_no_spelling bytes fits e b s =
    let same : b ≡ none_read Garbage = sym (compound_again b bytes fits s) ∙ e in
    let spelled : SpellsCompound (none_read Garbage) bytes = subst (λ (c : Compound). SpellsCompound c bytes) same s in
    spelled.ops.behind

compound_behind : (minor : ℕ) (list : List Arg) (tail : SeenTail) (bytes : List ℕ) → SpellsCompound (record { minor = minor; ops = record { list = list; tail = tail } }) bytes
    → SpellsBehind tail true (record { minor = minor; ops = record { list = list; tail = tail } }) bytes
compound_behind minor list Whole bytes s = (refl, s)
compound_behind minor list (Unknown n) bytes s = (refl, s)
compound_behind minor list (BadArgs n) bytes s = (refl, s)
compound_behind minor list Garbage bytes s = absurd s.ops.behind
compound_behind minor list Unread bytes s = absurd s.ops.behind

ops_behind : (tag : List ℕ) (minor count : ℕ) (bytes rest : List ℕ) → IsBytes bytes → Takes bytes (front.spell (tag, (minor, count))) rest → front.Fits (tag, (minor, count))
    → (seen : Seen) → ops_seen count rest ≡ seen → behind_front (told_front bytes) ≡ with_minor minor seen → SpellsBehind (with_minor minor seen).ops.tail true (with_minor minor seen) bytes
ops_behind tag minor count bytes rest is_bytes t fits None is e = (refl, refl, is_no_spelling bytes is_bytes e)
ops_behind tag minor count bytes rest is_bytes t fits (Some ops) is e =
    compound_behind minor ops.list ops.tail bytes (record {
      tag = tag;
      count = count;
      rest = rest;
      fits = fits;
      parts = t.parts;
      ops = ops_takes count rest ops t.rest_fits is;
    })

front_behind : (bytes : List ℕ) → IsBytes bytes → (r : Result ((List ℕ × (ℕ × ℕ)) × List ℕ) XdrFault) → front.read bytes ≡ r
    → SpellsBehind (behind_front (told_front bytes)).ops.tail true (behind_front (told_front bytes)) bytes
front_behind bytes fits (Err f) is =
    let e : behind_front (told_front bytes) ≡ none_read Garbage = rw is refl in
    subst (λ (c : Compound). SpellsBehind c.ops.tail true c bytes) (sym e) (refl, refl, is_no_spelling bytes fits e)
front_behind bytes fits (Ok x) is =
    let t = front_lawful.takes bytes x fits is in
    let e : behind_front (told_front bytes) ≡ with_minor x.0.1.0 (ops_seen x.0.1.1 x.1) = rw is refl in
    subst (λ (c : Compound). SpellsBehind c.ops.tail true c bytes) (sym e) (ops_behind x.0.0 x.0.1.0 x.0.1.1 bytes x.1 fits t.0 t.1 (ops_seen x.0.1.1 x.1) refl e)

behind_takes : (is : Bool) (bytes : List ℕ) → IsBytes bytes → SpellsBehind (compound_at is bytes).ops.tail is (compound_at is bytes) bytes
behind_takes true bytes fits = front_behind bytes fits (front.read bytes) refl
behind_takes false bytes fits = (refl, refl)

-- where nothing is spelled, garbage is read
garbage_again : (tail : SeenTail) (c : Compound) (bytes : List ℕ) → SpellsBehind tail true c bytes → ((b : Compound) → SpellsCompound b bytes → ⊥) → c ≡ none_read Garbage
garbage_again Whole c bytes s none = absurd (none c s.1)
garbage_again (Unknown n) c bytes s none = absurd (none c s.1)
garbage_again (BadArgs n) c bytes s none = absurd (none c s.1)
garbage_again Garbage c bytes s none = s.1
garbage_again Unread c bytes s none = absurd cc

compound_read : (is : Bool) (c : Compound) (bytes : List ℕ) → IsBytes bytes → is ≡ true → SpellsCompound c bytes → compound_at is bytes ≡ c
compound_read is c bytes fits e s = ap (λ (b : Bool). compound_at b bytes) e ∙ compound_again c bytes fits s

behind_again : (tail : SeenTail) (is : Bool) (c : Compound) (bytes : List ℕ) → IsBytes bytes → SpellsBehind tail is c bytes → compound_at is bytes ≡ c
behind_again Whole is c bytes fits s = compound_read is c bytes fits s.0 s.1
behind_again (Unknown n) is c bytes fits s = compound_read is c bytes fits s.0 s.1
behind_again (BadArgs n) is c bytes fits s = compound_read is c bytes fits s.0 s.1
behind_again Garbage is c bytes fits s =
    let none : compound_at true bytes ≡ none_read Garbage = garbage_again (compound_at true bytes).ops.tail (compound_at true bytes) bytes (behind_takes true bytes fits) s.2 in
    ap (λ (b : Bool). compound_at b bytes) s.0 ∙ none ∙ sym s.1
behind_again Unread is c bytes fits s = ap (λ (b : Bool). compound_at b bytes) s.0 ∙ sym s.1

-- ---- calls

abbrev head_ok : Head × List ℕ → Result (Head × List ℕ) RpcFault
head_ok x = Ok x

abbrev call_ok : CallSeen → Result CallSeen MsgFault
call_ok c = Ok c

abbrev head_with : ℕ → ℕ → ℕ → ℕ → Cred → CallHead
head_with xid prog vers procedure c = record { xid = xid; prog = prog; vers = vers; procedure = procedure; cred = c }

-- behind the head the arguments are read
call_again : (xid prog vers procedure : ℕ) (c v : Cred) (rest : List ℕ) → head.Fits (xid, call prog vers procedure c v)
    → call_at (head.spell (xid, call prog vers procedure c v) ++ rest) ≡ call_ok (call_of (head_with xid prog vers procedure c) (compound_at (is_compound prog vers procedure) rest))
unfolding call_at
call_again xid prog vers procedure c v rest fits = rw (made_again head_of head head_lawful (xid, call prog vers procedure c v) rest fits) refl

pub call_is_ok : (xid prog vers procedure : ℕ) (c v : Cred) (rest : List ℕ) → head.Fits (xid, call prog vers procedure c v) → IsOk (call_at (head.spell (xid, call prog vers procedure c v) ++ rest))
call_is_ok xid prog vers procedure c v rest fits = rw (call_again xid prog vers procedure c v rest fits) refl

pub reply_is_refused : (xid : ℕ) (v : Verdict) (rest : List ℕ) → head.Fits (xid, reply v) → call_at (head.spell (xid, reply v) ++ rest) ≡ Err (Rpc (BadKind 1))
unfolding call_at
reply_is_refused xid v rest fits = rw (made_again head_of head head_lawful (xid, reply v) rest fits) refl

pub spelled_is_read : (c : CallSeen) (bytes : List ℕ) → IsBytes bytes → SpellsCall c bytes → call_at bytes ≡ Ok c
spelled_is_read c bytes fits s =
    let rest_fits : IsBytes s.rest = IsBytes-behind (head.spell (c.xid, call c.prog c.vers c.procedure c.cred s.verifier)) s.rest (subst (λ (w : List ℕ). IsBytes w) s.parts fits) in
    ap call_at s.parts ∙ call_again c.xid c.prog c.vers c.procedure c.cred s.verifier s.rest s.fits
    ∙ ap (λ (a : Compound). call_ok (call_of (head_with c.xid c.prog c.vers c.procedure c.cred) a)) (behind_again c.tail (is_compound c.prog c.vers c.procedure) (compound_of c) s.rest rest_fits s.behind)

spoken_takes : (xid : ℕ) (s : Spoken) (bytes rest : List ℕ) (c : CallSeen) → Takes bytes (head.spell (xid, s)) rest → head.Fits (xid, s) → behind_head (kept xid s) rest ≡ Ok c → SpellsCall c bytes
spoken_takes xid (reply v) bytes rest c t fits e = absurd cc
spoken_takes xid (call prog vers procedure credential verifier) bytes rest c t fits e =
    let c-is : call_of (head_with xid prog vers procedure credential) (compound_at (is_compound prog vers procedure) rest) ≡ c = cc in
    subst (λ (d : CallSeen). SpellsCall d bytes) c-is (record {
      verifier = verifier;
      rest = rest;
      fits = fits;
      parts = t.parts;
      behind = behind_takes (is_compound prog vers procedure) rest t.rest_fits;
    })

pub read_is_spelled : (c : CallSeen) (bytes : List ℕ) → IsBytes bytes → call_at bytes ≡ Ok c → SpellsCall c bytes
unfolding call_at
read_is_spelled c bytes fits e =
    let a = bind_ok (fault_as of_rpc (made head_of head bytes)) (λ h. behind_head h.0 h.1) c e in
    let h = bind_ok (head.read bytes) (λ x. head_ok (head_of x.0, x.1)) a.0 (fault_as_ok of_rpc (made head_of head bytes) a.0 a.1) in
    let t = head_lawful.takes bytes h.0 fits h.1 in
    let a-is : (head_of h.0.0, h.0.1) ≡ a.0 = cc in
    spoken_takes h.0.0.0 h.0.0.1 bytes h.0.1 c t.0 t.1 (ap (λ (v : Head × List ℕ). behind_head v.0 v.1) a-is ∙ a.2)

pub is_found : (bytes : List ℕ) (r : Result CallSeen MsgFault) → IsBytes bytes → Gives r (call_at bytes) → IfOk r (λ c. SpellsCall c bytes)
is_found bytes (Ok c) fits e = read_is_spelled c bytes fits e
is_found bytes (Err f) fits e = tt

-- ---- one value, and no beginning

pub one_value : (c d : CallSeen) (bytes : List ℕ) → IsBytes bytes → SpellsCall c bytes → SpellsCall d bytes → c ≡ d
one_value c d bytes fits s t =
    let same : call_ok c ≡ call_ok d = sym (spelled_is_read c bytes fits s) ∙ spelled_is_read d bytes fits t in
    cc

abbrev call_with : CallSeen → ℕ → List Arg → SeenTail → CallSeen
call_with c minor list tail = record { xid = c.xid; prog = c.prog; vers = c.vers; procedure = c.procedure; cred = c.cred; minor = minor; list = list; tail = tail }

-- bytes behind whole arguments
compound_more : (minor : ℕ) (list : List Arg) (bytes more : List ℕ) → SpellsCompound (record { minor = minor; ops = record { list = list; tail = Whole } }) bytes
    → behind_front (told_front (bytes ++ more)) ≡ with_minor minor (with_ops list (ops_seen 0 more))
compound_more minor list bytes more s =
    let text : bytes ++ more ≡ front.spell (s.tag, (minor, s.count)) ++ (s.rest ++ more) =
    ap (λ (w : List ℕ). w ++ more) s.parts ∙ append_assoc (front.spell (s.tag, (minor, s.count))) s.rest more in
    let told_text : s.rest ++ more ≡ flat_map told_arg.spell s.ops.told ++ more =
    ap (λ (w : List ℕ). w ++ more) (s.ops.parts ∙ ap (λ (w : List ℕ). flat_map told_arg.spell s.ops.told ++ w) s.ops.behind.1 ∙ append-nil (flat_map told_arg.spell s.ops.told)) in
    let count : s.count ≡ length s.ops.told + 0 = sym s.ops.counted ∙ ap (λ (n : ℕ). length s.ops.told + n) s.ops.behind.0 in
    ap (λ (w : List ℕ). behind_front (told_front w)) text
    ∙ ap behind_front (front_again s.tag minor s.count (s.rest ++ more) s.fits)
    ∙ ap (λ (n : ℕ). with_minor minor (ops_seen n (s.rest ++ more))) count
    ∙ ap (λ (w : List ℕ). with_minor minor (ops_seen (length s.ops.told + 0) w)) told_text
    ∙ ap (with_minor minor) (ops_again s.ops.told 0 more s.ops.fits)
    ∙ ap (λ (l : List Arg). with_minor minor (with_ops l (ops_seen 0 more))) s.ops.kept

-- with more behind it, a whole call is read as garbage
abbrev call_from : CallSeen → Seen → CallSeen
call_from c seen =
    let a = with_minor c.minor (with_ops c.list seen) in
    call_with c a.minor a.ops.list a.ops.tail

call_more : (c : CallSeen) (bytes more : List ℕ) → SpellsCall c bytes → c.tail ≡ Whole → call_at (bytes ++ more) ≡ call_ok (call_from c (ops_seen 0 more))
call_more c bytes more s whole =
    let text : bytes ++ more ≡ head.spell (c.xid, call c.prog c.vers c.procedure c.cred s.verifier) ++ (s.rest ++ more) =
    ap (λ (w : List ℕ). w ++ more) s.parts ∙ append_assoc (head.spell (c.xid, call c.prog c.vers c.procedure c.cred s.verifier)) s.rest more in
    let behind : SpellsBehind Whole (is_compound c.prog c.vers c.procedure) (record { minor = c.minor; ops = record { list = c.list; tail = Whole } }) s.rest =
    subst (λ (t : SeenTail). SpellsBehind t (is_compound c.prog c.vers c.procedure) (record { minor = c.minor; ops = record { list = c.list; tail = t } }) s.rest) whole s.behind in
    ap call_at text ∙ call_again c.xid c.prog c.vers c.procedure c.cred s.verifier (s.rest ++ more) s.fits
    ∙ ap (λ (b : Bool). call_ok (call_of (head_with c.xid c.prog c.vers c.procedure c.cred) (compound_at b (s.rest ++ more)))) behind.0
    ∙ ap (λ (a : Compound). call_ok (call_of (head_with c.xid c.prog c.vers c.procedure c.cred) a)) (compound_more c.minor c.list s.rest more behind.1)

whole_is_read : (c : CallSeen) (bytes : List ℕ) → SpellsCall c bytes → c.tail ≡ Whole → call_at bytes ≡ call_ok c
whole_is_read c bytes s whole =
    ap call_at (sym (append-nil bytes)) ∙ call_more c bytes [] s whole
    ∙ ap (λ (l : List Arg). call_ok (call_with c c.minor l Whole)) (append-nil c.list)
    ∙ ap (λ (t : SeenTail). call_ok (call_with c c.minor c.list t)) (sym whole)

more_is_none : (c d : CallSeen) (more : List ℕ) → d.tail ≡ Whole → call_ok d ≡ call_ok (call_from c (ops_seen 0 more)) → more ≡ []
more_is_none c d [] whole e = refl
more_is_none c d (b ∷ more) whole e =
    let some : eqb (length (b ∷ more)) 0 ≡ false = apart (length (b ∷ more)) 0 (λ z. absurd (omega (arith, z))) in
    let none : ops_seen 0 (b ∷ more) ≡ None = rw some refl in
    let read : call_ok d ≡ call_ok (call_from c None) = e ∙ ap (λ (s : Seen). call_ok (call_from c s)) none in
    let d-is : d ≡ call_from c None = cc in
    let tails : Whole ≡ Garbage = sym whole ∙ ap (λ (v : CallSeen). v.tail) d-is in
    absurd cc

pub none_begins_another : (c d : CallSeen) (a b more : List ℕ) → SpellsCall c a → SpellsCall d b → b ≡ a ++ more → c.tail ≡ Whole → d.tail ≡ Whole → (c ≡ d) × (more ≡ [])
none_begins_another c d a b more s t e whole_c whole_d =
    let read_d = whole_is_read d b t whole_d in
    let none : more ≡ [] = more_is_none c d more whole_d (sym read_d ∙ ap call_at e ∙ call_more c a more s whole_c) in
    let same : call_ok c ≡ call_ok d = sym (whole_is_read c a s whole_c) ∙ ap call_at (sym (e ∙ ap (λ (w : List ℕ). a ++ w) none ∙ append-nil a)) ∙ read_d in
    (cc, none)

-- ---- whole calls

front_text : (tag : List ℕ) (minor count : ℕ) (rest : List ℕ) → spelling.opaque tag ++ (spelling.word minor ++ (spelling.word count ++ rest)) ≡ front.spell (tag, (minor, count)) ++ rest
unfolding front
front_text tag minor count rest = simp append_assoc

front_fits : (tag : List ℕ) (minor count : ℕ) → length tag ≤ 65536 → minor < 2 ^ 32 → count < 2 ^ 32 → front.Fits (tag, (minor, count))
unfolding front
front_fits tag minor count t m c = ((t, omega (arith, t)), (m, c))

pub whole_is_spelled : (xid : ℕ) (c v : Cred) (tag : List ℕ) (minor : ℕ) (told : List ToldArg) → TextFits xid c v tag minor told
    → SpellsCall (whole_call xid c minor (map arg_of told)) (call_text xid c v tag minor (length told) told)
whole_is_spelled xid c v tag minor told f = record {
  verifier = v;
  rest = spelling.opaque tag ++ (spelling.word minor ++ (spelling.word (length told) ++ flat_map told_arg.spell told));
  fits = f.0;
  parts = refl;
  behind = (
    refl,
    record {
      tag = tag;
      count = length told;
      rest = flat_map told_arg.spell told;
      fits = front_fits tag minor (length told) f.1 f.2 f.3;
      parts = front_text tag minor (length told) (flat_map told_arg.spell told);
      ops = record {
        told = told;
        more = 0;
        rest = [];
        counted = omega arith;
        fits = f.4;
        kept = refl;
        parts = sym (append-nil (flat_map told_arg.spell told));
        behind = (refl, refl);
      };
    },
  );
}

pub told_is_read : (xid : ℕ) (c v : Cred) (tag : List ℕ) (minor : ℕ) (told : List ToldArg) → TextFits xid c v tag minor told
    → call_at (call_text xid c v tag minor (length told) told) ≡ Ok (whole_call xid c minor (map arg_of told))
told_is_read xid c v tag minor told f = whole_is_read (whole_call xid c minor (map arg_of told)) (call_text xid c v tag minor (length told) told) (whole_is_spelled xid c v tag minor told f) refl

list_kept : (list : List Arg) → map arg_of (map written_arg list) ≡ list
list_kept [] = refl
list_kept (x ∷ list) = ap (λ (a : Arg). a ∷ map arg_of (map written_arg list)) (arg_kept x) ∙ ap (λ (l : List Arg). x ∷ l) (list_kept list)

pub written_is_read : (xid : ℕ) (c v : Cred) (tag : List ℕ) (minor : ℕ) (list : List Arg) → TextFits xid c v tag minor (map written_arg list)
    → call_at (call_text xid c v tag minor (length list) (map written_arg list)) ≡ Ok (whole_call xid c minor list)
written_is_read xid c v tag minor list f =
    ap (λ (n : ℕ). call_at (call_text xid c v tag minor n (map written_arg list))) (sym (length-map list written_arg))
    ∙ told_is_read xid c v tag minor (map written_arg list) f
    ∙ ap (λ (l : List Arg). call_ok (whole_call xid c minor l)) (list_kept list)
