-- Callbacks are read just where they are spelled.
use Rattle.std.proofs.Common.{◌≡◌, ℕ, zero, suc, ◌+◌, ◌<◌, ◌^◌, Bool, true, false, eqb, List, [], ◌∷◌, ◌++◌, length, Some, None, Result, Ok, Err, refl, sym, ap, subst, ◌∙◌, append_assoc, zero-add, arith, inl, inr}
use Rattle.std.specs.Prelude.{IfOk}
use Rattle.std.specs.List.{flat_map, AllByRecursion}
use Rattle.std.specs.Int.{w32}
use Rattle.std.proofs.lemmas.Bool.{eqb-true}
use Rattle.std.proofs.lemmas.List.{append-nil, nil_from_length}
use Rattle.std.proofs.lemmas.List.Concat.{flat_map-cons}
use Rattle.n41_xdr.specs.declared.fault.XdrFault.{XdrFault}
use Rattle.n41_xdr.specs.Spelling as spelling
use Rattle.n41_xdr.specs.Reading.{number_at, opaque_at}
use Rattle.n41_xdr.specs.Format.{made, fault_as, choose}
use Rattle.n41_xdr.specs.Lawful.{IsBytes, Takes, IsLawful}
use Rattle.n41_xdr.proofs.Lawful.{bind_ok, fault_as_ok, chosen, made_again, word_lawful, opaque_lawful, both_lawful}
use Rattle.n41_rpc.specs.declared.fault.RpcFault.{RpcFault}
use Rattle.n41_rpc.specs.declared.heads.CallHead.{CallHead}
use Rattle.n41_rpc.specs.declared.heads.Cred.{Cred}
use Rattle.n41_rpc.specs.declared.heads.Head.{Head}
use Rattle.n41_rpc.specs.Heads.{Spoken, call, reply, head, head_of, kept, spoken, called, cred, no_auth}
use Rattle.n41_rpc.proofs.Lawful.{head_lawful}
use Rattle.n41_results.specs.declared.callbacks.CbArg.{CbArg}
use Rattle.n41_results.specs.declared.callbacks.CbArg.TheVariants as arg
use Rattle.n41_results.specs.declared.callbacks.CbCall.{CbCall}
use Rattle.n41_results.specs.declared.callbacks.CbOps.{CbOps}
use Rattle.n41_results.specs.declared.callbacks.Tail.{Tail}
use Rattle.n41_results.specs.declared.callbacks.Tail.TheVariants.{Whole, Unknown, Garbage, Unread}
use Rattle.n41_attr.specs.declared.fault.OpFault.{OpFault}
use Rattle.n41_attr.specs.Parts.{bad_arm}
use Rattle.n41_attr.proofs.PartsLawful.{apart}
use Rattle.n41_cbmsg.specs.declared.fault.MsgFault.{MsgFault}
use Rattle.n41_cbmsg.specs.declared.compounds.Arguments.{Arguments}
use Rattle.n41_cbmsg.specs.Reading.{of_rpc, IsRead}
use Rattle.n41_cbmsg.specs.Arguments.{is_served, argument, argument_arm, argument_rows}
use Rattle.n41_cbmsg.specs.Calls.{is_compound, front, Seen, with, argued, numbered, ops_seen, none_read, with_minor, minor_and_count, behind_front, arguments_at, call_of, behind_head, call_at, SpellsTail, SpellsOps, SpellsArguments, SpellsBehind, arguments_of, SpellsCall, TailFits, CallFits, written_behind, written_call}
use Rattle.n41_cbmsg.proofs.OpsLoop.{with_ops, seen_as}
use Rattle.n41_cbmsg.proofs.Parts.{argument_back, argument_lawful}

-- ---- operations: what is read is spelled so

-- what comes behind a first operation is read as all of them are
abbrev AreSpelled : ℕ → Type 0
AreSpelled n = (bytes : List ℕ) (ops : CbOps) → IsBytes bytes → ops_seen n bytes ≡ Some ops → SpellsOps ops n bytes

one_more : (x : CbArg) (ops : CbOps) (n : ℕ) (bytes after : List ℕ) → Takes bytes (argument.spell x) after → argument.Fits x → SpellsOps ops n after → SpellsOps (record { list = x ∷ ops.list; tail = ops.tail }) (suc n) bytes
one_more x ops n bytes after t fits s = record {
  more = s.more;
  rest = s.rest;
  counted = omega (arith, s.counted);
  fits = (fits, s.fits);
  parts =
      t.parts ∙ ap (λ (w : List ℕ). argument.spell x ++ w) s.parts ∙ sym (append_assoc (argument.spell x) (flat_map argument.spell ops.list) s.rest)
      ∙ ap (λ (w : List ℕ). w ++ s.rest) (sym (flat_map-cons argument.spell x ops.list));
  behind = s.behind;
}

with_some : (x : CbArg) (seen : Seen) (ops : CbOps) → with x seen ≡ Some ops → (others : CbOps) × (seen ≡ Some others) × (record { list = x ∷ others.list; tail = others.tail } ≡ ops)
with_some x None ops e = absurd cc
with_some x (Some others) ops e = (others, refl, cc)

argued_takes : (n : ℕ) (bytes : List ℕ) (ops : CbOps) → IsBytes bytes → AreSpelled n → (r : Result (CbArg × List ℕ) OpFault) → argument.read bytes ≡ r → argued r (ops_seen n) ≡ Some ops → SpellsOps ops (suc n) bytes
argued_takes n bytes ops fits others (Err f) is e = absurd cc
argued_takes n bytes ops fits others (Ok x) is e =
    let t = argument_lawful.takes bytes x fits is in
    let w = with_some x.0 (ops_seen n x.1) ops e in
    subst (λ (o : CbOps). SpellsOps o (suc n) bytes) w.2 (one_more x.0 w.0 n bytes x.1 t.0 t.1 (others x.1 w.0 t.0.rest_fits w.1))

argument_at : (bytes : List ℕ) (m : ℕ × List ℕ) → number_at w32 bytes ≡ Ok m → argument.read bytes ≡ choose bad_arm argument_rows m.0 m.1
unfolding argument
argument_at bytes m is = rw is refl

numbered_takes : (n : ℕ) (bytes : List ℕ) (ops : CbOps) → IsBytes bytes → AreSpelled n → (r : Result (ℕ × List ℕ) XdrFault) → number_at w32 bytes ≡ r → numbered r (ops_seen n) ≡ Some ops → SpellsOps ops (suc n) bytes
numbered_takes n bytes ops fits others (Err f) is e = absurd cc
numbered_takes n bytes ops fits others (Ok m) is e =
    elim (chosen (is_served m.0) (argued (choose bad_arm argument_rows m.0 m.1) (ops_seen n)) (seen_as (Unknown m.0) []) (Some ops) e) [
      | inl c ↦ argued_takes n bytes ops fits others (choose bad_arm argument_rows m.0 m.1) (argument_at bytes m is) c.1
      | inr c ↦
          let t = word_lawful.takes bytes m fits is in
          let ops-is : record { list = []; tail = Unknown m.0 } ≡ ops = cc in
          subst (λ (o : CbOps). SpellsOps o (suc n) bytes) ops-is (record {
            more = suc n;
            rest = bytes;
            counted = omega arith;
            fits = tt;
            parts = refl;
            behind = (omega arith, c.0, t.1, (m.1, t.0.parts));
          })
    ]

ops_takes : (n : ℕ) → AreSpelled n
ops_takes zero bytes ops fits e =
    elim (chosen (eqb (length bytes) 0) (seen_as Whole []) None (Some ops) e) [
      | inl c ↦
          let ops-is : record { list = []; tail = Whole } ≡ ops = cc in
          let none : bytes ≡ [] = nil_from_length bytes (eqb-true _ _ c.0) in
          subst (λ (o : CbOps). SpellsOps o 0 bytes) ops-is (record { more = 0; rest = []; counted = refl; fits = tt; parts = none; behind = (refl, refl) })
      | inr c ↦ absurd cc
    ]
ops_takes (suc n) bytes ops fits e = numbered_takes n bytes ops fits (ops_takes n) (number_at w32 bytes) refl e

-- ---- operations: what is spelled so is read

is_served-number : (x : CbArg) → is_served (argument_arm x).number ≡ true
is_served-number (arg.Recall a) = refl
is_served-number (arg.RecallAny a) = refl
is_served-number (arg.RecallSlot n) = refl
is_served-number (arg.Sequence a) = refl

one_again : (x : CbArg) (rest : List ℕ) (others : List ℕ → Seen) → argument.Fits x → numbered (number_at w32 (argument.spell x ++ rest)) others ≡ with x (others rest)
unfolding argument
one_again x rest others fits =
    let number : number_at w32 (argument.spell x ++ rest) ≡ Ok ((argument_arm x).number, (argument_arm x).text ++ rest) =
    ap (number_at w32) (append_assoc (spelling.word (argument_arm x).number) (argument_arm x).text rest) ∙ word_lawful.again (argument_arm x).number ((argument_arm x).text ++ rest) fits.0 in
    rw (number, is_served-number x, argument_back x rest fits.1) refl

with-with_ops : (x : CbArg) (before : List CbArg) (seen : Seen) → with x (with_ops before seen) ≡ with_ops (x ∷ before) seen
with-with_ops x before None = refl
with-with_ops x before (Some ops) = refl

with_none : (seen : Seen) → seen ≡ with_ops [] seen
with_none None = refl
with_none (Some ops) = refl

pub ops_again : (list : List CbArg) (k : ℕ) (rest : List ℕ) → AllByRecursion argument.Fits list → ops_seen (length list + k) (flat_map argument.spell list ++ rest) ≡ with_ops list (ops_seen k rest)
ops_again [] k rest fits = ap (λ (n : ℕ). ops_seen n rest) (zero-add k) ∙ with_none (ops_seen k rest)
ops_again (x ∷ list) k rest fits =
    let count : length (x ∷ list) + k ≡ suc (length list + k) = omega arith in
    let text : flat_map argument.spell (x ∷ list) ++ rest ≡ argument.spell x ++ (flat_map argument.spell list ++ rest) =
    ap (λ (w : List ℕ). w ++ rest) (flat_map-cons argument.spell x list) ∙ append_assoc (argument.spell x) (flat_map argument.spell list) rest in
    ap (λ (n : ℕ). ops_seen n (flat_map argument.spell (x ∷ list) ++ rest)) count
    ∙ ap (ops_seen (suc (length list + k))) text
    ∙ one_again x (flat_map argument.spell list ++ rest) (ops_seen (length list + k)) fits.0
    ∙ ap (with x) (ops_again list k rest fits.1)
    ∙ with-with_ops x list (ops_seen k rest)

tail_again : (tail : Tail) (k : ℕ) (rest : List ℕ) → SpellsTail tail k rest → ops_seen k rest ≡ seen_as tail []
tail_again Whole k rest s = ap (λ (n : ℕ). ops_seen n rest) s.0 ∙ ap (ops_seen 0) s.1
tail_again (Unknown n) zero rest s = absurd (omega (arith, s.0))
tail_again (Unknown n) (suc k) rest s = ap (ops_seen (suc k)) s.3.1 ∙ rw (word_lawful.again n s.3.0 s.2, s.1) refl
tail_again Garbage k rest none = absurd none
tail_again Unread k rest none = absurd none

pub spelled_ops_read : (ops : CbOps) (count : ℕ) (bytes : List ℕ) → SpellsOps ops count bytes → ops_seen count bytes ≡ Some ops
spelled_ops_read ops count bytes s =
    ap (λ (n : ℕ). ops_seen n bytes) (sym s.counted)
    ∙ ap (ops_seen (length ops.list + s.more)) s.parts
    ∙ ops_again ops.list s.more s.rest s.fits
    ∙ ap (with_ops ops.list) (tail_again ops.tail s.more s.rest s.behind)
    ∙ ap (seen_as ops.tail) (append-nil ops.list)

-- ---- arguments

front_lawful : IsLawful front
unfolding front
front_lawful = both_lawful _ _ (opaque_lawful 65536) (both_lawful _ _ word_lawful (both_lawful _ _ word_lawful word_lawful))

abbrev told : ℕ → ℕ → List ℕ → Result ((ℕ × ℕ) × List ℕ) XdrFault
told minor count rest = Ok ((minor, count), rest)

pub front_again : (label : List ℕ) (minor ident count : ℕ) (rest : List ℕ) → front.Fits (label, (minor, (ident, count))) → minor_and_count (front.spell (label, (minor, (ident, count))) ++ rest) ≡ told minor count rest
front_again label minor ident count rest fits = made_again (λ x. (x.1.0, x.1.1.1)) front front_lawful (label, (minor, (ident, count))) rest fits

arguments_again : (a : Arguments) (bytes : List ℕ) → SpellsArguments a bytes → behind_front (minor_and_count bytes) ≡ a
arguments_again a bytes s =
    ap (λ (w : List ℕ). behind_front (minor_and_count w)) s.parts
    ∙ ap behind_front (front_again s.label a.minor s.ident s.count s.rest s.fits)
    ∙ ap (with_minor a.minor) (spelled_ops_read a.ops s.count s.rest s.ops)

-- what is read as garbage spells no arguments
is_no_spelling : (bytes : List ℕ) → behind_front (minor_and_count bytes) ≡ none_read Garbage → (b : Arguments) → SpellsArguments b bytes → ⊥
is_no_spelling bytes e b s =
    let same : b ≡ none_read Garbage = sym (arguments_again b bytes s) ∙ e in
    let spelled : SpellsArguments (none_read Garbage) bytes = subst (λ (a : Arguments). SpellsArguments a bytes) same s in
    spelled.ops.behind

arguments_behind : (minor : ℕ) (list : List CbArg) (tail : Tail) (bytes : List ℕ) → SpellsArguments (record { minor = minor; ops = record { list = list; tail = tail } }) bytes
    → SpellsBehind tail true (record { minor = minor; ops = record { list = list; tail = tail } }) bytes
arguments_behind minor list Whole bytes s = (refl, s)
arguments_behind minor list (Unknown n) bytes s = (refl, s)
arguments_behind minor list Garbage bytes s = absurd s.ops.behind
arguments_behind minor list Unread bytes s = absurd s.ops.behind

ops_behind : (label : List ℕ) (minor ident count : ℕ) (bytes rest : List ℕ) → Takes bytes (front.spell (label, (minor, (ident, count)))) rest → front.Fits (label, (minor, (ident, count)))
    → (seen : Seen) → ops_seen count rest ≡ seen → behind_front (minor_and_count bytes) ≡ with_minor minor seen → SpellsBehind (with_minor minor seen).ops.tail true (with_minor minor seen) bytes
ops_behind label minor ident count bytes rest t fits None is e = (refl, refl, is_no_spelling bytes e)
ops_behind label minor ident count bytes rest t fits (Some ops) is e =
    arguments_behind minor ops.list ops.tail bytes (record {
      label = label;
      ident = ident;
      count = count;
      rest = rest;
      fits = fits;
      parts = t.parts;
      ops = ops_takes count rest ops t.rest_fits is;
    })

front_behind : (bytes : List ℕ) → IsBytes bytes → (r : Result ((List ℕ × (ℕ × (ℕ × ℕ))) × List ℕ) XdrFault) → front.read bytes ≡ r
    → SpellsBehind (behind_front (minor_and_count bytes)).ops.tail true (behind_front (minor_and_count bytes)) bytes
front_behind bytes fits (Err f) is =
    let e : behind_front (minor_and_count bytes) ≡ none_read Garbage = rw is refl in
    subst (λ (a : Arguments). SpellsBehind a.ops.tail true a bytes) (sym e) (refl, refl, is_no_spelling bytes e)
front_behind bytes fits (Ok x) is =
    let t = front_lawful.takes bytes x fits is in
    let e : behind_front (minor_and_count bytes) ≡ with_minor x.0.1.0 (ops_seen x.0.1.1.1 x.1) = rw is refl in
    subst (λ (a : Arguments). SpellsBehind a.ops.tail true a bytes) (sym e) (ops_behind x.0.0 x.0.1.0 x.0.1.1.0 x.0.1.1.1 bytes x.1 t.0 t.1 (ops_seen x.0.1.1.1 x.1) refl e)

behind_takes : (is_cb : Bool) (bytes : List ℕ) → IsBytes bytes → SpellsBehind (arguments_at is_cb bytes).ops.tail is_cb (arguments_at is_cb bytes) bytes
behind_takes true bytes fits = front_behind bytes fits (front.read bytes) refl
behind_takes false bytes fits = (refl, refl)

-- where nothing is spelled, garbage is read
garbage_again : (tail : Tail) (a : Arguments) (bytes : List ℕ) → SpellsBehind tail true a bytes → ((b : Arguments) → SpellsArguments b bytes → ⊥) → a ≡ none_read Garbage
garbage_again Whole a bytes s none = absurd (none a s.1)
garbage_again (Unknown n) a bytes s none = absurd (none a s.1)
garbage_again Garbage a bytes s none = s.1
garbage_again Unread a bytes s none = absurd cc

behind_again : (tail : Tail) (is_cb : Bool) (a : Arguments) (bytes : List ℕ) → IsBytes bytes → SpellsBehind tail is_cb a bytes → arguments_at is_cb bytes ≡ a
behind_again Whole is_cb a bytes fits s = ap (λ (b : Bool). arguments_at b bytes) s.0 ∙ arguments_again a bytes s.1
behind_again (Unknown n) is_cb a bytes fits s = ap (λ (b : Bool). arguments_at b bytes) s.0 ∙ arguments_again a bytes s.1
behind_again Garbage is_cb a bytes fits s =
    let none : arguments_at true bytes ≡ none_read Garbage = garbage_again (arguments_at true bytes).ops.tail (arguments_at true bytes) bytes (behind_takes true bytes fits) s.2 in
    ap (λ (b : Bool). arguments_at b bytes) s.0 ∙ none ∙ sym s.1
behind_again Unread is_cb a bytes fits s = ap (λ (b : Bool). arguments_at b bytes) s.0 ∙ sym s.1

-- ---- calls

abbrev head_ok : Head × List ℕ → Result (Head × List ℕ) RpcFault
head_ok x = Ok x

abbrev call_ok : CbCall → Result CbCall MsgFault
call_ok c = Ok c

abbrev head_with : ℕ → ℕ → ℕ → ℕ → Cred → CallHead
head_with xid prog vers procedure c = record { xid = xid; prog = prog; vers = vers; procedure = procedure; cred = c }

-- behind the head the arguments are read
pub call_again : (xid prog vers procedure : ℕ) (c v : Cred) (rest : List ℕ) → head.Fits (xid, call prog vers procedure c v)
    → call_at (head.spell (xid, call prog vers procedure c v) ++ rest) ≡ call_ok (call_of (head_with xid prog vers procedure c) (arguments_at (is_compound prog vers procedure) rest))
unfolding call_at
call_again xid prog vers procedure c v rest fits = rw (made_again head_of head head_lawful (xid, call prog vers procedure c v) rest fits) refl

pub spelled_call_read : (c : CbCall) (bytes : List ℕ) → IsBytes bytes → SpellsCall c bytes → call_at bytes ≡ Ok c
spelled_call_read c bytes fits s =
    let read : head.read bytes ≡ Ok ((c.xid, call c.prog c.vers c.procedure s.credential s.verifier), s.rest) =
    ap head.read s.parts ∙ head_lawful.again (c.xid, call c.prog c.vers c.procedure s.credential s.verifier) s.rest s.fits in
    let t = head_lawful.takes bytes ((c.xid, call c.prog c.vers c.procedure s.credential s.verifier), s.rest) fits read in
    ap call_at s.parts ∙ call_again c.xid c.prog c.vers c.procedure s.credential s.verifier s.rest s.fits
    ∙ ap (λ (a : Arguments). call_ok (call_of (head_with c.xid c.prog c.vers c.procedure s.credential) a)) (behind_again c.ops.tail (is_compound c.prog c.vers c.procedure) (arguments_of c) s.rest t.0.rest_fits s.behind)

spoken_takes : (xid : ℕ) (s : Spoken) (bytes rest : List ℕ) (c : CbCall) → Takes bytes (head.spell (xid, s)) rest → head.Fits (xid, s) → behind_head (kept xid s) rest ≡ Ok c → SpellsCall c bytes
spoken_takes xid (reply v) bytes rest c t fits e = absurd cc
spoken_takes xid (call prog vers procedure credential verifier) bytes rest c t fits e =
    let c-is : call_of (head_with xid prog vers procedure credential) (arguments_at (is_compound prog vers procedure) rest) ≡ c = cc in
    subst (λ (d : CbCall). SpellsCall d bytes) c-is (record {
      credential = credential;
      verifier = verifier;
      rest = rest;
      fits = fits;
      parts = t.parts;
      behind = behind_takes (is_compound prog vers procedure) rest t.rest_fits;
    })

pub read_call_spelled : (c : CbCall) (bytes : List ℕ) → IsBytes bytes → call_at bytes ≡ Ok c → SpellsCall c bytes
unfolding call_at
read_call_spelled c bytes fits e =
    let a = bind_ok (fault_as of_rpc (made head_of head bytes)) (λ h. behind_head h.0 h.1) c e in
    let h = bind_ok (head.read bytes) (λ x. head_ok (head_of x.0, x.1)) a.0 (fault_as_ok of_rpc (made head_of head bytes) a.0 a.1) in
    let t = head_lawful.takes bytes h.0 fits h.1 in
    let a-is : (head_of h.0.0, h.0.1) ≡ a.0 = cc in
    spoken_takes h.0.0.0 h.0.0.1 bytes h.0.1 c t.0 t.1 (ap (λ (v : Head × List ℕ). behind_head v.0 v.1) a-is ∙ a.2)

-- ---- one value, and no beginning

pub one_call : (c d : CbCall) (bytes : List ℕ) → IsBytes bytes → SpellsCall c bytes → SpellsCall d bytes → c ≡ d
one_call c d bytes fits s t =
    let same : call_ok c ≡ call_ok d = sym (spelled_call_read c bytes fits s) ∙ spelled_call_read d bytes fits t in
    cc

abbrev call_with : CbCall → ℕ → List CbArg → Tail → CbCall
call_with c minor list tail = record { xid = c.xid; prog = c.prog; vers = c.vers; procedure = c.procedure; minor = minor; ops = record { list = list; tail = tail } }

-- bytes behind whole arguments
arguments_more : (minor : ℕ) (list : List CbArg) (bytes more : List ℕ) → SpellsArguments (record { minor = minor; ops = record { list = list; tail = Whole } }) bytes
    → behind_front (minor_and_count (bytes ++ more)) ≡ with_minor minor (with_ops list (ops_seen 0 more))
arguments_more minor list bytes more s =
    let text : bytes ++ more ≡ front.spell (s.label, (minor, (s.ident, s.count))) ++ (s.rest ++ more) =
    ap (λ (w : List ℕ). w ++ more) s.parts ∙ append_assoc (front.spell (s.label, (minor, (s.ident, s.count)))) s.rest more in
    let list_text : s.rest ++ more ≡ flat_map argument.spell list ++ more =
    ap (λ (w : List ℕ). w ++ more) (s.ops.parts ∙ ap (λ (w : List ℕ). flat_map argument.spell list ++ w) s.ops.behind.1 ∙ append-nil (flat_map argument.spell list)) in
    let count : s.count ≡ length list + 0 = sym s.ops.counted ∙ ap (λ (n : ℕ). length list + n) s.ops.behind.0 in
    ap (λ (w : List ℕ). behind_front (minor_and_count w)) text
    ∙ ap behind_front (front_again s.label minor s.ident s.count (s.rest ++ more) s.fits)
    ∙ ap (λ (n : ℕ). with_minor minor (ops_seen n (s.rest ++ more))) count
    ∙ ap (λ (w : List ℕ). with_minor minor (ops_seen (length list + 0) w)) list_text
    ∙ ap (with_minor minor) (ops_again list 0 more s.ops.fits)

call_more : (c : CbCall) (bytes more : List ℕ) → SpellsCall c bytes → c.ops.tail ≡ Whole
    → (credential : Cred) × (call_at (bytes ++ more) ≡ call_ok (call_of (head_with c.xid c.prog c.vers c.procedure credential) (with_minor c.minor (with_ops c.ops.list (ops_seen 0 more)))))
call_more c bytes more s whole =
    let text : bytes ++ more ≡ head.spell (c.xid, call c.prog c.vers c.procedure s.credential s.verifier) ++ (s.rest ++ more) =
    ap (λ (w : List ℕ). w ++ more) s.parts ∙ append_assoc (head.spell (c.xid, call c.prog c.vers c.procedure s.credential s.verifier)) s.rest more in
    let behind : SpellsBehind Whole (is_compound c.prog c.vers c.procedure) (record { minor = c.minor; ops = record { list = c.ops.list; tail = Whole } }) s.rest =
    subst (λ (t : Tail). SpellsBehind t (is_compound c.prog c.vers c.procedure) (record { minor = c.minor; ops = record { list = c.ops.list; tail = t } }) s.rest) whole s.behind in (
      s.credential,
      ap call_at text ∙ call_again c.xid c.prog c.vers c.procedure s.credential s.verifier (s.rest ++ more) s.fits
          ∙ ap (λ (b : Bool). call_ok (call_of (head_with c.xid c.prog c.vers c.procedure s.credential) (arguments_at b (s.rest ++ more)))) behind.0
          ∙ ap (λ (a : Arguments). call_ok (call_of (head_with c.xid c.prog c.vers c.procedure s.credential) a)) (arguments_more c.minor c.ops.list s.rest more behind.1),
    )

whole_read : (c : CbCall) (bytes : List ℕ) → SpellsCall c bytes → c.ops.tail ≡ Whole → call_at bytes ≡ call_ok c
whole_read c bytes s whole =
    ap call_at (sym (append-nil bytes)) ∙ (call_more c bytes [] s whole).1
    ∙ ap (λ (l : List CbArg). call_ok (call_with c c.minor l Whole)) (append-nil c.ops.list)
    ∙ ap (λ (t : Tail). call_ok (call_with c c.minor c.ops.list t)) (sym whole)

-- with more behind it, a callback is read as garbage
abbrev call_from : CbCall → Seen → CbCall
call_from c seen =
    let a = with_minor c.minor (with_ops c.ops.list seen) in
    call_with c a.minor a.ops.list a.ops.tail

more_is_none : (c d : CbCall) (more : List ℕ) → d.ops.tail ≡ Whole → call_ok d ≡ call_ok (call_from c (ops_seen 0 more)) → more ≡ []
more_is_none c d [] whole e = refl
more_is_none c d (b ∷ more) whole e =
    let some : eqb (length (b ∷ more)) 0 ≡ false = apart (length (b ∷ more)) 0 (λ z. absurd (omega (arith, z))) in
    let none : ops_seen 0 (b ∷ more) ≡ None = rw some refl in
    let read : call_ok d ≡ call_ok (call_from c None) = e ∙ ap (λ (s : Seen). call_ok (call_from c s)) none in
    let d-is : d ≡ call_from c None = cc in
    let tails : Whole ≡ Garbage = sym whole ∙ ap (λ (v : CbCall). v.ops.tail) d-is in
    absurd cc

pub no_call_begins_another : (c d : CbCall) (a b more : List ℕ) → SpellsCall c a → SpellsCall d b → b ≡ a ++ more → c.ops.tail ≡ Whole → d.ops.tail ≡ Whole → (c ≡ d) × (more ≡ [])
no_call_begins_another c d a b more s t e whole_c whole_d =
    let read_d = whole_read d b t whole_d in
    let none : more ≡ [] = more_is_none c d more whole_d (sym read_d ∙ ap call_at e ∙ (call_more c a more s whole_c).1) in
    let same : call_ok c ≡ call_ok d = sym (whole_read c a s whole_c) ∙ ap call_at (sym (e ∙ ap (λ (w : List ℕ). a ++ w) none ∙ append-nil a)) ∙ read_d in
    (cc, none)

-- ---- what is written

front_fits : (minor count : ℕ) → minor < 2 ^ 32 → count < 2 ^ 32 → front.Fits ([], (minor, (0, count)))
unfolding front
front_fits minor count m c = ((omega arith, omega arith), (m, (omega arith, c)))

nothing_is_garbage : behind_front (minor_and_count []) ≡ none_read Garbage
unfolding front opaque_at
nothing_is_garbage = refl

written_is_spelled : (tail : Tail) (is_cb : Bool) (minor : ℕ) (list : List CbArg) → TailFits tail is_cb (record { minor = minor; ops = record { list = list; tail = tail } })
    → SpellsBehind tail is_cb (record { minor = minor; ops = record { list = list; tail = tail } }) (written_behind tail minor list)
written_is_spelled Whole is_cb minor list f = (
  f.0,
  record {
    label = [];
    ident = 0;
    count = length list;
    rest = flat_map argument.spell list;
    fits = front_fits minor (length list) f.1 f.2;
    parts = refl;
    ops = record {
      more = 0;
      rest = [];
      counted = omega arith;
      fits = f.3;
      parts = sym (append-nil (flat_map argument.spell list));
      behind = (refl, refl);
    };
  },
)
written_is_spelled (Unknown n) is_cb minor list f = (
  f.0,
  record {
    label = [];
    ident = 0;
    count = length list + 1;
    rest = flat_map argument.spell list ++ spelling.word n;
    fits = front_fits minor (length list + 1) f.1 f.2;
    parts = refl;
    ops = record {
      more = 1;
      rest = spelling.word n;
      counted = refl;
      fits = f.3;
      parts = refl;
      behind = (omega arith, f.4, f.5, ([], sym (append-nil (spelling.word n))));
    };
  },
)
written_is_spelled Garbage is_cb minor list f = (f.0, f.1, is_no_spelling [] nothing_is_garbage)
written_is_spelled Unread is_cb minor list f = f

written_is_read : (tail : Tail) (is_cb : Bool) (minor : ℕ) (list : List CbArg) → TailFits tail is_cb (record { minor = minor; ops = record { list = list; tail = tail } })
    → arguments_at is_cb (written_behind tail minor list) ≡ record { minor = minor; ops = record { list = list; tail = tail } }
written_is_read Whole is_cb minor list f =
    ap (λ (b : Bool). arguments_at b (written_behind Whole minor list)) f.0 ∙ arguments_again _ _ (written_is_spelled Whole is_cb minor list f).1
written_is_read (Unknown n) is_cb minor list f =
    ap (λ (b : Bool). arguments_at b (written_behind (Unknown n) minor list)) f.0 ∙ arguments_again _ _ (written_is_spelled (Unknown n) is_cb minor list f).1
written_is_read Garbage is_cb minor list f = ap (λ (b : Bool). arguments_at b []) f.0 ∙ nothing_is_garbage ∙ sym f.1
written_is_read Unread is_cb minor list f = ap (λ (b : Bool). arguments_at b []) f.0 ∙ sym f.1

call_fits : (c : CbCall) → CallFits c → head.Fits (c.xid, call c.prog c.vers c.procedure no_auth no_auth)
unfolding spoken called cred
call_fits c f = (f.0, (omega arith, (omega arith, (f.1, (f.2, (f.3, ((omega arith, (omega arith, omega arith)), (omega arith, (omega arith, omega arith)))))))))

pub written_call_spelled : (c : CbCall) → CallFits c → SpellsCall c (written_call c)
written_call_spelled c f = record {
  credential = no_auth;
  verifier = no_auth;
  rest = written_behind c.ops.tail c.minor c.ops.list;
  fits = call_fits c f;
  parts = refl;
  behind = written_is_spelled c.ops.tail (is_compound c.prog c.vers c.procedure) c.minor c.ops.list f.4;
}

pub written_call_read : (c : CbCall) → CallFits c → call_at (written_call c) ≡ Ok c
written_call_read c f =
    call_again c.xid c.prog c.vers c.procedure no_auth no_auth (written_behind c.ops.tail c.minor c.ops.list) (call_fits c f)
    ∙ ap (λ (a : Arguments). call_ok (call_of (head_with c.xid c.prog c.vers c.procedure no_auth) a)) (written_is_read c.ops.tail (is_compound c.prog c.vers c.procedure) c.minor c.ops.list f.4)

-- ---- what is spelled can be written

tail_fits : (tail : Tail) (is_cb : Bool) (minor : ℕ) (list : List CbArg) (bytes : List ℕ) → SpellsBehind tail is_cb (record { minor = minor; ops = record { list = list; tail = tail } }) bytes
    → TailFits tail is_cb (record { minor = minor; ops = record { list = list; tail = tail } })
unfolding front
tail_fits Whole is_cb minor list bytes s = (s.0, s.1.fits.1.0, omega (arith, s.1.fits.1.1.1, s.1.ops.counted), s.1.ops.fits)
tail_fits (Unknown n) is_cb minor list bytes s =
    let more : 0 < s.1.ops.more = s.1.ops.behind.0 in
    (s.0, s.1.fits.1.0, omega (arith, s.1.fits.1.1.1, s.1.ops.counted, more), s.1.ops.fits, s.1.ops.behind.1, s.1.ops.behind.2)
tail_fits Garbage is_cb minor list bytes s = (s.0, s.1)
tail_fits Unread is_cb minor list bytes s = s

pub spelled_call_fits : (c : CbCall) (bytes : List ℕ) → SpellsCall c bytes → CallFits c
unfolding spoken called
spelled_call_fits c bytes s =
    let f = s.fits.1.1.1 in
    (s.fits.0, f.0, f.1.0, f.1.1.0, tail_fits c.ops.tail (is_compound c.prog c.vers c.procedure) c.minor c.ops.list s.rest s.behind)

pub read_call_fits : (bytes : List ℕ) (r : Result CbCall MsgFault) → IsBytes bytes → IsRead r (call_at bytes) → IfOk r (λ c. CallFits c)
read_call_fits bytes (Ok c) fits e = spelled_call_fits c bytes (read_call_spelled c bytes fits e)
read_call_fits bytes (Err f) fits e = tt
