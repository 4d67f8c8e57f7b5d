-- What is spelled is seen.
use Rattle.std.proofs.Common.{◌≡◌, ◌<◌, ◌≤◌, ◌^◌, ℕ, List, [], ◌∷◌, ◌++◌, length, map, Option, Some, Result, Ok, refl, sym, ap, ◌∙◌, arith}
use Rattle.std.proofs.lemmas.List.{length-map}
use Rattle.n41_types.specs.declared.plans.Request.{Request}
use Rattle.n41_rpc.specs.Heads.{spoken, called, call, cred, head, no_auth, system, system_of}
use Rattle.n41_xdr.specs.Format.{made}
use Rattle.n41_args.specs.declared.arg.Arg.{Arg}
use Rattle.n41_args.specs.Args.{ToldArg, written_arg}
use Rattle.n41_requests.specs.Plans.{request_args}
use Rattle.n41_requests.specs.Requests.{call_head, spelled, Fits, IsSpellable}
use Rattle.n41_requests.proofs.Lengths.{system_length}
use Rattle.n41_seen.specs.declared.calls.CallSeen.{CallSeen}
use Rattle.n41_seen.specs.Calls.{call_at, call_text, TextFits}
use Rattle.n41_seen.proofs.Spelled.{written_is_read}
use Rattle.n41_compound.specs.Calls.{seen_of}

head_fits : (q : Request) → q.xid < 2 ^ 32 → head.Fits (q.xid, call 100003 4 1 (call_head q).cred no_auth)
unfolding spoken called cred
head_fits q lt =
    (lt, (omega arith, (omega arith, (omega arith, (omega arith, (omega arith, ((omega arith, (omega (arith, system_length q.uid q.gid), omega (arith, system_length q.uid q.gid))), (omega arith, (omega arith, omega arith)))))))))

text_fits : (q : Request) → Fits q → TextFits q.xid (call_head q).cred no_auth [] q.minor (map written_arg (request_args q))
unfolding Fits
text_fits q fits =
    (head_fits q fits.0, omega arith, fits.3, omega (arith, fits.4, length-map {A = Arg} {B = ToldArg} (request_args q) written_arg), fits.5)

as_text : (q : Request) → spelled q ≡ call_text q.xid (call_head q).cred no_auth [] q.minor (length (request_args q)) (map written_arg (request_args q))
unfolding spelled
as_text q = refl

pub spelled_is_seen : (q : Request) → IsSpellable q → Fits q → call_at (spelled q) ≡ Ok (seen_of q)
spelled_is_seen q spellable fits = ap call_at (as_text q) ∙ written_is_read q.xid (call_head q).cred no_auth [] q.minor (request_args q) (text_fits q fits)
