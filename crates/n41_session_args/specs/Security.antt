-- By what security the callbacks of a session come (RFC 8881, callback_sec_parms4).
use Rattle.std.specs.Prelude.{◌≤◌, ℕ, List, [], ◌∷◌, length, nat_lt, Result, Ok, Err, if◌then◌else◌}
use Rattle.n41_xdr.specs.Reading.{◌>>=◌}
use Rattle.n41_xdr.specs.Format.{Format, ◌&◌, mapped, nothing, list, many_at, made, Arm, arm, union}
use Rattle.n41_xdr.specs.declared.fault.XdrFault.TheVariants.{TooLong}
use Rattle.n41_attr.specs.declared.fault.OpFault.{OpFault}
use Rattle.n41_attr.specs.declared.fault.OpFault.TheVariants.{Xdr}
use Rattle.n41_attr.specs.Parts.{word, opaque, bad_arm}
use Rattle.n41_session_args.specs.declared.security.SystemAuth.{SystemAuth}
use Rattle.n41_session_args.specs.declared.security.Security.{Security}
use Rattle.n41_session_args.specs.declared.security.Security.TheVariants as security

-- an array of at most max elements
abbrev pub at_most : {A : Type 0} → ℕ → Format OpFault A → Format OpFault (List A)
at_most max p = record {
  read = λ bytes. word.read bytes >>= λ n. if nat_lt max n.0 then Err (Xdr (TooLong n.0 max)) else many_at p n.0 n.1;
  spell = (list Xdr p).spell;
  Fits = λ xs. (length xs ≤ max) × (list Xdr p).Fits xs;
}

unfoldable pub gids : Format OpFault (List ℕ)
gids = at_most 16 word

-- the body of AUTH_SYS (RFC 5531, appendix A)
unfoldable pub system_auth : Format OpFault SystemAuth
system_auth =
    mapped
    (λ x. record { stamp = x.0; machine = x.1.0; uid = x.1.1.0; gid = x.1.1.1.0; gids = x.1.1.1.1 })
    (λ a. (a.stamp, (a.machine, (a.uid, (a.gid, a.gids)))))
    (word & opaque 255 & word & word & gids)

-- of which AUTH_NONE and AUTH_SYS are read
abbrev pub security_arm : Security → Arm
security_arm security.None = arm 0 (nothing {E = OpFault}) tt
security_arm (security.System a) = arm 1 system_auth a

abbrev pub security_rows : List (ℕ × (List ℕ → Result (Security × List ℕ) OpFault))
security_rows = (0, made (λ _. security.None) nothing) ∷ (1, made (λ x. security.System x) system_auth) ∷ []

unfoldable pub callback_security : Format OpFault Security
callback_security = union Xdr bad_arm security_rows security_arm

unfoldable pub securities : Format OpFault (List Security)
securities = list Xdr callback_security
