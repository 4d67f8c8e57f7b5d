-- What OPEN answers (RFC 8881, section 18.16).
use Rattle.std.specs.Prelude.{◌≢◌, ℕ, List, [], ◌∷◌, Result}
use Rattle.n41_xdr.specs.Format.{Format, ◌&◌, mapped, nothing, made, Arm, arm, union}
use Rattle.n41_results.specs.declared.openings.ChangeInfo.{ChangeInfo}
use Rattle.n41_results.specs.declared.openings.Ace.{Ace}
use Rattle.n41_results.specs.declared.openings.Limit.{Limit}
use Rattle.n41_results.specs.declared.openings.Limit.TheVariants.{Size, Blocks}
use Rattle.n41_results.specs.declared.openings.Why.{Why}
use Rattle.n41_results.specs.declared.openings.Why.TheVariants.{Contention, Resource, Other}
use Rattle.n41_results.specs.declared.openings.Delegation.{Delegation}
use Rattle.n41_results.specs.declared.openings.Delegation.TheVariants as deleg
use Rattle.n41_results.specs.declared.openings.Opened.{Opened}
use Rattle.n41_attr.specs.declared.fault.OpFault.{OpFault}
use Rattle.n41_attr.specs.declared.fault.OpFault.TheVariants.{Xdr}
use Rattle.n41_attr.specs.Unions.{open_union}
use Rattle.n41_attr.specs.Parts.{word, hyper, flag, string, stateid, bitmap, bad_arm}

-- change_info4
unfoldable pub change_info : Format OpFault ChangeInfo
change_info = mapped (λ x. record { atomic = x.0; before = x.1.0; after = x.1.1 }) (λ c. (c.atomic, (c.before, c.after))) (flag & hyper & hyper)

-- nfsace4
unfoldable pub ace : Format OpFault Ace
ace = mapped (λ x. record { kind = x.0; flags = x.1.0; mask = x.1.1.0; who = x.1.1.1 }) (λ a. (a.kind, (a.flags, (a.mask, a.who)))) (word & word & word & string)

-- nfs_space_limit4
abbrev pub limit_arm : Limit → Arm
limit_arm (Size n) = arm 1 hyper n
limit_arm (Blocks count size) = arm 2 (word & word) (count, size)

abbrev pub limit_rows : List (ℕ × (List ℕ → Result (Limit × List ℕ) OpFault))
limit_rows = (1, made (λ x. Size x) hyper) ∷ (2, made (λ x. Blocks x.0 x.1) (word & word)) ∷ []

unfoldable pub limit : Format OpFault Limit
limit = union Xdr bad_arm limit_rows limit_arm

-- why there is no delegation: behind contention and want of a resource stands whether the server will tell of their end
abbrev pub why_arm : Why → Arm
why_arm (Contention will) = arm 1 flag will
why_arm (Resource will) = arm 2 flag will
why_arm (Other n) = record { number = n; text = []; Fits = (n ≢ 1) × (n ≢ 2) }

abbrev pub why_rows : List (ℕ × (List ℕ → Result (Why × List ℕ) OpFault))
why_rows = (1, made (λ x. Contention x) flag) ∷ (2, made (λ x. Resource x) flag) ∷ []

unfoldable pub why : Format OpFault Why
why = open_union Xdr (λ n. Other n) why_rows why_arm

-- open_delegation4
abbrev pub delegation_arm : Delegation → Arm
delegation_arm deleg.Nothing = arm 0 (nothing {E = OpFault}) tt
delegation_arm (deleg.Read s recall a) = arm 1 (stateid & flag & ace) (s, (recall, a))
delegation_arm (deleg.Write s recall l a) = arm 2 (stateid & flag & limit & ace) (s, (recall, (l, a)))
delegation_arm (deleg.Refused x) = arm 3 why x

abbrev pub delegation_rows : List (ℕ × (List ℕ → Result (Delegation × List ℕ) OpFault))
delegation_rows =
    (0, made (λ _. deleg.Nothing) nothing) ∷
    (1, made (λ x. deleg.Read x.0 x.1.0 x.1.1) (stateid & flag & ace)) ∷
    (2, made (λ x. deleg.Write x.0 x.1.0 x.1.1.0 x.1.1.1) (stateid & flag & limit & ace)) ∷
    (3, made (λ x. deleg.Refused x) why) ∷
    []

unfoldable pub delegation : Format OpFault Delegation
delegation = union Xdr bad_arm delegation_rows delegation_arm

-- OPEN4resok
unfoldable pub opened : Format OpFault Opened
opened =
    mapped
    (λ x. record { stateid = x.0; change = x.1.0; flags = x.1.1.0; set = x.1.1.1.0; delegation = x.1.1.1.1 })
    (λ o. (o.stateid, (o.change, (o.flags, (o.set, o.delegation)))))
    (stateid & change_info & word & bitmap & delegation)
