-- What COMMIT, READ, SETATTR, WRITE and TEST_STATEID take (RFC 8881, sections 18.3, 18.22, 18.30, 18.32 and 18.48).
use Rattle.std.specs.Prelude.{ℕ, List}
use Rattle.n41_xdr.specs.Format.{Format, ◌&◌, mapped, list}
use Rattle.n41_types.specs.declared.identities.Stateid.{Stateid}
use Rattle.n41_attr.specs.declared.fault.OpFault.{OpFault}
use Rattle.n41_attr.specs.declared.fault.OpFault.TheVariants.{Xdr}
use Rattle.n41_attr.specs.Attributes.{Told, attrs_of, written}
use Rattle.n41_attr.specs.Parts.{word, hyper, stateid, fattr, content_bytes}
use Rattle.n41_args.specs.declared.files.CommitArgs.{CommitArgs}
use Rattle.n41_args.specs.declared.files.ReadArgs.{ReadArgs}
use Rattle.n41_args.specs.declared.files.WriteArgs.{WriteArgs}
use Rattle.n41_args.specs.declared.files.SetAttrArgs.{SetAttrArgs}

-- COMMIT4args
unfoldable pub commit : Format OpFault CommitArgs
commit = mapped (λ x. record { offset = x.0; count = x.1 }) (λ a. (a.offset, a.count)) (hyper & word)

-- READ4args
unfoldable pub read_args : Format OpFault ReadArgs
read_args = mapped (λ x. record { stateid = x.0; offset = x.1.0; count = x.1.1 }) (λ a. (a.stateid, (a.offset, a.count))) (stateid & hyper & word)

-- WRITE4args
unfoldable pub write_args : Format OpFault WriteArgs
write_args =
    mapped
    (λ x. record { stateid = x.0; offset = x.1.0; stable = x.1.1.0; bytes = x.1.1.1 })
    (λ a. (a.stateid, (a.offset, (a.stable, a.bytes))))
    (stateid & hyper & word & content_bytes)

-- SETATTR4args as they are told
pub record ToldSetAttr : Type 0 where
  pub stateid : Stateid
  pub attrs : Told

abbrev pub set_attr_of : ToldSetAttr → SetAttrArgs
set_attr_of a = record { stateid = a.stateid; attrs = attrs_of a.attrs }

abbrev pub written_set_attr : SetAttrArgs → ToldSetAttr
written_set_attr a = record { stateid = a.stateid; attrs = written a.attrs }

unfoldable pub told_set_attr : Format OpFault ToldSetAttr
told_set_attr = mapped (λ x. record { stateid = x.0; attrs = x.1 }) (λ a. (a.stateid, a.attrs)) (stateid & fattr)

-- TEST_STATEID4args
unfoldable pub stateids : Format OpFault (List Stateid)
stateids = list Xdr stateid
