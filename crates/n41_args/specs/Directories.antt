-- What CREATE, READDIR and RENAME take (RFC 8881, sections 18.4, 18.23 and 18.26).
use Rattle.std.specs.Prelude.{ℕ, List}
use Rattle.n41_xdr.specs.Format.{Format, ◌&◌, mapped, lifted, only}
use Rattle.n41_attr.specs.declared.fault.OpFault.{OpFault}
use Rattle.n41_attr.specs.declared.fault.OpFault.TheVariants.{Xdr}
use Rattle.n41_attr.specs.Attributes.{Told, attrs_of, written}
use Rattle.n41_attr.specs.Parts.{word, hyper, string, verifier, bitmap, fattr}
use Rattle.n41_args.specs.declared.directories.CreateArgs.{CreateArgs}
use Rattle.n41_args.specs.declared.directories.ReadDirArgs.{ReadDirArgs}
use Rattle.n41_args.specs.declared.directories.RenameArgs.{RenameArgs}

-- createtype4, of which NF4DIR alone is read
unfoldable pub directory_type : Format OpFault (Unit {0})
directory_type = lifted Xdr (only 2)

-- CREATE4args as they are told
pub record ToldCreate : Type 0 where
  pub name : List ℕ
  pub attrs : Told

abbrev pub create_of : ToldCreate → CreateArgs
create_of a = record { name = a.name; attrs = attrs_of a.attrs }

abbrev pub written_create : CreateArgs → ToldCreate
written_create a = record { name = a.name; attrs = written a.attrs }

unfoldable pub told_create : Format OpFault ToldCreate
told_create = mapped (λ x. record { name = x.1.0; attrs = x.1.1 }) (λ a. (tt, (a.name, a.attrs))) (directory_type & string & fattr)

-- READDIR4args
unfoldable pub read_dir : Format OpFault ReadDirArgs
read_dir =
    mapped
    (λ x. record { cookie = x.0; verifier = x.1.0; dircount = x.1.1.0; maxcount = x.1.1.1.0; mask = x.1.1.1.1 })
    (λ a. (a.cookie, (a.verifier, (a.dircount, (a.maxcount, a.mask)))))
    (hyper & verifier & word & word & bitmap)

-- RENAME4args
unfoldable pub rename : Format OpFault RenameArgs
rename = mapped (λ x. record { old = x.0; new = x.1 }) (λ a. (a.old, a.new)) (string & string)
