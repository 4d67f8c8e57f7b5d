-- The owners of opens and of locks (RFC 8881, section 3.3.10).
use Rattle.std.specs.Prelude.{List}
use Rattle.n41_xdr.specs.Format.{Format, ◌&◌, mapped}
use Rattle.n41_attr.specs.declared.fault.OpFault.{OpFault}
use Rattle.n41_attr.specs.Parts.{hyper, owner_bytes}
use Rattle.n41_args.specs.declared.owners.StateOwner.{StateOwner}

-- state_owner4
unfoldable pub state_owner : Format OpFault StateOwner
state_owner = mapped (λ x. record { client = x.0; owner = x.1 }) (λ o. (o.client, o.owner)) (hyper & owner_bytes)
