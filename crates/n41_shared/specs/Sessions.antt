-- Channels and implementations.
use Rattle.std.specs.Prelude.{Option}
use Rattle.n41_xdr.specs.Format.{Format, ◌&◌, mapped, option}
use Rattle.n41_results.specs.declared.sessions.Channel.{Channel}
use Rattle.n41_results.specs.declared.sessions.ImplId.{ImplId}
use Rattle.n41_attr.specs.declared.fault.OpFault.{OpFault}
use Rattle.n41_attr.specs.declared.fault.OpFault.TheVariants.{Xdr}
use Rattle.n41_attr.specs.Parts.{word, fixed, string}

-- channel_attrs4
unfoldable pub channel : Format OpFault Channel
channel =
    mapped
    (λ x. record { header_pad = x.0; request_max = x.1.0; reply_max = x.1.1.0; cached_max = x.1.1.1.0; ops_max = x.1.1.1.1.0; requests_max = x.1.1.1.1.1.0; ird = x.1.1.1.1.1.1 })
    (λ c. (c.header_pad, (c.request_max, (c.reply_max, (c.cached_max, (c.ops_max, (c.requests_max, c.ird)))))))
    (word & word & word & word & word & word & option Xdr word)

-- nfs_impl_id4
unfoldable pub impl_id : Format OpFault ImplId
impl_id = mapped (λ x. record { domain = x.0; name = x.1.0; seconds = x.1.1.0; nanoseconds = x.1.1.1 }) (λ i. (i.domain, (i.name, (i.seconds, i.nanoseconds)))) (string & string & fixed 8 & word)

unfoldable pub impl_option : Format OpFault (Option ImplId)
impl_option = option Xdr impl_id
