-- The tag of a compound (RFC 8881, utf8str_cs).
use Rattle.std.specs.Prelude.{ℕ, List}
use Rattle.n41_xdr.specs.declared.fault.XdrFault.{XdrFault}
use Rattle.n41_xdr.specs.Format.{Format, opaque}

-- a string of no stated length has at most 65,536 bytes (own)
abbrev pub tag : Format XdrFault (List ℕ)
tag = opaque 65536
