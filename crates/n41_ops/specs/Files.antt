-- What the operations of files and directories answer. Of attributes more is told than is kept.
use Rattle.std.specs.Prelude.{ℕ, List, map, Bool}
use Rattle.n41_xdr.specs.Format.{Format, ◌&◌, mapped, chain}
use Rattle.n41_types.specs.declared.attributes.Attrs.{Attrs}
use Rattle.n41_results.specs.declared.results.Created.{Created}
use Rattle.n41_results.specs.declared.results.Content.{Content}
use Rattle.n41_results.specs.declared.results.Entry.{Entry}
use Rattle.n41_results.specs.declared.results.Listing.{Listing}
use Rattle.n41_results.specs.declared.results.Renamed.{Renamed}
use Rattle.n41_results.specs.declared.results.Written.{Written}
use Rattle.n41_attr.specs.declared.fault.OpFault.{OpFault}
use Rattle.n41_attr.specs.declared.fault.OpFault.TheVariants.{Xdr}
use Rattle.n41_attr.specs.Attributes.{Told, attrs_of, written}
use Rattle.n41_attr.specs.Parts.{word, hyper, flag, string, content_bytes, verifier, bitmap, fattr}
use Rattle.n41_ops.specs.Openings.{change_info}

-- CREATE4resok
unfoldable pub created : Format OpFault Created
created = mapped (λ x. record { change = x.0; set = x.1 }) (λ c. (c.change, c.set)) (change_info & bitmap)

-- RENAME4resok
unfoldable pub renamed : Format OpFault Renamed
renamed = mapped (λ x. record { source = x.0; target = x.1 }) (λ r. (r.source, r.target)) (change_info & change_info)

-- READ4resok
unfoldable pub content : Format OpFault Content
content = mapped (λ x. record { eof = x.0; bytes = x.1 }) (λ c. (c.eof, c.bytes)) (flag & content_bytes)

-- WRITE4resok
unfoldable pub put : Format OpFault Written
put = mapped (λ x. record { count = x.0; committed = x.1.0; verifier = x.1.1 }) (λ p. (p.count, (p.committed, p.verifier))) (word & word & verifier)

-- ---- a directory is listed (READDIR4resok): a linked list of entries (entry4)

abbrev pub entry_parts : {A : Type 0} → Format OpFault A → Format OpFault (ℕ × (List ℕ × A))
entry_parts p = hyper & string & p

abbrev pub listing_parts : {A : Type 0} → Format OpFault A → Format OpFault (List ℕ × (A × Bool))
listing_parts p = verifier & p & flag

-- what is told of an entry: its attributes with their bitmap
pub record ToldEntry : Type 0 where
  pub cookie : ℕ
  pub name : List ℕ
  pub attrs : Told

unfoldable pub told_entry : Format OpFault ToldEntry
told_entry = mapped (λ x. record { cookie = x.0; name = x.1.0; attrs = x.1.1 }) (λ e. (e.cookie, (e.name, e.attrs))) (entry_parts fattr)

pub record ToldListing : Type 0 where
  pub verifier : List ℕ
  pub entries : List ToldEntry
  pub eof : Bool

unfoldable pub told_listing : Format OpFault ToldListing
told_listing = mapped (λ x. record { verifier = x.0; entries = x.1.0; eof = x.1.1 }) (λ l. (l.verifier, (l.entries, l.eof))) (listing_parts (chain Xdr told_entry))

-- what is kept of it, and what is told where it is written
abbrev pub entry_of : ToldEntry → Entry
entry_of e = record { cookie = e.cookie; name = e.name; attrs = attrs_of e.attrs }

abbrev pub written_entry : Entry → ToldEntry
written_entry e = record { cookie = e.cookie; name = e.name; attrs = written e.attrs }

abbrev pub listing_of : ToldListing → Listing
listing_of l = record { verifier = l.verifier; entries = map entry_of l.entries; eof = l.eof }

abbrev pub written_listing : Listing → ToldListing
written_listing l = record { verifier = l.verifier; entries = map written_entry l.entries; eof = l.eof }

-- The same bytes, read as what is kept and spelled as what is written.
abbrev pub attrs : Format OpFault Attrs
attrs = mapped attrs_of written fattr

unfoldable pub entry : Format OpFault Entry
entry = mapped (λ x. record { cookie = x.0; name = x.1.0; attrs = x.1.1 }) (λ e. (e.cookie, (e.name, e.attrs))) (entry_parts attrs)

unfoldable pub entries : Format OpFault (List Entry)
entries = chain Xdr entry

unfoldable pub listing : Format OpFault Listing
listing = mapped (λ x. record { verifier = x.0; entries = x.1.0; eof = x.1.1 }) (λ l. (l.verifier, (l.entries, l.eof))) (listing_parts entries)
