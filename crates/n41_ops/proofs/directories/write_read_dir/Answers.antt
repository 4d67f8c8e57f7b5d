use Rattle.std.proofs.Common.{append_assoc}
use Rattle.n41_ops.proofs.Kept.{listing_seen}
use Rattle.n41_ops.proofs.directories.write_read_dir.Goals as goal

pub write_listing-requires : goal.write_listing-requires
write_listing-requires c = let fits = rw c.in-Ok.is at c.requires in listing_seen.fits c.in-Ok.listing fits.1

pub returns-in_ok-put_u32-in-Ok : goal.returns-in_ok-put_u32-in-Ok
returns-in_ok-put_u32-in-Ok c = rw c.in-Ok.is (rw (listing_seen.spells c.in-Ok.listing, c.in_ok-put_u32-in-Ok.ensures.ok, append_assoc) at c.write_listing.ensures)
