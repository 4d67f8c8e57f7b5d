use Rattle.std.proofs.Common.{length, refl}
use Rattle.std.proofs.lemmas.Option.{slice_get_read}
use Rattle.n41_requests.proofs.Lists.{each_name_fits}
use Rattle.n41_spell.proofs.directories.write_names.Goals as goal

pub write_name-requires : goal.write_name-requires
write_name-requires c =
    each_name_fits c.args.names.now c.loop-name.name-index c.name-item.result c.requires
    (slice_get_read c.args.names.now (length c.args.names.now) c.loop-name.name-index c.name-item.result refl c.loop-name-test.true c.name-item.is)
