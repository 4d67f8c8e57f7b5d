use Rattle.n41_desk.proofs.Heard.{told}
use Rattle.n41_desk.proofs.saying.tell.Goals as goal

pub returns-clause-tells : goal.returns-clause-tells
returns-clause-tells g c =
    let s = c.send-sent.ensures in
    told c.send-sent.result c.args.outlet.now c.send-sent.new.self c.args.packet.request c.requires.sound s.says s.kept s.failed
