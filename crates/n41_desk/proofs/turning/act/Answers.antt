use Rattle.std.proofs.Common.{refl}
use Rattle.n41_wants.specs.declared.wants.Want.TheVariants as want
use Rattle.n41_desk.specs.Lines.{StaysQuiet}
use Rattle.n41_desk.proofs.Acted.{counts_sent, counts_read, counts_still}
use Rattle.n41_desk.proofs.Held.{acts_went, acts_idle}
use Rattle.n41_desk.proofs.turning.act.Goals as goal

pub dial-requires-clause-none : goal.dial-requires-clause-none
dial-requires-clause-none g c κs within = (rw c.in-Dial.is at c.requires.wanted).1

pub returns-in_ok-dial-in-Dial-clause-acts : goal.returns-in_ok-dial-in-Dial-clause-acts
returns-in_ok-dial-in-Dial-clause-acts g c =
    acts_went (StaysQuiet c.args.lines.now.wire c.dial.new.lines.wire) c.args.core.now c.dial.new.core c.args.want want.Dial c.in-Dial.is (λ x. x) c.in_ok-dial-in-Dial.ensures.ok

pub send-requires-clause-stands : goal.send-requires-clause-stands
send-requires-clause-stands g c = (rw c.in-Send.is at c.requires.wanted).0.stands

pub send-requires-clause-wanted : goal.send-requires-clause-wanted
send-requires-clause-wanted g c = (rw c.in-Send.is at c.requires.wanted).1

pub returns-in_err-send-in-Send-clause-counts : goal.returns-in_err-send-in-Send-clause-counts
returns-in_err-send-in-Send-clause-counts g c = counts_still c.args.core.now c.send.new.core _ c.in_err-send-in-Send.ensures.err

pub returns-in_ok-send-in-Send-clause-acts : goal.returns-in_ok-send-in-Send-clause-acts
returns-in_ok-send-in-Send-clause-acts g c =
    acts_went (StaysQuiet c.args.lines.now.wire c.send.new.self.wire) c.args.core.now c.send.new.core c.args.want (want.Send c.in-Send.conn) c.in-Send.is (λ x. x) c.in_ok-send-in-Send.ensures.sends

pub returns-in_ok-send-in-Send-clause-counts : goal.returns-in_ok-send-in-Send-clause-counts
returns-in_ok-send-in-Send-clause-counts g c = counts_sent c.args.core.now c.send.new.core c.in-Send.conn _ c.in_ok-send-in-Send.ensures.sends

pub read-requires-clause-stands : goal.read-requires-clause-stands
read-requires-clause-stands g c = (rw c.in-Read.is at c.requires.wanted).runs.stands

pub returns-in-Read-clause-acts : goal.returns-in-Read-clause-acts
returns-in-Read-clause-acts g c =
    acts_went (StaysQuiet c.args.lines.now.wire c.read.new.self.wire) c.args.core.now c.read.new.core c.args.want (want.Read c.in-Read.conn) c.in-Read.is (λ x. x) c.read.ensures.reads

pub returns-in-Read-clause-counts : goal.returns-in-Read-clause-counts
returns-in-Read-clause-counts g c =
    counts_read (StaysQuiet c.args.lines.now.wire c.read.new.self.wire) c.args.core.now c.read.new.core c.in-Read.conn _ c.read.ensures.reads

pub returns-in-Pause-clause-acts : goal.returns-in-Pause-clause-acts
returns-in-Pause-clause-acts g c = acts_went (StaysQuiet c.args.lines.now.wire c.args.lines.now.wire) c.args.core.now c.args.core.now c.args.want _ c.in-Pause.is (λ x. x) refl

pub returns-in-Pause-clause-counts : goal.returns-in-Pause-clause-counts
returns-in-Pause-clause-counts g c = counts_still c.args.core.now c.args.core.now _ refl

pub returns-in-Nothing-clause-acts : goal.returns-in-Nothing-clause-acts
returns-in-Nothing-clause-acts g c = acts_idle (StaysQuiet c.args.lines.now.wire c.args.lines.now.wire) c.args.core.now c.args.core.now c.args.want want.Nothing c.in-Nothing.is tt refl

pub returns-in-Nothing-clause-counts : goal.returns-in-Nothing-clause-counts
returns-in-Nothing-clause-counts g c = counts_still c.args.core.now c.args.core.now _ refl
