use Rattle.std.proofs.Common.{refl, inl}
use Rattle.n41_desk.proofs.Held.{noted_owner, noted_lines, noted_then, posts, post_cause, posted_owner, posted_lines, posts_given}
use Rattle.n41_desk.proofs.desk.Desk.post.Goals as goal

pub note-requires : goal.note-requires
note-requires g c = c.requires.holds.all_given

pub returns-in-Ok-clause-ok : goal.returns-in-Ok-clause-ok
returns-in-Ok-clause-ok g c =
    let n = c.in-Ok.ensures.notes in
    let p = c.post.ensures in
    posts c.post.result c.args.self.now.core c.note.new.core c.post.new.self n.0 n.1 c.args.caller c.args.command n.2 p.ok p.ticket p.free

pub returns-in-Ok-clause-err : goal.returns-in-Ok-clause-err
returns-in-Ok-clause-err g c =
    let n = c.in-Ok.ensures.notes in
    noted_then c.post.result c.args.self.now.core c.note.new.core c.post.new.self n.0 n.1 n.2 c.post.ensures.err

pub returns-in-Ok-clause-cause : goal.returns-in-Ok-clause-cause
returns-in-Ok-clause-cause g c = post_cause c.post.result c.note.new.core c.post.new.self c.args.caller c.post.ensures.cause c.post.ensures.err

pub returns-in-Ok-clause-holds : goal.returns-in-Ok-clause-holds
returns-in-Ok-clause-holds g c =
    let n = c.in-Ok.ensures.notes in
    let p = c.post.ensures in
    let h = c.requires.holds in
    record {
      owner = posted_owner c.post.result c.note.new.core c.post.new.self c.args.caller c.args.command p.ok p.err (noted_owner c.args.self.now.core c.note.new.core n.0 n.1 n.2 h.owner);
      lines =
          posted_lines c.post.result c.note.new.core c.post.new.self c.args.caller c.args.command c.args.self.now.lines.ended.items c.args.self.now.lines.wire p.ok p.err
          (noted_lines c.args.self.now.core c.note.new.core n.0 n.1 c.args.self.now.lines.ended.items c.args.self.now.lines.wire n.2 h.lines);
      all_given = posts_given c.post.result (g.C.Clock.given c.note.new.clock) c.note.new.core c.post.new.self c.args.caller c.args.command p.ok p.err c.in-Ok.ensures.last c.note.ensures.given;
    }

pub returns-in-Err-clause-err : goal.returns-in-Err-clause-err
returns-in-Err-clause-err g c = inl c.in-Err.ensures.err

pub returns-in-Err-clause-cause : goal.returns-in-Err-clause-cause
returns-in-Err-clause-cause g c = inl refl

pub returns-in-Err-clause-holds : goal.returns-in-Err-clause-holds
returns-in-Err-clause-holds g c =
    let h = c.requires.holds in
    record { owner = rw c.in-Err.ensures.err h.owner; lines = rw c.in-Err.ensures.err h.lines; all_given = c.note.ensures.given }

pub returns-in-Ok-clause-keeps : goal.returns-in-Ok-clause-keeps
returns-in-Ok-clause-keeps g c = c.note.ensures.keeps

pub returns-in-Err-clause-keeps : goal.returns-in-Err-clause-keeps
returns-in-Err-clause-keeps g c = c.note.ensures.keeps
