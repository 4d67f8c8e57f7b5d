use Rattle.std.proofs.Common.{rules, ◌≡◌, Result, Err, sym, ◌∙◌, subst, ap}
use Rattle.std.specs.Prelude.{⊤}
use Rattle.n41_opens.specs.declared.ids.RecordId.{RecordId}
use Rattle.n41_opens.specs.declared.answers.AttachFault.{AttachFault}
use Rattle.n41_opens.specs.Opens.{Table, AttachGives, seated}
use Rattle.n41_opens.specs.Inside.{Readies, ReadyGives, seen}
use Rattle.n41_opens.proofs.Attach.{refuse_ready, unseated_counted, unseated, can_join, seated_new, seated_moved, accepted}
use Rattle.n41_opens.proofs.opens.Opens.attach.Goals as goal

pub returns-in_err-ready : goal.returns-in_err-ready
returns-in_err-ready c =
    let r : RecordId = record { key = c.args.rec; other = c.args.s.other } in
    let hs = c.self.inside.handles.entries in
    let rs = c.self.inside.records.entries in
    let ss = c.ready.new.records.entries in
    let e : c.from_residual-in_err-ready.result ≡ Err c.in_err-ready.field-0.0 = search rules in
    let w : ReadyGives rs r c.args.s.seqid (Err c.in_err-ready.field-0.0) ss = subst (λ (g : Result ⊤ AttachFault). ReadyGives rs r c.args.s.seqid g ss) c.in_err-ready.was c.ready.ensures in
    let a : AttachGives (record { handles = hs; records = seen rs }) c.args.handle r c.args.s.seqid c.args.mode c.from_residual-in_err-ready.result (record { handles = hs; records = seen ss }) = subst (λ (g : Result ⊤ AttachFault). AttachGives (record { handles = hs; records = seen rs }) c.args.handle r c.args.s.seqid c.args.mode g (record { handles = hs; records = seen ss })) (sym e) (refuse_ready hs rs ss c.args.handle r c.args.s.seqid c.args.mode c.in_err-ready.field-0.0 w) in
    subst (λ (t : Table). AttachGives t c.args.handle r c.args.s.seqid c.args.mode c.from_residual-in_err-ready.result (record { handles = hs; records = seen ss })) c.self.view_is a

pub invariant_of-self-in_default : goal.invariant_of-self-in_default
invariant_of-self-in_default c =
    let r : RecordId = record { key = c.args.rec; other = c.args.s.other } in
    let rs = c.self.inside.records.entries in
    let ss = c.ready.new.records.entries in
    let y : Readies rs r c.args.s.seqid ss = subst (λ (g : Result ⊤ AttachFault). ReadyGives rs r c.args.s.seqid g ss) c.in_ok-ready.was c.ready.ensures in
    unseated_counted c.self.inside.handles.entries c.seat.new.handles.entries rs ss c.discard.new.records.entries r c.args.s.seqid c.self.invariant y c.in_default.ensures.err c.discard.ensures

pub returns-in_default : goal.returns-in_default
returns-in_default c =
    let r : RecordId = record { key = c.args.rec; other = c.args.s.other } in
    let rs = c.self.inside.records.entries in
    let ss = c.ready.new.records.entries in
    let y : Readies rs r c.args.s.seqid ss = subst (λ (g : Result ⊤ AttachFault). ReadyGives rs r c.args.s.seqid g ss) c.in_ok-ready.was c.ready.ensures in
    rw (← c.self.view_is) (unseated c.self.inside.handles.entries c.seat.new.handles.entries rs ss c.discard.new.records.entries r c.args.s.seqid c.self.invariant y c.in_default.ensures.err c.discard.ensures)

pub join-requires : goal.join-requires
join-requires c =
    let r : RecordId = record { key = c.args.rec; other = c.args.s.other } in
    let rs = c.self.inside.records.entries in
    let ss = c.ready.new.records.entries in
    let y : Readies rs r c.args.s.seqid ss = subst (λ (g : Result ⊤ AttachFault). ReadyGives rs r c.args.s.seqid g ss) c.in_ok-ready.was c.ready.ensures in
    can_join c.self.inside.handles.entries rs ss r c.args.s.seqid c.args.mode c.self.invariant y c.seat.ensures.few

pub invariant_of-self-in_default-old : goal.invariant_of-self-in_default-old
invariant_of-self-in_default-old c =
    let r : RecordId = record { key = c.args.rec; other = c.args.s.other } in
    let o : c.in_ok-own.own ≡ r = search rules in
    let w : c.seat.new.handles.entries ≡ seated c.self.inside.handles.entries c.args.handle r c.args.mode = c.in-Ok.ensures.ok ∙ ap (λ (x : RecordId). seated c.self.inside.handles.entries c.args.handle x c.args.mode) o in
    let hs = c.self.inside.handles.entries in
    let rs = c.self.inside.records.entries in
    let ss = c.ready.new.records.entries in
    let y : Readies rs r c.args.s.seqid ss = subst (λ (g : Result ⊤ AttachFault). ReadyGives rs r c.args.s.seqid g ss) c.in_ok-ready.was c.ready.ensures in
    (seated_new hs c.seat.new.handles.entries rs ss c.join.new.records.entries c.args.handle r c.args.s.seqid c.args.mode c.self.invariant c.seat.ensures.ordered (sym c.in-Ok.ensures.old ∙ c.in_default-old.is) y c.join.ensures w).counted

pub returns-in_default-old : goal.returns-in_default-old
returns-in_default-old c =
    let r : RecordId = record { key = c.args.rec; other = c.args.s.other } in
    let o : c.in_ok-own.own ≡ r = search rules in
    let w : c.seat.new.handles.entries ≡ seated c.self.inside.handles.entries c.args.handle r c.args.mode = c.in-Ok.ensures.ok ∙ ap (λ (x : RecordId). seated c.self.inside.handles.entries c.args.handle x c.args.mode) o in
    let hs = c.self.inside.handles.entries in
    let rs = c.self.inside.records.entries in
    let ss = c.ready.new.records.entries in
    let gs = c.seat.new.handles.entries in
    let ts = c.join.new.records.entries in
    let y : Readies rs r c.args.s.seqid ss = subst (λ (g : Result ⊤ AttachFault). ReadyGives rs r c.args.s.seqid g ss) c.in_ok-ready.was c.ready.ensures in
    rw (← c.self.view_is) (accepted hs gs rs ss ts c.args.handle r c.args.s.seqid c.args.mode y (seated_new hs gs rs ss ts c.args.handle r c.args.s.seqid c.args.mode c.self.invariant c.seat.ensures.ordered (sym c.in-Ok.ensures.old ∙ c.in_default-old.is) y c.join.ensures w))

pub invariant_of-self-2 : goal.invariant_of-self-2
invariant_of-self-2 c =
    let r : RecordId = record { key = c.args.rec; other = c.args.s.other } in
    let o : c.in_ok-own.own ≡ r = search rules in
    let w : c.seat.new.handles.entries ≡ seated c.self.inside.handles.entries c.args.handle r c.args.mode = c.in-Ok.ensures.ok ∙ ap (λ (x : RecordId). seated c.self.inside.handles.entries c.args.handle x c.args.mode) o in
    let hs = c.self.inside.handles.entries in
    let rs = c.self.inside.records.entries in
    let ss = c.ready.new.records.entries in
    let y : Readies rs r c.args.s.seqid ss = subst (λ (g : Result ⊤ AttachFault). ReadyGives rs r c.args.s.seqid g ss) c.in_ok-ready.was c.ready.ensures in
    (seated_moved hs c.seat.new.handles.entries rs ss c.join.new.records.entries c.leave.new.records.entries c.args.handle r c.args.s.seqid c.args.mode c.in-Some.old c.self.invariant c.seat.ensures.ordered (sym c.in-Ok.ensures.old ∙ c.in-Some.is) y c.join.ensures w c.leave.ensures.ordered c.leave.ensures.left).counted

pub returns : goal.returns
returns c =
    let r : RecordId = record { key = c.args.rec; other = c.args.s.other } in
    let o : c.in_ok-own.own ≡ r = search rules in
    let w : c.seat.new.handles.entries ≡ seated c.self.inside.handles.entries c.args.handle r c.args.mode = c.in-Ok.ensures.ok ∙ ap (λ (x : RecordId). seated c.self.inside.handles.entries c.args.handle x c.args.mode) o in
    let hs = c.self.inside.handles.entries in
    let rs = c.self.inside.records.entries in
    let ss = c.ready.new.records.entries in
    let gs = c.seat.new.handles.entries in
    let ts = c.leave.new.records.entries in
    let y : Readies rs r c.args.s.seqid ss = subst (λ (g : Result ⊤ AttachFault). ReadyGives rs r c.args.s.seqid g ss) c.in_ok-ready.was c.ready.ensures in
    rw (← c.self.view_is) (accepted hs gs rs ss ts c.args.handle r c.args.s.seqid c.args.mode y (seated_moved hs gs rs ss c.join.new.records.entries ts c.args.handle r c.args.s.seqid c.args.mode c.in-Some.old c.self.invariant c.seat.ensures.ordered (sym c.in-Ok.ensures.old ∙ c.in-Some.is) y c.join.ensures w c.leave.ensures.ordered c.leave.ensures.left))
