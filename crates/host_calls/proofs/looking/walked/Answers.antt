use Rattle.std.proofs.Common.{IfOk, Ok, ap, false, refl, subst, sym, true, ◌∙◌}
use Rattle.host_calls.proofs.Backing.{leads_ok, other_look, told_ok, use_ok, write_leads, write_ok}
use Rattle.host_calls.specs.Looking.{JudgesOn, LeadsOn, bytes_of, path_look, taken_label}
use Rattle.host_calls.specs.declared.looking.Question.TheVariants.{In as Within}
use Rattle.host_calls.specs.declared.looking.Verdict.TheVariants.{Asks}
use Rattle.need_host.specs.Calls.{Verdict as Meant, write_look}
use Rattle.need_host.specs.Looks.{Look}
use Rattle.tree_calls.specs.declared.call.Call.{Call}
use Rattle.tree_calls.specs.declared.call.Call.TheVariants.{Write}
use Rattle.host_calls.proofs.looking.walked.Goals as goal

pub returns-in-Read-clause-walked : goal.returns-in-Read-clause-walked
returns-in-Read-clause-walked c =
    let m = c.args.tables.now in
    subst (λ (l : Look Meant). JudgesOn m.cache m.user c.args.call.now l c.read.result)
    (sym (ap (λ k. path_look m k c.args.root c.args.path.now) c.in-Read.is)) (c.read.ensures.judged c.args.call.now)

pub returns-in-Read-clause-backed : goal.returns-in-Read-clause-backed
returns-in-Read-clause-backed c =
    told_ok c.args.tables.now c.args.call.now c.read.result c.read.ensures.read c.read.ensures.tells

pub returns-in-List-clause-walked : goal.returns-in-List-clause-walked
returns-in-List-clause-walked c =
    let m = c.args.tables.now in
    subst (λ (l : Look Meant). JudgesOn m.cache m.user c.args.call.now l c.listed.result)
    (sym (ap (λ k. path_look m k c.args.root c.args.path.now) c.in-List.is)) (c.listed.ensures.judged c.args.call.now)

pub returns-in-List-clause-backed : goal.returns-in-List-clause-backed
returns-in-List-clause-backed c =
    told_ok c.args.tables.now c.args.call.now c.listed.result c.listed.ensures.read c.listed.ensures.tells

pub returns-in-Stat-clause-walked : goal.returns-in-Stat-clause-walked
returns-in-Stat-clause-walked c =
    let m = c.args.tables.now in
    subst (λ (l : Look Meant). JudgesOn m.cache m.user c.args.call.now l c.told.result)
    (sym (ap (λ k. path_look m k c.args.root c.args.path.now) c.in-Stat.is)) (c.told.ensures.judged c.args.call.now)

pub returns-in-Stat-clause-backed : goal.returns-in-Stat-clause-backed
returns-in-Stat-clause-backed c =
    told_ok c.args.tables.now c.args.call.now c.told.result c.told.ensures.read c.told.ensures.tells

pub returns-in-GetAcl-clause-walked : goal.returns-in-GetAcl-clause-walked
returns-in-GetAcl-clause-walked c =
    let m = c.args.tables.now in
    subst (λ (l : Look Meant). JudgesOn m.cache m.user c.args.call.now l c.shown.result)
    (sym (ap (λ k. path_look m k c.args.root c.args.path.now) c.in-GetAcl.is)) (c.shown.ensures.judged c.args.call.now)

pub returns-in-GetAcl-clause-backed : goal.returns-in-GetAcl-clause-backed
returns-in-GetAcl-clause-backed c =
    told_ok c.args.tables.now c.args.call.now c.shown.result c.shown.ensures.read c.shown.ensures.tells

pub returns-in-Sync-clause-walked : goal.returns-in-Sync-clause-walked
returns-in-Sync-clause-walked c =
    let m = c.args.tables.now in
    subst (λ (l : Look Meant). JudgesOn m.cache m.user c.args.call.now l c.synced.result)
    (sym (ap (λ k. path_look m k c.args.root c.args.path.now) c.in-Sync.is)) (c.synced.ensures.judged c.args.call.now)

pub returns-in-Sync-clause-backed : goal.returns-in-Sync-clause-backed
returns-in-Sync-clause-backed c =
    told_ok c.args.tables.now c.args.call.now c.synced.result c.synced.ensures.read c.synced.ensures.tells

pub returns-in-Lock-clause-walked : goal.returns-in-Lock-clause-walked
returns-in-Lock-clause-walked c =
    let m = c.args.tables.now in
    subst (λ (l : Look Meant). JudgesOn m.cache m.user c.args.call.now l c.locked.result)
    (sym (ap (λ k. path_look m k c.args.root c.args.path.now) c.in-Lock.is)) (c.locked.ensures.judged c.args.call.now)

pub returns-in-Lock-clause-backed : goal.returns-in-Lock-clause-backed
returns-in-Lock-clause-backed c =
    use_ok c.args.tables.now c.args.call.now true c.in-Lock.label (ap taken_label c.in-Lock.is) c.locked.result
    c.locked.ensures.covers

pub returns-in-OpenFile-clause-walked : goal.returns-in-OpenFile-clause-walked
returns-in-OpenFile-clause-walked c =
    let m = c.args.tables.now in
    subst (λ (l : Look Meant). JudgesOn m.cache m.user c.args.call.now l c.opened.result)
    (sym (ap (λ k. path_look m k c.args.root c.args.path.now) c.in-OpenFile.is)) (c.opened.ensures.judged
    c.args.call.now)

pub returns-in-OpenFile-clause-backed : goal.returns-in-OpenFile-clause-backed
returns-in-OpenFile-clause-backed c =
    use_ok c.args.tables.now c.args.call.now false c.in-OpenFile.label (ap taken_label c.in-OpenFile.is) c.opened.result
    c.opened.ensures.covers

pub returns-in-Write-clause-walked : goal.returns-in-Write-clause-walked
returns-in-Write-clause-walked c =
    let m = c.args.tables.now in
    subst (λ (l : Look Meant). JudgesOn m.cache m.user c.args.call.now l c.written.result)
    (ap (write_look m.user c.args.root c.args.path.now c.in-Write.from) c.as_slice.ensures
    ∙ sym (ap (λ k. path_look m k c.args.root c.args.path.now) c.in-Write.is))
    (c.written.ensures.judged c.args.call.now (ap bytes_of c.in-Write.is ∙ sym c.as_slice.ensures))

pub returns-in-Write-clause-backed : goal.returns-in-Write-clause-backed
returns-in-Write-clause-backed c =
    write_ok c.args.tables.now c.args.call.now c.in-Write.place c.in-Write.from c.as_slice.result.now
    (c.in-Write.is ∙ ap (Write c.in-Write.place c.in-Write.from) (sym c.as_slice.ensures)) c.written.result
    c.written.ensures.covers

pub returns-in_default-clause-walked : goal.returns-in_default-clause-walked
returns-in_default-clause-walked c =
    let m = c.args.tables.now in
    let d = c.in_default in
    subst (λ (l : Look Meant). JudgesOn m.cache m.user c.args.call.now l (Ok (Asks (Within c.args.root.fileset))))
    (sym (other_look m c.args.root c.args.path.now c.args.call.now d.not-Read d.not-Write d.not-List d.not-Stat
    d.not-GetAcl d.not-Sync d.not-Lock d.not-OpenFile)) (tt, λ sized. refl)

pub returns-in-Read-clause-leads : goal.returns-in-Read-clause-leads
returns-in-Read-clause-leads c =
    let m = c.args.tables.now in
    subst (λ (k : Call). IfOk c.read.result (λ verdict. LeadsOn m.cache m.user k c.args.root c.args.path.now verdict))
    (sym c.in-Read.is) (c.read.ensures.leads c.in-Read.place)

pub returns-in-List-clause-leads : goal.returns-in-List-clause-leads
returns-in-List-clause-leads c =
    let m = c.args.tables.now in
    subst (λ (k : Call). IfOk c.listed.result (λ verdict. LeadsOn m.cache m.user k c.args.root c.args.path.now verdict))
    (sym c.in-List.is) (c.listed.ensures.leads c.in-List.place)

pub returns-in-Sync-clause-leads : goal.returns-in-Sync-clause-leads
returns-in-Sync-clause-leads c =
    let m = c.args.tables.now in
    subst (λ (k : Call). IfOk c.synced.result (λ verdict. LeadsOn m.cache m.user k c.args.root c.args.path.now verdict))
    (sym c.in-Sync.is) (c.synced.ensures.leads c.in-Sync.place)

pub returns-in-Stat-clause-leads : goal.returns-in-Stat-clause-leads
returns-in-Stat-clause-leads c =
    let m = c.args.tables.now in
    leads_ok m.cache m.user c.args.call.now c.args.root c.args.path.now c.told.result c.told.ensures.leads

pub returns-in-GetAcl-clause-leads : goal.returns-in-GetAcl-clause-leads
returns-in-GetAcl-clause-leads c =
    let m = c.args.tables.now in
    leads_ok m.cache m.user c.args.call.now c.args.root c.args.path.now c.shown.result c.shown.ensures.leads

pub returns-in-Lock-clause-leads : goal.returns-in-Lock-clause-leads
returns-in-Lock-clause-leads c =
    let m = c.args.tables.now in
    subst (λ (k : Call). IfOk c.locked.result (λ verdict. LeadsOn m.cache m.user k c.args.root c.args.path.now verdict))
    (sym c.in-Lock.is) (c.locked.ensures.leads c.in-Lock.label c.in-Lock.place)

pub returns-in-OpenFile-clause-leads : goal.returns-in-OpenFile-clause-leads
returns-in-OpenFile-clause-leads c =
    let m = c.args.tables.now in
    subst (λ (k : Call). IfOk c.opened.result (λ verdict. LeadsOn m.cache m.user k c.args.root c.args.path.now verdict))
    (sym c.in-OpenFile.is) (c.opened.ensures.leads c.in-OpenFile.label c.in-OpenFile.place)

pub returns-in-Write-clause-leads : goal.returns-in-Write-clause-leads
returns-in-Write-clause-leads c =
    let m = c.args.tables.now in
    write_leads m.cache m.user c.args.call.now c.args.root c.args.path.now c.in-Write.place c.in-Write.from
    c.as_slice.result.now
    (c.in-Write.is ∙ ap (Write c.in-Write.place c.in-Write.from) (sym c.as_slice.ensures)) c.written.result
    c.written.ensures.covers
