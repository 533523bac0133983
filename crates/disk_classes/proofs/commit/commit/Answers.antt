use Rattle.std.proofs.Common.{◌∙◌, sym, ap, subst}
use Rattle.std.proofs.lemmas.Result.{err_from_is_err_and}
use Rattle.disk_log.specs.Log.{state_of, slot_of}
use Rattle.disk_log.specs.State.{IsOpen, closed, ended}
use Rattle.disk_log.specs.declared.kept.Tx.{Tx}
use Rattle.disk_classes.proofs.Committed.{begin_same, begin_idle, begin_fault, quiet_mid, mid_only, mid_within, put_opened, undo_same, undo_idle, undo_quiet, undo_counted, undo_fault, end_idle, end_quiet, end_counted, end_commits}
use Rattle.disk_classes.proofs.commit.commit.Goals as goal

pub returns-in_err-tx-clause-err : goal.returns-in_err-tx-clause-err
returns-in_err-tx-clause-err g c =
    let p = err_from_is_err_and c.from_residual.result c.from_residual.ensures.1 in
    rw p.1 (begin_same _ _ c.args.class c.args.noted.now c.args.values.now c.args.log.now c.requires.idle c.begin.new.self _ c.count_pages.ensures c.begin.ensures.keeps c.begin.ensures.disk _ c.in_err-tx.ensures.begun)

pub returns-in_err-tx-clause-idle : goal.returns-in_err-tx-clause-idle
returns-in_err-tx-clause-idle g c =
    begin_idle _ _ c.args.class c.args.noted.now c.args.values.now c.args.log.now c.requires.idle c.begin.new.self _ c.count_pages.ensures c.begin.ensures.keeps c.begin.ensures.disk _ c.in_err-tx.ensures.begun

pub returns-in_err-tx-clause-quiet : goal.returns-in_err-tx-clause-quiet
returns-in_err-tx-clause-quiet g c =
    quiet_mid _ _ c.args.class c.args.noted.now c.args.values.now c.args.log.now c.requires.idle c.begin.new.self _ c.count_pages.ensures c.begin.ensures.keeps c.begin.ensures.disk

pub returns-in_err-tx-clause-only : goal.returns-in_err-tx-clause-only
returns-in_err-tx-clause-only g c =
    let p = err_from_is_err_and c.from_residual.result c.from_residual.ensures.1 in
    rw (p.1, p.2) (begin_fault _ _ c.args.class c.args.noted.now c.args.values.now c.args.log.now c.requires.idle c.begin.new.self _ c.count_pages.ensures c.begin.ensures.keeps c.begin.ensures.disk _ c.requires.room c.in_err-tx.ensures.begun)

pub put_class-requires-clause-only : goal.put_class-requires-clause-only
put_class-requires-clause-only g c =
    mid_only _ _ c.args.class c.args.noted.now c.args.values.now c.args.log.now c.requires.idle c.begin.new.self _ c.count_pages.ensures c.begin.ensures.keeps c.begin.ensures.disk c.in_ok-tx.tx c.in_ok-tx.ensures.begun

pub put_class-requires-clause-within : goal.put_class-requires-clause-within
put_class-requires-clause-within g c =
    mid_within _ _ c.args.class c.args.noted.now c.args.values.now c.args.log.now c.requires.idle c.begin.new.self _ c.count_pages.ensures c.begin.ensures.keeps c.begin.ensures.disk c.in_ok-tx.tx c.in_ok-tx.ensures.begun
    c.requires.within

pub end-requires-clause-opened : goal.end-requires-clause-opened
end-requires-clause-opened g c =
    subst (λ (tx : Tx). IsOpen (state_of c.put_class.new.log) (slot_of tx)) (sym c.put_class.ensures.tx)
    (put_opened _ _ c.args.class c.args.noted.now c.args.values.now c.args.log.now c.requires.idle c.begin.new.self _ c.count_pages.ensures c.begin.ensures.keeps c.begin.ensures.disk c.in_ok-tx.tx c.in_ok-tx.ensures.begun
    c.put_class.new.log c.put_class.ensures.keeps c.put_class.ensures.puts c.put_class.ensures.quiet)

pub returns-in-Ok-clause-ok : goal.returns-in-Ok-clause-ok
returns-in-Ok-clause-ok g c =
    end_commits _ _ c.args.class c.args.noted.now c.args.values.now c.args.log.now c.requires.idle c.begin.new.self _ c.count_pages.ensures c.begin.ensures.keeps c.begin.ensures.disk c.in_ok-tx.tx c.in_ok-tx.ensures.begun
    c.put_class.new.log c.put_class.ensures.keeps c.put_class.ensures.puts c.put_class.ensures.quiet
    c.end.new.self c.end.ensures.keeps (c.end.ensures.state ∙ ap (λ (tx : Tx). ended (state_of c.put_class.new.log) (slot_of tx)) c.put_class.ensures.tx) c.end.ensures.disk c.end.ensures.pages
    c.in-Ok.ensures.put c.in-Ok.ensures.kept

pub returns-in-Ok-clause-idle : goal.returns-in-Ok-clause-idle
returns-in-Ok-clause-idle g c =
    end_idle _ _ c.args.class c.args.noted.now c.args.values.now c.args.log.now c.requires.idle c.begin.new.self _ c.count_pages.ensures c.begin.ensures.keeps c.begin.ensures.disk c.in_ok-tx.tx c.in_ok-tx.ensures.begun
    c.put_class.new.log c.put_class.ensures.keeps c.put_class.ensures.puts c.put_class.ensures.quiet
    c.end.new.self c.end.ensures.keeps (c.end.ensures.state ∙ ap (λ (tx : Tx). ended (state_of c.put_class.new.log) (slot_of tx)) c.put_class.ensures.tx) c.end.ensures.disk c.end.ensures.pages

pub returns-in-Ok-clause-counted : goal.returns-in-Ok-clause-counted
returns-in-Ok-clause-counted g c =
    end_counted _ _ c.args.class c.args.noted.now c.args.values.now c.args.log.now c.requires.idle c.begin.new.self _ c.count_pages.ensures c.begin.ensures.keeps c.begin.ensures.disk c.in_ok-tx.tx c.in_ok-tx.ensures.begun
    c.put_class.new.log c.put_class.ensures.keeps c.put_class.ensures.puts c.put_class.ensures.quiet
    c.end.new.self c.end.ensures.keeps (c.end.ensures.state ∙ ap (λ (tx : Tx). ended (state_of c.put_class.new.log) (slot_of tx)) c.put_class.ensures.tx) c.end.ensures.disk c.end.ensures.pages

pub returns-in-Ok-clause-quiet : goal.returns-in-Ok-clause-quiet
returns-in-Ok-clause-quiet g c =
    end_quiet _ _ c.args.class c.args.noted.now c.args.values.now c.args.log.now c.requires.idle c.begin.new.self _ c.count_pages.ensures c.begin.ensures.keeps c.begin.ensures.disk c.in_ok-tx.tx c.in_ok-tx.ensures.begun
    c.put_class.new.log c.put_class.ensures.keeps c.put_class.ensures.puts c.put_class.ensures.quiet
    c.end.new.self c.end.ensures.keeps (c.end.ensures.state ∙ ap (λ (tx : Tx). ended (state_of c.put_class.new.log) (slot_of tx)) c.put_class.ensures.tx) c.end.ensures.disk c.end.ensures.pages

pub undo-requires-clause-opened : goal.undo-requires-clause-opened
undo-requires-clause-opened g c =
    subst (λ (tx : Tx). IsOpen (state_of c.put_class.new.log) (slot_of tx)) (sym c.put_class.ensures.tx)
    (put_opened _ _ c.args.class c.args.noted.now c.args.values.now c.args.log.now c.requires.idle c.begin.new.self _ c.count_pages.ensures c.begin.ensures.keeps c.begin.ensures.disk c.in_ok-tx.tx c.in_ok-tx.ensures.begun
    c.put_class.new.log c.put_class.ensures.keeps c.put_class.ensures.puts c.put_class.ensures.quiet)

pub returns-in-Err-clause-err : goal.returns-in-Err-clause-err
returns-in-Err-clause-err g c =
    undo_same _ _ c.args.class c.args.noted.now c.args.values.now c.args.log.now c.requires.idle c.begin.new.self _ c.count_pages.ensures c.begin.ensures.keeps c.begin.ensures.disk c.in_ok-tx.tx c.in_ok-tx.ensures.begun
    c.put_class.new.log c.put_class.ensures.keeps c.put_class.ensures.puts c.put_class.ensures.quiet
    c.undo.new.self c.undo.ensures.keeps (c.undo.ensures.state ∙ ap (λ (tx : Tx). closed (state_of c.put_class.new.log) (slot_of tx)) c.put_class.ensures.tx) c.undo.ensures.disk

pub returns-in-Err-clause-idle : goal.returns-in-Err-clause-idle
returns-in-Err-clause-idle g c =
    undo_idle _ _ c.args.class c.args.noted.now c.args.values.now c.args.log.now c.requires.idle c.begin.new.self _ c.count_pages.ensures c.begin.ensures.keeps c.begin.ensures.disk c.in_ok-tx.tx c.in_ok-tx.ensures.begun
    c.put_class.new.log c.put_class.ensures.keeps c.put_class.ensures.puts c.put_class.ensures.quiet
    c.undo.new.self c.undo.ensures.keeps (c.undo.ensures.state ∙ ap (λ (tx : Tx). closed (state_of c.put_class.new.log) (slot_of tx)) c.put_class.ensures.tx) c.undo.ensures.disk

pub returns-in-Err-clause-counted : goal.returns-in-Err-clause-counted
returns-in-Err-clause-counted g c =
    undo_counted _ _ c.args.class c.args.noted.now c.args.values.now c.args.log.now c.requires.idle c.begin.new.self _ c.count_pages.ensures c.begin.ensures.keeps c.begin.ensures.disk c.in_ok-tx.tx c.in_ok-tx.ensures.begun
    c.put_class.new.log c.put_class.ensures.keeps c.put_class.ensures.puts c.put_class.ensures.quiet
    c.undo.new.self c.undo.ensures.keeps (c.undo.ensures.state ∙ ap (λ (tx : Tx). closed (state_of c.put_class.new.log) (slot_of tx)) c.put_class.ensures.tx) c.undo.ensures.disk

pub returns-in-Err-clause-quiet : goal.returns-in-Err-clause-quiet
returns-in-Err-clause-quiet g c =
    undo_quiet _ _ c.args.class c.args.noted.now c.args.values.now c.args.log.now c.requires.idle c.begin.new.self _ c.count_pages.ensures c.begin.ensures.keeps c.begin.ensures.disk c.in_ok-tx.tx c.in_ok-tx.ensures.begun
    c.put_class.new.log c.put_class.ensures.keeps c.put_class.ensures.puts c.put_class.ensures.quiet
    c.undo.new.self c.undo.ensures.keeps (c.undo.ensures.state ∙ ap (λ (tx : Tx). closed (state_of c.put_class.new.log) (slot_of tx)) c.put_class.ensures.tx) c.undo.ensures.disk

pub returns-in-Err-clause-only : goal.returns-in-Err-clause-only
returns-in-Err-clause-only g c =
    undo_fault _ _ c.args.class c.args.noted.now c.args.values.now c.args.log.now c.requires.idle c.begin.new.self _ c.count_pages.ensures c.begin.ensures.keeps c.begin.ensures.disk c.in_ok-tx.tx c.in_ok-tx.ensures.begun
    c.put_class.new.log c.put_class.ensures.keeps c.put_class.ensures.puts c.put_class.ensures.quiet
    c.undo.new.self c.undo.ensures.keeps (c.undo.ensures.state ∙ ap (λ (tx : Tx). closed (state_of c.put_class.new.log) (slot_of tx)) c.put_class.ensures.tx) c.undo.ensures.disk
    _ c.in-Err.ensures.only
