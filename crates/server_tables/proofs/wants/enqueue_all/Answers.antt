use Rattle.std.proofs.Common.{◌≡◌, ◌+◌, suc, List, ◌∷◌, ap, sym, subst, ◌∙◌, drop, arith}
use Rattle.std.proofs.Math.Seq.{drop-cons}
use Rattle.token_manager.specs.Managers.{Manager, after_enqueue}
use Rattle.token_manager.specs.declared.want.Want.{Want}
use Rattle.server_tables.specs.declared.pending.Pending.{Pending}
use Rattle.server_tables.specs.Counting.{CanAskAll}
use Rattle.server_tables.specs.Standing.{want_for}
use Rattle.server_tables.specs.Updates.{all_enqueued}
use Rattle.server_tables.proofs.Counted.{ask_step}
use Rattle.server_tables.proofs.wants.enqueue_all.Goals as goal

pub loop-pending-preserved : goal.loop-pending-preserved
loop-pending-preserved c =
    let ps = c.args.pendings.now in
    let i = c.loop-pending.pending-index in
    let m = c.loop-pending.tokens in
    let p = c.pending-item.result in
    let rest = drop (i + 1) ps in
    let cut : drop i ps ≡ p ∷ rest =
    drop-cons ps i p c.loop-pending-test.true
    ∙ (λ j. sym c.pending-item.is j ∷ drop (let e : suc i ≡ i + 1 = omega arith in e j) ps) in
    let after : c.enqueue.new.self ≡ after_enqueue m (want_for p) =
    c.in_ok-enqueue.ensures.after ∙ ap (after_enqueue m) c.in_ok-want_for.ensures in
    let can = ask_step m.asked m.latest p rest
    (subst (λ (qs : List Pending). CanAskAll m.asked m.latest qs) cut c.loop-pending.invariant.0) in (
      subst (λ (n : Manager). CanAskAll n.asked n.latest rest) (sym after) can,
      ap (λ n. all_enqueued n rest) after ∙ ap (all_enqueued m) (sym cut) ∙ c.loop-pending.invariant.1,
    )
