use Rattle.std.proofs.Common.{◌≡◌, ◌∙◌, refl, sym, ap, subst, arith, length, List}
use Rattle.std.proofs.lemmas.List.{take_all}
use Rattle.disk_log.specs.Log.{state_of, slot_of}
use Rattle.disk_log.specs.declared.kept.Tx.{Tx}
use Rattle.disk_classes.specs.Commit.{IsOnlyTx, PutsIn}
use Rattle.disk_classes.specs.Notes.{pages_in_class, IsPutIn}
use Rattle.disk_classes.specs.declared.member.Noted.{Noted as Kept}
use Rattle.disk_classes.proofs.Committed.{members_none, members_other, members_only, members_values, members_keeps, members_puts, members_more}
use Rattle.disk_classes.proofs.Committing.{put_whole}
use Rattle.disk_classes.proofs.Ended.{read_at}
use Rattle.disk_classes.proofs.commit.put_class.Goals as goal
use Rattle.disk_classes.proofs.commit.put_class.Goals.{then-one-class+in_ok-put_pages, else-one-class}

pub loop-one-init : goal.loop-one-init
loop-one-init g c = record { tx = refl; put = members_none _ _ _ _ _ _ _ _ c.requires.sound c.requires.only }

pub put_pages-requires-clause-only : goal.put_pages-requires-clause-only
put_pages-requires-clause-only g c =
    subst (λ (tx : Tx). IsOnlyTx (slot_of tx) (length c.as_slice.result.now) (state_of c.loop-one.log)) (sym c.loop-one.invariant.tx)
    (members_only _ _ _ c.args.class c.args.noted.now c.args.values.now c.args.log.now c.loop-one.one-index c.loop-one.log c.loop-one.invariant.put c.loop-one-test.true
    (sym (ap (λ (n : Kept). n.class) (read_at c.args.noted.now c.loop-one.one-index c.one-item.result c.loop-one-test.true c.one-item.is)) ∙ (let is : c.one-item.result.class ≡ c.args.class = omega arith in is))
    c.as_slice.result.now (c.as_slice.ensures ∙ ap (λ (n : Kept). n.pages) (read_at c.args.noted.now c.loop-one.one-index c.one-item.result c.loop-one-test.true c.one-item.is))
    c.requires.only)

pub put_pages-requires-clause-values : goal.put_pages-requires-clause-values
put_pages-requires-clause-values g c =
    members_values _ _ _ c.args.class c.args.noted.now c.args.values.now c.args.log.now c.loop-one.one-index c.loop-one.log c.loop-one.invariant.put c.loop-one-test.true
    (sym (ap (λ (n : Kept). n.class) (read_at c.args.noted.now c.loop-one.one-index c.one-item.result c.loop-one-test.true c.one-item.is)) ∙ (let is : c.one-item.result.class ≡ c.args.class = omega arith in is))
    c.as_slice.result.now (c.as_slice.ensures ∙ ap (λ (n : Kept). n.pages) (read_at c.args.noted.now c.loop-one.one-index c.one-item.result c.loop-one-test.true c.one-item.is))
    c.requires.values c.requires.within

pub returns-in_err-put_pages-clause-keeps : goal.returns-in_err-put_pages-clause-keeps
returns-in_err-put_pages-clause-keeps g c =
    members_keeps _ _ _ c.args.class c.args.noted.now c.args.values.now c.args.log.now c.loop-one.one-index c.loop-one.log c.loop-one.invariant.put c.loop-one-test.true
    (sym (ap (λ (n : Kept). n.class) (read_at c.args.noted.now c.loop-one.one-index c.one-item.result c.loop-one-test.true c.one-item.is)) ∙ (let is : c.one-item.result.class ≡ c.args.class = omega arith in is))
    c.as_slice.result.now (c.as_slice.ensures ∙ ap (λ (n : Kept). n.pages) (read_at c.args.noted.now c.loop-one.one-index c.one-item.result c.loop-one-test.true c.one-item.is))
    c.put_pages.new.log c.put_pages.ensures.sound c.put_pages.ensures.keeps (subst (λ (tx : Tx). PutsIn (slot_of tx) (length c.as_slice.result.now) (state_of c.loop-one.log) (state_of c.put_pages.new.log)) c.loop-one.invariant.tx c.put_pages.ensures.puts) c.put_pages.ensures.quiet

pub returns-in_err-put_pages-clause-tx : goal.returns-in_err-put_pages-clause-tx
returns-in_err-put_pages-clause-tx g c = c.put_pages.ensures.tx ∙ c.loop-one.invariant.tx

pub returns-in_err-put_pages-clause-puts : goal.returns-in_err-put_pages-clause-puts
returns-in_err-put_pages-clause-puts g c =
    members_puts _ _ _ c.args.class c.args.noted.now c.args.values.now c.args.log.now c.loop-one.one-index c.loop-one.log c.loop-one.invariant.put c.loop-one-test.true
    (sym (ap (λ (n : Kept). n.class) (read_at c.args.noted.now c.loop-one.one-index c.one-item.result c.loop-one-test.true c.one-item.is)) ∙ (let is : c.one-item.result.class ≡ c.args.class = omega arith in is))
    c.as_slice.result.now (c.as_slice.ensures ∙ ap (λ (n : Kept). n.pages) (read_at c.args.noted.now c.loop-one.one-index c.one-item.result c.loop-one-test.true c.one-item.is))
    c.put_pages.new.log c.put_pages.ensures.sound c.put_pages.ensures.keeps (subst (λ (tx : Tx). PutsIn (slot_of tx) (length c.as_slice.result.now) (state_of c.loop-one.log) (state_of c.put_pages.new.log)) c.loop-one.invariant.tx c.put_pages.ensures.puts) c.put_pages.ensures.quiet

pub loop-one-preserved : goal.loop-one-preserved
loop-one-preserved g c = elim c.if-one-class.branch [
  | then-one-class+in_ok-put_pages w ↦ record {
    tx = w.tx-is ∙ w.put_pages.ensures.tx ∙ c.loop-one.invariant.tx;
    put = rw w.log-is (members_more _ _ _ c.args.class c.args.noted.now c.args.values.now c.args.log.now c.loop-one.one-index c.loop-one.log c.loop-one.invariant.put c.loop-one-test.true
        (sym (ap (λ (n : Kept). n.class) (read_at c.args.noted.now c.loop-one.one-index c.one-item.result c.loop-one-test.true c.one-item.is)) ∙ w.if-one-class.true)
        w.as_slice.result.now (w.as_slice.ensures ∙ ap (λ (n : Kept). n.pages) (read_at c.args.noted.now c.loop-one.one-index c.one-item.result c.loop-one-test.true c.one-item.is))
        w.put_pages.new.log w.put_pages.ensures.sound w.put_pages.ensures.keeps
        (subst (λ (tx : Tx). PutsIn (slot_of tx) (length w.as_slice.result.now) (state_of c.loop-one.log) (state_of w.put_pages.new.log)) c.loop-one.invariant.tx w.put_pages.ensures.puts) w.put_pages.ensures.quiet
        w.in_ok-put_pages.ensures.put w.in_ok-put_pages.ensures.kept);
  }
  | else-one-class w ↦ record {
    tx = w.tx-is ∙ c.loop-one.invariant.tx;
    put = rw w.log-is (members_other _ _ _ c.args.class c.args.noted.now c.args.values.now c.args.log.now c.loop-one.one-index c.loop-one.log c.loop-one.invariant.put c.loop-one-test.true
        (λ e. w.if-one-class.false (ap (λ (n : Kept). n.class) (read_at c.args.noted.now c.loop-one.one-index c.one-item.result c.loop-one-test.true c.one-item.is) ∙ e)));
  }
]

pub returns-clause-puts : goal.returns-clause-puts
returns-clause-puts g c = subst (λ (l : List Kept). PutsIn (slot_of c.args.tx.now) (pages_in_class c.args.class l) (state_of c.args.log.now) (state_of c.loop-one.log)) (take_all c.loop-one.one-index c.args.noted.now c.loop-one-test.false)
    c.loop-one.invariant.put.puts

pub returns-clause-put : goal.returns-clause-put
returns-clause-put g c = λ told p value h is. c.loop-one.invariant.put.put told p value (put_whole c.args.noted.now c.args.class c.loop-one.one-index p c.loop-one-test.false h) is

pub returns-clause-kept : goal.returns-clause-kept
returns-clause-kept g c = λ told p out.
    c.loop-one.invariant.put.kept told p (λ h. out (subst (λ (l : List Kept). IsPutIn c.args.class l p) (take_all c.loop-one.one-index c.args.noted.now c.loop-one-test.false) h))
