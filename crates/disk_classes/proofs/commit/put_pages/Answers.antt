use Rattle.std.proofs.Common.{◌∙◌, refl, sym, ap, subst, arith, rules, length, get_or, ℕ, List}
use Rattle.std.specs.Prelude.{Contains}
use Rattle.std.proofs.lemmas.List.{take_all}
use Rattle.std.proofs.lemmas.List.Elements.{Contains-get_or}
use Rattle.disk_layout.specs.declared.half.Half.{Half}
use Rattle.disk_log.specs.Log.{state_of, slot_of}
use Rattle.disk_log.specs.State.{MayPut, put_of}
use Rattle.disk_log.specs.declared.kept.Tx.{Tx}
use Rattle.disk_classes.proofs.Committed.{some_within, pages_none, pages_more, pages_keeps, pages_puts}
use Rattle.disk_classes.proofs.Only.{may_put}
use Rattle.disk_classes.proofs.commit.put_pages.Goals as goal

pub loop-page-init : goal.loop-page-init
loop-page-init g c = record { tx = refl; put = pages_none _ _ _ _ _ _ _ c.requires.sound c.requires.only }

pub bounds-values-page : goal.bounds-values-page
bounds-values-page g c =
    let there = c.requires.values _ (Contains-get_or c.args.pages.now c.loop-page.page-index 0 c.loop-page-test.true) in
    some_within c.args.values.now _ there.1.0 there.1.1

pub offset_bounds-values-page : goal.offset_bounds-values-page
offset_bounds-values-page g c =
    let there = c.requires.values _ (Contains-get_or c.args.pages.now c.loop-page.page-index 0 c.loop-page-test.true) in
    let lt = some_within c.args.values.now _ there.1.0 there.1.1 in
    search rules

pub unreachable-requires : goal.unreachable-requires
unreachable-requires g c =
    let there = c.requires.values _ (Contains-get_or c.args.pages.now c.loop-page.page-index 0 c.loop-page-test.true) in
    c.in_default.not-Some there.1.0 there.1.1

pub put-requires-clause-page : goal.put-requires-clause-page
put-requires-clause-page g c =
    let lt = (c.requires.values _ (Contains-get_or c.args.pages.now c.loop-page.page-index 0 c.loop-page-test.true)).0 in
    let same = ap (λ (h : Half). h.pages) c.loop-page.invariant.put.keeps.half in
    omega (arith, lt, same)

pub put-requires-clause-may : goal.put-requires-clause-may
put-requires-clause-may g c =
    subst (λ (tx : Tx). MayPut (state_of c.loop-page.log) (slot_of tx) (get_or c.args.pages.now c.loop-page.page-index 0)) (sym c.loop-page.invariant.tx)
    (may_put (state_of c.args.log.now) (state_of c.loop-page.log) (slot_of c.args.tx.now) (get_or c.args.pages.now c.loop-page.page-index 0) (length c.args.pages.now) c.loop-page.page-index
    c.requires.only c.loop-page.invariant.put.puts c.loop-page-test.true)

pub loop-page-preserved : goal.loop-page-preserved
loop-page-preserved g c = record {
  tx = c.put.ensures.tx ∙ c.loop-page.invariant.tx;
  put = pages_more _ _ _ c.args.pages.now c.args.values.now c.args.log.now c.loop-page.page-index c.loop-page.log c.loop-page.invariant.put c.put.new.self c.put.ensures.keeps c.put.ensures.quiet
      c.in-Some.value (put_of (slot_of c.loop-page.tx) (get_or c.args.pages.now c.loop-page.page-index 0) c.in_ok-put.ensures.put.0 c.in-Some.value.bytes) c.loop-page-test.true c.in-Some.is
      (ap slot_of c.loop-page.invariant.tx) c.in_ok-put.ensures.put.1 c.in_ok-put.ensures.pages;
}

pub returns-clause-put : goal.returns-clause-put
returns-clause-put g c = λ told p value has is.
    c.loop-page.invariant.put.put told p value (subst (λ (l : List ℕ). Contains l p) (sym (take_all c.loop-page.page-index c.args.pages.now c.loop-page-test.false)) has) is

pub returns-clause-kept : goal.returns-clause-kept
returns-clause-kept g c = λ told p out.
    c.loop-page.invariant.put.kept told p (λ has. out (subst (λ (l : List ℕ). Contains l p) (take_all c.loop-page.page-index c.args.pages.now c.loop-page-test.false) has))

pub returns-in_err-put-clause-keeps : goal.returns-in_err-put-clause-keeps
returns-in_err-put-clause-keeps g c =
    pages_keeps _ _ _ c.args.pages.now c.args.values.now c.args.log.now c.loop-page.page-index c.loop-page.log c.loop-page.invariant.put c.put.new.self c.put.ensures.keeps c.put.ensures.quiet

pub returns-in_err-put-clause-tx : goal.returns-in_err-put-clause-tx
returns-in_err-put-clause-tx g c = c.put.ensures.tx ∙ c.loop-page.invariant.tx

pub returns-in_err-put-clause-puts : goal.returns-in_err-put-clause-puts
returns-in_err-put-clause-puts g c =
    pages_puts _ _ _ c.args.pages.now c.args.values.now c.args.log.now c.loop-page.page-index c.loop-page.log c.loop-page.invariant.put c.put.new.self c.put.ensures.keeps c.put.ensures.quiet
    _ (let lt = c.loop-page-test.true in omega (arith, lt)) c.in_err-put.ensures.err
