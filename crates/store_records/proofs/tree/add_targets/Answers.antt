use Rattle.std.proofs.Common.{◌≡◌, ◌+◌, ◌++◌, ◌∷◌, [], take, inl, inr, sym, subst, ◌∙◌, ap}
use Rattle.std.specs.Prelude.{nat_eq}
use Rattle.std.specs.List.{list_any}
use Rattle.std.proofs.lemmas.List.{take_all, take_more}
use Rattle.store_records.specs.Tree.{LeadOn}
use Rattle.store_records.proofs.Trees.{is_not, on_none, on_more, splits}
use Rattle.store_records.proofs.tree.add_targets.Goals as goal
use Rattle.store_records.proofs.tree.add_targets.Goals.{then-not-is_used-via-then-not-is_used, then-not-is_used-via-else-not-is_used+then-is_among}

pub loop-entry-init : goal.loop-entry-init
loop-entry-init c = on_none c.args.anodes.now c.args.found.now

pub returns-then-not-is_used-clause-astray : goal.returns-then-not-is_used-clause-astray
returns-then-not-is_used-clause-astray c = λ _.
    (let lt = c.loop-entry-test.true in record {
      front = take c.loop-entry.entry-index c.args.entries.now;
      entry = c.entry-item.result;
      back = (splits c.args.entries.now c.loop-entry.entry-index c.entry-item.result lt c.entry-item.is).0;
      among = (splits c.args.entries.now c.loop-entry.entry-index c.entry-item.result lt c.entry-item.is).1;
      wrong =
          elim c.then-not-is_used.branch [
            | then-not-is_used-via-then-not-is_used w ↦ inl (λ used. is_not c.is_used.result w.if-not-is_used.true (c.is_used.ensures.1 used))
            | then-not-is_used-via-else-not-is_used+then-is_among w ↦ inr (
                ap (list_any (nat_eq c.entry-item.result.anode)) (sym (w.as_slice.ensures ∙ c.loop-entry.invariant.all)) ∙ sym w.is_among.ensures
                ∙ w.if-is_among.true)
          ];
    })

pub loop-entry-preserved : goal.loop-entry-preserved
loop-entry-preserved c =
    let lt = c.loop-entry-test.true in
    let more : take (c.loop-entry.entry-index + 1) c.args.entries.now ≡ take c.loop-entry.entry-index c.args.entries.now ++ c.entry-item.result ∷ [] =
    take_more c.args.entries.now c.loop-entry.entry-index c.entry-item.result lt ∙ ap (λ x. take c.loop-entry.entry-index c.args.entries.now ++ x ∷ []) (sym c.entry-item.is) in
    subst (λ xs. LeadOn c.args.anodes.now xs c.args.found.now c.push.new.self) (sym more)
    (subst (LeadOn c.args.anodes.now (take c.loop-entry.entry-index c.args.entries.now ++ c.entry-item.result ∷ []) c.args.found.now) (sym c.in_ok-push.ensures.ok)
    (on_more c.args.anodes.now (take c.loop-entry.entry-index c.args.entries.now) c.entry-item.result c.args.found.now c.loop-entry.found c.loop-entry.invariant (c.is_used.ensures.0 c.if-not-is_used.false)
    (ap (list_any (nat_eq c.entry-item.result.anode)) (sym c.as_slice.ensures) ∙ sym c.is_among.ensures ∙ c.if-is_among.false)))

pub returns-clause-on : goal.returns-clause-on
returns-clause-on c = λ _.
    (let past = c.loop-entry-test.false in
    subst (λ xs. LeadOn c.args.anodes.now xs c.args.found.now c.loop-entry.found) (take_all c.loop-entry.entry-index c.args.entries.now past) c.loop-entry.invariant)
