use Rattle.std.proofs.Common.{◌∙◌, [], arith}
use Rattle.std.specs.Prelude.{true, Err}
use Rattle.std.proofs.lemmas.Result.{err_from_is_err_and}
use Rattle.tree_calls.specs.declared.place.Which.TheVariants.{Own, Files, Dirs}
use Rattle.tree_objects.specs.declared.content.Content.TheVariants.{Dir}
use Rattle.tree_objects.specs.Changes.{anode_changed}
use Rattle.tree_objects.specs.Objects.{content_with_list}
use Rattle.disk_objects.specs.Objects.{with_anode, HeldNow}
use Rattle.disk_fileset.specs.Slots.{IsBlank, HasList}
use Rattle.disk_fileset.proofs.Changing.{may_after, changes_then, changes_as, turned_then, turned_as}
use Rattle.disk_fileset.proofs.Steps.{blank_list, list_after, three_are, three_turn}
use Rattle.disk_fileset.proofs.making.fill_three.Goals as goal

pub fill-requires-2-clause-may : goal.fill-requires-2-clause-may
fill-requires-2-clause-may g c =
    may_after g.D.Disk.tells g.D.Disk.view c.args.slot 2 2 6 (omega arith) _ c.args.log.now c.fill.new.log c.args.tx.now c.fill.new.tx c.in_ok-fill.ensures.changes
    HeldNow (IsBlank c.args.slot c.args.anode true) (HasList c.args.slot c.args.anode Own) (HasList c.args.slot c.args.anode Files) (with_anode c.args.slot c.args.anode (anode_changed (content_with_list Own (c.get.result.now)))) c.requires.may c.in_ok-fill.ensures.turned
    (λ slots held is. (blank_list slots c.args.slot c.args.anode Own is, list_after slots c.args.slot c.args.anode Files Own (c.get.result.now) c.requires.first (blank_list slots c.args.slot c.args.anode Files is)))

pub returns-in_err-fill-2-clause-changes : goal.returns-in_err-fill-2-clause-changes
returns-in_err-fill-2-clause-changes g c =
    (let p = err_from_is_err_and c.from_residual-in_err-fill-2.result c.from_residual-in_err-fill-2.ensures.1 in
    changes_as g.D.Disk.tells g.D.Disk.view c.args.slot 6 c.from_residual-in_err-fill-2.result (Err c.in_err-fill-2.field-0.0) c.args.log.now c.fill-2.new.log c.args.tx.now c.fill-2.new.tx (p.1 ∙ (λ i. Err (p.2 i)))
    (changes_then g.D.Disk.tells g.D.Disk.view c.args.slot 2 2 6 (omega arith) _ c.args.log.now c.fill.new.log c.args.tx.now c.fill.new.tx c.in_ok-fill.ensures.changes _ c.fill-2.new.log c.fill-2.new.tx c.in_err-fill-2.ensures.changes))

pub fill-requires-3-clause-may : goal.fill-requires-3-clause-may
fill-requires-3-clause-may g c =
    may_after g.D.Disk.tells g.D.Disk.view c.args.slot 4 2 6 (omega arith) _ c.args.log.now c.fill-2.new.log c.args.tx.now c.fill-2.new.tx
    (changes_then g.D.Disk.tells g.D.Disk.view c.args.slot 2 2 4 (omega arith) _ c.args.log.now c.fill.new.log c.args.tx.now c.fill.new.tx c.in_ok-fill.ensures.changes _ c.fill-2.new.log c.fill-2.new.tx c.in_ok-fill-2.ensures.changes)
    HeldNow (IsBlank c.args.slot c.args.anode true) (IsBlank c.args.slot c.args.anode true) (HasList c.args.slot c.args.anode Dirs) (λ slots. (with_anode c.args.slot c.args.anode (anode_changed (content_with_list Files (c.get-2.result.now)))) ((with_anode c.args.slot c.args.anode (anode_changed (content_with_list Own (c.get.result.now)))) slots)) c.requires.may
    (λ told slots held is. (c.in_ok-fill-2.ensures.turned told ((with_anode c.args.slot c.args.anode (anode_changed (content_with_list Own (c.get.result.now)))) slots) (c.in_ok-fill.ensures.turned told slots held (blank_list slots c.args.slot c.args.anode Own is)) (list_after slots c.args.slot c.args.anode Files Own (c.get.result.now) c.requires.first (blank_list slots c.args.slot c.args.anode Files is))))
    (λ slots held is. (is, list_after (with_anode c.args.slot c.args.anode (anode_changed (content_with_list Own (c.get.result.now))) slots) c.args.slot c.args.anode Dirs Files (c.get-2.result.now) c.requires.first (list_after slots c.args.slot c.args.anode Dirs Own (c.get.result.now) c.requires.first (blank_list slots c.args.slot c.args.anode Dirs is))))

pub returns-clause-turned : goal.returns-clause-turned
returns-clause-turned g c =
    turned_as HeldNow g.D.Disk.tells g.D.Disk.view (IsBlank c.args.slot c.args.anode true) (λ slots. (with_anode c.args.slot c.args.anode (anode_changed (content_with_list Dirs (c.get-3.result.now)))) ((with_anode c.args.slot c.args.anode (anode_changed (content_with_list Files (c.get-2.result.now)))) ((with_anode c.args.slot c.args.anode (anode_changed (content_with_list Own (c.get.result.now)))) slots))) (with_anode c.args.slot c.args.anode (anode_changed (λ content. Dir [] c.args.lists.now))) c.fill-3.result c.args.log.now c.fill-3.new.log
    (λ slots is. three_turn slots c.args.slot c.args.anode (c.get.result.now) (c.get-2.result.now) (c.get-3.result.now) c.args.lists.now is (three_are c.args.lists.now (c.get.result.now) (c.get-2.result.now) (c.get-3.result.now) c.requires.three c.get.ensures c.get-2.ensures c.get-3.ensures))
    (turned_then HeldNow g.D.Disk.tells g.D.Disk.view (IsBlank c.args.slot c.args.anode true) (IsBlank c.args.slot c.args.anode true) (HasList c.args.slot c.args.anode Dirs) (λ slots. (with_anode c.args.slot c.args.anode (anode_changed (content_with_list Files (c.get-2.result.now)))) ((with_anode c.args.slot c.args.anode (anode_changed (content_with_list Own (c.get.result.now)))) slots)) (with_anode c.args.slot c.args.anode (anode_changed (content_with_list Dirs (c.get-3.result.now)))) c.fill-3.result c.args.log.now c.fill-2.new.log c.fill-3.new.log
    (λ slots held is. (is, list_after (with_anode c.args.slot c.args.anode (anode_changed (content_with_list Own (c.get.result.now))) slots) c.args.slot c.args.anode Dirs Files (c.get-2.result.now) c.requires.first (list_after slots c.args.slot c.args.anode Dirs Own (c.get.result.now) c.requires.first (blank_list slots c.args.slot c.args.anode Dirs is))))
    (λ told slots held is. (c.in_ok-fill-2.ensures.turned told ((with_anode c.args.slot c.args.anode (anode_changed (content_with_list Own (c.get.result.now)))) slots) (c.in_ok-fill.ensures.turned told slots held (blank_list slots c.args.slot c.args.anode Own is)) (list_after slots c.args.slot c.args.anode Files Own (c.get.result.now) c.requires.first (blank_list slots c.args.slot c.args.anode Files is)))) c.fill-3.ensures.turned)

pub returns-clause-changes : goal.returns-clause-changes
returns-clause-changes g c =
    changes_then g.D.Disk.tells g.D.Disk.view c.args.slot 4 2 6 (omega arith) _ c.args.log.now c.fill-2.new.log c.args.tx.now c.fill-2.new.tx
    (changes_then g.D.Disk.tells g.D.Disk.view c.args.slot 2 2 4 (omega arith) _ c.args.log.now c.fill.new.log c.args.tx.now c.fill.new.tx c.in_ok-fill.ensures.changes _ c.fill-2.new.log c.fill-2.new.tx c.in_ok-fill-2.ensures.changes)
    c.fill-3.result c.fill-3.new.log c.fill-3.new.tx c.fill-3.ensures.changes
