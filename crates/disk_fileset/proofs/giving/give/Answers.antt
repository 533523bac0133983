use Rattle.std.proofs.Common.{ℕ, ◌∙◌, List, subst, arith}
use Rattle.std.specs.Prelude.{Err}
use Rattle.std.proofs.lemmas.Result.{err_from_is_err_and, on_ok_weaker}
use Rattle.tree_objects.specs.declared.content.Anode.{Anode}
use Rattle.tree_objects.specs.Changes.{anode_changed, content_truncated}
use Rattle.disk_log.specs.Log.{disk_of, state_of}
use Rattle.disk_objects.specs.Objects.{with_anode, KeepsNow}
use Rattle.disk_fileset.specs.Giving.{IsLong}
use Rattle.disk_fileset.specs.Slots.{IsFile}
use Rattle.disk_fileset.proofs.Changing.{may_after, changes_then, changes_failed, changes_as}
use Rattle.disk_fileset.proofs.Looking.{look_changes, look_failed, look_held, look_may, may_where}
use Rattle.disk_fileset.proofs.Patching.{given_turns, given_same, long_truncated, long_here, length_there}
use Rattle.disk_fileset.proofs.giving.give.Goals as goal

pub returns-in_err-length-clause-changes : goal.returns-in_err-length-clause-changes
returns-in_err-length-clause-changes g c =
    let p = err_from_is_err_and c.from_residual.result c.from_residual.ensures.1 in
    changes_as g.D.Disk.tells g.D.Disk.view c.args.slot 68 c.from_residual.result (Err c.in_err-length.field-0.0) c.args.log.now c.length_of.new.log c.args.tx.now c.args.tx.now (p.1 ∙ (λ i. Err (p.2 i)))
    (look_failed g.D.Disk.tells g.D.Disk.view c.args.log.now c.length_of.new.log c.in_err-length.ensures.state c.in_err-length.ensures.quiet c.args.slot 68 c.in_err-length.field-0.0 c.args.tx.now c.in_err-length.ensures.sound c.in_err-length.ensures.counted c.in_err-length.ensures.only)

pub returns-in_err-truncate-clause-changes : goal.returns-in_err-truncate-clause-changes
returns-in_err-truncate-clause-changes g c =
    let p = err_from_is_err_and c.from_residual-in_err-truncate.result c.from_residual-in_err-truncate.ensures.1 in
    let look = look_changes g.D.Disk.tells g.D.Disk.view c.args.log.now c.length_of.new.log c.in_ok-length.ensures.state c.in_ok-length.ensures.quiet {T = ℕ} c.args.slot 0 c.args.tx.now c.in_ok-length.ensures.sound c.in_ok-length.ensures.counted in
    changes_as g.D.Disk.tells g.D.Disk.view c.args.slot 68 c.from_residual-in_err-truncate.result (Err c.in_err-truncate.field-0.0) c.args.log.now c.truncate.new.log c.args.tx.now c.truncate.new.tx (p.1 ∙ (λ i. Err (p.2 i)))
    (changes_then g.D.Disk.tells g.D.Disk.view c.args.slot 0 68 68 (omega arith) 0 c.args.log.now c.length_of.new.log c.args.tx.now c.args.tx.now look _ c.truncate.new.log c.truncate.new.tx
    (changes_failed g.D.Disk.tells g.D.Disk.view c.args.slot 2 68 _ c.length_of.new.log c.truncate.new.log c.args.tx.now c.truncate.new.tx c.in_err-truncate.ensures.changes))

pub patch-requires-clause-may : goal.patch-requires-clause-may
patch-requires-clause-may g c =
    may_after g.D.Disk.tells g.D.Disk.view c.args.slot 2 66 68 (omega arith) _ c.length_of.new.log c.truncate.new.log c.args.tx.now c.truncate.new.tx c.in_ok-truncate.ensures.changes
    KeepsNow (IsFile c.args.slot c.args.anode) (IsFile c.args.slot c.args.anode) (IsLong c.args.slot c.args.anode c.unwrap_or-end.result) (with_anode c.args.slot c.args.anode (anode_changed (content_truncated c.unwrap_or-end.result)))
    (look_may g.D.Disk.tells g.D.Disk.view c.args.log.now c.length_of.new.log c.in_ok-length.ensures.state c.in_ok-length.ensures.quiet KeepsNow (IsFile c.args.slot c.args.anode) c.args.slot 68 c.args.tx.now c.in_ok-length.ensures.sound c.requires.may) c.in_ok-truncate.ensures.kept
    (λ slots held is. (let kept = held.each c.args.slot c.requires.slot in let each = kept.each c.args.anode c.requires.first c.requires.last in
    let count = kept.count in
    let last = c.requires.last in
    (is, long_truncated slots c.args.slot c.args.anode c.requires.slot c.requires.first c.requires.last each c.unwrap_or-end.result (omega (arith, count, last)) is)))

pub returns-then-length-end-clause-kept : goal.returns-then-length-end-clause-kept
returns-then-length-end-clause-kept g c = λ told slots held is.
    (let kept = held.each c.args.slot c.requires.slot in let each = kept.each c.args.anode c.requires.first c.requires.last in
    let count = kept.count in
    let last = c.requires.last in
    let long = long_truncated slots c.args.slot c.args.anode c.requires.slot c.requires.first c.requires.last each c.unwrap_or-end.result (omega (arith, count, last)) is in
    let cut = c.in_ok-truncate.ensures.kept told slots (look_held g.D.Disk.tells g.D.Disk.view c.args.log.now c.length_of.new.log c.in_ok-length.ensures.state c.in_ok-length.ensures.quiet KeepsNow slots held) is in
    let length_is = c.in_ok-length.ensures.length told in
    let less = c.if-length-end.true in
    on_ok_weaker c.patch.result (λ h. subst (λ (s : ℕ → List Anode). KeepsNow s (state_of c.patch.new.log) (g.D.Disk.view (disk_of c.patch.new.log)).image)
    (given_turns slots c.args.slot c.args.anode c.requires.slot c.requires.first c.requires.last each c.args.pieces.now c.args.given c.unwrap_or-end.result is c.unwrap_or-end.ensures
    (λ owner group list kept_2 there. (let e = length_there slots c.args.slot c.args.anode c.requires.slot c.requires.first c.requires.last c.anode_page.result c.anode_page.ensures (state_of c.args.log.now) (g.D.Disk.view (disk_of c.args.log.now)).image held owner group list kept_2 there in omega (arith, e, length_is, less)))) h)
    (c.patch.ensures.kept told ((with_anode c.args.slot c.args.anode (anode_changed (content_truncated c.unwrap_or-end.result))) slots) cut long))

pub returns-then-length-end-clause-changes : goal.returns-then-length-end-clause-changes
returns-then-length-end-clause-changes g c =
    let look = look_changes g.D.Disk.tells g.D.Disk.view c.args.log.now c.length_of.new.log c.in_ok-length.ensures.state c.in_ok-length.ensures.quiet {T = ℕ} c.args.slot 0 c.args.tx.now c.in_ok-length.ensures.sound c.in_ok-length.ensures.counted in
    changes_then g.D.Disk.tells g.D.Disk.view c.args.slot 0 68 68 (omega arith) 0 c.args.log.now c.length_of.new.log c.args.tx.now c.args.tx.now look c.patch.result c.patch.new.log c.patch.new.tx
    (changes_then g.D.Disk.tells g.D.Disk.view c.args.slot 2 66 68 (omega arith) _ c.length_of.new.log c.truncate.new.log c.args.tx.now c.truncate.new.tx c.in_ok-truncate.ensures.changes c.patch.result c.patch.new.log c.patch.new.tx c.patch.ensures.changes)

pub patch-requires-2-clause-may : goal.patch-requires-2-clause-may
patch-requires-2-clause-may g c =
    look_may g.D.Disk.tells g.D.Disk.view c.args.log.now c.length_of.new.log c.in_ok-length.ensures.state c.in_ok-length.ensures.quiet KeepsNow (IsLong c.args.slot c.args.anode c.min.result) c.args.slot 66 c.args.tx.now c.in_ok-length.ensures.sound
    (may_where KeepsNow g.D.Disk.tells g.D.Disk.view (IsFile c.args.slot c.args.anode) (IsLong c.args.slot c.args.anode c.min.result) c.args.slot 66 68 c.args.log.now c.args.tx.now (omega arith)
    (λ told slots held is. (let kept = held.each c.args.slot c.requires.slot in let each = kept.each c.args.anode c.requires.first c.requires.last in
    let length_is = c.in_ok-length.ensures.length told in
    let least = c.min.ensures in
    long_here slots c.args.slot c.args.anode c.requires.slot c.requires.first c.requires.last each c.min.result is
    (λ owner group list kept_2 there few. (let e = length_there slots c.args.slot c.args.anode c.requires.slot c.requires.first c.requires.last c.anode_page.result c.anode_page.ensures (state_of c.args.log.now) (g.D.Disk.view (disk_of c.args.log.now)).image held owner group list kept_2 there in omega (arith, e, length_is, least, few))))) c.requires.may)

pub returns-clause-kept : goal.returns-clause-kept
returns-clause-kept g c = λ told slots held is.
    (let kept = held.each c.args.slot c.requires.slot in let each = kept.each c.args.anode c.requires.first c.requires.last in
    let length_is = c.in_ok-length.ensures.length told in
    let least = c.min.ensures in
    let long = long_here slots c.args.slot c.args.anode c.requires.slot c.requires.first c.requires.last each c.min.result is
    (λ owner group list kept_2 there few. (let e = length_there slots c.args.slot c.args.anode c.requires.slot c.requires.first c.requires.last c.anode_page.result c.anode_page.ensures (state_of c.args.log.now) (g.D.Disk.view (disk_of c.args.log.now)).image held owner group list kept_2 there in omega (arith, e, length_is, least, few))) in
    let end = c.unwrap_or-end.ensures in
    let more = c.if-length-end.false in
    on_ok_weaker c.patch-2.result (λ h. subst (λ (s : ℕ → List Anode). KeepsNow s (state_of c.patch-2.new.log) (g.D.Disk.view (disk_of c.patch-2.new.log)).image)
    (given_same slots c.args.slot c.args.anode c.requires.slot c.requires.first c.requires.last each c.args.pieces.now c.args.given is
    (λ owner group list kept_2 there. (let e = length_there slots c.args.slot c.args.anode c.requires.slot c.requires.first c.requires.last c.anode_page.result c.anode_page.ensures (state_of c.args.log.now) (g.D.Disk.view (disk_of c.args.log.now)).image held owner group list kept_2 there in omega (arith, e, length_is, end, more)))) h)
    (c.patch-2.ensures.kept told slots (look_held g.D.Disk.tells g.D.Disk.view c.args.log.now c.length_of.new.log c.in_ok-length.ensures.state c.in_ok-length.ensures.quiet KeepsNow slots held) long))

pub returns-clause-changes : goal.returns-clause-changes
returns-clause-changes g c =
    let look = look_changes g.D.Disk.tells g.D.Disk.view c.args.log.now c.length_of.new.log c.in_ok-length.ensures.state c.in_ok-length.ensures.quiet {T = ℕ} c.args.slot 0 c.args.tx.now c.in_ok-length.ensures.sound c.in_ok-length.ensures.counted in
    changes_then g.D.Disk.tells g.D.Disk.view c.args.slot 0 66 68 (omega arith) 0 c.args.log.now c.length_of.new.log c.args.tx.now c.args.tx.now look c.patch-2.result c.patch-2.new.log c.patch-2.new.tx c.patch-2.ensures.changes
