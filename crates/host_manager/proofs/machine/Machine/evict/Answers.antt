use Rattle.host_asks.proofs.Gone.{none_is}
use Rattle.host_manager.proofs.EvictDue.{evict_due}
use Rattle.host_manager.proofs.Evictions.{evicts_it, no_room, oldest_in, some_oldest}
use Rattle.host_manager.proofs.Owned.{evicts_own}
use Rattle.host_manager.proofs.Tests.{when_so}
use Rattle.host_manager.specs.Closing.{EvictsIt}
use Rattle.host_manager.specs.Due.{IsOwn, OwnDue}
use Rattle.host_manager.specs.Spoken.{HasRoom, tables_of}
use Rattle.host_manager.specs.Running.{OwnRight}
use Rattle.run_rules.specs.declared.step.Cause.TheVariants.{Evict}
use Rattle.std.proofs.Common.{IfSome, MatchOption, None, Some, subst, sym, ◌∙◌, ◌≡◌}
use Rattle.host_manager.proofs.machine.Machine.evict.Goals as goal

pub drop_oldest-dropped-requires : goal.drop_oldest-dropped-requires
drop_oldest-dropped-requires c = oldest_in (tables_of c.args.self.now) c.in-Some.token (sym c.in-Some.ensures)

pub returns-clause-right : goal.returns-clause-right
returns-clause-right c =
    let m = tables_of c.args.self.now in
    let new = c.drop_oldest-dropped.new.tables in
    let after = c.drop_oldest-dropped.new.draft in
    when_so c.drop_oldest-dropped.result c.some_when.result (Some c.step.result) _
    (λ made. MatchOption made (new ≡ m) (λ step. OwnRight Evict m new step))
    c.drop_oldest-dropped.ensures c.some_when.ensures.done c.some_when.ensures.step
    (λ its. subst (OwnRight Evict m new) (sym c.step.ensures)
    (evicts_it m new after c.in-Some.token (none_is m.call (sym c.is_some.ensures ∙ c.if-is_some.false))
    (no_room m c.has_room.result c.has_room.ensures c.if-has_room.false) c.laws.ensures c.laws-2.ensures
    (sym c.in-Some.ensures) (subst (λ d. EvictsIt m d c.in-Some.token new after) c.new-draft.ensures its)))

pub returns-clause-own : goal.returns-clause-own
returns-clause-own c =
    let m = tables_of c.args.self.now in
    let new = c.drop_oldest-dropped.new.tables in
    let after = c.drop_oldest-dropped.new.draft in
    when_so c.drop_oldest-dropped.result c.some_when.result (Some c.step.result) _ (λ made. IfSome made (IsOwn m))
    c.drop_oldest-dropped.ensures c.some_when.ensures.done c.some_when.ensures.step
    (λ its. subst (IsOwn m) (sym c.step.ensures)
    (evicts_own m new after c.in-Some.token (subst (λ d. EvictsIt m d c.in-Some.token new after) c.new-draft.ensures
    its)))

pub returns-clause-due : goal.returns-clause-due
returns-clause-due c =
    let m = tables_of c.args.self.now in
    let new = c.drop_oldest-dropped.new.tables in
    let after = c.drop_oldest-dropped.new.draft in
    when_so c.drop_oldest-dropped.result c.some_when.result (Some c.step.result) _ (λ made. IfSome made (OwnDue m))
    c.drop_oldest-dropped.ensures c.some_when.ensures.done c.some_when.ensures.step
    (λ its. subst (OwnDue m) (sym c.step.ensures)
    (evict_due m new after c.in-Some.token (none_is m.call (sym c.is_some.ensures ∙ c.if-is_some.false))
    (no_room m c.has_room.result c.has_room.ensures c.if-has_room.false) c.laws.ensures c.laws-2.ensures
    (sym c.in-Some.ensures) (subst (λ d. EvictsIt m d c.in-Some.token new after) c.new-draft.ensures its)))

pub returns-clause-none : goal.returns-clause-none
returns-clause-none c =
    let m = tables_of c.args.self.now in
    let new = c.drop_oldest-dropped.new.tables in
    let after = c.drop_oldest-dropped.new.draft in
    when_so c.drop_oldest-dropped.result c.some_when.result (Some c.step.result) _
    (λ made. made ≡ None → m.call ≡ None → HasRoom m)
    c.drop_oldest-dropped.ensures c.some_when.ensures.done c.some_when.ensures.step
    (λ its e. absurd (let p = e in cc))

pub returns-in_default-clause-none : goal.returns-in_default-clause-none
returns-in_default-clause-none c = λ e none.
    let m = tables_of c.args.self.now in
    absurd (some_oldest m (no_room m c.has_room.result c.has_room.ensures c.if-has_room.false)
    (sym c.in_default.ensures))
