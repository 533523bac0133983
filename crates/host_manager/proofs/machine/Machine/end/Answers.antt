use Rattle.host_manager.proofs.Made.{end_is_due, end_own, end_right, end_there}
use Rattle.host_manager.specs.Closing.{EndsNext}
use Rattle.host_manager.specs.Spoken.{tables_of}
use Rattle.std.proofs.Common.{IfOk, subst}
use Rattle.host_manager.proofs.machine.Machine.end.Goals as goal

pub returns-clause-right : goal.returns-clause-right
returns-clause-right c =
    let m = tables_of c.args.self.now in
    let new = c.end_next-made.new.tables in
    let after = c.end_next-made.new.draft in
    let its = subst (λ d. IfOk c.end_next-made.result (EndsNext m d new after)) c.new-draft.ensures
    c.end_next-made.ensures in
    end_right m new after c.end_next-made.result c.where_made.result c.step.result c.step.ensures its
    c.where_made.ensures.made c.where_made.ensures.step c.requires c.laws.ensures
    c.laws-2.ensures c.laws-3.ensures c.laws-4.ensures

pub returns-clause-some : goal.returns-clause-some
returns-clause-some c =
    let m = tables_of c.args.self.now in
    let new = c.end_next-made.new.tables in
    let after = c.end_next-made.new.draft in
    let its = subst (λ d. IfOk c.end_next-made.result (EndsNext m d new after)) c.new-draft.ensures
    c.end_next-made.ensures in
    end_there m new after c.end_next-made.result c.where_made.result c.step.result c.step.ensures its
    c.where_made.ensures.made c.where_made.ensures.step

pub returns-clause-own : goal.returns-clause-own
returns-clause-own c =
    let m = tables_of c.args.self.now in
    let new = c.end_next-made.new.tables in
    let after = c.end_next-made.new.draft in
    let its = subst (λ d. IfOk c.end_next-made.result (EndsNext m d new after)) c.new-draft.ensures
    c.end_next-made.ensures in
    end_own m new after c.end_next-made.result c.where_made.result c.step.result c.step.ensures its
    c.where_made.ensures.made c.where_made.ensures.step

pub returns-clause-due : goal.returns-clause-due
returns-clause-due c =
    let m = tables_of c.args.self.now in
    let new = c.end_next-made.new.tables in
    let after = c.end_next-made.new.draft in
    let its = subst (λ d. IfOk c.end_next-made.result (EndsNext m d new after)) c.new-draft.ensures
    c.end_next-made.ensures in
    end_is_due m new after c.end_next-made.result c.where_made.result c.step.result c.step.ensures its
    c.where_made.ensures.made c.where_made.ensures.step c.requires c.laws.ensures
    c.laws-2.ensures c.laws-3.ensures c.laws-4.ensures
