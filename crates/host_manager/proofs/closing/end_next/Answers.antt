use Rattle.host_manager.proofs.Tests.{if_both}
use Rattle.host_manager.specs.Closing.{BeginsIt, EndsNext, first_end}
use Rattle.host_manager.specs.Closing.EndsNext.{EndsLabel}
use Rattle.std.proofs.Common.{Bool, Some, subst, sym, true, ◌≡◌}
use Rattle.host_manager.proofs.closing.end_next.Goals as goal

pub returns-in-Some : goal.returns-in-Some
returns-in-Some c =
    let m = c.args.tables.now in
    let d = c.args.draft.now in
    let new = c.end_label.new.tables in
    let e = c.end_label.new.draft in
    let call = c.in-Some.call in
    let first : first_end m.uses.labels ≡ Some call = (let a = c.in_ok-call.ensures in let b = c.in-Some.is in cc) in
    if_both c.end_label.result (BeginsIt m d call new e) (BeginsIt m d call new e) (λ some. some ≡ true)
    (EndsNext m d new e) c.end_label.ensures.begins c.end_label.ensures.begins c.end_label.ensures.some
    (λ some begins again is. subst (λ (b : Bool). EndsNext m d new e b) (sym is) (EndsLabel call first begins))
