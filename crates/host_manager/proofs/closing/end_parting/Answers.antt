use Rattle.host_manager.proofs.Tests.{if_both, none_by, some_by}
use Rattle.host_manager.specs.Closing.{EndsNext, parting, with_byes}
use Rattle.host_manager.specs.Closing.EndsNext.{Awaits, Parts}
use Rattle.std.proofs.Common.{[], fold, refl, sym, ◌≡◌, ◌↔◌, ◌∙◌}
use Rattle.std.specs.Prelude.{IsTrue, ◌≢◌}
use Rattle.host_manager.proofs.closing.end_parting.Goals as goal

pub returns-then-not-is_empty : goal.returns-then-not-is_empty
returns-then-not-is_empty c =
    Awaits c.requires.labels c.requires.held (some_by c.args.tables.now.gives.gives
    (sym c.if-not-is_empty.true ∙ c.is_empty.ensures)) refl refl

pub returns : goal.returns
returns c =
    let m = c.args.tables.now in
    let d = c.args.draft.now in
    let new = c.say_byes.new.tables in
    let e = c.say_byes.new.draft in
    if_both c.say_byes.result (new ≡ with_byes m) (e ≡ fold (parting m) d m.sites)
    (λ some. IsTrue some ↔ (e.sent ≢ [])) (EndsNext m d new e) c.say_byes.ensures.tables c.say_byes.ensures.draft
    c.say_byes.ensures.some
    (λ some tables draft said. Parts some c.requires.labels c.requires.held
    (none_by m.gives.gives (sym c.if-not-is_empty.false ∙ c.is_empty.ensures)) tables draft said)
