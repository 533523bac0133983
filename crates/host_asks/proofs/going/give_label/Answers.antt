use Rattle.std.proofs.Common.{ap, refl, sym, ◌∙◌}
use Rattle.std.proofs.lemmas.Result.{on_ok_weaker}
use Rattle.host_asks.specs.Asking.{doing}
use Rattle.host_asks.specs.Going.GivesUse.{HasEnded, IsUnused}
use Rattle.host_tables.specs.declared.tables.Tables.{Tables}
use Rattle.host_asks.proofs.Gone.{ends_label, none_is, some_not}
use Rattle.host_asks.proofs.going.give_label.Goals as goal

pub returns-then-is_some : goal.returns-then-is_some
returns-then-is_some c =
    HasEnded (some_not c.args.tables.now.ending (sym c.is_some.ensures ∙ c.if-is_some.true)) refl

pub returns-in-Some : goal.returns-in-Some
returns-in-Some c =
    on_ok_weaker c.give_used.result
    (ends_label (doing c.args.tables.now c.args.draft.now) (doing c.give_used.new.tables c.give_used.new.draft)
    c.args.lock c.args.label.now c.args.current.k c.args.current.call.now
    c.requires (none_is c.args.tables.now.ending (sym c.is_some.ensures ∙ c.if-is_some.false)) c.in-Some.used
    c.in-Some.ensures.used c.end_use.new.tables c.in-Some.ensures.after) c.give_used.ensures

pub returns-in-None : goal.returns-in-None
returns-in-None c =
    IsUnused c.in-None.ensures.used (ap (λ (m : Tables). doing m c.args.draft.now) c.in-None.ensures.after)
