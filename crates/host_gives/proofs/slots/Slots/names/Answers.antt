use Rattle.std.proofs.Common.{ap, sym, ◌∙◌}
use Rattle.std.specs.List.{list_any}
use Rattle.host_gives.specs.Giving.{names}
use Rattle.host_gives.specs.Slots.{holds}
use Rattle.host_gives.proofs.Emptied.{any_held}
use Rattle.host_gives.proofs.Naming.{unnamed}
use Rattle.host_gives.proofs.slots.Slots.names.Goals as goal

pub returns-then-has : goal.returns-then-has
returns-then-has c =
    c.any_names.ensures ∙ ap (list_any (holds (names c.args.id))) c.as_slice.ensures
    ∙ any_held (names c.args.id) c.self.inside.slots ∙ ap (list_any (names c.args.id)) c.self.view_is

pub returns-else-has : goal.returns-else-has
returns-else-has c =
    c.if-has.false
    ∙ unnamed c.self.inside.slots c.self.inside.named c.args.id c.self.invariant.1
    (sym c.has.ensures ∙ c.if-has.false)
    ∙ ap (list_any (names c.args.id)) c.self.view_is
