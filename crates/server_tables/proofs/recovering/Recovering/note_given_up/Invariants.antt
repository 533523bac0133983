use Rattle.std.proofs.Common.{◌≡◌, drop}
use Rattle.server_tables.specs.Claims.{ups_of}
use Rattle.server_tables.proofs.recovering.Recovering.note_given_up.Given as goal

abbrev pub invariant-loop-id : goal.invariant-loop-id
invariant-loop-id l =
    record l.self { given_up = ups_of l.self.given_up l.host (drop l.id-index l.ids) }
    ≡ record l.initial.self { given_up = ups_of l.initial.self.given_up l.host l.ids }
