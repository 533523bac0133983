use Rattle.std.proofs.Common.{◌≡◌, true, sym, ◌∙◌, arith}
use Rattle.std.proofs.lemmas.Grind.{common_steps}
use Rattle.service_starts.proofs.startable.agrees.Goals as goal

pub returns : goal.returns
returns c =
    let filesets = c.if-not-filesets_agree.false in
    let records = c.if-not-are_records.false in
    let rooms = c.if-not-rooms_free.false in
    let agree : c.filesets_agree.result ≡ true = grind (arith, common_steps) in
    let formed : c.are_records.result ≡ true = grind (arith, common_steps) in
    let free : c.rooms_free.result ≡ true = grind (arith, common_steps) in
    λ within. record {
      filesets = sym c.filesets_agree.ensures ∙ agree;
      away = c.are_records.ensures formed;
      rooms = sym c.rooms_free.ensures ∙ free;
      within = c.are_within.ensures within;
    }
