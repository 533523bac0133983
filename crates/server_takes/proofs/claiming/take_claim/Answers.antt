use Rattle.std.proofs.Common.{◌≡◌, ◌∙◌, ap, refl, true, false}
use Rattle.std.proofs.lemmas.Result.{on_ok_weaker}
use Rattle.server_tables.specs.Listing.{has_host}
use Rattle.server_tables.specs.declared.recovering.Recovering.{Recovering}
use Rattle.server_takes.proofs.Bodies.{on_ok_is}
use Rattle.server_takes.proofs.Parts.{claim_noted, claim_waits}
use Rattle.server_takes.specs.Taking.{IsClaimed}
use Rattle.server_takes.proofs.claiming.take_claim.Goals as goal

pub returns-then-has_reclaimed-clause-tables : goal.returns-then-has_reclaimed-clause-tables
returns-then-has_reclaimed-clause-tables c =
    let x = c.args.tables.now in
    let back : has_host x.hosts.reclaimed c.args.host ≡ true = cc in
    on_ok_is c.claim_again.result (IsClaimed x c.args.host c.args.claim.now x)
    (record { reclaimed = λ e. refl; after = λ e. absurd (cc) })

pub returns-else-has_reclaimed-clause-tables : goal.returns-else-has_reclaimed-clause-tables
returns-else-has_reclaimed-clause-tables c =
    let x = c.args.tables.now in
    let host = c.args.host in
    let claim = c.args.claim.now in
    let after = c.note_claim.new.self in
    let out : has_host x.hosts.reclaimed host ≡ false = cc in
    on_ok_weaker c.note_claim.result (λ e. let p = claim_noted x.recovering after host claim e in record {
      reclaimed = λ b. absurd (cc);
      after = λ b. (ap (λ (r : Recovering). record x { recovering = r }) p.0, p.1);
    }) c.note_claim.ensures.either

pub returns-else-has_reclaimed-clause-draft : goal.returns-else-has_reclaimed-clause-draft
returns-else-has_reclaimed-clause-draft c = on_ok_is c.note_claim.result _
    (claim_waits c.args.tables.now c.args.draft.now c.args.host (cc))

pub returns-else-has_reclaimed-clause-counted : goal.returns-else-has_reclaimed-clause-counted
returns-else-has_reclaimed-clause-counted c = on_ok_is c.note_claim.result _ c.requires.counted
