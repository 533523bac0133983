use Rattle.std.proofs.Common.{◌≡◌, ◌∙◌, List, rules, sym, subst}
use Rattle.run_rules.specs.Past.{In}
use Rattle.server_tables.specs.declared.recovering.Claimed.{Claimed}
use Rattle.server_tables.proofs.Fetching.{same_host}
use Rattle.server_tables.proofs.Found.{in_at}
use Rattle.server_tables.proofs.recovering.Recovering.is_claimed.Goals as goal

-- the claim that was found is the one that is asked for
pub returns-then-is_same_claim : goal.returns-then-is_same_claim
returns-then-is_same_claim c =
    let item = c.claimed-item.result in
    let entry : Claimed = record { host = c.args.host; claim = c.args.claim.now } in
    let host = same_host item.host c.args.host (sym c.eq.ensures ∙ c.if-eq.true) in
    let claim = c.is_same_claim.ensures.0 c.if-is_same_claim.true in
    let same : item ≡ entry = λ i. record { host = host i; claim = claim i } in
    let at_it = in_at c.as_slice-claimed-items.result.now c.loop-claimed.claimed-index item c.loop-claimed-test.true
    c.claimed-item.is in
    let found = subst (λ (cs : List Claimed). In item cs) c.as_slice-claimed-items.ensures at_it in
    (λ t. subst (λ (x : Claimed). In x c.args.self.now.claims) same found, λ m. search rules)
