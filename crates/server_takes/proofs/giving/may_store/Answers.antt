use Rattle.std.proofs.Common.{◌≡◌, ◌∙◌, ◌&&◌, Bool, true, false, ap, sym}
use Rattle.std.specs.Prelude.{None}
use Rattle.server_takes.specs.Taking.{has_some, takes_gifts}
use Rattle.server_takes.proofs.giving.may_store.Goals as goal

pub returns-then-not-has_some-clause-heard : goal.returns-then-not-has_some-clause-heard
returns-then-not-has_some-clause-heard g c =
    let none : has_some c.args.give.now ≡ false = cc in
    (None, sym (ap (λ (b : Bool). b && takes_gifts None) none))

pub returns-clause-heard : goal.returns-clause-heard
returns-clause-heard g c =
    let some : has_some c.args.give.now ≡ true = cc in (
      c.in_ok-status.status,
      c.takes_gifts.ensures ∙ sym (ap (λ (b : Bool). b && takes_gifts c.in_ok-status.status) some),
    )
