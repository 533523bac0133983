use Rattle.std.proofs.Common.{◌≡◌, ◌∙◌, Some, sym, ap, subst, length, arith}
use Rattle.std.specs.List.{All}
use Rattle.std.proofs.lemmas.List.{length_push}
use Rattle.std.proofs.lemmas.List.Elements.{All-pop, All-push}
use Rattle.hub_tests.specs.declared.member.Member.{Member}
use Rattle.hub_tests.proofs.ring.round.Goals as goal

pub loop-member-preserved : goal.loop-member-preserved
loop-member-preserved g c =
    let i = c.loop-member.invariant in
    let IsOurs : Member → Type 0 = λ m. m.pass.hub ≡ c.args.hub.now.id in
    let popped = All-pop IsOurs c.loop-member.left.items c.pop.new.self.items (Some c.in-Some.member) c.in-Some.ensures.items i.0 in
    let less = ap length c.in-Some.ensures.items ∙ length_push c.pop.new.self.items c.in-Some.member in
    let more = ap length c.in_ok-push.ensures.items ∙ length_push c.loop-member.done.items c.turned.result in
    let whole = i.2 in (
      popped.0,
      subst (All IsOurs) (sym c.in_ok-push.ensures.items)
          (All-push IsOurs c.loop-member.done.items c.turned.result i.1 (c.turned.ensures ∙ popped.1)),
      omega arith,
    )
