use Rattle.std.proofs.Common.{◌≡◌, ◌+◌, ◌∙◌, ap, arith, length, sym}
use Rattle.std.proofs.lemmas.List.{length-append}
use Rattle.hub_drive.specs.Dealt.{worker_at}
use Rattle.hub_drive.specs.Seats.{HasGone, IsHere}
use Rattle.hub_drive.proofs.Dealt.{back_in_place, each_of, has_worker}
use Rattle.hub_drive.proofs.Gone.{gone_so}
use Rattle.hub_drive.proofs.rounds.turn_dealt.Goals as goal

pub turn_bundles-requires-clause-here : goal.turn_bundles-requires-clause-here
turn_bundles-requires-clause-here g c κs within =
    let dealt = c.deal.ensures.dealt in
    each_of (λ b. b.items) (IsHere {N = g.row.N.Denot} g.N.Node.stands c.args.hub.now)
    (worker_at c.args.hosts (length c.args.bundles.now)) (length c.deal.new.all.items) c.args.seats.now.items
    c.deal.new.all.items dealt.0 c.deal.new.bundles c.requires.here dealt.1 dealt.2

pub returns : goal.returns
returns g c =
    let stands = g.N.Node.stands in
    let stays = g.N.Node.stays in
    let failed = g.N.Node.failed in
    let broken = g.N.Node.broken in
    let met = g.met.N.Node g.world.𝓛 g.world.𝓜 g.world.𝓡 ((λ s x. x), (λ x. x), (λ x. x), (λ x. x)) in
    let hub = c.args.hub.now in
    let dealt = c.deal.ensures.dealt in
    let all : c.len-count.result ≡ length c.args.seats.now.items = grind arith in
    let size : length c.deal.new.all.items + length dealt.0 ≡ c.len-count.result =
    sym (all ∙ ap (λ l. length l) dealt.1 ∙ length-append c.deal.new.all.items dealt.0) in
    record {
      gone = back_in_place (λ b. b.items) (HasGone {N = g.row.N.Denot} stands stays failed broken hub)
          (gone_so stands stays failed broken hub met.stays_so met.stays_on met.fails_on) (worker_at c.args.hosts)
          (has_worker c.args.hosts) c.args.seats.now.items c.deal.new.all.items dealt.0 c.collect.new.all.items
          c.deal.new.bundles c.turn_bundles.new.bundles (length c.args.bundles.now) c.len-count.result c.requires.some
          c.deal.ensures.many dealt.1 dealt.2 c.turn_bundles.ensures.gone size c.collect.ensures;
    }
