use Rattle.std.proofs.Common.{◌≡◌, ◌++◌, ◌∷◌, ◌∙◌, [], false, true, ap, append-nil, get_or, length, refl, rules}
use Rattle.std.proofs.Common.{set, subst, sym}
use Rattle.std.proofs.Common.{arith, map}
use Rattle.std.proofs.lemmas.Grind.{common_steps}
use Rattle.std.proofs.lemmas.List.{length-append, length-set}
use Rattle.hub_drive.specs.Dealt.{AreDealt, worker_at}
use Rattle.hub_drive.proofs.Lists.{defaults}
use Rattle.hub_drive.proofs.Dealt.{deal_on, dealt_still, has_moved, none_of, stays_there}
use Rattle.hub_drive.proofs.dealing.deal.Goals as goal

pub loop-init : goal.loop-init
loop-init g c = record {
  many = refl;
  room = refl;
  rest = [];
  whole = sym (append-nil c.args.all.now.items);
  dealt = none_of (λ b. b.items) (worker_at c.args.hosts (length c.args.bundles.now)) (length c.args.all.now.items)
      c.args.bundles.now c.requires.empty;
}

pub returns-then-not-move_last-clause-dealt : goal.returns-then-not-move_last-clause-dealt
returns-then-not-move_last-clause-dealt g c =
    let i = c.loop.invariant in
    let of = worker_at c.args.hosts (length c.args.bundles.now) in
    let k = c.worker_at-worker.result in
    let old = get_or c.loop.bundles k c.index-bundles-worker.result in
    let is = defaults c.loop.bundles k c.index-bundles-worker.result old c.worker_at-worker.ensures.within in
    let new = c.move_last.new.to in
    let not_moved : c.move_last.result ≡ false = first_of (search rules, grind (arith, common_steps)) in
    let same = stays_there c.loop.all.items c.move_last.new.from.items old.items new.items c.move_last.result not_moved
    c.move_last.ensures.moved in (
      i.rest,
      i.whole ∙ ap (λ l. l ++ i.rest) (sym same.0),
      subst (λ n. AreDealt of n i.rest (map (λ b. b.items) (set c.loop.bundles k new)))
          (ap (λ l. length l) (sym same.0))
          (dealt_still (λ b. b.items) of (length c.loop.all.items) i.rest c.loop.bundles k old new
          c.worker_at-worker.ensures.within is same.1 i.dealt),
    )

pub loop-preserved : goal.loop-preserved
loop-preserved g c =
    let i = c.loop.invariant in
    let of = worker_at c.args.hosts (length c.args.bundles.now) in
    let k = c.worker_at-worker.result in
    let old = get_or c.loop.bundles k c.index-bundles-worker.result in
    let is = defaults c.loop.bundles k c.index-bundles-worker.result old c.worker_at-worker.ensures.within in
    let new = c.move_last.new.to in
    let left = c.move_last.new.from.items in
    let moved : c.move_last.result ≡ true = first_of (search rules, grind (arith, common_steps)) in
    let m = has_moved c.loop.all.items left old.items new.items c.move_last.result moved c.move_last.ensures.moved in
    let size = ap (λ l. length l) m.1 in
    let more = length-append left (m.0 ∷ []) in
    let place : c.in-Some.place ≡ length left = grind arith in
    let own : k ≡ of (length left) = c.worker_at-worker.ensures.is
    ∙ ap (λ n. worker_at c.args.hosts n c.in-Some.place) i.many ∙ ap of place in
    let dealt = deal_on (λ b. b.items) of c.args.all.now.items c.loop.all.items left m.0 i.rest c.loop.bundles k old new
    i.whole m.1 own c.worker_at-worker.ensures.within is m.2 i.dealt in
    record {
      many = length-set c.loop.bundles k new ∙ i.many;
      room = c.move_last.ensures.left ∙ i.room;
      rest = m.0 ∷ i.rest;
      whole = dealt.0;
      dealt = dealt.1;
    }
