use Rattle.std.proofs.Common.{◌≡◌, ◌<◌, ◌≤◌, ◌∙◌, ap, arith, get_or, le_trans, length, refl}
use Rattle.std.proofs.lemmas.List.{length-set}
use Rattle.hub_drive.specs.Dealt.{worker_at}
use Rattle.hub_drive.proofs.Lists.{defaults}
use Rattle.hub_drive.proofs.Dealt.{all_so_far, collect_on, none_so_far}
use Rattle.hub_drive.proofs.dealing.collect.Goals as goal

pub loop-place-init : goal.loop-place-init
loop-place-init g c =
    let at : c.len-place.result ≡ length c.args.all.now.items = grind arith in
    record {
      many = refl;
      room = c.requires.room;
      so_far = (λ rest dealt size.
          none_so_far (λ b. b.items) (worker_at c.args.hosts (length c.args.bundles.now)) c.args.all.now.items rest
          c.len-place.result c.args.bundles.now at dealt);
    }

pub loop-place-preserved : goal.loop-place-preserved
loop-place-preserved g c =
    let i = c.loop-place.invariant in
    let of = worker_at c.args.hosts (length c.args.bundles.now) in
    let k = c.worker_at-worker.result in
    let bundles = c.loop-place.bundles in
    let old = get_or bundles k c.index-bundles-worker.result in
    let is = defaults bundles k c.index-bundles-worker.result old c.worker_at-worker.ensures.within in
    let new = c.move_last-moved.new.from in
    let below : c.loop-place.place < c.args.count = grind arith in
    let own : k ≡ of c.loop-place.place = c.worker_at-worker.ensures.is
    ∙ ap (λ n. worker_at c.args.hosts n c.loop-place.place) i.many in
    record {
      many = length-set c.loop-place.bundles k new ∙ i.many;
      room = le_trans i.room c.move_last-moved.ensures.room;
      so_far = (λ rest dealt size.
          let h = i.so_far rest dealt size in
          let at = h.reached in let room = i.room in
          collect_on (λ b. b.items) of c.args.all.now.items rest c.loop-place.place c.args.count c.loop-place.all.items
          c.move_last-moved.new.to.items c.loop-place.bundles k old new c.move_last-moved.result h size below own
          c.worker_at-worker.ensures.within is
          (λ some. c.move_last-moved.ensures.can some (omega (arith, at, room, below)))
          c.move_last-moved.ensures.moved);
    }

pub returns : goal.returns
returns g c = λ rest dealt size.
    let h = c.loop-place.invariant.so_far rest dealt size in
    let le : c.args.count ≤ c.loop-place.place = grind arith in
    all_so_far (λ b. b.items) (worker_at c.args.hosts (length c.args.bundles.now)) c.args.all.now.items rest
    c.loop-place.place c.args.count c.loop-place.all.items c.loop-place.bundles h size le
