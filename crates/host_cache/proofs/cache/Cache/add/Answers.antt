use Rattle.std.proofs.Common.{ap, sym, ◌∙◌, subst, Option, option_copied}
use Rattle.host_cache.specs.Holding.{without_id}
use Rattle.host_cache.specs.Files.{file_key, parts_at, Learns}
use Rattle.host_cache.specs.Seen.{Kept, seen, after_add, IsKept}
use Rattle.host_cache.proofs.Seeing.{kept, grown}
use Rattle.host_cache.proofs.Adding.{added_kept, added_seen, taken_again, kept_same, order_is, new_held}
use Rattle.tree_calls.specs.declared.part.Status.{Status as StatusOf}
use Rattle.host_cache.specs.Holding.{has_id}
use Rattle.host_cache.proofs.cache.Cache.add.Goals as goal

pub invariant_of-self-in-Ok : goal.invariant_of-self-in-Ok
invariant_of-self-in-Ok c =
    let s = c.self.inside in
    let status = option_copied c.args.status in
    let before = c.make_room.new.files.entries in
    let after = c.learn.new.files.entries in
    let key = file_key c.args.token.fid in
    let inv = (grown s.order s.files.entries before c.self.invariant c.make_room.ensures.grows).0 in
    let own = subst (λ (o : Option StatusOf). Learns c.args.token o c.args.pieces.now c.args.entries.now (parts_at
    before key)
    (parts_at after key)) c.told_under-told.ensures c.in-Ok.ensures.own in
    let order = order_is c.args.token status s.order c.push.new.self c.told_under-told.result c.is_some.result
    c.is_some.ensures c.told_under-told.ensures c.in_ok-push.ensures.ok in
    subst (λ o. IsKept o after) (sym order)
    (added_kept s.order before after inv c.args.token status c.args.pieces.now c.args.entries.now own
    c.learn.ensures.others
    c.in_ok-make_room.ensures.ok)

pub invariant_of-self-in-Err : goal.invariant_of-self-in-Err
invariant_of-self-in-Err c =
    let s = c.self.inside in
    let status = option_copied c.args.status in
    let before = c.make_room.new.files.entries in
    let after = c.learn.new.files.entries in
    let inv = (grown s.order s.files.entries before c.self.invariant c.make_room.ensures.grows).0 in
    let order = order_is c.args.token status s.order c.push.new.self c.told_under-told.result c.is_some.result
    c.is_some.ensures c.told_under-told.ensures c.in_ok-push.ensures.ok in
    let none = ap (λ (k : Kept). has_id k.held c.args.token.id) c.self.view_is ∙ c.requires in
    let back = c.take.ensures.left ∙ ap (without_id c.args.token.id) order
    ∙ taken_again s.order (new_held c.args.token status) none in
    subst (λ o. IsKept o after) (sym back) (kept_same s.order before after inv c.in-Err.ensures.err).0

pub returns-in-Ok-clause-after : goal.returns-in-Ok-clause-after
returns-in-Ok-clause-after c =
    let s = c.self.inside in
    let status = option_copied c.args.status in
    let before = c.make_room.new.files.entries in
    let after = c.learn.new.files.entries in
    let key = file_key c.args.token.fid in
    let room = grown s.order s.files.entries before c.self.invariant c.make_room.ensures.grows in
    let own = subst (λ (o : Option StatusOf). Learns c.args.token o c.args.pieces.now c.args.entries.now (parts_at
    before key)
    (parts_at after key)) c.told_under-told.ensures c.in-Ok.ensures.own in
    let order = order_is c.args.token status s.order c.push.new.self c.told_under-told.result c.is_some.result
    c.is_some.ensures c.told_under-told.ensures c.in_ok-push.ensures.ok in
    ap (λ o. seen (kept o after)) order
    ∙ added_seen s.order before after room.0 c.args.token status c.args.pieces.now c.args.entries.now own
    c.learn.ensures.others c.in_ok-make_room.ensures.ok
    ∙ ap (λ v. after_add v c.args.token status c.args.pieces.now c.args.entries.now) room.1
    ∙ ap (λ (k : Kept). after_add (seen k) c.args.token status c.args.pieces.now c.args.entries.now) c.self.view_is

pub returns-in-Err-clause-err : goal.returns-in-Err-clause-err
returns-in-Err-clause-err c =
    let s = c.self.inside in
    let status = option_copied c.args.status in
    let before = c.make_room.new.files.entries in
    let after = c.learn.new.files.entries in
    let room = grown s.order s.files.entries before c.self.invariant c.make_room.ensures.grows in
    let order = order_is c.args.token status s.order c.push.new.self c.told_under-told.result c.is_some.result
    c.is_some.ensures c.told_under-told.ensures c.in_ok-push.ensures.ok in
    let none = ap (λ (k : Kept). has_id k.held c.args.token.id) c.self.view_is ∙ c.requires in
    let back = c.take.ensures.left ∙ ap (without_id c.args.token.id) order
    ∙ taken_again s.order (new_held c.args.token status) none in
    ap (λ o. seen (kept o after)) back ∙ (kept_same s.order before after room.0 c.in-Err.ensures.err).1 ∙ room.1
    ∙ ap (λ (k : Kept). seen k) c.self.view_is
