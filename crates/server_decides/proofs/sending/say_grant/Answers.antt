use Rattle.std.proofs.Common.{refl, sym, subst}
use Rattle.std.proofs.lemmas.Result.{on_ok_weaker}
use Rattle.server_tables.specs.Counting.{IsCounted}
use Rattle.server_decides.specs.Sending.{grant_with, granted_made, granted_out}
use Rattle.server_decides.proofs.Parts.{brought_so, grant_so, granted_is, left_granted, made_same, placed_so, stamp_is}
use Rattle.server_decides.proofs.Steps.{placed_some}
use Rattle.server_decides.proofs.sending.say_grant.Goals as goal

pub returns-clause-made : goal.returns-clause-made
returns-clause-made c p place =
    let x = c.args.tables.now in
    let d = c.args.draft.now in
    let at = c.args.at in
    let fetch = c.args.fetch.now in
    let t = c.granted.new.tables in
    let u = c.take_out-host.new.tables in
    let v = c.next_stamp.new.self in
    let there = placed_so x t at p c.in_ok-tokens.ensures.pending place in
    let a = c.in_ok-tokens.ensures.tables p place in
    let b = c.take_out-host.ensures.tables p there in
    let s = c.in_ok-next_stamp.ensures.after in
    let told = grant_with x p fetch c.args.status c.args.pieces c.args.entries in
    on_ok_weaker c.say.result (λ e. made_same x d x d v c.say.new.self _ (granted_made x d at p told)
    (grant_so d v (granted_out x at p.number) c.take_out-host.result p.wanted.host _ told
    (granted_is x t u v at p a b s) (c.take_out-host.ensures.host p there)
    (brought_so x p fetch c.args.status c.args.pieces c.args.entries _ _
    (stamp_is x t u v at p a b s _ c.in_ok-next_stamp.ensures.stamp) (c.in_ok-tokens.ensures.tokens p place)))
    (record { tables = refl; draft = e })) c.say.ensures

pub returns-clause-left : goal.returns-clause-left
returns-clause-left c =
    let x = c.args.tables.now in
    let at = c.args.at in
    let t = c.granted.new.tables in
    let u = c.take_out-host.new.tables in
    let its = placed_some x.pending at c.requires.place in
    let there = placed_so x t at its.0 c.in_ok-tokens.ensures.pending its.1 in
    on_ok_weaker c.say.result (λ e. left_granted x t u c.next_stamp.new.self at its.0
    (c.in_ok-tokens.ensures.tables its.0 its.1) (c.take_out-host.ensures.tables its.0 there)
    c.in_ok-next_stamp.ensures.after c.take_out-host.ensures.left) c.say.ensures

pub returns-clause-counted : goal.returns-clause-counted
returns-clause-counted c =
    on_ok_weaker c.say.result (λ e. subst IsCounted (sym c.in_ok-next_stamp.ensures.after)
    c.take_out-host.ensures.counted)
    c.say.ensures

pub returns-clause-brought : goal.returns-clause-brought
returns-clause-brought c p place =
    on_ok_weaker c.say.result (λ m. c.in_ok-tokens.ensures.brought p place) c.say.ensures
