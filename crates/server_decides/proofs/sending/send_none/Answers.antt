use Rattle.std.proofs.Common.{◌∙◌, ◌+◌, ap, refl, sym, subst}
use Rattle.std.proofs.lemmas.Result.{on_ok_weaker}
use Rattle.server_tables.specs.Counting.{IsCounted}
use Rattle.server_tables.specs.Updates.{stamped}
use Rattle.server_tables.specs.declared.tables.Tables.{Tables}
use Rattle.server_decides.specs.Sending.{empty_made, empty_of, empty_with, left_out}
use Rattle.server_decides.proofs.Parts.{grant_so, left_beside, made_same}
use Rattle.server_decides.proofs.sending.send_none.Goals as goal

pub returns-clause-made : goal.returns-clause-made
returns-clause-made c p place =
    let x = c.args.tables.now in
    let d = c.args.draft.now in
    let at = c.args.at in
    let u = c.take_out-host.new.tables in
    let v = c.next_stamp.new.self in
    let b = c.take_out-host.ensures.tables p place in
    on_ok_weaker c.say.result (λ e. made_same x d x d v c.say.new.self _ (empty_made x d at p c.args.fetch.now)
    (grant_so d v (left_out x at p.number) c.take_out-host.result p.wanted.host c.empty_grant-grant.result
    (empty_of x c.args.fetch.now) (c.in_ok-stamp.ensures.after ∙ ap (λ (z : Tables). stamped z) b)
    (c.take_out-host.ensures.host p place)
    (c.empty_grant-grant.ensures ∙ ap (empty_with c.args.fetch.now)
    (c.in_ok-stamp.ensures.stamp ∙ ap (λ (z : Tables). z.stamp + 1) b)))
    (record { tables = refl; draft = e })) c.say.ensures

pub returns-clause-left : goal.returns-clause-left
returns-clause-left c =
    let s = c.in_ok-stamp.ensures.after in
    on_ok_weaker c.say.result (λ e. left_beside c.args.tables.now c.take_out-host.new.tables c.next_stamp.new.self
    c.args.at
    c.take_out-host.ensures.left (ap (λ (z : Tables). z.server) s) (ap (λ (z : Tables). z.roster) s)
    (ap (λ (z : Tables). z.pending) s)) c.say.ensures

pub returns-clause-counted : goal.returns-clause-counted
returns-clause-counted c =
    on_ok_weaker c.say.result (λ e. subst IsCounted (sym c.in_ok-stamp.ensures.after) c.take_out-host.ensures.counted)
    c.say.ensures
