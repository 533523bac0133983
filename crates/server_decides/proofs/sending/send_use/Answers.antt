use Rattle.std.proofs.Common.{◌∙◌, ◌+◌, sym, subst}
use Rattle.std.proofs.lemmas.Result.{on_ok_weaker}
use Rattle.server_tables.specs.Counting.{IsCounted}
use Rattle.server_decides.specs.Sending.{done_made, granted_out, granted_tokens, use_made, use_of}
use Rattle.server_decides.proofs.Parts.{done_counted, done_left, done_so, granted_is, left_granted, made_same}
use Rattle.server_decides.proofs.Parts.{placed_so, stamp_is, use_so}
use Rattle.server_decides.proofs.Steps.{placed_some}
use Rattle.server_decides.proofs.sending.send_use.Goals as goal

pub returns-clause-made : goal.returns-clause-made
returns-clause-made c p place =
    let x = c.args.tables.now in
    let d = c.args.draft.now in
    let at = c.args.at in
    let t = c.granted.new.tables in
    let u = c.take_out-host.new.tables in
    let v = c.next_stamp.new.self in
    let done = c.use_of-done.result in
    let there = placed_so x t at p c.in_ok-tokens.ensures.pending place in
    let a = c.in_ok-tokens.ensures.tables p place in
    let b = c.take_out-host.ensures.tables p there in
    let s = c.in_ok-stamp.ensures.after in
    on_ok_weaker c.finish_done.result (λ m. made_same x d v d c.finish_done.new.tables c.finish_done.new.draft
    (done_made v d c.take_out-host.result done) (use_made x d at p c.args.fileset c.args.number)
    (done_so d v (granted_out x at p.number) c.take_out-host.result p.wanted.host done
    (use_of x p c.args.fileset c.args.number) (granted_is x t u v at p a b s) (c.take_out-host.ensures.host p there)
    (c.use_of-done.ensures ∙ use_so c.args.fileset c.args.number c.in_ok-stamp.stamp (x.stamp + 1) c.in_ok-tokens.tokens
    (granted_tokens x.tokens p.number) (stamp_is x t u v at p a b s c.in_ok-stamp.stamp c.in_ok-stamp.ensures.stamp)
    (c.in_ok-tokens.ensures.tokens p place))) m) c.finish_done.ensures

pub returns-clause-left : goal.returns-clause-left
returns-clause-left c =
    let x = c.args.tables.now in
    let at = c.args.at in
    let t = c.granted.new.tables in
    let u = c.take_out-host.new.tables in
    let v = c.next_stamp.new.self in
    let its = placed_some x.pending at c.requires.place in
    let there = placed_so x t at its.0 c.in_ok-tokens.ensures.pending its.1 in
    on_ok_weaker c.finish_done.result (λ m. done_left x v c.args.draft.now c.finish_done.new.tables
    c.finish_done.new.draft at c.take_out-host.result c.use_of-done.result
    (left_granted x t u v at its.0 (c.in_ok-tokens.ensures.tables its.0 its.1)
    (c.take_out-host.ensures.tables its.0 there)
    c.in_ok-stamp.ensures.after c.take_out-host.ensures.left) m) c.finish_done.ensures

pub returns-clause-counted : goal.returns-clause-counted
returns-clause-counted c =
    on_ok_weaker c.finish_done.result (λ m. done_counted c.next_stamp.new.self c.args.draft.now
    c.finish_done.new.tables c.finish_done.new.draft c.take_out-host.result c.use_of-done.result
    (subst IsCounted (sym c.in_ok-stamp.ensures.after) c.take_out-host.ensures.counted) m) c.finish_done.ensures

pub returns-clause-brought : goal.returns-clause-brought
returns-clause-brought c p place =
    on_ok_weaker c.finish_done.result (λ m. c.in_ok-tokens.ensures.brought p place) c.finish_done.ensures
