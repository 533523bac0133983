use Rattle.std.proofs.Common.{◌∙◌, ◌<◌, subst, arith}
use Rattle.server_says.proofs.Chains.{goes_none}
use Rattle.server_decides.specs.Sending.{IsSending, Sends, looking}
use Rattle.std.specs.Prelude.{IfSome, Option}
use Rattle.server_decides.specs.Saying.{IsSayable}
use Rattle.server_decides.specs.declared.sending.Sending.{Sending}
use Rattle.server_decides.proofs.Saying.{says_none, says_then}
use Rattle.server_decides.proofs.Served.{came_at, host_hears, served_less}
use Rattle.server_decides.proofs.Steps.{fit_tried, placed_some, sends_more, sends_passed, sent_all, served_asked}
use Rattle.server_decides.proofs.Steps.{stayed_asked}
use Rattle.server_decides.proofs.Steps.{stayed_none}
use Rattle.server_decides.proofs.sending.send_all.Goals as goal

pub loop-at-init : goal.loop-at-init
loop-at-init g c = record {
  served = c.requires.served;
  fit = c.requires.fit;
  stayed = stayed_none g.S.Store.tells (g.S.Store.view c.args.keeper.now.store);
  goes = λ tells. goes_none (Sends (g.S.Store.view c.args.keeper.now.store).state)
      (looking c.args.tables.now c.args.draft.now 0);
  says = λ sound. says_none c.args.tables.now c.args.draft.now sound;
}

pub returns-clause-sent : goal.returns-clause-sent
returns-clause-sent g c tells =
    let out = c.loop-at-test.false in
    sent_all (g.S.Store.view c.args.keeper.now.store).state c.args.tables.now c.loop-at.tables c.args.draft.now
    c.loop-at.draft c.loop-at.at (c.loop-at.invariant.goes tells) (omega (arith, out))

pub loop-at-preserved : goal.loop-at-preserved
loop-at-preserved g c =
    let start = g.S.Store.view c.args.keeper.now.store in
    let old = g.S.Store.view c.loop-at.keeper.store in
    let new = g.S.Store.view c.sending_at.new.keeper.store in
    let asked = c.in_ok-sending.ensures.asked in
    let inv = c.loop-at.invariant in
    record {
      served = served_asked c.loop-at.tables old new inv.served asked.tried.same;
      fit = fit_tried _ old new c.sending_at.new.keeper.left asked.tried;
      stayed = stayed_asked g.S.Store.tells _ start old new c.sending_at.new.keeper.left inv.stayed asked;
      goes = λ tells. sends_passed start.state (looking c.args.tables.now c.args.draft.now 0) c.loop-at.tables
          c.loop-at.draft c.loop-at.at (subst (λ n. c.loop-at.at < n) c.len.ensures c.loop-at-test.true) old.state
          (inv.stayed.state tells) (inv.goes tells)
          (λ p place. subst (IsSending c.loop-at.tables old.state p) c.in-None.is
          (c.in_ok-sending.ensures.sending tells p place));
      says = inv.says;
    }

pub loop-at-preserved-in-Continue-branch-3 : goal.loop-at-preserved-in-Continue-branch-3
loop-at-preserved-in-Continue-branch-3 g c =
    let start = g.S.Store.view c.args.keeper.now.store in
    let old = g.S.Store.view c.loop-at.keeper.store in
    let mid = g.S.Store.view c.sending_at.new.keeper.store in
    let new = g.S.Store.view c.send.new.keeper.store in
    let asked = c.in_ok-sending.ensures.asked in
    let sent = c.in_ok-send-in-Some.ensures in
    let inv = c.loop-at.invariant in
    record {
      served = served_less c.loop-at.tables c.send.new.tables mid new
          (served_asked c.loop-at.tables old mid inv.served asked.tried.same) sent.asked.tried.same sent.left.server
          sent.left.roster sent.counted c.loop-at.at sent.left.pending;
      fit = fit_tried _ mid new c.send.new.keeper.left sent.asked.tried;
      stayed = stayed_asked g.S.Store.tells _ start mid new c.send.new.keeper.left
          (stayed_asked g.S.Store.tells _ start old mid c.sending_at.new.keeper.left inv.stayed asked) sent.asked;
      goes = λ tells. sends_more start.state (looking c.args.tables.now c.args.draft.now 0) c.loop-at.tables
          c.loop-at.draft c.loop-at.at (subst (λ n. c.loop-at.at < n) c.len.ensures c.loop-at-test.true) old.state
          (inv.stayed.state tells) (inv.goes tells)
          c.in-Some.sending mid.state (asked.state tells ∙ inv.stayed.state tells) c.send.new.tables c.send.new.draft
          (λ p place. subst (IsSending c.loop-at.tables old.state p) c.in-Some.is
          (c.in_ok-sending.ensures.sending tells p place)) (λ p place. sent.made tells p place);
      says = λ sound. let so = inv.says sound in
          let t = c.loop-at.tables in
          let its = placed_some t.pending c.loop-at.at
          (subst (λ n. c.loop-at.at < n) c.len.ensures c.loop-at-test.true) in
          says_then c.args.tables.now t c.send.new.tables c.args.draft.now c.loop-at.draft c.send.new.draft so
          (sent.says its.0 its.1 (record {
            sound = so.sound;
            hears = host_hears t.server t.roster its.0.wanted
                (came_at t old.state inv.served c.loop-at.at its.0 its.1);
            sayable = subst (λ (o : Option Sending). IfSome o (IsSayable t.server)) c.in-Some.is
                c.in_ok-sending.ensures.sayable;
          }));
    }

pub returns-clause-says : goal.returns-clause-says
returns-clause-says g c sound = c.loop-at.invariant.says sound
