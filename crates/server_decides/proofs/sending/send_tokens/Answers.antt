use Rattle.std.proofs.Common.{◌∙◌, ap}
use Rattle.store_state.specs.declared.state.StoreState.{StoreState}
use Rattle.server_says.specs.Granting.{entries_for}
use Rattle.server_decides.specs.Sending.{grant_with, granted_made}
use Rattle.server_decides.proofs.Parts.{made_same, shown_so}
use Rattle.server_decides.proofs.Saying.{grant_says, made_says}
use Rattle.server_decides.proofs.sending.send_tokens.Goals as goal

pub returns-clause-made : goal.returns-clause-made
returns-clause-made g c tells p place =
    let x = c.args.tables.now in
    let d = c.args.draft.now in
    let st = (g.S.Store.view c.args.keeper.now.store).state in
    let fetch = c.args.fetch.now in
    let status = c.args.status in
    made_same x d x d c.say_grant.new.tables c.say_grant.new.draft _ _
    (shown_so x d st c.args.at p fetch status c.in_ok-pieces.pieces c.in_ok-entries.entries
    (c.in_ok-pieces.ensures.pieces tells)
    (c.in_ok-entries.ensures.entries tells ∙ ap (λ (s : StoreState). entries_for s fetch.fid status.dir fetch.needs)
    (c.in_ok-pieces.ensures.asked.state tells))) (c.in_ok-say_grant.ensures.made p place)

pub returns-clause-says : goal.returns-clause-says
returns-clause-says g c p place may told =
    let x = c.args.tables.now in
    let d = c.args.draft.now in
    let fetch = c.args.fetch.now in
    let status = c.args.status in
    let pieces = c.in_ok-pieces.pieces in
    let entries = c.in_ok-entries.entries in
    made_says x d c.say_grant.new.tables c.say_grant.new.draft
    (granted_made x d c.args.at p (grant_with x p fetch status pieces entries)) (c.in_ok-say_grant.ensures.made p place)
    (grant_says x d c.args.at p fetch status pieces entries may (c.in_ok-say_grant.ensures.brought p place) (record {
      size = told.size;
      lists = told.lists;
      bytes = c.in_ok-pieces.ensures.sound;
      order = c.in_ok-entries.ensures.order;
      few = c.in_ok-entries.ensures.few;
      absent = λ q. absurd (cc);
    }))
