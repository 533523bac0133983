use Rattle.std.proofs.Common.{sym, ◌∙◌, ◌≡◌, [], true, false}
use Rattle.std.specs.Prelude.{None}
use Rattle.std.proofs.lemmas.Result.{on_ok_weaker}
use Rattle.server_looks.specs.Asking.{change_needs}
use Rattle.server_tables.specs.Answers.{is_old}
use Rattle.server_takes.proofs.Parts.{is_again, is_dropped, is_elsewhere, is_wanted}
use Rattle.server_takes.specs.Taking.{is_decided_here, may_wait}
use Rattle.server_takes.proofs.asking.take_change.Goals as goal

pub returns-then-not-is_decided_here-clause-made : goal.returns-then-not-is_decided_here-clause-made
returns-then-not-is_decided_here-clause-made g c tells user known =
    let x = c.args.tables.now in
    let d = c.args.draft.now in
    let host = c.args.host in
    let change = c.args.change.now in
    let needs = change_needs (g.S.Store.view c.args.keeper.now.store).state host user change in
    is_elsewhere x d host change needs (cc)

pub returns-then-is_old-clause-made : goal.returns-then-is_old-clause-made
returns-then-is_old-clause-made g c tells user known =
    let x = c.args.tables.now in
    let d = c.args.draft.now in
    let host = c.args.host in
    let change = c.args.change.now in
    let needs = change_needs (g.S.Store.view c.args.keeper.now.store).state host user change in
    is_again x d host change needs c.repeat.new.draft (cc) (cc) c.in_ok-repeat.ensures

pub returns-then-not-branch-clause-made : goal.returns-then-not-branch-clause-made
returns-then-not-branch-clause-made g c tells user known =
    let x = c.args.tables.now in
    let d = c.args.draft.now in
    let host = c.args.host in
    let change = c.args.change.now in
    let needs = change_needs (g.S.Store.view c.args.keeper.now.store).state host user change in
    is_dropped x d host change needs (cc) (cc) (sym c.in_ok-may_wait.ensures ∙ c.if-not-branch.true)

pub returns-clause-made : goal.returns-clause-made
returns-clause-made g c tells user known =
    let x = c.args.tables.now in
    let d = c.args.draft.now in
    let host = c.args.host in
    let change = c.args.change.now in
    let needs = change_needs (g.S.Store.view c.args.keeper.now.store).state host user change in
    let here : is_decided_here x change ≡ true = cc in
    let new : is_old x host change ≡ false = cc in
    let may : may_wait x host change ≡ true = sym c.in_ok-may_wait.ensures ∙ c.if-not-branch.false in
    on_ok_weaker c.want_change.result
    (λ m. is_wanted x d host change needs c.want_change.new.tables c.want_change.new.draft here new may m)
    (c.want_change.ensures.made tells user known)

pub returns-then-not-is_decided_here-clause-heard : goal.returns-then-not-is_decided_here-clause-heard
returns-then-not-is_decided_here-clause-heard g c =
    let x = c.args.tables.now in
    let d = c.args.draft.now in
    let host = c.args.host in
    let change = c.args.change.now in
    record { needs = []; told = None; taken = is_elsewhere x d host change [] (cc) }

pub returns-then-is_old-clause-heard : goal.returns-then-is_old-clause-heard
returns-then-is_old-clause-heard g c =
    let x = c.args.tables.now in
    let d = c.args.draft.now in
    let host = c.args.host in
    let change = c.args.change.now in
    record {
      needs = [];
      told = None;
      taken = is_again x d host change [] c.repeat.new.draft
          (cc) (cc) c.in_ok-repeat.ensures;
    }

pub returns-then-not-branch-clause-heard : goal.returns-then-not-branch-clause-heard
returns-then-not-branch-clause-heard g c =
    let x = c.args.tables.now in
    let d = c.args.draft.now in
    let host = c.args.host in
    let change = c.args.change.now in
    record {
      needs = [];
      told = None;
      taken = is_dropped x d host change [] (cc) (cc)
          (sym c.in_ok-may_wait.ensures ∙ c.if-not-branch.true);
    }

pub returns-clause-heard : goal.returns-clause-heard
returns-clause-heard g c =
    let x = c.args.tables.now in
    let d = c.args.draft.now in
    let host = c.args.host in
    let change = c.args.change.now in
    let here : is_decided_here x change ≡ true = cc in
    let new : is_old x host change ≡ false = cc in
    let may : may_wait x host change ≡ true = sym c.in_ok-may_wait.ensures ∙ c.if-not-branch.false in
    on_ok_weaker c.want_change.result (λ h. record {
      needs = h.needs;
      told = None;
      taken = is_wanted x d host change h.needs c.want_change.new.tables c.want_change.new.draft here new may h.taken;
    }) c.want_change.ensures.heard
