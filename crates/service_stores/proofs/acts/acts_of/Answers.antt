use Rattle.std.proofs.Common.{◌≡◌, ◌<◌, ◌+◌, ◌++◌, ◌∙◌, None, ap, sym, subst, drop, length}
use Rattle.std.proofs.lemmas.List.{append-nil, drop_all}
use Rattle.tree_answers.specs.Histories.{IsHistory, after_entry}
use Rattle.tree_answers.specs.WellFormed.{IsWellFormed}
use Rattle.store_laws.specs.Acts.{acts_of, number_written}
use Rattle.message_types.specs.Soundness.{Each}
use Rattle.store_acts.specs.Sound.{IsAct}
use Rattle.service_stores.proofs.Sound.{acts_given}
use Rattle.service_stores.proofs.Walk.{acts_next, formed_next, given_at, legal_next}
use Rattle.service_stores.proofs.acts.acts_of.Goals as goal

pub loop-entry-preserved : goal.loop-entry-preserved
loop-entry-preserved c =
    let server = c.args.server in
    let start = c.args.start.now in
    let history = c.args.history.now in
    let i = c.loop-entry.entry-index in
    let tree = c.loop-entry.tree in
    let number = c.loop-entry.number in
    let entry = c.entry-item.result in
    let rest = drop (i + 1) history in
    let lt : i < length history = c.loop-entry-test.true in
    let here = c.entry-item.is in
    let pushed = c.in_ok-push_act.ensures in
    let numbered = c.number_written-number.ensures in
    let followed = c.in_ok-follow.ensures.ok in
    let legal = legal_next tree history i entry lt here c.loop-entry.invariant.legal in
    let given = given_at start.roster history i entry lt here c.requires.given in
    record {
      acts =
          acts_next server tree number history i entry (acts_of server start None history) c.loop-entry.acts lt here c.loop-entry.invariant.acts
          ∙ ap (λ acts. acts ++ acts_of server (after_entry tree entry) (number_written entry) rest) (sym pushed)
          ∙ ap (λ t. c.push_act.new.acts ++ acts_of server t (number_written entry) rest) (sym followed)
          ∙ ap (λ n. c.push_act.new.acts ++ acts_of server c.follow.new.self n rest) (sym numbered);
      formed = subst IsWellFormed (sym followed) (formed_next start.roster tree entry c.loop-entry.invariant.formed legal.0 given);
      legal = subst (λ t. IsHistory t rest) (sym followed) legal.1;
    }

pub returns-clause-each : goal.returns-clause-each
returns-clause-each c =
    let server = c.args.server in
    let start = c.args.start.now in
    let history = c.args.history.now in
    let acts = c.loop-entry.acts in
    let whole : acts_of server start None history ≡ acts =
    c.loop-entry.invariant.acts
    ∙ ap (λ entries. acts ++ acts_of server c.loop-entry.tree c.loop-entry.number entries)
    (drop_all c.loop-entry.entry-index history c.loop-entry-test.false)
    ∙ append-nil acts in
    subst (Each (IsAct start.roster server)) whole (acts_given start.roster server history start None c.requires.given)
