use Rattle.std.proofs.Common.{◌≡◌, ◌∙◌, ap, refl}
use Rattle.std.specs.Prelude.{None}
use Rattle.run_rules.specs.declared.applied.Request.TheVariants.{Change as Changes}
use Rattle.server_looks.specs.Asking.{change_needs}
use Rattle.server_takes.proofs.Parts.{want_so}
use Rattle.server_takes.specs.Taking.{Made}
use Rattle.server_takes.proofs.asking.want_change.Goals as goal

pub returns-clause-made : goal.returns-clause-made
returns-clause-made g c tells user known =
    let change = Changes c.args.change.now in
    let needs = change_needs (g.S.Store.view c.args.keeper.now.store).state c.args.host user c.args.change.now in
    let same = want_so c.args.tables.now c.args.draft.now c.args.host change change c.in_ok-needs.needs needs refl
    (c.in_ok-needs.ensures.needs tells user known) in
    record {
      tables = c.in_ok-want_change_of.ensures.tables ∙ ap (λ (m : Made). m.tables) same;
      draft = c.in_ok-want_change_of.ensures.draft ∙ ap (λ (m : Made). m.draft) same;
    }

pub returns-clause-heard : goal.returns-clause-heard
returns-clause-heard g c = record {
  needs = c.in_ok-needs.needs;
  told = None;
  taken = record { tables = c.in_ok-want_change_of.ensures.tables; draft = c.in_ok-want_change_of.ensures.draft };
}
