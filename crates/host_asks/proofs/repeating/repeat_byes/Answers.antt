use Rattle.std.proofs.Common.{ap, false, get_or, sym, ◌∙◌}
use Rattle.std.proofs.lemmas.List.Sums.{fold_more}
use Rattle.host_asks.specs.Claiming.{parting_again}
use Rattle.host_tables.specs.declared.sites.Site.{Site}
use Rattle.host_asks.proofs.repeating.repeat_byes.Goals as goal

pub loop-site-preserved : goal.loop-site-preserved
loop-site-preserved c =
    let none : Site = (record {
      server = record { 0 = 0 };
      epoch = 0;
      greeted = false;
      welcome = false;
      claimed = false;
      said_bye = false;
      has_bye = false;
    }) in
    c.in_ok-repeat_bye.ensures
    ∙ ap (λ draft. parting_again c.args.tables.now draft (get_or c.as_slice-site-items.result.now
    c.loop-site.site-index none)) c.loop-site.invariant
    ∙ sym (fold_more (parting_again c.args.tables.now) c.args.draft.now c.as_slice-site-items.result.now
    c.loop-site.site-index none c.loop-site-test.true)
