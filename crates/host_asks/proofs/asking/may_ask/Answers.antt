use Rattle.host_asks.specs.Asking.{doing}
use Rattle.host_asks.proofs.Asked.{greets, is_unknown, is_welcome, stays_so}
use Rattle.host_asks.proofs.asking.may_ask.Goals as goal

pub returns-then-site-clause-may : goal.returns-then-site-clause-may
returns-then-site-clause-may c =
    is_welcome c.args.server (doing c.args.tables.now c.args.draft.now) c.site-site.result c.site-site.ensures
    c.if-site.true

pub returns-then-site-clause-after : goal.returns-then-site-clause-after
returns-then-site-clause-after c =
    stays_so c.args.server (doing c.args.tables.now c.args.draft.now) c.site-site.result c.site-site.ensures
    c.if-site.true

pub returns-clause-may : goal.returns-clause-may
returns-clause-may c =
    is_unknown c.args.server (doing c.args.tables.now c.args.draft.now) c.site-site.result c.site-site.ensures
    c.if-site.false

pub returns-clause-after : goal.returns-clause-after
returns-clause-after c =
    greets c.args.server (doing c.args.tables.now c.args.draft.now) c.site-site.result c.site-site.ensures
    c.if-site.false c.put_site.new.sites
    c.put_site.ensures c.say.new.draft c.in_ok-say.ensures
