use Rattle.std.proofs.Common.{None, Some, sym, ◌∙◌}
use Rattle.tree_answers.proofs.Led.{led_here, led_away, led_nowhere}
use Rattle.tree_answers.proofs.tree.Tree.position_led.Goals as goal

pub returns-in-Some-clause-value : goal.returns-in-Some-clause-value
returns-in-Some-clause-value c = sym (led_here c.args.self.now c.args.server c.args.name.now c.in-Some.place (cc c.position_named.ensures.value))

pub returns-in-Some-away_id-clause-value : goal.returns-in-Some-away_id-clause-value
returns-in-Some-away_id-clause-value c = c.position_with_id.ensures.value ∙ sym (led_away c.args.self.now c.args.server c.args.name.now (Some c.in-Some-away_id.id) (cc c.position_named.ensures.value) (cc c.away_id.ensures))

pub returns-in-None-away_id-clause-value : goal.returns-in-None-away_id-clause-value
returns-in-None-away_id-clause-value c = sym (led_away c.args.self.now c.args.server c.args.name.now None (cc c.position_named.ensures.value) (cc c.away_id.ensures) ∙ led_nowhere c.args.self.now.filesets)
