use Rattle.std.proofs.Common.{ap}
use Rattle.tree_calls.specs.declared.reply.Refusal.TheVariants.{NoFileset}
use Rattle.tree_answers.specs.Finding.{found_or, fileset_named}
use Rattle.tree_answers.proofs.Led.{named_at, named_nowhere}
use Rattle.tree_answers.proofs.tree.Tree.fileset_named.Goals as goal

pub returns-in-Some : goal.returns-in-Some
returns-in-Some c = named_at c.args.self.now c.args.server c.args.name.now c.in-Some.place c.get.result.now (cc c.position_led.ensures.value) c.in-Some.ensures.within c.get.ensures

pub returns-in-None : goal.returns-in-None
unfolding fileset_named
returns-in-None c = ap (λ o. found_or o NoFileset) (named_nowhere c.args.self.now c.args.server c.args.name.now (cc c.position_led.ensures.value))
