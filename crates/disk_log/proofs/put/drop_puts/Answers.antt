use Rattle.std.proofs.Common.{◌∙◌, rules}
use Rattle.std.proofs.lemmas.Fn.{filter_same}
use Rattle.disk_log.proofs.Ended.{filter_without}
use Rattle.disk_log.proofs.put.drop_puts.Goals as goal

pub returns : goal.returns
returns c = filter_same _ _ _ (λ x b f' k. search rules) _ _ c.retain.ensures.filtered ∙ filter_without c.args.slot c.args.puts.now.items
