use Rattle.std.proofs.Common.{◌∙◌, ◌++◌, ◌∷◌, [], List, ap, rules}
use Rattle.std.proofs.lemmas.Fn.{filter_same}
use Rattle.disk_log.specs.declared.put.Put.{Put}
use Rattle.disk_log.proofs.Putting.{filter_page}
use Rattle.disk_log.proofs.put.set_put.Goals as goal

pub returns : goal.returns
returns c =
    c.push_reserved.ensures.items
    ∙ ap (λ (puts : List Put). puts ++ c.args.put ∷ []) (filter_same _ _ _ (λ x b f' k. search rules) _ _ c.retain.ensures.filtered ∙ filter_page c.args.put.page c.args.puts.now.items)
