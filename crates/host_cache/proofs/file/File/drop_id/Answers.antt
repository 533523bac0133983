use Rattle.std.proofs.Common.{◌≡◌, ◌∙◌, ap, not, filter, rules}
use Rattle.std.proofs.lemmas.Fn.{filter_same}
use Rattle.token_types.specs.Conflicts.{same_id}
use Rattle.token_types.specs.declared.token.Token.{Token}
use Rattle.host_cache.specs.Files.{without_token}
use Rattle.host_cache.proofs.file.File.drop_id.Goals as goal

pub returns : goal.returns
returns c =
    let s = c.self.inside in
    let e : c.retain.new.self.items ≡ filter (λ (t : Token). not (same_id t.id c.args.id)) s.tokens.items =
    filter_same _ _ _ (λ x b f' k. search rules) _ _ c.retain.ensures.filtered in
    (λ i. record { tokens = e i; status = s.status; entries = s.entries; bytes = s.bytes })
    ∙ ap (without_token c.args.id) c.self.view_is
