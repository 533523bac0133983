use Rattle.std.proofs.Common.{rules, ap, ◌∙◌}
use Rattle.std.specs.List.{filter}
use Rattle.std.specs.BTreeMap.{values}
use Rattle.token_table.specs.Places.{ShelfView}
use Rattle.token_table.specs.Shelves.{keeps}
use Rattle.token_table.proofs.Shelving.{pairs_filtered, pairs_changed, values_are, kept_entries, kept}
use Rattle.token_table.proofs.shelf.Shelf.keep.Goals as goal

pub invariant_of-self : goal.invariant_of-self
invariant_of-self c =
    let s = c.self.inside in
    let p = keeps s.server s.epoch c.args.kept in
    let left = pairs_filtered _ _ (λ e. p e.1) (λ k v b w f' t. search rules) _ _ c.retain.ensures.filtered in
    let changed = pairs_changed _ _ (filter p) (λ k v b w f' t. search rules) _ _ c.retain-2.ensures.filtered in
    kept s.server s.epoch s.tokens c.retain.new.self s.files c.retain-2.new.self c.self.invariant p left changed

pub returns : goal.returns
returns c =
    let s = c.self.inside in
    let p = keeps s.server s.epoch c.args.kept in
    let left = pairs_filtered _ _ (λ e. p e.1) (λ k v b w f' t. search rules) _ _ c.retain.ensures.filtered in
    let list = values_are s.server s.epoch s.tokens c.retain.new.self s.files c.retain-2.new.self
    (filter p (values s.tokens))
    (kept_entries s.server s.epoch s.tokens c.retain.new.self s.files c.retain-2.new.self c.self.invariant p left) in
    (λ i. record { server = s.server; epoch = s.epoch; tokens = list i })
    ∙ ap (λ (v : ShelfView). record v { tokens = filter (keeps v.server v.epoch c.args.kept) v.tokens }) c.self.view_is
