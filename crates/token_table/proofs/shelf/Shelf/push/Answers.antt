use Rattle.std.proofs.Common.{[], ◌∷◌, ◌++◌, ap, sym, subst, ◌∙◌}
use Rattle.std.specs.List.{All}
use Rattle.std.specs.BTreeMap.{is_at, insert_entry, values}
use Rattle.std.specs.Map.{remove_entry}
use Rattle.token_table.specs.Places.{ShelfView, place_cmp}
use Rattle.token_table.specs.Shelves.{IsBefore}
use Rattle.token_table.proofs.Shelving.{values_are, is_shelf, pushed_entries, pushed, unpushed_entries}
use Rattle.token_table.proofs.shelf.Shelf.push.Goals as goal

pub invariant_of-self-in-Ok : goal.invariant_of-self-in-Ok
invariant_of-self-in-Ok c =
    let s = c.self.inside in
    let before = subst (λ (v : ShelfView). All (IsBefore v.server v.epoch c.args.token) v.tokens) (sym c.self.view_is)
    c.requires in
    let inserted = c.in_ok-insert.ensures.entries
    ∙ ap (λ k. insert_entry place_cmp s.tokens.entries k c.args.token) c.place_of-place.ensures in
    pushed s.server s.epoch s.tokens c.insert.new.self s.files c.put_in_file.new.files c.self.invariant c.args.token
    before
    inserted c.in-Ok.ensures.ok

pub invariant_of-self-in-Err : goal.invariant_of-self-in-Err
invariant_of-self-in-Err c =
    let s = c.self.inside in
    let before = subst (λ (v : ShelfView). All (IsBefore v.server v.epoch c.args.token) v.tokens) (sym c.self.view_is)
    c.requires in
    let inserted = c.in_ok-insert.ensures.entries
    ∙ ap (λ k. insert_entry place_cmp s.tokens.entries k c.args.token) c.place_of-place.ensures in
    let removed = c.remove.ensures.entries
    ∙ ap (λ k. remove_entry (is_at (place_cmp k)) c.insert.new.self.entries) c.place_of-place.ensures in
    is_shelf s.server s.epoch s.tokens c.remove.new.self s.files c.put_in_file.new.files (values s.tokens)
    (unpushed_entries s.server s.epoch s.tokens c.insert.new.self s.files c.put_in_file.new.files c.self.invariant
    c.args.token before inserted c.remove.new.self c.in_ok-insert.ensures.ordered removed)
    (λ key. c.in-Err.ensures.err key ∙ c.self.invariant.by_file key)

pub returns-in-Ok-clause-after : goal.returns-in-Ok-clause-after
returns-in-Ok-clause-after c =
    let s = c.self.inside in
    let before = subst (λ (v : ShelfView). All (IsBefore v.server v.epoch c.args.token) v.tokens) (sym c.self.view_is)
    c.requires in
    let inserted = c.in_ok-insert.ensures.entries
    ∙ ap (λ k. insert_entry place_cmp s.tokens.entries k c.args.token) c.place_of-place.ensures in
    let list = values_are s.server s.epoch s.tokens c.insert.new.self s.files c.put_in_file.new.files
    (values s.tokens ++ c.args.token ∷ [])
    (pushed_entries s.server s.epoch s.tokens c.insert.new.self s.files c.put_in_file.new.files c.self.invariant
    c.args.token before inserted) in
    (λ i. record { server = s.server; epoch = s.epoch; tokens = list i })
    ∙ ap (λ (v : ShelfView). record v { tokens = v.tokens ++ c.args.token ∷ [] }) c.self.view_is

pub returns-in-Err-clause-err : goal.returns-in-Err-clause-err
returns-in-Err-clause-err c =
    let s = c.self.inside in
    let before = subst (λ (v : ShelfView). All (IsBefore v.server v.epoch c.args.token) v.tokens) (sym c.self.view_is)
    c.requires in
    let inserted = c.in_ok-insert.ensures.entries
    ∙ ap (λ k. insert_entry place_cmp s.tokens.entries k c.args.token) c.place_of-place.ensures in
    let removed = c.remove.ensures.entries
    ∙ ap (λ k. remove_entry (is_at (place_cmp k)) c.insert.new.self.entries) c.place_of-place.ensures in
    let list = values_are s.server s.epoch s.tokens c.remove.new.self s.files c.put_in_file.new.files (values s.tokens)
    (unpushed_entries s.server s.epoch s.tokens c.insert.new.self s.files c.put_in_file.new.files c.self.invariant
    c.args.token before inserted c.remove.new.self c.in_ok-insert.ensures.ordered removed) in
    (λ i. record { server = s.server; epoch = s.epoch; tokens = list i }) ∙ c.self.view_is
