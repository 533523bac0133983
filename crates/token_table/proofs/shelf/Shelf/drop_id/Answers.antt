use Rattle.std.proofs.Common.{◌≡◌, ap, sym, ◌∙◌, Some}
use Rattle.std.specs.List.{find}
use Rattle.std.specs.Map.{lookup, remove_entry}
use Rattle.std.specs.BTreeMap.{is_at, values}
use Rattle.token_types.specs.Conflicts.{same_id}
use Rattle.token_table.specs.Tables.{without_id}
use Rattle.token_table.specs.Places.{ShelfView, place_cmp, place_of}
use Rattle.token_table.proofs.Placing.{lookup_placed}
use Rattle.token_table.proofs.Shelving.{others_stay, values_are, taken_entries, taken}
use Rattle.token_table.proofs.shelf.Shelf.drop_id.Goals as goal

pub take_from_file-requires : goal.take_from_file-requires
take_from_file-requires c =
    let s = c.self.inside in
    let found : find (λ t. same_id t.id c.args.id) (values s.tokens) ≡ Some c.in_ok-token.token =
    sym (lookup_placed s.server s.epoch c.args.id (values s.tokens))
    ∙ ap (lookup (is_at (place_cmp (place_of s.server s.epoch c.args.id)))) (sym c.self.invariant.placed)
    ∙ ap (λ k. lookup (is_at (place_cmp k)) s.tokens.entries) (sym c.place_of.ensures)
    ∙ sym c.in_ok-token.ensures.value in
    others_stay s.server s.epoch s.tokens s.tokens s.files s.files c.self.invariant c.args.id c.len.ensures.ordered
    c.in_ok-token.token found c.file_key.result

pub invariant_of-self-2 : goal.invariant_of-self-2
invariant_of-self-2 c =
    let s = c.self.inside in
    let removed = c.in_ok-token.ensures.entries
    ∙ ap (λ k. remove_entry (is_at (place_cmp k)) s.tokens.entries) c.place_of.ensures in
    let found : find (λ t. same_id t.id c.args.id) (values s.tokens) ≡ Some c.in_ok-token.token =
    sym (lookup_placed s.server s.epoch c.args.id (values s.tokens))
    ∙ ap (lookup (is_at (place_cmp (place_of s.server s.epoch c.args.id)))) (sym c.self.invariant.placed)
    ∙ ap (λ k. lookup (is_at (place_cmp k)) s.tokens.entries) (sym c.place_of.ensures)
    ∙ sym c.in_ok-token.ensures.value in
    taken s.server s.epoch s.tokens c.remove.new.self s.files c.take_from_file.new.files c.self.invariant c.args.id
    c.len.ensures.ordered removed c.in_ok-token.token found
    (rw (← c.file_key.ensures) c.take_from_file.ensures.own)
    (λ other apart. c.take_from_file.ensures.others other (rw c.file_key.ensures apart))

pub returns-clause-token : goal.returns-clause-token
returns-clause-token c =
    let s = c.self.inside in
    c.in_ok-token.ensures.value
    ∙ ap (λ k. lookup (is_at (place_cmp k)) s.tokens.entries) c.place_of.ensures
    ∙ ap (lookup (is_at (place_cmp (place_of s.server s.epoch c.args.id)))) c.self.invariant.placed
    ∙ lookup_placed s.server s.epoch c.args.id (values s.tokens)
    ∙ ap (λ v. find (λ token. same_id token.id c.args.id) v.tokens) c.self.view_is

pub returns-clause-after : goal.returns-clause-after
returns-clause-after c =
    let s = c.self.inside in
    let removed = c.in_ok-token.ensures.entries
    ∙ ap (λ k. remove_entry (is_at (place_cmp k)) s.tokens.entries) c.place_of.ensures in
    let list = values_are s.server s.epoch s.tokens c.remove.new.self s.files c.take_from_file.new.files
    (without_id (values s.tokens) c.args.id)
    (taken_entries s.server s.epoch s.tokens c.remove.new.self s.files c.take_from_file.new.files c.self.invariant
    c.args.id c.len.ensures.ordered removed) in
    (λ i. record { server = s.server; epoch = s.epoch; tokens = list i })
    ∙ ap (λ (v : ShelfView). record v { tokens = without_id v.tokens c.args.id }) c.self.view_is

pub returns-in_err-token-clause-token : goal.returns-in_err-token-clause-token
returns-in_err-token-clause-token c =
    let s = c.self.inside in
    c.from_residual.ensures ∙ c.in_err-token.ensures.value
    ∙ ap (λ k. lookup (is_at (place_cmp k)) s.tokens.entries) c.place_of.ensures
    ∙ ap (lookup (is_at (place_cmp (place_of s.server s.epoch c.args.id)))) c.self.invariant.placed
    ∙ lookup_placed s.server s.epoch c.args.id (values s.tokens)
    ∙ ap (λ v. find (λ token. same_id token.id c.args.id) v.tokens) c.self.view_is

pub returns-in_err-token-clause-after : goal.returns-in_err-token-clause-after
returns-in_err-token-clause-after c =
    let s = c.self.inside in
    let removed = c.in_err-token.ensures.entries
    ∙ ap (λ k. remove_entry (is_at (place_cmp k)) s.tokens.entries) c.place_of.ensures in
    let list = values_are s.server s.epoch s.tokens c.remove.new.self s.files s.files
    (without_id (values s.tokens) c.args.id)
    (taken_entries s.server s.epoch s.tokens c.remove.new.self s.files s.files c.self.invariant
    c.args.id c.len.ensures.ordered removed) in
    (λ i. record { server = s.server; epoch = s.epoch; tokens = list i })
    ∙ ap (λ (v : ShelfView). record v { tokens = without_id v.tokens c.args.id }) c.self.view_is
