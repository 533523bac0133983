-- What a server's names lead to hangs on what it knows.
use Rattle.std.proofs.Common.{◌≡◌, ℕ, ◌==◌, Bool, true, false, ◌||◌, not, List, Option, Some, None, Ok, refl, sym, ap, ◌∙◌, subst, rules}
use Rattle.std.specs.Prelude.{if◌then◌else◌}
use Rattle.std.specs.List.{find, list_any}
use Rattle.std.specs.Option.{option_map}
use Rattle.base_types.specs.Name.{same_name}
use Rattle.base_types.specs.Outcomes.{and_then}
use Rattle.base_types.specs.declared.ids.ServerId.{ServerId}
use Rattle.base_types.specs.declared.user.User.{User}
use Rattle.tree_calls.specs.declared.reply.Refusal.TheVariants.{NoFileset, NotHome}
use Rattle.tree_objects.proofs.Observed.{and_left}
use Rattle.tree_filesets.specs.declared.fileset.Fileset.{Fileset}
use Rattle.tree_filesets.specs.Checks.{unless}
use Rattle.tree_filesets.specs.Founding.{control_check}
use Rattle.tree_filesets.proofs.Names.{find-filter_kept}
use Rattle.tree_answers.specs.Away.{away_id, is_away_named}
use Rattle.tree_answers.specs.Finding.{found_or, has_id, has_this_id, is_here, is_named, is_taken, leads_to, fileset_named}
use Rattle.tree_answers.specs.Founding.{clone_source}
use Rattle.tree_answers.specs.declared.tree.Away.{Away}
use Rattle.tree_answers.specs.declared.tree.Tree.{Tree}
use Rattle.need_laws.specs.Known.{SameAt, filesets_of, is_known, is_record_of, records_of}
use Rattle.need_laws.proofs.Lists.{Implies, any_filter, any_found, or_left, or_right}

-- what is named at the server it has
pub named_known : (records : List Away) (server : ServerId) (name : List ℕ) → Implies (is_named server name) (is_known records server)
named_known records server name fileset h =
    or_left (fileset.server.0 == server.0) (list_any (λ away. has_id away.fileset fileset) records) (and_left (fileset.server.0 == server.0) (same_name fileset.name name) h)

here_known : (tree : Tree) (server : ServerId) (name : List ℕ) → list_any (is_named server name) (filesets_of server tree) ≡ is_here tree.filesets server name
here_known tree server name = any_filter (is_named server name) (is_known (records_of server tree) server) tree.filesets (named_known (records_of server tree) server name)

-- and its records of a name are its own
record_found : (tree : Tree) (server : ServerId) (name : List ℕ) → find (is_away_named server name) (records_of server tree) ≡ find (is_away_named server name) tree.away
record_found tree server name = find-filter_kept (is_away_named server name) (is_record_of server) tree.away (λ away h. and_left (away.server.0 == server.0) (same_name away.name name) h)

pub away_any : (tree : Tree) (server : ServerId) (name : List ℕ) → list_any (is_away_named server name) (records_of server tree) ≡ list_any (is_away_named server name) tree.away
away_any tree server name = any_filter (is_away_named server name) (is_record_of server) tree.away (λ away h. and_left (away.server.0 == server.0) (same_name away.name name) h)

-- where a name leads, by what the server knows
leads_in : List Fileset → List Away → ServerId → List ℕ → Fileset → Bool
leads_in filesets records server name =
    if list_any (is_named server name) filesets then is_named server name else has_this_id (away_id records server name)

leads_known : (tree : Tree) (server : ServerId) (name : List ℕ) → leads_in (filesets_of server tree) (records_of server tree) server name ≡ leads_to tree server name
unfolding leads_in
leads_known tree server name =
    ap (λ b. if b then is_named server name else has_this_id (away_id (records_of server tree) server name)) (here_known tree server name)
    ∙ ap (λ o. if is_here tree.filesets server name then is_named server name else has_this_id (option_map (λ away. away.fileset) o)) (record_found tree server name)

-- what it leads to the server knows
this_known : (tree : Tree) (server : ServerId) (name : List ℕ) (fileset : Fileset) (o : Option Away) → find (is_away_named server name) (records_of server tree) ≡ o →
    has_this_id (option_map (λ away. away.fileset) o) fileset ≡ true → list_any (λ away. has_id away.fileset fileset) (records_of server tree) ≡ true
this_known tree server name fileset None e h = absurd (search (rules, h))
this_known tree server name fileset (Some away) e h = any_found (is_away_named server name) (λ away. has_id away.fileset fileset) (records_of server tree) away e h

pub leads_within : (tree : Tree) (server : ServerId) (name : List ℕ) → Implies (leads_to tree server name) (is_known (records_of server tree) server)
leads_within tree server name fileset h = by_test (is_here tree.filesets server name) h
  where
    by_test : (b : Bool) → (if b then is_named server name else has_this_id (away_id tree.away server name)) fileset ≡ true → is_known (records_of server tree) server fileset ≡ true
    by_test true k = named_known (records_of server tree) server name fileset k
    by_test false k =
        or_right (fileset.server.0 == server.0) (list_any (λ away. has_id away.fileset fileset) (records_of server tree)) (this_known tree server name fileset (find (is_away_named server name) (records_of server tree)) refl
        (subst (λ o. has_this_id (option_map (λ away. away.fileset) o) fileset ≡ true) (sym (record_found tree server name)) k))

module _ (a b : Tree) (server : ServerId) (same : SameAt server a b) where
  pub same_leads : (name : List ℕ) → leads_to a server name ≡ leads_to b server name
  same_leads name =
      sym (leads_known a server name)
      ∙ ap (λ filesets. leads_in filesets (records_of server a) server name) same.filesets
      ∙ ap (λ records. leads_in (filesets_of server b) records server name) same.records
      ∙ leads_known b server name

  pub same_found : (name : List ℕ) → find (leads_to a server name) a.filesets ≡ find (leads_to b server name) b.filesets
  same_found name =
      sym (find-filter_kept (leads_to a server name) (is_known (records_of server a) server) a.filesets (leads_within a server name))
      ∙ ap (λ p. find p (filesets_of server a)) (same_leads name)
      ∙ ap (λ filesets. find (leads_to b server name) filesets) same.filesets
      ∙ find-filter_kept (leads_to b server name) (is_known (records_of server b) server) b.filesets (leads_within b server name)

  pub same_named : (name : List ℕ) → fileset_named a server name ≡ fileset_named b server name
  unfolding fileset_named
  same_named name = ap (λ o. found_or o NoFileset) (same_found name)

  pub same_taken : (name : List ℕ) → is_taken a server name ≡ is_taken b server name
  same_taken name =
      ap (λ t. t || list_any (is_away_named server name) a.away) (sym (here_known a server name) ∙ ap (list_any (is_named server name)) same.filesets ∙ here_known b server name)
      ∙ ap (λ t. is_here b.filesets server name || t) (sym (away_any a server name) ∙ ap (list_any (is_away_named server name)) same.records ∙ away_any b server name)

  -- a fileset to be cloned
  pub same_source : (user : User) (source : List ℕ) → clone_source a user server source ≡ clone_source b user server source
  unfolding clone_source
  same_source user source =
      ap (λ found. and_then found (λ fileset. unless (not (fileset.server.0 == server.0)) NotHome (and_then (control_check fileset user) (λ _. Ok fileset)))) (same_named source)
