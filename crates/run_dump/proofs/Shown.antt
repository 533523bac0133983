-- What is printed of a tree shows each of its filesets, and each of their objects, once.
use Rattle.std.proofs.Common.{Bool, List, None, Option, Some, ap, arith, false, refl, suc, true, zero, ℕ, ◌&&◌, ◌++◌, ◌==◌, ◌∙◌, ◌∷◌, ◌≡◌, ◌≤◌, length, [], nat_le, nat_lt}
use Rattle.std.specs.List.{list_all, list_any}
use Rattle.std.specs.Option.{option_map_or}
use Rattle.std.specs.Prelude.{IsPermutation, codes, decimal}
use Rattle.json.specs.Print.{quoted as json_string}
use Rattle.std.proofs.lemmas.Grind.{common_steps}
use Rattle.std.proofs.lemmas.List.Sorted.{IsPermutation-sym}
use Rattle.base_types.specs.declared.limits.TheConstants.{CACHED_TOKENS_MAX, CACHED_TOKENS_MIN, CAPACITY_MAX, CAPACITY_MIN, GROUPS_MAX, HOSTS_MAX, SERVERS_MAX}
use Rattle.message_types.specs.Soundness.{Each}
use Rattle.script_words.specs.Spelling.{spelled_bytes}
use Rattle.script_output.specs.Dump.{dir_lists, fileset_head, fileset_lines, head_line, lines_below, lines_by, object_lines, runs_of}
use Rattle.script_output.specs.Printed.{text_of_report}
use Rattle.script_output.specs.Reports.{all_servers, by_server}
use Rattle.script_output.specs.Summary.{fileset_json, objects_of, report_json}
use Rattle.tree_answers.specs.WellFormed.{AreWellFormed, IsWellFormed, is_declared}
use Rattle.tree_answers.specs.declared.tree.Tree.{Tree}
use Rattle.tree_calls.specs.Limits.{is_between}
use Rattle.tree_filesets.specs.Walk.{object_at}
use Rattle.tree_filesets.specs.WellFormed.{IsWellFormed as IsWellFormedFileset}
use Rattle.tree_filesets.specs.declared.fileset.Fileset.{Fileset}
use Rattle.tree_objects.specs.Files.{present_bytes}
use Rattle.tree_objects.specs.Objects.{is_dir}
use Rattle.tree_objects.specs.declared.content.Content.{Content}
use Rattle.tree_objects.specs.declared.content.Content.TheVariants.{Dir, File}
use Rattle.tree_objects.specs.declared.content.Object.{Object}
use Rattle.tree_objects.proofs.Observed.{and_left, and_right}
use Rattle.tree_objects.proofs.Rising.{and_both}
use Rattle.run_rules.specs.Runs.{history_of}
use Rattle.tree_answers.specs.Histories.{after_history}
use Rattle.tree_answers.proofs.Moves.{formed_history}
use Rattle.run_dump.proofs.Bytes.{bytes_are_told}
use Rattle.run_dump.proofs.Left.{runs_leave_well}
use Rattle.run_dump.proofs.Counted.{all_seen, all_sights, counted, once}
use Rattle.run_dump.proofs.Servers.{by_keys}
use Rattle.run_dump.proofs.Sights.{lines_of}
use Rattle.run_dump.specs.Shown.{HistoriesAreShown, ObjectsAreShown, RunsAreShown, Shows, ShowsObject, TreesAreShown}

dir_there : (o : Option Object) → option_map_or (λ object. is_dir object.content) o false ≡ true →
    (object : Object) × (o ≡ Some object)
dir_there None h = absurd (cc)
dir_there (Some object) h = (object, refl)

lines_are : (fileset : Fileset) (root : Object) → object_at fileset.anodes 1 ≡ Some root →
    fileset_lines fileset
    ≡ fileset_head fileset ++ lines_below (length fileset.anodes) fileset.anodes (47 ∷ fileset.name) root
unfolding fileset_lines
lines_are fileset root e =
    ap (λ o. fileset_head fileset
    ++ option_map_or (lines_below (length fileset.anodes) fileset.anodes (47 ∷ fileset.name)) o []) e

-- the summary has that many
summed : (fileset : Fileset) (n : ℕ) → objects_of fileset.anodes ≡ n →
    fileset_json fileset
    ≡ codes "{\"name\":" ++ json_string (spelled_bytes fileset.name [])
    ++ codes ",\"objects\":" ++ decimal n ++ codes ",\"server\":" ++ decimal fileset.server.0 ++ codes "}"
unfolding fileset_json
summed fileset n e =
    ap (λ k. codes "{\"name\":" ++ json_string (spelled_bytes fileset.name [])
    ++ codes ",\"objects\":" ++ decimal k ++ codes ",\"server\":" ++ decimal fileset.server.0 ++ codes "}") e

shows : (fileset : Fileset) → IsWellFormedFileset fileset → Shows fileset (fileset_lines fileset)
shows fileset w =
    let (root, there) = dir_there (object_at fileset.anodes 1) w.root in
    record {
      sights = all_sights fileset w root there;
      lines_are = lines_are fileset root there
          ∙ ap (λ ys. fileset_head fileset ++ ys)
          (lines_of (length fileset.anodes) fileset.anodes (47 ∷ fileset.name) 1 root);
      seen = all_seen fileset w root there;
      once = once fileset w root there;
      counted = summed fileset (length (all_sights fileset w root there)) (counted fileset w root there);
    }

all_shown : (filesets : List Fileset) → AreWellFormed filesets →
    Each (λ fileset. Shows fileset (fileset_lines fileset)) filesets
all_shown [] w = tt
all_shown (fileset ∷ filesets) w = (shows fileset w.0, all_shown filesets w.1)

-- a server that is there has one of the four numbers
one_of_four : (servers n : ℕ) → servers ≤ 4 → 1 ≤ n → n ≤ servers → list_any (λ k. n == k) all_servers ≡ true
one_of_four servers zero few low high = absurd (omega (arith, low))
one_of_four servers (suc zero) few low high = refl
one_of_four servers (suc (suc zero)) few low high = refl
one_of_four servers (suc (suc (suc zero))) few low high = refl
one_of_four servers (suc (suc (suc (suc zero)))) few low high = refl
one_of_four servers (suc (suc (suc (suc (suc n))))) few low high = absurd (omega (arith, few, high))

le_so : (a b : ℕ) → nat_le a b ≡ true → a ≤ b
le_so a b e = grind (arith, common_steps, e)

abbrev at_one : Fileset → Bool
at_one fileset = list_any (λ k. fileset.server.0 == k) all_servers

each_at : (servers : ℕ) (filesets : List Fileset) → servers ≤ 4 →
    list_all (λ (fileset : Fileset). is_declared servers fileset.server) filesets ≡ true →
    list_all at_one filesets ≡ true
each_at servers [] few e = refl
each_at servers (fileset ∷ filesets) few e =
    let here = and_left (is_declared servers fileset.server)
    (list_all (λ (fileset : Fileset). is_declared servers fileset.server) filesets) e in
    let rest = and_right (is_declared servers fileset.server)
    (list_all (λ (fileset : Fileset). is_declared servers fileset.server) filesets) e in
    and_both (at_one fileset) (list_all at_one filesets)
    (one_of_four servers fileset.server.0 few
    (le_so 1 fileset.server.0 (and_left (nat_le 1 fileset.server.0) (nat_le fileset.server.0 servers) here))
    (le_so fileset.server.0 servers (and_right (nat_le 1 fileset.server.0) (nat_le fileset.server.0 servers) here)))
    (each_at servers filesets few rest)

first_holds : (a b c d e : Bool) → (a && b && c && d && e) ≡ true → a ≡ true
first_holds true b c d e h = refl
first_holds false b c d e h = h

few_servers : (tree : Tree) → IsWellFormed tree → length tree.servers ≤ 4
few_servers tree w =
    let both = first_holds (is_between 1 SERVERS_MAX (length tree.roster.capacity))
    (nat_le (length tree.roster.hosts) HOSTS_MAX)
    (list_all (is_between CAPACITY_MIN CAPACITY_MAX) tree.roster.capacity)
    (list_all (λ user. is_between 1 GROUPS_MAX (length user.groups)) tree.roster.users)
    (list_all (λ line. nat_lt line.user (length tree.roster.users)
    && is_between CACHED_TOKENS_MIN CACHED_TOKENS_MAX line.limit) tree.roster.hosts) w.roster in
    let few = le_so (length tree.roster.capacity) 4
    (and_right (nat_le 1 (length tree.roster.capacity)) (nat_le (length tree.roster.capacity) 4) both) in
    let same = w.servers in
    omega (arith, few, same)

permuted : (tree : Tree) → IsWellFormed tree → IsPermutation tree.filesets (by_server tree.filesets)
unfolding by_server
permuted tree w = IsPermutation-sym (by_server tree.filesets) tree.filesets
    (by_keys (λ (fileset : Fileset). fileset.server.0) all_servers (refl, (refl, (refl, (refl, tt)))) tree.filesets
    (each_at (length tree.servers) tree.filesets (few_servers tree w) w.declared))

-- the lines of an object show what it contains
lines_show : (path : List ℕ) (object : Object) (content : Content) →
    ShowsObject path object content (lines_by path object content)
unfolding dir_lists
lines_show path object (File list kept unsaved len) =
    (runs_of (present_bytes kept unsaved len), bytes_are_told (present_bytes kept unsaved len), refl)
lines_show path object (Dir entries lists) =
    λ own files dirs e. ap (λ some. head_line (codes "dir ") path (length entries) object ++ dir_lists some) e

pub objects_are_shown : ObjectsAreShown
unfolding object_lines
objects_are_shown path object = lines_show path object object.content

pub trees_are_shown : TreesAreShown
unfolding text_of_report report_json
trees_are_shown script start history w = record {
  filesets = by_server (after_history start history).filesets;
  each_once = permuted (after_history start history) w;
  shown = all_shown (after_history start history).filesets w.filesets;
  text = refl;
  summary = refl;
}

-- so is the tree that a legal history leaves
pub histories_are_shown : HistoriesAreShown
histories_are_shown script start history w legal limited =
    trees_are_shown script start history (formed_history start history w legal limited)

-- so is the tree that the history of a run makes
pub runs_are_shown : RunsAreShown
runs_are_shown script journal run =
    trees_are_shown script run.start (history_of journal.steps) (runs_leave_well script journal run)
