-- What a server's store keeps where a run begins, and once it has ended.
use Rattle.std.proofs.Common.{◌≡◌, ℕ, ◌==◌, ◌&&◌, Bool, true, false, List, [], ◌∷◌, refl, sym, ap, ◌∙◌}
use Rattle.std.proofs.Common.{subst, arith}
use Rattle.std.specs.List.{list_all}
use Rattle.std.specs.Prelude.{filter, if◌then◌else◌, is_some}
use Rattle.std.proofs.lemmas.Bool.{and_parts}
use Rattle.base_types.specs.declared.ids.HostId.{HostId}
use Rattle.base_types.specs.declared.ids.Node.TheVariants.{Server}
use Rattle.base_types.specs.declared.ids.ServerId.{ServerId}
use Rattle.tree_answers.specs.declared.tree.Tree.{Tree}
use Rattle.tree_calls.specs.Rosters.{user_of}
use Rattle.tree_filesets.specs.declared.fileset.Fileset.{Fileset}
use Rattle.message_types.specs.Soundness.{IsHost}
use Rattle.script_lines.specs.Sound.{IsSound}
use Rattle.store_laws.specs.HistoryLaws.{IsBehind}
use Rattle.store_laws.specs.TreeKeeping.{KeepsOf}
use Rattle.store_memory.specs.Views.{View}
use Rattle.run_rules.specs.Kept.{filesets_first, filesets_kept}
use Rattle.run_rules.specs.Messages.{home}
use Rattle.run_rules.specs.Runs.{IsEnded, IsRun, IsValid, past_of}
use Rattle.run_rules.specs.Steps.{steps_of_server}
use Rattle.run_rules.specs.declared.journal.Journal.{Journal}
use Rattle.run_rules.specs.declared.step.Step.{Step}
use Rattle.run_tokens.specs.Pasts.{tree_at}
use Rattle.hub_laws.specs.Keeping.{Round, steps_in}
use Rattle.hub_node.specs.Nodes.{Beginning, first_at, part_of}
use Rattle.server_exporter.proofs.Stores.{acts_stand, stores_follow}
use Rattle.server_exporter.specs.Stores.{StandsFor}
use Rattle.server_node.specs.Standing.{CanServe, Stands}
use Rattle.server_node.specs.declared.server.ServerNode.{ServerNode}

-- a fileset is where it was made; and has never moved
abbrev stands_home : Fileset → Bool
stands_home fileset = fileset.server.0 == (home fileset.id).0

abbrev is_home : Fileset → Bool
is_home fileset = stands_home fileset && (fileset.moves == 0)

-- the filesets of a server of a tree in which all are at home
homes_filtered : (v : ℕ) (all : List Fileset) → list_all is_home all ≡ true
    → list_all stands_home (filter (λ fileset. fileset.server.0 == v) all) ≡ true
homes_filtered v [] h = refl
homes_filtered v (f ∷ all) h =
    (let parts = and_parts (is_home f) (list_all is_home all) h in
    let rest = homes_filtered v all parts.1 in
    let here : stands_home f ≡ true = (and_parts (stands_home f) (f.moves == 0) parts.0).0 in
    by (f.server.0 == v) here rest)
  where
    by : (b : Bool) → stands_home f ≡ true
        → list_all stands_home (filter (λ fileset. fileset.server.0 == v) all) ≡ true
        → list_all stands_home (if b then f ∷ filter (λ fileset. fileset.server.0 == v) all
        else filter (λ fileset. fileset.server.0 == v) all) ≡ true
    by true here rest =
        ap (λ (c : Bool). c && list_all stands_home (filter (λ fileset. fileset.server.0 == v) all)) here ∙ rest
    by false here rest = rest

-- A server can begin a run over a store of its own, in the epoch in which it starts, which keeps its part of the start
-- tree and has noted no request.
pub can_serve : (tells : Type 0) (run : Beginning) (server : ServerId) (view : View) → IsSound run.script
    → ((host : HostId) → IsHost run.script.roster host → is_some (user_of run.script.roster host) ≡ true)
    → view.state.server ≡ server → view.state.roster ≡ run.script.roster
    → (tells → view.state.epoch ≡ first_at run server) → IsValid run.start → (tells → KeepsOf run.start view.state)
    → (tells → IsBehind (λ host. 1) view.state) → CanServe tells run server view
can_serve tells run server view sound users server_is roster epoch valid keeps behind = record {
  sound = sound;
  server_is = server_is;
  roster = roster;
  users = users;
  epoch = epoch;
  keeps = λ t x none is.
      (let stood = acts_stand.first run.start view.state
      (record { formed = valid.well_formed; rests = valid.at_rest }) valid.unmoved (keeps t) in
      let below = behind t in
      record {
        stands = subst (λ (v : ServerId). StandsFor (filesets_first run.start v) view.state) server_is stood;
        homes = homes_filtered server.0 run.start.filesets valid.at_home;
        taken = rw none (record {
          own = λ host. (let lt = (below.own host).1 in omega (arith, lt));
          held = λ slot holding e host. (let lt = (below.held slot holding e host).1 in omega (arith, lt));
        });
        epoch = sym is;
      });
}

one_start : (a b : Tree) (all : List Tree) → all ≡ a ∷ [] → all ≡ b ∷ [] → a ≡ b
one_start a b all p q = (let e : a ∷ [] ≡ b ∷ [] = sym p ∙ q in cc)

-- Once a run from a tree has ended, the store of a server that stands where its own steps have brought it keeps its
-- part of the tree that the run leaves.
pub keeps_at_end : {S : Type 0} (tells : Type 0) (view : S → View) (run : Beginning) (server : ServerId)
    (n : ServerNode S) (journal : Journal) → IsRun run.script journal → IsEnded run.script journal
    → journal.start ≡ run.start ∷ [] → (past : List Round)
    → Stands tells view (part_of run (Server server)) n past []
    → steps_of_server server (past_of journal) ≡ steps_in past
    → tells → KeepsOf (tree_at run.start (past_of journal)) (view n.keeper.store).state
keeps_at_end tells view run server n journal is_run ended starts past stands own t =
    (let state = (view n.keeper.store).state in
    let mine : KeepsOf (filesets_kept run.start server (steps_in past)) state = (stands.so.keeps t).stands.keeps in
    let same : is_run.start ≡ run.start = one_start is_run.start run.start journal.start is_run.starts starts in
    let is : state.server ≡ server = stands.ready.served.store.server ∙ stands.so.server in
    let told : KeepsOf (filesets_kept is_run.start server (steps_of_server server (past_of journal))) state =
    subst (λ (tree : Tree). KeepsOf (filesets_kept tree server (steps_of_server server (past_of journal))) state)
    (sym same)
    (subst (λ (l : List Step). KeepsOf (filesets_kept run.start server l) state) (sym own) mine) in
    subst (λ (tree : Tree). KeepsOf (tree_at tree (past_of journal)) state) same
    (stores_follow run.script journal is_run ended state
    (subst (λ (v : ServerId). KeepsOf (filesets_kept is_run.start v (steps_of_server v (past_of journal))) state)
    (sym is) told)))

-- and it may be asked
pub ready_at : {S : Type 0} (tells : Type 0) (view : S → View) (run : Beginning) (server : ServerId)
    (n : ServerNode S) (past : List Round) → Stands tells view (part_of run (Server server)) n past []
    → (view n.keeper.store).ready
ready_at tells view run server n past stands = stands.ready.fit.ready
