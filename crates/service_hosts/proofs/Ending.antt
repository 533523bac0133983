-- What comes of hosts and servers that were driven to their end, or came to none.
use Rattle.std.proofs.Common.{◌≡◌, ◌⊎◌, ⊎_elim, inl, inr, ℕ, zero, suc, ◌+◌, ◌<◌, List, [], ◌∷◌, Some, map, length}
use Rattle.std.proofs.Common.{get_or, slice_get, refl, sym, ap, ◌∙◌, subst, arith, Ok, Err, Result}
use Rattle.std.specs.Prelude.{IfErr, IfSome, None, Option}
use Rattle.base_types.specs.declared.ids.Node.{Node}
use Rattle.base_types.specs.declared.ids.Node.TheVariants.{Server as OfServer}
use Rattle.base_types.specs.declared.ids.ServerId.{ServerId}
use Rattle.tree_answers.specs.declared.tree.Tree.{Tree}
use Rattle.script_lines.specs.declared.script.Script.{Script}
use Rattle.store_laws.specs.TreeKeeping.{KeepsOf}
use Rattle.store_memory.specs.Views.{View}
use Rattle.run_rules.specs.Kept.{filesets_kept}
use Rattle.run_rules.specs.Past.{Always, appended}
use Rattle.run_rules.specs.declared.journal.Journal.{Journal}
use Rattle.run_rules.specs.declared.step.Step.{Step}
use Rattle.run_promises.proofs.Promising.{tree_is}
use Rattle.run_promises.specs.Promises.{HasRun, last_tree}
use Rattle.hub_drive.specs.Driving.{HasDriven, HasStoodAfter, HasStopped, StandAfter, StandsAfter, beginning}
use Rattle.hub_board.specs.Hubs.{nodes_of}
use Rattle.hub_laws.specs.Keeping.{messages_given}
use Rattle.hub_node.specs.Either.{stands_any}
use Rattle.hub_node.specs.declared.either.AnyNode.TheVariants.{Host, Server}
use Rattle.host_node.specs.Standing.{Stands as HostStands}
use Rattle.server_node.proofs.Serving.{keeps_at_end, ready_at}
use Rattle.server_node.specs.Standing.{HasBroken, HasDoneMore, Stands as ServerStands}
use Rattle.server_node.specs.declared.server.ServerNode.{ServerNode}
use Rattle.service_hosts.specs.Hosting.{AreKeeping, HasComeFrom, HasHosted, HasHostedSoFar, HasKept}
use Rattle.service_hosts.specs.Hosting.{KeepSoFar, KeepsMore, epochs_of, kept_so_far, own_in}
use Rattle.service_hosts.specs.Hosting.{stopped_by}
use Rattle.service_hosts.specs.Nodes.{AreOver, NodeOf}
use Rattle.service_hosts.specs.declared.running.HostsStopped.{HostsStopped}
use Rattle.service_hosts.specs.declared.running.HostsStopped.TheVariants.{Memory as OutOfMemory, Stuck}
use Rattle.hub_drive.specs.declared.driver.DriveFault.{DriveFault}
use Rattle.hub_drive.specs.declared.driver.DriveFault.TheVariants as drive
use Rattle.hub_drive.specs.declared.driver.Waiting.{Waiting}
use Rattle.hub_node.specs.Nodes.{OwnMeets, part_of}
use Rattle.hub_node.specs.declared.node.NodeFault.{NodeFault}
use Rattle.service_hosts.proofs.Driven.{BrokenSo, FailedSo, StaysSo}
use Rattle.service_hosts.proofs.Laid.{map_long, server_at_place}
use Rattle.service_hosts.proofs.Paired.{store_of}
use Rattle.service_hosts.proofs.Places.{server_at, server_place}

module _ {S : Type 0} (tells : Type 0) (view : S → View) (script : Script) (start : Tree) (epochs : List ℕ)
    (servers : script.servers ≡ length script.roster.capacity) (news : List (NodeOf S)) (journal : Journal) where
  -- a server stands where its own steps in the journal have brought it
  abbrev StandsSo : ℕ → ServerNode S → Type 0
  StandsSo k b = StandsAfter (stands_any HostStands (ServerStands tells view)) (beginning script start epochs) journal
      (server_at (k + 1)) (Server b)

  -- the server of a store, at its place
  record IsThere (all : List (ServerNode S)) (k : ℕ) (store : S) : Type 0 where
    node : ServerNode S
    here : slice_get all k ≡ Some node
    is : store_of node ≡ store
    within : k < length all

  found : (servers : List (ServerNode S)) (k : ℕ) (store : S) → slice_get (map store_of servers) k ≡ Some store
      → IsThere servers k store
  found [] k store e = absurd (cc)
  found (x ∷ servers) zero store e =
      (let same : store_of x ≡ store = cc in record { node = x; here = refl; is = same; within = omega arith })
  found (x ∷ servers) (suc k) store e =
      (let r = found servers k store e in
      let lt = r.within in
      record { node = r.node; here = r.here; is = r.is; within = omega (arith, lt) })

  -- what holds of each node at its place holds of each server
  module _ (Q : Node → NodeOf S → Type 0) (all : (i : ℕ) (n : NodeOf S) (node : Node) → i < length news
      → Q (get_or (nodes_of script) i node) (get_or news i n)) where
    server_so : (stores : List S) (over : AreOver news (length script.roster.hosts + 1) stores) (k : ℕ)
        (b : ServerNode S) → slice_get over.servers k ≡ Some b → k < script.servers → Q (server_at (k + 1)) (Server b)
    server_so stores over k b here lt =
        (let place = (length script.roster.hosts + 1) + k in
        let found = server_at_place news (length script.roster.hosts + 1) stores over k b here in
        subst (λ (n : NodeOf S). Q (server_at (k + 1)) n) (found.1 (Server b))
        (subst (λ (n : Node). Q n (get_or news place (Server b))) (server_place script k place (server_at 1) lt refl)
        (all place (Server b) (server_at 1) found.0)))

    -- and of its store
    store_so : (P : ℕ → S → Type 0)
        → ((k : ℕ) (b : ServerNode S) → Q (server_at (k + 1)) (Server b) → P k (store_of b))
        → (stores : List S) → AreOver news (length script.roster.hosts + 1) stores
        → length stores ≡ length script.roster.capacity → (k : ℕ) (store : S) → slice_get stores k ≡ Some store
        → P k store
    store_so P h stores over count k store here =
        (let f : IsThere over.servers k store =
        found over.servers k store (ap (λ (l : List S). slice_get l k) over.over ∙ here) in
        let within = f.within in
        let many = sym (map_long store_of over.servers) ∙ ap (λ (l : List S). length l) over.over in
        let few : k < script.servers = omega (arith, within, many, count, servers) in
        subst (P k) f.is (h k f.node (server_so stores over k f.node f.here few)))

  module _ (stand : StandAfter (stands_any HostStands (ServerStands tells view)) (beginning script start epochs) journal
      news) where
    -- what holds of each server's store
    each_store : (P : ℕ → S → Type 0) → ((k : ℕ) (b : ServerNode S) → StandsSo k b → P k (store_of b))
        → (stores : List S) → AreOver news (length script.roster.hosts + 1) stores
        → length stores ≡ length script.roster.capacity → (k : ℕ) (store : S) → slice_get stores k ≡ Some store
        → P k store
    each_store = store_so (StandsAfter (stands_any HostStands (ServerStands tells view)) (beginning script start epochs)
        journal) stand

    ready_of : (k : ℕ) (b : ServerNode S) → StandsSo k b → (view (store_of b)).ready
    ready_of k b st =
        ready_at tells view (beginning script start epochs) (record { 0 = k + 1 }) b st.rounds st.stood

    so_far_of : tells → (k : ℕ) (b : ServerNode S) → StandsSo k b
        → KeepsOf (kept_so_far start journal (record { 0 = k + 1 })) (view (store_of b)).state
    so_far_of t k b st =
        subst (λ (l : List Step). KeepsOf (filesets_kept start (record { 0 = k + 1 }) l) (view (store_of b)).state)
        (sym st.own) (st.stood.so.keeps t).stands.keeps

    pub keep_so_far : (stores : List S) → AreOver news (length script.roster.hosts + 1) stores
        → length stores ≡ length script.roster.capacity → KeepSoFar tells view start journal stores
    keep_so_far stores over count = record {
      ready = each_store (λ k store. (view store).ready) ready_of stores over count;
      keeps = λ t. each_store (λ k store. KeepsOf (kept_so_far start journal (record { 0 = k + 1 })) (view store).state)
          (so_far_of t) stores over count;
    }

  module _ (d : HasDriven (Unit {0} × tells) (stands_any HostStands
      (ServerStands tells view)) script start epochs news journal) where
    has_run : tells → HasRun script journal
    has_run t = record { run = d.run (tt, t); dutiful = d.dutiful (tt, t); ended = d.ended (tt, t) }

    keeps_at : tells → (k : ℕ) (b : ServerNode S) → StandsSo k b
        → KeepsOf (last_tree start journal) (view (store_of b)).state
    keeps_at t k b st =
        subst (λ (tree : Tree). KeepsOf tree (view (store_of b)).state) (tree_is start journal)
        (keeps_at_end tells view (beginning script start epochs) (record { 0 = k + 1 }) b journal (has_run t).run
        (has_run t).ended d.starts st.rounds st.stood st.own t)

    pub are_keeping : (stores : List S) → AreOver news (length script.roster.hosts + 1) stores
        → length stores ≡ length script.roster.capacity → AreKeeping tells view (last_tree start journal) stores
    are_keeping stores over count = record {
      ready = each_store d.stand (λ k store. (view store).ready) (ready_of d.stand) stores over count;
      keeps = λ t. each_store d.stand (λ k store. KeepsOf (last_tree start journal) (view store).state) (keeps_at t)
          stores over count;
    }

    pub has_hosted : (olds stores : List S) (over : AreOver news (length script.roster.hosts + 1) stores)
        → length stores ≡ length script.roster.capacity → (tells → epochs ≡ epochs_of view olds)
        → HasHosted tells view script start olds stores journal
    has_hosted olds stores over count are = record {
      starts = d.starts;
      epochs = λ t. d.epochs_are ∙ are t;
      planned = d.planned;
      run = has_run;
      kept = are_keeping stores over count;
    }

  -- a server has stood where its own steps in the journal brought it
  abbrev HasStoodSo : Node → NodeOf S → Type 0
  HasStoodSo = HasStoodAfter (stands_any HostStands (ServerStands tells view)) (StaysSo tells view)
      (FailedSo tells view) (BrokenSo tells view) (beginning script start epochs) journal

  -- a store keeps its server's own steps in the journal, and some more
  kept_more : (k : ℕ) (b : ServerNode S) → journal.epochs ≡ epochs → (own : List Step)
      → own_in journal (record { 0 = k + 1 }) ≡ own → (more : List Step)
      → Always (OwnMeets (beginning script start epochs) (server_at (k + 1))) (appended more own)
      → KeepsOf (filesets_kept start (record { 0 = k + 1 }) (appended more own)) (view (store_of b)).state
      → KeepsMore script start journal (record { 0 = k + 1 }) (view (store_of b)).state
  kept_more k b are own is more meets keeps =
      let server : ServerId = record { 0 = k + 1 } in record {
        more = more;
        rules = subst (λ (e : List ℕ). Always (OwnMeets (beginning script start e) (OfServer server))
            (appended more (own_in journal server))) (sym are)
            (subst (λ (l : List Step). Always (OwnMeets (beginning script start epochs) (OfServer server))
            (appended more l)) (sym is) meets);
        keeps = subst (λ (l : List Step). KeepsOf (filesets_kept start server (appended more l))
            (view (store_of b)).state) (sym is) keeps;
      }

  -- it stands there still, with some more steps
  kept_still : tells → (k : ℕ) (b : ServerNode S) → journal.epochs ≡ epochs
      → (st : HasStoodSo (server_at (k + 1)) (Server b)) → (more : List Step)
      → ServerStands tells view (part_of (beginning script start epochs) (server_at (k + 1))) b st.rounds more
      → KeepsMore script start journal (record { 0 = k + 1 }) (view (store_of b)).state
  kept_still t k b are st more so =
      kept_more k b are _ st.own more (so.so.kept.meets t) (so.so.keeps t).stands.keeps

  -- or it failed since then
  kept_till : tells → (k : ℕ) (b : ServerNode S) → journal.epochs ≡ epochs
      → (st : HasStoodSo (server_at (k + 1)) (Server b))
      → HasBroken tells view (part_of (beginning script start epochs) (server_at (k + 1))) b st.rounds
      → HasComeFrom script start journal (record { 0 = k + 1 }) (view (store_of b)).state
  kept_till t k b are st broken =
      let server : ServerId = record { 0 = k + 1 } in
      let given = messages_given st.rounds in
      let state = (view (store_of b)).state in record {
        given = given;
        sent = st.sent;
        more = subst (λ (e : List ℕ). HasDoneMore (beginning script start e) server (own_in journal server) given state)
            (sym are)
            (subst (λ (l : List Step). HasDoneMore (beginning script start epochs) server l given state) (sym st.own)
            (broken t));
      }

  kept_of : tells → journal.epochs ≡ epochs → (k : ℕ) (b : ServerNode S) → HasStoodSo (server_at (k + 1)) (Server b)
      → HasKept script start journal (record { 0 = k + 1 }) (view (store_of b))
  kept_of t are k b st = ⊎_elim
      (λ (x : (made : List Step) × stands_any HostStands (ServerStands tells view)
      (part_of (beginning script start epochs) (server_at (k + 1))) (Server b) st.rounds made
      × StaysSo tells view st.before (Server b)). inl (kept_still t k b are st x.0 x.1, x.1.ready.fit.ready))
      (λ (x : ((fault : NodeFault) × FailedSo tells view fault st.before (Server b))
      × BrokenSo tells view (part_of (beginning script start epochs) (server_at (k + 1))) (Server b) st.rounds).
      inr (kept_till t k b are st x.1))
      st.since

  -- and where it came to no end
  pub so_far_hosted : HasStopped (Unit {0} × tells) (stands_any HostStands (ServerStands tells view))
      (StaysSo tells view) (FailedSo tells view) (BrokenSo tells view) script start epochs news journal
      → (result : Result Journal HostsStopped) → ((waiting : Waiting) → result ≡ Err (Stuck waiting) → StandAfter
      (stands_any HostStands (ServerStands tells view)) (beginning script start epochs) journal news)
      → (olds stores : List S) → AreOver news (length script.roster.hosts + 1) stores
      → length stores ≡ length script.roster.capacity → (tells → epochs ≡ epochs_of view olds)
      → HasHostedSoFar tells view script start olds stores result journal
  so_far_hosted d result rest olds stores over count are = record {
    starts = d.starts;
    epochs = λ t. d.epochs_are ∙ are t;
    planned = d.planned;
    run = λ t. d.run (tt, t);
    dutiful = λ t. d.dutiful (tt, t);
    kept = λ t. store_so HasStoodSo d.stood
        (λ k store. HasKept script start journal (record { 0 = k + 1 }) (view store)) (kept_of t d.epochs_are)
        stores over count;
    rested = λ waiting is. keep_so_far (rest waiting is) stores over count;
  }

  -- or to its end
  kept_after : tells → journal.epochs ≡ epochs → (k : ℕ) (b : ServerNode S) → StandsSo k b
      → HasKept script start journal (record { 0 = k + 1 }) (view (store_of b))
  kept_after t are k b st = inl (
    kept_more k b are _ st.own [] (st.stood.so.kept.meets t) (st.stood.so.keeps t).stands.keeps,
    st.stood.ready.fit.ready,
  )

  pub so_far_ended : HasDriven (Unit {0} × tells) (stands_any HostStands (ServerStands tells view)) script start epochs
      news journal → (result : Result Journal HostsStopped)
      → (olds stores : List S) → AreOver news (length script.roster.hosts + 1) stores
      → length stores ≡ length script.roster.capacity → (tells → epochs ≡ epochs_of view olds)
      → HasHostedSoFar tells view script start olds stores result journal
  so_far_ended d result olds stores over count are = record {
    starts = d.starts;
    epochs = λ t. d.epochs_are ∙ are t;
    planned = d.planned;
    run = λ t. d.run (tt, t);
    dutiful = λ t. d.dutiful (tt, t);
    kept = λ t. each_store d.stand
        (λ k store. HasKept script start journal (record { 0 = k + 1 }) (view store))
        (kept_after t d.epochs_are) stores over count;
    rested = λ waiting is. keep_so_far d.stand stores over count;
  }

-- what is known of a journal, if there is one
if_some : {A : Type 0} (o : Option A) (P Q : A → Type 0) → ((x : A) → o ≡ Some x → P x → Q x) → IfSome o P
    → IfSome o Q
if_some None P Q f h = tt
if_some (Some x) P Q f h = f x refl h

some_at : {A : Type 0} (o : Option A) (x : A) (P : A → Type 0) → o ≡ Some x → IfSome o P → P x
some_at {A} o x P e h = subst (λ (q : Option A). IfSome q P) e h

stuck_of : (hosts : ℕ) (fault : DriveFault) (w : Waiting) → stopped_by hosts fault ≡ Stuck w → fault ≡ drive.Stuck w
stuck_of hosts (drive.Store k) w e = absurd (cc)
stuck_of hosts (drive.Stuck v) w e = (let same : v ≡ w = cc in ap (λ x. drive.Stuck x) same)
stuck_of hosts drive.Memory w e = absurd (cc)

abbrev stop : HostsStopped → Result Journal HostsStopped
stop why = Err why

stop_is : (x y : HostsStopped) → stop x ≡ stop y → x ≡ y
stop_is x y e = cc

-- so it is with the journal so far of nodes that were driven, by what the driver says
module _ {S : Type 0} (tells : Type 0) (view : S → View) (script : Script) (start : Tree) (epochs : List ℕ)
    (servers : script.servers ≡ length script.roster.capacity) (news : List (NodeOf S))
    (so_far : Option Journal) (fault : DriveFault) (hosts : ℕ)
    (h : IfSome so_far (HasStopped (Unit {0} × tells) (stands_any HostStands (ServerStands tells view))
    (StaysSo tells view) (FailedSo tells view) (BrokenSo tells view) script start epochs news))
    (rest : (w : Waiting) → fault ≡ drive.Stuck w → IfSome so_far (λ journal.
    StandAfter (stands_any HostStands (ServerStands tells view)) (beginning script start epochs) journal news))
    (olds stores : List S) (over : AreOver news (length script.roster.hosts + 1) stores)
    (count : length stores ≡ length script.roster.capacity) (are : tells → epochs ≡ epochs_of view olds) where
  stuck_by : (w : Waiting) → stop (stopped_by hosts fault) ≡ stop (Stuck w) → fault ≡ drive.Stuck w
  stuck_by w e = stuck_of hosts fault w (stop_is (stopped_by hosts fault) (Stuck w) e)

  pub so_far_by : IfSome so_far (HasHostedSoFar tells view script start olds stores (Err (stopped_by hosts fault)))
  so_far_by =
      if_some so_far
      (HasStopped (Unit {0} × tells) (stands_any HostStands (ServerStands tells view)) (StaysSo tells view)
      (FailedSo tells view) (BrokenSo tells view) script start epochs news)
      (HasHostedSoFar tells view script start olds stores (Err (stopped_by hosts fault)))
      (λ journal is d.
      so_far_hosted tells view script start epochs servers news journal d (Err (stopped_by hosts fault))
      (λ w e. some_at so_far journal
      (λ j. StandAfter (stands_any HostStands (ServerStands tells view)) (beginning script start epochs) j news) is
      (rest w (stuck_by w e)))
      olds stores over count are)
      h

  -- and there is one where none is at hand
  abbrev Goes : Type 0
  Goes = (journal : Journal) × HasHostedSoFar tells view script start olds stores (Err (stopped_by hosts fault)) journal

  pub held_by : (so_far ≡ None → fault ≡ drive.Memory)
      → ((journal : Journal) × HasStopped (Unit {0} × tells) (stands_any HostStands (ServerStands tells view))
      (StaysSo tells view) (FailedSo tells view) (BrokenSo tells view) script start epochs news journal) → Goes
  held_by lacks held = by so_far refl
    where
      by : (o : Option Journal) → so_far ≡ o → Goes
      by (Some journal) is = (
        journal,
        some_at so_far journal
            (HasHostedSoFar tells view script start olds stores (Err (stopped_by hosts fault))) is so_far_by,
      )
      by None is = (
        held.0,
        so_far_hosted tells view script start epochs servers news held.0 held.1 (Err (stopped_by hosts fault))
            (λ w e. (let clash : drive.Memory ≡ drive.Stuck w = sym (lacks is) ∙ stuck_by w e in absurd (cc)))
            olds stores over count are,
      )

-- a journal that lacks, lacks for want of memory
pub lacks_by : (result : Result Journal DriveFault) (so_far : Option Journal) (fault : DriveFault) (hosts : ℕ)
    → result ≡ Err fault → IfErr result (λ f. so_far ≡ None → f ≡ drive.Memory) → so_far ≡ None
    → stopped_by hosts fault ≡ OutOfMemory
lacks_by (Ok journal) so_far fault hosts e h none = absurd (cc)
lacks_by (Err f) so_far fault hosts e h none =
    (let same : f ≡ fault = cc in ap (λ x. stopped_by hosts x) (sym same ∙ h none))
