-- The disks of servers whose stores were opened, and closed behind a run.
use Rattle.std.proofs.Common.{◌≡◌, ◌≤◌, ◌<◌, ◌⊎◌, ◌+◌, ◌-◌, ℕ, zero, suc, List, [], ◌∷◌, ◌++◌, length, map, take}
use Rattle.std.proofs.Common.{Some, inl, inr, ⊎_elim, refl, sym, ap, subst, ◌∙◌, arith}
use Rattle.std.specs.Prelude.{slice_get, nat_lt, true, false, IsTrue, Option, Result}
use Rattle.std.specs.Option.{option_map}
use Rattle.std.proofs.lemmas.Bool.{cases_lt, cond-true}
use Rattle.std.proofs.lemmas.Grind.{common_steps}
use Rattle.base_types.specs.Faults.{RoseBy}
use Rattle.base_types.specs.Crash.{IsSettled}
use Rattle.base_types.specs.View.{View as DiskView}
use Rattle.base_types.specs.declared.ids.ServerId.{ServerId}
use Rattle.base_types.specs.Image.{AreBytes}
use Rattle.base_types.specs.declared.limits.TheConstants.{BATCH_ACTS_MAX, SERVERS_MAX}
use Rattle.base_outside.specs.Runs.{LeavesOnly}
use Rattle.base_outside.proofs.Runs.{then, weaker}
use Rattle.tree_calls.specs.declared.roster.Roster.{Roster}
use Rattle.store_memory.specs.MapStores.{kept_in}
use Rattle.store_acts.specs.Acts.{state_after}
use Rattle.store_acts.specs.Sound.{IsAct}
use Rattle.store_acts.specs.declared.act.Act.{Act}
use Rattle.store_memory.specs.Views.{IsFirstOf, IsSameStore, Leaves}
use Rattle.tree_answers.specs.declared.tree.Tree.{Tree}
use Rattle.disk_aggregate.specs.Stands.{disk_in, state_in}
use Rattle.disk_aggregate.specs.StoreView.{aggregate_view, found_of, kept_state}
use Rattle.disk_aggregate.specs.declared.aggregate.Aggregate.{Aggregate}
use Rattle.disk_image.specs.Aggregate.{is_blank}
use Rattle.disk_records.specs.Record.{record_in}
use Rattle.disk_report.specs.Disks.{IsFailing}
use Rattle.service_starts.specs.declared.told.Told.{Told}
use Rattle.store_records.proofs.Acts.{new_is_storable}
use Rattle.store_records.specs.Stored.{IsStorable}
use Rattle.message_types.specs.Soundness.{Each}
use Rattle.service_disks.specs.Opening.{new_store, store_on, IsLeftOfOpening, LeavesOpened}
use Rattle.service_disks.specs.Seats.{AreSeated, seat_tells}
use Rattle.service_disks.specs.Stores.{server_of, disks_of, AreOpen, IsOpenOn, AreBack as AreUnopened}
use Rattle.service_disks.specs.View.{store_view}
use Rattle.service_disks.specs.declared.stores.ServerStore.{ServerStore}
use Rattle.service_disks.specs.declared.stores.ServerStore.TheVariants.{Disk, Memory}
use Rattle.service_moves.specs.Doing.{Step, DoSteps, acts_at}
use Rattle.service_moves.specs.Plans.{states_at}
use Rattle.service_moves.proofs.Whole.{AreIn, in_is, in_so}
use Rattle.service_moves.specs.Stopping.{HasFailed}
use Rattle.service_moves.specs.Stores.{AreSame, AreStores, states_of}
use Rattle.service_stores.specs.Starting.{told_of, told_by}
use Rattle.service_stores.specs.Steps.{MayBeAsked}
use Rattle.std.proofs.Math.Logic.{∥∥₁_map}
use Rattle.service_watch.proofs.Going.{left_first}
use Rattle.service_watch.specs.Gone.{IsLeftOf}
use Rattle.store_state.specs.Capacity.{capacity_of}
use Rattle.store_state.specs.declared.state.StoreState.{StoreState}
use Rattle.store_laws.specs.TreeKeeping.{KeepsOf}
use Rattle.service_run.proofs.Lists.{get_map, mapped}
use Rattle.service_run.specs.Courses.{IsTold, KeepTree}
use Rattle.service_run.specs.Disks.{kept_at, found_at, told_at, images, AreBack, AreFound, BeginsIn, HasDone, IsKept}
use Rattle.run_rules.specs.declared.journal.Journal.{Journal}
use Rattle.script_lines.specs.declared.script.Script.{Script}
use Rattle.service_hosts.specs.Hosting.{HasComeFrom, HasKept, KeepsMore, kept_so_far}
use Rattle.service_run.specs.Disks.{AreKept, AreDurable, AreRested, AreStill, HasRecordSo, HasServed, IsKeptSoFar}
use Rattle.service_run.specs.Disks.{IsLeftBy, IsLeftBySteps}
use Rattle.service_run.specs.Steps.{AreAsPlaced, HasWorked, KeepsWhole, RunsIn}
use Rattle.service_run.specs.declared.outcome.Course.{Course}
use Rattle.service_run.specs.declared.outcome.Course.TheVariants.{Empty, Hosted, Played}

some_lt : (count n : ℕ) → count ≡ n + 1 → nat_lt 0 count ≡ true
some_lt count n e = grind (arith, common_steps, e)

none_lt : (count : ℕ) → count ≡ 0 → nat_lt 0 count ≡ false
none_lt count e = grind (arith, common_steps, e)

-- whether all are bytes
bytes_or : (c : List ℕ) → AreBytes c ⊎ (AreBytes c → ⊥)
bytes_or [] = inl (λ k. omega arith)
bytes_or (x ∷ xs) = by (cases_lt x 256) (bytes_or xs)
  where
    here : x < 256 → AreBytes xs → AreBytes (x ∷ xs)
    here low rest zero = low
    here low rest (suc k) = rest k

    by : (x < 256) ⊎ (256 ≤ x) → AreBytes xs ⊎ (AreBytes xs → ⊥) → AreBytes (x ∷ xs) ⊎ (AreBytes (x ∷ xs) → ⊥)
    by (inl low) (inl rest) = inl (here low rest)
    by (inl low) (inr none) = inr (λ all. none (λ k. all (suc k)))
    by (inr high) rest = inr (λ all. (let first = all zero in omega (arith, high, first)))

-- what a crash in the opening of a disk left
opening_left : (roster : Roster) (server : ServerId) (P : StoreState → Option StoreState → Type 0)
    → ((from : StoreState) (found : Option StoreState) → found ≡ Some from → P from found) → (old c : List ℕ)
    → IsLeftOfOpening roster server old c → IsLeftBy roster server P old c
opening_left roster server P none_done old c (inl (blank, inl none)) = inl (blank, none)
opening_left roster server P none_done old c (inl (blank, inr has)) =
    inr (inr (λ bytes. (
      new_store roster server,
      cond-true (is_blank old) (Some (new_store roster server))
          (record_in roster server old) blank,
      none_done (new_store roster server) (record_in roster server c) has,
    )))
opening_left roster server P none_done old c (inr (other, same)) = inr (inl (other, same))

told_here : {D : Type 0} (tells : Type 0) (disk : D) (disks : List D) → IsTold tells (disk ∷ disks) → tells
told_here tells disk disks any = any (omega arith)

told_next : {D : Type 0} (tells : Type 0) (disk : D) (disks : List D) → IsTold tells (disk ∷ disks) → IsTold tells disks
told_next tells disk disks any = λ _. told_here tells disk disks any

module _ {D : Type 0} (tells : Type 0) (view : D → DiskView) (roster : Roster) where
  pub are_stores : (n : ℕ) (disks : List D) (stores : List (ServerStore D)) → AreOpen tells view roster n disks
      stores → AreStores (store_view tells view) roster 0 n stores
  are_stores n [] [] are = tt
  are_stores n [] (Disk store ∷ stores) are = absurd are
  are_stores n [] (Memory store ∷ stores) are = (
    record {
      server = ap (λ (s : StoreState). s.server) are.0;
      roster_is = ap (λ (s : StoreState). s.roster) are.0;
      ready = tt;
      mendable = tt;
      wear = (let e : (kept_in store).epoch + (kept_in store).ship ≡ 0 = ap (λ (s : StoreState). s.epoch + s.ship)
          are.0 in omega (arith, e));
    },
    are_stores (n + 1) [] stores are.1,
  )
  are_stores n (disk ∷ disks) [] are = absurd are
  are_stores n (disk ∷ disks) (Memory store ∷ stores) are = absurd are
  are_stores n (disk ∷ disks) (Disk store ∷ stores) are = (
    record {
      server = ap (λ (s : StoreState). s.server) are.0.opened.state ∙ are.0.server_is;
      roster_is = ap (λ (s : StoreState). s.roster) are.0.opened.state ∙ are.0.roster_is;
      ready = are.0.opened.ready;
      mendable = are.0.opened.mendable;
      wear = (let e = are.0.opened.wear in omega (arith, e));
    },
    are_stores (n + 1) disks stores are.1,
  )

  pub are_storable : (n : ℕ) (disks : List D) (stores : List (ServerStore D)) → IsTold tells disks → 1 ≤ n → n +
      length stores ≤ SERVERS_MAX + 1 → length roster.capacity ≤ SERVERS_MAX
      → AreOpen tells view roster n disks stores → Each IsStorable (states_of (store_view tells view) stores)
  are_storable n [] [] any low high few are = tt
  are_storable n [] (Disk store ∷ stores) any low high few are = absurd are
  are_storable n [] (Memory store ∷ stores) any low high few are = (
    subst IsStorable (sym are.0) (new_is_storable (server_of n) (capacity_of roster (server_of n)) roster low
        (omega (arith, high)) few),
    are_storable (n + 1) [] stores any (omega arith) (omega (arith, high)) few are.1,
  )
  are_storable n (disk ∷ disks) [] any low high few are = absurd are
  are_storable n (disk ∷ disks) (Memory store ∷ stores) any low high few are = absurd are
  are_storable n (disk ∷ disks) (Disk store ∷ stores) any low high few are = (
    (are.0.opened.mendable (told_here tells disk disks any)).store.storable,
    are_storable (n + 1) disks stores (told_next tells disk disks any) (omega arith) (omega (arith, high)) few are.1,
  )

  memory_seated : (count n : ℕ) (stores : List (ServerStore D)) → count < n → AreOpen tells view roster n [] stores
      → AreSeated tells view count stores
  memory_seated count n [] less are = tt
  memory_seated count n (Disk store ∷ stores) less are = absurd are
  memory_seated count n (Memory store ∷ stores) less are =
      (let e : (kept_in store).server.0 ≡ n = ap (λ (s : StoreState). s.server.0) are.0 in
      (omega (arith, e, less), memory_seated count (n + 1) stores (omega (arith, less)) are.1))

  pub are_seated : (count n : ℕ) (disks : List D) (stores : List (ServerStore D)) → 1 ≤ n → n + length disks ≡ count
      + 1 → AreOpen tells view roster n disks stores → AreSeated tells view count stores
  are_seated count n [] stores low is are = memory_seated count n stores (omega (arith, is)) are
  are_seated count n (disk ∷ disks) [] low is are = absurd are
  are_seated count n (disk ∷ disks) (Memory store ∷ stores) low is are = absurd are
  are_seated count n (disk ∷ disks) (Disk store ∷ stores) low is are =
      (let e : (kept_state view store).server.0 ≡ n = ap (λ (s : StoreState). s.server.0) are.0.opened.state ∙ ap
      (λ (s : ServerId). s.0) are.0.server_is in (
        (omega (arith, low, is), omega (arith, e, is)),
        are_seated count (n + 1) disks stores (omega arith)
            (omega (arith, is)) are.1,
      ))

  -- what their stores keep
  kept_there : (n k m : ℕ) (disks : List D) (stores : List (ServerStore D)) (state : StoreState) → IsTold tells disks
      → AreOpen tells view roster n disks stores → m ≡ n + k
      → slice_get (states_of (store_view tells view) stores) k ≡ Some state → kept_at roster m
      (slice_get (images view disks) k) ≡ Some state
  kept_there n k m [] [] state any are e is = absurd (cc)
  kept_there n k m [] (Disk store ∷ stores) state any are e is = absurd are
  kept_there n zero m [] (Memory store ∷ stores) state any are e is =
      (let same : m ≡ n = omega (arith, e) in
      let state_is : kept_in store ≡ state = cc in
      ap (λ i. Some (new_store roster (server_of i))) same ∙ ap (λ (s : StoreState). Some s) (sym are.0 ∙ state_is))
  kept_there n (suc k) m [] (Memory store ∷ stores) state any are e is = kept_there (n + 1) k m [] stores state any
      are.1 (omega (arith, e)) is
  kept_there n k m (disk ∷ disks) [] state any are e is = absurd are
  kept_there n k m (disk ∷ disks) (Memory store ∷ stores) state any are e is = absurd are
  kept_there n zero m (disk ∷ disks) (Disk store ∷ stores) state any are e is =
      (let same : m ≡ n = omega (arith, e) in
      let state_is : kept_state view store ≡ state = cc in
      ap (λ i. store_on roster (server_of i) (view disk).image) same ∙ are.0.kept (told_here tells disk disks any)
      ∙ ap (λ (s : StoreState). Some s) (sym are.0.opened.state ∙ state_is))
  kept_there n (suc k) m (disk ∷ disks) (Disk store ∷ stores) state any are e is = kept_there (n + 1) k m disks
      stores state (told_next tells disk disks any) are.1 (omega (arith, e)) is

  pub states_in : (disks : List D) (stores : List (ServerStore D)) → IsTold tells disks → AreOpen tells view roster 1
      disks stores → AreIn (states_at (store_view tells view) stores) (found_at roster (images view disks))
  states_in disks stores any are =
      in_so (states_at (store_view tells view) stores) (found_at roster (images view disks))
      (λ place state is. kept_there 1 place (place + 1) disks stores state any are (omega arith) is)

  -- what the servers tell
  told_there : (n k m count : ℕ) (disks : List D) (stores : List (ServerStore D)) (told : Told) → IsTold tells disks
      → AreOpen tells view roster n disks stores → count ≡ length disks → m ≡ n + k
      → slice_get (told_by (store_view tells view) count stores) k ≡ Some told → told_at roster m
      (slice_get (images view disks) k) ≡ Some told
  told_there n k m count [] [] told any are c e is = absurd (cc)
  told_there n k m count [] (Disk store ∷ stores) told any are c e is = absurd are
  told_there n zero m count [] (Memory store ∷ stores) told any are c e is =
      (let same : m ≡ n = omega (arith, e) in
      let told_is : told_of (nat_lt 0 count) (kept_in store) ≡ told = cc in
      ap (λ i. Some (told_of false (new_store roster (server_of i)))) same ∙ ap
      (λ (s : StoreState). Some (told_of false s)) (sym are.0)
      ∙ ap (λ b. Some (told_of b (kept_in store))) (sym (none_lt count c)) ∙ ap (λ (x : Told). Some x) told_is)
  told_there n (suc k) m count [] (Memory store ∷ stores) told any are c e is = told_there (n + 1) k m (count - 1) []
      stores told any are.1 (omega (arith, c)) (omega (arith, e)) is
  told_there n k m count (disk ∷ disks) [] told any are c e is = absurd are
  told_there n k m count (disk ∷ disks) (Memory store ∷ stores) told any are c e is = absurd are
  told_there n zero m count (disk ∷ disks) (Disk store ∷ stores) told any are c e is =
      (let same : m ≡ n = omega (arith, e) in
      let told_is : told_of (nat_lt 0 count) (kept_state view store) ≡ told = cc in
      ap (λ i. option_map (told_of true) (store_on roster (server_of i) (view disk).image)) same
      ∙ ap (λ (o : Option StoreState). option_map (told_of true) o) (are.0.kept (told_here tells disk disks any))
      ∙ ap (λ (s : StoreState). Some (told_of true s)) (sym are.0.opened.state)
      ∙ ap (λ b. Some (told_of b (kept_state view store))) (sym (some_lt count (length disks) (omega (arith, c))))
      ∙ ap (λ (x : Told). Some x) told_is)
  told_there n (suc k) m count (disk ∷ disks) (Disk store ∷ stores) told any are c e is =
      told_there (n + 1) k m (count - 1) disks stores told (told_next tells disk disks any) are.1 (omega (arith, c))
      (omega (arith, e)) is

  told_count : (count : ℕ) (stores : List (ServerStore D)) → length (told_by (store_view tells view) count stores)
      ≡ length stores
  told_count count [] = refl
  told_count count (store ∷ stores) = ap (λ i. suc i) (told_count (count - 1) stores)

  pub are_found : (disks : List D) (stores : List (ServerStore D)) → IsTold tells disks → AreOpen tells view roster 1
      disks stores → length stores ≡ length roster.capacity
      → AreFound roster (images view disks) (told_by (store_view tells view) (length disks) stores)
  are_found disks stores any are count = record {
    count = told_count (length disks) stores ∙ count;
    each = λ k told is. told_there 1 k (k + 1) (length disks) disks stores told any are refl (omega arith) is;
  }

  -- each server begins a run in the next epoch of its store
  pub begins_in : (disks : List D) (stores : List (ServerStore D)) → IsTold tells disks → AreOpen tells view roster 1
      disks stores → (run : Course)
      → RunsIn (map (λ (state : StoreState). state.epoch + 1) (states_of (store_view tells view) stores)) run
      → BeginsIn roster (images view disks) run
  begins_in disks stores any are Empty runs = tt
  begins_in disks stores any are (Played played) runs = tt
  begins_in disks stores any are (Hosted journal) runs = λ k epoch state at found.
      (let m = mapped (λ (s : StoreState). s.epoch + 1) (states_of (store_view tells view) stores) k epoch
      (ap (λ (l : List ℕ). slice_get l k) (sym runs) ∙ at) in
      let there = in_is (states_at (store_view tells view) stores) (found_at roster (images view disks))
      (states_in disks stores any are) k m.from m.was in
      let same : m.from ≡ state = cc in
      sym m.is ∙ ap (λ (s : StoreState). s.epoch + 1) same)

  -- the disk at a place behind a run
  pub record At (m k : ℕ) (olds : List D) (stores left : List (ServerStore D)) (new : D) : Type 0 where
    pub old : D
    pub store : Aggregate D
    pub after : Aggregate D
    pub was : slice_get olds k ≡ Some old
    pub is : disk_in after ≡ new
    pub opened : IsOpenOn tells view roster (server_of m) old store
    pub same : IsSameStore (aggregate_view tells view store) (aggregate_view tells view after)
    pub mendable : (aggregate_view tells view after).mendable
    pub counted : (view (disk_in store)).faults ≤ (view (disk_in after)).faults
    pub in_stores : slice_get stores k ≡ Some (Disk store)
    pub in_left : slice_get left k ≡ Some (Disk after)

  none_left : (n : ℕ) (stores left : List (ServerStore D)) → AreOpen tells view roster n [] stores → AreAsPlaced
      stores left → disks_of left ≡ []
  none_left n [] [] are placed = refl
  none_left n [] (Disk after ∷ left) are placed = absurd placed
  none_left n [] (Memory after ∷ left) are placed = absurd placed
  none_left n (Disk store ∷ stores) left are placed = absurd are
  none_left n (Memory store ∷ stores) [] are placed = absurd placed
  none_left n (Memory store ∷ stores) (Disk after ∷ left) are placed = absurd placed
  none_left n (Memory store ∷ stores) (Memory after ∷ left) are placed = none_left (n + 1) stores left are.1 placed

  at_disk : (n k m : ℕ) (olds : List D) (stores left : List (ServerStore D)) (new : D) → AreOpen tells view roster n
      olds stores → AreAsPlaced stores left
      → AreSame (store_view tells view) stores left → m ≡ n + k → slice_get (disks_of left) k ≡ Some new → At m k
      olds stores left new
  at_disk n k m [] stores left new are placed same e is = absurd
      (let none = ap (λ (l : List D). slice_get l k) (none_left n stores left are placed) in cc)
  at_disk n k m (x ∷ olds) [] left new are placed same e is = absurd are
  at_disk n k m (x ∷ olds) (Memory store ∷ stores) left new are placed same e is = absurd are
  at_disk n k m (x ∷ olds) (Disk store ∷ stores) [] new are placed same e is = absurd placed
  at_disk n k m (x ∷ olds) (Disk store ∷ stores) (Memory after ∷ left) new are placed same e is = absurd placed
  at_disk n zero m (x ∷ olds) (Disk store ∷ stores) (Disk after ∷ left) new are placed same e is = record {
    old = x;
    store = store;
    after = after;
    was = refl;
    is = cc;
    opened = subst (λ (i : ℕ). IsOpenOn tells view roster (server_of i) x store)
        (let q : n ≡ m = omega (arith, e) in q) are.0;
    same = same.0;
    mendable = same.1;
    counted = same.2;
    in_stores = refl;
    in_left = refl;
  }
  at_disk n (suc k) m (x ∷ olds) (Disk store ∷ stores) (Disk after ∷ left) new are placed same e is =
      (let a = at_disk (n + 1) k m olds stores left new are.1 placed same.3 (omega (arith, e)) is in
      record {
        old = a.old;
        store = a.store;
        after = a.after;
        was = a.was;
        is = a.is;
        opened = a.opened;
        same =
            a.same;
        mendable = a.mendable;
        counted = a.counted;
        in_stores = a.in_stores;
        in_left = a.in_left;
      })

  left_count : (n : ℕ) (olds : List D) (stores left : List (ServerStore D)) → AreOpen tells view roster n olds stores
      → AreAsPlaced stores left → length (disks_of left) ≡ length olds
  left_count n [] stores left are placed = ap length (none_left n stores left are placed)
  left_count n (x ∷ olds) [] left are placed = absurd are
  left_count n (x ∷ olds) (Memory store ∷ stores) left are placed = absurd are
  left_count n (x ∷ olds) (Disk store ∷ stores) [] are placed = absurd placed
  left_count n (x ∷ olds) (Disk store ∷ stores) (Memory after ∷ left) are placed = absurd placed
  left_count n (x ∷ olds) (Disk store ∷ stores) (Disk after ∷ left) are placed = ap (λ i. suc i)
      (left_count (n + 1) olds stores left are.1 placed)

  -- what it keeps is what its bytes have
  has_found : tells → (m k : ℕ) (olds : List D) (stores left : List (ServerStore D)) (new : D)
      → (a : At m k olds stores left new)
      → record_in roster (server_of m) (view new).image ≡ Some (kept_state view a.after)
  has_found t m k olds stores left new a =
      (let state = kept_state view a.after in
      let image = (view (disk_in a.after)).image in
      let has : record_in state.roster state.server image ≡ Some state = (a.mendable t).store.found in
      let server : state.server ≡ server_of m = a.same.server ∙ ap (λ (s : StoreState). s.server)
      a.opened.opened.state ∙ a.opened.server_is in
      let its : state.roster ≡ roster = a.same.roster ∙ ap (λ (s : StoreState). s.roster) a.opened.opened.state
      ∙ a.opened.roster_is in
      let one : record_in roster state.server image ≡ Some state = subst
      (λ (r : Roster). record_in r state.server image ≡ Some state) its has in
      let two : record_in roster (server_of m) image ≡ Some state = subst
      (λ (s : ServerId). record_in roster s image ≡ Some state) server one in
      subst (λ (d : D). record_in roster (server_of m) (view d).image ≡ Some state) a.is two)

  -- what it kept is the store that was on its disk
  had : tells → (m k : ℕ) (olds : List D) (stores left : List (ServerStore D)) (new : D)
      → (a : At m k olds stores left new)
      → store_on roster (server_of m) (view a.old).image ≡ Some (kept_state view a.store)
  had t m k olds stores left new a = a.opened.kept t ∙ ap (λ (s : StoreState). Some s) (sym a.opened.opened.state)

  module _ (olds : List D) (stores left : List (ServerStore D)) (are : AreOpen tells view roster 1 olds stores)
      (placed : AreAsPlaced stores left) (same : AreSame (store_view tells view) stores left) where
    at : (k : ℕ) (new : D) → slice_get (disks_of left) k ≡ Some new → At (k + 1) k olds stores left new
    at k new is = at_disk 1 k (k + 1) olds stores left new are placed same (omega arith) is

    -- what became of the disk at a place
    module _ (t : tells) (k : ℕ) (old new : D) (was : slice_get olds k ≡ Some old)
        (is : slice_get (disks_of left) k ≡ Some new) where
      here : At (k + 1) k olds stores left new
      here = at k new is

      disk : here.old ≡ old
      disk = (let p = here.was in cc)

      abbrev from : StoreState
      from = kept_state view here.store

      from_was : store_on roster (server_of (k + 1)) (view old).image ≡ Some from
      from_was = subst (λ (d : D). store_on roster (server_of (k + 1)) (view d).image ≡ Some from) disk
          (had t (k + 1) k olds stores left new here)

      done_by : (acts : List Act) → kept_state view here.after ≡ state_after from acts → HasDone roster
          (server_of (k + 1)) acts (view old).image (view new).image
      done_by acts made = record {
        from = from;
        was = from_was;
        now = has_found t (k + 1) k olds stores left new here ∙ ap (λ (s : StoreState). Some s) made;
      }

      -- of bytes that a crash left the record is found by what the store was made for
      found_is : (c : List ℕ) → found_of here.store c ≡ record_in roster (server_of (k + 1)) c
      found_is c = λ i. record_in (here.opened.roster_is i) (here.opened.server_is i) c

      module _ (P : StoreState → Option StoreState → Type 0)
          (none_done : (from : StoreState) (found : Option StoreState) → found ≡ Some from → P from found)
          (run : Leaves (P from) (aggregate_view tells view here.store) (aggregate_view tells view here.after)) where
        run_left : LeavesOnly (IsLeftBy roster (server_of (k + 1)) P (view old).image)
            (view (disk_in here.store)) (view (disk_in here.after))
        run_left = record { later = run.later; each = λ moment c le left. by moment c le left (bytes_or c) }
          where
            by : (moment : ℕ) (c : List ℕ) → moment ≤ (view (disk_in here.store)).moment
                → (view (disk_in here.after)).left_since moment c → AreBytes c ⊎ (AreBytes c → ⊥)
                → (view (disk_in here.store)).left_since moment c ⊎ IsLeftBy roster (server_of (k + 1)) P
                (view old).image c
            by moment c le left (inl bytes) =
                ⊎_elim (λ earlier. inl earlier.1)
                (λ first. inr (inr (inr (λ _. (from, from_was, subst (λ o. P from o) (found_is c) first)))))
                (run.each moment c le (bytes, left))
            by moment c le left (inr none) = inr (inr (inr (λ bytes. absurd (none bytes))))

        left_by : LeavesOnly (IsLeftBy roster (server_of (k + 1)) P (view old).image) (view old) (view new)
        left_by =
            subst (λ (d : D). LeavesOnly (IsLeftBy roster (server_of (k + 1)) P (view old).image) (view old)
            (view d)) here.is
            (then (weaker opened (λ c left. opening_left roster (server_of (k + 1)) P none_done (view old).image c
            left)) run_left)
          where
            opened : LeavesOpened roster (server_of (k + 1)) (view old) (view (disk_in here.store))
            opened = subst (λ (d : D). LeavesOpened roster (server_of (k + 1)) (view d) (view (disk_in here.store)))
                disk (here.opened.crash t)

      -- it went by the steps of its store
      module _ {T E : Type 0} (result : Result T E) (steps : List Step)
          (does : DoSteps (store_view tells view) result steps stores left) where
        pub has_done : HasDone roster (server_of (k + 1)) (acts_at k (take does.cut steps)) (view old).image
            (view new).image
        has_done = done_by (acts_at k (take does.cut steps))
            (does.states k (Disk here.store) (Disk here.after) here.in_stores here.in_left)

        pub has_left : LeavesOnly (IsLeftBySteps roster (server_of (k + 1))
            (acts_at k (take (does.cut + BATCH_ACTS_MAX) steps)) (view old).image) (view old) (view new)
        has_left =
            left_by (λ s found. IsFirstOf s (acts_at k (take (does.cut + BATCH_ACTS_MAX) steps)) found)
            (λ s found e. (0, omega arith, e))
            (does.leaves k (Disk here.store) (Disk here.after) here.in_stores here.in_left)

      -- or by what its server did
      served_by : (begins : List Act) → HasWorked begins (store_view tells view (Disk here.store))
          (store_view tells view (Disk here.after)) → HasServed roster (server_of (k + 1)) begins (view old) (view new)
      served_by begins w =
          (let all = begins ++ w.acts in
          let its : from.roster ≡ roster = ap (λ (s : StoreState). s.roster) here.opened.opened.state
          ∙ here.opened.roster_is in
          let server : from.server ≡ server_of (k + 1) = ap (λ (s : StoreState). s.server) here.opened.opened.state
          ∙ here.opened.server_is in
          record {
            acts = w.acts;
            each = subst (λ (r : Roster). Each (IsAct r (server_of (k + 1))) w.acts) its
                (subst (λ (s : ServerId). Each (IsAct from.roster s) w.acts) server w.each);
            done = done_by all w.state;
            leaves = left_by (λ s found. IsLeftOf s all found)
                (λ s found e. left_first s all found (0, omega arith, e)) w.leaves;
          })

      pub has_served : (begins : List Act) → ((before after : ServerStore D) → slice_get stores k ≡ Some before
          → slice_get left k ≡ Some after → ∥ HasWorked begins (store_view tells view before)
          (store_view tells view after) ∥₁) → ∥ HasServed roster (server_of (k + 1)) begins (view old) (view new) ∥₁
      has_served begins worked =
          ∥∥₁_map (worked (Disk here.store) (Disk here.after) here.in_stores here.in_left) (λ w. served_by begins w)

    pub are_kept : tells → (tree : Tree) → KeepTree tree (states_of (store_view tells view) left) → AreKept tree
        (images view (disks_of left))
    are_kept t tree keep k image is =
        (let m = mapped (λ disk. (view disk).image) (disks_of left) k image is in
        let a = at k m.from m.was in
        let state = kept_state view a.after in
        let found : record_in roster (server_of (k + 1)) image ≡ Some state = subst
        (λ (l : List ℕ). record_in roster (server_of (k + 1)) l ≡ Some state) m.is
        (has_found t (k + 1) k olds stores left m.from a) in
        let keeps : KeepsOf tree state = keep k state (get_map (λ store. (store_view tells view store).state) left k
        (Disk a.after) a.in_left) in
        let its : state.roster ≡ roster = a.same.roster ∙ ap (λ (s : StoreState). s.roster) a.opened.opened.state
        ∙ a.opened.roster_is in
        record {
          state = state;
          found = subst (λ (r : Roster). record_in r (server_of (k + 1)) image ≡ Some state)
              (sym its ∙ keeps.roster) found;
          keeps = keeps;
        })

    -- and what each keeps of what happened so far
    pub are_kept_so_far : tells → (script : Script) → script.roster ≡ roster → (start : Tree) (journal : Journal)
        → ((k : ℕ) (store : ServerStore D) → slice_get left k ≡ Some store
        → HasKept script start journal (record { 0 = k + 1 }) (store_view tells view store))
        → (k : ℕ) (disk : D) → slice_get (disks_of left) k ≡ Some disk
        → IsKeptSoFar script start journal (k + 1) (view disk)
    are_kept_so_far t script its start journal kept k disk is =
        (let a = at k disk is in
        let state = kept_state view a.after in
        let more = KeepsMore script start journal (server_of (k + 1)) in
        let come = HasComeFrom script start journal (server_of (k + 1)) in
        let found : record_in script.roster (server_of (k + 1)) (view disk).image ≡ Some state =
        subst (λ (r : Roster). record_in r (server_of (k + 1)) (view disk).image ≡ Some state) (sym its)
        (has_found t (k + 1) k olds stores left disk a) in
        ⊎_elim
        (λ (m : more state × (store_view tells view (Disk a.after)).ready).
        (let settled : IsSettled (view disk) = subst (λ (d : D). IsSettled (view d)) a.is m.1.1.settled in
        inl (λ c left_so. subst (λ (l : List ℕ). HasRecordSo script.roster (k + 1) more l)
        (sym (⊎_elim (λ (e : c ≡ (view disk).image). e) (λ (may : (view disk).may_leave c). settled c may) left_so))
        (record { state = state; found = found; so = m.0 }))))
        (λ (n : come state). inr (record { state = state; found = found; so = n }))
        (kept k (Disk a.after) a.in_left))

    -- and where all came to rest, no more, and durably
    pub are_rested : tells → (start : Tree) (journal : Journal) → ((k : ℕ) (store : ServerStore D)
        → slice_get left k ≡ Some store
        → KeepsWhole (kept_so_far start journal (record { 0 = k + 1 })) (store_view tells view store))
        → AreRested view start journal (disks_of left)
    are_rested t start journal whole = record {
      kept = kept_at;
      durable = λ k disk c is may.
          (let a = at k disk is in
          let settled : IsSettled (view disk) = subst (λ (d : D). IsSettled (view d)) a.is
          (whole k (Disk a.after) a.in_left).ready.1.settled in
          subst (λ (l : List ℕ). IsKept (kept_so_far start journal (server_of (k + 1))) (k + 1) l)
          (sym (settled c may)) (kept_at k disk is));
    }
      where
        kept_at : (k : ℕ) (disk : D) → slice_get (disks_of left) k ≡ Some disk
            → IsKept (kept_so_far start journal (server_of (k + 1))) (k + 1) (view disk).image
        kept_at k disk is =
            (let a = at k disk is in
            let state = kept_state view a.after in
            let keeps = (whole k (Disk a.after) a.in_left).keeps in
            let its : state.roster ≡ roster = a.same.roster ∙ ap (λ (s : StoreState). s.roster) a.opened.opened.state
            ∙ a.opened.roster_is in
            record {
              state = state;
              found = subst (λ (r : Roster). record_in r (server_of (k + 1)) (view disk).image ≡ Some state)
                  (sym its ∙ keeps.roster) (has_found t (k + 1) k olds stores left disk a);
              keeps = keeps;
            })

    -- a store that may be asked is on a disk of which a crash leaves what a read gives
    pub are_durable : MayBeAsked (store_view tells view) left → (tree : Tree) → AreKept tree
        (images view (disks_of left)) → AreDurable view tree (disks_of left)
    are_durable asked tree kept = record {
      each = λ k disk c is may.
          (let a = at k disk is in
          let settled : IsSettled (view disk) = subst (λ (d : D). IsSettled (view d)) a.is
          (asked.each k (Disk a.after) a.in_left).1.settled in
          subst (λ (l : List ℕ). IsKept tree (k + 1) l) (sym (settled c may))
          (kept k (view disk).image (get_map (λ d. (view d).image) (disks_of left) k disk is)));
    }

    pub are_still : tells → states_of (store_view tells view) left ≡ states_of (store_view tells view) stores
        → AreStill roster (images view olds) (images view (disks_of left))
    are_still t still k old new was is =
        (let image = λ (disk : D). (view disk).image in
        let state_of = λ (store : ServerStore D). (store_view tells view store).state in
        let o = mapped image olds k old was in
        let m = mapped image (disks_of left) k new is in
        let a = at k m.from m.was in
        let first : slice_get (states_of (store_view tells view) stores) k ≡ Some (kept_state view a.store) = get_map
        state_of stores k (Disk a.store) a.in_stores in
        let last : slice_get (states_of (store_view tells view) left) k ≡ Some (kept_state view a.after) = get_map
        state_of left k (Disk a.after) a.in_left in
        let both : Some (kept_state view a.after) ≡ Some (kept_state view a.store) = sym last ∙ ap
        (λ (l : List StoreState). slice_get l k) still ∙ first in
        let disk : a.old ≡ o.from = (let p = a.was in let q = o.was in cc) in
        let had : store_on roster (server_of (k + 1)) old ≡ Some (state_in a.store) =
        subst (λ (l : List ℕ). store_on roster (server_of (k + 1)) l ≡ Some (state_in a.store))
        (ap image disk ∙ o.is) (a.opened.kept t) in
        let found : record_in roster (server_of (k + 1)) new ≡ Some (kept_state view a.after) =
        subst (λ (l : List ℕ). record_in roster (server_of (k + 1)) l ≡ Some (kept_state view a.after)) m.is
        (has_found t (k + 1) k olds stores left m.from a) in
        found ∙ both ∙ ap (λ (s : StoreState). Some s) a.opened.opened.state ∙ sym had)

    pub are_back : AreBack view olds (disks_of left)
    are_back = record {
      count = left_count 1 olds stores left are placed;
      counted = λ k before after was is.
          (let a = at k after is in
          let disk : a.old ≡ before = (let p = a.was in cc) in
          let one = a.opened.counted in
          let two = a.counted in
          let sum : (view a.old).faults ≤ (view (disk_in a.after)).faults = omega (arith, one, two) in
          subst (λ (d : D). (view before).faults ≤ (view d).faults) a.is
          (subst (λ (d : D). (view d).faults ≤ (view (disk_in a.after)).faults) disk sum));
    }

  -- a store that failed was on a disk
  record Fails (olds news : List D) (k : ℕ) : Type 0 where
    pub before : D
    pub after : D
    pub was : slice_get olds k ≡ Some before
    pub is : slice_get news k ≡ Some after
    pub twice : RoseBy 2 (view before).faults (view after).faults
    pub last : IsTrue (view after).last_failed

  memory_stays : (n k : ℕ) (stores left : List (ServerStore D)) (before after : ServerStore D) → AreOpen tells view
      roster n [] stores → AreAsPlaced stores left → slice_get stores k ≡ Some before → slice_get left k ≡ Some after
      → RoseBy 2 (store_view tells view before).faults (store_view tells view after).faults → ⊥
  memory_stays n k [] left before after are placed was is twice = cc
  memory_stays n k (Disk store ∷ stores) left before after are placed was is twice = are
  memory_stays n k (Memory store ∷ stores) [] before after are placed was is twice = placed
  memory_stays n k (Memory store ∷ stores) (Disk x ∷ left) before after are placed was is twice = placed
  memory_stays n zero (Memory store ∷ stores) (Memory x ∷ left) before after are placed was is twice =
      (let b : Memory store ≡ before = cc in
      let a : Memory x ≡ after = cc in
      let p : (store_view tells view before).faults ≡ 0 = ap (λ (s : ServerStore D).
      (store_view tells view s).faults) (sym b) in
      let q : (store_view tells view after).faults ≡ 0 = ap (λ (s : ServerStore D). (store_view tells view s).faults)
      (sym a) in
      omega (arith, p, q, twice))
  memory_stays n (suc k) (Memory store ∷ stores) (Memory x ∷ left) before after are placed was is twice =
      memory_stays (n + 1) k stores left before after are.1 placed was is twice

  fails_at : (n k : ℕ) (olds : List D) (stores left : List (ServerStore D)) (before after : ServerStore D) → AreOpen
      tells view roster n olds stores → AreAsPlaced stores left → slice_get stores k ≡ Some before → slice_get left k
      ≡ Some after
      → RoseBy 2 (store_view tells view before).faults (store_view tells view after).faults → IsTrue
      (store_view tells view after).last_failed → Fails olds (disks_of left) k
  fails_at n k [] stores left before after are placed was is twice last = absurd
      (memory_stays n k stores left before after are placed was is twice)
  fails_at n k (x ∷ olds) [] left before after are placed was is twice last = absurd are
  fails_at n k (x ∷ olds) (Memory store ∷ stores) left before after are placed was is twice last = absurd are
  fails_at n k (x ∷ olds) (Disk store ∷ stores) [] before after are placed was is twice last = absurd placed
  fails_at n k (x ∷ olds) (Disk store ∷ stores) (Memory y ∷ left) before after are placed was is twice last = absurd
      placed
  fails_at n zero (x ∷ olds) (Disk store ∷ stores) (Disk y ∷ left) before after are placed was is twice last =
      (let b : Disk store ≡ before = cc in
      let a : Disk y ≡ after = cc in
      let rose : RoseBy 2 (view (disk_in store)).faults (view (disk_in y)).faults =
      subst (λ (s : ServerStore D). RoseBy 2 (view (disk_in store)).faults (store_view tells view s).faults) (sym a)
      (subst (λ (s : ServerStore D). RoseBy 2 (store_view tells view s).faults (store_view tells view after).faults)
      (sym b) twice) in
      let less = are.0.counted in
      record {
        before = x;
        after = disk_in y;
        was = refl;
        is = refl;
        twice = omega (arith, less, rose);
        last = subst (λ (s : ServerStore D). IsTrue (store_view tells view s).last_failed) (sym a) last;
      })
  fails_at n (suc k) (x ∷ olds) (Disk store ∷ stores) (Disk y ∷ left) before after are placed was is twice last =
      (let f = fails_at (n + 1) k olds stores left before after are.1 placed was is twice last in
      record { before = f.before; after = f.after; was = f.was; is = f.is; twice = f.twice; last = f.last })

  pub is_failing : (olds : List D) (stores left : List (ServerStore D)) (number : ℕ) → AreOpen tells view roster 1
      olds stores → AreAsPlaced stores left → HasFailed (store_view tells view) stores left number
      → IsFailing view olds (disks_of left) number
  is_failing olds stores left number are placed failed =
      (let f = fails_at 1 failed.k olds stores left failed.before failed.after are placed failed.was failed.is
      failed.twice failed.last in
      record {
        k = failed.k;
        numbered = failed.numbered;
        before = f.before;
        after = f.after;
        was = f.was;
        is = f.is;
        twice = f.twice;
        last = f.last;
      })

  pub open_count : (n : ℕ) (disks : List D) (stores : List (ServerStore D)) → AreOpen tells view roster n disks
      stores → length (disks_of stores) ≡ length disks
  open_count n [] [] are = refl
  open_count n [] (Disk store ∷ stores) are = absurd are
  open_count n [] (Memory store ∷ stores) are = open_count (n + 1) [] stores are.1
  open_count n (x ∷ disks) [] are = absurd are
  open_count n (x ∷ disks) (Memory store ∷ stores) are = absurd are
  open_count n (x ∷ disks) (Disk store ∷ stores) are = ap (λ i. suc i) (open_count (n + 1) disks stores are.1)

  -- disks that are handed back unopened
  unopened_count : (n : ℕ) (olds news : List D) → AreUnopened tells view roster n olds news → length news ≡ length olds
  unopened_count n [] [] are = refl
  unopened_count n [] (y ∷ news) are = absurd are
  unopened_count n (x ∷ olds) [] are = absurd are
  unopened_count n (x ∷ olds) (y ∷ news) are = ap (λ i. suc i) (unopened_count (n + 1) olds news are.1)

  unopened_counted : (n : ℕ) (olds news : List D) → AreUnopened tells view roster n olds news → (k : ℕ)
      (before after : D) → slice_get olds k ≡ Some before → slice_get news k ≡ Some after → (view before).faults ≤
      (view after).faults
  unopened_counted n [] news are k before after was is = absurd (cc)
  unopened_counted n (x ∷ olds) [] are k before after was is = absurd are
  unopened_counted n (x ∷ olds) (y ∷ news) are zero before after was is =
      (let b : x ≡ before = cc in
      let a : y ≡ after = cc in
      subst (λ (d : D). (view before).faults ≤ (view d).faults) a
      (subst (λ (d : D). (view d).faults ≤ (view y).faults) b are.0.counted))
  unopened_counted n (x ∷ olds) (y ∷ news) are (suc k) before after was is = unopened_counted (n + 1) olds news are.1
      k before after was is

  pub unopened_back : (olds news : List D) → AreUnopened tells view roster 1 olds news → AreBack view olds news
  unopened_back olds news are = record {
    count = unopened_count 1 olds news are;
    counted = unopened_counted 1 olds
        news are;
  }

-- stores in seats tell what they keep where these disks do
pub seats_told : {D : Type 0} (tells : Type 0) (disks : List D) (count : ℕ) → count ≡ length disks → IsTold tells
    disks → seat_tells tells count
seats_told tells disks count e any = λ some. any (omega (arith, e, some))

pub count_told : {D : Type 0} (tells : Type 0) (disks : List D) (count : ℕ) → count ≡ length disks → seat_tells tells
    count → IsTold tells disks
count_told tells disks count e any = λ some. any (omega (arith, e, some))
