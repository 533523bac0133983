-- Disks that are opened, and handed back.
use Rattle.std.proofs.Common.{◌≡◌, ◌+◌, ◌++◌, ℕ, List, [], ◌∷◌, length, suc, inl, refl, sym, subst, ◌∙◌, ap, arith}
use Rattle.std.specs.Prelude.{Some}
use Rattle.std.proofs.lemmas.Bool.{cond-false}
use Rattle.std.proofs.lemmas.List.{append_assoc}
use Rattle.base_types.specs.View.{View as DiskView}
use Rattle.base_types.specs.declared.ids.ServerId.{ServerId}
use Rattle.tree_calls.specs.declared.roster.Roster.{Roster}
use Rattle.store_memory.specs.MapStores.{kept_in}
use Rattle.store_memory.specs.declared.map_store.MapStore.{MapStore}
use Rattle.disk_image.specs.Aggregate.{is_blank}
use Rattle.disk_records.specs.Record.{record_in}
use Rattle.disk_aggregate.specs.Stands.{disk_in, state_in}
use Rattle.disk_aggregate.specs.declared.aggregate.Aggregate.{Aggregate}
use Rattle.service_disks.proofs.Lists.{append_nil, one_more}
use Rattle.service_disks.specs.Opening.{new_store}
use Rattle.service_disks.specs.Stores.{server_of, disks_of, AreBack, AreOpen, IsBack, IsFirstRefused, IsOpenOn, IsStopped}
use Rattle.service_disks.specs.Steps.{AreOpened, StopsAt}
use Rattle.service_disks.specs.declared.disks.StoresRefused.{StoresRefused}
use Rattle.service_disks.specs.declared.stores.ServerStore.{ServerStore}
use Rattle.service_disks.specs.declared.stores.ServerStore.TheVariants.{Disk, Memory}

module _ {D : Type 0} (tells : Type 0) (view : D → DiskView) (roster : Roster) where
  -- one more store on a disk
  pub open_last : (n m : ℕ) (disks : List D) (stores : List (ServerStore D)) (disk : D) (store : Aggregate D) → AreOpen tells view roster n disks stores → length stores ≡ length disks → m ≡ n + length disks
      → IsOpenOn tells view roster (server_of m) disk store → AreOpen tells view roster n (disks ++ disk ∷ []) (stores ++ Disk store ∷ [])
  open_last n m [] [] disk store are count e is = (subst (λ (i : ℕ). IsOpenOn tells view roster (server_of i) disk store) (let q : m ≡ n = omega (arith, e) in q) is, tt)
  open_last n m [] (x ∷ stores) disk store are count e is = absurd (omega (arith, count))
  open_last n m (x ∷ disks) [] disk store are count e is = absurd are
  open_last n m (x ∷ disks) (Memory y ∷ stores) disk store are count e is = absurd are
  open_last n m (x ∷ disks) (Disk y ∷ stores) disk store are count e is =
      (are.0, open_last (n + 1) m disks stores disk store are.1 (omega (arith, count)) (omega (arith, e)) is)

  -- one more in memory
  pub memory_last : (n m : ℕ) (disks : List D) (stores : List (ServerStore D)) (store : MapStore) → AreOpen tells view roster n disks stores → m ≡ n + length stores
      → kept_in store ≡ new_store roster (server_of m) → AreOpen tells view roster n disks (stores ++ Memory store ∷ [])
  memory_last n m [] [] store are e is = (subst (λ (i : ℕ). kept_in store ≡ new_store roster (server_of i)) (let q : m ≡ n = omega (arith, e) in q) is, tt)
  memory_last n m [] (Memory y ∷ stores) store are e is = (are.0, memory_last (n + 1) m [] stores store are.1 (omega (arith, e)) is)
  memory_last n m [] (Disk y ∷ stores) store are e is = absurd are
  memory_last n m (x ∷ disks) [] store are e is = absurd are
  memory_last n m (x ∷ disks) (Memory y ∷ stores) store are e is = absurd are
  memory_last n m (x ∷ disks) (Disk y ∷ stores) store are e is = (are.0, memory_last (n + 1) m disks stores store are.1 (omega (arith, e)) is)

  -- the disk of a store that was just opened
  closed_back : (server : ServerId) (disk : D) (store : Aggregate D) → IsOpenOn tells view roster server disk store → IsBack tells view roster server disk (disk_in store)
  closed_back server disk store is = record {
    counted = is.counted;
    same_record = λ told unblank.
        (let old : List ℕ = (view disk).image in
        let new : List ℕ = (view (disk_in store)).image in
        let had : record_in roster server old ≡ Some (state_in store) = sym (cond-false (is_blank old) (Some (new_store roster server)) (record_in roster server old) unblank) ∙ is.kept told in
        let has : record_in roster server new ≡ Some (state_in store) =
        subst (λ (r : Roster). record_in r server new ≡ Some (state_in store)) is.roster_is
        (subst (λ (s : ServerId). record_in (state_in store).roster s new ≡ Some (state_in store)) is.server_is (is.has_record told)) in
        has ∙ sym had);
    crash = is.crash;
  }

  -- one that isn't called
  still_back : (server : ServerId) (disk : D) → IsBack tells view roster server disk disk
  still_back server disk = record {
    counted = omega arith;
    same_record = λ told unblank. refl;
    crash = λ told. record { later = omega arith; each = λ t c le left. inl left };
  }

  pub all_still : (n : ℕ) (disks : List D) → AreBack tells view roster n disks disks
  all_still n [] = tt
  all_still n (disk ∷ disks) = (still_back (server_of n) disk, all_still (n + 1) disks)

  none_kept : (n : ℕ) (stores : List (ServerStore D)) → AreOpen tells view roster n [] stores → disks_of stores ≡ []
  none_kept n [] are = refl
  none_kept n (Memory y ∷ stores) are = none_kept (n + 1) stores are.1
  none_kept n (Disk y ∷ stores) are = absurd are

  -- the disks of stores that are closed, before others
  pub all_back : (n m : ℕ) (disks : List D) (stores : List (ServerStore D)) (old new : List D) → AreOpen tells view roster n disks stores → m ≡ n + length disks → AreBack tells view roster m old new
      → AreBack tells view roster n (disks ++ old) (disks_of stores ++ new)
  all_back n m [] stores old new are e rest =
      subst (λ (l : List D). AreBack tells view roster n old (l ++ new)) (sym (none_kept n stores are)) (subst (λ (i : ℕ). AreBack tells view roster i old new) (let q : m ≡ n = omega (arith, e) in q) rest)
  all_back n m (x ∷ disks) [] old new are e rest = absurd are
  all_back n m (x ∷ disks) (Memory y ∷ stores) old new are e rest = absurd are
  all_back n m (x ∷ disks) (Disk y ∷ stores) old new are e rest =
      (closed_back (server_of n) x y are.0, all_back (n + 1) m disks stores old new are.1 (omega (arith, e)) rest)

  kept_count : (n : ℕ) (disks : List D) (stores : List (ServerStore D)) → AreOpen tells view roster n disks stores → length (disks_of stores) ≡ length disks
  kept_count n [] stores are = ap length (none_kept n stores are)
  kept_count n (x ∷ disks) [] are = absurd are
  kept_count n (x ∷ disks) (Memory y ∷ stores) are = absurd are
  kept_count n (x ∷ disks) (Disk y ∷ stores) are = ap (λ i. suc i) (kept_count (n + 1) disks stores are.1)

  -- the disks that were passed
  pub opened_more : (stores : List (ServerStore D)) (old left new : List D) (disk : D) (store : Aggregate D) (m : ℕ) → AreOpened tells view roster stores old left → left ≡ disk ∷ new → m ≡ length stores + 1
      → IsOpenOn tells view roster (server_of m) disk store → AreOpened tells view roster (stores ++ Disk store ∷ []) old new
  opened_more stores old left new disk store m so was e is = record {
    front = so.front ++ disk ∷ [];
    was = so.was ∙ ap (λ (l : List D). so.front ++ l) was ∙ sym (append_assoc so.front (disk ∷ []) new);
    count = one_more stores so.front (Disk store) disk so.count;
    opened = open_last 1 m so.front stores disk store so.opened so.count (let count = so.count in omega (arith, e, count)) is;
  }

  -- where a disk was refused
  pub stopped : (refused : StoresRefused) (stores : List (ServerStore D)) (old new : List D) → StopsAt tells view roster refused stores old new → IsStopped tells view roster refused old (disks_of stores ++ new)
  stopped refused stores old new at =
      (let so = at.reached in
      let stop = at.stop in
      let made : IsFirstRefused tells view roster (length stores + 1) at.why old (disks_of stores ++ new) = record {
        before = stop.before;
        after = stop.after;
        front = so.front;
        stores = stores;
        behind = stop.behind;
        was = so.was ∙ ap (λ (l : List D). so.front ++ l) stop.was;
        is = ap (λ (l : List D). disks_of stores ++ l) stop.is;
        numbered = ap (λ i. i + 1) so.count;
        opened = so.opened;
        refused = stop.refused;
      } in
      subst (λ (r : StoresRefused). IsStopped tells view roster r old (disks_of stores ++ new)) (sym at.number) made)

  pub stopped_back : (refused : StoresRefused) (stores : List (ServerStore D)) (old new : List D) → StopsAt tells view roster refused stores old new → AreBack tells view roster 1 old (disks_of stores ++ new)
  stopped_back refused stores old new at =
      (let so = at.reached in
      let stop = at.stop in
      let count = so.count in
      let m = length stores + 1 in
      let here : AreBack tells view roster m (stop.before ∷ stop.behind) (stop.after ∷ stop.behind) = (stop.refused.back, all_still (m + 1) stop.behind) in
      let rest : AreBack tells view roster m at.left new =
      subst (λ (l : List D). AreBack tells view roster m l new) (sym stop.was) (subst (λ (l : List D). AreBack tells view roster m (stop.before ∷ stop.behind) l) (sym stop.is) here) in
      subst (λ (l : List D). AreBack tells view roster 1 l (disks_of stores ++ new)) (sym so.was)
      (all_back 1 m so.front stores at.left new so.opened (let q : m ≡ 1 + length so.front = omega (arith, count) in q) rest))

  -- where memory ran out behind the last disk
  pub opened_back : (stores : List (ServerStore D)) (old new : List D) → AreOpen tells view roster 1 old stores → new ≡ [] → AreBack tells view roster 1 old (disks_of stores ++ new)
  opened_back stores old new are none =
      subst (λ (l : List D). AreBack tells view roster 1 l (disks_of stores ++ new)) (append_nil old)
      (all_back 1 (1 + length old) old stores [] new are refl (subst (λ (l : List D). AreBack tells view roster (1 + length old) [] l) (sym none) tt))

-- stores that are closed from the last on
pub record Closing {D : Type 0} (all stores : List (ServerStore D)) (old disks : List D) : Type 0 where
  pub tail : List (ServerStore D)
  pub was : all ≡ stores ++ tail
  pub closed : disks ≡ disks_of tail ++ old
