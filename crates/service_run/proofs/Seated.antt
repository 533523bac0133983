-- Stores in their seats, and behind a run.
use Rattle.std.proofs.Common.{◌≡◌, ◌++◌, ℕ, List, [], ◌∷◌, Err, inl, length, suc, refl, sym, ap, subst, ◌∙◌, arith}
use Rattle.std.specs.Prelude.{Result}
use Rattle.std.proofs.lemmas.List.{append-nil}
use Rattle.base_types.specs.View.{View as DiskView}
use Rattle.tree_calls.specs.declared.roster.Roster.{Roster}
use Rattle.store_records.specs.Stored.{IsStorable}
use Rattle.message_types.specs.Soundness.{Each}
use Rattle.script_lines.specs.declared.script.Script.{Script}
use Rattle.service_disks.specs.Seats.{store_in, stores_in, seat_view}
use Rattle.service_disks.specs.Stores.{disks_of}
use Rattle.service_disks.specs.View.{store_view}
use Rattle.service_disks.specs.declared.seats.Seat.{Seat}
use Rattle.service_disks.specs.declared.seats.Seat.TheVariants as seats
use Rattle.service_disks.specs.declared.stores.ServerStore.{ServerStore}
use Rattle.service_disks.specs.declared.stores.ServerStore.TheVariants.{Disk, Memory}
use Rattle.service_moves.specs.Stores.{AreSame, AreStores, states_of}
use Rattle.service_moves.specs.declared.stopped.RunStopped.TheVariants as running
use Rattle.store_state.specs.declared.state.StoreState.{StoreState}
use Rattle.service_watch.specs.Watching.{stores_in as watched_in}
use Rattle.service_watch.specs.declared.watched.Watched.{Watched}
use Rattle.service_run.proofs.Gone.{gone_none}
use Rattle.service_run.proofs.Same.{run_in, same_self, states_in, stores_in_are}
use Rattle.service_run.specs.Steps.{AreAsPlaced, IsRunOf, IsRunOn}
use Rattle.service_run.specs.declared.disks.Stopped.{Stopped}
use Rattle.service_run.specs.declared.disks.Stopped.TheVariants.{Run}
use Rattle.service_run.specs.declared.outcome.Course.{Course}

-- each is on a disk where it was: the number of its server says so
seated_so : {D C : Type 0} {g : _} {h : _} (olds news : List (Seat D C g h)) → AreSame (seat_view g.tells g.view)
    olds news → AreAsPlaced (stores_in olds) (stores_in news)
seated_so [] [] same = tt
seated_so [] (y ∷ news) same = absurd same
seated_so (seats.Disk x ∷ olds) [] same = absurd same
seated_so (seats.Memory x ∷ olds) [] same = absurd same
seated_so (seats.Disk x ∷ olds) (seats.Disk y ∷ news) same = seated_so olds news same.3
seated_so (seats.Memory x ∷ olds) (seats.Memory y ∷ news) same = seated_so olds news same.3
seated_so (seats.Disk x ∷ olds) (seats.Memory y ∷ news) same = absurd
    (let e = ap (λ s. s.0) same.0.server in let p = x.within in let q = y.beyond in omega (arith, e, p, q))
seated_so (seats.Memory x ∷ olds) (seats.Disk y ∷ news) same = absurd
    (let e = ap (λ s. s.0) same.0.server in let p = x.beyond in let q = y.within in omega (arith, e, p, q))

pub stored_count : {D C : Type 0} {g : _} {h : _} (all : List (Seat D C g h)) → length (stores_in all) ≡ length all
stored_count [] = refl
stored_count (x ∷ all) = ap suc (stored_count all)

pub watched_count : {S O : Type 0} {g : _} {h : _} (all : List (Watched S O g h)) → length (watched_in all) ≡ length all
watched_count [] = refl
watched_count (x ∷ all) = ap suc (watched_count all)

-- what holds of stores holds of them in their seats
pub seats_stores : {D C : Type 0} {g : _} {h : _} (roster : Roster) (all : List (Seat D C g h))
    (stores : List (ServerStore D)) → stores_in all ≡ stores → AreStores (store_view g.tells g.view) roster 0 1 stores
    → AreStores (seat_view g.tells g.view) roster 0 1 all
seats_stores {g = g} roster all stores is are = stores_in_are store_in (store_view g.tells g.view) roster 0 1 all
    (subst (λ (l : List (ServerStore _)). AreStores (store_view g.tells g.view) roster 0 1 l) (sym is) are)

pub seats_storable : {D C : Type 0} {g : _} {h : _} (all : List (Seat D C g h)) (stores : List (ServerStore D))
    → stores_in all ≡ stores → Each IsStorable (states_of (store_view g.tells g.view) stores)
    → Each IsStorable (states_of (seat_view g.tells g.view) all)
seats_storable {g = g} all stores is each =
    subst (λ (l : List StoreState). Each IsStorable l) (states_in store_in (store_view g.tells g.view) all)
    (subst (λ (l : List (ServerStore _)). Each IsStorable (states_of (store_view g.tells g.view) l)) (sym is) each)

-- where a run went over them
pub run_seated : {D C : Type 0} {g : _} {h : _} (told : Type 0) (script : Script) (count : ℕ)
    (result : Result Course Stopped) (stores : List (ServerStore D)) (olds news : List (Seat D C g h))
    (empty disks : List D) → stores_in olds ≡ stores → empty ≡ []
    → IsRunOf told (seat_view g.tells g.view) script count result olds news → disks ≡ disks_of (stores_in news) ++
    empty → IsRunOn told g.tells g.view script count result stores disks
run_seated {g = g} told script count result stores olds news empty disks is none ran closed =
    (let view = store_view g.tells g.view in
    record {
      left = stores_in news;
      closed = closed ∙ ap (λ l. disks_of (stores_in news) ++ l) none ∙ append-nil (disks_of (stores_in news));
      placed = subst (λ (l : List (ServerStore _)). AreAsPlaced l (stores_in news)) is (seated_so olds news ran.same);
      over = subst (λ (l : List (ServerStore _)). IsRunOf told view script count result l (stores_in news)) is
          (run_in store_in view told script count result olds news ran);
    })

placed_self : {D : Type 0} (stores : List (ServerStore D)) → AreAsPlaced stores stores
placed_self [] = tt
placed_self (Disk x ∷ stores) = placed_self stores
placed_self (Memory x ∷ stores) = placed_self stores

-- where there was no memory for the seats
pub run_unseated : {D : Type 0} (told tells : Type 0) (view : D → DiskView) (script : Script) (count : ℕ)
    (stores back : List (ServerStore D)) (empty disks : List D) → back ≡ stores → empty ≡ []
    → AreStores (store_view tells view) script.roster 0 1 stores → disks ≡ disks_of back ++ empty → IsRunOn told
    tells view script count (Err (Run running.Memory)) stores disks
run_unseated told tells view script count stores back empty disks is none are closed = record {
  left = stores;
  closed = closed ∙ ap (λ l. disks_of back ++ l) none ∙ append-nil (disks_of back) ∙ ap (λ l. disks_of l) is;
  placed = placed_self stores;
  over = record {
    same = same_self (store_view tells view) script.roster 0 1 stores are;
    ran = tt;
    stopped = tt;
    goes = λ _. inl (gone_none (store_view tells view) script count (Err (Run running.Memory)) stores tt);
  };
}
