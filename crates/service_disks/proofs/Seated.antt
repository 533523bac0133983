-- Stores in seats.
use Rattle.std.proofs.Common.{◌≡◌, ◌++◌, ℕ, List, [], ◌∷◌, None, refl, sym, ap, ◌∙◌}
use Rattle.std.proofs.lemmas.List.{append_assoc}
use Rattle.base_types.specs.View.{View as DiskView}
use Rattle.service_disks.specs.Seats.{store_in, stores_in, IsSeated, AreSeated}
use Rattle.service_disks.specs.Stores.{disks_of}
use Rattle.service_disks.specs.View.{disk_under}
use Rattle.service_disks.specs.declared.seats.Seat.{Seat}
use Rattle.service_disks.specs.declared.seats.Seat.TheVariants as seats
use Rattle.service_disks.specs.declared.stores.ServerStore.{ServerStore}

-- stores that are seated from the last on
pub record Seating {D C : Type 0} {g : _} {h : _} (all stores : List (ServerStore D)) (seats : List (Seat D C g h)) : Type 0 where
  pub tail : List (ServerStore D)
  pub was : all ≡ stores ++ tail
  pub seated : stores_in seats ≡ tail

-- seats that are closed from the last on
pub record Unseating {D C : Type 0} {g : _} {h : _} (all seats : List (Seat D C g h)) (old disks : List D) : Type 0 where
  pub tail : List (Seat D C g h)
  pub was : all ≡ seats ++ tail
  pub closed : disks ≡ disks_of (stores_in tail) ++ old

no_more : {X : Type 0} (xs : List X) → xs ≡ xs ++ []
no_more [] = refl
no_more (x ∷ xs) = ap (λ l. x ∷ l) (no_more xs)

pub all_closing : {D C : Type 0} {g : _} {h : _} (all : List (Seat D C g h)) (disks : List D) → Unseating all all disks disks
all_closing all disks = record { tail = []; was = no_more all; closed = refl }

module _ {D : Type 0} (tells : Type 0) (view : D → DiskView) (count : ℕ) where
  pub seated_last : (stores : List (ServerStore D)) (store : ServerStore D) → AreSeated tells view count (stores ++ store ∷ []) → IsSeated tells view count store
  seated_last [] store are = are.0
  seated_last (x ∷ stores) store are = seated_last stores store are.1

  pub seated_front : (stores : List (ServerStore D)) (store : ServerStore D) → AreSeated tells view count (stores ++ store ∷ []) → AreSeated tells view count stores
  seated_front [] store are = tt
  seated_front (x ∷ stores) store are = (are.0, seated_front stores store are.1)

pub one_seated : {D C : Type 0} {g : _} {h : _} (all stores front : List (ServerStore D)) (seats news : List (Seat D C g h)) (store : ServerStore D) (seat : Seat D C g h) → Seating all stores seats → stores ≡ front ++ store ∷ []
    → store_in seat ≡ store → news ≡ seat ∷ seats → Seating all front news
one_seated all stores front seats news store seat so was is put = record {
  tail = store ∷ so.tail;
  was = so.was ∙ ap (λ l. l ++ so.tail) was ∙ append_assoc front (store ∷ []) so.tail;
  seated = ap (λ l. stores_in l) put ∙ ap (λ x. x ∷ stores_in seats) is ∙ ap (λ l. store ∷ l) so.seated;
}

memory_closed : {D C : Type 0} {g : _} {h : _} (seat : Seat D C g h) (rest : List (Seat D C g h)) → disk_under (store_in seat) ≡ None → disks_of (stores_in (seat ∷ rest)) ≡ disks_of (stores_in rest)
memory_closed (seats.Disk seat) rest none = absurd (cc)
memory_closed (seats.Memory seat) rest none = refl

-- one that has no disk is closed
pub none_closed : {D C : Type 0} {g : _} {h : _} (all seats front : List (Seat D C g h)) (old disks : List D) (seat : Seat D C g h) → Unseating all seats old disks → seats ≡ front ++ seat ∷ [] → disk_under (store_in seat) ≡ None
    → Unseating all front old disks
none_closed all seats front old disks seat so was none = record {
  tail = seat ∷ so.tail;
  was = so.was ∙ ap (λ l. l ++ so.tail) was ∙ append_assoc front (seat ∷ []) so.tail;
  closed = so.closed ∙ ap (λ l. l ++ old) (sym (memory_closed seat so.tail none));
}
