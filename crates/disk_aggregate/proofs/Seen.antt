-- What is seen of an aggregate.
use Rattle.std.proofs.Common.{◌≡◌, ◌⊎◌, ℕ, List, inl, inr, refl, sym, subst, ◌∙◌, ap}
use Rattle.std.specs.Prelude.{Bool, true, false, ◌||◌, ◌==◌, not, Option, Some, None, length, unwrap_or}
use Rattle.std.specs.Option.{option_map}
use Rattle.std.proofs.lemmas.Bool.{cases_Bool, cond-true, cond-false, eqb-true}
use Rattle.base_types.specs.View.{View as DiskView}
use Rattle.base_types.specs.declared.ids.ServerId.{ServerId}
use Rattle.tree_calls.specs.declared.roster.Roster.{Roster}
use Rattle.store_memory.specs.Views.{IsSameStore}
use Rattle.store_state.specs.declared.state.StoreState.{StoreState}
use Rattle.disk_layout.specs.Half.{used_half}
use Rattle.disk_layout.specs.Places.{pages_of}
use Rattle.disk_layout.specs.declared.half.Half.{Half}
use Rattle.disk_layout.specs.declared.superblock.Superblock.{Superblock}
use Rattle.disk_image.specs.Aggregate.{aggregate_of, is_blank, superblock_of}
use Rattle.disk_image.specs.Faults.{faults_of}
use Rattle.disk_image.specs.Image.{Image, image_of, image_under, image_behind, image_in}
use Rattle.disk_records.specs.Record.{record_of, record_in}
use Rattle.disk_aggregate.specs.Opening.{HasStore, HoldsStore}
use Rattle.disk_aggregate.specs.Stands.{state_in, disk_in}
use Rattle.disk_aggregate.specs.StoreView.{aggregate_view, disk_record, kept_state}
use Rattle.disk_aggregate.specs.declared.aggregate.Aggregate.{Aggregate}

some_same : {X : Type 0} (a b : X) → Some a ≡ Some b → a ≡ b
some_same a b e = cc

none_some : {X : Type 0} (a : X) (P : Type 0) → None ≡ Some a → P
none_some a P e = absurd (cc)

-- an image is of the server for which it is one
behind_is : (superblock : Superblock) (half : Option Half) (bytes : List ℕ) (image : Image) → image_behind superblock half bytes ≡ Some image → image.server ≡ superblock.server
behind_is superblock None bytes image e = none_some image (image.server ≡ superblock.server) e
behind_is superblock (Some half) bytes image e = ap (λ (i : Image). i.server) (sym (some_same (image_in (aggregate_of superblock half bytes)) image e))

module _ (server : ℕ) (bytes : List ℕ) (image : Image) where
  under_is : (found : Option Superblock) → image_under found server bytes ≡ Some image → image.server ≡ server
  under_is None e = none_some image (image.server ≡ server) e
  under_is (Some superblock) e = by (cases_Bool (superblock.server == server))
    where
      by : ((superblock.server == server) ≡ true) ⊎ ((superblock.server == server) ≡ false) → image.server ≡ server
      by (inl is) =
          behind_is superblock (used_half (pages_of superblock.blocks) bytes) bytes image
          (sym (cond-true (superblock.server == server) (image_behind superblock (used_half (pages_of superblock.blocks) bytes) bytes) None is) ∙ e)
          ∙ eqb-true superblock.server server is
      by (inr other) =
          none_some image (image.server ≡ server)
          (sym (cond-false (superblock.server == server) (image_behind superblock (used_half (pages_of superblock.blocks) bytes) bytes) None other) ∙ e)

  abbrev off : Bool
  off = is_blank bytes || not (length (faults_of bytes) == 0)

  abbrev there : Option Image
  there = image_under (superblock_of bytes) server bytes

  image_is : image_of server bytes ≡ Some image → image.server ≡ server
  unfolding image_of
  image_is e = by (cases_Bool off)
    where
      by : (off ≡ true) ⊎ (off ≡ false) → image.server ≡ server
      by (inl is) = none_some image (image.server ≡ server) (sym (cond-true off None there is) ∙ e)
      by (inr is) = under_is (superblock_of bytes) (sym (cond-false off None there is) ∙ e)

-- so a record that bytes have is of the server and the roster for which they have it
pub record IsOwn (server : ServerId) (roster : Roster) (state : StoreState) : Type 0 where
  pub server_is : state.server ≡ server
  pub roster_is : state.roster ≡ roster

record_own : (roster : Roster) (server : ServerId) (bytes : List ℕ) (state : StoreState) → record_in roster server bytes ≡ Some state → IsOwn server roster state
record_own roster server bytes state e = by (image_of server.0 bytes) refl e
  where
    by : (found : Option Image) → image_of server.0 bytes ≡ found → option_map (record_of roster) found ≡ Some state → IsOwn server roster state
    by None is e = none_some state (IsOwn server roster state) e
    by (Some image) is e =
        let same : state ≡ record_of roster image = sym (some_same (record_of roster image) state e) in
        record {
          server_is = ap (λ (s : StoreState). s.server) same ∙ (λ i. record { 0 = image_is server.0 bytes image is i });
          roster_is = ap (λ (s : StoreState). s.roster) same;
        }

module _ {D : Type 0} (view : D → DiskView) (aggregate : Aggregate D) where
  abbrev known : StoreState
  known = state_in aggregate

  abbrev bytes : List ℕ
  bytes = (view (disk_in aggregate)).image

  pub seen_open : aggregate.is_open ≡ true → kept_state view aggregate ≡ state_in aggregate
  seen_open is = cond-true aggregate.is_open known (disk_record view aggregate) is

  seen_shut : aggregate.is_open ≡ false → kept_state view aggregate ≡ disk_record view aggregate
  seen_shut is = cond-false aggregate.is_open known (disk_record view aggregate) is

  disk_own : IsOwn known.server known.roster (disk_record view aggregate)
  disk_own = by (record_in known.roster known.server bytes) refl
    where
      by : (found : Option StoreState) → record_in known.roster known.server bytes ≡ found → IsOwn known.server known.roster (unwrap_or found known)
      by None is = record { server_is = refl; roster_is = refl }
      by (Some state) is = record_own known.roster known.server bytes state is

  -- what is seen is of its server and roster
  pub seen_own : IsOwn known.server known.roster (kept_state view aggregate)
  seen_own = by (cases_Bool aggregate.is_open)
    where
      by : (aggregate.is_open ≡ true) ⊎ (aggregate.is_open ≡ false) → IsOwn known.server known.roster (kept_state view aggregate)
      by (inl is) = subst (IsOwn known.server known.roster) (sym (seen_open is)) (record { server_is = refl; roster_is = refl })
      by (inr is) = subst (IsOwn known.server known.roster) (sym (seen_shut is)) disk_own

  -- what its disk holds is what is seen where it isn't open
  pub shut_seen : aggregate.is_open ≡ false → (state : StoreState) → HoldsStore view state aggregate → kept_state view aggregate ≡ state
  shut_seen is state holds =
      seen_shut is
      ∙ ap (λ (found : Option StoreState). unwrap_or found known) ((λ i. record_in (sym holds.roster_is i) (sym holds.server_is i) bytes) ∙ holds.store.found)

  pub shut_holds : aggregate.is_open ≡ false → (state : StoreState) → HoldsStore view state aggregate → HoldsStore view (kept_state view aggregate) aggregate
  shut_holds is state holds = subst (λ (s : StoreState). HoldsStore view s aggregate) (sym (shut_seen is state holds)) holds

  pub open_holds : aggregate.is_open ≡ true → HoldsStore view (state_in aggregate) aggregate → HoldsStore view (kept_state view aggregate) aggregate
  open_holds is holds = subst (λ (s : StoreState). HoldsStore view s aggregate) (sym (seen_open is)) holds

module _ {D : Type 0} (view : D → DiskView) (old new : Aggregate D) (server : (state_in new).server ≡ (state_in old).server) (roster : (state_in new).roster ≡ (state_in old).roster) where
  -- what a store is made for stays
  pub seen_same : (tells : Type 0) → IsSameStore (aggregate_view tells view old) (aggregate_view tells view new)
  seen_same tells = record {
    server = (seen_own view new).server_is ∙ server ∙ sym (seen_own view old).server_is;
    roster = (seen_own view new).roster_is ∙ roster ∙ sym (seen_own view old).roster_is;
  }

  -- and its disk holds the store still, where its bytes do
  pub holds_left : (state : StoreState) → HoldsStore view state old → HasStore new.wear state (view (disk_in new)).image → HoldsStore view state new
  holds_left state holds store = record { store = store; server_is = holds.server_is ∙ sym server; roster_is = holds.roster_is ∙ sym roster }
