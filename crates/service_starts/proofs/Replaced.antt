-- One of the stores changes, and of what it holds one fileset; the others keep their parts of a tree as they were.
use Rattle.std.proofs.Common.{◌≡◌, ◌≢◌, ◌≤◌, ◌<◌, ◌⊎◌, ℕ, zero, suc, ◌+◌, ◌==◌, Bool, true, false, List, [], ◌∷◌, length, Option, Some, None, inl, inr, refl, sym, ap, ◌∙◌, subst, arith}
use Rattle.std.specs.Prelude.{option_and_then, slice_get, slice_set}
use Rattle.std.specs.List.{find}
use Rattle.std.specs.Option.{option_map, option_map_or}
use Rattle.std.proofs.lemmas.Bool.Decides.{eqb_tells}
use Rattle.base_types.specs.declared.ids.FilesetId.{FilesetId}
use Rattle.base_types.specs.declared.ids.ServerId.{ServerId}
use Rattle.tree_filesets.specs.declared.fileset.Fileset.{Fileset}
use Rattle.tree_answers.specs.Finding.{has_id}
use Rattle.tree_answers.specs.Founding.{room_of}
use Rattle.tree_answers.specs.declared.tree.Tree.{Tree}
use Rattle.service_starts.specs.UnderWay.{IsComing, IsHeldBy, KeepsUnderWay, KeepUnderWay, is_out, record_so}
use Rattle.store_records.specs.Stored.{IsStorable}
use Rattle.store_laws.specs.Founds.{room_in}
use Rattle.store_state.specs.State.{is_arriving, is_of, held_so}
use Rattle.store_state.specs.declared.state.Holding.{Holding}
use Rattle.store_state.specs.declared.state.Stay.TheVariants.{Writable, Leaving, Arriving, Gone}
use Rattle.store_state.specs.declared.state.StoreState.{StoreState}
use Rattle.store_laws.proofs.Called.{same_id}
use Rattle.store_laws.proofs.Keys.{same_key}
use Rattle.store_laws.specs.TreeKeeping.{fileset_at, if_at, if_here, gone_from, record_at}

-- what stands in a list of which one element is replaced
pub get_set : {X : Type 0} (xs : List X) (i : ℕ) (x y : X) → slice_get xs i ≡ Some y →
    slice_get (slice_set xs i x) i ≡ Some x
get_set [] i x y e = absurd (cc)
get_set (z ∷ xs) zero x y e = refl
get_set (z ∷ xs) (suc i) x y e = get_set xs i x y e

pub get_set_other : {X : Type 0} (xs : List X) (i k : ℕ) (x : X) → k ≢ i →
    slice_get (slice_set xs i x) k ≡ slice_get xs k
get_set_other [] i k x off = refl
get_set_other (z ∷ xs) zero zero x off = absurd (off refl)
get_set_other (z ∷ xs) zero (suc k) x off = refl
get_set_other (z ∷ xs) (suc i) zero x off = refl
get_set_other (z ∷ xs) (suc i) (suc k) x off = get_set_other xs i k x (λ e. off (ap suc e))

pub length_set : {X : Type 0} (xs : List X) (i : ℕ) (x : X) → length (slice_set xs i x) ≡ length xs
length_set [] i x = refl
length_set (z ∷ xs) zero x = refl
length_set (z ∷ xs) (suc i) x = ap suc (length_set xs i x)

-- a store is replaced by one that has changed what it holds of one fileset
pub record Replaced (states after : List StoreState) (f : ℕ) (old new : StoreState) (id : FilesetId) : Type 0 where
  pub count : length after ≡ length states
  pub was : slice_get states f ≡ Some old
  pub now : slice_get after f ≡ Some new
  pub rest : (k : ℕ) → k ≢ f → slice_get after k ≡ slice_get states k
  pub server : new.server ≡ old.server
  pub beside : (other : FilesetId) → (other.0 == id.0) ≡ false →
      held_so (is_of other) new.slots ≡ held_so (is_of other) old.slots

-- what a store still holds; or that one changed it
abbrev pub StillHeld : List StoreState → StoreState → FilesetId → ServerId → FilesetId → Holding → Type 0
StillHeld after old id server other h =
    IsHeldBy after server other h
    ⊎ ((other ≡ id) × (server ≡ old.server) × (held_so (is_of id) old.slots ≡ Some h))

pub still_held : (states after : List StoreState) (f : ℕ) (old new : StoreState) (id : FilesetId) →
    Replaced states after f old new id → (server : ServerId) (other : FilesetId) (h : Holding) →
    IsHeldBy states server other h → StillHeld after old id server other h
still_held states after f old new id r server other h x =
    elim (eqb_tells x.place f) as (λ _. StillHeld after old id server other h) [
      | inr (z, off) ↦
          inl (record { place = x.place; state = x.state; there = r.rest x.place off ∙ x.there; own = x.own; held = x.held })
      | inl (z, same) ↦ by (other.0 == id.0) refl (its same)
    ]
  where
    its : x.place ≡ f → x.state ≡ old
    its same = let both : Some x.state ≡ Some old = sym x.there ∙ ap (slice_get states) same ∙ r.was in cc

    by : (b : Bool) → (other.0 == id.0) ≡ b → x.state ≡ old → StillHeld after old id server other h
    by false e same = inl (record {
      place = f;
      state = new;
      there = r.now;
      own = r.server ∙ sym (ap (λ (s : StoreState). s.server) same) ∙ x.own;
      held = r.beside other e ∙ sym (ap (λ (s : StoreState). held_so (is_of other) s.slots) same) ∙ x.held;
    })
    by true e same =
        let own = same_id other id e in
        inr (
          own,
          sym x.own ∙ ap (λ (s : StoreState). s.server) same,
          ap (λ (s : StoreState). held_so (is_of id) s.slots) (sym same)
              ∙ ap (λ i. held_so (is_of i) x.state.slots) (sym own) ∙ x.held,
        )

-- what a store's server has of an id in a tree, and what the store has
pub record Part (tree : Tree) (states : List StoreState) (server : ServerId) (id : FilesetId) (found : Option Holding) :
    Type 0 where
  pub fileset : option_map_or is_arriving (option_map (λ (h : Holding). h.stay) found) false ≡ false
      → option_and_then if_here found ≡ fileset_at tree server id
  pub arriving : (holding : Holding) (from : ServerId) (ship parts : ℕ) → found ≡ Some holding
      → holding.stay ≡ Arriving from ship parts
      → (sent : Holding) × IsComing tree states server id holding from ship parts sent
  pub records : option_and_then (λ (h : Holding). record_so server h.fileset h.stay) found ≡ record_at tree server id
  pub older : (holding : Holding) (fileset : Fileset) → found ≡ Some holding → is_out holding.stay ≡ true
      → find (has_id id) tree.filesets ≡ Some fileset → holding.fileset.moves < fileset.moves
  pub leaving : (holding : Holding) (to : ServerId) (ship : ℕ) → found ≡ Some holding
      → holding.stay ≡ Leaving to ship
      → (come : Holding) × IsHeldBy states to id come × (holding.fileset.moves < come.fileset.moves)

pub part_of : (tree : Tree) (states : List StoreState) (state : StoreState) (id : FilesetId) →
    KeepsUnderWay tree states state → Part tree states state.server id (held_so (is_of id) state.slots)
part_of tree states state id k = record {
  fileset = k.filesets id;
  arriving = k.arriving id;
  records = k.records id;
  older = k.older id;
  leaving = k.leaving id;
}

pub keeps_parts : (tree : Tree) (states : List StoreState) (state : StoreState) → IsStorable state →
    state.roster ≡ tree.roster → room_of tree.servers state.server ≡ Some (room_in state) →
    ((id : FilesetId) → Part tree states state.server id (held_so (is_of id) state.slots)) →
    KeepsUnderWay tree states state
keeps_parts tree states state storable roster room parts = record {
  storable = storable;
  roster = roster;
  room = room;
  filesets = λ id. (parts id).fileset;
  arriving = λ id. (parts id).arriving;
  records = λ id. (parts id).records;
  older = λ id. (parts id).older;
  leaving = λ id. (parts id).leaving;
}

-- what a tree and another one both have, but for records
pub record SameTree (tree next : Tree) : Type 0 where
  pub roster : next.roster ≡ tree.roster
  pub servers : next.servers ≡ tree.servers
  pub filesets : next.filesets ≡ tree.filesets

pub same_fileset : (tree next : Tree) → SameTree tree next → (server : ServerId) (id : FilesetId) →
    fileset_at next server id ≡ fileset_at tree server id
same_fileset tree next s server id =
    ap (λ filesets. option_and_then (if_at server) (find (has_id id) filesets)) s.filesets

-- What is on its way from the changed store's fileset isn't, or is still; and its moves didn't fall.
pub record Goes (states after : List StoreState) (f : ℕ) (old new : StoreState) (id : FilesetId) : Type 0 where
  pub replaced : Replaced states after f old new id
  pub moves : (h : Holding) → held_so (is_of id) old.slots ≡ Some h →
      (next : Holding) × (held_so (is_of id) new.slots ≡ Some next) × (h.fileset.moves ≤ next.fileset.moves)

-- a part stays
pub part_stays : (tree next : Tree) (states after : List StoreState) (f : ℕ) (old new : StoreState) (id : FilesetId) →
    SameTree tree next → Goes states after f old new id → (server : ServerId) (any : FilesetId) (found : Option Holding) →
    record_at next server any ≡ record_at tree server any →
    ((holding h : Holding) (ship parts : ℕ) → any ≡ id → found ≡ Some holding →
    holding.stay ≡ Arriving old.server ship parts → held_so (is_of id) old.slots ≡ Some h →
    h.stay ≡ Leaving server ship → ⊥) →
    Part tree states server any found → Part next after server any found
part_stays tree next states after f old new id t g server any found records never p = record {
  fileset = λ e. p.fileset e ∙ sym (same_fileset tree next t server any);
  arriving = λ holding from ship parts e a.
      (let (sent, coming) = p.arriving holding from ship parts e a in
      elim (still_held states after f old new id g.replaced from any sent coming.held) as
      (λ _. (sent : Holding) × IsComing next after server any holding from ship parts sent) [
        | inl x ↦ (
          sent,
          record {
            head = coming.head;
            held = x;
            leaves = coming.leaves;
            moves = coming.moves;
            name = coming.name;
            objects = coming.objects;
            there = same_fileset tree next t server any ∙ coming.there;
          },
        )
        | inr (own, is_from, held) ↦
            absurd (never holding sent ship parts own e
            (a ∙ ap (λ s. Arriving s ship parts) is_from) held coming.leaves)
      ]);
  records = p.records ∙ sym records;
  older = λ holding fileset e out there.
      p.older holding fileset e out (ap (find (has_id any)) (sym t.filesets) ∙ there);
  leaving = λ holding to ship e l.
      (let (come, x, more) = p.leaving holding to ship e l in
      elim (still_held states after f old new id g.replaced to any come x) as
      (λ _. (come : Holding) × IsHeldBy after to any come × (holding.fileset.moves < come.fileset.moves)) [
        | inl y ↦ (come, y, more)
        | inr (own, there, held) ↦
            (let (last, is_held, least) = g.moves come held in (
              last,
              record {
                place = f;
                state = new;
                there = g.replaced.now;
                own = g.replaced.server ∙ sym there;
                held = ap (λ i. held_so (is_of i) new.slots) own ∙ is_held;
              },
              omega (arith, more, least),
            ))
      ]);
}

-- of one that is here, and of one that has left
pub part_here : (tree : Tree) (states : List StoreState) (server : ServerId) (id : FilesetId) (h : Holding)
    (fileset : Fileset) → h.stay ≡ Writable → h.fileset ≡ fileset → fileset_at tree server id ≡ Some fileset →
    record_at tree server id ≡ None → Part tree states server id (Some h)
part_here tree states server id h fileset stay same there none = record {
  fileset = λ e. ap (λ s. if_here (record h { stay = s })) stay ∙ ap Some same ∙ sym there;
  arriving = λ holding from ship parts e a. absurd (let same : h ≡ holding = cc in
      let wrong : Writable ≡ Arriving from ship parts = sym stay ∙ ap (λ (x : Holding). x.stay) same ∙ a in cc);
  records = ap (λ s. record_so server h.fileset s) stay ∙ sym none;
  older = λ holding one e out found. absurd (let same : h ≡ holding = cc in
      let writable : holding.stay ≡ Writable = ap (λ (x : Holding). x.stay) (sym same) ∙ stay in
      let wrong : false ≡ true = sym (ap is_out writable) ∙ out in cc);
  leaving = λ holding to ship e l. absurd (let same : h ≡ holding = cc in
      let wrong : Writable ≡ Leaving to ship = sym stay ∙ ap (λ (x : Holding). x.stay) same ∙ l in cc);
}

pub part_gone : (tree : Tree) (states : List StoreState) (server : ServerId) (id : FilesetId) (h : Holding)
    (to : ServerId) → h.stay ≡ Gone to → fileset_at tree server id ≡ None →
    record_at tree server id ≡ Some (gone_from server h.fileset to) →
    ((fileset : Fileset) → find (has_id id) tree.filesets ≡ Some fileset → h.fileset.moves < fileset.moves) →
    Part tree states server id (Some h)
part_gone tree states server id h to stay none there older = record {
  fileset = λ e. ap (λ s. if_here (record h { stay = s })) stay ∙ sym none;
  arriving = λ holding from ship parts e a. absurd (let same : h ≡ holding = cc in
      let wrong : Gone to ≡ Arriving from ship parts = sym stay ∙ ap (λ (x : Holding). x.stay) same ∙ a in cc);
  records = ap (λ s. record_so server h.fileset s) stay ∙ sym there;
  older = λ holding fileset e out found.
      (let same : h ≡ holding = cc in
      subst (λ (x : Holding). x.fileset.moves < fileset.moves) same (older fileset found));
  leaving = λ holding at ship e l. absurd (let same : h ≡ holding = cc in
      let wrong : Gone to ≡ Leaving at ship = sym stay ∙ ap (λ (x : Holding). x.stay) same ∙ l in cc);
}

-- all stores keep their parts, where the changed one does, and the others have the same records
pub all_keep : (tree next : Tree) (states after : List StoreState) (f : ℕ) (old new : StoreState) (id : FilesetId) →
    KeepUnderWay tree states → SameTree tree next → Goes states after f old new id → IsStorable new →
    new.roster ≡ old.roster → room_in new ≡ room_in old →
    ((server : ServerId) (any : FilesetId) → ((server ≡ old.server) → (any.0 == id.0) ≡ false) →
    record_at next server any ≡ record_at tree server any) →
    ((k : ℕ) (state : StoreState) (holding h : Holding) (ship parts : ℕ) → k ≢ f →
    slice_get states k ≡ Some state → held_so (is_of id) state.slots ≡ Some holding →
    holding.stay ≡ Arriving old.server ship parts → held_so (is_of id) old.slots ≡ Some h →
    h.stay ≡ Leaving state.server ship → ⊥) →
    Part next after new.server id (held_so (is_of id) new.slots) → KeepUnderWay next after
all_keep tree next states after f old new id all t g storable roster room records never part = record {
  count = g.replaced.count ∙ all.count ∙ ap (λ r. length r.capacity) (sym t.roster);
  own = owns;
  keeps = keeps;
}
  where
    apart_key : (any : FilesetId) → any ≡ id → (any.0 == id.0) ≡ false → ⊥
    apart_key any same off =
        let wrong : true ≡ false = sym (ap (λ (i : FilesetId). i.0 == id.0) same ∙ same_key id.0) ∙ off in absurd (cc)

    owns : (k : ℕ) (state : StoreState) → slice_get after k ≡ Some state → state.server ≡ record { 0 = k + 1 }
    owns k state e =
        elim (eqb_tells k f) as (λ _. state.server ≡ record { 0 = k + 1 }) [
          | inr (z, off) ↦ all.own k state (sym (g.replaced.rest k off) ∙ e)
          | inl (z, same) ↦
              (let both : Some new ≡ Some state = sym g.replaced.now ∙ ap (slice_get after) (sym same) ∙ e in
              let its : new ≡ state = cc in
              ap (λ (s : StoreState). s.server) (sym its) ∙ g.replaced.server
              ∙ all.own k old (ap (slice_get states) same ∙ g.replaced.was))
        ]

    others : (k : ℕ) (state : StoreState) → k ≢ f → slice_get states k ≡ Some state → KeepsUnderWay next after state
    others k state off e =
        let keep = all.keeps k state e in
        let own = all.own k state e in
        let was = all.own f old g.replaced.was in
        keeps_parts next after state keep.storable (keep.roster ∙ sym t.roster)
        (ap (λ rooms. room_of rooms state.server) t.servers ∙ keep.room)
        (λ any. part_stays tree next states after f old new id t g state.server any (held_so (is_of any) state.slots)
        (records state.server any (λ same.
        (let places = ap (λ (s : ServerId). s.0) (sym own ∙ same ∙ was) in
        absurd (off (omega (arith, places))))))
        (λ holding h ship parts same held arrives was leaves.
        never k state holding h ship parts off e (ap (λ i. held_so (is_of i) state.slots) (sym same) ∙ held) arrives was
        leaves)
        (part_of tree states state any keep))

    changed : KeepsUnderWay next after new
    changed =
        let keep = all.keeps f old g.replaced.was in
        keeps_parts next after new storable (roster ∙ keep.roster ∙ sym t.roster)
        (ap (room_of next.servers) g.replaced.server ∙ ap (λ rooms. room_of rooms old.server) t.servers ∙ keep.room
        ∙ ap Some (sym room))
        (λ any. by keep any (any.0 == id.0) refl)
      where
        by : KeepsUnderWay tree states old → (any : FilesetId) (b : Bool) → (any.0 == id.0) ≡ b →
            Part next after new.server any (held_so (is_of any) new.slots)
        by keep any true e =
            subst (λ i. Part next after new.server i (held_so (is_of i) new.slots)) (sym (same_id any id e)) part
        by keep any false e =
            subst (λ s. Part next after s any (held_so (is_of any) new.slots)) (sym g.replaced.server)
            (subst (Part next after old.server any) (sym (g.replaced.beside any e))
            (part_stays tree next states after f old new id t g old.server any (held_so (is_of any) old.slots)
            (records old.server any (λ same. e))
            (λ holding h ship parts same held arrives was leaves. absurd (apart_key any same e))
            (part_of tree states old any keep)))

    keeps : (k : ℕ) (state : StoreState) → slice_get after k ≡ Some state → KeepsUnderWay next after state
    keeps k state e =
        elim (eqb_tells k f) as (λ _. KeepsUnderWay next after state) [
          | inr (z, off) ↦ others k state off (sym (g.replaced.rest k off) ∙ e)
          | inl (z, same) ↦
              (let both : Some new ≡ Some state = sym g.replaced.now ∙ ap (slice_get after) (sym same) ∙ e in
              let its : new ≡ state = cc in subst (KeepsUnderWay next after) its changed)
        ]
