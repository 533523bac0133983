-- What the wants that wait are known to be, and what stays so of the tables and the store.
use Rattle.std.proofs.Common.{◌≡◌, ◌⊎◌, ◌<◌, ℕ, zero, suc, Bool, true, false, ◌&&◌, not, List, [], ◌∷◌, length, inl}
use Rattle.std.proofs.Common.{inr}
use Rattle.std.proofs.Common.{ap, refl, sym, ◌∙◌, ◌/◌, subst, arith, ◌++◌}
use Rattle.std.specs.Prelude.{IsTrue, is_some, remove, slice_index_or}
use Rattle.std.proofs.lemmas.Bool.{and_parts, eq-eqb}
use Rattle.base_types.specs.declared.ids.FilesetId.{FilesetId}
use Rattle.base_types.specs.declared.ids.HostId.{HostId}
use Rattle.base_types.specs.declared.ids.ServerId.{ServerId}
use Rattle.tree_calls.specs.declared.call.Call.{Call}
use Rattle.tree_calls.specs.declared.call.Call.TheVariants.{CloneFileset, CloseFile, Create, GetAcl, List as ListNames}
use Rattle.tree_calls.specs.declared.call.Call.TheVariants.{Lock, MakeDir, MoveFileset, NewFileset, OpenFile, Read}
use Rattle.tree_calls.specs.declared.call.Call.TheVariants.{Remove, Rename, SetAcl, Stat, Sync, Truncate, Unlock, Write}
use Rattle.tree_calls.specs.Rosters.{user_of}
use Rattle.tree_calls.specs.declared.roster.Roster.{Roster}
use Rattle.message_types.specs.Soundness.{Each, IsBody, IsCall, IsChange, IsDecided as IsDecidedAt, IsFetch, IsHome}
use Rattle.message_types.specs.Soundness.{IsHost, IsServer}
use Rattle.message_types.specs.declared.asking.Change.{Change as ChangeOf}
use Rattle.message_types.specs.declared.asking.Fetch.{Fetch as FetchOf}
use Rattle.run_rules.specs.Past.{In}
use Rattle.run_rules.specs.Wants.{body_of, has_effect, is_use, moves_fileset}
use Rattle.run_rules.specs.declared.applied.Request.{Request}
use Rattle.run_rules.specs.declared.applied.Request.TheVariants.{Change as Changes, Fetch as Asks}
use Rattle.run_rules.specs.declared.applied.Wanted.{Wanted}
use Rattle.store_acts.specs.Sound.{IsDecided, IsFor as IsForServer}
use Rattle.store_memory.specs.Views.{IsSameStore, View}
use Rattle.store_state.specs.declared.state.StoreState.{StoreState}
use Rattle.server_tables.specs.Counting.{IsCounted}
use Rattle.server_tables.specs.Places.{is_of}
use Rattle.server_tables.specs.Sound.{CanHear}
use Rattle.server_tables.specs.declared.pending.Pending.{Pending}
use Rattle.server_tables.specs.declared.tables.Tables.{Tables}
use Rattle.server_tables.proofs.Numbered.{at_in}
use Rattle.server_says.specs.Messages.{IsStoreOf}
use Rattle.server_decides.specs.Deciding.{HasEffect, IsPlaced}
use Rattle.server_decides.specs.Serving.{CameSo, IsServed}

-- # Lists

pub of_each : {A : Type 0} (P : A → Type 0) (xs : List A) → Each P xs → (x : A) → In x xs → P x
of_each P [] e x i = elim i [ ]
of_each P (y ∷ ys) e x (inl q) = subst P (sym q) e.0
of_each P (y ∷ ys) e x (inr i) = of_each P ys e.1 x i

pub each_removed : {A : Type 0} (P : A → Type 0) (xs : List A) (at : ℕ) → Each P xs → Each P (remove xs at)
each_removed P [] zero e = tt
each_removed P [] (suc at) e = tt
each_removed P (x ∷ xs) zero e = e.1
each_removed P (x ∷ xs) (suc at) e = (e.0, each_removed P xs at e.1)

pub each_end : {A : Type 0} (P : A → Type 0) (xs : List A) (x : A) → Each P xs → P x → Each P (xs ++ x ∷ [])
each_end P [] x e p = (p, tt)
each_end P (y ∷ ys) x e p = (e.0, each_end P ys x e.1 p)

-- at a place there is one
pub index_one : {A : Type 0} (xs : List A) (at : ℕ) (a b : A) → at < length xs → slice_index_or xs at a
    ≡ slice_index_or xs at b
index_one [] at a b l = absurd (omega (arith, l))
index_one (x ∷ xs) zero a b l = refl
index_one (x ∷ xs) (suc at) a b l = index_one xs at a b (omega (arith, l))

pub placed_one : (ps : List Pending) (at : ℕ) (p q : Pending) → IsPlaced ps at p → IsPlaced ps at q → p ≡ q
placed_one ps at p q a b = sym a.1 ∙ index_one ps at p q a.0 ∙ b.1

pub placed_in : (ps : List Pending) (at : ℕ) (p : Pending) → IsPlaced ps at p → In p ps
placed_in ps at p a = at_in ps at p a.0 a.1

-- # A want that waits came in a sound message

pub came_in : (x : Tables) (state : StoreState) → IsServed x state → (p : Pending) → In p x.pending
    → CameSo x.server x.roster p.wanted
came_in x state s p i = of_each (λ (q : Pending). CameSo x.server x.roster q.wanted) x.pending s.asked p i

pub came_at : (x : Tables) (state : StoreState) → IsServed x state → (at : ℕ) (p : Pending) → IsPlaced x.pending at p
    → CameSo x.server x.roster p.wanted
came_at x state s at p a = came_in x state s p (placed_in x.pending at p a)

module _ (server : ServerId) (roster : Roster) (w : Wanted) (c : CameSo server roster w) where
  pub host_asks : IsHost roster w.host
  host_asks = subst (IsHost roster) c.host c.came.sound.host

  pub host_hears : CanHear server roster w.host
  host_hears = record { declared = host_asks; own = subst (IsServer roster) c.came.own c.came.sound.server }

  -- a fileset that has never moved is here
  here_by : (fileset : FilesetId) → IsHome c.m fileset → is_of server fileset ≡ true
  here_by fileset home =
      eq-eqb (fileset.0 / 65536) server.0 (home c.moves ∙ ap (λ (v : ServerId). v.0) c.came.own)

  module _ (change : ChangeOf) (is : w.request ≡ Changes change) where
    its_body : IsChange roster c.m change
    its_body = subst (λ (r : Request). IsBody roster c.m (body_of r)) is
        (subst (IsBody roster c.m) c.body c.came.sound.body)

    pub call_asks : IsCall roster change.call
    call_asks = its_body.call

    pub decided_asks : (IsTrue change.enter) ⊎ IsDecidedAt server change.call
    decided_asks = subst (λ (v : ServerId). (IsTrue change.enter)
        ⊎ IsDecidedAt v change.call) c.came.own its_body.decided

    pub change_here : (change.fileset.0 ≡ 0) ⊎ (is_of server change.fileset ≡ true)
    change_here = elim its_body.fileset [
      | inl none ↦ inl none
      | inr home ↦ inr (here_by change.fileset home)
    ]

  module _ (fetch : FetchOf) (is : w.request ≡ Asks fetch) where
    pub fetch_here : is_of server fetch.fid.fileset ≡ true
    fetch_here =
        let body : IsFetch c.m fetch = subst (λ (r : Request). IsBody roster c.m (body_of r)) is
        (subst (IsBody roster c.m) c.body c.came.sound.body) in
        here_by fetch.fid.fileset body.home

-- # A Change that has its effect may be done

done_call : (server : ServerId) (call : Call) → is_use call ≡ false → moves_fileset call ≡ false
    → IsDecidedAt server call → IsDecided call × IsForServer server call
done_call server (NewFileset at name objects owner) u m d = (tt, d)
done_call server (Create place) u m d = (tt, tt)
done_call server (MakeDir place) u m d = (tt, tt)
done_call server (Remove place) u m d = (tt, tt)
done_call server (Rename from to) u m d = (tt, tt)
done_call server (Truncate place len) u m d = (tt, tt)
done_call server (SetAcl place which list) u m d = (tt, tt)
done_call server (CloneFileset at name new) u m d = (tt, tt)
done_call server (Read place from len) u m d = absurd d
done_call server (Write place from bytes) u m d = absurd d
done_call server (ListNames place) u m d = absurd d
done_call server (Stat place) u m d = absurd d
done_call server (GetAcl place which) u m d = absurd d
done_call server (Sync place) u m d = absurd d
done_call server (Lock label place writing from len) u m d = absurd (cc)
done_call server (Unlock label) u m d = absurd d
done_call server (OpenFile label place kind) u m d = absurd (cc)
done_call server (CloseFile label) u m d = absurd d
done_call server (MoveFileset at name to) u m d = absurd (cc)

not_true : (b : Bool) → not b ≡ true → b ≡ false
not_true true e = absurd (cc)
not_true false e = refl

pub effect_parts : (change : ChangeOf) → has_effect change ≡ true → (change.enter ≡ false)
    × (is_use change.call ≡ false) × (moves_fileset change.call ≡ false)
effect_parts change e =
    let p = and_parts (not change.enter && not (is_use change.call)) (not (moves_fileset change.call)) e in
    let q = and_parts (not change.enter) (not (is_use change.call)) p.0 in
    (not_true change.enter q.0, not_true (is_use change.call) q.1, not_true (moves_fileset change.call) p.1)

pub may_do : (server : ServerId) (roster : Roster) (w : Wanted) → CameSo server roster w → (change : ChangeOf)
    → w.request ≡ Changes change → HasEffect w.request → IsDecided change.call × IsForServer server change.call
may_do server roster w c change is effect =
    let e : has_effect change ≡ true = subst HasEffect is effect in
    let p = effect_parts change e in
    elim (decided_asks server roster w c change is) [
      | inl t ↦ absurd (entering change.enter p.0 t)
      | inr d ↦ done_call server change.call p.1 p.2 d
    ]
  where
    entering : (b : Bool) → b ≡ false → IsTrue b → ⊥
    entering true e t = cc
    entering false e t = cc

-- # What stays

pub store_stays : (x y : Tables) (old new : View) → IsStoreOf x old.state → IsSameStore old new → y.server ≡ x.server
    → y.roster ≡ x.roster → IsStoreOf y new.state
store_stays x y old new s same v r = record {
  server = same.server ∙ s.server ∙ sym v;
  roster = same.roster ∙ s.roster
      ∙ sym r;
}

pub users_stay : (x y : Tables) → y.roster ≡ x.roster
    → ((host : HostId) → IsHost x.roster host → is_some (user_of x.roster host) ≡ true)
    → (host : HostId) → IsHost y.roster host → is_some (user_of y.roster host) ≡ true
users_stay x y r users = subst (λ (w : Roster). (host : HostId) → IsHost w host → is_some (user_of w host)
    ≡ true) (sym r) users

module _ (x y : Tables) (old new : View) (s : IsServed x old.state) (same : IsSameStore old new)
    (v : y.server ≡ x.server) (r : y.roster ≡ x.roster) (counted : IsCounted y) where
  abbrev CameTo : ServerId × Roster × List Pending → Type 0
  CameTo t = Each (λ (p : Pending). CameSo t.0 t.1 p.wanted) t.2

  pub served_of : (ps : List Pending) → y.pending ≡ ps → Each (λ (p : Pending). CameSo x.server x.roster p.wanted) ps
      → IsServed y new.state
  served_of ps e came = record {
    store = store_stays x y old new s.store same v r;
    users = users_stay x y r s.users;
    counted = counted;
    asked = subst CameTo (λ i. (sym v i, sym r i, sym e i)) came;
  }

  -- the same wants wait
  pub served_on : y.pending ≡ x.pending → IsServed y new.state
  served_on e = served_of x.pending e s.asked

  -- one doesn't wait any more
  pub served_less : (at : ℕ) → y.pending ≡ remove x.pending at → IsServed y new.state
  served_less at e =
      served_of (remove x.pending at) e
      (each_removed (λ (p : Pending). CameSo x.server x.roster p.wanted) x.pending at s.asked)

  -- one more waits
  pub served_more : (p : Pending) → y.pending ≡ x.pending ++ p ∷ [] → CameSo x.server x.roster p.wanted
      → IsServed y new.state
  served_more p e c =
      served_of (x.pending ++ p ∷ []) e
      (each_end (λ (q : Pending). CameSo x.server x.roster q.wanted) x.pending p s.asked c)
