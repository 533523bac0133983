-- Where the look of a call begins.
use Rattle.std.proofs.Common.{◌≡◌, ◌<◌, ◌&&◌, ◌||◌, ◌∙◌, Bool, Err, List, None, Ok, Option, Result, Some, [], ap}
use Rattle.std.proofs.Common.{arith}
use Rattle.std.proofs.Common.{◌∷◌, cond, false, nat_le, not, refl, subst, sym, true, ℕ, if◌then◌else◌}
use Rattle.std.proofs.lemmas.Bool.{false_from_ne_true, le-leb, leb-true, or_parts}
use Rattle.std.specs.List.{find, list_any}
use Rattle.base_types.specs.declared.ids.Fid.{Fid}
use Rattle.base_types.specs.declared.ids.ServerId.{ServerId}
use Rattle.base_types.specs.declared.ids.OpenKind.{OpenKind}
use Rattle.base_types.specs.declared.limits.TheConstants.{LABELS_MAX}
use Rattle.base_types.specs.declared.user.User.{User}
use Rattle.host_calls.proofs.Labels.{has_lock_is, has_open_is, lock_count_is, open_count_is}
use Rattle.host_calls.specs.Looking.{AreUses, EndsPathless, EndsSo, IsBacked, IsFresh, IsPathless, LabelStarts}
use Rattle.host_calls.specs.Looking.{StartsAt}
use Rattle.host_calls.specs.Looking.{StartsBacked, StartsSo}
use Rattle.host_calls.specs.Looking.{ending_of, freed_by, meant, path_look, taken_label, taken_refusal}
use Rattle.host_calls.specs.Looking.LabelStarts.{HasAll, HasIt, MayTake}
use Rattle.host_calls.specs.declared.looking.Question.TheVariants.{At}
use Rattle.host_calls.specs.declared.looking.Start.{Start}
use Rattle.host_calls.specs.declared.looking.Start.TheVariants.{Ends as EndsAt, Walks}
use Rattle.host_calls.specs.declared.looking.Verdict.{Verdict}
use Rattle.host_calls.specs.declared.looking.Verdict.TheVariants.{Asks, Frees, Gives}
use Rattle.host_labels.specs.Labels.{is_labelled, use_of}
use Rattle.host_labels.specs.declared.uses.Labelled.{Labelled as UseOf}
use Rattle.host_leaves.specs.Owning.{has_label, label_count}
use Rattle.host_tables.specs.Stands.{look_from}
use Rattle.host_tables.specs.Tables.{ends_label, gives_label, home_of, is_last_pinned, own_of}
use Rattle.host_tables.specs.declared.tables.Tables.{Tables}
use Rattle.need_host.specs.Calls.{Verdict as Meant, call_look, change_look, from_root, in_place, lock_look, open_look}
use Rattle.need_host.specs.Calls.{access_look, list_look, read_look, refuse, stat_look, sync_look, write_look}
use Rattle.need_host.specs.Calls.Verdict.{Frees as FreesIt, Gives as GivesIt}
use Rattle.need_host.specs.Looks.{Look}
use Rattle.need_host.specs.Looks.Look.{Ends}
use Rattle.tree_answers.specs.Locks.{has_lock, lock_count}
use Rattle.tree_answers.specs.Opens.{has_open, open_count}
use Rattle.tree_calls.specs.declared.call.Call.{Call}
use Rattle.tree_calls.specs.declared.call.Call.TheVariants.{CloneFileset, CloseFile, Create, GetAcl, Lock, MakeDir}
use Rattle.tree_calls.specs.declared.call.Call.TheVariants.{List as ListNames, MoveFileset, NewFileset, OpenFile, Read}
use Rattle.tree_calls.specs.declared.call.Call.TheVariants.{Remove, Rename, SetAcl, Stat, Sync, Truncate, Unlock, Write}
use Rattle.tree_calls.specs.declared.place.Place.{Place}
use Rattle.tree_calls.specs.declared.reply.Refusal.{Refusal}
use Rattle.tree_calls.specs.declared.reply.Refusal.TheVariants.{NotLocked, NotOpened, TooMany}

module _ (m : Tables) where
  -- ---- a call in a fileset
  along : (call : Call) (server : ServerId) (name : List ℕ) (path : List (List ℕ)) (look : Fid → Look Meant) →
      look_from m call ≡ from_root server (home_of m.homes server name) look →
      ((root : Fid) → look root ≡ path_look m call root path) → (start : Start) → StartsAt m server name path start →
      StartsSo m call start
  along call server name path look from same (EndsAt verdict) (none, is) =
      λ uses. from ∙ ap (λ o. from_root server o look) none
      ∙ ap (λ (v : Result Verdict Refusal). Ends (meant m call v)) (sym is)
  along call server name path look from same (Walks root way) (id, entered, is, goes) =
      λ uses. from ∙ ap (λ o. from_root server o look) entered ∙ ap look (sym is) ∙ same root
      ∙ ap (λ p. path_look m call root p) (sym goes)

  -- the place of a call that takes no label
  abbrev pub place_of : Call → Option Place
  place_of (Create place) = Some place
  place_of (MakeDir place) = Some place
  place_of (Remove place) = Some place
  place_of (Rename from to) = Some from
  place_of (Truncate place len) = Some place
  place_of (SetAcl place which list) = Some place
  place_of (Read place from len) = Some place
  place_of (Write place from bytes) = Some place
  place_of (ListNames place) = Some place
  place_of (Stat place) = Some place
  place_of (GetAcl place which) = Some place
  place_of (Sync place) = Some place
  place_of _ = None

  some_is : (p place : Place) → Some p ≡ Some place → place ≡ p
  some_is p place e = cc

  at_place : (p place : Place) → Some p ≡ Some place → (start : Start) →
      StartsAt m place.server place.fileset place.path start → StartsAt m p.server p.fileset p.path start
  at_place p place e start h =
      subst (λ (o : Place). StartsAt m o.server o.fileset o.path start) (some_is p place e) h

  pub starts_in : (call : Call) (place : Place) → place_of call ≡ Some place → (start : Start) →
      StartsAt m place.server place.fileset place.path start → StartsSo m call start
  unfolding call_look
  starts_in (Create p) place e start h =
      along (Create p) p.server p.fileset p.path change_look refl (λ root. refl) start
      (at_place p place e start h)
  starts_in (MakeDir p) place e start h =
      along (MakeDir p) p.server p.fileset p.path change_look refl (λ root. refl) start
      (at_place p place e start h)
  starts_in (Remove p) place e start h =
      along (Remove p) p.server p.fileset p.path change_look refl (λ root. refl) start
      (at_place p place e start h)
  starts_in (Rename p to) place e start h =
      along (Rename p to) p.server p.fileset p.path change_look refl (λ root. refl) start
      (at_place p place e start h)
  starts_in (Truncate p len) place e start h =
      along (Truncate p len) p.server p.fileset p.path change_look refl (λ root. refl) start
      (at_place p place e start h)
  starts_in (SetAcl p which list) place e start h =
      along (SetAcl p which list) p.server p.fileset p.path change_look refl (λ root. refl) start
      (at_place p place e start h)
  starts_in (Read p from len) place e start h =
      along (Read p from len) p.server p.fileset p.path (λ root. read_look m.user root p.path from len) refl (λ root.
      refl) start
      (at_place p place e start h)
  starts_in (Write p from bytes) place e start h =
      along (Write p from bytes) p.server p.fileset p.path (λ root. write_look m.user root p.path from bytes) refl (λ
      root. refl) start
      (at_place p place e start h)
  starts_in (ListNames p) place e start h =
      along (ListNames p) p.server p.fileset p.path (λ root. list_look m.user root p.path) refl (λ root. refl) start
      (at_place p place e start h)
  starts_in (Stat p) place e start h =
      along (Stat p) p.server p.fileset p.path (λ root. stat_look m.user root p.path) refl (λ root. refl) start
      (at_place p place e start h)
  starts_in (GetAcl p which) place e start h =
      along (GetAcl p which) p.server p.fileset p.path (λ root. access_look m.user root p.path which) refl (λ root.
      refl) start
      (at_place p place e start h)
  starts_in (Sync p) place e start h =
      along (Sync p) p.server p.fileset p.path (λ root. sync_look (own_of m) m.user root p.path) refl (λ root. refl)
      start
      (at_place p place e start h)
  starts_in call place e start h = absurd (cc)

  pub starts_move : (server : ServerId) (name : List ℕ) (to : ServerId) (start : Start) →
      StartsAt m server name [] start → StartsSo m (MoveFileset server name to) start
  unfolding call_look
  starts_move server name to start h =
      along (MoveFileset server name to) server name [] change_look refl (λ root. refl) start h

  -- ---- a call by which a server has a fileset more
  pub starts_new : (call : Call) (server : ServerId) (name : List ℕ) (objects : ℕ) (owner : User) →
      call ≡ NewFileset server name objects owner → EndsSo m call (Ok (Asks (At server)))
  unfolding call_look
  starts_new call server name objects owner is = λ uses. ap (λ c. look_from m c) is

  pub starts_clone : (call : Call) (server : ServerId) (source new : List ℕ) →
      call ≡ CloneFileset server source new → EndsSo m call (Ok (Asks (At server)))
  unfolding call_look
  starts_clone call server source new is = λ uses. ap (λ c. look_from m c) is

  -- ---- a call that takes a label
  abbrev by_label : Refusal → Bool → Bool → Look Meant → Look Meant
  by_label refusal has full look = if has then refuse refusal else if full then refuse TooMany else look

  labelled_so : (call : Call) (lock : Bool) (place : Place) (label : List ℕ) (has full : Bool) (look : Fid → Look
      Meant) →
      (AreUses m → has ≡ has_label m lock label) → (AreUses m → full ≡ nat_le LABELS_MAX (label_count m lock)) →
      look_from m call ≡ by_label (taken_refusal lock) has full (in_place (own_of m) place look) →
      ((root : Fid) → look root ≡ path_look m call root place.path) → (start : Start) →
      LabelStarts m lock label place start → StartsSo m call start
  labelled_so call lock place label has full look has_is full_is from same start (HasIt h is) =
      subst (StartsSo m call) (sym is) (λ uses. from
      ∙ ap (λ b. by_label (taken_refusal lock) b full (in_place (own_of m) place look)) (has_is uses ∙ h))
  labelled_so call lock place label has full look has_is full_is from same start (HasAll h all is) =
      subst (StartsSo m call) (sym is) (λ uses. from
      ∙ ap (λ b. by_label (taken_refusal lock) b full (in_place (own_of m) place look)) (has_is uses ∙ h)
      ∙ ap (λ b. by_label (taken_refusal lock) false b (in_place (own_of m) place look))
      (full_is uses ∙ le-leb LABELS_MAX (label_count m lock) all))
  labelled_so call lock place label has full look has_is full_is from same start (MayTake h room at) =
      behind (λ uses. from
      ∙ ap (λ b. by_label (taken_refusal lock) b full (in_place (own_of m) place look)) (has_is uses ∙ h)
      ∙ ap (λ b. by_label (taken_refusal lock) false b (in_place (own_of m) place look))
      (full_is uses ∙ too_few (label_count m lock) room)) start at
    where
      too_few : (n : ℕ) → n < LABELS_MAX → nat_le LABELS_MAX n ≡ false
      too_few n h = false_from_ne_true (nat_le LABELS_MAX n) (λ e. absurd (omega (arith, h, leb-true LABELS_MAX n e)))

      behind : (AreUses m → look_from m call ≡ in_place (own_of m) place look) → (start : Start) →
          StartsAt m place.server place.fileset place.path start → StartsSo m call start
      behind goes (EndsAt verdict) (none, is) =
          λ uses. goes uses ∙ ap (λ o. from_root place.server o look) none
          ∙ ap (λ (v : Result Verdict Refusal). Ends (meant m call v)) (sym is)
      behind goes (Walks root way) (id, entered, is, leads) =
          λ uses. goes uses ∙ ap (λ o. from_root place.server o look) entered ∙ ap look (sym is) ∙ same root
          ∙ ap (λ p. path_look m call root p) (sym leads)

  pub starts_lock : (label : List ℕ) (place : Place) (writing : Bool) (from len : ℕ) (start : Start) →
      LabelStarts m true label place start → StartsSo m (Lock label place writing from len) start
  unfolding call_look
  starts_lock label place writing from len start h =
      labelled_so (Lock label place writing from len) true place label (has_lock (own_of m).locks m.host label)
      (nat_le LABELS_MAX (lock_count (own_of m).locks m.host))
      (λ root. lock_look (own_of m) m.host m.user root place.path writing from len)
      (λ uses. has_lock_is m label) (λ uses. ap (nat_le LABELS_MAX) (lock_count_is m)) refl (λ root. refl) start h

  pub starts_open : (label : List ℕ) (place : Place) (kind : OpenKind) (start : Start) →
      LabelStarts m false label place start → StartsSo m (OpenFile label place kind) start
  unfolding call_look
  starts_open label place kind start h =
      labelled_so (OpenFile label place kind) false place label (has_open (own_of m).opens m.host label)
      (nat_le LABELS_MAX (open_count (own_of m).opens m.host))
      (λ root. open_look m.user root place.path kind)
      (λ uses. has_open_is m label uses) (λ uses. ap (nat_le LABELS_MAX) (open_count_is m uses)) refl (λ root. refl)
      start h

  -- ---- a call that frees a label
  freed_so : (lock : Bool) (label : List ℕ) (has : Bool) → has ≡ has_label m lock label →
      (if not has then refuse (if lock then NotLocked else NotOpened)
      else Ends (if gives_label m lock label then GivesIt else FreesIt))
      ≡ Ends (meant m (ending_of lock label) (freed_by m lock label))
  freed_so lock label has is =
      ap (λ b. if not b then refuse (if lock then NotLocked else NotOpened)
      else Ends (if gives_label m lock label then GivesIt else FreesIt)) is ∙ by_has (has_label m lock label) refl
    where
      by_gives : (gives : Bool) →
          Ends (if gives then GivesIt else FreesIt)
          ≡ Ends (meant m (ending_of lock label) (Ok (if gives then Gives else Frees)))
      by_gives true = refl
      by_gives false = refl

      by_has : (b : Bool) → b ≡ has_label m lock label →
          (if not b then refuse (if lock then NotLocked else NotOpened)
          else Ends (if gives_label m lock label then GivesIt else FreesIt))
          ≡ Ends (meant m (ending_of lock label)
          (if not b then Err (if lock then NotLocked else NotOpened)
          else Ok (if gives_label m lock label then Gives else Frees)))
      by_has true e = by_gives (gives_label m lock label)
      by_has false e = refl

  pub starts_unlock : (label : List ℕ) → EndsSo m (Unlock label) (freed_by m true label)
  unfolding call_look
  starts_unlock label =
      λ uses. freed_so true label (has_lock (own_of m).locks m.host label) (has_lock_is m label)

  pub starts_close : (label : List ℕ) → EndsSo m (CloseFile label) (freed_by m false label)
  unfolding call_look
  starts_close label =
      λ uses. freed_so false label (has_open (own_of m).opens m.host label) (has_open_is m label uses)

  -- ---- what the verdict rests on
  abbrev is_use : Bool → List ℕ → UseOf → Bool
  is_use lock label = is_labelled lock label

  found_some : (test : UseOf → Bool) (xs : List UseOf) → list_any test xs ≡ true →
      (used : UseOf) × (find test xs ≡ Some used)
  found_some test [] e = absurd (cc)
  found_some test (x ∷ xs) e = by_test (found_some test xs) (test x) refl
    where
      by_test : (list_any test xs ≡ true → (used : UseOf) × (find test xs ≡ Some used)) → (b : Bool) → test x ≡ b →
          (used : UseOf) × (cond (test x) (Some x) (find test xs) ≡ Some used)
      by_test go true is = (x, ap (λ b. cond b (Some x) (find test xs)) is)
      by_test go false is =
          let r = go (sym (ap (λ b. b || list_any test xs) is) ∙ e) in
          (r.0, ap (λ b. cond b (Some x) (find test xs)) is ∙ r.1)

  found_none : (test : UseOf → Bool) (xs : List UseOf) → list_any test xs ≡ false → find test xs ≡ None
  found_none test [] e = refl
  found_none test (x ∷ xs) e =
      let p = or_parts (test x) (list_any test xs) e in
      ap (λ b. cond b (Some x) (find test xs)) p.0 ∙ found_none test xs p.1

  pub label_unused : (lock : Bool) (label : List ℕ) → has_label m lock label ≡ false →
      use_of m.uses lock label ≡ None
  label_unused lock label e =
      found_none (is_use lock label) m.uses.labels
      (or_parts (list_any (is_use lock label) m.uses.labels) (ends_label lock label m.ending) e).0

  pub freed_backed : (lock : Bool) (label : List ℕ) (call : Call) → call ≡ ending_of lock label →
      IsBacked m call (freed_by m lock label)
  freed_backed lock label call is = by_has (has_label m lock label) refl
    where
      only : (x y g : Bool) → (x || y) ≡ true → (g || y) ≡ false → x ≡ true
      only true y g h k = refl
      only false true g h k = absurd (none g k)
        where
          none : (g : Bool) → (g || true) ≡ false → ⊥
          none true k = absurd (cc)
          none false k = absurd (cc)
      only false false g h k = h

      by_gives : (gives : Bool) → gives_label m lock label ≡ gives → has_label m lock label ≡ true →
          IsBacked m call (Ok (if gives then Gives else Frees))
      by_gives true g h = record { lock = lock; label = label; call_is = is }
      by_gives false g h =
          let found = found_some (is_use lock label) m.uses.labels
          (only (list_any (is_use lock label) m.uses.labels) (ends_label lock label m.ending)
          (list_any (λ (used : UseOf). is_labelled lock label used && is_last_pinned m.uses used) m.uses.labels) h g) in
          record { lock = lock; label = label; call_is = is; used = found.0; in_use = found.1 }

      by_has : (has : Bool) → has_label m lock label ≡ has →
          IsBacked m call (if not has then Err (if lock then NotLocked else NotOpened)
          else Ok (if gives_label m lock label then Gives else Frees))
      by_has false h = tt
      by_has true h = by_gives (gives_label m lock label) refl h

  pub at_backed : (call : Call) (server : ServerId) (name : List ℕ) (path : List (List ℕ)) (start : Start) →
      StartsAt m server name path start → IsFresh m call → StartsBacked m call start
  at_backed call server name path (EndsAt verdict) (none, is) fresh =
      subst (IsBacked m call) (sym is) tt
  at_backed call server name path (Walks root way) h fresh = fresh

  abbrev unused_in : Option (Bool × List ℕ) → Type 0
  unused_in None = Unit {0}
  unused_in (Some (lock, label)) = use_of m.uses lock label ≡ None

  pub label_backed : (call : Call) (lock : Bool) (label : List ℕ) (place : Place) (start : Start) →
      taken_label call ≡ Some (lock, label) → LabelStarts m lock label place start → StartsBacked m call start
  label_backed call lock label place start is (HasIt h e) = subst (StartsBacked m call) (sym e) tt
  label_backed call lock label place start is (HasAll h all e) = subst (StartsBacked m call) (sym e) tt
  label_backed call lock label place start is (MayTake h room at) =
      at_backed call place.server place.fileset place.path start at
      (λ other name e. fresh other name (sym is ∙ e))
    where
      fresh : (other : Bool) (name : List ℕ) →
          ◌≡◌ {A = Option (Bool × List ℕ)} (Some (lock, label)) (Some (other, name)) → use_of m.uses other name ≡ None
      fresh other name e =
          subst (λ (q : Option (Bool × List ℕ)). unused_in q) e (label_unused lock label h)

-- ---- no Sync ends before its path
pub at_pathless : (m : Tables) (server : ServerId) (name : List ℕ) (path : List (List ℕ)) (start : Start) →
    StartsAt m server name path start → EndsPathless start
at_pathless m server name path (EndsAt verdict) (none, is) = subst IsPathless (sym is) tt
at_pathless m server name path (Walks root way) h = tt

pub label_pathless : (m : Tables) (lock : Bool) (label : List ℕ) (place : Place) (start : Start) →
    LabelStarts m lock label place start → EndsPathless start
label_pathless m lock label place start (HasIt has is) = subst EndsPathless (sym is) tt
label_pathless m lock label place start (HasAll has many is) = subst EndsPathless (sym is) tt
label_pathless m lock label place start (MayTake has few h) =
    at_pathless m place.server place.fileset place.path start h

pub freed_pathless : (m : Tables) (lock : Bool) (label : List ℕ) → IsPathless (freed_by m lock label)
freed_pathless m lock label = by_test (has_label m lock label) (gives_label m lock label)
  where
    by_test : (a b : Bool) → IsPathless (if not a then Err (if lock then NotLocked else NotOpened)
        else Ok (if b then Gives else Frees))
    by_test true true = tt
    by_test true false = tt
    by_test false b = tt
