-- Each token that a Revoke names is seen to: it is kept, or leaves, or is returned, or the give-back that names it goes
-- again.
use Rattle.base_types.specs.declared.ids.FilesetId.{FilesetId}
use Rattle.host_cache.specs.Holding.{is_id}
use Rattle.host_cache.specs.declared.held.Held.{Held}
use Rattle.host_gives.specs.Giving.{is_outstanding}
use Rattle.host_labels.specs.Labels.{has_id as is_in_use}
use Rattle.host_leaves.specs.Revoking.{given_by, has_id, is_leaving, none_sorted, once_each, sorted_by, sorting}
use Rattle.host_leaves.specs.Revoking.{sorting_held, with_given, with_id}
use Rattle.host_leaves.specs.Sending.{with_once}
use Rattle.host_manager.proofs.LeftFile.{in_last, last_or}
use Rattle.host_manager.proofs.OnceSaid.{once_more}
use Rattle.host_manager.proofs.Repeated.{with_once_from, with_once_has, with_once_keeps}
use Rattle.host_manager.proofs.Repeated.{with_once_once}
use Rattle.host_manager.proofs.SortedSo.{fold_end, once_in}
use Rattle.host_tables.proofs.Lists.{any_false, by_test, id_same, in_any, in_left, same_id_is, true_false}
use Rattle.host_tables.proofs.Outstanding.{found_in}
use Rattle.host_gives.specs.declared.leavings.Leaving.{Leaving}
use Rattle.host_tables.specs.declared.tables.Tables.{Tables}
use Rattle.run_rules.specs.Past.{EachOnce, In}
use Rattle.std.proofs.Common.{append-nil, append_assoc}
use Rattle.std.proofs.Common.{Bool, List, None, Option, Some, [], ap, false, fold, if◌then◌else◌, inl, inr, refl}
use Rattle.std.proofs.Common.{subst, sym, true, ◌&&◌, ◌++◌, ◌∙◌, ◌∷◌, ◌≡◌, ◌⊎◌}
use Rattle.std.specs.List.{find, list_any}
use Rattle.token_types.specs.Conflicts.{same_id}
use Rattle.token_types.specs.declared.token.Token.{Token}
use Rattle.token_types.specs.declared.token.TokenId.{TokenId}

-- it is in the list where it belongs
pub record Sees (m : Tables) (kept left : List Token) (back : List TokenId) (given : List FilesetId) (i : TokenId)
    : Type 0 where
  pub used : (h : Held) → find (is_id i) m.cache.held ≡ Some h → is_in_use m.uses.labels i ≡ true → In h.token kept
  pub idle : (h : Held) → find (is_id i) m.cache.held ≡ Some h → is_in_use m.uses.labels i ≡ false → In h.token left
  pub none : find (is_id i) m.cache.held ≡ None → list_any (is_leaving i) m.leaving ≡ false → In i back
  pub again : (y : Leaving) → In y m.leaving
      → (is_leaving i y && is_outstanding m.gives y.fileset y.number) ≡ true → In y.fileset given

module _ (m : Tables) where
  -- # The filesets of its give-back
  one_keeps : (id : TokenId) (fss : List FilesetId) (y : Leaving) (fs : FilesetId) → In fs fss
      → In fs (with_given m id fss y)
  one_keeps id fss y fs i = by_test_of (is_leaving id y && is_outstanding m.gives y.fileset y.number)
    where
      by_test_of : (b : Bool) → In fs (if b then with_once fss y.fileset else fss)
      by_test_of true = with_once_keeps fss y.fileset fs i
      by_test_of false = i

  given_keeps : (id : TokenId) (fss : List FilesetId) (ys : List Leaving) (fs : FilesetId) → In fs fss
      → In fs (fold (with_given m id) fss ys)
  given_keeps id fss [] fs i = i
  given_keeps id fss (y ∷ ys) fs i = given_keeps id (with_given m id fss y) ys fs (one_keeps id fss y fs i)

  given_all : (id : TokenId) (fss : List FilesetId) (ys : List Leaving) (y : Leaving) → In y ys
      → (is_leaving id y && is_outstanding m.gives y.fileset y.number) ≡ true
      → In y.fileset (fold (with_given m id) fss ys)
  given_all id fss [] y i e = elim i [ ]
  given_all id fss (x ∷ ys) y (inl q) e = given_keeps id (with_given m id fss x) ys y.fileset
      (subst (λ (z : Leaving). In y.fileset (with_given m id fss z)) q
      (subst (λ (b : Bool). In y.fileset (if b then with_once fss y.fileset else fss)) (sym e)
      (with_once_has fss y.fileset)))
  given_all id fss (x ∷ ys) y (inr j) e = given_all id (with_given m id fss x) ys y j e

  -- # One token
  abbrev KeptBy : List TokenId → List Token
  KeptBy done = (fold (sorting m) none_sorted done).kept

  abbrev LeftBy : List TokenId → List Token
  LeftBy done = (fold (sorting m) none_sorted done).left

  abbrev BackBy : List TokenId → List TokenId
  BackBy done = (fold (sorting m) none_sorted done).back

  abbrev GivenBy : List TokenId → List FilesetId
  GivenBy done = (fold (sorting m) none_sorted done).given

  abbrev SeesIn : List TokenId → TokenId → Type 0
  SeesIn done i = Sees m (KeptBy done) (LeftBy done) (BackBy done) (GivenBy done) i

  abbrev SeesBy : List TokenId → TokenId → Option Held → TokenId → Type 0
  SeesBy done id o i = Sees m
      (sorting_held m id o (given_by m id (fold (sorting m) none_sorted done))).kept
      (sorting_held m id o (given_by m id (fold (sorting m) none_sorted done))).left
      (sorting_held m id o (given_by m id (fold (sorting m) none_sorted done))).back
      (sorting_held m id o (given_by m id (fold (sorting m) none_sorted done))).given i

  -- one that was seen to is so still
  still_seen : (done : List TokenId) (id i : TokenId) → SeesIn done i → (o : Option Held) → SeesBy done id o i
  still_seen done id i so None = by_way (list_any (is_leaving id) m.leaving)
    where
      by_way : (b : Bool) → Sees m
          (if b then given_by m id (fold (sorting m) none_sorted done)
          else record (given_by m id (fold (sorting m) none_sorted done)) { back = BackBy done ++ id ∷ [] }).kept
          (if b then given_by m id (fold (sorting m) none_sorted done)
          else record (given_by m id (fold (sorting m) none_sorted done)) { back = BackBy done ++ id ∷ [] }).left
          (if b then given_by m id (fold (sorting m) none_sorted done)
          else record (given_by m id (fold (sorting m) none_sorted done)) { back = BackBy done ++ id ∷ [] }).back
          (if b then given_by m id (fold (sorting m) none_sorted done)
          else record (given_by m id (fold (sorting m) none_sorted done)) { back = BackBy done ++ id ∷ [] }).given i
      by_way true = record {
        used = so.used;
        idle = so.idle;
        none = so.none;
        again = λ y j e. given_keeps id (GivenBy done) m.leaving y.fileset (so.again y j e);
      }
      by_way false = record {
        used = so.used;
        idle = so.idle;
        none = λ e n. in_left (BackBy done) (id ∷ []) i (so.none e n);
        again = λ y j e. given_keeps id (GivenBy done) m.leaving y.fileset (so.again y j e);
      }
  still_seen done id i so (Some h) = by_use (is_in_use m.uses.labels id)
    where
      by_use : (b : Bool) → Sees m
          (if b then record (given_by m id (fold (sorting m) none_sorted done)) { kept = KeptBy done ++ h.token ∷ [] }
          else record (given_by m id (fold (sorting m) none_sorted done)) { left = LeftBy done ++ h.token ∷ [] }).kept
          (if b then record (given_by m id (fold (sorting m) none_sorted done)) { kept = KeptBy done ++ h.token ∷ [] }
          else record (given_by m id (fold (sorting m) none_sorted done)) { left = LeftBy done ++ h.token ∷ [] }).left
          (if b then record (given_by m id (fold (sorting m) none_sorted done)) { kept = KeptBy done ++ h.token ∷ [] }
          else record (given_by m id (fold (sorting m) none_sorted done)) { left = LeftBy done ++ h.token ∷ [] }).back
          (if b then record (given_by m id (fold (sorting m) none_sorted done)) { kept = KeptBy done ++ h.token ∷ [] }
          else record (given_by m id (fold (sorting m) none_sorted done))
          { left = LeftBy done ++ h.token ∷ [] }).given i
      by_use true = record {
        used = λ k e u. in_left (KeptBy done) (h.token ∷ []) k.token (so.used k e u);
        idle = so.idle;
        none = so.none;
        again = λ y j e. given_keeps id (GivenBy done) m.leaving y.fileset (so.again y j e);
      }
      by_use false = record {
        used = so.used;
        idle = λ k e u. in_left (LeftBy done) (h.token ∷ []) k.token (so.idle k e u);
        none = so.none;
        again = λ y j e. given_keeps id (GivenBy done) m.leaving y.fileset (so.again y j e);
      }

  -- and the next is
  now_seen : (done : List TokenId) (id : TokenId) (o : Option Held) → find (is_id id) m.cache.held ≡ o
      → SeesBy done id o id
  now_seen done id None found = by_way (list_any (is_leaving id) m.leaving) refl
    where
      by_way : (b : Bool) → list_any (is_leaving id) m.leaving ≡ b → Sees m
          (if b then given_by m id (fold (sorting m) none_sorted done)
          else record (given_by m id (fold (sorting m) none_sorted done)) { back = BackBy done ++ id ∷ [] }).kept
          (if b then given_by m id (fold (sorting m) none_sorted done)
          else record (given_by m id (fold (sorting m) none_sorted done)) { back = BackBy done ++ id ∷ [] }).left
          (if b then given_by m id (fold (sorting m) none_sorted done)
          else record (given_by m id (fold (sorting m) none_sorted done)) { back = BackBy done ++ id ∷ [] }).back
          (if b then given_by m id (fold (sorting m) none_sorted done)
          else record (given_by m id (fold (sorting m) none_sorted done)) { back = BackBy done ++ id ∷ [] }).given id
      by_way true w = record {
        used = λ h e u. absurd (let p = sym found ∙ e in cc);
        idle = λ h e u. absurd (let p = sym found ∙ e in cc);
        none = λ e n. absurd (true_false (list_any (is_leaving id) m.leaving) w n);
        again = λ y j e. given_all id (GivenBy done) m.leaving y j e;
      }
      by_way false w = record {
        used = λ h e u. absurd (let p = sym found ∙ e in cc);
        idle = λ h e u. absurd (let p = sym found ∙ e in cc);
        none = λ e n. in_last (BackBy done) id;
        again = λ y j e. given_all id (GivenBy done) m.leaving y j e;
      }
  now_seen done id (Some h) found = by_use (is_in_use m.uses.labels id) refl
    where
      same : (k : Held) → find (is_id id) m.cache.held ≡ Some k → h ≡ k
      same k e = let p = sym found ∙ e in cc

      by_use : (b : Bool) → is_in_use m.uses.labels id ≡ b → Sees m
          (if b then record (given_by m id (fold (sorting m) none_sorted done)) { kept = KeptBy done ++ h.token ∷ [] }
          else record (given_by m id (fold (sorting m) none_sorted done)) { left = LeftBy done ++ h.token ∷ [] }).kept
          (if b then record (given_by m id (fold (sorting m) none_sorted done)) { kept = KeptBy done ++ h.token ∷ [] }
          else record (given_by m id (fold (sorting m) none_sorted done)) { left = LeftBy done ++ h.token ∷ [] }).left
          (if b then record (given_by m id (fold (sorting m) none_sorted done)) { kept = KeptBy done ++ h.token ∷ [] }
          else record (given_by m id (fold (sorting m) none_sorted done)) { left = LeftBy done ++ h.token ∷ [] }).back
          (if b then record (given_by m id (fold (sorting m) none_sorted done)) { kept = KeptBy done ++ h.token ∷ [] }
          else record (given_by m id (fold (sorting m) none_sorted done)) { left = LeftBy done ++ h.token ∷ [] }).given
          id
      by_use true w = record {
        used = λ k e u. subst (λ (z : Held). In z.token (KeptBy done ++ h.token ∷ [])) (same k e)
            (in_last (KeptBy done) h.token);
        idle = λ k e u. absurd (true_false (is_in_use m.uses.labels id) w u);
        none = λ e n. absurd (let p = sym found ∙ e in cc);
        again = λ y j e. given_all id (GivenBy done) m.leaving y j e;
      }
      by_use false w = record {
        used = λ k e u. absurd (true_false (is_in_use m.uses.labels id) u w);
        idle = λ k e u. subst (λ (z : Held). In z.token (LeftBy done ++ h.token ∷ [])) (same k e)
            (in_last (LeftBy done) h.token);
        none = λ e n. absurd (let p = sym found ∙ e in cc);
        again = λ y j e. given_all id (GivenBy done) m.leaving y j e;
      }

  -- # All of them
  more_of : (done : List TokenId) (id i : TokenId) → SeesBy done id (find (is_id id) m.cache.held) i
      → SeesIn (done ++ id ∷ []) i
  more_of done id i so =
      let e = sym (fold_end (sorting m) none_sorted done id) in record {
        used = λ h f u. subst (λ z. In h.token z.kept) e (so.used h f u);
        idle = λ h f u. subst (λ z. In h.token z.left) e (so.idle h f u);
        none = λ f n. subst (λ z. In i z.back) e (so.none f n);
        again = λ y j f. subst (λ z. In y.fileset z.given) e (so.again y j f);
      }

  all_still : (done xs : List TokenId) (i : TokenId) → SeesIn done i → SeesIn (done ++ xs) i
  all_still done [] i so = subst (λ (ids : List TokenId). SeesIn ids i) (sym (append-nil done)) so
  all_still done (x ∷ xs) i so = subst (λ (ids : List TokenId). SeesIn ids i) (append_assoc done (x ∷ []) xs)
      (all_still (done ++ x ∷ []) xs i (more_of done x i (still_seen done x i so (find (is_id x) m.cache.held))))

  one_of : (done xs : List TokenId) (i : TokenId) → In i xs → SeesIn (done ++ xs) i
  one_of done [] i j = elim j [ ]
  one_of done (x ∷ xs) i (inl e) = subst (λ (ids : List TokenId). SeesIn ids i) (append_assoc done (x ∷ []) xs)
      (all_still (done ++ x ∷ []) xs i (subst (λ (z : TokenId). SeesIn (done ++ x ∷ []) z) (sym e)
      (more_of done x x (now_seen done x (find (is_id x) m.cache.held) refl))))
  one_of done (x ∷ xs) i (inr j) = subst (λ (ids : List TokenId). SeesIn ids i) (append_assoc done (x ∷ []) xs)
      (one_of (done ++ x ∷ []) xs i j)

  id_keeps : (ids : List TokenId) (id i : TokenId) → In i ids → In i (with_id ids id)
  id_keeps ids id i j = by_has (has_id id ids)
    where
      by_has : (b : Bool) → In i (if b then ids else ids ++ id ∷ [])
      by_has true = j
      by_has false = in_left ids (id ∷ []) i j

  id_has : (ids : List TokenId) (id : TokenId) → In id (with_id ids id)
  id_has ids id = elim (by_test (has_id id ids)) [
    | inl e ↦
        let r = in_any (λ (other : TokenId). same_id other id) ids e in
        subst (λ (b : Bool). In id (if b then ids else ids ++ id ∷ [])) (sym e)
        (subst (λ (z : TokenId). In z ids) (same_id_is r.0 id r.2) r.1)
    | inr f ↦ subst (λ (b : Bool). In id (if b then ids else ids ++ id ∷ [])) (sym f) (in_last ids id)
  ]

  ids_keep : (xs done : List TokenId) (i : TokenId) → In i done → In i (fold with_id done xs)
  ids_keep [] done i j = j
  ids_keep (x ∷ xs) done i j = ids_keep xs (with_id done x) i (id_keeps done x i j)

  ids_have : (xs done : List TokenId) (i : TokenId) → In i xs → In i (fold with_id done xs)
  ids_have [] done i j = elim j [ ]
  ids_have (x ∷ xs) done i (inl e) = ids_keep xs (with_id done x) i
      (subst (λ (z : TokenId). In z (with_id done x)) (sym e) (id_has done x))
  ids_have (x ∷ xs) done i (inr j) = ids_have xs (with_id done x) i j

  -- # And which the filesets are
  abbrev NamedBy : List TokenId → FilesetId → Type 0
  NamedBy ids fs = (i : TokenId) × In i ids × ((y : Leaving) × In y m.leaving
      × ((is_leaving i y && is_outstanding m.gives y.fileset y.number) ≡ true) × (y.fileset ≡ fs))

  given_from : (id : TokenId) (fss : List FilesetId) (ys : List Leaving) (fs : FilesetId)
      → In fs (fold (with_given m id) fss ys)
      → In fs fss ⊎ ((y : Leaving) × In y ys
      × ((is_leaving id y && is_outstanding m.gives y.fileset y.number) ≡ true) × (y.fileset ≡ fs))
  given_from id fss [] fs i = inl i
  given_from id fss (y ∷ ys) fs i = elim (given_from id (with_given m id fss y) ys fs i) [
    | inr r ↦ inr (r.0, inr r.1, r.2, r.3)
    | inl j ↦ by_named (is_leaving id y && is_outstanding m.gives y.fileset y.number) refl j
  ]
    where
      by_named : (b : Bool) → (is_leaving id y && is_outstanding m.gives y.fileset y.number) ≡ b
          → In fs (if b then with_once fss y.fileset else fss)
          → In fs fss ⊎ ((z : Leaving) × In z (y ∷ ys)
          × ((is_leaving id z && is_outstanding m.gives z.fileset z.number) ≡ true) × (z.fileset ≡ fs))
      by_named true e j = elim (with_once_from fss y.fileset fs j) [
        | inl k ↦ inl k
        | inr q ↦ inr (y, inl refl, e, sym q)
      ]
      by_named false e j = inl j

  named_held : (ids done : List TokenId) (id : TokenId) → In id ids
      → ((fs : FilesetId) → In fs (GivenBy done) → NamedBy ids fs) → (o : Option Held) → (fs : FilesetId)
      → In fs (sorting_held m id o (given_by m id (fold (sorting m) none_sorted done))).given → NamedBy ids fs
  named_held ids done id within so o fs i = elim (given_from id (GivenBy done) m.leaving fs (same o i)) [
    | inl j ↦ so fs j
    | inr r ↦ (id, within, r)
  ]
    where
      same : (o : Option Held)
          → In fs (sorting_held m id o (given_by m id (fold (sorting m) none_sorted done))).given
          → In fs (fold (with_given m id) (GivenBy done) m.leaving)
      same None j = by_way (list_any (is_leaving id) m.leaving) j
        where
          by_way : (b : Bool) → In fs (if b then given_by m id (fold (sorting m) none_sorted done)
              else record (given_by m id (fold (sorting m) none_sorted done)) { back = BackBy done ++ id ∷ [] }).given
              → In fs (fold (with_given m id) (GivenBy done) m.leaving)
          by_way true k = k
          by_way false k = k
      same (Some h) j = by_use (is_in_use m.uses.labels id) j
        where
          by_use : (b : Bool) → In fs (if b
              then record (given_by m id (fold (sorting m) none_sorted done)) { kept = KeptBy done ++ h.token ∷ [] }
              else record (given_by m id (fold (sorting m) none_sorted done))
              { left = LeftBy done ++ h.token ∷ [] }).given
              → In fs (fold (with_given m id) (GivenBy done) m.leaving)
          by_use true k = k
          by_use false k = k

  named_all : (ids done xs : List TokenId) → ((i : TokenId) → In i xs → In i ids)
      → ((fs : FilesetId) → In fs (GivenBy done) → NamedBy ids fs) → (fs : FilesetId) → In fs (GivenBy (done ++ xs))
      → NamedBy ids fs
  named_all ids done [] from so fs i =
      so fs (subst (λ (is : List TokenId). In fs (GivenBy is)) (append-nil done) i)
  named_all ids done (x ∷ xs) from so fs i =
      named_all ids (done ++ x ∷ []) xs (λ k j. from k (inr j))
      (λ f j. named_held ids done x (from x (inl refl)) so (find (is_id x) m.cache.held) f
      (subst (λ z. In f z.given) (fold_end (sorting m) none_sorted done x) j)) fs
      (subst (λ (is : List TokenId). In fs (GivenBy is)) (sym (append_assoc done (x ∷ []) xs)) i)

  pub given_named : (ids : List TokenId) (fs : FilesetId) → In fs (sorted_by m ids).given → NamedBy ids fs
  given_named ids fs i = named_all ids [] (once_each ids) (once_in ids) (λ f j. elim j [ ]) fs i

  -- # Each once
  one_once : (done : List TokenId) (x : TokenId) → EachOnce done → EachOnce (with_id done x)
  one_once done x once = elim (by_test (has_id x done)) [
    | inl e ↦ subst (λ (b : Bool). EachOnce (if b then done else done ++ x ∷ [])) (sym e) once
    | inr f ↦ subst (λ (b : Bool). EachOnce (if b then done else done ++ x ∷ [])) (sym f)
        (once_more done x once (λ i. any_false (λ (other : TokenId). same_id other x) done f x i (id_same x x refl)))
  ]

  ids_once : (xs done : List TokenId) → EachOnce done → EachOnce (fold with_id done xs)
  ids_once [] done once = once
  ids_once (x ∷ xs) done once = ids_once xs (with_id done x) (one_once done x once)

  filesets_once : (id : TokenId) (fss : List FilesetId) (ys : List Leaving) → EachOnce fss
      → EachOnce (fold (with_given m id) fss ys)
  filesets_once id fss [] once = once
  filesets_once id fss (y ∷ ys) once = filesets_once id (with_given m id fss y) ys
      (by_named (is_leaving id y && is_outstanding m.gives y.fileset y.number))
    where
      by_named : (b : Bool) → EachOnce (if b then with_once fss y.fileset else fss)
      by_named true = with_once_once fss y.fileset once
      by_named false = once

  abbrev Once : List TokenId → Type 0
  Once done = EachOnce (LeftBy done) × ((t : Token) → In t (LeftBy done) → In t.id done) × EachOnce (GivenBy done)

  abbrev LeftOnce : List TokenId → TokenId → List Token → Type 0
  LeftOnce done id ts = EachOnce ts × ((t : Token) → In t ts → In t.id (done ++ id ∷ []))

  left_held : (done : List TokenId) (id : TokenId) → (In id done → ⊥) → Once done → (o : Option Held)
      → find (is_id id) m.cache.held ≡ o
      → LeftOnce done id (sorting_held m id o (given_by m id (fold (sorting m) none_sorted done))).left
  left_held done id fresh so None e = by_way (list_any (is_leaving id) m.leaving)
    where
      by_way : (b : Bool) → LeftOnce done id (if b then given_by m id (fold (sorting m) none_sorted done)
          else record (given_by m id (fold (sorting m) none_sorted done)) { back = BackBy done ++ id ∷ [] }).left
      by_way true = (so.0, λ t i. in_left done (id ∷ []) t.id (so.1 t i))
      by_way false = (so.0, λ t i. in_left done (id ∷ []) t.id (so.1 t i))
  left_held done id fresh so (Some h) e = by_use (is_in_use m.uses.labels id)
    where
      its_id : h.token.id ≡ id
      its_id = same_id_is h.token.id id (found_in (is_id id) m.cache.held h e).1

      by_use : (b : Bool) → LeftOnce done id
          (if b then record (given_by m id (fold (sorting m) none_sorted done)) { kept = KeptBy done ++ h.token ∷ [] }
          else record (given_by m id (fold (sorting m) none_sorted done)) { left = LeftBy done ++ h.token ∷ [] }).left
      by_use true = (so.0, λ t i. in_left done (id ∷ []) t.id (so.1 t i))
      by_use false = (
        once_more (LeftBy done) h.token so.0
            (λ i. fresh (subst (λ (z : TokenId). In z done) its_id (so.1 h.token i))),
        λ t i. elim (last_or (LeftBy done) h.token t i) [
          | inl k ↦ in_left done (id ∷ []) t.id (so.1 t k)
          | inr q ↦ subst (λ (z : TokenId). In z (done ++ id ∷ [])) (sym (ap (λ (z : Token). z.id) q ∙ its_id))
              (in_last done id)
        ],
      )

  given_held : (done : List TokenId) (id : TokenId) → Once done → (o : Option Held)
      → EachOnce (sorting_held m id o (given_by m id (fold (sorting m) none_sorted done))).given
  given_held done id so None = by_way (list_any (is_leaving id) m.leaving)
    where
      by_way : (b : Bool) → EachOnce (if b then given_by m id (fold (sorting m) none_sorted done)
          else record (given_by m id (fold (sorting m) none_sorted done)) { back = BackBy done ++ id ∷ [] }).given
      by_way true = filesets_once id (GivenBy done) m.leaving so.2
      by_way false = filesets_once id (GivenBy done) m.leaving so.2
  given_held done id so (Some h) = by_use (is_in_use m.uses.labels id)
    where
      by_use : (b : Bool) → EachOnce
          (if b then record (given_by m id (fold (sorting m) none_sorted done)) { kept = KeptBy done ++ h.token ∷ [] }
          else record (given_by m id (fold (sorting m) none_sorted done)) { left = LeftBy done ++ h.token ∷ [] }).given
      by_use true = filesets_once id (GivenBy done) m.leaving so.2
      by_use false = filesets_once id (GivenBy done) m.leaving so.2

  once_more_of : (done : List TokenId) (id : TokenId) → (In id done → ⊥) → Once done → Once (done ++ id ∷ [])
  once_more_of done id fresh so =
      let e = sym (fold_end (sorting m) none_sorted done id) in
      let l = left_held done id fresh so (find (is_id id) m.cache.held) refl in (
        subst (λ z. EachOnce z.left) e l.0,
        λ t i. l.1 t (subst (λ z. In t z.left) (sym e) i),
        subst (λ z. EachOnce z.given) e (given_held done id so (find (is_id id) m.cache.held)),
      )

  lists_once : (done xs : List TokenId) → EachOnce xs → ((i : TokenId) → In i done → In i xs → ⊥) → Once done
      → Once (done ++ xs)
  lists_once done [] once apart so = subst Once (sym (append-nil done)) so
  lists_once done (x ∷ xs) once apart so = subst Once (append_assoc done (x ∷ []) xs)
      (lists_once (done ++ x ∷ []) xs once.1
      (λ i j k. elim (last_or done x i j) [
        | inl a ↦ apart i a (inr k)
        | inr e ↦ once.0 (subst (λ (z : TokenId). In z xs) e k)
      ]) (once_more_of done x (λ i. apart x i (inl refl)) so))

  pub all_once : (ids : List TokenId) → EachOnce (sorted_by m ids).left × EachOnce (sorted_by m ids).given
  all_once ids =
      let o = lists_once [] (once_each ids) (ids_once ids [] tt) (λ i j k. elim j [ ])
      (tt, (λ t i. elim i [ ]), tt) in
      (o.0, o.2)

  pub all_seen : (ids : List TokenId) (i : TokenId) → In i ids → Sees m (sorted_by m ids).kept (sorted_by m ids).left
      (sorted_by m ids).back (sorted_by m ids).given i
  all_seen ids i j = one_of [] (once_each ids) i (ids_have ids [] i j)
