-- What a store keeps of a tree, and of what its server keeps of it.
use Rattle.std.proofs.Common.{◌≡◌, ℕ, Bool, true, false, ◌&&◌, ◌||◌, ◌==◌, cond, List, [], ◌∷◌, map, filter, Option, None, Some, refl, sym, ap, ◌∙◌, nat_lt, rules, eqb-true}
use Rattle.std.specs.Prelude.{option_and_then}
use Rattle.std.specs.List.{find, list_all}
use Rattle.std.specs.Option.{option_map, option_map_or}
use Rattle.base_types.specs.declared.ids.FilesetId.{FilesetId}
use Rattle.base_types.specs.declared.ids.ServerId.{ServerId}
use Rattle.tree_filesets.specs.WellFormed.{is_at_rest, is_settled}
use Rattle.tree_filesets.specs.declared.fileset.Fileset.{Fileset}
use Rattle.tree_objects.specs.Changes.{anode_changed}
use Rattle.tree_objects.specs.declared.content.Anode.{Anode}
use Rattle.tree_objects.specs.declared.content.Content.{Content}
use Rattle.tree_objects.specs.declared.content.Content.TheVariants.{Dir, File}
use Rattle.tree_objects.specs.declared.content.Object.{Object}
use Rattle.tree_answers.specs.Away.{is_away}
use Rattle.tree_answers.specs.Finding.{has_id}
use Rattle.tree_answers.specs.WellFormed.{IsWellFormed, ids_rise}
use Rattle.tree_answers.specs.declared.tree.Away.{Away}
use Rattle.tree_answers.specs.declared.tree.Tree.{Tree}
use Rattle.need_server.specs.Kept.{content_settled, kept_fileset, kept_tree}
use Rattle.need_laws.specs.Known.{filesets_of, is_known, is_record_of, records_of}
use Rattle.store_state.specs.State.{held_so, is_gone, is_of}
use Rattle.store_state.specs.declared.state.Holding.{Holding}
use Rattle.store_state.specs.declared.state.Stay.{Stay}
use Rattle.store_state.specs.declared.state.Stay.TheVariants.{Writable, Clone, Leaving, Arriving, Gone}
use Rattle.store_state.specs.declared.state.StoreState.{StoreState}
use Rattle.run_stores.specs.Keeping.{FirstIsKept, IsOf}
use Rattle.run_stores.specs.Ending.{LastIsKept}
use Rattle.run_rules.specs.Kept.{filesets_first}
use Rattle.store_laws.specs.TreeKeeping.{KeepsOf, gone_from, if_at, if_gone, left_for, record_at, record_kept}

-- whether a fileset is at a server
abbrev is_at : ServerId → Fileset → Bool
is_at v f = f.server.0 == v.0

or_none : (b : Bool) → (b || false) ≡ b
or_none true = refl
or_none false = refl

both_one : (a b : Bool) → (a && b) ≡ true → a ≡ true
both_one true b e = refl
both_one false b e = absurd (cc)

both_two : (a b : Bool) → (a && b) ≡ true → b ≡ true
both_two true b e = e
both_two false b e = absurd (cc)

below_is : (a b : ℕ) → nat_lt a b ≡ true → (a ≡ b → ⊥)
below_is a b e same = search (rules, e, same)

module _ (v : ServerId) where
  known_at : (fs : List Fileset) → filter (is_known [] v) fs ≡ filter (is_at v) fs
  known_at [] = refl
  known_at (f ∷ fs) = by_test (is_at v f) (known_at fs)
    where
      by_test : (b : Bool) → filter (is_known [] v) fs ≡ filter (is_at v) fs
          → cond (b || false) (f ∷ filter (is_known [] v) fs) (filter (is_known [] v) fs)
          ≡ cond b (f ∷ filter (is_at v) fs) (filter (is_at v) fs)
      by_test true again = ap (λ l. f ∷ l) again
      by_test false again = again

  all_at : (fs : List Fileset) → list_all (is_at v) fs ≡ true → filter (is_at v) fs ≡ fs
  all_at [] h = refl
  all_at (f ∷ fs) h =
      by_test (is_at v f) (both_one (is_at v f) (list_all (is_at v) fs) h) (all_at fs (both_two (is_at v f) (list_all (is_at v) fs) h))
    where
      by_test : (b : Bool) → b ≡ true → filter (is_at v) fs ≡ fs → cond b (f ∷ filter (is_at v) fs) (filter (is_at v) fs) ≡ f ∷ fs
      by_test true e again = ap (λ l. f ∷ l) again
      by_test false e again = absurd (cc)

  -- an id below all others is nowhere among them
  none_found : (id : FilesetId) (n : ℕ) → n ≡ id.0 → (fs : List Fileset)
      → list_all (λ (other : Fileset). nat_lt n other.id.0) fs ≡ true → find (has_id id) (filter (is_at v) fs) ≡ None
  none_found id n is [] h = refl
  none_found id n is (f ∷ fs) h =
      let here = both_one (nat_lt n f.id.0) (list_all (λ (other : Fileset). nat_lt n other.id.0) fs) h in
      let rest = both_two (nat_lt n f.id.0) (list_all (λ (other : Fileset). nat_lt n other.id.0) fs) h in
      by_at (is_at v f) (has_id id f) refl here (none_found id n is fs rest)
    where
      by_id : (c : Bool) → has_id id f ≡ c → nat_lt n f.id.0 ≡ true → find (has_id id) (filter (is_at v) fs) ≡ None
          → cond c (Some f) (find (has_id id) (filter (is_at v) fs)) ≡ None
      by_id true e below again = absurd (below_is n f.id.0 below (is ∙ sym (eqb-true f.id.0 id.0 e)))
      by_id false e below again = again

      by_at : (b c : Bool) → has_id id f ≡ c → nat_lt n f.id.0 ≡ true → find (has_id id) (filter (is_at v) fs) ≡ None
          → find (has_id id) (cond b (f ∷ filter (is_at v) fs) (filter (is_at v) fs)) ≡ None
      by_at true c e below again =
          ap (λ x. cond x (Some f) (find (has_id id) (filter (is_at v) fs))) e ∙ by_id c e below again
      by_at false c e below again = again

  -- of filesets with rising ids those at a server have the same one of an id that is there
  found_there : (id : FilesetId) (fs : List Fileset) → ids_rise fs ≡ true
      → option_and_then (if_at v) (find (has_id id) (filter (is_at v) fs)) ≡ option_and_then (if_at v) (find (has_id id) fs)
  found_there id [] h = refl
  found_there id (f ∷ fs) h =
      let low = both_one (list_all (λ (other : Fileset). nat_lt f.id.0 other.id.0) fs) (ids_rise fs) h in
      let rest = both_two (list_all (λ (other : Fileset). nat_lt f.id.0 other.id.0) fs) (ids_rise fs) h in
      by_test (is_at v f) (has_id id f) refl refl (found_there id fs rest)
      (λ e. none_found id f.id.0 (eqb-true f.id.0 id.0 e) fs low)
    where
      one : Bool → Bool → Option Fileset
      one b c = cond c (Some f) (find (has_id id) fs)

      by_test : (b c : Bool) → is_at v f ≡ b → has_id id f ≡ c
          → option_and_then (if_at v) (find (has_id id) (filter (is_at v) fs)) ≡ option_and_then (if_at v) (find (has_id id) fs)
          → (has_id id f ≡ true → find (has_id id) (filter (is_at v) fs) ≡ None)
          → option_and_then (if_at v) (find (has_id id) (cond b (f ∷ filter (is_at v) fs) (filter (is_at v) fs)))
          ≡ option_and_then (if_at v) (cond (has_id id f) (Some f) (find (has_id id) fs))
      by_test true true eb ec again none =
          ap (λ x. option_and_then (if_at v) (cond x (Some f) (find (has_id id) (filter (is_at v) fs)))) ec
          ∙ sym (ap (λ x. option_and_then (if_at v) (cond x (Some f) (find (has_id id) fs))) ec)
      by_test true false eb ec again none =
          ap (λ x. option_and_then (if_at v) (cond x (Some f) (find (has_id id) (filter (is_at v) fs)))) ec
          ∙ again
          ∙ sym (ap (λ x. option_and_then (if_at v) (cond x (Some f) (find (has_id id) fs))) ec)
      by_test false true eb ec again none =
          ap (option_and_then (if_at v)) (none ec)
          ∙ sym (ap (λ x. option_and_then (if_at v) (cond x (Some f) (find (has_id id) fs))) ec
          ∙ ap (λ x. cond x (Some f) None) eb)
      by_test false false eb ec again none =
          again ∙ sym (ap (λ x. option_and_then (if_at v) (cond x (Some f) (find (has_id id) fs))) ec)

  -- where no record is the server's it has none of any id
  no_record : (id : FilesetId) (rs : List Away) → filter (is_record_of v) rs ≡ [] → find (is_away v id) rs ≡ None
  no_record id [] h = refl
  no_record id (a ∷ rs) h = by_test (is_record_of v a) refl h (no_record id rs)
    where
      by_test : (b : Bool) → is_record_of v a ≡ b
          → cond b (a ∷ filter (is_record_of v) rs) (filter (is_record_of v) rs) ≡ []
          → (filter (is_record_of v) rs ≡ [] → find (is_away v id) rs ≡ None)
          → find (is_away v id) (a ∷ rs) ≡ None
      by_test true e k again = absurd (cc)
      by_test false e k again =
          ap (λ x. cond (x && (a.fileset.0 == id.0)) (Some a) (find (is_away v id) rs)) e ∙ again k

-- nothing of a fileset at rest is unsaved
content_same : (c : Content) → is_settled c ≡ true → content_settled c ≡ c
content_same (Dir entries lists) h = refl
content_same (File list kept [] None) h = refl
content_same (File list kept [] (Some len)) h = absurd (cc)
content_same (File list kept (u ∷ unsaved) None) h = absurd (cc)
content_same (File list kept (u ∷ unsaved) (Some len)) h = absurd (cc)

object_same : (o : Option Object) → option_map_or (λ (object : Object). is_settled object.content) o true ≡ true
    → option_map (λ (object : Object). let x : Object = record object { content = content_settled object.content } in x) o ≡ o
object_same None h = refl
object_same (Some object) h =
    let same = content_same object.content h in
    ap (λ (c : Content). let x : Option Object = Some (record object { content = c }) in x) same

anodes_same : (anodes : List Anode)
    → list_all (λ (anode : Anode). option_map_or (λ (object : Object). is_settled object.content) anode.object true) anodes ≡ true
    → map (anode_changed content_settled) anodes ≡ anodes
anodes_same [] h = refl
anodes_same (a ∷ anodes) h =
    let test : Anode → Bool = λ (anode : Anode). option_map_or (λ (object : Object). is_settled object.content) anode.object true in
    let here = object_same a.object (both_one (test a) (list_all test anodes) h) in
    let rest = anodes_same anodes (both_two (test a) (list_all test anodes) h) in
    λ i. record a { object = here i } ∷ rest i

filesets_same : (fs : List Fileset) → list_all is_at_rest fs ≡ true → map kept_fileset fs ≡ fs
filesets_same [] h = refl
filesets_same (f ∷ fs) h =
    let here = anodes_same f.anodes (both_one (is_at_rest f) (list_all is_at_rest fs) h) in
    let rest = filesets_same fs (both_two (is_at_rest f) (list_all is_at_rest fs) h) in
    λ i. record f { anodes = here i } ∷ rest i

-- a store without a record of a fileset that left has none that left
left_some : (v : ServerId) (holding : Holding) (stay : Stay) → holding.stay ≡ stay → is_gone stay ≡ true
    → if_gone v holding ≡ None → ⊥
left_some v holding Writable e g n = absurd (cc)
left_some v holding Clone e g n = absurd (cc)
left_some v holding (Leaving to ship) e g n = absurd (cc)
left_some v holding (Arriving from ship parts) e g n = absurd (cc)
left_some v holding (Gone to) e g n =
    let some : if_gone v holding ≡ Some (gone_from v holding.fileset to) =
    ap (λ s. option_map (gone_from v holding.fileset) (left_for s)) e in
    absurd (let clash = sym some ∙ n in cc)

none_left : (state : StoreState) → ((id : FilesetId) → record_kept state id ≡ None) → (id : FilesetId) (holding : Holding)
    → held_so (is_of id) state.slots ≡ Some holding → is_gone holding.stay ≡ true → ⊥
none_left state none id holding e g =
    left_some state.server holding holding.stay refl g
    (sym (ap (λ h. option_and_then (if_gone state.server) h) e) ∙ none id)

none_away : (start : Tree) (v : ServerId) (id : FilesetId) → start.away ≡ [] → record_at start v id ≡ None
none_away start v id e = ap (λ l. find (is_away v id) l) e

all_filtered : (p : Fileset → Bool) (fs : List Fileset) → list_all p (filter p fs) ≡ true
all_filtered p [] = refl
all_filtered p (f ∷ fs) = by (p f) refl (all_filtered p fs)
  where
    by : (b : Bool) → p f ≡ b → list_all p (filter p fs) ≡ true →
        list_all p (cond b (f ∷ filter p fs) (filter p fs)) ≡ true
    by true e rest = ap (λ c. c && list_all p (filter p fs)) e ∙ rest
    by false e rest = rest

first_is_of : (start : Tree) (server : ServerId) → start.away ≡ [] → IsOf server (filesets_first start server)
first_is_of start server unmoved = record {
  own = all_filtered (λ f. f.server.0 == server.0) start.filesets;
  unmoved = unmoved;
  locks = refl;
  opens = refl;
}

first_keeps : (start : Tree) (state : StoreState) → IsWellFormed start → start.away ≡ [] → KeepsOf start state →
    KeepsOf (filesets_first start state.server) state
first_keeps start state w unmoved keeps =
    let v = state.server in
    let none : (id : FilesetId) → record_kept state id ≡ None =
    λ id. keeps.records id ∙ none_away start v id unmoved in
    record {
      storable = keeps.storable;
      roster = keeps.roster;
      room = keeps.room;
      filesets = (λ id. keeps.filesets id ∙ sym (found_there v id start.filesets w.ordered));
      records = keeps.records;
      still = keeps.still;
      older = (λ id holding fileset e g f. absurd (none_left state none id holding e g));
    }

pub first_is_kept : FirstIsKept
first_is_kept = record { is_of = first_is_of; keeps = first_keeps }

pub last_is_kept : LastIsKept
last_is_kept last kept_is state w rests unmoved just keeps =
    let v = state.server in
    let none_of : records_of v (kept_tree last) ≡ [] = ap (λ (l : List Away). filter (is_record_of v) l) unmoved in
    let none_kept : records_of v kept_is ≡ [] = just.same.records ∙ none_of in
    let none : (id : FilesetId) → record_kept state id ≡ None =
    λ id. keeps.records id ∙ no_record v id kept_is.away none_kept in
    let ours : filesets_of v kept_is ≡ kept_is.filesets =
    ap (λ r. filter (is_known r v) kept_is.filesets) none_kept ∙ known_at v kept_is.filesets ∙ all_at v kept_is.filesets just.own in
    let theirs : filesets_of v (kept_tree last) ≡ filter (is_at v) last.filesets =
    ap (λ r. filter (is_known r v) (map kept_fileset last.filesets)) none_of
    ∙ ap (λ (l : List Fileset). filter (is_known [] v) l) (filesets_same last.filesets rests)
    ∙ known_at v last.filesets in
    let same : kept_is.filesets ≡ filter (is_at v) last.filesets = sym ours ∙ just.same.filesets ∙ theirs in
    record {
      storable = keeps.storable;
      roster = keeps.roster ∙ just.same.roster;
      room = sym just.same.room ∙ keeps.room;
      filesets = (λ id. keeps.filesets id
          ∙ ap (λ (l : List Fileset). option_and_then (if_at v) (find (has_id id) l)) same
          ∙ found_there v id last.filesets w.ordered);
      records = (λ id. none id ∙ sym (none_away last v id unmoved));
      still = keeps.still;
      older = (λ id holding fileset e g f. absurd (none_left state none id holding e g));
    }
