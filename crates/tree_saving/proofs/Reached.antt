-- What is reached where a host stores all, where others store, and where a host is down.
use Rattle.std.proofs.Common.{◌≡◌, ◌≢◌, ℕ, zero, suc, ◌+◌, ◌-◌, ◌<◌, ◌==◌, nat_lt, Bool, true, false, not, cond, List, [], ◌∷◌, ◌++◌, length, get_or, Option, Some, None, refl, sym, ap, ◌∙◌, subst, arith, rules}
use Rattle.std.specs.Prelude.{slice_get, flat_map, if◌then◌else◌}
use Rattle.std.specs.List.{find, list_all, prefix_len}
use Rattle.std.specs.Option.{option_map, option_map_or, option_and_then}
use Rattle.std.proofs.lemmas.Grind.{common_steps}
use Rattle.base_types.specs.Lists.{changed_at}
use Rattle.base_types.specs.declared.ids.HostId.{HostId}
use Rattle.base_types.specs.declared.ids.FilesetId.{FilesetId}
use Rattle.base_types.specs.declared.ids.Fid.{Fid}
use Rattle.tree_calls.specs.declared.entry.Entry.{Entry}
use Rattle.tree_calls.specs.declared.entry.Entry.TheVariants.{Stored, Down, Left}
use Rattle.tree_objects.specs.declared.content.Content.{Content}
use Rattle.tree_objects.specs.declared.content.Object.{Object}
use Rattle.tree_objects.specs.declared.content.Anode.{Anode}
use Rattle.tree_objects.specs.Changes.{anode_changed, content_changed}
use Rattle.tree_objects.specs.Losses.{own_spans}
use Rattle.tree_objects.specs.Stores.{content_stored, own_length_of, is_storable}
use Rattle.tree_objects.proofs.Observed.{and_left, and_right}
use Rattle.tree_objects.proofs.Rising.{and_both, all_append, all_implied}
use Rattle.tree_filesets.specs.declared.fileset.Fileset.{Fileset}
use Rattle.tree_filesets.specs.Updates.{updated, changed}
use Rattle.tree_filesets.specs.Walk.{object_at, unique_at}
use Rattle.tree_filesets.specs.WellFormed.{IsWellFormed as IsWellFormedFileset}
use Rattle.tree_filesets.proofs.Leads.{some_then}
use Rattle.tree_filesets.proofs.Observations.{object_from, object_not_zero}
use Rattle.tree_answers.specs.declared.tree.Tree.{Tree}
use Rattle.tree_answers.specs.Finding.{has_id}
use Rattle.tree_answers.specs.Histories.{IsLegal, after_entry, IsHistory, after_history}
use Rattle.tree_answers.specs.Stores.{content_in, stored_tree}
use Rattle.tree_answers.specs.WellFormed.{ids_rise, AreWellFormed, IsWellFormed}
use Rattle.tree_answers.proofs.Inserted.{position_or_end}
use Rattle.tree_answers.proofs.Places.{get_all}
use Rattle.tree_saving.specs.Unsaved.{anode_content, fileset_contents, all_contents, has_saved, is_only_by, writer_of, is_by_one}
use Rattle.tree_saving.specs.Stores.{store_of, own_store, listed, anode_store, anodes_stores, fileset_stores, own_stores}
use Rattle.tree_saving.specs.Saving.{is_store_of, StoresAll}
use Rattle.tree_saving.proofs.Between.{all_between, get_between, changed_between, first_found, first_changed, one_more, length_more}
use Rattle.tree_saving.proofs.Contents.{same_host, writer_only, only_other, none_saved}
use Rattle.tree_saving.proofs.Histories.{is_no_call, history_append, after_append, leads_to}
use Rattle.tree_saving.proofs.Stored.{all_kept, may_store_own, stores_something}

-- the content of an object that is there
pub contents_at : (test : Content → Bool) (anodes : List Anode) (at : ℕ) (object : Object) → list_all (anode_content test) anodes ≡ true → object_at anodes at ≡ Some object → test object.content ≡ true
contents_at test anodes at object h there =
    let from = object_from anodes at (object_not_zero anodes at object there) in
    let (a, got, its) = some_then (slice_get anodes (at - 1)) (λ a. a.object) object (sym from ∙ there) in
    let here : anode_content test a ≡ true = get_all (anode_content test) anodes (at - 1) a (sym got) h in
    subst (λ o. option_map_or (λ object. test object.content) o true ≡ true) its here

-- one of the filesets
formed_between : (before : List Fileset) (fileset : Fileset) (after : List Fileset) → AreWellFormed (before ++ fileset ∷ after) → IsWellFormedFileset fileset
formed_between [] fileset after w = w.0
formed_between (x ∷ xs) fileset after w = formed_between xs fileset after w.1

rise_between : (before : List Fileset) (fileset : Fileset) (after : List Fileset) → ids_rise (before ++ fileset ∷ after) ≡ true → list_all (λ other. not (has_id fileset.id other)) before ≡ true
rise_between [] fileset after h = refl
rise_between (x ∷ xs) fileset after h =
    let less : nat_lt x.id.0 fileset.id.0 ≡ true = all_between (λ other. nat_lt x.id.0 other.id.0) xs fileset after (and_left _ _ h) in
    let other : (x.id.0 == fileset.id.0) ≡ false = grind (arith, common_steps, less) in
    and_both _ _ (ap not other) (rise_between xs fileset after (and_right _ _ h))

has_own_id : (fileset : Fileset) → has_id fileset.id fileset ≡ true
has_own_id fileset = grind (arith, common_steps)

-- a host that has something unsaved in a file of a tree
pub record Writes (tree : Tree) (before : List Fileset) (fileset : Fileset) (after : List Fileset) (at : ℕ) (object : Object) (host : HostId) : Type 0 where
  pub formed : IsWellFormed tree
  pub apart : all_contents is_by_one tree ≡ true
  pub whole : tree.filesets ≡ before ++ fileset ∷ after
  pub there : object_at fileset.anodes at ≡ Some object
  pub writer : writer_of object.content ≡ Some host

writes_formed : (tree : Tree) (before : List Fileset) (fileset : Fileset) (after : List Fileset) (at : ℕ) (object : Object) (host : HostId) → Writes tree before fileset after at object host → IsWellFormedFileset fileset
writes_formed tree before fileset after at object host h = formed_between before fileset after (subst AreWellFormed h.whole h.formed.filesets)

writes_only : (tree : Tree) (before : List Fileset) (fileset : Fileset) (after : List Fileset) (at : ℕ) (object : Object) (host : HostId) → Writes tree before fileset after at object host → is_only_by host object.content ≡ true
writes_only tree before fileset after at object host h =
    let its : fileset_contents is_by_one fileset ≡ true = all_between (fileset_contents is_by_one) before fileset after (subst (λ fs. list_all (fileset_contents is_by_one) fs ≡ true) h.whole h.apart) in
    writer_only host object.content h.writer (contents_at is_by_one fileset.anodes at object its h.there)

-- what it stores
abbrev all_stored : HostId → Object → Content → Content
all_stored host object = content_stored host (own_spans host object.content) (own_length_of host object.content)

-- it may
store_legal : (tree : Tree) (before : List Fileset) (fileset : Fileset) (after : List Fileset) (at : ℕ) (object : Object) (host : HostId) → Writes tree before fileset after at object host →
    (unique : ℕ) → unique_at fileset.anodes at ≡ unique → IsLegal tree (store_of host (record { fileset = fileset.id; anode = at; unique = unique }) object.content)
store_legal tree before fileset after at object host h unique e =
    let fid : Fid = record { fileset = fileset.id; anode = at; unique = unique } in
    let found : find (has_id fileset.id) tree.filesets ≡ Some fileset =
    ap (find (has_id fileset.id)) h.whole ∙ first_found (has_id fileset.id) before fileset after (rise_between before fileset after (subst (λ fs. ids_rise fs ≡ true) h.whole h.formed.ordered)) (has_own_id fileset) in
    let same : (unique_at fileset.anodes at == unique) ≡ true = grind (arith, common_steps, e) in
    let its : content_in fileset fid ≡ Some object.content =
    ap (λ t. cond t (option_map (λ object. object.content) (object_at fileset.anodes at)) None) same ∙ ap (λ o. option_map (λ object. object.content) o) h.there in
    let may : is_storable host (own_spans host object.content) (own_length_of host object.content) object.content ≡ true =
    may_store_own host object.content h.writer ((writes_formed tree before fileset after at object host h).sound at object h.there) (writes_only tree before fileset after at object host h) in
    ap (λ o. option_map_or (is_storable host (own_spans host object.content) (own_length_of host object.content)) (option_and_then (λ f. content_in f fid) o) false) found
    ∙ ap (λ o. option_map_or (is_storable host (own_spans host object.content) (own_length_of host object.content)) o false) its ∙ may

store_leaves : (tree : Tree) (before : List Fileset) (fileset : Fileset) (after : List Fileset) (at : ℕ) (object : Object) (host : HostId) → Writes tree before fileset after at object host →
    (unique : ℕ) → (after_entry tree (store_of host (record { fileset = fileset.id; anode = at; unique = unique }) object.content)).filesets ≡ before ++ changed fileset at (all_stored host object) ∷ after
unfolding stored_tree
store_leaves tree before fileset after at object host h unique =
    let change : Fileset → Fileset = λ f. changed f at (all_stored host object) in
    ap (λ n. changed_at tree.filesets n change) (position_or_end (has_id fileset.id) tree.filesets)
    ∙ ap (λ fs. changed_at fs (prefix_len (λ x. not (has_id fileset.id x)) fs) change) h.whole
    ∙ first_changed (has_id fileset.id) change before fileset after (rise_between before fileset after (subst (λ fs. ids_rise fs ≡ true) h.whole h.formed.ordered)) (has_own_id fileset)

-- nothing is left unsaved in it
store_settles : (tree : Tree) (before : List Fileset) (fileset : Fileset) (after : List Fileset) (at : ℕ) (object : Object) (host : HostId) → Writes tree before fileset after at object host →
    (other : HostId) → (has_saved other (all_stored host object object.content) ≡ true) × (is_only_by other (all_stored host object object.content) ≡ true)
store_settles tree before fileset after at object host h other =
    let kept = all_kept host object.content ((writes_formed tree before fileset after at object host h).sound at object h.there) (writes_only tree before fileset after at object host h) in
    (kept.saved other, kept.only other)

-- an anode with a number
object_between : (anodes done : List Anode) (anode : Anode) (rest : List Anode) (at : ℕ) → anodes ≡ done ++ anode ∷ rest → at ≡ suc (length done) → object_at anodes at ≡ anode.object
object_between anodes done anode rest at h k =
    let place : at ≢ 0 = λ e. absurd (omega (arith, k, e)) in
    let back : at - 1 ≡ length done = omega (arith, k) in
    object_from anodes at place ∙ ap (λ n. option_and_then (λ a. a.object) (slice_get anodes n)) back
    ∙ ap (λ list. option_and_then (λ a. a.object) (slice_get list (length done))) h ∙ ap (λ o. option_and_then (λ a. a.object) o) (get_between done anode rest)

unique_between : (anodes done : List Anode) (anode : Anode) (rest : List Anode) (at : ℕ) → anodes ≡ done ++ anode ∷ rest → at ≡ suc (length done) → unique_at anodes at ≡ anode.unique
unique_between anodes done anode rest at h k =
    let back : at - 1 ≡ length done = omega (arith, k) in
    ap (λ n. option_map_or (λ a. a.unique) (slice_get anodes n) 0) back
    ∙ ap (λ list. option_map_or (λ a. a.unique) (slice_get list (length done)) 0) h ∙ ap (λ o. option_map_or (λ a. a.unique) o 0) (get_between done anode rest)

change_between : (fileset : Fileset) (done : List Anode) (anode : Anode) (rest : List Anode) (at : ℕ) (change : Content → Content) → fileset.anodes ≡ done ++ anode ∷ rest → at ≡ suc (length done) →
    changed fileset at change ≡ record fileset { anodes = done ++ anode_changed change anode ∷ rest }
unfolding updated
change_between fileset done anode rest at change h k =
    let back : at - 1 ≡ length done = omega (arith, k) in
    let made : List Anode → Fileset = λ list. record fileset { anodes = list } in
    ap (λ n. made (changed_at fileset.anodes n (anode_changed change))) back
    ∙ ap (λ list. made (changed_at list (length done) (anode_changed change))) h ∙ ap made (changed_between (anode_changed change) done anode rest)

-- the anodes of a fileset from one on, after a host stored what it has in them
pub record SavesAnodes (host : HostId) (tree : Tree) (entries : List Entry) (before : List Fileset) (fileset : Fileset) (after : List Fileset) (done : List Anode) : Type 0 where
  pub anodes : List Anode
  pub legal : IsHistory tree entries
  pub left : (after_history tree entries).filesets ≡ before ++ (record fileset { anodes = done ++ anodes }) ∷ after
  pub saved : list_all (anode_content (has_saved host)) anodes ≡ true

-- where the anodes before are done
pub record IsBefore (tree : Tree) (before : List Fileset) (fileset : Fileset) (after : List Fileset) (done rest : List Anode) (at : ℕ) : Type 0 where
  pub formed : IsWellFormed tree
  pub apart : all_contents is_by_one tree ≡ true
  pub whole : tree.filesets ≡ before ++ fileset ∷ after
  pub anodes : fileset.anodes ≡ done ++ rest
  pub place : at ≡ suc (length done)

abbrev SavesRest : HostId → List Anode → Type 0
SavesRest host rest = (tree : Tree) (before : List Fileset) (fileset : Fileset) (after : List Fileset) (done : List Anode) (at : ℕ) → IsBefore tree before fileset after done rest at →
    SavesAnodes host tree (anodes_stores host fileset.id at rest) before fileset after done

-- nothing is stored of an anode
saves_skip : (host : HostId) (anode : Anode) (rest : List Anode) → SavesRest host rest → (tree : Tree) (before : List Fileset) (fileset : Fileset) (after : List Fileset) (done : List Anode) (at : ℕ) →
    IsBefore tree before fileset after done (anode ∷ rest) at → anode_content (has_saved host) anode ≡ true → SavesAnodes host tree (anodes_stores host fileset.id (at + 1) rest) before fileset after done
saves_skip host anode rest next tree before fileset after done at b h =
    let later = next tree before fileset after (done ++ anode ∷ []) (at + 1)
    (record { formed = b.formed; apart = b.apart; whole = b.whole; anodes = b.anodes ∙ one_more done anode rest; place = length_more done anode at b.place }) in
    let made : List Anode → List Fileset = λ list. before ++ (record fileset { anodes = list }) ∷ after in
    record { anodes = anode ∷ later.anodes; legal = later.legal; left = later.left ∙ ap made (sym (one_more done anode later.anodes)); saved = and_both _ _ h later.saved }

-- something is
saves_take : (host : HostId) (anode : Anode) (rest : List Anode) → SavesRest host rest → (tree : Tree) (before : List Fileset) (fileset : Fileset) (after : List Fileset) (done : List Anode) (at : ℕ) →
    IsBefore tree before fileset after done (anode ∷ rest) at → (object : Object) → anode.object ≡ Some object → writer_of object.content ≡ Some host →
    SavesAnodes host tree (store_of host (record { fileset = fileset.id; anode = at; unique = anode.unique }) object.content ∷ anodes_stores host fileset.id (at + 1) rest) before fileset after done
saves_take host anode rest next tree before fileset after done at b object e f =
    let entry : Entry = store_of host (record { fileset = fileset.id; anode = at; unique = anode.unique }) object.content in
    let writes : Writes tree before fileset after at object host
    = record { formed = b.formed; apart = b.apart; whole = b.whole; there = object_between fileset.anodes done anode rest at b.anodes b.place ∙ e; writer = f } in
    let legal : IsLegal tree entry = store_legal tree before fileset after at object host writes anode.unique (unique_between fileset.anodes done anode rest at b.anodes b.place) in
    let other : Anode = anode_changed (all_stored host object) anode in
    let stored : Fileset = record fileset { anodes = done ++ other ∷ rest } in
    let left : (after_entry tree entry).filesets ≡ before ++ stored ∷ after =
    store_leaves tree before fileset after at object host writes anode.unique ∙ ap (λ x. before ++ x ∷ after) (change_between fileset done anode rest at (all_stored host object) b.anodes b.place) in
    let lead = leads_to tree (entry ∷ []) refl b.formed b.apart (legal, tt) in
    let later = next (after_entry tree entry) before stored after (done ++ other ∷ []) (at + 1)
    (record { formed = lead.formed; apart = lead.apart; whole = left; anodes = one_more done other rest; place = length_more done other at b.place }) in
    let made : List Anode → List Fileset = λ list. before ++ (record fileset { anodes = list }) ∷ after in
    let here : anode_content (has_saved host) other ≡ true =
    ap (λ o. option_map_or (λ object. has_saved host object.content) (option_map (content_changed (all_stored host object)) o) true) e ∙ (store_settles tree before fileset after at object host writes host).0 in
    record { anodes = other ∷ later.anodes; legal = (legal, later.legal); left = later.left ∙ ap made (sym (one_more done other later.anodes)); saved = and_both _ _ here later.saved }

saves_anode : (host : HostId) (anode : Anode) (rest : List Anode) → SavesRest host rest → SavesRest host (anode ∷ rest)
saves_anode host anode rest next tree before fileset after done at b = by_object anode.object refl
  where
    stores : Option Entry → Type 0
    stores entry = SavesAnodes host tree (listed entry ++ anodes_stores host fileset.id (at + 1) rest) before fileset after done

    saved_there : (object : Object) → anode.object ≡ Some object → has_saved host object.content ≡ true → anode_content (has_saved host) anode ≡ true
    saved_there object e h = ap (λ o. option_map_or (λ object. has_saved host object.content) o true) e ∙ h

    one_there : (object : Object) → anode.object ≡ Some object → is_by_one object.content ≡ true
    one_there object e =
        let its : fileset_contents is_by_one fileset ≡ true = all_between (fileset_contents is_by_one) before fileset after (subst (λ fs. list_all (fileset_contents is_by_one) fs ≡ true) b.whole b.apart) in
        contents_at is_by_one fileset.anodes at object its (object_between fileset.anodes done anode rest at b.anodes b.place ∙ e)

    by_writer : (object : Object) → anode.object ≡ Some object → (writer : Option HostId) → writer_of object.content ≡ writer →
        stores (if option_map_or (λ w. w.0 == host.0) writer false then Some (store_of host (record { fileset = fileset.id; anode = at; unique = anode.unique }) object.content) else None)
    by_writer object e None f = saves_skip host anode rest next tree before fileset after done at b (saved_there object e (none_saved host object.content f))
    by_writer object e (Some writer) f =
        elim (writer.0 == host.0) as (λ t. (writer.0 == host.0) ≡ t → stores (if t then Some (store_of host (record { fileset = fileset.id; anode = at; unique = anode.unique }) object.content) else None)) [
          | true ↦ λ g. saves_take host anode rest next tree before fileset after done at b object e (f ∙ ap Some (same_host writer host g))
          | false ↦ λ g.
              saves_skip host anode rest next tree before fileset after done at b
              (saved_there object e (only_other writer host object.content g (writer_only writer object.content f (one_there object e))))
        ] refl

    by_object : (o : Option Object) → anode.object ≡ o → stores (option_and_then (own_store host (record { fileset = fileset.id; anode = at; unique = anode.unique })) o)
    by_object None e = saves_skip host anode rest next tree before fileset after done at b (ap (λ o. option_map_or (λ object. has_saved host object.content) o true) e)
    by_object (Some object) e = by_writer object e (writer_of object.content) refl

saves_anodes : (host : HostId) (rest : List Anode) → SavesRest host rest
saves_anodes host [] tree before fileset after done at b =
    let made : List Anode → List Fileset = λ list. before ++ (record fileset { anodes = list }) ∷ after in
    record { anodes = []; legal = tt; left = b.whole ∙ ap made b.anodes; saved = refl }
saves_anodes host (anode ∷ rest) tree before fileset after done at b = saves_anode host anode rest (saves_anodes host rest) tree before fileset after done at b

-- the entries are stores of the host, and each stores something
own_are_stores : (host : HostId) (id : FilesetId) (at : ℕ) (anodes : List Anode) → list_all (is_store_of (λ other. other.0 == host.0)) (anodes_stores host id at anodes) ≡ true
own_are_stores host id at [] = refl
own_are_stores host id at (anode ∷ anodes) =
    all_append (is_store_of (λ other. other.0 == host.0)) (listed (anode_store host id at anode)) (anodes_stores host id (at + 1) anodes) (by_object anode.object) (own_are_stores host id (at + 1) anodes)
  where
    by_writer : (fid : Fid) (object : Object) (writer : Option HostId) → writer_of object.content ≡ writer →
        list_all (is_store_of (λ other. other.0 == host.0)) (listed (if option_map_or (λ w. w.0 == host.0) writer false then Some (store_of host fid object.content) else None)) ≡ true
    by_writer fid object None f = refl
    by_writer fid object (Some writer) f =
        elim (writer.0 == host.0) as (λ t. (writer.0 == host.0) ≡ t → list_all (is_store_of (λ other. other.0 == host.0)) (listed (if t then Some (store_of host fid object.content) else None)) ≡ true) [
          | true ↦ λ g.
              let own : (host.0 == host.0) ≡ true = grind (arith, common_steps) in
              and_both _ _ (and_both _ _ own (stores_something host object.content (f ∙ ap Some (same_host writer host g)))) refl
          | false ↦ λ g. refl
        ] refl

    by_object : (o : Option Object) → list_all (is_store_of (λ other. other.0 == host.0)) (listed (option_and_then (own_store host (record { fileset = id; anode = at; unique = anode.unique })) o)) ≡ true
    by_object None = refl
    by_object (Some object) = by_writer (record { fileset = id; anode = at; unique = anode.unique }) object (writer_of object.content) refl

all_flat : {X Y : Type 0} (p : Y → Bool) (f : X → List Y) → ((x : X) → list_all p (f x) ≡ true) → (xs : List X) → list_all p (flat_map f xs) ≡ true
all_flat p f k [] = refl
all_flat p f k (x ∷ xs) = all_append p (f x) (flat_map f xs) (k x) (all_flat p f k xs)

store_no_call : (test : HostId → Bool) (entry : Entry) → is_store_of test entry ≡ true → is_no_call entry ≡ true
store_no_call test (Stored host fid spans len) h = refl
store_no_call test (Down host server) h = refl
store_no_call test (Left server id) h = refl
store_no_call test _ h = absurd (search (rules, h))

own_no_calls : (host : HostId) (id : FilesetId) (at : ℕ) (anodes : List Anode) → list_all is_no_call (anodes_stores host id at anodes) ≡ true
own_no_calls host id at anodes = all_implied (is_store_of (λ other. other.0 == host.0)) is_no_call (store_no_call (λ other. other.0 == host.0)) (anodes_stores host id at anodes) (own_are_stores host id at anodes)

-- a fileset has no more anodes than 32 bits count
formed_get : (filesets : List Fileset) (i : ℕ) (fileset : Fileset) → AreWellFormed filesets → i < length filesets → fileset ≡ get_or filesets i fileset → IsWellFormedFileset fileset
formed_get [] i fileset w h e = absurd (omega (arith, h))
formed_get (x ∷ xs) zero fileset w h e = subst IsWellFormedFileset (sym e) w.0
formed_get (x ∷ xs) (suc i) fileset w h e = formed_get xs i fileset w.1 (omega (arith, h)) e

pub few_anodes : (tree : Tree) (filesets : List Fileset) (i : ℕ) (fileset : Fileset) → IsWellFormed tree → filesets ≡ tree.filesets → i < length filesets → fileset ≡ get_or filesets i fileset → length fileset.anodes < 4294967296
few_anodes tree filesets i fileset w same h e =
    let formed = formed_get filesets i fileset (subst AreWellFormed (sym same) w.filesets) h e in
    omega (arith, formed.count, formed.limit)

-- the filesets from one on
pub record SavesFilesets (host : HostId) (tree : Tree) (entries : List Entry) (before : List Fileset) : Type 0 where
  pub filesets : List Fileset
  pub legal : IsHistory tree entries
  pub left : (after_history tree entries).filesets ≡ before ++ filesets
  pub saved : list_all (fileset_contents (has_saved host)) filesets ≡ true

saves_filesets : (host : HostId) (rest : List Fileset) (tree : Tree) (before : List Fileset) → IsWellFormed tree → all_contents is_by_one tree ≡ true → tree.filesets ≡ before ++ rest → SavesFilesets host tree (flat_map (fileset_stores host) rest) before
saves_filesets host [] tree before w one e = record { filesets = []; legal = tt; left = e; saved = refl }
saves_filesets host (fileset ∷ rest) tree before w one e =
    let stores : List Entry = fileset_stores host fileset in
    let first = saves_anodes host fileset.anodes tree before fileset rest [] 1 (record { formed = w; apart = one; whole = e; anodes = refl; place = refl }) in
    let lead = leads_to tree stores (own_no_calls host fileset.id 1 fileset.anodes) w one first.legal in
    let saved : Fileset = record fileset { anodes = first.anodes } in
    let second = saves_filesets host rest (after_history tree stores) (before ++ saved ∷ []) lead.formed lead.apart (first.left ∙ one_more before saved rest) in
    record {
      filesets = saved ∷ second.filesets;
      legal = history_append tree stores (flat_map (fileset_stores host) rest) first.legal second.legal;
      left = ap (λ t. t.filesets) (after_append tree stores (flat_map (fileset_stores host) rest)) ∙ second.left ∙ sym (one_more before saved second.filesets);
      saved = and_both _ _ first.saved second.saved;
    }

-- a host stores all
pub stores_all : (host : HostId) (before : Tree) (entries : List Entry) (after : Tree) → entries ≡ own_stores host before → after ≡ after_history before entries → IsWellFormed before → all_contents is_by_one before ≡ true → StoresAll host before entries after
stores_all host before entries after e f w one =
    let all : List Entry = own_stores host before in
    let saves = saves_filesets host before.filesets before [] w one refl in
    let stores : list_all (is_store_of (λ other. other.0 == host.0)) all ≡ true
    = all_flat (is_store_of (λ other. other.0 == host.0)) (fileset_stores host) (λ fileset. own_are_stores host fileset.id 1 fileset.anodes) before.filesets in
    let quiet = all_implied (is_store_of (λ other. other.0 == host.0)) is_no_call (store_no_call (λ other. other.0 == host.0)) all stores in
    let whole : StoresAll host before all (after_history before all) = record {
      all = refl;
      leads = leads_to before all quiet w one saves.legal;
      stores = stores;
      saved = subst (λ fs. list_all (fileset_contents (has_saved host)) fs ≡ true) (sym saves.left) saves.saved;
    } in
    subst (λ t. StoresAll host before entries t) (sym f) (subst (λ es. StoresAll host before es (after_history before es)) (sym e) whole)
