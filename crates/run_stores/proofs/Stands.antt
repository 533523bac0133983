-- A store stands for what its server keeps after each act.
use Rattle.std.proofs.Common.{◌≡◌, ℕ, zero, suc, ◌==◌, Bool, true, false, List, [], ◌∷◌, Option, Some, None, Result, Ok, Err, inl, inr, refl, sym, ap, ◌∙◌, subst}
use Rattle.std.specs.Prelude.{slice_get}
use Rattle.std.specs.List.{list_all}
use Rattle.std.specs.Option.{option_map_or}
use Rattle.base_types.specs.declared.ids.Fid.{Fid}
use Rattle.base_types.specs.declared.ids.FilesetId.{FilesetId}
use Rattle.base_types.specs.declared.ids.HostId.{HostId}
use Rattle.base_types.specs.declared.ids.ServerId.{ServerId}
use Rattle.base_types.specs.declared.user.User.{User}
use Rattle.tree_calls.specs.Rosters.{user_of}
use Rattle.tree_calls.specs.declared.call.Call.{Call}
use Rattle.tree_calls.specs.declared.call.Call.TheVariants.{
  NewFileset,
  Create,
  MakeDir,
  Remove,
  Rename,
  Truncate,
  SetAcl,
  CloneFileset,
  Read,
  Write,
  List as ListNames,
  Stat,
  GetAcl,
  Sync,
  Lock,
  Unlock,
  OpenFile,
  CloseFile,
  MoveFileset,
}
use Rattle.tree_calls.specs.declared.part.Piece.{Piece}
use Rattle.tree_calls.specs.declared.reply.Refusal.{Refusal}
use Rattle.tree_calls.specs.declared.reply.Refusal.TheVariants.{NoFileset}
use Rattle.tree_filesets.specs.Founding.{cloned, new_fileset}
use Rattle.tree_filesets.specs.Rows.{fileset_answer}
use Rattle.tree_filesets.specs.WellFormed.{is_at_rest}
use Rattle.tree_filesets.specs.declared.fileset.Fileset.{Fileset}
use Rattle.tree_filesets.proofs.Stays.{stays_itself}
use Rattle.tree_objects.proofs.Rising.{and_both}
use Rattle.tree_answers.specs.Answers.{answer_for, answer_to, for_user}
use Rattle.tree_answers.specs.Finding.{Answer as TreeAnswer, fileset_named, found_or, id_place}
use Rattle.tree_answers.specs.Founding.{clone_answer, clone_source, clone_target, new_fileset_answer}
use Rattle.tree_answers.specs.WellFormed.{IsWellFormed}
use Rattle.tree_answers.specs.declared.tree.Tree.{Tree}
use Rattle.tree_answers.proofs.Inserted.{all_insert}
use Rattle.tree_answers.proofs.Kept.{formed_answer}
use Rattle.tree_answers.proofs.Places.{all_set, find_at_place}
use Rattle.store_laws.proofs.HistoryRows.{row_to, is_row}
use Rattle.need_laws.specs.Known.{IsAt}
use Rattle.store_acts.specs.Acts.{act_done}
use Rattle.store_acts.specs.Sound.{HasName, IsAct}
use Rattle.store_acts.specs.declared.act.Act.{Act}
use Rattle.store_acts.specs.declared.act.Act.TheVariants.{Boot, Do, Epoch, Give, Host, Refuse}
use Rattle.store_laws.proofs.Boots.{boots_are_kept}
use Rattle.store_records.proofs.Acts.{acts_keep_storable}
use Rattle.store_acts.proofs.Next.{act_next}
use Rattle.store_laws.specs.Founds.{FoundAlike}
use Rattle.store_laws.proofs.Founds.{stores_found_as_trees}
use Rattle.store_state.specs.Founding.{next_id, why_absent}
use Rattle.store_state.specs.Outcomes.{Answer}
use Rattle.store_state.specs.Rows.{nothing_used, numbered_id, numbered_name}
use Rattle.store_state.specs.State.{is_of, slot_so}
use Rattle.store_state.specs.declared.state.Holding.{Holding}
use Rattle.store_state.specs.declared.state.Stay.{Stay}
use Rattle.store_state.specs.declared.state.HostState.{HostState}
use Rattle.store_state.specs.declared.state.StoreState.{StoreState}
use Rattle.store_laws.specs.Calls.{IsNewChange}
use Rattle.store_laws.specs.KeptGives.{IsNewGive}
use Rattle.store_laws.specs.TreeKeeping.{KeepsOf}
use Rattle.store_laws.proofs.Called.{accepts_so}
use Rattle.store_laws.proofs.Exact.{have_room}
use Rattle.store_laws.proofs.Keys.{same_key}
use Rattle.store_laws.proofs.KeptSteps.{held_here}
use Rattle.run_contents.specs.Gives.{IsKept}
use Rattle.run_contents.proofs.KeptGives.{gives_keep}
use Rattle.run_contents.proofs.Starts.{starts_kept}
use Rattle.run_rules.specs.Kept.{filesets_first, is_refusal, tree_given}
use Rattle.run_stores.specs.Keeping.{IsOf, StandsFor}
use Rattle.message_types.specs.Soundness.{PiecesRise}
use Rattle.run_stores.specs.Standing.{ActsStand}
use Rattle.run_stores.proofs.Changes.{changes_are_kept, refusal_is}
use Rattle.run_stores.proofs.Firsts.{first_is_kept}
use Rattle.run_stores.proofs.Gives.{gives_are_kept, its_own}
use Rattle.run_stores.proofs.Notes.{refusals_are_kept}
use Rattle.run_stores.proofs.Replies.{Sought, sought}
use Rattle.run_stores.proofs.Replies.Sought.{Here, Nowhere}

-- what holds of all that is found at places holds of all
all_got : {X : Type 0} (p : X → Bool) (xs : List X) →
    ((i : ℕ) (x : X) → slice_get xs i ≡ Some x → p x ≡ true) → list_all p xs ≡ true
all_got p [] k = refl
all_got p (x ∷ xs) k = and_both (p x) (list_all p xs) (k zero x refl) (all_got p xs (λ i y e. k (suc i) y e))

-- nothing is unsaved in what a store stands for
pub stands_rest : (tree : Tree) (state : StoreState) → StandsFor tree state → list_all is_at_rest tree.filesets ≡ true
stands_rest tree state s = all_got is_at_rest tree.filesets at
  where
    at : (i : ℕ) (fileset : Fileset) → slice_get tree.filesets i ≡ Some fileset → is_at_rest fileset ≡ true
    at i fileset there =
        let known = find_at_place fileset.id tree.filesets i fileset (sym there) s.formed.ordered
        (same_key fileset.id.0) in
        let own = its_own state.server tree fileset.id fileset s.is_of known in
        let (holding, h) = held_here tree state fileset s.keeps known own in
        subst (λ (f : Fileset). is_at_rest f ≡ true) h.same
        (s.keeps.storable.each (slot_so (is_of fileset.id) state.slots) holding h.held).rest

-- an act leaves a store with its server
stands_after : (tree next : Tree) (state : StoreState) (act : Act) → StandsFor tree state →
    IsAct state.roster state.server act → IsWellFormed next → IsOf state.server next →
    KeepsOf next (act_done state act).state → StandsFor next (act_done state act).state
stands_after tree next state act s fits formed own keeps = record {
  formed = formed;
  is_of = subst (λ v. IsOf v next) (sym (act_next state act s.keeps.storable.limits fits).server) own;
  keeps = keeps;
}

first_stands : (start : Tree) (state : StoreState) → IsKept start → start.away ≡ [] → KeepsOf start state →
    StandsFor (filesets_first start state.server) state
first_stands start state kept unmoved keeps = record {
  formed = (starts_kept start state.server kept unmoved).formed;
  is_of = first_is_kept.is_of start state.server unmoved;
  keeps = first_is_kept.keeps start state kept.formed unmoved keeps;
}

pub same_booted : (state : StoreState) → (act_done state Boot).state.server ≡ state.server
unfolding act_done
same_booted state = refl

booted_stands : (start : Tree) (state : StoreState) → IsKept start → start.away ≡ [] → KeepsOf start state →
    StandsFor (filesets_first start state.server) (act_done state Boot).state
booted_stands start state kept unmoved keeps =
    subst (λ v. StandsFor (filesets_first start v) (act_done state Boot).state) (same_booted state)
    (first_stands start (act_done state Boot).state kept unmoved (boots_are_kept.boot start state keeps).keeps)

given_stands : (tree : Tree) (state : StoreState) (host : HostId) (number : ℕ) (fid : Fid) (pieces : List Piece)
    (given : Option ℕ) → StandsFor tree state → IsNewGive state fid.fileset host number → PiecesRise pieces →
    IsAct state.roster state.server (Give host number fid pieces given) →
    StandsFor (tree_given tree fid pieces given) (act_done state (Give host number fid pieces given)).state
given_stands tree state host number fid pieces given s new rise fits =
    let kept : IsKept tree = record { formed = s.formed; rests = stands_rest tree state s } in
    stands_after tree (tree_given tree fid pieces given) state (Give host number fid pieces given) s fits
    (gives_keep.kept tree fid pieces given kept fits.2).formed
    (gives_are_kept.is_of state.server tree fid pieces given s.is_of)
    (gives_are_kept.keeps tree state host number fid pieces given s new rise fits)

refused_stands : (tree : Tree) (state : StoreState) (host : HostId) (id : FilesetId) (number : ℕ) (refusal : Refusal) →
    StandsFor tree state → IsAct state.roster state.server (Refuse host id number refusal) →
    StandsFor tree (act_done state (Refuse host id number refusal)).state
refused_stands tree state host id number refusal s fits =
    stands_after tree tree state (Refuse host id number refusal) s fits s.formed s.is_of
    (refusals_are_kept tree state host id number refusal s.keeps fits)

-- what a call leaves is the server's
row_is_of : (tree : Tree) (state : StoreState) (host : HostId) (call : Call) → StandsFor tree state →
    is_row call ≡ true → is_refusal (answer_to tree host call).reply ≡ false →
    IsOf state.server (answer_to tree host call).tree
row_is_of tree state host call s row done =
    let r = row_to tree host call row (sym (refusal_is (answer_to tree host call).reply) ∙ done) in
    let (user, a) = accepts_so tree host call r.by.place r.fileset r.by.decides r.by.there r.accepted in
    let after = (fileset_answer r.fileset nothing_used host user call).fileset in
    let same = stays_itself r.fileset nothing_used host user call in
    let known = find_at_place r.fileset.id tree.filesets r.by.place r.fileset (sym r.by.there) s.formed.ordered
    (same_key r.fileset.id.0) in
    let own : after.server ≡ state.server =
    same.server ∙ its_own state.server tree r.fileset.id r.fileset s.is_of known in
    let at : (after.server.0 == state.server.0) ≡ true =
    ap (λ (v : ServerId). v.0 == state.server.0) own ∙ same_key state.server.0 in
    record {
      own = ap (λ (t : TreeAnswer). list_all (λ (f : Fileset). f.server.0 == state.server.0) t.tree.filesets) a.answer
          ∙ all_set (λ (f : Fileset). f.server.0 == state.server.0) tree.filesets r.by.place after at s.is_of.own;
      unmoved = ap (λ (t : TreeAnswer). t.tree.away) a.answer ∙ s.is_of.unmoved;
      locks = ap (λ (t : TreeAnswer). t.tree.locks) a.answer ∙ s.is_of.locks;
      opens = ap (λ (t : TreeAnswer). t.tree.opens) a.answer ∙ s.is_of.opens;
    }

alike_is_of : (tree : Tree) (state : StoreState) (stay : Stay) (fileset : Fileset) (kept : Answer) (told : TreeAnswer) →
    IsOf state.server tree → fileset.server ≡ state.server → FoundAlike tree state stay fileset kept told →
    IsOf state.server told.tree
alike_is_of tree state stay fileset kept told o own (inl both) =
    let at : (fileset.server.0 == state.server.0) ≡ true =
    ap (λ (v : ServerId). v.0 == state.server.0) own ∙ same_key state.server.0 in
    record {
      own = ap (λ (t : TreeAnswer). list_all (λ (f : Fileset). f.server.0 == state.server.0) t.tree.filesets)
          both.in_tree
          ∙ all_insert (λ (f : Fileset). f.server.0 == state.server.0) fileset (id_place tree.filesets fileset.id)
          tree.filesets at o.own;
      unmoved = ap (λ (t : TreeAnswer). t.tree.away) both.in_tree ∙ o.unmoved;
      locks = ap (λ (t : TreeAnswer). t.tree.locks) both.in_tree ∙ o.locks;
      opens = ap (λ (t : TreeAnswer). t.tree.opens) both.in_tree ∙ o.opens;
    }
alike_is_of tree state stay fileset kept told o own (inr (refusal, both)) =
    subst (IsOf state.server) (sym (ap (λ (t : TreeAnswer). t.tree) both.in_tree)) o

new_server : (server : ServerId) (id : FilesetId) (name : List ℕ) (objects : ℕ) (owner : User) →
    (new_fileset server id name objects owner).server ≡ server
unfolding new_fileset
new_server server id name objects owner = refl

clone_server : (fileset : Fileset) (id : FilesetId) (name : List ℕ) → (cloned fileset id name).server ≡ fileset.server
unfolding cloned
clone_server fileset id name = refl

new_is_of : (tree : Tree) (state : StoreState) (server : ServerId) (name : List ℕ) (objects : ℕ) (owner : User) →
    StandsFor tree state → server ≡ state.server →
    IsOf state.server (new_fileset_answer tree server name objects owner).tree
new_is_of tree state server name objects owner s its =
    subst (λ v. IsOf state.server (new_fileset_answer tree v name objects owner).tree) (sym its)
    (alike_is_of tree state _ (new_fileset state.server (next_id state) name objects owner) _
    (new_fileset_answer tree state.server name objects owner) s.is_of
    (new_server state.server (next_id state) name objects owner)
    (stores_found_as_trees.made tree state name objects owner (have_room tree state s.formed s.keeps)))

clone_nothing : (tree : Tree) (user : User) (server : ServerId) (source new : List ℕ) →
    fileset_named tree server source ≡ Err NoFileset → (clone_answer tree user server source new).tree ≡ tree
unfolding clone_answer clone_target clone_source
clone_nothing tree user server source new f = rw f refl

clone_is_of : (tree : Tree) (state : StoreState) (user : User) (server : ServerId) (source new : List ℕ) →
    StandsFor tree state → Sought tree state source → server ≡ state.server →
    IsOf state.server (clone_answer tree user server source new).tree
unfolding fileset_named
clone_is_of tree state user server source new s (Here place fileset holding at there led own held same) its =
    subst (λ v. IsOf state.server (clone_answer tree user v source new).tree) (sym its)
    (alike_is_of tree state _ (cloned fileset (next_id state) new) _ (clone_answer tree user state.server source new)
    s.is_of (clone_server fileset (next_id state) new ∙ own)
    (stores_found_as_trees.copied tree state user source new fileset (have_room tree state s.formed s.keeps)
    (ap (λ o. option_map_or (λ (h : Holding). Ok h.fileset) o (Err (why_absent state source))) held
    ∙ ap (λ (f : Fileset). let r : Result Fileset Refusal = Ok f in r) same)
    (ap (λ o. found_or o NoFileset) led) own))
clone_is_of tree state user server source new s (Nowhere at led held gone) its =
    subst (λ v. IsOf state.server (clone_answer tree user v source new).tree) (sym its)
    (subst (IsOf state.server) (sym (clone_nothing tree user state.server source new (ap (λ o. found_or o NoFileset) led)))
    s.is_of)

founding_is_of : (tree : Tree) (state : StoreState) (host : HostId) (call : Call) →
    ((user : User) → IsOf state.server (answer_for tree host call user).tree) → IsOf state.server tree →
    IsOf state.server (answer_to tree host call).tree
unfolding answer_to
founding_is_of tree state host call k o = by (user_of tree.roster host)
  where
    by : (found : Option User) → IsOf state.server (for_user tree found (answer_for tree host call)).tree
    by None = o
    by (Some user) = k user

pub change_is_of : (tree : Tree) (state : StoreState) (host : HostId) (number : ℕ) (call : Call) → StandsFor tree state →
    IsAt state.server call → IsAct state.roster state.server (Do host number call) →
    is_refusal (answer_to tree host call).reply ≡ false → IsOf state.server (answer_to tree host call).tree
unfolding answer_for
change_is_of tree state host number (NewFileset at name objects owner) s own fits done =
    founding_is_of tree state host (NewFileset at name objects owner)
    (λ user. new_is_of tree state at name objects owner s own) s.is_of
change_is_of tree state host number (CloneFileset at source new) s own fits done =
    founding_is_of tree state host (CloneFileset at source new)
    (λ user. clone_is_of tree state user at source new s (sought tree state source s) own) s.is_of
change_is_of tree state host number (Create place) s own fits done = row_is_of tree state host (Create place) s refl done
change_is_of tree state host number (MakeDir place) s own fits done =
    row_is_of tree state host (MakeDir place) s refl done
change_is_of tree state host number (Remove place) s own fits done = row_is_of tree state host (Remove place) s refl done
change_is_of tree state host number (Rename from to) s own fits done =
    row_is_of tree state host (Rename from to) s refl done
change_is_of tree state host number (Truncate place len) s own fits done =
    row_is_of tree state host (Truncate place len) s refl done
change_is_of tree state host number (SetAcl place which list) s own fits done =
    row_is_of tree state host (SetAcl place which list) s refl done
change_is_of tree state host number (Read place from len) s own fits done = absurd fits.1
change_is_of tree state host number (Write place from bytes) s own fits done = absurd fits.1
change_is_of tree state host number (ListNames place) s own fits done = absurd fits.1
change_is_of tree state host number (Stat place) s own fits done = absurd fits.1
change_is_of tree state host number (GetAcl place which) s own fits done = absurd fits.1
change_is_of tree state host number (Sync place) s own fits done = absurd fits.1
change_is_of tree state host number (Lock label place writing from len) s own fits done = absurd fits.1
change_is_of tree state host number (Unlock label) s own fits done = absurd fits.1
change_is_of tree state host number (OpenFile label place kind) s own fits done = absurd fits.1
change_is_of tree state host number (CloseFile label) s own fits done = absurd fits.1
change_is_of tree state host number (MoveFileset server name to) s own fits done = absurd own

changed_stands : (tree : Tree) (state : StoreState) (host : HostId) (number : ℕ) (call : Call) (id : FilesetId) →
    StandsFor tree state → IsAt state.server call → IsAct state.roster state.server (Do host number call) →
    HasName call → numbered_id state (numbered_name call) ≡ Some id → IsNewChange state id host number →
    is_refusal (answer_to tree host call).reply ≡ false →
    StandsFor (answer_to tree host call).tree (act_done state (Do host number call)).state
changed_stands tree state host number call id s own fits name numbered new done =
    stands_after tree (answer_to tree host call).tree state (Do host number call) s fits
    (formed_answer tree host call s.formed fits.3.objects) (change_is_of tree state host number call s own fits done)
    (changes_are_kept tree state host number call id s own fits name numbered new done).keeps

epoch_stands : (tree : Tree) (state : StoreState) → StandsFor tree state → StandsFor tree (act_done state Epoch).state
unfolding act_done
epoch_stands tree state s = record {
  formed = s.formed;
  is_of = s.is_of;
  keeps = record {
    storable = acts_keep_storable state Epoch s.keeps.storable tt tt;
    roster = s.keeps.roster;
    room = s.keeps.room;
    filesets = s.keeps.filesets;
    records = s.keeps.records;
    still = s.keeps.still;
    older = s.keeps.older;
  };
}

host_stands : (tree : Tree) (state : StoreState) (host : HostId) (known : HostState) → StandsFor tree state →
    IsAct state.roster state.server (Host host known) → StandsFor tree (act_done state (Host host known)).state
unfolding act_done
host_stands tree state host known s fits = record {
  formed = s.formed;
  is_of = s.is_of;
  keeps = record {
    storable = acts_keep_storable state (Host host known) s.keeps.storable fits tt;
    roster = s.keeps.roster;
    room = s.keeps.room;
    filesets = s.keeps.filesets;
    records = s.keeps.records;
    still = s.keeps.still;
    older = s.keeps.older;
  };
}

pub acts_stand : ActsStand
acts_stand = record {
  first = first_stands;
  booted = booted_stands;
  given = given_stands;
  refused = refused_stands;
  changed = changed_stands;
  epoch = epoch_stands;
  host = host_stands;
}
