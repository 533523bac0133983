-- A call on a fileset in a store and in a tree.
use Rattle.std.proofs.Common.{
  ◌≡◌,
  ◌<◌,
  ◌≤◌,
  ℕ,
  zero,
  suc,
  ◌==◌,
  nat_lt,
  Bool,
  true,
  false,
  not,
  if◌then◌else◌,
  List,
  [],
  ◌∷◌,
  length,
  set,
  Option,
  Some,
  None,
  Result,
  Ok,
  Err,
  refl,
  sym,
  ap,
  ◌∙◌,
  subst,
  arith,
}
use Rattle.std.specs.Prelude.{slice_get}
use Rattle.std.specs.Option.{option_map, option_map_or}
use Rattle.std.proofs.lemmas.Grind.{common_steps}
use Rattle.base_types.specs.Lists.{changed_at}
use Rattle.base_types.specs.Outcomes.{and_then, either}
use Rattle.base_types.specs.declared.ids.Fid.{Fid}
use Rattle.base_types.specs.declared.ids.HostId.{HostId}
use Rattle.base_types.specs.declared.user.User.{User}
use Rattle.tree_calls.specs.declared.call.Call.{Call}
use Rattle.tree_calls.specs.declared.call.Call.TheVariants.{
  NewFileset,
  Create,
  MakeDir,
  Remove,
  Rename,
  Truncate,
  SetAcl,
  CloneFileset,
  Read,
  Write,
  List as ListNames,
  Stat,
  GetAcl,
  Sync,
  Lock,
  Unlock,
  OpenFile,
  CloseFile,
  MoveFileset,
}
use Rattle.tree_calls.specs.declared.reply.Refusal.{Refusal}
use Rattle.tree_filesets.specs.declared.fileset.Fileset.{Fileset}
use Rattle.tree_filesets.specs.Answers.{Answered, answered}
use Rattle.tree_filesets.specs.Checks.{unless, split_path}
use Rattle.tree_objects.specs.Changes.{anode_freed}
use Rattle.tree_objects.specs.Entries.{content_without_entry}
use Rattle.tree_filesets.specs.Removal.{has_entries, fid_of, remove_target, remove_answer}
use Rattle.tree_filesets.specs.Updates.{updated, changed}
use Rattle.tree_filesets.specs.Rows.{fileset_answer}
use Rattle.tree_filesets.specs.Walk.{found_at, object_at, entry_target}
use Rattle.tree_calls.specs.Rosters.{user_of}
use Rattle.tree_calls.specs.declared.place.Place.{Place}
use Rattle.tree_calls.specs.declared.reply.Refusal.TheVariants.{CrossFileset, Denied, ReadOnly, InUse, NotEmpty}
use Rattle.tree_answers.specs.declared.tree.Tree.{Tree}
use Rattle.tree_answers.specs.Answers.{
  for_user,
  with_answered,
  answer_at,
  deciding_place,
  fileset_row,
  answer_for as tree_answer_for,
  answer_to as tree_answer,
}
use Rattle.tree_answers.specs.Finding.{fileset_place, move_place}
use Rattle.tree_answers.specs.Uses.{is_used}
use Rattle.store_acts.specs.declared.act.Act.TheVariants.{Do}
use Rattle.store_state.specs.declared.state.Holding.{Holding}
use Rattle.store_state.specs.declared.state.StoreState.{StoreState}
use Rattle.store_acts.specs.Acts.{act_done, do_outcome}
use Rattle.store_state.specs.Outcomes.{refuse, decided, decided_before}
use Rattle.store_state.specs.Rows.{
  nothing_used,
  same_fileset,
  numbered_name,
  named_row,
  rename_row,
  held_answered,
  answer_for as store_answer_for,
  answer_to as store_answer,
}
use Rattle.store_acts.specs.Sound.{IsDecided}
use Rattle.store_state.specs.State.{is_here_as, is_of, slot_so, held_at, held_so, record_of}
use Rattle.store_state.proofs.Slots.{held_changed}
use Rattle.store_laws.specs.Rows.{IsUnused, IsNew, UnusedAnswersAlike, HaveSame, AnswersAsTree, StoresAnswerAsTrees}

-- steps that go on alike
then_alike : {A B E : Type 0} (first : Result A E) (next other : A → Result B E) → ((a : A) → next a ≡ other a) →
    and_then first next ≡ and_then first other
then_alike (Ok a) next other k = k a
then_alike (Err e) next other k = refl

remove_alike : (fileset : Fileset) (in_use : Fid → Bool) (user : User) (path : List (List ℕ)) →
    IsUnused in_use fileset.id →
    remove_target fileset in_use user path ≡ remove_target fileset nothing_used user path
unfolding remove_target
remove_alike fileset in_use user path h =
    ap (unless fileset.read_only ReadOnly) (
    then_alike (split_path path InUse) _ _ (λ (name, front).
    then_alike (entry_target fileset user front name) _ _ (λ (parent, entry).
    then_alike (found_at entry.anode (object_at fileset.anodes entry.anode)) _ _ (λ (anode, object).
    ap (λ used. unless (has_entries object.content) NotEmpty (unless used InUse (Ok (parent, name, anode))))
    (h (fid_of fileset entry) refl)))))

removed_alike : (fileset : Fileset) (in_use : Fid → Bool) (user : User) (path : List (List ℕ)) →
    IsUnused in_use fileset.id →
    remove_answer fileset in_use user path ≡ remove_answer fileset nothing_used user path
unfolding remove_answer
removed_alike fileset in_use user path h =
    ap (λ target. answered fileset target (λ (parent, name, anode).
    updated (changed fileset parent (content_without_entry name)) anode anode_freed))
    (remove_alike fileset in_use user path h)

pub unused_alike : UnusedAnswersAlike
unfolding fileset_answer
unused_alike fileset in_use host user (Create place) h = refl
unused_alike fileset in_use host user (MakeDir place) h = refl
unused_alike fileset in_use host user (Remove place) h = removed_alike fileset in_use user place.path h
unused_alike fileset in_use host user (Rename from to) h = refl
unused_alike fileset in_use host user (Truncate place len) h = refl
unused_alike fileset in_use host user (SetAcl place which list) h = refl
unused_alike fileset in_use host user (Read place from len) h = refl
unused_alike fileset in_use host user (Write place from bytes) h = refl
unused_alike fileset in_use host user (ListNames place) h = refl
unused_alike fileset in_use host user (Stat place) h = refl
unused_alike fileset in_use host user (GetAcl place which) h = refl
unused_alike fileset in_use host user (Sync place) h = refl
unused_alike fileset in_use host user (NewFileset server name objects owner) h = refl
unused_alike fileset in_use host user (CloneFileset server source new) h = refl
unused_alike fileset in_use host user (MoveFileset server name to) h = refl
unused_alike fileset in_use host user (Lock label place writing from len) h = refl
unused_alike fileset in_use host user (Unlock label) h = refl
unused_alike fileset in_use host user (OpenFile label place kind) h = refl
unused_alike fileset in_use host user (CloseFile label) h = refl

-- the tree's answer
row_of : (tree : Tree) (host : HostId) (user : User) (call : Call) (place : ℕ) (fileset : Fileset) →
    deciding_place tree call ≡ Ok place →
    slice_get tree.filesets place ≡ Some fileset →
    fileset_row tree host user call ≡ with_answered tree place
    (fileset_answer fileset (is_used tree.locks tree.opens) host user call)
unfolding fileset_row
row_of tree host user call place fileset d t = rw d (rw t refl)

tree_for : (tree : Tree) (host : HostId) (user : User) (call : Call) (name : List ℕ) → IsDecided call →
    numbered_name call ≡ Some name →
    tree_answer_for tree host call user ≡ fileset_row tree host user call
unfolding tree_answer_for
tree_for tree host user (Create place) name d n = refl
tree_for tree host user (MakeDir place) name d n = refl
tree_for tree host user (Remove place) name d n = refl
tree_for tree host user (Rename from to) name d n = refl
tree_for tree host user (Truncate place len) name d n = refl
tree_for tree host user (SetAcl place which list) name d n = refl
tree_for tree host user (NewFileset server new objects owner) name d n = absurd (cc)
tree_for tree host user (CloneFileset server source new) name d n = absurd (cc)
tree_for tree host user (Read place from len) name d n = absurd d
tree_for tree host user (Write place from bytes) name d n = absurd d
tree_for tree host user (ListNames place) name d n = absurd d
tree_for tree host user (Stat place) name d n = absurd d
tree_for tree host user (GetAcl place which) name d n = absurd d
tree_for tree host user (Sync place) name d n = absurd d
tree_for tree host user (Lock label place writing from len) name d n = absurd d
tree_for tree host user (Unlock label) name d n = absurd d
tree_for tree host user (OpenFile label place kind) name d n = absurd d
tree_for tree host user (CloseFile label) name d n = absurd d
tree_for tree host user (MoveFileset server fileset to) name d n = absurd d

-- the store's
pub some_same : {A : Type 0} (a b : A) → Some a ≡ Some b → a ≡ b
some_same a b e = cc

pub moves_same : (tree : Tree) (from to : Place) (place : ℕ) → move_place tree from to ≡ Ok place →
    same_fileset from to ≡ true
moves_same tree from to place e = by (fileset_place tree from.server from.fileset) (same_fileset from to) refl e
  where
    by : (found : Result ℕ Refusal) (same : Bool) → same_fileset from to ≡ same →
        and_then found (λ at. unless (not same) CrossFileset (Ok at)) ≡ Ok place → same_fileset from to ≡ true
    by (Ok at) true k e = k
    by (Ok at) false k e = absurd (cc)
    by (Err refusal) same k e = absurd (cc)

store_for : (tree : Tree) (state : StoreState) (host : HostId) (user : User) (call : Call) (place : ℕ)
    (name : List ℕ) (holding : Holding) → IsDecided call →
    numbered_name call ≡ Some name → deciding_place tree call ≡ Ok place →
    held_so (is_here_as name) state.slots ≡ Some holding →
    store_answer_for state host call user ≡ named_row state name host user call
unfolding store_answer_for rename_row
store_for tree state host user (Create at) place name holding d n p h =
    ap (λ x. named_row state x host user (Create at)) (some_same _ _ n)
store_for tree state host user (MakeDir at) place name holding d n p h =
    ap (λ x. named_row state x host user (MakeDir at)) (some_same _ _ n)
store_for tree state host user (Remove at) place name holding d n p h =
    ap (λ x. named_row state x host user (Remove at)) (some_same _ _ n)
store_for tree state host user (Rename from to) place name holding d n p h =
    let e : from.fileset ≡ name = some_same _ _ n in
    let here : held_so (is_here_as from.fileset) state.slots ≡ Some holding = rw e h in
    let same = moves_same tree from to place p in
    rw here (rw same (ap (λ x. named_row state x host user (Rename from to)) e))
store_for tree state host user (Truncate at len) place name holding d n p h =
    ap (λ x. named_row state x host user (Truncate at len)) (some_same _ _ n)
store_for tree state host user (SetAcl at which list) place name holding d n p h =
    ap (λ x. named_row state x host user (SetAcl at which list)) (some_same _ _ n)
store_for tree state host user (NewFileset server new objects owner) place name holding d n p h = absurd (cc)
store_for tree state host user (CloneFileset server source new) place name holding d n p h = absurd (cc)
store_for tree state host user (Read at from len) place name holding d n p h = absurd d
store_for tree state host user (Write at from bytes) place name holding d n p h = absurd d
store_for tree state host user (ListNames at) place name holding d n p h = absurd d
store_for tree state host user (Stat at) place name holding d n p h = absurd d
store_for tree state host user (GetAcl at which) place name holding d n p h = absurd d
store_for tree state host user (Sync at) place name holding d n p h = absurd d
store_for tree state host user (Lock label at writing from len) place name holding d n p h = absurd d
store_for tree state host user (Unlock label) place name holding d n p h = absurd d
store_for tree state host user (OpenFile label at kind) place name holding d n p h = absurd d
store_for tree state host user (CloseFile label) place name holding d n p h = absurd d
store_for tree state host user (MoveFileset server fileset to) place name holding d n p h = absurd d

-- what stands at a changed place
get_set : {X : Type 0} (xs : List X) (i : ℕ) (x y : X) → slice_get xs i ≡ Some x → slice_get (set xs i y) i ≡ Some y
get_set [] i x y h = absurd (cc)
get_set (z ∷ zs) zero x y h = refl
get_set (z ∷ zs) (suc i) x y h = get_set zs i x y h

-- both answer alike
rows_alike : (tree : Tree) (state : StoreState) (host : HostId) (user : User) (call : Call) (place : ℕ)
    (name : List ℕ) (holding : Holding) →
    HaveSame tree state host call place name holding →
    ((named_row state name host user call).reply ≡ (fileset_row tree host user call).reply)
    × (option_map (λ h. h.fileset) (held_at (named_row state name host user call).state.slots
    (slot_so (is_here_as name) state.slots))
    ≡ slice_get (fileset_row tree host user call).tree.filesets place)
unfolding named_row
rows_alike tree state host user call place name holding h =
    let alike = unused_alike holding.fileset (is_used tree.locks tree.opens) host user call h.unused in
    let row = row_of tree host user call place holding.fileset h.decides h.there in
    let at = slot_so (is_here_as name) state.slots in
    let stands = get_set tree.filesets place holding.fileset
    (fileset_answer holding.fileset (is_used tree.locks tree.opens) host user call).fileset h.there in
    let held = h.held in
    let changed = held_changed state.slots at (held_answered host user call) in (
      rw row (rw held (sym (ap (λ a. a.reply) alike))),
      rw row (rw stands (rw changed (rw held (sym (ap (λ a. Some a.fileset) alike))))),
    )

answers_alike : (tree : Tree) (state : StoreState) (host : HostId) (call : Call) (place : ℕ) (name : List ℕ)
    (holding : Holding) →
    HaveSame tree state host call place name holding → IsDecided call → AnswersAsTree tree state host call place name
unfolding store_answer tree_answer
answers_alike tree state host call place name holding h d =
    let (a, b) = by (user_of tree.roster host) in
    record { reply = rw h.user a; fileset = rw h.user b }
  where
    at : ℕ
    at = slot_so (is_here_as name) state.slots

    by : (o : Option User) →
        ((option_map_or (store_answer_for state host call) o (refuse state (Denied 0))).reply
        ≡ (for_user tree o (tree_answer_for tree host call)).reply)
        × (option_map (λ h. h.fileset) (held_at
        (option_map_or (store_answer_for state host call) o (refuse state (Denied 0))).state.slots at)
        ≡ slice_get (for_user tree o (tree_answer_for tree host call)).tree.filesets place)
    by None = (refl, rw h.held (sym h.there))
    by (Some user) =
        let s = store_for tree state host user call place name holding d h.named h.decides h.held in
        let t = tree_for tree host user call name d h.named in
        let (a, b) = rows_alike tree state host user call place name holding h in
        (rw s (rw t a), rw s (rw t b))

-- a number that is new is decided
new_number : (state : StoreState) (holding : Holding) (host : HostId) (number : ℕ) →
    held_so (is_of holding.fileset.id) state.slots ≡ Some holding →
    IsNew holding host number → decided_before state holding.fileset.id host number ≡ None
new_number state holding host number e n =
    let low : nat_lt (record_of holding.records host).change number
    ≡ true = (let b = n.2 in grind (arith, common_steps, b)) in
    let gone = n.0 in let server = n.1 in
    rw server (rw e (rw gone (rw low refl)))

done_alike : (tree : Tree) (state : StoreState) (host : HostId) (number : ℕ) (call : Call) (place : ℕ)
    (name : List ℕ) (holding : Holding) →
    HaveSame tree state host call place name holding → IsNew holding host number →
    act_done state (Do host number call) ≡ decided holding.fileset.id host number (store_answer state host call)
unfolding act_done do_outcome
done_alike tree state host number call place name holding h n =
    let by_id : held_so (is_of holding.fileset.id) state.slots ≡ Some holding = ap (held_at state.slots) h.once
    ∙ h.held in
    let fresh = new_number state holding host number by_id n in
    rw h.named (rw h.held (rw fresh refl))

pub stores_answer_as_trees : StoresAnswerAsTrees
stores_answer_as_trees = record { answers = answers_alike; done = done_alike }
