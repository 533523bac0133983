-- What a tree answers to a call that one fileset decides, where it is accepted.
use Rattle.std.proofs.Common.{◌≡◌, ℕ, ◌==◌, Bool, true, false, ◌&&◌, not, cond, List, Option, Some, None, Result, Ok, Err, refl, sym, ap, ◌∙◌, subst}
use Rattle.std.specs.Prelude.{slice_get}
use Rattle.std.specs.List.{find}
use Rattle.std.specs.Option.{option_map, option_map_or}
use Rattle.base_types.specs.Name.{same_name}
use Rattle.base_types.specs.Outcomes.{and_then}
use Rattle.base_types.specs.declared.ids.Fid.{Fid}
use Rattle.base_types.specs.declared.ids.FilesetId.{FilesetId}
use Rattle.base_types.specs.declared.ids.HostId.{HostId}
use Rattle.base_types.specs.declared.ids.ServerId.{ServerId}
use Rattle.base_types.specs.declared.user.User.{User}
use Rattle.tree_calls.specs.Rosters.{user_of}
use Rattle.tree_calls.specs.declared.call.Call.{Call}
use Rattle.tree_calls.specs.declared.call.Call.TheVariants.{
  NewFileset,
  Create,
  MakeDir,
  Remove,
  Rename,
  Truncate,
  SetAcl,
  CloneFileset,
  Read,
  Write,
  List as ListNames,
  Stat,
  GetAcl,
  Sync,
  Lock,
  Unlock,
  OpenFile,
  CloseFile,
  MoveFileset,
}
use Rattle.tree_calls.specs.declared.place.Place.{Place}
use Rattle.tree_calls.specs.declared.reply.Refusal.{Refusal}
use Rattle.tree_calls.specs.declared.reply.Refusal.TheVariants.{CrossFileset, InUse, NotEmpty, NoFileset, ReadOnly}
use Rattle.tree_calls.specs.declared.reply.Reply.TheVariants.{Ok as Accepted}
use Rattle.tree_filesets.specs.declared.fileset.Fileset.{Fileset}
use Rattle.tree_filesets.specs.Answers.{answered}
use Rattle.tree_filesets.specs.Checks.{unless, split_path}
use Rattle.tree_filesets.specs.Removal.{has_entries, fid_of, remove_target, remove_answer}
use Rattle.tree_filesets.specs.Rows.{fileset_answer}
use Rattle.tree_filesets.specs.Walk.{found_at, object_at, entry_target}
use Rattle.tree_filesets.proofs.Names.{names_equal}
use Rattle.tree_filesets.proofs.Targets.{then_ok, unless_ok, ok_is}
use Rattle.tree_objects.proofs.Observed.{and_right}
use Rattle.tree_answers.specs.declared.tree.Away.{Away}
use Rattle.tree_answers.specs.declared.tree.Tree.{Tree}
use Rattle.tree_answers.specs.Answers.{with_answered, deciding_place, fileset_row, answer_for, answer_to, for_user}
use Rattle.tree_answers.specs.Away.{is_away_named, away_id}
use Rattle.tree_answers.specs.Finding.{
  is_named,
  has_id,
  has_this_id,
  found_or,
  is_here,
  leads_to,
  fileset_place,
  move_place,
  same_fileset,
}
use Rattle.tree_answers.specs.Uses.{is_used}
use Rattle.tree_answers.specs.WellFormed.{IsWellFormed, is_elsewhere}
use Rattle.tree_answers.proofs.Led.{position_found}
use Rattle.tree_answers.proofs.Places.{find_all, found_by_id}
use Rattle.store_state.specs.Rows.{nothing_used, numbered_name}
use Rattle.store_laws.proofs.Keys.{found_passes, equal_keys}

-- a file in use only refuses
used_refuses : {A : Type 0} (used : Bool) (value result : A) →
    unless used InUse (Ok value) ≡ Ok result → unless false InUse (Ok value) ≡ Ok result
used_refuses true value result h = absurd (cc)
used_refuses false value result h = h

then_same : {A B : Type 0} (first : Result A Refusal) (next other : A → Result B Refusal) (result : B) →
    and_then first next ≡ Ok result → ((a : A) → next a ≡ Ok result → other a ≡ Ok result) →
    and_then first other ≡ Ok result
then_same (Ok a) next other result h k = k a h
then_same (Err e) next other result h k = absurd (cc)

unless_same : {B : Type 0} (is_so : Bool) (refusal : Refusal) (next other : Result B Refusal) (result : B) →
    unless is_so refusal next ≡ Ok result → (next ≡ Ok result → other ≡ Ok result) →
    unless is_so refusal other ≡ Ok result
unless_same true refusal next other result h k = absurd (cc)
unless_same false refusal next other result h k = k h

removable : (fileset : Fileset) (in_use : Fid → Bool) (user : User) (path : List (List ℕ))
    (found : ℕ × List ℕ × ℕ) →
    remove_target fileset in_use user path ≡ Ok found → remove_target fileset nothing_used user path ≡ Ok found
unfolding remove_target
removable fileset in_use user path found h =
    unless_same fileset.read_only ReadOnly _ _ found h (λ h.
    then_same (split_path path InUse) _ _ found h (λ (name, front) h.
    then_same (entry_target fileset user front name) _ _ found h (λ (parent, entry) h.
    then_same (found_at entry.anode (object_at fileset.anodes entry.anode)) _ _ found h (λ (anode, object) h.
    unless_same (has_entries object.content) NotEmpty _ _ found h (λ h.
    used_refuses (in_use (fid_of fileset entry)) (parent, name, anode) found h)))))

removed_so : {A : Type 0} (fileset : Fileset) (checked other : Result A Refusal) (effect : A → Fileset) →
    (answered fileset checked effect).reply ≡ Accepted → ((a : A) → checked ≡ Ok a → other ≡ Ok a) →
    answered fileset checked effect ≡ answered fileset other effect
removed_so fileset (Ok a) other effect h k = sym (ap (λ c. answered fileset c effect) (k a refl))
removed_so fileset (Err e) other effect h k = absurd (cc)

-- what is accepted while some files are in use is answered as if none were
pub accepted_unused : (fileset : Fileset) (in_use : Fid → Bool) (host : HostId) (user : User) (call : Call) →
    (fileset_answer fileset in_use host user call).reply ≡ Accepted →
    fileset_answer fileset in_use host user call ≡ fileset_answer fileset nothing_used host user call
unfolding fileset_answer remove_answer
accepted_unused fileset in_use host user (Create place) h = refl
accepted_unused fileset in_use host user (MakeDir place) h = refl
accepted_unused fileset in_use host user (Remove place) h =
    removed_so fileset (remove_target fileset in_use user place.path) (remove_target fileset nothing_used user place.path)
    _ h (λ found e. removable fileset in_use user place.path found e)
accepted_unused fileset in_use host user (Rename from to) h = refl
accepted_unused fileset in_use host user (Truncate place len) h = refl
accepted_unused fileset in_use host user (SetAcl place which list) h = refl
accepted_unused fileset in_use host user (Read place from len) h = refl
accepted_unused fileset in_use host user (Write place from bytes) h = refl
accepted_unused fileset in_use host user (ListNames place) h = refl
accepted_unused fileset in_use host user (Stat place) h = refl
accepted_unused fileset in_use host user (GetAcl place which) h = refl
accepted_unused fileset in_use host user (Sync place) h = refl
accepted_unused fileset in_use host user (NewFileset server name objects owner) h = refl
accepted_unused fileset in_use host user (CloneFileset server source new) h = refl
accepted_unused fileset in_use host user (MoveFileset server name to) h = refl
accepted_unused fileset in_use host user (Lock label place writing from len) h = refl
accepted_unused fileset in_use host user (Unlock label) h = refl
accepted_unused fileset in_use host user (OpenFile label place kind) h = refl
accepted_unused fileset in_use host user (CloseFile label) h = refl

-- the name that leads to the fileset that decides
pub record LeadsTo (tree : Tree) (call : Call) (place : ℕ) : Type 0 where
  pub server : ServerId
  pub name : List ℕ
  pub numbered : numbered_name call ≡ Some name
  pub led : fileset_place tree server name ≡ Ok place
  pub row : (host : HostId) (user : User) → answer_for tree host call user ≡ fileset_row tree host user call

moves_place : (tree : Tree) (from to : Place) (place : ℕ) → move_place tree from to ≡ Ok place →
    fileset_place tree from.server from.fileset ≡ Ok place
moves_place tree from to place e =
    let (found, led, rest) = then_ok (fileset_place tree from.server from.fileset) _ place e in
    let (same, is) = unless_ok (not (same_fileset from to)) CrossFileset _ place rest in
    led ∙ is

pub leads_so : (tree : Tree) (call : Call) (place : ℕ) → deciding_place tree call ≡ Ok place →
    LeadsTo tree call place
unfolding answer_for
leads_so tree (Create at) place e =
    record { server = at.server; name = at.fileset; numbered = refl; led = e; row = λ host user. refl }
leads_so tree (MakeDir at) place e =
    record { server = at.server; name = at.fileset; numbered = refl; led = e; row = λ host user. refl }
leads_so tree (Remove at) place e =
    record { server = at.server; name = at.fileset; numbered = refl; led = e; row = λ host user. refl }
leads_so tree (Rename from to) place e = record {
  server = from.server;
  name = from.fileset;
  numbered = refl;
  led = moves_place tree from to place e;
  row = λ host user. refl;
}
leads_so tree (Truncate at len) place e =
    record { server = at.server; name = at.fileset; numbered = refl; led = e; row = λ host user. refl }
leads_so tree (SetAcl at which list) place e =
    record { server = at.server; name = at.fileset; numbered = refl; led = e; row = λ host user. refl }
leads_so tree (Read at from len) place e =
    record { server = at.server; name = at.fileset; numbered = refl; led = e; row = λ host user. refl }
leads_so tree (Write at from bytes) place e =
    record { server = at.server; name = at.fileset; numbered = refl; led = e; row = λ host user. refl }
leads_so tree (ListNames at) place e =
    record { server = at.server; name = at.fileset; numbered = refl; led = e; row = λ host user. refl }
leads_so tree (Stat at) place e =
    record { server = at.server; name = at.fileset; numbered = refl; led = e; row = λ host user. refl }
leads_so tree (GetAcl at which) place e =
    record { server = at.server; name = at.fileset; numbered = refl; led = e; row = λ host user. refl }
leads_so tree (Sync at) place e =
    record { server = at.server; name = at.fileset; numbered = refl; led = e; row = λ host user. refl }
leads_so tree (NewFileset server name objects owner) place e = absurd (cc)
leads_so tree (CloneFileset server source new) place e = absurd (cc)
leads_so tree (MoveFileset server name to) place e = absurd (cc)
leads_so tree (Lock label at writing from len) place e = absurd (cc)
leads_so tree (Unlock label) place e = absurd (cc)
leads_so tree (OpenFile label at kind) place e = absurd (cc)
leads_so tree (CloseFile label) place e = absurd (cc)

-- A call that is accepted is one of a user, and the fileset accepts it.
pub record Accepts (tree : Tree) (host : HostId) (call : Call) (place : ℕ) (fileset : Fileset) (user : User)
    : Type 0 where
  pub user_is : user_of tree.roster host ≡ Some user
  pub reply : (fileset_answer fileset nothing_used host user call).reply ≡ Accepted
  pub answer : answer_to tree host call
      ≡ with_answered tree place (fileset_answer fileset nothing_used host user call)

pub accepts_so : (tree : Tree) (host : HostId) (call : Call) (place : ℕ) (fileset : Fileset) →
    deciding_place tree call ≡ Ok place → slice_get tree.filesets place ≡ Some fileset →
    (answer_to tree host call).reply ≡ Accepted → (user : User) × Accepts tree host call place fileset user
unfolding answer_to fileset_row
accepts_so tree host call place fileset decides there accepted = by (user_of tree.roster host) refl
  where
    in_use : Fid → Bool
    in_use = is_used tree.locks tree.opens

    by : (found : Option User) → user_of tree.roster host ≡ found →
        (user : User) × Accepts tree host call place fileset user
    by None e = absurd (let k = ap (λ o. (for_user tree o (answer_for tree host call)).reply) (sym e) ∙ accepted in cc)
    by (Some user) e =
        let row : fileset_row tree host user call
        ≡ with_answered tree place (fileset_answer fileset in_use host user call) = rw decides (rw there refl) in
        let told : answer_to tree host call
        ≡ with_answered tree place (fileset_answer fileset in_use host user call) =
        ap (λ o. for_user tree o (answer_for tree host call)) e
        ∙ (leads_so tree call place decides).row host user ∙ row in
        let accepts : (fileset_answer fileset in_use host user call).reply ≡ Accepted =
        sym (ap (λ a. a.reply) told) ∙ accepted in
        let same = accepted_unused fileset in_use host user call accepts in (
          user,
          record {
            user_is = e;
            reply = sym (ap (λ a. a.reply) same) ∙ accepts;
            answer = told ∙ ap (with_answered tree place) same;
          },
        )

-- what stands at a place to which a name leads
position_is : (found : Option ℕ) (place : ℕ) → found_or found NoFileset ≡ Ok place → found ≡ Some place
position_is None place e = absurd (cc)
position_is (Some other) place e = ap Some (ok_is other place e)

pub led_there : (tree : Tree) (server : ServerId) (name : List ℕ) (place : ℕ) (fileset : Fileset) →
    fileset_place tree server name ≡ Ok place → slice_get tree.filesets place ≡ Some fileset →
    find (leads_to tree server name) tree.filesets ≡ Some fileset
unfolding fileset_place
led_there tree server name place fileset e there =
    position_found (leads_to tree server name) tree.filesets place (position_is _ place e) ∙ there

pub same_id : (a b : FilesetId) → (a.0 == b.0) ≡ true → a ≡ b
same_id a b e = ap (λ n. let id : FilesetId = record { 0 = n } in id) (equal_keys a.0 b.0 e)

-- A fileset that is led to has the name that leads to it, also where a server's record leads.
pub led_name : (tree : Tree) (server : ServerId) (name : List ℕ) (fileset : Fileset) → IsWellFormed tree →
    find (leads_to tree server name) tree.filesets ≡ Some fileset → fileset.name ≡ name
led_name tree server name fileset w e =
    by (is_here tree.filesets server name) (found_passes (leads_to tree server name) tree.filesets fileset e)
  where
    known : find (has_id fileset.id) tree.filesets ≡ Some fileset
    known = found_by_id (leads_to tree server name) tree.filesets fileset e w.ordered

    away_name : (away : Away) → find (is_away_named server name) tree.away ≡ Some away →
        has_id away.fileset fileset ≡ true → fileset.name ≡ name
    away_name away found its =
        let there : find (has_id away.fileset) tree.filesets ≡ Some fileset =
        subst (λ i. find (has_id i) tree.filesets ≡ Some fileset) (same_id fileset.id away.fileset its) known in
        let elsewhere : is_elsewhere tree.filesets away ≡ true =
        find_all (is_away_named server name) (is_elsewhere tree.filesets) tree.away away found w.away.elsewhere in
        let named : same_name fileset.name away.name ≡ true =
        and_right (not (fileset.server.0 == away.server.0)) (same_name fileset.name away.name)
        (sym (ap (λ o. option_map_or (λ (f : Fileset).
        not (f.server.0 == away.server.0) && same_name f.name away.name) o false) there) ∙ elsewhere) in
        let sought : same_name away.name name ≡ true =
        and_right (away.server.0 == server.0) (same_name away.name name)
        (found_passes (is_away_named server name) tree.away away found) in
        names_equal fileset.name away.name named ∙ names_equal away.name name sought

    by_record : (found : Option Away) → find (is_away_named server name) tree.away ≡ found →
        has_this_id (option_map (λ away. away.fileset) found) fileset ≡ true → fileset.name ≡ name
    by_record None k h = absurd (cc)
    by_record (Some away) k h = away_name away k h

    by : (here : Bool) →
        cond here (is_named server name) (has_this_id (away_id tree.away server name)) fileset ≡ true →
        fileset.name ≡ name
    by true h = names_equal fileset.name name (and_right (fileset.server.0 == server.0) (same_name fileset.name name) h)
    by false h = by_record (find (is_away_named server name) tree.away) refl h
