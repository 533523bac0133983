-- A call that names a fileset of another server.
use Rattle.std.proofs.Common.{◌≡◌, ℕ, ◌==◌, Bool, true, false, ◌&&◌, ◌||◌, List, [], ◌∷◌, Some, None, Err, refl, sym, ap, ◌∙◌, subst}
use Rattle.std.specs.Prelude.{if◌then◌else◌}
use Rattle.std.specs.List.{find, list_all, list_any}
use Rattle.base_types.specs.Name.{same_name}
use Rattle.base_types.specs.declared.ids.HostId.{HostId}
use Rattle.base_types.specs.declared.ids.OpenKind.{OpenKind}
use Rattle.base_types.specs.declared.ids.ServerId.{ServerId}
use Rattle.base_types.specs.declared.user.User.{User}
use Rattle.tree_calls.specs.declared.call.Call.{Call}
use Rattle.tree_calls.specs.declared.call.Call.TheVariants.{
  NewFileset,
  Create,
  MakeDir,
  Remove,
  Rename,
  Truncate,
  SetAcl,
  CloneFileset,
  Read,
  Write,
  List as ListNames,
  Stat,
  GetAcl,
  Sync,
  Lock,
  Unlock,
  OpenFile,
  CloseFile,
  MoveFileset,
}
use Rattle.tree_calls.specs.declared.place.Place.{Place}
use Rattle.tree_calls.specs.declared.reply.Refusal.TheVariants.{NoFileset}
use Rattle.tree_calls.specs.declared.reply.Reply.TheVariants.{Refused}
use Rattle.tree_filesets.specs.declared.fileset.Fileset.{Fileset}
use Rattle.tree_objects.proofs.Observed.{and_left, and_right}
use Rattle.tree_answers.specs.Answers.{answer_for, answer_to, deciding_place, fileset_row, for_user}
use Rattle.tree_answers.specs.Away.{away_id}
use Rattle.tree_answers.specs.Finding.{fileset_named, fileset_place, found_or, has_this_id, is_named, leads_to, move_place}
use Rattle.tree_answers.specs.Founding.{clone_answer, clone_source, clone_target}
use Rattle.tree_answers.specs.Locks.{lock_answer, lock_check}
use Rattle.tree_answers.specs.Opens.{open_answer, open_check}
use Rattle.tree_answers.specs.declared.tree.Away.{Away}
use Rattle.tree_answers.specs.declared.tree.Tree.{Tree}
use Rattle.tree_answers.proofs.Places.{equal_is}
use Rattle.store_laws.proofs.Keys.{same_key}
use Rattle.run_stores.specs.Elsewhere.{OthersAreRefused, named_at}
use Rattle.run_stores.specs.Keeping.{IsOf}
use Rattle.run_stores.proofs.Replies.{place_none}

abbrev bare : Tree → Tree
bare tree = record tree { locks = []; opens = [] }

-- no name at another server is one of a fileset that is here
none_named : (server other : ServerId) (name : List ℕ) (filesets : List Fileset) →
    list_all (λ (f : Fileset). f.server.0 == server.0) filesets ≡ true → (other.0 == server.0) ≡ false →
    list_any (is_named other name) filesets ≡ false
none_named server other name [] own apart = refl
none_named server other name (f ∷ filesets) own apart =
    ap (λ b. b || list_any (is_named other name) filesets) here
    ∙ none_named server other name filesets
    (and_right (f.server.0 == server.0) (list_all (λ (f : Fileset). f.server.0 == server.0) filesets) own) apart
  where
    at : f.server.0 ≡ server.0
    at = equal_is f.server.0 server.0
        (and_left (f.server.0 == server.0) (list_all (λ (f : Fileset). f.server.0 == server.0) filesets) own)

    by : (b : Bool) → (f.server.0 == other.0) ≡ b → (b && same_name f.name name) ≡ false
    by true e =
        let same : f.server.0 ≡ other.0 = equal_is f.server.0 other.0 e in
        let clash : true ≡ false =
        sym (same_key server.0) ∙ ap (λ n. n == server.0) (sym at ∙ same) ∙ apart in absurd (cc)
    by false e = refl

    here : is_named other name f ≡ false
    here = by (f.server.0 == other.0) refl

never : (filesets : List Fileset) → find (has_this_id None) filesets ≡ None
never [] = refl
never (f ∷ filesets) = never filesets

leads_none : (server other : ServerId) (tree : Tree) (name : List ℕ) → IsOf server tree →
    (other.0 == server.0) ≡ false → find (leads_to tree other name) tree.filesets ≡ None
leads_none server other tree name o apart =
    ap (λ b. find (if b then is_named other name else has_this_id (away_id tree.away other name)) tree.filesets)
    (none_named server other name tree.filesets o.own apart)
    ∙ ap (λ (l : List Away). find (has_this_id (away_id l other name)) tree.filesets) o.unmoved
    ∙ never tree.filesets

place_gone : (server other : ServerId) (tree : Tree) (name : List ℕ) → IsOf server tree →
    (other.0 == server.0) ≡ false → fileset_place tree other name ≡ Err NoFileset
unfolding fileset_place
place_gone server other tree name o apart =
    ap (λ p. found_or p NoFileset)
    (place_none (leads_to tree other name) tree.filesets (leads_none server other tree name o apart))

named_gone : (server other : ServerId) (tree : Tree) (name : List ℕ) → IsOf server tree →
    (other.0 == server.0) ≡ false → fileset_named tree other name ≡ Err NoFileset
unfolding fileset_named
named_gone server other tree name o apart = ap (λ p. found_or p NoFileset) (leads_none server other tree name o apart)

row_gone : (tree : Tree) (host : HostId) (user : User) (call : Call) → deciding_place tree call ≡ Err NoFileset →
    (fileset_row tree host user call).reply ≡ Refused NoFileset
unfolding fileset_row
row_gone tree host user call e = rw e refl

move_gone : (tree : Tree) (from to : Place) → fileset_place tree from.server from.fileset ≡ Err NoFileset →
    move_place tree from to ≡ Err NoFileset
move_gone tree from to e = rw e refl

lock_gone : (tree : Tree) (host : HostId) (user : User) (label : List ℕ) (place : Place) (writing : Bool)
    (from len : ℕ) → fileset_named (bare tree) place.server place.fileset ≡ Err NoFileset →
    (lock_answer (bare tree) host user label place writing from len).reply ≡ Refused NoFileset
unfolding lock_answer lock_check
lock_gone tree host user label place writing from len e = rw e refl

open_gone : (tree : Tree) (host : HostId) (user : User) (label : List ℕ) (place : Place) (kind : OpenKind) →
    fileset_named (bare tree) place.server place.fileset ≡ Err NoFileset →
    (open_answer (bare tree) host user label place kind).reply ≡ Refused NoFileset
unfolding open_answer open_check
open_gone tree host user label place kind e = rw e refl

clone_gone : (tree : Tree) (user : User) (server : ServerId) (source new : List ℕ) →
    fileset_named tree server source ≡ Err NoFileset → (clone_answer tree user server source new).reply ≡ Refused NoFileset
unfolding clone_answer clone_target clone_source
clone_gone tree user server source new e = rw e refl

some_same : {A : Type 0} (a b : A) → Some a ≡ Some b → a ≡ b
some_same a b e = cc

others_for : (server other : ServerId) (tree : Tree) (host : HostId) (user : User) (call : Call) →
    IsOf server (bare tree) → named_at call ≡ Some other → (other.0 == server.0) ≡ false →
    (answer_for (bare tree) host call user).reply ≡ Refused NoFileset
unfolding answer_for
others_for server other tree host user call o e apart = by call e
  where
    gone : (place : Place) → Some place.server ≡ Some other →
        fileset_place (bare tree) place.server place.fileset ≡ Err NoFileset
    gone place e = place_gone server place.server (bare tree) place.fileset o
        (ap (λ (v : ServerId). v.0 == server.0) (some_same place.server other e) ∙ apart)

    named : (place : Place) → Some place.server ≡ Some other →
        fileset_named (bare tree) place.server place.fileset ≡ Err NoFileset
    named place e = named_gone server place.server (bare tree) place.fileset o
        (ap (λ (v : ServerId). v.0 == server.0) (some_same place.server other e) ∙ apart)

    by : (call : Call) → named_at call ≡ Some other → (answer_for (bare tree) host call user).reply ≡ Refused NoFileset
    by (NewFileset at name objects owner) e = absurd (cc)
    by (CloneFileset at source new) e =
        clone_gone (bare tree) user at source new (named_gone server at (bare tree) source o
        (ap (λ (v : ServerId). v.0 == server.0) (some_same at other e) ∙ apart))
    by (MoveFileset at name to) e = absurd (cc)
    by (Unlock label) e = absurd (cc)
    by (CloseFile label) e = absurd (cc)
    by (Create place) e = row_gone (bare tree) host user (Create place) (gone place e)
    by (MakeDir place) e = row_gone (bare tree) host user (MakeDir place) (gone place e)
    by (Remove place) e = row_gone (bare tree) host user (Remove place) (gone place e)
    by (Rename from to) e = row_gone (bare tree) host user (Rename from to) (move_gone (bare tree) from to (gone from e))
    by (Truncate place len) e = row_gone (bare tree) host user (Truncate place len) (gone place e)
    by (SetAcl place which list) e = row_gone (bare tree) host user (SetAcl place which list) (gone place e)
    by (Read place from len) e = row_gone (bare tree) host user (Read place from len) (gone place e)
    by (Write place from bytes) e = row_gone (bare tree) host user (Write place from bytes) (gone place e)
    by (ListNames place) e = row_gone (bare tree) host user (ListNames place) (gone place e)
    by (Stat place) e = row_gone (bare tree) host user (Stat place) (gone place e)
    by (GetAcl place which) e = row_gone (bare tree) host user (GetAcl place which) (gone place e)
    by (Sync place) e = row_gone (bare tree) host user (Sync place) (gone place e)
    by (Lock label place writing from len) e = lock_gone tree host user label place writing from len (named place e)
    by (OpenFile label place kind) e = open_gone tree host user label place kind (named place e)

pub others_are_refused : OthersAreRefused
unfolding answer_to
others_are_refused server other tree host user call o e apart known =
    let same : tree ≡ bare tree = λ i. record tree { locks = o.locks i; opens = o.opens i } in
    ap (λ found. (for_user tree found (answer_for tree host call)).reply) known
    ∙ ap (λ t. (answer_for t host call user).reply) same
    ∙ others_for server other tree host user call (subst (IsOf server) same o) e apart
