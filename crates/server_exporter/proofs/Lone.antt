-- A lock or an open wants one thing at most.
use Rattle.std.proofs.Common.{◌≡◌, Bool, true, false, List, [], ◌∷◌, Option, None, Some, Result, Ok, Err, refl}
use Rattle.std.specs.Prelude.{if◌then◌else◌, nat_lt, ◌+◌}
use Rattle.base_types.specs.Outcomes.{and_then}
use Rattle.base_types.specs.declared.ids.Fid.{Fid}
use Rattle.base_types.specs.declared.limits.TheConstants.{FILE_BYTES_MAX}
use Rattle.tree_objects.specs.Spans.{span_between}
use Rattle.tree_filesets.specs.Checks.{unless}
use Rattle.tree_filesets.specs.Uses.{lock_target, open_target}
use Rattle.tree_calls.specs.declared.reply.Refusal.TheVariants.{TooBig}
use Rattle.token_types.specs.declared.token.Kind.{Kind}
use Rattle.token_types.specs.declared.token.Kind.TheVariants.{Lock as LockKind, Opening}
use Rattle.std.specs.Option.{option_map_or}
use Rattle.base_types.specs.declared.user.User.{User}
use Rattle.base_types.specs.declared.ids.HostId.{HostId}
use Rattle.tree_answers.specs.Finding.{fileset_named}
use Rattle.tree_answers.specs.declared.tree.Tree.{Tree}
use Rattle.tree_calls.specs.Rosters.{user_of}
use Rattle.tree_calls.specs.declared.call.Call.{Call}
use Rattle.tree_calls.specs.declared.call.Call.TheVariants.{CloneFileset, CloseFile, Create, GetAcl, List as ListNames}
use Rattle.tree_calls.specs.declared.call.Call.TheVariants.{Lock, MakeDir, MoveFileset, NewFileset, OpenFile, Read}
use Rattle.tree_calls.specs.declared.call.Call.TheVariants.{Remove, Rename, SetAcl, Stat, Sync, Truncate, Unlock, Write}
use Rattle.tree_calls.specs.declared.reply.Refusal.{Refusal}
use Rattle.tree_filesets.specs.declared.fileset.Fileset.{Fileset}
use Rattle.token_types.specs.declared.token.Need.{Need}
use Rattle.message_types.specs.declared.asking.Change.{Change as ChangeOf}
use Rattle.need_server.specs.Wants.{want, want_for, want_in}
use Rattle.run_rules.specs.Wants.{is_use, row_needs}

-- of some needs there is one at most
abbrev pub IsLone : List Need → Type 0
IsLone [] = Unit {0}
IsLone (n ∷ []) = Unit {0}
IsLone (n ∷ m ∷ needs) = ⊥

lone_for : {A : Type 0} (checks : Result A Refusal) (needs : A → List Need) → ((a : A) → IsLone (needs a))
    → IsLone (want_for checks needs)
lone_for (Ok a) needs f = f a
lone_for (Err refusal) needs f = tt

-- one need of what is found
one_for : (checks : Result Fid Refusal) (kind : Kind)
    → IsLone (want_for checks (λ fid. record { fid = fid; kind = kind } ∷ []))
one_for (Ok fid) kind = tt
one_for (Err refusal) kind = tt

use_in : (fileset : Fileset) (user : User) (call : Call) → is_use call ≡ true → IsLone (want_in fileset user call)
unfolding want_in
use_in fileset user (Lock label place writing from len) e =
    one_for (and_then (lock_target fileset user place.path writing) (λ fid.
    unless (nat_lt FILE_BYTES_MAX (from + len)) TooBig (Ok fid))) (LockKind writing (span_between from (from + len)))
use_in fileset user (OpenFile label place kind) e =
    one_for (open_target fileset user place.path kind) (Opening kind)
use_in fileset user (NewFileset at name objects owner) e = absurd (cc)
use_in fileset user (Create place) e = absurd (cc)
use_in fileset user (MakeDir place) e = absurd (cc)
use_in fileset user (Remove place) e = absurd (cc)
use_in fileset user (Rename from to) e = absurd (cc)
use_in fileset user (Truncate place len) e = absurd (cc)
use_in fileset user (SetAcl place which list) e = absurd (cc)
use_in fileset user (CloneFileset at name new) e = absurd (cc)
use_in fileset user (Read place from len) e = absurd (cc)
use_in fileset user (Write place from bytes) e = absurd (cc)
use_in fileset user (ListNames place) e = absurd (cc)
use_in fileset user (Stat place) e = absurd (cc)
use_in fileset user (GetAcl place which) e = absurd (cc)
use_in fileset user (Sync place) e = absurd (cc)
use_in fileset user (Unlock label) e = absurd (cc)
use_in fileset user (CloseFile label) e = absurd (cc)
use_in fileset user (MoveFileset at name to) e = absurd (cc)

use_lone : (tree : Tree) (user : User) (call : Call) → is_use call ≡ true → IsLone (want tree user call)
unfolding want
use_lone tree user (Lock label place writing from len) e =
    lone_for (fileset_named tree place.server place.fileset)
    (λ fileset. want_in fileset user (Lock label place writing from len))
    (λ fileset. use_in fileset user (Lock label place writing from len) refl)
use_lone tree user (OpenFile label place kind) e =
    lone_for (fileset_named tree place.server place.fileset)
    (λ fileset. want_in fileset user (OpenFile label place kind))
    (λ fileset. use_in fileset user (OpenFile label place kind) refl)
use_lone tree user (NewFileset at name objects owner) e = absurd (cc)
use_lone tree user (Create place) e = absurd (cc)
use_lone tree user (MakeDir place) e = absurd (cc)
use_lone tree user (Remove place) e = absurd (cc)
use_lone tree user (Rename from to) e = absurd (cc)
use_lone tree user (Truncate place len) e = absurd (cc)
use_lone tree user (SetAcl place which list) e = absurd (cc)
use_lone tree user (CloneFileset at name new) e = absurd (cc)
use_lone tree user (Read place from len) e = absurd (cc)
use_lone tree user (Write place from bytes) e = absurd (cc)
use_lone tree user (ListNames place) e = absurd (cc)
use_lone tree user (Stat place) e = absurd (cc)
use_lone tree user (GetAcl place which) e = absurd (cc)
use_lone tree user (Sync place) e = absurd (cc)
use_lone tree user (Unlock label) e = absurd (cc)
use_lone tree user (CloseFile label) e = absurd (cc)
use_lone tree user (MoveFileset at name to) e = absurd (cc)

pub row_lone : (tree : Tree) (host : HostId) (c : ChangeOf) → is_use c.call ≡ true → IsLone (row_needs tree host c)
row_lone tree host c e = by c.enter (user_of tree.roster host)
  where
    by : (b : Bool) (o : Option User)
        → IsLone (if b then [] else option_map_or (λ (user : User). want tree user c.call) o [])
    by true o = tt
    by false None = tt
    by false (Some user) = use_lone tree user c.call e
