-- What is wanted for a call hangs on what its server knows.
use Rattle.std.proofs.Common.{◌≡◌, ℕ, false, List, refl, sym, ap, subst}
use Rattle.std.specs.List.{flat_map}
use Rattle.base_types.specs.declared.ids.ServerId.{ServerId}
use Rattle.base_types.specs.declared.user.User.{User}
use Rattle.tree_calls.specs.declared.call.Call.{Call}
use Rattle.tree_calls.specs.declared.call.Call.TheVariants.{NewFileset, Create, MakeDir, Remove, Rename, Truncate, SetAcl, CloneFileset, Read, Write, List as ListNames, Stat, GetAcl, Sync, Lock, Unlock, OpenFile, CloseFile, MoveFileset}
use Rattle.tree_answers.specs.Finding.{fileset_named}
use Rattle.tree_answers.specs.declared.tree.Tree.{Tree}
use Rattle.need_server.specs.Wants.{all_of, files_of, want, want_for, want_in}
use Rattle.need_laws.specs.Known.{SameAt}
use Rattle.need_laws.specs.Wanted.{WantsHangOnTheirServer}
use Rattle.need_laws.proofs.Founds.{same_named, same_source}

module _ (a b : Tree) (server : ServerId) (same : SameAt server a b) (user : User) where
  named_alike : (own : ServerId) (name : List ℕ) (call : Call) → own ≡ server →
      want_for (fileset_named a own name) (λ fileset. want_in fileset user call) ≡ want_for (fileset_named b own name) (λ fileset. want_in fileset user call)
  named_alike own name call e = ap (λ found. want_for found (λ fileset. want_in fileset user call)) (same_named a b own (subst (λ s. SameAt s a b) (sym e) same) name)

pub wants_hang_on_their_server : WantsHangOnTheirServer
unfolding want
wants_hang_on_their_server a b server user (CloneFileset at source new) same e =
    ap (λ found. want_for found (λ fileset. flat_map (all_of false) (files_of fileset))) (same_source a b at (subst (λ s. SameAt s a b) (sym e) same) user source)
wants_hang_on_their_server a b server user (MoveFileset at name to) same e = absurd e
wants_hang_on_their_server a b server user (NewFileset at name objects owner) same e = refl
wants_hang_on_their_server a b server user (Create place) same e = named_alike a b server same user place.server place.fileset (Create place) e
wants_hang_on_their_server a b server user (MakeDir place) same e = named_alike a b server same user place.server place.fileset (MakeDir place) e
wants_hang_on_their_server a b server user (Remove place) same e = named_alike a b server same user place.server place.fileset (Remove place) e
wants_hang_on_their_server a b server user (Rename from to) same e = named_alike a b server same user from.server from.fileset (Rename from to) e
wants_hang_on_their_server a b server user (Truncate place len) same e = named_alike a b server same user place.server place.fileset (Truncate place len) e
wants_hang_on_their_server a b server user (SetAcl place which list) same e = named_alike a b server same user place.server place.fileset (SetAcl place which list) e
wants_hang_on_their_server a b server user (Read place from len) same e = named_alike a b server same user place.server place.fileset (Read place from len) e
wants_hang_on_their_server a b server user (Write place from bytes) same e = named_alike a b server same user place.server place.fileset (Write place from bytes) e
wants_hang_on_their_server a b server user (ListNames place) same e = named_alike a b server same user place.server place.fileset (ListNames place) e
wants_hang_on_their_server a b server user (Stat place) same e = named_alike a b server same user place.server place.fileset (Stat place) e
wants_hang_on_their_server a b server user (GetAcl place which) same e = named_alike a b server same user place.server place.fileset (GetAcl place which) e
wants_hang_on_their_server a b server user (Sync place) same e = named_alike a b server same user place.server place.fileset (Sync place) e
wants_hang_on_their_server a b server user (Lock label place writing from len) same e = named_alike a b server same user place.server place.fileset (Lock label place writing from len) e
wants_hang_on_their_server a b server user (Unlock label) same e = refl
wants_hang_on_their_server a b server user (OpenFile label place kind) same e = named_alike a b server same user place.server place.fileset (OpenFile label place kind) e
wants_hang_on_their_server a b server user (CloseFile label) same e = refl
