-- What a host may change by itself: the needs of its calls cover it.
use Rattle.std.specs.Prelude.{◌≡◌, ◌⊎◌, ℕ, Bool, true, ◌&&◌, List}
use Rattle.std.specs.List.{list_any}
use Rattle.base_types.specs.Ids.{same_fid}
use Rattle.base_types.specs.declared.ids.HostId.{HostId}
use Rattle.base_types.specs.declared.ids.Fid.{Fid}
use Rattle.base_types.specs.declared.ids.OpenKind.{OpenKind}
use Rattle.base_types.specs.declared.user.User.{User}
use Rattle.tree_calls.specs.declared.call.Call.TheVariants.{Write, Lock, OpenFile}
use Rattle.tree_calls.specs.declared.place.Place.{Place}
use Rattle.tree_laws.specs.Parts.{Part}
use Rattle.token_types.specs.declared.token.Kind.{Kind}
use Rattle.token_types.specs.declared.token.Kind.TheVariants.{Lock as LockKind, Opening}
use Rattle.token_types.specs.declared.token.Need.{Need}
use Rattle.token_types.specs.Covers.{kind_covers}
use Rattle.need_host.specs.Looks.{View, outcome, needs_of}
use Rattle.need_host.specs.Shows.{needs_update, can_be}
use Rattle.need_host.specs.Calls.{Verdict, Own, call_look, view_after}
use Rattle.need_host.specs.Calls.Verdict.{Locks, Opens}

-- whether one of some needs is of exactly a lock, or an open
abbrev pub needs_exactly : List Need → Fid → Kind → Bool
needs_exactly needs fid kind = list_any (λ need. same_fid need.fid fid && kind_covers need.kind kind) needs

-- what a verdict takes beside looking: the exact lock or open
abbrev pub AreTaken : List Need → Verdict → Type 0
AreTaken needs (Locks fid writing span) = needs_exactly needs fid (LockKind writing span) ≡ true
AreTaken needs (Opens fid kind) = needs_exactly needs fid (Opening kind) ≡ true
AreTaken needs verdict = Unit {0}

-- The needs of a call are for all that the host then does by itself.
pub record NeedsSuffice : Type 0 where
  -- each part of the view that a Write changes is among those that its needs are for updating
  pub writes :
      (own : Own) (host : HostId) (user : User) (place : Place) (from : ℕ) (bytes : List ℕ)
      (view : View) (fid : Fid) (part : Part) → can_be part ≡ true →
      let look = call_look own host user (Write place from bytes) in
      (needs_update (needs_of view look) fid part ≡ true)
      ⊎ (view_after (outcome view look) view fid part ≡ view fid part)
  -- a Lock, and an OpenFile, takes its exact token
  pub locks :
      (own : Own) (host : HostId) (user : User) (label : List ℕ) (place : Place) (writing : Bool) (from len : ℕ)
      (view : View) →
      let look = call_look own host user (Lock label place writing from len) in
      AreTaken (needs_of view look) (outcome view look)
  pub opens :
      (own : Own) (host : HostId) (user : User) (label : List ℕ) (place : Place) (kind : OpenKind) (view : View) →
      let look = call_look own host user (OpenFile label place kind) in
      AreTaken (needs_of view look) (outcome view look)
