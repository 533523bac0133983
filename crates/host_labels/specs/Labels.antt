-- The labels in use at a host.
use Rattle.std.specs.Prelude.{ℕ, Bool, true, false, IsTrue, ◌&&◌, not, if◌then◌else◌, List, [], ◌∷◌, ◌++◌, Option}
use Rattle.std.specs.Prelude.{All, filter, length, ◌≤◌}
use Rattle.std.specs.Bool.{beq}
use Rattle.std.specs.List.{list_any, find}
use Rattle.base_types.specs.Name.{same_name}
use Rattle.token_types.specs.Conflicts.{same_id}
use Rattle.token_types.specs.declared.token.Kind.{Kind}
use Rattle.token_types.specs.declared.token.Kind.TheVariants.{Lock}
use Rattle.token_types.specs.declared.token.Token.{Token}
use Rattle.token_types.specs.declared.token.TokenId.{TokenId}
use Rattle.host_labels.specs.declared.uses.Labelled.{Labelled}

pub record InUse : Type 0 where
  -- in the order in which they were taken
  pub labels : List Labelled
  -- the numbers of the pinned tokens
  pub pinned : List TokenId

abbrev pub is_lock : Kind → Bool
is_lock (Lock writing span) = true
is_lock _ = false

-- whether a label in use is this one, of locks or else of opens
abbrev pub is_labelled : Bool → List ℕ → Labelled → Bool
is_labelled lock label used = beq (is_lock used.token.kind) lock && same_name used.label label

-- the use of a label of locks, or else of opens
abbrev pub use_of : InUse → Bool → List ℕ → Option Labelled
use_of uses lock label = find (is_labelled lock label) uses.labels

-- whether a label is in use for a token
abbrev pub has_id : List Labelled → TokenId → Bool
has_id labels id = list_any (λ used. same_id used.token.id id) labels

abbrev pub is_pinned : InUse → TokenId → Bool
is_pinned uses id = list_any (λ other. same_id other id) uses.pinned

abbrev pub after_take : InUse → List ℕ → Token → InUse
after_take uses label token =
    record uses { labels = uses.labels ++ record { label = label; token = token } ∷ [] }

-- without a label, of locks or else of opens, and without the pins for whose tokens no label is left
abbrev pub without_label : Bool → List ℕ → List Labelled → List Labelled
without_label lock label labels = filter (λ used. not (is_labelled lock label used)) labels

abbrev pub after_drop : InUse → Bool → List ℕ → InUse
after_drop uses lock label =
    record {
      labels = without_label lock label uses.labels;
      pinned = filter (has_id (without_label lock label uses.labels)) uses.pinned;
    }

abbrev pub after_pin : InUse → TokenId → InUse
after_pin uses id =
    record uses { pinned = if is_pinned uses id then uses.pinned else uses.pinned ++ id ∷ [] }

-- a label, of locks or else of opens, is in use once at most
abbrev pub IsOnce : List Labelled → Type 0
IsOnce labels = (lock : Bool) (label : List ℕ) → length (filter (is_labelled lock label) labels) ≤ 1

-- each label is in use once at most, and for each pinned token one is in use
pub record IsSound (uses : InUse) : Type 0 where
  pub once : IsOnce uses.labels
  pub pins : All (λ id. IsTrue (has_id uses.labels id)) uses.pinned
