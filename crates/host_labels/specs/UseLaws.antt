-- Laws that only the right definitions of labels in use meet.
use Rattle.std.specs.Prelude.{◌≡◌, ℕ, Bool, true, false, ◌&&◌, ◌||◌, None, Some}
use Rattle.std.specs.Prelude.{List}
use Rattle.std.specs.Bool.{beq}
use Rattle.base_types.specs.Name.{same_name}
use Rattle.base_types.specs.declared.ids.Fid.{Fid}
use Rattle.base_types.specs.declared.ids.HostId.{HostId}
use Rattle.base_types.specs.declared.ids.OpenKind.{OpenKind}
use Rattle.base_types.specs.declared.span.Span.{Span}
use Rattle.token_types.specs.Conflicts.{same_id}
use Rattle.token_types.specs.declared.token.Kind.{Kind}
use Rattle.token_types.specs.declared.token.Kind.TheVariants.{Lock, Opening}
use Rattle.token_types.specs.declared.token.Token.{Token}
use Rattle.token_types.specs.declared.token.TokenId.{TokenId}
use Rattle.host_labels.specs.Labels.{InUse, use_of, has_id, is_pinned, after_take, after_drop, after_pin}

-- a token of this kind
abbrev token_of : TokenId → HostId → Fid → Kind → Token
token_of id host fid kind = record { id = id; host = host; fid = fid; kind = kind }

-- A label that is taken for a lock is found among those of locks, and one for an open among those of opens. All else is
-- found as before.
pub record TakenFor (lock : Bool) (uses : InUse) (label : List ℕ) (token : Token) : Type 0 where
  pub there : use_of (after_take uses label token) lock label ≡ Some (record { label = label; token = token })
  pub others : (other : Bool) (name : List ℕ) → beq lock other && same_name label name ≡ false →
      use_of (after_take uses label token) other name ≡ use_of uses other name
  pub pins : (id : TokenId) → is_pinned (after_take uses label token) id ≡ is_pinned uses id

abbrev pub Taken : Type 0
Taken =
    (uses : InUse) (label : List ℕ) (id : TokenId) (host : HostId) (fid : Fid) →
    ((writing : Bool) (span : Span) → use_of uses true label ≡ None →
    TakenFor true uses label (token_of id host fid (Lock writing span)))
    × ((kind : OpenKind) → use_of uses false label ≡ None →
    TakenFor false uses label (token_of id host fid (Opening kind)))

-- Where a label was dropped it isn't found, and all others are; a token is pinned yet exactly where a label
-- is left for it and it was.
pub record DroppedAt (uses : InUse) (lock : Bool) (label : List ℕ) : Type 0 where
  pub gone : use_of (after_drop uses lock label) lock label ≡ None
  pub others : (other : Bool) (name : List ℕ) → beq lock other && same_name label name ≡ false →
      use_of (after_drop uses lock label) other name ≡ use_of uses other name
  pub pins : (id : TokenId) →
      is_pinned (after_drop uses lock label) id ≡ (has_id (after_drop uses lock label).labels id && is_pinned uses id)

abbrev pub Dropped : Type 0
Dropped = (uses : InUse) (lock : Bool) (label : List ℕ) → DroppedAt uses lock label

-- a token that was pinned is, and the others as before; labels stay
abbrev pub Pinned : Type 0
Pinned =
    (uses : InUse) (id : TokenId) →
    ((other : TokenId) → is_pinned (after_pin uses id) other ≡ (same_id id other || is_pinned uses other))
    × ((after_pin uses id).labels ≡ uses.labels)
