-- Laws that only the right definitions of what a cache shows meet.
use Rattle.std.specs.Prelude.{◌≡◌, ℕ, ◌+◌, ◌<◌, ◌≤◌, true, false, not, List, [], ◌∷◌, ◌++◌, filter, length}
use Rattle.std.specs.Prelude.{None, Some, All, slice_get}
use Rattle.base_types.specs.Ids.{same_fid}
use Rattle.base_types.specs.declared.ids.Fid.{Fid}
use Rattle.tree_calls.specs.declared.part.Piece.{Piece}
use Rattle.token_types.specs.Conflicts.{same_id}
use Rattle.token_types.specs.declared.token.Need.{Need}
use Rattle.token_types.specs.declared.token.TokenId.{TokenId}
use Rattle.host_cache.specs.declared.held.Held.{Held}
use Rattle.host_cache.specs.Bytes.{told_byte}
use Rattle.host_cache.specs.Holding.{has_id, helps_cover, used, used_each, is_idle, last_of}
use Rattle.host_cache.specs.Seen.{Seen, shows, after_drop, after_write}

-- after a write each of its bytes is read at its place, and all else as before
pub record WrittenAt (s : Seen) (file : Fid) (from : ℕ) (piece : List ℕ) : Type 0 where
  pub inside : (at : ℕ) → at < length piece → (after_write s file from piece).bytes file (from + at)
      ≡ slice_get piece at
  pub below : (at : ℕ) → at < from → (after_write s file from piece).bytes file at ≡ s.bytes file at
  pub behind : (at : ℕ) → from + length piece ≤ at → (after_write s file from piece).bytes file at ≡ s.bytes file at
  pub others : (fid : Fid) (at : ℕ) → same_fid file fid ≡ false → (after_write s file from piece).bytes fid at
      ≡ s.bytes fid at

abbrev pub Written : Type 0
Written = (s : Seen) (file : Fid) (from : ℕ) (piece : List ℕ) → WrittenAt s file from piece

-- a byte is told by the first piece that has it, and is zero where none has
pub record ToldAt (piece : Piece) (pieces : List Piece) : Type 0 where
  pub first : (at : ℕ) → at < length piece.bytes →
      Some (told_byte (piece ∷ pieces) (piece.from + at)) ≡ slice_get piece.bytes at
  pub below : (at : ℕ) → at < piece.from → told_byte (piece ∷ pieces) at ≡ told_byte pieces at
  pub behind : (at : ℕ) → piece.from + length piece.bytes ≤ at → told_byte (piece ∷ pieces) at ≡ told_byte pieces at
  pub none : (at : ℕ) → told_byte [] at ≡ 0

abbrev pub Told : Type 0
Told = (piece : Piece) (pieces : List Piece) → ToldAt piece pieces

-- a token that is dropped is held no more, and all others are; a byte is shown where another token has it, as before
pub record DroppedAt (s : Seen) (id : TokenId) : Type 0 where
  pub gone : has_id (after_drop s id).held id ≡ false
  pub others : (other : TokenId) → same_id id other ≡ false → has_id (after_drop s id).held other ≡ has_id s.held other
  pub shown : (fid : Fid) (at : ℕ) → shows (after_drop s id).held fid at ≡ true →
      (after_drop s id).bytes fid at ≡ s.bytes fid at
  pub unseen : (fid : Fid) (at : ℕ) → shows (after_drop s id).held fid at ≡ false → (after_drop s id).bytes fid at ≡
      None

abbrev pub Dropped : Type 0
Dropped = (s : Seen) (id : TokenId) → DroppedAt s id

-- the tokens that help stand before all others, and the order among these stays, and that among the others
pub record UsedAt (need : Need) (held : List Held) : Type 0 where
  pub first : List Held
  pub last : List Held
  pub parts : used need held ≡ first ++ last
  pub help : All (λ h. helps_cover need h.token ≡ true) first
  pub others : All (λ h. helps_cover need h.token ≡ false) last
  pub helpers_stay : first ≡ filter (λ h. helps_cover need h.token) held
  pub others_stay : last ≡ filter (λ h. not (helps_cover need h.token)) held

abbrev pub Used : Type 0
Used = (need : Need) (held : List Held) → UsedAt need held

-- needs that were used one after the other, and are again, change nothing
abbrev pub UsedAgain : Type 0
UsedAgain = (needs : List Need) (held : List Held) → used_each needs (used_each needs held) ≡ used_each needs held

-- the oldest token isn't in use, and all that are behind it are
pub record OldestAt (held : List Held) (h : Held) : Type 0 where
  pub before : List Held
  pub behind : List Held
  pub there : held ≡ before ++ h ∷ behind
  pub idle : h.in_use ≡ false
  pub in_use : All (λ x. x.in_use ≡ true) behind

abbrev pub Oldest : Type 0
Oldest = (held : List Held) (h : Held) → last_of (filter is_idle held) ≡ Some h → OldestAt held h

-- where there is none all tokens are in use
abbrev pub NoneOldest : Type 0
NoneOldest = (held : List Held) → last_of (filter is_idle held) ≡ None → All (λ h. h.in_use ≡ true) held
