-- The use of a label ends with a give-back of its pinned token: what the tables are before the token leaves.
use Rattle.base_types.specs.Spans.{has_byte}
use Rattle.base_types.specs.declared.ids.Fid.{Fid}
use Rattle.host_cache.specs.Holding.{is_id, tokens_of, with_use, without_id}
use Rattle.host_cache.specs.Seen.{Kept, Seen, after_drop, after_set_use, seen, shown_under}
use Rattle.host_cache.specs.declared.held.Held.{Held}
use Rattle.host_dirty.specs.Dirtiness.{is_dirty as is_dirty_in}
use Rattle.host_leaves.specs.Dirtying.{covers_left, staying, updates_byte}
use Rattle.host_leaves.specs.Giving.{AreLeft}
use Rattle.host_leaves.specs.Owning.{dirty_length, update_span}
use Rattle.host_manager.proofs.OneFile.{IsChosen}
use Rattle.host_manager.proofs.Sizes.{size_in}
use Rattle.host_tables.specs.Tables.{content, held_of, is_updating, length_given}
use Rattle.host_lengths.specs.declared.given.Given.{Given}
use Rattle.host_tables.specs.declared.tables.Tables.{Tables}
use Rattle.run_rules.specs.Tokens.{IsUseKind}
use Rattle.std.proofs.Common.{Bool, List, None, Some, [], ap, cond, false, if◌then◌else◌, map, not}
use Rattle.std.proofs.Common.{refl, sym, true, ℕ, ◌&&◌, ◌==◌, ◌||◌, ◌∙◌, ◌∷◌, ◌≡◌}
use Rattle.std.specs.List.{list_any}
use Rattle.std.specs.Option.{option_map_or}
use Rattle.token_types.specs.declared.token.Kind.{Kind}
use Rattle.token_types.specs.declared.token.Kind.TheVariants.{Bytes, Lock, Opening, Status}
use Rattle.token_types.specs.declared.token.Token.{Token}
use Rattle.token_types.specs.declared.token.TokenId.{TokenId}
use Rattle.tree_calls.specs.declared.part.Piece.{Piece}
use Rattle.tree_laws.specs.Parts.Part.{ByteAt, Size}

-- # A token of a lock or of an open file is for changing no byte
updates_none : (t : Token) (at : ℕ) → IsUseKind t.kind → updates_byte at t ≡ false
updates_none t at u = by_kind t.kind u
  where
    by_kind : (k : Kind) → IsUseKind k → option_map_or (λ span. has_byte span at) (update_span k) false ≡ false
    by_kind (Lock writing span) u = refl
    by_kind (Opening kind) u = refl
    by_kind (Bytes update span) u = elim u [ ]
    by_kind (Status update) u = elim u [ ]

pub covers_none : (m : Tables) (t : Token) (at : ℕ) → IsUseKind t.kind → covers_left m t.fid (t ∷ []) (t ∷ []) at
    ≡ false
covers_none m t at u =
    ap (λ (b : Bool). (b || false) && not (list_any (updates_byte at) (staying m t.fid (t ∷ [])))) (updates_none t at u)

-- so its give-back has no bytes, by whatever tables
pub left_by_use : (m x : Tables) (t : Token) (pieces : List Piece) → IsUseKind t.kind
    → AreLeft x t.fid (t ∷ []) (t ∷ []) pieces → AreLeft m t.fid (t ∷ []) (t ∷ []) pieces
left_by_use m x t pieces u left = record {
  rise = left.rise;
  bytes = λ at.
      left.bytes at
      ∙ none_here x (is_dirty_in x.dirty t.fid at) at
      ∙ sym (none_here m (is_dirty_in m.dirty t.fid at) at);
  fit = left.fit;
}
  where
    none_here : (z : Tables) (b : Bool) (at : ℕ)
        → (if b && covers_left z t.fid (t ∷ []) (t ∷ []) at then Some (content z.cache t.fid (ByteAt at)) else None)
        ≡ None
    none_here z b at =
        ap (λ (c : Bool). if b && c then Some (content z.cache t.fid (ByteAt at)) else None) (covers_none z t at u)
        ∙ by_left b
      where
        by_left : (b : Bool) → (if b && false then Some (content z.cache t.fid (ByteAt at)) else None) ≡ None
        by_left true = refl
        by_left false = refl

-- it is chosen
pub one_chosen : (m : Tables) (t : Token) → IsChosen m t.fid (t ∷ []) (t ∷ [])
one_chosen m t = record { test = λ x. true; some = refl; has = λ u i h. refl }

-- # The cache, where the token is marked as in use no more, and then dropped
unmarked : (id : TokenId) (held : List Held) → without_id id (map (with_use id false) held) ≡ without_id id held
unmarked id [] = refl
unmarked id (h ∷ held) = by_id (is_id id h) refl (unmarked id held)
  where
    by_id : (b : Bool) → is_id id h ≡ b → without_id id (map (with_use id false) held) ≡ without_id id held
        → without_id id (with_use id false h ∷ map (with_use id false) held) ≡ without_id id (h ∷ held)
    by_id true e rest =
        ap (λ (b : Bool). cond (not (is_id id (if b then record h { in_use = false } else h)))
        ((if b then record h { in_use = false } else h) ∷ without_id id (map (with_use id false) held))
        (without_id id (map (with_use id false) held))) e
        ∙ ap (λ (b : Bool). cond (not b) (record h { in_use = false } ∷ without_id id (map (with_use id false) held))
        (without_id id (map (with_use id false) held))) e
        ∙ rest
        ∙ ap (λ (b : Bool). cond (not b) (h ∷ without_id id held) (without_id id held)) (sym e)
    by_id false e rest =
        ap (λ (b : Bool). cond (not (is_id id (if b then record h { in_use = false } else h)))
        ((if b then record h { in_use = false } else h) ∷ without_id id (map (with_use id false) held))
        (without_id id (map (with_use id false) held))) e
        ∙ ap (λ (b : Bool). cond (not b) (h ∷ without_id id (map (with_use id false) held))
        (without_id id (map (with_use id false) held))) e
        ∙ ap (λ (hs : List Held). h ∷ hs) rest
        ∙ ap (λ (b : Bool). cond (not b) (h ∷ without_id id held) (without_id id held)) (sym e)

pub drop_marked : (old mid new : Kept) (id : TokenId) (still : Bool)
    → seen mid ≡ (if still then seen old else after_set_use (seen old) id false)
    → seen new ≡ after_drop (seen mid) id → seen new ≡ after_drop (seen old) id
drop_marked old mid new id true e told = told ∙ ap (λ (s : Seen). after_drop s id) e
drop_marked old mid new id false e told =
    told ∙ ap (λ (s : Seen). after_drop s id) e
    ∙ ap (λ (held : List Held). shown_under held (seen old)) (unmarked id old.held)

-- # Its length
pub same_dirty : (m x : Tables) (fid : Fid) → held_of x ≡ held_of m → x.lengths ≡ m.lengths
    → content x.cache fid Size ≡ content m.cache fid Size → dirty_length x fid ≡ dirty_length m fid
same_dirty m x fid held lengths size = λ i.
    if (list_any (is_updating fid) (held i) && not (option_map_or (λ (given : Given). (given.length == size i)
    && given.known) (length_given (lengths i) fid) false))
    then Some (size i) else None

-- # Marks change neither tokens nor what is seen
same_tokens : (id : TokenId) (held : List Held) → tokens_of (map (with_use id false) held) ≡ tokens_of held
same_tokens id [] = refl
same_tokens id (h ∷ held) =
    by_id (is_id id h) ∙ ap (λ (ts : List Token). h.token ∷ ts) (same_tokens id held)
  where
    by_id : (b : Bool) → (if b then record h { in_use = false } else h).token ∷ tokens_of (map (with_use id false) held)
        ≡ h.token ∷ tokens_of (map (with_use id false) held)
    by_id true = refl
    by_id false = refl

pub marked_tokens : (old mid : Kept) (id : TokenId) (still : Bool)
    → seen mid ≡ (if still then seen old else after_set_use (seen old) id false)
    → tokens_of mid.held ≡ tokens_of old.held
marked_tokens old mid id true e = ap (λ (s : Seen). tokens_of s.held) e
marked_tokens old mid id false e = ap (λ (s : Seen). tokens_of s.held) e ∙ same_tokens id old.held

pub marked_size : (old mid : Kept) (id : TokenId) (still : Bool) (fid : Fid)
    → seen mid ≡ (if still then seen old else after_set_use (seen old) id false)
    → content mid fid Size ≡ content old fid Size
marked_size old mid id true fid e = ap (λ (s : Seen). size_in s fid) e
marked_size old mid id false fid e = ap (λ (s : Seen). size_in s fid) e
