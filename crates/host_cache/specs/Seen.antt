-- What a cache is seen as, and how its calls change it.
use Rattle.std.specs.Prelude.{◌≡◌, ℕ, ◌-◌, Bool, false, ◌&&◌, if◌then◌else◌, List, [], ◌∷◌, map, filter, length}
use Rattle.std.specs.Prelude.{Option, None, Some, is_some}
use Rattle.std.specs.List.{list_any}
use Rattle.std.specs.Option.{option_map}
use Rattle.base_types.specs.Ids.{same_fid}
use Rattle.base_types.specs.declared.ids.Fid.{Fid}
use Rattle.tree_calls.specs.declared.part.DirEntry.{DirEntry}
use Rattle.tree_calls.specs.declared.part.Piece.{Piece}
use Rattle.tree_calls.specs.declared.part.Status.{Status}
use Rattle.token_types.specs.declared.token.Need.{Need}
use Rattle.token_types.specs.declared.token.Token.{Token}
use Rattle.token_types.specs.declared.token.TokenId.{TokenId}
use Rattle.host_cache.specs.declared.held.Held.{Held}
use Rattle.base_types.specs.Image.{byte_at}
use Rattle.host_cache.specs.Bytes.{told_byte, is_within}
use Rattle.host_cache.specs.Files.{FileKey, file_key, same_key, parts_at, IsRoomy}
use Rattle.host_cache.specs.Holding.{tokens_of, without_id, with_use, used}
use Rattle.host_cache.specs.Holding.{shows_byte, tells_of, kind_has_byte, is_status}
use Rattle.host_cache.specs.Parts.{Parts}

-- the held tokens, and what is kept of each file
pub record Kept : Type 0 where
  -- the most recently used first
  pub held : List Held
  pub files : List (FileKey × Parts)

-- what the held tokens show
pub record Seen : Type 0 where
  -- the most recently used first
  pub held : List Held
  -- where a held token of the file came with a status
  pub status : Fid → Option Status
  -- of the file's held token that has byte 0
  pub entries : Fid → List DirEntry
  -- where a held token has the byte
  pub bytes : Fid → ℕ → Option ℕ

abbrev pub tells : List Held → Fid → Bool
tells held fid = list_any (tells_of fid) held

abbrev pub shows : List Held → Fid → ℕ → Bool
shows held fid at = list_any (shows_byte fid at) held

abbrev pub file_at : Kept → Fid → Parts
file_at kept fid = parts_at kept.files (file_key fid)

abbrev pub seen : Kept → Seen
seen kept = record {
  held = kept.held;
  status = λ fid. if tells kept.held fid then (file_at kept fid).status else None;
  entries = λ fid. if shows kept.held fid 0 then (file_at kept fid).entries else [];
  bytes = λ fid at. if shows kept.held fid at then Some (byte_at (file_at kept fid).bytes at) else None;
}

-- a token is held, first, and what was told under it is shown; of its bytes those are zero that weren't told
abbrev pub after_add : Seen → Token → Option Status → List Piece → List DirEntry → Seen
after_add s token status pieces entries = record {
  held = record { token = token; in_use = false; tells = is_status token.kind && is_some status } ∷ s.held;
  status = λ fid.
      if same_fid token.fid fid && (is_status token.kind && is_some status) then status else s.status fid;
  entries = λ fid. if same_fid token.fid fid && kind_has_byte 0 token.kind then entries else s.entries fid;
  bytes = λ fid at.
      if same_fid token.fid fid && kind_has_byte at token.kind then Some (told_byte pieces at) else s.bytes fid at;
}

-- these tokens are held, and show what was shown
abbrev pub shown_under : List Held → Seen → Seen
shown_under held s = record {
  held = held;
  status = λ fid. if tells held fid then s.status fid else None;
  entries = λ fid. if shows held fid 0 then s.entries fid else [];
  bytes = λ fid at. if shows held fid at then s.bytes fid at else None;
}

abbrev pub after_drop : Seen → TokenId → Seen
after_drop s id = shown_under (without_id id s.held) s

-- bytes of a file are written from a place on
abbrev pub after_write : Seen → Fid → ℕ → List ℕ → Seen
after_write s file from bytes = record s {
  bytes = λ fid at.
      if same_fid file fid && is_within from (length bytes) at then Some (byte_at bytes (at - from))
      else s.bytes fid at;
}

abbrev pub after_length : Seen → Fid → ℕ → Seen
after_length s file length = record s {
  status = λ fid.
      if same_fid file fid then option_map (λ (status : Status). record status { length = length }) (s.status fid)
      else s.status fid;
}

abbrev pub after_set_use : Seen → TokenId → Bool → Seen
after_set_use s id in_use = record s { held = map (with_use id in_use) s.held }

abbrev pub after_used : Seen → Need → Seen
after_used s need = record s { held = used need s.held }

-- the tokens of a file, in their order
abbrev pub of_key : FileKey → List Held → List Held
of_key key held = filter (λ h. same_key (file_key h.token.fid) key) held

-- each file has its tokens, room for their bytes, and a status only where a token came with one
pub record IsKept (held : List Held) (files : List (FileKey × Parts)) : Type 0 where
  pub tokens : (key : FileKey) → (parts_at files key).tokens ≡ tokens_of (of_key key held)
  pub room : (key : FileKey) → IsRoomy (parts_at files key)
  pub told : (fid : Fid) → tells held fid ≡ false → (parts_at files (file_key fid)).status ≡ None
