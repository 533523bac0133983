-- A whole step: a clean token that isn't in use is evicted.
use Rattle.base_types.specs.declared.ids.Fid.{Fid}
use Rattle.base_types.specs.declared.limits.TheConstants.{FILE_BYTES_MAX}
use Rattle.host_cache.specs.Holding.{is_idle, last_of, tokens_of}
use Rattle.host_cache.specs.Seen.{Kept}
use Rattle.host_cache.specs.declared.held.Held.{Held}
use Rattle.host_dirty.specs.Dirtiness.{is_dirty as is_dirty_in}
use Rattle.host_gives.specs.Giving.{names}
use Rattle.host_tables.specs.Half.{learning}
use Rattle.host_tables.specs.Machine.{Rests, StepRight}
use Rattle.host_tables.specs.Tables.{content, held_of, is_length_clean, is_shown_by, site_at, updates_status}
use Rattle.host_tables.specs.declared.tables.Tables.{Tables}
use Rattle.message_types.specs.declared.message.Body.TheVariants.{Returned}
use Rattle.message_types.specs.declared.message.Direction.TheVariants.{ToServer}
use Rattle.message_types.specs.declared.message.Message.{Message}
use Rattle.run_rules.specs.Messages.{home}
use Rattle.run_rules.specs.Past.{EachOnce, In}
use Rattle.run_rules.specs.Views.{UpdatesByte}
use Rattle.run_rules.specs.declared.applied.Why.TheVariants.{Evicted}
use Rattle.run_rules.specs.declared.step.Cause.TheVariants.{Evict}
use Rattle.run_rules.specs.declared.step.Step.{Step}
use Rattle.script_lines.specs.declared.script.Script.{Script}
use Rattle.std.specs.List.{list_any}
use Rattle.std.specs.Prelude.{Bool, List, None, Some, [], false, filter, length, not, true, ℕ, ◌<◌, ◌∷◌, ◌≡◌, ◌≤◌}
use Rattle.token_types.specs.Conflicts.{same_id}
use Rattle.token_types.specs.declared.token.Token.{Token}
use Rattle.token_types.specs.declared.token.TokenId.{TokenId}
use Rattle.tree_laws.specs.Parts.{Part}
use Rattle.tree_laws.specs.Parts.Part.{ByteAt}

abbrev pub returned : Tables → Token → Message
returned m t = record {
  direction = ToServer;
  host = m.host;
  server = home t.fid.fileset;
  epoch = (site_at m.sites (home t.fid.fileset)).epoch;
  moves = 0;
  body = Returned (record { fid = t.fid; ids = t.id ∷ [] });
}

abbrev pub evicts_one : Tables → Token → Step
evicts_one m t = record (learning m.host Evict []) {
  dropped = record { token = t; why = Evicted } ∷ [];
  sent = returned m t ∷ [];
}

abbrev pub is_other : TokenId → Held → Bool
is_other id h = not (same_id h.token.id id)

-- the cache without one token shows the rest as before
pub record IsWithout (old new : Kept) (id : TokenId) : Type 0 where
  pub held : new.held ≡ filter (is_other id) old.held
  pub content_is : (fid : Fid) (part : Part) → is_shown_by (tokens_of new.held) fid part ≡ true → content new fid part
      ≡ content old fid part
  pub beyond : (fid : Fid) (at : ℕ) → FILE_BYTES_MAX ≤ at → content new fid (ByteAt at) ≡ content old fid (ByteAt at)

-- nothing is dirty under the token alone
pub record IsCleanToken (m : Tables) (t : Token) : Type 0 where
  pub bytes : (at : ℕ) → is_dirty_in m.dirty t.fid at ≡ true → UpdatesByte t t.fid at
      → (u : Token) × In u (held_of m) × (u.id ≡ t.id → ⊥) × UpdatesByte u t.fid at
  -- and no give-back that isn't known as applied names its number
  pub unnamed : list_any (names t.id) m.gives.gives ≡ false
  pub length : updates_status t.kind ≡ true → is_length_clean m.lengths (content m.cache) t.fid ≡ true

abbrev pub EvictsRight : Type 0
EvictsRight = (script : Script) (m : Tables) (past : List Step) (h : Held) (cache : Kept)
    → Rests script m past → m.call ≡ None → m.limit < length (filter is_idle m.cache.held)
    → EachOnce (held_of m) → last_of (filter is_idle m.cache.held) ≡ Some h
    → IsCleanToken m h.token → IsWithout m.cache cache h.token.id
    → StepRight script m (record m { cache = cache }) past (evicts_one m h.token)
