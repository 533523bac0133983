-- The cache drops a token as the rules see it.
use Rattle.base_types.specs.declared.ids.Fid.{Fid}
use Rattle.base_types.specs.declared.limits.TheConstants.{FILE_BYTES_MAX}
use Rattle.host_cache.specs.Holding.{is_status}
use Rattle.host_cache.specs.Seen.{Kept, after_drop, seen}
use Rattle.host_cache.specs.declared.held.Held.{Held}
use Rattle.host_tables.specs.Evicting.{IsWithout}
use Rattle.host_tables.specs.Tables.{content}
use Rattle.run_rules.specs.Past.{In}
use Rattle.std.specs.Prelude.{true, ℕ, ◌≡◌, ◌≤◌}
use Rattle.token_types.specs.declared.token.TokenId.{TokenId}
use Rattle.tree_laws.specs.Parts.Part.{ByteAt}

abbrev pub DropsAlike : Type 0
DropsAlike = (old new : Kept) (id : TokenId) → seen new ≡ after_drop (seen old) id
    → ((h : Held) → In h old.held → is_status h.token.kind ≡ true → h.tells ≡ true)
    → ((fid : Fid) (at : ℕ) → FILE_BYTES_MAX ≤ at → content old fid (ByteAt at) ≡ 0)
    → IsWithout old new id
