-- How the held tokens lie in a cache of the least recently used entries.
use Rattle.std.specs.Prelude.{◌≡◌, ℕ, ◌-◌, ◌^◌, List, map}
use Rattle.std.specs.Map.{values_of}
use Rattle.lru.specs.LruCache.{LruCache}
use Rattle.token_types.specs.declared.token.TokenId.{TokenId}
use Rattle.host_cache.specs.declared.held.Held.{Held}

abbrev pub IdKey : Type 0
IdKey = ℕ × (ℕ × ℕ)

abbrev pub id_key : TokenId → IdKey
id_key id = (id.server.0, (id.epoch, id.seq))

-- each under its number
abbrev pub keyed : List Held → List (IdKey × Held)
keyed held = map (λ h. (id_key h.token.id, h)) held

-- each entry stands under its number, and there is room for all that there can be
pub record IsOrder (entries : LruCache IdKey Held) : Type 0 where
  pub keys : entries.entries ≡ keyed (values_of entries.entries)
  pub cap : entries.cap ≡ 2 ^ 64 - 1
