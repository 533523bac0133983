-- The cache writes as the rules do.
use Rattle.base_types.specs.declared.ids.Fid.{Fid}
use Rattle.base_types.specs.declared.ids.HostId.{HostId}
use Rattle.host_cache.specs.Seen.{Kept, Seen, after_length, after_write, seen}
use Rattle.host_tables.specs.AtOnce.{answers_line}
use Rattle.host_tables.specs.Tables.{content}
use Rattle.run_rules.specs.Views.{changed_by_writes}
use Rattle.std.specs.Prelude.{List, Some, [], if◌then◌else◌, length, nat_lt, true, ℕ, ◌+◌, ◌≡◌}
use Rattle.tree_calls.specs.declared.call.Call.TheVariants.{Write}
use Rattle.tree_calls.specs.declared.place.Place.{Place as NamedPlace}
use Rattle.tree_calls.specs.declared.reply.Reply.TheVariants.{Ok as Fine}
use Rattle.tree_laws.specs.Parts.{Nature, Part}
use Rattle.tree_laws.specs.Parts.Part.{Size, Traits}

-- what the code leaves of the cache: the bytes, and the length where the file grows
abbrev pub written_cache : Seen → Fid → ℕ → List ℕ → ℕ → Seen
written_cache s fid from bytes size =
    if nat_lt size (from + length bytes) then after_length (after_write s fid from bytes) fid (from + length bytes)
    else after_write s fid from bytes

-- a step that answers a Write of a file whose status is cached: what the cache shows after it is what the rules say
abbrev pub WritesAlike : Type 0
WritesAlike = (old new : Kept) (host : HostId) (line k : ℕ) (place : NamedPlace) (fid : Fid) (from : ℕ) (bytes : List ℕ)
    (nature : Nature)
    → content old fid Traits ≡ Some nature
    → seen new ≡ written_cache (seen old) fid from bytes (content old fid Size)
    → (other : Fid) (part : Part)
    → content new other part ≡ changed_by_writes (answers_line host line (record {
      host = host;
      k = k;
      call = Write place from bytes;
      reply = Fine;
      first = true;
    }) (Some fid) []) (content old) other part
