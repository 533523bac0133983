-- What a cache shows, as the parts at which calls look.
use Rattle.std.specs.Prelude.{List, unwrap_or}
use Rattle.std.specs.Option.{option_map, option_map_or}
use Rattle.base_types.specs.declared.user.User.{User}
use Rattle.tree_calls.specs.declared.part.Status.{Status}
use Rattle.tree_laws.specs.Parts.{Nature, Part}
use Rattle.tree_laws.specs.Parts.Part.{ByteAt, Entries, Size, Traits}
use Rattle.token_types.specs.declared.token.Token.{Token}
use Rattle.host_cache.specs.Holding.{tokens_of}
use Rattle.host_cache.specs.Seen.{Kept, Seen, seen}
use Rattle.need_host.specs.Looks.{View}

abbrev pub nature_told : Status → Nature
nature_told status = record {
  dir = status.dir;
  read_only = status.read_only;
  owner = status.owner;
  group = status.group;
  lists = status.lists;
}

-- what is shown of each part; 0 of a byte and of a length of which nothing is shown
abbrev pub shown_view : Seen → View
shown_view shown fid (ByteAt at) = unwrap_or (shown.bytes fid at) 0
shown_view shown fid Size = option_map_or (λ status. status.length) (shown.status fid) 0
shown_view shown fid Traits = option_map nature_told (shown.status fid)
shown_view shown fid Entries = shown.entries fid

abbrev pub view_of : Kept → View
view_of kept = shown_view (seen kept)

abbrev pub held_by : Kept → List Token
held_by kept = tokens_of kept.held
