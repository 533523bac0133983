-- What a run of a script is for each host.
use Rattle.std.specs.Prelude.{◌≡◌, false, List, [], ◌∷◌, ◌++◌, filter}
use Rattle.std.specs.List.{list_any}
use Rattle.base_types.specs.declared.ids.HostId.{HostId}
use Rattle.base_types.specs.declared.ids.ServerId.{ServerId}
use Rattle.tree_calls.specs.declared.entry.Entry.{Entry}
use Rattle.tree_calls.specs.declared.entry.Entry.TheVariants.{Down}
use Rattle.tree_saving.specs.Saving.{is_store_by}
use Rattle.script_lines.specs.Sound.{IsSound}
use Rattle.script_lines.specs.declared.script.Script.{Script}
use Rattle.service_plain.specs.Calls.{own_calls}
use Rattle.service_plain.specs.Played.{calls_in, is_own, last_calls, IsPlayed}
use Rattle.service_plain.specs.declared.played.Played.{Played}

-- the calls of each host are those that its lines ask for, in their order, each once, and then the ones that it makes
-- by itself
abbrev pub CallsFollowLines : Type 0
CallsFollowLines =
    (script : Script) (played : Played) (host : HostId) → IsPlayed script played →
    calls_in (filter (is_own host) played.history)
    ≡ own_calls host (script.setup ++ script.lines)
    ++ last_calls script (script.setup ++ script.lines) host played.history

-- neither a call nor a store among these entries is a host's
pub record IsSilent (host : HostId) (entries : List Entry) : Type 0 where
  pub calls : filter (is_own host) entries ≡ []
  pub stores : list_any (is_store_by host) entries ≡ false

-- a host makes no call and stores nothing after it is down
abbrev pub DownIsLast : Type 0
DownIsLast =
    (script : Script) (played : Played) (host : HostId) (server : ServerId) (before after : List Entry) →
    IsSound script → IsPlayed script played →
    played.history ≡ before ++ Down host server ∷ after → IsSilent host after
