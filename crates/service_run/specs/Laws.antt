-- What the lines that are printed of a run tell.
use Rattle.std.specs.Prelude.{
  ◌≡◌,
  ℕ,
  ◌==◌,
  nat_le,
  ◌&&◌,
  Bool,
  true,
  List,
  [],
  ◌∷◌,
  ◌++◌,
  length,
  map,
  filter,
  flat_map,
  take,
  Option,
}
use Rattle.std.specs.List.{list_all, range_with_len}
use Rattle.base_types.specs.declared.ids.HostId.{HostId}
use Rattle.base_types.specs.declared.ids.ServerId.{ServerId}
use Rattle.base_types.specs.declared.ids.Fid.{Fid}
use Rattle.base_types.specs.declared.ids.FilesetId.{FilesetId}
use Rattle.base_types.specs.declared.span.Span.{Span}
use Rattle.base_types.specs.declared.limits.TheConstants.{HOSTS_MAX, SERVERS_MAX}
use Rattle.tree_calls.specs.declared.call.Call.{Call as CallOf}
use Rattle.tree_calls.specs.declared.entry.Entry.{Entry}
use Rattle.tree_calls.specs.declared.entry.Entry.TheVariants.{Call as Called, Stored, Down, Left}
use Rattle.tree_calls.specs.declared.entry.Loss.{Loss}
use Rattle.tree_calls.specs.declared.reply.Reply.{Reply}
use Rattle.tree_answers.specs.declared.tree.Tree.{Tree}
use Rattle.tree_answers.specs.Histories.{after_history, lost_in}
use Rattle.tree_answers.specs.Losses.{losses_of}
use Rattle.script_lines.specs.Asks.{call_lines}
use Rattle.script_lines.specs.declared.script.Script.{Script}
use Rattle.service_plain.specs.Played.{is_own, IsPlayed}
use Rattle.service_plain.specs.declared.played.Played.{Played}
use Rattle.script_output.specs.Reports.{answers_to, by_host}

-- the reply to a call
abbrev pub reply_in : Entry → List Reply
reply_in (Called host k call reply) = reply ∷ []
reply_in _ = []

-- the first calls of a host in a history, as many
abbrev pub first_calls : HostId → ℕ → List Entry → List Entry
first_calls host count history = take count (filter (is_own host) history)

-- The lines that are printed of a host: the K-th has its number, K, and the reply to the K-th of its calls, up to the
-- last that its lines ask for.
pub record TellsReplies (script : Script) (history : List Entry) (host : HostId) : Type 0 where
  pub hosts : list_all (λ answer. answer.host.0 == host.0) (answers_to script history host.0) ≡ true
  pub numbers : map (λ answer. answer.k) (answers_to script history host.0)
      ≡ range_with_len 1 (length (answers_to script history host.0))
  pub replies : map (λ answer. answer.reply) (answers_to script history host.0)
      ≡ flat_map reply_in (first_calls host (call_lines script host.0) history)

abbrev pub RepliesFollowCalls : Type 0
RepliesFollowCalls =
    (script : Script) (played : Played) (host : HostId)
    → IsPlayed script played → TellsReplies script played.history host

-- whether a loss is of a host and at a server that there can be
abbrev pub is_placed : Loss → Bool
is_placed loss = nat_le loss.host.0 HOSTS_MAX && nat_le 1 loss.server.0 && nat_le loss.server.0 SERVERS_MAX

-- Where a host is down at a server, what that takes is lost, and nothing else ever is. What holds of all losses holds
-- of those that are printed, and the other way round.
pub record LossesAreTaken : Type 0 where
  pub down : (start : Tree) (before : List Entry) (host : HostId) (server : ServerId)
      → lost_in start (before ++ Down host server ∷ [])
      ≡ lost_in start before ++ losses_of (after_history start before) host server
  pub call : (start : Tree) (before : List Entry) (host : HostId) (k : ℕ) (call : CallOf) (reply : Reply) →
      lost_in start (before ++ Called host k call reply ∷ []) ≡ lost_in start before
  pub stored : (start : Tree) (before : List Entry) (host : HostId) (fid : Fid) (spans : List Span) (len : Option ℕ) →
      lost_in start (before ++ Stored host fid spans len ∷ []) ≡ lost_in start before
  pub left : (start : Tree) (before : List Entry) (server : ServerId) (id : FilesetId) →
      lost_in start (before ++ Left server id ∷ []) ≡ lost_in start before
  pub printed : (test : Loss → Bool) (losses : List Loss)
      → list_all test losses ≡ true → list_all test (by_host losses) ≡ true
  pub all : (test : Loss → Bool) (losses : List Loss) →
      list_all is_placed losses ≡ true → list_all test (by_host losses) ≡ true → list_all test losses ≡ true
