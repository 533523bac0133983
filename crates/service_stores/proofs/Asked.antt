-- What the lines of a script ask for may be asked.
use Rattle.std.proofs.Common.{◌≡◌, ◌≤◌, ℕ, zero, suc, ◌+◌, ◌==◌, nat_le, ◌&&◌, not, true, List, [], ◌∷◌, ◌++◌, length, refl, subst, arith}
use Rattle.std.proofs.lemmas.Bool.{and_parts, eqb-true, leb-true}
use Rattle.base_types.specs.declared.ids.HostId.{HostId}
use Rattle.base_types.specs.declared.ids.Node.{Node}
use Rattle.base_types.specs.declared.ids.Node.TheVariants.{Host, Server}
use Rattle.base_types.specs.declared.ids.ServerId.{ServerId}
use Rattle.base_types.specs.declared.limits.TheConstants.{GROUPS_MAX, OBJECTS_MAX}
use Rattle.tree_calls.specs.Limits.{is_between, keeps_limit}
use Rattle.tree_calls.specs.declared.call.Call.{Call as CallOf}
use Rattle.tree_calls.specs.declared.call.Call.TheVariants as calls
use Rattle.tree_calls.specs.declared.roster.Roster.{Roster}
use Rattle.message_types.specs.Soundness.{Each, HasGroups, IsCall, IsHost, IsServer, servers_in}
use Rattle.store_acts.specs.Sound.{HasName}
use Rattle.script_lines.specs.Sound.{
  IsSound,
  is_host_deed,
  is_server,
  is_setup_call,
  is_setup_line,
  is_sound_call,
  is_sound_deed,
  is_sound_line,
  makes_fileset,
  same_node,
}
use Rattle.script_lines.specs.declared.script.Deed.{Deed}
use Rattle.script_lines.specs.declared.script.Deed.TheVariants.{Call, Stop}
use Rattle.script_lines.specs.declared.script.Line.{Line}
use Rattle.script_lines.specs.declared.script.Script.{Script}
use Rattle.service_plain.specs.Calls.{Act, Asks, Falls, acts_by, acts_of, asked_by, falls_from}
use Rattle.service_plain.specs.Seats.{lines_at}
use Rattle.service_stores.specs.Laws.{AreSayable, IsSayable}
use Rattle.service_stores.proofs.PlayedLists.{each_all, each_append, each_at, each_joined, each_left, each_parts, each_right}

-- a call of a host that may be asked
abbrev pub IsMade : Roster → HostId → CallOf → Type 0
IsMade roster host call = IsHost roster host × IsCall roster call × HasName call

abbrev pub MayAct : Roster → Act → Type 0
MayAct roster (Asks host call) = IsMade roster host call
MayAct roster (Falls host server) = Unit {0}

-- declared servers
one_server : (roster : Roster) (servers : ℕ) (server : ServerId) → servers ≡ length roster.capacity →
    is_server servers server ≡ true → IsServer roster server
one_server roster servers server e h =
    let parts = and_parts (nat_le 1 server.0) (nat_le server.0 servers) h in record {
      first = leb-true 1 server.0 parts.0;
      last = subst (λ n. server.0 ≤ n) e (leb-true server.0 servers parts.1);
    }

two_servers : (roster : Roster) (servers : ℕ) (a b : ServerId) → servers ≡ length roster.capacity →
    (is_server servers a && is_server servers b) ≡ true → Each (IsServer roster) (a ∷ b ∷ [])
two_servers roster servers a b e h =
    let parts = and_parts (is_server servers a) (is_server servers b) h in
    (one_server roster servers a e parts.0, (one_server roster servers b e parts.1, tt))

sound_servers : (roster : Roster) (servers : ℕ) (call : CallOf) → servers ≡ length roster.capacity →
    is_sound_call servers call ≡ true → Each (IsServer roster) (servers_in call)
sound_servers roster servers (calls.NewFileset server name objects owner) e h =
    (one_server roster servers server e (and_parts (is_server servers server) _ (and_parts _ _ h).0).0, tt)
sound_servers roster servers (calls.Create place) e h = (one_server roster servers place.server e h, tt)
sound_servers roster servers (calls.MakeDir place) e h = (one_server roster servers place.server e h, tt)
sound_servers roster servers (calls.Remove place) e h = (one_server roster servers place.server e h, tt)
sound_servers roster servers (calls.Rename from to) e h = two_servers roster servers from.server to.server e h
sound_servers roster servers (calls.Truncate place len) e h = (one_server roster servers place.server e h, tt)
sound_servers roster servers (calls.SetAcl place which list) e h = (one_server roster servers place.server e h, tt)
sound_servers roster servers (calls.CloneFileset server fileset new) e h = (one_server roster servers server e h, tt)
sound_servers roster servers (calls.Read place from len) e h = (one_server roster servers place.server e h, tt)
sound_servers roster servers (calls.Write place from bytes) e h = (one_server roster servers place.server e h, tt)
sound_servers roster servers (calls.List place) e h = (one_server roster servers place.server e h, tt)
sound_servers roster servers (calls.Stat place) e h = (one_server roster servers place.server e h, tt)
sound_servers roster servers (calls.GetAcl place which) e h = (one_server roster servers place.server e h, tt)
sound_servers roster servers (calls.Sync place) e h = (one_server roster servers place.server e h, tt)
sound_servers roster servers (calls.Lock label place writing from len) e h =
    (one_server roster servers place.server e h, tt)
sound_servers roster servers (calls.Unlock label) e h = tt
sound_servers roster servers (calls.OpenFile label place kind) e h = (one_server roster servers place.server e h, tt)
sound_servers roster servers (calls.CloseFile label) e h = tt
sound_servers roster servers (calls.MoveFileset server fileset to) e h = two_servers roster servers server to e h

sound_limit : (servers : ℕ) (call : CallOf) → is_sound_call servers call ≡ true → keeps_limit call ≡ true
sound_limit servers (calls.NewFileset server name objects owner) h =
    (and_parts (is_server servers server) (is_between 1 OBJECTS_MAX objects) (and_parts _ _ h).0).1
sound_limit servers call h = refl

sound_groups : (servers : ℕ) (call : CallOf) → is_sound_call servers call ≡ true → HasGroups call
sound_groups servers (calls.NewFileset server name objects owner) h =
    let n = length owner.groups in
    let both : is_between 1 GROUPS_MAX n ≡ true = (and_parts _ _ h).1 in
    let parts = and_parts (nat_le 1 n) (nat_le n GROUPS_MAX) both in
    (leb-true 1 n parts.0, leb-true n GROUPS_MAX parts.1)
sound_groups servers call h = tt

sound_call : (roster : Roster) (servers : ℕ) (call : CallOf) → servers ≡ length roster.capacity →
    is_sound_call servers call ≡ true → IsSayable call → IsCall roster call
sound_call roster servers call e h say = record {
  servers = sound_servers roster servers call e h;
  paths = say.paths;
  objects = sound_limit servers call h;
  groups = sound_groups servers call h;
  bytes = say.bytes;
}

-- what a line brings about
abbrev pub SaysWell : Line → Type 0
SaysWell line = Each (λ asked. IsSayable asked.call) (asked_by line.node line.deed)

abbrev pub ActsWell : Roster → Line → Type 0
ActsWell roster line = Each (MayAct roster) (acts_by (length roster.capacity) line.node line.deed)

falls : (roster : Roster) (host : HostId) (server n : ℕ) → Each (MayAct roster) (falls_from host server n)
falls roster host server zero = tt
falls roster host server (suc n) = (tt, falls roster host (server + 1) n)

pub line_acts : (script : Script) → IsSound script → (node : Node) (deed : Deed) →
    is_sound_deed script.servers (length script.roster.hosts) node deed ≡ true →
    Each (λ asked. IsSayable asked.call) (asked_by node deed) →
    Each (MayAct script.roster) (acts_by (length script.roster.capacity) node deed)
line_acts script s (Host host) (Call call) h say =
    let hosts = length script.roster.hosts in
    let parts = and_parts (is_between 1 hosts host.0) (is_host_deed script.servers (Call call)) h in
    let declared = and_parts (nat_le 1 host.0) (nat_le host.0 hosts) parts.0 in
    let sound = and_parts (is_sound_call script.servers call) (not (makes_fileset call)) parts.1 in (
      (
        leb-true host.0 hosts declared.1,
        sound_call script.roster script.servers call s.servers sound.0 say.0,
        say.0.named,
      ),
      tt,
    )
line_acts script s (Host host) Stop h say = falls script.roster host 1 (length script.roster.capacity)
line_acts script s (Host host) deed h say = tt
line_acts script s (Server server) deed h say = tt

pub setup_acts : (script : Script) → IsSound script → (node : Node) (deed : Deed) →
    (same_node node (Host (record { 0 = 0 })) && is_setup_call script.servers deed) ≡ true →
    Each (λ asked. IsSayable asked.call) (asked_by node deed) →
    Each (MayAct script.roster) (acts_by (length script.roster.capacity) node deed)
setup_acts script s (Host host) (Call call) h say =
    let hosts = length script.roster.hosts in
    let parts = and_parts (host.0 == 0) (is_setup_call script.servers (Call call)) h in
    let first : host.0 ≡ 0 = eqb-true host.0 0 parts.0 in
    let sound = and_parts (is_sound_call script.servers call) (makes_fileset call) parts.1 in
    ((omega (arith, first), sound_call script.roster script.servers call s.servers sound.0 say.0, say.0.named), tt)
setup_acts script s (Host host) Stop h say = falls script.roster host 1 (length script.roster.capacity)
setup_acts script s (Host host) deed h say = tt
setup_acts script s (Server server) deed h say = tt

-- all lines, in any order
pub lines_say : (script : Script) → AreSayable script → Each SaysWell (script.setup ++ script.lines)
lines_say script say =
    each_parts (λ asked. IsSayable asked.call) (λ (line : Line). asked_by line.node line.deed)
    (script.setup ++ script.lines) say

pub acts_are_made : (script : Script) (places : List ℕ) → IsSound script → AreSayable script →
    Each (MayAct script.roster) (acts_of (length script.roster.capacity) (script.setup ++ lines_at script.lines places))
acts_are_made script places s say =
    let roster = script.roster in
    let all = lines_say script say in
    let setup : Each (ActsWell roster) script.setup =
    each_all SaysWell (ActsWell roster) (is_setup_line script.servers) script.setup
    (λ line h k. setup_acts script s line.node line.deed h k) s.setup (each_left SaysWell script.setup script.lines all)
    in
    let lines : Each (ActsWell roster) script.lines =
    each_all SaysWell (ActsWell roster) (is_sound_line script.servers (length roster.hosts)) script.lines
    (λ line h k. line_acts script s line.node line.deed h k) s.lines (each_right SaysWell script.setup script.lines all)
    in
    each_joined (MayAct roster) (λ (line : Line). acts_by (length roster.capacity) line.node line.deed)
    (script.setup ++ lines_at script.lines places)
    (each_append (ActsWell roster) script.setup (lines_at script.lines places) setup
    (each_at (ActsWell roster) script.lines places lines))
