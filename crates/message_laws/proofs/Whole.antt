-- Sound messages of a program fit, and are read back.
use Rattle.std.proofs.Common.{◌≡◌, ◌≤◌, ℕ, true, ◌&&◌, length, refl, arith, inl, inr}
use Rattle.std.specs.Prelude.{IsTrue, nat_le, nat_lt}
use Rattle.std.specs.List.{list_all}
use Rattle.std.proofs.lemmas.Bool.{and_parts, leb-true}
use Rattle.base_types.specs.declared.ids.HostId.{HostId}
use Rattle.base_types.specs.declared.ids.ServerId.{ServerId}
use Rattle.base_types.specs.declared.limits.TheConstants.{
  SERVERS_MAX,
  HOSTS_MAX,
  GROUPS_MAX,
  CAPACITY_MIN,
  CAPACITY_MAX,
  CACHED_TOKENS_MIN,
  CACHED_TOKENS_MAX,
}
use Rattle.tree_calls.specs.Limits.{is_between, keeps_limits}
use Rattle.tree_calls.specs.declared.roster.Roster.{Roster}
use Rattle.message_types.specs.Soundness.{IsServer, IsHost, Goes}
use Rattle.message_types.specs.declared.message.Direction.{Direction}
use Rattle.message_types.specs.declared.message.Direction.TheVariants.{ToServer, ToHost, BetweenServers}
use Rattle.message_types.specs.declared.message.Body.{Body}
use Rattle.message_types.specs.declared.message.Body.TheVariants.{
  Hello,
  Fetch,
  Grant,
  Change,
  Done,
  Revoke,
  Returned,
  Kept,
  GiveBack,
  Gone,
  Reclaim,
  Reclaimed,
  Restarted,
  Down,
  Bye,
  NotHere,
  Ship,
  Shipped,
}
use Rattle.message_parts.specs.Spelled.{number}
use Rattle.message_parts.specs.Words.{coded, host_code}
use Rattle.message_spelling.specs.Bodies.{body_tag}
use Rattle.message_spelling.specs.Messages.{
  ReadsBack,
  direction_code,
  least_direction,
  most_direction,
  most_host,
  most_epoch,
  spell_message,
}
use Rattle.message_laws.specs.Typed.{IsU64}
use Rattle.message_laws.specs.Laws.{SoundIsSpellable, SoundIsReadBack}
use Rattle.message_laws.proofs.Fits.{both, number_in}
use Rattle.message_laws.proofs.Parts.{InRange, server_in}
use Rattle.message_laws.proofs.Bodies.{body_in}

body_tag_in : (body : Body) → (number 1 1 18 (body_tag body)).fits ≡ true
unfolding number
body_tag_in Hello = refl
body_tag_in _ = refl

abbrev direction_fits : Body → Direction → Type 0
direction_fits body way =
    (coded (least_direction (body_tag body)) (most_direction (body_tag body)) direction_code way).fits ≡ true

one_way : (body : Body) (way to : Direction) → way ≡ to → direction_fits body to → direction_fits body way
one_way body way to e h = rw e h

direction_in : (body : Body) (way : Direction) → Goes body way → direction_fits body way
unfolding coded number
direction_in Hello way e = one_way Hello way ToServer e refl
direction_in (Fetch x) way e = one_way (Fetch x) way ToServer e refl
direction_in (Grant x) way e = one_way (Grant x) way ToHost e refl
direction_in (Change x) way e = one_way (Change x) way ToServer e refl
direction_in (Done x) way e = one_way (Done x) way ToHost e refl
direction_in (Revoke x) way e = one_way (Revoke x) way ToHost e refl
direction_in (Returned x) way e = one_way (Returned x) way ToServer e refl
direction_in (Kept x) way e = one_way (Kept x) way ToServer e refl
direction_in (GiveBack x) way e = one_way (GiveBack x) way ToServer e refl
direction_in (Gone x) way e = one_way (Gone x) way ToHost e refl
direction_in (Reclaim x) way e = one_way (Reclaim x) way ToServer e refl
direction_in (Reclaimed x) way e = one_way (Reclaimed x) way ToHost e refl
direction_in Restarted way e = one_way Restarted way ToHost e refl
direction_in Down way e = one_way Down way ToServer e refl
direction_in Bye way e = elim e [ inl p ↦ one_way Bye way ToServer p refl | inr p ↦ one_way Bye way ToHost p refl ]
direction_in (NotHere x) way e = one_way (NotHere x) way ToHost e refl
direction_in (Ship x) way e = one_way (Ship x) way BetweenServers e refl
direction_in (Shipped x) way e = one_way (Shipped x) way BetweenServers e refl

host_fits : (way : Direction) (host : HostId) → host.0 ≤ 16 → (way ≡ BetweenServers → host.0 ≡ 0)
    → (coded 0 (most_host way) host_code host).fits ≡ true
unfolding coded
host_fits ToServer host low apart = number_in 1 0 17 host.0 (omega arith) (omega (arith, low))
host_fits ToHost host low apart = number_in 1 0 17 host.0 (omega arith) (omega (arith, low))
host_fits BetweenServers host low apart = let e = apart refl in number_in 1 0 0 host.0 (omega arith) (omega (arith, e))

epoch_fits : (way : Direction) (epoch : ℕ) → IsU64 epoch → (way ≡ BetweenServers → epoch ≡ 0)
    → (number 8 0 (most_epoch way) epoch).fits ≡ true
epoch_fits ToServer epoch h apart = number_in 8 0 18446744073709551615 epoch (omega arith) (omega (arith, h))
epoch_fits ToHost epoch h apart = number_in 8 0 18446744073709551615 epoch (omega arith) (omega (arith, h))
epoch_fits BetweenServers epoch h apart = let e = apart refl in number_in 8 0 0 epoch (omega arith) (omega (arith, e))

-- no more servers and hosts than the service has
record Few (roster : Roster) : Type 0 where
  servers : length roster.capacity ≤ 4
  hosts : length roster.hosts ≤ 16

few : (roster : Roster) → IsTrue (keeps_limits roster) → Few roster
few roster k =
    let servers = is_between 1 SERVERS_MAX (length roster.capacity) in
    let hosts = nat_le (length roster.hosts) HOSTS_MAX in
    let sizes = list_all (is_between CAPACITY_MIN CAPACITY_MAX) roster.capacity in
    let groups = list_all (λ user. is_between 1 GROUPS_MAX (length user.groups)) roster.users in
    let lines = list_all (λ line. nat_lt line.user (length roster.users)
    && is_between CACHED_TOKENS_MIN CACHED_TOKENS_MAX line.limit) roster.hosts in
    let p = and_parts (servers && hosts && sizes && groups) lines k in
    let q = and_parts (servers && hosts && sizes) groups p.0 in
    let r = and_parts (servers && hosts) sizes q.0 in
    let t = and_parts servers hosts r.0 in
    let u = and_parts (nat_le 1 (length roster.capacity)) (nat_le (length roster.capacity) SERVERS_MAX) t.0 in
    record { servers = leb-true (length roster.capacity) 4 u.1; hosts = leb-true (length roster.hosts) 16 t.1 }

pub spellable : SoundIsSpellable
unfolding spell_message
spellable roster m k s h =
    let f = few roster k in
    let near : (server : ServerId) → IsServer roster server → InRange server =
    λ server d. (d.first, let l = d.last in let n = f.servers in omega (arith, l, n)) in
    let low : (host : HostId) → IsHost roster host → host.0 ≤ 16 =
    λ host d. let n = f.hosts in omega (arith, d, n) in
    both (body_tag_in m.body) (both (direction_in m.body m.direction s.way)
    (both (host_fits m.direction m.host (low m.host s.host) (λ e. (s.apart e).0))
    (both (server_in m.server (near m.server s.server))
    (both (epoch_fits m.direction m.epoch h.0 (λ e. (s.apart e).1))
    (body_in roster near low m s.server s.host m.moves m.body h.1 s.moves s.body h.2)))))

-- what holds of each spellable message holds of a sound one of a program
pub read_back : ReadsBack → SoundIsReadBack
read_back reads roster m more result k s h d = reads m more result (spellable roster m k s h) d
