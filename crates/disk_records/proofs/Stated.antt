-- Nothing is lost that a disk says of a store.
use Rattle.std.proofs.Common.{◌≡◌, ◌≤◌, ℕ, zero, suc, List, [], ◌∷◌, map, refl, sym, arith}
use Rattle.std.specs.Prelude.{true, ◌&&◌, ◌==◌, nat_le}
use Rattle.std.specs.List.{list_all}
use Rattle.std.proofs.lemmas.Bool.{and_parts, eqb-true, leb-true, false≢true}
use Rattle.disk_pages.specs.Sound.{are_sound_moves}
use Rattle.disk_pages.proofs.HeaderPages.{headers_sound}
use Rattle.disk_pages.proofs.ServerPages.{facts_sound}
use Rattle.disk_pages.specs.Header.{is_taken_slot, is_id, is_limit, is_other, header_of}
use Rattle.disk_pages.specs.Server.{is_code, server_of}
use Rattle.disk_pages.specs.declared.header.SlotHeader.{SlotHeader}
use Rattle.disk_pages.specs.declared.header.SlotState.{SlotState}
use Rattle.disk_pages.specs.declared.header.SlotState.TheVariants.{Free, Writable, Clone, Leaving, Arriving, Gone, Unknown}
use Rattle.disk_pages.specs.declared.server.ServerFacts.{ServerFacts}
use Rattle.disk_pages.specs.declared.server.TakenShip.{TakenShip as TakenFrom}
use Rattle.disk_image.specs.Aggregate.{server_page, header_page}
use Rattle.store_state.specs.declared.state.Stay.{Stay}
use Rattle.store_state.specs.declared.state.Stay.TheVariants as stays
use Rattle.disk_records.specs.Record.{stay_for, stay_of, host_known}
use Rattle.disk_records.specs.Said.{stay_said, header_said, host_said}
use Rattle.disk_records.specs.Laws.{StaysAreSaid, HeadersAreSaid, FactsAreSaid}

pub stays_are_said : StaysAreSaid
stays_are_said holding = by holding.stay
  where
    by : (stay : Stay) → stay_of (header_said (record holding { stay = stay })) ≡ stay
    by stays.Writable = refl
    by stays.Clone = refl
    by (stays.Leaving to ship) = refl
    by (stays.Arriving from ship parts) = refl
    by (stays.Gone to) = refl

-- what a sound header says of a stay
said_back : (home given : ℕ) (header : SlotHeader) (state : SlotState) → is_taken_slot state ≡ true → are_sound_moves home given header state ≡ true
    → stay_said (stay_for state header) ≡ record { state = state; other = header.other; ship = header.ship; parts = header.parts }
said_back home given header Free taken sound = absurd (false≢true taken)
said_back home given header Unknown taken sound = absurd (false≢true taken)
said_back home given header Writable taken sound =
    let a = and_parts ((header.other == 0) && (header.ship == 0)) (header.parts == 0) sound in
    let b = and_parts (header.other == 0) (header.ship == 0) a.0 in
    λ i. record { state = Writable; other = sym (eqb-true header.other 0 b.0) i; ship = sym (eqb-true header.ship 0 b.1) i; parts = sym (eqb-true header.parts 0 a.1) i }
said_back home given header Clone taken sound =
    let a = and_parts ((header.other == 0) && (header.ship == 0)) (header.parts == 0) sound in
    let b = and_parts (header.other == 0) (header.ship == 0) a.0 in
    λ i. record { state = Clone; other = sym (eqb-true header.other 0 b.0) i; ship = sym (eqb-true header.ship 0 b.1) i; parts = sym (eqb-true header.parts 0 a.1) i }
said_back home given header Leaving taken sound =
    let a = and_parts (is_other home header.other && nat_le header.ship given) (header.parts == 0) sound in
    λ i. record { state = Leaving; other = header.other; ship = header.ship; parts = sym (eqb-true header.parts 0 a.1) i }
said_back home given header Arriving taken sound = refl
said_back home given header Gone taken sound =
    let a = and_parts (is_other home header.other && (header.ship == 0)) (header.parts == 0) sound in
    let b = and_parts (is_other home header.other) (header.ship == 0) a.0 in
    λ i. record { state = Gone; other = header.other; ship = sym (eqb-true header.ship 0 b.1) i; parts = sym (eqb-true header.parts 0 a.1) i }

pub headers_are_said : HeadersAreSaid
unfolding header_of
headers_are_said disk slot format is =
    let server : List ℕ = server_page disk in
    let page : List ℕ = header_page disk slot in
    let header : SlotHeader = header_of server page in
    let sound = headers_sound disk.server server page format is in
    let a = and_parts (is_taken_slot header.state && is_id disk.server (server_of server).next header.id.0 && is_limit header.objects) (are_sound_moves disk.server (server_of server).ship header header.state) sound in
    let taken = (and_parts (is_taken_slot header.state) _ (and_parts (is_taken_slot header.state && is_id disk.server (server_of server).next header.id.0) (is_limit header.objects) a.0).0).0 in
    let e = said_back disk.server (server_of server).ship header header.state taken a.1 in
    λ i. record {
      state = (e i).state;
      id = header.id;
      objects = header.objects;
      name = header.name;
      other = (e i).other;
      moves = header.moves;
      ship = (e i).ship;
      parts = (e i).parts;
    }

-- what is known of hosts, by numbers up to 3
host_back : (n : ℕ) → n ≤ 3 → host_said (host_known n) ≡ n
host_back zero le = refl
host_back (suc zero) le = refl
host_back (suc (suc zero)) le = refl
host_back (suc (suc (suc zero))) le = refl
host_back (suc (suc (suc (suc n)))) le = absurd (omega (arith, le))

hosts_back : (numbers : List ℕ) → list_all (λ number. nat_le number 3) numbers ≡ true → map host_said (map host_known numbers) ≡ numbers
hosts_back [] all = refl
hosts_back (n ∷ numbers) all =
    let parts = and_parts (nat_le n 3) (list_all (λ number. nat_le number 3) numbers) all in
    let first = host_back n (leb-true n 3 parts.0) in
    let rest = hosts_back numbers parts.1 in
    λ i. first i ∷ rest i

pub facts_are_said : FactsAreSaid
unfolding server_of
facts_are_said disk roster is =
    let page : List ℕ = server_page disk in
    let facts : ServerFacts = server_of page in
    let sound = facts_sound page is in
    let a = and_parts (nat_le 1 facts.next && nat_le facts.next 65536 && list_all (λ state. nat_le state 3) facts.hosts) (list_all (λ (taken : TakenFrom). is_code taken.code) facts.taken) sound in
    let hosts = (and_parts (nat_le 1 facts.next && nat_le facts.next 65536) (list_all (λ state. nat_le state 3) facts.hosts) a.0).1 in
    let e = hosts_back facts.hosts hosts in
    λ i. record {
      epoch = facts.epoch;
      next = facts.next;
      hosts = e i;
      format = 2;
      ship = facts.ship;
      taken = facts.taken;
    }
