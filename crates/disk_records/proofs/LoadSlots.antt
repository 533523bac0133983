-- What is held in a slot is read as it is.
use Rattle.std.proofs.Common.{◌≡◌, ◌≤◌, ℕ, ◌*◌, List, length, take, refl, sym, ◌∙◌, ap, arith}
use Rattle.std.specs.Prelude.{Bool, ◌==◌, Option, Some, None, IfSome, slice_get}
use Rattle.std.specs.Option.{option_and_then}
use Rattle.std.proofs.lemmas.Bool.{cond-true, eq-eqb, false≢true}
use Rattle.base_types.specs.Image.{byte_at}
use Rattle.base_types.specs.declared.ids.ServerId.{ServerId}
use Rattle.tree_calls.specs.declared.ship.Record.{Record}
use Rattle.tree_objects.specs.declared.content.Anode.{Anode}
use Rattle.tree_filesets.specs.declared.fileset.Fileset.{Fileset}
use Rattle.store_acts.specs.Sound.{IsHolding}
use Rattle.store_state.specs.State.{held_at}
use Rattle.store_state.specs.declared.state.Holding.{Holding}
use Rattle.store_state.specs.declared.state.Stay.{Stay}
use Rattle.store_state.specs.declared.state.Stay.TheVariants as stays
use Rattle.store_state.specs.declared.state.StoreState.{StoreState}
use Rattle.disk_layout.specs.Numbers.{number_at}
use Rattle.disk_pages.specs.Header.{header_of, is_taken_slot, state_of}
use Rattle.disk_pages.specs.Numbers.{record_at}
use Rattle.disk_pages.specs.declared.header.SlotHeader.{SlotHeader}
use Rattle.disk_pages.specs.declared.header.SlotState.TheVariants.{Free}
use Rattle.disk_pages.specs.Sound.{no_record}
use Rattle.disk_pages.proofs.Zeros.{zero_in}
use Rattle.disk_pages.specs.Puts.{SaysNumbers}
use Rattle.disk_image.specs.Image.{is_clone, records_of}
use Rattle.disk_image_laws.proofs.Parts.{listed_is}
use Rattle.disk_records.specs.Record.{stay_of}
use Rattle.disk_records.specs.Said.{stay_said, header_said}
use Rattle.disk_records.specs.Stored.{SaysHolding, SaysSlot}
use Rattle.disk_records.proofs.Read.{each_slot, taken_back}
use Rattle.disk_records.proofs.Stated.{stays_are_said}
use Rattle.store_records.specs.Stored.{StaysRight, IsStorable}
use Rattle.disk_records.specs.Loading.{count_held, held_most, holding_in}

-- how a fileset stays says how many anodes are held
count_back : (state : StoreState) (fileset : Fileset) (stay : Stay) (header : List ℕ) → fileset.objects ≤ 64 → StaysRight state fileset stay → number_at 4 8 header ≡ fileset.objects
    → ((from : ServerId) (ship parts : ℕ) → stay ≡ stays.Arriving from ship parts → number_at 4 88 header ≡ parts) → held_most (stay_said stay).state header ≡ length fileset.anodes
count_back state fileset stays.Writable header most right objects parts = let e = right.0.count in omega (arith, e, objects, most)
count_back state fileset stays.Clone header most right objects parts = let e = right.0.count in omega (arith, e, objects, most)
count_back state fileset (stays.Leaving to ship) header most right objects parts = let e = right.0.count in omega (arith, e, objects, most)
count_back state fileset (stays.Arriving from ship taken) header most right objects parts =
    let e = right.0.count in
    let f = right.0.most in
    let g = parts from ship taken refl in
    omega (arith, e, f, g, most)
count_back state fileset (stays.Gone to) header most right objects parts = sym (ap (λ (l : List Anode). length l) right.0)

clone_back : (state : StoreState) (fileset : Fileset) (stay : Stay) → StaysRight state fileset stay → is_clone (stay_said stay).state ≡ fileset.read_only
clone_back state fileset stays.Writable right = sym right.1
clone_back state fileset stays.Clone right = sym right.1
clone_back state fileset (stays.Leaving to ship) right = sym right.1
clone_back state fileset (stays.Arriving from ship parts) right = sym right.1
clone_back state fileset (stays.Gone to) right = sym right.1

-- what is kept of hosts
pub records_back : (page : List ℕ) (records : List Record) → length records ≡ 17 → SaysNumbers records page → records_of page ≡ records
records_back page records size says = listed_is (λ host. record_at (24 * host) page) records 17 no_record size (λ host lt. says.says host lt)

module _ (state : StoreState) (storable : IsStorable state) (s : ℕ) (home : ServerId) (own : home ≡ state.server) (server header numbers : List ℕ) (anodes : List Anode) (format : byte_at server 29 ≡ 2) where
  module _ (holding : Holding) (held : held_at state.slots s ≡ Some holding) (slot : SaysHolding holding anodes header numbers) where
    said : header_of server header ≡ header_said holding
    said = slot.header_says.says server format

    in_limits : IsHolding state.roster holding
    in_limits = each_slot (λ one. IfSome one (IsHolding state.roster)) state.slots s (Some holding) storable.limits.slots (there (slice_get state.slots s) refl held)
      where
        there : (found : Option (Option Holding)) → slice_get state.slots s ≡ found → option_and_then (λ one. one) found ≡ Some holding → slice_get state.slots s ≡ Some (Some holding)
        there None is e = absurd (cc)
        there (Some one) is e = is ∙ ap Some e

    stay_right : StaysRight state holding.fileset holding.stay
    stay_right = (storable.each s holding held).stay

    state_is : state_of server header ≡ (stay_said holding.stay).state
    unfolding header_of
    state_is = λ i. (said i).state

    objects_is : number_at 4 8 header ≡ holding.fileset.objects
    unfolding header_of
    objects_is = λ i. (said i).objects

    parts_is : number_at 4 88 header ≡ (stay_said holding.stay).parts
    unfolding header_of
    parts_is = λ i. (said i).parts

    pub count_is : count_held server header ≡ length holding.fileset.anodes
    count_is =
        (λ i. held_most (state_is i) header)
        ∙ count_back state holding.fileset holding.stay header in_limits.most stay_right objects_is (λ from ship parts is. parts_is ∙ (λ i. (stay_said (is i)).parts))

    read_is : (found : List Anode) → found ≡ take (count_held server header) anodes → holding_in home server header numbers found ≡ holding
    unfolding header_of
    read_is found is =
        let stay : stay_of (header_of server header) ≡ holding.stay = ap stay_of said ∙ stays_are_said holding in
        let clone : is_clone (state_of server header) ≡ holding.fileset.read_only = (λ i. is_clone (state_is i)) ∙ clone_back state holding.fileset holding.stay stay_right in
        let at : home ≡ holding.fileset.server = own ∙ sym (storable.each s holding held).server in
        let kept : found ≡ holding.fileset.anodes = is ∙ (λ i. take (count_is i) anodes) ∙ slot.anodes_are.front in
        let records = records_back numbers holding.records in_limits.records.count slot.numbers_say in
        λ i. record {
          stay = stay i;
          fileset = record {
            server = at i;
            id = (said i).id;
            name = (said i).name;
            read_only = clone i;
            objects = (said i).objects;
            moves = (said i).moves;
            anodes = kept i;
          };
          records = records i;
        }

    taken_is : byte_at header 0 ≡ 0 → ⊥
    unfolding header_of
    taken_is none_there =
        let free : state_of server header ≡ Free = cond-true (byte_at header 0 == 0) Free _ (eq-eqb (byte_at header 0) 0 none_there) in
        false≢true (sym (λ i. is_taken_slot (free i)) ∙ (λ i. is_taken_slot (state_is i)) ∙ taken_back holding.stay)

  -- a slot whose header begins with zero holds nothing
  pub nothing_read : SaysSlot (held_at state.slots s) anodes header numbers → byte_at header 0 ≡ 0 → None ≡ held_at state.slots s
  nothing_read says none_there = by (held_at state.slots s) refl says
    where
      by : (found : Option Holding) → held_at state.slots s ≡ found → SaysSlot found anodes header numbers → None ≡ held_at state.slots s
      by None is nothing = sym is
      by (Some holding) is slot = absurd (taken_is holding is slot none_there)

  -- and each other one what is read
  pub something_read : SaysSlot (held_at state.slots s) anodes header numbers → (byte_at header 0 ≡ 0 → ⊥) → (found : List Anode) → found ≡ take (count_held server header) anodes
      → Some (holding_in home server header numbers found) ≡ held_at state.slots s
  something_read says some found is = by (held_at state.slots s) refl says
    where
      by : (there : Option Holding) → held_at state.slots s ≡ there → SaysSlot there anodes header numbers → Some (holding_in home server header numbers found) ≡ held_at state.slots s
      by None at nothing = absurd (some (zero_in 0 512 header nothing.header_zero 0 (omega arith) (omega arith)))
      by (Some holding) at slot = ap Some (read_is holding at slot found is) ∙ sym at

-- what is made of a header that was read
pub holding_made : (home : ServerId) (server header numbers : List ℕ) (anodes : List Anode) (read : SlotHeader) → read ≡ header_of server header → (stay : Stay) → stay ≡ stay_of read
    → (clone : Bool) → clone ≡ is_clone read.state → (records : List Record) → records ≡ records_of numbers
    → record {
      stay = stay;
      fileset = record { server = home; id = read.id; name = read.name; read_only = clone; objects = read.objects; moves = read.moves; anodes = anodes };
      records = records;
    } ≡ holding_in home server header numbers anodes
unfolding header_of
holding_made home server header numbers anodes read is stay stay_is clone clone_is records records_are = λ i. record {
  stay = (stay_is ∙ ap stay_of is) i;
  fileset = record {
    server = home;
    id = (is i).id;
    name = (is i).name;
    read_only = (clone_is ∙ (λ j. is_clone (is j).state)) i;
    objects = (is i).objects;
    moves = (is i).moves;
    anodes = anodes;
  };
  records = records_are i;
}
