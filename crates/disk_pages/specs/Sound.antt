-- Values that pages of an aggregate can say, in format 2.
use Rattle.std.specs.Prelude.{ℕ, ◌==◌, ◌&&◌, nat_le, nat_lt, Bool, List}
use Rattle.std.specs.List.{list_all}
use Rattle.std.proofs.Common.{get_or}
use Rattle.tree_calls.specs.declared.ship.Record.{Record}
use Rattle.disk_pages.specs.Server.{is_code}
use Rattle.disk_pages.specs.Header.{is_taken_slot, is_id, is_limit, is_other}
use Rattle.disk_pages.specs.declared.server.ServerFacts.{ServerFacts}
use Rattle.disk_pages.specs.declared.header.SlotHeader.{SlotHeader}
use Rattle.disk_pages.specs.declared.header.SlotState.{SlotState}
use Rattle.disk_pages.specs.declared.header.SlotState.TheVariants.{Leaving, Arriving, Gone}

-- the facts of a server: the next fileset number is 1 to 65,536, states of hosts are at most 3, and codes of replies
-- are told
abbrev pub are_facts : ServerFacts → Bool
are_facts facts =
    nat_le 1 facts.next && nat_le facts.next 65536 && list_all (λ state. nat_le state 3) facts.hosts
    && list_all (λ taken. is_code taken.code) facts.taken

-- what is kept of a host: the code of a reply, and a set of rights
abbrev pub is_sound_record : Record → Bool
is_sound_record kept = is_code kept.code && nat_lt kept.right 64

-- of a host of which nothing is kept
abbrev pub no_record : Record
no_record = record { change = 0; give = 0; code = 0; right = 0 }

abbrev pub record_in : List Record → ℕ → Record
record_in kept host = get_or kept host no_record

-- what a header says of moves, by its state: the other server; the ship number, which this server gave where the
-- fileset leaves; and how many parts were taken
abbrev pub are_sound_moves : ℕ → ℕ → SlotHeader → SlotState → Bool
are_sound_moves home given header Leaving =
    is_other home header.other && nat_le header.ship given && (header.parts == 0)
are_sound_moves home given header Arriving =
    is_other home header.other && nat_le 1 header.parts && nat_le header.parts header.objects
are_sound_moves home given header Gone = is_other home header.other && (header.ship == 0) && (header.parts == 0)
are_sound_moves home given header _ = (header.other == 0) && (header.ship == 0) && (header.parts == 0)

-- the header of a fileset's slot at a server with these facts
abbrev pub is_sound_header : ℕ → ServerFacts → SlotHeader → Bool
is_sound_header home facts header =
    is_taken_slot header.state && is_id home facts.next header.id.0 && is_limit header.objects
    && are_sound_moves home facts.ship header header.state
