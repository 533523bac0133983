-- Whether all is well with the header and the call numbers of a slot.
use Rattle.std.specs.Prelude.{ℕ, ◌+◌, ◌-◌, ◌==◌, ◌&&◌, ◌||◌, not, min, nat_le, Bool, true, false, List, if◌then◌else◌}
use Rattle.base_types.specs.Image.{byte_at}
use Rattle.base_types.specs.Name.{same_name}
use Rattle.disk_layout.specs.Numbers.{number_at}
use Rattle.disk_pages.specs.Words.{each_below, are_zero, name_at}
use Rattle.disk_pages.specs.Numbers.{is_numbers_page}
use Rattle.disk_pages.specs.Header.{state_of, is_taken_slot, is_leaving, is_limit, is_header, id_of}
use Rattle.disk_pages.specs.declared.header.SlotState.{SlotState}
use Rattle.disk_pages.specs.declared.header.SlotState.TheVariants.{
  Free,
  Writable,
  Clone,
  Leaving,
  Arriving,
  Gone,
  Unknown,
}
use Rattle.disk_image.specs.Aggregate.{Aggregate, server_page, header_page, numbers_page}

abbrev pub state_at : Aggregate → ℕ → SlotState
state_at disk slot = state_of (server_page disk) (header_page disk slot)

-- whether two headers have one id or one name, or are both of filesets that leave
abbrev pub are_alike : Aggregate → ℕ → ℕ → Bool
are_alike disk a b =
    (id_of (header_page disk a) == id_of (header_page disk b))
    || same_name (name_at 12 (header_page disk a)) (name_at 12 (header_page disk b))
    || (is_leaving (state_at disk a) && is_leaving (state_at disk b))

-- whether no slot before one has a fileset that is like its own
abbrev pub is_first : Aggregate → ℕ → Bool
is_first disk slot = each_below (λ earlier. not (is_taken_slot (state_at disk earlier))
    || not (are_alike disk earlier slot)) slot

-- the pages of a free slot are zero
abbrev pub is_slot_free : Aggregate → ℕ → Bool
is_slot_free disk slot = byte_at (header_page disk slot) 0 == 0

unfoldable pub is_slot_header : Aggregate → ℕ → Bool
is_slot_header disk slot =
    if is_slot_free disk slot then are_zero 0 512 (header_page disk slot)
    else is_header disk.server (server_page disk) (header_page disk slot) && is_first disk slot

unfoldable pub is_slot_numbers : Aggregate → ℕ → Bool
is_slot_numbers disk slot =
    if is_slot_free disk slot then are_zero 0 512 (numbers_page disk slot)
    else is_numbers_page (numbers_page disk slot)

-- how many objects a fileset may have, 64 where its header tells no limit
abbrev pub limit_of : List ℕ → ℕ
limit_of header = if is_limit (number_at 4 8 header) then number_at 4 8 header else 64

-- how many of the first anodes may be used: of a fileset that arrives those of the parts behind its head
abbrev pub usable : SlotState → List ℕ → ℕ
usable Free header = 0
usable Gone header = 0
usable Arriving header = min (limit_of header) (number_at 4 88 header - 1)
usable Unknown header = 64
usable _ header = limit_of header

-- whether the first anode has to be a root
abbrev pub has_root : SlotState → List ℕ → Bool
has_root Writable header = true
has_root Clone header = true
has_root Leaving header = true
has_root Arriving header = nat_le 2 (number_at 4 88 header)
has_root _ header = false

-- whether each object has to be reached from it
abbrev pub is_whole : SlotState → Bool
is_whole Writable = true
is_whole Clone = true
is_whole Leaving = true
is_whole _ = false
