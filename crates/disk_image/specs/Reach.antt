-- Whether each object of a slot is reached from its root once, and under its unique number.
use Rattle.std.specs.Prelude.{ℕ, zero, suc, ◌+◌, ◌==◌, ◌&&◌, ◌||◌, Bool, true, List, [], count_by, if◌then◌else◌}
use Rattle.std.specs.List.{list_any}
use Rattle.base_types.specs.Image.{byte_at}
use Rattle.disk_layout.specs.Places.{page_start}
use Rattle.disk_pages.specs.Anode.{is_object, unique_of}
use Rattle.disk_image.specs.Joined.{joined}
use Rattle.disk_image.specs.Aggregate.{Aggregate, anode_page, anode_number}
use Rattle.disk_image.specs.Slots.{state_at, is_whole}
use Rattle.disk_image.specs.Anodes.{unless, links_at}
use Rattle.disk_image.specs.declared.fault.Fault.{Fault}
use Rattle.disk_image.specs.declared.fault.Rule.TheVariants as rules
use Rattle.disk_image.specs.declared.found.Link.{Link}

-- whether at most so many entries in a row lead from the root to an anode
unfoldable pub is_within : List Link → ℕ → ℕ → Bool
is_within links zero anode = anode == 1
is_within links (suc steps) anode =
    is_within links steps anode || list_any (λ link. (link.to == anode) && is_within links steps link.from) links

-- whether some do; a way to one of 64 anodes has fewer than 64
abbrev pub is_reached : List Link → ℕ → Bool
is_reached links anode = is_within links 64 anode

-- how many entries of the directories that are reached lead to an anode, and how many of these under a unique number
abbrev pub times_reached : List Link → ℕ → ℕ
times_reached links anode = count_by (λ link. (link.to == anode) && is_reached links link.from) links

abbrev pub times_under : List Link → ℕ → ℕ → ℕ
times_under links anode unique = count_by (λ link. (link.to == anode) && (link.unique == unique)
    && is_reached links link.from) links

-- No entry leads to the root or to a free anode, and just one to each object else, under its unique number.
unfoldable pub is_reached_right : List Link → ℕ → List ℕ → Bool
is_reached_right links anode page =
    if (anode == 1) || (byte_at page 0 == 0) then times_reached links anode == 0
    else if is_object page then (times_reached links anode == 1) && (times_under links anode (unique_of page) == 1)
    else true

abbrev pub links_of : Aggregate → ℕ → List Link
links_of disk slot = joined (links_at disk slot) 64

-- the faults of reach of a slot
abbrev pub reach_fault : Aggregate → ℕ → ℕ → List Fault
reach_fault disk slot i =
    unless (is_reached_right (links_of disk slot) (i + 1) (anode_page disk slot i)) (page_start (anode_number slot i))
    rules.Reach

unfoldable pub reach_faults : Aggregate → ℕ → List Fault
reach_faults disk slot = if is_whole (state_at disk slot) then joined (reach_fault disk slot) 64 else []
