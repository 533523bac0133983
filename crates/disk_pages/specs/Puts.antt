-- What a page that is put says.
use Rattle.std.specs.Prelude.{◌≡◌, ◌≢◌, ◌≤◌, ◌<◌, ◌*◌, ℕ, List, true, Result, OnOk, OnErr, IfErr}
use Rattle.std.specs.List.{list_all}
use Rattle.base_types.specs.View.{View}
use Rattle.base_types.specs.Crash.{IsQuiet}
use Rattle.base_types.specs.Image.{byte_at}
use Rattle.tree_calls.specs.declared.ship.Record.{Record}
use Rattle.disk_log.specs.declared.log.Log.{Log}
use Rattle.disk_log.specs.declared.fault.LogFault.{LogFault}
use Rattle.disk_log.specs.Blame.{IsDiskOrMemory}
use Rattle.disk_log.specs.Log.{disk_of, state_of}
use Rattle.disk_log.specs.Contents.{contents_of, page_in, Keeps}
use Rattle.disk_anode.specs.Room.{is_page, free_blocks, PutsPages}
use Rattle.disk_pages.specs.Server.{is_server_page, server_of}
use Rattle.disk_pages.specs.Numbers.{is_numbers_page, record_at}
use Rattle.disk_pages.specs.Header.{is_header, header_of}
use Rattle.disk_pages.specs.declared.server.ServerFacts.{ServerFacts}
use Rattle.disk_pages.specs.declared.header.SlotHeader.{SlotHeader}
use Rattle.disk_pages.specs.Sound.{are_facts, record_in, is_sound_record, is_sound_header}

-- A page has P from now on, and no other page changes. What a crash leaves is as before, until the transaction has
-- ended and is forced. After an error nothing is put.
pub record PutsOne {D T : Type 0} (tells : Type 0) (view : D → View) (slot page : ℕ) (P : List ℕ → Type 0)
    (result : Result T LogFault) (old new : Log D) : Type 0 where
  pub keeps : Keeps tells view 0 old new
  pub puts : PutsPages (is_page page) slot (state_of old) (state_of new)
  pub here : tells → OnOk result (P (page_in (contents_of view new) page))
  pub others : tells
      → OnOk result ((p : ℕ) → p ≢ page → page_in (contents_of view new) p ≡ page_in (contents_of view old) p)
  pub room : tells → OnOk result
      (free_blocks (state_of old) (view (disk_of old)).image ≤ free_blocks (state_of new) (view (disk_of new)).image)
  pub undone : OnErr result (state_of new ≡ state_of old)
  pub quiet : IsQuiet (view (disk_of old)) (view (disk_of new))
  pub only : IfErr result (λ fault. IsDiskOrMemory fault (view (disk_of old)) (view (disk_of new)))

-- the facts of a server, which are sound exactly where it is a server's page
pub record SaysFacts (facts : ServerFacts) (page : List ℕ) : Type 0 where
  pub says : server_of page ≡ facts
  pub sound : is_server_page page ≡ are_facts facts

-- the header of a slot, at each server of format 2
pub record SaysHeader (header : SlotHeader) (page : List ℕ) : Type 0 where
  pub says : (server : List ℕ) → byte_at server 29 ≡ 2 → header_of server page ≡ header
  pub sound : (home : ℕ) (server : List ℕ) → byte_at server 29 ≡ 2
      → is_header home server page ≡ is_sound_header home (server_of server) header

-- what is kept of hosts
pub record SaysNumbers (kept : List Record) (page : List ℕ) : Type 0 where
  pub says : (host : ℕ) → host < 17 → record_at (24 * host) page ≡ record_in kept host
  pub sound : list_all is_sound_record kept ≡ true → is_numbers_page page ≡ true

-- a page of call numbers with what is kept of one host
pub record SaysRecord (before : List ℕ) (host : ℕ) (kept : Record) (page : List ℕ) : Type 0 where
  pub says : record_at (24 * host) page ≡ kept
  pub others : (other : ℕ) → other < 17 → other ≢ host → record_at (24 * other) page ≡ record_at (24 * other) before
  pub sound : is_numbers_page before ≡ true → is_numbers_page page ≡ is_sound_record kept
