-- What pages say is what can be written, and what they say in format 1 is said in format 2.
use Rattle.std.specs.Prelude.{◌≡◌, ◌<◌, ℕ, ◌*◌, List, true}
use Rattle.base_types.specs.Image.{byte_at}
use Rattle.disk_pages.specs.Server.{is_server_page, server_of}
use Rattle.disk_pages.specs.Numbers.{is_numbers_page, record_at}
use Rattle.disk_pages.specs.Header.{is_header, header_of}
use Rattle.disk_pages.specs.Sound.{are_facts, is_sound_record, is_sound_header}

abbrev pub FactsAreSound : Type 0
FactsAreSound = (page : List ℕ) → is_server_page page ≡ true → are_facts (server_of page) ≡ true

abbrev pub RecordsAreSound : Type 0
RecordsAreSound = (page : List ℕ) (host : ℕ) → is_numbers_page page ≡ true → host < 17
    → is_sound_record (record_at (24 * host) page) ≡ true

abbrev pub HeadersAreSound : Type 0
HeadersAreSound = (home : ℕ) (server page : List ℕ) → byte_at server 29 ≡ 2 → is_header home server page ≡ true
    → is_sound_header home (server_of server) (header_of server page) ≡ true

-- a server's page of format 1, and one that says the same of format 2
pub record IsReformed (old new : List ℕ) : Type 0 where
  pub from : byte_at old 29 ≡ 0
  pub to : server_of new ≡ record (server_of old) { format = 2 }

-- a header of format 1 is one of format 2 that says the same
abbrev pub HeadersChangeFormat : Type 0
HeadersChangeFormat = (home : ℕ) (old new page : List ℕ) → IsReformed old new → is_header home old page ≡ true
    → (is_header home new page ≡ true) × (header_of new page ≡ header_of old page)
