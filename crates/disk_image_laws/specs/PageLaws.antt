-- What makes the definitions of pages believable: each of their bytes is judged, or is part of what the page says.
use Rattle.std.specs.Prelude.{◌≡◌, ◌<◌, ℕ, ◌*◌, List, true}
use Rattle.base_types.specs.Image.{AreBytes, byte_at}
use Rattle.disk_layout.specs.Numbers.{number_at}
use Rattle.disk_pages.specs.Words.{name_at}
use Rattle.disk_pages.specs.Server.{is_server_page, server_of}
use Rattle.disk_pages.specs.Numbers.{is_numbers_page, record_at}
use Rattle.disk_pages.specs.Header.{is_header, header_of}
use Rattle.disk_pages.specs.Anode.{is_object_page, is_free_page, page_pointer, unique_of}

-- the same bytes of a page
abbrev pub SamePage : List ℕ → List ℕ → Type 0
SamePage a b = (k : ℕ) → k < 512 → byte_at a k ≡ byte_at b k

-- two pages of a server that say the same are the same
abbrev pub ServerPagesAreOne : Type 0
ServerPagesAreOne = (a b : List ℕ) → AreBytes a → AreBytes b → is_server_page a ≡ true → is_server_page b ≡ true
    → server_of a ≡ server_of b → SamePage a b

-- so are two pages of call numbers
abbrev pub NumbersPagesAreOne : Type 0
NumbersPagesAreOne = (a b : List ℕ) → AreBytes a → AreBytes b → is_numbers_page a ≡ true → is_numbers_page b ≡ true
    → ((host : ℕ) → host < 17 → record_at (24 * host) a ≡ record_at (24 * host) b) → SamePage a b

-- so are two headers, by one page of a server
abbrev pub HeadersAreOne : Type 0
HeadersAreOne = (home : ℕ) (server a b : List ℕ) → AreBytes a → AreBytes b → is_header home server a ≡ true
    → is_header home server b ≡ true
    → header_of server a ≡ header_of server b → SamePage a b

-- what the page of an anode says
pub record SaysTheSame (a b : List ℕ) : Type 0 where
  pub kind : byte_at a 0 ≡ byte_at b 0
  pub unique : unique_of a ≡ unique_of b
  pub length : number_at 4 8 a ≡ number_at 4 8 b
  pub pointers : (w : ℕ) → w < 16 → page_pointer w a ≡ page_pointer w b
  pub owner : (byte_at a 76 ≡ byte_at b 76) × (name_at 76 a ≡ name_at 76 b)
  pub group : (byte_at a 137 ≡ byte_at b 137) × (name_at 137 a ≡ name_at 137 b)

-- so are two pages of files or directories
abbrev pub ObjectPagesAreOne : Type 0
ObjectPagesAreOne = (blocks : ℕ) (a b : List ℕ) → AreBytes a → AreBytes b → is_object_page blocks a ≡ true
    → is_object_page blocks b ≡ true → SaysTheSame a b → SamePage a b

-- and two of free anodes with one unique number
abbrev pub FreePagesAreOne : Type 0
FreePagesAreOne = (a b : List ℕ) → AreBytes a → AreBytes b → is_free_page a ≡ true → is_free_page b ≡ true
    → unique_of a ≡ unique_of b → SamePage a b
