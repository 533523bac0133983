-- Pages that recovery writes in place.
use Rattle.std.specs.Prelude.{◌≡◌, ◌<◌, ℕ, List, length, replicate, Option, None, IsSome, MatchOption, [], true, false}
use Rattle.disk_layout.specs.Places.{in_place}
use Rattle.std.specs.Ordering.{nat_cmp}
use Rattle.std.specs.BTreeSet.{BTreeSet, contains}
use Rattle.std.proofs.Common.{get_or}
use Rattle.disk_layout.specs.declared.entry.Entry.{Entry}
use Rattle.disk_layout.specs.Pages.{is_ended, is_named, recovered}
use Rattle.disk_log.specs.Pages.{AreKept}

abbrev pub blank_page : List ℕ
blank_page = replicate 512 0

-- a set has the transactions that end in these entries
abbrev pub AreEnds : BTreeSet ℕ → List Entry → Type 0
AreEnds ended entries = (transaction : ℕ) → contains nat_cmp ended transaction ≡ is_ended transaction entries

-- So many pages are those of a table, and those in place where it has none.
abbrev pub AreOver : List (Option (List ℕ)) → List ℕ → ℕ → List (List ℕ) → Type 0
AreOver table image n pages =
    (p : ℕ) → p < n
    → MatchOption (get_or table p None) (get_or pages p [] ≡ in_place image p)
    (λ (made : List ℕ). get_or pages p [] ≡ made)

-- A table has what recovery makes of the pages that these entries name, by page, and no other page.
pub record AreRecovered (entries : List Entry) (table : List (Option (List ℕ))) : Type 0 where
  pub kept : AreKept table (recovered entries (λ (q : ℕ). blank_page))
  pub named : (p : ℕ) → p < length table → is_named p entries ≡ true → IsSome (get_or table p None)
  pub others : (p : ℕ) → is_named p entries ≡ false → get_or table p None ≡ None
