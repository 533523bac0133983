-- How unsaved changes are stored, or lost.
use Rattle.std.specs.Prelude.{
  ◌≡◌,
  ℕ,
  zero,
  suc,
  ◌+◌,
  ◌==◌,
  Bool,
  true,
  false,
  ◌&&◌,
  ◌||◌,
  is_some,
  List,
  [],
  ◌∷◌,
  length,
  Option,
  Some,
  None,
}
use Rattle.std.specs.List.{list_all}
use Rattle.std.specs.Option.{option_map}
use Rattle.base_types.specs.Ids.{same_fid}
use Rattle.base_types.specs.Outcomes.{either}
use Rattle.base_types.specs.declared.ids.Fid.{Fid}
use Rattle.base_types.specs.declared.ids.HostId.{HostId}
use Rattle.base_types.specs.declared.span.Span.{Span}
use Rattle.tree_calls.specs.declared.entry.Entry.{Entry}
use Rattle.tree_calls.specs.declared.entry.Entry.TheVariants.{Stored, Down}
use Rattle.tree_calls.specs.declared.place.Place.{Place}
use Rattle.tree_filesets.specs.Walk.{unique_at}
use Rattle.tree_filesets.specs.WellFormed.{leads}
use Rattle.tree_answers.specs.declared.tree.Tree.{Tree}
use Rattle.tree_answers.specs.Finding.{fileset_named}
use Rattle.tree_answers.specs.Histories.{IsHistory, after_history}
use Rattle.tree_answers.specs.WellFormed.{IsWellFormed}
use Rattle.tree_saving.specs.Unsaved.{all_contents, has_saved, is_by_one}
use Rattle.tree_saving.specs.Stores.{own_stores}

-- whether there are any spans
abbrev pub has_spans : List Span → Bool
has_spans [] = false
has_spans (span ∷ spans) = true

-- whether an entry stores something of a host that passes a test
abbrev pub is_store_of : (HostId → Bool) → Entry → Bool
is_store_of test (Stored host fid spans len) = test host && (has_spans spans || is_some len)
is_store_of test _ = false

-- whether by an entry a host stores
abbrev pub is_store_by : HostId → Entry → Bool
is_store_by host (Stored by fid spans len) = by.0 == host.0
is_store_by host _ = false

-- the fid of the object to which the path of a place leads, whoever asks
abbrev pub fid_named : Tree → Place → Option Fid
fid_named tree place =
    either (fileset_named tree place.server place.fileset)
    (λ fileset.
    option_map (λ at. record { fileset = fileset.id; anode = at; unique = unique_at fileset.anodes at })
    (leads fileset.anodes 1 place.path))
    (λ refusal. None)

-- whether an entry stores what belongs to the object with a fid
abbrev pub is_store_at : Option Fid → Entry → Bool
is_store_at (Some named) (Stored host fid spans len) = same_fid fid named
is_store_at _ _ = false

-- a host is down at so many servers from one on, in their order
abbrev pub downs_from : HostId → ℕ → ℕ → List Entry
downs_from host server zero = []
downs_from host server (suc n) = Down host (record { 0 = server }) ∷ downs_from host (server + 1) n

-- Entries that may come next lead from a tree to another well formed one, with the same roster, in which what each file
-- has unsaved is one host's. A host that had saved all still has.
pub record LeadsTo (before : Tree) (entries : List Entry) (after : Tree) : Type 0 where
  pub legal : IsHistory before entries
  pub tree : after ≡ after_history before entries
  pub formed : IsWellFormed after
  pub roster : after.roster ≡ before.roster
  pub apart : all_contents is_by_one after ≡ true
  pub saved : (host : HostId) → all_contents (has_saved host) before ≡ true → all_contents (has_saved host) after ≡ true

-- a host stores all that it has unsaved, file by file
pub record StoresAll (host : HostId) (before : Tree) (entries : List Entry) (after : Tree) : Type 0 where
  pub all : entries ≡ own_stores host before
  pub leads : LeadsTo before entries after
  pub stores : list_all (is_store_of (λ other. other.0 == host.0)) entries ≡ true
  pub saved : all_contents (has_saved host) after ≡ true

-- a host is down at every server: what it hadn't stored is lost
pub record DownsAll (host : HostId) (before : Tree) (entries : List Entry) (after : Tree) : Type 0 where
  pub leads : LeadsTo before entries after
  pub downs : entries ≡ downs_from host 1 (length before.roster.capacity)
  pub saved : all_contents (has_saved host) after ≡ true
