-- What is lost where a server learns that a host is down.
use Rattle.std.specs.Prelude.{
  ◌≡◌,
  ℕ,
  ◌==◌,
  nat_lt,
  Bool,
  true,
  false,
  ◌&&◌,
  ◌||◌,
  if◌then◌else◌,
  List,
  [],
  ◌∷◌,
  Option,
  Some,
  None,
  is_some,
  option_and_then,
}
use Rattle.std.specs.List.{find, list_all, count_by}
use Rattle.std.specs.Option.{option_map, option_map_or}
use Rattle.std.specs.Cmp.Lexicographic.{pointwise}
use Rattle.base_types.specs.Ids.{same_fid}
use Rattle.base_types.specs.Name.{same_name, is_before}
use Rattle.base_types.specs.Spans.{has_byte}
use Rattle.base_types.specs.declared.ids.HostId.{HostId}
use Rattle.base_types.specs.declared.ids.ServerId.{ServerId}
use Rattle.base_types.specs.declared.ids.Fid.{Fid}
use Rattle.base_types.specs.declared.span.Span.{Span}
use Rattle.tree_calls.specs.declared.entry.Loss.{Loss}
use Rattle.tree_filesets.specs.declared.fileset.Fileset.{Fileset}
use Rattle.tree_filesets.specs.Walk.{unique_at}
use Rattle.tree_filesets.specs.WellFormed.{leads}
use Rattle.tree_answers.specs.declared.tree.Tree.{Tree}
use Rattle.tree_answers.specs.Finding.{is_named}
use Rattle.tree_answers.specs.Losses.{is_at, losses_of}
use Rattle.tree_answers.specs.WellFormed.{IsWellFormed}
use Rattle.tree_laws.specs.Parts.{cell_at}
use Rattle.tree_laws.specs.Parts.Part.{ByteAt, Size}
use Rattle.tree_laws.specs.Fates.{is_of, own_size}
use Rattle.tree_laws.specs.Labels.{each_two}

-- the present use of an anode of a fileset
abbrev pub use_of : Fileset → ℕ → Fid
use_of fileset at = record { fileset = fileset.id; anode = at; unique = unique_at fileset.anodes at }

-- what a path leads to: the name of a fileset of a server, and the names from its root on, whoever asks
abbrev pub led_to : Tree → ServerId → List (List ℕ) → Option Fid
led_to tree server [] = None
led_to tree server (name ∷ names) =
    option_and_then (λ fileset. option_map (use_of fileset) (leads fileset.anodes 1 names))
    (find (is_named server name) tree.filesets)

-- whether a loss is of a file; of a byte; of a length
abbrev pub is_of_file : Tree → ServerId → Fid → Loss → Bool
is_of_file tree server fid loss = option_map_or (same_fid fid) (led_to tree server loss.path) false

abbrev pub is_of_byte : ℕ → Loss → Bool
is_of_byte at loss = option_map_or (λ span. has_byte span at) loss.span false

abbrev pub is_of_length : ℕ → Loss → Bool
is_of_length len loss = option_map_or (λ lost. lost == len) loss.length false

-- whether it is either of some bytes or of a length
abbrev pub is_of_either : Option Span → Option ℕ → Bool
is_of_either (Some span) None = nat_lt span.from span.to
is_of_either None (Some len) = true
is_of_either _ _ = false

-- whether it is of a host, and of something that is there at a server
abbrev pub is_loss_of : Tree → HostId → ServerId → Loss → Bool
is_loss_of tree host server loss =
    (loss.host.0 == host.0) && (loss.server.0 == server.0) && is_some (led_to tree server loss.path)
    && is_of_either loss.span loss.length

-- paths in the order of their names: that of a directory comes before those of what is in it
abbrev pub path_before : List (List ℕ) → List (List ℕ) → Bool
path_before [] [] = false
path_before [] (name ∷ names) = true
path_before (name ∷ names) [] = false
path_before (name ∷ names) (other ∷ others) =
    is_before name other || (same_name name other && path_before names others)

-- in a file spans by position, with a byte between, and the length last
abbrev pub span_before : Option Span → Option Span → Bool
span_before (Some span) (Some other) = nat_lt span.to other.from
span_before (Some span) None = true
span_before None other = false

abbrev pub loss_before : Loss → Loss → Bool
loss_before a b = path_before a.path b.path || (pointwise same_name a.path b.path && span_before a.span b.span)

-- What a host loses at a server.
pub record LossesAreExact (tree : Tree) (host : HostId) (server : ServerId) : Type 0 where
  -- a byte of a file there is in one loss if it is the host's and unsaved, else in none
  pub bytes : (fid : Fid) (at : ℕ) → is_at tree.filesets server fid.fileset ≡ true →
      count_by (λ loss. is_of_file tree server fid loss && is_of_byte at loss) (losses_of tree host server)
      ≡ (if is_of host (cell_at tree fid (ByteAt at)).unsaved then 1 else 0)
  -- so is the length
  pub lengths : (fid : Fid) (len : ℕ) → is_at tree.filesets server fid.fileset ≡ true →
      count_by (λ loss. is_of_file tree server fid loss && is_of_length len loss) (losses_of tree host server)
      ≡ option_map_or (λ own. if own == len then 1 else 0) (own_size host (cell_at tree fid Size)) 0
  -- nothing else is lost
  pub named : list_all (is_loss_of tree host server) (losses_of tree host server) ≡ true
  pub ordered : each_two loss_before (losses_of tree host server) ≡ true

abbrev pub AllLossesAreExact : Type 0
AllLossesAreExact =
    (tree : Tree) (host : HostId) (server : ServerId) → IsWellFormed tree → LossesAreExact tree host server
