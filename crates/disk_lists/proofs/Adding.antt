-- A directory with another entry, and without one.
use Rattle.std.proofs.Common.{◌≡◌, ◌<◌, ◌≤◌, ℕ, ◌+◌, ◌*◌, List, ◌∷◌, ◌++◌, length, take, drop, sym, ◌∙◌, ap, subst, arith}
use Rattle.std.specs.Prelude.{Some, None, not, insert}
use Rattle.std.proofs.lemmas.List.{drop-drop}
use Rattle.std.proofs.lemmas.List.Edits.{length-insert}
use Rattle.base_types.specs.Name.{same_name}
use Rattle.tree_calls.specs.declared.part.DirEntry.{DirEntry}
use Rattle.tree_objects.specs.Entries.{entry_named}
use Rattle.tree_objects.proofs.Rising.{names_insert, names_filter}
use Rattle.disk_anode.specs.Anode.{Anode, ended}
use Rattle.disk_lists.specs.Entries.{entry_bytes, bytes_of, entered, without, with_entries, IsEntry, EachFits, AreEntries, IsDirectory, IsPlace, IsNamedAt}
use Rattle.disk_lists.proofs.Laid.{length-bytes_of, drop-bytes_of, take-bytes_of, bytes_of-append}
use Rattle.disk_lists.proofs.Places.{place_is}
use Rattle.disk_lists.proofs.Kept.{ended_is, directory_with, fits_insert, fits_filter, length-filter}

-- an entry at its place
module _ (anode : Anode) (entries : List DirEntry) (entry : DirEntry) (bytes : List ℕ) (place : ℕ) (is : IsDirectory entries anode) (are : AreEntries entries bytes) (valid : IsEntry entry) (at : IsPlace entries entry.name place) where
  entered_is : entered entry entries ≡ take place entries ++ entry ∷ drop place entries
  entered_is = (λ j. insert entries (place_is entries entry.name place at j) entry)

  entered_each : EachFits (entered entry entries)
  entered_each = subst EachFits (sym entered_is) (fits_insert place entry entries valid is.each)

  entered_bytes : bytes_of (entered entry entries) ≡ take (72 * place) (bytes_of entries) ++ (entry_bytes entry ++ drop (72 * place) bytes)
  entered_bytes =
      ap bytes_of entered_is ∙ bytes_of-append (take place entries) (entry ∷ drop place entries)
      ∙ (λ j. sym (take-bytes_of place entries is.each) j ++ (entry_bytes entry ++ ((sym (drop-bytes_of place entries is.each)) ∙ (λ k. drop (72 * place) (sym are.laid k))) j))

  pub entered_ended : (piece : List ℕ) (start : ℕ) → start ≡ 72 * place → piece ≡ entry_bytes entry ++ drop (72 * place) bytes → ended start piece anode ≡ with_entries (entered entry entries) anode
  entered_ended piece start here piece_is =
      let within = at.within in
      let size = length-bytes_of entries is.each in
      (λ j. ended (here j) (piece_is j) anode) ∙ ended_is anode entries (entered entry entries) (72 * place) (entry_bytes entry ++ drop (72 * place) bytes) is entered_each (omega (arith, within, size)) entered_bytes

  pub entered_directory : entry_named entries entry.name ≡ None → length entries < 64 → IsDirectory (entered entry entries) (with_entries (entered entry entries) anode)
  entered_directory none few =
      let within = at.within in
      let size = ap length entered_is ∙ length-insert entries place entry within in
      directory_with anode entries (entered entry entries) is (omega (arith, size, few)) entered_each (names_insert entry entries none is.rise)

-- an entry less
module _ (anode : Anode) (entries : List DirEntry) (bytes : List ℕ) (name : List ℕ) (i : ℕ) (is : IsDirectory entries anode) (are : AreEntries entries bytes) (at : IsNamedAt entries name (Some i)) (inside : 72 * i + 72 ≤ length bytes) where
  rest_is : drop (72 * i + 72) bytes ≡ bytes_of at.1
  rest_is =
      let next : 72 * i + 72 ≡ 72 * (i + 1) = omega arith in
      (λ j. drop (next j) (are.laid j)) ∙ drop-bytes_of (i + 1) entries is.each ∙ ap bytes_of (sym (drop-drop 1 i entries) ∙ ap (drop 1) at.2)

  left_each : EachFits (without name entries)
  left_each = fits_filter (λ entry. not (same_name entry.name name)) entries is.each

  left_bytes : bytes_of (without name entries) ≡ take (72 * i) (bytes_of entries) ++ drop (72 * i + 72) bytes
  left_bytes = ap bytes_of at.4 ∙ bytes_of-append (take i entries) at.1 ∙ (λ j. sym (take-bytes_of i entries is.each) j ++ sym rest_is j)

  pub left_ended : (piece : List ℕ) (start : ℕ) → start ≡ 72 * i → piece ≡ drop (72 * i + 72) bytes → ended start piece anode ≡ with_entries (without name entries) anode
  left_ended piece start here piece_is =
      let size = ap length are.laid in
      (λ j. ended (here j) (piece_is j) anode) ∙ ended_is anode entries (without name entries) (72 * i) (drop (72 * i + 72) bytes) is left_each (omega (arith, size, inside)) left_bytes

pub left_directory : (anode : Anode) (entries : List DirEntry) (name : List ℕ) → IsDirectory entries anode → IsDirectory (without name entries) (with_entries (without name entries) anode)
left_directory anode entries name is =
    let few = is.few in
    let le = length-filter (λ entry. not (same_name entry.name name)) entries in
    directory_with anode entries (without name entries) is (omega (arith, few, le)) (fits_filter (λ entry. not (same_name entry.name name)) entries is.each) (names_filter (λ entry. not (same_name entry.name name)) entries is.rise)
