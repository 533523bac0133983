-- How lengths are kept: each is found by its file and by its give-back.
use Rattle.std.specs.Prelude.{◌≡◌, ℕ, Bool, false, ◌==◌, ◌&&◌, List, [], ◌∷◌, map, Option, Some}
use Rattle.std.specs.Map.{lookup, values_of}
use Rattle.base_types.specs.declared.ids.Fid.{Fid}
use Rattle.host_lengths.specs.declared.given.Given.{Given}

abbrev pub FileKey : Type 0
FileKey = ℕ × (ℕ × ℕ)

abbrev pub file_key : Fid → FileKey
file_key fid = (fid.fileset.0, (fid.anode, fid.unique))

abbrev pub same_file : FileKey → FileKey → Bool
same_file a b = (a.0 == b.0) && ((a.1.0 == b.1.0) && (a.1.1 == b.1.1))

abbrev pub GiveKey : Type 0
GiveKey = ℕ × ℕ

-- the give-back that a length came with
abbrev pub give_key : Given → GiveKey
give_key given = (given.fid.fileset.0, given.number)

abbrev pub same_give : GiveKey → GiveKey → Bool
same_give a b = (a.0 == b.0) && (a.1 == b.1)

-- the file that is noted of a give-back
abbrev pub file_of : List (GiveKey × FileKey) → GiveKey → Option FileKey
file_of files key = lookup (same_give key) files

-- each under its file
abbrev pub keyed : List Given → List (FileKey × Given)
keyed lengths = map (λ given. (file_key given.fid, given)) lengths

-- the file of each length that isn't known as applied is noted of its give-back
abbrev pub AreNoted : List Given → List (GiveKey × FileKey) → Type 0
AreNoted [] files = Unit {0}
AreNoted (given ∷ lengths) files =
    (given.known ≡ false → file_of files (give_key given) ≡ Some (file_key given.fid)) × AreNoted lengths files

pub record AreLengths (by_file : List (FileKey × Given)) (files : List (GiveKey × FileKey)) : Type 0 where
  pub keys : by_file ≡ keyed (values_of by_file)
  pub noted : AreNoted (values_of by_file) files
