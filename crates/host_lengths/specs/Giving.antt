-- The lengths of files that were given back last.
use Rattle.std.specs.Prelude.{ℕ, ◌==◌, ◌&&◌, ◌||◌, Bool, if◌then◌else◌, not, filter, List, [], ◌∷◌, Option}
use Rattle.std.specs.List.{find}
use Rattle.base_types.specs.Ids.{same_fid}
use Rattle.base_types.specs.declared.ids.Fid.{Fid}
use Rattle.base_types.specs.declared.ids.FilesetId.{FilesetId}
use Rattle.host_lengths.specs.declared.given.Given.{Given}

abbrev pub is_given : Fid → Given → Bool
is_given fid given = same_fid given.fid fid

abbrev pub length_given : List Given → Fid → Option Given
length_given lengths fid = find (λ given. same_fid given.fid fid) lengths

-- with this in place of the first that passes a test; at the end where none does
abbrev pub put_by : {A : Type 0} → (A → Bool) → A → List A → List A
put_by test new [] = new ∷ []
put_by test new (x ∷ xs) = if test x then new ∷ xs else x ∷ put_by test new xs

abbrev pub with_given : Given → List Given → List Given
with_given given lengths = put_by (is_given given.fid) given lengths

abbrev pub without_file : Fid → List Given → List Given
without_file fid lengths = filter (λ given. not (same_fid given.fid fid)) lengths

-- a give-back of a fileset is known as applied
abbrev pub known_by : FilesetId → ℕ → Given → Given
known_by fileset number given =
    record given { known = given.known || ((given.fid.fileset.0 == fileset.0) && (given.number == number)) }
