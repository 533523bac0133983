-- What a part tells of an anode is the anode.
use Rattle.std.proofs.Common.{
  ◌≡◌,
  ℕ,
  zero,
  suc,
  ◌+◌,
  true,
  List,
  [],
  ◌∷◌,
  ◌++◌,
  length,
  replicate,
  set,
  Option,
  Some,
  None,
  refl,
  sym,
  ap,
  ◌∙◌,
  arith,
}
use Rattle.std.specs.Option.{option_map_or}
use Rattle.tree_objects.specs.declared.content.Anode.{Anode}
use Rattle.tree_objects.specs.declared.content.Content.{Content}
use Rattle.tree_objects.specs.declared.content.Content.TheVariants.{Dir, File}
use Rattle.tree_objects.specs.declared.content.Object.{Object}
use Rattle.tree_filesets.specs.WellFormed.{is_settled}
use Rattle.store_state.specs.Giving.{put_bytes}
use Rattle.store_acts.specs.Laws.{anode_told, PartsAreWhole}
use Rattle.store_acts.specs.Parts.{object_part}

set_behind : (front : List ℕ) (old : ℕ) (rest : List ℕ) (value : ℕ) →
    set (front ++ old ∷ rest) (length front) value ≡ front ++ value ∷ rest
set_behind [] old rest value = refl
set_behind (x ∷ front) old rest value = ap (λ xs. x ∷ xs) (set_behind front old rest value)

one_more : (front : List ℕ) (value : ℕ) (rest : List ℕ) → (front ++ value ∷ []) ++ rest ≡ front ++ value ∷ rest
one_more [] value rest = refl
one_more (x ∷ front) value rest = ap (λ xs. x ∷ xs) (one_more front value rest)

length_more : (front : List ℕ) (value : ℕ) → length (front ++ value ∷ []) ≡ length front + 1
length_more [] value = refl
length_more (x ∷ front) value = let h = length_more front value in omega (arith, h)

-- bytes put over as many zeros behind others
put_behind : (front bytes : List ℕ) →
    put_bytes (front ++ replicate (length bytes) 0) (length front) bytes ≡ front ++ bytes
put_behind front [] = refl
put_behind front (value ∷ bytes) =
    ap (λ xs. put_bytes xs (length front + 1) bytes)
    (set_behind front 0 (replicate (length bytes) 0) value ∙ sym (one_more front value (replicate (length bytes) 0)))
    ∙ ap (λ n. put_bytes ((front ++ value ∷ []) ++ replicate (length bytes) 0) n bytes) (sym (length_more front value))
    ∙ put_behind (front ++ value ∷ []) bytes
    ∙ one_more front value bytes

-- bytes put over as many zeros
pub put_all : (bytes : List ℕ) → put_bytes (replicate (length bytes) 0) 0 bytes ≡ bytes
put_all bytes = put_behind [] bytes

told_content_back : (owner group : List ℕ) (number unique : ℕ) (content : Content) → is_settled content ≡ true →
    anode_told (object_part number unique (Some (record { owner = owner; group = group; content = content })))
    ≡ Some (record { unique = unique; object = Some (record { owner = owner; group = group; content = content }) })
told_content_back owner group number unique (Dir entries lists) h = refl
told_content_back owner group number unique (File list kept [] None) h =
    ap (λ bytes. Some (record {
      unique = unique;
      object = Some (record { owner = owner; group = group; content = File list bytes [] None });
    })) (put_all kept)
told_content_back owner group number unique (File list kept [] (Some len)) h = absurd (cc)
told_content_back owner group number unique (File list kept (byte ∷ unsaved) len) h = absurd (cc)

told_object_back : (number unique : ℕ) (object : Option Object) →
    option_map_or (λ object. is_settled object.content) object true ≡ true →
    anode_told (object_part number unique object) ≡ Some (record { unique = unique; object = object })
told_object_back number unique None h = refl
told_object_back number unique (Some object) h =
    told_content_back object.owner object.group number unique object.content h

-- a part of a fileset with nothing unsaved tells of its anode whole
pub parts_are_whole : PartsAreWhole
parts_are_whole number anode h = told_object_back number anode.unique anode.object h
