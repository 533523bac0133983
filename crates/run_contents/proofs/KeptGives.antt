-- What a give-back leaves of what a server keeps.
use Rattle.std.proofs.Common.{◌≡◌, ℕ, zero, suc, ◌≤◌, ◌<◌, ◌+◌, ◌-◌, ◌==◌, nat_lt, nat_le, Bool, true, false, ◌&&◌}
use Rattle.std.proofs.Common.{List, [], ◌∷◌, length, Option, Some, None, refl, sym, ap, ◌∙◌, subst, arith}
use Rattle.std.proofs.lemmas.Bool.{and_parts, false≢true}
use Rattle.std.proofs.lemmas.Grind.{common_steps}
use Rattle.std.specs.List.{find, list_all}
use Rattle.std.specs.Option.{option_map, option_map_or}
use Rattle.std.specs.Prelude.{IfSome, if◌then◌else◌, max, not, slice_get, slice_set, unwrap_or}
use Rattle.base_types.specs.Ids.{same_fid}
use Rattle.base_types.specs.Image.{byte_at}
use Rattle.base_types.specs.Lists.{changed_at}
use Rattle.base_types.specs.declared.ids.Fid.{Fid}
use Rattle.base_types.specs.declared.limits.TheConstants.{FILE_BYTES_MAX}
use Rattle.tree_calls.specs.declared.part.Piece.{Piece}
use Rattle.tree_filesets.proofs.Alike.{HasSameEntries, alike_changed, well_formed_alike}
use Rattle.tree_filesets.proofs.Observations.{object_from, object_not_zero}
use Rattle.tree_filesets.proofs.Stays.{file_stays_alike}
use Rattle.tree_filesets.proofs.Updates.{found_changed}
use Rattle.tree_filesets.specs.Laws.{is_file_at}
use Rattle.tree_filesets.specs.Updates.{changed, updated}
use Rattle.tree_filesets.specs.Walk.{object_at, unique_at}
use Rattle.tree_filesets.specs.WellFormed.{is_at_rest, is_settled}
use Rattle.tree_filesets.specs.declared.fileset.Fileset.{Fileset}
use Rattle.need_host.specs.Looks.{kept_view}
use Rattle.tree_objects.specs.Changes.{anode_changed, content_changed}
use Rattle.tree_objects.specs.Objects.{is_dir}
use Rattle.tree_objects.specs.Sound.{is_sound}
use Rattle.tree_objects.specs.declared.content.Anode.{Anode}
use Rattle.tree_objects.specs.declared.content.Content.{Content}
use Rattle.tree_objects.specs.declared.content.Content.TheVariants.{Dir, File}
use Rattle.tree_objects.specs.declared.content.Object.{Object}
use Rattle.tree_answers.proofs.Followed.{Follows, changed_follows, well_formed_followed}
use Rattle.tree_answers.proofs.Inserted.{position_or_end}
use Rattle.tree_answers.proofs.Kept.{fileset_with_id}
use Rattle.tree_answers.proofs.Places.{find_at_place, find_put, find_put_other, found_passes, place_found}
use Rattle.tree_answers.proofs.Resting.{settled_there}
use Rattle.tree_answers.specs.Finding.{has_id}
use Rattle.tree_answers.specs.Stores.{place_with_id}
use Rattle.tree_answers.specs.Uses.{is_used}
use Rattle.tree_answers.specs.WellFormed.{IsWellFormed}
use Rattle.tree_answers.specs.declared.tree.Tree.{Tree}
use Rattle.tree_laws.proofs.Objects.{use_changed, use_named}
use Rattle.tree_laws.proofs.Steps.{number_is, same_number}
use Rattle.tree_laws.specs.Fates.{names_use}
use Rattle.tree_laws.specs.Parts.{Part, cell_found, cell_in, cell_of, object_in}
use Rattle.tree_laws.specs.Parts.Part.{ByteAt, Entries, Size, Traits}
use Rattle.run_rules.specs.Kept.{bytes_given, content_given, length_given, takes_gifts, tree_given}
use Rattle.run_rules.specs.Views.{byte_of}
use Rattle.run_contents.specs.Gives.{GivesKeep, IsKept, part_given, view_given}

-- bytes after pieces were given
no_less : (at : ℕ) → nat_lt at 0 ≡ false
no_less at = grind (arith, common_steps)

given_at : (kept : List ℕ) (pieces : List Piece) (from n at : ℕ) → byte_at (bytes_given kept pieces from n) at
    ≡ (if nat_lt at n then unwrap_or (byte_of pieces (from + at)) (byte_at kept (from + at)) else 0)
given_at kept pieces from zero at =
    ap (λ b. if b then unwrap_or (byte_of pieces (from + at)) (byte_at kept (from + at)) else 0) (sym (no_less at))
given_at kept pieces from (suc n) zero =
    let less : nat_lt 0 (suc n) ≡ true = grind (arith, common_steps) in
    let same : from ≡ from + 0 = omega arith in
    ap (λ k. unwrap_or (byte_of pieces k) (byte_at kept k)) same
    ∙ ap (λ b. if b then unwrap_or (byte_of pieces (from + 0)) (byte_at kept (from + 0)) else 0) (sym less)
given_at kept pieces from (suc n) (suc at) =
    let less : nat_lt at n ≡ nat_lt (suc at) (suc n) = less_on at n in
    let same : suc from + at ≡ from + suc at = omega arith in
    given_at kept pieces (suc from) n at
    ∙ (ap (λ k. if nat_lt at n then unwrap_or (byte_of pieces k) (byte_at kept k) else 0) same
    ∙ ap (λ b. if b then unwrap_or (byte_of pieces (from + suc at)) (byte_at kept (from + suc at)) else 0) less)
  where
    less_on : (a b : ℕ) → nat_lt a b ≡ nat_lt (suc a) (suc b)
    less_on a b = go (nat_lt a b) (nat_lt (suc a) (suc b)) refl refl
      where
        go : (x y : Bool) → nat_lt a b ≡ x → nat_lt (suc a) (suc b) ≡ y → x ≡ y
        go true true e f = refl
        go false false e f = refl
        go true false e f = absurd (let l : a < b = grind (arith, common_steps, e) in
            let k : suc b ≤ suc a = grind (arith, common_steps, f) in omega (arith, l, k))
        go false true e f = absurd (let l : b ≤ a = grind (arith, common_steps, e) in
            let k : suc a < suc b = grind (arith, common_steps, f) in omega (arith, l, k))

given_length : (kept : List ℕ) (pieces : List Piece) (from n : ℕ) → length (bytes_given kept pieces from n) ≡ n
given_length kept pieces from zero = refl
given_length kept pieces from (suc n) = ap suc (given_length kept pieces (suc from) n)

-- no byte stands behind the end
beyond : (bytes : List ℕ) (at : ℕ) → length bytes ≤ at → byte_at bytes at ≡ 0
beyond [] at le = refl
beyond (x ∷ xs) zero le = absurd (let k : suc (length xs) ≤ 0 = le in omega (arith, k))
beyond (x ∷ xs) (suc at) le = beyond xs at (let k : suc (length xs) ≤ suc at = le in omega (arith, k))

grown : (n : ℕ) (given : Option ℕ) → n ≤ length_given n given
grown n None = omega arith
grown n (Some m) = let k : n ≤ max n m = omega arith in k

-- a file's parts
file_given : (read_only : Bool) (object : Object) (pieces : List Piece) (given : Option ℕ) (part : Part)
    → is_dir object.content ≡ false
    → (cell_of read_only (content_changed (content_given pieces given) object) part).kept
    ≡ part_given pieces (length_given (cell_of read_only object Size).kept given) part (cell_of read_only object part).kept
file_given read_only object pieces given part file = go object.content file part
  where
    byte : (kept : List ℕ) (at n : ℕ) → length kept ≤ n → byte_at (bytes_given kept pieces 0 n) at
        ≡ (if nat_lt at n then unwrap_or (byte_of pieces at) (byte_at kept at) else byte_at kept at)
    byte kept at n le =
        let none : 0 + at ≡ at = omega arith in
        given_at kept pieces 0 n at
        ∙ (ap (λ k. if nat_lt at n then unwrap_or (byte_of pieces k) (byte_at kept k) else 0) none
        ∙ by_test (nat_lt at n) refl)
      where
        by_test : (b : Bool) → nat_lt at n ≡ b
            → (if b then unwrap_or (byte_of pieces at) (byte_at kept at) else 0)
            ≡ (if b then unwrap_or (byte_of pieces at) (byte_at kept at) else byte_at kept at)
        by_test true e = refl
        by_test false e = sym (beyond kept at (let k : n ≤ at = grind (arith, common_steps, e) in omega (arith, k, le)))

    go : (content : Content) → is_dir content ≡ false → (part : Part)
        → (cell_of read_only (content_changed (content_given pieces given) (record object { content = content })) part).kept
        ≡ part_given pieces (length_given (cell_of read_only (record object { content = content }) Size).kept given) part
        (cell_of read_only (record object { content = content }) part).kept
    go (Dir entries lists) file part = absurd (false≢true (sym file))
    go (File list kept unsaved len) file (ByteAt at) =
        byte kept at (length_given (length kept) given) (grown (length kept) given)
    go (File list kept unsaved len) file Size = given_length kept pieces 0 (length_given (length kept) given)
    go (File list kept unsaved len) file Traits = refl
    go (File list kept unsaved len) file Entries = refl

same_entries : (pieces : List Piece) (given : Option ℕ) (content : Content)
    → HasSameEntries content (content_given pieces given content)
same_entries pieces given (Dir entries lists) = record { entries = λ name. refl; kind = refl }
same_entries pieces given (File list kept unsaved len) = record { entries = λ name. refl; kind = refl }

within : (n : ℕ) (given : Option ℕ) → n ≤ FILE_BYTES_MAX → IfSome given (λ n. n ≤ FILE_BYTES_MAX)
    → length_given n given ≤ FILE_BYTES_MAX
within n None le h = le
within n (Some m) le h = let k : m ≤ 65536 = h in let l : n ≤ 65536 = le in let j : max n m ≤ 65536 = omega (arith, k, l) in j

-- what is settled stays sound
sound_given : (pieces : List Piece) (given : Option ℕ) (content : Content) → IfSome given (λ n. n ≤ FILE_BYTES_MAX)
    → is_settled content ≡ true → is_sound content ≡ true → is_sound (content_given pieces given content) ≡ true
sound_given pieces given (Dir entries lists) h rests sound = sound
sound_given pieces given (File list kept [] None) h rests sound =
    let short : nat_le (length kept) 65536 ≡ true = first_of (nat_le (length kept) FILE_BYTES_MAX) sound in
    let before : length kept ≤ 65536 = grind (arith, common_steps, short) in
    let after : length_given (length kept) given ≤ 65536 = within (length kept) given before h in
    let long : nat_le (length (bytes_given kept pieces 0 (length_given (length kept) given))) FILE_BYTES_MAX ≡ true =
    ap (λ n. nat_le n FILE_BYTES_MAX) (given_length kept pieces 0 (length_given (length kept) given))
    ∙ (grind (arith, common_steps, after)) in
    all_so long
  where
    first_of : (b : Bool) → (b && b && true && true && true) ≡ true → b ≡ true
    first_of true e = refl
    first_of false e = e

    all_so : nat_le (length (bytes_given kept pieces 0 (length_given (length kept) given))) FILE_BYTES_MAX ≡ true
        → is_sound (content_given pieces given (File list kept [] None)) ≡ true
    all_so e = by (nat_le (length (bytes_given kept pieces 0 (length_given (length kept) given))) FILE_BYTES_MAX) e
      where
        by : (b : Bool) → b ≡ true → (b && b && true && true && true) ≡ true
        by true e = refl
        by false e = absurd (false≢true e)
sound_given pieces given (File list kept [] (Some len)) h rests sound = absurd (false≢true rests)
sound_given pieces given (File list kept (byte ∷ rest) None) h rests sound = absurd (false≢true rests)
sound_given pieces given (File list kept (byte ∷ rest) (Some len)) h rests sound = absurd (false≢true rests)

settled_given : (pieces : List Piece) (given : Option ℕ) (content : Content) → is_settled content ≡ true
    → is_settled (content_given pieces given content) ≡ true
settled_given pieces given (Dir entries lists) rests = refl
settled_given pieces given (File list kept [] None) rests = refl
settled_given pieces given (File list kept [] (Some len)) rests = absurd (false≢true rests)
settled_given pieces given (File list kept (byte ∷ rest) None) rests = absurd (false≢true rests)
settled_given pieces given (File list kept (byte ∷ rest) (Some len)) rests = absurd (false≢true rests)

pub both : (a b : Bool) → a ≡ true → b ≡ true → (a && b) ≡ true
both true b e h = h
both false b e h = absurd (false≢true e)

-- a change that keeps a test keeps it of all
changed_all : {X : Type 0} (p : X → Bool) (change : X → X) → ((x : X) → p x ≡ true → p (change x) ≡ true)
    → (xs : List X) (place : ℕ) → list_all p xs ≡ true → list_all p (changed_at xs place change) ≡ true
changed_all p change keeps [] place h = h
changed_all p change keeps (x ∷ xs) zero h =
    let q = and_parts (p x) (list_all p xs) h in both (p (change x)) (list_all p xs) (keeps x q.0) q.1
changed_all p change keeps (x ∷ xs) (suc place) h =
    let q = and_parts (p x) (list_all p xs) h in
    both (p x) (list_all p (changed_at xs place change)) q.0 (changed_all p change keeps xs place q.1)

one_of_all : {X : Type 0} (p : X → Bool) (xs : List X) (place : ℕ) (x : X) → Some x ≡ slice_get xs place
    → list_all p xs ≡ true → p x ≡ true
one_of_all p [] place x e h = absurd (let k : Some x ≡ None = e in cc)
one_of_all p (y ∷ ys) zero x e h =
    let same : x ≡ y = (let k : Some x ≡ Some y = e in cc) in
    ap p same ∙ (and_parts (p y) (list_all p ys) h).0
one_of_all p (y ∷ ys) (suc place) x e h = one_of_all p ys place x e (and_parts (p y) (list_all p ys) h).1

-- an object of anodes of which nothing is unsaved is settled
abbrev rests_at : Anode → Bool
rests_at anode = option_map_or (λ object. is_settled object.content) anode.object true

anode_given : (pieces : List Piece) (given : Option ℕ) (anode : Anode) → rests_at anode ≡ true
    → rests_at (anode_changed (content_given pieces given) anode) ≡ true
anode_given pieces given anode rests = go anode.object rests
  where
    go : (o : Option Object) → option_map_or (λ object. is_settled object.content) o true ≡ true
        → option_map_or (λ object. is_settled object.content)
        (option_map (content_changed (content_given pieces given)) o) true ≡ true
    go None rests = refl
    go (Some object) rests = settled_given pieces given object.content rests

rest_given : (pieces : List Piece) (given : Option ℕ) (place : ℕ) (fileset : Fileset) → is_at_rest fileset ≡ true
    → is_at_rest (changed fileset place (content_given pieces given)) ≡ true
unfolding updated
rest_given pieces given place fileset rests =
    changed_all rests_at (anode_changed (content_given pieces given)) (anode_given pieces given) fileset.anodes (place - 1)
    rests

-- an object that is a file
filed : (o : Option Object) → option_map_or (λ object. not (is_dir object.content)) o false ≡ true
    → (object : Object) × (o ≡ Some object) × (is_dir object.content ≡ false)
filed None e = absurd (false≢true e)
filed (Some object) e = (object, refl, go (is_dir object.content) e)
  where
    go : (b : Bool) → not b ≡ true → b ≡ false
    go true e = absurd (false≢true e)
    go false e = refl

module _ (tree : Tree) (fid : Fid) (pieces : List Piece) (given : Option ℕ) (k : IsKept tree) where
  abbrev place : ℕ
  place = place_with_id tree.filesets fid.fileset

  abbrev change : Fileset → Fileset
  change fileset = changed fileset fid.anode (content_given pieces given)

  -- the file that takes what is given
  record Taking (old : Fileset) : Type 0 where
    stands : Some old ≡ slice_get tree.filesets place
    found : find (has_id fid.fileset) tree.filesets ≡ Some old
    writable : not old.read_only ≡ true
    number : unique_at old.anodes fid.anode ≡ fid.unique
    object : Object
    there : object_at old.anodes fid.anode ≡ Some object
    file : is_dir object.content ≡ false

  taking : (old : Fileset) → Some old ≡ slice_get tree.filesets place → takes_gifts tree fid ≡ true → Taking old
  taking old e takes =
      let found = fileset_with_id tree.filesets fid.fileset old e in
      let here : (not old.read_only && is_file_at old fid) ≡ true =
      subst (λ (o : Option Fileset). option_map_or (λ fileset. not fileset.read_only && is_file_at fileset fid) o false
      ≡ true) found takes in
      let q = and_parts (not old.read_only) (is_file_at old fid) here in
      let r = and_parts (unique_at old.anodes fid.anode == fid.unique)
      (option_map_or (λ (object : Object). not (is_dir object.content)) (object_at old.anodes fid.anode) false) q.1 in
      let o = filed (object_at old.anodes fid.anode) r.1 in
      record {
        stands = e;
        found = found;
        writable = q.0;
        number = number_is (unique_at old.anodes fid.anode) fid.unique r.0;
        object = o.0;
        there = o.1;
        file = o.2;
      }

  module _ (h : IfSome given (λ n. n ≤ FILE_BYTES_MAX)) where
    follows : (old : Fileset) → Taking old → Follows (is_used tree.locks tree.opens) old (change old)
    unfolding updated
    follows old t =
        let rests : is_at_rest old ≡ true = one_of_all is_at_rest tree.filesets place old t.stands k.rests in
        let above = object_not_zero old.anodes fid.anode t.object t.there in
        let settled = settled_there old.anodes (fid.anode - 1) t.object rests
        (sym (object_from old.anodes fid.anode above) ∙ t.there) in
        let alike = alike_changed old fid.anode t.object (content_given pieces given) t.there above
        (same_entries pieces given t.object.content)
        (λ sound. sound_given pieces given t.object.content h settled sound) in
        record {
          same = record { server = refl; id = refl; name = refl; read_only = refl; objects = refl; moves = refl };
          formed = λ w. well_formed_alike old (change old) w alike;
          files = λ f w i u is. file_stays_alike old (change old) f alike is;
          clone = λ r q. absurd (false≢true (ap not (sym r) ∙ t.writable));
        }

    formed : IsWellFormed (tree_given tree fid pieces given)
    unfolding tree_given
    formed = go (takes_gifts tree fid) refl
      where
        go : (b : Bool) → takes_gifts tree fid ≡ b
            → IsWellFormed (if b then record tree { filesets = changed_at tree.filesets place change } else tree)
        go true e =
            well_formed_followed tree (changed_at tree.filesets place change) k.formed
            (changed_follows (is_used tree.locks tree.opens) tree.filesets place change
            (λ old at. follows old (taking old at e)))
        go false e = k.formed

    rests : list_all is_at_rest (tree_given tree fid pieces given).filesets ≡ true
    unfolding tree_given
    rests = go (takes_gifts tree fid)
      where
        go : (b : Bool) → list_all is_at_rest
            (if b then record tree { filesets = changed_at tree.filesets place change } else tree).filesets ≡ true
        go true = changed_all is_at_rest change (rest_given pieces given fid.anode) tree.filesets place k.rests
        go false = k.rests

  -- a use that a fid names is that of the fid
  same_use : (old : Fileset) (other : Fid) → (fid.fileset.0 == other.fileset.0) ≡ true
      → unique_at old.anodes fid.anode ≡ fid.unique → names_use old fid.anode other ≡ same_fid fid other
  same_use old other e u =
      ap (λ n. (fid.anode == other.anode) && (n == other.unique)) u
      ∙ ap (λ t. t && (fid.anode == other.anode) && (fid.unique == other.unique)) (sym e)

  module _ (other : Fid) (part : Part) where
    -- an object of the fileset
    in_fileset : (old : Fileset) (t : Taking old) → has_id other.fileset old ≡ true
        → (cell_found old.read_only (object_in (change old) other) part).kept
        ≡ (if same_fid fid other
        then part_given pieces (length_given (kept_view tree fid Size) given) part
        (cell_found old.read_only (object_in old other) part).kept
        else (cell_found old.read_only (object_in old other) part).kept)
    in_fileset old t its =
        let above = object_not_zero old.anodes fid.anode t.object t.there in
        let one : (fid.fileset.0 == other.fileset.0) ≡ true =
        ap (λ n. n == other.fileset.0)
        (sym (number_is old.id.0 fid.fileset.0 (found_passes (has_id fid.fileset) tree.filesets old t.found))) ∙ its in
        ap (λ o. (cell_found old.read_only o part).kept)
        (use_changed old fid.anode (content_given pieces given) other above)
        ∙ (by_use (names_use old fid.anode other) refl
        ∙ ap (λ b. if b
        then part_given pieces (length_given (kept_view tree fid Size) given) part
        (cell_found old.read_only (object_in old other) part).kept
        else (cell_found old.read_only (object_in old other) part).kept) (same_use old other one t.number))
      where
        itself : object_in old fid ≡ Some t.object
        itself = ap (λ n. if n == fid.unique then object_at old.anodes fid.anode else None) t.number
            ∙ (ap (λ b. if b then object_at old.anodes fid.anode else None) (same_number fid.unique) ∙ t.there)

        size : (cell_of old.read_only t.object Size).kept ≡ kept_view tree fid Size
        size = sym (ap (λ o. (cell_in o fid Size).kept) t.found
            ∙ ap (λ o. (cell_found old.read_only o Size).kept) itself)

        by_use : (b : Bool) → names_use old fid.anode other ≡ b
            → (cell_found old.read_only
            (if b then option_map (content_changed (content_given pieces given)) (object_in old other)
            else object_in old other) part).kept
            ≡ (if b
            then part_given pieces (length_given (kept_view tree fid Size) given) part
            (cell_found old.read_only (object_in old other) part).kept
            else (cell_found old.read_only (object_in old other) part).kept)
        by_use false e = refl
        by_use true e =
            let there : object_in old other ≡ Some t.object = use_named old fid.anode other e ∙ t.there in
            ap (λ o. (cell_found old.read_only (option_map (content_changed (content_given pieces given)) o) part).kept)
            there
            ∙ (file_given old.read_only t.object pieces given part t.file
            ∙ (ap (λ n. part_given pieces (length_given n given) part (cell_of old.read_only t.object part).kept) size
            ∙ ap (λ o. part_given pieces (length_given (kept_view tree fid Size) given) part
            (cell_found old.read_only o part).kept) (sym there)))

    given_true : (o : Option Fileset) → o ≡ slice_get tree.filesets place → o ≡ find (has_id fid.fileset) tree.filesets
        → takes_gifts tree fid ≡ true
        → (cell_in (find (has_id other.fileset) (changed_at tree.filesets place change)) other part).kept
        ≡ (if same_fid fid other
        then part_given pieces (length_given (kept_view tree fid Size) given) part (kept_view tree other part)
        else kept_view tree other part)
    unfolding updated
    given_true None e f takes = absurd (false≢true
        (ap (λ (o : Option Fileset). option_map_or (λ fileset. not fileset.read_only && is_file_at fileset fid) o false) f
        ∙ takes))
    given_true (Some old) e f takes =
        let t = taking old e takes in
        let put : changed_at tree.filesets place change ≡ slice_set tree.filesets place (change old) =
        sym (found_changed tree.filesets place old (change old) change e refl) in
        ap (λ filesets. (cell_in (find (has_id other.fileset) filesets) other part).kept) put
        ∙ by_id t (has_id other.fileset old) refl
      where
        by_id : Taking old → (b : Bool) → has_id other.fileset old ≡ b
            → (cell_in (find (has_id other.fileset) (slice_set tree.filesets place (change old))) other part).kept
            ≡ (if same_fid fid other
            then part_given pieces (length_given (kept_view tree fid Size) given) part (kept_view tree other part)
            else kept_view tree other part)
        by_id t true its =
            ap (λ o. (cell_in o other part).kept)
            (find_put other.fileset tree.filesets place old (change old) e k.formed.ordered refl its)
            ∙ (in_fileset old t its
            ∙ ap (λ (o : Option Fileset). if same_fid fid other
            then part_given pieces (length_given (kept_view tree fid Size) given) part (cell_in o other part).kept
            else (cell_in o other part).kept)
            (sym (find_at_place other.fileset tree.filesets place old e k.formed.ordered its)))
        by_id t false its =
            ap (λ o. (cell_in o other part).kept)
            (find_put_other other.fileset tree.filesets place old (change old) e refl its)
            ∙ ap (λ b. if b
            then part_given pieces (length_given (kept_view tree fid Size) given) part (kept_view tree other part)
            else kept_view tree other part) (sym apart)
          where
            apart : same_fid fid other ≡ false
            apart = ap (λ t. t && (fid.anode == other.anode) && (fid.unique == other.unique))
                (ap (λ n. n == other.fileset.0) (sym (number_is old.id.0 fid.fileset.0
                (found_passes (has_id fid.fileset) tree.filesets old t.found))) ∙ its)

    parts : kept_view (tree_given tree fid pieces given) other part ≡ view_given tree fid pieces given other part
    unfolding tree_given
    parts = go (takes_gifts tree fid) refl
      where
        go : (b : Bool) → takes_gifts tree fid ≡ b
            → kept_view (if b then record tree { filesets = changed_at tree.filesets place change } else tree) other part
            ≡ (if b && same_fid fid other
            then part_given pieces (length_given (kept_view tree fid Size) given) part (kept_view tree other part)
            else kept_view tree other part)
        go true e =
            given_true (find (has_id fid.fileset) tree.filesets)
            (place_found (has_id fid.fileset) tree.filesets
            ∙ ap (λ i. slice_get tree.filesets i) (sym (position_or_end (has_id fid.fileset) tree.filesets))) refl e
        go false e = refl

pub gives_keep : GivesKeep
gives_keep = record {
  parts = λ tree fid pieces given other part k. parts tree fid pieces given k other part;
  kept = λ tree fid pieces given k h. record {
    formed = formed tree fid pieces given k h;
    rests = rests tree fid pieces given k h;
  };
}
