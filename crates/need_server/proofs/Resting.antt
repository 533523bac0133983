-- Filesets of which nothing is unsaved are kept as they are.
use Rattle.std.proofs.Common.{◌≡◌, ◌≢◌, ℕ, suc, ◌+◌, ◌-◌, Bool, true, false, ◌&&◌, ◌||◌, List, [], ◌∷◌, ◌++◌, Option, Some, None, refl, ap, ◌∙◌, rules, arith}
use Rattle.std.specs.Prelude.{slice_get, map, if◌then◌else◌}
use Rattle.std.specs.List.{find, list_all, flat_map}
use Rattle.std.specs.Option.{option_map, option_map_or, option_and_then}
use Rattle.base_types.specs.Ids.{same_fid}
use Rattle.base_types.specs.declared.ids.Fid.{Fid}
use Rattle.tree_objects.specs.declared.content.Content.{Content}
use Rattle.tree_objects.specs.declared.content.Content.TheVariants.{Dir, File}
use Rattle.tree_objects.specs.declared.content.Object.{Object}
use Rattle.tree_objects.specs.declared.content.Anode.{Anode}
use Rattle.tree_objects.specs.Changes.{anode_changed}
use Rattle.tree_objects.specs.Objects.{is_dir}
use Rattle.tree_objects.specs.Spans.{whole}
use Rattle.tree_objects.proofs.Observed.{and_left, and_right}
use Rattle.tree_filesets.specs.declared.fileset.Fileset.{Fileset}
use Rattle.tree_filesets.specs.Walk.{object_at}
use Rattle.tree_filesets.specs.WellFormed.{IsWellFormed as IsWellFormedFileset, is_settled, is_at_rest}
use Rattle.tree_filesets.proofs.Observations.{object_from}
use Rattle.tree_answers.specs.declared.tree.Tree.{Tree}
use Rattle.tree_answers.specs.Finding.{has_id}
use Rattle.token_types.specs.declared.token.Need.{Need}
use Rattle.token_types.specs.declared.token.Kind.TheVariants.{Bytes, Status}
use Rattle.tree_laws.specs.Losses.{use_of}
use Rattle.need_host.specs.Shows.{shows, needs_show}
use Rattle.need_host.proofs.Updates.{any_back}
use Rattle.need_server.specs.Kept.{content_settled, kept_fileset}
use Rattle.need_server.specs.Wants.{all_of, objects_from}
use Rattle.need_server.specs.Laws.{NothingUnsaved}
use Rattle.need_server.proofs.Kept.{settled_object}
use Rattle.need_server.proofs.KeptFiles.{settled_under}

-- what is at rest is kept as it is
rest_content : (content : Content) → is_settled content ≡ true → content_settled content ≡ content
rest_content (Dir entries lists) h = refl
rest_content (File list kept [] None) h = refl
rest_content (File list kept [] (Some len)) h = absurd (search (rules, h))
rest_content (File list kept (byte ∷ rest) None) h = absurd (search (rules, h))
rest_content (File list kept (byte ∷ rest) (Some len)) h = absurd (search (rules, h))

rest_object : (unique : ℕ) (o : Option Object) → option_map_or (λ object. is_settled object.content) o true ≡ true → (let a : Anode = record { unique = unique; object = option_map settled_object o } in a) ≡ (let a : Anode = record { unique = unique; object = o } in a)
rest_object unique None h = refl
rest_object unique (Some object) h = ap (λ content. let a : Anode = record { unique = unique; object = Some (record object { content = content }) } in a) (rest_content object.content h)

rest_anodes : (anodes : List Anode) → list_all (λ anode. option_map_or (λ object. is_settled object.content) anode.object true) anodes ≡ true → map (anode_changed content_settled) anodes ≡ anodes
rest_anodes [] h = refl
rest_anodes (anode ∷ anodes) h =
    ap (λ a. a ∷ map (anode_changed content_settled) anodes) (rest_object anode.unique anode.object (and_left _ _ h)) ∙ ap (λ rest. anode ∷ rest) (rest_anodes anodes (and_right _ _ h))

pub rest_fileset : (fileset : Fileset) → is_at_rest fileset ≡ true → kept_fileset fileset ≡ fileset
rest_fileset fileset h = ap (λ anodes. record fileset { anodes = anodes }) (rest_anodes fileset.anodes h)

pub dir_same : (content : Content) → is_dir content ≡ true → content_settled content ≡ content
dir_same (Dir entries lists) d = refl
dir_same (File list kept unsaved len) d = absurd (search (rules, d))

or_more : (a b c : Bool) → (a || (b || false)) ≡ true → (a || (b || c)) ≡ true
or_more true b c h = refl
or_more false true c h = refl
or_more false false c h = absurd (search (rules, h))

-- a fileset of which nothing under the needs for its objects is unsaved, but for objects that are settled anyway
module _ (tree : Tree) (fileset : Fileset) (found : find (has_id fileset.id) tree.filesets ≡ Some fileset) (formed : IsWellFormedFileset fileset)
    (test : Object → Bool) (update : Bool) (more : Fid → List Need) (others : (object : Object) → test object ≡ false → content_settled object.content ≡ object.content) where
  first_of : (fid : Fid) (rest : List Need) → NothingUnsaved tree (all_of update fid ++ rest) → NothingUnsaved tree (all_of update fid)
  first_of fid rest nothing other part h = nothing other part (or_more (same_fid fid other && shows (Status update) part) (same_fid fid other && shows (Bytes update whole) part) (needs_show rest other part) h)

  rest_of : (fid : Fid) (rest : List Need) → NothingUnsaved tree ((all_of update fid ++ more fid) ++ rest) → NothingUnsaved tree rest
  rest_of fid rest nothing other part h = nothing other part (any_back (λ need. same_fid need.fid other && shows need.kind part) (all_of update fid ++ more fid) rest h)

  abbrev needs_from : ℕ → List Anode → List Need
  needs_from at anodes = flat_map (λ fid. all_of update fid ++ more fid) (objects_from test fileset at anodes)

  abbrev needs_if : ℕ → List Anode → Bool → List Need
  needs_if at rest t = flat_map (λ fid. all_of update fid ++ more fid) (if t then use_of fileset at ∷ objects_from test fileset (at + 1) rest else objects_from test fileset (at + 1) rest)

  rest_from : (at : ℕ) (anodes : List Anode) → ((i : ℕ) (a : Anode) → slice_get anodes i ≡ Some a → object_at fileset.anodes (at + i) ≡ a.object) → NothingUnsaved tree (needs_from at anodes) →
      map (anode_changed content_settled) anodes ≡ anodes
  rest_from at [] there nothing = refl
  rest_from at (anode ∷ rest) there nothing =
      by_object anode.object (ap (λ n. object_at fileset.anodes n) (let e : at ≡ at + 0 = omega arith in e) ∙ there 0 anode refl) nothing
      (λ tail. rest_from (at + 1) rest (λ i a h. ap (λ n. object_at fileset.anodes n) (let e : (at + 1) + i ≡ at + suc i = omega arith in e) ∙ there (suc i) a h) tail)
    where
      by_test : (object : Object) (t : Bool) → test object ≡ t → object_at fileset.anodes at ≡ Some object → NothingUnsaved tree (needs_if at rest t) →
          (NothingUnsaved tree (needs_from (at + 1) rest) → map (anode_changed content_settled) rest ≡ rest) →
          (let a : Anode = record { unique = anode.unique; object = Some (settled_object object) } in a) ∷ map (anode_changed content_settled) rest ≡ (let a : Anode = record { unique = anode.unique; object = Some object } in a) ∷ rest
      by_test object true d e under tail =
          ap (λ content. (let a : Anode = record { unique = anode.unique; object = Some (record object { content = content }) } in a) ∷ map (anode_changed content_settled) rest)
          (settled_under tree fileset update at object found e (formed.sound at object e) (first_of (use_of fileset at) (more (use_of fileset at) ++ needs_from (at + 1) rest) under))
          ∙ ap (λ more. (let a : Anode = record { unique = anode.unique; object = Some object } in a) ∷ more) (tail (rest_of (use_of fileset at) (needs_from (at + 1) rest) under))
      by_test object false d e under tail =
          ap (λ content. (let a : Anode = record { unique = anode.unique; object = Some (record object { content = content }) } in a) ∷ map (anode_changed content_settled) rest) (others object d)
          ∙ ap (λ more. (let a : Anode = record { unique = anode.unique; object = Some object } in a) ∷ more) (tail under)

      by_object : (o : Option Object) → object_at fileset.anodes at ≡ o → NothingUnsaved tree (needs_if at rest (option_map_or test o false)) →
          (NothingUnsaved tree (needs_from (at + 1) rest) → map (anode_changed content_settled) rest ≡ rest) →
          (let a : Anode = record { unique = anode.unique; object = option_map settled_object o } in a) ∷ map (anode_changed content_settled) rest ≡ (let a : Anode = record { unique = anode.unique; object = o } in a) ∷ rest
      by_object None e under tail = ap (λ more. (let a : Anode = record { unique = anode.unique; object = None } in a) ∷ more) (tail under)
      by_object (Some object) e under tail = by_test object (test object) refl e under tail

  pub source_kept : NothingUnsaved tree (needs_from 1 fileset.anodes) → kept_fileset fileset ≡ fileset
  source_kept nothing = ap (λ anodes. record fileset { anodes = anodes }) (rest_from 1 fileset.anodes (λ i a h. stands i a h) nothing)
    where
      stands : (i : ℕ) (a : Anode) → slice_get fileset.anodes i ≡ Some a → object_at fileset.anodes (1 + i) ≡ a.object
      stands i a h =
          let above : 1 + i ≢ 0 = λ z. absurd (omega (arith, z)) in
          object_from fileset.anodes (1 + i) above ∙ ap (λ n. option_and_then (λ a. a.object) (slice_get fileset.anodes n)) (let e : (1 + i) - 1 ≡ i = omega arith in e) ∙ ap (λ o. option_and_then (λ a. a.object) o) h
