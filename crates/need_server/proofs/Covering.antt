-- What a Change changes is under its want.
use Rattle.std.proofs.Common.{◌≡◌, ◌⊎◌, ℕ, ◌==◌, Bool, true, false, ◌&&◌, ◌||◌, cond, List, [], ◌∷◌, ◌++◌, Option, Some, None, Result, Ok, Err, refl, sym, ap, ◌∙◌, subst, inl, inr, rules, arith}
use Rattle.std.specs.Option.{option_map}
use Rattle.std.specs.Prelude.{if◌then◌else◌, max, min, nat_lt, ◌<◌, ◌≤◌}
use Rattle.std.proofs.lemmas.Grind.{common_steps}
use Rattle.std.proofs.lemmas.Bool.Decides.{eqb_tells}
use Rattle.base_types.specs.Ids.{same_fid}
use Rattle.base_types.specs.Opens.{opens_conflict}
use Rattle.base_types.specs.Outcomes.{and_then, either}
use Rattle.base_types.specs.Spans.{has_byte, overlap}
use Rattle.base_types.specs.declared.ids.OpenKind.{OpenKind}
use Rattle.base_types.specs.declared.ids.OpenKind.TheVariants.{Reading, Writing, Executing, Shared, Exclusive}
use Rattle.base_types.specs.declared.span.Span.{Span}
use Rattle.base_types.specs.declared.access.AccessEntry.{AccessEntry}
use Rattle.base_types.specs.declared.ids.Fid.{Fid}
use Rattle.base_types.specs.declared.ids.HostId.{HostId}
use Rattle.base_types.specs.declared.user.User.{User}
use Rattle.tree_calls.specs.declared.call.Call.{Call}
use Rattle.tree_calls.specs.declared.call.Call.TheVariants.{NewFileset, Create, MakeDir, Remove, Rename, Truncate, SetAcl, CloneFileset, Read, Write, List as ListNames, Stat, GetAcl, Sync, Lock, Unlock, OpenFile, CloseFile, MoveFileset}
use Rattle.tree_calls.specs.declared.part.DirEntry.{DirEntry}
use Rattle.tree_calls.specs.declared.place.Which.{Which}
use Rattle.tree_calls.specs.declared.reply.Refusal.{Refusal}
use Rattle.tree_calls.specs.declared.reply.Refusal.TheVariants.{ReadOnly, Exists, InUse, NotEmpty}
use Rattle.tree_objects.specs.declared.content.Object.{Object}
use Rattle.tree_objects.specs.Spans.{whole}
use Rattle.tree_filesets.specs.declared.fileset.Fileset.{Fileset}
use Rattle.tree_filesets.specs.Changing.{write_target, set_access_target}
use Rattle.tree_filesets.specs.Checks.{unless, split_path}
use Rattle.tree_filesets.specs.Creation.{vacancy}
use Rattle.tree_filesets.specs.Removal.{has_entries, fid_of, remove_target}
use Rattle.tree_filesets.specs.Renaming.{rename_target}
use Rattle.tree_filesets.specs.Walk.{object_at, unique_at, found_at, entry_target, insert_target}
use Rattle.tree_filesets.proofs.Targets.{then_ok, unless_ok, ok_is, vacancy_ok}
use Rattle.tree_answers.specs.Finding.{has_id, same_fileset}
use Rattle.tree_laws.proofs.Steps.{no_file, fid_is}
use Rattle.tree_answers.proofs.Followed.{same_fid_itself}
use Rattle.need_host.proofs.Updates.{any_back}
use Rattle.need_host.specs.Questions.{is_change}
use Rattle.token_types.specs.declared.token.Need.{Need}
use Rattle.token_types.specs.Conflicts.{any_conflict, kinds_conflict, needs_conflict}
use Rattle.token_types.specs.declared.token.Kind.{Kind}
use Rattle.token_types.specs.declared.token.Kind.TheVariants.{Bytes, Status, Lock, Opening}
use Rattle.tree_laws.specs.Parts.Part.{ByteAt, Size, Traits, Entries}
use Rattle.tree_laws.specs.Fates.{Fate, Cells, after_fate, nature_listed, names_use, if_reached, new_lists, new_nature, creation, create_fate, remove_fate, rename_fate, fate_row}
use Rattle.tree_laws.specs.Fates.Fate.{Stays, IsCut, IsListed, Turns, Becomes}
use Rattle.tree_laws.specs.Losses.{use_of}
use Rattle.tree_laws.specs.Parts.{Part, Nature, Cell, object_in}
use Rattle.need_server.specs.Laws.{ChangesSo, KeepsKind, has_room}
use Rattle.need_server.specs.Laws.ChangesSo.{Leaves, Lists, Sets, Goes}
use Rattle.need_server.specs.Wants.{all_of, every_use_of, want_for, want_in}
use Rattle.need_host.specs.Shows.{updates, needs_update, can_be}

-- the kinds of all of an object have each of its parts
all_kinds : (part : Part) → can_be part ≡ true → (updates (Status true) part || updates (Bytes true whole) part) ≡ true
all_kinds (ByteAt at) h = inside
  where
    inside : has_byte whole at ≡ true
    inside = grind (arith, common_steps, h)
all_kinds Size h = refl
all_kinds Traits h = refl
all_kinds Entries h = refl

pub of_all : (fid other : Fid) (rest : List Need) (part : Part) → can_be part ≡ true → same_fid fid other ≡ true → needs_update (all_of true fid ++ rest) other part ≡ true
of_all fid other rest part can same = by_kinds (same_fid fid other) (updates (Status true) part) (updates (Bytes true whole) part) (needs_update rest other part) same (all_kinds part can)
  where
    by_kinds : (t a b c : Bool) → t ≡ true → (a || b) ≡ true → ((t && a) || ((t && b) || c)) ≡ true
    by_kinds true true b c s h = refl
    by_kinds true false true c s h = refl
    by_kinds true false false c s h = absurd (search (rules, h))
    by_kinds false a b c s h = absurd (search (rules, s))

-- further needs
pub of_more : (fid other : Fid) (rest : List Need) (part : Part) → needs_update rest other part ≡ true → needs_update (all_of true fid ++ rest) other part ≡ true
of_more fid other rest part h = by_rest (same_fid fid other && updates (Status true) part) (same_fid fid other && updates (Bytes true whole) part) (needs_update rest other part) h
  where
    by_rest : (a b c : Bool) → c ≡ true → (a || (b || c)) ≡ true
    by_rest true b c h = refl
    by_rest false true c h = refl
    by_rest false false c h = h

-- a use that a fid names
named_same : (fileset : Fileset) (anode : ℕ) (fid : Fid) → has_id fid.fileset fileset ≡ true → names_use fileset anode fid ≡ true → same_fid (use_of fileset anode) fid ≡ true
named_same fileset anode fid its h = by_tests (has_id fid.fileset fileset) (anode == fid.anode) (unique_at fileset.anodes anode == fid.unique) its h
  where
    by_tests : (a b c : Bool) → a ≡ true → (b && c) ≡ true → (a && b && c) ≡ true
    by_tests true b c e h = h
    by_tests false b c e h = absurd (search (rules, e))

-- a part for which nothing stands but what all tokens on an object have in common
pub whole_use : (fid : Fid) (kind : Kind) → has_room kind ≡ true
    → any_conflict (record { fid = fid; kind = kind }) (all_of true fid ++ every_use_of fid) ≡ true
whole_use fid kind room = by_kind kind room (same_fid fid fid) (same_fid_itself fid)
  where
    meets : (span : Span) → nat_lt span.from span.to ≡ true → overlap span whole ≡ true
    meets span lt =
        let a : span.from < span.to = grind (arith, common_steps, lt) in
        let b : span.to ≤ 65536 = span.within in
        let c : max span.from 0 < min span.to 65536 = omega (arith, a, b) in
        grind (arith, common_steps, c)

    or_true : (b : Bool) → (b || true) ≡ true
    or_true true = refl
    or_true false = refl

    first : (a b : Bool) → a ≡ true → (a || b) ≡ true
    first true b e = refl
    first false b e = absurd (search (rules, e))

    second : (a b c : Bool) → b ≡ true → (a || (b || c)) ≡ true
    second true b c e = refl
    second false b c e = first b c e

    third : (a b c d : Bool) → c ≡ true → (a || (b || (c || d))) ≡ true
    third true b c d e = refl
    third false b c d e = second b c d e

    fourth : (a b c d e : Bool) → d ≡ true → (a || (b || (c || (d || e)))) ≡ true
    fourth true b c d e h = refl
    fourth false b c d e h = third b c d e h

    both : (a b : Bool) → a ≡ true → b ≡ true → (a && b) ≡ true
    both true b h k = k
    both false b h k = absurd (search (rules, h))

    opens : (kind : OpenKind) → opens_conflict kind Exclusive ≡ true
    opens Reading = refl
    opens Writing = refl
    opens Executing = refl
    opens Shared = refl
    opens Exclusive = refl

    by_kind : (k : Kind) → has_room k ≡ true → (t : Bool) → t ≡ true
        → ((t && kinds_conflict k (Status true)) || ((t && kinds_conflict k (Bytes true whole))
        || ((t && kinds_conflict k (Lock true whole)) || ((t && kinds_conflict k (Opening Exclusive)) || false)))) ≡ true
    by_kind (Bytes update span) room t e =
        second (t && false) (t && ((update || true) && overlap span whole)) ((t && false) || ((t && false) || false))
        (both t ((update || true) && overlap span whole) e (both (update || true) (overlap span whole) (or_true update)
        (meets span room)))
    by_kind (Status update) room t e =
        first (t && (update || true)) ((t && false) || ((t && false) || ((t && false) || false)))
        (both t (update || true) e (or_true update))
    by_kind (Lock writing span) room t e =
        third (t && false) (t && false) (t && ((writing || true) && overlap span whole)) ((t && false) || false)
        (both t ((writing || true) && overlap span whole) e (both (writing || true) (overlap span whole) (or_true writing)
        (meets span room)))
    by_kind (Opening kind) room t e =
        fourth (t && false) (t && false) (t && false) (t && opens_conflict kind Exclusive) false
        (both t (opens_conflict kind Exclusive) e (opens kind))

-- a row that reaches one object
module _ (fileset : Fileset) (fid : Fid) (cells : Cells) where
  abbrev Covered : List Need → Fate → Type 0
  Covered needs becomes = ChangesSo needs fid cells (after_fate becomes cells) ⊎ (object_in fileset fid ≡ None)

  stays : (needs : List Need) → Covered needs Stays
  stays needs = inl (Leaves (λ part. refl))

  -- where the traits are as before the object is what it was
  same_kind : (new : Cells) → new Traits ≡ cells Traits → KeepsKind cells new
  same_kind new e n is = (n, ap (λ (c : Cell (Option Nature)). c.kept) e ∙ is, refl, refl)

  reached : (needs : ℕ → List Need) (becomes : Fate) (checks : Result ℕ Refusal) → ((anode : ℕ) → names_use fileset anode fid ≡ true → Covered (needs anode) becomes) →
      Covered (either checks needs (λ refusal. [])) (if_reached fileset fid becomes checks)
  reached needs becomes (Err refusal) named = stays []
  reached needs becomes (Ok anode) named = by_test (names_use fileset anode fid) refl
    where
      by_test : (b : Bool) → names_use fileset anode fid ≡ b → Covered (needs anode) (if b then becomes else Stays)
      by_test true e = named anode e
      by_test false e = stays (needs anode)

  listed : (which : Which) (list : List AccessEntry) (anode : ℕ) → same_fid (use_of fileset anode) fid ≡ true →
      Covered (record { fid = use_of fileset anode; kind = Status true } ∷ []) (IsListed which list)
  listed which list anode same =
      inl (Lists (ap (λ t. (t && true) || false) same) (λ at. refl) refl refl
      (λ n is. (nature_listed which list n, ap (λ o. option_map (nature_listed which list) o) is, refl, refl)))

  -- Create
  created : (parent : ℕ) (entry : DirEntry) (nature : Nature) → has_id fid.fileset fileset ≡ true → object_at fileset.anodes entry.anode ≡ None →
      Covered (all_of true (use_of fileset parent)) (create_fate fileset fid (Ok (parent, entry, nature)))
  created parent entry nature its vacant = by_new (entry.anode == fid.anode) (entry.unique == fid.unique) refl
    where
      gone : (entry.anode == fid.anode) ≡ true → object_in fileset fid ≡ None
      gone e = elim (eqb_tells entry.anode fid.anode) as (λ _. object_in fileset fid ≡ None) [
        | inl (f, k) ↦ ap (λ o. cond (unique_at fileset.anodes fid.anode == fid.unique) o None) (ap (λ n. object_at fileset.anodes n) (sym k) ∙ vacant) ∙ either_none (unique_at fileset.anodes fid.anode == fid.unique)
        | inr (f, k) ↦ let wrong : false ≡ true = sym f ∙ e in absurd (search (rules, wrong))
      ]
        where
          either_none : (b : Bool) → ◌≡◌ {A = Option Object} (cond b None None) None
          either_none true = refl
          either_none false = refl

      by_parent : (b : Bool) → names_use fileset parent fid ≡ b → Covered (all_of true (use_of fileset parent)) (if b then Turns (Some entry) None else Stays)
      by_parent true e =
          inl (Sets (λ part can. of_all (use_of fileset parent) fid [] part can (named_same fileset parent fid its e))
          (same_kind (after_fate (Turns (Some entry) None) cells) refl))
      by_parent false e = stays (all_of true (use_of fileset parent))

      by_new : (a b : Bool) → (entry.anode == fid.anode) ≡ a → Covered (all_of true (use_of fileset parent)) (if a && b then Becomes (Rattle.tree_laws.specs.Fates.new_values nature) else if names_use fileset parent fid then Turns (Some entry) None else Stays)
      by_new true true e = inr (gone e)
      by_new true false e = by_parent (names_use fileset parent fid) refl
      by_new false b e = by_parent (names_use fileset parent fid) refl

  create_covered : (found : Result (ℕ × DirEntry × Nature) Refusal) → has_id fid.fileset fileset ≡ true → ((made : ℕ × DirEntry × Nature) → found ≡ Ok made → object_at fileset.anodes made.1.anode ≡ None) →
      Covered (either found (λ (parent, entry, nature). all_of true (use_of fileset parent)) (λ refusal. [])) (create_fate fileset fid found)
  create_covered (Ok made) its vacant = created made.0 made.1 made.2 its (vacant made refl)
  create_covered (Err refusal) its vacant = stays []

  -- Remove
  removed : (parent : ℕ) (name : List ℕ) (anode : ℕ) → has_id fid.fileset fileset ≡ true →
      Covered (all_of true (use_of fileset parent) ++ (all_of true (use_of fileset anode) ++ every_use_of (use_of fileset anode))) (remove_fate fileset fid (Ok (parent, name, anode)))
  removed parent name anode its = by_tests (names_use fileset anode fid) (names_use fileset parent fid) refl refl
    where
      rest : List Need
      rest = every_use_of (use_of fileset anode)

      all_used : same_fid (use_of fileset anode) fid ≡ true → (kind : Kind) → has_room kind ≡ true
          → any_conflict (record { fid = fid; kind = kind }) (all_of true (use_of fileset parent) ++ (all_of true (use_of fileset anode) ++ rest)) ≡ true
      all_used same kind room =
          any_back (λ (other : Need). needs_conflict (record { fid = fid; kind = kind }) other) (all_of true (use_of fileset parent)) (all_of true (use_of fileset anode) ++ rest)
          (subst (λ (f : Fid). any_conflict (record { fid = fid; kind = kind }) (all_of true f ++ every_use_of f) ≡ true) (sym (fid_is (use_of fileset anode) fid same)) (whole_use fid kind room))

      by_tests : (a b : Bool) → names_use fileset anode fid ≡ a → names_use fileset parent fid ≡ b →
          Covered (all_of true (use_of fileset parent) ++ (all_of true (use_of fileset anode) ++ rest)) (if a then Becomes Rattle.tree_laws.specs.Fates.no_values else if b then Turns None (Some name) else Stays)
      by_tests true b e f =
          inl (Goes (λ part can. of_more (use_of fileset parent) fid (all_of true (use_of fileset anode) ++ rest) part (of_all (use_of fileset anode) fid rest part can (named_same fileset anode fid its e)))
          (all_used (named_same fileset anode fid its e)) refl)
      by_tests false true e f =
          inl (Sets (λ part can. of_all (use_of fileset parent) fid (all_of true (use_of fileset anode) ++ rest) part can (named_same fileset parent fid its f))
          (same_kind (after_fate (Turns None (Some name)) cells) refl))
      by_tests false false e f = stays (all_of true (use_of fileset parent) ++ (all_of true (use_of fileset anode) ++ rest))

  -- Rename
  renamed : (to from : ℕ) (entry : DirEntry) (name : List ℕ) → has_id fid.fileset fileset ≡ true →
      Covered (all_of true (use_of fileset from) ++ all_of true (use_of fileset to)) (rename_fate fileset fid (Ok (to, entry, from, name)))
  renamed to from entry name its = by_tests (names_use fileset to fid) (names_use fileset from fid) refl refl
    where
      by_tests : (t f : Bool) → names_use fileset to fid ≡ t → names_use fileset from fid ≡ f →
          Covered (all_of true (use_of fileset from) ++ all_of true (use_of fileset to)) (if t || f then Turns (if t then Some entry else None) (if f then Some name else None) else Stays)
      by_tests true f d e =
          inl (Sets (λ part can. of_more (use_of fileset from) fid (all_of true (use_of fileset to)) part (of_all (use_of fileset to) fid [] part can (named_same fileset to fid its d)))
          (same_kind (after_fate (Turns (Some entry) (if f then Some name else None)) cells) refl))
      by_tests false true d e =
          inl (Sets (λ part can. of_all (use_of fileset from) fid (all_of true (use_of fileset to)) part can (named_same fileset from fid its e))
          (same_kind (after_fate (Turns None (Some name)) cells) refl))
      by_tests false false d e = stays (all_of true (use_of fileset from) ++ all_of true (use_of fileset to))

-- where a new object goes nothing is
creation_vacant : (fileset : Fileset) (dir : Bool) (user : User) (path : List (List ℕ)) (made : ℕ × DirEntry × Nature) → creation fileset dir user path ≡ Ok made → object_at fileset.anodes made.1.anode ≡ None
creation_vacant fileset dir user path made h =
    let (writable, a) = unless_ok fileset.read_only ReadOnly _ made h in
    let (parts, b, c) = then_ok (split_path path Exists) _ made a in
    let (at, d, e) = then_ok (insert_target fileset user parts.1 parts.0) _ made c in
    let (free, f, g) = then_ok (vacancy fileset) _ made e in
    let (lists, i, same) = then_ok (new_lists dir at.1.content) _ made g in
    subst (λ n. object_at fileset.anodes n ≡ None) (ap (λ m. m.1.anode) (ok_is _ made same)) (vacancy_ok fileset free f).vacant

unless_is : {A : Type 0} (b : Bool) (refusal : Refusal) (next : Result A Refusal) → b ≡ false → unless b refusal next ≡ next
unless_is b refusal next h = ap (λ t. unless t refusal next) h

then_is : {A B E : Type 0} (found : Result A E) (value : A) (next : A → Result B E) → found ≡ Ok value → and_then found next ≡ next value
then_is found value next h = ap (λ r. and_then r next) h

-- what a Remove reaches doesn't hang on what is in use
removed_alone : (fileset : Fileset) (in_use : Fid → Bool) (user : User) (path : List (List ℕ)) (found : ℕ × List ℕ × ℕ) → remove_target fileset in_use user path ≡ Ok found → remove_target fileset (λ fid. false) user path ≡ Ok found
unfolding remove_target
removed_alone fileset in_use user path found h =
    let (writable, a) = unless_ok fileset.read_only ReadOnly _ found h in
    let (parts, b, c) = then_ok (split_path path InUse) _ found a in
    let (at, d, e) = then_ok (entry_target fileset user parts.1 parts.0) _ found c in
    let (there, f, g) = then_ok (found_at at.1.anode (object_at fileset.anodes at.1.anode)) _ found e in
    let (empty, i) = unless_ok (has_entries there.1.content) NotEmpty _ found g in
    let (unused, same) = unless_ok (in_use (fid_of fileset at.1)) InUse (Ok (at.0, parts.0, there.0)) found i in
    unless_is fileset.read_only ReadOnly _ writable ∙ then_is (split_path path InUse) parts _ b ∙ then_is (entry_target fileset user parts.1 parts.0) at _ d
    ∙ then_is (found_at at.1.anode (object_at fileset.anodes at.1.anode)) there _ f ∙ unless_is (has_entries there.1.content) NotEmpty (Ok (at.0, parts.0, there.0)) empty ∙ same

remove_covered : (fileset : Fileset) (fid : Fid) (cells : Cells) (found alone : Result (ℕ × List ℕ × ℕ) Refusal) → has_id fid.fileset fileset ≡ true → ((there : ℕ × List ℕ × ℕ) → found ≡ Ok there → alone ≡ Ok there) →
    Covered fileset fid cells
    (either alone (λ (parent, name, anode). all_of true (use_of fileset parent) ++ all_of true (use_of fileset anode) ++ every_use_of (use_of fileset anode)) (λ refusal. []))
    (remove_fate fileset fid found)
remove_covered fileset fid cells (Ok there) alone its same =
    subst (λ r. Covered fileset fid cells (either r (λ (parent, name, anode). all_of true (use_of fileset parent) ++ all_of true (use_of fileset anode) ++ every_use_of (use_of fileset anode)) (λ refusal. [])) (remove_fate fileset fid (Ok there)))
    (sym (same there refl))
    (removed fileset fid cells there.0 there.1 there.2 its)
remove_covered fileset fid cells (Err refusal) alone its same = inl (Leaves (λ part. refl))

rename_covered : (fileset : Fileset) (user : User) (from to : List (List ℕ)) (fid : Fid) (cells : Cells) (found : Result _ Refusal) → has_id fid.fileset fileset ≡ true → found ≡ rename_target fileset user from to →
    Covered fileset fid cells (either found (λ move. all_of true (use_of fileset move.from) ++ all_of true (use_of fileset move.to)) (λ refusal. []))
    (rename_fate fileset fid (and_then found (λ move. Ok (move.to, move.entry, move.from, move.name))))
rename_covered fileset user from to fid cells (Ok move) its e = renamed fileset fid cells move.to move.from move.entry move.name its
rename_covered fileset user from to fid cells (Err refusal) its e = inl (Leaves (λ part. refl))

-- whether a Rename stays in its fileset
abbrev pub is_within : Call → Bool
is_within (Rename from to) = same_fileset from to
is_within call = true

-- each Change in a fileset that decides it, by the fate of an object there
pub covered_in : (fileset : Fileset) (in_use : Fid → Bool) (host : HostId) (user : User) (call : Call) (fid : Fid) (cells : Cells) → is_change call ≡ true → is_within call ≡ true → has_id fid.fileset fileset ≡ true →
    Covered fileset fid cells (want_in fileset user call) (fate_row fileset in_use host user call fid)
unfolding want_in
covered_in fileset in_use host user (Create place) fid cells is_change within its =
    create_covered fileset fid cells (creation fileset false user place.path) its (creation_vacant fileset false user place.path)
covered_in fileset in_use host user (MakeDir place) fid cells is_change within its =
    create_covered fileset fid cells (creation fileset true user place.path) its (creation_vacant fileset true user place.path)
covered_in fileset in_use host user (Remove place) fid cells is_change within its =
    remove_covered fileset fid cells (remove_target fileset in_use user place.path) (remove_target fileset (λ fid. false) user place.path) its (removed_alone fileset in_use user place.path)
covered_in fileset in_use host user (Rename from to) fid cells is_change within its =
    subst (λ t. Covered fileset fid cells (if t then want_for (rename_target fileset user from.path to.path) (λ move. all_of true (use_of fileset move.from) ++ all_of true (use_of fileset move.to)) else []) (fate_row fileset in_use host user (Rename from to) fid))
    (sym within) (rename_covered fileset user from.path to.path fid cells (rename_target fileset user from.path to.path) its refl)
covered_in fileset in_use host user (Truncate place len) fid cells is_change within its =
    reached fileset fid cells (λ anode. all_of true (use_of fileset anode)) (IsCut len) (write_target fileset user place.path len)
    (λ anode named. inl (Sets (λ part can. of_all (use_of fileset anode) fid [] part can (named_same fileset anode fid its named)) (same_kind fileset fid cells (after_fate (IsCut len) cells) refl)))
covered_in fileset in_use host user (SetAcl place which list) fid cells is_change within its =
    reached fileset fid cells (λ anode. record { fid = use_of fileset anode; kind = Status true } ∷ []) (IsListed which list) (set_access_target fileset user place.path which)
    (λ anode named. listed fileset fid cells which list anode (named_same fileset anode fid its named))
covered_in fileset in_use host user (Lock label place writing from len) fid cells is_change within its = inl (Leaves (λ part. refl))
covered_in fileset in_use host user (OpenFile label place kind) fid cells is_change within its = inl (Leaves (λ part. refl))
covered_in fileset in_use host user (NewFileset server name objects owner) fid cells is_change within its = inl (Leaves (λ part. refl))
covered_in fileset in_use host user (CloneFileset server source new) fid cells is_change within its = inl (Leaves (λ part. refl))
covered_in fileset in_use host user (MoveFileset server name to) fid cells is_change within its = inl (Leaves (λ part. refl))
covered_in fileset in_use host user (Read place from len) fid cells is_change within its = no_file is_change
covered_in fileset in_use host user (Write place from bytes) fid cells is_change within its = no_file is_change
covered_in fileset in_use host user (ListNames place) fid cells is_change within its = no_file is_change
covered_in fileset in_use host user (Stat place) fid cells is_change within its = no_file is_change
covered_in fileset in_use host user (GetAcl place which) fid cells is_change within its = no_file is_change
covered_in fileset in_use host user (Sync place) fid cells is_change within its = no_file is_change
covered_in fileset in_use host user (Unlock label) fid cells is_change within its = no_file is_change
covered_in fileset in_use host user (CloseFile label) fid cells is_change within its = no_file is_change
