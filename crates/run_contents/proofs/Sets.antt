-- What a Change sets of parts, and under which want.
use Rattle.std.proofs.Common.{◌≡◌, ℕ, ◌⊎◌, ◌==◌, ◌||◌, ◌&&◌, nat_lt, Bool, true, false, if◌then◌else◌, List, [], ◌∷◌}
use Rattle.std.proofs.Common.{Option, Some, None, inl, inr, refl, sym, ap, ◌∙◌, subst, eqb-true}
use Rattle.std.proofs.lemmas.Bool.{and_parts, eqb-false, false≢true}
use Rattle.std.specs.List.{find, list_all}
use Rattle.std.specs.Option.{option_map_or}
use Rattle.std.specs.Prelude.{is_none, is_some}
use Rattle.base_types.specs.Ids.{same_fid}
use Rattle.base_types.specs.declared.ids.Fid.{Fid}
use Rattle.base_types.specs.declared.ids.HostId.{HostId}
use Rattle.base_types.specs.declared.limits.TheConstants.{FILE_BYTES_MAX}
use Rattle.base_types.specs.declared.user.User.{User}
use Rattle.tree_calls.specs.Rosters.{user_of}
use Rattle.tree_calls.specs.declared.call.Call.{Call}
use Rattle.tree_filesets.specs.declared.fileset.Fileset.{Fileset}
use Rattle.need_host.specs.Looks.{kept_view}
use Rattle.need_host.specs.Questions.{is_change}
use Rattle.need_host.specs.Shows.{can_be, needs_update, updates}
use Rattle.tree_objects.specs.declared.content.Object.{Object}
use Rattle.tree_answers.specs.Answers.{answer_for, answer_to, for_user}
use Rattle.tree_answers.specs.Finding.{has_id}
use Rattle.tree_answers.specs.WellFormed.{IsWellFormed}
use Rattle.tree_answers.specs.declared.tree.Tree.{Tree}
use Rattle.need_server.proofs.Covered.{changes_are_so}
use Rattle.need_server.proofs.WantsThere.{wants_are_there}
use Rattle.need_server.specs.Laws.{ChangesSo, has_room}
use Rattle.need_server.specs.Laws.ChangesSo.{Goes, Leaves, Lists, Sets as SetsAll}
use Rattle.need_server.specs.Wants.{want}
use Rattle.token_types.specs.Conflicts.{any_conflict}
use Rattle.token_types.specs.declared.token.Kind.{Kind}
use Rattle.token_types.specs.declared.token.Need.{Need}
use Rattle.tree_laws.proofs.Steps.{fid_is}
use Rattle.tree_laws.specs.Parts.{Cell, Nature, Part, Seen, cell_at, cell_found, cell_in, no_cell, object_in}
use Rattle.tree_laws.specs.Parts.Part.{ByteAt, Entries, Size, Traits}
use Rattle.run_parts.specs.Cells.{Does, kept_after}
use Rattle.run_parts.specs.Cells.Does.{Nothing, Sets}
use Rattle.run_contents.specs.Doing.{changes, comes, wanted_by}

none_of : {X : Type 0} (o : Option X) → is_none o ≡ true → o ≡ None
none_of None e = refl
none_of (Some x) e = absurd (false≢true e)

-- of an object that isn't there nothing is seen
absent : (tree : Tree) (fid : Fid) → kept_view tree fid Traits ≡ None → (part : Part)
    → kept_view tree fid part ≡ (no_cell part).kept
absent tree fid e part = go (find (has_id fid.fileset) tree.filesets) e
  where
    by : (read_only : Bool) (o : Option Object) → (cell_found read_only o Traits).kept ≡ None
        → (cell_found read_only o part).kept ≡ (no_cell part).kept
    by read_only None e = refl
    by read_only (Some object) e = absurd (cc)

    go : (o : Option Fileset) → (cell_in o fid Traits).kept ≡ None → (cell_in o fid part).kept ≡ (no_cell part).kept
    go None e = refl
    go (Some fileset) e = by fileset.read_only (object_in fileset fid) e

module _ (tree : Tree) (w : IsWellFormed tree) (host : HostId) (call : Call) (change : is_change call ≡ true) where
  abbrev new : Tree
  new = (answer_to tree host call).tree

  abbrev needs : List Need
  needs = wanted_by tree host call

  so_user : (user : User) → user_of tree.roster host ≡ Some user → (fid : Fid)
      → ChangesSo needs fid (cell_at tree fid) (cell_at new fid) ⊎ (kept_view tree fid Traits ≡ None)
  so_user user e fid =
      subst (λ (o : Option User). ChangesSo (option_map_or (λ user. want tree user call) o []) fid (cell_at tree fid)
      (cell_at new fid) ⊎ (kept_view tree fid Traits ≡ None)) (sym e)
      (changes_are_so tree host user call fid w e change)

  so_nobody : user_of tree.roster host ≡ None → (fid : Fid)
      → ChangesSo needs fid (cell_at tree fid) (cell_at new fid) ⊎ (kept_view tree fid Traits ≡ None)
  unfolding answer_to
  so_nobody e fid =
      inl (subst (λ (o : Option User). ChangesSo needs fid (cell_at tree fid)
      (cell_at (for_user tree o (answer_for tree host call)).tree fid)) (sym e) (Leaves (λ part. refl)))

  so : (fid : Fid) → ChangesSo needs fid (cell_at tree fid) (cell_at new fid) ⊎ (kept_view tree fid Traits ≡ None)
  so fid = go (user_of tree.roster host) refl
    where
      go : (o : Option User) → user_of tree.roster host ≡ o
          → ChangesSo needs fid (cell_at tree fid) (cell_at new fid) ⊎ (kept_view tree fid Traits ≡ None)
      go None e = so_nobody e fid
      go (Some user) e = so_user user e fid

  -- what is wanted for update is of an object that is there
  there : (fid : Fid) (part : Part) → needs_update needs fid part ≡ true → kept_view tree fid Traits ≡ None → ⊥
  there fid part update gone = go (user_of tree.roster host) update
    where
      of_list : (ns : List Need) → list_all (λ need. is_some (cell_at tree need.fid Traits).kept) ns ≡ true
          → needs_update ns fid part ≡ true → ⊥
      of_list [] all e = false≢true e
      of_list (n ∷ ns) all e = by (of_list ns q.1) (same_fid n.fid fid && updates n.kind part) refl e
        where
          q : (is_some (cell_at tree n.fid Traits).kept ≡ true)
              × (list_all (λ need. is_some (cell_at tree need.fid Traits).kept) ns ≡ true)
          q = and_parts (is_some (cell_at tree n.fid Traits).kept)
              (list_all (λ (need : Need). is_some (cell_at tree need.fid Traits).kept) ns) all

          by : (needs_update ns fid part ≡ true → ⊥) → (b : Bool) → (same_fid n.fid fid && updates n.kind part) ≡ b
              → (b || needs_update ns fid part) ≡ true → ⊥
          by rest false d e = rest e
          by rest true d e =
              let file : n.fid ≡ fid = fid_is n.fid fid (and_parts (same_fid n.fid fid) (updates n.kind part) d).0 in
              false≢true (sym (ap is_some (ap (λ (f : Fid). kept_view tree f Traits) file ∙ gone)) ∙ q.0)

      go : (o : Option User) → needs_update (option_map_or (λ user. want tree user call) o []) fid part ≡ true → ⊥
      go None e = false≢true e
      go (Some user) e = of_list (want tree user call) (wants_are_there tree user call w) e

  -- where a Change's want doesn't update a part, and the object doesn't come, the part is as before
  unchanged : (fid : Fid) (part : Part) → (part' : Part) → part' ≡ part → can_be part ≡ true
      → needs_update needs fid part ≡ false → comes tree new fid ≡ false → kept_view tree fid part ≡ kept_view new fid part
  unchanged fid part part' same can none stays = elim (so fid) [
    | inl c ↦ by c part can none
    | inr gone ↦ absent tree fid gone part ∙ sym (absent new fid (still gone) part)
  ]
    where
      still : kept_view tree fid Traits ≡ None → kept_view new fid Traits ≡ None
      still gone = go (kept_view new fid Traits) refl
        where
          go : (o : Option Nature) → kept_view new fid Traits ≡ o → kept_view new fid Traits ≡ None
          go None e = e
          go (Some n) e = absurd (false≢true (sym stays
              ∙ (ap (λ a. is_none a && is_some (kept_view new fid Traits)) gone ∙ ap is_some e)))

      by : ChangesSo needs fid (cell_at tree fid) (cell_at new fid) → (p : Part) → can_be p ≡ true
          → needs_update needs fid p ≡ false → kept_view tree fid p ≡ kept_view new fid p
      by (Leaves all) p can none = ap (λ (c : Cell (Seen p)). c.kept) (sym (all p))
      by (Lists update bytes size entries kind) (ByteAt at) can none = ap (λ (c : Cell ℕ). c.kept) (sym (bytes at))
      by (Lists update bytes size entries kind) Size can none = ap (λ (c : Cell ℕ). c.kept) (sym size)
      by (Lists update bytes size entries kind) Traits can none = absurd (false≢true (sym none ∙ update))
      by (Lists update bytes size entries kind) Entries can none = ap (λ (c : Cell (Seen Entries)). c.kept) (sym entries)
      by (SetsAll update kind) p can none = absurd (false≢true (sym none ∙ update p can))
      by (Goes update every gone) p can none = absurd (false≢true (sym none ∙ update p can))

  -- what is set is what the Change leaves
  pub set_is : (fid : Fid) (part : Part)
      → kept_after part (changes needs tree new fid part) (kept_view tree fid part) ≡ kept_view new fid part
  set_is fid (ByteAt at) = number (kept_view tree fid (ByteAt at) == kept_view new fid (ByteAt at)) refl
    where
      number : (b : Bool) → (kept_view tree fid (ByteAt at) == kept_view new fid (ByteAt at)) ≡ b
          → kept_after (ByteAt at) (if b then Nothing else Sets (kept_view new fid (ByteAt at)))
          (kept_view tree fid (ByteAt at)) ≡ kept_view new fid (ByteAt at)
      number true e = eqb-true (kept_view tree fid (ByteAt at)) (kept_view new fid (ByteAt at)) e
      number false e = refl
  set_is fid Size = number (kept_view tree fid Size == kept_view new fid Size) refl
    where
      number : (b : Bool) → (kept_view tree fid Size == kept_view new fid Size) ≡ b
          → kept_after Size (if b then Nothing else Sets (kept_view new fid Size)) (kept_view tree fid Size)
          ≡ kept_view new fid Size
      number true e = eqb-true (kept_view tree fid Size) (kept_view new fid Size) e
      number false e = refl
  set_is fid Traits = go (needs_update needs fid Traits) (comes tree new fid) refl refl
    where
      go : (a b : Bool) → needs_update needs fid Traits ≡ a → comes tree new fid ≡ b
          → kept_after Traits (if a || b then Sets (kept_view new fid Traits) else Nothing) (kept_view tree fid Traits)
          ≡ kept_view new fid Traits
      go true b e d = refl
      go false true e d = refl
      go false false e d = unchanged fid Traits Traits refl refl e d
  set_is fid Entries = go (needs_update needs fid Entries) (comes tree new fid) refl refl
    where
      go : (a b : Bool) → needs_update needs fid Entries ≡ a → comes tree new fid ≡ b
          → kept_after Entries (if a || b then Sets (kept_view new fid Entries) else Nothing) (kept_view tree fid Entries)
          ≡ kept_view new fid Entries
      go true b e d = refl
      go false true e d = refl
      go false false e d = unchanged fid Entries Entries refl refl e d

  -- a part that is set is under the want, for update, or of an object that wasn't there
  abbrev Under : Fid → Part → Type 0
  Under fid part = (kept_view tree fid Traits ≡ None) ⊎ (can_be part ≡ true → needs_update needs fid part ≡ true)

  -- a part that isn't what it was
  differs : (fid : Fid) (part : Part) → (kept_view tree fid part ≡ kept_view new fid part → ⊥) → Under fid part
  differs fid part two = elim (so fid) [
    | inr gone ↦ inl gone
    | inl c ↦ inr (by c part two)
  ]
    where
      by : ChangesSo needs fid (cell_at tree fid) (cell_at new fid) → (p : Part)
          → (kept_view tree fid p ≡ kept_view new fid p → ⊥) → can_be p ≡ true → needs_update needs fid p ≡ true
      by (Leaves all) p two can = absurd (two (ap (λ (c : Cell (Seen p)). c.kept) (sym (all p))))
      by (Lists update bytes size entries kind) (ByteAt at) two can =
          absurd (two (ap (λ (c : Cell ℕ). c.kept) (sym (bytes at))))
      by (Lists update bytes size entries kind) Size two can = absurd (two (ap (λ (c : Cell ℕ). c.kept) (sym size)))
      by (Lists update bytes size entries kind) Traits two can = update
      by (Lists update bytes size entries kind) Entries two can =
          absurd (two (ap (λ (c : Cell (Seen Entries)). c.kept) (sym entries)))
      by (SetsAll update kind) p two can = update p can
      by (Goes update every gone) p two can = update p can

  pub set_under : (fid : Fid) (part : Part) (x : Seen part) → changes needs tree new fid part ≡ Sets x → Under fid part
  set_under fid (ByteAt at) x e = number (kept_view tree fid (ByteAt at) == kept_view new fid (ByteAt at)) refl e
    where
      number : (b : Bool) → (kept_view tree fid (ByteAt at) == kept_view new fid (ByteAt at)) ≡ b
          → (if b then Nothing else Sets (kept_view new fid (ByteAt at))) ≡ Sets x → Under fid (ByteAt at)
      number true d e = absurd (let q : Nothing ≡ Sets x = e in cc)
      number false d e = differs fid (ByteAt at)
          (eqb-false (kept_view tree fid (ByteAt at)) (kept_view new fid (ByteAt at)) d)
  set_under fid Size x e = number (kept_view tree fid Size == kept_view new fid Size) refl e
    where
      number : (b : Bool) → (kept_view tree fid Size == kept_view new fid Size) ≡ b
          → (if b then Nothing else Sets (kept_view new fid Size)) ≡ Sets x → Under fid Size
      number true d e = absurd (let q : Nothing ≡ Sets x = e in cc)
      number false d e = differs fid Size (eqb-false (kept_view tree fid Size) (kept_view new fid Size) d)
  set_under fid Traits x e = touched Traits (needs_update needs fid Traits) (comes tree new fid) refl refl e
    where
      touched : (p : Part) (a b : Bool) → needs_update needs fid Traits ≡ a → comes tree new fid ≡ b
          → (if a || b then Sets (kept_view new fid Traits) else Nothing) ≡ Sets x → Under fid Traits
      touched p true b c d e = inr (λ can. c)
      touched p false true c d e = inl (none_of (kept_view tree fid Traits) (and_parts _ _ d).0)
      touched p false false c d e = absurd (let q : Nothing ≡ Sets x = e in cc)
  set_under fid Entries x e = touched (needs_update needs fid Entries) (comes tree new fid) refl refl e
    where
      touched : (a b : Bool) → needs_update needs fid Entries ≡ a → comes tree new fid ≡ b
          → (if a || b then Sets (kept_view new fid Entries) else Nothing) ≡ Sets x → Under fid Entries
      touched true b c d e = inr (λ can. c)
      touched false true c d e = inl (none_of (kept_view tree fid Traits) (and_parts _ _ d).0)
      touched false false c d e = absurd (let q : Nothing ≡ Sets x = e in cc)

  -- with the size all bytes are
  pub set_whole : (fid : Fid) (x : ℕ) → changes needs tree new fid Size ≡ Sets x → (kept_view tree fid Traits ≡ None)
      ⊎ ((at : ℕ) → nat_lt at FILE_BYTES_MAX ≡ true → needs_update needs fid (ByteAt at) ≡ true)
  set_whole fid x e = number (kept_view tree fid Size == kept_view new fid Size) refl e
    where
      by : ChangesSo needs fid (cell_at tree fid) (cell_at new fid)
          → (kept_view tree fid Size ≡ kept_view new fid Size → ⊥) → (at : ℕ) → nat_lt at FILE_BYTES_MAX ≡ true
          → needs_update needs fid (ByteAt at) ≡ true
      by (Leaves all) two at can = absurd (two (ap (λ (c : Cell ℕ). c.kept) (sym (all Size))))
      by (Lists update bytes size entries kind) two at can =
          absurd (two (ap (λ (c : Cell ℕ). c.kept) (sym size)))
      by (SetsAll update kind) two at can = update (ByteAt at) can
      by (Goes update every gone) two at can = update (ByteAt at) can

      number : (b : Bool) → (kept_view tree fid Size == kept_view new fid Size) ≡ b
          → (if b then Nothing else Sets (kept_view new fid Size)) ≡ Sets x → (kept_view tree fid Traits ≡ None)
          ⊎ ((at : ℕ) → nat_lt at FILE_BYTES_MAX ≡ true → needs_update needs fid (ByteAt at) ≡ true)
      number true d e = absurd (let q : Nothing ≡ Sets x = e in cc)
      number false d e = elim (so fid) [
        | inr gone ↦ inl gone
        | inl c ↦ inr (by c (eqb-false (kept_view tree fid Size) (kept_view new fid Size) d))
      ]

  same_set : (a b : Option Nature) → (let l : Does (Option Nature) = Sets a in let r : Does (Option Nature) = Sets b in
      l ≡ r) → a ≡ b
  same_set a b e = cc

  -- what sets the traits touches the object, and leaves these
  touched : (fid : Fid) (x : Option Nature) → changes needs tree new fid Traits ≡ Sets x
      → (kept_view new fid Traits ≡ x)
      × ((needs_update needs fid Traits ≡ true) ⊎ ((kept_view tree fid Traits ≡ None) × (is_some x ≡ true)))
  touched fid x e = go (needs_update needs fid Traits) (comes tree new fid) refl refl e
    where
      go : (a b : Bool) → needs_update needs fid Traits ≡ a → comes tree new fid ≡ b
          → (if a || b then Sets (kept_view new fid Traits) else Nothing) ≡ Sets x → (kept_view new fid Traits ≡ x)
          × ((needs_update needs fid Traits ≡ true) ⊎ ((kept_view tree fid Traits ≡ None) × (is_some x ≡ true)))
      go true b c d e = (same_set (kept_view new fid Traits) x e, inl c)
      go false true c d e =
          let q = and_parts (is_none (kept_view tree fid Traits)) (is_some (kept_view new fid Traits)) d in
          let is = same_set (kept_view new fid Traits) x e in
          (is, inr (none_of (kept_view tree fid Traits) q.0, ap is_some (sym is) ∙ q.1))
      go false false c d e = absurd (let q : Nothing ≡ Sets x = e in cc)

  -- an object that goes has all that others have of it in the want's way
  pub set_gone : (fid : Fid) (kind : Kind) → changes needs tree new fid Traits ≡ Sets None → has_room kind ≡ true
      → any_conflict (record { fid = fid; kind = kind }) needs ≡ true
  set_gone fid kind e room =
      let q = touched fid None e in
      elim q.1 [
        | inr c ↦ absurd (false≢true c.1)
        | inl update ↦ elim (so fid) [
          | inr gone ↦ absurd (there fid Traits update gone)
          | inl c ↦ by c update q.0
        ]
      ]
    where
      was : needs_update needs fid Traits ≡ true → ((n : Nature) → kept_view tree fid Traits ≡ Some n → ⊥) → ⊥
      was update never = go (kept_view tree fid Traits) refl
        where
          go : (o : Option Nature) → kept_view tree fid Traits ≡ o → ⊥
          go None e = there fid Traits update e
          go (Some n) e = never n e

      by : ChangesSo needs fid (cell_at tree fid) (cell_at new fid) → needs_update needs fid Traits ≡ true
          → kept_view new fid Traits ≡ None → any_conflict (record { fid = fid; kind = kind }) needs ≡ true
      by (Leaves all) update none =
          absurd (there fid Traits update (ap (λ (c : Cell (Option Nature)). c.kept) (sym (all Traits)) ∙ none))
      by (Lists also bytes size entries keeps) update none =
          absurd (was update (λ n is. let m = keeps n is in let q : None ≡ Some m.0 = sym none ∙ m.1 in cc))
      by (SetsAll also keeps) update none =
          absurd (was update (λ n is. let m = keeps n is in let q : None ≡ Some m.0 = sym none ∙ m.1 in cc))
      by (Goes also every gone) update none = every kind room

  -- what is there stays a directory or a file, of a clone or not
  pub set_kind : (fid : Fid) (old now : Nature) → changes needs tree new fid Traits ≡ Sets (Some now)
      → kept_view tree fid Traits ≡ Some old → (now.dir ≡ old.dir) × (now.read_only ≡ old.read_only)
  set_kind fid old now e was = elim (so fid) [
    | inr gone ↦ absurd (let q : None ≡ Some old = sym gone ∙ was in cc)
    | inl c ↦ by c
  ]
    where
      is : kept_view new fid Traits ≡ Some now
      is = (touched fid (Some now) e).0

      same : (m : Nature) → kept_view new fid Traits ≡ Some m → m ≡ now
      same m e = let q : Some m ≡ Some now = sym e ∙ is in cc

      by : ChangesSo needs fid (cell_at tree fid) (cell_at new fid)
          → (now.dir ≡ old.dir) × (now.read_only ≡ old.read_only)
      by (Leaves all) =
          let one : old ≡ now = same old (ap (λ (c : Cell (Option Nature)). c.kept) (all Traits) ∙ was) in
          (ap (λ (n : Nature). n.dir) (sym one), ap (λ (n : Nature). n.read_only) (sym one))
      by (Lists also bytes size entries keeps) =
          let m = keeps old was in
          let one : m.0 ≡ now = same m.0 m.1 in
          (ap (λ (n : Nature). n.dir) (sym one) ∙ m.2, ap (λ (n : Nature). n.read_only) (sym one) ∙ m.3)
      by (SetsAll also keeps) =
          let m = keeps old was in
          let one : m.0 ≡ now = same m.0 m.1 in
          (ap (λ (n : Nature). n.dir) (sym one) ∙ m.2, ap (λ (n : Nature). n.read_only) (sym one) ∙ m.3)
      by (Goes also every gone) = absurd (let q : None ≡ Some now = sym gone ∙ is in cc)
