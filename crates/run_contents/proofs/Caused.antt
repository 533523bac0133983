-- What a server applies by the cause of a step meets the rules of contents.
use Rattle.std.proofs.Common.{Bool, List, None, Option, Some, [], ap, arith, false, inl, inr, length, nat_lt, refl}
use Rattle.std.proofs.Common.{subst, suc, sym, true, ℕ, ◌&&◌, ◌++◌, ◌<◌, ◌==◌, ◌||◌, ◌∙◌, ◌∷◌, ◌≡◌}
use Rattle.std.proofs.lemmas.Bool.{and_parts, false≢true}
use Rattle.std.proofs.lemmas.Grind.{common_steps}
use Rattle.std.specs.List.{find, list_all}
use Rattle.std.specs.Option.{option_map_or}
use Rattle.std.specs.Prelude.{if◌then◌else◌, is_some, map, not, unwrap_or}
use Rattle.base_types.specs.Ids.{same_fid}
use Rattle.base_types.specs.declared.ids.Fid.{Fid}
use Rattle.base_types.specs.declared.ids.FilesetId.{FilesetId}
use Rattle.base_types.specs.declared.ids.HostId.{HostId}
use Rattle.base_types.specs.declared.ids.ServerId.{ServerId}
use Rattle.tree_calls.specs.declared.part.Piece.{Piece}
use Rattle.tree_calls.specs.declared.reply.Reply.TheVariants.{Ok as Fine}
use Rattle.tree_filesets.specs.Laws.{is_file_at}
use Rattle.tree_filesets.specs.Walk.{object_at, unique_at}
use Rattle.tree_filesets.specs.declared.fileset.Fileset.{Fileset}
use Rattle.need_host.specs.Looks.{kept_view}
use Rattle.tree_objects.specs.Objects.{is_dir}
use Rattle.tree_objects.specs.declared.content.Object.{Object}
use Rattle.tree_answers.proofs.Followed.{same_fid_itself}
use Rattle.tree_answers.specs.Finding.{has_id}
use Rattle.tree_answers.specs.declared.tree.Tree.{Tree}
use Rattle.message_types.specs.declared.giving.Ends.{Ends as EndsOf}
use Rattle.message_types.specs.declared.giving.Give.{Give}
use Rattle.message_types.specs.declared.message.Body.TheVariants.{Down, GiveBack}
use Rattle.message_types.specs.declared.message.Message.{Message}
use Rattle.tree_laws.proofs.Steps.{fid_is}
use Rattle.tree_laws.specs.Parts.{Nature, Part, Seen, cell_found, cell_in, nature_of}
use Rattle.tree_laws.specs.Parts.Part.{ByteAt, Entries, Size, Traits}
use Rattle.run_rules.specs.Doings.{Doing, HasGoneAway, HasGoneDown as IsDownHost, Here, IsApplied as TakenIt, IsLive}
use Rattle.run_rules.specs.Doings.{epoch}
use Rattle.run_rules.specs.Doings.Doing.{Sent, Took}
use Rattle.run_rules.specs.Kept.{filesets_through, length_given, pieces_in, pieces_of, takes_gifts, tree_given}
use Rattle.run_rules.specs.ServerDecides.{FirstDown, FirstGiven, ServerApplies, by_cause, ended_by, span_of, stored_of}
use Rattle.run_rules.specs.Tokens.{number_of}
use Rattle.run_rules.specs.Views.{byte_of}
use Rattle.run_rules.specs.declared.applied.Applied.TheVariants.{Done as IsDone, IsDown, Replied, Stored}
use Rattle.run_rules.specs.declared.applied.Applied.TheVariants.{Moves as IsMoved, Wants as IsWanted}
use Rattle.run_tokens.specs.TokenLaws.{Applies}
use Rattle.run_parts.proofs.Cells.{cases_host}
use Rattle.run_parts.specs.Cells.{Does, kept_after as kept_after_part}
use Rattle.run_parts.specs.Cells.Does.{Loses, Nothing, Sets, Stores}
use Rattle.run_parts.specs.Contents.{Contents, Fits, IsWritable, ServerShows, kept, site}
use Rattle.run_parts.specs.Deeds.{Deed, acts_in}
use Rattle.run_contents.proofs.Bodies.{cases_nat, here, is_down, is_give, live, tag, two}
use Rattle.run_contents.proofs.KeptGives.{both, gives_keep}
use Rattle.run_contents.proofs.Sent.{At, Fine as IsFine, all_alike, all_roots, unsent}
use Rattle.run_contents.specs.Doing.{does_first, stores_part, stores_some}
use Rattle.run_contents.specs.Gives.{IsKept, part_given}
use Rattle.run_contents.specs.Steps.{IsOfJournal, gives}
use Rattle.run_tokens.proofs.Words.{made_at}
use Rattle.run_rules.specs.declared.applied.Applied.{Applied}
use Rattle.run_rules.specs.declared.step.Cause.{Cause}
use Rattle.run_rules.specs.declared.step.Cause.TheVariants.{Message as Came}
use Rattle.run_tokens.proofs.Unmoved.{put_on}
use Rattle.run_rules.specs.declared.step.Step.{Step}

-- a byte lies below the size that is left
abbrev BelowSize : ℕ → Part → Type 0
BelowSize size (ByteAt q) = nat_lt q size ≡ true
BelowSize size _ = Unit {0}

-- what a cause applies: a give-back is stored first, of a file that takes it; the rest changes no fileset
abbrev quiet_one : Applied → Bool
quiet_one (Stored h f ss n) = false
quiet_one (IsDone x) = false
quiet_one (Replied x) = true
quiet_one (IsDown h) = true
quiet_one (IsMoved move) = true
quiet_one (IsWanted x) = true

abbrev good : Tree → List Applied → Bool
good tree [] = true
good tree (Stored h f ss n ∷ rest) = takes_gifts tree f && list_all quiet_one rest
good tree (Replied x ∷ rest) = list_all quiet_one rest
good tree (IsDown h ∷ rest) = list_all quiet_one rest
good tree (IsMoved move ∷ rest) = list_all quiet_one rest
good tree (IsWanted x ∷ rest) = list_all quiet_one rest
good tree (IsDone x ∷ rest) = false

through_quiet : (cause : Cause) (xs : List Applied) (tree : Tree) → list_all quiet_one xs ≡ true
    → filesets_through cause xs tree ≡ tree
through_quiet cause [] tree e = refl
through_quiet cause (Stored h f ss n ∷ xs) tree e = absurd (false≢true e)
through_quiet cause (IsDone x ∷ xs) tree e = absurd (false≢true e)
through_quiet cause (Replied x ∷ xs) tree e = through_quiet cause xs tree e
through_quiet cause (IsDown h ∷ xs) tree e = through_quiet cause xs tree e
through_quiet cause (IsMoved move ∷ xs) tree e = through_quiet cause xs tree e
through_quiet cause (IsWanted x ∷ xs) tree e = through_quiet cause xs tree e

module _ (tree : Tree) (h : HostId) (g : Give) where
  abbrev some_given : Bool
  some_given = nat_lt 0 (length g.pieces) || is_some g.length

  stored_good : good tree (stored_of tree h g ++ ended_by h g) ≡ true
  stored_good = go (takes_gifts tree g.fid) refl some_given g.ends
    where
      go : (b : Bool) → takes_gifts tree g.fid ≡ b → (s : Bool) (o : Option EndsOf)
          → good tree ((if b && s then Stored h g.fid (map span_of g.pieces) g.length ∷ [] else [])
          ++ option_map_or (λ ends.
          Replied (record { host = h; k = ends.k; call = ends.call; reply = Fine; first = false }) ∷ []) o []) ≡ true
      go true e true None = both (takes_gifts tree g.fid) true e refl
      go true e true (Some x) = both (takes_gifts tree g.fid) true e refl
      go true e false None = refl
      go true e false (Some x) = refl
      go false e s None = refl
      go false e s (Some x) = refl

module _ (cause : Cause) (tree : Tree) where
  -- what does what
  stores_of : (p : Part) (pieces : List Piece) (n : Option ℕ) (size : ℕ) (y : Seen p)
      → stores_part pieces n size p ≡ Sets y → ⊥
  stores_of (ByteAt q) pieces n size y e = go (nat_lt q size) (byte_of pieces q) e
    where
      go : (b : Bool) (o : Option ℕ) → (if b then stores_some o else Nothing) ≡ Sets y → ⊥
      go true None e = let non : Nothing ≡ Sets y = e in cc
      go true (Some x) e = let non : Stores x ≡ Sets y = e in cc
      go false o e = let non : Nothing ≡ Sets y = e in cc
  stores_of Size pieces None size y e = let non : Nothing ≡ Sets y = e in cc
  stores_of Size pieces (Some x) size y e = let non : Stores x ≡ Sets y = e in cc
  stores_of Traits pieces n size y e = let non : Nothing ≡ Sets y = e in cc
  stores_of Entries pieces n size y e = let non : Nothing ≡ Sets y = e in cc

  stores_keeps : (p : Part) (pieces : List Piece) (n : Option ℕ) (size : ℕ) (h : HostId)
      → stores_part pieces n size p ≡ Loses h → ⊥
  stores_keeps (ByteAt q) pieces n size h e = go (nat_lt q size) (byte_of pieces q) e
    where
      go : (b : Bool) (o : Option ℕ) → (if b then stores_some o else Nothing) ≡ Loses h → ⊥
      go true None e = let non : Nothing ≡ Loses h = e in cc
      go true (Some x) e = let non : Stores x ≡ Loses h = e in cc
      go false o e = let non : Nothing ≡ Loses h = e in cc
  stores_keeps Size pieces None size h e = let non : Nothing ≡ Loses h = e in cc
  stores_keeps Size pieces (Some x) size h e = let non : Stores x ≡ Loses h = e in cc
  stores_keeps Traits pieces n size h e = let non : Nothing ≡ Loses h = e in cc
  stores_keeps Entries pieces n size h e = let non : Nothing ≡ Loses h = e in cc

  never_sets : (xs : List Applied) (f : Fid) (p : Part) (y : Seen p) → does_first cause tree xs f p ≡ Sets y → ⊥
  never_sets [] f p y e = let non : Nothing ≡ Sets y = e in cc
  never_sets (Stored h g ss n ∷ rest) f p y e = go (same_fid g f) e
    where
      go : (b : Bool) → (if b then stores_part (pieces_in cause) n (length_given (kept_view tree g Size) n) p
          else Nothing) ≡ Sets y → ⊥
      go true e = stores_of p (pieces_in cause) n (length_given (kept_view tree g Size) n) y e
      go false e = let non : Nothing ≡ Sets y = e in cc
  never_sets (IsDown h ∷ rest) f p y e = let non : Loses h ≡ Sets y = e in cc
  never_sets (IsMoved move ∷ rest) f p y e = let non : Nothing ≡ Sets y = e in cc
  never_sets (Replied x ∷ rest) f p y e = let non : Nothing ≡ Sets y = e in cc
  never_sets (IsWanted x ∷ rest) f p y e = let non : Nothing ≡ Sets y = e in cc
  never_sets (IsDone x ∷ rest) f p y e = let non : Nothing ≡ Sets y = e in cc

  -- what a give-back stores is its own, of its file
  module _ (h : HostId) (g : Give) (pieces : pieces_in cause ≡ g.pieces) where
    abbrev size : ℕ
    size = length_given (kept_view tree g.fid Size) g.length

    part_stored : (f : Fid) (p : Part) (y : Seen p) → stores_part (pieces_in cause) g.length size p ≡ Stores y
        → gives g p ≡ Some y
    part_stored f (ByteAt q) y e = ap (λ ps. byte_of ps q) (sym pieces) ∙ go (nat_lt q size) (byte_of (pieces_in cause) q) e
      where
        go : (b : Bool) (o : Option ℕ) → (if b then stores_some o else Nothing) ≡ Stores y → o ≡ Some y
        go true None e = absurd (let non : Nothing ≡ Stores y = e in cc)
        go true (Some x) e = let is : Stores x ≡ Stores y = e in let one : x ≡ y = cc in ap Some one
        go false o e = absurd (let non : Nothing ≡ Stores y = e in cc)
    part_stored f Size y e = go g.length e
      where
        go : (o : Option ℕ) → stores_some o ≡ Stores y → o ≡ Some y
        go None e = absurd (let non : Nothing ≡ Stores y = e in cc)
        go (Some x) e = let is : Stores x ≡ Stores y = e in let one : x ≡ y = cc in ap Some one
    part_stored f Traits y e = absurd (let non : Nothing ≡ Stores y = e in cc)
    part_stored f Entries y e = absurd (let non : Nothing ≡ Stores y = e in cc)

    gift_stored : (f : Fid) (p : Part) (y : Seen p)
        → does_first cause tree (stored_of tree h g ++ ended_by h g) f p ≡ Stores y
        → (g.fid ≡ f) × (gives g p ≡ Some y)
    gift_stored f p y e = go (takes_gifts tree g.fid && some_given tree h g) g.ends e
      where
        of : (b : Bool) → same_fid g.fid f ≡ b
            → (if b then stores_part (pieces_in cause) g.length size p else Nothing) ≡ Stores y
            → (g.fid ≡ f) × (gives g p ≡ Some y)
        of true d e = (fid_is g.fid f d, part_stored f p y e)
        of false d e = absurd (let non : Nothing ≡ Stores y = e in cc)

        go : (b : Bool) (o : Option EndsOf)
            → does_first cause tree ((if b then Stored h g.fid (map span_of g.pieces) g.length ∷ [] else [])
            ++ option_map_or (λ ends.
            Replied (record { host = h; k = ends.k; call = ends.call; reply = Fine; first = false }) ∷ []) o []) f p
            ≡ Stores y → (g.fid ≡ f) × (gives g p ≡ Some y)
        go true None e = of (same_fid g.fid f) refl e
        go true (Some x) e = of (same_fid g.fid f) refl e
        go false None e = absurd (let non : Nothing ≡ Stores y = e in cc)
        go false (Some x) e = absurd (let non : Nothing ≡ Stores y = e in cc)

    gift_keeps : (f : Fid) (p : Part) (k : HostId)
        → does_first cause tree (stored_of tree h g ++ ended_by h g) f p ≡ Loses k → ⊥
    gift_keeps f p k e = go (takes_gifts tree g.fid && some_given tree h g) g.ends e
      where
        of : (b : Bool) → (if b then stores_part (pieces_in cause) g.length size p else Nothing) ≡ Loses k → ⊥
        of true e = stores_keeps p (pieces_in cause) g.length size k e
        of false e = let non : Nothing ≡ Loses k = e in cc

        go : (b : Bool) (o : Option EndsOf)
            → does_first cause tree ((if b then Stored h g.fid (map span_of g.pieces) g.length ∷ [] else [])
            ++ option_map_or (λ ends.
            Replied (record { host = h; k = ends.k; call = ends.call; reply = Fine; first = false }) ∷ []) o []) f p
            ≡ Loses k → ⊥
        go true None e = of (same_fid g.fid f) e
        go true (Some x) e = of (same_fid g.fid f) e
        go false None e = let non : Nothing ≡ Loses k = e in cc
        go false (Some x) e = let non : Nothing ≡ Loses k = e in cc

    -- and all that it has is stored that can be
    has_some : (p : Part) (y : Seen p) → gives g p ≡ Some y → some_given tree h g ≡ true
    has_some (ByteAt q) y e = go g.pieces e
      where
        go : (ps : List Piece) → byte_of ps q ≡ Some y → (nat_lt 0 (length ps) || is_some g.length) ≡ true
        go [] e = absurd (let non : None ≡ Some y = e in cc)
        go (piece ∷ ps) e =
            let more : nat_lt 0 (suc (length ps)) ≡ true = grind (arith, common_steps) in
            ap (λ b. b || is_some g.length) more
    has_some Size y e = go (nat_lt 0 (length g.pieces)) g.length e
      where
        go : (b : Bool) (o : Option ℕ) → o ≡ Some y → (b || is_some o) ≡ true
        go true o e = refl
        go false None e = absurd (let non : None ≡ Some y = e in cc)
        go false (Some x) e = refl
    has_some Traits y e = absurd (let non : None ≡ Some y = e in cc)
    has_some Entries y e = absurd (let non : None ≡ Some y = e in cc)

    gift_does : takes_gifts tree g.fid ≡ true → some_given tree h g ≡ true → (p : Part)
        → does_first cause tree (stored_of tree h g ++ ended_by h g) g.fid p
        ≡ stores_part (pieces_in cause) g.length size p
    gift_does takes some p =
        ap (λ b. does_first cause tree
        ((if b then Stored h g.fid (map span_of g.pieces) g.length ∷ [] else []) ++ ended_by h g) g.fid p)
        (both (takes_gifts tree g.fid) (some_given tree h g) takes some)
        ∙ ap (λ b. if b then stores_part (pieces_in cause) g.length size p else Nothing) (same_fid_itself g.fid)

    given_part : (p : Part) (y : Seen p) → gives g p ≡ Some y → BelowSize size p
        → stores_part (pieces_in cause) g.length size p ≡ Stores y
    given_part (ByteAt q) y e low =
        ap (λ b. if b then stores_some (byte_of (pieces_in cause) q) else Nothing) low
        ∙ ap stores_some (ap (λ ps. byte_of ps q) pieces ∙ e)
    given_part Size y e low = ap stores_some e
    given_part Traits y e low = absurd (let non : None ≡ Some y = e in cc)
    given_part Entries y e low = absurd (let non : None ≡ Some y = e in cc)

  -- what is kept then is what the kept filesets show
  module _ (k : IsKept tree) where
    size_is : (o : Option ℕ) (n : ℕ) → kept_after_part Size (stores_some o) n ≡ length_given n o
    size_is None n = refl
    size_is (Some x) n = refl

    byte_is : (b : Bool) (o : Option ℕ) (at old : ℕ)
        → kept_after_part (ByteAt at) (if b then stores_some o else Nothing) old ≡ (if b then unwrap_or o old else old)
    byte_is true None at old = refl
    byte_is true (Some x) at old = refl
    byte_is false o at old = refl

    stored_view : (g f : Fid) (pieces : List Piece) (n : Option ℕ) (p : Part) → takes_gifts tree g ≡ true
        → kept_after_part p (if same_fid g f
        then stores_part pieces n (length_given (kept_view tree g Size) n) p else Nothing) (kept_view tree f p)
        ≡ kept_view (tree_given tree g pieces n) f p
    stored_view g f pieces n p takes =
        by (same_fid g f) refl p
        ∙ (ap (λ b. if b && same_fid g f
        then part_given pieces (length_given (kept_view tree g Size) n) p (kept_view tree f p)
        else kept_view tree f p) (sym takes)
        ∙ sym (gives_keep.parts tree g pieces n f p k))
      where
        by : (b : Bool) → same_fid g f ≡ b → (p : Part)
            → kept_after_part p (if b then stores_part pieces n (length_given (kept_view tree g Size) n) p else Nothing)
            (kept_view tree f p)
            ≡ (if b then part_given pieces (length_given (kept_view tree g Size) n) p (kept_view tree f p)
            else kept_view tree f p)
        by false e p = refl
        by true e (ByteAt at) =
            byte_is (nat_lt at (length_given (kept_view tree g Size) n)) (byte_of pieces at) at (kept_view tree f (ByteAt at))
        by true e Size =
            size_is n (kept_view tree f Size)
            ∙ ap (λ (j : Fid). length_given (kept_view tree j Size) n) (sym (fid_is g f e))
        by true e Traits = refl
        by true e Entries = refl

    first_view : (xs : List Applied) → good tree xs ≡ true → (f : Fid) (p : Part)
        → kept_after_part p (does_first cause tree xs f p) (kept_view tree f p) ≡ kept_view (filesets_through cause xs tree) f p
    first_view [] e f p = refl
    first_view (Stored h g ss n ∷ rest) e f p =
        let q = and_parts (takes_gifts tree g) (list_all quiet_one rest) e in
        stored_view g f (pieces_in cause) n p q.0
        ∙ sym (ap (λ (t : Tree). kept_view t f p) (through_quiet cause rest (tree_given tree g (pieces_in cause) n) q.1))
    first_view (Replied x ∷ rest) e f p = sym (ap (λ (t : Tree). kept_view t f p) (through_quiet cause rest tree e))
    first_view (IsDown h ∷ rest) e f p = sym (ap (λ (t : Tree). kept_view t f p) (through_quiet cause rest tree e))
    first_view (IsMoved move ∷ rest) e f p = sym (ap (λ (t : Tree). kept_view t f p) (through_quiet cause rest tree e))
    first_view (IsWanted x ∷ rest) e f p = sym (ap (λ (t : Tree). kept_view t f p) (through_quiet cause rest tree e))
    first_view (IsDone x ∷ rest) e f p = absurd (false≢true e)

-- a file that is there, of no clone, takes what is given back
takes_of : (tree : Tree) (fid : Fid) (n : Nature) → kept_view tree fid Traits ≡ Some n → n.dir ≡ false
    → n.read_only ≡ false → takes_gifts tree fid ≡ true
takes_of tree fid n e dir only = go (find (has_id fid.fileset) tree.filesets) e
  where
    by : (fileset : Fileset) (one : Bool) (o : Option Object)
        → (cell_found fileset.read_only (if one then o else None) Traits).kept ≡ Some n
        → (not fileset.read_only && (one && option_map_or (λ object. not (is_dir object.content)) o false)) ≡ true
    by fileset false o e = absurd (let non : None ≡ Some n = e in cc)
    by fileset true None e = absurd (let non : None ≡ Some n = e in cc)
    by fileset true (Some object) e =
        let is : Some (nature_of fileset.read_only object) ≡ Some n = e in
        let one : nature_of fileset.read_only object ≡ n = cc in
        let file : is_dir object.content ≡ false = ap (λ (m : Nature). m.dir) one ∙ dir in
        let free : fileset.read_only ≡ false = ap (λ (m : Nature). m.read_only) one ∙ only in
        both (not fileset.read_only) (not (is_dir object.content)) (ap not free) (ap not file)

    go : (o : Option Fileset) → (cell_in o fid Traits).kept ≡ Some n
        → option_map_or (λ fileset. not fileset.read_only && is_file_at fileset fid) o false ≡ true
    go None e = absurd (let non : None ≡ Some n = e in cc)
    go (Some fileset) e =
        by fileset (unique_at fileset.anodes fid.anode == fid.unique) (object_at fileset.anodes fid.anode) e

same_message : (c : Cause) (m n : Message) → c ≡ Came m → c ≡ Came n → m ≡ n
same_message c m n p q = let r : Came m ≡ Came n = sym p ∙ q in cc

size_of : (o : Option ℕ) (n : ℕ) → kept_after_part Size (stores_some o) n ≡ length_given n o
size_of None n = refl
size_of (Some x) n = refl

down_away : (S : List Doing) (h : HostId) → IsDownHost S h → HasGoneAway S h
down_away [] h d = elim d [ ]
down_away (a ∷ S) h (inl d) = inl (inl d)
down_away (a ∷ S) h (inr d) = inr (down_away S h d)

-- what the cause applies is good
module _ (v : ServerId) (S : List Doing) (tree : Tree) (s : Step) (k : ServerApplies v tree S s) where
  pub shape : good tree (by_cause s.applied) ≡ true
  shape = go (good tree (by_cause s.applied)) refl
    where
      never : (good tree (by_cause s.applied) ≡ true → ⊥) → ⊥
      never non =
          non (ap (good tree) (k.else_none
          (λ h g first. non (ap (good tree) (k.given h g first) ∙ stored_good tree h g))
          (λ h first. non (ap (good tree) (k.down h first)))))

      go : (b : Bool) → good tree (by_cause s.applied) ≡ b → good tree (by_cause s.applied) ≡ true
      go true e = e
      go false e = absurd (never (λ q. false≢true (sym e ∙ q)))

  -- where no message comes nothing is applied
  pub no_message : ((m : Message) → s.cause ≡ Came m → ⊥) → by_cause s.applied ≡ []
  no_message none = k.else_none (λ h g first. none first.0.1.0.0 first.0.1.0.1) (λ h first. none first.0.0 first.0.1)

-- the doing that takes a message
module _ (c : Contents) (v : ServerId) (D : List Deed) (tree : Tree) (s : Step) (same : IsOfJournal c)
    (k : ServerApplies v tree (acts_in D) s) (at : At c v D tree) (m : Message) (cause : s.cause ≡ Came m) where
  abbrev pub first_deed : Deed
  first_deed = record {
    act = Took m.host m.epoch m.moves m.body;
    does = does_first s.cause tree (by_cause s.applied);
  }

  pieces_are : (g : Give) → m.body ≡ GiveBack g → pieces_in s.cause ≡ g.pieces
  pieces_are g is = ap pieces_in cause ∙ ap pieces_of is

  first_body : (h : HostId) (g : Give) → FirstGiven v (acts_in D) s h g → m.body ≡ GiveBack g
  first_body h g first =
      let one = same_message s.cause m first.0.1.0.0 cause first.0.1.0.1 in
      ap (λ (x : Message). x.body) one ∙ first.0.1.0.5

  down_body : (h : HostId) → FirstDown (acts_in D) s h → m.body ≡ Down
  down_body h first =
      let one = same_message s.cause m first.0.0 cause first.0.1 in
      ap (λ (x : Message). x.body) one ∙ first.0.3

  down_host : (h : HostId) → FirstDown (acts_in D) s h → m.host ≡ h
  down_host h first =
      let one = same_message s.cause m first.0.0 cause first.0.1 in
      ap (λ (x : Message). x.host) one ∙ first.0.2

  no_give : (g : Give) → m.body ≡ Down → m.body ≡ GiveBack g → ⊥
  no_give g down give = two m.body (GiveBack g) 2 4 (ap tag down) refl (λ e. cc) give

  -- what is stored is of a give-back that is applied
  stores_given : (f : Fid) (p : Part) (y : Seen p) → first_deed.does f p ≡ Stores y
      → ((h : HostId) (g : Give) → FirstGiven v (acts_in D) s h g → ⊥) → ⊥
  stores_given f p y e non =
      let none = k.else_none non (λ h first.
      let q : Loses h ≡ Stores y =
      sym (ap (λ xs. does_first s.cause tree xs f p) (k.down h first)) ∙ e in cc) in
      let q : Nothing ≡ Stores y = sym (ap (λ xs. does_first s.cause tree xs f p) none) ∙ e in
      cc

  stores_first : (f : Fid) (p : Part) (y : Seen p) → first_deed.does f p ≡ Stores y
      → (h : HostId) × (g : Give) × Applies v (acts_in D) first_deed.act h g × (g.fid ≡ f) × (c.gives g p ≡ Some y)
  stores_first f p y e = elim (is_give m.body) [
    | inr none ↦ absurd (stores_given f p y e (λ h g first. none g (first_body h g first)))
    | inl (g, is) ↦ elim (cases_nat m.epoch (epoch (acts_in D))) [
      | inr late ↦ absurd (stores_given f p y e (λ h k first.
          let one = same_message s.cause m first.0.1.0.0 cause first.0.1.0.1 in
          late (ap (λ (x : Message). x.epoch) one ∙ first.0.1.0.3)))
      | inl now ↦ elim (live (acts_in D) m.host) [
        | inr dead ↦ absurd (stores_given f p y e (λ h k first.
            let one = same_message s.cause m first.0.1.0.0 cause first.0.1.0.1 in
            dead (subst (IsLive (acts_in D)) (sym (ap (λ (x : Message). x.host) one ∙ first.0.1.0.2)) first.0.1.1)))
        | inl up ↦ elim (here v (acts_in D) g.fid.fileset m.moves) [
          | inr away ↦ absurd (stores_given f p y e (λ h k first.
              let one = same_message s.cause m first.0.1.0.0 cause first.0.1.0.1 in
              let moves : m.moves ≡ first.0.0 = ap (λ (x : Message). x.moves) one ∙ first.0.1.0.4 in
              let give : GiveBack g ≡ GiveBack k = sym is ∙ first_body h k first in
              let is_it : g ≡ k = cc in
              away (subst (λ (y : FilesetId × ℕ). Here v (acts_in D) y.0 y.1)
              (λ i. ((sym is_it i).fid.fileset, sym moves i)) first.0.2)))
          | inl in_place ↦ given_first f p y e g is now up in_place
        ]
      ]
    ]
  ]
    where
      given_first : (f : Fid) (p : Part) (y : Seen p) → first_deed.does f p ≡ Stores y → (g : Give)
          → m.body ≡ GiveBack g → m.epoch ≡ epoch (acts_in D) → IsLive (acts_in D) m.host
          → Here v (acts_in D) g.fid.fileset m.moves
          → (h : HostId) × (g : Give) × Applies v (acts_in D) first_deed.act h g × (g.fid ≡ f)
          × (c.gives g p ≡ Some y)
      given_first f p y e g is now up in_place =
          let fresh : TakenIt v (acts_in D) m.host (number_of g) → ⊥ = λ was. stores_given f p y e (λ h k first.
          let one = same_message s.cause m first.0.1.0.0 cause first.0.1.0.1 in
          let host : m.host ≡ h = ap (λ (x : Message). x.host) one ∙ first.0.1.0.2 in
          let give : GiveBack g ≡ GiveBack k = sym is ∙ first_body h k first in
          let is_it : g ≡ k = cc in
          first.1 (subst (λ (y : HostId × Give). TakenIt v (acts_in D) y.0 (number_of y.1))
          (λ i. (host i, is_it i)) was)) in
          let first : FirstGiven v (acts_in D) s m.host g =
          ((m.moves, ((m, cause, refl, now, refl, is), up), in_place), fresh) in
          let stored = gift_stored s.cause tree m.host g (pieces_are g is) f p y
          (sym (ap (λ xs. does_first s.cause tree xs f p) (k.given m.host g first)) ∙ e) in (
            m.host,
            g,
            ((m.moves, in_place, ((λ i. Took m.host (now i) m.moves (is i)), up)), fresh),
            stored.0,
            same.gives g p ∙ stored.1,
          )

  stores_all_first : (h : HostId) (g : Give) (p : Part) (y : Seen p) → Applies v (acts_in D) first_deed.act h g
      → IsWritable (kept c D g.fid Traits) → Fits c (first_deed ∷ D) g.fid p → c.gives g p ≡ Some y
      → first_deed.does g.fid p ≡ Stores y
  stores_all_first h g p y applies writable fits has =
      let is : Took m.host m.epoch m.moves m.body ≡ Took h (epoch (acts_in D)) applies.0.0 (GiveBack g) =
      applies.0.2.0 in
      let host : m.host ≡ h = cc in
      let now : m.epoch ≡ epoch (acts_in D) = cc in
      let moves : m.moves ≡ applies.0.0 = cc in
      let body : m.body ≡ GiveBack g = cc in
      let first : FirstGiven v (acts_in D) s h g =
      ((applies.0.0, ((m, cause, host, now, moves, body), applies.0.2.1), applies.0.1), applies.1) in
      let home : site g.fid ≡ v = made_at v (acts_in D) g.fid.fileset applies.0.0 at.put applies.0.1 in
      let takes = takes_of tree g.fid writable.0 (sym (at.shows g.fid Traits home) ∙ writable.1) writable.2 writable.3 in
      let gives_it : gives g p ≡ Some y = sym (same.gives g p) ∙ has in
      let some = has_some s.cause tree h g (pieces_are g body) p y gives_it in
      let does : (q : Part) → first_deed.does g.fid q ≡ stores_part (pieces_in s.cause) g.length (left g) q =
      λ q. ap (λ xs. does_first s.cause tree xs g.fid q) (k.given h g first)
      ∙ gift_does s.cause tree h g (pieces_are g body) takes some q in
      does p ∙ given_part s.cause tree h g (pieces_are g body) p y gives_it (below p home (does Size) fits)
    where
      left : Give → ℕ
      left g = length_given (kept_view tree g.fid Size) g.length

      below : (p : Part) → site g.fid ≡ v
          → first_deed.does g.fid Size ≡ stores_part (pieces_in s.cause) g.length (left g) Size
          → Fits c (first_deed ∷ D) g.fid p → BelowSize (left g) p
      below (ByteAt q) home does fits =
          let size : kept c (first_deed ∷ D) g.fid Size ≡ left g =
          ap (λ (d : Does ℕ). kept_after_part Size d (kept c D g.fid Size)) does
          ∙ (size_of g.length (kept c D g.fid Size)
          ∙ ap (λ n. length_given n g.length) (at.shows g.fid Size home)) in
          let low : q < left g = subst (λ n. q < n) size fits in
          let so : nat_lt q (left g) ≡ true = grind (arith, common_steps, low) in
          so
      below Size home does fits = tt
      below Traits home does fits = tt
      below Entries home does fits = tt

  loses_first : (f : Fid) (p : Part) (h : HostId) → first_deed.does f p ≡ Loses h
      → (e : ℕ) × (n : ℕ) × (first_deed.act ≡ Took h e n Down)
  loses_first f p h e = elim (is_down m.body) [
    | inr none ↦ absurd (never (λ k first. none (down_body k first)))
    | inl is ↦ elim (cases_host m.host h) [
      | inl one ↦ (m.epoch, m.moves, (λ i. Took (one i) m.epoch m.moves (is i)))
      | inr apart ↦ absurd (never (λ k first.
          let q : Loses k ≡ Loses h = sym (ap (λ xs. does_first s.cause tree xs f p) (k_down k first)) ∙ e in
          let one : k ≡ h = cc in
          apart (down_host k first ∙ one)))
    ]
  ]
    where
      k_down : (h : HostId) → FirstDown (acts_in D) s h → by_cause s.applied ≡ IsDown h ∷ []
      k_down h first = k.down h first

      never : ((k : HostId) → FirstDown (acts_in D) s k → ⊥) → ⊥
      never non =
          let none = k.else_none (λ j g first.
          gift_keeps s.cause tree j g (pieces_are g (first_body j g first)) f p h
          (sym (ap (λ xs. does_first s.cause tree xs f p) (k.given j g first)) ∙ e)) non in
          let q : Nothing ≡ Loses h = sym (ap (λ xs. does_first s.cause tree xs f p) none) ∙ e in
          cc

  loses_all_first : (f : Fid) (p : Part) (h : HostId) (e n : ℕ) → first_deed.act ≡ Took h e n Down
      → (HasGoneAway (acts_in D) h → ⊥) → first_deed.does f p ≡ Loses h
  loses_all_first f p h e n is up =
      let host : m.host ≡ h = cc in
      let body : m.body ≡ Down = cc in
      let first : FirstDown (acts_in D) s h = ((m, cause, host, body), λ down. up (down_away (acts_in D) h down)) in
      ap (λ xs. does_first s.cause tree xs f p) (k.down h first)

  abbrev pub after_it : Tree
  after_it = filesets_through s.cause (by_cause s.applied) tree

  pub at_first : IsKept after_it → At c v (first_deed ∷ D) after_it
  at_first keeps = record {
    put = put_on (Took m.host m.epoch m.moves m.body) (acts_in D) (λ p. let q = p.1 in cc) at.put;
    shows = λ f p home.
        ap (λ (y : Seen p). kept_after_part p (does_first s.cause tree (by_cause s.applied) f p) y) (at.shows f p home)
        ∙ first_view s.cause tree at.keeps (by_cause s.applied) (shape v (acts_in D) tree s k) f p;
    keeps = keeps;
  }

  pub shows_first : IsKept after_it → ServerShows c v D first_deed
  shows_first keeps = record {
    tells = plain.tells;
    needs = plain.needs;
    blind = plain.blind;
    there = plain.there;
    stores = stores_first;
    stores_all = stores_all_first;
    sets = λ f p y e. absurd (never_sets s.cause tree (by_cause s.applied) f p y e);
    sets_whole = λ f y q t e. absurd (never_sets s.cause tree (by_cause s.applied) f Size y e);
    removes = λ f t e. absurd (never_sets s.cause tree (by_cause s.applied) f Traits None e);
    keeps_kind = λ f old new e. absurd (never_sets s.cause tree (by_cause s.applied) f Traits (Some new) e);
    alike = all_alike c v same.root (first_deed ∷ D) after_it (at_first keeps);
    roots = all_roots c v same.root (first_deed ∷ D) after_it (at_first keeps);
    loses = loses_first;
    loses_all = loses_all_first;
  }
    where
      plain : IsFine c v D first_deed.act
      plain = unsent c v D first_deed.act (λ h e n b q.
          let r : Took m.host m.epoch m.moves m.body ≡ Sent h e n b = q in cc)
