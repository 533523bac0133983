-- What a server stores of a give-back is legal in a tree that agrees with the run, and leaves the cells of the run.
use Rattle.std.proofs.Common.{Bool, List, None, Option, Some, ap, arith, false, get_or, inl, inr, is_some, length}
use Rattle.std.proofs.Common.{nat_le, nat_lt, not, refl, subst, sym, true, ℕ, ◌&&◌, ◌+◌, ◌-◌, ◌<◌, ◌==◌, ◌||◌, ◌∙◌}
use Rattle.std.proofs.Common.{◌∷◌, ◌≡◌, ◌≤◌}
use Rattle.std.proofs.lemmas.Bool.{and_parts, false≢true}
use Rattle.std.proofs.lemmas.Grind.{common_steps}
use Rattle.std.proofs.lemmas.Option.{slice_get-get_or, slice_get_within}
use Rattle.std.specs.List.{find}
use Rattle.std.specs.Option.{option_map_or}
use Rattle.std.specs.Prelude.{[], if◌then◌else◌, map, max, min, slice_get, unwrap_or}
use Rattle.base_types.specs.Ids.{same_fid}
use Rattle.base_types.specs.Spans.{has_byte, in_spans}
use Rattle.base_types.specs.declared.ids.Fid.{Fid}
use Rattle.base_types.specs.declared.ids.HostId.{HostId}
use Rattle.base_types.specs.declared.limits.TheConstants.{FILE_BYTES_MAX}
use Rattle.base_types.specs.declared.span.Span.{Span}
use Rattle.tree_calls.specs.declared.entry.Entry.TheVariants.{Stored}
use Rattle.tree_calls.specs.declared.part.Piece.{Piece}
use Rattle.tree_filesets.specs.Laws.{is_file_at}
use Rattle.tree_filesets.specs.Walk.{object_at, unique_at}
use Rattle.tree_filesets.specs.declared.fileset.Fileset.{Fileset}
use Rattle.need_host.specs.Looks.{kept_view}
use Rattle.tree_objects.proofs.Observed.{get_past}
use Rattle.tree_objects.specs.Objects.{is_dir}
use Rattle.tree_objects.specs.declared.content.Content.{Content}
use Rattle.tree_objects.specs.declared.content.Content.TheVariants.{Dir, File}
use Rattle.tree_objects.specs.declared.content.Object.{Object}
use Rattle.tree_answers.specs.Finding.{has_id}
use Rattle.tree_answers.specs.Histories.{IsLegal, after_entry}
use Rattle.tree_answers.specs.WellFormed.{IsWellFormed}
use Rattle.tree_answers.specs.declared.tree.Tree.{Tree}
use Rattle.message_types.specs.Soundness.{Each as EachSound}
use Rattle.message_types.specs.declared.giving.Give.{Give}
use Rattle.tree_laws.proofs.Steps.{fid_is, same_number}
use Rattle.tree_laws.proofs.Stores.{hosts_store_their_own}
use Rattle.tree_laws.proofs.TreeFates.{parts_change_so}
use Rattle.tree_laws.specs.Fates.{after_fate, byte_stored, is_of, size_stored}
use Rattle.tree_laws.specs.Fates.Fate.{IsStored, Stays}
use Rattle.tree_laws.specs.Parts.{Cell, Nature, Part, Seen, Written, byte_cell, cell_at, cell_found, cell_in}
use Rattle.tree_laws.specs.Parts.{object_in, present, settled, size_cell}
use Rattle.tree_laws.specs.Parts.Part.{ByteAt, Entries, Size, Traits}
use Rattle.run_rules.specs.Kept.{length_given, takes_gifts}
use Rattle.run_rules.specs.ServerDecides.{span_of}
use Rattle.run_rules.specs.Views.{byte_in, byte_of}
use Rattle.run_parts.specs.Cells.{Does, by, cell_after}
use Rattle.run_parts.specs.Cells.Does.{Nothing}
use Rattle.run_parts.specs.Legal.{LegalSize}
use Rattle.run_contents.proofs.Words.{both}
use Rattle.run_contents.specs.Doing.{stores_part, stores_some}

-- the bytes of pieces lie in their spans
piece_in : (piece : Piece) (at : ℕ) → has_byte (span_of piece) at ≡ true → (x : ℕ) × (byte_in piece at ≡ Some x)
piece_in piece at e =
    let p = and_parts (nat_le (span_of piece).from at) (nat_lt at (span_of piece).to) e in
    let a = p.0 in
    let b = p.1 in
    let low : min piece.from (min (piece.from + length piece.bytes) 65536) ≤ at = grind (arith, common_steps, a) in
    let high : at < min (piece.from + length piece.bytes) 65536 = grind (arith, common_steps, b) in
    let from : piece.from ≤ at = omega (arith, low, high) in
    let far : at - piece.from < length piece.bytes = omega (arith, low, high) in
    let le : nat_le piece.from at ≡ true = grind (arith, common_steps, from) in
    let is = slice_get-get_or piece.bytes (at - piece.from) 0 far in
    (get_or piece.bytes (at - piece.from) 0, ap (λ b. if b then slice_get piece.bytes (at - piece.from) else None) le ∙ is)

piece_out : (piece : Piece) (at x : ℕ) → piece.from + length piece.bytes ≤ FILE_BYTES_MAX → byte_in piece at ≡ Some x
    → has_byte (span_of piece) at ≡ true
piece_out piece at x ends e = go (nat_le piece.from at) refl e
  where
    go : (b : Bool) → nat_le piece.from at ≡ b → (if b then slice_get piece.bytes (at - piece.from) else None) ≡ Some x
        → has_byte (span_of piece) at ≡ true
    go false q e = absurd (let non : None ≡ Some x = e in cc)
    go true q e =
        let k : piece.from + length piece.bytes ≤ 65536 = ends in
        let low : piece.from ≤ at = grind (arith, common_steps, q) in
        let far = slice_get_within piece.bytes (at - piece.from) x e in
        let a : min piece.from (min (piece.from + length piece.bytes) 65536) ≤ at = omega (arith, low, far, k) in
        let b : at < min (piece.from + length piece.bytes) 65536 = omega (arith, low, far, k) in
        both (nat_le (span_of piece).from at) (nat_lt at (span_of piece).to)
        (let r : nat_le (min piece.from (min (piece.from + length piece.bytes) 65536)) at ≡ true =
        grind (arith, common_steps, a) in r)
        (let r : nat_lt at (min (piece.from + length piece.bytes) 65536) ≡ true = grind (arith, common_steps, b) in r)

given_in : (ps : List Piece) (at : ℕ) → in_spans (map span_of ps) at ≡ true → (x : ℕ) × (byte_of ps at ≡ Some x)
given_in [] at e = absurd (false≢true e)
given_in (piece ∷ ps) at e = go (λ r. given_in ps at r) (byte_in piece at) refl
  where
    rest : (in_spans (map span_of ps) at ≡ true → (x : ℕ) × (byte_of ps at ≡ Some x)) → (b : Bool) → has_byte (span_of piece) at ≡ b → (byte_in piece at ≡ None)
        → (b || in_spans (map span_of ps) at) ≡ true → (x : ℕ) × (byte_of ps at ≡ Some x)
    rest more true q none r = let k = piece_in piece at q in absurd (let non : None ≡ Some k.0 = sym none ∙ k.1 in cc)
    rest more false q none r = more r

    go : (in_spans (map span_of ps) at ≡ true → (x : ℕ) × (byte_of ps at ≡ Some x)) → (o : Option ℕ)
        → byte_in piece at ≡ o → (x : ℕ) × (byte_of (piece ∷ ps) at ≡ Some x)
    go more (Some x) q = (x, ap (λ (o : Option ℕ). if is_some o then o else byte_of ps at) q)
    go more None q =
        let k = rest more (has_byte (span_of piece) at) refl q e in
        (k.0, ap (λ (o : Option ℕ). if is_some o then o else byte_of ps at) q ∙ k.1)

second_true : (a b : Bool) → b ≡ true → (a || b) ≡ true
second_true true b e = refl
second_true false b e = e

given_out : (ps : List Piece) (at x : ℕ)
    → EachSound (λ (piece : Piece). piece.from + length piece.bytes ≤ FILE_BYTES_MAX) ps → byte_of ps at ≡ Some x
    → in_spans (map span_of ps) at ≡ true
given_out [] at x ends e = absurd (let non : None ≡ Some x = e in cc)
given_out (piece ∷ ps) at x ends e = go (λ r. given_out ps at x ends.1 r) (byte_in piece at) refl
  where
    go : (byte_of ps at ≡ Some x → in_spans (map span_of ps) at ≡ true) → (o : Option ℕ) → byte_in piece at ≡ o
        → in_spans (map span_of (piece ∷ ps)) at ≡ true
    go more (Some y) q =
        ap (λ b. b || in_spans (map span_of ps) at) (piece_out piece at y ends.0 q)
    go more None q =
        let rest = more (sym (ap (λ (o : Option ℕ). if is_some o then o else byte_of ps at) q) ∙ e) in
        second_true (has_byte (span_of piece) at) (in_spans (map span_of ps) at) rest

-- a file that takes what is given back is there
pub gift_file : (tree : Tree) (fid : Fid) → takes_gifts tree fid ≡ true
    → option_map_or (λ (nature : Nature). not nature.dir) (kept_view tree fid Traits) false ≡ true
gift_file tree fid e = go (find (has_id fid.fileset) tree.filesets) e
  where
    by : (fileset : Fileset) (one : Bool) (o : Option Object)
        → (not fileset.read_only && (one && option_map_or (λ object. not (is_dir object.content)) o false)) ≡ true
        → option_map_or (λ (nature : Nature). not nature.dir)
        (cell_found fileset.read_only (if one then o else None) Traits).kept false ≡ true
    by fileset true (Some object) e = (and_parts (not fileset.read_only) (not (is_dir object.content)) e).1
    by fileset true None e = (and_parts (not fileset.read_only) false e).1
    by fileset false o e = (and_parts (not fileset.read_only) false e).1

    go : (o : Option Fileset)
        → option_map_or (λ fileset. not fileset.read_only && is_file_at fileset fid) o false ≡ true
        → option_map_or (λ (nature : Nature). not nature.dir) (cell_in o fid Traits).kept false ≡ true
    go None e = absurd (false≢true e)
    go (Some fileset) e =
        by fileset (unique_at fileset.anodes fid.anode == fid.unique) (object_at fileset.anodes fid.anode) e

-- kept bytes behind the kept size are zero
zero_content : (content : Content) (at : ℕ) → (size_cell content).kept ≤ at → (byte_cell content at).kept ≡ 0
zero_content (Dir entries lists) at le = refl
zero_content (File list kept unsaved len) at le = get_past kept at le

zero_behind : (tree : Tree) (fid : Fid) (at : ℕ) → (cell_at tree fid Size).kept ≤ at
    → (cell_at tree fid (ByteAt at)).kept ≡ 0
zero_behind tree fid at le = go (find (has_id fid.fileset) tree.filesets) le
  where
    by : (read_only : Bool) (o : Option Object) → (cell_found read_only o Size).kept ≤ at
        → (cell_found read_only o (ByteAt at)).kept ≡ 0
    by read_only None le = refl
    by read_only (Some object) le = zero_content object.content at le

    go : (o : Option Fileset) → (cell_in o fid Size).kept ≤ at → (cell_in o fid (ByteAt at)).kept ≡ 0
    go None le = refl
    go (Some fileset) le = by fileset.read_only (object_in fileset fid) le

-- a tree, and what a server stores there of a give-back `g` of the host `h`
module _ (tree : Tree) (formed : IsWellFormed tree) (h : HostId) (g : Give)
    (ends : EachSound (λ (piece : Piece). piece.from + length piece.bytes ≤ FILE_BYTES_MAX) g.pieces)
    (file : option_map_or (λ (nature : Nature). not nature.dir) (cell_at tree g.fid Traits).kept false ≡ true)
    (sizes : (x : ℕ) → g.length ≡ Some x → LegalSize (cell_at tree g.fid Size) h x)
    (bytes : (q x : ℕ) → byte_of g.pieces q ≡ Some x → ((cell_at tree g.fid (ByteAt q)).unsaved ≡ Some (by h x))
    × (q < length_given (cell_at tree g.fid Size).kept g.length)) where
  abbrev kept_size : ℕ
  kept_size = (cell_at tree g.fid Size).kept

  abbrev spans : List Span
  spans = map span_of g.pieces

  -- the size that is left is the given one, or the kept one
  left_size : length_given kept_size g.length ≡ unwrap_or g.length kept_size
  left_size = go g.length refl
    where
      go : (o : Option ℕ) → g.length ≡ o → length_given kept_size o ≡ unwrap_or o kept_size
      go None e = refl
      go (Some x) e = let le : kept_size ≤ x = (sizes x e).0 in let r : max kept_size x ≡ x = omega (arith, le) in r

  owned : {X : Type 0} (o : Option (Written X)) (x : X) → o ≡ Some (by h x) → is_of h o ≡ true
  owned o x e = ap (λ (z : Option (Written _)). is_of h z) e ∙ same_number h.0

  pub stores_legally : IsLegal tree (Stored h g.fid spans g.length)
  stores_legally = (hosts_store_their_own.legal tree h g.fid spans g.length).1 (record {
    there = file;
    bytes = λ at e. (let x = given_in g.pieces at e in
        let k = bytes at x.0 x.1 in
        (owned (cell_at tree g.fid (ByteAt at)).unsaved x.0 k.0, subst (λ n. at < n) left_size k.1));
    size = λ len e. (let k = sizes len e in
        (k.0, k.1, elim k.2 [ inl same ↦ inl same | inr u ↦ inr (owned (cell_at tree g.fid Size).unsaved u.0 u.1) ]));
  })

  abbrev after_store : Tree
  after_store = after_entry tree (Stored h g.fid spans g.length)

  abbrev part_does : (p : Part) → Does (Seen p)
  part_does p = stores_part g.pieces g.length (length_given kept_size g.length) p

  module _ (at : ℕ) where
    abbrev cell : Cell ℕ
    cell = cell_at tree g.fid (ByteAt at)

    abbrev end : ℕ
    end = length_given kept_size g.length

    byte_left : byte_stored h spans (unwrap_or g.length kept_size) at (cell_at tree g.fid (ByteAt at))
        ≡ cell_after (ByteAt at) (part_does (ByteAt at)) (cell_at tree g.fid (ByteAt at))
    byte_left =
        ap (λ n. byte_stored h spans n at cell) (sym left_size)
        ∙ go (nat_lt at end) (byte_of g.pieces at) refl refl
      where
        grows : (o : Option ℕ) (n : ℕ) → n ≤ length_given n o
        grows None n = omega arith
        grows (Some x) n = let r : n ≤ max n x = omega arith in r

        cut : (b : Bool) → (b ≡ false → cell.kept ≡ 0)
            → (let new : Cell ℕ = record cell { kept = if b then cell.kept else 0 } in new) ≡ cell
        cut true none = refl
        cut false none = ap (λ n. let new : Cell ℕ = record { kept = n; unsaved = cell.unsaved } in new) (sym (none refl))

        none_in : byte_of g.pieces at ≡ None → in_spans spans at ≡ false
        none_in e = pick (in_spans spans at) refl
          where
            pick : (b : Bool) → in_spans spans at ≡ b → in_spans spans at ≡ false
            pick false q = q
            pick true q = let k = given_in g.pieces at q in absurd (let non : None ≡ Some k.0 = sym e ∙ k.1 in cc)

        go : (b : Bool) (o : Option ℕ) → nat_lt at end ≡ b → byte_of g.pieces at ≡ o
            → byte_stored h spans end at cell ≡ cell_after (ByteAt at)
            (if nat_lt at end then stores_some (byte_of g.pieces at) else Nothing) cell
        go true (Some x) lt e =
            let own = owned cell.unsaved x (bytes at x e).0 in
            let there = given_out g.pieces at x ends e in
            ap (λ (t : Bool × Bool × Bool). if t.0 && t.1 && t.2 then settled (present cell)
            else (let new : Cell ℕ = record cell { kept = if t.1 then cell.kept else 0 } in new))
            (λ i. (own i, lt i, there i))
            ∙ ap (λ (t : Bool × Option ℕ). cell_after (ByteAt at) (if t.0 then stores_some t.1 else Nothing) cell)
            (λ i. (sym lt i, sym e i))
        go true None lt e =
            ap (λ (t : Bool). if is_of h cell.unsaved && nat_lt at end && t then settled (present cell)
            else (let new : Cell ℕ = record cell { kept = if nat_lt at end then cell.kept else 0 } in new)) (none_in e)
            ∙ (never (is_of h cell.unsaved) (nat_lt at end)
            ∙ (cut (nat_lt at end) (λ f. absurd (false≢true (sym f ∙ lt)))
            ∙ ap (λ (t : Bool × Option ℕ). cell_after (ByteAt at) (if t.0 then stores_some t.1 else Nothing) cell)
            (λ i. (sym lt i, sym e i))))
          where
            never : (a b : Bool)
                → (if a && b && false then settled (present cell)
                else (let new : Cell ℕ = record cell { kept = if nat_lt at end then cell.kept else 0 } in new))
                ≡ (let new : Cell ℕ = record cell { kept = if nat_lt at end then cell.kept else 0 } in new)
            never true true = refl
            never true false = refl
            never false b = refl
        go false o lt e =
            ap (λ (t : Bool). if is_of h cell.unsaved && t && in_spans spans at then settled (present cell)
            else (let new : Cell ℕ = record cell { kept = if t then cell.kept else 0 } in new)) lt
            ∙ (never (is_of h cell.unsaved) (in_spans spans at)
            ∙ (cut false (λ _. zero_behind tree g.fid at behind)
            ∙ ap (λ (t : Bool). cell_after (ByteAt at) (if t then stores_some (byte_of g.pieces at) else Nothing) cell)
            (sym lt)))
          where
            never : (a b : Bool)
                → (if a && false && b then settled (present cell)
                else (let new : Cell ℕ = record cell { kept = 0 } in new))
                ≡ (let new : Cell ℕ = record cell { kept = 0 } in new)
            never true b = refl
            never false b = refl

            behind : kept_size ≤ at
            behind =
                let le : end ≤ at = grind (arith, common_steps, lt) in
                let k = grows g.length kept_size in
                omega (arith, le, k)

  size_left_is : size_stored g.length (cell_at tree g.fid Size)
      ≡ cell_after Size (part_does Size) (cell_at tree g.fid Size)
  size_left_is = go g.length
    where
      go : (o : Option ℕ) → size_stored o (cell_at tree g.fid Size)
          ≡ cell_after Size (stores_some o) (cell_at tree g.fid Size)
      go None = refl
      go (Some x) = refl

  part_left : (p : Part) → after_fate (IsStored h spans g.length) (cell_at tree g.fid) p
      ≡ cell_after p (part_does p) (cell_at tree g.fid p)
  part_left (ByteAt at) = byte_left at
  part_left Size = size_left_is
  part_left Traits = refl
  part_left Entries = refl

  pub stores_cells : (f : Fid) (p : Part) → cell_at after_store f p
      ≡ cell_after p (if same_fid g.fid f then part_does p else Nothing) (cell_at tree f p)
  stores_cells f p =
      parts_change_so tree (Stored h g.fid spans g.length) f p formed stores_legally
      ∙ go (same_fid g.fid f) refl
    where
      go : (b : Bool) → same_fid g.fid f ≡ b
          → after_fate (if b then IsStored h spans g.length else Stays) (cell_at tree f) p
          ≡ cell_after p (if b then part_does p else Nothing) (cell_at tree f p)
      go false e = refl
      go true e =
          subst (λ (z : Fid). after_fate (IsStored h spans g.length) (cell_at tree z) p
          ≡ cell_after p (part_does p) (cell_at tree z p)) (fid_is g.fid f e) (part_left p)
