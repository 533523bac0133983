-- What an answered call leaves of the tree is what the host's step writes.
use Rattle.std.proofs.Common.{Bool, Err, List, None, Ok, Option, Result, Some, ap, false, length, nat_le, nat_lt}
use Rattle.std.proofs.Common.{refl, sym, true, ℕ, ◌&&◌, ◌+◌, ◌-◌, ◌==◌, ◌∙◌, ◌∷◌, ◌≡◌}
use Rattle.std.proofs.lemmas.Bool.{eqb-true}
use Rattle.std.specs.Option.{option_map_or}
use Rattle.std.specs.Prelude.{[], if◌then◌else◌}
use Rattle.base_types.specs.Ids.{same_fid}
use Rattle.base_types.specs.Image.{byte_at}
use Rattle.base_types.specs.Outcomes.{either}
use Rattle.base_types.specs.declared.ids.Fid.{Fid}
use Rattle.base_types.specs.declared.ids.HostId.{HostId}
use Rattle.tree_calls.specs.declared.reply.Refusal.{Refusal}
use Rattle.tree_calls.specs.declared.reply.Reply.TheVariants.{Ok as Done, Refused}
use Rattle.tree_filesets.specs.Walk.{unique_at}
use Rattle.tree_filesets.specs.declared.fileset.Fileset.{Fileset}
use Rattle.need_host.proofs.Rows.{written_verdict}
use Rattle.need_host.specs.Calls.{Verdict}
use Rattle.need_host.specs.Calls.Verdict.{Replies, Writes}
use Rattle.tree_answers.specs.Finding.{has_id}
use Rattle.tree_laws.specs.Losses.{use_of}
use Rattle.tree_laws.specs.Fates.{Cells, after_fate, if_reached, names_use, write_fate}
use Rattle.tree_laws.specs.Fates.Fate.{IsWritten, Stays}
use Rattle.tree_laws.specs.Parts.{Cell, Part, Seen, present}
use Rattle.tree_laws.specs.Parts.Part.{ByteAt, Entries, Size, Traits}
use Rattle.run_parts.specs.Cells.{written}
use Rattle.run_contents.specs.Steps.{Written, written_at}

-- what is left of a part by a Write that found its file
left_by : (h : HostId) (from : ℕ) (byte : ℕ) (bytes : List ℕ) (cells : Cells) (p : Part) (size : ℕ)
    → size ≡ present (cells Size)
    → after_fate (IsWritten h from (byte ∷ bytes)) cells p
    ≡ written h (written_at (Some (record { from = from; bytes = byte ∷ bytes })) size p) (cells p)
left_by h from byte bytes cells (ByteAt at) size same =
    go (nat_le from at && nat_lt at (from + length (byte ∷ bytes)))
  where
    go : (b : Bool)
        → (if b then (let new : Cell ℕ = record (cells (ByteAt at)) {
          unsaved = Some (record { writer = h; value = byte_at (byte ∷ bytes) (at - from) });
        } in new)
        else cells (ByteAt at))
        ≡ written h (if b then Some (byte_at (byte ∷ bytes) (at - from)) else None) (cells (ByteAt at))
    go true = refl
    go false = refl
left_by h from byte bytes cells Size size same =
    ap (λ n. if nat_lt n (from + length (byte ∷ bytes)) then (let new : Cell ℕ = record (cells Size) {
      unsaved = Some (record { writer = h; value = from + length (byte ∷ bytes) });
    } in new)
    else cells Size) (sym same)
    ∙ go (nat_lt size (from + length (byte ∷ bytes)))
  where
    go : (b : Bool)
        → (if b then (let new : Cell ℕ = record (cells Size) {
          unsaved = Some (record { writer = h; value = from + length (byte ∷ bytes) });
        } in new)
        else cells Size)
        ≡ written h (if b then Some (from + length (byte ∷ bytes)) else None) (cells Size)
    go true = refl
    go false = refl
left_by h from byte bytes cells Traits size same = refl
left_by h from byte bytes cells Entries size same = refl

-- what a host writes of a file, by the file that its step says it wrote
abbrev pub writes : HostId → Option Fid → Option Written → ℕ → Fid → (p : Part) → Cell (Seen p) → Cell (Seen p)
writes h o w size f p cell = written h (if option_map_or (λ file. same_fid file f) o false then written_at w size p else None) cell

unwritten_all : (h : HostId) (w : Option Written) (size : ℕ) (f : Fid) (p : Part) (cell : Cell (Seen p))
    → writes h None w size f p cell ≡ cell
unwritten_all h w size f p cell = refl

pub no_bytes : (h : HostId) (o : Option Fid) (size : ℕ) (f : Fid) (p : Part) (cell : Cell (Seen p))
    → writes h o None size f p cell ≡ cell
no_bytes h o size f p cell = go (option_map_or (λ (file : Fid). same_fid file f) o false)
  where
    go : (b : Bool) → written h (if b then None else None) cell ≡ cell
    go true = refl
    go false = refl

none_named : (o : Option Fid) → ((f : Fid) → o ≡ Some f → ⊥) → o ≡ None
none_named None never = refl
none_named (Some f) never = absurd (never f refl)

-- a Write in the fileset of its place: `o` is the file that the step says it wrote
module _ (h : HostId) (fileset : Fileset) (from : ℕ) (o : Option Fid) (size : Fid → ℕ) (fid : Fid) (cells : Cells)
    (p : Part) where
  abbrev says : Result ℕ Refusal → List ℕ → Verdict
  says checks bytes =
      either checks (λ anode. written_verdict (use_of fileset anode) from bytes) (λ refusal. Replies (Refused refusal))

  pub write_leaves : (bytes : List ℕ) (checks : Result ℕ Refusal)
      → ((f : Fid) → says checks bytes ≡ Writes f from bytes → o ≡ Some f)
      → ((f : Fid) → o ≡ Some f → (n : ℕ) × (bs : List ℕ) × (says checks bytes ≡ Writes f n bs))
      → (o ≡ Some fid → size fid ≡ present (cells Size))
      → after_fate (if has_id fid.fileset fileset
      then if_reached fileset fid (write_fate h from bytes) checks else Stays) cells p
      ≡ writes h o (Some (record { from = from; bytes = bytes })) (size fid) fid p (cells p)
  write_leaves bytes (Err refusal) to back seen =
      stays (has_id fid.fileset fileset)
      ∙ sym (ap (λ (x : Option Fid). writes h x (Some (record { from = from; bytes = bytes })) (size fid) fid p (cells p))
      (none_named o (λ f e. let k = back f e in let q : Replies (Refused refusal) ≡ Writes f k.0 k.1 = k.2 in cc)))
    where
      stays : (b : Bool) → after_fate (if b then Stays else Stays) cells p ≡ cells p
      stays true = refl
      stays false = refl
  write_leaves [] (Ok anode) to back seen =
      stays (has_id fid.fileset fileset) (names_use fileset anode fid)
      ∙ sym (ap (λ (x : Option Fid). writes h x (Some (record { from = from; bytes = [] })) (size fid) fid p (cells p))
      (none_named o (λ f e. let k = back f e in let q : Replies Done ≡ Writes f k.0 k.1 = k.2 in cc)))
    where
      stays : (a b : Bool) → after_fate (if a then (if b then Stays else Stays) else Stays) cells p ≡ cells p
      stays true true = refl
      stays true false = refl
      stays false b = refl
  write_leaves (byte ∷ bytes) (Ok anode) to back seen =
      let named : o ≡ Some (use_of fileset anode) = to (use_of fileset anode) refl in
      by (fileset.id.0 == fid.fileset.0) (anode == fid.anode) (unique_at fileset.anodes anode == fid.unique) refl refl refl
      ∙ sym (ap (λ (x : Option Fid).
      writes h x (Some (record { from = from; bytes = byte ∷ bytes })) (size fid) fid p (cells p)) named)
    where
      by : (a b c : Bool) → (fileset.id.0 == fid.fileset.0) ≡ a → (anode == fid.anode) ≡ b
          → (unique_at fileset.anodes anode == fid.unique) ≡ c
          → after_fate (if fileset.id.0 == fid.fileset.0 then
          (if (anode == fid.anode) && (unique_at fileset.anodes anode == fid.unique)
          then IsWritten h from (byte ∷ bytes) else Stays) else Stays) cells p
          ≡ written h (if (fileset.id.0 == fid.fileset.0) && (anode == fid.anode)
          && (unique_at fileset.anodes anode == fid.unique)
          then written_at (Some (record { from = from; bytes = byte ∷ bytes })) (size fid) p else None) (cells p)
      by a b c ea eb ec =
          ap (λ (x : Bool × Bool × Bool). after_fate (if x.0 then
          (if x.1 && x.2 then IsWritten h from (byte ∷ bytes) else Stays) else Stays) cells p) (λ i. (ea i, eb i, ec i))
          ∙ (pick a b c ea eb ec
          ∙ ap (λ (x : Bool × Bool × Bool). written h (if x.0 && x.1 && x.2
          then written_at (Some (record { from = from; bytes = byte ∷ bytes })) (size fid) p else None) (cells p))
          (λ i. (sym ea i, sym eb i, sym ec i)))
        where
          its : (fileset.id.0 == fid.fileset.0) ≡ true → (anode == fid.anode) ≡ true
              → (unique_at fileset.anodes anode == fid.unique) ≡ true → o ≡ Some fid
          its x y z =
              let f = eqb-true fileset.id.0 fid.fileset.0 x in
              let a = eqb-true anode fid.anode y in
              let u = eqb-true (unique_at fileset.anodes anode) fid.unique z in
              to (use_of fileset anode) refl
              ∙ (λ i. Some (record { fileset = record { 0 = f i }; anode = a i; unique = u i }))

          pick : (a b c : Bool) → (fileset.id.0 == fid.fileset.0) ≡ a → (anode == fid.anode) ≡ b
              → (unique_at fileset.anodes anode == fid.unique) ≡ c
              → after_fate (if a then (if b && c then IsWritten h from (byte ∷ bytes) else Stays) else Stays) cells p
              ≡ written h (if a && b && c
              then written_at (Some (record { from = from; bytes = byte ∷ bytes })) (size fid) p else None) (cells p)
          pick true true true x y z = left_by h from byte bytes cells p (size fid) (seen (its x y z))
          pick true true false x y z = refl
          pick true false c x y z = refl
          pick false b c x y z = refl
