-- What a write changes.
use Rattle.std.proofs.Common.{◌≡◌, ◌<◌, ◌≤◌, ◌⊎◌, ℕ, ◌+◌, ◌-◌, ◌==◌, nat_lt, nat_le, Bool, true, false, ◌&&◌, List, [], ◌∷◌, length, Option, Some, None, Result, Ok, Err, refl, sym, ap, ◌∙◌, inl, inr, arith}
use Rattle.std.specs.Prelude.{slice_get, if◌then◌else◌}
use Rattle.std.proofs.lemmas.Grind.{common_steps}
use Rattle.base_types.specs.Ids.{same_fid}
use Rattle.base_types.specs.Image.{byte_at}
use Rattle.base_types.specs.Outcomes.{either}
use Rattle.base_types.specs.declared.ids.HostId.{HostId}
use Rattle.base_types.specs.declared.ids.Fid.{Fid}
use Rattle.base_types.specs.declared.user.User.{User}
use Rattle.tree_calls.specs.declared.call.Call.TheVariants.{Write}
use Rattle.tree_calls.specs.declared.place.Place.{Place}
use Rattle.tree_calls.specs.declared.reply.Refusal.{Refusal}
use Rattle.tree_calls.specs.Rosters.{user_of}
use Rattle.tree_objects.proofs.Observed.{and_left, and_right}
use Rattle.tree_objects.proofs.Rising.{and_both}
use Rattle.tree_filesets.specs.declared.fileset.Fileset.{Fileset}
use Rattle.tree_filesets.specs.Changing.{write_target}
use Rattle.tree_filesets.specs.Walk.{unique_at}
use Rattle.tree_answers.specs.declared.tree.Tree.{Tree}
use Rattle.tree_answers.specs.Answers.{answer_to}
use Rattle.tree_answers.specs.Finding.{has_id, fileset_place}
use Rattle.tree_laws.specs.Parts.{Part, Seen, Cell, present, cell_at}
use Rattle.tree_laws.specs.Parts.Part.{ByteAt, Size, Traits, Entries}
use Rattle.tree_laws.specs.Fates.{Cells, Fate, byte_written, size_written, after_fate, names_use, write_fate, if_reached, fate_at, fate_for}
use Rattle.tree_laws.specs.Fates.Fate.{Stays}
use Rattle.tree_laws.specs.Writes.{WritesChangeTheirSpans}
use Rattle.tree_laws.proofs.Steps.{no_dir, no_file, same_number, number_is}
use Rattle.tree_laws.proofs.TreeFates.{fates_call}

-- whether a write reaches what a fid names
abbrev reaches : Fileset → Fid → Result ℕ Refusal → Bool
reaches fileset fid (Ok anode) = names_use fileset anode fid
reaches fileset fid (Err refusal) = false

abbrev reaches_in : Option Fileset → User → Place → ℕ → Fid → Bool
reaches_in None user place end fid = false
reaches_in (Some fileset) user place end fid = has_id fid.fileset fileset && reaches fileset fid (write_target fileset user place.path end)

abbrev reaches_at : Tree → Result ℕ Refusal → User → Place → ℕ → Fid → Bool
reaches_at tree (Ok index) user place end fid = reaches_in (slice_get tree.filesets index) user place end fid
reaches_at tree (Err refusal) user place end fid = false

abbrev reaches_for : Tree → Option User → Place → ℕ → Fid → Bool
reaches_for tree None place end fid = false
reaches_for tree (Some user) place end fid = reaches_at tree (fileset_place tree place.server place.fileset) user place end fid

-- it is all that a write does
if_reaches : (fileset : Fileset) (fid : Fid) (fate : Fate) (checks : Result ℕ Refusal) → if_reached fileset fid fate checks ≡ (if reaches fileset fid checks then fate else Stays)
if_reaches fileset fid fate (Ok anode) = refl
if_reaches fileset fid fate (Err refusal) = refl

fate_in : (tree : Tree) (host : HostId) (user : User) (place : Place) (from : ℕ) (bytes : List ℕ) (fid : Fid) (found : Option Fileset) →
    fate_at tree host user (Write place from bytes) fid found ≡ (if reaches_in found user place (from + length bytes) fid then write_fate host from bytes else Stays)
fate_in tree host user place from bytes fid None = refl
fate_in tree host user place from bytes fid (Some fileset) =
    ap (λ fate. if has_id fid.fileset fileset then fate else Stays) (if_reaches fileset fid (write_fate host from bytes) checks)
    ∙ both (has_id fid.fileset fileset) (reaches fileset fid checks)
  where
    checks : Result ℕ Refusal
    checks = write_target fileset user place.path (from + length bytes)

    both : (a b : Bool) → (if a then (if b then write_fate host from bytes else Stays) else Stays) ≡ (if a && b then write_fate host from bytes else Stays)
    both true b = refl
    both false b = refl

fate_place : (tree : Tree) (host : HostId) (user : User) (place : Place) (from : ℕ) (bytes : List ℕ) (fid : Fid) (found : Result ℕ Refusal) →
    either found (λ index. fate_at tree host user (Write place from bytes) fid (slice_get tree.filesets index)) (λ refusal. Stays)
    ≡ (if reaches_at tree found user place (from + length bytes) fid then write_fate host from bytes else Stays)
fate_place tree host user place from bytes fid (Ok index) = fate_in tree host user place from bytes fid (slice_get tree.filesets index)
fate_place tree host user place from bytes fid (Err refusal) = refl

write_fates : (tree : Tree) (host : HostId) (place : Place) (from : ℕ) (bytes : List ℕ) (fid : Fid) (found : Option User) →
    fate_for tree host (Write place from bytes) fid found ≡ (if reaches_for tree found place (from + length bytes) fid then write_fate host from bytes else Stays)
write_fates tree host place from bytes fid None = refl
write_fates tree host place from bytes fid (Some user) = fate_place tree host user place from bytes fid (fileset_place tree place.server place.fileset)

-- it reaches one object
one_reached : (a b : Fid) (fileset : Fileset) (checks : Result ℕ Refusal) → (has_id a.fileset fileset && reaches fileset a checks) ≡ true → (has_id b.fileset fileset && reaches fileset b checks) ≡ true → same_fid a b ≡ true
one_reached a b fileset (Err refusal) h k = no_file (and_right (has_id a.fileset fileset) false h)
one_reached a b fileset (Ok anode) h k =
    let f = number_is fileset.id.0 a.fileset.0 (and_left (has_id a.fileset fileset) (names_use fileset anode a) h) in
    let g = number_is fileset.id.0 b.fileset.0 (and_left (has_id b.fileset fileset) (names_use fileset anode b) k) in
    let m = and_right (has_id a.fileset fileset) (names_use fileset anode a) h in
    let n = and_right (has_id b.fileset fileset) (names_use fileset anode b) k in
    let i = number_is anode a.anode (and_left (anode == a.anode) (unique_at fileset.anodes anode == a.unique) m) in
    let j = number_is anode b.anode (and_left (anode == b.anode) (unique_at fileset.anodes anode == b.unique) n) in
    let u = number_is (unique_at fileset.anodes anode) a.unique (and_right (anode == a.anode) (unique_at fileset.anodes anode == a.unique) m) in
    let v = number_is (unique_at fileset.anodes anode) b.unique (and_right (anode == b.anode) (unique_at fileset.anodes anode == b.unique) n) in
    and_both _ _ (and_both _ _ (equal a.fileset.0 b.fileset.0 (sym f ∙ g)) (equal a.anode b.anode (sym i ∙ j))) (equal a.unique b.unique (sym u ∙ v))
  where
    equal : (m n : ℕ) → m ≡ n → (m == n) ≡ true
    equal m n e = ap (λ k. m == k) (sym e) ∙ same_number m

one_in : (a b : Fid) (found : Option Fileset) (user : User) (place : Place) (end : ℕ) → reaches_in found user place end a ≡ true → reaches_in found user place end b ≡ true → same_fid a b ≡ true
one_in a b None user place end h k = no_file h
one_in a b (Some fileset) user place end h k = one_reached a b fileset (write_target fileset user place.path end) h k

one_at : (tree : Tree) (a b : Fid) (found : Result ℕ Refusal) (user : User) (place : Place) (end : ℕ) → reaches_at tree found user place end a ≡ true → reaches_at tree found user place end b ≡ true → same_fid a b ≡ true
one_at tree a b (Ok index) user place end h k = one_in a b (slice_get tree.filesets index) user place end h k
one_at tree a b (Err refusal) user place end h k = no_file h

one_for : (tree : Tree) (a b : Fid) (found : Option User) (place : Place) (end : ℕ) → reaches_for tree found place end a ≡ true → reaches_for tree found place end b ≡ true → same_fid a b ≡ true
one_for tree a b None place end h k = no_file h
one_for tree a b (Some user) place end h k = one_at tree a b (fileset_place tree place.server place.fileset) user place end h k

-- what a write leaves of an object
byte_outside : (host : HostId) (from : ℕ) (bytes : List ℕ) (at : ℕ) (cell : Cell ℕ) → (at < from) ⊎ (from + length bytes ≤ at) → byte_written host from bytes at cell ≡ cell
byte_outside host from bytes at cell (inl low) = let e : nat_le from at ≡ false = grind (arith, common_steps, low) in rw e refl
byte_outside host from bytes at cell (inr high) = by_first (nat_le from at)
  where
    by_first : (b : Bool) → (if b && nat_lt at (from + length bytes) then (let new : Cell ℕ = record cell { unsaved = Some (record { writer = host; value = byte_at bytes (at - from) }) } in new) else cell) ≡ cell
    by_first true = let e : nat_lt at (from + length bytes) ≡ false = grind (arith, common_steps, high) in rw e refl
    by_first false = refl

byte_kept : (host : HostId) (from : ℕ) (bytes : List ℕ) (at : ℕ) (cell : Cell ℕ) → (byte_written host from bytes at cell).kept ≡ cell.kept
byte_kept host from bytes at cell = by_test (nat_le from at && nat_lt at (from + length bytes))
  where
    by_test : (b : Bool) → (if b then (let new : Cell ℕ = record cell { unsaved = Some (record { writer = host; value = byte_at bytes (at - from) }) } in new) else cell).kept ≡ cell.kept
    by_test true = refl
    by_test false = refl

size_kept : (host : HostId) (end : ℕ) (cell : Cell ℕ) → (size_written host end cell).kept ≡ cell.kept
size_kept host end cell = by_test (nat_lt (present cell) end)
  where
    by_test : (b : Bool) → (if b then (let new : Cell ℕ = record cell { unsaved = Some (record { writer = host; value = end }) } in new) else cell).kept ≡ cell.kept
    by_test true = refl
    by_test false = refl

after_outside : (host : HostId) (from : ℕ) (bytes : List ℕ) (at : ℕ) (cells : Cells) → (at < from) ⊎ (from + length bytes ≤ at) → after_fate (write_fate host from bytes) cells (ByteAt at) ≡ cells (ByteAt at)
after_outside host from [] at cells out = refl
after_outside host from (byte ∷ bytes) at cells out = byte_outside host from (byte ∷ bytes) at (cells (ByteAt at)) out

after_kept : (host : HostId) (from : ℕ) (bytes : List ℕ) (cells : Cells) (part : Part) → (after_fate (write_fate host from bytes) cells part).kept ≡ (cells part).kept
after_kept host from [] cells part = refl
after_kept host from (byte ∷ bytes) cells (ByteAt at) = byte_kept host from (byte ∷ bytes) at (cells (ByteAt at))
after_kept host from (byte ∷ bytes) cells Size = size_kept host (from + length (byte ∷ bytes)) (cells Size)
after_kept host from (byte ∷ bytes) cells Traits = refl
after_kept host from (byte ∷ bytes) cells Entries = refl

after_traits : (host : HostId) (from : ℕ) (bytes : List ℕ) (cells : Cells) → after_fate (write_fate host from bytes) cells Traits ≡ cells Traits
after_traits host from [] cells = refl
after_traits host from (byte ∷ bytes) cells = refl

after_entries : (host : HostId) (from : ℕ) (bytes : List ℕ) (cells : Cells) → after_fate (write_fate host from bytes) cells Entries ≡ cells Entries
after_entries host from [] cells = refl
after_entries host from (byte ∷ bytes) cells = refl

-- one way or the other
either_way : (tree : Tree) (host : HostId) (from : ℕ) (bytes : List ℕ) (fid : Fid) (part : Part) (P : Cell (Seen part) → Type 0) → P (after_fate (write_fate host from bytes) (cell_at tree fid) part) → P (cell_at tree fid part) → (b : Bool) →
    P (after_fate (if b then write_fate host from bytes else Stays) (cell_at tree fid) part)
either_way tree host from bytes fid part P reached missed true = reached
either_way tree host from bytes fid part P reached missed false = missed

pub writes_change_their_spans : WritesChangeTheirSpans
writes_change_their_spans tree host place from bytes w = record {
  one = λ a b apart. by_tests a b apart (reach a) (reach b) refl refl;
  outside = λ fid at out. leaves fid (ByteAt at) ∙ either_way tree host from bytes fid (ByteAt at) (λ cell. cell ≡ cell_at tree fid (ByteAt at)) (after_outside host from bytes at (cell_at tree fid) out) refl (reach fid);
  traits = λ fid. leaves fid Traits ∙ either_way tree host from bytes fid Traits (λ cell. cell ≡ cell_at tree fid Traits) (after_traits host from bytes (cell_at tree fid)) refl (reach fid);
  entries = λ fid. leaves fid Entries ∙ either_way tree host from bytes fid Entries (λ cell. cell ≡ cell_at tree fid Entries) (after_entries host from bytes (cell_at tree fid)) refl (reach fid);
  kept = λ fid part. ap (λ cell. cell.kept) (leaves fid part) ∙ either_way tree host from bytes fid part (λ cell. cell.kept ≡ (cell_at tree fid part).kept) (after_kept host from bytes (cell_at tree fid) part) refl (reach fid);
}
  where
    reach : Fid → Bool
    reach fid = reaches_for tree (user_of tree.roster host) place (from + length bytes) fid

    leaves : (fid : Fid) (part : Part) → cell_at (answer_to tree host (Write place from bytes)).tree fid part ≡ after_fate (if reach fid then write_fate host from bytes else Stays) (cell_at tree fid) part
    leaves fid part = fates_call tree host (Write place from bytes) fid part w ∙ ap (λ fate. after_fate fate (cell_at tree fid) part) (write_fates tree host place from bytes fid (user_of tree.roster host))

    by_tests : (a b : Fid) → same_fid a b ≡ false → (s t : Bool) → reach a ≡ s → reach b ≡ t →
        ((part : Part) → cell_at (answer_to tree host (Write place from bytes)).tree a part ≡ cell_at tree a part) ⊎ ((part : Part) → cell_at (answer_to tree host (Write place from bytes)).tree b part ≡ cell_at tree b part)
    by_tests a b apart false t e f = inl (λ part. leaves a part ∙ ap (λ r. after_fate (if r then write_fate host from bytes else Stays) (cell_at tree a) part) e)
    by_tests a b apart true false e f = inr (λ part. leaves b part ∙ ap (λ r. after_fate (if r then write_fate host from bytes else Stays) (cell_at tree b) part) f)
    by_tests a b apart true true e f = no_dir (sym (one_for tree a b (user_of tree.roster host) place (from + length bytes) e f) ∙ apart)
