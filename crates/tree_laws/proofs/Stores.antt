-- What a host stores was its own, and no reader sees a change.
use Rattle.std.proofs.Common.{◌≡◌, ◌<◌, ◌≤◌, ◌⊎◌, ℕ, zero, suc, ◌+◌, ◌-◌, ◌==◌, nat_lt, nat_le, Bool, true, false, ◌&&◌, ◌||◌, not, cond, List, [], ◌∷◌, length, Option, Some, None, refl, sym, ap, ◌∙◌, subst, inl, inr, rules, arith}
use Rattle.std.specs.Prelude.{unwrap_or, if◌then◌else◌}
use Rattle.std.specs.List.{find, list_all}
use Rattle.std.specs.Option.{option_map, option_map_or, option_and_then}
use Rattle.std.proofs.lemmas.Bool.Decides.{eqb_tells}
use Rattle.std.proofs.lemmas.Grind.{common_steps}
use Rattle.base_types.specs.Ids.{same_fid}
use Rattle.base_types.specs.Spans.{has_byte, in_spans}
use Rattle.base_types.specs.declared.ids.HostId.{HostId}
use Rattle.base_types.specs.declared.ids.Fid.{Fid}
use Rattle.base_types.specs.declared.span.Span.{Span}
use Rattle.tree_calls.specs.declared.entry.Entry.TheVariants.{Stored}
use Rattle.tree_objects.specs.declared.content.Content.{Content}
use Rattle.tree_objects.specs.declared.content.Content.TheVariants.{Dir, File}
use Rattle.tree_objects.specs.declared.content.Object.{Object}
use Rattle.tree_objects.specs.declared.content.Unsaved.{Unsaved}
use Rattle.tree_objects.specs.declared.content.UnsavedLength.{UnsavedLength}
use Rattle.tree_objects.specs.Files.{present_length, unsaved_at}
use Rattle.tree_objects.specs.Stores.{has_written, is_storable_length, is_storable}
use Rattle.tree_objects.proofs.Observed.{and_left, and_right, get_past}
use Rattle.tree_objects.proofs.Rising.{and_both}
use Rattle.tree_filesets.specs.declared.fileset.Fileset.{Fileset}
use Rattle.tree_filesets.specs.Walk.{object_at, unique_at}
use Rattle.tree_answers.specs.declared.tree.Tree.{Tree}
use Rattle.tree_answers.specs.Finding.{has_id}
use Rattle.tree_answers.specs.Stores.{content_in, may_store}
use Rattle.tree_answers.specs.Histories.{after_entry}
use Rattle.tree_answers.specs.WellFormed.{IsWellFormed}
use Rattle.tree_laws.specs.Parts.{Part, Written, Cell, present, settled, written_byte, written_length, cell_of, cell_found, cell_in, cell_at}
use Rattle.tree_laws.specs.Parts.Part.{ByteAt, Size, Traits, Entries}
use Rattle.tree_laws.specs.Fates.{Cells, is_of, byte_stored, size_left, size_stored, after_fate}
use Rattle.tree_laws.specs.Fates.Fate.{Stays, IsStored}
use Rattle.tree_laws.specs.Stores.{MayStore, StoresAreKept, HostsStoreTheirOwn}
use Rattle.tree_laws.proofs.Steps.{no_dir, no_file, same_number, number_is, fid_is}
use Rattle.tree_laws.proofs.TreeFates.{parts_change_so}

-- what a host may store, by what there is of the file
pub record Storable (host : HostId) (spans : List Span) (stored : Option ℕ) (cells : Cells) : Type 0 where
  -- each byte of the spans is the host's, below the kept length that is left
  pub bytes : (at : ℕ) → in_spans spans at ≡ true → (is_of host (cells (ByteAt at)).unsaved ≡ true) × (nat_lt at (unwrap_or stored (cells Size).kept) ≡ true)
  -- a length is the kept one, or at most the host's
  pub sizes : (len : ℕ) → stored ≡ Some len → ((cells Size).kept ≤ len) × (len ≤ present (cells Size)) × ((len ≡ (cells Size).kept) ⊎ (is_of host (cells Size).unsaved ≡ true))
  -- it is a file that is there
  pub there : option_map_or (λ nature. not nature.dir) (cells Traits).kept false ≡ true
  -- behind the kept length nothing is kept
  pub behind : (at : ℕ) → nat_lt at (cells Size).kept ≡ false → (cells (ByteAt at)).kept ≡ 0

-- the bytes that a host has written
own_byte : (host : HostId) (o : Option Unsaved) → option_map_or (λ byte. byte.writer.0 == host.0) o false ≡ is_of host (option_map written_byte o)
own_byte host None = refl
own_byte host (Some byte) = refl

abbrev IsWrittenAt : HostId → List Unsaved → ℕ → ℕ → Type 0
IsWrittenAt host unsaved end at = (is_of host (option_map written_byte (unsaved_at unsaved at)) ≡ true) × (nat_lt at end ≡ true)

written_at : (host : HostId) (unsaved : List Unsaved) (end from n at : ℕ) → has_written host unsaved end from n ≡ true → from ≤ at → at < from + n → IsWrittenAt host unsaved end at
written_at host unsaved end from zero at h low high = absurd (omega (arith, low, high))
written_at host unsaved end from (suc n) at h low high =
    elim (eqb_tells from at) as (λ _. IsWrittenAt host unsaved end at) [
      | inl (e, same) ↦ subst (λ p. IsWrittenAt host unsaved end p) same
          (sym (own_byte host (unsaved_at unsaved from)) ∙ and_left _ _ (and_left _ _ h), and_right _ _ (and_left _ _ h))
      | inr (e, other) ↦ written_at host unsaved end (suc from) n at (and_right _ _ h) (omega (arith, low, other)) (omega (arith, high))
    ]

written_in : (host : HostId) (unsaved : List Unsaved) (end : ℕ) (spans : List Span) (at : ℕ) →
    list_all (λ span. has_written host unsaved end span.from (span.to - span.from)) spans ≡ true → in_spans spans at ≡ true → IsWrittenAt host unsaved end at
written_in host unsaved end [] at h k = absurd (search (rules, k))
written_in host unsaved end (span ∷ spans) at h k =
    elim (has_byte span at) as (λ t. has_byte span at ≡ t → (t || in_spans spans at) ≡ true → IsWrittenAt host unsaved end at) [
      | true ↦ λ e _.
          let a : nat_le span.from at ≡ true = and_left _ _ e in
          let b : nat_lt at span.to ≡ true = and_right _ _ e in
          let low : span.from ≤ at = grind (arith, common_steps, a) in
          let high : at < span.to = grind (arith, common_steps, b) in
          written_at host unsaved end span.from (span.to - span.from) at (and_left _ _ h) low (omega (arith, low, high))
      | false ↦ λ _ m. written_in host unsaved end spans at (and_right _ _ h) m
    ] refl k

-- a length that a host may store
legal_size : (host : HostId) (kept : List ℕ) (len : Option UnsavedLength) (stored : ℕ) → is_storable_length host kept len (Some stored) ≡ true →
    let cell : Cell ℕ = record { kept = length kept; unsaved = option_map written_length len } in
    (length kept ≤ stored) × (stored ≤ present cell) × ((stored ≡ length kept) ⊎ (is_of host cell.unsaved ≡ true))
legal_size host kept len stored h = (a, by_present len b, by_kind len (eqb_tells stored (length kept)) h)
  where
    a : length kept ≤ stored
    a = let low : nat_le (length kept) stored ≡ true = and_left (nat_le (length kept) stored) (nat_le stored (present_length kept len)) (and_left (nat_le (length kept) stored && nat_le stored (present_length kept len)) ((stored == length kept) || option_map_or (λ unsaved. unsaved.writer.0 == host.0) len false) h) in grind (arith, common_steps, low)

    b : stored ≤ present_length kept len
    b = let high : nat_le stored (present_length kept len) ≡ true = and_right (nat_le (length kept) stored) (nat_le stored (present_length kept len)) (and_left (nat_le (length kept) stored && nat_le stored (present_length kept len)) ((stored == length kept) || option_map_or (λ unsaved. unsaved.writer.0 == host.0) len false) h) in grind (arith, common_steps, high)

    by_present : (o : Option UnsavedLength) → stored ≤ present_length kept o → stored ≤ option_map_or (λ written. written.value) (option_map written_length o) (length kept)
    by_present None h = h
    by_present (Some len) h = h

    second : (a b : Bool) → a ≡ false → (a || b) ≡ true → b ≡ true
    second true b e h = no_dir e
    second false b e h = h

    owner : (o : Option UnsavedLength) → option_map_or (λ unsaved. unsaved.writer.0 == host.0) o false ≡ is_of host (option_map written_length o)
    owner None = refl
    owner (Some len) = refl

    by_kind : (o : Option UnsavedLength) → ((stored == length kept) ≡ true) × (stored ≡ length kept) ⊎ ((stored == length kept) ≡ false) × (stored ≡ length kept → ⊥) → is_storable_length host kept o (Some stored) ≡ true →
        (stored ≡ length kept) ⊎ (is_of host (option_map written_length o) ≡ true)
    by_kind o (inl (e, same)) k = inl same
    by_kind o (inr (e, other)) k = inr (sym (owner o) ∙ second (stored == length kept) (option_map_or (λ unsaved. unsaved.writer.0 == host.0) o false) e
        (and_right (nat_le (length kept) stored && nat_le stored (present_length kept o)) ((stored == length kept) || option_map_or (λ unsaved. unsaved.writer.0 == host.0) o false) k))

storable_content : (read_only : Bool) (owner group : List ℕ) (host : HostId) (spans : List Span) (stored : Option ℕ) (content : Content) → is_storable host spans stored content ≡ true →
    Storable host spans stored (λ part. cell_of read_only (record { owner = owner; group = group; content = content }) part)
storable_content read_only owner group host spans stored (Dir entries lists) h = absurd (search (rules, h))
storable_content read_only owner group host spans stored (File list kept unsaved len) h = record {
  bytes = λ at inside. written_in host unsaved (unwrap_or stored (length kept)) spans at (and_right _ _ h) inside;
  there = refl;
  sizes = λ n e. legal_size host kept len n (subst (λ o. is_storable_length host kept len o ≡ true) e (and_left _ _ h));
  behind = λ at e. let past : length kept ≤ at = grind (arith, common_steps, e) in get_past kept at past;
}

storable_object : (read_only b : Bool) (host : HostId) (spans : List Span) (stored : Option ℕ) (o : Option Object) →
    option_map_or (is_storable host spans stored) (cond b (option_map (λ object. object.content) o) None) false ≡ true →
    Storable host spans stored (λ part. cell_found read_only (cond b o None) part)
storable_object read_only true host spans stored (Some object) h = storable_content read_only object.owner object.group host spans stored object.content h
storable_object read_only true host spans stored None h = absurd (search (rules, h))
storable_object read_only false host spans stored o h = absurd (search (rules, h))

storable_in : (o : Option Fileset) (host : HostId) (fid : Fid) (spans : List Span) (stored : Option ℕ) →
    option_map_or (is_storable host spans stored) (option_and_then (λ fileset. content_in fileset fid) o) false ≡ true → Storable host spans stored (λ part. cell_in o fid part)
storable_in None host fid spans stored h = absurd (search (rules, h))
storable_in (Some fileset) host fid spans stored h =
    storable_object fileset.read_only (unique_at fileset.anodes fid.anode == fid.unique) host spans stored (object_at fileset.anodes fid.anode) h

-- what readers see
cut_kept : (kept : ℕ) (unsaved : Option (Written ℕ)) (b : Bool) → (b ≡ false → kept ≡ 0) →
    (let new : Cell ℕ = record { kept = if b then kept else 0; unsaved = unsaved } in new) ≡ (let old : Cell ℕ = record { kept = kept; unsaved = unsaved } in old)
cut_kept kept unsaved true none = refl
cut_kept kept unsaved false none = ap (λ n. let new : Cell ℕ = record { kept = n; unsaved = unsaved } in new) (sym (none refl))

seen_byte : (cell : Cell ℕ) (b : Bool) (end at : ℕ) → (nat_lt at end ≡ false → cell.kept ≡ 0) →
    present (if b then settled (present cell) else (let new : Cell ℕ = record cell { kept = if nat_lt at end then cell.kept else 0 } in new)) ≡ present cell
seen_byte cell true end at none = refl
seen_byte cell false end at none = ap present (cut_kept cell.kept cell.unsaved (nat_lt at end) none)

seen_left : (stored kept : ℕ) (o : Option (Written ℕ)) → (o ≡ None → stored ≡ kept) → option_map_or (λ written. written.value) (size_left stored o) stored ≡ option_map_or (λ written. written.value) o kept
seen_left stored kept None same = same refl
seen_left stored kept (Some written) same = by_test (written.value == stored) refl
  where
    by_test : (b : Bool) → (written.value == stored) ≡ b → option_map_or (λ written. written.value) (if b then None else Some written) stored ≡ written.value
    by_test true e = sym (number_is written.value stored e)
    by_test false e = refl

-- no part is seen otherwise
low_end : (stored : Option ℕ) (kept at : ℕ) → ((len : ℕ) → stored ≡ Some len → kept ≤ len) → nat_lt at (unwrap_or stored kept) ≡ false → nat_lt at kept ≡ false
low_end None kept at low h = h
low_end (Some len) kept at low h = let a = low len refl in grind (arith, common_steps, h, a)

seen_size : (host : HostId) (stored : Option ℕ) (cell : Cell ℕ) → ((len : ℕ) → stored ≡ Some len → (len ≡ cell.kept) ⊎ (is_of host cell.unsaved ≡ true)) →
    present (size_stored stored cell) ≡ present cell
seen_size host None cell may = refl
seen_size host (Some len) cell may = seen_left len cell.kept cell.unsaved (λ none. by_kind none (may len refl))
  where
    by_kind : cell.unsaved ≡ None → (len ≡ cell.kept) ⊎ (is_of host cell.unsaved ≡ true) → len ≡ cell.kept
    by_kind none (inl same) = same
    by_kind none (inr own) = no_file (sym (ap (λ o. is_of host o) none) ∙ own)

seen_part : (host : HostId) (spans : List Span) (stored : Option ℕ) (cells : Cells) (part : Part) → Storable host spans stored cells → present (after_fate (IsStored host spans stored) cells part) ≡ present (cells part)
seen_part host spans stored cells (ByteAt at) may =
    let end = unwrap_or stored (cells Size).kept in
    seen_byte (cells (ByteAt at)) (is_of host (cells (ByteAt at)).unsaved && nat_lt at end && in_spans spans at) end at
    (λ past. may.behind at (low_end stored (cells Size).kept at (λ len e. (may.sizes len e).0) past))
seen_part host spans stored cells Size may = seen_size host stored (cells Size) (λ len e. (may.sizes len e).2)
seen_part host spans stored cells Traits may = refl
seen_part host spans stored cells Entries may = refl

same_itself : (fid : Fid) → same_fid fid fid ≡ true
same_itself fid = rw (same_number fid.fileset.0, same_number fid.anode, same_number fid.unique) refl

-- a byte of the spans
stored_byte : (host : HostId) (spans : List Span) (end at : ℕ) (cell : Cell ℕ) → is_of host cell.unsaved ≡ true → nat_lt at end ≡ true → in_spans spans at ≡ true →
    byte_stored host spans end at cell ≡ settled (present cell)
stored_byte host spans end at cell own below inside =
    by_test (is_of host cell.unsaved && nat_lt at end && in_spans spans at) (rw (own, below, inside) refl)
  where
    by_test : (b : Bool) → b ≡ true → (if b then settled (present cell) else (let new : Cell ℕ = record cell { kept = if nat_lt at end then cell.kept else 0 } in new)) ≡ settled (present cell)
    by_test true e = refl
    by_test false e = absurd (search (rules, e))

-- what a host may store, told as a test
written_run : (host : HostId) (unsaved : List Unsaved) (end from n : ℕ) → ((at : ℕ) → from ≤ at → at < from + n → IsWrittenAt host unsaved end at) → has_written host unsaved end from n ≡ true
written_run host unsaved end from zero h = refl
written_run host unsaved end from (suc n) h =
    let (own, below) = h from (omega arith) (omega arith) in
    and_both _ _ (and_both _ _ (own_byte host (unsaved_at unsaved from) ∙ own) below)
    (written_run host unsaved end (suc from) n (λ at low high. h at (omega (arith, low)) (omega (arith, high))))

written_all : (host : HostId) (unsaved : List Unsaved) (end : ℕ) (spans : List Span) → ((at : ℕ) → in_spans spans at ≡ true → IsWrittenAt host unsaved end at) →
    list_all (λ span. has_written host unsaved end span.from (span.to - span.from)) spans ≡ true
written_all host unsaved end [] h = refl
written_all host unsaved end (span ∷ spans) h =
    and_both _ _
    (written_run host unsaved end span.from (span.to - span.from) (λ at low high.
    let a : nat_le span.from at ≡ true = grind (arith, common_steps, low) in
    let below : at < span.to = omega (arith, low, high) in
    let b : nat_lt at span.to ≡ true = grind (arith, common_steps, below) in
    h at (ap (λ t. t || in_spans spans at) (and_both _ _ a b))))
    (written_all host unsaved end spans (λ at inside. h at (or_second (has_byte span at) (in_spans spans at) inside)))
  where
    or_second : (a b : Bool) → b ≡ true → (a || b) ≡ true
    or_second true b e = refl
    or_second false b e = e

size_test : (host : HostId) (kept : List ℕ) (len : Option UnsavedLength) (stored : Option ℕ) →
    (let cell : Cell ℕ = record { kept = length kept; unsaved = option_map written_length len } in
    (n : ℕ) → stored ≡ Some n → (length kept ≤ n) × (n ≤ present cell) × ((n ≡ length kept) ⊎ (is_of host cell.unsaved ≡ true))) →
    is_storable_length host kept len stored ≡ true
size_test host kept len None h = refl
size_test host kept len (Some n) h =
    let (low, high, which) = h n refl in
    and_both _ _ (and_both _ _ (grind (arith, common_steps, low)) (by_present len high)) (by_kind len which)
  where
    by_present : (o : Option UnsavedLength) → n ≤ option_map_or (λ written. written.value) (option_map written_length o) (length kept) → nat_le n (present_length kept o) ≡ true
    by_present None h = grind (arith, common_steps, h)
    by_present (Some len) h = grind (arith, common_steps, h)

    or_second : (a b : Bool) → b ≡ true → (a || b) ≡ true
    or_second true b e = refl
    or_second false b e = e

    by_kind : (o : Option UnsavedLength) → (n ≡ length kept) ⊎ (is_of host (option_map written_length o) ≡ true) → ((n == length kept) || option_map_or (λ unsaved. unsaved.writer.0 == host.0) o false) ≡ true
    by_kind o (inl same) = let e : (n == length kept) ≡ true = grind (arith, common_steps, same) in ap (λ t. t || option_map_or (λ unsaved. unsaved.writer.0 == host.0) o false) e
    by_kind None (inr own) = no_file own
    by_kind (Some len) (inr own) = or_second (n == length kept) (len.writer.0 == host.0) own

-- the part of it that speaks of one file
pub record MayStoreCells (host : HostId) (spans : List Span) (stored : Option ℕ) (cells : Cells) : Type 0 where
  pub there : option_map_or (λ nature. not nature.dir) (cells Traits).kept false ≡ true
  pub bytes : (at : ℕ) → in_spans spans at ≡ true → (is_of host (cells (ByteAt at)).unsaved ≡ true) × (nat_lt at (unwrap_or stored (cells Size).kept) ≡ true)
  pub sizes : (len : ℕ) → stored ≡ Some len → ((cells Size).kept ≤ len) × (len ≤ present (cells Size)) × ((len ≡ (cells Size).kept) ⊎ (is_of host (cells Size).unsaved ≡ true))

may_content : (read_only : Bool) (owner group : List ℕ) (host : HostId) (spans : List Span) (stored : Option ℕ) (content : Content) →
    MayStoreCells host spans stored (λ part. cell_of read_only (record { owner = owner; group = group; content = content }) part) → is_storable host spans stored content ≡ true
may_content read_only owner group host spans stored (Dir entries lists) may = no_file may.there
may_content read_only owner group host spans stored (File list kept unsaved len) may =
    and_both _ _ (size_test host kept len stored may.sizes) (written_all host unsaved (unwrap_or stored (length kept)) spans may.bytes)

may_object : (read_only b : Bool) (host : HostId) (spans : List Span) (stored : Option ℕ) (o : Option Object) → MayStoreCells host spans stored (λ part. cell_found read_only (cond b o None) part) →
    option_map_or (is_storable host spans stored) (cond b (option_map (λ object. object.content) o) None) false ≡ true
may_object read_only true host spans stored (Some object) may = may_content read_only object.owner object.group host spans stored object.content may
may_object read_only true host spans stored None may = no_file may.there
may_object read_only false host spans stored o may = no_file may.there

may_in : (o : Option Fileset) (host : HostId) (fid : Fid) (spans : List Span) (stored : Option ℕ) → MayStoreCells host spans stored (λ part. cell_in o fid part) →
    option_map_or (is_storable host spans stored) (option_and_then (λ fileset. content_in fileset fid) o) false ≡ true
may_in None host fid spans stored may = no_file may.there
may_in (Some fileset) host fid spans stored may =
    may_object fileset.read_only (unique_at fileset.anodes fid.anode == fid.unique) host spans stored (object_at fileset.anodes fid.anode) may

may_from : (tree : Tree) (host : HostId) (file : Fid) (spans : List Span) (stored : Option ℕ) → may_store tree host file spans stored ≡ true → MayStore tree host file spans stored
may_from tree host file spans stored legal =
    let may = storable_in (find (has_id file.fileset) tree.filesets) host file spans stored legal in
    record {
      there = may.there;
      bytes = λ at inside. let (own, below) = may.bytes at inside in (own, grind (arith, common_steps, below));
      size = may.sizes;
    }

may_to : (tree : Tree) (host : HostId) (file : Fid) (spans : List Span) (stored : Option ℕ) → MayStore tree host file spans stored → may_store tree host file spans stored ≡ true
may_to tree host file spans stored may = may_in (find (has_id file.fileset) tree.filesets) host file spans stored (record {
  there = may.there;
  bytes = λ at inside. let (own, below) = may.bytes at inside in (own, grind (arith, common_steps, below));
  sizes = may.size;
})

stores_are_kept : (tree : Tree) (host : HostId) (file : Fid) (spans : List Span) (stored : Option ℕ) → IsWellFormed tree → may_store tree host file spans stored ≡ true →
    StoresAreKept tree (after_entry tree (Stored host file spans stored)) file spans stored
stores_are_kept tree host file spans stored w legal = record {
  seen = λ fid part. ap present (parts_change_so tree (Stored host file spans stored) fid part w legal) ∙ by_test fid part (same_fid file fid) refl;
  bytes = λ at inside. let (own, below) = may.bytes at inside in here (ByteAt at) ∙ stored_byte host spans (unwrap_or stored (cell_at tree file Size).kept) at (cell_at tree file (ByteAt at)) own below inside;
  size = λ len e. ap (λ cell. cell.kept) (here Size) ∙ ap (λ o. (size_stored o (cell_at tree file Size)).kept) e;
}
  where
    may : Storable host spans stored (cell_at tree file)
    may = storable_in (find (has_id file.fileset) tree.filesets) host file spans stored legal

    here : (part : Part) → cell_at (after_entry tree (Stored host file spans stored)) file part ≡ after_fate (IsStored host spans stored) (cell_at tree file) part
    here part = parts_change_so tree (Stored host file spans stored) file part w legal ∙ ap (λ t. after_fate (if t then IsStored host spans stored else Stays) (cell_at tree file) part) (same_itself file)

    by_test : (fid : Fid) (part : Part) (b : Bool) → same_fid file fid ≡ b → present (after_fate (if b then IsStored host spans stored else Stays) (cell_at tree fid) part) ≡ present (cell_at tree fid part)
    by_test fid part true e = subst (λ f. present (after_fate (IsStored host spans stored) (cell_at tree f) part) ≡ present (cell_at tree f part)) (fid_is file fid e) (seen_part host spans stored (cell_at tree file) part may)
    by_test fid part false e = refl

pub hosts_store_their_own : HostsStoreTheirOwn
hosts_store_their_own = record {
  legal = λ tree host file spans stored. (may_from tree host file spans stored, may_to tree host file spans stored);
  kept = stores_are_kept;
}
