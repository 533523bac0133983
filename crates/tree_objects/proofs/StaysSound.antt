-- A well formed content stays so under each change.
use Rattle.std.proofs.Common.{◌≡◌, ℕ, ◌+◌, ◌≤◌, ◌==◌, nat_le, nat_lt, true, false, not, cond, List, [], ◌∷◌, length, length-set, filter, Option, Some, None, unwrap_or, refl, sym, ap, ◌∙◌, subst, arith}
use Rattle.std.specs.List.{list_all}
use Rattle.std.proofs.lemmas.Grind.{common_steps}
use Rattle.base_types.specs.declared.limits.TheConstants.{FILE_BYTES_MAX}
use Rattle.base_types.specs.declared.ids.HostId.{HostId}
use Rattle.base_types.specs.declared.span.Span.{Span}
use Rattle.base_types.specs.declared.access.AccessEntry.{AccessEntry}
use Rattle.tree_calls.specs.declared.part.DirEntry.{DirEntry}
use Rattle.tree_calls.specs.declared.place.Which.{Which}
use Rattle.tree_objects.specs.declared.content.Unsaved.{Unsaved}
use Rattle.tree_objects.specs.declared.content.UnsavedLength.{UnsavedLength}
use Rattle.tree_objects.specs.declared.content.Content.{Content}
use Rattle.tree_objects.specs.declared.content.Content.TheVariants.{Dir, File}
use Rattle.tree_objects.specs.Files.{present_length, present_bytes, bytes_over, resized}
use Rattle.tree_objects.specs.Changes.{unsaved_after, length_after, content_written, content_truncated, content_forgotten, content_as_cloned, length_forgotten}
use Rattle.tree_objects.specs.Stores.{is_stored, length_left, content_stored, content_synced, own_length, is_storable, is_storable_length}
use Rattle.tree_objects.specs.Entries.{entry_named, content_with_entry, content_without_entry}
use Rattle.tree_objects.specs.Objects.{list_index, content_with_list}
use Rattle.tree_objects.specs.Spans.{whole}
use Rattle.tree_objects.specs.Sound.{is_sound, is_longer}
use Rattle.tree_objects.specs.Positions.{positions_rise}
use Rattle.tree_objects.proofs.Observed.{and_left, and_right, over_length, length_resized}
use Rattle.tree_objects.proofs.Rising.{and_both, all_filter, rise_filter, rise_written, within_written, names_filter, names_insert}

-- within the limit of a file
pub within : (n : ℕ) → n ≤ FILE_BYTES_MAX → nat_le n FILE_BYTES_MAX ≡ true
within n h = grind (arith, common_steps, h)

pub within_is : (n : ℕ) → nat_le n FILE_BYTES_MAX ≡ true → n ≤ FILE_BYTES_MAX
within_is n h = grind (arith, common_steps, h)

-- a file's parts
pub sound_file : (list : List AccessEntry) (kept : List ℕ) (unsaved : List Unsaved) (len : Option UnsavedLength) →
    length kept ≤ FILE_BYTES_MAX → present_length kept len ≤ FILE_BYTES_MAX → positions_rise unsaved ≡ true → list_all (λ byte. nat_lt byte.at FILE_BYTES_MAX) unsaved ≡ true →
    is_longer kept len ≡ true → is_sound (File list kept unsaved len) ≡ true
sound_file list kept unsaved len a b c d e = and_both _ _ (and_both _ _ (and_both _ _ (and_both _ _ (within _ a) (within _ b)) c) d) e

pub kept_within : (list : List AccessEntry) (kept : List ℕ) (unsaved : List Unsaved) (len : Option UnsavedLength) → is_sound (File list kept unsaved len) ≡ true → length kept ≤ FILE_BYTES_MAX
kept_within list kept unsaved len h = within_is _ (and_left _ _ (and_left _ _ (and_left _ _ (and_left _ _ h))))

pub present_within : (list : List AccessEntry) (kept : List ℕ) (unsaved : List Unsaved) (len : Option UnsavedLength) → is_sound (File list kept unsaved len) ≡ true → present_length kept len ≤ FILE_BYTES_MAX
present_within list kept unsaved len h = within_is _ (and_right _ _ (and_left _ _ (and_left _ _ (and_left _ _ h))))

pub sound_rise : (list : List AccessEntry) (kept : List ℕ) (unsaved : List Unsaved) (len : Option UnsavedLength) → is_sound (File list kept unsaved len) ≡ true → positions_rise unsaved ≡ true
sound_rise list kept unsaved len h = and_right _ _ (and_left _ _ (and_left _ _ h))

pub sound_places : (list : List AccessEntry) (kept : List ℕ) (unsaved : List Unsaved) (len : Option UnsavedLength) → is_sound (File list kept unsaved len) ≡ true → list_all (λ byte. nat_lt byte.at FILE_BYTES_MAX) unsaved ≡ true
sound_places list kept unsaved len h = and_right _ _ (and_left _ _ h)

pub sound_longer : (list : List AccessEntry) (kept : List ℕ) (unsaved : List Unsaved) (len : Option UnsavedLength) → is_sound (File list kept unsaved len) ≡ true → is_longer kept len ≡ true
sound_longer list kept unsaved len h = and_right _ _ h

-- the present length after a write
written_length : (kept : List ℕ) (len : Option UnsavedLength) (host : HostId) (end : ℕ) → present_length kept len ≤ FILE_BYTES_MAX → end ≤ FILE_BYTES_MAX → present_length kept (length_after len (present_length kept len) host end) ≤ FILE_BYTES_MAX
written_length kept len host end h k =
    elim (nat_lt (present_length kept len) end) as (λ t. present_length kept (cond t (Some (record { length = end; writer = host })) len) ≤ FILE_BYTES_MAX) [ true ↦ k | false ↦ h ]

-- what is above the present length is above the kept one
above_kept : (kept : List ℕ) (len : Option UnsavedLength) (end : ℕ) → is_longer kept len ≡ true → nat_lt (present_length kept len) end ≡ true → nat_lt (length kept) end ≡ true
above_kept kept None end h k = k
above_kept kept (Some u) end h k = grind (arith, common_steps, h, k)

-- an unsaved length after a write
written_longer : (kept : List ℕ) (len : Option UnsavedLength) (host : HostId) (end : ℕ) → is_longer kept len ≡ true → is_longer kept (length_after len (present_length kept len) host end) ≡ true
written_longer kept len host end h =
    elim (nat_lt (present_length kept len) end) as (λ t. nat_lt (present_length kept len) end ≡ t → is_longer kept (cond t (Some (record { length = end; writer = host })) len) ≡ true)
    [ true ↦ λ e. above_kept kept len end h e | false ↦ λ e. h ] refl

pub sound_written : (host : HostId) (from : ℕ) (bytes : List ℕ) (content : Content) → from + length bytes ≤ FILE_BYTES_MAX → is_sound content ≡ true → is_sound (content_written host from bytes content) ≡ true
sound_written host from [] content k h = h
sound_written host from (v ∷ vs) (Dir entries lists) k h = h
sound_written host from (v ∷ vs) (File list kept unsaved len) k h =
    sound_file list kept (unsaved_after unsaved host from (v ∷ vs)) (length_after len (present_length kept len) host (from + length (v ∷ vs)))
    (kept_within list kept unsaved len h)
    (written_length kept len host (from + length (v ∷ vs)) (present_within list kept unsaved len h) k)
    (rise_written unsaved host from (v ∷ vs) (sound_rise list kept unsaved len h))
    (within_written FILE_BYTES_MAX unsaved host from (v ∷ vs) k (sound_places list kept unsaved len h))
    (written_longer kept len host (from + length (v ∷ vs)) (sound_longer list kept unsaved len h))

pub sound_truncated : (size : ℕ) (content : Content) → size ≤ FILE_BYTES_MAX → is_sound content ≡ true → is_sound (content_truncated size content) ≡ true
sound_truncated size (Dir entries lists) k h = h
sound_truncated size (File list kept unsaved len) k h =
    let n = length_resized (present_bytes kept unsaved len) size in
    let m = subst (λ l. l ≤ FILE_BYTES_MAX) (sym n) k in
    sound_file list (resized (present_bytes kept unsaved len) size) [] None m m refl refl refl

pub sound_clone : (content : Content) → is_sound content ≡ true → is_sound (content_as_cloned content) ≡ true
sound_clone (Dir entries lists) h = h
sound_clone (File list kept unsaved len) h =
    let m = subst (λ l. l ≤ FILE_BYTES_MAX) (sym (over_length kept unsaved 0 (present_length kept len))) (present_within list kept unsaved len h) in
    sound_file list (present_bytes kept unsaved len) [] None m m refl refl refl

-- the present length after a host's length is lost
forgotten_length : (host : HostId) (kept : List ℕ) (len : Option UnsavedLength) → length kept ≤ FILE_BYTES_MAX → present_length kept len ≤ FILE_BYTES_MAX → present_length kept (length_forgotten host len) ≤ FILE_BYTES_MAX
forgotten_length host kept None h k = h
forgotten_length host kept (Some u) h k = elim (u.writer.0 == host.0) as (λ t. present_length kept (cond t None (Some u)) ≤ FILE_BYTES_MAX) [ true ↦ h | false ↦ k ]

-- an unsaved length after a host's is lost
forgotten_longer : (host : HostId) (kept : List ℕ) (len : Option UnsavedLength) → is_longer kept len ≡ true → is_longer kept (length_forgotten host len) ≡ true
forgotten_longer host kept None h = refl
forgotten_longer host kept (Some u) h = elim (u.writer.0 == host.0) as (λ t. is_longer kept (cond t None (Some u)) ≡ true) [ true ↦ refl | false ↦ h ]

pub sound_forgotten : (host : HostId) (content : Content) → is_sound content ≡ true → is_sound (content_forgotten host content) ≡ true
sound_forgotten host (Dir entries lists) h = h
sound_forgotten host (File list kept unsaved len) h =
    sound_file list kept (filter (λ byte. not (byte.writer.0 == host.0)) unsaved) (length_forgotten host len)
    (kept_within list kept unsaved len h)
    (forgotten_length host kept len (kept_within list kept unsaved len h) (present_within list kept unsaved len h))
    (rise_filter _ unsaved (sound_rise list kept unsaved len h))
    (all_filter (λ byte. nat_lt byte.at FILE_BYTES_MAX) _ unsaved (sound_places list kept unsaved len h))
    (forgotten_longer host kept len (sound_longer list kept unsaved len h))

-- the present length after a length became kept
left_length : (old kept : List ℕ) (stored : Option ℕ) (len : Option UnsavedLength) → length kept ≤ FILE_BYTES_MAX → present_length old len ≤ FILE_BYTES_MAX → present_length kept (length_left stored len) ≤ FILE_BYTES_MAX
left_length old kept None None h k = h
left_length old kept None (Some u) h k = k
left_length old kept (Some n) None h k = h
left_length old kept (Some n) (Some u) h k = elim (u.length == n) as (λ t. present_length kept (cond t None (Some u)) ≤ FILE_BYTES_MAX) [ true ↦ h | false ↦ k ]

-- an unsaved length that is left after a length became kept is above that length
abbrev LeavesLonger : ℕ → Option ℕ → Option UnsavedLength → Type 0
LeavesLonger end stored len = (bytes : List ℕ) → length bytes ≡ end → is_longer bytes (length_left stored len) ≡ true

-- the kept length that is left is within the limit
pub sound_stored : (host : HostId) (spans : List Span) (stored : Option ℕ) (list : List AccessEntry) (kept : List ℕ) (unsaved : List Unsaved) (len : Option UnsavedLength) →
    unwrap_or stored (length kept) ≤ FILE_BYTES_MAX → LeavesLonger (unwrap_or stored (length kept)) stored len → is_sound (File list kept unsaved len) ≡ true → is_sound (content_stored host spans stored (File list kept unsaved len)) ≡ true
sound_stored host spans stored list kept unsaved len k longer h =
    let end = unwrap_or stored (length kept) in
    let bytes = bytes_over kept (filter (is_stored host spans end) unsaved) 0 end in
    let m : length bytes ≤ FILE_BYTES_MAX = subst (λ l. l ≤ FILE_BYTES_MAX) (sym (over_length kept (filter (is_stored host spans end) unsaved) 0 end)) k in
    sound_file list bytes (filter (λ byte. not (is_stored host spans end byte)) unsaved) (length_left stored len) m
    (left_length kept bytes stored len m (present_within list kept unsaved len h))
    (rise_filter _ unsaved (sound_rise list kept unsaved len h))
    (all_filter (λ byte. nat_lt byte.at FILE_BYTES_MAX) _ unsaved (sound_places list kept unsaved len h))
    (longer bytes (over_length kept (filter (is_stored host spans end) unsaved) 0 end))

-- a host's own length is within the limit
own_within : (host : HostId) (kept : List ℕ) (len : Option UnsavedLength) → length kept ≤ FILE_BYTES_MAX → present_length kept len ≤ FILE_BYTES_MAX → unwrap_or (own_length host len) (length kept) ≤ FILE_BYTES_MAX
own_within host kept None h k = h
own_within host kept (Some u) h k = elim (u.writer.0 == host.0) as (λ t. unwrap_or (cond t (Some u.length) None) (length kept) ≤ FILE_BYTES_MAX) [ true ↦ k | false ↦ h ]

-- a host's own length is the unsaved one, so that none is left
own_longer : (host : HostId) (kept : List ℕ) (len : Option UnsavedLength) → is_longer kept len ≡ true → LeavesLonger (unwrap_or (own_length host len) (length kept)) (own_length host len) len
own_longer host kept None h = λ bytes e. refl
own_longer host kept (Some u) h =
    elim (u.writer.0 == host.0) as (λ t. LeavesLonger (unwrap_or (cond t (Some u.length) None) (length kept)) (cond t (Some u.length) None) (Some u)) [
      | true ↦ λ bytes e. let same : (u.length == u.length) ≡ true = grind (arith, common_steps) in ap (λ t. is_longer bytes (cond t None (Some u))) same
      | false ↦ λ bytes e. ap (λ n. nat_lt n u.length) e ∙ h
    ]

pub sound_synced : (host : HostId) (content : Content) → is_sound content ≡ true → is_sound (content_synced host content) ≡ true
sound_synced host (Dir entries lists) h = h
sound_synced host (File list kept unsaved len) h =
    sound_stored host (whole ∷ []) (own_length host len) list kept unsaved len (own_within host kept len (kept_within list kept unsaved len h) (present_within list kept unsaved len h))
    (own_longer host kept len (sound_longer list kept unsaved len h)) h

-- what is no greater than what is within the limit
least_within : (n most : ℕ) → nat_le n most ≡ true → most ≤ FILE_BYTES_MAX → n ≤ FILE_BYTES_MAX
least_within n most k b = grind (arith, common_steps, k, b)

-- a length that may be stored is within the limit
storable_within : (host : HostId) (kept : List ℕ) (len : Option UnsavedLength) (stored : Option ℕ) → length kept ≤ FILE_BYTES_MAX → present_length kept len ≤ FILE_BYTES_MAX → is_storable_length host kept len stored ≡ true → unwrap_or stored (length kept) ≤ FILE_BYTES_MAX
storable_within host kept len None a b h = a
storable_within host kept len (Some n) a b h = least_within n (present_length kept len) (and_right _ _ (and_left _ _ h)) b

-- a length that may be stored is no more than the unsaved one
storable_longer : (host : HostId) (kept : List ℕ) (len : Option UnsavedLength) (stored : Option ℕ) → is_longer kept len ≡ true → is_storable_length host kept len stored ≡ true → LeavesLonger (unwrap_or stored (length kept)) stored len
storable_longer host kept None None a h bytes e = refl
storable_longer host kept (Some u) None a h bytes e = ap (λ n. nat_lt n u.length) e ∙ a
storable_longer host kept None (Some n) a h bytes e = refl
storable_longer host kept (Some u) (Some n) a h bytes e =
    let high : nat_le n u.length ≡ true = and_right (nat_le (length kept) n) (nat_le n u.length) (and_left _ _ h) in
    elim (u.length == n) as (λ t. (u.length == n) ≡ t → is_longer bytes (cond t None (Some u)) ≡ true)
    [ true ↦ λ f. refl | false ↦ λ f. grind (arith, common_steps, high, e, f) ] refl

pub sound_storable : (host : HostId) (spans : List Span) (stored : Option ℕ) (content : Content) → is_storable host spans stored content ≡ true → is_sound content ≡ true → is_sound (content_stored host spans stored content) ≡ true
sound_storable host spans stored (Dir entries lists) k h = h
sound_storable host spans stored (File list kept unsaved len) k h =
    sound_stored host spans stored list kept unsaved len (storable_within host kept len stored (kept_within list kept unsaved len h) (present_within list kept unsaved len h) (and_left _ _ k))
    (storable_longer host kept len stored (sound_longer list kept unsaved len h) (and_left _ _ k)) h

pub sound_with_list : (which : Which) (access : List AccessEntry) (content : Content) → is_sound content ≡ true → is_sound (content_with_list which access content) ≡ true
sound_with_list which access (Dir entries lists) h = and_both _ _ (and_left _ _ h) (ap (λ n. n == 3) (length-set lists (list_index which) access) ∙ and_right _ _ h)
sound_with_list which access (File list kept unsaved len) h = h

pub sound_without_entry : (name : List ℕ) (content : Content) → is_sound content ≡ true → is_sound (content_without_entry name content) ≡ true
sound_without_entry name (Dir entries lists) h = and_both _ _ (names_filter _ entries (and_left _ _ h)) (and_right _ _ h)
sound_without_entry name (File list kept unsaved len) h = h

-- the name isn't there yet
pub sound_with_entry : (entry : DirEntry) (entries : List DirEntry) (lists : List (List AccessEntry)) → entry_named entries entry.name ≡ None → is_sound (Dir entries lists) ≡ true → is_sound (content_with_entry entry (Dir entries lists)) ≡ true
sound_with_entry entry entries lists f h = and_both _ _ (names_insert entry entries f (and_left _ _ h)) (and_right _ _ h)
