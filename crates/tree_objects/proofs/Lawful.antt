-- The laws of changes.
use Rattle.std.proofs.Common.{◌≡◌, ℕ, suc, ◌+◌, ◌-◌, ◌<◌, ◌≤◌, ◌⊎◌, nat_le, nat_lt, true, false, ◌&&◌, cond, List, [], ◌∷◌, length, Option, Some, refl, sym, ap, ◌∙◌, arith, inl, inr, rules}
use Rattle.std.proofs.lemmas.Grind.{common_steps}
use Rattle.std.proofs.lemmas.Bool.Decides.{leb_tells}
use Rattle.base_types.specs.Image.{byte_at}
use Rattle.base_types.specs.declared.ids.HostId.{HostId}
use Rattle.base_types.specs.declared.access.AccessEntry.{AccessEntry}
use Rattle.tree_objects.specs.declared.content.Unsaved.{Unsaved}
use Rattle.tree_objects.specs.declared.content.UnsavedLength.{UnsavedLength}
use Rattle.tree_objects.specs.declared.content.Content.TheVariants.{Dir, File}
use Rattle.tree_objects.specs.Files.{present_length, present_bytes, bytes_over, content_bytes, resized}
use Rattle.tree_objects.specs.Changes.{unsaved_after, length_after}
use Rattle.tree_objects.specs.Shown.{Shown, shown, shown_written, present_byte}
use Rattle.tree_objects.specs.Laws.{WriteShows, WriteKeepsOthers, WriteIsSeen, TruncateShows, StoreShows, SyncShows, ForgetShows, CloneHoldsPresent}
use Rattle.tree_objects.proofs.Overlays.{resized_zero, resized_more, over_nothing}
use Rattle.tree_objects.proofs.Observed.{over_length, present_shown, shown_after_write, shown_after_truncate, shown_after_store, shown_after_sync, shown_after_forget}
use Rattle.tree_objects.proofs.StaysSound.{sound_rise}

-- a directory isn't meant
no_file : {A : Type 0} → true ≡ false → A
no_file h = absurd (search (rules, h))

pub write_shows : WriteShows
write_shows host from bytes (Dir entries lists) at h = no_file h
write_shows host from bytes (File list kept unsaved len) at h = shown_after_write host from bytes list kept unsaved len at

pub truncate_shows : TruncateShows
truncate_shows size (Dir entries lists) at h = no_file h
truncate_shows size (File list kept unsaved len) at h = shown_after_truncate size list kept unsaved len at

pub store_shows : StoreShows
store_shows host spans stored (Dir entries lists) at h s = no_file h
store_shows host spans stored (File list kept unsaved len) at h s = shown_after_store host spans stored list kept unsaved len at (sound_rise list kept unsaved len s)

pub sync_shows : SyncShows
sync_shows host (Dir entries lists) at h s = no_file h
sync_shows host (File list kept unsaved len) at h s = shown_after_sync host list kept unsaved len at (sound_rise list kept unsaved len s)

pub forget_shows : ForgetShows
forget_shows host (Dir entries lists) at h s = no_file h
forget_shows host (File list kept unsaved len) at h s = shown_after_forget host list kept unsaved len at (sound_rise list kept unsaved len s)

-- the present length after a write: no less than before, and no less than the end of the written bytes
longer : (kept : List ℕ) (len : Option UnsavedLength) (host : HostId) (end : ℕ) → (present_length kept len ≤ present_length kept (length_after len (present_length kept len) host end)) × (end ≤ present_length kept (length_after len (present_length kept len) host end))
longer kept len host end =
    elim (leb_tells (suc (present_length kept len)) end) as (λ _. (present_length kept len ≤ present_length kept (length_after len (present_length kept len) host end)) × (end ≤ present_length kept (length_after len (present_length kept len) host end))) [
      | inl (e, h) ↦ let l : nat_lt (present_length kept len) end ≡ true = grind (arith, common_steps, h) in rw l (omega (arith, h), omega arith)
      | inr (e, h) ↦ let l : nat_lt (present_length kept len) end ≡ false = grind (arith, common_steps, h) in rw l (omega arith, omega (arith, h))
    ]

-- a byte that readers see within the present length
seen : (list : List AccessEntry) (kept : List ℕ) (unsaved : List Unsaved) (len : Option UnsavedLength) (at : ℕ) → at < present_length kept len →
    byte_at (content_bytes (File list kept unsaved len)) at ≡ present_byte (shown (File list kept unsaved len) at)
seen list kept unsaved len at h = let l : nat_lt at (present_length kept len) ≡ true = grind (arith, common_steps, h) in present_shown list kept unsaved len at ∙ rw l refl

-- outside the span
shown_outside : (host : HostId) (from : ℕ) (bytes : List ℕ) (at : ℕ) (here : Shown) → (at < from) ⊎ (from + length bytes ≤ at) → shown_written host from bytes at here ≡ here
shown_outside host from bytes at here (inl h) = let l : nat_le from at ≡ false = grind (arith, common_steps, h) in rw l refl
shown_outside host from bytes at here (inr h) =
    let l : nat_lt at (from + length bytes) ≡ false = grind (arith, common_steps, h) in
    elim (nat_le from at) as (λ t. cond (t && nat_lt at (from + length bytes)) (record { kept = here.kept; unsaved = Some (record { at = at; value = byte_at bytes (at - from); writer = host }) }) here ≡ here)
    [ true ↦ rw l refl | false ↦ refl ]

-- within it
shown_inside : (host : HostId) (from : ℕ) (bytes : List ℕ) (at : ℕ) (here : Shown) → from ≤ at → at < from + length bytes → present_byte (shown_written host from bytes at here) ≡ byte_at bytes (at - from)
shown_inside host from bytes at here h k =
    let l : nat_le from at ≡ true = grind (arith, common_steps, h) in let m : nat_lt at (from + length bytes) ≡ true = grind (arith, common_steps, k) in rw (l, m) refl

pub write_keeps_others : WriteKeepsOthers
write_keeps_others host from bytes (Dir entries lists) at h o = absurd (omega (arith, h))
write_keeps_others host from [] (File list kept unsaved len) at h o = refl
write_keeps_others host from (v ∷ vs) (File list kept unsaved len) at h o =
    let n = over_length kept unsaved 0 (present_length kept len) in
    let within : at < present_length kept len = omega (arith, h, n) in
    let grows = longer kept len host (from + length (v ∷ vs)) in
    let later : at < present_length kept (length_after len (present_length kept len) host (from + length (v ∷ vs))) = omega (arith, within, grows.0) in
    seen list kept (unsaved_after unsaved host from (v ∷ vs)) (length_after len (present_length kept len) host (from + length (v ∷ vs))) at later
    ∙ ap present_byte (shown_after_write host from (v ∷ vs) list kept unsaved len at ∙ shown_outside host from (v ∷ vs) at _ o)
    ∙ sym (seen list kept unsaved len at within)

pub write_is_seen : WriteIsSeen
write_is_seen host from bytes (Dir entries lists) at d h k = no_file d
write_is_seen host from [] (File list kept unsaved len) at d h k = absurd (omega (arith, h, k))
write_is_seen host from (v ∷ vs) (File list kept unsaved len) at d h k =
    let grows = longer kept len host (from + length (v ∷ vs)) in
    let later : at < present_length kept (length_after len (present_length kept len) host (from + length (v ∷ vs))) = omega (arith, k, grows.1) in
    seen list kept (unsaved_after unsaved host from (v ∷ vs)) (length_after len (present_length kept len) host (from + length (v ∷ vs))) at later
    ∙ ap present_byte (shown_after_write host from (v ∷ vs) list kept unsaved len at)
    ∙ shown_inside host from (v ∷ vs) at _ h k

-- all bytes
pub all_resized : (xs : List ℕ) → resized xs (length xs) ≡ xs
all_resized [] = resized_zero []
all_resized (x ∷ xs) = resized_more x xs (length xs) ∙ ap (λ ys. x ∷ ys) (all_resized xs)

-- bytes over which nothing is unsaved
pub over_itself : (bytes : List ℕ) → bytes_over bytes [] 0 (length bytes) ≡ bytes
over_itself bytes = sym (over_nothing bytes 0 (length bytes)) ∙ all_resized bytes

pub clone_holds_present : CloneHoldsPresent
clone_holds_present (Dir entries lists) = refl
clone_holds_present (File list kept unsaved len) =
    over_itself (present_bytes kept unsaved len)
