-- What a write changes.
use Rattle.std.proofs.Common.{◌≡◌, ◌≢◌, ◌<◌, ◌≤◌, ◌⊎◌, ℕ, suc, ◌+◌, ◌-◌, nat_lt, nat_le, true, false, ◌&&◌, cond, List, [], ◌∷◌, length, Option, Some, Result, Ok, Err, refl, sym, ap, ◌∙◌, subst, inl, inr, arith, rules}
use Rattle.std.specs.Option.{option_map_or}
use Rattle.std.proofs.lemmas.Bool.Decides.{eqb_tells, leb_tells}
use Rattle.std.proofs.lemmas.Grind.{common_steps}
use Rattle.base_types.specs.Image.{byte_at}
use Rattle.base_types.specs.declared.access.AccessEntry.{AccessEntry}
use Rattle.base_types.specs.declared.ids.HostId.{HostId}
use Rattle.base_types.specs.declared.user.User.{User}
use Rattle.tree_calls.specs.declared.reply.Refusal.{Refusal}
use Rattle.tree_objects.specs.declared.content.Content.{Content}
use Rattle.tree_objects.specs.declared.content.Content.TheVariants.{Dir, File}
use Rattle.tree_objects.specs.declared.content.Object.{Object}
use Rattle.tree_objects.specs.declared.content.Unsaved.{Unsaved}
use Rattle.tree_objects.specs.declared.content.UnsavedLength.{UnsavedLength}
use Rattle.tree_objects.specs.Changes.{content_written, length_after, unsaved_after}
use Rattle.tree_objects.specs.Files.{content_bytes, present_length}
use Rattle.tree_objects.specs.Objects.{is_dir}
use Rattle.tree_objects.specs.Shown.{Shown, shown, shown_written, present_byte}
use Rattle.tree_objects.proofs.Observed.{over_length, present_shown, shown_after_write}
use Rattle.tree_filesets.specs.declared.fileset.Fileset.{Fileset}
use Rattle.tree_filesets.specs.Answers.{answered}
use Rattle.tree_filesets.specs.Changing.{write_target, write_answer}
use Rattle.tree_filesets.specs.Laws.{bytes_at, WriteChangesItsSpan}
use Rattle.tree_filesets.specs.Updates.{changed}
use Rattle.tree_filesets.specs.Walk.{object_at}
use Rattle.tree_filesets.proofs.Observations.{object_not_zero, object_changed_to, object_updated_other}
use Rattle.tree_filesets.proofs.Targets.{write_target_ok}

-- a write changes one object
write_others : (fileset : Fileset) (host : HostId) (user : User) (path : List (List ℕ)) (from : ℕ) (bytes : List ℕ) (anode other : ℕ) →
    write_target fileset user path (from + length bytes) ≡ Ok anode → other ≢ anode →
    object_at (write_answer fileset host user path from bytes).fileset.anodes other ≡ object_at fileset.anodes other
unfolding write_answer
write_others fileset host user path from bytes anode other h k =
    let file = write_target_ok fileset user path (from + length bytes) anode h in
    let P : Result ℕ Refusal → Type 0 = λ r. object_at (answered fileset r (λ anode. changed fileset anode (content_written host from bytes))).fileset.anodes other ≡ object_at fileset.anodes other in
    subst P (sym h) (object_updated_other fileset anode _ other (object_not_zero fileset.anodes anode file.object file.there) k)

-- the file after a write
write_here : (fileset : Fileset) (host : HostId) (user : User) (path : List (List ℕ)) (from : ℕ) (bytes : List ℕ) (anode : ℕ) (object : Object) →
    write_target fileset user path (from + length bytes) ≡ Ok anode → object_at fileset.anodes anode ≡ Some object →
    bytes_at (write_answer fileset host user path from bytes).fileset anode ≡ content_bytes (content_written host from bytes object.content)
unfolding write_answer
write_here fileset host user path from bytes anode object h k =
    let P : Result ℕ Refusal → Type 0 = λ r. bytes_at (answered fileset r (λ anode. changed fileset anode (content_written host from bytes))).fileset anode ≡ content_bytes (content_written host from bytes object.content) in
    subst P (sym h) (ap (λ o. option_map_or (λ object. content_bytes object.content) o []) (object_changed_to fileset anode (content_written host from bytes) object k))

-- the length after a write
length_written : (kept : List ℕ) (len : Option UnsavedLength) (host : HostId) (end : ℕ) →
    (present_length kept len ≤ present_length kept (length_after len (present_length kept len) host end)) × (end ≤ present_length kept (length_after len (present_length kept len) host end))
length_written kept len host end =
    elim (leb_tells (suc (present_length kept len)) end) as (λ _. (present_length kept len ≤ present_length kept (length_after len (present_length kept len) host end)) × (end ≤ present_length kept (length_after len (present_length kept len) host end))) [
      | inl (e, k) ↦ rw e (omega (arith, k), omega arith)
      | inr (e, k) ↦ rw e (omega arith, omega (arith, k))
    ]

below : (a b : ℕ) → a < b → nat_lt a b ≡ true
below a b h = grind (arith, common_steps, h)

-- a byte that is present
present_at : (list : List AccessEntry) (kept : List ℕ) (unsaved : List Unsaved) (len : Option UnsavedLength) (at : ℕ) → at < present_length kept len →
    byte_at (content_bytes (File list kept unsaved len)) at ≡ present_byte (shown (File list kept unsaved len) at)
present_at list kept unsaved len at h = present_shown list kept unsaved len at ∙ ap (λ t. cond t (present_byte (shown (File list kept unsaved len) at)) 0) (below _ _ h)

-- outside of the span
content_outside : (host : HostId) (from : ℕ) (bytes : List ℕ) (content : Content) (at : ℕ) → at < length (content_bytes content) → (at < from) ⊎ (from + length bytes ≤ at) →
    byte_at (content_bytes (content_written host from bytes content)) at ≡ byte_at (content_bytes content) at
content_outside host from [] content at h k = refl
content_outside host from (v ∷ vs) (Dir entries lists) at h k = refl
content_outside host from (v ∷ vs) (File list kept unsaved len) at h k =
    let within : at < present_length kept len = omega (arith, h, over_length kept unsaved 0 (present_length kept len)) in
    let longer = length_written kept len host (from + length (v ∷ vs)) in
    let new = present_at list kept (unsaved_after unsaved host from (v ∷ vs)) (length_after len (present_length kept len) host (from + length (v ∷ vs))) at (omega (arith, within, longer.0)) in
    let old = present_at list kept unsaved len at within in
    let same : shown (content_written host from (v ∷ vs) (File list kept unsaved len)) at ≡ shown (File list kept unsaved len) at =
    shown_after_write host from (v ∷ vs) list kept unsaved len at ∙ away (shown (File list kept unsaved len) at) in
    new ∙ ap present_byte same ∙ sym old
  where
    away : (here : Shown) → shown_written host from (v ∷ vs) at here ≡ here
    away here = elim k as (λ _. shown_written host from (v ∷ vs) at here ≡ here) [
      | inl low ↦ (let no : nat_le from at ≡ false = grind (arith, common_steps, low) in rw no refl)
      | inr high ↦ (let no : nat_lt at (from + length (v ∷ vs)) ≡ false = grind (arith, common_steps, high) in
          elim (nat_le from at) as (λ t. cond (t && nat_lt at (from + length (v ∷ vs))) (record { kept = here.kept; unsaved = Some (record { at = at; value = byte_at (v ∷ vs) (at - from); writer = host }) }) here ≡ here) [ true ↦ rw no refl | false ↦ refl ])
    ]

-- inside the span
content_inside : (host : HostId) (from : ℕ) (bytes : List ℕ) (content : Content) (at : ℕ) → is_dir content ≡ false → from ≤ at → at < from + length bytes →
    byte_at (content_bytes (content_written host from bytes content)) at ≡ byte_at bytes (at - from)
content_inside host from bytes (Dir entries lists) at f h k = absurd (search (rules, f))
content_inside host from [] (File list kept unsaved len) at f h k = absurd (omega (arith, h, k))
content_inside host from (v ∷ vs) (File list kept unsaved len) at f h k =
    let longer = length_written kept len host (from + length (v ∷ vs)) in
    let new = present_at list kept (unsaved_after unsaved host from (v ∷ vs)) (length_after len (present_length kept len) host (from + length (v ∷ vs))) at (omega (arith, k, longer.1)) in
    let written : shown (content_written host from (v ∷ vs) (File list kept unsaved len)) at ≡ shown_written host from (v ∷ vs) at (shown (File list kept unsaved len) at) = shown_after_write host from (v ∷ vs) list kept unsaved len at in
    new ∙ ap present_byte written ∙ there (shown (File list kept unsaved len) at)
  where
    there : (here : Shown) → present_byte (shown_written host from (v ∷ vs) at here) ≡ byte_at (v ∷ vs) (at - from)
    there here =
        let low : nat_le from at ≡ true = grind (arith, common_steps, h) in
        let high : nat_lt at (from + length (v ∷ vs)) ≡ true = below _ _ k in
        rw (low, high) refl

write_inside : (fileset : Fileset) (host : HostId) (user : User) (path : List (List ℕ)) (from : ℕ) (bytes : List ℕ) (anode at : ℕ) →
    write_target fileset user path (from + length bytes) ≡ Ok anode → from ≤ at → at < from + length bytes →
    byte_at (bytes_at (write_answer fileset host user path from bytes).fileset anode) at ≡ byte_at bytes (at - from)
write_inside fileset host user path from bytes anode at h low high =
    let file = write_target_ok fileset user path (from + length bytes) anode h in
    ap (λ list. byte_at list at) (write_here fileset host user path from bytes anode file.object h file.there)
    ∙ content_inside host from bytes file.object.content at file.is_file low high

-- the bytes of a fileset are those of its object
bytes_known : (fileset : Fileset) (anode : ℕ) (object : Object) → object_at fileset.anodes anode ≡ Some object → bytes_at fileset anode ≡ content_bytes object.content
bytes_known fileset anode object h = ap (λ o. option_map_or (λ object. content_bytes object.content) o []) h

write_outside : (fileset : Fileset) (host : HostId) (user : User) (path : List (List ℕ)) (from : ℕ) (bytes : List ℕ) (anode at : ℕ) →
    at < length (bytes_at fileset anode) → (at < from) ⊎ (from + length bytes ≤ at) →
    byte_at (bytes_at (write_answer fileset host user path from bytes).fileset anode) at ≡ byte_at (bytes_at fileset anode) at
unfolding write_answer
write_outside fileset host user path from bytes anode at h k =
    elim (write_target fileset user path (from + length bytes)) as
    (λ r. write_target fileset user path (from + length bytes) ≡ r → byte_at (bytes_at (answered fileset r (λ found. changed fileset found (content_written host from bytes))).fileset anode) at ≡ byte_at (bytes_at fileset anode) at) [
      | Ok target ↦ λ e.
          let file = write_target_ok fileset user path (from + length bytes) target e in
          elim (eqb_tells anode target) as (λ _. byte_at (bytes_at (changed fileset target (content_written host from bytes)) anode) at ≡ byte_at (bytes_at fileset anode) at) [
            | inl (t, same) ↦
                let old = bytes_known fileset target file.object file.there in
                let new = bytes_known (changed fileset target (content_written host from bytes)) target _ (object_changed_to fileset target (content_written host from bytes) file.object file.there) in
                let L : ℕ → Type 0 = λ n. at < length (bytes_at fileset n) in
                let M : List ℕ → Type 0 = λ list. at < length list in
                let within : at < length (content_bytes file.object.content) = subst M old (subst L same h) in
                let P : ℕ → Type 0 = λ n. byte_at (bytes_at (changed fileset target (content_written host from bytes)) n) at ≡ byte_at (bytes_at fileset n) at in
                let left : byte_at (bytes_at (changed fileset target (content_written host from bytes)) target) at ≡ byte_at (content_bytes (content_written host from bytes file.object.content)) at = ap (λ list. byte_at list at) new in
                let right : byte_at (bytes_at fileset target) at ≡ byte_at (content_bytes file.object.content) at = ap (λ list. byte_at list at) old in
                subst P (sym same) (left ∙ content_outside host from bytes file.object.content at within k ∙ sym right)
            | inr (t, other) ↦
                ap (λ o. byte_at (option_map_or (λ object. content_bytes object.content) o []) at) (object_updated_other fileset target _ anode (object_not_zero fileset.anodes target file.object file.there) other)
          ]
      | Err refusal ↦ λ e. refl
    ] refl

pub write_changes_its_span : WriteChangesItsSpan
write_changes_its_span = record { others = write_others; inside = write_inside; outside = write_outside }
