-- The needs of calls cover what a host changes by itself.
use Rattle.std.proofs.Common.{◌≡◌, ◌⊎◌, ◌≤◌, ◌<◌, ℕ, ◌+◌, ◌-◌, ◌*◌, ◌/◌, ◌==◌, nat_lt, nat_le, min, Bool, true, false, ◌&&◌, ◌||◌, List, [], ◌∷◌, ◌++◌, length, Option, Some, None, Result, Ok, Err, refl, sym, ap, ◌∙◌, subst, inl, inr, rules, arith}
use Rattle.std.specs.Prelude.{if◌then◌else◌}
use Rattle.std.specs.List.{list_any}
use Rattle.std.proofs.lemmas.Grind.{common_steps}
use Rattle.std.proofs.lemmas.List.Folds.{list_any-append}
use Rattle.base_types.specs.Ids.{same_fid}
use Rattle.base_types.specs.Image.{byte_at}
use Rattle.base_types.specs.Outcomes.{either}
use Rattle.base_types.specs.Spans.{has_byte}
use Rattle.base_types.specs.declared.ids.HostId.{HostId}
use Rattle.base_types.specs.declared.ids.Fid.{Fid}
use Rattle.base_types.specs.declared.ids.FilesetId.{FilesetId}
use Rattle.base_types.specs.declared.ids.ServerId.{ServerId}
use Rattle.base_types.specs.declared.ids.OpenKind.{OpenKind}
use Rattle.base_types.specs.declared.ids.OpenKind.TheVariants.{Reading, Writing, Executing, Shared, Exclusive}
use Rattle.base_types.specs.declared.limits.TheConstants.{FILE_BYTES_MAX, LABELS_MAX}
use Rattle.base_types.specs.declared.span.Span.{Span}
use Rattle.base_types.specs.declared.user.User.{User}
use Rattle.tree_calls.specs.declared.reply.Refusal.{Refusal}
use Rattle.tree_calls.specs.declared.reply.Refusal.TheVariants.{AlreadyLocked, AlreadyOpened, TooBig, TooMany}
use Rattle.tree_calls.specs.declared.reply.Reply.TheVariants.{Refused}
use Rattle.tree_answers.proofs.Followed.{same_fid_itself}
use Rattle.token_types.specs.Covers.{kind_covers}
use Rattle.token_types.specs.declared.token.Kind.TheVariants.{Bytes, Status, Lock as LockKind, Opening}
use Rattle.token_types.specs.declared.token.Need.{Need}
use Rattle.tree_laws.specs.Parts.Part.{ByteAt, Size, Traits, Entries}
use Rattle.need_host.specs.Looks.{Look, outcome, look_on, after_check, checked, refuse_if, rounded, kind_for, needs_of, View}
use Rattle.need_host.specs.Looks.Look.{Ends, Looks, Takes}
use Rattle.need_host.specs.Walks.{root_of, use_look}
use Rattle.tree_filesets.specs.Rights.{read_right, write_right}
use Rattle.tree_filesets.specs.Uses.{is_changing, right_to_open}
use Rattle.tree_objects.specs.Spans.{span_between}
use Rattle.tree_answers.specs.Locks.{has_lock, lock_count, is_own_locked}
use Rattle.tree_answers.specs.Opens.{has_open, open_count}
use Rattle.need_host.specs.Calls.{Verdict, Own, judged, from_root, write_target_look, write_takes, written_look, write_look, written_value, view_after, lock_for, lock_look, open_for, open_look, call_look}
use Rattle.need_host.specs.Calls.Verdict.{Replies, Writes, Locks, Opens, Frees, Gives, Asks}
use Rattle.need_host.specs.Updates.{AreTaken, NeedsSuffice}
use Rattle.tree_objects.proofs.Observed.{and_left, and_right}
use Rattle.tree_laws.proofs.Steps.{fid_is, same_number}
use Rattle.need_host.proofs.Looking.{outcome_on}
use Rattle.need_host.proofs.Rows.{outcome_judged}
use Rattle.tree_laws.specs.Parts.{Part}
use Rattle.need_host.specs.Shows.{updates, needs_update, can_be}

-- the needs of a look after another
pub needs_on : {A B : Type 0} (view : View) (look : Look A) (next : A → Look B) → needs_of view (look_on look next) ≡ needs_of view look ++ needs_of view (next (outcome view look))
needs_on view (Ends result) next = refl
needs_on view (Looks fid part after) next = ap (λ needs. record { fid = fid; kind = kind_for part } ∷ needs) (needs_on view (after (view fid part)) next)
needs_on view (Takes need after) next = ap (λ needs. need ∷ needs) (needs_on view after next)

pub any_front : {X : Type 0} (p : X → Bool) (xs ys : List X) → list_any p xs ≡ true → list_any p (xs ++ ys) ≡ true
any_front p xs ys h = list_any-append p xs ys ∙ ap (λ t. t || list_any p ys) h

pub any_back : {X : Type 0} (p : X → Bool) (xs ys : List X) → list_any p ys ≡ true → list_any p (xs ++ ys) ≡ true
any_back p [] ys h = h
any_back p (x ∷ xs) ys h = or_last (p x) (list_any p (xs ++ ys)) (any_back p xs ys h)
  where
    or_last : (a b : Bool) → b ≡ true → (a || b) ≡ true
    or_last true b h = refl
    or_last false b h = h

-- a span rounded outwards has its bytes
low_round : (n : ℕ) → n / 1024 * 1024 ≤ n
low_round n = omega arith

high_round : (n : ℕ) → n ≤ (n + 1023) / 1024 * 1024
high_round n = omega arith

pub rounded_has : (from to at : ℕ) → from ≤ at → at < to → nat_lt at FILE_BYTES_MAX ≡ true → has_byte (rounded from to) at ≡ true
rounded_has from to at low high can =
    let a = low_round from in
    let b = high_round to in
    let c : at < 65536 = grind (arith, common_steps, can) in
    let d : (rounded from to).from ≤ at = omega (arith, a, b, low, high, c) in
    let e : at < (rounded from to).to = omega (arith, a, b, low, high, c) in
    grind (arith, common_steps, d, e)

-- what a verdict changes is among what needs are for updating
abbrev Suffices : View → Fid → Part → List Need → Verdict → Type 0
Suffices view fid part needs verdict = (needs_update needs fid part ≡ true) ⊎ (view_after verdict view fid part ≡ view fid part)

-- further needs before and behind
behind : (view : View) (fid : Fid) (part : Part) (first needs : List Need) (verdict : Verdict) → Suffices view fid part needs verdict → Suffices view fid part (first ++ needs) verdict
behind view fid part first needs verdict (inl h) = inl (any_back (λ need. same_fid need.fid fid && updates need.kind part) first needs h)
behind view fid part first needs verdict (inr h) = inr h

before : (view : View) (fid : Fid) (part : Part) (needs after : List Need) (verdict : Verdict) → Suffices view fid part needs verdict → Suffices view fid part (needs ++ after) verdict
before view fid part needs after verdict (inl h) = inl (any_front (λ need. same_fid need.fid fid && updates need.kind part) needs after h)
before view fid part needs after verdict (inr h) = inr h

-- the needs of a write in its two cases
abbrev write_needs : Fid → ℕ → ℕ → ℕ → Bool → List Need
write_needs written from end size true = record { fid = written; kind = Status true } ∷ record { fid = written; kind = Bytes true (rounded (min from size) end) } ∷ []
write_needs written from end size false = record { fid = written; kind = Bytes true (rounded from end) } ∷ []

takes_needs : {R : Type 0} (view : View) (written : Fid) (from end size : ℕ) (result : R) → needs_of view (write_takes written from end size (Ends result)) ≡ write_needs written from end size (nat_lt size end)
takes_needs view written from end size result = by_test (nat_lt size end)
  where
    by_test : (b : Bool) → needs_of view (if b then Takes (record { fid = written; kind = Status true }) (Takes (record { fid = written; kind = Bytes true (rounded (min from size) end) }) (Ends result)) else Takes (record { fid = written; kind = Bytes true (rounded from end) }) (Ends result))
        ≡ write_needs written from end size b
    by_test true = refl
    by_test false = refl

takes_ends : {R : Type 0} (view : View) (written : Fid) (from end size : ℕ) (result : R) → outcome view (write_takes written from end size (Ends result)) ≡ result
takes_ends view written from end size result = by_test (nat_lt size end)
  where
    by_test : (b : Bool) → outcome view (if b then Takes (record { fid = written; kind = Status true }) (Takes (record { fid = written; kind = Bytes true (rounded (min from size) end) }) (Ends result)) else Takes (record { fid = written; kind = Bytes true (rounded from end) }) (Ends result)) ≡ result
    by_test true = refl
    by_test false = refl

both_true : (a b : Bool) → a ≡ true → b ≡ true → ((a && b) || false) ≡ true
both_true true b h k = ap (λ t. t || false) k
both_true false b h k = absurd (search (rules, h))

second_true : (a b c : Bool) → a ≡ true → c ≡ true → ((a && b) || ((a && c) || false)) ≡ true
second_true true true c h k = refl
second_true true false c h k = ap (λ t. t || false) k
second_true false b c h k = absurd (search (rules, h))

-- a written byte lies in the span
in_span : (from end at : ℕ) → (nat_le from at && nat_lt at end) ≡ true → (from ≤ at) × (at < end)
in_span from end at h =
    let low : nat_le from at ≡ true = and_left _ _ h in
    let high : nat_lt at end ≡ true = and_right _ _ h in
    let a : from ≤ at = grind (arith, common_steps, low) in
    let b : at < end = grind (arith, common_steps, high) in (a, b)

-- what is written of the file itself
file_changes : (view : View) (fid written : Fid) (from size : ℕ) (bytes : List ℕ) (part : Part) (beyond : Bool) → can_be part ≡ true → same_fid written fid ≡ true → view fid Size ≡ size → nat_lt size (from + length bytes) ≡ beyond →
    (needs_update (write_needs written from (from + length bytes) size beyond) fid part ≡ true) ⊎ (written_value from bytes part (view fid part) ≡ view fid part)
file_changes view fid written from size bytes Traits beyond can same its t = inr refl
file_changes view fid written from size bytes Entries beyond can same its t = inr refl
file_changes view fid written from size bytes Size true can same its t = inl (first_true (same_fid written fid) same)
  where
    first_true : (a : Bool) → a ≡ true → ((a && true) || ((a && false) || false)) ≡ true
    first_true true h = refl
    first_true false h = absurd (search (rules, h))
file_changes view fid written from size bytes Size false can same its t =
    inr (ap (λ b. if b then from + length bytes else view fid Size) (ap (λ n. nat_lt n (from + length bytes)) its ∙ t))
file_changes view fid written from size bytes (ByteAt at) beyond can same its t = by_span (nat_le from at && nat_lt at (from + length bytes)) refl beyond
  where
    by_span : (i : Bool) → (nat_le from at && nat_lt at (from + length bytes)) ≡ i → (beyond : Bool) →
        (needs_update (write_needs written from (from + length bytes) size beyond) fid (ByteAt at) ≡ true) ⊎ ((if i then byte_at bytes (at - from) else view fid (ByteAt at)) ≡ view fid (ByteAt at))
    by_span false e b = inr refl
    by_span true e true =
        let (low, high) = in_span from (from + length bytes) at e in
        let least : min from size ≤ at = omega (arith, low) in
        inl (second_true (same_fid written fid) false (has_byte (rounded (min from size) (from + length bytes)) at) same (rounded_has (min from size) (from + length bytes) at least high can))
    by_span true e false =
        let (low, high) = in_span from (from + length bytes) at e in
        inl (both_true (same_fid written fid) (has_byte (rounded from (from + length bytes)) at) same (rounded_has from (from + length bytes) at low high can))

written_suffices : (view : View) (fid written : Fid) (from : ℕ) (bytes : List ℕ) (part : Part) → can_be part ≡ true →
    Suffices view fid part (write_needs written from (from + length bytes) (view written Size) (nat_lt (view written Size) (from + length bytes))) (Writes written from bytes)
written_suffices view fid written from bytes part can = by_test (same_fid written fid) refl
  where
    by_test : (b : Bool) → same_fid written fid ≡ b → (needs_update (write_needs written from (from + length bytes) (view written Size) (nat_lt (view written Size) (from + length bytes))) fid part ≡ true) ⊎ ((if b then written_value from bytes part (view fid part) else view fid part) ≡ view fid part)
    by_test false e = inr refl
    by_test true e = file_changes view fid written from (view written Size) bytes part (nat_lt (view written Size) (from + length bytes)) can e (ap (λ f. view f Size) (sym (fid_is written fid e))) refl

-- a Write
write_suffices : (view : View) (fid : Fid) (part : Part) (from : ℕ) (bytes : List ℕ) (found : Result Fid Refusal) → can_be part ≡ true →
    Suffices view fid part (needs_of view (after_check (written_look from bytes) found)) (either (outcome view (after_check (written_look from bytes) found)) (λ verdict. verdict) (λ refusal. Replies (Refused refusal)))
write_suffices view fid part from bytes (Err refusal) can = inr refl
write_suffices view fid part from [] (Ok written) can = inr refl
write_suffices view fid part from (byte ∷ bytes) (Ok written) can =
    let all = byte ∷ bytes in
    let size = view written Size in
    let result : Result Verdict Refusal = Ok (Writes written from all) in
    let read : Need = record { fid = written; kind = Status false } in
    subst (λ found. Suffices view fid part (read ∷ needs_of view (write_takes written from (from + length all) size (Ends result))) (either found (λ verdict. verdict) (λ refusal. Replies (Refused refusal)))) (sym (takes_ends view written from (from + length all) size result))
    (subst (λ needs. Suffices view fid part (read ∷ needs) (Writes written from all)) (sym (takes_needs view written from (from + length all) size result))
    (behind view fid part (read ∷ []) (write_needs written from (from + length all) size (nat_lt size (from + length all))) (Writes written from all) (written_suffices view fid written from all part can)))

-- a judged look
judged_needs : {A : Type 0} (view : View) (look : Look (Result A Refusal)) (judge : A → Verdict) → needs_of view (judged look judge) ≡ needs_of view look ++ []
judged_needs view look judge = needs_on view look (λ seen. Ends (either seen judge (λ refusal. Replies (Refused refusal))))

pub write_row_suffices : (view : View) (fid : Fid) (part : Part) (user : User) (root : Fid) (path : List (List ℕ)) (from : ℕ) (bytes : List ℕ) → can_be part ≡ true →
    Suffices view fid part (needs_of view (write_look user root path from bytes)) (outcome view (write_look user root path from bytes))
unfolding write_look
write_row_suffices view fid part user root path from bytes can =
    let target = write_target_look user root path (from + length bytes) in
    let look : Look (Result Verdict Refusal) = checked target (written_look from bytes) in
    let verdict = outcome view (judged look (λ verdict. verdict)) in
    subst (λ needs. Suffices view fid part needs verdict) (sym (judged_needs view look (λ verdict. verdict)))
    (before view fid part (needs_of view look) [] verdict
    (subst (λ needs. Suffices view fid part needs verdict) (sym (needs_on view target (after_check (written_look from bytes))))
    (behind view fid part (needs_of view target) (needs_of view (after_check (written_look from bytes) (outcome view target))) verdict
    (subst (λ v. Suffices view fid part (needs_of view (after_check (written_look from bytes) (outcome view target))) v)
    (sym (outcome_judged view look (λ verdict. verdict) ∙ ap (λ found. either found (λ verdict. verdict) (λ refusal. Replies (Refused refusal))) (outcome_on view target (after_check (written_look from bytes)))))
    (write_suffices view fid part from bytes (outcome view target) can)))))

-- the exact lock, and the exact open
any_taken : (first after : List Need) (verdict : Verdict) → AreTaken after verdict → AreTaken (first ++ after) verdict
any_taken first after (Locks fid writing span) h = any_back (λ need. same_fid need.fid fid && kind_covers need.kind (LockKind writing span)) first after h
any_taken first after (Opens fid kind) h = any_back (λ need. same_fid need.fid fid && kind_covers need.kind (Opening kind)) first after h
any_taken first after (Replies reply) h = tt
any_taken first after (Writes fid from bytes) h = tt
any_taken first after Frees h = tt
any_taken first after Gives h = tt
any_taken first after (Asks question) h = tt

taken_before : (needs after : List Need) (verdict : Verdict) → AreTaken needs verdict → AreTaken (needs ++ after) verdict
taken_before needs after (Locks fid writing span) h = any_front (λ need. same_fid need.fid fid && kind_covers need.kind (LockKind writing span)) needs after h
taken_before needs after (Opens fid kind) h = any_front (λ need. same_fid need.fid fid && kind_covers need.kind (Opening kind)) needs after h
taken_before needs after (Replies reply) h = tt
taken_before needs after (Writes fid from bytes) h = tt
taken_before needs after Frees h = tt
taken_before needs after Gives h = tt
taken_before needs after (Asks question) h = tt

itself_lock : (writing : Bool) (span : Span) → kind_covers (LockKind writing span) (LockKind writing span) ≡ true
itself_lock true span = ap (λ t. t && (span.to == span.to)) (same_number span.from) ∙ same_number span.to
itself_lock false span = ap (λ t. t && (span.to == span.to)) (same_number span.from) ∙ same_number span.to

itself_open : (kind : OpenKind) → kind_covers (Opening kind) (Opening kind) ≡ true
itself_open Reading = refl
itself_open Writing = refl
itself_open Executing = refl
itself_open Shared = refl
itself_open Exclusive = refl

module _ (view : View) where
  lock_taken : (own : Own) (host : HostId) (writing : Bool) (from len : ℕ) (found : Result Fid Refusal) →
      AreTaken (needs_of view (after_check (lock_for own host writing from len) found))
      (either (outcome view (after_check (lock_for own host writing from len) found)) (λ fid. Locks fid writing (span_between from (from + len))) (λ refusal. Replies (Refused refusal)))
  lock_taken own host writing from len (Err refusal) = tt
  lock_taken own host writing from len (Ok fid) = by_tests (nat_lt FILE_BYTES_MAX (from + len)) (is_own_locked own.locks host fid (span_between from (from + len)))
    where
      by_tests : (big mine : Bool) → let span = span_between from (from + len) in
          let look : Look (Result Fid Refusal) = refuse_if big TooBig (refuse_if mine AlreadyLocked (Takes (record { fid = fid; kind = LockKind writing span }) (Ends (Ok fid)))) in
          AreTaken (needs_of view look) (either (outcome view look) (λ fid. Locks fid writing span) (λ refusal. Replies (Refused refusal)))
      by_tests true mine = tt
      by_tests false true = tt
      by_tests false false = both_true (same_fid fid fid) (kind_covers (LockKind writing (span_between from (from + len))) (LockKind writing (span_between from (from + len)))) (same_fid_itself fid) (itself_lock writing (span_between from (from + len)))

  open_taken : (kind : OpenKind) (found : Result Fid Refusal) →
      AreTaken (needs_of view (after_check (open_for kind) found)) (either (outcome view (after_check (open_for kind) found)) (λ fid. Opens fid kind) (λ refusal. Replies (Refused refusal)))
  open_taken kind (Err refusal) = tt
  open_taken kind (Ok fid) = both_true (same_fid fid fid) (kind_covers (Opening kind) (Opening kind)) (same_fid_itself fid) (itself_open kind)

  -- a row that takes at its end
  row_taken : (target : Look (Result Fid Refusal)) (next : Fid → Look (Result Fid Refusal)) (judge : Fid → Verdict) →
      AreTaken (needs_of view (after_check next (outcome view target))) (either (outcome view (after_check next (outcome view target))) judge (λ refusal. Replies (Refused refusal))) →
      AreTaken (needs_of view (judged (checked target next) judge)) (outcome view (judged (checked target next) judge))
  row_taken target next judge h =
      let verdict = outcome view (judged (checked target next) judge) in
      subst (λ needs. AreTaken needs verdict) (sym (judged_needs view (checked target next) judge))
      (taken_before (needs_of view (checked target next)) [] verdict
      (subst (λ needs. AreTaken needs verdict) (sym (needs_on view target (after_check next)))
      (any_taken (needs_of view target) (needs_of view (after_check next (outcome view target))) verdict
      (subst (λ v. AreTaken (needs_of view (after_check next (outcome view target))) v)
      (sym (outcome_judged view (checked target next) judge ∙ ap (λ found. either found judge (λ refusal. Replies (Refused refusal))) (outcome_on view target (after_check next)))) h))))

  home_taken : (server : ServerId) (o : Option FilesetId) (look : Fid → Look Verdict) → ((root : Fid) → AreTaken (needs_of view (look root)) (outcome view (look root))) → AreTaken (needs_of view (from_root server o look)) (outcome view (from_root server o look))
  home_taken server None look h = tt
  home_taken server (Some id) look h = h (root_of id)

  label_taken : (used full : Bool) (refusal : Refusal) (look : Look Verdict) → AreTaken (needs_of view look) (outcome view look) →
      let all = if used then Ends (Replies (Refused refusal)) else if full then Ends (Replies (Refused TooMany)) else look in AreTaken (needs_of view all) (outcome view all)
  label_taken true full refusal look h = tt
  label_taken false true refusal look h = tt
  label_taken false false refusal look h = h

  home_suffices : (fid : Fid) (part : Part) (server : ServerId) (o : Option FilesetId) (look : Fid → Look Verdict) → ((root : Fid) → Suffices view fid part (needs_of view (look root)) (outcome view (look root))) →
      Suffices view fid part (needs_of view (from_root server o look)) (outcome view (from_root server o look))
  home_suffices fid part server None look h = inr refl
  home_suffices fid part server (Some id) look h = h (root_of id)

pub needs_suffice : NeedsSuffice
unfolding call_look lock_look open_look
needs_suffice = record {
  writes = λ own host user place from bytes view fid part can. home_suffices view fid part place.server (own.seen place.server place.fileset) _ (λ root. write_row_suffices view fid part user root place.path from bytes can);
  locks = λ own host user label place writing from len view.
      label_taken view (has_lock own.locks host label) (nat_le LABELS_MAX (lock_count own.locks host)) AlreadyLocked _ (home_taken view place.server (own.seen place.server place.fileset) _ (λ root.
      row_taken view (use_look user root place.path writing (if writing then write_right else read_right)) (lock_for own host writing from len) (λ fid. Locks fid writing (span_between from (from + len)))
      (lock_taken view own host writing from len (outcome view (use_look user root place.path writing (if writing then write_right else read_right))))));
  opens = λ own host user label place kind view.
      label_taken view (has_open own.opens host label) (nat_le LABELS_MAX (open_count own.opens host)) AlreadyOpened _ (home_taken view place.server (own.seen place.server place.fileset) _ (λ root.
      row_taken view (use_look user root place.path (is_changing kind) (right_to_open kind)) (open_for kind) (λ fid. Opens fid kind) (open_taken view kind (outcome view (use_look user root place.path (is_changing kind) (right_to_open kind))))));
}
