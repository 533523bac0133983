-- What a host stores of a file that only it has changed is all, and it may store it.
use Rattle.std.proofs.Common.{◌≡◌, ℕ, zero, suc, ◌+◌, ◌-◌, ◌≤◌, ◌<◌, ◌==◌, nat_le, nat_lt, Bool, true, false, ◌&&◌, ◌||◌, not, cond, List, [], ◌∷◌, filter, length, Option, Some, None, is_some, unwrap_or, refl, sym, ap, ◌∙◌, subst, arith, rules, inl, inr}
use Rattle.std.specs.List.{list_any, list_all}
use Rattle.std.specs.Option.{option_map_or}
use Rattle.std.proofs.lemmas.Grind.{common_steps}
use Rattle.std.proofs.lemmas.Bool.Decides.{eqb_tells}
use Rattle.base_types.specs.Spans.{has_byte, in_spans}
use Rattle.base_types.specs.declared.access.AccessEntry.{AccessEntry}
use Rattle.base_types.specs.declared.ids.HostId.{HostId}
use Rattle.base_types.specs.declared.span.Span.{Span}
use Rattle.tree_objects.specs.declared.content.Unsaved.{Unsaved}
use Rattle.tree_objects.specs.declared.content.UnsavedLength.{UnsavedLength}
use Rattle.tree_objects.specs.declared.content.Content.{Content}
use Rattle.tree_objects.specs.declared.content.Content.TheVariants.{Dir, File}
use Rattle.tree_objects.specs.Files.{present_length, unsaved_at}
use Rattle.tree_objects.specs.Laws.{is_own}
use Rattle.tree_objects.specs.Losses.{spans_on, spans_of, own_bytes, own_spans}
use Rattle.tree_objects.specs.Sound.{is_sound}
use Rattle.tree_objects.specs.Spans.{span_between}
use Rattle.tree_objects.specs.Stores.{is_stored, length_left, content_stored, own_length, own_length_of, has_written, is_storable}
use Rattle.tree_objects.proofs.Observed.{and_left, and_right}
use Rattle.tree_objects.proofs.Rising.{and_both, all_implied}
use Rattle.tree_objects.proofs.Together.{spans_are_exact}
use Rattle.tree_saving.specs.Unsaved.{has_saved, is_only_by, writer_of}
use Rattle.tree_saving.specs.Saving.{has_spans}
use Rattle.tree_saving.proofs.Contents.{own_storable}
use Rattle.tree_saving.proofs.Lists.{filter_none, or_left, or_right}

-- both of all
all_both : {X : Type 0} (p q : X → Bool) (xs : List X) → list_all p xs ≡ true → list_all q xs ≡ true → list_all (λ x. p x && q x) xs ≡ true
all_both p q [] h k = refl
all_both p q (x ∷ xs) h k =
    and_both _ _ (and_both (p x) (q x) (and_left (p x) (list_all p xs) h) (and_left (q x) (list_all q xs) k)) (all_both p q xs (and_right (p x) (list_all p xs) h) (and_right (q x) (list_all q xs) k))

-- whether an unsaved byte is a host's and stands below a position
abbrev pub own_below : HostId → ℕ → Unsaved → Bool
own_below host m byte = (byte.writer.0 == host.0) && nat_lt byte.at m

-- a position with an unsaved byte of the host
own_position : (host : HostId) (m : ℕ) (unsaved : List Unsaved) (at : ℕ) → list_all (own_below host m) unsaved ≡ true → is_own host (unsaved_at unsaved at) ≡ true → nat_lt at m ≡ true
own_position host m [] at h k = absurd (search (rules, k))
own_position host m (byte ∷ bytes) at h k =
    elim (eqb_tells byte.at at) as (λ _. is_own host (unsaved_at (byte ∷ bytes) at) ≡ true → nat_lt at m ≡ true) [
      | inl (e, same) ↦ λ _. subst (λ p. nat_lt p m ≡ true) same (and_right _ _ (and_left _ _ h))
      | inr (e, other) ↦ rw e (λ k. own_position host m bytes at (and_right _ _ h) k)
    ] k

-- a position with an unsaved byte has one of the host
own_there : (host : HostId) (m : ℕ) (unsaved : List Unsaved) (at : ℕ) → list_all (own_below host m) unsaved ≡ true → list_any (λ b. b.at == at) unsaved ≡ true → is_own host (unsaved_at unsaved at) ≡ true
own_there host m [] at h k = absurd (search (rules, k))
own_there host m (byte ∷ bytes) at h k =
    elim (byte.at == at) as (λ t. (t || list_any (λ b. b.at == at) bytes) ≡ true → is_own host (cond t (Some byte) (unsaved_at bytes at)) ≡ true)
    [ true ↦ λ _. and_left _ _ (and_left _ _ h) | false ↦ λ k. own_there host m bytes at (and_right _ _ h) k ] k

each_there : (unsaved : List Unsaved) → list_all (λ byte. list_any (λ b. b.at == byte.at) unsaved) unsaved ≡ true
each_there [] = refl
each_there (x ∷ xs) =
    let same : (x.at == x.at) ≡ true = grind (arith, common_steps) in
    and_both _ _ (or_left _ _ same)
    (all_implied (λ y. list_any (λ b. b.at == y.at) xs) (λ y. (x.at == y.at) || list_any (λ b. b.at == y.at) xs) (λ y k. or_right _ _ k) xs (each_there xs))

-- the kept length that is left is the one that readers see
end_present : (host : HostId) (kept : List ℕ) (len : Option UnsavedLength) → option_map_or (λ u. (u.writer.0 == host.0) && nat_le (length kept) u.length) len true ≡ true → unwrap_or (own_length host len) (length kept) ≡ present_length kept len
end_present host kept None h = refl
end_present host kept (Some u) h = ap (λ t. unwrap_or (cond t (Some u.length) None) (length kept)) (and_left _ _ h)

-- each unsaved byte becomes kept
each_stored : (host : HostId) (list : List AccessEntry) (kept : List ℕ) (unsaved : List Unsaved) (len : Option UnsavedLength) → is_sound (File list kept unsaved len) ≡ true → is_only_by host (File list kept unsaved len) ≡ true →
    list_all (is_stored host (own_spans host (File list kept unsaved len)) (unwrap_or (own_length host len) (length kept))) unsaved ≡ true
each_stored host list kept unsaved len s h =
    let m = present_length kept len in
    let spans = own_spans host (File list kept unsaved len) in
    let own : list_all (own_below host m) unsaved ≡ true = and_left _ _ h in
    let within : (byte : Unsaved) → (own_below host m byte && list_any (λ b. b.at == byte.at) unsaved) ≡ true → (own_below host m byte && in_spans spans byte.at) ≡ true
    = λ byte k. and_both _ _ (and_left _ _ k) (spans_are_exact host (File list kept unsaved len) byte.at s ∙ own_there host m unsaved byte.at own (and_right _ _ k)) in
    subst (λ n. list_all (is_stored host spans n) unsaved ≡ true) (sym (end_present host kept len (and_right _ _ h)))
    (all_implied (λ byte. own_below host m byte && list_any (λ b. b.at == byte.at) unsaved) (λ byte. own_below host m byte && in_spans spans byte.at) within unsaved
    (all_both (own_below host m) (λ byte. list_any (λ b. b.at == byte.at) unsaved) unsaved own (each_there unsaved)))

-- so that nothing is left
length_gone : (host : HostId) (kept : List ℕ) (len : Option UnsavedLength) → option_map_or (λ u. (u.writer.0 == host.0) && nat_le (length kept) u.length) len true ≡ true → length_left (own_length host len) len ≡ None
length_gone host kept None h = refl
length_gone host kept (Some u) h =
    let same : (u.length == u.length) ≡ true = grind (arith, common_steps) in
    ap (λ t. length_left (cond t (Some u.length) None) (Some u)) (and_left _ _ h) ∙ ap (λ t. cond t None (Some u)) same

-- whether a file has nothing unsaved
pub record IsAllKept (content : Content) : Type 0 where
  pub saved : (host : HostId) → has_saved host content ≡ true
  pub only : (host : HostId) → is_only_by host content ≡ true

pub all_kept : (host : HostId) (content : Content) → is_sound content ≡ true → is_only_by host content ≡ true → IsAllKept (content_stored host (own_spans host content) (own_length_of host content) content)
all_kept host (Dir entries lists) s h = record { saved = λ other. refl; only = λ other. refl }
all_kept host (File list kept unsaved len) s h =
    let spans = own_spans host (File list kept unsaved len) in
    let end = unwrap_or (own_length host len) (length kept) in
    let each : list_all (is_stored host spans end) unsaved ≡ true = each_stored host list kept unsaved len s h in
    let bytes : filter (λ byte. not (is_stored host spans end byte)) unsaved ≡ [] = filter_none (is_stored host spans end) (λ byte. not (is_stored host spans end byte)) (λ byte k. ap not k) unsaved each in
    let long : length_left (own_length host len) len ≡ None = length_gone host kept len (and_right _ _ h) in
    record { saved = λ other. rw (bytes, long) refl; only = λ other. rw (bytes, long) refl }

-- a run of positions
written_run : (host : HostId) (unsaved : List Unsaved) (end n at : ℕ) → ((p : ℕ) → at ≤ p → p < at + n → (is_own host (unsaved_at unsaved p) && nat_lt p end) ≡ true) → has_written host unsaved end at n ≡ true
written_run host unsaved end zero at k = refl
written_run host unsaved end (suc n) at k = and_both _ _ (k at (omega arith) (omega arith)) (written_run host unsaved end n (suc at) (λ p a b. k p (omega (arith, a)) (omega (arith, b))))

written_spans : (host : HostId) (unsaved : List Unsaved) (end : ℕ) (spans : List Span) → ((p : ℕ) → in_spans spans p ≡ true → (is_own host (unsaved_at unsaved p) && nat_lt p end) ≡ true) →
    list_all (λ span. has_written host unsaved end span.from (span.to - span.from)) spans ≡ true
written_spans host unsaved end [] k = refl
written_spans host unsaved end (span ∷ spans) k =
    and_both _ _
    (written_run host unsaved end (span.to - span.from) span.from (λ p a b. k p (or_left _ _ (inside p a (omega (arith, a, b))))))
    (written_spans host unsaved end spans (λ p m. k p (or_right _ _ m)))
  where
    inside : (p : ℕ) → span.from ≤ p → p < span.to → has_byte span p ≡ true
    inside p a b =
        let c : nat_le span.from p ≡ true = grind (arith, common_steps, a) in
        let d : nat_lt p span.to ≡ true = grind (arith, common_steps, b) in
        and_both _ _ c d

-- the host may store it
pub may_store_own : (host : HostId) (content : Content) → writer_of content ≡ Some host → is_sound content ≡ true → is_only_by host content ≡ true → is_storable host (own_spans host content) (own_length_of host content) content ≡ true
may_store_own host (Dir entries lists) w s h = absurd (search (rules, w))
may_store_own host (File list kept unsaved len) w s h =
    let m = present_length kept len in
    let own : list_all (own_below host m) unsaved ≡ true = and_left _ _ h in
    let there : (p : ℕ) → in_spans (own_spans host (File list kept unsaved len)) p ≡ true → (is_own host (unsaved_at unsaved p) && nat_lt p m) ≡ true
    = λ p k. (let found : is_own host (unsaved_at unsaved p) ≡ true = sym (spans_are_exact host (File list kept unsaved len) p s) ∙ k in and_both _ _ found (own_position host m unsaved p own found)) in
    and_both _ _ (own_storable host host list kept unsaved len h)
    (subst (λ n. list_all (λ span. has_written host unsaved n span.from (span.to - span.from)) (own_spans host (File list kept unsaved len)) ≡ true) (sym (end_present host kept len (and_right _ _ h)))
    (written_spans host unsaved m (own_spans host (File list kept unsaved len)) there))

-- and it is something
spans_there : (from to : ℕ) (bytes : List Unsaved) → has_spans (spans_on from to bytes) ≡ true
spans_there from to [] = refl
spans_there from to (byte ∷ bytes) =
    elim (byte.at == to) as (λ t. has_spans (cond t (spans_on from (to + 1) bytes) (span_between from to ∷ spans_on byte.at (byte.at + 1) bytes)) ≡ true) [ true ↦ spans_there from (to + 1) bytes | false ↦ refl ]

pub stores_something : (host : HostId) (content : Content) → writer_of content ≡ Some host → (has_spans (own_spans host content) || is_some (own_length_of host content)) ≡ true
stores_something host (Dir entries lists) w = absurd (search (rules, w))
stores_something host (File list kept [] None) w = absurd (search (rules, w))
stores_something host (File list kept [] (Some u)) w =
    let same : u.writer ≡ host = cc in
    let own : (u.writer.0 == host.0) ≡ true = rw same (grind (arith, common_steps)) in
    ap (λ t. is_some (cond t (Some u.length) None)) own
stores_something host (File list kept (byte ∷ bytes) len) w =
    let same : byte.writer ≡ host = cc in
    let own : (byte.writer.0 == host.0) ≡ true = rw same (grind (arith, common_steps)) in
    let spans : has_spans (spans_of (cond (byte.writer.0 == host.0) (byte ∷ own_bytes host bytes) (own_bytes host bytes))) ≡ true
    = ap (λ t. has_spans (spans_of (cond t (byte ∷ own_bytes host bytes) (own_bytes host bytes)))) own ∙ spans_there byte.at (byte.at + 1) (own_bytes host bytes) in
    or_left _ _ spans
