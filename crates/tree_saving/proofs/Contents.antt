-- What changes of one file leave unsaved in it.
use Rattle.std.proofs.Common.{◌≡◌, ℕ, ◌+◌, ◌≤◌, ◌<◌, ◌==◌, nat_le, nat_lt, Bool, true, false, ◌&&◌, not, cond, List, [], ◌∷◌, ◌++◌, length, filter, Option, Some, None, unwrap_or, refl, sym, ap, ◌∙◌, subst, arith, rules}
use Rattle.std.specs.List.{list_all}
use Rattle.std.specs.Option.{option_map_or}
use Rattle.std.proofs.lemmas.Grind.{common_steps}
use Rattle.base_types.specs.declared.ids.HostId.{HostId}
use Rattle.base_types.specs.declared.span.Span.{Span}
use Rattle.base_types.specs.declared.access.AccessEntry.{AccessEntry}
use Rattle.tree_calls.specs.declared.place.Which.{Which}
use Rattle.tree_objects.specs.declared.content.Unsaved.{Unsaved}
use Rattle.tree_objects.specs.declared.content.UnsavedLength.{UnsavedLength}
use Rattle.tree_objects.specs.declared.content.Content.{Content}
use Rattle.tree_objects.specs.declared.content.Content.TheVariants.{Dir, File}
use Rattle.tree_objects.specs.Files.{present_length, bytes_over}
use Rattle.tree_objects.specs.Changes.{written, unsaved_after, content_written, content_truncated, content_forgotten, content_as_cloned, length_forgotten}
use Rattle.tree_objects.specs.Stores.{is_stored, length_left, content_stored, content_synced, own_length, is_storable, is_storable_length}
use Rattle.tree_objects.specs.Objects.{content_with_list}
use Rattle.tree_objects.specs.Spans.{whole}
use Rattle.tree_objects.proofs.Observed.{and_left, and_right, over_length}
use Rattle.tree_objects.proofs.Rising.{and_both, all_filter, all_implied, all_append}
use Rattle.tree_saving.specs.Unsaved.{has_saved, is_only_by, writer_of, is_by_one}
use Rattle.tree_saving.proofs.Lists.{all_passing, filter_none, filter_all, or_right}

-- two hosts with one number are one
pub same_host : (a b : HostId) → (a.0 == b.0) ≡ true → a ≡ b
same_host a b h = let n : a.0 ≡ b.0 = grind (arith, common_steps, h) in ap (λ i. let id : HostId = record { 0 = i } in id) n

-- what is only one host's is one host's
pub by_one : (host : HostId) (content : Content) → is_only_by host content ≡ true → is_by_one content ≡ true
by_one host (Dir entries lists) h = refl
by_one host (File list kept [] None) h = refl
by_one host (File list kept [] (Some u)) h =
    let own : (u.writer.0 == host.0) ≡ true = and_left _ _ h in
    subst (λ w. is_only_by w (File list kept [] (Some u)) ≡ true) (sym (same_host u.writer host own)) h
by_one host (File list kept (byte ∷ bytes) len) h =
    let own : (byte.writer.0 == host.0) ≡ true = and_left _ _ (and_left _ _ (and_left _ _ h)) in
    subst (λ w. is_only_by w (File list kept (byte ∷ bytes) len) ≡ true) (sym (same_host byte.writer host own)) h

-- and the other way round
pub by_some : (content : Content) → is_by_one content ≡ true → (host : HostId) × (is_only_by host content ≡ true)
by_some (Dir entries lists) h = (record { 0 = 0 }, refl)
by_some (File list kept [] None) h = (record { 0 = 0 }, refl)
by_some (File list kept [] (Some u)) h = (u.writer, h)
by_some (File list kept (byte ∷ bytes) len) h = (byte.writer, h)

-- the host that has something unsaved is that one
pub writer_only : (host : HostId) (content : Content) → writer_of content ≡ Some host → is_by_one content ≡ true → is_only_by host content ≡ true
writer_only host content e h = subst (λ o. option_map_or (λ w. is_only_by w content) o true ≡ true) e h

-- one that is another's isn't the host's
other : (a b c : ℕ) → (a == b) ≡ true → (b == c) ≡ false → not (a == c) ≡ true
other a b c h k = let e : a ≡ b = grind (arith, common_steps, h) in subst (λ n. not (n == c) ≡ true) (sym e) (ap not k)

-- what is only another's isn't the host's
pub only_other : (writer host : HostId) (content : Content) → (writer.0 == host.0) ≡ false → is_only_by writer content ≡ true → has_saved host content ≡ true
only_other writer host (Dir entries lists) k h = refl
only_other writer host (File list kept unsaved len) k h =
    and_both _ _
    (all_implied (λ byte. (byte.writer.0 == writer.0) && nat_lt byte.at (present_length kept len)) (λ byte. not (byte.writer.0 == host.0)) (λ byte m. other byte.writer.0 writer.0 host.0 (and_left _ _ m) k) unsaved (and_left _ _ h))
    (length_other len (and_right _ _ h))
  where
    length_other : (len : Option UnsavedLength) → option_map_or (λ u. (u.writer.0 == writer.0) && nat_le (length kept) u.length) len true ≡ true → option_map_or (λ u. not (u.writer.0 == host.0)) len true ≡ true
    length_other None h = refl
    length_other (Some u) h = other u.writer.0 writer.0 host.0 (and_left _ _ h) k

-- where nothing is unsaved, each host has saved all
pub none_saved : (host : HostId) (content : Content) → writer_of content ≡ None → has_saved host content ≡ true
none_saved host (Dir entries lists) h = refl
none_saved host (File list kept [] None) h = refl
none_saved host (File list kept [] (Some u)) h = absurd (search (rules, h))
none_saved host (File list kept (byte ∷ bytes) len) h = absurd (search (rules, h))

-- a host that has saved all has so after a change
pub saved_written : (host writer : HostId) (from : ℕ) (bytes : List ℕ) (content : Content) → (writer.0 == host.0) ≡ false → has_saved host content ≡ true → has_saved host (content_written writer from bytes content) ≡ true
saved_written host writer from [] content k h = h
saved_written host writer from (v ∷ vs) (Dir entries lists) k h = refl
saved_written host writer from (v ∷ vs) (File list kept unsaved len) k h =
    let p : Unsaved → Bool = λ byte. not (byte.writer.0 == host.0) in
    and_both _ _
    (all_append p (filter (λ byte. nat_lt byte.at from) unsaved ++ written writer from (v ∷ vs)) (filter (λ byte. nat_le (from + length (v ∷ vs)) byte.at) unsaved)
    (all_append p (filter (λ byte. nat_lt byte.at from) unsaved) (written writer from (v ∷ vs)) (all_filter p _ unsaved (and_left _ _ h)) (written_saved from (v ∷ vs)))
    (all_filter p _ unsaved (and_left _ _ h)))
    (length_saved (nat_lt (present_length kept len) (from + length (v ∷ vs))) (and_right _ _ h))
  where
    written_saved : (at : ℕ) (values : List ℕ) → list_all (λ byte. not (byte.writer.0 == host.0)) (written writer at values) ≡ true
    written_saved at [] = refl
    written_saved at (value ∷ values) = and_both _ _ (ap not k) (written_saved (at + 1) values)

    length_saved : (t : Bool) → option_map_or (λ u. not (u.writer.0 == host.0)) len true ≡ true → option_map_or (λ u. not (u.writer.0 == host.0)) (cond t (Some (record { length = from + length (v ∷ vs); writer = writer })) len) true ≡ true
    length_saved true h = ap not k
    length_saved false h = h

pub saved_stored : (host writer : HostId) (spans : List Span) (stored : Option ℕ) (content : Content) → has_saved host content ≡ true → has_saved host (content_stored writer spans stored content) ≡ true
saved_stored host writer spans stored (Dir entries lists) h = refl
saved_stored host writer spans stored (File list kept unsaved len) h = and_both _ _ (all_filter _ _ unsaved (and_left _ _ h)) (length_saved stored len (and_right _ _ h))
  where
    length_saved : (stored : Option ℕ) (len : Option UnsavedLength) → option_map_or (λ u. not (u.writer.0 == host.0)) len true ≡ true → option_map_or (λ u. not (u.writer.0 == host.0)) (length_left stored len) true ≡ true
    length_saved None len h = h
    length_saved (Some n) None h = refl
    length_saved (Some n) (Some u) h = elim (u.length == n) as (λ t. option_map_or (λ u. not (u.writer.0 == host.0)) (cond t None (Some u)) true ≡ true) [ true ↦ refl | false ↦ h ]

pub saved_truncated : (host : HostId) (size : ℕ) (content : Content) → has_saved host (content_truncated size content) ≡ true
saved_truncated host size (Dir entries lists) = refl
saved_truncated host size (File list kept unsaved len) = refl

pub saved_clone : (host : HostId) (content : Content) → has_saved host (content_as_cloned content) ≡ true
saved_clone host (Dir entries lists) = refl
saved_clone host (File list kept unsaved len) = refl

pub saved_listed : (host : HostId) (which : Which) (access : List AccessEntry) (content : Content) → has_saved host content ≡ true → has_saved host (content_with_list which access content) ≡ true
saved_listed host which access (Dir entries lists) h = refl
saved_listed host which access (File list kept unsaved len) h = h

pub saved_forgotten : (host writer : HostId) (content : Content) → has_saved host content ≡ true → has_saved host (content_forgotten writer content) ≡ true
saved_forgotten host writer (Dir entries lists) h = refl
saved_forgotten host writer (File list kept unsaved len) h = and_both _ _ (all_filter _ _ unsaved (and_left _ _ h)) (length_saved len (and_right _ _ h))
  where
    length_saved : (len : Option UnsavedLength) → option_map_or (λ u. not (u.writer.0 == host.0)) len true ≡ true → option_map_or (λ u. not (u.writer.0 == host.0)) (length_forgotten writer len) true ≡ true
    length_saved None h = refl
    length_saved (Some u) h = elim (u.writer.0 == writer.0) as (λ t. option_map_or (λ u. not (u.writer.0 == host.0)) (cond t None (Some u)) true ≡ true) [ true ↦ refl | false ↦ h ]

-- a host that is down has nothing unsaved
pub down_saved : (host : HostId) (content : Content) → has_saved host (content_forgotten host content) ≡ true
down_saved host (Dir entries lists) = refl
down_saved host (File list kept unsaved len) = and_both _ _ (all_passing (λ byte. not (byte.writer.0 == host.0)) unsaved) (length_saved len)
  where
    length_saved : (len : Option UnsavedLength) → option_map_or (λ u. not (u.writer.0 == host.0)) (length_forgotten host len) true ≡ true
    length_saved None = refl
    length_saved (Some u) =
        elim (u.writer.0 == host.0) as (λ t. t ≡ (u.writer.0 == host.0) → option_map_or (λ u. not (u.writer.0 == host.0)) (cond t None (Some u)) true ≡ true)
        [ true ↦ λ e. refl | false ↦ λ e. ap not (sym e) ] refl

-- what is only one host's is so after its own write
pub only_written : (host : HostId) (from : ℕ) (bytes : List ℕ) (content : Content) → is_only_by host content ≡ true → is_only_by host (content_written host from bytes content) ≡ true
only_written host from [] content h = h
only_written host from (v ∷ vs) (Dir entries lists) h = refl
only_written host from (v ∷ vs) (File list kept unsaved len) h = lengths (from + length (v ∷ vs)) refl
  where
    below : (m n : ℕ) (byte : Unsaved) → m ≤ n → ((byte.writer.0 == host.0) && nat_lt byte.at m) ≡ true → ((byte.writer.0 == host.0) && nat_lt byte.at n) ≡ true
    below m n byte l k =
        let b : nat_lt byte.at m ≡ true = and_right (byte.writer.0 == host.0) (nat_lt byte.at m) k in
        let c : nat_lt byte.at n ≡ true = grind (arith, common_steps, b, l) in
        and_both _ _ (and_left (byte.writer.0 == host.0) (nat_lt byte.at m) k) c

    written_only : (m at : ℕ) (values : List ℕ) → at + length values ≤ m → list_all (λ byte. (byte.writer.0 == host.0) && nat_lt byte.at m) (written host at values) ≡ true
    written_only m at [] l = refl
    written_only m at (value ∷ values) l =
        let k : at < m = omega (arith, l) in
        let own : (host.0 == host.0) ≡ true = grind (arith, common_steps) in
        let c : nat_lt at m ≡ true = grind (arith, common_steps, k) in
        and_both _ _ (and_both _ _ own c) (written_only m (at + 1) values (omega (arith, l)))

    after : (n : ℕ) → present_length kept len ≤ n → from + length (v ∷ vs) ≤ n → list_all (λ byte. (byte.writer.0 == host.0) && nat_lt byte.at n) (unsaved_after unsaved host from (v ∷ vs)) ≡ true
    after n l m =
        let p : Unsaved → Bool = λ byte. (byte.writer.0 == host.0) && nat_lt byte.at n in
        let all : list_all p unsaved ≡ true = all_implied (λ byte. (byte.writer.0 == host.0) && nat_lt byte.at (present_length kept len)) p (λ byte k. below (present_length kept len) n byte l k) unsaved (and_left _ _ h) in
        all_append p (filter (λ byte. nat_lt byte.at from) unsaved ++ written host from (v ∷ vs)) (filter (λ byte. nat_le (from + length (v ∷ vs)) byte.at) unsaved)
        (all_append p (filter (λ byte. nat_lt byte.at from) unsaved) (written host from (v ∷ vs)) (all_filter p _ unsaved all) (written_only n from (v ∷ vs) m))
        (all_filter p _ unsaved all)

    longer : (len : Option UnsavedLength) → option_map_or (λ u. (u.writer.0 == host.0) && nat_le (length kept) u.length) len true ≡ true → length kept ≤ present_length kept len
    longer None k = omega arith
    longer (Some u) k = let l : nat_le (length kept) u.length ≡ true = and_right (u.writer.0 == host.0) (nat_le (length kept) u.length) k in grind (arith, common_steps, l)

    lengths : (end : ℕ) → end ≡ from + length (v ∷ vs) → is_only_by host (File list kept (unsaved_after unsaved host from (v ∷ vs)) (cond (nat_lt (present_length kept len) end) (Some (record { length = end; writer = host })) len)) ≡ true
    lengths end e =
        let own : (host.0 == host.0) ≡ true = grind (arith, common_steps) in
        let long : option_map_or (λ u. (u.writer.0 == host.0) && nat_le (length kept) u.length) len true ≡ true = and_right (list_all (λ byte. (byte.writer.0 == host.0) && nat_lt byte.at (present_length kept len)) unsaved) _ h in
        let least : length kept ≤ present_length kept len = longer len long in
        elim (nat_lt (present_length kept len) end) as (λ t. nat_lt (present_length kept len) end ≡ t → is_only_by host (File list kept (unsaved_after unsaved host from (v ∷ vs)) (cond t (Some (record { length = end; writer = host })) len)) ≡ true) [
          | true ↦ λ g.
              let l : present_length kept len < end = grind (arith, common_steps, g) in
              let m : length kept ≤ end = omega (arith, least, l) in
              let c : nat_le (length kept) end ≡ true = grind (arith, common_steps, m) in
              and_both _ _ (after end (omega (arith, l)) (omega (arith, e))) (and_both _ _ own c)
          | false ↦ λ g.
              let l : end ≤ present_length kept len = grind (arith, common_steps, g) in
              and_both _ _ (after (present_length kept len) (omega arith) (omega (arith, e, l))) (and_right _ _ h)
        ] refl

-- its own length may be stored
pub own_storable : (writer host : HostId) (list : List AccessEntry) (kept : List ℕ) (unsaved : List Unsaved) (len : Option UnsavedLength) → is_only_by writer (File list kept unsaved len) ≡ true → is_storable_length host kept len (own_length host len) ≡ true
own_storable writer host list kept unsaved None h = refl
own_storable writer host list kept unsaved (Some u) h =
    let long : ((u.writer.0 == writer.0) && nat_le (length kept) u.length) ≡ true = and_right (list_all (λ byte. (byte.writer.0 == writer.0) && nat_lt byte.at u.length) unsaved) ((u.writer.0 == writer.0) && nat_le (length kept) u.length) h in
    let least : nat_le (length kept) u.length ≡ true = and_right (u.writer.0 == writer.0) (nat_le (length kept) u.length) long in
    elim (u.writer.0 == host.0) as (λ t. t ≡ (u.writer.0 == host.0) → is_storable_length host kept (Some u) (cond t (Some u.length) None) ≡ true) [
      | true ↦ λ e.
          let most : nat_le u.length u.length ≡ true = grind (arith, common_steps) in
          and_both _ _ (and_both _ _ least most) (or_right _ _ (sym e))
      | false ↦ λ e. refl
    ] refl

-- what is only one host's is so after a store
pub only_stored : (writer host : HostId) (spans : List Span) (stored : Option ℕ) (list : List AccessEntry) (kept : List ℕ) (unsaved : List Unsaved) (len : Option UnsavedLength) →
    is_storable_length host kept len stored ≡ true → is_only_by writer (File list kept unsaved len) ≡ true → is_only_by writer (content_stored host spans stored (File list kept unsaved len)) ≡ true
only_stored writer host spans stored list kept unsaved len k h =
    let end = unwrap_or stored (length kept) in
    let bytes = bytes_over kept (filter (is_stored host spans end) unsaved) 0 end in
    let n : length bytes ≡ end = over_length kept (filter (is_stored host spans end) unsaved) 0 end in
    let all = all_filter (λ byte. (byte.writer.0 == writer.0) && nat_lt byte.at (present_length kept len)) (λ byte. not (is_stored host spans end byte)) unsaved (and_left _ _ h) in
    and_both _ _
    (subst (λ m. list_all (λ byte. (byte.writer.0 == writer.0) && nat_lt byte.at m) (filter (λ byte. not (is_stored host spans end byte)) unsaved) ≡ true) (sym (as_long stored len bytes n k)) all)
    (length_only stored len bytes n k (and_right _ _ h))
  where
    as_long : (stored : Option ℕ) (len : Option UnsavedLength) (bytes : List ℕ) → length bytes ≡ unwrap_or stored (length kept) → is_storable_length host kept len stored ≡ true → present_length bytes (length_left stored len) ≡ present_length kept len
    as_long None None bytes n k = n
    as_long None (Some u) bytes n k = refl
    as_long (Some s) None bytes n k =
        let both : (nat_le (length kept) s && nat_le s (length kept)) ≡ true = and_left _ _ k in
        let a : nat_le (length kept) s ≡ true = and_left (nat_le (length kept) s) (nat_le s (length kept)) both in
        let b : nat_le s (length kept) ≡ true = and_right (nat_le (length kept) s) (nat_le s (length kept)) both in
        let c : length kept ≤ s = grind (arith, common_steps, a) in let d : s ≤ length kept = grind (arith, common_steps, b) in
        omega (arith, n, c, d)
    as_long (Some s) (Some u) bytes n k =
        elim (u.length == s) as (λ t. t ≡ (u.length == s) → present_length bytes (cond t None (Some u)) ≡ u.length)
        [ true ↦ λ e. let g : u.length ≡ s = grind (arith, common_steps, e) in n ∙ sym g | false ↦ λ e. refl ] refl

    length_only : (stored : Option ℕ) (len : Option UnsavedLength) (bytes : List ℕ) → length bytes ≡ unwrap_or stored (length kept) → is_storable_length host kept len stored ≡ true →
        option_map_or (λ u. (u.writer.0 == writer.0) && nat_le (length kept) u.length) len true ≡ true → option_map_or (λ u. (u.writer.0 == writer.0) && nat_le (length bytes) u.length) (length_left stored len) true ≡ true
    length_only None None bytes n k h = refl
    length_only None (Some u) bytes n k h = subst (λ m. ((u.writer.0 == writer.0) && nat_le m u.length) ≡ true) (sym n) h
    length_only (Some s) None bytes n k h = refl
    length_only (Some s) (Some u) bytes n k h =
        let b : nat_le s u.length ≡ true = and_right _ _ (and_left _ _ k) in
        let kept_less : ((u.writer.0 == writer.0) && nat_le (length bytes) u.length) ≡ true = and_both _ _ (and_left _ _ h) (subst (λ m. nat_le m u.length ≡ true) (sym n) b) in
        elim (u.length == s) as (λ t. option_map_or (λ u. (u.writer.0 == writer.0) && nat_le (length bytes) u.length) (cond t None (Some u)) true ≡ true) [ true ↦ refl | false ↦ kept_less ]

-- one host's stays one host's
pub one_stored : (host : HostId) (spans : List Span) (stored : Option ℕ) (content : Content) → is_storable host spans stored content ≡ true → is_by_one content ≡ true → is_by_one (content_stored host spans stored content) ≡ true
one_stored host spans stored (Dir entries lists) k h = refl
one_stored host spans stored (File list kept unsaved len) k h =
    let (writer, only) = by_some (File list kept unsaved len) h in
    by_one writer (content_stored host spans stored (File list kept unsaved len)) (only_stored writer host spans stored list kept unsaved len (and_left _ _ k) only)

pub one_synced : (host : HostId) (content : Content) → is_by_one content ≡ true → is_by_one (content_synced host content) ≡ true
one_synced host (Dir entries lists) h = refl
one_synced host (File list kept unsaved len) h =
    let (writer, only) = by_some (File list kept unsaved len) h in
    by_one writer (content_synced host (File list kept unsaved len)) (only_stored writer host (whole ∷ []) (own_length host len) list kept unsaved len (own_storable writer host list kept unsaved len only) only)

pub one_truncated : (size : ℕ) (content : Content) → is_by_one (content_truncated size content) ≡ true
one_truncated size (Dir entries lists) = refl
one_truncated size (File list kept unsaved len) = refl

pub one_clone : (content : Content) → is_by_one (content_as_cloned content) ≡ true
one_clone (Dir entries lists) = refl
one_clone (File list kept unsaved len) = refl

pub one_listed : (which : Which) (access : List AccessEntry) (content : Content) → is_by_one content ≡ true → is_by_one (content_with_list which access content) ≡ true
one_listed which access (Dir entries lists) h = refl
one_listed which access (File list kept [] None) h = refl
one_listed which access (File list kept [] (Some u)) h = h
one_listed which access (File list kept (byte ∷ bytes) len) h = h

pub one_written : (host : HostId) (from : ℕ) (bytes : List ℕ) (content : Content) → is_only_by host content ≡ true → is_by_one (content_written host from bytes content) ≡ true
one_written host from bytes content h = by_one host (content_written host from bytes content) (only_written host from bytes content h)

-- a host that is down loses all of it, or nothing
pub one_forgotten : (host : HostId) (content : Content) → is_by_one content ≡ true → is_by_one (content_forgotten host content) ≡ true
one_forgotten host (Dir entries lists) h = refl
one_forgotten host (File list kept unsaved len) h =
    let (writer, only) = by_some (File list kept unsaved len) h in
    elim (writer.0 == host.0) as (λ t. (writer.0 == host.0) ≡ t → is_by_one (content_forgotten host (File list kept unsaved len)) ≡ true) [
      | true ↦ λ e.
          let bytes : filter (λ byte. not (byte.writer.0 == host.0)) unsaved ≡ [] = all_gone writer e (and_left _ _ only) in
          let length : length_forgotten host len ≡ None = length_gone writer len e (and_right _ _ only) in
          rw (bytes, length) refl
      | false ↦ λ e.
          let saved = only_other writer host (File list kept unsaved len) e only in
          let bytes : filter (λ byte. not (byte.writer.0 == host.0)) unsaved ≡ unsaved = all_stay (and_left _ _ saved) in
          let length : length_forgotten host len ≡ len = length_stays len (and_right _ _ saved) in
          rw (bytes, length) h
    ] refl
  where
    equal : (a b c : ℕ) → (b == c) ≡ true → (a == b) ≡ true → (a == c) ≡ true
    equal a b c k h = let e : a ≡ b = grind (arith, common_steps, h) in subst (λ n. (n == c) ≡ true) (sym e) k

    all_gone : (writer : HostId) → (writer.0 == host.0) ≡ true → list_all (λ byte. (byte.writer.0 == writer.0) && nat_lt byte.at (present_length kept len)) unsaved ≡ true → filter (λ byte. not (byte.writer.0 == host.0)) unsaved ≡ []
    all_gone writer e h = filter_none (λ byte. (byte.writer.0 == writer.0) && nat_lt byte.at (present_length kept len)) (λ byte. not (byte.writer.0 == host.0)) (λ byte k. ap not (equal byte.writer.0 writer.0 host.0 e (and_left _ _ k))) unsaved h

    all_stay : list_all (λ byte. not (byte.writer.0 == host.0)) unsaved ≡ true → filter (λ byte. not (byte.writer.0 == host.0)) unsaved ≡ unsaved
    all_stay h = filter_all (λ byte. not (byte.writer.0 == host.0)) (λ byte. not (byte.writer.0 == host.0)) (λ byte k. k) unsaved h

    length_gone : (writer : HostId) (len : Option UnsavedLength) → (writer.0 == host.0) ≡ true → option_map_or (λ u. (u.writer.0 == writer.0) && nat_le (length kept) u.length) len true ≡ true → length_forgotten host len ≡ None
    length_gone writer None e h = refl
    length_gone writer (Some u) e h = ap (λ t. cond t None (Some u)) (equal u.writer.0 writer.0 host.0 e (and_left _ _ h))

    length_stays : (len : Option UnsavedLength) → option_map_or (λ u. not (u.writer.0 == host.0)) len true ≡ true → length_forgotten host len ≡ len
    length_stays None h = refl
    length_stays (Some u) h = elim (u.writer.0 == host.0) as (λ t. not t ≡ true → cond t None (Some u) ≡ Some u) [ true ↦ λ k. absurd (search (rules, k)) | false ↦ λ k. refl ] h
