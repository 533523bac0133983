-- What is asked of a file is what the rules want.
use Rattle.std.proofs.Common.{◌≡◌, ◌≤◌, ◌<◌, ◌-◌, ◌/◌, ◌&&◌, ◌∙◌, ◌∷◌, ◌⊎◌, ◌↔◌, Bool}
use Rattle.std.proofs.Common.{List, None}
use Rattle.std.proofs.Common.{Option, Some, [], ap, arith, false, inl, inr, map, nat_le, nat_lt, not, refl, subst, sym}
use Rattle.std.proofs.Common.{true, ℕ}
use Rattle.std.proofs.lemmas.Bool.{and_from, and_parts, le-leb, leb-true, lt-ltb, ltb-true}
use Rattle.std.specs.Bool.{beq}
use Rattle.std.specs.List.{list_any}
use Rattle.std.specs.Option.{option_map_or}
use Rattle.base_types.specs.Ids.{same_fid}
use Rattle.base_types.specs.Spans.{has_byte}
use Rattle.base_types.specs.declared.ids.Fid.{Fid}
use Rattle.base_types.specs.declared.limits.TheConstants.{TOKEN_BYTES}
use Rattle.base_types.specs.declared.span.Span.{Span}
use Rattle.host_asks.proofs.Fronts.{bytes_status, two_apart}
use Rattle.host_asks.proofs.Lacking.{NeedsOf, call_wants}
use Rattle.host_asks.specs.Fetching.{AddsClean, AsksFile, StatusAsked, blocks_of, in_dirty_block, is_directory, is_lost}
use Rattle.host_asks.specs.Fetching.{front_of, is_near, is_wanted, lengthens, wanted}
use Rattle.host_cache.specs.Files.{file_key, same_key}
use Rattle.host_calls.proofs.Owned.{in_tokens, key_is, key_of, tokens_in}
use Rattle.host_dirty.specs.Dirtiness.{spans_of}
use Rattle.host_leaves.specs.Dirtying.{tokens_at}
use Rattle.host_tables.proofs.Lists.{any_in, fid_same, in_any, in_either, in_left, in_right, not_true, same_fid_is}
use Rattle.host_tables.proofs.Lists.{true_not}
use Rattle.host_tables.specs.Asking.{AsksStatusOf, FetchFrom, FileFrom, InDirtyBlockOf}
use Rattle.host_tables.specs.Asking.FetchFrom.{OfKnown, OfNone, OfPlain, OfRoot}
use Rattle.host_tables.specs.Stands.{IsLack, needs_from}
use Rattle.host_tables.specs.Tables.{content, held_of, own_of, updates_status}
use Rattle.host_tables.specs.declared.tables.Tables.{Tables}
use Rattle.host_walk.specs.Trying.{length_need, status_need, whole_need}
use Rattle.need_host.specs.Walks.{root_of}
use Rattle.run_rules.specs.HostAsks.{NamesByte}
use Rattle.run_rules.specs.Past.{In}
use Rattle.run_rules.specs.Tokens.{IsUseKind}
use Rattle.token_types.specs.Covers.{Covers, covers_alone, kind_covers}
use Rattle.token_types.specs.declared.token.Kind.{Kind}
use Rattle.token_types.specs.declared.token.Kind.TheVariants.{Bytes, Lock, Opening, Status}
use Rattle.token_types.specs.declared.token.Need.{Need}
use Rattle.token_types.specs.declared.token.Token.{Token}
use Rattle.tree_calls.specs.declared.call.Call.{Call}
use Rattle.tree_laws.specs.Parts.{Nature}
use Rattle.tree_laws.specs.Parts.Part.{Size, Traits}

has_parts : (s : Span) (at : ℕ) → has_byte s at ≡ true → (s.from ≤ at) × (at < s.to)
has_parts s at e =
    let p = and_parts (nat_le s.from at) (nat_lt at s.to) e in (leb-true s.from at p.0, ltb-true at s.to p.1)

parts_have : (s : Span) (at : ℕ) → s.from ≤ at → at < s.to → has_byte s at ≡ true
parts_have s at low high =
    and_from (nat_le s.from at) (nat_lt at s.to) (le-leb s.from at low) (lt-ltb at s.to high)

-- ---- blocks in which something is dirty
near_parts : (s : Span) (at : ℕ) → is_near at s ≡ true →
    (other : ℕ) × (other / TOKEN_BYTES ≡ at / TOKEN_BYTES) × (has_byte s other ≡ true)
near_parts s at e = by_case (order at s.from) (order at s.to)
  where
    order : (a b : ℕ) → (a < b) ⊎ (b ≤ a)
    order a b = grind arith

    some : s.from < s.to
    some = ltb-true s.from s.to (and_parts (nat_lt s.from s.to) (has_byte (blocks_of s) at) e).0

    low : (blocks_of s).from ≤ at
    low = (has_parts (blocks_of s) at (and_parts (nat_lt s.from s.to) (has_byte (blocks_of s) at) e).1).0

    high : at < (blocks_of s).to
    high = (has_parts (blocks_of s) at (and_parts (nat_lt s.from s.to) (has_byte (blocks_of s) at) e).1).1

    by_case : (at < s.from) ⊎ (s.from ≤ at) → (at < s.to) ⊎ (s.to ≤ at) →
        (other : ℕ) × (other / TOKEN_BYTES ≡ at / TOKEN_BYTES) × (has_byte s other ≡ true)
    by_case (inl h) x =
        let a = low in
        let b = high in
        let c = some in
        (s.from, omega (arith, h, a, b, c), parts_have s s.from (omega arith) c)
    by_case (inr h) (inl k) = (at, refl, parts_have s at h k)
    by_case (inr h) (inr k) =
        let a = low in
        let b = high in
        let c = some in
        (s.to - 1, omega (arith, k, a, b, c), parts_have s (s.to - 1) (omega (arith, c)) (omega (arith, c)))

parts_near : (s : Span) (at other : ℕ) → other / TOKEN_BYTES ≡ at / TOKEN_BYTES → has_byte s other ≡ true →
    is_near at s ≡ true
parts_near s at other same h =
    let p = has_parts s other h in
    let low = p.0 in
    let high = p.1 in
    let w = s.within in
    and_from (nat_lt s.from s.to) (has_byte (blocks_of s) at) (lt-ltb s.from s.to (omega (arith, low, high)))
    (parts_have (blocks_of s) at (omega (arith, low, high, same, w)) (omega (arith, low, high, same, w)))

module _ (m : Tables) (fid : Fid) where
  dirty_near : (at : ℕ) → in_dirty_block m fid at ≡ true → InDirtyBlockOf m.dirty fid at
  dirty_near at e =
      let r = in_any (is_near at) (spans_of m.dirty fid) e in
      let p = near_parts r.0 at r.2 in
      (p.0, p.1, any_in (λ span. has_byte span p.0) (spans_of m.dirty fid) r.0 r.1 p.2)

  near_dirty : (at : ℕ) → InDirtyBlockOf m.dirty fid at → in_dirty_block m fid at ≡ true
  near_dirty at d =
      let r = in_any (λ span. has_byte span d.0) (spans_of m.dirty fid) d.2 in
      any_in (is_near at) (spans_of m.dirty fid) r.0 r.1 (parts_near r.0 at d.0 d.1 r.2)

  -- ---- a token for update of the status
  abbrev updating : Token → Bool
  updating token = updates_status token.kind

  kind_updates : (kind : Kind) → kind_covers kind (Status true) ≡ true → updates_status kind ≡ true
  kind_updates (Status true) e = refl
  kind_updates (Status false) e = absurd (cc)
  kind_updates (Bytes update span) e = absurd (cc)
  kind_updates (Lock writing span) e = absurd (cc)
  kind_updates (Opening kind) e = absurd (cc)

  updates_kind : (kind : Kind) → updates_status kind ≡ true → kind_covers kind (Status true) ≡ true
  updates_kind (Status true) e = refl
  updates_kind (Status false) e = absurd (cc)
  updates_kind (Bytes update span) e = absurd (cc)
  updates_kind (Lock writing span) e = absurd (cc)
  updates_kind (Opening kind) e = absurd (cc)

  covers_updates : Covers (held_of m) (length_need fid) → list_any updating (tokens_at m fid) ≡ true
  covers_updates h =
      let r = in_any (covers_alone fid (Status true)) (held_of m) h in
      let p = and_parts (same_fid r.0.fid fid) (kind_covers r.0.kind (Status true)) r.2 in
      any_in updating (tokens_at m fid) r.0
      (tokens_in m.cache.held r.0 (λ other. same_key (file_key other) (file_key fid)) r.1
      (key_of r.0.fid fid (same_fid_is r.0.fid fid p.0))) (kind_updates r.0.kind p.1)

  updates_cover : list_any updating (tokens_at m fid) ≡ true → Covers (held_of m) (length_need fid)
  updates_cover e =
      let r = in_any updating (tokens_at m fid) e in
      let held = in_tokens m.cache.held r.0 (λ other. same_key (file_key other) (file_key fid)) r.1 in
      any_in (covers_alone fid (Status true)) (held_of m) r.0 held.0
      (and_from (same_fid r.0.fid fid) (kind_covers r.0.kind (Status true))
      (fid_same r.0.fid fid (key_is r.0.fid fid held.1)) (updates_kind r.0.kind r.2))

  lost_in : is_lost m fid ≡ true → In fid m.lost × (Covers (held_of m) (length_need fid) → ⊥)
  lost_in e =
      let p = and_parts (list_any (λ (other : Fid). same_fid other fid) m.lost)
      (not (list_any updating (tokens_at m fid))) e in
      let r = in_any (λ (other : Fid). same_fid other fid) m.lost p.0 in (
        subst (λ (f : Fid). In f m.lost) (same_fid_is r.0 fid r.2) r.1,
        λ c. not_true (list_any updating (tokens_at m fid)) p.1 (covers_updates c),
      )

  in_lost : In fid m.lost → (Covers (held_of m) (length_need fid) → ⊥) → is_lost m fid ≡ true
  in_lost i none =
      and_from (list_any (λ (other : Fid). same_fid other fid) m.lost) (not (list_any updating (tokens_at m fid)))
      (any_in (λ (other : Fid). same_fid other fid) m.lost fid i (fid_same fid fid refl))
      (true_not (list_any updating (tokens_at m fid)) (λ e. none (updates_cover e)))

  -- ---- what is asked of a file is what the rules want, where the call needs this of it
  module _ (call : Call) (needs asked : List Need) (size : ℕ) (wants : NeedsOf call needs fid size)
      (asks : AsksFile m call fid size asked) where
    status_so : (update : Bool) → In (record { fid = fid; kind = Status update }) asked →
        AsksStatusOf m.lost needs fid update × (Covers (held_of m) (length_need fid) → ⊥)
    status_so true i = let r = asks.updates.0 i in (wants.status.1 r.0, r.1)
    status_so false i =
        let r = asks.shows.0 i in
        let l = lost_in r.0 in
        ((l.0, λ j. l.1 (r.1 (wants.status.0 j))), l.1)

    so_status : (update : Bool) → AsksStatusOf m.lost needs fid update →
        (Covers (held_of m) (length_need fid) → ⊥) → In (record { fid = fid; kind = Status update }) asked
    so_status true i none = asks.updates.1 (wants.status.0 i, none)
    so_status false s none =
        asks.shows.1 (in_lost s.0 none, λ e. absurd (s.1 (wants.status.1 e)))

    pub file_from : FileFrom m m.lost needs fid asked
    file_from = record {
      only = asks.only;
      bytes = λ update at n.
          let p = and_parts (is_wanted call size update at) (not (in_dirty_block m fid at))
          ((asks.bytes update at).0 n) in
          ((wants.bytes update at).1 p.0, λ d. not_true (in_dirty_block m fid at) p.1 (near_dirty at d));
      bytes_all = λ update at n none.
          (asks.bytes update at).1 (and_from (is_wanted call size update at) (not (in_dirty_block m fid at))
          ((wants.bytes update at).0 n)
          (true_not (in_dirty_block m fid at) (λ e. none (dirty_near at e))));
      status = status_so;
      status_all = so_status;
    }

  -- ---- what is asked of a file, put together
  module _ (call : Call) (size : ℕ) where
    -- of its status
    only_front : (front : Option Need) → StatusAsked m call fid size front → (n : Need) → In n (front_of front) →
        (n.fid ≡ fid) × (IsUseKind n.kind → ⊥)
    only_front None s n i = elim i [ ]
    only_front (Some need) (inl s) n (inl e) =
        subst (λ (k : Need). (k.fid ≡ fid) × (IsUseKind k.kind → ⊥)) (sym (e ∙ s.0)) (refl, λ u. u)
    only_front (Some need) (inr s) n (inl e) =
        subst (λ (k : Need). (k.fid ≡ fid) × (IsUseKind k.kind → ⊥)) (sym (e ∙ s.0)) (refl, λ u. u)
    only_front (Some need) s n (inr i) = elim i [ ]

    no_bytes : (front : Option Need) → StatusAsked m call fid size front → (update : Bool) (span : Span) →
        In (record { fid = fid; kind = Bytes update span }) (front_of front) → ⊥
    no_bytes None s update span i = i
    no_bytes (Some need) (inl s) update span (inl e) =
        bytes_status update span true (ap (λ (n : Need). n.kind) (e ∙ s.0))
    no_bytes (Some need) (inr s) update span (inl e) =
        bytes_status update span false (ap (λ (n : Need). n.kind) (e ∙ s.0))
    no_bytes (Some need) s update span (inr i) = i

    front_updates : (front : Option Need) → StatusAsked m call fid size front →
        In (length_need fid) (front_of front)
        ↔ ((lengthens call size ≡ true) × (Covers (held_of m) (length_need fid) → ⊥))
    front_updates None s = (λ i. elim i [ ], λ p. absurd (p.1 (s.1 p.0)))
    front_updates (Some need) (inl s) = (λ i. (s.1, s.2), λ p. inl (sym s.0))
    front_updates (Some need) (inr s) = (λ i. absurd (differ i), λ p. absurd (p.1 (s.2 p.0)))
      where
        differ : In (length_need fid) (need ∷ []) → ⊥
        differ (inl e) = two_apart (ap (λ (n : Need). n.kind) (e ∙ s.0))
        differ (inr i) = i

    front_shows : (front : Option Need) → StatusAsked m call fid size front →
        In (status_need fid) (front_of front)
        ↔ ((is_lost m fid ≡ true) × ((lengthens call size ≡ true) → Covers (held_of m) (length_need fid)))
    front_shows None s = (λ i. elim i [ ], λ p. absurd (both (is_lost m fid) p.0 s.0))
      where
        both : (b : Bool) → b ≡ true → b ≡ false → ⊥
        both b e k = absurd (cc)
    front_shows (Some need) (inl s) = (λ i. absurd (differ i), λ p. absurd (s.2 (p.1 s.1)))
      where
        differ : In (status_need fid) (need ∷ []) → ⊥
        differ (inl e) = two_apart (sym (ap (λ (n : Need). n.kind) (e ∙ s.0)))
        differ (inr i) = i
    front_shows (Some need) (inr s) = (λ i. (s.1, s.2), λ p. inl (sym s.0))

    pub asks_status : (front : Option Need) → StatusAsked m call fid size front → wanted call size ≡ None →
        AsksFile m call fid size (front_of front)
    asks_status front s none = record {
      only = only_front front s;
      bytes = λ update at. (
        λ n. absurd (no_bytes front s update n.0 n.1),
        λ e. absurd (never update at e),
      );
      updates = front_updates front s;
      shows = front_shows front s;
    }
      where
        none_any : (update : Bool) (at : ℕ) (o : Option (Bool × Span)) → o ≡ None →
            option_map_or (λ want. beq want.0 update && has_byte want.1 at) o false ≡ true → ⊥
        none_any update at None e p = absurd (cc)
        none_any update at (Some want) e p = absurd (cc)

        never : (update : Bool) (at : ℕ) →
            (is_wanted call size update at && not (in_dirty_block m fid at)) ≡ true → ⊥
        never update at e =
            let p = and_parts (is_wanted call size update at) (not (in_dirty_block m fid at)) e in
            none_any update at (wanted call size) none p.0

    -- and of its bytes
    module _ (front : Option Need) (s : StatusAsked m call fid size front) (update : Bool) (span : Span)
        (want : wanted call size ≡ Some (update, span)) (new : List Need)
        (adds : AddsClean m fid update span (front_of front) new) where
      abbrev bytes_of : List Need
      bytes_of = map (λ left. record { fid = fid; kind = Bytes update left }) adds.added

      in_bytes : (spans : List Span) (n : Need) →
          In n (map (λ left. record { fid = fid; kind = Bytes update left }) spans) →
          (left : Span) × In left spans × (n ≡ record { fid = fid; kind = Bytes update left })
      in_bytes [] n i = elim i [ ]
      in_bytes (left ∷ spans) n (inl e) = (left, inl refl, e)
      in_bytes (left ∷ spans) n (inr i) = let r = in_bytes spans n i in (r.0, inr r.1, r.2)

      bytes_in : (spans : List Span) (left : Span) → In left spans →
          In {A = Need} (record { fid = fid; kind = Bytes update left })
          (map (λ left. record { fid = fid; kind = Bytes update left }) spans)
      bytes_in [] left i = elim i [ ]
      bytes_in (x ∷ spans) left (inl e) = inl (ap (λ (t : Span). record { fid = fid; kind = Bytes update t }) e)
      bytes_in (x ∷ spans) left (inr i) = inr (bytes_in spans left i)

      of_new : (n : Need) → In n new → In n (front_of front) ⊎ In n bytes_of
      of_new n i = in_either (front_of front) bytes_of n (subst (In n) adds.needs i)

      to_front : (n : Need) → In n (front_of front) → In n new
      to_front n i = subst (In n) (sym adds.needs) (in_left (front_of front) bytes_of n i)

      to_bytes : (n : Need) → In n bytes_of → In n new
      to_bytes n i = subst (In n) (sym adds.needs) (in_right (front_of front) bytes_of n i)

      only_new : (n : Need) → In n new → (n.fid ≡ fid) × (IsUseKind n.kind → ⊥)
      only_new n i = elim (of_new n i) [
        | inl a ↦ only_front front s n a
        | inr b ↦ (let r = in_bytes adds.added n b in
            subst (λ (k : Need). (k.fid ≡ fid) × (IsUseKind k.kind → ⊥)) (sym r.2) (refl, λ u. u))
      ]

      wanted_is : (u : Bool) (at : ℕ) → is_wanted call size u at ≡ (beq update u && has_byte span at)
      wanted_is u at = ap (λ o. option_map_or (λ w. beq w.0 u && has_byte w.1 at) o false) want

      beq_is : (a b : Bool) → beq a b ≡ true → a ≡ b
      beq_is true true e = refl
      beq_is false false e = refl
      beq_is true false e = absurd (cc)
      beq_is false true e = absurd (cc)

      is_beq : (a b : Bool) → a ≡ b → beq a b ≡ true
      is_beq true true e = refl
      is_beq false false e = refl
      is_beq true false e = absurd (cc)
      is_beq false true e = absurd (cc)

      bytes_are : (u v : Bool) (x y : Span) →
          ◌≡◌ {A = Need} (record { fid = fid; kind = Bytes u x }) (record { fid = fid; kind = Bytes v y }) →
          (u ≡ v) × (x ≡ y)
      bytes_are u v x y e = parts u v x y (ap (λ (n : Need). n.kind) e)
        where
          parts : (u v : Bool) (x y : Span) → Bytes u x ≡ Bytes v y → (u ≡ v) × (x ≡ y)
          parts u v x y e = (cc, cc)

      names_so : (u : Bool) (at : ℕ) → NamesByte new fid u at →
          (is_wanted call size u at && not (in_dirty_block m fid at)) ≡ true
      names_so u at (x, i, h) = elim (of_new (record { fid = fid; kind = Bytes u x }) i) [
        | inl a ↦ absurd (no_bytes front s u x a)
        | inr b ↦ (let r = in_bytes adds.added (record { fid = fid; kind = Bytes u x }) b in
            let q = bytes_are u update x r.0 r.2 in
            let inside = any_in (λ (t : Span). has_byte t at) adds.added r.0 r.1
            (subst (λ (t : Span). has_byte t at ≡ true) q.1 h) in
            let p = and_parts (has_byte span at) (not (in_dirty_block m fid at)) (sym (adds.bytes at) ∙ inside) in
            and_from (is_wanted call size u at) (not (in_dirty_block m fid at))
            (wanted_is u at ∙ and_from (beq update u) (has_byte span at) (is_beq update u (sym q.0)) p.0) p.1)
      ]

      so_names : (u : Bool) (at : ℕ) → (is_wanted call size u at && not (in_dirty_block m fid at)) ≡ true →
          NamesByte new fid u at
      so_names u at e =
          let p = and_parts (is_wanted call size u at) (not (in_dirty_block m fid at)) e in
          let q = and_parts (beq update u) (has_byte span at) (sym (wanted_is u at) ∙ p.0) in
          let r = in_any (λ (t : Span). has_byte t at) adds.added (adds.bytes at
          ∙ and_from (has_byte span at) (not (in_dirty_block m fid at)) q.1 p.1) in (
            r.0,
            subst (λ (b : Bool). In (record { fid = fid; kind = Bytes b r.0 }) new) (beq_is update u q.0)
                (to_bytes (record { fid = fid; kind = Bytes update r.0 }) (bytes_in adds.added r.0 r.1)),
            r.2,
          )

      status_new : (b : Bool) → In (record { fid = fid; kind = Status b }) new
          ↔ In (record { fid = fid; kind = Status b }) (front_of front)
      status_new b = (
        λ i. elim (of_new (record { fid = fid; kind = Status b }) i) [
          | inl a ↦ a
          | inr c ↦ (let r = in_bytes adds.added (record { fid = fid; kind = Status b }) c in
              absurd (differ r.0 (ap (λ (n : Need). n.kind) r.2)))
        ],
        to_front (record { fid = fid; kind = Status b }),
      )
        where
          differ : (x : Span) → Status b ≡ Bytes update x → ⊥
          differ x e = absurd (cc)

      pub asks_bytes : AsksFile m call fid size new
      asks_bytes = record {
        only = only_new;
        bytes = λ u at. (names_so u at, so_names u at);
        updates = (
          λ i. (front_updates front s).0 ((status_new true).0 i),
          λ p. (status_new true).1 ((front_updates front s).1 p),
        );
        shows = (
          λ i. (front_shows front s).0 ((status_new false).0 i),
          λ p. (status_new false).1 ((front_shows front s).1 p),
        );
      }

-- ---- what a Fetch asks for
module _ (m : Tables) (call : Call) (fid : Fid) (asked : List Need) where
  pub fetch_whole : (fid ≡ root_of fid.fileset) → asked ≡ status_need fid ∷ whole_need fid ∷ [] →
      FetchFrom m m.lost call fid asked
  fetch_whole root is = OfRoot root is

  pub fetch_unknown : (fid ≡ root_of fid.fileset → ⊥) → (Covers (held_of m) (status_need fid) → ⊥) →
      asked ≡ status_need fid ∷ [] → FetchFrom m m.lost call fid asked
  fetch_unknown root none is = OfNone root none is

  seen_dir : (o : Option Nature) → is_directory o ≡ true → (nature : Nature) × (o ≡ Some nature) × (nature.dir ≡ true)
  seen_dir None e = absurd (cc)
  seen_dir (Some nature) e = (nature, refl, e)

  pub fetch_known : Covers (held_of m) (status_need fid) → is_directory (content m.cache fid Traits) ≡ true →
      asked ≡ status_need fid ∷ whole_need fid ∷ [] → FetchFrom m m.lost call fid asked
  fetch_known covered dir is =
      let r = seen_dir (content m.cache fid Traits) dir in OfKnown r.0 covered r.1 r.2 is

  no_dir : is_directory (content m.cache fid Traits) ≡ false → (nature : Nature) →
      content m.cache fid Traits ≡ Some nature → nature.dir ≡ true → ⊥
  no_dir e nature is dir =
      let k = sym (ap is_directory is) ∙ e in absurd (both nature.dir dir k)
    where
      both : (b : Bool) → b ≡ true → b ≡ false → ⊥
      both b e k = absurd (cc)

  pub fetch_plain : (fid ≡ root_of fid.fileset → ⊥) → Covers (held_of m) (status_need fid) →
      is_directory (content m.cache fid Traits) ≡ false → AsksFile m call fid (content m.cache fid Size) asked →
      (need : Need) → IsLack m call need → need.fid ≡ fid → (IsUseKind need.kind → ⊥) →
      FetchFrom m m.lost call fid asked
  fetch_plain root covered dir asks need lack is plain =
      OfPlain root covered (no_dir dir) (file_from m fid call (needs_from m call) asked (content m.cache fid Size)
      (subst (λ (f : Fid). NeedsOf call (needs_from m call) f (content m.cache f Size)) is
      (call_wants (held_of m) (content m.cache) need plain
      (subst (λ (f : Fid). Covers (held_of m) (status_need f)) (sym is) covered)
      (λ d. no_dir dir d.0 (subst (λ (f : Fid). content m.cache f Traits ≡ Some d.0) is d.1) d.2)
      (own_of m) m.host m.user call lack)) asks)
