-- What is dirty under tokens.
use Rattle.std.proofs.Common.{Bool, List, None, Option, Some, [], ap, arith, cond, false, filter, inl, inr, is_some}
use Rattle.std.proofs.Common.{max, min, nat_lt, not, refl, subst, sym, true}
use Rattle.std.proofs.Common.{ℕ, ◌&&◌, ◌<◌, ◌||◌, ◌∙◌, ◌∷◌, ◌≡◌, ◌≤◌, ◌⊎◌}
use Rattle.std.specs.List.{list_any}
use Rattle.std.specs.Option.{option_map_or}
use Rattle.std.proofs.lemmas.Bool.{and_from, and_parts, lt-ltb, ltb-true, or_cases}
use Rattle.base_types.specs.Ids.{same_fid}
use Rattle.base_types.specs.Spans.{has_byte, in_spans, overlap}
use Rattle.base_types.specs.declared.ids.Fid.{Fid}
use Rattle.base_types.specs.declared.span.Span.{Span}
use Rattle.host_cache.specs.Files.{file_key}
use Rattle.host_cache.specs.Holding.{tokens_of}
use Rattle.host_cache.specs.Seen.{of_key}
use Rattle.host_cache.specs.declared.held.Held.{Held}
use Rattle.host_dirty.specs.Dirtiness.{is_dirty, spans_of}
use Rattle.host_gives.specs.Giving.{names}
use Rattle.run_rules.specs.Past.{In}
use Rattle.token_types.specs.declared.token.Kind.{Kind}
use Rattle.token_types.specs.declared.token.Kind.TheVariants.{Bytes, Lock, Opening, Status}
use Rattle.token_types.specs.declared.token.Token.{Token}
use Rattle.host_tables.specs.Tables.{held_of, updates_status}
use Rattle.host_tables.specs.declared.tables.Tables.{Tables}
use Rattle.host_tables.proofs.Lists.{any_in, in_any, in_filter, filter_in}
use Rattle.host_tables.proofs.Lists.{in_map, map_in, or_left, or_right, same_fid_is}
use Rattle.host_leaves.specs.Dirtying.{is_dirty_left, is_dirty_under, tokens_at, updates_byte}
use Rattle.host_leaves.specs.Giving.{AreCovered, AreDirty, AreGiven, HasToGive, IsDirtyLeft, IsDirtyUnder, has_to_give}
use Rattle.host_leaves.specs.Owning.{dirty_length, update_span}
use Rattle.host_leaves.proofs.Spans.{has_from, has_parts}

-- a test among the tokens of a file, and among all
pub any_at_file : (test : Token → Bool) (fid : Fid) (held : List Held) →
    list_any (λ token. same_fid token.fid fid && test token) (tokens_of held)
    ≡ list_any test (tokens_of (of_key (file_key fid) held))
any_at_file test fid [] = refl
any_at_file test fid (h ∷ held) = by_test (any_at_file test fid held) (same_fid h.token.fid fid)
  where
    by_test : list_any (λ token. same_fid token.fid fid && test token) (tokens_of held)
        ≡ list_any test (tokens_of (of_key (file_key fid) held)) → (b : Bool) →
        ((b && test h.token) || list_any (λ token. same_fid token.fid fid && test token) (tokens_of held))
        ≡ list_any test (tokens_of (cond b (h ∷ of_key (file_key fid) held) (of_key (file_key fid) held)))
    by_test rest true = ap (λ t. test h.token || t) rest
    by_test rest false = rest

-- the tokens of a file are held, and are its
pub at_file : (m : Tables) (fid : Fid) (token : Token) → In token (tokens_at m fid) →
    In token (held_of m) × (token.fid ≡ fid)
at_file m fid token here =
    let r = in_map (λ (h : Held). h.token) (of_key (file_key fid) m.cache.held) token here in
    let h = r.0 in
    let k = in_filter (λ (h : Held). same_fid h.token.fid fid) m.cache.held h r.1 in (
      own h k.0 (sym r.2),
      ap (λ (t : Token). t.fid) r.2 ∙ same_fid_is h.token.fid fid k.1,
    )
  where
    own : (h : Held) → In h m.cache.held → h.token ≡ token → In token (held_of m)
    own h k e = subst (λ t. In t (held_of m)) e (map_in (λ (h : Held). h.token) m.cache.held h k)

-- something is dirty under a token where a dirty byte is that it is for changing, or the length
abbrev pub HasDirty : (ℕ → Bool) → Option ℕ → Token → Type 0
HasDirty dirty length token = ((at : ℕ) × (dirty at ≡ true) × (updates_byte at token ≡ true))
    ⊎ ((updates_status token.kind ≡ true) × (is_some length ≡ true))

module _ (spans : List Span) (length : Option ℕ) (token : Token) where
  abbrev under : Kind → Bool
  under kind =
      option_map_or (λ span. list_any (λ other. overlap other span) spans) (update_span kind)
      (updates_status kind && is_some length)

  abbrev has : ℕ → Kind → Bool
  has at kind = option_map_or (λ span. has_byte span at) (update_span kind) false

  abbrev Why : Kind → Type 0
  Why kind = ((at : ℕ) × (in_spans spans at ≡ true) × (has at kind ≡ true))
      ⊎ ((updates_status kind ≡ true) × (is_some length ≡ true))

  why : (kind : Kind) → under kind ≡ true → Why kind
  why (Bytes true span) h =
      let r = in_any (λ other. overlap other span) spans h in
      let other = r.0 in
      let k = ltb-true (max other.from span.from) (min other.to span.to) r.2 in
      inl (
        max other.from span.from,
        any_in (λ s. has_byte s (max other.from span.from)) spans other r.1
            (has_from other (max other.from span.from) (omega arith) (omega (arith, k))),
        has_from span (max other.from span.from) (omega arith) (omega (arith, k)),
      )
  why (Bytes false span) h = absurd (cc)
  why (Status update) h = inr (and_parts update (is_some length) h)
  why (Lock writing span) h = absurd (cc)
  why (Opening kind) h = absurd (cc)

  so : (kind : Kind) → Why kind → under kind ≡ true
  so (Bytes true span) (inl w) =
      let at = w.0 in
      let r = in_any (λ s. has_byte s at) spans w.1 in
      let other = r.0 in
      let p = has_parts other at r.2 in
      let q = has_parts span at w.2 in
      any_in (λ other. overlap other span) spans other r.1
      (lt-ltb (max other.from span.from) (min other.to span.to) (omega (arith, p.0, p.1, q.0, q.1)))
  so (Bytes true span) (inr w) = absurd (let x = w.0 in cc)
  so (Bytes false span) (inl w) = absurd (let x = w.2 in cc)
  so (Bytes false span) (inr w) = absurd (let x = w.0 in cc)
  so (Status update) (inl w) = absurd (let x = w.2 in cc)
  so (Status update) (inr w) = and_from update (is_some length) w.0 w.1
  so (Lock writing span) (inl w) = absurd (let x = w.2 in cc)
  so (Lock writing span) (inr w) = absurd (let x = w.0 in cc)
  so (Opening kind) (inl w) = absurd (let x = w.2 in cc)
  so (Opening kind) (inr w) = absurd (let x = w.0 in cc)

  pub dirty_why : is_dirty_under spans length token ≡ true → HasDirty (in_spans spans) length token
  dirty_why h = why token.kind h

  pub dirty_so : HasDirty (in_spans spans) length token → is_dirty_under spans length token ≡ true
  dirty_so h = so token.kind h

-- the tokens of a file under which something is dirty
pub are_dirty : (m : Tables) (fid : Fid) (held : List Token) (spans : List Span) (length : Option ℕ) →
    held ≡ tokens_at m fid → spans ≡ spans_of m.dirty fid → length ≡ dirty_length m fid →
    AreDirty m fid (filter (is_dirty_under spans length) held)
are_dirty m fid held spans length e f g =
    subst (λ x. AreDirty m fid (filter (is_dirty_under spans length) x)) (sym e)
    (subst (λ x. AreDirty m fid (filter (is_dirty_under x length) (tokens_at m fid))) (sym f)
    (subst (λ x. AreDirty m fid (filter (is_dirty_under (spans_of m.dirty fid) x) (tokens_at m fid))) (sym g)
    (here m fid)))
  where
    here : (m : Tables) (fid : Fid) →
        AreDirty m fid (filter (is_dirty_under (spans_of m.dirty fid) (dirty_length m fid)) (tokens_at m fid))
    here m fid =
        let test = is_dirty_under (spans_of m.dirty fid) (dirty_length m fid) in
        record {
          test = test;
          some = refl;
          from = λ token h. let r = in_filter test (tokens_at m fid) token h in
              (r.0, dirty_why (spans_of m.dirty fid) (dirty_length m fid) token r.1);
          all = λ token h w. filter_in test (tokens_at m fid) token h
              (dirty_so (spans_of m.dirty fid) (dirty_length m fid) token w);
        }

-- those of some tokens that leave which a give-back has to name
pub are_given : (m : Tables) (fid : Fid) (leaving : List Token) (spans : List Span) (length : Option ℕ) →
    ((at : ℕ) → in_spans spans at ≡ is_dirty_left m fid leaving at) → length ≡ dirty_length m fid →
    AreGiven m fid leaving (filter (has_to_give m.gives.gives spans length) leaving)
are_given m fid leaving spans length e f = record {
  test = has_to_give m.gives.gives spans length;
  some = refl;
  has = λ token here h. gives token h;
  why = λ token here h. told token h;
}
  where
    gives : (token : Token) → HasToGive m fid leaving token → has_to_give m.gives.gives spans length token ≡ true
    gives token (inl a) = or_left (list_any (names token.id) m.gives.gives) (is_dirty_under spans length token) a
    gives token (inr (inl w)) =
        or_right (list_any (names token.id) m.gives.gives) (is_dirty_under spans length token)
        (dirty_so spans length token (inl (w.0, e w.0 ∙ w.1, w.2)))
    gives token (inr (inr w)) =
        or_right (list_any (names token.id) m.gives.gives) (is_dirty_under spans length token)
        (dirty_so spans length token (inr (w.0, ap is_some f ∙ w.1)))

    by_dirty : (token : Token) → HasDirty (in_spans spans) length token → HasToGive m fid leaving token
    by_dirty token (inl w) = inr (inl (w.0, sym (e w.0) ∙ w.1, w.2))
    by_dirty token (inr w) = inr (inr (w.0, sym (ap is_some f) ∙ w.1))

    told : (token : Token) → has_to_give m.gives.gives spans length token ≡ true → HasToGive m fid leaving token
    told token h =
        elim (or_cases (list_any (names token.id) m.gives.gives) (is_dirty_under spans length token) h) [
          | inl a ↦ inl a
          | inr b ↦ by_dirty token (dirty_why spans length token b)
        ]

pub dirty_covered : (m : Tables) (fid : Fid) (tokens : List Token) → AreDirty m fid tokens → AreCovered m fid tokens
dirty_covered m fid tokens h token i = at_file m fid token (h.from token i).0

-- a part of the tokens is held as all are
pub part_covered : (m : Tables) (fid : Fid) (tokens giving : List Token) → AreCovered m fid tokens →
    AreGiven m fid tokens giving → AreCovered m fid giving
part_covered m fid tokens giving held h token i =
    held token (in_filter h.test tokens token (subst (In token) h.some i)).0
