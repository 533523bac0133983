-- What an answered call changes of the host's own.
use Rattle.std.specs.Coded.{le_prop}
use Rattle.std.proofs.Common.{◌≡◌, ◌≤◌, ◌==◌, ◌&&◌, ◌||◌, ◌∙◌, Bool, IsTrue, List, None}
use Rattle.std.proofs.Common.{Some, []}
use Rattle.std.proofs.Common.{All, ap, cond, eqb-true, false, filter, inl, inr, not, refl, subst}
use Rattle.std.proofs.Common.{sym}
use Rattle.std.proofs.Common.{true, ℕ, ◌∷◌}
use Rattle.std.proofs.lemmas.Bool.{and_from, and_parts, eq-eqb}
use Rattle.std.proofs.lemmas.List.Elements.{All-head, All-tail}
use Rattle.host_tables.proofs.Lists.{same_fid_is}
use Rattle.std.specs.Bool.{beq}
use Rattle.std.specs.List.{find, list_any}
use Rattle.base_types.specs.Ids.{same_fid}
use Rattle.base_types.specs.declared.ids.Fid.{Fid}
use Rattle.base_types.specs.declared.ids.OpenKind.{OpenKind}
use Rattle.base_types.specs.declared.ids.OpenKind.TheVariants.{Exclusive, Executing, Reading, Shared, Writing}
use Rattle.base_types.specs.declared.limits.TheConstants.{FILE_BYTES_MAX}
use Rattle.base_types.specs.declared.span.Span.{Span}
use Rattle.host_cache.specs.Files.{file_key, same_key}
use Rattle.host_cache.specs.Holding.{tokens_of}
use Rattle.host_cache.specs.declared.held.Held.{Held}
use Rattle.host_calls.specs.Answering.{same_use}
use Rattle.host_labels.specs.Labels.{InUse, IsSound, after_drop, has_id, is_labelled, use_of, without_label}
use Rattle.host_labels.specs.declared.uses.Labelled.{Labelled as UseOf}
use Rattle.host_leaves.specs.Dirtying.{tokens_at}
use Rattle.host_tables.specs.Tables.{held_of}
use Rattle.host_tables.specs.declared.tables.Tables.{Tables}
use Rattle.run_rules.specs.Past.{In}
use Rattle.run_rules.specs.Tokens.{IsUseKind}
use Rattle.token_types.specs.Covers.{Covers, covers_alone, kind_covers, same_opening, same_span}
use Rattle.token_types.specs.declared.token.Kind.{Kind}
use Rattle.token_types.specs.declared.token.Kind.TheVariants.{Bytes, Lock, Opening, Status}
use Rattle.token_types.specs.declared.token.Token.{Token}
use Rattle.token_types.specs.declared.token.TokenId.{TokenId}

-- ---- the exact token of a file
pub in_tokens : (held : List Held) (token : Token) (key : (fid : Fid) → Bool) → In token (tokens_of (filter (λ (h :
    Held).
    key h.token.fid) held)) → In token (tokens_of held) × (key token.fid ≡ true)
in_tokens [] token key i = elim i [ ]
in_tokens (h ∷ held) token key i = by_test (in_tokens held token key) (key h.token.fid) refl i
  where
    by_test : (In token (tokens_of (filter (λ (o : Held). key o.token.fid) held)) →
        In token (tokens_of held) × (key token.fid ≡ true)) → (b : Bool) → key h.token.fid ≡ b →
        In token (tokens_of (cond b (h ∷ filter (λ (o : Held). key o.token.fid) held)
        (filter (λ (o : Held). key o.token.fid) held))) → In token (tokens_of (h ∷ held)) × (key token.fid ≡ true)
    by_test go true e (inl is) = (inl is, ap (λ (t : Token). key t.fid) is ∙ e)
    by_test go true e (inr rest) = let r = go rest in (inr r.0, r.1)
    by_test go false e rest = let r = go rest in (inr r.0, r.1)

pub tokens_in : (held : List Held) (token : Token) (key : (fid : Fid) → Bool) → In token (tokens_of held) →
    key token.fid ≡ true → In token (tokens_of (filter (λ (h : Held). key h.token.fid) held))
tokens_in [] token key i k = elim i [ ]
tokens_in (h ∷ held) token key i k = by_test (λ j. tokens_in held token key j k) (key h.token.fid) refl i
  where
    by_test : (In token (tokens_of held) → In token (tokens_of (filter (λ (o : Held). key o.token.fid) held))) →
        (b : Bool) → key h.token.fid ≡ b → In token (tokens_of (h ∷ held)) →
        In token (tokens_of (cond b (h ∷ filter (λ (o : Held). key o.token.fid) held)
        (filter (λ (o : Held). key o.token.fid) held)))
    by_test go true e (inl is) = inl is
    by_test go true e (inr rest) = inr (go rest)
    by_test go false e (inl is) = absurd (differ (key h.token.fid) e (ap (λ (t : Token). key t.fid) (sym is) ∙ k))
      where
        differ : (b : Bool) → b ≡ false → b ≡ true → ⊥
        differ b e k = absurd (cc)
    by_test go false e (inr rest) = go rest

pub key_is : (a b : Fid) → same_key (file_key a) (file_key b) ≡ true → a ≡ b
key_is a b e =
    let p = and_parts (same_key_first a b) (a.unique == b.unique) e in
    let q = and_parts (a.fileset.0 == b.fileset.0) (a.anode == b.anode) p.0 in
    let x = eqb-true a.fileset.0 b.fileset.0 q.0 in
    let y = eqb-true a.anode b.anode q.1 in
    let z = eqb-true a.unique b.unique p.1 in
    λ i. record { fileset = record { 0 = x i }; anode = y i; unique = z i }
  where
    same_key_first : Fid → Fid → Bool
    same_key_first a b = (a.fileset.0 == b.fileset.0) && (a.anode == b.anode)

is_key : (fid : Fid) → same_key (file_key fid) (file_key fid) ≡ true
is_key fid =
    and_from ((fid.fileset.0 == fid.fileset.0) && (fid.anode == fid.anode)) (fid.unique == fid.unique)
    (and_from (fid.fileset.0 == fid.fileset.0) (fid.anode == fid.anode) (eq-eqb fid.fileset.0 fid.fileset.0 refl)
    (eq-eqb fid.anode fid.anode refl)) (eq-eqb fid.unique fid.unique refl)

pub key_of : (a b : Fid) → a ≡ b → same_key (file_key a) (file_key b) ≡ true
key_of a b e = subst (λ (f : Fid). same_key (file_key a) (file_key f) ≡ true) e (is_key a)

beq_is : (a b : Bool) → beq a b ≡ true → a ≡ b
beq_is true true e = refl
beq_is false false e = refl
beq_is true false e = absurd (cc)
beq_is false true e = absurd (cc)

abbrev made_span : (from to : ℕ) → from ≤ to → to ≤ FILE_BYTES_MAX → Span
made_span from to o w = record { from = from; to = to; ordered = o; within = w }

one_span : (from to : ℕ) (o p : from ≤ to) (w v : to ≤ FILE_BYTES_MAX) → made_span from to o w ≡ made_span from to p v
one_span from to o p w v =
    let a : o ≡ p = le_prop o p in
    let b : w ≡ v = le_prop w v in
    λ i. made_span from to (a i) (b i)

span_is : (a b : Span) → same_span a b ≡ true → a ≡ b
span_is a b e =
    let p = and_parts (a.from == b.from) (a.to == b.to) e in
    let f = eqb-true a.from b.from p.0 in
    let t = eqb-true a.to b.to p.1 in
    subst (λ (x : ℕ × ℕ). (o : x.0 ≤ x.1) (w : x.1 ≤ FILE_BYTES_MAX) → a ≡ made_span x.0 x.1 o w) (λ i. (f i, t i))
    (λ o w. one_span a.from a.to a.ordered o a.within w) b.ordered b.within

opening_is : (a b : OpenKind) → same_opening a b ≡ true → a ≡ b
opening_is Reading Reading e = refl
opening_is Writing Writing e = refl
opening_is Executing Executing e = refl
opening_is Shared Shared e = refl
opening_is Exclusive Exclusive e = refl
opening_is a b e = absurd (cc)

use_is : (a b : Kind) → same_use a b ≡ true → a ≡ b
use_is (Lock writing span) (Lock other its) e =
    let p = and_parts (beq writing other) (same_span span its) e in
    let x = beq_is writing other p.0 in
    let y = span_is span its p.1 in
    λ i. Lock (x i) (y i)
use_is (Opening kind) (Opening other) e = ap Opening (opening_is kind other e)
use_is a b e = absurd (cc)

covers_same : (a b : Kind) → IsUseKind b → kind_covers a b ≡ same_use a b
covers_same (Lock writing span) (Lock other its) given = refl
covers_same (Opening kind) (Opening other) given = refl
covers_same (Opening kind) (Lock other its) given = refl
covers_same (Lock writing span) (Opening other) given = refl
covers_same (Bytes update span) (Lock other its) given = refl
covers_same (Bytes update span) (Opening other) given = refl
covers_same (Status update) (Lock other its) given = refl
covers_same (Status update) (Opening other) given = refl
covers_same a (Bytes update span) given = elim given [ ]
covers_same a (Status update) given = elim given [ ]

find_in : (test : Token → Bool) (xs : List Token) (token : Token) → find test xs ≡ Some token →
    In token xs × (test token ≡ true)
find_in test [] token e = absurd (cc)
find_in test (x ∷ xs) token e = by_test (find_in test xs token) (test x) refl e
  where
    by_test : (find test xs ≡ Some token → In token xs × (test token ≡ true)) → (b : Bool) → test x ≡ b →
        cond (test x) (Some x) (find test xs) ≡ Some token → In token (x ∷ xs) × (test token ≡ true)
    by_test go true is k =
        let same : x ≡ token = found (test x) is k in (inl (sym same), ap test (sym same) ∙ is)
      where
        found : (b : Bool) → b ≡ true → cond b (Some x) (find test xs) ≡ Some token → x ≡ token
        found true is k = cc
        found false is k = absurd (cc)
    by_test go false is k =
        let r = go (sym (ap (λ b. cond b (Some x) (find test xs)) is) ∙ k) in (inr r.0, r.1)

find_none : (test : Token → Bool) (xs : List Token) → find test xs ≡ None → (token : Token) → In token xs →
    test token ≡ true → ⊥
find_none test [] e token i k = elim i [ ]
find_none test (x ∷ xs) e token i k = by_test (λ h j. find_none test xs h token j k) (test x) refl e i
  where
    by_test : (find test xs ≡ None → In token xs → ⊥) → (b : Bool) → test x ≡ b →
        cond b (Some x) (find test xs) ≡ None → In token (x ∷ xs) → ⊥
    by_test go true is h j = absurd (cc)
    by_test go false is h (inl same) = differ (test x) is (ap test (sym same) ∙ k)
      where
        differ : (b : Bool) → b ≡ false → b ≡ true → ⊥
        differ b e k = absurd (cc)
    by_test go false is h (inr rest) = go h rest

any_token : (test : Token → Bool) (xs : List Token) → list_any test xs ≡ true → (token : Token) × In token xs
    × (test token ≡ true)
any_token test [] e = absurd (cc)
any_token test (x ∷ xs) e = by_test (any_token test xs) (test x) refl
  where
    by_test : (list_any test xs ≡ true → (token : Token) × In token xs × (test token ≡ true)) → (b : Bool) →
        test x ≡ b → (token : Token) × In token (x ∷ xs) × (test token ≡ true)
    by_test go true is = (x, inl refl, is)
    by_test go false is =
        let r = go (sym (ap (λ b. b || list_any test xs) is) ∙ e) in (r.0, inr r.1, r.2)

module _ (m : Tables) (fid : Fid) (kind : Kind) where
  abbrev key_test : Fid → Bool
  key_test other = same_key (file_key other) (file_key fid)

  pub exact_is : (token : Token) → find (λ (t : Token). same_use t.kind kind) (tokens_at m fid) ≡ Some token →
      In token (held_of m) × (token.fid ≡ fid) × (token.kind ≡ kind)
  exact_is token e =
      let found = find_in (λ (t : Token). same_use t.kind kind) (tokens_at m fid) token e in
      let held = in_tokens m.cache.held token key_test found.0 in
      (held.0, key_is token.fid fid held.1, use_is token.kind kind found.1)

  pub exact_there : IsUseKind kind → Covers (held_of m) (record { fid = fid; kind = kind }) →
      find (λ (t : Token). same_use t.kind kind) (tokens_at m fid) ≡ None → ⊥
  exact_there given covered e =
      let r = any_token (covers_alone fid kind) (held_of m) (alone kind given covered) in
      let p = and_parts (same_fid r.0.fid fid) (kind_covers r.0.kind kind) r.2 in
      find_none (λ (t : Token). same_use t.kind kind) (tokens_at m fid) e r.0
      (tokens_in m.cache.held r.0 key_test r.1 (key_same r.0.fid p.0))
      (sym (covers_same r.0.kind kind given) ∙ p.1)
    where
      alone : (k : Kind) → IsUseKind k → Covers (held_of m) (record { fid = fid; kind = k }) →
          list_any (covers_alone fid k) (held_of m) ≡ true
      alone (Lock writing span) given h = h
      alone (Opening o) given h = h
      alone (Bytes update span) given h = elim given [ ]
      alone (Status update) given h = elim given [ ]

      key_same : (other : Fid) → same_fid other fid ≡ true → key_test other ≡ true
      key_same other h = key_of other fid (same_fid_is other fid h)

-- ---- where a label isn't in use, dropping it changes nothing
none_dropped : (lock : Bool) (label : List ℕ) (labels : List UseOf) → find (is_labelled lock label) labels ≡ None →
    without_label lock label labels ≡ labels
none_dropped lock label [] e = refl
none_dropped lock label (u ∷ labels) e =
    by_test (none_dropped lock label labels) (is_labelled lock label u) refl e
  where
    by_test : (find (is_labelled lock label) labels ≡ None → without_label lock label labels ≡ labels) → (b : Bool) →
        is_labelled lock label u ≡ b → cond b (Some u) (find (is_labelled lock label) labels) ≡ None →
        without_label lock label (u ∷ labels) ≡ u ∷ labels
    by_test go true is h = absurd (cc)
    by_test go false is h =
        ap (λ b. cond (not b) (u ∷ without_label lock label labels) (without_label lock label labels)) is
        ∙ ap (λ xs. u ∷ xs) (go h)

pins_kept : (labels : List UseOf) (pinned : List TokenId) → All (λ id. IsTrue (has_id labels id)) pinned →
    filter (has_id labels) pinned ≡ pinned
pins_kept labels [] all = refl
pins_kept labels (id ∷ pinned) all =
    ap (λ b. cond b (id ∷ filter (has_id labels) pinned) (filter (has_id labels) pinned)) (All-head (λ id. IsTrue
    (has_id labels id)) id pinned all)
    ∙ ap (λ xs. id ∷ xs) (pins_kept labels pinned (All-tail (λ id. IsTrue (has_id labels id)) id pinned all))

pub drop_none : (uses : InUse) (lock : Bool) (label : List ℕ) → IsSound uses → use_of uses lock label ≡ None →
    after_drop uses lock label ≡ uses
drop_none uses lock label sound none =
    let labels = none_dropped lock label uses.labels none in
    let pins = ap (λ (ls : List UseOf). filter (has_id ls) uses.pinned) labels
    ∙ pins_kept uses.labels uses.pinned sound.pins in
    λ i. record { labels = labels i; pinned = pins i }
