-- A token under which something is dirty is evicted.
use Rattle.base_types.specs.Ids.{same_fid}
use Rattle.base_types.specs.declared.ids.Fid.{Fid}
use Rattle.base_types.specs.declared.ids.FilesetId.{FilesetId}
use Rattle.base_types.specs.declared.ids.ServerId.{ServerId}
use Rattle.host_cache.specs.Files.{file_key, same_key}
use Rattle.host_cache.specs.Holding.{IsOnce, is_idle, last_of as last_idle, tokens_of}
use Rattle.host_cache.specs.Seen.{Kept, after_drop, of_key, seen}
use Rattle.host_cache.specs.declared.held.Held.{Held}
use Rattle.host_calls.proofs.Owned.{key_is}
use Rattle.host_dirty.specs.Dirtiness.{is_dirty as is_dirty_in}
use Rattle.host_dirty.specs.declared.dirty.Dirty.{Dirty}
use Rattle.host_gives.proofs.Adding.{adds}
use Rattle.host_gives.specs.Counters.{last_of}
use Rattle.host_gives.specs.Giving.{IsSound as IsSoundGives, after_add, given_in, is_of, outstanding}
use Rattle.host_leaves.specs.Dirtying.{covers_left, is_named, staying, tokens_at, updates_byte}
use Rattle.host_leaves.specs.Giving.{AreLeft, leaves_by, leaving_by, with_length_of}
use Rattle.host_leaves.specs.Owning.{dirty_length}
use Rattle.host_manager.proofs.Evicting.{each_once, last_in, updated_by, updates_it}
use Rattle.host_manager.proofs.LeftBy.{all_stay}
use Rattle.host_manager.proofs.OnceSaid.{once_filtered}
use Rattle.host_tables.proofs.Dropping.{drops_alike}
use Rattle.host_tables.proofs.LeavingWhole.{own_leaves_right}
use Rattle.host_tables.proofs.Lists.{any_in, by_test, false_not, fid_same, filter_in, id_same, in_any, in_either}
use Rattle.host_tables.proofs.Lists.{in_filter, in_left, in_map, in_right, map_in, none_in, not_false, not_true}
use Rattle.host_tables.proofs.Lists.{or_left, same_fid_is, same_id_is, true_false, true_not}
use Rattle.host_tables.proofs.Outstanding.{found_in, found_some, outstanding_is}
use Rattle.host_tables.proofs.Updating.{reads_after}
use Rattle.host_tables.proofs.Using.{oldest_is_oldest}
use Rattle.host_tables.specs.Evicting.{IsWithout, is_other}
use Rattle.host_tables.specs.Giving.{GivesBack}
use Rattle.host_tables.specs.LeavingSteps.{LeavesRight, Left, with_left}
use Rattle.host_tables.specs.LeavingSteps.EndsBy.{EndsNone}
use Rattle.host_tables.specs.LeavingWhole.{OwnReason, SaysLeft, leaves_own}
use Rattle.host_tables.specs.LeavingWhole.OwnReason.{ToEvict}
use Rattle.host_tables.specs.LeavingWhole.SaysLeft.{OfGiven}
use Rattle.host_tables.specs.Letting.{Keeping}
use Rattle.host_tables.specs.Machine.{StepRight}
use Rattle.host_manager.specs.Running.{IsRunning}
use Rattle.host_tables.specs.Saying.{IsFirst}
use Rattle.host_tables.specs.Stands.{Stands}
use Rattle.host_tables.specs.Tables.{content, held_of, length_given, site_at}
use Rattle.host_gives.specs.declared.leavings.Leaving.{Leaving}
use Rattle.host_tables.specs.declared.tables.Tables.{Tables}
use Rattle.message_types.specs.Soundness.{PiecesRise}
use Rattle.message_types.specs.declared.giving.Give.{Give}
use Rattle.message_types.specs.declared.message.Body.{Body}
use Rattle.message_types.specs.declared.message.Body.TheVariants.{GiveBack}
use Rattle.std.specs.Option.{option_map_or}
use Rattle.message_types.specs.declared.message.Message.{Message}
use Rattle.run_rules.specs.HostTokens.{GivesByte, IsOldest, IsUnused, MayEvict}
use Rattle.run_rules.specs.Messages.{KeepsToken, ReturnsToken, SendsTo, home, stay_of}
use Rattle.run_rules.specs.Past.{EachOnce, In}
use Rattle.run_rules.specs.Steps.{limit_of}
use Rattle.run_rules.specs.Tokens.{Drops, IsKnown, IsOutstanding, Made, NoneOpen, TokenInUse, number_of}
use Rattle.run_rules.specs.Views.{UpdatesByte, byte_of}
use Rattle.run_rules.specs.declared.applied.Leave.{Leave}
use Rattle.run_rules.specs.declared.applied.Why.TheVariants.{Evicted}
use Rattle.run_rules.specs.declared.step.Cause.TheVariants.{Evict}
use Rattle.run_rules.specs.declared.step.Step.{Step}
use Rattle.script_lines.specs.declared.script.Script.{Script}
use Rattle.std.proofs.Common.{Bool, List, None, Option, Some, [], ap, arith, eq-eqb, eqb-true, false, filter}
use Rattle.std.proofs.Common.{if◌then◌else◌, inl, inr, is_some, length, map, not, refl, subst, suc, sym, true, zero}
use Rattle.std.proofs.Common.{ℕ, ◌&&◌, ◌++◌, ◌+◌, ◌<◌, ◌==◌, ◌||◌, ◌∙◌, ◌∷◌, ◌≡◌, ◌≤◌, ◌⊎◌}
use Rattle.std.proofs.lemmas.Bool.{and_from, and_parts}
use Rattle.std.proofs.lemmas.List.{length-map}
use Rattle.std.specs.List.{list_any}
use Rattle.token_types.specs.Conflicts.{same_id}
use Rattle.token_types.specs.declared.token.Token.{Token}
use Rattle.token_types.specs.declared.token.TokenId.{TokenId}
use Rattle.tree_laws.specs.Parts.Part.{ByteAt}
use Rattle.host_tables.proofs.Learning as learning_of

-- so many elements of a list, each once
front : {A : Type 0} (n : ℕ) (xs : List A) → n ≤ length xs → EachOnce xs → (ys : List A) × (length ys ≡ n) × EachOnce ys
    × ((y : A) → In y ys → In y xs)
front zero xs le once = ([], refl, tt, λ y i. elim i [ ])
front (suc n) [] le once = absurd (omega (arith, le))
front (suc n) (x ∷ xs) le once =
    let r = front n xs (omega (arith, le)) once.1 in
    (x ∷ r.0, ap suc r.1, ((λ i. once.0 (r.3 x i)), r.2), λ y i. elim i [ inl e ↦ inl e | inr j ↦ inr (r.3 y j) ])

pub of_body : (y : Message) (k : Give) (fs : FilesetId) → y.body ≡ GiveBack k → is_of fs y ≡ (k.fid.fileset.0 == fs.0)
of_body y k fs e =
    ap (λ (b : Body). option_map_or (λ (give : Give). give.fid.fileset.0 == fs.0) (given_in b) false) e

pub if_none : {A : Type 0} (b : Bool) (x y : A) → (if b then Some x else None) ≡ Some y → (b ≡ true) × (x ≡ y)
if_none true x y e = (refl, let q = e in cc)
if_none false x y e = absurd (cc)

-- what is dirty after the bytes are given
pub left_dirty : (dirty same covers has : Bool) → (dirty ≡ true → same ≡ true → has ≡ covers)
    → (dirty && not (same && covers))
    ≡ (dirty && not ((same && has) || false))
left_dirty false same covers has e = refl
left_dirty true false covers has e = refl
left_dirty true true true has e = ap (λ (b : Bool). not (b || false)) (sym (e refl refl))
left_dirty true true false has e = ap (λ (b : Bool). not (b || false)) (sym (e refl refl))

module _ (script : Script) (m : Tables) (past : List Step) (running : IsRunning script m past) (t : Token) (h : Held)
    (is_last : last_idle (filter is_idle m.cache.held) ≡ Some h) (h_is : h.token ≡ t) (within : In h m.cache.held)
    (free : m.call ≡ None)
    (many : m.limit < length (filter is_idle m.cache.held)) (once : IsOnce m.cache.held)
    (sound : IsSoundGives m.gives)
    (cache : Kept) (dirty : Dirty) (g : Give) (number : g.number ≡ last_of m.gives.counters t.fid.fileset + 1)
    (file : g.fid ≡ t.fid) (ids : g.ids ≡ t.id ∷ []) (pieces : AreLeft m t.fid (t ∷ []) (t ∷ []) g.pieces)
    (length_is : g.length ≡ dirty_length m t.fid) (no_end : g.ends ≡ None)
    (cleans : (other : Fid) (at : ℕ) → is_dirty_in dirty other at
    ≡ (is_dirty_in m.dirty other at && not (same_fid t.fid other && covers_left m t.fid (t ∷ []) (t ∷ []) at)))
    (shown : seen cache ≡ after_drop (seen m.cache) t.id) (message : Message) (body : message.body ≡ GiveBack g) where
  abbrev pub l : Left
  l = record {
    cache = cache;
    dirty = dirty;
    lengths = with_length_of g.fid g.number g.length m.lengths;
    uses = m.uses;
    gives = after_add m.gives message;
    leaving = m.leaving ++ leaving_by g.fid.fileset g.number t ∷ [];
    ending = m.ending;
  }

  stands : Stands script m past
  stands = running.rests.stands

  held : In t (held_of m)
  held = subst (λ (u : Token). In u (held_of m)) h_is (map_in (λ (x : Held). x.token) m.cache.held h within)

  without : IsWithout m.cache cache t.id
  without = drops_alike m.cache cache t.id shown stands.cache.tells stands.contents.zero

  -- the tokens that stay are the others
  pub kept_from : (u : Token) → In u (tokens_of cache.held) → In u (held_of m) × (u.id ≡ t.id → ⊥)
  kept_from u i =
      let k = in_map (λ (x : Held). x.token) cache.held u i in
      let q = in_filter (is_other t.id) m.cache.held k.0 (subst (λ (xs : List Held). In k.0 xs) without.held k.1) in (
        subst (λ (x : Token). In x (held_of m)) (sym k.2) (map_in (λ (x : Held). x.token) m.cache.held k.0 q.0),
        λ e. not_true (same_id k.0.token.id t.id) q.1
            (id_same k.0.token.id t.id (sym (ap (λ (x : Token). x.id) k.2) ∙ e)),
      )

  kept_to : (u : Token) → In u (held_of m) → (u.id ≡ t.id → ⊥) → In u (tokens_of cache.held)
  kept_to u i other =
      let k = in_map (λ (x : Held). x.token) m.cache.held u i in
      let q : not (same_id k.0.token.id t.id) ≡ true = true_not (same_id k.0.token.id t.id)
      (λ e. other (ap (λ (x : Token). x.id) k.2 ∙ same_id_is k.0.token.id t.id e)) in
      subst (λ (x : Token). In x (tokens_of cache.held)) (sym k.2) (map_in (λ (x : Held). x.token) cache.held k.0
      (subst (λ (xs : List Held). In k.0 xs) (sym without.held) (filter_in (is_other t.id) m.cache.held k.0 k.1 q)))

  same_or : (u : Token) → In u (held_of m) → (u ≡ t) ⊎ (u.id ≡ t.id → ⊥)
  same_or u i = elim (by_test (same_id u.id t.id)) [
    | inl e ↦ inl (stands.cache.once u t i held (same_id_is u.id t.id e))
    | inr n ↦ inr (λ e. true_false (same_id u.id t.id) (id_same u.id t.id e) n)
  ]

  -- # Bytes
  abbrev covers : ℕ → Bool
  covers at = covers_left m t.fid (t ∷ []) (t ∷ []) at

  has_covers : (at : ℕ) → is_dirty_in m.dirty t.fid at ≡ true → is_some (byte_of g.pieces at) ≡ covers at
  has_covers at e =
      ap (λ (o : Option ℕ). is_some o) (pieces.bytes at)
      ∙ ap (λ (b : Bool). is_some (if b && covers at then Some (content m.cache t.fid (ByteAt at)) else None)) e
      ∙ some_if (covers at)
    where
      some_if : (b : Bool) → is_some (if b then Some (content m.cache t.fid (ByteAt at)) else None) ≡ b
      some_if true = refl
      some_if false = refl

  -- one that stays is for changing the byte, or the give-back has it
  stays_for : (at : ℕ) → list_any (updates_byte at) (staying m t.fid (t ∷ [])) ≡ true
      → (u : Token) × In u (tokens_of cache.held) × UpdatesByte u t.fid at
  stays_for at e =
      let r = in_any (updates_byte at) (staying m t.fid (t ∷ [])) e in
      let q = in_filter (λ token. not (is_named (t ∷ []) token)) (tokens_at m t.fid) r.0 r.1 in
      let k = in_map (λ (x : Held). x.token) (of_key (file_key t.fid) m.cache.held) r.0 q.0 in
      let p = in_filter (λ (x : Held). same_key (file_key x.token.fid) (file_key t.fid)) m.cache.held k.0 k.1 in
      let at_file : r.0.fid ≡ t.fid = ap (λ (x : Token). x.fid) k.2 ∙ key_is k.0.token.fid t.fid p.1 in
      let was = subst (λ (x : Token). In x (held_of m)) (sym k.2)
      (map_in (λ (x : Held). x.token) m.cache.held k.0 p.0) in (
        r.0,
        kept_to r.0 was (λ same. not_true (is_named (t ∷ []) r.0) q.1
            (or_left (same_id t.id r.0.id) false (id_same t.id r.0.id (sym same)))),
        subst (λ (f : Fid). UpdatesByte r.0 f at) at_file (updates_it r.0 at r.2),
      )

  for_stays : (u : Token) (at : ℕ) → In u (tokens_of cache.held) → UpdatesByte u t.fid at
      → list_any (updates_byte at) (staying m t.fid (t ∷ [])) ≡ true
  for_stays u at i updates =
      let f = kept_from u i in
      let k = in_map (λ (x : Held). x.token) m.cache.held u f.0 in
      let at_file : k.0.token.fid ≡ t.fid = sym (ap (λ (x : Token). x.fid) k.2) ∙ updates.1 in
      let key : same_key (file_key k.0.token.fid) (file_key t.fid) ≡ true = fid_same k.0.token.fid t.fid at_file in
      let there = map_in (λ (x : Held). x.token) (of_key (file_key t.fid) m.cache.held) k.0
      (filter_in (λ (x : Held). same_key (file_key x.token.fid) (file_key t.fid)) m.cache.held k.0 k.1 key) in
      let at_u = subst (λ (x : Token). In x (tokens_at m t.fid)) (sym k.2) there in
      let unnamed : not (is_named (t ∷ []) u) ≡ true = true_not (is_named (t ∷ []) u) (λ e. named e f.1) in
      any_in (updates_byte at) (staying m t.fid (t ∷ [])) u
      (filter_in (λ token. not (is_named (t ∷ []) token)) (tokens_at m t.fid) u at_u unnamed)
      (updated_by u t.fid at updates)
    where
      named : is_named (t ∷ []) u ≡ true → (u.id ≡ t.id → ⊥) → ⊥
      named e other =
          let r = in_any (λ (x : Token). same_id x.id u.id) (t ∷ []) e in
          elim r.1 [
            | inl q ↦ other (sym (same_id_is r.0.id u.id r.2) ∙ ap (λ (x : Token). x.id) q)
            | inr n ↦ elim n [ ]
          ]

  covers_parts : (at : ℕ) → covers at ≡ true → (updates_byte at t ≡ true)
      × (not (list_any (updates_byte at) (staying m t.fid (t ∷ []))) ≡ true)
  covers_parts at e =
      let p = and_parts (list_any (updates_byte at) (t ∷ []))
      (not (list_any (updates_byte at) (staying m t.fid (t ∷ [])))) e in
      let r = in_any (updates_byte at) (t ∷ []) p.0 in (
        elim r.1 [
          | inl q ↦ subst (λ (x : Token). updates_byte at x ≡ true) q r.2
          | inr n ↦ elim n [ ]
        ],
        p.1,
      )

  -- # The step, with what it sends
  module _ (sent : List Message) (gives_only : (y : Message) → In y sent → y.body ≡ GiveBack g) where
    abbrev pub s : Step
    s = leaves_own m.host Evict (g ∷ []) (leaves_by Evicted t ∷ []) sent

    its : (k : Give) → In k (g ∷ []) → k ≡ g
    its k (inl e) = e
    its k (inr n) = elim n [ ]

    id_of : (k : Give) (i : TokenId) → In k (g ∷ []) → In i k.ids → i ≡ t.id
    id_of k i j n = elim (subst (λ (xs : List TokenId). In i xs) (ap (λ (x : Give). x.ids) (its k j) ∙ ids) n) [
      | inl e ↦ e
      | inr z ↦ elim z [ ]
    ]

    named_in : (k : Give) → In k (g ∷ []) → In t.id k.ids
    named_in k j = subst (λ (xs : List TokenId). In t.id xs) (sym (ap (λ (x : Give). x.ids) (its k j) ∙ ids))
        (inl refl)

    file_of : (k : Give) → In k (g ∷ []) → k.fid ≡ t.fid
    file_of k j = ap (λ (x : Give). x.fid) (its k j) ∙ file

    none_returned : (i : TokenId) → ReturnsToken s i → ⊥
    none_returned i r = let p = sym (gives_only r.4.0 r.4.1) ∙ r.4.5 in absurd (cc)

    none_kept : (i : TokenId) → KeepsToken s i → ⊥
    none_kept i k = let p = sym (gives_only k.4.0 k.4.1) ∙ k.4.5 in absurd (cc)

    dropped_is : (u : Token) → Drops s u → u ≡ t
    dropped_is u d = elim d.1 [ inl e ↦ sym d.2 ∙ ap (λ (x : Leave). x.token) e | inr n ↦ elim n [ ] ]

    last_added : (fs : FilesetId) → last_of l.gives.counters fs
        ≡ (if g.fid.fileset.0 == fs.0 then g.number else last_of m.gives.counters fs)
    last_added fs = subst (λ (x : Message). last_of (after_add m.gives x).counters fs
        ≡ (if g.fid.fileset.0 == fs.0 then g.number else last_of m.gives.counters fs))
        (λ i. record message { body = (sym body) i }) ((adds m.gives message g).last fs)

    last_here : last_of l.gives.counters g.fid.fileset ≡ g.number
    last_here = last_added g.fid.fileset
        ∙ ap (λ (b : Bool). if b then g.number else last_of m.gives.counters g.fid.fileset)
        (eq-eqb g.fid.fileset.0 g.fid.fileset.0 refl)

    fileset_is : g.fid.fileset ≡ t.fid.fileset
    fileset_is = ap (λ (f : Fid). f.fileset) file

    number_is_next : g.number ≡ last_of m.gives.counters g.fid.fileset + 1
    number_is_next = number ∙ ap (λ (fs : FilesetId). last_of m.gives.counters fs + 1) (sym fileset_is)

    last_cases : (fs : FilesetId) → (last_of l.gives.counters fs ≡ last_of m.gives.counters fs)
        ⊎ ((g.fid.fileset ≡ fs) × (last_of l.gives.counters fs ≡ g.number))
    last_cases fs = elim (by_test (g.fid.fileset.0 == fs.0)) [
      | inl e ↦
          let n = eqb-true g.fid.fileset.0 fs.0 e in
          inr (
            (λ i. record { 0 = n i }),
            last_added fs
                ∙ ap (λ (b : Bool). if b then g.number else last_of m.gives.counters fs) e,
          )
      | inr n ↦ inl (last_added fs ∙ ap (λ (b : Bool). if b then g.number else last_of m.gives.counters fs) n)
    ]

    length_of : (o : Option ℕ) → g.length ≡ o → (fid : Fid) → ((n : ℕ) → g.length ≡ Some n → g.fid ≡ fid → ⊥)
        → length_given (with_length_of g.fid g.number o m.lengths) fid ≡ length_given m.lengths fid
    length_of None e fid none = refl
    length_of (Some n) e fid none =
        let other : same_fid g.fid fid ≡ false = elim (by_test (same_fid g.fid fid)) [
          | inl q ↦ absurd (none n e (same_fid_is g.fid fid q))
          | inr q ↦ q
        ] in
        reads_after.lengths m.lengths (record { fid = g.fid; number = g.number; length = n; known = false }) fid
        ∙ ap (λ (b : Bool). if b then Some (record { fid = g.fid; number = g.number; length = n; known = false })
        else length_given m.lengths fid) other

    length_new : (o : Option ℕ) (n : ℕ) → o ≡ Some n
        → length_given (with_length_of g.fid g.number o m.lengths) g.fid
        ≡ Some (record { fid = g.fid; number = g.number; length = n; known = false })
    length_new None n e = absurd (cc)
    length_new (Some k) n e =
        let q : k ≡ n = cc in
        reads_after.lengths m.lengths (record { fid = g.fid; number = g.number; length = k; known = false }) g.fid
        ∙ ap (λ (b : Bool). if b then Some (record { fid = g.fid; number = g.number; length = k; known = false })
        else length_given m.lengths g.fid) (fid_same g.fid g.fid refl)
        ∙ ap (λ (z : ℕ). Some (record { fid = g.fid; number = g.number; length = z; known = false })) q

    right : LeavesRight m l past s
    right = record {
      stays = is_other t.id;
      held_is = without.held;
      content_is = without.content_is;
      beyond = without.beyond;
      dirty = λ fid at.
          cleans fid at
          ∙ left_dirty (is_dirty_in m.dirty fid at) (same_fid t.fid fid) (covers at) (is_some (byte_of g.pieces at))
          (λ d e. has_covers at (subst (λ (f : Fid). is_dirty_in m.dirty f at
          ≡ true) (sym (same_fid_is t.fid fid e)) d))
          ∙ ap (λ (f : Fid). is_dirty_in m.dirty fid at && not ((same_fid f fid && is_some (byte_of g.pieces at)) ||
          false))
          (sym file);
      length_new = λ k n i e.
          let q = its k i in
          subst (λ (x : Give). length_given l.lengths x.fid
          ≡ Some (record { fid = x.fid; number = x.number; length = n; known = false })) (sym q)
          (length_new g.length n (ap (λ (x : Give). x.length) (sym q) ∙ e));
      length_old = λ fid none. length_of g.length refl fid (λ n e at. none g (inl refl) (at, (n, e)));
      keeps_label = λ u. true;
      labels_are = all_stay m.uses.labels;
      label_kept = λ u i none. refl;
      label_gone = λ u e k i gives.
          let p = sym no_end ∙ ap (λ (x : Give). x.ends) (sym (its k i)) ∙ gives.1 in absurd (cc);
      pinned = λ i e. inl e;
      pins = λ u j e. elim e [ inl p ↦ p | inr k ↦ absurd (none_kept u.token.id k) ];
      gives_from = λ y i. elim (in_either m.gives.gives (message ∷ []) y i) [
        | inl j ↦ inl j
        | inr j ↦ elim j [ inl e ↦ inr (g, ap (λ (x : Message). x.body) e ∙ body, inl refl) | inr n ↦ elim n [ ] ]
      ];
      gives_old = λ y i. in_left m.gives.gives (message ∷ []) y i;
      gives_new = λ k i. (
        message,
        in_right m.gives.gives (message ∷ []) message (inl refl),
        body ∙ ap GiveBack (sym (its k i)),
      );
      last_up = λ fs. elim (last_cases fs) [
        | inl e ↦ omega (arith, e)
        | inr r ↦
            let q = ap (λ (z : FilesetId). last_of m.gives.counters z) r.0 in let e = r.1 in let n = number_is_next in
            omega (arith, q, e, n)
      ];
      last_new = λ k i. subst (λ (x : Give). x.number ≤ last_of l.gives.counters x.fid.fileset) (sym (its k i))
          (let e = last_here in omega (arith, e));
      last_is = λ fs. elim (last_cases fs) [ inl e ↦ inl e | inr r ↦ inr (g, inl refl, r.0, sym r.1) ];
      leaving_old = λ y i. in_left m.leaving (leaving_by g.fid.fileset g.number t ∷ []) y i;
      leaving_new = λ k u i j n.
          let same : u ≡ t = stands.cache.once u t j held (id_of k u.id i n) in
          let q = its k i in
          in_right m.leaving (leaving_by g.fid.fileset g.number t ∷ [])
          (record { fileset = k.fid.fileset; number = k.number; token = u })
          (inl (λ z. record { fileset = (q z).fid.fileset; number = (q z).number; token = same z }));
      leaving_from = λ y i. elim (in_either m.leaving (leaving_by g.fid.fileset g.number t ∷ []) y i) [
        | inl j ↦ inl j
        | inr j ↦ elim j [
          | inl e ↦ inr (
            g,
            inl refl,
            subst (λ (u : Token). In u (held_of m)) (sym (ap (λ (x : Leaving). x.token) e)) held,
            subst (λ (u : Token). In u.id g.ids) (sym (ap (λ (x : Leaving). x.token) e)) (named_in g (inl refl)),
            ap (λ (x : Leaving). x.fileset) e,
            ap (λ (x : Leaving). x.number) e,
          )
          | inr n ↦ elim n [ ]
        ]
      ];
      ends = EndsNone (λ k ends i e.
          let p = sym no_end ∙ ap (λ (x : Give). x.ends) (sym (its k i)) ∙ e in absurd (cc)) refl;
      labels = record { locks = stands.labels.locks; opens = stands.labels.opens };
    }

    keeping : Keeping m past s (tokens_of cache.held)
    keeping = record {
      were = λ u i. (kept_from u i).0;
      stay = λ u i. (
        (λ leaves. elim leaves [
          | inl makes ↦ (kept_from u i).1 (id_of makes.0 u.id makes.1 makes.2)
          | inr r ↦ none_returned u.id r
        ]),
        λ d. (kept_from u i).1 (ap (λ (x : Token). x.id) (dropped_is u d)),
      );
      gone = λ u i. elim (same_or u i) [
        | inl e ↦ inr (
          inl (g, inl refl, subst (λ (x : Token). In x.id g.ids) (sym e) (named_in g (inl refl))),
          (leaves_by Evicted t, inl refl, sym e),
        )
        | inr n ↦ inl (kept_to u i n)
      ];
      dropped = λ u d. subst (λ (x : Token). In x (held_of m)) (sym (dropped_is u d)) held;
    }

    idle : TokenInUse past t.id → ⊥
    idle u = stands.cache.unmarked h within
        (not_false h.in_use (in_filter is_idle m.cache.held h (last_in (filter is_idle m.cache.held) h is_last)).1)
        (subst (λ (x : Token). TokenInUse past x.id) (sym h_is) u)

    has_byte_of : (k : Give) (at x : ℕ) → In k (g ∷ []) → byte_of k.pieces at ≡ Some x
        → (is_dirty_in m.dirty k.fid at ≡ true) × (content m.cache k.fid (ByteAt at) ≡ x)
        × ((u : Token) × In u (held_of m) × In u.id k.ids × UpdatesByte u k.fid at)
        × ((u : Token) → In u (tokens_of cache.held) → UpdatesByte u k.fid at → ⊥)
    has_byte_of k at x i e =
        let q = its k i in
        let p = if_none (is_dirty_in m.dirty t.fid at && covers at) (content m.cache t.fid (ByteAt at)) x
        (sym (pieces.bytes at) ∙ ap (λ (z : Give). byte_of z.pieces at) (sym q) ∙ e) in
        let both = and_parts (is_dirty_in m.dirty t.fid at) (covers at) p.0 in
        let c = covers_parts at both.1 in
        subst (λ (f : Fid). (is_dirty_in m.dirty f at ≡ true) × (content m.cache f (ByteAt at) ≡ x)
        × ((u : Token) × In u (held_of m) × In u.id k.ids × UpdatesByte u f at)
        × ((u : Token) → In u (tokens_of cache.held) → UpdatesByte u f at → ⊥)) (sym (file_of k i)) (
          both.0,
          p.1,
          (t, held, named_in k i, updates_it t at c.0),
          λ u j updates. not_true (list_any (updates_byte at) (staying m t.fid (t ∷ []))) c.1 (for_stays u at j
              updates),
        )

    saves_byte : (u : Token) (fid : Fid) (at : ℕ) → is_dirty_in m.dirty fid at ≡ true → In u (held_of m)
        → UpdatesByte u fid at
        → ((w : Token) × In w (tokens_of cache.held) × UpdatesByte w fid at)
        ⊎ ((k : Give) × In k (g ∷ []) × GivesByte k fid at)
    saves_byte u fid at d i updates = elim (same_or u i) [
      | inr n ↦ inl (u, kept_to u i n, updates)
      | inl e ↦
          let f : t.fid ≡ fid = ap (λ (x : Token). x.fid) (sym e) ∙ updates.1 in
          let mine : UpdatesByte t t.fid at = subst (λ (x : Token). UpdatesByte x x.fid at) e
          (subst (λ (z : Fid). UpdatesByte u z at) (sym updates.1) updates) in
          let d_t = subst (λ (z : Fid). is_dirty_in m.dirty z at ≡ true) (sym f) d in
          subst (λ (z : Fid). ((w : Token) × In w (tokens_of cache.held) × UpdatesByte w z at)
          ⊎ ((k : Give) × In k (g ∷ []) × GivesByte k z at)) f (by_staying at d_t mine)
    ]
      where
        by_staying : (at : ℕ) → is_dirty_in m.dirty t.fid at ≡ true → UpdatesByte t t.fid at
            → ((w : Token) × In w (tokens_of cache.held) × UpdatesByte w t.fid at)
            ⊎ ((k : Give) × In k (g ∷ []) × GivesByte k t.fid at)
        by_staying at d mine = elim (by_test (list_any (updates_byte at) (staying m t.fid (t ∷ [])))) [
          | inl e ↦ inl (stays_for at e)
          | inr n ↦
              let c = and_from (list_any (updates_byte at) (t ∷ []))
              (not (list_any (updates_byte at) (staying m t.fid (t ∷ []))))
              (or_left (updates_byte at t) false (updated_by t t.fid at mine))
              (false_not (list_any (updates_byte at) (staying m t.fid (t ∷ []))) n) in
              inr (
                g,
                inl refl,
                (
                  file,
                  (
                    content m.cache t.fid (ByteAt at),
                    pieces.bytes at
                        ∙ ap (λ (b : Bool). if b then Some (content m.cache t.fid (ByteAt at)) else None)
                        (and_from (is_dirty_in m.dirty t.fid at) (covers at) d c),
                  ),
                ),
              )
        ]

    none_new : (k : Give) → IsOutstanding (s ∷ past) k → Made past k → IsOutstanding past k
    none_new k o made = record {
      made = made;
      unknown = λ z. o.unknown (inr z);
      first = λ w. o.first (
        w.0,
        inr w.1,
        w.2,
        w.3,
        λ z. w.4 (elim z [
          | inl learns ↦ absurd ((learning_of.teaches_nothing past s tt).none_learnt (number_of w.0) learns)
          | inr q ↦ q
        ]),
      );
    }

    module _ (due : outstanding m.gives t.fid.fileset ≡ None
        → SendsTo s (stay_of (s ∷ past) t.fid.fileset) (GiveBack g))
      where
        -- with one on its way already it isn't the first
        not_first : (y : Message) → outstanding m.gives t.fid.fileset ≡ Some y
            → (k : Give) × In y m.gives.gives × (y.body ≡ GiveBack k) × (k.fid.fileset ≡ g.fid.fileset)
            × (k.number < g.number) × Made past k × (IsKnown past k → ⊥)
        not_first y e =
            let r = outstanding_is m.gives sound t.fid.fileset y e in
            let i = (found_in (is_of t.fid.fileset) m.gives.gives y e).0 in
            let z = stands.gives.made y i in
            let q : GiveBack r.0 ≡ GiveBack z.0 = sym r.1 ∙ z.1 in
            let same : z.0 ≡ r.0 = cc in
            let made = subst (Made past) same z.2 in
            let up = stands.gives.last r.0 made in
            let up_t = subst (λ (fs : FilesetId). r.0.number ≤ last_of m.gives.counters fs) r.2 up in (
              r.0,
              i,
              r.1,
              r.2 ∙ sym fileset_is,
              omega (arith, up_t, number),
              made,
              λ k. z.3 (subst (IsKnown past) (sym same) k),
            )

        sends_it : (k : Give) → IsOutstanding (s ∷ past) k → (IsOutstanding past k → ⊥)
            → SendsTo s (stay_of (s ∷ past) k.fid.fileset) (GiveBack k)
        sends_it k o fresh = elim o.made [
          | inr made ↦ absurd (fresh (none_new k o made))
          | inl i ↦
              let q = its k i in
              subst (λ (x : Give). SendsTo s (stay_of (s ∷ past) x.fid.fileset) (GiveBack x)) (sym q)
              (subst (λ (fs : FilesetId). SendsTo s (stay_of (s ∷ past) fs) (GiveBack g)) (sym fileset_is)
              (due (by_one (outstanding m.gives t.fid.fileset) refl (subst (IsOutstanding (s ∷ past)) q o))))
        ]
          where
            by_one : (z : Option Message) → outstanding m.gives t.fid.fileset ≡ z → IsOutstanding (s ∷ past) g → z
                ≡ None
            by_one None e o = refl
            by_one (Some y) e o =
                let r = not_first y e in
                absurd (o.first (
                  r.0,
                  inr r.5,
                  r.3,
                  r.4,
                  λ z. r.6 (elim z [
                    | inl learns ↦ absurd ((learning_of.teaches_nothing past s tt).none_learnt (number_of r.0) learns)
                    | inr q ↦ q
                  ]),
                ))

        gives : GivesBack m past s (tokens_of cache.held)
        gives = record {
          names = λ k i e.
              let p : [] ≡ t.id ∷ [] = sym e ∙ ap (λ (x : Give). x.ids) (its k i) ∙ ids in absurd (cc);
          rise = λ k i. subst (λ (x : Give). PiecesRise x.pieces) (sym (its k i)) pieces.rise;
          ids = λ k i j n. (t, held, sym (id_of k i j n), sym (file_of k j));
          one = λ a b i j e. its a i ∙ sym (its b j);
          above = λ k i. subst (λ (x : Give). last_of m.gives.counters x.fid.fileset < x.number) (sym (its k i))
              (let n = number_is_next in omega (arith, n));
          next = λ k i. inl (subst (λ (x : Give). x.number ≡ last_of m.gives.counters x.fid.fileset + 1)
              (sym (its k i)) number_is_next);
          apart = λ a b i j e. its a i ∙ sym (its b j);
          has = λ k at x i e. has_byte_of k at x i e;
          saves = saves_byte;
          length_is = λ k i.
              ap (λ (x : Give). x.length) (its k i) ∙ length_is
              ∙ ap (dirty_length m) (sym (file_of k i));
          saves_length = λ u i e n. elim (same_or u i) [
            | inl q ↦ inr (
              g,
              inl refl,
              file ∙ ap (λ (x : Token). x.fid) (sym q),
              subst (λ (x : Token). In x.id g.ids) (sym q) (named_in g (inl refl)),
            )
            | inr other ↦ inl (kept_to u i other)
          ];
          ends = λ k ends i e.
              let p = sym no_end ∙ ap (λ (x : Give). x.ends) (sym (its k i)) ∙ e in absurd (cc);
          ends_used = λ k u i used n. absurd (idle (u, used, id_of k u.token.id i n));
          sends = λ k o fresh going. sends_it k o fresh;
        }

        -- why it leaves
        idle_of : (x : Held) → In x m.cache.held → is_idle x ≡ true → IsUnused past x.token
        idle_of x i e = (
          stands.cache.held x.token (map_in (λ (y : Held). y.token) m.cache.held x i),
          stands.cache.unmarked x i (not_false x.in_use e),
        )

        none_open : NoneOpen past
        none_open d o = let p = sym free ∙ stands.call.asked d o in absurd (cc)

        may_evict : MayEvict past (limit_of script.roster m.host)
        may_evict =
            let unused = filter is_idle m.cache.held in
            let tokens = map (λ (x : Held). x.token) unused in
            let n = length-map unused (λ (x : Held). x.token) in
            let lim = stands.limit in
            let r = front (suc (limit_of script.roster m.host)) tokens (omega (arith, n, many, lim))
            (once_filtered (λ (x : Held). x.token) is_idle m.cache.held (each_once m.cache.held once)) in (
              none_open,
              (
                r.0,
                r.2,
                r.1,
                λ u i.
                    let x = in_map (λ (x : Held). x.token) unused u (r.3 u i) in
                    let f = in_filter is_idle m.cache.held x.0 x.1 in
                    subst (IsUnused past) (sym x.2) (idle_of x.0 f.0 f.1),
              ),
            )

        reason : OwnReason script m past (leaves_by Evicted t ∷ []) Evict
        reason = ToEvict (λ d i. elim i [
          | inr n ↦ elim n [ ]
          | inl e ↦ subst (λ (x : Leave). (x.why ≡ Evicted) × MayEvict past (limit_of script.roster m.host)
              × IsUnused past x.token × IsOldest script.roster m.host past x.token) (sym e) (
                refl,
                may_evict,
                subst (IsUnused past) h_is (idle_of h within
                    (in_filter is_idle m.cache.held h (last_in (filter is_idle m.cache.held) h is_last)).1),
                subst (IsOldest script.roster m.host past) h_is (oldest_is_oldest script m past stands h is_last),
              )
        ])

        none_before : outstanding m.gives t.fid.fileset ≡ None → IsFirst l.gives g
        none_before e = record {
          message = message;
          within = in_right m.gives.gives (message ∷ []) message (inl refl);
          body = body;
          least = λ other k i b at less. elim (in_either m.gives.gives (message ∷ []) other i) [
            | inl j ↦
                let test = of_body other k t.fid.fileset b
                ∙ eq-eqb k.fid.fileset.0 t.fid.fileset.0 (ap (λ (x : FilesetId). x.0) (at ∙ fileset_is)) in
                let r = found_some (is_of t.fid.fileset) m.gives.gives other j test in
                let p = sym e ∙ r.1 in absurd (cc)
            | inr j ↦ elim j [
              | inr n ↦ elim n [ ]
              | inl q ↦
                  let p : GiveBack g ≡ GiveBack k = sym body ∙ ap (λ (x : Message). x.body) (sym q) ∙ b in
                  let same : g ≡ k = cc in
                  let n = ap (λ (x : Give). x.number) same in omega (arith, less, n)
            ]
          ];
        }

        due_first : (k : Give) → IsFirst l.gives k → (IsFirst m.gives k → ⊥)
            → SendsTo s (stay_of (s ∷ past) k.fid.fileset) (GiveBack k)
        due_first k first fresh = elim (in_either m.gives.gives (message ∷ []) first.message first.within) [
          | inl j ↦ absurd (fresh (record {
            message = first.message;
            within = j;
            body = first.body;
            least = λ other w i b at less. first.least other w (in_left m.gives.gives (message ∷ []) other i) b at less;
          }))
          | inr j ↦ elim j [
            | inr n ↦ elim n [ ]
            | inl q ↦
                let p : GiveBack g ≡ GiveBack k = sym body ∙ ap (λ (x : Message). x.body) (sym q) ∙ first.body in
                let same : g ≡ k = cc in
                subst (λ (x : Give). SendsTo s (stay_of (s ∷ past) x.fid.fileset) (GiveBack x)) same
                (subst (λ (fs : FilesetId). SendsTo s (stay_of (s ∷ past) fs) (GiveBack g)) (sym fileset_is)
                (due (by_one (outstanding m.gives t.fid.fileset) refl same)))
          ]
        ]
          where
            by_one : (z : Option Message) → outstanding m.gives t.fid.fileset ≡ z → g ≡ k → z ≡ None
            by_one None e same = refl
            by_one (Some y) e same =
                let r = not_first y e in
                absurd (first.least y r.0 (in_left m.gives.gives (message ∷ []) y r.1) r.2
                (r.3 ∙ ap (λ (x : Give). x.fid.fileset) same)
                (subst (λ (x : Give). r.0.number < x.number) same r.4))

        -- a token is held, so that no Bye was said
        no_bye : (w : ServerId) → (site_at m.sites w).said_bye ≡ true → ⊥
        no_bye w e = (stands.parted w ((stands.sites w).said_bye.0 e)).none_owned t (stands.cache.owned t held)

        pub dirty_evicted : ((y : Message) → In y sent → (y.epoch ≡ (site_at m.sites y.server).epoch) × (y.moves ≡ 0)
            × (y.server ≡ home t.fid.fileset)) → (outstanding m.gives t.fid.fileset ≡ None) ⊎ (sent ≡ [])
            → StepRight script m (with_left m l) past s
        dirty_evicted out silent = own_leaves_right script m l past Evict (g ∷ []) (leaves_by Evicted t ∷ []) sent
            running.rests free reason right keeping gives
            (λ k ends i e. let p = sym no_end ∙ ap (λ (x : Give). x.ends) (sym (its k i)) ∙ e in absurd (cc))
            (λ y i.
            let o = out y i in (
              o.0,
              o.1,
              subst (SaysLeft m l s y.server) (sym (gives_only y i)) (OfGiven g (elim silent [
                | inl e ↦ none_before e
                | inr e ↦ absurd (none_in sent e y i)
              ]) (ap home fileset_is ∙ sym o.2)),
            )) due_first no_bye
