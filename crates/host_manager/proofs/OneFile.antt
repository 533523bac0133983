-- Some tokens of one file leave: those under which something is dirty in a give-back, and the others are returned.
use Rattle.base_types.specs.Ids.{same_fid}
use Rattle.base_types.specs.declared.ids.Fid.{Fid}
use Rattle.base_types.specs.declared.ids.FilesetId.{FilesetId}
use Rattle.host_cache.specs.Files.{file_key, same_key}
use Rattle.host_cache.specs.Holding.{tokens_of}
use Rattle.host_cache.specs.Seen.{Kept, of_key}
use Rattle.host_cache.specs.declared.held.Held.{Held}
use Rattle.host_dirty.specs.Dirtiness.{is_dirty as is_dirty_in}
use Rattle.host_dirty.specs.declared.dirty.Dirty.{Dirty}
use Rattle.host_gives.proofs.Adding.{adds}
use Rattle.host_gives.specs.Counters.{last_of}
use Rattle.host_gives.specs.Giving.{after_add}
use Rattle.host_labels.specs.Labels.{InUse, is_pinned}
use Rattle.host_labels.specs.declared.uses.Labelled.{Labelled as UseOf}
use Rattle.host_leaves.proofs.DirtyTokens.{at_file as file_at}
use Rattle.host_leaves.specs.Dirtying.{covers_left, is_dirty_left, is_named, staying, tokens_at, updates_byte}
use Rattle.host_leaves.specs.Giving.{AreGiven, AreLeft, HasToGive, ids_of, leaving_by, with_length_of}
use Rattle.host_leaves.specs.Owning.{dirty_length}
use Rattle.host_manager.proofs.Evicting.{updated_by, updates_it}
use Rattle.host_manager.proofs.Given.{if_none, left_dirty}
use Rattle.host_manager.proofs.LeftBy.{IsLeftBy, all_stay, stays_of}
use Rattle.host_tables.proofs.Lists.{any_in, by_test, false_not, fid_same, filter_in, id_same, in_any, in_either}
use Rattle.host_tables.proofs.Lists.{in_filter, in_left, in_map, in_right, map_in, none_in, not_true, same_fid_is}
use Rattle.host_tables.proofs.Lists.{same_id_is, true_false, true_not}
use Rattle.host_tables.proofs.Updating.{reads_after}
use Rattle.host_tables.specs.Giving.{GivesBack}
use Rattle.host_tables.specs.LeavingSteps.{LeavesRight, Left, with_left}
use Rattle.host_tables.specs.LeavingSteps.{EndsBy}
use Rattle.host_tables.specs.LeavingSteps.EndsBy.{EndsNone}
use Rattle.host_tables.specs.Letting.{Keeping}
use Rattle.host_tables.specs.Stands.{LabelsStand}
use Rattle.host_tables.specs.Tables.{content, held_of, is_length_clean, is_updating, labelled, length_given}
use Rattle.host_tables.specs.Tables.{locks_under, ones, opens_under, own_of, updates_status}
use Rattle.host_gives.specs.declared.leavings.Leaving.{Leaving}
use Rattle.host_tables.specs.declared.tables.Tables.{Tables}
use Rattle.message_types.specs.declared.giving.Ends.{Ends}
use Rattle.message_types.specs.declared.giving.Give.{Give}
use Rattle.message_types.specs.declared.message.Body.TheVariants.{GiveBack}
use Rattle.message_types.specs.declared.message.Message.{Message}
use Rattle.run_rules.specs.HostTokens.{GivesByte}
use Rattle.run_rules.specs.Messages.{HasStopped, KeepsToken, ReturnsToken, SendsTo, stay_of}
use Rattle.run_rules.specs.Past.{EachOnce, In}
use Rattle.run_rules.specs.Tokens.{Drops, FreesPinned, GivesUse, IsOpen, IsOutstanding, LabelInUse}
use Rattle.run_rules.specs.Tokens.{LeavesHost, end_of}
use Rattle.run_rules.specs.Views.{UpdatesByte, byte_of}
use Rattle.run_rules.specs.declared.step.Labelled.{Labelled}
use Rattle.run_rules.specs.declared.step.Step.{Step}
use Rattle.std.proofs.Common.{Bool, List, None, Option, Some, [], ap, arith, eq-eqb, eqb-true, false, filter}
use Rattle.std.proofs.Common.{flat_map}
use Rattle.std.proofs.Common.{if◌then◌else◌, inl, inr, is_some, map, not, refl, subst, sym, true, ℕ, ◌&&◌, ◌++◌}
use Rattle.std.proofs.Common.{◌+◌, ◌<◌, ◌==◌, ◌||◌, ◌∙◌, ◌∷◌, ◌≡◌, ◌≤◌, ◌⊎◌}
use Rattle.std.proofs.lemmas.Bool.{and_from, and_parts}
use Rattle.std.specs.List.{list_any}
use Rattle.token_types.specs.Conflicts.{same_id}
use Rattle.token_types.specs.declared.token.Token.{Token}
use Rattle.token_types.specs.declared.token.TokenId.{TokenId}
use Rattle.tree_laws.specs.Parts.Part.{ByteAt, Size}

-- of tokens that leave those are chosen that a give-back has to name
pub record IsChosen (m : Tables) (fid : Fid) (leaving giving : List Token) : Type 0 where
  pub test : Token → Bool
  pub some : giving ≡ filter test leaving
  pub has : (token : Token) → In token leaving → HasToGive m fid leaving token → test token ≡ true

pub chosen : (m : Tables) (fid : Fid) (leaving giving : List Token) → AreGiven m fid leaving giving
    → IsChosen m fid leaving giving
chosen m fid leaving giving which = record { test = which.test; some = which.some; has = which.has }

-- the give-back of such tokens
pub record IsGiven (m : Tables) (fid : Fid) (giving leaving : List Token) (k : Give) : Type 0 where
  pub number : k.number ≡ last_of m.gives.counters fid.fileset + 1
  pub file : k.fid ≡ fid
  pub ids : k.ids ≡ ids_of giving
  pub pieces : AreLeft m fid giving leaving k.pieces
  pub length : k.length ≡ dirty_length m fid

-- what becomes of the labels, of the pins, and of the label whose use is being ended
pub record LabelsLeft (m : Tables) (l : Left) (past : List Step) (s : Step) : Type 0 where
  pub keeps_label : UseOf → Bool
  pub labels_are : l.uses.labels ≡ filter keeps_label m.uses.labels
  pub label_kept : (u : UseOf) → In u m.uses.labels → ((g : Give) → In g s.made → GivesUse g (labelled u) → ⊥)
      → keeps_label u ≡ true
  pub label_gone : (u : UseOf) → keeps_label u ≡ true → (g : Give) → In g s.made → GivesUse g (labelled u) → ⊥
  pub pinned : (i : TokenId) → is_pinned l.uses i ≡ true → (is_pinned m.uses i ≡ true) ⊎ KeepsToken s i
  pub pins : (u : UseOf) → In u l.uses.labels → (is_pinned m.uses u.token.id ≡ true) ⊎ KeepsToken s u.token.id
      → is_pinned l.uses u.token.id ≡ true
  pub ends : EndsBy m l past s
  pub labels : LabelsStand (own_of (with_left m l))

pub none_mapped : {A B : Type 0} (f : A → B) (xs : List A) → map f xs ≡ [] → xs ≡ []
none_mapped f [] e = refl
none_mapped f (x ∷ xs) e = absurd (cc)

pub at_file : (m : Tables) (fid : Fid) (u : Token) → In u (held_of m) → u.fid ≡ fid → In u (tokens_at m fid)
at_file m fid u i e =
    let k = in_map (λ (h : Held). h.token) m.cache.held u i in
    let same : k.0.token.fid ≡ fid = sym (ap (λ (t : Token). t.fid) k.2) ∙ e in
    subst (λ (t : Token). In t (tokens_at m fid)) (sym k.2)
    (map_in (λ (h : Held). h.token) (of_key (file_key fid) m.cache.held) k.0
    (filter_in (λ (h : Held). same_key (file_key h.token.fid) (file_key fid)) m.cache.held k.0 k.1
    (fid_same k.0.token.fid fid same)))

module _ (m : Tables) (fid : Fid) (leaving giving : List Token)
    (once : (t u : Token) → In t (held_of m) → In u (held_of m) → t.id ≡ u.id → t ≡ u)
    (of_file : (t : Token) → In t leaving → In t (held_of m) × (t.fid ≡ fid)) (which : IsChosen m fid leaving giving)
    (cache : Kept) (kept : IsLeftBy m.cache cache leaving) where
  -- # Tokens
  given_left : (t : Token) → In t giving → In t leaving
  given_left t i = (in_filter which.test leaving t (subst (λ (ts : List Token). In t ts) which.some i)).0

  given_or : (t : Token) → In t leaving → In t giving ⊎ (HasToGive m fid leaving t → ⊥)
  given_or t i = elim (by_test (which.test t)) [
    | inl e ↦ inl (subst (λ (ts : List Token). In t ts) (sym which.some) (filter_in which.test leaving t i e))
    | inr n ↦ inr (λ h. true_false (which.test t) (which.has t i h) n)
  ]

  pub has_given : (t : Token) → In t leaving → HasToGive m fid leaving t → In t giving
  has_given t i h = elim (given_or t i) [ inl j ↦ j | inr n ↦ absurd (n h) ]

  named_left : (u : Token) → In u (held_of m) → is_named leaving u ≡ true → In u leaving
  named_left u i e =
      let r = in_any (λ (t : Token). same_id t.id u.id) leaving e in
      subst (λ (t : Token). In t leaving) (once r.0 u (of_file r.0 r.1).0 i (same_id_is r.0.id u.id r.2)) r.1

  left_named : (u : Token) → In u leaving → is_named leaving u ≡ true
  left_named u i = any_in (λ (t : Token). same_id t.id u.id) leaving u i (id_same u.id u.id refl)

  pub kept_from : (u : Token) → In u (tokens_of cache.held) → In u (held_of m) × (In u leaving → ⊥)
  kept_from u i =
      let k = in_map (λ (h : Held). h.token) cache.held u i in
      let q = in_filter (stays_of leaving) m.cache.held k.0
      (subst (λ (hs : List Held). In k.0 hs) kept.held k.1) in (
        subst (λ (t : Token). In t (held_of m)) (sym k.2) (map_in (λ (h : Held). h.token) m.cache.held k.0 q.0),
        λ j. not_true (is_named leaving k.0.token) q.1
            (subst (λ (t : Token). is_named leaving t ≡ true) k.2 (left_named u j)),
      )

  kept_to : (u : Token) → In u (held_of m) → is_named leaving u ≡ false → In u (tokens_of cache.held)
  kept_to u i n =
      let k = in_map (λ (h : Held). h.token) m.cache.held u i in
      let q : stays_of leaving k.0 ≡ true = false_not (is_named leaving k.0.token)
      (subst (λ (t : Token). is_named leaving t ≡ false) k.2 n) in
      subst (λ (t : Token). In t (tokens_of cache.held)) (sym k.2) (map_in (λ (h : Held). h.token) cache.held k.0
      (subst (λ (hs : List Held). In k.0 hs) (sym kept.held) (filter_in (stays_of leaving) m.cache.held k.0 k.1 q)))

  left_or : (u : Token) → In u (held_of m) → In u leaving ⊎ In u (tokens_of cache.held)
  left_or u i = elim (by_test (is_named leaving u)) [
    | inl e ↦ inl (named_left u i e)
    | inr n ↦ inr (kept_to u i n)
  ]

  -- # Those of the file that stay
  stays_for : (at : ℕ) → list_any (updates_byte at) (staying m fid leaving) ≡ true
      → (u : Token) × In u (tokens_of cache.held) × UpdatesByte u fid at
  stays_for at e =
      let r = in_any (updates_byte at) (staying m fid leaving) e in
      let q = in_filter (λ token. not (is_named leaving token)) (tokens_at m fid) r.0 r.1 in
      let f = file_at m fid r.0 q.0 in (
        r.0,
        kept_to r.0 f.0 (elim (by_test (is_named leaving r.0)) [
          | inl t ↦ absurd (not_true (is_named leaving r.0) q.1 t)
          | inr n ↦ n
        ]),
        subst (λ (z : Fid). UpdatesByte r.0 z at) f.1 (updates_it r.0 at r.2),
      )

  for_stays : (u : Token) (at : ℕ) → In u (tokens_of cache.held) → UpdatesByte u fid at
      → list_any (updates_byte at) (staying m fid leaving) ≡ true
  for_stays u at i updates =
      let f = kept_from u i in
      any_in (updates_byte at) (staying m fid leaving) u
      (filter_in (λ token. not (is_named leaving token)) (tokens_at m fid) u (at_file m fid u f.0 updates.1)
      (true_not (is_named leaving u) (λ e. f.1 (named_left u f.0 e)))) (updated_by u fid at updates)

  -- # What is given back
  module _ (past : List Step) (s : Step) (its : (k : Give) → In k s.made → IsGiven m fid giving leaving k)
      (same : (k j : Give) → In k s.made → In j s.made → k ≡ j)
      (some : (t : Token) → In t giving → (k : Give) × In k s.made)
      (none : (k : Give) → In k s.made → giving ≡ [] → ⊥) where
    pub id_of : (k : Give) (i : TokenId) → In k s.made → In i k.ids → (t : Token) × In t giving × (t.id ≡ i)
    id_of k i j n =
        let r = in_map (λ (t : Token). t.id) giving i (subst (λ (is : List TokenId). In i is) (its k j).ids n) in
        (r.0, r.1, sym r.2)

    pub named_in : (k : Give) (t : Token) → In k s.made → In t giving → In t.id k.ids
    named_in k t j i = subst (λ (is : List TokenId). In t.id is) (sym (its k j).ids)
        (map_in (λ (u : Token). u.id) giving t i)

    above : (k : Give) → In k s.made → last_of m.gives.counters k.fid.fileset < k.number
    above k j =
        let e = ap (λ (f : Fid). last_of m.gives.counters f.fileset) (its k j).file in
        let n = (its k j).number in omega (arith, e, n)

    next : (k : Give) → In k s.made → k.number ≡ last_of m.gives.counters k.fid.fileset + 1
    next k j =
        let e = ap (λ (f : Fid). last_of m.gives.counters f.fileset) (its k j).file in
        let n = (its k j).number in omega (arith, e, n)

    has_byte_of : (k : Give) (at x : ℕ) → In k s.made → byte_of k.pieces at ≡ Some x
        → (is_dirty_in m.dirty k.fid at ≡ true) × (content m.cache k.fid (ByteAt at) ≡ x)
        × ((u : Token) × In u (held_of m) × In u.id k.ids × UpdatesByte u k.fid at)
        × ((u : Token) → In u (tokens_of cache.held) → UpdatesByte u k.fid at → ⊥)
    has_byte_of k at x j e =
        let p = if_none (is_dirty_in m.dirty fid at && covers_left m fid giving leaving at)
        (content m.cache fid (ByteAt at)) x (sym ((its k j).pieces.bytes at) ∙ e) in
        let both = and_parts (is_dirty_in m.dirty fid at) (covers_left m fid giving leaving at) p.0 in
        let c = and_parts (list_any (updates_byte at) giving)
        (not (list_any (updates_byte at) (staying m fid leaving))) both.1 in
        let r = in_any (updates_byte at) giving c.0 in
        let f = of_file r.0 (given_left r.0 r.1) in
        subst (λ (z : Fid). (is_dirty_in m.dirty z at ≡ true) × (content m.cache z (ByteAt at) ≡ x)
        × ((u : Token) × In u (held_of m) × In u.id k.ids × UpdatesByte u z at)
        × ((u : Token) → In u (tokens_of cache.held) → UpdatesByte u z at → ⊥)) (sym (its k j).file) (
          both.0,
          p.1,
          (r.0, f.0, named_in k r.0 j r.1, subst (λ (z : Fid). UpdatesByte r.0 z at) f.1 (updates_it r.0 at r.2)),
          λ u i updates. not_true (list_any (updates_byte at) (staying m fid leaving)) c.1 (for_stays u at i updates),
        )

    saves_byte : (u : Token) (f : Fid) (at : ℕ) → is_dirty_in m.dirty f at ≡ true → In u (held_of m)
        → UpdatesByte u f at
        → ((w : Token) × In w (tokens_of cache.held) × UpdatesByte w f at)
        ⊎ ((k : Give) × In k s.made × GivesByte k f at)
    saves_byte u f at d i updates = elim (left_or u i) [
      | inr j ↦ inl (u, j, updates)
      | inl j ↦
          let e : f ≡ fid = sym updates.1 ∙ (of_file u j).1 in
          subst (λ (z : Fid). ((w : Token) × In w (tokens_of cache.held) × UpdatesByte w z at)
          ⊎ ((k : Give) × In k s.made × GivesByte k z at)) (sym e)
          (by_staying (subst (λ (z : Fid). is_dirty_in m.dirty z at ≡ true) e d) j
          (updated_by u fid at (subst (λ (z : Fid). UpdatesByte u z at) e updates)))
    ]
      where
        by_staying : is_dirty_in m.dirty fid at ≡ true → In u leaving → updates_byte at u ≡ true
            → ((w : Token) × In w (tokens_of cache.held) × UpdatesByte w fid at)
            ⊎ ((k : Give) × In k s.made × GivesByte k fid at)
        by_staying dirty j mine = elim (by_test (list_any (updates_byte at) (staying m fid leaving))) [
          | inl e ↦ inl (stays_for at e)
          | inr n ↦
              let left = and_from (list_any (updates_byte at) leaving)
              (not (list_any (updates_byte at) (staying m fid leaving)))
              (any_in (updates_byte at) leaving u j mine)
              (false_not (list_any (updates_byte at) (staying m fid leaving)) n) in
              let lost : is_dirty_left m fid leaving at ≡ true =
              and_from (is_dirty_in m.dirty fid at) (covers_left m fid leaving leaving at) dirty left in
              let given = has_given u j (inr (inl (at, lost, mine))) in
              let k = some u given in
              let covered = and_from (list_any (updates_byte at) giving)
              (not (list_any (updates_byte at) (staying m fid leaving)))
              (any_in (updates_byte at) giving u given mine)
              (false_not (list_any (updates_byte at) (staying m fid leaving)) n) in
              inr (
                k.0,
                k.1,
                (
                  (its k.0 k.1).file,
                  (
                    content m.cache fid (ByteAt at),
                    (its k.0 k.1).pieces.bytes at
                        ∙ ap (λ (b : Bool). if b then Some (content m.cache fid (ByteAt at)) else None)
                        (and_from (is_dirty_in m.dirty fid at) (covers_left m fid giving leaving at) dirty covered),
                  ),
                ),
              )
        ]

    saves_length : (t : Token) → In t (held_of m) → updates_status t.kind ≡ true
        → is_length_clean m.lengths (content m.cache) t.fid ≡ false
        → In t (tokens_of cache.held) ⊎ ((k : Give) × In k s.made × (k.fid ≡ t.fid) × In t.id k.ids)
    saves_length t i e n = elim (left_or t i) [
      | inr j ↦ inl j
      | inl j ↦
          let f = (of_file t j).1 in
          let n_f = subst (λ (z : Fid). is_length_clean m.lengths (content m.cache) z ≡ false) f n in
          let here = and_from (same_fid t.fid fid) (updates_status t.kind) (fid_same t.fid fid f) e in
          let any = any_in (is_updating fid) (held_of m) t i here in
          let both = and_from (list_any (is_updating fid) (held_of m))
          (not (is_length_clean m.lengths (content m.cache) fid)) any
          (false_not (is_length_clean m.lengths (content m.cache) fid) n_f) in
          let dirty : is_some (dirty_length m fid) ≡ true =
          ap (λ (b : Bool). is_some (if b then Some (content m.cache fid Size) else None)) both in
          let given = has_given t j (inr (inr (e, dirty))) in
          let k = some t given in
          inr (k.0, k.1, (its k.0 k.1).file ∙ sym f, named_in k.0 t k.1 given)
    ]

    pub gives_back : ((g : Give) (ends : Ends) → In g s.made → g.ends ≡ Some ends
        → ((u : Labelled) × FreesPinned past u × (ends.call ≡ end_of u) × In u.token.id g.ids)
        × IsOpen (s ∷ past) (record { k = ends.k; call = ends.call }))
        → ((g : Give) (u : Labelled) → In g s.made → LabelInUse past u → In u.token.id g.ids → GivesUse g u)
        → ((g : Give) → IsOutstanding (s ∷ past) g → (IsOutstanding past g → ⊥) → (HasStopped (s ∷ past) → ⊥)
        → SendsTo s (stay_of (s ∷ past) g.fid.fileset) (GiveBack g))
        → GivesBack m past s (tokens_of cache.held)
    gives_back ends ends_used sends = record {
      names = λ k j e. none k j (none_mapped (λ (t : Token). t.id) giving (sym (its k j).ids ∙ e));
      rise = λ k j. (its k j).pieces.rise;
      ids = λ k i j n.
          let r = id_of k i j n in
          let f = of_file r.0 (given_left r.0 r.1) in
          (r.0, f.0, r.2, f.1 ∙ sym (its k j).file);
      one = λ k j a b e. same k j a b;
      above = above;
      next = λ k j. inl (next k j);
      apart = λ k j a b e. same k j a b;
      has = has_byte_of;
      saves = saves_byte;
      length_is = λ k j. (its k j).length ∙ ap (dirty_length m) (sym (its k j).file);
      saves_length = saves_length;
      ends = ends;
      ends_used = ends_used;
      sends = sends;
    }

    -- # Which leave
    module _ (dropped_is : (u : Token) → Drops s u → In u leaving) (is_dropped : (u : Token) → In u leaving → Drops s u)
        (returned_is : (u : Token) → In u (tokens_of cache.held) → ReturnsToken s u.id → ⊥)
        (is_returned : (u : Token) → In u leaving → (In u giving → ⊥) → ReturnsToken s u.id) where
      leaves_it : (u : Token) → In u leaving → LeavesHost s u.id
      leaves_it u i = elim (by_test (which.test u)) [
        | inl e ↦
            let g = subst (λ (ts : List Token). In u ts) (sym which.some) (filter_in which.test leaving u i e) in
            let k = some u g in inl (k.0, k.1, named_in k.0 u k.1 g)
        | inr n ↦ inr (is_returned u i (λ g. true_false (which.test u)
            (in_filter which.test leaving u (subst (λ (ts : List Token). In u ts) which.some g)).1 n))
      ]

      pub keeping : Keeping m past s (tokens_of cache.held)
      keeping = record {
        were = λ u i. (kept_from u i).0;
        stay = λ u i. (
          (λ leaves. elim leaves [
            | inl makes ↦
                let r = id_of makes.0 u.id makes.1 makes.2 in
                let f = given_left r.0 r.1 in
                (kept_from u i).1 (subst (λ (t : Token). In t leaving)
                (once r.0 u (of_file r.0 f).0 (kept_from u i).0 r.2) f)
            | inr r ↦ returned_is u i r
          ]),
          λ d. (kept_from u i).1 (dropped_is u d),
        );
        gone = λ u i. elim (left_or u i) [ inl j ↦ inr (leaves_it u j, is_dropped u j) | inr j ↦ inl j ];
        dropped = λ u d. (of_file u (dropped_is u d)).0;
      }

  -- # The tables, where nothing is given back
  abbrev pub none_left : Left
  none_left = record {
    cache = cache;
    dirty = m.dirty;
    lengths = m.lengths;
    uses = m.uses;
    gives = m.gives;
    leaving = m.leaving;
    ending = m.ending;
  }

  module _ (past : List Step) (s : Step) (none_made : s.made ≡ []) (none_kept : (i : TokenId) → KeepsToken s i → ⊥)
      (labels : LabelsStand (own_of m)) where
    no_made : (g : Give) → In g s.made → ⊥
    no_made g i = none_in s.made none_made g i

    dirty_same : (b : Bool) → b ≡ (b && not false)
    dirty_same true = refl
    dirty_same false = refl

    pub none_right : LeavesRight m none_left past s
    none_right = record {
      stays = stays_of leaving;
      held_is = kept.held;
      content_is = kept.content_is;
      beyond = kept.beyond;
      dirty = λ f at. dirty_same (is_dirty_in m.dirty f at)
          ∙ ap (λ (made : List Give). is_dirty_in m.dirty f at
          && not (list_any (λ give. same_fid give.fid f && is_some (byte_of give.pieces at)) made)) (sym none_made);
      length_new = λ g n i e. absurd (no_made g i);
      length_old = λ f none. refl;
      keeps_label = λ u. true;
      labels_are = all_stay m.uses.labels;
      label_kept = λ u i none. refl;
      label_gone = λ u e g i q. absurd (no_made g i);
      pinned = λ i e. inl e;
      pins = λ u j e. elim e [ inl p ↦ p | inr k ↦ absurd (none_kept u.token.id k) ];
      gives_from = λ y i. inl i;
      gives_old = λ y i. i;
      gives_new = λ g i. absurd (no_made g i);
      last_up = λ fs. omega arith;
      last_new = λ g i. absurd (no_made g i);
      last_is = λ fs. inl refl;
      leaving_old = λ y i. i;
      leaving_new = λ g t i. absurd (no_made g i);
      leaving_from = λ y i. inl i;
      ends = EndsNone (λ g e i. absurd (no_made g i)) refl;
      labels = record { locks = labels.locks; opens = labels.opens };
    }

  -- # The tables, where a give-back is made
  module _ (dirty : Dirty) (g : Give) (given : IsGiven m fid giving leaving g) (message : Message)
      (body : message.body ≡ GiveBack g) (uses : InUse) (ending : Option Labelled) where
    abbrev pub one_left : Left
    one_left = record {
      cache = cache;
      dirty = dirty;
      lengths = with_length_of g.fid g.number g.length m.lengths;
      uses = uses;
      gives = after_add m.gives message;
      leaving = m.leaving ++ map (leaving_by g.fid.fileset g.number) giving;
      ending = ending;
    }

    last_added : (fs : FilesetId) → last_of one_left.gives.counters fs
        ≡ (if g.fid.fileset.0 == fs.0 then g.number else last_of m.gives.counters fs)
    last_added fs = subst (λ (x : Message). last_of (after_add m.gives x).counters fs
        ≡ (if g.fid.fileset.0 == fs.0 then g.number else last_of m.gives.counters fs))
        (λ i. record message { body = (sym body) i }) ((adds m.gives message g).last fs)

    last_here : last_of one_left.gives.counters g.fid.fileset ≡ g.number
    last_here = last_added g.fid.fileset
        ∙ ap (λ (b : Bool). if b then g.number else last_of m.gives.counters g.fid.fileset)
        (eq-eqb g.fid.fileset.0 g.fid.fileset.0 refl)

    number_next : g.number ≡ last_of m.gives.counters g.fid.fileset + 1
    number_next =
        let e = ap (λ (f : Fid). last_of m.gives.counters f.fileset) given.file in
        let n = given.number in omega (arith, e, n)

    last_cases : (fs : FilesetId) → (last_of one_left.gives.counters fs ≡ last_of m.gives.counters fs)
        ⊎ ((g.fid.fileset ≡ fs) × (last_of one_left.gives.counters fs ≡ g.number))
    last_cases fs = elim (by_test (g.fid.fileset.0 == fs.0)) [
      | inl e ↦
          let n = eqb-true g.fid.fileset.0 fs.0 e in
          inr (
            (λ i. record { 0 = n i }),
            last_added fs
                ∙ ap (λ (b : Bool). if b then g.number else last_of m.gives.counters fs) e,
          )
      | inr n ↦ inl (last_added fs ∙ ap (λ (b : Bool). if b then g.number else last_of m.gives.counters fs) n)
    ]

    length_other : (o : Option ℕ) → g.length ≡ o → (f : Fid) → ((n : ℕ) → g.length ≡ Some n → g.fid ≡ f → ⊥)
        → length_given (with_length_of g.fid g.number o m.lengths) f ≡ length_given m.lengths f
    length_other None e f none = refl
    length_other (Some n) e f none =
        let other : same_fid g.fid f ≡ false = elim (by_test (same_fid g.fid f)) [
          | inl q ↦ absurd (none n e (same_fid_is g.fid f q))
          | inr q ↦ q
        ] in
        reads_after.lengths m.lengths (record { fid = g.fid; number = g.number; length = n; known = false }) f
        ∙ ap (λ (b : Bool). if b then Some (record { fid = g.fid; number = g.number; length = n; known = false })
        else length_given m.lengths f) other

    length_here : (o : Option ℕ) (n : ℕ) → o ≡ Some n
        → length_given (with_length_of g.fid g.number o m.lengths) g.fid
        ≡ Some (record { fid = g.fid; number = g.number; length = n; known = false })
    length_here None n e = absurd (cc)
    length_here (Some k) n e =
        let q : k ≡ n = cc in
        reads_after.lengths m.lengths (record { fid = g.fid; number = g.number; length = k; known = false }) g.fid
        ∙ ap (λ (b : Bool). if b then Some (record { fid = g.fid; number = g.number; length = k; known = false })
        else length_given m.lengths g.fid) (fid_same g.fid g.fid refl)
        ∙ ap (λ (z : ℕ). Some (record { fid = g.fid; number = g.number; length = z; known = false })) q

    has_covers : (at : ℕ) → is_dirty_in m.dirty fid at ≡ true
        → is_some (byte_of g.pieces at) ≡ covers_left m fid giving leaving at
    has_covers at e =
        ap (λ (o : Option ℕ). is_some o) (given.pieces.bytes at)
        ∙ ap (λ (b : Bool). is_some (if b && covers_left m fid giving leaving at
        then Some (content m.cache fid (ByteAt at)) else None)) e
        ∙ some_if (covers_left m fid giving leaving at)
      where
        some_if : (b : Bool) → is_some (if b then Some (content m.cache fid (ByteAt at)) else None) ≡ b
        some_if true = refl
        some_if false = refl

    module _ (past : List Step) (s : Step) (made_is : s.made ≡ g ∷ []) (labels : LabelsLeft m one_left past s)
        (cleans : (other : Fid) (at : ℕ) → is_dirty_in dirty other at
        ≡ (is_dirty_in m.dirty other at && not (same_fid fid other && covers_left m fid giving leaving at))) where
      only_it : (k : Give) → In k s.made → k ≡ g
      only_it k i = elim (subst (λ (gs : List Give). In k gs) made_is i) [ inl e ↦ e | inr n ↦ elim n [ ] ]

      it_made : In g s.made
      it_made = subst (λ (gs : List Give). In g gs) (sym made_is) (inl refl)

      pub one_right : LeavesRight m one_left past s
      one_right = record {
        stays = stays_of leaving;
        held_is = kept.held;
        content_is = kept.content_is;
        beyond = kept.beyond;
        dirty = λ f at.
            cleans f at
            ∙ left_dirty (is_dirty_in m.dirty f at) (same_fid fid f) (covers_left m fid giving leaving at)
            (is_some (byte_of g.pieces at))
            (λ d e. has_covers at (subst (λ (z : Fid). is_dirty_in m.dirty z at ≡ true) (sym (same_fid_is fid f e)) d))
            ∙ ap (λ (z : Fid). is_dirty_in m.dirty f at && not ((same_fid z f && is_some (byte_of g.pieces at)) ||
            false)) (sym given.file)
            ∙ ap (λ (made : List Give). is_dirty_in m.dirty f at
            && not (list_any (λ give. same_fid give.fid f && is_some (byte_of give.pieces at)) made)) (sym made_is);
        length_new = λ k n i e.
            let q = only_it k i in
            subst (λ (x : Give). length_given one_left.lengths x.fid
            ≡ Some (record { fid = x.fid; number = x.number; length = n; known = false })) (sym q)
            (length_here g.length n (ap (λ (x : Give). x.length) (sym q) ∙ e));
        length_old = λ f none. length_other g.length refl f (λ n e at. none g it_made (at, (n, e)));
        keeps_label = labels.keeps_label;
        labels_are = labels.labels_are;
        label_kept = labels.label_kept;
        label_gone = labels.label_gone;
        pinned = labels.pinned;
        pins = labels.pins;
        gives_from = λ y i. elim (in_either m.gives.gives (message ∷ []) y i) [
          | inl j ↦ inl j
          | inr j ↦ elim j [ inl e ↦ inr (g, ap (λ (x : Message). x.body) e ∙ body, it_made) | inr n ↦ elim n [ ] ]
        ];
        gives_old = λ y i. in_left m.gives.gives (message ∷ []) y i;
        gives_new = λ k i. (
          message,
          in_right m.gives.gives (message ∷ []) message (inl refl),
          body ∙ ap GiveBack (sym (only_it k i)),
        );
        last_up = λ fs. elim (last_cases fs) [
          | inl e ↦ omega (arith, e)
          | inr r ↦
              let q = ap (λ (z : FilesetId). last_of m.gives.counters z) r.0 in let e = r.1 in let n = number_next in
              omega (arith, q, e, n)
        ];
        last_new = λ k i. subst (λ (x : Give). x.number ≤ last_of one_left.gives.counters x.fid.fileset)
            (sym (only_it k i)) (let e = last_here in omega (arith, e));
        last_is = λ fs. elim (last_cases fs) [ inl e ↦ inl e | inr r ↦ inr (g, it_made, r.0, sym r.1) ];
        leaving_old = λ y i. in_left m.leaving (map (leaving_by g.fid.fileset g.number) giving) y i;
        leaving_new = λ k u i j n.
            let q = only_it k i in
            let r = in_map (λ (t : Token). t.id) giving u.id (subst (λ (is : List TokenId). In u.id is)
            (ap (λ (x : Give). x.ids) q ∙ given.ids) n) in
            let same : r.0 ≡ u = once r.0 u (of_file r.0 (given_left r.0 r.1)).0 j (sym r.2) in
            in_right m.leaving (map (leaving_by g.fid.fileset g.number) giving)
            (record { fileset = k.fid.fileset; number = k.number; token = u })
            (subst (λ (x : Leaving). In x (map (leaving_by g.fid.fileset g.number) giving))
            (λ z. record { fileset = (sym q z).fid.fileset; number = (sym q z).number; token = same z })
            (map_in (leaving_by g.fid.fileset g.number) giving r.0 r.1));
        leaving_from = λ y i. elim (in_either m.leaving (map (leaving_by g.fid.fileset g.number) giving) y i) [
          | inl j ↦ inl j
          | inr j ↦
              let r = in_map (leaving_by g.fid.fileset g.number) giving y j in
              let at = ap (λ (x : Leaving). x.token) r.2 in
              inr (
                g,
                it_made,
                subst (λ (u : Token). In u (held_of m)) (sym at) (of_file r.0 (given_left r.0 r.1)).0,
                subst (λ (u : Token). In u.id g.ids) (sym at) (subst (λ (is : List TokenId). In r.0.id is)
                    (sym given.ids) (map_in (λ (t : Token). t.id) giving r.0 r.1)),
                ap (λ (x : Leaving). x.fileset) r.2,
                ap (λ (x : Leaving). x.number) r.2,
              )
        ];
        ends = labels.ends;
        labels = labels.labels;
      }

-- the labels stay, where no use of one is ended and none is kept
pub labels_stay : (m : Tables) (l : Left) (past : List Step) (s : Step) → l.uses ≡ m.uses → l.ending ≡ m.ending
    → ((g : Give) (ends : Ends) → In g s.made → g.ends ≡ Some ends → ⊥) → ((i : TokenId) → KeepsToken s i → ⊥)
    → LabelsStand (own_of m) → LabelsLeft m l past s
labels_stay m l past s uses ending no_end none_kept labels = record {
  keeps_label = λ u. true;
  labels_are = ap (λ (z : InUse). z.labels) uses ∙ all_stay m.uses.labels;
  label_kept = λ u i none. refl;
  label_gone = λ u e g i gives. no_end g gives.0 i gives.1;
  pinned = λ i e. inl (subst (λ (z : InUse). is_pinned z i ≡ true) uses e);
  pins = λ u j e. elim e [
    | inl p ↦ subst (λ (z : InUse). is_pinned z u.token.id ≡ true) (sym uses) p
    | inr k ↦ absurd (none_kept u.token.id k)
  ];
  ends = EndsNone (λ g ends i e. no_end g ends i e) ending;
  labels = record {
    locks = subst (λ (q : InUse × Option Labelled). EachOnce (flat_map (λ u. locks_under m.host u.token.kind u)
        (map labelled q.0.labels ++ ones q.1))) (λ i. (sym uses i, sym ending i)) labels.locks;
    opens = subst (λ (q : InUse × Option Labelled). EachOnce (flat_map (λ u. opens_under m.host u.token.kind u)
        (map labelled q.0.labels ++ ones q.1))) (λ i. (sym uses i, sym ending i)) labels.opens;
  };
}
