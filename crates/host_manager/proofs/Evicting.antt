-- A clean token is evicted.
use Rattle.base_types.specs.Ids.{same_fid}
use Rattle.base_types.specs.Spans.{has_byte}
use Rattle.base_types.specs.declared.ids.Fid.{Fid}
use Rattle.base_types.specs.declared.ids.Node.TheVariants.{Host}
use Rattle.base_types.specs.declared.ids.ServerId.{ServerId}
use Rattle.host_cache.specs.Files.{file_key, same_key}
use Rattle.host_cache.specs.Holding.{IsOnce, is_id, is_idle, last_of, tokens_of}
use Rattle.host_cache.specs.Seen.{Kept, after_drop, of_key, seen}
use Rattle.host_cache.specs.declared.held.Held.{Held}
use Rattle.host_calls.proofs.Owned.{key_is}
use Rattle.host_dirty.specs.Dirtiness.{is_dirty as is_dirty_in}
use Rattle.host_gives.specs.Giving.{names}
use Rattle.host_leaves.specs.Dirtying.{covers_left, is_dirty_left, is_named, staying, tokens_at, updates_byte}
use Rattle.host_leaves.specs.Giving.{GivesWhere, HasToGive, leaves_by, returned_ids, returning}
use Rattle.host_leaves.specs.Owning.{dirty_length, update_span}
use Rattle.host_leaves.specs.Sending.{message_to, sending_due}
use Rattle.host_manager.proofs.Running.{asks_none, gone_on, runs_on}
use Rattle.host_manager.proofs.Sizes.{size_left}
use Rattle.host_manager.specs.Closing.{EvictsIt, oldest_of}
use Rattle.host_tables.proofs.Declared.{home_is}
use Rattle.host_tables.proofs.Dropping.{drops_alike}
use Rattle.host_tables.proofs.Evicting.{evicts_right}
use Rattle.host_tables.proofs.Lists.{any_in, by_test, false_not, fid_same, filter_in, id_same, in_any, in_filter}
use Rattle.host_tables.proofs.Lists.{in_map, map_in, not_true, or_left, same_id_is}
use Rattle.host_tables.proofs.Outstanding.{found_in}
use Rattle.host_tables.proofs.Tidy.{home_number, tidy_stays}
use Rattle.host_tables.specs.Drafts.{no_draft, step_of}
use Rattle.host_tables.specs.Evicting.{IsCleanToken, IsWithout, evicts_one, is_other, returned}
use Rattle.host_tables.specs.Machine.{StepRight}
use Rattle.host_manager.specs.Running.{IsRunning, OwnRight, RunsOn}
use Rattle.host_tables.specs.Stands.{Stands}
use Rattle.host_tables.specs.Tables.{content, held_of, is_length_clean, is_updating, updates_status}
use Rattle.host_tables.specs.Tidy.{IsTidy}
use Rattle.host_tables.specs.Updates.{home_at}
use Rattle.host_tables.specs.declared.draft.Draft.{Draft}
use Rattle.host_tables.specs.declared.tables.Tables.{Tables}
use Rattle.message_types.specs.Soundness.{IsServer, IsSound}
use Rattle.message_types.specs.declared.message.Body.TheVariants.{Returned}
use Rattle.run_rules.specs.Messages.{home}
use Rattle.run_rules.specs.Past.{EachOnce, In}
use Rattle.run_rules.specs.Views.{UpdatesByte}
use Rattle.run_rules.specs.declared.applied.Why.TheVariants.{Evicted}
use Rattle.run_rules.specs.declared.step.Cause.TheVariants.{Evict}
use Rattle.run_rules.specs.declared.step.Step.{Step}
use Rattle.script_lines.specs.declared.script.Script.{Script}
use Rattle.std.proofs.Common.{Bool, List, None, Option, Some, [], ap, arith, cond, false, filter, if◌then◌else◌, inl}
use Rattle.std.proofs.Common.{inr, is_some, length, not, refl, subst, sym, true, ℕ, ◌++◌, ◌<◌, ◌∙◌, ◌∷◌, ◌≡◌, ◌≤◌}
use Rattle.std.proofs.lemmas.Bool.{and_from}
use Rattle.std.specs.List.{find, list_any}
use Rattle.std.specs.Option.{option_map, option_map_or}
use Rattle.std.specs.Prelude.{option_and_then}
use Rattle.token_types.specs.Conflicts.{same_id}
use Rattle.token_types.specs.declared.token.Kind.{Kind}
use Rattle.token_types.specs.declared.token.Kind.TheVariants.{Bytes, Lock, Opening, Status}
use Rattle.token_types.specs.declared.token.Token.{Token}
use Rattle.token_types.specs.declared.token.TokenId.{TokenId}
use Rattle.tree_laws.specs.Parts.Part.{Size}

-- # What tokens are for

-- a token that is for changing a byte
pub updates_it : (t : Token) (at : ℕ) → updates_byte at t ≡ true → UpdatesByte t t.fid at
updates_it t at e = by_kind t.kind refl e
  where
    by_kind : (k : Kind) → t.kind ≡ k → option_map_or (λ span. has_byte span at) (update_span k) false ≡ true
        → UpdatesByte t t.fid at
    by_kind (Bytes true span) q u = (span, refl, q, u)
    by_kind (Bytes false span) q u = absurd (cc)
    by_kind (Status update) q u = absurd (cc)
    by_kind (Lock writing span) q u = absurd (cc)
    by_kind (Opening kind) q u = absurd (cc)

pub updated_by : (t : Token) (fid : Fid) (at : ℕ) → UpdatesByte t fid at → updates_byte at t ≡ true
updated_by t fid at (span, same, kind, has) =
    ap (λ (k : Kind). option_map_or (λ span. has_byte span at) (update_span k) false) kind ∙ has

-- # Each token is held once
in_two : (x : Held) (xs : List Held) (h : Held) → In h xs → h.token ≡ x.token
    → 2 ≤ length (filter (is_id x.token.id) (x ∷ xs))
in_two x xs h i e =
    let mine : is_id x.token.id x ≡ true = id_same x.token.id x.token.id refl in
    let its : is_id x.token.id h ≡ true = id_same h.token.id x.token.id (ap (λ (t : Token). t.id) e) in
    let l = one_in (filter (is_id x.token.id) xs) h (filter_in (is_id x.token.id) xs h i its) in
    subst (λ (b : Bool). 2 ≤ length (cond b (x ∷ filter (is_id x.token.id) xs) (filter (is_id x.token.id) xs)))
    (sym mine) (omega (arith, l))
  where
    one_in : (ys : List Held) (y : Held) → In y ys → 1 ≤ length ys
    one_in [] y j = elim j [ ]
    one_in (z ∷ ys) y j = omega arith

fewer : (x : Held) (xs : List Held) (id : TokenId) → length (filter (is_id id) (x ∷ xs)) ≤ 1
    → length (filter (is_id id) xs) ≤ 1
fewer x xs id le = by_test_of (is_id id x) le
  where
    by_test_of : (b : Bool) → length (cond b (x ∷ filter (is_id id) xs) (filter (is_id id) xs)) ≤ 1
        → length (filter (is_id id) xs) ≤ 1
    by_test_of true l = omega (arith, l)
    by_test_of false l = l

pub each_once : (held : List Held) → IsOnce held → EachOnce (tokens_of held)
each_once [] once = tt
each_once (x ∷ held) once = (
  (λ i.
      let r = in_map (λ (h : Held). h.token) held x.token i in
      let l = in_two x held r.0 r.1 (sym r.2) in
      let k = once x.token.id in omega (arith, l, k)),
  each_once held (λ id. fewer x held id (once id)),
)

pub last_in : {A : Type 0} (xs : List A) (h : A) → last_of xs ≡ Some h → In h xs
last_in [] h e = absurd (cc)
last_in (x ∷ []) h e = inl (let q = e in cc)
last_in (x ∷ y ∷ xs) h e = inr (last_in (y ∷ xs) h e)

-- # The token that isn't in use and was last used longest ago
pub oldest_is : (m : Tables) (t : Token) → ((u w : Token) → In u (held_of m) → In w (held_of m) → u.id ≡ w.id → u ≡ w)
    → oldest_of m ≡ Some t
    → (h : Held) × (last_of (filter is_idle m.cache.held) ≡ Some h) × (h.token ≡ t) × In h m.cache.held
oldest_is m t one e = by_last (last_of (filter is_idle m.cache.held)) refl e
  where
    by_last : (o : Option Held) → last_of (filter is_idle m.cache.held) ≡ o
        → option_and_then (λ id. option_map (λ held. held.token) (find (is_id id) m.cache.held))
        (option_map (λ held. held.token.id) o) ≡ Some t
        → (h : Held) × (last_of (filter is_idle m.cache.held) ≡ Some h) × (h.token ≡ t) × In h m.cache.held
    by_last None q f = absurd (cc)
    by_last (Some h) q f = by_found (find (is_id h.token.id) m.cache.held) refl f
      where
        within : In h m.cache.held
        within = (in_filter is_idle m.cache.held h (last_in (filter is_idle m.cache.held) h q)).0

        by_found : (o : Option Held) → find (is_id h.token.id) m.cache.held ≡ o
            → option_map (λ held. held.token) o ≡ Some t
            → (h : Held) × (last_of (filter is_idle m.cache.held) ≡ Some h) × (h.token ≡ t) × In h m.cache.held
        by_found None p g = absurd (cc)
        by_found (Some k) p g =
            let r = found_in (is_id h.token.id) m.cache.held k p in
            let same : k.token ≡ t = cc in
            let id : h.token.id ≡ k.token.id = sym (same_id_is k.token.id h.token.id r.1) in (
              h,
              q,
              one h.token k.token (map_in (λ (x : Held). x.token) m.cache.held h within)
                  (map_in (λ (x : Held). x.token) m.cache.held k r.0) id ∙ same,
              within,
            )

-- # Nothing that is dirty leaves with it
module _ (m : Tables) (t : Token) (held : In t (held_of m)) (free : HasToGive m t.fid (t ∷ []) t → ⊥) where
  clean_bytes : (at : ℕ) → is_dirty_in m.dirty t.fid at ≡ true → UpdatesByte t t.fid at
      → (u : Token) × In u (held_of m) × (u.id ≡ t.id → ⊥) × UpdatesByte u t.fid at
  clean_bytes at dirty updates = elim (by_test (list_any (updates_byte at) (staying m t.fid (t ∷ [])))) [
    | inl e ↦
        let r = in_any (updates_byte at) (staying m t.fid (t ∷ [])) e in
        let q = in_filter (λ token. not (is_named (t ∷ []) token)) (tokens_at m t.fid) r.0 r.1 in
        let k = in_map (λ (h : Held). h.token) (of_key (file_key t.fid) m.cache.held) r.0 q.0 in
        let p = in_filter (λ (h : Held). same_key (file_key h.token.fid) (file_key t.fid)) m.cache.held k.0 k.1 in
        let file : r.0.fid ≡ t.fid = ap (λ (x : Token). x.fid) k.2 ∙ key_is k.0.token.fid t.fid p.1 in (
          r.0,
          subst (λ (x : Token). In x (held_of m)) (sym k.2) (map_in (λ (h : Held). h.token) m.cache.held k.0 p.0),
          (λ same. not_true (is_named (t ∷ []) r.0) q.1
              (or_left (same_id t.id r.0.id) false (id_same t.id r.0.id (sym same)))),
          subst (λ (f : Fid). UpdatesByte r.0 f at) file (updates_it r.0 at r.2),
        )
    | inr n ↦ absurd (free (inr (inl (at, left n, updated_by t t.fid at updates))))
  ]
    where
      left : list_any (updates_byte at) (staying m t.fid (t ∷ [])) ≡ false → is_dirty_left m t.fid (t ∷ []) at ≡ true
      left n = and_from (is_dirty_in m.dirty t.fid at) (covers_left m t.fid (t ∷ []) (t ∷ []) at) dirty
          (and_from (list_any (updates_byte at) (t ∷ []))
          (not (list_any (updates_byte at) (staying m t.fid (t ∷ []))))
          (or_left (updates_byte at t) false (updated_by t t.fid at updates))
          (false_not (list_any (updates_byte at) (staying m t.fid (t ∷ []))) n))

  clean_length : updates_status t.kind ≡ true → is_length_clean m.lengths (content m.cache) t.fid ≡ true
  clean_length e = elim (by_test (is_length_clean m.lengths (content m.cache) t.fid)) [
    | inl c ↦ c
    | inr n ↦ absurd (free (inr (inr (e, dirty n))))
  ]
    where
      dirty : is_length_clean m.lengths (content m.cache) t.fid ≡ false → is_some (dirty_length m t.fid) ≡ true
      dirty n =
          let here = and_from (same_fid t.fid t.fid) (updates_status t.kind) (fid_same t.fid t.fid refl) e in
          let any = any_in (is_updating t.fid) (held_of m) t held here in
          let both = and_from (list_any (is_updating t.fid) (held_of m))
          (not (is_length_clean m.lengths (content m.cache) t.fid)) any
          (false_not (is_length_clean m.lengths (content m.cache) t.fid) n) in
          ap (λ (b : Bool). is_some (if b then Some (content m.cache t.fid Size) else None)) both

  clean_token : IsCleanToken m t
  clean_token = record {
    bytes = clean_bytes;
    unnamed = elim (by_test (list_any (names t.id) m.gives.gives)) [ inl e ↦ absurd (free (inl e)) | inr n ↦ n ];
    length = clean_length;
  }

-- # The step
module _ (script : Script) (m : Tables) (past : List Step) (running : IsRunning script m past) (t : Token)
    (held : In t (held_of m)) where
  declared : IsServer script.roster (home t.fid.fileset)
  declared = (running.tidy.held t held).declared

  returned_sound : IsSound script.roster (returned m t)
  returned_sound = record {
    host = running.tidy.host;
    server = declared;
    way = refl;
    apart = λ e. absurd (cc);
    moves = tt;
    body = record { home = λ e. home_number t.fid.fileset; issued = ((running.tidy.held t held).issued, tt) };
  }

  evicted_tidy : (cache : Kept) → ((u : Token) → In u (tokens_of cache.held) → In u (held_of m))
      → seen cache ≡ after_drop (seen m.cache) t.id → IsTidy script.roster (record m { cache = cache })
  evicted_tidy cache fewer shown = tidy_stays script.roster m (record m { cache = cache }) running.tidy (record {
    host_is = refl;
    servers = refl;
    held = λ u i. inl (fewer u i);
    sizes = size_left m.cache cache (t ∷ []) shown;
    leaving = λ y i. inl i;
    gives = λ y g i e. inl i;
    fetch = λ f e. inl e;
    change = λ v c e. inl e;
    call = λ c e. inl e;
    homes = λ h i. inl i;
    floors = λ f i. inl i;
  })

module _ (m new : Tables) (after : Draft) (t : Token) (free : m.call ≡ None)
    (many : m.limit < length (filter is_idle m.cache.held)) (once : IsOnce m.cache.held)
    (oldest : oldest_of m ≡ Some t) (its : EvictsIt m no_draft t new after) (none : its.leaves.giving ≡ []) where
  given_is : (its.leaves.given ≡ m) × (its.leaves.made ≡ no_draft)
  given_is = subst (λ (g : List Token). GivesWhere m no_draft t.fid g (t ∷ []) its.leaves.given its.leaves.made) none
      its.leaves.gives

  tables_are : new ≡ record m { cache = new.cache }
  tables_are = its.leaves.drops.tables ∙ ap (λ (x : Tables). record x { cache = new.cache }) given_is.0

  shown : seen new.cache ≡ after_drop (seen m.cache) t.id
  shown = its.leaves.drops.shown ∙ ap (λ (x : Tables). after_drop (seen x.cache) t.id) given_is.0

  not_given : HasToGive m t.fid (t ∷ []) t → ⊥
  not_given h =
      let w = its.leaves.which in
      let e = w.has t (inl refl) h in
      let p : [] ≡ t ∷ [] = sym none ∙ w.some ∙ ap (λ (b : Bool). cond b (t ∷ []) []) e in absurd (cc)

  -- what the step has, but where the message goes
  abbrev said_by : Tables → ServerId → Draft
  said_by x v = record no_draft {
    dropped = leaves_by Evicted t ∷ [];
    sent = message_to x v (Returned (record { fid = t.fid; ids = t.id ∷ [] })) ∷ [];
  }

  pub draft_is : after ≡ said_by new (home_at t.fid.fileset)
  draft_is =
      its.sends
      ∙ ap (sending_due new) (its.leaves.draft_is
      ∙ (λ i. returning new t.fid (returned_ids (t ∷ []) (none i) []) (dropped_is i)))
    where
      dropped_is : its.leaves.dropped ≡ record no_draft { dropped = leaves_by Evicted t ∷ [] }
      dropped_is = its.leaves.drops.draft_is
          ∙ ap (λ (d : Draft). record d { dropped = d.dropped ++ leaves_by Evicted t ∷ [] }) given_is.1

  pub clean_evicted : OwnRight Evict m new (step_of (Host m.host) Evict after)
  clean_evicted script past running =
      let stands : Stands script m past = running.rests.stands in
      let r = oldest_is m t stands.cache.once oldest in
      let h : Held = r.0 in
      let within : In t (held_of m) = subst (λ (u : Token). In u (held_of m)) r.2
      (map_in (λ (x : Held). x.token) m.cache.held h r.3) in
      let clean : IsCleanToken m h.token = subst (IsCleanToken m) (sym r.2) (clean_token m t within not_given) in
      let without : IsWithout m.cache new.cache h.token.id =
      drops_alike m.cache new.cache h.token.id (shown ∙ ap (λ (u : Token). after_drop (seen m.cache) u.id) (sym r.2))
      stands.cache.tells stands.contents.zero in
      let right = evicts_right script m past h new.cache running.rests free many (each_once m.cache.held once) r.1 clean
      without in
      let right_t = subst (λ (u : Token). StepRight script m (record m { cache = new.cache }) past (evicts_one m u)) r.2
      right in
      let at = home_is script.roster m running.tidy t.fid.fileset (declared script m past running t within) in
      let step : step_of (Host m.host) Evict after ≡ evicts_one m t =
      ap (step_of (Host m.host) Evict) (draft_is ∙ (λ i. said_by (tables_are i) (at i))) in
      subst (λ (q : Tables × Step). RunsOn script m q.0 past q.1 × (q.1.cause ≡ Evict))
      (λ i. (sym tables_are i, sym step i)) (
        runs_on script m (record m { cache = new.cache }) past (evicts_one m t) right_t refl
            (evicted_tidy script m past running t within new.cache (λ u i.
            let k = in_map (λ (x : Held). x.token) new.cache.held u i in
            let q = in_filter (is_other h.token.id) m.cache.held k.0
            (subst (λ (xs : List Held). In k.0 xs) without.held k.1) in
            subst (λ (x : Token). In x (held_of m)) (sym k.2) (map_in (λ (x : Held). x.token) m.cache.held k.0 q.0))
            shown) running.ending (asks_none (record m { cache = new.cache }) free)
            (gone_on script m past (evicts_one m t) running refl)
            (λ y i. elim i [
              | inl e ↦ subst (IsSound script.roster) (sym e) (returned_sound script m past running t within)
              | inr n ↦ elim n [ ]
            ]),
        refl,
      )
