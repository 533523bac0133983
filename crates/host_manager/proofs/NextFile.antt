-- Tokens of one file after the other leave: the next file.
use Rattle.base_types.specs.Ids.{same_fid}
use Rattle.base_types.specs.declared.ids.Fid.{Fid}
use Rattle.base_types.specs.declared.ids.FilesetId.{FilesetId}
use Rattle.base_types.specs.declared.limits.TheConstants.{FILE_BYTES_MAX}
use Rattle.host_cache.specs.Holding.{is_status}
use Rattle.host_cache.specs.Seen.{Seen, seen}
use Rattle.host_cache.specs.declared.held.Held.{Held}
use Rattle.host_dirty.specs.Dirtiness.{is_dirty as is_dirty_in}
use Rattle.host_dirty.specs.declared.dirty.Dirty.{Dirty}
use Rattle.host_gives.proofs.Adding.{adds}
use Rattle.host_gives.specs.Counters.{last_of}
use Rattle.host_gives.specs.Giving.{after_add, is_of, names, outstanding, given_in}
use Rattle.host_leaves.proofs.DirtyTokens.{at_file as file_at}
use Rattle.host_leaves.specs.Dirtying.{covers_left, is_named, staying, tokens_at, updates_byte}
use Rattle.host_leaves.specs.Giving.{AreGiven, AreLeft, Gives, GivesWhere, HasToGive, Leaves, ids_of, leaves_by}
use Rattle.host_leaves.specs.Giving.{leaving_by, returned_ids, returning, shown_without, with_length_of}
use Rattle.host_leaves.specs.Owning.{dirty_length}
use Rattle.host_leaves.specs.Revoking.{of_file}
use Rattle.host_leaves.specs.Sending.{message_to, with_once}
use Rattle.host_manager.proofs.Given.{of_body}
use Rattle.host_manager.proofs.LeftFile.{without_more, leaves_more, any_last, last_or, in_last, alike, and_true}
use Rattle.host_manager.proofs.LeftFile.{is_some_if, cleaned, length_other, length_here, byte_shows, size_shows}
use Rattle.host_manager.proofs.LeftFile.{shows_there, returning_only, returning_says, returning_keeps, returning_said}
use Rattle.host_manager.proofs.LeftFile.{some_where}
use Rattle.host_manager.proofs.LeftSo.{start_by, OnceSo, returns}
use Rattle.host_manager.proofs.OnceSaid.{once_append, once_more}
use Rattle.host_manager.proofs.OneFile.{at_file}
use Rattle.host_manager.proofs.PartSo.{HasLeft, IsPart, PartSaid, PartSo, gone_or, held_from, kept}
use Rattle.host_manager.proofs.Repeated.{with_once_from, with_once_has, with_once_keeps, with_once_once}
use Rattle.host_manager.proofs.SortedSo.{filter_once}
use Rattle.host_tables.proofs.Lists.{any_in, by_test, false_any, fid_same, filter_in, id_same, in_any, in_either}
use Rattle.host_tables.proofs.Lists.{in_filter, in_left, in_map, in_right, map_in, none_in, not_true, same_fid_is}
use Rattle.host_tables.proofs.Lists.{same_id_is, true_false, true_not}
use Rattle.host_tables.proofs.Outstanding.{found_in, found_some}
use Rattle.host_tables.specs.LeavingSteps.{Left, with_left}
use Rattle.host_tables.specs.Tables.{content, held_of, is_updating, length_given, updates_status}
use Rattle.host_tables.specs.Updates.{home_at}
use Rattle.host_gives.specs.declared.leavings.Leaving.{Leaving}
use Rattle.host_tables.specs.declared.draft.Draft.{Draft}
use Rattle.host_lengths.specs.declared.given.Given.{Given}
use Rattle.host_tables.specs.declared.tables.Tables.{Tables}
use Rattle.message_types.specs.declared.giving.AppliedGive.{AppliedGive}
use Rattle.message_types.specs.declared.giving.Give.{Give}
use Rattle.message_types.specs.declared.message.Body.{Body}
use Rattle.message_types.specs.declared.message.Body.TheVariants.{GiveBack, Returned}
use Rattle.message_types.specs.declared.message.Message.{Message}
use Rattle.message_types.specs.declared.tokens.Named.{Named}
use Rattle.run_rules.specs.Past.{EachOnce, In}
use Rattle.run_rules.specs.Tokens.{number_of}
use Rattle.run_rules.specs.Views.{HasLength, byte_of}
use Rattle.run_rules.specs.declared.applied.Leave.{Leave}
use Rattle.run_rules.specs.declared.applied.Why.{Why}
use Rattle.std.proofs.Common.{Bool, List, None, Option, Some, [], ap, arith, eq-eqb, eqb-true, false, filter}
use Rattle.std.proofs.Common.{if◌then◌else◌, inl, inr, is_none, is_some, map, not, refl, subst, suc, sym, true, ℕ, ◌&&◌}
use Rattle.std.proofs.Common.{◌++◌, ◌+◌, ◌<◌, ◌==◌, ◌||◌, ◌∙◌, ◌∷◌, ◌≡◌, ◌≤◌, ◌⊎◌}
use Rattle.std.proofs.lemmas.Bool.{and_parts}
use Rattle.std.specs.List.{list_any}
use Rattle.std.specs.Option.{option_map_or}
use Rattle.token_types.specs.Conflicts.{same_id}
use Rattle.token_types.specs.declared.token.Token.{Token}
use Rattle.token_types.specs.declared.token.TokenId.{TokenId}
use Rattle.tree_laws.specs.Parts.Part.{ByteAt, Size}

-- # The next file
module _ (why : Why) (m : Tables) (once : (t u : Token) → In t (held_of m) → In u (held_of m) → t.id ≡ u.id → t ≡ u)
    (tells : (h : Held) → In h m.cache.held → is_status h.token.kind ≡ true → h.tells ≡ true)
    (zero : (fid : Fid) (at : ℕ) → FILE_BYTES_MAX ≤ at → content m.cache fid (ByteAt at) ≡ 0)
    (tokens : List Token) (their : (t : Token) → In t tokens → In t (held_of m)) (first : List Message)
    (asked : Fid) (all_back now_back : List TokenId) (l : Left) (lost : List Fid) (fids : List Fid)
    (gone : List Token) (made : List Give) (so : PartSo m tokens l fids gone made) (sent : List Message)
    (due : List FilesetId) (saying_so : PartSaid m first asked all_back fids gone made sent due)
    (each : OnceSo m gone made sent due) (tokens_once : EachOnce tokens)
    (plain_first : (y : Message) → In y first → (w : Named) → y.body ≡ Returned w → ⊥)
    (fid : Fid) (fresh : In fid fids → ⊥) (backs : (i : TokenId) → In i now_back → In i all_back × (fid ≡ asked))
    (now_all : asked ≡ fid → (i : TokenId) → In i all_back → In i now_back) where
  abbrev pub x : Tables
  x = record (with_left m l) { lost = lost }

  abbrev pub more : List Fid
  more = fids ++ fid ∷ []

  abbrev leaving : List Token
  leaving = of_file fid tokens

  abbrev then_gone : List Token
  then_gone = gone ++ leaving

  abbrev start : List Give → List Token → List Message → List FilesetId → Draft
  start = start_by why

  -- it has left beside the others
  abbrev NextLeft : Tables → Draft → Type 0
  NextLeft y e = (h : HasLeft why m tokens first asked all_back lost more y e)
      × (seen h.l.cache ≡ shown_without (seen l.cache) leaving)

  from_of : (t : Token) → In t (held_of x) → In t (held_of m) × (In t gone → ⊥)
  from_of t i = held_from m once tells zero tokens their l fids gone made so t i

  left_from : (t : Token) → In t leaving → In t tokens × (t.fid ≡ fid) × (In t gone → ⊥)
  left_from t i =
      let f = in_filter (λ (token : Token). same_fid token.fid fid) tokens t i in
      let at = same_fid_is t.fid fid f.1 in
      (f.0, at, λ j. fresh (subst (λ (z : Fid). In z fids) at (so.from t j).1))

  left_held : (t : Token) → In t leaving → In t (held_of m)
  left_held t i = their t (left_from t i).0

  in_leaving : (t : Token) → In t tokens → t.fid ≡ fid → In t leaving
  in_leaving t i e = filter_in (λ (token : Token). same_fid token.fid fid) tokens t i (fid_same t.fid fid e)

  of_its : (t : Token) → In t leaving → of_file t.fid tokens ≡ leaving
  of_its t i = ap (λ (z : Fid). of_file z tokens) (left_from t i).1

  -- # What is seen of the file
  none_made : (g : Give) → In g made → g.fid ≡ fid → ⊥
  none_made g i e = fresh (subst (λ (z : Fid). In z fids) e (so.its_file g i))

  dirty_same : (at : ℕ) → is_dirty_in l.dirty fid at ≡ is_dirty_in m.dirty fid at
  dirty_same at =
      let none : list_any (λ (g : Give). same_fid g.fid fid && is_some (byte_of g.pieces at)) made ≡ false =
      false_any (λ (g : Give). same_fid g.fid fid && is_some (byte_of g.pieces at)) made
      (λ g i e. none_made g i (same_fid_is g.fid fid
      (and_parts (same_fid g.fid fid) (is_some (byte_of g.pieces at)) e).0)) in
      so.dirty fid at ∙ ap (λ (b : Bool). is_dirty_in m.dirty fid at && not b) none
      ∙ and_true (is_dirty_in m.dirty fid at)

  not_gone : (t : Token) → In t (held_of m) → t.fid ≡ fid → In t (held_of x)
  not_gone t i e = elim (gone_or m once tells zero tokens their l fids gone made so t i) [
    | inl j ↦ absurd (fresh (subst (λ (z : Fid). In z fids) e (so.from t j).1))
    | inr j ↦ j
  ]

  byte_same : (t : Token) (at : ℕ) → In t leaving → updates_byte at t ≡ true
      → content l.cache fid (ByteAt at) ≡ content m.cache fid (ByteAt at)
  byte_same t at i e =
      let f = left_from t i in
      let here = not_gone t (their t f.0) f.1 in
      (kept m once tells zero tokens their l fids gone made so).content_is fid (ByteAt at)
      (shows_there (held_of x) t fid (ByteAt at) here f.1 (byte_shows t.kind at e))

  abbrev updated : Tables → Bool
  updated y = list_any (is_updating fid) (held_of y)

  updated_same : updated x ≡ updated m
  updated_same = alike (updated x) (updated m)
      (λ e.
      let r = in_any (is_updating fid) (held_of x) e in
      any_in (is_updating fid) (held_of m) r.0 (from_of r.0 r.1).0 r.2)
      (λ e.
      let r = in_any (is_updating fid) (held_of m) e in
      let f = same_fid_is r.0.fid fid (and_parts (same_fid r.0.fid fid) (updates_status r.0.kind) r.2).0 in
      any_in (is_updating fid) (held_of x) r.0 (not_gone r.0 r.1 f) r.2)

  size_same : updated x ≡ true → content l.cache fid Size ≡ content m.cache fid Size
  size_same e =
      let r = in_any (is_updating fid) (held_of x) e in
      let b = and_parts (same_fid r.0.fid fid) (updates_status r.0.kind) r.2 in
      (kept m once tells zero tokens their l fids gone made so).content_is fid Size
      (shows_there (held_of x) r.0 fid Size r.1 (same_fid_is r.0.fid fid b.0) (size_shows r.0.kind b.1))

  lengths_same : length_given l.lengths fid ≡ length_given m.lengths fid
  lengths_same = so.length_old fid (λ g i h. none_made g i h.0)

  abbrev dirty_by : Bool → Option Given → ℕ → Option ℕ
  dirty_by any o n =
      if any && not (option_map_or (λ (given : Given). (given.length == n) && given.known) o false)
      then Some n else None

  length_same : dirty_length x fid ≡ dirty_length m fid
  length_same = elim (by_test (updated x)) [
    | inl e ↦ λ i. dirty_by (updated_same i) (lengths_same i) (size_same e i)
    | inr n ↦ ap (λ (b : Bool). dirty_by b (length_given l.lengths fid) (content l.cache fid Size)) n
        ∙ sym (ap (λ (b : Bool). dirty_by b (length_given m.lengths fid) (content m.cache fid Size))
        (sym updated_same ∙ n))
  ]

  -- those of the file that stay are the same
  stays_same : (at : ℕ) → list_any (updates_byte at) (staying x fid leaving)
      ≡ list_any (updates_byte at) (staying m fid leaving)
  stays_same at = alike (list_any (updates_byte at) (staying x fid leaving))
      (list_any (updates_byte at) (staying m fid leaving))
      (λ e.
      let r = in_any (updates_byte at) (staying x fid leaving) e in
      let q = in_filter (λ token. not (is_named leaving token)) (tokens_at x fid) r.0 r.1 in
      let f = file_at x fid r.0 q.0 in
      any_in (updates_byte at) (staying m fid leaving) r.0
      (filter_in (λ token. not (is_named leaving token)) (tokens_at m fid) r.0
      (at_file m fid r.0 (from_of r.0 f.0).0 f.1) q.1) r.2)
      (λ e.
      let r = in_any (updates_byte at) (staying m fid leaving) e in
      let q = in_filter (λ token. not (is_named leaving token)) (tokens_at m fid) r.0 r.1 in
      let f = file_at m fid r.0 q.0 in
      any_in (updates_byte at) (staying x fid leaving) r.0
      (filter_in (λ token. not (is_named leaving token)) (tokens_at x fid) r.0
      (at_file x fid r.0 (not_gone r.0 f.0 f.1) f.1) q.1) r.2)

  covers_same : (giving : List Token) (at : ℕ) → covers_left x fid giving leaving at
      ≡ covers_left m fid giving leaving at
  covers_same giving at = ap (λ (b : Bool). list_any (updates_byte at) giving && not b) (stays_same at)

  has_to : (t : Token) → In t leaving → HasToGive m fid leaving t → HasToGive x fid leaving t
  has_to t i (inl e) =
      let r = in_any (names t.id) m.gives.gives e in
      inl (any_in (names t.id) l.gives.gives r.0 (so.gives_old r.0 r.1) r.2)
  has_to t i (inr (inl (at, dirty, updates))) =
      inr (inl (at, (λ i. dirty_same at i && covers_same leaving at i) ∙ dirty, updates))
  has_to t i (inr (inr (updates, dirty))) = inr (inr (updates, ap (λ (o : Option ℕ). is_some o) length_same ∙ dirty))

  -- # Tokens that have left
  gone_from : (t : Token) → In t then_gone → In t tokens × In t.fid more
  gone_from t i = elim (in_either gone leaving t i) [
    | inl j ↦ (let r = so.from t j in (r.0, in_left fids (fid ∷ []) t.fid r.1))
    | inr j ↦ (let r = left_from t j in (r.0, in_right fids (fid ∷ []) t.fid (inl r.1)))
  ]

  gone_all : (t : Token) → In t tokens → In t.fid more → In t then_gone
  gone_all t i j = elim (last_or fids fid t.fid j) [
    | inl k ↦ in_left gone leaving t (so.all t i k)
    | inr e ↦ in_right gone leaving t (in_leaving t i e)
  ]

  -- a token of the file that leaves isn't in an earlier give-back
  not_in_made : (t : Token) (g : Give) → In t leaving → In g made → In t.id g.ids → ⊥
  not_in_made t g i j n =
      let w = so.part g j in
      let k = in_map (λ (u : Token). u.id) w.named t.id (subst (λ (is : List TokenId). In t.id is) w.ids n) in
      let f = in_filter (λ (token : Token). same_fid token.fid g.fid) tokens k.0 (w.from k.0 k.1) in
      let same : k.0 ≡ t = once k.0 t (their k.0 f.0) (left_held t i) (sym k.2) in
      fresh (subst (λ (z : Fid). In z fids) (sym (same_fid_is k.0.fid g.fid f.1) ∙ ap (λ (u : Token). u.fid) same
      ∙ (left_from t i).1) (so.its_file g j))

  names_it : (y : Message) (g : Give) (i : TokenId) → y.body ≡ GiveBack g → names i y ≡ true → In i g.ids
  names_it y g i e n =
      let p = subst (λ (b : Body). option_map_or (λ (give : Give). list_any (λ other. same_id other i) give.ids)
      (given_in b) false ≡ true) e n in
      let k = in_any (λ (other : TokenId). same_id other i) g.ids p in
      subst (λ (z : TokenId). In z g.ids) (same_id_is k.0 i k.2) k.1

  has_back : (t : Token) → In t leaving → HasToGive x fid leaving t → HasToGive m fid leaving t
  has_back t i (inl e) =
      let r = in_any (names t.id) l.gives.gives e in
      elim (so.gives_from r.0 r.1) [
        | inl was ↦ inl (any_in (names t.id) m.gives.gives r.0 was r.2)
        | inr q ↦ absurd (not_in_made t q.0 i q.2 (names_it r.0 q.0 t.id q.1 r.2))
      ]
  has_back t i (inr (inl (at, dirty, updates))) =
      inr (inl (at, (λ i. sym (dirty_same at) i && sym (covers_same leaving at) i) ∙ dirty, updates))
  has_back t i (inr (inr (updates, dirty))) =
      inr (inr (updates, ap (λ (o : Option ℕ). is_some o) (sym length_same) ∙ dirty))

  -- each of them has left once
  gone_once : EachOnce then_gone
  gone_once = once_append gone leaving each.tokens
      (filter_once (λ (token : Token). same_fid token.fid fid) tokens tokens_once) (λ t i j. (left_from t j).2 i)

  -- and is returned once
  sent_once : (z : Tables) (d : Draft) (ids : List TokenId) → d.sent ≡ sent → EachOnce (returning z fid ids d).sent
  sent_once z d [] e = subst EachOnce (sym e) each.messages
  sent_once z d (k ∷ ids) e =
      let y : Message = message_to z (home_at fid.fileset) (Returned (record { fid = fid; ids = k ∷ ids })) in
      once_more d.sent y (subst EachOnce (sym e) each.messages)
      (λ i. elim (saying_so.said y (subst (λ (ys : List Message). In y ys) e i)) [
        | inl f ↦ plain_first y f (record { fid = fid; ids = k ∷ ids }) refl
        | inr r ↦
            let p : Returned (record { fid = fid; ids = k ∷ ids }) ≡ Returned r.0 =
            ap (λ (z : Message). z.body) r.1 in
            let same : r.0.fid ≡ fid = cc in
            fresh (subst (λ (f : Fid). In f fids) same r.2)
      ])

  its_to : (t : Token) → In t leaving → HasToGive m t.fid (of_file t.fid tokens) t → HasToGive m fid leaving t
  its_to t i h = subst (λ (z : Fid). HasToGive m z (of_file z tokens) t) (left_from t i).1 h

  module _ (giving : List Token) (which : AreGiven x fid leaving giving) where
    abbrev back : List TokenId
    back = returned_ids leaving giving now_back

    abbrev named : Named
    named = record { fid = fid; ids = back }

    given_left : (t : Token) → In t giving → In t leaving
    given_left t i = (in_filter which.test leaving t (subst (λ (ts : List Token). In t ts) which.some i)).0

    given_to : (t : Token) → In t leaving → which.test t ≡ true → In t giving
    given_to t i e = subst (λ (ts : List Token). In t ts) (sym which.some) (filter_in which.test leaving t i e)

    has_given : (t : Token) → In t leaving → HasToGive m fid leaving t → In t giving
    has_given t i h = given_to t i (which.has t i (has_to t i h))

    -- which are returned
    back_of : (i : TokenId) → In i back
        → ((u : Token) × In u leaving × (In u giving → ⊥) × (u.id ≡ i)) ⊎ (In i all_back × (fid ≡ asked))
    back_of i j = elim (in_either (ids_of (filter (λ token. not (is_named giving token)) leaving)) now_back i j) [
      | inl k ↦
          let r = in_map (λ (t : Token). t.id) (filter (λ token. not (is_named giving token)) leaving) i k in
          let q = in_filter (λ token. not (is_named giving token)) leaving r.0 r.1 in
          inl (
            r.0,
            q.0,
            (λ g. not_true (is_named giving r.0) q.1 (any_in (λ (t : Token). same_id t.id r.0.id) giving r.0 g
                (id_same r.0.id r.0.id refl))),
            sym r.2,
          )
      | inr n ↦ inr (backs i n)
    ]

    in_back : (u : Token) → In u leaving → (In u giving → ⊥) → In u.id back
    in_back u i n =
        in_left (ids_of (filter (λ token. not (is_named giving token)) leaving)) now_back u.id
        (map_in (λ (t : Token). t.id) (filter (λ token. not (is_named giving token)) leaving) u
        (filter_in (λ token. not (is_named giving token)) leaving u i (true_not (is_named giving u) (λ e.
        let r = in_any (λ (t : Token). same_id t.id u.id) giving e in
        n (subst (λ (t : Token). In t giving) (once r.0 u (left_held r.0 (given_left r.0 r.1)) (left_held u i)
        (same_id_is r.0.id u.id r.2)) r.1)))))

    rest_back : (i : TokenId) → In i all_back → asked ≡ fid → In i back
    rest_back i j e =
        in_right (ids_of (filter (λ token. not (is_named giving token)) leaving)) now_back i (now_all e i j)

    given_or : (u : Token) → In u leaving → In u giving ⊎ (In u giving → ⊥)
    given_or u i = elim (by_test (which.test u)) [
      | inl e ↦ inl (given_to u i e)
      | inr n ↦ inr (λ g. true_false (which.test u)
          (in_filter which.test leaving u (subst (λ (ts : List Token). In u ts) which.some g)).1 n)
    ]

    -- # Nothing is given back
    module _ (none : giving ≡ []) (y : Tables) (e : Draft)
        (shown : seen y.cache ≡ shown_without (seen l.cache) leaving)
        (tables : y ≡ record x { cache = y.cache })
        (draft : e ≡ returning y fid back (start made then_gone sent due)) where
      abbrev bare_left : Left
      bare_left = record l { cache = y.cache }

      abbrev bare_draft : Draft
      bare_draft = returning (with_left m bare_left) fid back (start made then_gone sent due)

      none_given : (t : Token) → In t giving → ⊥
      none_given t i = none_in giving none t i

      bare_so : PartSo m tokens bare_left more then_gone made
      bare_so = record {
        uses = so.uses;
        ending = so.ending;
        shown = shown ∙ ap (λ (s : Seen). shown_without s leaving) so.shown
            ∙ without_more (seen m.cache) gone leaving;
        from = gone_from;
        all = gone_all;
        part = so.part;
        its_file = λ g i. in_left fids (fid ∷ []) g.fid (so.its_file g i);
        one = so.one;
        has = λ t i h. elim (in_either gone leaving t i) [
          | inl j ↦ so.has t j h
          | inr j ↦ absurd (none_given t (has_given t j
              (its_to t j h)))
        ];
        above = so.above;
        next = so.next;
        apart = so.apart;
        dirty = so.dirty;
        length_new = so.length_new;
        length_old = so.length_old;
        gives_from = so.gives_from;
        gives_old = so.gives_old;
        gives_new = so.gives_new;
        last_up = so.last_up;
        last_new = so.last_new;
        last_is = so.last_is;
        leaving_old = so.leaving_old;
        leaving_new = so.leaving_new;
        leaving_from = so.leaving_from;
      }

      bare_said : PartSaid m first asked all_back more then_gone made bare_draft.sent due
      bare_said = record {
        said = λ z i. elim (returning_says (with_left m bare_left) fid back (start made then_gone sent due) z i) [
          | inl j ↦ elim (saying_so.said z j) [
            | inl f ↦ inl f
            | inr r ↦ inr (
              r.0,
              r.1,
              in_left fids (fid ∷ []) r.0.fid r.2,
              λ k n. elim (r.3 k n) [
                | inl q ↦ inl (q.0, in_left gone leaving q.0 q.1, q.2, q.3, q.4)
                | inr b ↦ inr b
              ],
            )
          ]
          | inr q ↦ inr (
            named,
            q,
            in_last fids fid,
            λ k n. elim (back_of k n) [
              | inl u ↦ inl (
                u.0,
                in_right gone leaving u.0 u.1,
                u.3,
                (left_from u.0 u.1).1,
                λ g j o. not_in_made u.0 g u.1 j (subst (λ (z : TokenId). In z g.ids) (sym u.3) o),
              )
              | inr b ↦ inr b
            ],
          )
        ];
        keeps = λ z i. returning_keeps (with_left m bare_left) fid back (start made then_gone sent due) z
            (saying_so.keeps z i);
        back = λ t i. elim (in_either gone leaving t i) [
          | inl j ↦ elim (saying_so.back t j) [
            | inl r ↦ inl r
            | inr r ↦ inr (
              r.0,
              returning_keeps (with_left m bare_left) fid back (start made then_gone sent due) (returns m r.0) r.1,
              r.2,
            )
          ]
          | inr j ↦
              let n = in_back t j (none_given t) in
              inr (
                named,
                returning_said (with_left m bare_left) fid back (start made then_gone sent due) t.id n,
                n,
              )
        ];
        rest = λ i j at. elim (in_either fids (fid ∷ []) asked at) [
          | inl k ↦
              let r = saying_so.rest i j k in (
                r.0,
                returning_keeps (with_left m bare_left) fid back (start made then_gone sent due) (returns m r.0) r.1,
                r.2,
                r.3,
              )
          | inr k ↦ elim k [
            | inl e ↦ (
              named,
              returning_said (with_left m bare_left) fid back (start made then_gone sent due) i (rest_back i j e),
              rest_back i j e,
              sym e,
            )
            | inr n ↦ elim n [ ]
          ]
        ];
        due = saying_so.due;
      }

      bare_file : NextLeft y e
      bare_file = (
        record {
          l = bare_left;
          gone = then_gone;
          made = made;
          sent = bare_draft.sent;
          due = due;
          tables = tables;
          draft = draft
              ∙ ap (λ (z : Tables). returning z fid back (start made then_gone sent due)) tables
              ∙ returning_only (with_left m bare_left) fid back (start made then_gone sent due);
          left = bare_so;
          said = bare_said;
          once = record {
            tokens = gone_once;
            gives = each.gives;
            messages = sent_once (with_left m bare_left) (start made then_gone sent due) back refl;
            filesets = each.filesets;
            new = each.new;
          };
        },
        shown,
      )

    -- # A give-back is made
    module _ (g : Give) (some : giving ≡ [] → ⊥) (number : g.number ≡ last_of l.gives.counters fid.fileset + 1)
        (file : g.fid ≡ fid) (ids : g.ids ≡ ids_of giving) (pieces : AreLeft x fid giving leaving g.pieces)
        (length : g.length ≡ dirty_length x fid) (ends : g.ends ≡ None) (dirty : Dirty)
        (cleans : (other : Fid) (at : ℕ) → is_dirty_in dirty other at
        ≡ (is_dirty_in l.dirty other at && not (same_fid fid other && covers_left x fid giving leaving at)))
        (y : Tables) (e : Draft) (shown : seen y.cache ≡ shown_without (seen l.cache) leaving) where
      abbrev message : Message
      message = message_to m (home_at g.fid.fileset) (GiveBack g)

      abbrev then_made : List Give
      then_made = made ++ g ∷ []

      abbrev due_by : Bool → List FilesetId
      due_by b = if b then with_once due g.fid.fileset else due

      abbrev then_due : List FilesetId
      then_due = due_by (is_none (outstanding l.gives g.fid.fileset))

      abbrev then_left : Left
      then_left = record {
        cache = y.cache;
        dirty = dirty;
        lengths = with_length_of g.fid g.number g.length l.lengths;
        uses = l.uses;
        gives = after_add l.gives message;
        leaving = l.leaving ++ map (leaving_by g.fid.fileset g.number) giving;
        ending = l.ending;
      }

      abbrev then_draft : Draft
      then_draft = returning (with_left m then_left) fid back (start then_made then_gone sent then_due)

      fileset : g.fid.fileset ≡ fid.fileset
      fileset = ap (λ (f : Fid). f.fileset) file

      bytes_at : (at : ℕ) → byte_of g.pieces at ≡ (if is_dirty_in m.dirty fid at && covers_left m fid giving leaving at
          then Some (content m.cache fid (ByteAt at)) else None)
      bytes_at at =
          pieces.bytes at
          ∙ some_where (is_dirty_in l.dirty fid at) (is_dirty_in m.dirty fid at) (covers_left x fid giving leaving at)
          (covers_left m fid giving leaving at) (content l.cache fid (ByteAt at)) (content m.cache fid (ByteAt at))
          (dirty_same at) (covers_same giving at)
          (λ any.
          let r = in_any (updates_byte at) giving
          (and_parts (list_any (updates_byte at) giving) (not (list_any (updates_byte at) (staying m fid leaving)))
          any).0 in byte_same r.0 at (given_left r.0 r.1) r.2)

      part : IsPart m tokens g
      part = record {
        named = giving;
        from = λ t i. subst (λ (z : Fid). In t (of_file z tokens)) (sym file) (given_left t i);
        ids = ids;
        some = some;
        only = λ t i. subst (λ (z : Fid). HasToGive m z (of_file z tokens) t) (sym file)
            (has_back t (given_left t i) (which.why t (given_left t i)
            (in_filter which.test leaving t (subst (λ (ts : List Token). In t ts) which.some i)).1));
        pieces = subst (λ (z : Fid). AreLeft m z giving (of_file z tokens) g.pieces) (sym file)
            (record { rise = pieces.rise; bytes = bytes_at; fit = pieces.fit });
        length = length ∙ length_same ∙ ap (dirty_length m) (sym file);
        ends = ends;
      }

      made_or : (k : Give) → In k then_made → In k made ⊎ (k ≡ g)
      made_or k i = last_or made g k i

      old : (k : Give) → In k made → In k then_made
      old k i = in_left made (g ∷ []) k i

      it : In g then_made
      it = in_last made g

      other_file : (k : Give) → In k made → k.fid ≡ g.fid → ⊥
      other_file k i q = none_made k i (q ∙ file)

      named_in : (t : Token) → In t giving → In t.id g.ids
      named_in t i = subst (λ (is : List TokenId). In t.id is) (sym ids) (map_in (λ (u : Token). u.id) giving t i)

      in_named : (i : TokenId) → In i g.ids → (t : Token) × In t giving × (t.id ≡ i)
      in_named i n =
          let r = in_map (λ (t : Token). t.id) giving i (subst (λ (is : List TokenId). In i is) ids n) in
          (r.0, r.1, sym r.2)

      -- its number
      last_before : last_of l.gives.counters g.fid.fileset + 1 ≡ g.number
      last_before = ap (λ (fs : FilesetId). last_of l.gives.counters fs + 1) fileset ∙ sym number

      below : (k : Give) → In k made → k.fid.fileset ≡ g.fid.fileset → k.number < g.number
      below k i q =
          let low : k.number ≤ last_of l.gives.counters g.fid.fileset =
          subst (λ (fs : FilesetId). k.number ≤ last_of l.gives.counters fs) q (so.last_new k i) in
          let n = last_before in omega (arith, low, n)

      last_cases : (fs : FilesetId) → (last_of then_left.gives.counters fs ≡ last_of l.gives.counters fs)
          ⊎ ((g.fid.fileset ≡ fs) × (last_of then_left.gives.counters fs ≡ g.number))
      last_cases fs = elim (by_test (g.fid.fileset.0 == fs.0)) [
        | inl q ↦
            let n = eqb-true g.fid.fileset.0 fs.0 q in
            inr (
              (λ i. record { 0 = n i }),
              (adds l.gives message g).last fs
                  ∙ ap (λ (b : Bool). if b then g.number else last_of l.gives.counters fs) q,
            )
        | inr n ↦ inl ((adds l.gives message g).last fs
            ∙ ap (λ (b : Bool). if b then g.number else last_of l.gives.counters fs) n)
      ]

      then_up : (fs : FilesetId) → last_of l.gives.counters fs ≤ last_of then_left.gives.counters fs
      then_up fs = elim (last_cases fs) [
        | inl q ↦ omega (arith, q)
        | inr r ↦
            let q = ap (λ (z : FilesetId). last_of l.gives.counters z) r.0 in
            let k = r.1 in
            let n = last_before in omega (arith, q, k, n)
      ]

      last_here : last_of then_left.gives.counters g.fid.fileset ≡ g.number
      last_here = (adds l.gives message g).last g.fid.fileset
          ∙ ap (λ (b : Bool). if b then g.number else last_of l.gives.counters g.fid.fileset)
          (eq-eqb g.fid.fileset.0 g.fid.fileset.0 refl)

      above : (k : Give) → In k then_made → last_of m.gives.counters k.fid.fileset < k.number
      above k i = elim (made_or k i) [
        | inl j ↦ so.above k j
        | inr q ↦ subst (λ (z : Give). last_of m.gives.counters z.fid.fileset < z.number) (sym q)
            (let up = so.last_up g.fid.fileset in let n = last_before in omega (arith, up, n))
      ]

      abbrev Next : Give → Type 0
      Next k = (k.number ≡ last_of m.gives.counters k.fid.fileset + 1)
          ⊎ ((z : Give) × In z then_made × (z.fid.fileset ≡ k.fid.fileset) × (suc z.number ≡ k.number))

      next_it : Next g
      next_it = elim (so.last_is g.fid.fileset) [
        | inl q ↦ inl (let n = last_before in omega (arith, q, n))
        | inr r ↦ inr (
          r.0,
          old r.0 r.1,
          r.2,
          (let q = r.3 in let n = last_before in omega (arith, q, n)),
        )
      ]

      next : (k : Give) → In k then_made → Next k
      next k i = elim (made_or k i) [
        | inl j ↦ elim (so.next k j) [ inl q ↦ inl q | inr r ↦ inr (r.0, old r.0 r.1, r.2, r.3) ]
        | inr q ↦ subst Next (sym q) next_it
      ]

      number_apart : (k : Give) → In k made → number_of k ≡ number_of g → ⊥
      number_apart k i q =
          let low = below k i (ap (λ (n : AppliedGive). n.fileset) q) in
          let same : k.number ≡ g.number = ap (λ (n : AppliedGive). n.number) q in omega (arith, low, same)

      apart : (j k : Give) → In j then_made → In k then_made → number_of j ≡ number_of k → j ≡ k
      apart j k a b q = elim (made_or j a) [
        | inl c ↦ elim (made_or k b) [
          | inl d ↦ so.apart j k c d q
          | inr d ↦ absurd (number_apart j c (q ∙ ap number_of d))
        ]
        | inr c ↦ elim (made_or k b) [
          | inl d ↦ absurd (number_apart k d (sym q ∙ ap number_of c))
          | inr d ↦ c ∙ sym d
        ]
      ]

      one : (j k : Give) → In j then_made → In k then_made → j.fid ≡ k.fid → j ≡ k
      one j k a b q = elim (made_or j a) [
        | inl c ↦ elim (made_or k b) [
          | inl d ↦ so.one j k c d q
          | inr d ↦ absurd (other_file j c (q ∙ ap (λ (z : Give). z.fid) d))
        ]
        | inr c ↦ elim (made_or k b) [
          | inl d ↦ absurd (other_file k d (sym q ∙ ap (λ (z : Give). z.fid) c))
          | inr d ↦ c ∙ sym d
        ]
      ]

      has : (t : Token) → In t then_gone → HasToGive m t.fid (of_file t.fid tokens) t
          → (k : Give) × In k then_made × (k.fid ≡ t.fid) × In t.id k.ids
      has t i h = elim (in_either gone leaving t i) [
        | inl j ↦ (let r = so.has t j h in (r.0, old r.0 r.1, r.2, r.3))
        | inr j ↦ (
          g,
          it,
          file ∙ sym (left_from t j).1,
          named_in t (has_given t j
              (its_to t j h)),
        )
      ]

      -- what is dirty
      dirty_is : (f : Fid) (at : ℕ) → is_dirty_in dirty f at ≡ (is_dirty_in m.dirty f at
          && not (list_any (λ give. same_fid give.fid f && is_some (byte_of give.pieces at)) then_made))
      dirty_is f at =
          let has_it : Give → Bool = λ give. same_fid give.fid f && is_some (byte_of give.pieces at) in
          cleans f at
          ∙ ap (λ (b : Bool). b && not (same_fid fid f && covers_left x fid giving leaving at)) (so.dirty f at)
          ∙ cleaned (is_dirty_in m.dirty f at) (list_any has_it made) (same_fid fid f)
          (covers_left x fid giving leaving at) (is_some (byte_of g.pieces at))
          (λ d s.
          let here : is_dirty_in m.dirty fid at ≡ true =
          subst (λ (z : Fid). is_dirty_in m.dirty z at ≡ true) (sym (same_fid_is fid f s)) d in
          ap (λ (o : Option ℕ). is_some o) (bytes_at at)
          ∙ is_some_if (is_dirty_in m.dirty fid at) (covers_left m fid giving leaving at)
          (content m.cache fid (ByteAt at)) here
          ∙ sym (covers_same giving at))
          ∙ ap (λ (z : Fid). is_dirty_in m.dirty f at
          && not (list_any has_it made || (same_fid z f && is_some (byte_of g.pieces at)))) (sym file)
          ∙ ap (λ (b : Bool). is_dirty_in m.dirty f at && not b) (sym (any_last has_it made g))

      -- lengths
      length_new : (k : Give) (n : ℕ) → In k then_made → k.length ≡ Some n
          → length_given then_left.lengths k.fid
          ≡ Some (record { fid = k.fid; number = k.number; length = n; known = false })
      length_new k n i q = elim (made_or k i) [
        | inl j ↦
            length_other g.fid g.number g.length l.lengths k.fid (λ z p same. other_file k j (sym same))
            ∙ so.length_new k n j q
        | inr p ↦ subst (λ (z : Give). length_given then_left.lengths z.fid
            ≡ Some (record { fid = z.fid; number = z.number; length = n; known = false })) (sym p)
            (length_here g.fid g.number g.length l.lengths n (ap (λ (z : Give). z.length) (sym p) ∙ q))
      ]

      length_old : (f : Fid) → ((k : Give) → In k then_made → HasLength k f → ⊥)
          → length_given then_left.lengths f ≡ length_given m.lengths f
      length_old f none =
          length_other g.fid g.number g.length l.lengths f (λ n q same. none g it (same, (n, q)))
          ∙ so.length_old f (λ k i h. none k (old k i) h)

      -- give-backs
      gives_from : (z : Message) → In z then_left.gives.gives → In z m.gives.gives
          ⊎ ((k : Give) × (z.body ≡ GiveBack k) × In k then_made)
      gives_from z i = elim (last_or l.gives.gives message z i) [
        | inl j ↦ elim (so.gives_from z j) [ inl k ↦ inl k | inr r ↦ inr (r.0, r.1, old r.0 r.2) ]
        | inr q ↦ inr (g, ap (λ (w : Message). w.body) q, it)
      ]

      gives_new : (k : Give) → In k then_made → (z : Message) × In z then_left.gives.gives × (z.body ≡ GiveBack k)
      gives_new k i = elim (made_or k i) [
        | inl j ↦ (let r = so.gives_new k j in (r.0, in_left l.gives.gives (message ∷ []) r.0 r.1, r.2))
        | inr q ↦ (message, in_last l.gives.gives message, ap GiveBack (sym q))
      ]

      last_new : (k : Give) → In k then_made → k.number ≤ last_of then_left.gives.counters k.fid.fileset
      last_new k i = elim (made_or k i) [
        | inl j ↦ (let low = so.last_new k j in let up = then_up k.fid.fileset in omega (arith, low, up))
        | inr q ↦ subst (λ (z : Give). z.number ≤ last_of then_left.gives.counters z.fid.fileset) (sym q)
            (let n = last_here in omega (arith, n))
      ]

      last_is : (fs : FilesetId) → (last_of then_left.gives.counters fs ≡ last_of m.gives.counters fs)
          ⊎ ((k : Give) × In k then_made × (k.fid.fileset ≡ fs) × (k.number ≡ last_of then_left.gives.counters fs))
      last_is fs = elim (last_cases fs) [
        | inl q ↦ elim (so.last_is fs) [
          | inl p ↦ inl (q ∙ p)
          | inr r ↦ inr (r.0, old r.0 r.1, r.2, r.3 ∙ sym q)
        ]
        | inr r ↦ inr (g, it, r.0, sym r.1)
      ]

      -- tokens on their way
      abbrev on_way : List Leaving
      on_way = map (leaving_by g.fid.fileset g.number) giving

      leaving_new : (k : Give) (t : Token) → In k then_made → In t (held_of m) → In t.id k.ids
          → In (record { fileset = k.fid.fileset; number = k.number; token = t }) then_left.leaving
      leaving_new k t i j n = elim (made_or k i) [
        | inl c ↦ in_left l.leaving on_way (record { fileset = k.fid.fileset; number = k.number; token = t })
            (so.leaving_new k t c j n)
        | inr q ↦
            let r = in_named t.id (subst (λ (z : Give). In t.id z.ids) q n) in
            let same : r.0 ≡ t = once r.0 t (left_held r.0 (given_left r.0 r.1)) j r.2 in
            in_right l.leaving on_way (record { fileset = k.fid.fileset; number = k.number; token = t })
            (subst (λ (z : Leaving). In z on_way)
            (λ i. record { fileset = (sym q i).fid.fileset; number = (sym q i).number; token = same i })
            (map_in (leaving_by g.fid.fileset g.number) giving r.0 r.1))
      ]

      leaving_from : (z : Leaving) → In z then_left.leaving → In z m.leaving
          ⊎ ((k : Give) × In k then_made × In z.token (held_of m)
          × In z.token.id k.ids × (z.fileset ≡ k.fid.fileset) × (z.number ≡ k.number))
      leaving_from z i = elim (in_either l.leaving on_way z i) [
        | inl j ↦ elim (so.leaving_from z j) [
          | inl k ↦ inl k
          | inr r ↦ inr (r.0, old r.0 r.1, r.2, r.3, r.4, r.5)
        ]
        | inr j ↦
            let r = in_map (leaving_by g.fid.fileset g.number) giving z j in
            let at = ap (λ (w : Leaving). w.token) r.2 in
            inr (
              g,
              it,
              subst (λ (u : Token). In u (held_of m)) (sym at) (left_held r.0 (given_left r.0 r.1)),
              subst (λ (u : Token). In u.id g.ids) (sym at) (named_in r.0 r.1),
              ap (λ (w : Leaving). w.fileset) r.2,
              ap (λ (w : Leaving). w.number) r.2,
            )
      ]

      then_so : PartSo m tokens then_left more then_gone then_made
      then_so = record {
        uses = so.uses;
        ending = so.ending;
        shown = shown ∙ ap (λ (s : Seen). shown_without s leaving) so.shown
            ∙ without_more (seen m.cache) gone leaving;
        from = gone_from;
        all = gone_all;
        part = λ k i. elim (made_or k i) [
          | inl j ↦ so.part k j
          | inr q ↦ subst (IsPart m tokens) (sym q) part
        ];
        its_file = λ k i. elim (made_or k i) [
          | inl j ↦ in_left fids (fid ∷ []) k.fid (so.its_file k j)
          | inr q ↦ in_right fids (fid ∷ []) k.fid (inl (ap (λ (z : Give). z.fid) q ∙ file))
        ];
        one = one;
        has = has;
        above = above;
        next = next;
        apart = apart;
        dirty = dirty_is;
        length_new = length_new;
        length_old = length_old;
        gives_from = gives_from;
        gives_old = λ z i. in_left l.gives.gives (message ∷ []) z (so.gives_old z i);
        gives_new = gives_new;
        last_up = λ fs. let a = so.last_up fs in let b = then_up fs in omega (arith, a, b);
        last_new = last_new;
        last_is = last_is;
        leaving_old = λ z i. in_left l.leaving on_way z (so.leaving_old z i);
        leaving_new = leaving_new;
        leaving_from = leaving_from;
      }

      -- # What is said
      due_keeps : (b : Bool) (fs : FilesetId) → In fs due → In fs (due_by b)
      due_keeps true fs i = with_once_keeps due g.fid.fileset fs i
      due_keeps false fs i = i

      due_it : outstanding m.gives g.fid.fileset ≡ None → In g.fid.fileset then_due
      due_it none = by_one (outstanding l.gives g.fid.fileset) refl
        where
          by_one : (o : Option Message) → outstanding l.gives g.fid.fileset ≡ o → In g.fid.fileset (due_by (is_none o))
          by_one None q = with_once_has due g.fid.fileset
          by_one (Some z) q =
              let f = found_in (is_of g.fid.fileset) l.gives.gives z q in
              elim (so.gives_from z f.0) [
                | inl was ↦
                    let r = found_some (is_of g.fid.fileset) m.gives.gives z was f.1 in
                    let p = sym none ∙ r.1 in absurd (cc)
                | inr r ↦
                    let n = eqb-true r.0.fid.fileset.0 g.fid.fileset.0
                    (sym (of_body z r.0 g.fid.fileset r.1) ∙ f.1) in
                    let same : r.0.fid.fileset ≡ g.fid.fileset = λ i. record { 0 = n i } in
                    subst (λ (fs : FilesetId). In fs due) same
                    (saying_so.due r.0 r.2 (ap (outstanding m.gives) same ∙ none))
              ]

      dues_once : (b : Bool) → EachOnce (due_by b)
      dues_once true = with_once_once due g.fid.fileset each.filesets
      dues_once false = each.filesets

      due_new : (fs : FilesetId) → In fs then_due → outstanding m.gives fs ≡ None
      due_new fs i = by_one (outstanding l.gives g.fid.fileset) refl i
        where
          none_yet : outstanding l.gives g.fid.fileset ≡ None → outstanding m.gives g.fid.fileset ≡ None
          none_yet none = by_old (outstanding m.gives g.fid.fileset) refl
            where
              by_old : (o : Option Message) → outstanding m.gives g.fid.fileset ≡ o → o ≡ None
              by_old None q = refl
              by_old (Some z) q =
                  let f = found_in (is_of g.fid.fileset) m.gives.gives z q in
                  let r = found_some (is_of g.fid.fileset) l.gives.gives z (so.gives_old z f.0) f.1 in
                  let p = sym none ∙ r.1 in absurd (cc)

          by_one : (o : Option Message) → outstanding l.gives g.fid.fileset ≡ o → In fs (due_by (is_none o))
              → outstanding m.gives fs ≡ None
          by_one (Some z) q j = each.new fs j
          by_one None q j = elim (with_once_from due g.fid.fileset fs j) [
            | inl k ↦ each.new fs k
            | inr e ↦ subst (λ (x : FilesetId). outstanding m.gives x ≡ None) (sym e) (none_yet q)
          ]

      then_said : PartSaid m first asked all_back more then_gone then_made then_draft.sent then_due
      then_said = record {
        said = λ z i. elim (returning_says (with_left m then_left) fid back
            (start then_made then_gone sent then_due) z i) [
              | inl j ↦ elim (saying_so.said z j) [
                | inl f ↦ inl f
                | inr r ↦ inr (
                  r.0,
                  r.1,
                  in_left fids (fid ∷ []) r.0.fid r.2,
                  λ k n. elim (r.3 k n) [
                    | inr b ↦ inr b
                    | inl q ↦ inl (
                      q.0,
                      in_left gone leaving q.0 q.1,
                      q.2,
                      q.3,
                      λ h a o. elim (made_or h a) [
                        | inl c ↦ q.4 h c o
                        | inr c ↦
                            let u = in_named k (subst (λ (w : Give). In k w.ids) c o) in
                            let v = given_left u.0 u.1 in
                            let same : u.0 ≡ q.0 = once u.0 q.0 (left_held u.0 v) (their q.0 (so.from q.0 q.1).0)
                            (u.2 ∙ sym q.2) in
                            (left_from u.0 v).2 (subst (λ (w : Token). In w gone) (sym same) q.1)
                      ],
                    )
                  ],
                )
              ]
              | inr q ↦ inr (
                named,
                q,
                in_last fids fid,
                λ k n. elim (back_of k n) [
                  | inr b ↦ inr b
                  | inl u ↦ inl (
                    u.0,
                    in_right gone leaving u.0 u.1,
                    u.3,
                    (left_from u.0 u.1).1,
                    λ h a o. elim (made_or h a) [
                      | inl c ↦ not_in_made u.0 h u.1 c (subst (λ (w : TokenId). In w h.ids) (sym u.3) o)
                      | inr c ↦
                          let v = in_named k (subst (λ (w : Give). In k w.ids) c o) in
                          let same : v.0 ≡ u.0 = once v.0 u.0 (left_held v.0 (given_left v.0 v.1)) (left_held u.0 u.1)
                          (v.2 ∙ sym u.3) in
                          u.2 (subst (λ (w : Token). In w giving) same v.1)
                    ],
                  )
                ],
              )
            ];
        keeps = λ z i. returning_keeps (with_left m then_left) fid back (start then_made then_gone sent then_due) z
            (saying_so.keeps z i);
        back = λ t i. elim (in_either gone leaving t i) [
          | inl j ↦ elim (saying_so.back t j) [
            | inl r ↦ inl (r.0, old r.0 r.1, r.2)
            | inr r ↦ inr (
              r.0,
              returning_keeps (with_left m then_left) fid back (start then_made then_gone sent then_due)
                  (returns m r.0) r.1,
              r.2,
            )
          ]
          | inr j ↦ elim (given_or t j) [
            | inl k ↦ inl (g, it, named_in t k)
            | inr k ↦
                let n = in_back t j k in
                inr (
                  named,
                  returning_said (with_left m then_left) fid back (start then_made then_gone sent then_due) t.id n,
                  n,
                )
          ]
        ];
        rest = λ i j at. elim (in_either fids (fid ∷ []) asked at) [
          | inl k ↦
              let r = saying_so.rest i j k in (
                r.0,
                returning_keeps (with_left m then_left) fid back (start then_made then_gone sent then_due)
                    (returns m r.0) r.1,
                r.2,
                r.3,
              )
          | inr k ↦ elim k [
            | inl e ↦ (
              named,
              returning_said (with_left m then_left) fid back (start then_made then_gone sent then_due) i
                  (rest_back i j e),
              rest_back i j e,
              sym e,
            )
            | inr n ↦ elim n [ ]
          ]
        ];
        due = λ k i none. elim (made_or k i) [
          | inl j ↦ due_keeps (is_none (outstanding l.gives g.fid.fileset)) k.fid.fileset (saying_so.due k j none)
          | inr q ↦ subst (λ (z : Give). In z.fid.fileset then_due) (sym q)
              (due_it (ap (λ (z : Give). outstanding m.gives z.fid.fileset) (sym q) ∙ none))
        ];
      }

      then_file : y ≡ record (with_left m then_left) { lost = lost }
          → e ≡ returning y fid back (start then_made then_gone sent then_due)
          → NextLeft y e
      then_file tables draft = (
        record {
          l = then_left;
          gone = then_gone;
          made = then_made;
          sent = then_draft.sent;
          due = then_due;
          tables = tables;
          draft = draft
              ∙ ap (λ (z : Tables). returning z fid back (start then_made then_gone sent then_due)) tables
              ∙ returning_only (with_left m then_left) fid back (start then_made then_gone sent then_due);
          left = then_so;
          said = then_said;
          once = record {
            tokens = gone_once;
            gives = once_more made g each.gives (λ i. other_file g i refl);
            messages = sent_once (with_left m then_left) (start then_made then_gone sent then_due) back refl;
            filesets = dues_once (is_none (outstanding l.gives g.fid.fileset));
            new = due_new;
          };
        },
        shown,
      )

  -- # Either
  made_by : (g : Give) (b : Bool)
      → record (if b then record (start made gone sent due) { due = with_once due g.fid.fileset }
      else start made gone sent due) { made = made ++ g ∷ [] }
      ≡ start (made ++ g ∷ []) gone sent (if b then with_once due g.fid.fileset else due)
  made_by g true = refl
  made_by g false = refl

  pub file_leaves : (y : Tables) (e : Draft) → Leaves x (start made gone sent due) fid leaving why now_back y e
      → NextLeft y e
  file_leaves y e its = by_giving its.giving refl
    where
      by_giving : (ts : List Token) → its.giving ≡ ts → NextLeft y e
      by_giving [] none =
          let given : (its.given ≡ x) × (its.made ≡ start made gone sent due) =
          subst (λ (ts : List Token). GivesWhere x (start made gone sent due) fid ts leaving its.given its.made) none
          its.gives in
          let dropped : its.dropped ≡ start made then_gone sent due =
          its.drops.draft_is
          ∙ ap (λ (d : Draft). record d { dropped = d.dropped ++ map (leaves_by why) leaving }) given.1
          ∙ ap (λ (ls : List Leave). record (start made gone sent due) { dropped = ls })
          (leaves_more why gone leaving) in
          bare_file its.giving its.which none y e
          (its.drops.shown ∙ ap (λ (z : Tables). shown_without (seen z.cache) leaving) given.0)
          (its.drops.tables ∙ ap (λ (z : Tables). record z { cache = y.cache }) given.0)
          (its.draft_is ∙ ap (returning y fid (returned_ids leaving its.giving now_back)) dropped)
      by_giving (t ∷ ts) is =
          let gives : Gives x (start made gone sent due) fid its.giving leaving None its.given its.made =
          subst (λ (us : List Token). Gives x (start made gone sent due) fid us leaving None its.given its.made)
          (sym is)
          (subst (λ (us : List Token). GivesWhere x (start made gone sent due) fid us leaving its.given its.made) is
          its.gives) in
          let g : Give = record gives.give { ends = None } in
          let dropped : its.dropped ≡ start (made ++ g ∷ []) then_gone sent
          (if is_none (outstanding l.gives g.fid.fileset) then with_once due g.fid.fileset else due) =
          its.drops.draft_is
          ∙ ap (λ (d : Draft). record d { dropped = d.dropped ++ map (leaves_by why) leaving })
          (gives.draft_is ∙ made_by g (is_none (outstanding l.gives g.fid.fileset)))
          ∙ ap (λ (ls : List Leave). record (start (made ++ g ∷ []) gone sent
          (if is_none (outstanding l.gives g.fid.fileset) then with_once due g.fid.fileset else due)) { dropped = ls })
          (leaves_more why gone leaving) in
          then_file its.giving its.which g (λ n. let p : t ∷ ts ≡ [] = sym is ∙ n in absurd (cc)) gives.so.number
          gives.so.file gives.so.ids gives.so.pieces gives.so.length refl its.given.dirty gives.cleans.bytes y e
          (its.drops.shown ∙ ap (λ (z : Tables). shown_without (seen z.cache) leaving) gives.tables)
          (its.drops.tables ∙ ap (λ (z : Tables). record z { cache = y.cache }) gives.tables)
          (its.draft_is ∙ ap (returning y fid (returned_ids leaving its.giving now_back)) dropped)
