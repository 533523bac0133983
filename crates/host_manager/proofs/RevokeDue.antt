-- What is due of each token that a Revoke names: it is kept, given back, answered by its give-back, or returned.
use Rattle.base_types.specs.Ids.{same_fid}
use Rattle.base_types.specs.declared.ids.Fid.{Fid}
use Rattle.base_types.specs.declared.ids.FilesetId.{FilesetId}
use Rattle.host_asks.specs.Asking.{Doing}
use Rattle.host_cache.specs.Holding.{is_id, tokens_of}
use Rattle.host_cache.specs.declared.held.Held.{Held}
use Rattle.host_dirty.specs.Dirtiness.{is_dirty as is_dirty_in}
use Rattle.host_gives.specs.Giving.{IsSound as IsSoundGives, given_in, is_of, is_outstanding, names, number_of}
use Rattle.host_gives.specs.Giving.{outstanding}
use Rattle.host_labels.specs.Labels.{has_id as is_in_use}
use Rattle.host_labels.specs.declared.uses.Labelled.{Labelled as UseOf}
use Rattle.host_leaves.proofs.DirtyTokens.{at_file as file_at}
use Rattle.host_leaves.specs.Dirtying.{covers_left, is_named, staying, tokens_at, updates_byte}
use Rattle.host_leaves.specs.Giving.{HasToGive, ids_of}
use Rattle.host_leaves.specs.Revoking.{Revokes, is_leaving, of_file, others_of, pinned, sorted_by}
use Rattle.host_leaves.specs.Sending.{message_to}
use Rattle.host_manager.proofs.Evicting.{updated_by, updates_it}
use Rattle.host_manager.proofs.LeftSo.{returns}
use Rattle.host_manager.proofs.OneFile.{at_file}
use Rattle.host_manager.proofs.PartSo.{HasParted, gone_or, held_from}
use Rattle.host_manager.proofs.RevokeSees.{Sees, all_seen}
use Rattle.host_manager.proofs.RevokesIt as revoked_so
use Rattle.host_manager.proofs.RevokesIt.{first_is, floors_by, given_first, is_first, raised_is, told}
use Rattle.host_manager.proofs.SortedSo.{SortedSo, fids_in, file_among, file_tokens, tokens_file}
use Rattle.host_manager.specs.Running.{IsRunning}
use Rattle.host_tables.proofs.Declared.{home_is}
use Rattle.host_tables.proofs.Lists.{any_in, by_test, false_not, fid_same, filter_in, id_same, in_any, in_filter}
use Rattle.host_tables.proofs.Lists.{in_map, map_in, not_true, same_id_is, true_false, true_not}
use Rattle.host_tables.proofs.Outstanding.{first_outstanding, found_in, found_some, number_is, outstanding_is}
use Rattle.host_tables.proofs.Standing as standing
use Rattle.host_tables.specs.Drafts.{no_draft}
use Rattle.host_tables.specs.Half.{half}
use Rattle.host_tables.specs.LeavingSteps.{with_left}
use Rattle.host_tables.specs.Saying.{IsFirst}
use Rattle.host_tables.specs.Stands.{Stands}
use Rattle.host_tables.specs.Tables.{content, held_of, is_length_clean, is_updating, labelled, site_at}
use Rattle.host_tables.specs.Tables.{updates_status}
use Rattle.host_tables.specs.Updates.{home_at}
use Rattle.host_tables.specs.declared.tables.Tables.{Tables}
use Rattle.message_types.specs.Soundness.{IsSound}
use Rattle.message_types.specs.declared.giving.Give.{Give}
use Rattle.message_types.specs.declared.message.Body.TheVariants.{GiveBack, Kept, Returned, Revoke}
use Rattle.message_types.specs.declared.message.Direction.TheVariants.{ToHost}
use Rattle.message_types.specs.declared.message.Body.{Body}
use Rattle.message_types.specs.declared.message.Message.{Message}
use Rattle.message_types.specs.declared.tokens.Named.{Named}
use Rattle.message_types.specs.declared.tokens.Revoke.{Revoke as RevokeOf}
use Rattle.run_rules.specs.HostDue.{AnswersOf, HasDirty, ReturnsOf, RevokeDue}
use Rattle.run_rules.specs.HostTokens.{OwnsUpdate}
use Rattle.run_rules.specs.Messages.{KeepsToken, SendsTo, stay_of}
use Rattle.run_rules.specs.Past.{In}
use Rattle.run_rules.specs.Tokens.{Held as HeldBy, HoldsId, IsKnown, IsOutstanding, IsUseKind, Made, Makes, Owns}
use Rattle.run_rules.specs.Tokens.{TokenInUse}
use Rattle.run_rules.specs.Views.{LengthIsDirty, UpdatesByte, is_dirty}
use Rattle.run_rules.specs.declared.step.Step.{Step}
use Rattle.script_lines.specs.declared.script.Script.{Script}
use Rattle.std.proofs.Common.{Bool, List, None, Option, Some, ap, eq-eqb, false, if◌then◌else◌, inl, inr, is_some}
use Rattle.std.proofs.Common.{not, refl, subst, sym, true, ℕ, ◌&&◌, ◌==◌, ◌∙◌, ◌∷◌, ◌≡◌, ◌⊎◌}
use Rattle.std.proofs.lemmas.Bool.{and_from, and_parts}
use Rattle.std.specs.List.{find, list_any}
use Rattle.std.specs.Option.{option_map_or}
use Rattle.token_types.specs.Conflicts.{same_id}
use Rattle.token_types.specs.declared.token.Kind.{Kind}
use Rattle.token_types.specs.declared.token.Kind.TheVariants.{Bytes, Lock, Opening, Status}
use Rattle.token_types.specs.declared.token.Token.{Token}
use Rattle.token_types.specs.declared.token.TokenId.{TokenId}
use Rattle.tree_laws.specs.Parts.Part.{Size}

module _ (script : Script) (old : Tables) (past : List Step) (message : Message) (running : IsRunning script old past)
    (sound_m : IsSound script.roster message) (host_is : message.host ≡ old.host) (way : message.direction ≡ ToHost)
    (r : RevokeOf) (body : message.body ≡ Revoke r) (present : (site_at old.sites message.server).epoch ≡ message.epoch)
    (no_moves : message.moves ≡ 0) (sound : IsSoundGives old.gives) (revoked : Doing)
    (its : Revokes r old no_draft revoked.tables revoked.draft) (sound_new : IsSoundGives revoked.tables.gives) where
  abbrev m : Tables
  m = record old { floors = floors_by old r }

  abbrev m1 : Tables
  m1 = record old { floors = floors_by old r; uses = pinned old.uses its.sorted.kept }

  abbrev files : List Fid
  files = r.fid ∷ others_of r.fid its.sorted.left

  abbrev first : List Message
  first = (told m its.sorted.kept its.sorted.given).sent

  abbrev h : HasParted m1 its.sorted.left first r.fid its.sorted.back files revoked.tables revoked.draft
  h = revoked_so.h script old past message running sound_m host_is way r body present no_moves sound revoked its
      sound_new

  abbrev x : Tables
  x = record (with_left m h.l) { lost = h.lost }

  stands : Stands script old past
  stands = running.rests.stands

  sorts : SortedSo m r.ids its.sorted.kept its.sorted.left its.sorted.back its.sorted.given
  sorts = revoked_so.sorts script old past message running sound_m host_is way r body present no_moves sound revoked
      its sound_new

  seen_to : (i : TokenId) → In i r.ids
      → Sees m its.sorted.kept its.sorted.left its.sorted.back its.sorted.given i
  seen_to i j = subst (λ b. Sees m b.kept b.left b.back b.given i)
      (sym (its.sorted_is ∙ ap (λ (z : Tables). sorted_by z r.ids) (raised_is old r))) (all_seen m r.ids i j)

  their : (t : Token) → In t its.sorted.left → In t (held_of old)
  their t i = (sorts.idle t i).0

  -- # What is known of a token
  found : (t : Token) (i : TokenId) → In t (held_of old) → t.id ≡ i
      → (k : Held) × (find (is_id i) old.cache.held ≡ Some k) × (k.token ≡ t)
  found t i held e =
      let k = in_map (λ (z : Held). z.token) old.cache.held t held in
      let f = found_some (is_id i) old.cache.held k.0 k.1
      (id_same k.0.token.id i (ap (λ (z : Token). z.id) (sym k.2) ∙ e)) in
      let g = found_in (is_id i) old.cache.held f.0 f.1 in (
        f.0,
        f.1,
        stands.cache.once f.0.token t (map_in (λ (z : Held). z.token) old.cache.held f.0 g.0) held
            (same_id_is f.0.token.id i g.1 ∙ sym e),
      )

  not_found : (i : TokenId) → (HoldsId past i → ⊥) → find (is_id i) old.cache.held ≡ None
  not_found i none = by_found (find (is_id i) old.cache.held) refl
    where
      by_found : (o : Option Held) → find (is_id i) old.cache.held ≡ o → o ≡ None
      by_found None e = refl
      by_found (Some k) e =
          let g = found_in (is_id i) old.cache.held k e in
          absurd (none (
            k.token,
            stands.cache.held k.token (map_in (λ (z : Held). z.token) old.cache.held k g.0),
            same_id_is k.token.id i g.1,
          ))

  is_used : (i : TokenId) → TokenInUse past i → is_in_use old.uses.labels i ≡ true
  is_used i u = any_in (λ (used : UseOf). same_id used.token.id i) old.uses.labels
      (record { label = u.0.label; token = u.0.token }) (stands.uses.labels u.0 u.1) (id_same u.0.token.id i u.2)

  not_used : (i : TokenId) → (TokenInUse past i → ⊥) → is_in_use old.uses.labels i ≡ false
  not_used i none = elim (by_test (is_in_use old.uses.labels i)) [
    | inr f ↦ f
    | inl e ↦
        let v = in_any (λ (used : UseOf). same_id used.token.id i) old.uses.labels e in
        absurd (none (labelled v.0, stands.uses.used v.0 v.1, same_id_is v.0.token.id i v.2))
  ]

  kept_it : (t : Token) (i : TokenId) → In i r.ids → In t (held_of old) → t.id ≡ i → TokenInUse past i
      → In t its.sorted.kept
  kept_it t i j held e u =
      let f = found t i held e in
      subst (λ (z : Token). In z its.sorted.kept) f.2 ((seen_to i j).used f.0 f.1 (is_used i u))

  idle_it : (t : Token) (i : TokenId) → In i r.ids → In t (held_of old) → t.id ≡ i → (TokenInUse past i → ⊥)
      → In t its.sorted.left
  idle_it t i j held e n =
      let f = found t i held e in
      subst (λ (z : Token). In z its.sorted.left) f.2 ((seen_to i j).idle f.0 f.1 (not_used i n))

  leaves_it : (t : Token) → In t its.sorted.left → In t h.gone
  leaves_it t i = h.left.all t i (file_among r.fid its.sorted.left t i)

  gone_or_not : (t : Token) → In t (held_of old) → In t h.gone ⊎ In t (tokens_of h.l.cache.held)
  gone_or_not t i = gone_or m1 stands.cache.once stands.cache.tells stands.contents.zero its.sorted.left their h.l
      files h.gone h.made h.left t i

  stays_from : (t : Token) → In t (tokens_of h.l.cache.held) → In t (held_of old) × (In t h.gone → ⊥)
  stays_from t i = held_from m1 stands.cache.once stands.cache.tells stands.contents.zero its.sorted.left their h.l
      files h.gone h.made h.left t i

  names_it : (y : Message) (g : Give) (i : TokenId) → y.body ≡ GiveBack g → names i y ≡ true → In i g.ids
  names_it y g i e n =
      let p = subst (λ (b : Body). option_map_or (λ (give : Give). list_any (λ other. same_id other i) give.ids)
      (given_in b) false ≡ true) e n in
      let k = in_any (λ (other : TokenId). same_id other i) g.ids p in
      subst (λ (z : TokenId). In z g.ids) (same_id_is k.0 i k.2) k.1

  pub first_give : (g : Give) → IsOutstanding past g → IsFirst old.gives g
  first_give g o = elim (stands.gives.all g o.made) [
    | inl known ↦ absurd (o.unknown known)
    | inr y ↦ record {
      message = y.0;
      within = y.1;
      body = y.2;
      least = λ other k i b fs less.
          let z = stands.gives.made other i in
          let p : GiveBack z.0 ≡ GiveBack k = sym z.1 ∙ b in
          let same : z.0 ≡ k = cc in
          o.first (k, subst (Made past) same z.2, fs, less, λ known. z.3 (subst (IsKnown past) (sym same) known));
    }
  ]

  none_first : (w : Named) → In (returns m1 w) first → ⊥
  none_first w i = elim (first_is m its.sorted.kept its.sorted.given (returns m1 w) i) [
    | inl q ↦ (let p = ap (λ (z : Message). z.body) q.2 in cc)
    | inr q ↦
        let o = outstanding_is old.gives sound q.0 q.2.0 q.2.1 in
        let p = ap (λ (z : Message). z.body) q.2.2 ∙ o.1 in cc
  ]

  -- # A step that says what is said of them
  module _ (s : Step) (learnt : Stands script m (half s ∷ past)) (made_is : s.made ≡ h.made)
      (says : (y : Message) → In y h.sent → In y s.sent)
      (owns : (t : Token) → In t (tokens_of h.l.cache.held) → Owns (s ∷ past) t)
      (owned : (t : Token) → Owns (s ∷ past) t → In t (tokens_of h.l.cache.held))
    where
      says_first : (y : Message) → In y first → In y s.sent
      says_first y i = says y (h.said.keeps y i)

      makes : (g : Give) → In g h.made → In g s.made
      makes g i = subst (λ (gs : List Give). In g gs) (sym made_is) i

      -- a token in use is kept
      keeps : (i : TokenId) → In i r.ids → HoldsId past i → TokenInUse past i → KeepsToken s i
      keeps i j (t, held, e) u =
          let k = kept_it t i j (stands.cache.cached t held) e u in
          let w : Named = record { fid = t.fid; ids = ids_of (of_file t.fid its.sorted.kept) } in
          let y : Message = message_to m (home_at t.fid.fileset) (Kept w) in (
            y.server,
            y.epoch,
            0,
            w,
            (
              y,
              says_first y (is_first m its.sorted.kept its.sorted.given t.fid (fids_in its.sorted.kept t k)),
              refl,
              refl,
              refl,
              refl,
            ),
            subst (λ (z : TokenId). In z w.ids) e
                (map_in (λ (u : Token). u.id) (of_file t.fid its.sorted.kept) t
                (tokens_file t.fid its.sorted.kept t k refl)),
          )

      -- # One that is dirty is given back
      dirty_is : (fid : Fid) (at : ℕ) → is_dirty past fid at ≡ is_dirty_in old.dirty fid at
      dirty_is fid at = sym (stands.dirty.bytes fid at)

      -- another owns it that stays
      stays_owner : (t : Token) (at : ℕ) → list_any (updates_byte at)
          (staying m1 t.fid (of_file t.fid its.sorted.left)) ≡ true
          → OwnsUpdate (s ∷ past) t.fid at
      stays_owner t at e =
          let k = in_any (updates_byte at) (staying m1 t.fid (of_file t.fid its.sorted.left)) e in
          let q = in_filter (λ token. not (is_named (of_file t.fid its.sorted.left) token)) (tokens_at m1 t.fid) k.0
          k.1 in
          let f = file_at m1 t.fid k.0 q.0 in (
            k.0,
            owns k.0 (elim (gone_or_not k.0 f.0) [
              | inr n ↦ n
              | inl n ↦ absurd (not_true (is_named (of_file t.fid its.sorted.left) k.0) q.1
                  (any_in (λ (u : Token). same_id u.id k.0.id) (of_file t.fid its.sorted.left) k.0
                  (tokens_file t.fid its.sorted.left k.0 (h.left.from k.0 n).0 f.1) (id_same k.0.id k.0.id refl)))
            ]),
            subst (λ (z : Fid). UpdatesByte k.0 z at) f.1 (updates_it k.0 at k.2),
          )

      owner_stays : (t u : Token) (at : ℕ) → In u (tokens_of h.l.cache.held) → UpdatesByte u t.fid at
          → list_any (updates_byte at) (staying m1 t.fid (of_file t.fid its.sorted.left)) ≡ true
      owner_stays t u at i updates =
          let k = stays_from u i in
          any_in (updates_byte at) (staying m1 t.fid (of_file t.fid its.sorted.left)) u
          (filter_in (λ token. not (is_named (of_file t.fid its.sorted.left) token)) (tokens_at m1 t.fid) u
          (at_file m1 t.fid u k.0 updates.1)
          (true_not (is_named (of_file t.fid its.sorted.left) u) (λ e.
          let n = in_any (λ (z : Token). same_id z.id u.id) (of_file t.fid its.sorted.left) e in
          let f = (file_tokens t.fid its.sorted.left n.0 n.1).0 in
          let same : n.0 ≡ u = stands.cache.once n.0 u (their n.0 f) k.0 (same_id_is n.0.id u.id n.2) in
          k.1 (subst (λ (z : Token). In z h.gone) same (leaves_it n.0 f))))) (updated_by u t.fid at updates)

      length_there : (t : Token) → In t (held_of old) → LengthIsDirty past s t
          → (updates_status t.kind ≡ true) × (is_length_clean old.lengths (content old.cache) t.fid ≡ false)
      length_there t i l = (
        subst (λ (k : Kind). updates_status k ≡ true) (sym l.0.1) refl,
        elim (by_test (is_length_clean old.lengths (content old.cache) t.fid)) [
          | inl e ↦ absurd (l.1 (standing.length_clean script m past s learnt t.fid t i refl e
              (standing.size_seen script m past s learnt t.fid t i refl l.0.1)))
          | inr e ↦ e
        ],
      )

      length_is : (t : Token) → In t (held_of old) → updates_status t.kind ≡ true
          → is_length_clean old.lengths (content old.cache) t.fid ≡ false → LengthIsDirty past s t
      length_is t i u e =
          let k = standing.status_of script m past s learnt t.kind u in (
            (refl, k),
            λ l. true_false (is_length_clean old.lengths (content old.cache) t.fid)
                (standing.clean_length script m past s learnt t.fid
                (standing.size_seen script m past s learnt t.fid t i refl k) l) e,
          )

      has_dirty : (t : Token) → In t its.sorted.left → HasDirty past s t
          → HasToGive m1 t.fid (of_file t.fid its.sorted.left) t
      has_dirty t i (inl (at, b, none)) =
          let mine = updated_by t t.fid at b.0 in
          let here = tokens_file t.fid its.sorted.left t i refl in
          inr (inl (
            at,
            and_from (is_dirty_in old.dirty t.fid at)
                (covers_left m1 t.fid (of_file t.fid its.sorted.left) (of_file t.fid its.sorted.left) at)
                (sym (dirty_is t.fid at) ∙ b.1)
                (and_from (list_any (updates_byte at) (of_file t.fid its.sorted.left))
                (not (list_any (updates_byte at) (staying m1 t.fid (of_file t.fid its.sorted.left))))
                (any_in (updates_byte at) (of_file t.fid its.sorted.left) t here mine)
                (true_not (list_any (updates_byte at) (staying m1 t.fid (of_file t.fid its.sorted.left)))
                (λ e. none (stays_owner t at e)))),
            mine,
          ))
      has_dirty t i (inr l) =
          let k = length_there t (their t i) l in
          inr (inr (
            k.0,
            ap (λ (b : Bool). is_some (if b then Some (content old.cache t.fid Size) else None))
                (and_from (list_any (is_updating t.fid) (held_of old))
                (not (is_length_clean old.lengths (content old.cache) t.fid))
                (any_in (is_updating t.fid) (held_of old) t (their t i)
                (and_from (same_fid t.fid t.fid) (updates_status t.kind) (fid_same t.fid t.fid refl) k.0))
                (false_not (is_length_clean old.lengths (content old.cache) t.fid) k.1)),
          ))

      gives : (i : TokenId) → In i r.ids → (t : Token) → HeldBy past t → t.id ≡ i → HasDirty past s t → Makes s i
      gives i j t held e d = elim (by_test (is_in_use old.uses.labels i)) [
        | inl u ↦
            let v = in_any (λ (used : UseOf). same_id used.token.id i) old.uses.labels u in
            let k = kept_it t i j (stands.cache.cached t held) e
            (labelled v.0, stands.uses.used v.0 v.1, same_id_is v.0.token.id i v.2) in
            absurd (in_use_clean t k d)
        | inr n ↦
            let l = idle_it t i j (stands.cache.cached t held) e (λ u. true_false (is_in_use old.uses.labels i)
            (is_used i u) n) in
            let k = h.left.has t (leaves_it t l) (has_dirty t l d) in
            (k.0, makes k.0 k.1, subst (λ (z : TokenId). In z k.0.ids) e k.3)
      ]
        where
          -- nothing is dirty under a lock or an open
          in_use_clean : (t : Token) → In t its.sorted.kept → HasDirty past s t → ⊥
          in_use_clean t i d =
              let u = in_any (λ (used : UseOf). same_id used.token.id t.id) old.uses.labels (sorts.in_use t i).1 in
              let kind = stands.uses.kinds (labelled u.0) (stands.uses.used u.0 u.1) in
              let held = stands.uses.held (labelled u.0) (stands.uses.used u.0 u.1) in
              let same : u.0.token ≡ t = stands.cache.once u.0.token t (stands.cache.cached u.0.token held)
              (sorts.in_use t i).0 (same_id_is u.0.token.id t.id u.2) in
              by_kind t.kind (subst (λ (z : Token). IsUseKind z.kind) same kind) refl d
            where
              by_kind : (k : Kind) → IsUseKind k → t.kind ≡ k → HasDirty past s t → ⊥
              by_kind (Bytes update span) kinds e d = kinds
              by_kind (Status update) kinds e d = kinds
              by_kind (Lock writing span) kinds e (inl b) = let p = sym e ∙ b.1.0.2 in cc
              by_kind (Lock writing span) kinds e (inr l) = let p = sym e ∙ l.0.1 in cc
              by_kind (Opening kind) kinds e (inl b) = let p = sym e ∙ b.1.0.2 in cc
              by_kind (Opening kind) kinds e (inr l) = let p = sym e ∙ l.0.1 in cc

      -- # One on its way is answered by its give-back
      gives_again : (i : TokenId) → In i r.ids → (g : Give) → IsOutstanding past g → In i g.ids
          → SendsTo s (stay_of (s ∷ past) g.fid.fileset) (GiveBack g)
      gives_again i j g o n =
          let y = stands.leaving.tokens g i o.made n o.unknown in
          let f = first_outstanding old.gives sound g (first_give g o) in
          let z : Message = message_to m (home_at g.fid.fileset) f.0.body in
          let here = (seen_to i j).again y.0 y.1
          (and_from (is_leaving i y.0) (is_outstanding old.gives y.0.fileset y.0.number) (id_same y.0.token.id i y.2)
          (subst (λ (q : FilesetId × ℕ). is_outstanding old.gives q.0 q.1 ≡ true)
          (λ k. (sym y.3 k, sym y.4 k)) (numbered f.0 f.1 f.2))) in
          let it = found_in (is_of g.fid.fileset) old.gives.gives f.0 f.1 in
          let d = (running.tidy.gives f.0 g it.0 f.2).declared in (
            z.epoch,
            (
              z,
              says_first z (given_first m its.sorted.kept its.sorted.given g.fid.fileset f.0
                  (subst (λ (fs : FilesetId). In fs its.sorted.given) y.3 here) f.1),
              home_is script.roster old running.tidy g.fid.fileset d,
              refl,
              refl,
              f.2,
            ),
          )
        where
          numbered : (f : Message) → outstanding old.gives g.fid.fileset ≡ Some f → f.body ≡ GiveBack g
              → is_outstanding old.gives g.fid.fileset g.number ≡ true
          numbered f e b = subst (λ (o : Option Message).
              option_map_or (λ message. number_of message == g.number) o false ≡ true) (sym e)
              (eq-eqb (number_of f) g.number (number_is f g b))

      -- # All others are returned
      returned : (w : Named) (fid : Fid) (i : TokenId) → In (returns m1 w) h.sent → In i w.ids → w.fid ≡ fid
          → ReturnsOf s fid i
      returned w fid i n j e =
          let y = returns m1 w in (y.server, y.epoch, 0, w, (y, says y n, refl, refl, refl, refl), e, j)

      -- what a give-back names is dirty, or in an earlier one
      to_give : (t : Token) → In t its.sorted.left → ((g : Give) → Made past g → In t.id g.ids → IsKnown past g)
          → HasToGive m1 t.fid (of_file t.fid its.sorted.left) t → HasDirty past s t
      to_give t i known (inl e) =
          let y = in_any (names t.id) old.gives.gives e in
          let z = stands.gives.made y.0 y.1 in
          absurd (z.3 (known z.0 z.2 (names_it y.0 z.0 t.id z.1 y.2)))
      to_give t i known (inr (inl (at, dirty, updates))) =
          let both = and_parts (is_dirty_in old.dirty t.fid at)
          (covers_left m1 t.fid (of_file t.fid its.sorted.left) (of_file t.fid its.sorted.left) at) dirty in
          let c = and_parts (list_any (updates_byte at) (of_file t.fid its.sorted.left))
          (not (list_any (updates_byte at) (staying m1 t.fid (of_file t.fid its.sorted.left)))) both.1 in
          inl (
            at,
            (updates_it t at updates, dirty_is t.fid at ∙ both.0),
            λ o. not_true (list_any (updates_byte at) (staying m1 t.fid (of_file t.fid its.sorted.left))) c.1
                (owner_stays t o.0 at (owned o.0 o.1) o.2),
          )
      to_give t i known (inr (inr (updates, dirty))) =
          inr (length_is t (their t i) updates (by_clean (is_length_clean old.lengths (content old.cache) t.fid) refl))
        where
          none_some_if : (b : Bool)
              → is_some (if b && not true then Some (content old.cache t.fid Size) else None) ≡ true → ⊥
          none_some_if true n = cc
          none_some_if false n = cc

          by_clean : (b : Bool) → is_length_clean old.lengths (content old.cache) t.fid ≡ b → b ≡ false
          by_clean false e = refl
          by_clean true e = absurd (
              let n = subst (λ (b : Bool). is_some (if list_any (is_updating t.fid) (held_of old) && not b
              then Some (content old.cache t.fid Size) else None) ≡ true) e dirty in
              none_some_if (list_any (is_updating t.fid) (held_of old)) n
              )

      returns_it : (i : TokenId) → In i r.ids → (fid : Fid) → AnswersOf past r i fid → (TokenInUse past i → ⊥)
          → ((t : Token) → HeldBy past t → t.id ≡ i → HasDirty past s t → ⊥)
          → ((g : Give) → Made past g → In i g.ids → IsKnown past g) → ReturnsOf s fid i
      returns_it i j fid (inl (t, held, e, f)) idle clean known =
          let here = stands.cache.cached t held in
          let l = idle_it t i j here e idle in
          let known_t : (g : Give) → Made past g → In t.id g.ids → IsKnown past g =
          λ g made n. known g made (subst (λ (z : TokenId). In z g.ids) e n) in
          elim (h.said.back t (leaves_it t l)) [
            | inl g ↦ absurd (clean t held e (to_give t l known_t (named_gives t l g.0 g.1 g.2)))
            | inr w ↦ returned w.0 fid i w.1 (subst (λ (z : TokenId). In z w.0.ids) e w.2)
                (file_of t l here w.0 w.1 w.2 ∙ f)
          ]
        where
          named_gives : (t : Token) → In t its.sorted.left → (g : Give) → In g h.made → In t.id g.ids
              → HasToGive m1 t.fid (of_file t.fid its.sorted.left) t
          named_gives t l g k n =
              let w = h.left.part g k in
              let q = in_map (λ (z : Token). z.id) w.named t.id (subst (λ (is : List TokenId). In t.id is) w.ids n) in
              let p = file_tokens g.fid its.sorted.left q.0 (w.from q.0 q.1) in
              let same : q.0 ≡ t = stands.cache.once q.0 t (their q.0 p.0) (their t l) (sym q.2) in
              let file : g.fid ≡ t.fid = sym p.1 ∙ ap (λ (z : Token). z.fid) same in
              subst (λ (z : Fid). HasToGive m1 z (of_file z its.sorted.left) t) file
              (subst (HasToGive m1 g.fid (of_file g.fid its.sorted.left)) same (w.only q.0 q.1))

          file_of : (t : Token) → In t its.sorted.left → In t (held_of old) → (w : Named) → In (returns m1 w) h.sent
              → In t.id w.ids → w.fid ≡ t.fid
          file_of t l here w k n = elim (h.said.said (returns m1 w) k) [
            | inl f ↦ absurd (none_first w f)
            | inr q ↦
                let p : Returned w ≡ Returned q.0 = ap (λ (z : Message). z.body) q.1 in
                let same : w ≡ q.0 = cc in
                elim (q.3 t.id (subst (λ (z : Named). In t.id z.ids) same n)) [
                  | inl u ↦
                      let one : u.0 ≡ t = stands.cache.once u.0 t (their u.0 (h.left.from u.0 u.1).0) here u.2 in
                      ap (λ (z : Named). z.fid) same ∙ (sym u.3 ∙ ap (λ (z : Token). z.fid) one)
                  | inr b ↦ absurd (
                      let z = found t t.id here refl in
                      let none = (sorts.others t.id b.0).1 in let c = sym none ∙ z.1 in cc
                      )
                ]
          ]
      returns_it i j fid (inr (none, f)) idle clean known =
          let missing = not_found i none in
          let w = h.said.rest i ((seen_to i j).none missing (elim (by_test (list_any (is_leaving i) old.leaving)) [
            | inr q ↦ q
            | inl q ↦
                let y = in_any (is_leaving i) old.leaving q in
                let g = (stands.leaving.from y.0 y.1).1 in
                absurd (g.2 (known g.0 g.1 (subst (λ (z : TokenId). In z g.0.ids) (same_id_is y.0.token.id i y.2) g.3)))
          ])) (inl refl) in
          returned w.0 fid i w.1 w.2 (w.3 ∙ f)

      pub revoke_due : (i : TokenId) → In i r.ids → RevokeDue past s r i
      revoke_due i j = record {
        keeps = keeps i j;
        gives = gives i j;
        gives_again = gives_again i j;
        returns = returns_it i j;
      }
