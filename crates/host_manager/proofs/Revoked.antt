-- A Revoke comes, and no call goes on by it: those of its tokens that are in use are kept, the others leave.
use Rattle.host_leaves.proofs.DirtyTokens.{at_file as file_at}
use Rattle.host_leaves.proofs.Sorting.{pinned_labels}
use Rattle.host_manager.proofs.Tests.{none_found}
use Rattle.std.proofs.Common.{◌&&◌, ◌++◌, ◌<◌, ◌∙◌, ◌∷◌, ◌≡◌, ◌≤◌, ◌⊎◌}
use Rattle.base_types.specs.Ids.{same_fid}
use Rattle.base_types.specs.declared.ids.Fid.{Fid}
use Rattle.base_types.specs.declared.ids.FilesetId.{FilesetId}
use Rattle.base_types.specs.declared.ids.ServerId.{ServerId}
use Rattle.base_types.specs.declared.limits.TheConstants.{FILE_BYTES_MAX}
use Rattle.host_cache.specs.Holding.{is_id, is_status, tokens_of}
use Rattle.host_cache.specs.declared.held.Held.{Held}
use Rattle.host_dirty.specs.Dirtiness.{is_dirty as is_dirty_in}
use Rattle.host_gives.specs.Counters.{last_of}
use Rattle.host_gives.specs.Giving.{IsSound as IsSoundGives, given_in, is_of, names, outstanding}
use Rattle.host_labels.specs.Labels.{InUse, has_id as is_in_use, is_pinned}
use Rattle.host_labels.specs.declared.uses.Labelled.{Labelled as UseOf}
use Rattle.host_leaves.specs.Dirtying.{covers_left, is_dirty_left, is_named, staying, tokens_at, updates_byte}
use Rattle.host_leaves.specs.Giving.{ids_of, leaves_by}
use Rattle.host_leaves.specs.Owning.{dirty_length}
use Rattle.host_leaves.specs.Revoking.{covers_status, fids_of, is_leaving, of_file}
use Rattle.host_leaves.specs.Revoking.{others_of}
use Rattle.host_leaves.specs.Revoking.{pinned}
use Rattle.host_leaves.specs.Sending.{message_to, sending_give}
use Rattle.host_tables.proofs.LeavingSteps.{known_made}
use Rattle.host_manager.proofs.Evicting.{updated_by, updates_it}
use Rattle.host_manager.proofs.Folding.{OnlySends, fold_keeps, fold_only, fold_said, fold_says, giving_keeps}
use Rattle.host_manager.proofs.Folding.{giving_only, giving_said, giving_says}
use Rattle.host_manager.proofs.Given.{if_none}
use Rattle.host_manager.proofs.LeftBy.{IsLeftBy, all_stay, stays_of}
use Rattle.host_manager.proofs.LeftSo.{returns}
use Rattle.host_manager.proofs.OneFile.{at_file, none_mapped}
use Rattle.host_manager.proofs.PartSo.{PartLost, PartSaid, PartSo, gone_or, held_from, kept, start}
use Rattle.host_manager.proofs.Running.{gone_on, runs_on}
use Rattle.host_manager.proofs.Sizes.{length_fits, size_left}
use Rattle.host_manager.proofs.SortedSo.{SortedSo, among_files, fids_in, file_among, file_tokens, in_fids}
use Rattle.host_manager.proofs.SortedSo.{now_pinned, pinned_from, still_pinned, tokens_file}
use Rattle.host_tables.proofs.Declared.{home_is}
use Rattle.host_tables.proofs.Lists.{any_in, by_test, false_not, fid_same, filter_in, id_same, in_any}
use Rattle.host_tables.proofs.Lists.{in_filter, in_map, map_in, not_true, same_fid_is, same_id_is, true_false}
use Rattle.host_tables.proofs.Lists.{true_not}
use Rattle.host_tables.proofs.Outstanding.{first_outstanding, found_in, outstanding_is}
use Rattle.host_tables.proofs.RevokeSteps.{revoke_step_right}
use Rattle.host_tables.proofs.Tidy.{home_number, revoked_sound, tidy_stays}
use Rattle.host_tables.specs.Giving.{GivesBack}
use Rattle.host_tables.specs.LeavingSteps.{LeavesRight, Left, with_left}
use Rattle.host_tables.specs.LeavingSteps.EndsBy.{EndsNone}
use Rattle.host_tables.specs.Letting.{IsAsked, Keeping}
use Rattle.host_tables.specs.RevokeSteps.{Raises, RevokeCounts, SaysRevoked}
use Rattle.host_tables.specs.RevokeSteps.SaysRevoked.{BackGiven, BackKept, BackReturned}
use Rattle.host_tables.specs.Revoking.{InUseHere, Returnable, revokes, revoking}
use Rattle.host_manager.specs.Running.{AsksForCall, IsRunning, RunsOn}
use Rattle.host_tables.specs.Saying.{IsFirst}
use Rattle.host_tables.specs.Stands.{IsAtRest, LostStands, Stands}
use Rattle.host_tables.specs.Tables.{content, held_of, is_length_clean, is_updating, labelled, locks_under, ones}
use Rattle.host_tables.specs.Tables.{opens_under, own_of, site_at, updates_status}
use Rattle.host_tables.specs.Tidy.{IsOutgoing, IsTidy, IsTidyGive}
use Rattle.host_tables.specs.Updates.{home_at}
use Rattle.host_tables.specs.declared.draft.Draft.{Draft}
use Rattle.host_tables.specs.declared.files.Floor.{Floor}
use Rattle.host_tables.specs.declared.tables.Tables.{Tables}
use Rattle.message_types.specs.Soundness.{IsBody, IsEnd, IsRevoke, IsServer, IsSound}
use Rattle.message_types.specs.declared.giving.AppliedGive.{AppliedGive}
use Rattle.message_types.specs.declared.giving.Ends.{Ends}
use Rattle.message_types.specs.declared.giving.Give.{Give}
use Rattle.message_types.specs.declared.message.Body.{Body}
use Rattle.message_types.specs.declared.message.Body.TheVariants.{GiveBack, Gone, Kept as KeptBody, Reclaimed, Returned}
use Rattle.message_types.specs.declared.message.Body.TheVariants.{Revoke}
use Rattle.message_types.specs.declared.message.Message.{Message}
use Rattle.message_types.specs.declared.tokens.Named.{Named}
use Rattle.message_types.specs.declared.tokens.Revoke.{Revoke as RevokeOf}
use Rattle.run_rules.specs.HostAsks.{HasLost, ShowsStatus}
use Rattle.run_rules.specs.Messages.{ComesIn, HasStopped, KeepsToken, SendsTo, home, stay_of}
use Rattle.run_rules.specs.Past.{EachOnce, In}
use Rattle.run_rules.specs.Tokens.{Drops, GivesUse, Held as HeldBy, IsKnown, IsOutstanding, LabelInUse, Learns}
use Rattle.run_rules.specs.Tokens.{LeavesHost}
use Rattle.run_rules.specs.Tokens.{Made, TokenInUse, number_of}
use Rattle.run_rules.specs.Views.{Stance, UpdatesByte, byte_of}
use Rattle.run_rules.specs.declared.applied.Leave.{Leave}
use Rattle.run_rules.specs.declared.applied.Why.TheVariants.{Revoked}
use Rattle.run_rules.specs.declared.step.Asked.{Asked}
use Rattle.run_rules.specs.declared.step.Labelled.{Labelled}
use Rattle.run_rules.specs.declared.step.Step.{Step}
use Rattle.script_lines.specs.declared.script.Script.{Script}
use Rattle.std.proofs.Common.{Bool, List, None, Option, Some, ap, arith, false, flat_map, fold}
use Rattle.std.proofs.Common.{if◌then◌else◌, inl, inr}
use Rattle.std.proofs.Common.{is_some, map, not, refl, subst, sym, true, ◌&&◌, ◌++◌, ◌<◌, ◌∙◌, ◌∷◌, ◌≡◌, ◌≤◌}
use Rattle.std.proofs.Common.{◌⊎◌, ℕ}
use Rattle.std.proofs.lemmas.Bool.{and_from, and_parts}
use Rattle.std.specs.List.{list_any}
use Rattle.std.specs.Option.{option_map_or}
use Rattle.std.specs.Prelude.{IfSome}
use Rattle.run_rules.specs.HostTokens.{GivesByte}
use Rattle.token_types.specs.Conflicts.{same_id}
use Rattle.token_types.specs.declared.token.Kind.{Kind}
use Rattle.token_types.specs.declared.token.Kind.TheVariants.{Bytes, Lock, Opening, Status}
use Rattle.token_types.specs.declared.token.Token.{Token}
use Rattle.token_types.specs.declared.token.TokenId.{TokenId}
use Rattle.tree_laws.specs.Parts.Part.{ByteAt, Size}

module _ (script : Script) (old : Tables) (past : List Step) (message : Message) (running : IsRunning script old past)
    (sound_m : IsSound script.roster message) (no_moves : message.moves ≡ 0) (r : RevokeOf)
    (body : message.body ≡ Revoke r) (present : (site_at old.sites message.server).epoch ≡ message.epoch)
    (floors : List Floor) (raised : Raises old.floors floors r)
    (floors_from : (f : Floor) → In f floors → In f old.floors ⊎ (f.fid ≡ r.fid)) (in_use tokens : List Token)
    (others : List TokenId) (on_way : List FilesetId)
    (sorts : SortedSo (record old { floors = floors }) r.ids in_use tokens others on_way) (l : Left)
    (lost : List Fid) (gone : List Token)
    (made : List Give) (told : List Message) (dues : List FilesetId)
    (so : PartSo (record old { floors = floors; uses = pinned old.uses in_use }) tokens l
    (r.fid ∷ others_of r.fid tokens) gone made)
    (first : List Message)
    (first_is : (y : Message) → In y first
    → ((f : Fid) × In f (fids_of in_use) × (y ≡ message_to old (home_at f.fileset)
    (KeptBody (record { fid = f; ids = ids_of (of_file f in_use) }))))
    ⊎ ((fs : FilesetId) × In fs on_way × ((z : Message) × (outstanding old.gives fs ≡ Some z)
    × (y ≡ message_to old (home_at fs) z.body))))
    (is_first : (f : Fid) → In f (fids_of in_use) → In (message_to old (home_at f.fileset)
    (KeptBody (record { fid = f; ids = ids_of (of_file f in_use) }))) first)
    (saying_so : PartSaid (record old { floors = floors; uses = pinned old.uses in_use }) first r.fid others
    (r.fid ∷ others_of r.fid tokens) gone made told dues)
    (losing : PartLost (record old { floors = floors; uses = pinned old.uses in_use }) tokens l
    (r.fid ∷ others_of r.fid tokens) lost)
    (sound : IsSoundGives old.gives) (sound_l : IsSoundGives l.gives) where
  abbrev m : Tables
  m = record old { floors = floors }

  abbrev m1 : Tables
  m1 = record old { floors = floors; uses = pinned old.uses in_use }

  abbrev files : List Fid
  files = r.fid ∷ others_of r.fid tokens

  abbrev pub x : Tables
  x = record (with_left m l) { lost = lost }

  abbrev drops : List Leave
  drops = map (leaves_by Revoked) gone

  abbrev d1 : Draft
  d1 = start made gone told dues

  abbrev d2 : Draft
  d2 = fold (sending_give x) d1 dues

  abbrev pub s : Step
  s = revokes old.host message.server message.epoch 0 r made drops d2.sent

  pub only : OnlySends d1 d2
  only = fold_only (sending_give x) (λ d fs. giving_only x d fs) d1 dues

  stands : Stands script old past
  stands = running.rests.stands

  tidy : IsTidy script.roster old
  tidy = running.tidy

  -- # Tokens
  their : (t : Token) → In t tokens → In t (held_of old)
  their t i = (sorts.idle t i).0

  kept_so : IsLeftBy old.cache l.cache gone
  kept_so = kept m1 stands.cache.once stands.cache.tells stands.contents.zero tokens their l files gone made so

  its_gone : (t : Token) → In t tokens → In t gone
  its_gone t i = so.all t i (file_among r.fid tokens t i)

  gone_in : (t : Token) → In t gone → In t tokens
  gone_in t i = (so.from t i).0

  left_from : (t : Token) → In t (tokens_of l.cache.held) → In t (held_of old) × (In t gone → ⊥)
  left_from t i = held_from m1 stands.cache.once stands.cache.tells stands.contents.zero tokens their l files gone made
      so t i

  left_or : (t : Token) → In t (held_of old) → In t gone ⊎ In t (tokens_of l.cache.held)
  left_or t i = gone_or m1 stands.cache.once stands.cache.tells stands.contents.zero tokens their l files gone made
      so t i

  body_r : IsRevoke message r
  body_r = subst (IsBody script.roster message) body sound_m.body

  home_r : home r.fid.fileset ≡ message.server
  unfolding home
  home_r =
      let n = home_number r.fid.fileset in
      let e = body_r.named.home no_moves in λ i. record { 0 = (n ∙ e) i }

  declared : (f : Fid) → In f files → IsServer script.roster (home f.fileset)
  declared f i = elim (among_files r.fid tokens f i) [
    | inl e ↦ subst (IsServer script.roster) (sym (ap (λ (z : Fid). home z.fileset) e ∙ home_r)) sound_m.server
    | inr t ↦ subst (λ (z : Fid). IsServer script.roster (home z.fileset)) t.2
        (tidy.held t.0 (their t.0 t.1)).declared
  ]

  kept_declared : (f : Fid) → In f (fids_of in_use) → IsServer script.roster (home f.fileset)
  kept_declared f i =
      let t = in_fids in_use f i in
      subst (λ (z : Fid). IsServer script.roster (home z.fileset)) t.2
      (tidy.held t.0 (sorts.in_use t.0 t.1).0).declared

  at : (f : Fid) → In f files → home_at f.fileset ≡ home f.fileset
  at f i = home_is script.roster old tidy f.fileset (declared f i)

  -- what is idle isn't in use
  idle_so : (t : Token) → In t tokens → InUseHere old t.id → ⊥
  idle_so t i (h, j, e, marked) =
      let u = stands.cache.marked h j marked in
      let used = stands.uses.labels u.0 u.1 in
      true_false (is_in_use old.uses.labels t.id)
      (any_in (λ (used : UseOf). same_id used.token.id t.id) old.uses.labels
      (record { label = u.0.label; token = u.0.token }) used (id_same u.0.token.id t.id (u.2 ∙ e)))
      (sorts.idle t i).1

  -- what is in use is marked so, and stays
  used_so : (t : Token) → In t in_use → (h : Held) × In h old.cache.held × (h.token.id ≡ t.id)
      × (h.in_use ≡ true) × In h.token (tokens_of l.cache.held)
  used_so t i =
      let k = sorts.in_use t i in
      let h = in_map (λ (z : Held). z.token) old.cache.held t k.0 in
      let v = in_any (λ (used : UseOf). same_id used.token.id t.id) old.uses.labels k.1 in
      let its_use : TokenInUse past h.0.token.id =
      (labelled v.0, stands.uses.used v.0 v.1, same_id_is v.0.token.id t.id v.2 ∙ ap (λ (z : Token). z.id) h.2) in (
        h.0,
        h.1,
        ap (λ (z : Token). z.id) (sym h.2),
        elim (by_test h.0.in_use) [
          | inl e ↦ e
          | inr n ↦ absurd (stands.cache.unmarked h.0 h.1 n its_use)
        ],
        subst (λ (z : Token). In z (tokens_of l.cache.held)) h.2 (elim (left_or t k.0) [
          | inr j ↦ j
          | inl j ↦ absurd (true_false (is_in_use old.uses.labels t.id) k.1 (sorts.idle t (gone_in t j)).1)
        ]),
      )

  named_token : (g : Give) (i : TokenId) → In g made → In i g.ids
      → (t : Token) × In t tokens × (t.id ≡ i) × (t.fid ≡ g.fid)
  named_token g i made_it n =
      let w = so.part g made_it in
      let k = in_map (λ (t : Token). t.id) w.named i (subst (λ (is : List TokenId). In i is) w.ids n) in
      let f = file_tokens g.fid tokens k.0 (w.from k.0 k.1) in (k.0, f.0, sym k.2, f.1)

  in_named : (g : Give) (t : Token) (i : In g made) → In t (held_of old) → In t.id g.ids → In t (so.part g i).named
  in_named g t i held n =
      let w = so.part g i in
      let k = in_map (λ (u : Token). u.id) w.named t.id (subst (λ (is : List TokenId). In t.id is) w.ids n) in
      subst (λ (u : Token). In u w.named)
      (stands.cache.once k.0 t (their k.0 (file_tokens g.fid tokens k.0 (w.from k.0 k.1)).0) held (sym k.2)) k.1

  -- # What is said
  said : (y : Message) → In y d2.sent → In y told
      ⊎ ((fs : FilesetId) × (z : Message) × (outstanding l.gives fs ≡ Some z) × (y ≡ message_to x (home_at fs) z.body))
  said y i = elim (fold_says (sending_give x) (λ fs z. (o : Message) × (outstanding l.gives fs ≡ Some o)
      × (z ≡ message_to x (home_at fs) o.body)) (λ d fs z j. giving_says x d fs z j) d1 dues y i) [
        | inl j ↦ inl j
        | inr k ↦ inr (k.0, k.2.0, k.2.1, k.2.2)
      ]

  keeps_told : (y : Message) → In y told → In y d2.sent
  keeps_told y i = fold_keeps (sending_give x) (λ d fs z j. giving_keeps x d fs z j) d1 dues y i

  -- a Kept names what is kept
  keeps_it : (t : Token) → In t in_use → KeepsToken s t.id
  keeps_it t i =
      let w : Named = record { fid = t.fid; ids = ids_of (of_file t.fid in_use) } in
      let y : Message = message_to old (home_at t.fid.fileset) (KeptBody w) in (
        y.server,
        y.epoch,
        0,
        w,
        (y, keeps_told y (saying_so.keeps y (is_first t.fid (fids_in in_use t i))), refl, refl, refl, refl),
        map_in (λ (u : Token). u.id) (of_file t.fid in_use) t (tokens_file t.fid in_use t i refl),
      )

  kept_body : (y : Message) → In y d2.sent → (w : Named) → y.body ≡ KeptBody w → (i : TokenId) → In i w.ids
      → (t : Token) × In t in_use × (t.id ≡ i)
  kept_body y i w e k n = elim (said y i) [
    | inr q ↦
        let o = outstanding_is l.gives sound_l q.0 q.1 q.2 in
        let p = sym (ap (λ (z : Message). z.body) q.3 ∙ o.1) ∙ e in absurd (cc)
    | inl j ↦ elim (saying_so.said y j) [
      | inr q ↦ (let p = sym (ap (λ (z : Message). z.body) q.1) ∙ e in absurd (cc))
      | inl f ↦ elim (first_is y f) [
        | inr q ↦
            let o = outstanding_is old.gives sound q.0 q.2.0 q.2.1 in
            let p = sym (ap (λ (z : Message). z.body) q.2.2 ∙ o.1) ∙ e in absurd (cc)
        | inl q ↦
            let p : KeptBody (record { fid = q.0; ids = ids_of (of_file q.0 in_use) }) ≡ KeptBody w =
            sym (ap (λ (z : Message). z.body) q.2) ∙ e in
            let same : ids_of (of_file q.0 in_use) ≡ w.ids = cc in
            let t = in_map (λ (u : Token). u.id) (of_file q.0 in_use) k
            (subst (λ (is : List TokenId). In k is) (sym same) n) in
            (t.0, (file_tokens q.0 in_use t.0 t.1).0, sym t.2)
      ]
    ]
  ]

  kept_by : (i : TokenId) → KeepsToken s i → (t : Token) × In t in_use × (t.id ≡ i)
  kept_by i k = kept_body k.4.0 k.4.1 k.3 k.4.5 i k.5

  no_end : (g : Give) (ends : Ends) → In g made → g.ends ≡ Some ends → ⊥
  no_end g ends i e = absurd (let p = sym (so.part g i).ends ∙ e in cc)

  -- # The tables
  labels_same : l.uses.labels ≡ old.uses.labels
  labels_same = ap (λ (z : InUse). z.labels) so.uses ∙ pinned_labels in_use old.uses

  pub right : LeavesRight m l past s
  right = record {
    stays = stays_of gone;
    held_is = kept_so.held;
    content_is = kept_so.content_is;
    beyond = kept_so.beyond;
    dirty = so.dirty;
    length_new = so.length_new;
    length_old = so.length_old;
    keeps_label = λ u. true;
    labels_are = labels_same ∙ all_stay old.uses.labels;
    label_kept = λ u i none. refl;
    label_gone = λ u e g i gives. no_end g gives.0 i gives.1;
    pinned = λ i e. elim (pinned_from in_use old.uses i (subst (λ (z : InUse). is_pinned z i ≡ true) so.uses e)) [
      | inl p ↦ inl p
      | inr t ↦ inr (subst (KeepsToken s) t.2 (keeps_it t.0 t.1))
    ];
    pins = λ u j e. subst (λ (z : InUse). is_pinned z u.token.id ≡ true) (sym so.uses) (elim e [
      | inl p ↦ still_pinned in_use old.uses u.token.id p
      | inr k ↦
          let t = kept_by u.token.id k in
          subst (λ (i : TokenId). is_pinned (pinned old.uses in_use) i ≡ true) t.2
          (now_pinned in_use old.uses t.0 t.1)
    ]);
    gives_from = so.gives_from;
    gives_old = so.gives_old;
    gives_new = so.gives_new;
    last_up = so.last_up;
    last_new = so.last_new;
    last_is = so.last_is;
    leaving_old = so.leaving_old;
    leaving_new = so.leaving_new;
    leaving_from = so.leaving_from;
    ends = EndsNone (λ g ends i e. no_end g ends i e) so.ending;
    labels = record {
      locks = subst (λ (q : List UseOf × Option Labelled). EachOnce (flat_map (λ u. locks_under old.host u.token.kind u)
          (map labelled q.0 ++ ones q.1))) (λ i. (sym labels_same i, sym so.ending i)) stands.labels.locks;
      opens = subst (λ (q : List UseOf × Option Labelled). EachOnce (flat_map (λ u. opens_under old.host u.token.kind u)
          (map labelled q.0 ++ ones q.1))) (λ i. (sym labels_same i, sym so.ending i)) stands.labels.opens;
    };
  }

  -- # Which leave
  dropped_is : (t : Token) → Drops s t → In t gone
  dropped_is t d =
      let k = in_map (leaves_by Revoked) gone d.0 d.1 in
      subst (λ (u : Token). In u gone) (sym (ap (λ (z : Leave). z.token) k.2) ∙ d.2) k.1

  returned_is : (y : Message) → In y d2.sent → (w : Named) → y.body ≡ Returned w
      → In w.fid files × ((i : TokenId) → In i w.ids → ((t : Token) × In t gone × (t.id ≡ i) × (t.fid ≡ w.fid)
      × ((g : Give) → In g made → In i g.ids → ⊥)) ⊎ (In i others × (w.fid ≡ r.fid)))
  returned_is y i w e = elim (said y i) [
    | inr q ↦
        let o = outstanding_is l.gives sound_l q.0 q.1 q.2 in
        let p = sym (ap (λ (z : Message). z.body) q.3 ∙ o.1) ∙ e in absurd (cc)
    | inl j ↦ elim (saying_so.said y j) [
      | inl f ↦ elim (first_is y f) [
        | inr q ↦
            let o = outstanding_is old.gives sound q.0 q.2.0 q.2.1 in
            let p = sym (ap (λ (z : Message). z.body) q.2.2 ∙ o.1) ∙ e in absurd (cc)
        | inl q ↦ (let p = sym (ap (λ (z : Message). z.body) q.2) ∙ e in absurd (cc))
      ]
      | inr q ↦
          let p : Returned q.0 ≡ Returned w = sym (ap (λ (z : Message). z.body) q.1) ∙ e in
          let same : q.0 ≡ w = cc in
          subst (λ (z : Named). In z.fid files × ((i : TokenId) → In i z.ids → ((t : Token) × In t gone × (t.id ≡ i)
          × (t.fid ≡ z.fid) × ((g : Give) → In g made → In i g.ids → ⊥)) ⊎ (In i others × (z.fid ≡ r.fid)))) same
          (q.2, q.3)
    ]
  ]

  not_held : (i : TokenId) → In i others → (t : Token) → In t (held_of old) → t.id ≡ i → ⊥
  not_held i j t held e =
      let h = in_map (λ (z : Held). z.token) old.cache.held t held in
      none_found (is_id i) old.cache.held (sorts.others i j).1 h.0 h.1
      (id_same h.0.token.id i (ap (λ (z : Token). z.id) (sym h.2) ∙ e))

  -- a token that stays isn't named
  stays_here : (t : Token) → In t (tokens_of l.cache.held) → LeavesHost s t.id → ⊥
  stays_here t i (inl makes) =
      let n = named_token makes.0 t.id makes.1 makes.2 in
      let h = left_from t i in
      let same : n.0 ≡ t = stands.cache.once n.0 t (their n.0 n.1) h.0 n.2 in
      h.1 (subst (λ (u : Token). In u gone) same (its_gone n.0 n.1))
  stays_here t i (inr back) =
      let h = left_from t i in
      elim ((returned_is back.4.0 back.4.1 back.3 back.4.5).1 t.id back.5) [
        | inl q ↦
            let same : q.0 ≡ t = stands.cache.once q.0 t (their q.0 (gone_in q.0 q.1)) h.0 q.2 in
            h.1 (subst (λ (u : Token). In u gone) same q.1)
        | inr q ↦ not_held t.id q.0 t h.0 refl
      ]

  leaves_it : (t : Token) → In t gone → LeavesHost s t.id
  leaves_it t i = elim (saying_so.back t i) [
    | inl q ↦ inl q
    | inr q ↦ inr (
      home_at q.0.fid.fileset,
      (site_at old.sites (home_at q.0.fid.fileset)).epoch,
      0,
      q.0,
      (returns old q.0, keeps_told (returns old q.0) q.1, refl, refl, refl, refl),
      q.2,
    )
  ]

  pub keeping : Keeping m past s (tokens_of l.cache.held)
  keeping = record {
    were = λ t i. (left_from t i).0;
    stay = λ t i. ((λ leaves. stays_here t i leaves), λ d. (left_from t i).1 (dropped_is t d));
    gone = λ t i. elim (left_or t i) [
      | inl j ↦ inr (leaves_it t j, (leaves_by Revoked t, map_in (leaves_by Revoked) gone t j, refl))
      | inr j ↦ inl j
    ];
    dropped = λ t d. their t (gone_in t (dropped_is t d));
  }

  -- # What is given back
  -- one that stays is among those
  stays_among : (fid : Fid) (u : Token) (at : ℕ) → In u (tokens_of l.cache.held) → UpdatesByte u fid at
      → list_any (updates_byte at) (staying m fid (of_file fid tokens)) ≡ true
  stays_among fid u at i updates =
      let h = left_from u i in
      any_in (updates_byte at) (staying m fid (of_file fid tokens)) u
      (filter_in (λ token. not (is_named (of_file fid tokens) token)) (tokens_at m fid) u
      (at_file m fid u h.0 updates.1)
      (true_not (is_named (of_file fid tokens) u) (λ e.
      let k = in_any (λ (t : Token). same_id t.id u.id) (of_file fid tokens) e in
      let f = (file_tokens fid tokens k.0 k.1).0 in
      let same : k.0 ≡ u = stands.cache.once k.0 u (their k.0 f) h.0 (same_id_is k.0.id u.id k.2) in
      h.1 (subst (λ (t : Token). In t gone) same (its_gone k.0 f))))) (updated_by u fid at updates)

  has_byte_of : (g : Give) (place b : ℕ) → In g made → byte_of g.pieces place ≡ Some b
      → (is_dirty_in m.dirty g.fid place ≡ true) × (content m.cache g.fid (ByteAt place) ≡ b)
      × ((t : Token) × In t (held_of m) × In t.id g.ids × UpdatesByte t g.fid place)
      × ((t : Token) → In t (tokens_of l.cache.held) → UpdatesByte t g.fid place → ⊥)
  has_byte_of g place b i e =
      let w = so.part g i in
      let p = if_none (is_dirty_in m.dirty g.fid place && covers_left m g.fid w.named (of_file g.fid tokens) place)
      (content m.cache g.fid (ByteAt place)) b (sym (w.pieces.bytes place) ∙ e) in
      let both = and_parts (is_dirty_in m.dirty g.fid place) (covers_left m g.fid w.named (of_file g.fid tokens) place)
      p.0 in
      let c = and_parts (list_any (updates_byte place) w.named)
      (not (list_any (updates_byte place) (staying m g.fid (of_file g.fid tokens)))) both.1 in
      let k = in_any (updates_byte place) w.named c.0 in
      let f = file_tokens g.fid tokens k.0 (w.from k.0 k.1) in (
        both.0,
        p.1,
        (
          k.0,
          their k.0 f.0,
          subst (λ (is : List TokenId). In k.0.id is) (sym w.ids) (map_in (λ (u : Token). u.id) w.named k.0 k.1),
          subst (λ (z : Fid). UpdatesByte k.0 z place) f.1 (updates_it k.0 place k.2),
        ),
        λ u j updates. not_true (list_any (updates_byte place) (staying m g.fid (of_file g.fid tokens))) c.1
            (stays_among g.fid u place j updates),
      )

  saves_byte : (t : Token) (f : Fid) (place : ℕ) → is_dirty_in m.dirty f place ≡ true → In t (held_of m)
      → UpdatesByte t f place
      → ((u : Token) × In u (tokens_of l.cache.held) × UpdatesByte u f place)
      ⊎ ((g : Give) × In g made × GivesByte g f place)
  saves_byte t f place d i updates = elim (left_or t i) [
    | inr j ↦ inl (t, j, updates)
    | inl j ↦
        let same : t.fid ≡ f = updates.1 in
        subst (λ (z : Fid). ((u : Token) × In u (tokens_of l.cache.held) × UpdatesByte u z place)
        ⊎ ((g : Give) × In g made × GivesByte g z place)) same
        (by_staying j (subst (λ (z : Fid). is_dirty_in m.dirty z place ≡ true) (sym same) d)
        (updated_by t t.fid place (subst (λ (z : Fid). UpdatesByte t z place) (sym same) updates))
        (list_any (updates_byte place) (staying m t.fid (of_file t.fid tokens))) refl)
  ]
    where
      by_staying : In t gone → is_dirty_in m.dirty t.fid place ≡ true → updates_byte place t ≡ true → (b : Bool)
          → list_any (updates_byte place) (staying m t.fid (of_file t.fid tokens)) ≡ b
          → ((u : Token) × In u (tokens_of l.cache.held) × UpdatesByte u t.fid place)
          ⊎ ((g : Give) × In g made × GivesByte g t.fid place)
      by_staying j dirty mine true e =
          let k = in_any (updates_byte place) (staying m t.fid (of_file t.fid tokens)) e in
          let q = in_filter (λ token. not (is_named (of_file t.fid tokens) token)) (tokens_at m t.fid) k.0 k.1 in
          let f = file_at m t.fid k.0 q.0 in
          inl (
            k.0,
            elim (left_or k.0 f.0) [
              | inr n ↦ n
              | inl n ↦ absurd (not_true (is_named (of_file t.fid tokens) k.0) q.1
                  (any_in (λ (u : Token). same_id u.id k.0.id) (of_file t.fid tokens) k.0
                  (tokens_file t.fid tokens k.0 (gone_in k.0 n) f.1) (id_same k.0.id k.0.id refl)))
            ],
            subst (λ (z : Fid). UpdatesByte k.0 z place) f.1 (updates_it k.0 place k.2),
          )
      by_staying j dirty mine false e =
          let here = tokens_file t.fid tokens t (gone_in t j) refl in
          let leaves = and_from (list_any (updates_byte place) (of_file t.fid tokens))
          (not (list_any (updates_byte place) (staying m t.fid (of_file t.fid tokens))))
          (any_in (updates_byte place) (of_file t.fid tokens) t here mine)
          (false_not (list_any (updates_byte place) (staying m t.fid (of_file t.fid tokens))) e) in
          let lost_it : is_dirty_left m t.fid (of_file t.fid tokens) place ≡ true =
          and_from (is_dirty_in m.dirty t.fid place)
          (covers_left m t.fid (of_file t.fid tokens) (of_file t.fid tokens) place) dirty leaves in
          let k = so.has t j (inr (inl (place, lost_it, mine))) in
          let w = so.part k.0 k.1 in
          let named = in_named k.0 t k.1 (their t (gone_in t j)) k.3 in
          let e_g = subst (λ (z : Fid). list_any (updates_byte place) (staying m z (of_file z tokens)) ≡ false)
          (sym k.2)
          e in
          let dirty_g = subst (λ (z : Fid). is_dirty_in m.dirty z place ≡ true) (sym k.2) dirty in
          let covered = and_from (list_any (updates_byte place) w.named)
          (not (list_any (updates_byte place) (staying m k.0.fid (of_file k.0.fid tokens))))
          (any_in (updates_byte place) w.named t named mine)
          (false_not (list_any (updates_byte place) (staying m k.0.fid (of_file k.0.fid tokens))) e_g) in
          inr (
            k.0,
            k.1,
            (
              k.2,
              (
                content m.cache k.0.fid (ByteAt place),
                w.pieces.bytes place
                    ∙ ap (λ (b : Bool). if b then Some (content m.cache k.0.fid (ByteAt place)) else None)
                    (and_from (is_dirty_in m.dirty k.0.fid place)
                    (covers_left m k.0.fid w.named (of_file k.0.fid tokens) place) dirty_g covered),
              ),
            ),
          )

  saves_length : (t : Token) → In t (held_of m) → updates_status t.kind ≡ true
      → is_length_clean m.lengths (content m.cache) t.fid ≡ false
      → In t (tokens_of l.cache.held) ⊎ ((g : Give) × In g made × (g.fid ≡ t.fid) × In t.id g.ids)
  saves_length t i e n = elim (left_or t i) [
    | inr j ↦ inl j
    | inl j ↦
        let here = and_from (same_fid t.fid t.fid) (updates_status t.kind) (fid_same t.fid t.fid refl) e in
        let any = any_in (is_updating t.fid) (held_of m) t i here in
        let both = and_from (list_any (is_updating t.fid) (held_of m))
        (not (is_length_clean m.lengths (content m.cache) t.fid)) any
        (false_not (is_length_clean m.lengths (content m.cache) t.fid) n) in
        let dirty : is_some (dirty_length m t.fid) ≡ true =
        ap (λ (b : Bool). is_some (if b then Some (content m.cache t.fid Size) else None)) both in
        inr (so.has t j (inr (inr (e, dirty))))
  ]

  -- # Which give-backs become outstanding
  older : (k : Give) → In k made → (y : Message) → outstanding old.gives k.fid.fileset ≡ Some y
      → (g : Give) × In y old.gives.gives × (y.body ≡ GiveBack g) × (g.fid.fileset ≡ k.fid.fileset)
      × (g.number < k.number)
  older k i y e =
      let o = outstanding_is old.gives sound k.fid.fileset y e in
      let j = (found_in (is_of k.fid.fileset) old.gives.gives y e).0 in
      let z = stands.gives.made y j in
      let q : GiveBack o.0 ≡ GiveBack z.0 = sym o.1 ∙ z.1 in
      let is : z.0 ≡ o.0 = cc in
      let was = subst (Made past) is z.2 in
      let up = subst (λ (fs : FilesetId). o.0.number ≤ last_of old.gives.counters fs) o.2
      (stands.gives.last o.0 was) in
      let n = so.above k i in (o.0, j, o.1, o.2, omega (arith, up, n))

  its_file : (g : Give) → In g made → In g.fid files
  its_file g i = so.its_file g i

  sends_first : (k : Give) → In k made → outstanding old.gives k.fid.fileset ≡ None → IsFirst l.gives k
      → SendsTo s (stay_of (s ∷ past) k.fid.fileset) (GiveBack k)
  sends_first k i e first_k =
      let o = first_outstanding l.gives sound_l k first_k in
      let fs : FilesetId = k.fid.fileset in
      let y : Message = message_to x (home_at fs) o.0.body in
      let there = fold_said (sending_give x) (λ d z w j. giving_keeps x d z w j) fs y
      (λ d. giving_said x d fs o.0 o.1) d1 dues (saying_so.due k i e) in
      (y.epoch, (y, there, at k.fid (its_file k i), refl, refl, o.2))

  none_before : (k : Give) → In k made → IsFirst l.gives k → (o : Option Message)
      → outstanding old.gives k.fid.fileset ≡ o → o ≡ None
  none_before k i first_k None e = refl
  none_before k i first_k (Some y) e =
      let q = older k i y e in
      absurd (first_k.least y q.0 (so.gives_old y q.1) q.2 q.3 q.4)

  pub due : (g : Give) → IsFirst l.gives g → (IsFirst old.gives g → ⊥)
      → SendsTo s (stay_of (s ∷ past) g.fid.fileset) (GiveBack g)
  due g first_g fresh = elim (so.gives_from first_g.message first_g.within) [
    | inl was ↦ absurd (fresh (record {
      message = first_g.message;
      within = was;
      body = first_g.body;
      least = λ other k i b fs less. first_g.least other k (so.gives_old other i) b fs less;
    }))
    | inr q ↦
        let p : GiveBack g ≡ GiveBack q.0 = sym first_g.body ∙ q.1 in
        let is : q.0 ≡ g = cc in
        let i = subst (λ (k : Give). In k made) is q.2 in
        sends_first g i (none_before g i first_g (outstanding old.gives g.fid.fileset) refl) first_g
  ]

  -- nothing is learnt to be applied
  no_body : (v : ServerId) (e n : ℕ) (b : Body) → ComesIn s v e n b → Revoke r ≡ b
  no_body v e n b c =
      let p = c.1 in
      let q : revoking old.host message.server message.epoch 0 r ≡ c.0 = cc in ap (λ (z : Message). z.body) q ∙ c.5

  none_learnt : (n : AppliedGive) → Learns past s n → ⊥
  none_learnt n k = elim k.1 [
    | inl c ↦ (let p = no_body _ _ _ (Gone n) c in absurd (cc))
    | inr c ↦ (let p = no_body _ _ _ (Reclaimed c.1) c.2 in absurd (cc))
  ]

  known_past : (k : Give) → IsKnown (s ∷ past) k → IsKnown past k
  known_past k (inl learns) = absurd (none_learnt (number_of k) learns)
  known_past k (inr known) = known

  unknown : (k : Give) → In k made → IsKnown (s ∷ past) k → ⊥
  unknown k i known =
      let q = known_made past (number_of k) (known_past k known) in
      let same : q.0.fid.fileset ≡ k.fid.fileset = ap (λ (n : AppliedGive). n.fileset) q.2 in
      let number : q.0.number ≡ k.number = ap (λ (n : AppliedGive). n.number) q.2 in
      let low : q.0.number ≤ last_of old.gives.counters k.fid.fileset =
      subst (λ (f : FilesetId). q.0.number ≤ last_of old.gives.counters f) same (stands.gives.last q.0 q.1) in
      let up = so.above k i in omega (arith, number, low, up)

  is_outstanding : (k : Give) → In k made → IsOutstanding (s ∷ past) k → IsFirst l.gives k
  is_outstanding k i o =
      let y = so.gives_new k i in record {
        message = y.0;
        within = y.1;
        body = y.2;
        least = λ other j n b fs less. elim (so.gives_from other n) [
          | inl was ↦
              let z = stands.gives.made other was in
              let p : GiveBack j ≡ GiveBack z.0 = sym b ∙ z.1 in
              let is : z.0 ≡ j = cc in
              o.first (
                j,
                inr (subst (Made past) is z.2),
                fs,
                less,
                λ known. z.3 (subst (IsKnown past) (sym is) (known_past j known)),
              )
          | inr q ↦
              let p : GiveBack j ≡ GiveBack q.0 = sym b ∙ q.1 in
              let is : q.0 ≡ j = cc in
              let new = subst (λ (z : Give). In z made) is q.2 in
              o.first (j, inl new, fs, less, unknown j new)
        ];
      }

  none_new : (k : Give) → IsOutstanding (s ∷ past) k → Made past k → IsOutstanding past k
  none_new k o was = record {
    made = was;
    unknown = λ z. o.unknown (inr z);
    first = λ w. o.first (w.0, inr w.1, w.2, w.3, λ z. w.4 (known_past w.0 z));
  }

  sends : (k : Give) → IsOutstanding (s ∷ past) k → (IsOutstanding past k → ⊥) → (HasStopped (s ∷ past) → ⊥)
      → SendsTo s (stay_of (s ∷ past) k.fid.fileset) (GiveBack k)
  sends k o fresh live = elim o.made [
    | inr was ↦ absurd (fresh (none_new k o was))
    | inl i ↦
        let first_k = is_outstanding k i o in
        sends_first k i (none_before k i first_k (outstanding old.gives k.fid.fileset) refl) first_k
  ]

  -- a token in use isn't given back
  ends_used : (g : Give) (u : Labelled) → In g made → LabelInUse past u → In u.token.id g.ids → GivesUse g u
  ends_used g u i used n =
      let t = named_token g u.token.id i n in
      let v = stands.uses.labels u used in
      absurd (true_false (is_in_use old.uses.labels t.0.id)
      (any_in (λ (w : UseOf). same_id w.token.id t.0.id) old.uses.labels
      (record { label = u.label; token = u.token }) v (id_same u.token.id t.0.id (sym t.2))) (sorts.idle t.0 t.1).1)

  pub gives : GivesBack m past s (tokens_of l.cache.held)
  gives = record {
    names = λ g i e.
        let w = so.part g i in w.some (none_mapped (λ (t : Token). t.id) w.named (sym w.ids ∙ e));
    rise = λ g i. (so.part g i).pieces.rise;
    ids = λ g i made_it n. let t = named_token g i made_it n in (t.0, their t.0 t.1, t.2, t.3);
    one = so.one;
    above = so.above;
    next = so.next;
    apart = so.apart;
    has = has_byte_of;
    saves = saves_byte;
    length_is = λ g i. (so.part g i).length;
    saves_length = saves_length;
    ends = λ g ends i e. absurd (no_end g ends i e);
    ends_used = ends_used;
    sends = sends;
  }

  -- # What the step says is right
  returnable : (w : Named) → ((i : TokenId) → In i w.ids → ((t : Token) × In t gone × (t.id ≡ i) × (t.fid ≡ w.fid)
      × ((g : Give) → In g made → In i g.ids → ⊥)) ⊎ (In i others × (w.fid ≡ r.fid))) → (i : TokenId)
      → In i w.ids → In i r.ids × Returnable old made i
  returnable w its i n = elim (its i n) [
    | inl q ↦
        let k = sorts.idle q.0 (gone_in q.0 q.1) in (
          subst (λ (z : TokenId). In z r.ids) q.2 k.2,
          record {
            unnamed = elim (by_test (list_any (names i) old.gives.gives)) [
              | inr f ↦ f
              | inl e ↦
                  let g = so.has q.0 q.1 (inl (subst (λ (z : TokenId). list_any (names z) old.gives.gives ≡ true)
                  (sym q.2) e)) in
                  absurd (q.4 g.0 g.1 (subst (λ (z : TokenId). In z g.0.ids) q.2 g.3))
            ];
            ungiven = q.4;
            idle = λ u. idle_so q.0 (gone_in q.0 q.1) (subst (InUseHere old) (sym q.2) u);
          },
        )
    | inr q ↦
        let k = sorts.others i q.0 in (
          k.0,
          record {
            unnamed = elim (by_test (list_any (names i) old.gives.gives)) [
              | inr f ↦ f
              | inl e ↦ absurd (
                  let y = in_any (names i) old.gives.gives e in
                  let z = stands.gives.made y.0 y.1 in
                  let named : In i z.0.ids = names_it y.0 z.0 i z.1 y.2 in
                  let v = stands.leaving.tokens z.0 i z.2 named z.3 in
                  true_false (list_any (is_leaving i) old.leaving)
                  (any_in (is_leaving i) old.leaving v.0 v.1 (id_same v.0.token.id i v.2)) k.2)
            ];
            ungiven = λ g a o. let t = named_token g i a o in not_held i q.0 t.0 (their t.0 t.1) t.2;
            idle = λ u. not_held i q.0 u.0.token (map_in (λ (h : Held). h.token) old.cache.held u.0 u.1) u.2;
          },
        )
  ]
    where
      names_it : (y : Message) (g : Give) (i : TokenId) → y.body ≡ GiveBack g → names i y ≡ true → In i g.ids
      names_it y g i e n =
          let p = subst (λ (b : Body). option_map_or (λ (give : Give). list_any (λ other. same_id other i) give.ids)
          (given_in b) false ≡ true) e n in
          let k = in_any (λ (other : TokenId). same_id other i) g.ids p in
          subst (λ (z : TokenId). In z g.ids) (same_id_is k.0 i k.2) k.1

  one_file : (w : Named) → ((i : TokenId) → In i w.ids → ((t : Token) × In t gone × (t.id ≡ i) × (t.fid ≡ w.fid)
      × ((g : Give) → In g made → In i g.ids → ⊥)) ⊎ (In i others × (w.fid ≡ r.fid))) → (t : Token)
      → In t (held_of old) → In t.id w.ids → t.fid ≡ w.fid
  one_file w its t held n = elim (its t.id n) [
    | inl q ↦
        let same : q.0 ≡ t = stands.cache.once q.0 t (their q.0 (gone_in q.0 q.1)) held q.2 in
        ap (λ (z : Token). z.fid) (sym same) ∙ q.3
    | inr q ↦ absurd (not_held t.id q.0 t held refl)
  ]

  -- an older give-back that was outstanding is so still
  first_still : (g : Give) → IsFirst old.gives g → IsFirst l.gives g
  first_still g f = record {
    message = f.message;
    within = so.gives_old f.message f.within;
    body = f.body;
    least = λ other k i b fs less. elim (so.gives_from other i) [
      | inl was ↦ f.least other k was b fs less
      | inr q ↦
          let p : GiveBack k ≡ GiveBack q.0 = sym b ∙ q.1 in
          let is : q.0 ≡ k = cc in
          let up = so.above k (subst (λ (z : Give). In z made) is q.2) in
          let z = stands.gives.made f.message f.within in
          let q_g : GiveBack z.0 ≡ GiveBack g = sym z.1 ∙ f.body in
          let same : z.0 ≡ g = cc in
          let low = subst (λ (h : FilesetId). g.number ≤ last_of old.gives.counters h) (sym fs)
          (stands.gives.last g (subst (Made past) same z.2)) in omega (arith, up, low, less)
    ];
  }

  abbrev pub IsSaid : Message → Type 0
  IsSaid y = IsOutgoing old y × IsServer script.roster y.server × SaysRevoked old l r made y.server y.body

  out_is : (v : ServerId) (b : Body) → IsOutgoing old (message_to old v b)
  out_is v b = record { way = refl; host_is = refl; no_moves = refl; epoch_is = refl }

  pub says : (y : Message) → In y d2.sent → IsSaid y
  says y i = elim (said y i) [
    | inr q ↦
        let o = outstanding_is l.gives sound_l q.0 q.1 q.2 in
        let d = declared_l o.0 o.3 in
        subst IsSaid (sym q.3) (
          out_is (home_at q.0) q.1.body,
          subst (IsServer script.roster) (sym (home_is script.roster old tidy o.0.fid.fileset d) ∙ ap home_at o.2) d,
          subst (SaysRevoked old l r made (home_at q.0)) (sym o.1) (BackGiven o.0 o.3
              (sym (home_is script.roster old tidy o.0.fid.fileset d) ∙ ap home_at o.2)),
        )
    | inl j ↦ elim (saying_so.said y j) [
      | inr q ↦ subst IsSaid (sym q.1) (
        out_is (home_at q.0.fid.fileset) (Returned q.0),
        subst (IsServer script.roster) (sym (at q.0.fid q.2)) (declared q.0.fid q.2),
        BackReturned q.0 (sym (at q.0.fid q.2)) (returnable q.0 q.3) (one_file q.0 q.3),
      )
      | inl f ↦ elim (first_is y f) [
        | inr q ↦
            let o = outstanding_is old.gives sound q.0 q.2.0 q.2.1 in
            let d = (tidy.gives o.3.message o.0 o.3.within o.3.body).declared in
            subst IsSaid (sym q.2.2) (
              out_is (home_at q.0) q.2.0.body,
              subst (IsServer script.roster)
                  (sym (home_is script.roster old tidy o.0.fid.fileset d) ∙ ap home_at o.2) d,
              subst (SaysRevoked old l r made (home_at q.0)) (sym o.1) (BackGiven o.0 (first_still o.0 o.3)
                  (sym (home_is script.roster old tidy o.0.fid.fileset d) ∙ ap home_at o.2)),
            )
        | inl q ↦
            let w : Named = record { fid = q.0; ids = ids_of (of_file q.0 in_use) } in
            subst IsSaid (sym q.2) (
              out_is (home_at q.0.fileset) (KeptBody w),
              subst (IsServer script.roster)
                  (sym (home_is script.roster old tidy q.0.fileset (kept_declared q.0 q.1))) (kept_declared q.0 q.1),
              BackKept w (sym (home_is script.roster old tidy q.0.fileset (kept_declared q.0 q.1)))
                  (λ k n.
                  let t = in_map (λ (u : Token). u.id) (of_file q.0 in_use) k n in
                  let f = file_tokens q.0 in_use t.0 t.1 in
                  let h = used_so t.0 f.0 in (
                    subst (λ (z : TokenId). In z r.ids) (sym t.2) (sorts.in_use t.0 f.0).2,
                    (h.0, h.1, h.2 ∙ sym t.2, h.3, h.4),
                  ))
                  (λ u held n.
                  let t = in_map (λ (z : Token). z.id) (of_file q.0 in_use) u.id n in
                  let f = file_tokens q.0 in_use t.0 t.1 in
                  let same : t.0 ≡ u = stands.cache.once t.0 u (sorts.in_use t.0 f.0).0 held (sym t.2) in
                  ap (λ (z : Token). z.fid) (sym same) ∙ f.1),
            )
      ]
    ]
  ]
    where
      declared_l : (g : Give) → IsFirst l.gives g → IsServer script.roster (home g.fid.fileset)
      declared_l g f = elim (so.gives_from f.message f.within) [
        | inl was ↦ (tidy.gives f.message g was f.body).declared
        | inr q ↦
            let p : GiveBack g ≡ GiveBack q.0 = sym f.body ∙ q.1 in
            let is : q.0 ≡ g = cc in
            declared g.fid (its_file g (subst (λ (z : Give). In z made) is q.2))
      ]

  -- # Which files are lost
  status_is : (k : Kind) → is_status k ≡ true → (update : Bool) × (k ≡ Status update)
  status_is (Bytes update span) e = absurd (cc)
  status_is (Status update) e = (update, refl)
  status_is (Lock writing span) e = absurd (cc)
  status_is (Opening kind) e = absurd (cc)

  held_after : (t : Token) → In t (tokens_of l.cache.held) → HeldBy (s ∷ past) t
  held_after t i = (
    inr (stands.cache.held t (left_from t i).0),
    λ d. (left_from t i).1 (dropped_is t d),
  )

  after_held : (t : Token) → HeldBy (s ∷ past) t → In t (tokens_of l.cache.held)
  after_held t h = elim h.0 [
    | inl n ↦ elim n [ ]
    | inr i ↦ elim (left_or t (stands.cache.cached t i)) [
      | inr j ↦ j
      | inl j ↦ absurd (h.1 (leaves_by Revoked t, map_in (leaves_by Revoked) gone t j, refl))
    ]
  ]

  shows_status : (f : Fid) (t : Token) → (same_fid t.fid f && is_status t.kind) ≡ true → ShowsStatus t f
  shows_status f t e =
      let p = and_parts (same_fid t.fid f) (is_status t.kind) e in
      (same_fid_is t.fid f p.0, status_is t.kind p.1)

  status_shows : (f : Fid) (t : Token) → ShowsStatus t f → (same_fid t.fid f && is_status t.kind) ≡ true
  status_shows f t h = and_from (same_fid t.fid f) (is_status t.kind) (fid_same t.fid f h.0)
      (subst (λ (k : Kind). is_status k ≡ true) (sym h.1.1) refl)

  pub loses : LostStands lost old.call (s ∷ past)
  loses c e f = (there, back)
    where
      there : In f lost → HasLost (s ∷ past) f
      there i = elim (losing.from f i) [
        | inl j ↦ inr (
          (stands.lost c e f).0 j,
          λ b. elim b.2 [ inl q ↦ (let p = q in cc) | inr q ↦ elim q.1 [ ] ],
        )
        | inr q ↦
            let k = in_any (λ (t : Token). same_fid t.fid f && is_status t.kind) (of_file f tokens) q.0 in
            let t = file_tokens f tokens k.0 k.1 in
            inl (
              (
                k.0,
                map_in (leaves_by Revoked) gone k.0 (its_gone k.0 t.0),
                shows_status f k.0 k.2,
              ),
              λ u held shows. true_false (covers_status f (tokens_of l.cache.held))
                  (any_in (λ (t : Token). same_fid t.fid f && is_status t.kind) (tokens_of l.cache.held) u
                  (after_held u held) (status_shows f u shows)) q.2,
            )
      ]

      back : HasLost (s ∷ past) f → In f lost
      back (inr h) = losing.old f ((stands.lost c e f).1 h.0)
      back (inl h) =
          let k = in_map (leaves_by Revoked) gone _ h.0.1 in
          let same : h.0.0 ≡ k.0 = ap (λ (z : Leave). z.token) k.2 in
          let t = gone_in k.0 k.1 in
          let shows : ShowsStatus k.0 f = subst (λ (z : Token). ShowsStatus z f) same h.0.2 in
          losing.new f (subst (λ (z : Fid). In z files) shows.0 (file_among r.fid tokens k.0 t))
          (any_in (λ (t : Token). same_fid t.fid f && is_status t.kind) (of_file f tokens) k.0
          (tokens_file f tokens k.0 t shows.0) (status_shows f k.0 shows))
          (ap (λ (o : Option Asked). is_some o) e)
          (elim (by_test (covers_status f (tokens_of l.cache.held))) [
            | inr n ↦ n
            | inl y ↦ absurd (
                let v = in_any (λ (t : Token). same_fid t.fid f && is_status t.kind) (tokens_of l.cache.held) y in
                h.1 v.0 (held_after v.0 v.1) (shows_status f v.0 v.2))
          ])

  -- # The tables stay tidy
  tidy_give : (g : Give) → In g made → IsTidyGive script.roster g
  tidy_give g i =
      let n = so.above g i in record {
        from = omega (arith, n);
        declared = declared g.fid (its_file g i);
        issued = λ k o.
            let t = named_token g k i o in
            ap (λ (id : TokenId). id.server) (sym t.2) ∙ (tidy.held t.0 (their t.0 t.1)).issued
            ∙ ap (λ (z : Fid). home z.fileset) t.3;
        bytes = (so.part g i).pieces.fit;
        size = subst (λ (o : Option ℕ). IfSome o (λ n. n ≤ FILE_BYTES_MAX)) (sym (so.part g i).length)
            (length_fits script.roster old tidy g.fid);
        ends = subst (λ (o : Option Ends). IfSome o (λ (ends : Ends). IsEnd ends.call)) (sym (so.part g i).ends) tt;
      }

  pub tidy_by : (fl : List Floor) (lo : List Fid) → ((f : Floor) → In f fl → In f old.floors ⊎ (f.fid ≡ r.fid))
      → IsTidy script.roster (record (with_left old l) { floors = fl; lost = lo })
  tidy_by fl lo from = tidy_stays script.roster old (record (with_left old l) { floors = fl; lost = lo }) tidy (record {
    host_is = refl;
    servers = refl;
    held = λ t i. inl (left_from t i).0;
    sizes = size_left old.cache l.cache gone so.shown;
    leaving = λ y i. elim (so.leaving_from y i) [ inl j ↦ inl j | inr q ↦ inr q.2 ];
    gives = λ y k i e. elim (so.gives_from y i) [
      | inl j ↦ inl j
      | inr q ↦
          let p : GiveBack q.0 ≡ GiveBack k = sym q.1 ∙ e in
          let is : q.0 ≡ k = cc in
          inr (subst (IsTidyGive script.roster) is (tidy_give q.0 q.2))
    ];
    fetch = λ f e. inl e;
    change = λ v c e. inl e;
    call = λ c e. inl e;
    homes = λ h i. inl i;
    floors = λ f i. elim (from f i) [
      | inl j ↦ inl j
      | inr e ↦ inr (subst (λ (z : Fid). IsServer script.roster (home z.fileset)) (sym e)
          (declared r.fid (inl refl)))
    ];
  })

  pub sound_y : (y : Message) → In y d2.sent → IsSound script.roster y
  sound_y y i =
      let q = says y i in
      revoked_sound script.roster old l message r made y tidy (tidy_by old.floors old.lost (λ f j. inl j)) sound_m body
      no_moves q.0 q.1
      (λ w k e n. elim ((returned_is y i w e).1 k n) [
        | inl t ↦ inl (t.0, their t.0 (gone_in t.0 t.1), t.2)
        | inr t ↦ inr t.1
      ]) q.2

  -- # The step
  pub why : (d : Leave) → In d drops → (d.why ≡ Revoked) × In d.token.id r.ids × (InUseHere old d.token.id → ⊥)
  why d i =
      let k = in_map (leaves_by Revoked) gone d i in
      let t = gone_in k.0 k.1 in
      subst (λ (z : Leave). (z.why ≡ Revoked) × In z.token.id r.ids × (InUseHere old z.token.id → ⊥)) (sym k.2)
      (refl, (sorts.idle k.0 t).2, idle_so k.0 t)

  pub counts : RevokeCounts old past message.server message.epoch 0 r
  counts = record { place_is = λ i. record { server = home_r i; moves = 0 }; present = present }

  -- it runs on, where the open call waits
  pub runs : ((stance : Stance script.roster old.host past s) → stance.kept ≡ tokens_of l.cache.held → stance.held
      ≡ held_of old → stance.own ≡ own_of old → stance.user ≡ old.user
      → IsAsked script.roster old.host past s stance)
      → IsAtRest x (s ∷ past) → AsksForCall x → RunsOn script old x past s
  runs asks rest asking = runs_on script old x past s
      (revoke_step_right script old past message.server message.epoch 0 r made drops d2.sent floors l lost
      running.rests counts raised right keeping gives why
      (λ y i. let q = says y i in (q.0.epoch_is, q.0.no_moves, q.2)) due asks loses rest)
      refl (tidy_by floors lost floors_from) (λ u e.
      let q = running.ending u (sym so.ending ∙ e) in
      (q.0, q.1, q.2, q.3, λ w i. q.4 w (subst (λ (us : List UseOf). In w us) labels_same i))) asking
      (gone_on script old past s running refl) sound_y
