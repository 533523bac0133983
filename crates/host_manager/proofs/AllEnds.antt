-- The step of the end in which all that is held leaves.
use Rattle.std.proofs.Common.{◌&&◌, ◌<◌, ◌∙◌, ◌∷◌, ◌≡◌, ◌≤◌, ◌⊎◌}
use Rattle.base_types.specs.Ids.{same_fid}
use Rattle.base_types.specs.declared.ids.Fid.{Fid}
use Rattle.base_types.specs.declared.ids.FilesetId.{FilesetId}
use Rattle.base_types.specs.declared.ids.Node.TheVariants.{Host}
use Rattle.base_types.specs.declared.ids.ServerId.{ServerId}
use Rattle.base_types.specs.declared.limits.TheConstants.{FILE_BYTES_MAX}
use Rattle.host_cache.specs.Holding.{IsOnce, tokens_of}
use Rattle.host_cache.specs.declared.held.Held.{Held}
use Rattle.host_dirty.specs.Dirtiness.{is_dirty as is_dirty_in}
use Rattle.host_gives.specs.Counters.{last_of}
use Rattle.host_gives.specs.Giving.{IsSound as IsSoundGives, is_of, names, outstanding}
use Rattle.host_leaves.specs.Dirtying.{updates_byte}
use Rattle.host_leaves.specs.Giving.{leaves_by}
use Rattle.host_leaves.specs.Owning.{dirty_length}
use Rattle.host_leaves.specs.Sending.{message_to, sending_due, sending_give}
use Rattle.host_manager.proofs.Evicting.{each_once, updated_by, updates_it}
use Rattle.host_manager.proofs.Folding.{OnlySends, fold_keeps, fold_only, fold_said, fold_says, giving_keeps}
use Rattle.host_manager.proofs.Folding.{giving_only, giving_said, giving_says}
use Rattle.host_manager.proofs.Given.{if_none}
use Rattle.host_manager.proofs.LeftBy.{IsLeftBy, stays_of}
use Rattle.host_manager.proofs.LeftSo.{returns}
use Rattle.host_manager.proofs.PartSo.{PartSo, held_from, kept}
use Rattle.host_manager.proofs.WholeFile.{HasDirt, IsWhole, SaidSo, all_files, some_there, start, whole_has, whole_of}
use Rattle.host_manager.proofs.OneFile.{LabelsLeft, labels_stay, none_mapped}
use Rattle.host_manager.proofs.Running.{asks_none, gone_on, runs_on}
use Rattle.host_manager.proofs.Sizes.{length_fits, size_left}
use Rattle.host_manager.specs.Closing.{AllLeave}
use Rattle.host_manager.specs.Spoken.{IsFree as IsFreePair}
use Rattle.host_tables.proofs.Declared.{home_is}
use Rattle.host_tables.proofs.LeavingSteps.{known_made}
use Rattle.host_tables.proofs.LeavingWhole.{own_leaves_right}
use Rattle.host_tables.proofs.Lists.{any_in, by_test, false_not, fid_same, in_any, in_map, map_in, none_in}
use Rattle.host_tables.proofs.Outstanding.{first_outstanding, found_in, outstanding_is}
use Rattle.host_tables.proofs.Tidy.{left_sound, tidy_stays}
use Rattle.host_tables.specs.Drafts.{no_draft, step_of}
use Rattle.host_tables.specs.Giving.{GivesBack}
use Rattle.host_tables.specs.LeavingSteps.{LeavesRight, Left, with_left}
use Rattle.host_tables.specs.LeavingWhole.{OwnReason, SaysLeft, leaves_own}
use Rattle.host_tables.specs.LeavingWhole.OwnReason.{ToEnd}
use Rattle.host_tables.specs.LeavingWhole.SaysLeft.{OfGiven, OfReturned}
use Rattle.host_tables.specs.Letting.{Keeping}
use Rattle.host_tables.specs.Machine.{StepRight}
use Rattle.host_manager.specs.Running.{EndRight, IsRunning, RunsOn}
use Rattle.host_tables.specs.Saying.{IsFirst}
use Rattle.host_tables.specs.Stands.{Stands}
use Rattle.host_tables.specs.Tables.{content, held_of, is_length_clean, is_updating, site_at, updates_status}
use Rattle.host_tables.specs.Tidy.{IsOutgoing, IsTidy, IsTidyGive}
use Rattle.host_tables.specs.Updates.{home_at}
use Rattle.host_tables.specs.declared.draft.Draft.{Draft}
use Rattle.host_tables.specs.declared.tables.Tables.{Tables}
use Rattle.message_types.specs.Soundness.{IsEnd, IsServer}
use Rattle.message_types.specs.declared.giving.AppliedGive.{AppliedGive}
use Rattle.message_types.specs.declared.giving.Ends.{Ends}
use Rattle.message_types.specs.declared.giving.Give.{Give}
use Rattle.message_types.specs.declared.message.Body.TheVariants.{GiveBack, Returned}
use Rattle.message_types.specs.declared.message.Message.{Message}
use Rattle.message_types.specs.declared.tokens.Named.{Named}
use Rattle.run_rules.specs.HostTokens.{GivesByte}
use Rattle.run_rules.specs.Messages.{HasStopped, KeepsToken, SendsTo, home, stay_of}
use Rattle.run_rules.specs.Past.{In}
use Rattle.run_rules.specs.Steps.{lines_gone, lines_of}
use Rattle.run_rules.specs.Tokens.{Drops, IsKnown, IsOutstanding, LeavesHost, Made, NoneUsed, number_of}
use Rattle.run_rules.specs.Views.{UpdatesByte, byte_of}
use Rattle.run_rules.specs.declared.applied.Leave.{Leave}
use Rattle.run_rules.specs.declared.applied.Why.TheVariants.{Ended}
use Rattle.run_rules.specs.declared.step.Cause.TheVariants.{End}
use Rattle.run_rules.specs.declared.step.Step.{Step}
use Rattle.script_lines.specs.declared.script.Script.{Script}
use Rattle.std.proofs.Common.{Bool, List, None, Option, Some, [], ap, arith, false, fold, if◌then◌else◌, inl, inr}
use Rattle.std.proofs.Common.{is_some, length, map, not, refl, subst, sym, true, ℕ, ◌&&◌, ◌<◌, ◌∙◌, ◌∷◌, ◌≡◌, ◌≤◌}
use Rattle.std.proofs.Common.{◌⊎◌}
use Rattle.std.proofs.lemmas.Bool.{and_from, and_parts}
use Rattle.std.specs.List.{list_any}
use Rattle.std.specs.Prelude.{IfSome, ◌≢◌}
use Rattle.token_types.specs.declared.token.Token.{Token}
use Rattle.token_types.specs.declared.token.TokenId.{TokenId}
use Rattle.tree_laws.specs.Parts.Part.{ByteAt, Size}
use Rattle.host_tables.proofs.AtOnce as at_once
use Rattle.host_tables.proofs.Learning as learning_of

module _ (script : Script) (m : Tables) (past : List Step) (running : IsRunning script m past)
    (lines : lines_gone past ≡ length (lines_of script (Host m.host))) (free : IsFreePair m)
    (no_labels : m.uses.labels ≡ []) (sound : IsSoundGives m.gives) (first : Token) (has_first : In first (held_of m))
    (l : Left) (gone : List Token) (made : List Give) (told : List Message) (dues : List FilesetId)
    (so : PartSo m (held_of m) l (map (λ (t : Token). t.fid) (held_of m)) gone made)
    (saying_so : SaidSo m (map (λ (t : Token). t.fid) (held_of m)) gone made told dues)
    (sound_l : IsSoundGives l.gives) where
  abbrev fids : List Fid
  fids = map (λ (t : Token). t.fid) (held_of m)

  stands : Stands script m past
  stands = running.rests.stands

  tidy : IsTidy script.roster m
  tidy = running.tidy

  abbrev drops : List Leave
  drops = map (leaves_by Ended) gone

  abbrev x : Tables
  x = with_left m l

  abbrev d1 : Draft
  d1 = start made gone told dues

  abbrev pub d2 : Draft
  d2 = fold (sending_give x) d1 dues

  abbrev pub s : Step
  s = leaves_own m.host End made drops d2.sent

  pub only : OnlySends d1 d2
  only = fold_only (sending_give x) (λ d fs. giving_only x d fs) d1 dues

  kept_so : IsLeftBy m.cache l.cache gone
  kept_so = kept m stands.cache.once stands.cache.tells stands.contents.zero (held_of m) (λ u n. n) l fids gone made so

  its_whole : (g : Give) → In g made → IsWhole m g
  its_whole g i = whole_of m g (so.part g i)

  its_has : (t : Token) → In t gone → HasDirt m t → (g : Give) × In g made × (g.fid ≡ t.fid) × In t.id g.ids
  its_has t i dirt = whole_has m l fids gone made so t i dirt

  -- # Tokens
  its_gone : (t : Token) → In t (held_of m) → In t gone
  its_gone t i = so.all t i (map_in (λ (u : Token). u.fid) (held_of m) t i)

  none_held : (t : Token) → In t (tokens_of l.cache.held) → ⊥
  none_held t i =
      let r = held_from m stands.cache.once stands.cache.tells stands.contents.zero (held_of m) (λ u n. n) l fids gone
      made so t i in
      r.1 (its_gone t r.0)

  none_used : NoneUsed past
  none_used u used = none_in m.uses.labels no_labels _ (stands.uses.labels u used)

  declared : (f : Fid) → In f fids → IsServer script.roster (home f.fileset)
  declared f i =
      let r = in_map (λ (t : Token). t.fid) (held_of m) f i in
      subst (λ (z : Fid). IsServer script.roster (home z.fileset)) (sym r.2) (tidy.held r.0 r.1).declared

  at : (f : Fid) → In f fids → home_at f.fileset ≡ home f.fileset
  at f i = home_is script.roster m tidy f.fileset (declared f i)

  named_token : (g : Give) (i : TokenId) → In g made → In i g.ids
      → (t : Token) × In t (held_of m) × (t.id ≡ i) × (t.fid ≡ g.fid)
  named_token g i made_it n =
      let w = its_whole g made_it in
      let r = in_map (λ (t : Token). t.id) w.named i (subst (λ (is : List TokenId). In i is) w.ids n) in
      let f = w.from r.0 r.1 in (r.0, f.0, sym r.2, f.1)

  in_named : (g : Give) (t : Token) (i : In g made) → In t (held_of m) → In t.id g.ids → In t (its_whole g i).named
  in_named g t i held n =
      let w = its_whole g i in
      let r = in_map (λ (u : Token). u.id) w.named t.id (subst (λ (is : List TokenId). In t.id is) w.ids n) in
      subst (λ (u : Token). In u w.named) (stands.cache.once r.0 t (w.from r.0 r.1).0 held (sym r.2)) r.1

  -- # What is said
  said : (y : Message) → In y d2.sent → In y told
      ⊎ ((fs : FilesetId) × (z : Message) × (outstanding l.gives fs ≡ Some z) × (y ≡ message_to x (home_at fs) z.body))
  said y i = elim (fold_says (sending_give x) (λ fs z. (o : Message) × (outstanding l.gives fs ≡ Some o)
      × (z ≡ message_to x (home_at fs) o.body)) (λ d fs z j. giving_says x d fs z j) d1 dues y i) [
        | inl j ↦ inl j
        | inr r ↦ inr (r.0, r.2.0, r.2.1, r.2.2)
      ]

  body_of : (y : Message) → In y d2.sent → ((w : Named) × (y.body ≡ Returned w)) ⊎ ((k : Give) × (y.body ≡ GiveBack k))
  body_of y i = elim (said y i) [
    | inl j ↦ (let r = saying_so.said y j in inl (r.0, ap (λ (z : Message). z.body) r.1))
    | inr r ↦
        let k = outstanding_is l.gives sound_l r.0 r.1 r.2 in
        inr (k.0, ap (λ (z : Message). z.body) r.3 ∙ k.1)
  ]

  none_kept : (i : TokenId) → KeepsToken s i → ⊥
  none_kept i k = elim (body_of k.4.0 k.4.1) [
    | inl r ↦ absurd (let p = sym r.1 ∙ k.4.5 in cc)
    | inr r ↦ absurd (let p = sym r.1 ∙ k.4.5 in cc)
  ]

  no_end : (g : Give) (ends : Ends) → In g made → g.ends ≡ Some ends → ⊥
  no_end g ends i e = absurd (let p = sym (its_whole g i).ends ∙ e in cc)

  labels : LabelsLeft m l past s
  labels = labels_stay m l past s so.uses so.ending no_end none_kept stands.labels

  right : LeavesRight m l past s
  right = record {
    stays = stays_of gone;
    held_is = kept_so.held;
    content_is = kept_so.content_is;
    beyond = kept_so.beyond;
    dirty = so.dirty;
    length_new = so.length_new;
    length_old = so.length_old;
    keeps_label = labels.keeps_label;
    labels_are = labels.labels_are;
    label_kept = labels.label_kept;
    label_gone = labels.label_gone;
    pinned = labels.pinned;
    pins = labels.pins;
    gives_from = so.gives_from;
    gives_old = so.gives_old;
    gives_new = so.gives_new;
    last_up = so.last_up;
    last_new = so.last_new;
    last_is = so.last_is;
    leaving_old = so.leaving_old;
    leaving_new = so.leaving_new;
    leaving_from = so.leaving_from;
    ends = labels.ends;
    labels = labels.labels;
  }

  -- # Which leave
  leaves_it : (t : Token) → In t (held_of m) → LeavesHost s t.id
  leaves_it t i = elim (saying_so.back t (its_gone t i)) [
    | inl r ↦ inl r
    | inr r ↦ inr (
      home_at r.0.fid.fileset,
      (site_at m.sites (home_at r.0.fid.fileset)).epoch,
      0,
      r.0,
      (
        returns m r.0,
        fold_keeps (sending_give x) (λ d fs y j. giving_keeps x d fs y j) d1 dues (returns m r.0) r.1,
        refl,
        refl,
        refl,
        refl,
      ),
      r.2,
    )
  ]

  dropped_is : (t : Token) → Drops s t → In t gone
  dropped_is t d =
      let r = in_map (leaves_by Ended) gone d.0 d.1 in
      subst (λ (u : Token). In u gone) (sym (ap (λ (z : Leave). z.token) r.2) ∙ d.2) r.1

  keeping : Keeping m past s (tokens_of l.cache.held)
  keeping = record {
    were = λ t i. absurd (none_held t i);
    stay = λ t i. absurd (none_held t i);
    gone = λ t i. inr (
      leaves_it t i,
      (leaves_by Ended t, map_in (leaves_by Ended) gone t (its_gone t i), refl),
    );
    dropped = λ t d. (so.from t (dropped_is t d)).0;
  }

  -- # What is given back
  older : (k : Give) → In k made → (y : Message) → outstanding m.gives k.fid.fileset ≡ Some y
      → (r : Give) × In y m.gives.gives × (y.body ≡ GiveBack r) × (r.fid.fileset ≡ k.fid.fileset)
      × (r.number < k.number)
  older k i y e =
      let r = outstanding_is m.gives sound k.fid.fileset y e in
      let j = (found_in (is_of k.fid.fileset) m.gives.gives y e).0 in
      let z = stands.gives.made y j in
      let q : GiveBack r.0 ≡ GiveBack z.0 = sym r.1 ∙ z.1 in
      let is : z.0 ≡ r.0 = cc in
      let was = subst (Made past) is z.2 in
      let up = subst (λ (fs : FilesetId). r.0.number ≤ last_of m.gives.counters fs) r.2 (stands.gives.last r.0 was) in
      let n = so.above k i in (r.0, j, r.1, r.2, omega (arith, up, n))

  sends_first : (k : Give) → In k made → outstanding m.gives k.fid.fileset ≡ None → IsFirst l.gives k
      → SendsTo s (stay_of (s ∷ past) k.fid.fileset) (GiveBack k)
  sends_first k i e first_k =
      let r = first_outstanding l.gives sound_l k first_k in
      let fs : FilesetId = k.fid.fileset in
      let y : Message = message_to x (home_at fs) r.0.body in
      let there = fold_said (sending_give x) (λ d z w j. giving_keeps x d z w j) fs y
      (λ d. giving_said x d fs r.0 r.1) d1 dues (saying_so.due k i e) in
      (y.epoch, (y, there, at k.fid (so.its_file k i), refl, refl, r.2))

  due : (g : Give) → IsFirst l.gives g → (IsFirst m.gives g → ⊥)
      → SendsTo s (stay_of (s ∷ past) g.fid.fileset) (GiveBack g)
  due g first_g fresh = elim (so.gives_from first_g.message first_g.within) [
    | inl was ↦ absurd (fresh (record {
      message = first_g.message;
      within = was;
      body = first_g.body;
      least = λ other k i b fs less. first_g.least other k (so.gives_old other i) b fs less;
    }))
    | inr r ↦
        let p : GiveBack g ≡ GiveBack r.0 = sym first_g.body ∙ r.1 in
        let is : r.0 ≡ g = cc in
        let i = subst (λ (k : Give). In k made) is r.2 in
        sends_first g i (by_one g i first_g (outstanding m.gives g.fid.fileset) refl) first_g
  ]
    where
      by_one : (g : Give) → In g made → IsFirst l.gives g → (o : Option Message)
          → outstanding m.gives g.fid.fileset ≡ o → o ≡ None
      by_one g i first_g None e = refl
      by_one g i first_g (Some y) e =
          let r = older g i y e in
          absurd (first_g.least y r.0 (so.gives_old y r.1) r.2 r.3 r.4)

  -- what was made now isn't known
  unknown : (k : Give) → In k made → IsKnown (s ∷ past) k → ⊥
  unknown k i (inl learns) = absurd ((learning_of.teaches_nothing past s tt).none_learnt (number_of k) learns)
  unknown k i (inr known) =
      let r = known_made past (number_of k) known in
      let same : r.0.fid.fileset ≡ k.fid.fileset = ap (λ (n : AppliedGive). n.fileset) r.2 in
      let number : r.0.number ≡ k.number = ap (λ (n : AppliedGive). n.number) r.2 in
      let low : r.0.number ≤ last_of m.gives.counters k.fid.fileset =
      subst (λ (f : FilesetId). r.0.number ≤ last_of m.gives.counters f) same (stands.gives.last r.0 r.1) in
      let up = so.above k i in omega (arith, number, low, up)

  known_past : (k : Give) → IsKnown (s ∷ past) k → IsKnown past k
  known_past k (inl learns) = absurd ((learning_of.teaches_nothing past s tt).none_learnt (number_of k) learns)
  known_past k (inr known) = known

  is_first : (k : Give) → In k made → IsOutstanding (s ∷ past) k → IsFirst l.gives k
  is_first k i o =
      let y = so.gives_new k i in record {
        message = y.0;
        within = y.1;
        body = y.2;
        least = λ other j n b fs less. elim (so.gives_from other n) [
          | inl was ↦
              let z = stands.gives.made other was in
              let p : GiveBack j ≡ GiveBack z.0 = sym b ∙ z.1 in
              let is : z.0 ≡ j = cc in
              o.first (
                j,
                inr (subst (Made past) is z.2),
                fs,
                less,
                λ known. z.3 (subst (IsKnown past) (sym is) (known_past j known)),
              )
          | inr r ↦
              let p : GiveBack j ≡ GiveBack r.0 = sym b ∙ r.1 in
              let is : r.0 ≡ j = cc in
              let new = subst (λ (z : Give). In z made) is r.2 in
              o.first (j, inl new, fs, less, unknown j new)
        ];
      }

  none_new : (k : Give) → IsOutstanding (s ∷ past) k → Made past k → IsOutstanding past k
  none_new k o was = record {
    made = was;
    unknown = λ z. o.unknown (inr z);
    first = λ w. o.first (w.0, inr w.1, w.2, w.3, λ z. w.4 (known_past w.0 z));
  }

  sends : (k : Give) → IsOutstanding (s ∷ past) k → (IsOutstanding past k → ⊥) → (HasStopped (s ∷ past) → ⊥)
      → SendsTo s (stay_of (s ∷ past) k.fid.fileset) (GiveBack k)
  sends k o fresh live = elim o.made [
    | inr was ↦ absurd (fresh (none_new k o was))
    | inl i ↦
        let first_k = is_first k i o in
        sends_first k i (by_one k i first_k (outstanding m.gives k.fid.fileset) refl) first_k
  ]
    where
      by_one : (k : Give) → In k made → IsFirst l.gives k → (o : Option Message)
          → outstanding m.gives k.fid.fileset ≡ o → o ≡ None
      by_one k i first_k None e = refl
      by_one k i first_k (Some y) e =
          let r = older k i y e in
          absurd (first_k.least y r.0 (so.gives_old y r.1) r.2 r.3 r.4)

  has_byte_of : (g : Give) (place b : ℕ) → In g made → byte_of g.pieces place ≡ Some b
      → (is_dirty_in m.dirty g.fid place ≡ true) × (content m.cache g.fid (ByteAt place) ≡ b)
      × ((t : Token) × In t (held_of m) × In t.id g.ids × UpdatesByte t g.fid place)
      × ((t : Token) → In t (tokens_of l.cache.held) → UpdatesByte t g.fid place → ⊥)
  has_byte_of g place b i e =
      let w = its_whole g i in
      let p = if_none (is_dirty_in m.dirty g.fid place && list_any (updates_byte place) w.named)
      (content m.cache g.fid (ByteAt place)) b (sym (w.bytes place) ∙ e) in
      let both = and_parts (is_dirty_in m.dirty g.fid place) (list_any (updates_byte place) w.named) p.0 in
      let r = in_any (updates_byte place) w.named both.1 in
      let f = w.from r.0 r.1 in (
        both.0,
        p.1,
        (
          r.0,
          f.0,
          subst (λ (is : List TokenId). In r.0.id is) (sym w.ids) (map_in (λ (u : Token). u.id) w.named r.0 r.1),
          subst (λ (z : Fid). UpdatesByte r.0 z place) f.1 (updates_it r.0 place r.2),
        ),
        λ u j updates. none_held u j,
      )

  saves_byte : (t : Token) (f : Fid) (place : ℕ) → is_dirty_in m.dirty f place ≡ true → In t (held_of m)
      → UpdatesByte t f place
      → ((u : Token) × In u (tokens_of l.cache.held) × UpdatesByte u f place)
      ⊎ ((g : Give) × In g made × GivesByte g f place)
  saves_byte t f place d i updates =
      let mine = updated_by t f place updates in
      let same : t.fid ≡ f = updates.1 in
      let dirty = subst (λ (z : Fid). is_dirty_in m.dirty z place ≡ true) (sym same) d in
      let r = its_has t (its_gone t i) (inr (inl (place, dirty, mine))) in
      let w = its_whole r.0 r.1 in
      let its = in_named r.0 t r.1 i r.3 in
      let dirty_g = subst (λ (z : Fid). is_dirty_in m.dirty z place ≡ true) (sym r.2) dirty in
      let both = and_from (is_dirty_in m.dirty r.0.fid place) (list_any (updates_byte place) w.named) dirty_g
      (any_in (updates_byte place) w.named t its mine) in
      inr (
        r.0,
        r.1,
        (
          r.2 ∙ same,
          (
            content m.cache r.0.fid (ByteAt place),
            w.bytes place
                ∙ ap (λ (b : Bool). if b then Some (content m.cache r.0.fid (ByteAt place)) else None) both,
          ),
        ),
      )

  saves_length : (t : Token) → In t (held_of m) → updates_status t.kind ≡ true
      → is_length_clean m.lengths (content m.cache) t.fid ≡ false
      → In t (tokens_of l.cache.held) ⊎ ((g : Give) × In g made × (g.fid ≡ t.fid) × In t.id g.ids)
  saves_length t i e n =
      let here = and_from (same_fid t.fid t.fid) (updates_status t.kind) (fid_same t.fid t.fid refl) e in
      let any = any_in (is_updating t.fid) (held_of m) t i here in
      let both = and_from (list_any (is_updating t.fid) (held_of m))
      (not (is_length_clean m.lengths (content m.cache) t.fid)) any
      (false_not (is_length_clean m.lengths (content m.cache) t.fid) n) in
      let dirty : is_some (dirty_length m t.fid) ≡ true =
      ap (λ (b : Bool). is_some (if b then Some (content m.cache t.fid Size) else None)) both in
      inr (its_has t (its_gone t i) (inr (inr (e, dirty))))

  gives : GivesBack m past s (tokens_of l.cache.held)
  gives = record {
    names = λ g i e.
        let w = its_whole g i in w.some (none_mapped (λ (t : Token). t.id) w.named (sym w.ids ∙ e));
    rise = λ g i. (its_whole g i).rise;
    ids = λ g i made_it n. named_token g i made_it n;
    one = so.one;
    above = so.above;
    next = so.next;
    apart = so.apart;
    has = has_byte_of;
    saves = saves_byte;
    length_is = λ g i. (its_whole g i).length;
    saves_length = saves_length;
    ends = λ g ends i e. absurd (no_end g ends i e);
    ends_used = λ g u i used n. absurd (none_used u used);
    sends = sends;
  }

  -- # The tables stay tidy
  a_named : (g : Give) (i : In g made) → (t : Token) × In t (held_of m) × (t.fid ≡ g.fid)
  a_named g i =
      let w = its_whole g i in
      let r = some_there w.named w.some in
      let f = w.from r.0 r.1 in (r.0, f.0, f.1)

  tidy_give : (g : Give) → In g made → IsTidyGive script.roster g
  tidy_give g i =
      let r = a_named g i in record {
        from = let n = so.above g i in omega (arith, n);
        declared = subst (λ (f : Fid). IsServer script.roster (home f.fileset)) r.2 (tidy.held r.0 r.1).declared;
        issued = λ k n.
            let t = named_token g k i n in
            ap (λ (id : TokenId). id.server) (sym t.2) ∙ (tidy.held t.0 t.1).issued
            ∙ ap (λ (z : Fid). home z.fileset) t.3;
        bytes = (its_whole g i).fit;
        size = subst (λ (o : Option ℕ). IfSome o (λ n. n ≤ FILE_BYTES_MAX)) (sym (its_whole g i).length)
            (length_fits script.roster m tidy g.fid);
        ends = subst (λ (o : Option Ends). IfSome o (λ (ends : Ends). IsEnd ends.call)) (sym (its_whole g i).ends) tt;
      }

  tidy_l : IsTidy script.roster x
  tidy_l = tidy_stays script.roster m x tidy (record {
    host_is = refl;
    servers = refl;
    held = λ t i. absurd (none_held t i);
    sizes = size_left m.cache l.cache gone so.shown;
    leaving = λ y i. elim (so.leaving_from y i) [ inl j ↦ inl j | inr r ↦ inr r.2 ];
    gives = λ y k i e. elim (so.gives_from y i) [
      | inl j ↦ inl j
      | inr r ↦
          let p : GiveBack r.0 ≡ GiveBack k = sym r.1 ∙ e in
          let is : r.0 ≡ k = cc in
          inr (subst (IsTidyGive script.roster) is (tidy_give r.0 r.2))
    ];
    fetch = λ f e. inl e;
    change = λ v c e. inl e;
    call = λ c e. inl e;
    homes = λ h i. inl i;
    floors = λ f i. inl i;
  })

  -- # The step
  idle_here : (t : Token) → In t (held_of m) → (h : Held) × In h m.cache.held × (h.token.id ≡ t.id)
      × (h.in_use ≡ false)
  idle_here t i =
      let r = in_map (λ (h : Held). h.token) m.cache.held t i in (
        r.0,
        r.1,
        ap (λ (u : Token). u.id) (sym r.2),
        elim (by_test r.0.in_use) [
          | inl e ↦ absurd (let k = stands.cache.marked r.0 r.1 e in none_used k.0 k.1)
          | inr n ↦ n
        ],
      )

  says : (y : Message) → In y d2.sent → (y.epoch ≡ (site_at m.sites y.server).epoch) × (y.moves ≡ 0)
      × SaysLeft m l s y.server y.body
  says y i = elim (said y i) [
    | inl j ↦
        let r = saying_so.said y j in
        let w = r.0 in
        subst (λ (z : Message). (z.epoch ≡ (site_at m.sites z.server).epoch) × (z.moves ≡ 0)
        × SaysLeft m l s z.server z.body) (sym r.1) (
          refl,
          refl,
          OfReturned w (sym (at w.fid r.2))
              (λ k n.
              let q = r.3 k n in
              let held = (so.from q.0 q.1).0 in
              subst (λ (id : TokenId). ((h : Held) × In h m.cache.held × (h.token.id ≡ id) × (h.in_use ≡ false))
              × (list_any (names id) m.gives.gives ≡ false)
              × ((g : Give) → In g s.made → In id g.ids → ⊥)) q.2 (
                idle_here q.0 held,
                elim (by_test (list_any (names q.0.id) m.gives.gives)) [
                  | inl e ↦
                      let g = its_has q.0 q.1 (inl e) in
                      absurd (q.4 g.0 g.1 (subst (λ (id : TokenId). In id g.0.ids) q.2 g.3))
                  | inr f ↦ f
                ],
                λ g a o. q.4 g a (subst (λ (id : TokenId). In id g.ids) q.2 o),
              ))
              (λ t held n.
              let q = r.3 t.id n in
              let same = stands.cache.once q.0 t (so.from q.0 q.1).0 held q.2 in
              ap (λ (z : Token). z.fid) (sym same) ∙ q.3),
        )
    | inr r ↦
        let k = outstanding_is l.gives sound_l r.0 r.1 r.2 in
        let to : home k.0.fid.fileset ≡ home_at r.0 =
        sym (home_is script.roster m tidy k.0.fid.fileset
        (tidy_l.gives k.3.message k.0 k.3.within k.3.body).declared) ∙ ap home_at k.2 in
        subst (λ (z : Message). (z.epoch ≡ (site_at m.sites z.server).epoch) × (z.moves ≡ 0)
        × SaysLeft m l s z.server z.body) (sym r.3) (
          refl,
          refl,
          subst (SaysLeft m l s (home_at r.0)) (sym k.1) (OfGiven k.0 k.3 to),
        )
  ]

  no_bye : (v : ServerId) → (site_at m.sites v).said_bye ≡ true → ⊥
  no_bye v e = (stands.parted v ((stands.sites v).said_bye.0 e)).none_owned first
      (stands.cache.owned first has_first)

  reason : OwnReason script m past drops End
  reason = ToEnd lines (at_once.not_many script m past stands free.1) none_used
      (λ d i. ap (λ (z : Leave). z.why) (in_map (leaves_by Ended) gone d i).2)

  right_step : StepRight script m x past s
  right_step = own_leaves_right script m l past End made drops d2.sent running.rests free.0 reason right keeping gives
      no_end says due no_bye

  known_server : (y : Message) → In y d2.sent → IsServer script.roster y.server
  known_server y i = elim (said y i) [
    | inl j ↦
        let r = saying_so.said y j in
        subst (IsServer script.roster) (sym (at r.0.fid r.2) ∙ sym (ap (λ (z : Message). z.server) r.1))
        (declared r.0.fid r.2)
    | inr r ↦
        let k = outstanding_is l.gives sound_l r.0 r.1 r.2 in
        let d = (tidy_l.gives k.3.message k.0 k.3.within k.3.body).declared in
        subst (IsServer script.roster) (sym (home_is script.roster m tidy k.0.fid.fileset d) ∙ ap home_at k.2
        ∙ sym (ap (λ (z : Message). z.server) r.3)) d
  ]

  out : (y : Message) → In y d2.sent → y ≡ message_to x y.server y.body
  out y i = elim (said y i) [
    | inl j ↦ (let r = saying_so.said y j in subst (λ (z : Message). z ≡ message_to x z.server z.body) (sym r.1) refl)
    | inr r ↦ subst (λ (z : Message). z ≡ message_to x z.server z.body) (sym r.3) refl
  ]

  pub runs : RunsOn script m x past s
  runs = runs_on script m x past s right_step refl tidy_l
      (λ u e. absurd (let r = running.ending u (sym so.ending ∙ e) in let p = sym free.0 ∙ r.1 in cc))
      (asks_none x free.0) (gone_on script m past s running refl)
      (λ y i. left_sound script.roster m l s y tidy tidy_l
      (subst (IsOutgoing m) (sym (out y i)) (record { way = refl; host_is = refl; no_moves = refl; epoch_is = refl }))
      (known_server y i) (says y i).2)

pub all_right : (m new : Tables) (after : Draft) → IsFreePair m → IsOnce m.cache.held → IsSoundGives m.gives
    → IsSoundGives new.gives
    → m.uses.labels ≡ [] → m.cache.held ≢ [] → AllLeave m no_draft new after
    → EndRight m new (step_of (Host m.host) End after)
all_right m new after free once sound sound_new no_labels some its script past running lines =
    let stands : Stands script m past = running.rests.stands in
    let h = all_files m stands.cache.once stands.cache.tells stands.contents.zero
    (each_once m.cache.held once) (held_of m) no_draft new its.left refl its.leaves in
    let one = some_there m.cache.held some in
    let has_first = map_in (λ (x : Held). x.token) m.cache.held one.0 one.1 in
    let sound_l = subst (λ (z : Tables). IsSoundGives z.gives) h.tables sound_new in
    let right = runs script m past running lines free no_labels sound one.0.token has_first h.l h.gone h.made h.sent
    h.due h.left h.said sound_l in
    let sent_only = only script m past running lines free no_labels sound one.0.token has_first h.l h.gone h.made
    h.sent h.due h.left h.said sound_l in
    let draft : after ≡ sending_due (with_left m h.l) (start h.made h.gone h.sent h.due) =
    its.sends ∙ (λ i. sending_due (h.tables i) (h.draft i)) in
    let step = ap (step_of (Host m.host) End) (draft ∙ sent_only) in
    subst (λ (q : Tables × Step). RunsOn script m q.0 past q.1 × (q.1.cause ≡ End))
    (λ i. (sym h.tables i, sym step i)) (right, refl)
