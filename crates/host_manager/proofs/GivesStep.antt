-- The step in which a call ends the last use of a pinned token: that is given back, and the call is left open.
use Rattle.host_tables.proofs.Lists.{not_true}
use Rattle.std.proofs.Common.{◌&&◌, ◌+◌, ◌∙◌, ◌∷◌, ◌≡◌, ◌≤◌}
use Rattle.base_types.specs.Name.{same_name}
use Rattle.base_types.specs.declared.ids.Fid.{Fid}
use Rattle.base_types.specs.declared.ids.FilesetId.{FilesetId}
use Rattle.base_types.specs.declared.ids.Node.TheVariants.{Host}
use Rattle.base_types.specs.declared.limits.TheConstants.{FILE_BYTES_MAX}
use Rattle.host_cache.specs.Holding.{tokens_of}
use Rattle.host_cache.specs.Seen.{Kept, after_drop, seen}
use Rattle.host_calls.specs.Looking.{AreUses}
use Rattle.host_dirty.specs.Dirtiness.{is_dirty as is_dirty_in}
use Rattle.host_dirty.specs.declared.dirty.Dirty.{Dirty}
use Rattle.host_gives.specs.Counters.{last_of as last_counter}
use Rattle.host_gives.specs.Giving.{IsSound as IsSoundGives, outstanding}
use Rattle.host_labels.specs.Labels.{IsSound as IsSoundUses, is_labelled, is_lock}
use Rattle.host_labels.specs.declared.uses.Labelled.{Labelled as UseOf}
use Rattle.host_leaves.specs.Giving.{leaves_by, leaving_by}
use Rattle.host_leaves.specs.Owning.{has_label}
use Rattle.host_leaves.specs.Sending.{message_to}
use Rattle.host_manager.proofs.EndsIt.{verdict_so}
use Rattle.host_manager.proofs.Freed.{end_is, mode_same}
use Rattle.host_manager.proofs.LeftBy.{IsLeftBy, left_by}
use Rattle.host_manager.proofs.OneFile.{IsGiven}
use Rattle.host_manager.proofs.Running.{runs_on}
use Rattle.host_manager.proofs.Sizes.{length_fits, size_left}
use Rattle.host_manager.proofs.Turns.{IsTurn}
use Rattle.host_tables.proofs.Declared.{home_is}
use Rattle.host_tables.proofs.Lists.{in_either, in_filter, name_same, or_right}
use Rattle.host_tables.proofs.Outstanding.{outstanding_is}
use Rattle.host_tables.proofs.Resting.{give_rests}
use Rattle.host_tables.proofs.Tidy.{left_sound, tidy_stays}
use Rattle.host_tables.specs.CallGives.{LeavesFor}
use Rattle.host_tables.specs.CallGives.LeavesFor.{ForEnd}
use Rattle.host_tables.specs.Drafts.{no_draft, step_of}
use Rattle.host_tables.specs.Giving.{GivesBack}
use Rattle.host_tables.specs.Half.{half, learning}
use Rattle.host_tables.specs.LeavingSteps.{LeavesRight, Left, with_left}
use Rattle.host_tables.specs.LeavingWhole.{SaysLeft}
use Rattle.host_tables.specs.LeavingWhole.SaysLeft.{OfGiven}
use Rattle.host_tables.specs.Letting.{Keeping}
use Rattle.host_tables.specs.Machine.{StepRight}
use Rattle.host_tables.specs.Quiet.{with_moved}
use Rattle.host_manager.specs.Running.{EndsOpen, RunsOn}
use Rattle.host_tables.specs.Saying.{IsFirst}
use Rattle.host_tables.specs.Stands.{IsAtRest, IsCoveredFrom, Stands, verdict_from}
use Rattle.host_tables.specs.Tables.{ends_label, gives_label, held_of, is_last_pinned, labelled, site_at}
use Rattle.host_tables.specs.Tidy.{IsOutgoing, IsTidy, IsTidyGive}
use Rattle.host_tables.specs.Updates.{home_at}
use Rattle.host_gives.specs.declared.leavings.Leaving.{Leaving}
use Rattle.host_tables.specs.declared.draft.Draft.{Draft}
use Rattle.host_tables.specs.declared.tables.Tables.{Tables}
use Rattle.message_types.specs.Soundness.{IsCall, IsEnd, IsServer, IsSound}
use Rattle.message_types.specs.declared.giving.Ends.{Ends}
use Rattle.message_types.specs.declared.giving.Give.{Give}
use Rattle.message_types.specs.declared.message.Body.TheVariants.{GiveBack}
use Rattle.message_types.specs.declared.message.Message.{Message}
use Rattle.need_host.specs.Calls.Verdict.{Frees as FreesOf, Gives as GivesOf}
use Rattle.need_host.specs.Looks.{CoverAll}
use Rattle.run_rules.specs.Messages.{KeepsToken, ReturnsToken, home}
use Rattle.run_rules.specs.Past.{In}
use Rattle.run_rules.specs.Tokens.{FreesPinned, GivesUse, IsOpen, IsUseKind, LabelInUse, end_call, end_of}
use Rattle.run_rules.specs.declared.applied.Leave.{Leave}
use Rattle.run_rules.specs.declared.applied.Why.TheVariants.{ForCall}
use Rattle.run_rules.specs.declared.step.Asked.{Asked}
use Rattle.run_rules.specs.declared.step.Cause.{Cause}
use Rattle.run_rules.specs.declared.step.Labelled.{Labelled}
use Rattle.run_rules.specs.declared.step.Step.{Step}
use Rattle.script_lines.specs.declared.script.Script.{Script}
use Rattle.std.proofs.Common.{Bool, List, None, Option, Some, [], ap, arith, if◌then◌else◌, inl, inr, not}
use Rattle.std.proofs.Common.{refl, subst, sym, true, ℕ, ◌&&◌, ◌+◌, ◌∙◌, ◌∷◌, ◌≡◌, ◌≤◌}
use Rattle.std.proofs.lemmas.Bool.{and_from}
use Rattle.std.specs.Bool.{beq}
use Rattle.std.specs.List.{list_any}
use Rattle.std.specs.Prelude.{IfSome}
use Rattle.token_types.specs.declared.token.Kind.{Kind}
use Rattle.token_types.specs.declared.token.Kind.TheVariants.{Bytes, Lock, Opening, Status}
use Rattle.token_types.specs.declared.token.Token.{Token}
use Rattle.token_types.specs.declared.token.TokenId.{TokenId}
use Rattle.tree_calls.specs.declared.call.Call.{Call}
use Rattle.tree_calls.specs.declared.call.Call.TheVariants.{Sync}
use Rattle.tree_calls.specs.declared.place.Place.{Place as NamedPlace}
use Rattle.tree_calls.specs.declared.roster.Roster.{Roster}
use Rattle.host_manager.proofs.Dues as dues_of
use Rattle.host_manager.proofs.GivenUp as given_up
use Rattle.host_manager.proofs.GivesUp as gives_up
use Rattle.host_manager.proofs.OneFile as one_file
use Rattle.host_manager.proofs.TurnGives as turn_gives
use Rattle.host_tables.proofs.Ending as ending
use Rattle.host_tables.proofs.LeavingWhole as leaving_of
use Rattle.host_tables.proofs.Standing as standing

-- the call that ends the use of a label
pub no_sync : (k : Kind) (label : List ℕ) (place : NamedPlace) → end_call k label ≡ Sync place → ⊥
no_sync (Bytes update span) label place e = cc
no_sync (Status update) label place e = cc
no_sync (Lock writing span) label place e = cc
no_sync (Opening kind) label place e = cc

pub end_sound : (roster : Roster) (k : Kind) (label : List ℕ) → IsCall roster (end_call k label)
end_sound roster (Bytes update span) label =
    record { servers = tt; paths = tt; objects = refl; groups = tt; bytes = tt }
end_sound roster (Status update) label = record { servers = tt; paths = tt; objects = refl; groups = tt; bytes = tt }
end_sound roster (Lock writing span) label =
    record { servers = tt; paths = tt; objects = refl; groups = tt; bytes = tt }
end_sound roster (Opening kind) label = record { servers = tt; paths = tt; objects = refl; groups = tt; bytes = tt }

module _ (script : Script) (old m : Tables) (past : List Step) (cause : Cause) (came : List Token)
    (dues : List FilesetId) (c : Asked) (first : Bool) (turn : IsTurn script old m past cause came dues c first)
    (sound_m : IsSoundGives m.gives) (sound : IsSoundUses m.uses) (used : UseOf) (within : In used m.uses.labels)
    (last : is_last_pinned m.uses used ≡ true) (none_ending : m.ending ≡ None)
    (call_is : c.call ≡ end_of (labelled used)) (verdict : verdict_from m c.call ≡ GivesOf) (cache : Kept)
    (dirty : Dirty) (g : Give) (given : IsGiven m used.token.fid (used.token ∷ []) (used.token ∷ []) g)
    (ends : g.ends ≡ Some (record { k = c.k; call = end_of (labelled used) }))
    (cleans : (other : Fid) (at : ℕ) → is_dirty_in dirty other at ≡ is_dirty_in m.dirty other at)
    (shown : seen cache ≡ after_drop (seen m.cache) used.token.id) (all : List FilesetId)
    (more : (fs : FilesetId) → In fs dues → In fs all)
    (has_due : outstanding m.gives g.fid.fileset ≡ None → In g.fid.fileset all) where
  abbrev u : Labelled
  u = labelled used

  abbrev t : Token
  t = used.token

  abbrev call : Call
  call = end_of (labelled used)

  abbrev message : Message
  message = message_to m (home_at g.fid.fileset) (GiveBack g)

  abbrev pub l : Left
  l = gives_up.l script m past cause came turn.learnt sound used within last c.k none_ending cache dirty g given ends
      cleans shown message refl

  abbrev h : Step
  h = learning m.host cause came

  abbrev pub x : Tables
  x = with_moved (with_left m l) (turn_gives.moved script old m past cause came dues c first turn l [] [] [])

  pub stands : Stands script m (h ∷ past)
  stands = turn.learnt

  use_now : LabelInUse past (labelled used)
  use_now = standing.used_before script m past h turn.learnt (labelled used) (stands.uses.used used within)

  t_held : In t (held_of m)
  t_held = stands.cache.cached t (stands.uses.held u (stands.uses.used used within))

  declared : IsServer script.roster (home g.fid.fileset)
  declared = subst (λ (f : Fid). IsServer script.roster (home f.fileset)) (sym given.file)
      (turn.tidy.held t t_held).declared

  pub at : home_at g.fid.fileset ≡ home g.fid.fileset
  at = home_is script.roster m turn.tidy g.fid.fileset declared

  pub number : g.number ≡ last_counter m.gives.counters g.fid.fileset + 1
  number =
      let e = ap (λ (f : Fid). last_counter m.gives.counters f.fileset) given.file in
      let n = given.number in omega (arith, e, n)

  kept : IsLeftBy m.cache cache (t ∷ [])
  kept = left_by m.cache cache (t ∷ []) shown stands.cache.tells stands.contents.zero

  of_file : (w : Token) → In w (t ∷ []) → In w (held_of m) × (w.fid ≡ t.fid)
  of_file w (inl e) = (subst (λ (z : Token). In z (held_of m)) (sym e) t_held, ap (λ (z : Token). z.fid) e)
  of_file w (inr n) = elim n [ ]

  tidy_g : IsTidyGive script.roster g
  tidy_g = record {
    from = let n = number in omega (arith, n);
    declared = declared;
    issued = λ i j. elim (subst (λ (is : List TokenId). In i is) given.ids j) [
      | inl e ↦ ap (λ (z : TokenId). z.server) e ∙ (turn.tidy.held t t_held).issued
          ∙ ap (λ (f : Fid). home f.fileset) (sym given.file)
      | inr n ↦ elim n [ ]
    ];
    bytes = given.pieces.fit;
    size = subst (λ (o : Option ℕ). IfSome o (λ n. n ≤ FILE_BYTES_MAX)) (sym given.length)
        (length_fits script.roster m turn.tidy t.fid);
    ends = subst (λ (o : Option Ends). IfSome o (λ (e : Ends). IsEnd e.call)) (sym ends) (is_end t.kind used.label);
  }
    where
      is_end : (k : Kind) (label : List ℕ) → IsEnd (end_call k label)
      is_end (Bytes update span) label = tt
      is_end (Status update) label = tt
      is_end (Lock writing span) label = tt
      is_end (Opening kind) label = tt

  fewer : (w : Token) → In w (tokens_of cache.held) → In w (held_of m)
  fewer w i = (one_file.kept_from m t.fid (t ∷ []) (t ∷ []) stands.cache.once of_file (given_up.one_chosen m t) cache
      kept w i).0

  tidy_l : IsTidy script.roster (with_left m l)
  tidy_l = tidy_stays script.roster m (with_left m l) turn.tidy (record {
    host_is = refl;
    servers = refl;
    held = λ w i. inl (fewer w i);
    sizes = size_left m.cache cache (t ∷ []) shown;
    leaving = λ y i. elim (in_either m.leaving (leaving_by g.fid.fileset g.number t ∷ []) y i) [
      | inl j ↦ inl j
      | inr j ↦ elim j [
        | inl e ↦ inr (subst (λ (z : Leaving). In z.token (held_of m)) (sym e) t_held)
        | inr n ↦ elim n [ ]
      ]
    ];
    gives = λ y k i e. elim (in_either m.gives.gives (message ∷ []) y i) [
      | inl j ↦ inl j
      | inr j ↦ elim j [
        | inl q ↦
            let p : GiveBack g ≡ GiveBack k = ap (λ (z : Message). z.body) (sym q) ∙ e in
            let is : g ≡ k = cc in inr (subst (IsTidyGive script.roster) is tidy_g)
        | inr n ↦ elim n [ ]
      ]
    ];
    fetch = λ f e. inl e;
    change = λ v c e. inl e;
    call = λ c e. inl e;
    homes = λ h i. inl i;
    floors = λ f i. inl i;
  })

  tidy_x : IsTidy script.roster x
  tidy_x = tidy_stays script.roster (with_left m l) x tidy_l (record {
    host_is = refl;
    servers = refl;
    held = λ w i. inl i;
    sizes = λ fid. inl refl;
    leaving = λ y i. inl i;
    gives = λ y k i e. inl i;
    fetch = λ f e. inl e;
    change = λ v c e. inl e;
    call = λ d e. inr (let p : c ≡ d = cc in subst (λ (z : Asked). IsCall script.roster z.call) p turn.askable);
    homes = λ h i. inl i;
    floors = λ f i. inl i;
  })

  pub homes : (k : Give) → IsFirst l.gives k → home_at k.fid.fileset ≡ home k.fid.fileset
  homes k one = home_is script.roster m turn.tidy k.fid.fileset
      (tidy_l.gives one.message k one.within one.body).declared

  module _ (sound_l : IsSoundGives l.gives) where
    abbrev start : Draft
    start = record no_draft {
      asked = if first then Some c else None;
      taken = came;
      made = g ∷ [];
      dropped = leaves_by ForCall t ∷ [];
      due = all;
    }

    abbrev pub after : Draft
    after = dues_of.sending script old m past cause came dues c first turn sound_m l x refl sound_l g number homes all
        more has_due start refl

    abbrev pub s : Step
    s = turn_gives.s script old m past cause came dues c first turn l (g ∷ []) (leaves_by ForCall t ∷ []) after.sent

    pub step_is : step_of (Host m.host) cause after ≡ s
    step_is = ap (step_of (Host m.host) cause)
        (dues_of.only script old m past cause came dues c first turn sound_m l x refl sound_l g number homes all more
        has_due start refl)

    abbrev d_s : Draft
    d_s = turn_gives.d_g script old m past cause came dues c first turn l (g ∷ []) (leaves_by ForCall t ∷ []) after.sent

    learnt : Stands script m (half s ∷ past)
    learnt = turn.learnt

    said : (y : Message) → In y after.sent → (fs : FilesetId) × (z : Message) × (outstanding l.gives fs ≡ Some z)
        × (y ≡ message_to x (home_at fs) z.body)
    said = dues_of.said script old m past cause came dues c first turn sound_m l x refl sound_l g number homes all
        more has_due start refl

    gives_back : (y : Message) → In y after.sent → (k : Give) × (y.body ≡ GiveBack k) × IsFirst l.gives k
        × (home_at k.fid.fileset ≡ y.server)
    gives_back y i =
        let r = said y i in
        let k = outstanding_is l.gives sound_l r.0 r.1 r.2 in
        (k.0, ap (λ (z : Message). z.body) r.3 ∙ k.1, k.3, ap home_at k.2 ∙ sym (ap (λ (z : Message). z.server) r.3))

    none_kept : (i : TokenId) → KeepsToken s i → ⊥
    none_kept i k = let p = sym (gives_back k.4.0 k.4.1).1 ∙ k.4.5 in absurd (cc)

    none_returned : (i : TokenId) → ReturnsToken s i → ⊥
    none_returned i k = let p = sym (gives_back k.4.0 k.4.1).1 ∙ k.4.5 in absurd (cc)

    right : LeavesRight m l past s
    right = gives_up.right script m past cause came turn.learnt sound used within last c.k none_ending cache dirty g
        given
        ends cleans shown message refl s refl none_kept

    only_g : (k : Give) → In k s.made → k ≡ g
    only_g k (inl e) = e
    only_g k (inr n) = elim n [ ]

    its : (k : Give) → In k s.made → IsGiven m t.fid (t ∷ []) (t ∷ []) k
    its k i = subst (IsGiven m t.fid (t ∷ []) (t ∷ [])) (sym (only_g k i)) given

    same : (k j : Give) → In k s.made → In j s.made → k ≡ j
    same k j a b = only_g k a ∙ sym (only_g j b)

    some : (w : Token) → In w (t ∷ []) → (k : Give) × In k s.made
    some w i = (g, inl refl)

    none : (k : Give) → In k s.made → t ∷ [] ≡ [] → ⊥
    none k i e = cc

    keeping : Keeping m past s (tokens_of cache.held)
    keeping = one_file.keeping m t.fid (t ∷ []) (t ∷ []) stands.cache.once of_file (given_up.one_chosen m t) cache kept
        past s its same some none
        (λ w d. elim d.1 [ inl e ↦ inl (sym d.2 ∙ ap (λ (z : Leave). z.token) e) | inr n ↦ elim n [ ] ])
        (λ w i. elim i [
          | inl e ↦ (leaves_by ForCall t, inl refl, sym e)
          | inr n ↦ elim n [ ]
        ])
        (λ w i r. none_returned w.id r) (λ w i n. absurd (n i))

    frees : FreesPinned past u
    frees = gives_up.frees_pinned script m past cause came turn.learnt sound used within last

    gives : GivesBack m past s (tokens_of cache.held)
    gives = one_file.gives_back m t.fid (t ∷ []) (t ∷ []) stands.cache.once of_file (given_up.one_chosen m t) cache kept
        past s its same some none
        (λ k e i q.
        let p : Some e ≡ Some (record { k = c.k; call = call }) =
        sym q ∙ ap (λ (z : Give). z.ends) (only_g k i) ∙ ends in
        let is : e ≡ record { k = c.k; call = call } = cc in
        subst (λ (z : Ends). ((w : Labelled) × FreesPinned past w × (z.call ≡ end_of w) × In w.token.id k.ids)
        × IsOpen (s ∷ past) (record { k = z.k; call = z.call })) (sym is) (
          (
            u,
            frees,
            refl,
            one_file.named_in m t.fid (t ∷ []) (t ∷ []) stands.cache.once of_file
                (given_up.one_chosen m t) cache kept past s its same some none k t i (inl refl),
          ),
          subst (IsOpen (s ∷ past)) (λ z. record { k = c.k; call = call_is z })
              (turn_gives.is_open script old m past cause came dues c first turn l (g ∷ []) (leaves_by ForCall t ∷ [])
              after.sent),
        ))
        (λ k w i used_w n.
        let r = one_file.id_of m t.fid (t ∷ []) (t ∷ []) stands.cache.once of_file (given_up.one_chosen m t) cache kept
        past s its same some none k w.token.id i n in
        let id : w.token.id ≡ t.id = elim r.1 [
          | inl e ↦ sym r.2 ∙ ap (λ (z : Token). z.id) e
          | inr z ↦ elim z [ ]
        ] in
        let is = gives_up.only_use script m past cause came turn.learnt sound used within last w used_w id in
        subst (λ (q : Give × Labelled). GivesUse q.0 q.1) (λ z. (sym (only_g k i) z, sym is z))
        (gives_up.gives_use script m past cause came turn.learnt sound used within last c.k none_ending cache dirty g
        given ends
        cleans shown message refl))
        (dues_of.sends script old m past cause came dues c first turn sound_m l x refl sound_l g number homes all more
        has_due start refl d_s refl refl
        right)

    -- # The host rests
    uses_x : AreUses x
    uses_x = record {
      labels = λ v i. stands.uses.kinds (labelled v) (stands.uses.used v
          (in_filter (λ w. not (is_labelled (is_lock t.kind) used.label w)) m.uses.labels v i).0);
      ending = λ w e. let p : u ≡ w = cc in
          subst (λ (z : Labelled). IsUseKind z.token.kind) p (stands.uses.kinds u (stands.uses.used used within));
    }

    ends_here : ends_label (is_lock t.kind) used.label (Some u) ≡ true
    ends_here = and_from (beq (is_lock t.kind) (is_lock t.kind)) (same_name used.label used.label)
        (mode_same (is_lock t.kind) (is_lock t.kind) refl) (name_same used.label)

    verdict_x : verdict_from x call ≡ GivesOf
    verdict_x =
        let e = end_is t.kind used.label (stands.uses.kinds u (stands.uses.used used within)) in
        let has : has_label x (is_lock t.kind) used.label ≡ true =
        or_right (list_any (is_labelled (is_lock t.kind) used.label) x.uses.labels)
        (ends_label (is_lock t.kind) used.label x.ending) ends_here in
        let gives : gives_label x (is_lock t.kind) used.label ≡ true =
        or_right (list_any (λ v. is_labelled (is_lock t.kind) used.label v && is_last_pinned x.uses v) x.uses.labels)
        (ends_label (is_lock t.kind) used.label x.ending) ends_here in
        ap (verdict_from x) e ∙ verdict_so x uses_x (is_lock t.kind) used.label has
        ∙ ap (λ (b : Bool). if b then GivesOf else FreesOf) gives

    covered : (z : Tables) → IsCoveredFrom z call
    covered z = subst (CoverAll (held_of z)) (sym (ending.end_needs z u)) tt

    verdict_c : verdict_from x c.call ≡ GivesOf
    verdict_c = ap (verdict_from x) call_is ∙ verdict_x

    covered_c : IsCoveredFrom x c.call
    covered_c = subst (IsCoveredFrom x) (sym call_is) (covered x)

    rest : IsAtRest x (s ∷ past)
    rest = give_rests x (s ∷ past) c g refl verdict_c covered_c (inl (inl refl))
        (leaving_of.unknown script m l past s learnt right gives g (inl refl))
        (λ place fid w e. absurd (no_sync t.kind used.label place (sym call_is ∙ e)))
        (λ w e_c f. let e = sym call_is ∙ e_c in elim f.0.0 [
          | inl b ↦ elim b [ ]
          | inr b ↦
              let v : UseOf = record { label = w.label; token = w.token } in
              let i = stands.uses.labels w (standing.used_after script m past h turn.learnt w b.0) in
              let r = gives_up.end_same script m past cause came turn.learnt sound used within last w e in
              let is = gives_up.the_label script m past cause came turn.learnt sound used within last v i
              (gives_up.labelled_by script m past cause came turn.learnt sound used within last v i r) in
              b.2 g (inl refl) (subst (λ (z : UseOf). GivesUse g (labelled z)) (sym is)
              (gives_up.gives_use script m past cause came turn.learnt sound used within last c.k none_ending cache
              dirty g
              given ends cleans shown message refl))
        ])

    -- # What it sends is sound
    -- no label that is left in use has this end
    left_apart : (v : UseOf) → In v x.uses.labels → end_of u ≡ end_of (labelled v) → ⊥
    left_apart v i same =
        let k = in_filter (λ w. not (is_labelled (is_lock t.kind) used.label w)) m.uses.labels v i in
        let r = gives_up.end_same script m past cause came turn.learnt sound used within last (labelled v) same in
        not_true (is_labelled (is_lock t.kind) used.label v) k.1
        (gives_up.labelled_by script m past cause came turn.learnt sound used within last v k.0 r)

    ending_x : EndsOpen x
    ending_x w e =
        let p : u ≡ w = cc in (
          c,
          refl,
          call_is ∙ ap end_of p,
          turn.idle,
          λ v i same. left_apart v i
              (ap end_of p ∙ sym same),
        )

    sound_y : (y : Message) → In y after.sent → IsSound script.roster y
    sound_y y i =
        let r = said y i in
        let k = gives_back y i in
        let d = (tidy_l.gives k.2.message k.0 k.2.within k.2.body).declared in
        let to : home k.0.fid.fileset ≡ y.server = sym (home_is script.roster m turn.tidy k.0.fid.fileset d) ∙ k.3 in
        left_sound script.roster m l s y turn.tidy tidy_l
        (subst (IsOutgoing m) (sym r.3) (record { way = refl; host_is = refl; no_moves = refl; epoch_is = refl }))
        (subst (IsServer script.roster) to d)
        (subst (SaysLeft m l s y.server) (sym k.1) (OfGiven k.0 k.2 to))

    right_step : StepRight script old x past s
    right_step = turn_gives.gives_right script old m past cause came dues c first turn l (g ∷ [])
        (leaves_by ForCall t ∷ []) after.sent (subst (IsCoveredFrom m) (sym call_is) (covered m)) verdict g (inl refl)
        (λ d i. elim i [
          | inl e ↦ (
            ap (λ (z : Leave). z.why) e,
            subst (λ (z : Leave). LeavesFor m past c.call z.token) (sym e) (ForEnd u call_is frees refl),
          )
          | inr n ↦ elim n [ ]
        ]) right keeping gives
        (λ y i.
        let r = said y i in
        let k = gives_back y i in (
          ap (λ (z : Message). z.epoch) r.3 ∙ ap (λ v. (site_at m.sites v).epoch)
              (sym (ap (λ (z : Message). z.server) r.3)),
          ap (λ (z : Message). z.moves) r.3,
          (k.0, k.2, sym (homes k.0 k.2) ∙ k.3, k.1),
        ))
        (dues_of.due script old m past cause came dues c first turn sound_m l x refl sound_l g number homes all more
        has_due start refl d_s refl refl right) rest

    pub runs : RunsOn script old x past s
    runs = runs_on script old x past s right_step (sym turn.host) tidy_x ending_x
        (λ d e busy. absurd (busy turn.idle)) (λ v e. absurd (turn.no_bye v e)) sound_y
