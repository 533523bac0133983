-- What is due of the step in which a Revoke comes, whatever is open.
use Rattle.base_types.specs.declared.ids.Fid.{Fid}
use Rattle.base_types.specs.declared.ids.Node.TheVariants.{Host}
use Rattle.base_types.specs.declared.ids.ServerId.{ServerId}
use Rattle.host_asks.specs.Asking.{AsksFor, Doing, doing, greeting, next_change, with_asked, with_fetching}
use Rattle.host_asks.specs.Asking.{with_greeted}
use Rattle.host_asks.specs.Asking.AsksFor.{Changes, Comes, FetchesIt, Waits as WaitsGive}
use Rattle.host_asks.specs.Going.{GoesOn}
use Rattle.host_gives.specs.Giving.{IsSound as IsSoundGives}
use Rattle.host_leaves.specs.Giving.{leaves_by}
use Rattle.host_leaves.specs.Revoking.{Revokes, others_of, pinned}
use Rattle.host_leaves.specs.Sending.{message_to, sending_due, sending_give}
use Rattle.host_manager.proofs.Folding.{fold_only, giving_only}
use Rattle.host_manager.proofs.Homely.{lack_declared}
use Rattle.host_manager.proofs.OnceSaid.{once_more}
use Rattle.host_manager.proofs.Opened.{welcome_greets}
use Rattle.host_manager.proofs.PartSo.{HasParted, start}
use Rattle.host_manager.proofs.Repeated.{sort_of}
use Rattle.host_manager.proofs.RevokeQuiet.Tells.{Again, Keeps, Returns}
use Rattle.host_manager.proofs.RevokesIt.{floors_by, message_is, raises, told}
use Rattle.host_manager.proofs.TurnDue.{IsNewIn, new_sort}
use Rattle.host_manager.proofs.TurnDue.IsNewIn.{OfChange, OfFetch, OfHello}
use Rattle.host_manager.specs.Running.{IsRunning, RunsOn}
use Rattle.host_tables.proofs.Declared.{home_is}
use Rattle.host_tables.proofs.Lists.{in_either, in_left, true_false}
use Rattle.host_tables.proofs.RevokeSteps.{revoke_stands}
use Rattle.host_tables.specs.Drafts.{no_draft, step_of}
use Rattle.host_tables.specs.Half.{half}
use Rattle.host_tables.specs.LeavingSteps.{with_left}
use Rattle.host_tables.specs.Revoking.{revokes, revoking}
use Rattle.host_tables.specs.Stands.{IsLack, Stands}
use Rattle.host_tables.specs.Tables.{last_change, last_fetch, site_at}
use Rattle.host_tables.specs.Updates.{home_at, with_change, with_fetch, with_site}
use Rattle.host_tables.specs.declared.calls.Request.{Request}
use Rattle.host_tables.specs.declared.calls.Request.TheVariants.{Change as AChange, Fetch as AFetch}
use Rattle.host_tables.specs.declared.draft.Draft.{Draft}
use Rattle.host_tables.specs.declared.numbers.Changed.{Changed}
use Rattle.host_tables.specs.declared.numbers.Fetched.{Fetched}
use Rattle.host_tables.specs.declared.sites.Site.{Site}
use Rattle.host_tables.specs.declared.tables.Tables.{Tables}
use Rattle.message_types.specs.Soundness.{IsSound}
use Rattle.message_types.specs.declared.asking.Change.{Change as ChangeOf}
use Rattle.message_types.specs.declared.asking.Fetch.{Fetch as FetchOf}
use Rattle.message_types.specs.declared.message.Body.TheVariants.{Change, Fetch, Hello, Revoke}
use Rattle.message_types.specs.declared.message.Direction.TheVariants.{ToHost}
use Rattle.message_types.specs.declared.message.Message.{Message}
use Rattle.message_types.specs.declared.tokens.Revoke.{Revoke as RevokeOf}
use Rattle.run_rules.specs.HostAsks.{HasChanged, HasFetched}
use Rattle.run_rules.specs.HostDue.{HostDue}
use Rattle.run_rules.specs.Messages.{HasGreeted, IsWelcome, home}
use Rattle.run_rules.specs.Past.{EachOnce, In}
use Rattle.run_rules.specs.Tokens.{IsOpen}
use Rattle.run_rules.specs.declared.applied.Why.TheVariants.{Revoked}
use Rattle.run_rules.specs.declared.step.Asked.{Asked}
use Rattle.run_rules.specs.declared.step.Cause.TheVariants.{Message as Came}
use Rattle.run_rules.specs.declared.step.Step.{Step}
use Rattle.script_lines.specs.declared.script.Script.{Script}
use Rattle.std.proofs.Common.{Bool, List, None, Option, Some, [], ap, arith, false, fold, if◌then◌else◌, inl, inr}
use Rattle.std.proofs.Common.{map, refl, subst, sym, true, ◌++◌, ◌+◌, ◌∙◌, ◌∷◌, ◌≡◌, ◌⊎◌}
use Rattle.token_types.specs.declared.token.Need.{Need}
use Rattle.host_manager.proofs.RevokeQuiet as quiet_of
use Rattle.host_manager.proofs.RevokesIt as revoked_so

module _ (script : Script) (old : Tables) (past : List Step) (message : Message) (running : IsRunning script old past)
    (sound_m : IsSound script.roster message) (host_is : message.host ≡ old.host) (way : message.direction ≡ ToHost)
    (r : RevokeOf) (body : message.body ≡ Revoke r) (present : (site_at old.sites message.server).epoch ≡ message.epoch)
    (no_moves : message.moves ≡ 0) (sound : IsSoundGives old.gives) (revoked : Doing)
    (its : Revokes r old no_draft revoked.tables revoked.draft) (sound_new : IsSoundGives revoked.tables.gives) where
  abbrev m : Tables
  m = record old { floors = floors_by old r }

  abbrev m1 : Tables
  m1 = record old { floors = floors_by old r; uses = pinned old.uses its.sorted.kept }

  abbrev files : List Fid
  files = r.fid ∷ others_of r.fid its.sorted.left

  abbrev first : List Message
  first = (told m its.sorted.kept its.sorted.given).sent

  abbrev h : HasParted m1 its.sorted.left first r.fid its.sorted.back files revoked.tables revoked.draft
  h = revoked_so.h script old past message running sound_m host_is way r body present no_moves sound revoked its
      sound_new

  abbrev x : Tables
  x = record (with_left m h.l) { lost = h.lost }

  abbrev by_all : List Message → Draft
  by_all all = start h.made h.gone all h.due

  abbrev pub Goal : Tables → Draft → Type 0
  Goal z d = RunsOn script old z past (step_of (Host old.host) (Came message) (sending_due z d))

  abbrev pub DueOf : Doing → Type 0
  DueOf at = HostDue script old.host past (step_of (Host old.host) (Came message) (sending_due at.tables at.draft))

  stands : Stands script old past
  stands = running.rests.stands

  -- # With a message more, or none
  module _ (sites : List Site) (request : Option Request) (fetched : List Fetched) (changed : List Changed)
      (all : List Message) where
    abbrev z : Tables
    z = record x { sites = sites; request = request; fetched = fetched; changed = changed }

    abbrev s : Step
    s = revokes old.host message.server message.epoch 0 r h.made (map (leaves_by Revoked) h.gone)
        (fold (sending_give z) (by_all all) h.due).sent

    step_is : step_of (Host old.host) (Came message) (sending_due z (by_all all)) ≡ s
    step_is =
        (λ i. step_of (Host old.host) (Came (message_is script old past message running sound_m host_is way r body
        present no_moves sound revoked its sound_new i)) (sending_due z (by_all all)))
        ∙ ap (step_of (Host old.host) (Came (revoking old.host message.server message.epoch 0 r)))
        (fold_only (sending_give z) (λ e fs. giving_only z e fs) (by_all all) h.due)

    runs_s : Goal z (by_all all) → RunsOn script old z past s
    runs_s runs = subst (RunsOn script old z past) step_is runs

    learnt : Stands script m (half s ∷ past)
    learnt = revoke_stands script old past message.server message.epoch 0 r (floors_by old r) stands
        (revoked_so.counts_r script old past message running sound_m host_is way r body present no_moves sound revoked
        its sound_new) (raises old r)

  abbrev quiet_draft : Draft
  quiet_draft = by_all h.sent

  quiet_at : revoked ≡ doing x quiet_draft
  quiet_at i = doing (h.tables i) (h.draft i)

  quiet : Goal revoked.tables revoked.draft → DueOf revoked
  quiet runs = subst DueOf (sym quiet_at)
      (subst (HostDue script old.host past) (sym (step_is old.sites old.request old.fetched old.changed h.sent))
      (quiet_of.quiet_due script old past message running sound_m host_is way r body present no_moves sound revoked its
      sound_new (runs_s old.sites old.request old.fetched old.changed h.sent
      (subst (λ (at : Doing). Goal at.tables at.draft) quiet_at runs))))

  module _ (y : Message) (new : IsNewIn past y) where
    abbrev with_y : List Message
    with_y = h.sent ++ y ∷ []

    from_y : (w : Message) → In w with_y → In w h.sent ⊎ IsNewIn past w
    from_y w i = elim (in_either h.sent (y ∷ []) w i) [
      | inl j ↦ inl j
      | inr j ↦ elim j [ inl e ↦ inr (subst (IsNewIn past) (sym e) new) | inr n ↦ elim n [ ] ]
    ]

    keeps_y : (w : Message) → In w h.sent → In w with_y
    keeps_y w i = in_left h.sent (y ∷ []) w i

    told_y : (w : Message) → In w h.sent
        → quiet_of.Tells script old past message running sound_m host_is way r body present no_moves sound revoked its
        sound_new w
    told_y w i = quiet_of.told_so script old past message running sound_m host_is way r body present no_moves sound
        revoked its sound_new w i

    not_yet : In y h.sent → ⊥
    not_yet i = by_sort (new_sort past y new) (told_y y i)
      where
        by_sort : (sort_of y.body ≡ 0) ⊎ (sort_of y.body ≡ 3)
            → quiet_of.Tells script old past message running sound_m host_is way r body present no_moves sound revoked
            its sound_new y → ⊥
        by_sort (inl p) (Keeps w e) = let q = ap sort_of e in omega (arith, p, q)
        by_sort (inl p) (Returns w e) = let q = ap sort_of e in omega (arith, p, q)
        by_sort (inl p) (Again g e j f) = let q = ap sort_of e in omega (arith, p, q)
        by_sort (inr p) (Keeps w e) = let q = ap sort_of e in omega (arith, p, q)
        by_sort (inr p) (Returns w e) = let q = ap sort_of e in omega (arith, p, q)
        by_sort (inr p) (Again g e j f) = let q = ap sort_of e in omega (arith, p, q)

    once_y : EachOnce with_y
    once_y = once_more h.sent y h.once.messages not_yet

    no_hello : (w : Message) → In w h.sent → w.body ≡ Hello → ⊥
    no_hello w i is = by_telling (told_y w i)
      where
        by_telling : quiet_of.Tells script old past message running sound_m host_is way r body present no_moves sound
            revoked its sound_new w → ⊥
        by_telling (Keeps q e) = let p = sym is ∙ e in cc
        by_telling (Returns q e) = let p = sym is ∙ e in cc
        by_telling (Again g e j f) = let p = sym is ∙ e in cc

    is_y : (w : Message) → In w with_y → w.body ≡ Hello → w ≡ y
    is_y w i is = elim (in_either h.sent (y ∷ []) w i) [
      | inl j ↦ absurd (no_hello w j is)
      | inr j ↦ elim j [ inl e ↦ e | inr n ↦ elim n [ ] ]
    ]

    request_due : (y.body ≡ Hello → ⊥) → (request : Option Request) (fetched : List Fetched) (changed : List Changed)
        → Goal (record x { request = request; fetched = fetched; changed = changed }) (by_all with_y)
        → DueOf (doing (record x { request = request; fetched = fetched; changed = changed }) (by_all with_y))
    request_due none request fetched changed runs =
        subst (HostDue script old.host past) (sym (step_is old.sites request fetched changed with_y))
        (quiet_of.all_due script old past message running sound_m host_is way r body present no_moves sound revoked its
        sound_new old.sites request fetched changed with_y from_y keeps_y once_y
        (runs_s old.sites request fetched changed with_y runs)
        (λ w i e. absurd (none (ap (λ (k : Message). k.body) (sym (is_y w i e)) ∙ e))))

  -- # The open call lacks a token
  module _ (c : Asked) (e : old.call ≡ Some c) (none : old.request ≡ None) (need : Need)
      (lack : IsLack x c.call need) where
    abbrev v : ServerId
    v = home_at need.fid.fileset

    abbrev at_0 : Doing
    at_0 = doing (record x { call = None }) quiet_draft

    open_same : (z : Tables) → record z { call = Some c } ≡ record z { call = old.call }
    open_same z i = record z { call = sym e i }

    -- it is left as it was
    silent : (at : Doing) → at ≡ doing (record x { call = Some c }) quiet_draft → Goal at.tables at.draft → DueOf at
    silent at is runs =
        let there : at ≡ revoked = is ∙ (λ i. doing (open_same x i) quiet_draft) ∙ sym quiet_at in
        subst DueOf (sym there) (quiet (subst (λ (q : Doing). Goal q.tables q.draft) there runs))

    home_same : v ≡ home need.fid.fileset
    home_same = home_is script.roster x (revoked_so.tidy_x script old past message running sound_m host_is way r body
        present no_moves sound revoked its sound_new) need.fid.fileset (lack_declared script.roster x
        (revoked_so.tidy_x script old past message running sound_m host_is way r body present no_moves sound revoked its
        sound_new) c.call need lack)

    -- # A Hello
    module _ (fresh : (site_at old.sites v).greeted ≡ false) where
      abbrev greeted : List Site
      greeted = with_site (record (site_at old.sites v) { greeted = true }) old.sites

      abbrev y_h : Message
      y_h = message_to (with_greeted (record x { call = None }) v) v Hello

      not_greeted : HasGreeted past v → ⊥
      not_greeted g = true_false (site_at old.sites v).greeted ((stands.sites v).greeted.1 g) fresh

      abbrev all_h : List Message
      all_h = h.sent ++ y_h ∷ []

      abbrev s_h : Step
      s_h = s greeted old.request old.fetched old.changed all_h

      learnt_h : Stands script m (half s_h ∷ past)
      learnt_h = learnt greeted old.request old.fetched old.changed all_h

      not_welcome : IsWelcome (s_h ∷ past) v → ⊥
      not_welcome w = not_greeted (elim w [ inl k ↦ k.0 | inr k ↦ welcome_greets past v k ])

      open_still : IsOpen (s_h ∷ past) c
      open_still = elim (learnt_h.call.is_open c e) [ inl q ↦ absurd (cc) | inr o ↦ inr o ]

      hello_due : Goal (record x { sites = greeted }) (by_all all_h)
          → DueOf (doing (record x { sites = greeted }) (by_all all_h))
      hello_due runs =
          subst (HostDue script old.host past) (sym (step_is greeted old.request old.fetched old.changed all_h))
          (quiet_of.all_due script old past message running sound_m host_is way r body present no_moves sound revoked
          its sound_new greeted old.request old.fetched old.changed all_h (from_y y_h (OfHello refl not_greeted))
          (keeps_y y_h (OfHello refl not_greeted)) (once_y y_h (OfHello refl not_greeted))
          (runs_s greeted old.request old.fetched old.changed all_h runs)
          (λ w i is.
          let at_v : v ≡ w.server =
          ap (λ (k : Message). k.server) (sym (is_y y_h (OfHello refl not_greeted) w i is)) in (
            λ k. not_welcome (subst (IsWelcome (s_h ∷ past)) (sym at_v) k),
            λ g. not_greeted (subst (HasGreeted past) (sym at_v) g),
            (
              c,
              open_still,
              inl (
                need,
                revoked_so.lack_in script old past message running sound_m host_is way r body present no_moves sound
                    revoked its sound_new c e none s_h learnt_h need lack,
                sym home_same ∙ at_v,
              ),
            ),
          )))

    -- # Whatever is asked for it
    change_new : (d : ChangeOf) → d.number ≡ last_change old.changed v d.fileset + 1 → HasChanged past v d → ⊥
    change_new d number k =
        let low = stands.numbers.changes v d.fileset d.number (d, k, refl, refl) in omega (arith, number, low)

    fetch_new : (f : FetchOf) → f.number ≡ last_fetch old.fetched f.fid.fileset + 1 → HasFetched past f → ⊥
    fetch_new f number k =
        let low = stands.numbers.fetches f.fid.fileset f.number (f, k, refl, refl) in omega (arith, number, low)

    at_goal : (at to : Doing) → at ≡ to → (Goal to.tables to.draft → DueOf to) → Goal at.tables at.draft → DueOf at
    at_goal at to is due runs =
        subst DueOf (sym is) (due (subst (λ (q : Doing). Goal q.tables q.draft) is runs))

    asked_due : (gone : Doing) → AsksFor need c.k c.call at_0 gone → (at : Doing)
        → at ≡ doing (record gone.tables { call = Some c }) gone.draft → Goal at.tables at.draft → DueOf at
    asked_due gone (WaitsGive plain gives is) at whole runs =
        silent at (whole ∙ ap (λ (q : Doing). doing (record q.tables { call = Some c }) q.draft) is) runs
    asked_due gone (Comes may not_yet is) at whole runs = by_greeted (site_at old.sites v).greeted refl
        (whole ∙ ap (λ (q : Doing). doing (record q.tables { call = Some c }) q.draft) is)
      where
        by_greeted : (b : Bool) → (site_at old.sites v).greeted ≡ b
            → at ≡ doing (record (if b then at_0 else greeting v at_0).tables { call = Some c })
            (if b then at_0 else greeting v at_0).draft → DueOf at
        by_greeted true g there = silent at there runs
        by_greeted false n there =
            at_goal at (doing (record x {
              sites = with_site (record (site_at old.sites v) { greeted = true })
                  old.sites;
            })
            (by_all (h.sent ++ message_to (with_greeted (record x { call = None }) v) v Hello ∷ [])))
            (there ∙ (λ i. doing (open_same (with_greeted (record x { call = None }) v) i)
            (greeting v at_0).draft)) (hello_due n) runs
    asked_due gone (Changes used may is) at whole runs =
        let d : ChangeOf = next_change x v need.fid.fileset need.fid false c.k c.call in
        let y : Message = message_to x v (Change d) in
        at_goal at (doing (record x {
          changed = with_change v need.fid.fileset (last_change old.changed v need.fid.fileset + 1) old.changed;
          request = Some (AChange v d);
        }) (by_all (h.sent ++ y ∷ [])))
        (whole ∙ ap (λ (q : Doing). doing (record q.tables { call = Some c }) q.draft) is
        ∙ (λ i. doing (open_same (with_asked (record x { call = None }) v d) i) (by_all (h.sent ++ y ∷ []))))
        (request_due y (OfChange d refl (change_new d refl)) (λ q. cc) (Some (AChange v d)) old.fetched
        (with_change v need.fid.fileset (last_change old.changed v need.fid.fileset + 1) old.changed)) runs
    asked_due gone (FetchesIt plain no_give may it) at whole runs =
        let f : FetchOf = it.fetch in
        let y : Message = message_to x (home_at f.fid.fileset) (Fetch f) in
        at_goal at (doing (record x {
          fetched = with_fetch f.fid.fileset f.number old.fetched;
          request = Some (AFetch f);
        }) (by_all (h.sent ++ y ∷ [])))
        (whole ∙ ap (λ (q : Doing). doing (record q.tables { call = Some c }) q.draft) it.after
        ∙ (λ i. doing (open_same (with_fetching (record x { call = None }) f) i) (by_all (h.sent ++ y ∷ []))))
        (request_due y (OfFetch f refl (fetch_new f (it.number
        ∙ ap (λ (q : Fid). last_fetch old.fetched q.fileset + 1) (sym it.file)))) (λ q. cc) (Some (AFetch f))
        (with_fetch f.fid.fileset f.number old.fetched) old.changed) runs

  -- # All cases
  module _ (at : Doing) (runs : Goal at.tables at.draft) where
    pub revoked_due : GoesOn revoked at → DueOf at
    revoked_due goes =
        revoked_so.revoked_ends script old past message running sound_m host_is way r body present no_moves sound
        revoked its sound_new DueOf quiet at
        (λ c e none need lack gone asks is. asked_due c e none need lack gone
        (subst (λ (d : Draft). AsksFor need c.k c.call (doing (record x { call = None }) d) gone) h.draft asks) at is
        runs) goes
