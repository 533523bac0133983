-- A lapse, and a line that makes no call.
use Rattle.base_types.specs.declared.ids.FilesetId.{FilesetId}
use Rattle.base_types.specs.declared.ids.Node.{Node}
use Rattle.base_types.specs.declared.ids.Node.TheVariants.{Host}
use Rattle.base_types.specs.declared.ids.ServerId.{ServerId}
use Rattle.host_asks.specs.Claiming.{claim_of, claiming_again, helloing, parting_again, repeating}
use Rattle.host_gives.specs.Giving.{IsSound as IsSoundGives, outstanding}
use Rattle.host_leaves.specs.Sending.{filesets_given, message_to, sending_give, sending_request}
use Rattle.host_manager.proofs.Again.{SaidAgain, again_is_sound, bye_again, claim_again, give_again, hello_again}
use Rattle.host_manager.proofs.Again.{request_again}
use Rattle.host_manager.proofs.Folding.{OnlySends, asking_only, asking_says, fold_only, fold_says, giving_only}
use Rattle.host_manager.proofs.Folding.{giving_says, sends_on, where_only, where_says}
use Rattle.host_manager.specs.Spoken.{IsFree}
use Rattle.host_tables.proofs.Declared.{site_declared, site_is}
use Rattle.host_tables.proofs.WholeSteps.{lapse_right}
use Rattle.host_tables.specs.Drafts.{no_draft, step_of}
use Rattle.host_tables.specs.Lapsing.{lapses}
use Rattle.host_manager.proofs.Running.{gone_on, line_left, runs_on}
use Rattle.host_manager.specs.Running.{LineRight, OwnRight, RunsOn}
use Rattle.host_tables.specs.Tidy.{IsTidy}
use Rattle.host_tables.specs.Updates.{home_at}
use Rattle.host_tables.specs.declared.draft.Draft.{Draft}
use Rattle.host_tables.specs.declared.sites.Site.{Site}
use Rattle.host_tables.specs.declared.tables.Tables.{Tables}
use Rattle.message_types.specs.declared.message.Body.TheVariants.{Bye, Hello, Reclaim}
use Rattle.message_types.specs.declared.message.Message.{Message}
use Rattle.run_rules.specs.HostMay.{DoesLine}
use Rattle.run_rules.specs.Past.{In}
use Rattle.run_rules.specs.Steps.{bare, servers_of}
use Rattle.run_rules.specs.declared.step.Cause.{Cause}
use Rattle.run_rules.specs.declared.step.Cause.TheVariants.{Lapse, Line as LineOf}
use Rattle.run_rules.specs.declared.step.Step.{Step}
use Rattle.script_lines.specs.declared.script.Deed.{Deed}
use Rattle.script_lines.specs.declared.script.Deed.TheVariants.{Await, Call as MakesCall}
use Rattle.script_lines.specs.declared.script.Deed.TheVariants.{Raise, Restart as Restarts, Stop}
use Rattle.std.proofs.Common.{List, Some, ap, fold, inl, inr, not, refl, subst, sym, true, ℕ, ◌&&◌, ◌∙◌, ◌≡◌, ◌⊎◌}
use Rattle.std.proofs.lemmas.Bool.{and_parts}
use Rattle.tree_calls.specs.declared.roster.Roster.{Roster}
use Rattle.host_tables.proofs.Passing as passing

-- # A line that raises or awaits a flag

-- the deed is done by a bare step
abbrev pub IsBareDeed : Deed → Type 0
IsBareDeed (Raise flag) = Unit {0}
IsBareDeed (Await flag) = Unit {0}
IsBareDeed _ = ⊥

does_bare : (servers : List ServerId) (past : List Step) (node : Node) (cause : Cause) (d : Deed) → IsBareDeed d
    → DoesLine servers past (bare node cause) d
does_bare servers past node cause (Raise flag) b = refl
does_bare servers past node cause (Await flag) b = refl
does_bare servers past node cause (MakesCall call) b = elim b [ ]
does_bare servers past node cause Stop b = elim b [ ]
does_bare servers past node cause Restarts b = elim b [ ]

pub bare_line : (m : Tables) (number : ℕ) (d : Deed) → IsBareDeed d → IsFree m
    → LineRight m m number d (bare (Host m.host) (LineOf number))
bare_line m number d b free script past running line next deed askable = (
  runs_on script m m past (bare (Host m.host) (LineOf number)) (passing.right script m past number line running.rests
      (record { none_open = free.0; few = free.1 }) next
      (subst (DoesLine (servers_of script.roster) past (bare (Host m.host) (LineOf number))) (sym deed)
      (does_bare (servers_of script.roster) past (Host m.host) (LineOf number) d b))) refl running.tidy running.ending
      running.asking (λ v e. absurd (line_left script m past number line running next v e)) (λ y i. elim i [ ]),
  refl,
)

-- # A lapse
module _ (roster : Roster) (m : Tables) (past : List Step) (s : Step) (tidy : IsTidy roster m)
    (sound : IsSoundGives m.gives) (lapses_now : s.cause ≡ Lapse) where
  abbrev Said : Message → Type 0
  Said y = SaidAgain roster m past s y

  hellos : (d : Draft) (y : Message) → In y (fold (helloing m) d m.sites).sent → In y d.sent ⊎ Said y
  hellos d y i = elim (fold_says (helloing m) (λ site y. (site.greeted ≡ true) × (y ≡ message_to m site.server Hello))
      (λ e site z j. elim (where_says m (λ x. Hello) (λ x. x.greeted && not x.welcome) e site z j) [
        | inl k ↦ inl k
        | inr r ↦ inr ((and_parts site.greeted (not site.welcome) r.0).0, r.1)
      ]) d m.sites y i) [
        | inl j ↦ inl j
        | inr r ↦ inr (subst Said (sym r.2.1) (hello_again roster m tidy past s r.0 r.1 r.2.0))
      ]

  gives : (d : Draft) (fss : List FilesetId) (y : Message) → In y (fold (sending_give m) d fss).sent
      → In y d.sent ⊎ Said y
  gives d fss y i = elim (fold_says (sending_give m) (λ fs y. (z : Message) × (outstanding m.gives fs ≡ Some z)
      × (y ≡ message_to m (home_at fs) z.body)) (λ e fs z j. giving_says m e fs z j) d fss y i) [
        | inl j ↦ inl j
        | inr r ↦ inr (subst Said (sym r.2.2) (give_again roster m tidy past s sound r.0 r.2.0 r.2.1))
      ]

  claims : (d : Draft) (y : Message) → In y (fold (claiming_again m) d m.sites).sent → In y d.sent ⊎ Said y
  claims d y i = elim (fold_says (claiming_again m) (λ site y. (site.claimed ≡ true)
      × (y ≡ message_to m site.server (Reclaim (claim_of m site.server))))
      (λ e site z j. where_says m (λ x. Reclaim (claim_of m x.server)) (λ x. x.claimed) e site z j) d m.sites y i) [
        | inl j ↦ inl j
        | inr r ↦ inr (subst Said (sym r.2.1) (claim_again roster m tidy past s sound r.0.server
            (site_declared roster m tidy r.0 r.1)
            (inr (lapses_now, ap (λ (z : Site). z.claimed) (site_is roster m tidy r.0 r.1) ∙ r.2.0))))
      ]

  byes : (d : Draft) (y : Message) → In y (fold (parting_again m) d m.sites).sent → In y d.sent ⊎ Said y
  byes d y i = elim (fold_says (parting_again m) (λ site y. (site.said_bye ≡ true) × (y ≡ message_to m site.server Bye))
      (λ e site z j. elim (where_says m (λ x. Bye) (λ x. x.said_bye && not x.has_bye) e site z j) [
        | inl k ↦ inl k
        | inr r ↦ inr ((and_parts site.said_bye (not site.has_bye) r.0).0, r.1)
      ]) d m.sites y i) [
        | inl j ↦ inl j
        | inr r ↦ inr (subst Said (sym r.2.1) (bye_again roster m tidy past s r.0 r.1 r.2.0))
      ]

  repeats : (y : Message) → In y (repeating m no_draft).sent → Said y
  repeats y i =
      let d1 = fold (helloing m) no_draft m.sites in
      let d2 = fold (sending_give m) d1 (filesets_given m.gives.gives) in
      let d3 = fold (claiming_again m) d2 m.sites in
      let d4 = sending_request m m.request d3 in
      elim (byes d4 y i) [
        | inr a ↦ a
        | inl i4 ↦ elim (asking_says m m.request d3 y i4) [
          | inr q ↦ request_again roster m tidy past s y q
          | inl i3 ↦ elim (claims d2 y i3) [
            | inr a ↦ a
            | inl i2 ↦ elim (gives d1 (filesets_given m.gives.gives) y i2) [
              | inr a ↦ a
              | inl i1 ↦ elim (hellos no_draft y i1) [ inr a ↦ a | inl n ↦ elim n [ ] ]
            ]
          ]
        ]
      ]

-- it does nothing but say them
pub only_says : (m : Tables) → OnlySends no_draft (repeating m no_draft)
only_says m =
    let d1 = fold (helloing m) no_draft m.sites in
    let d2 = fold (sending_give m) d1 (filesets_given m.gives.gives) in
    let d3 = fold (claiming_again m) d2 m.sites in
    let d4 = sending_request m m.request d3 in
    let d5 = fold (parting_again m) d4 m.sites in
    let e1 = fold_only (helloing m) (λ d x. where_only m (λ x. Hello) (λ x. x.greeted && not x.welcome) d x) no_draft
    m.sites in
    let e2 = fold_only (sending_give m) (λ d x. giving_only m d x) d1 (filesets_given m.gives.gives) in
    let e3 = fold_only (claiming_again m)
    (λ d x. where_only m (λ x. Reclaim (claim_of m x.server)) (λ x. x.claimed) d x) d2 m.sites in
    let e4 = asking_only m m.request d3 in
    let e5 = fold_only (parting_again m) (λ d x. where_only m (λ x. Bye) (λ x. x.said_bye && not x.has_bye) d x) d4
    m.sites in
    sends_on no_draft d1 d5 e1 (sends_on d1 d2 d5 e2 (sends_on d2 d3 d5 e3 (sends_on d3 d4 d5 e4 e5)))

pub lapse_runs : (m : Tables) → IsSoundGives m.gives
    → OwnRight Lapse m m (step_of (Host m.host) Lapse (repeating m no_draft))
lapse_runs m sound script past running =
    let sent : List Message = (repeating m no_draft).sent in
    let is : step_of (Host m.host) Lapse (repeating m no_draft) ≡ lapses m.host sent =
    ap (step_of (Host m.host) Lapse) (only_says m) in
    let said : (y : Message) → In y sent → SaidAgain script.roster m past (lapses m.host sent) y =
    repeats script.roster m past (lapses m.host sent) running.tidy sound refl in
    let right = lapse_right script m past sent running.rests (λ y i. (said y i).repeats) in
    subst (λ (s : Step). RunsOn script m m past s × (s.cause ≡ Lapse)) (sym is) (
      runs_on script m m past (lapses m.host sent) right refl running.tidy running.ending running.asking
          (gone_on script m past (lapses m.host sent) running refl)
          (λ y i. again_is_sound script.roster m running.tidy past (lapses m.host sent) y (said y i)),
      refl,
    )
