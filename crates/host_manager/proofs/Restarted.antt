-- A Restarted of a server that was greeted: what is on its way to it is sent again, and a claim.
use Rattle.base_types.specs.declared.ids.FilesetId.{FilesetId}
use Rattle.base_types.specs.declared.ids.ServerId.{ServerId}
use Rattle.host_asks.specs.Claiming.{claim_of, claiming}
use Rattle.host_gives.specs.Giving.{IsSound as IsSoundGives, outstanding}
use Rattle.host_leaves.specs.Sending.{filesets_given, message_to, sending_give}
use Rattle.host_manager.proofs.Again.{SaidAgain, again_is_sound, claim_again, give_again}
use Rattle.host_manager.proofs.Folding.{fold_says, giving_says, saying_said, saying_says}
use Rattle.host_manager.proofs.Running.{gone_on}
use Rattle.host_manager.proofs.Heard.{byes_same, comes_so, no_learning, no_use, no_welcome, renewed_changes}
use Rattle.host_manager.proofs.Heard.{renewed_floors, renewed_site, renewed_stands, told_tidy}
use Rattle.host_manager.proofs.Running.{runs_on}
use Rattle.host_manager.specs.Learning.{renewed}
use Rattle.host_manager.specs.Taking.{sending_to}
use Rattle.host_tables.proofs.Declared.{site_number, site_put}
use Rattle.host_tables.proofs.Lists.{in_filter}
use Rattle.host_tables.proofs.Moving.{request_moves_right}
use Rattle.host_tables.proofs.Outstanding.{outstanding_is}
use Rattle.host_tables.proofs.RestingOn.{rest_with}
use Rattle.host_tables.proofs.Saying.{again_may}
use Rattle.host_tables.proofs.WholeSteps.{again_new, message_right, moves_stay, rest_on}
use Rattle.host_tables.specs.Drafts.{no_draft}
use Rattle.host_tables.specs.Half.{half}
use Rattle.host_tables.specs.Hearing.{ChangesSite}
use Rattle.host_tables.specs.Quiet.{IsQuiet, Moved, MovesRight, with_moved}
use Rattle.host_manager.specs.Running.{IsRunning, RunsOn}
use Rattle.host_tables.specs.Saying.{ClaimFrom, SaysAgain}
use Rattle.host_tables.specs.Saying.SaysAgain.{OfBye, OfChange, OfClaim, OfFetch, OfGive, OfHello}
use Rattle.host_tables.specs.Stands.{IsAtRest, NumbersStand, RequestStands, Stands}
use Rattle.host_tables.specs.Tables.{site_at}
use Rattle.host_tables.specs.Tidy.{IsTidy}
use Rattle.host_tables.specs.Updates.{home_at, with_site}
use Rattle.host_tables.specs.WholeSteps.{ByMessage, SitesMove, hears_says, moved_of}
use Rattle.host_tables.specs.declared.draft.Draft.{Draft}
use Rattle.host_tables.specs.declared.files.Floor.{Floor}
use Rattle.host_tables.specs.declared.sites.Site.{Site}
use Rattle.host_tables.specs.declared.tables.Tables.{Tables}
use Rattle.message_types.specs.Soundness.{IsServer, IsSound}
use Rattle.message_types.specs.declared.giving.Give.{Give}
use Rattle.message_types.specs.declared.giving.Reclaim.{Reclaim as ReclaimOf}
use Rattle.message_types.specs.declared.message.Body.{Body}
use Rattle.message_types.specs.declared.message.Body.TheVariants.{Bye, Down, GiveBack, Hello}
use Rattle.message_types.specs.declared.message.Body.TheVariants.{Kept as KeptBody, Reclaim, Reclaimed, Restarted}
use Rattle.message_types.specs.declared.message.Body.TheVariants.{Returned}
use Rattle.message_types.specs.declared.message.Direction.TheVariants.{ToHost}
use Rattle.message_types.specs.declared.message.Message.{Message}
use Rattle.run_rules.specs.HostMay.{ClaimsAt, LearnsRestart}
use Rattle.run_rules.specs.Past.{In}
use Rattle.run_rules.specs.declared.step.Step.{Step}
use Rattle.script_lines.specs.declared.script.Script.{Script}
use Rattle.std.proofs.Common.{Bool, List, Some, [], ap, arith, false, fold, if◌then◌else◌, inl, inr, not, refl, subst}
use Rattle.std.proofs.Common.{sym, true, ℕ, ◌<◌, ◌==◌, ◌∙◌, ◌∷◌, ◌≡◌, ◌⊎◌}
use Rattle.host_tables.proofs.HearingParts as parts

-- a claim by tables that tell the same epoch
claim_by : (m : Tables) (sites : List Site) (v : ServerId) (claim : ReclaimOf)
    → (site_at sites v).epoch ≡ (site_at m.sites v).epoch → ClaimFrom (record m { sites = sites }) v claim
    → ClaimFrom m v claim
claim_by m sites v claim same from = record {
  held = λ t i o. from.held t i (o.0, subst (λ (n : ℕ). t.id.epoch < n) (sym same) o.1);
  given = λ y i o. from.given y i (o.0, subst (λ (n : ℕ). y.token.id.epoch < n) (sym same) o.1);
  only = λ t i. let r = from.only t i in ((r.0.0, subst (λ (n : ℕ). t.id.epoch < n) same r.0.1), r.1);
  numbers = from.numbers;
  moves = from.moves;
  gives = from.gives;
  gives_all = from.gives_all;
  changes = from.changes;
  changes_all = from.changes_all;
}

module _ (script : Script) (m : Tables) (past : List Step) (message : Message) (running : IsRunning script m past)
    (sound : IsSound script.roster message) (e : message.host ≡ m.host) (way : message.direction ≡ ToHost)
    (b : message.body ≡ Restarted) (up : (site_at m.sites message.server).epoch < message.epoch)
    (gives : IsSoundGives m.gives)
    (greeted : (site_at (renewed message.server message.epoch m).sites message.server).greeted ≡ true) where
  abbrev pub v : ServerId
  v = message.server

  abbrev pub m1 : Tables
  m1 = renewed v message.epoch m

  abbrev pub claimed : Site
  claimed = record (site_at m1.sites v) { claimed = true }

  abbrev pub sites : List Site
  sites = with_site claimed m1.sites

  abbrev pub new : Tables
  new = record m1 { sites = sites }

  abbrev pub x : Moved
  x = record (moved_of m1) { sites = sites }

  abbrev pub given : Draft
  given = fold (sending_to new v) no_draft (filesets_given m.gives.gives)

  abbrev pub sent : List Message
  sent = (claiming new given v).sent

  abbrev pub s : Step
  s = hears_says m.host message [] sent

  tidy_1 : IsTidy script.roster m1
  tidy_1 = told_tidy script.roster m (renewed_site script m past message running sound e way b up)
      (renewed_floors script m past message running sound e way b up) running.tidy
      (λ f i. (in_filter (λ (floor : Floor). not ((home_at floor.fid.fileset).0 == v.0)) m.floors f i).0)

  at : claimed.server ≡ v
  at = site_number m1.sites v

  changes : ChangesSite m1.sites sites v claimed
  changes = subst (λ (w : ServerId). ChangesSite m1.sites sites w claimed) at
      (site_put script.roster m1 tidy_1 claimed (subst (IsServer script.roster) (sym at) sound.server))

  pub tidy_new : IsTidy script.roster new
  tidy_new = told_tidy script.roster m1 claimed m1.floors tidy_1 (λ f i. i)

  -- all but whether a claim waits is as before
  module _ {A : Type 0} (part : Site → A) (same : part claimed ≡ part (site_at m1.sites v)) where
    part_same : (w : ServerId) → part (site_at sites w) ≡ part (site_at m1.sites w)
    part_same w = elim (parts.server_cases w v) [
      | inl q ↦ subst (λ (z : ServerId). part (site_at sites z) ≡ part (site_at m1.sites z)) (sym q)
          (ap part changes.here ∙ same)
      | inr n ↦ ap part (changes.others w n)
    ]

  pub epochs : (w : ServerId) → (site_at sites w).epoch ≡ (site_at m1.sites w).epoch
  epochs = part_same (λ (z : Site). z.epoch) refl

  pub learnt : Stands script m1 (half s ∷ past)
  learnt = renewed_stands script m past message running sound e way b up

  pub restart : LearnsRestart past s v
  restart = (
    (running.rests.stands.sites v).greeted.0 (sym (part_was (λ (z : Site). z.greeted) refl) ∙ greeted),
    (let p = (learnt.sites v).epoch in let q = (running.rests.stands.sites v).epoch in
        let r = ap (λ (z : Site). z.epoch) (renewed_changes script m past message running sound e way b up).here in
        omega (arith, p, q, r, up)),
    (message.epoch, message.moves, (message, refl, refl, refl, refl, b)),
  )
    where
      part_was : {A : Type 0} (part : Site → A)
          → part (renewed_site script m past message running sound e way b up) ≡ part (site_at m.sites v)
          → part (site_at m1.sites v) ≡ part (site_at m.sites v)
      part_was part same = ap part (renewed_changes script m past message running sound e way b up).here ∙ same

  -- what is said: give-backs, and the claim
  pub said : (y : Message) → In y sent
      → ((g : Give) × (y.body ≡ GiveBack g) × SaidAgain script.roster new past s y)
      ⊎ (y ≡ message_to new v (Reclaim (claim_of new v)))
  said y i = elim (saying_says new v (Reclaim (claim_of new v)) given y i) [
    | inr q ↦ inr q
    | inl j ↦ elim (fold_says (sending_to new v) (λ fs z. (o : Message) × (outstanding m.gives fs ≡ Some o)
        × (z ≡ message_to new (home_at fs) o.body)) one no_draft (filesets_given m.gives.gives) y j) [
          | inl n ↦ elim n [ ]
          | inr r ↦
              let k = outstanding_is m.gives gives r.0 r.2.0 r.2.1 in
              inl (
                k.0,
                ap (λ (z : Message). z.body) r.2.2 ∙ k.1,
                subst (SaidAgain script.roster new past s) (sym r.2.2)
                    (give_again script.roster new tidy_new past s gives r.0 r.2.0 r.2.1),
              )
        ]
  ]
    where
      one : (d : Draft) (fs : FilesetId) (z : Message) → In z (sending_to new v d fs).sent
          → In z d.sent ⊎ ((o : Message) × (outstanding m.gives fs ≡ Some o) × (z ≡ message_to new (home_at fs) o.body))
      one d fs z k = by_home ((home_at fs).0 == v.0) k
        where
          by_home : (t : Bool) → In z (if t then sending_give new d fs else d).sent
              → In z d.sent ⊎ ((o : Message) × (outstanding m.gives fs ≡ Some o)
              × (z ≡ message_to new (home_at fs) o.body))
          by_home true n = giving_says new d fs z n
          by_home false n = inl n

  claim_said : SaidAgain script.roster new past s (message_to new v (Reclaim (claim_of new v)))
  claim_said = claim_again script.roster new tidy_new past s gives v sound.server (inl restart)

  again : (y : Message) → In y sent → SaidAgain script.roster new past s y
  again y i = elim (said y i) [
    | inl r ↦ r.2
    | inr q ↦ subst (SaidAgain script.roster new past s) (sym q) claim_said
  ]

  -- by the tables that were learnt
  says_by : (w : ServerId) (c : Body) → SaysAgain new (moved_of new) past s w c → (c ≡ Hello → ⊥) → (c ≡ Bye → ⊥)
      → SaysAgain m1 x past s w c
  says_by w _ OfHello no_hello no_bye = absurd (no_hello refl)
  says_by w _ (OfGive g first to) no_hello no_bye = OfGive g first to
  says_by w _ (OfFetch f r to) no_hello no_bye = OfFetch f r to
  says_by w _ (OfChange c r) no_hello no_bye = OfChange c r
  says_by w _ (OfClaim claim from same why) no_hello no_bye =
      OfClaim claim (claim_by m1 sites w claim (epochs w) from) refl
      (elim why [
        | inl l ↦ inl l
        | inr l ↦ absurd (let p = l.0 in cc)
      ])
  says_by w _ (OfBye r) no_hello no_bye = absurd (no_bye refl)

  -- neither a Hello nor a Bye, nor any other
  body_of : (y : Message) → In y sent → ((g : Give) × (y.body ≡ GiveBack g)) ⊎ ((c : ReclaimOf) × (y.body ≡ Reclaim c)
      × (y.server ≡ v))
  body_of y i = elim (said y i) [
    | inl r ↦ inl (r.0, r.1)
    | inr q ↦ inr (claim_of new v, ap (λ (z : Message). z.body) q, ap (λ (z : Message). z.server) q)
  ]

  not_body : (c : Body) → ((g : Give) → GiveBack g ≡ c → ⊥) → ((k : ReclaimOf) → Reclaim k ≡ c → ⊥) → (y : Message)
      → In y sent → y.body ≡ c → ⊥
  not_body c no_give no_claim y i q = elim (body_of y i) [
    | inl r ↦ no_give r.0 (sym r.1 ∙ q)
    | inr r ↦ no_claim r.0 (sym r.1 ∙ q)
  ]

  why : (y : Message) → In y sent → SaysAgain m1 x past s y.server y.body
  why y i = says_by y.server y.body (again y i).repeats.why
      (not_body Hello (λ g q. absurd (cc)) (λ k q. absurd (cc)) y i)
      (not_body Bye (λ g q. absurd (cc)) (λ k q. absurd (cc)) y i)

  quiet : IsQuiet s
  quiet = record {
    answers = refl;
    wrote = refl;
    begun = refl;
    made = refl;
    dropped = refl;
    keeps = λ i k. not_body (KeptBody k.3) (λ g q. absurd (cc)) (λ c q. absurd (cc)) k.4.0 k.4.1 k.4.5;
    no_stop = λ k. not_body Down (λ g q. absurd (cc)) (λ c q. absurd (cc)) k.3.0 k.3.1 k.3.5;
  }

  claims_v : (w : ServerId) → ClaimsAt s w → w ≡ v
  claims_v w c = elim (body_of c.3.0 c.3.1) [
    | inl r ↦ absurd (let p = sym r.1 ∙ c.3.5 in cc)
    | inr r ↦ sym c.3.2 ∙ r.2
  ]

  pub claims_here : ClaimsAt s v
  claims_here = (
    message.epoch,
    0,
    claim_of new v,
    (
      message_to new v (Reclaim (claim_of new v)),
      saying_said new v (Reclaim (claim_of new v)) given,
      refl,
      epochs v ∙ ap (λ (z : Site). z.epoch) (renewed_changes script m past message running sound e way b up).here,
      refl,
      refl,
    ),
  )

  sites_move : SitesMove m1 x past s
  sites_move = record {
    epoch = epochs;
    welcome = part_same (λ (z : Site). z.welcome) refl;
    has_bye = part_same (λ (z : Site). z.has_bye) refl;
    greeted = λ w. (
      (λ q. inl (sym (part_same (λ (z : Site). z.greeted) refl w) ∙ q)),
      λ z. elim z [
        | inl q ↦ part_same (λ (z : Site). z.greeted) refl w ∙ q
        | inr p ↦ absurd (not_body Hello (λ g q. absurd (cc)) (λ k q. absurd (cc)) p.2.0 p.2.1 p.2.5)
      ],
    );
    said_bye = λ w. (
      (λ q. inl (sym (part_same (λ (z : Site). z.said_bye) refl w) ∙ q)),
      λ z. elim z [
        | inl q ↦ part_same (λ (z : Site). z.said_bye) refl w ∙ q
        | inr p ↦ absurd (not_body Bye (λ g q. absurd (cc)) (λ k q. absurd (cc)) p.2.0 p.2.1 p.2.5)
      ],
    );
    claimed = λ w. (
      (λ q. elim (parts.server_cases w v) [
        | inl p ↦ inr (subst (ClaimsAt s) (sym p) claims_here)
        | inr n ↦ inl (sym (ap (λ (z : Site). z.claimed) (changes.others w n)) ∙ q)
      ]),
      λ z. elim (parts.server_cases w v) [
        | inl p ↦ subst (λ (u : ServerId). (site_at sites u).claimed ≡ true) (sym p)
            (ap (λ (z : Site). z.claimed) changes.here)
        | inr n ↦ elim z [
          | inl q ↦ ap (λ (z : Site). z.claimed) (changes.others w n) ∙ q
          | inr c ↦ absurd (n (claims_v w c))
        ]
      ],
    );
    claims_apart = λ w a c k. absurd (let p = comes_so m.host message past Restarted b e way w _ 0 (Reclaimed a) k in
        cc);
    bye_again = λ w p. absurd (not_body Bye (λ g q. absurd (cc)) (λ k q. absurd (cc)) p.2.0 p.2.1 p.2.5);
    bye_idle = λ w q. (learnt.parted w ((learnt.sites w).said_bye.0 q)).none_asked;
  }

  requests : RequestStands m.request (s ∷ past) × NumbersStand m.fetched m.changed (s ∷ past)
  requests = request_moves_right script m1 past s learnt
      (record { only = λ y i. again_new m1 x past s y.server y.body (why y i) })

  by : ByMessage m m1 x past s message
  by = record {
    cause = refl;
    asked = refl;
    applies_none = (refl, refl, refl);
    call = refl;
    begun = refl;
    lost = refl;
    takes = λ t i. elim i [ ];
    takes_all = record {
      all = λ w t u. absurd (no_use m.host message past Restarted b e way (λ g q. absurd (cc)) (λ d q. absurd (cc)) w
          u.0);
      once = λ t u i. elim i [ ];
    };
    due = λ g first fresh. absurd (fresh first);
  }

  moves : MovesRight m1 x past s
  moves = moves_stay script m1 x past s learnt quiet sites_move requests.0 requests.1 refl refl refl refl

  rest : IsAtRest (with_moved m1 x) (s ∷ past)
  rest = rest_with m sites m1.floors (s ∷ past)
      (rest_on script m past s running.rests.stands running.rests.rest quiet refl
      (no_learning m.host message past Restarted b e way (λ n q. absurd (cc)) (λ a q. absurd (cc)))
      (no_welcome m.host message past Restarted b e way (λ a q. absurd (cc))))

  pub restarted_runs : RunsOn script m new past s
  restarted_runs = runs_on script m new past s
      (message_right script m m1 x past s message running.rests.stands refl learnt quiet by sites_move requests.0
      requests.1 (λ t i r. not_body (Returned r.3) (λ g q. absurd (cc)) (λ c q. absurd (cc)) r.4.0 r.4.1 r.4.5)
      (λ stance from y i. again_may script m1 x past s learnt quiet moves stance from y
      ((again y i).repeats.epoch ∙ epochs y.server) (again y i).repeats.no_moves (why y i)) rest) refl tidy_new
      running.ending running.asking
      (λ w q. gone_on script m past s running refl w
      (sym (byes_same m.sites m1.sites v (renewed_site script m past message running sound e way b up)
      (renewed_changes script m past message running sound e way b up) refl w)
      ∙ (sym (part_same (λ (z : Site). z.said_bye) refl w) ∙ q)))
      (λ y i. again_is_sound script.roster new tidy_new past s y (again y i))
