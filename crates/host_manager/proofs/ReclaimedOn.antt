-- A Reclaimed comes that is heard, whatever is open: what the host has learnt by it.
use Rattle.base_types.specs.declared.ids.HostId.{HostId}
use Rattle.base_types.specs.declared.ids.Node.TheVariants.{Host}
use Rattle.base_types.specs.declared.ids.ServerId.{ServerId}
use Rattle.host_asks.specs.Asking.{Doing, doing}
use Rattle.host_asks.specs.Going.{GoesOn}
use Rattle.host_gives.specs.Giving.{IsSound as IsSoundGives}
use Rattle.host_labels.specs.Labels.{IsSound as IsSoundUses}
use Rattle.host_leaves.specs.Sending.{message_to, saying, sending_due, sending_request}
use Rattle.host_manager.proofs.Again.{SaidAgain, request_again as asks_again}
use Rattle.host_manager.proofs.Folding.{IsRequest, OnlySends, asking_only, asking_says, saying_says, sends_on}
use Rattle.host_manager.proofs.Folding.IsRequest.{AskedChange, AskedFetch}
use Rattle.host_manager.proofs.Forgotten.{HasForgotten, forgets_all, none_forgotten}
use Rattle.host_manager.proofs.Heard.{byes_same, comes_so, half_by, hears_is, no_use, takes_none, told_tidy}
use Rattle.host_manager.proofs.HeardOn.{HasHeard, heard_on}
use Rattle.host_manager.specs.Learning.{closed_by, due_after, ended_by, ends_in, learning_given, renewed, without_give}
use Rattle.host_manager.specs.Taking.{IsHeard, bye_again, hearing, is_asked_at, reclaiming}
use Rattle.host_manager.specs.Taking.{request_again, welcomed}
use Rattle.host_gives.specs.Giving.{taken_out}
use Rattle.host_tables.proofs.Declared.{floors_renew, home_is, site_number, site_put}
use Rattle.host_tables.proofs.Heeding.{first_reclaimed_stands, reclaimed_stands}
use Rattle.host_tables.proofs.Lists.{by_test, in_filter, none_in, true_false}
use Rattle.host_tables.specs.Drafts.{no_draft, step_of}
use Rattle.host_tables.specs.Hearing.{ChangesSite, hears}
use Rattle.host_tables.specs.Heeding.{hearing as heard_site}
use Rattle.host_manager.specs.Running.{IsRunning, RunsOn}
use Rattle.host_tables.specs.Saying.SaysAgain.{OfBye}
use Rattle.host_tables.specs.Stands.{Stands}
use Rattle.host_tables.specs.Tables.{site_at}
use Rattle.host_tables.specs.Tidy.{IsTidy}
use Rattle.host_tables.specs.Updates.{home_at, with_site}
use Rattle.host_tables.specs.declared.calls.Request.{Request}
use Rattle.host_tables.specs.declared.draft.Draft.{Draft}
use Rattle.host_tables.specs.declared.files.Floor.{Floor}
use Rattle.host_tables.specs.declared.sites.Site.{Site}
use Rattle.host_tables.specs.declared.tables.Tables.{Tables}
use Rattle.message_types.specs.Soundness.{HasMoves, IsServer, IsSound}
use Rattle.message_types.specs.declared.giving.AppliedGive.{AppliedGive}
use Rattle.message_types.specs.declared.giving.Ends.{Ends}
use Rattle.message_types.specs.declared.giving.Reclaim.{Reclaim as ReclaimOf}
use Rattle.message_types.specs.declared.giving.Reclaimed.{Reclaimed as ReclaimedOf}
use Rattle.message_types.specs.declared.message.Body.{Body}
use Rattle.message_types.specs.declared.message.Body.TheVariants.{Bye, Change, Done, Fetch, Grant, Reclaim, Reclaimed}
use Rattle.message_types.specs.declared.message.Direction.TheVariants.{ToHost}
use Rattle.message_types.specs.declared.message.Message.{Message}
use Rattle.run_rules.specs.Messages.{ComesIn}
use Rattle.run_rules.specs.Past.{In}
use Rattle.run_rules.specs.declared.step.Asked.{Asked}
use Rattle.run_rules.specs.declared.step.Cause.TheVariants.{Message as Came}
use Rattle.run_rules.specs.declared.step.Step.{Step}
use Rattle.script_lines.specs.declared.script.Script.{Script}
use Rattle.std.proofs.Common.{Bool, List, None, Option, Some, [], ap, arith, eq-eqb, eqb-true, false, filter, fold}
use Rattle.std.proofs.Common.{if◌then◌else◌, inl, inr, is_some, not, refl, subst, suc, sym, true, zero, ℕ}
use Rattle.std.proofs.Common.{◌&&◌, ◌<◌, ◌==◌, ◌||◌}
use Rattle.std.proofs.Common.{◌∙◌, ◌∷◌, ◌≡◌}
use Rattle.std.proofs.lemmas.Bool.{and_parts}
use Rattle.std.specs.Option.{option_map_or}
use Rattle.host_manager.proofs.Closed as closed_of
use Rattle.host_tables.proofs.HearingParts as parts

-- # What is known of servers doesn't count for what is forgotten
abbrev sited : List Site → Doing → Doing
sited sites at = record at { tables = record at.tables { sites = sites } }

abbrev sited_tables : List Site → Doing → Tables
sited_tables sites at = record at.tables { sites = sites }

learns_sited : (sites : List Site) (n : AppliedGive) (at : Doing)
    → learning_given n (sited sites at) ≡ sited sites (learning_given n at)
learns_sited sites n at = by_taken (taken_out at.tables.gives n.fileset n.number)
  where
    by_ends : (o : Option Ends) → (if is_some o then record (without_give n (sited_tables sites at)) {
      ending = None;
      call = closed_by o at.tables.call;
    } else without_give n (sited_tables sites at))
        ≡ record (if is_some o then record (without_give n at.tables) {
          ending = None;
          call = closed_by o at.tables.call;
        } else without_give n at.tables) { sites = sites }
    by_ends None = refl
    by_ends (Some e) = refl

    by_taken : (o : Option Message)
        → option_map_or (λ message. doing (ended_by message (without_give n (sited_tables sites at)))
        (due_after n (sited_tables sites at) at.draft)) o (sited sites at)
        ≡ sited sites (option_map_or (λ message. doing (ended_by message (without_give n at.tables))
        (due_after n at.tables at.draft)) o at)
    by_taken None = refl
    by_taken (Some y) = ap (λ (z : Tables). doing z (due_after n (sited_tables sites at) at.draft))
        (by_ends (ends_in y))

all_sited : (sites : List Site) (ns : List AppliedGive) (at : Doing)
    → fold (λ now applied. learning_given applied now) (sited sites at) ns
    ≡ sited sites (fold (λ now applied. learning_given applied now) at ns)
all_sited sites [] at = refl
all_sited sites (n ∷ ns) at =
    ap (λ (z : Doing). fold (λ now applied. learning_given applied now) z ns) (learns_sited sites n at)
    ∙ all_sited sites ns (learning_given n at)

-- two changes of one site
changes_both : (old middle new : List Site) (v : ServerId) (first second : Site) → ChangesSite old middle v first
    → ChangesSite middle new v second → ChangesSite old new v second
changes_both old middle new v first second a b =
    record { here = b.here; others = λ w n. b.others w n ∙ a.others w n }

module _ (script : Script) (m : Tables) (past : List Step) (message : Message) (running : IsRunning script m past)
    (sound : IsSound script.roster message) (host_is : message.host ≡ m.host) (way : message.direction ≡ ToHost)
    (a : ReclaimedOf) (b : message.body ≡ Reclaimed a) (gives : IsSoundGives m.gives) where
  stands : Stands script m past
  stands = running.rests.stands

  abbrev v : ServerId
  v = message.server

  abbrev site : Site
  site = site_at m.sites v

  pub none_moved : message.moves ≡ 0
  none_moved = subst (λ (c : Body). HasMoves c message.moves) b sound.moves

  pub is : half_by m.host message ≡ hears m.host v message.epoch 0 (Reclaimed a)
  is = hears_is m.host message host_is way
      ∙ (λ i. hears m.host v message.epoch (none_moved i) (b i))

  -- # The tables once it is heard, whatever was said before
  module _ (one : Site) (first : ChangesSite m.sites (with_site one m.sites) v one) (floors : List Floor)
      (fewer : (f : Floor) → In f floors → In f m.floors) (bye_same : one.said_bye ≡ site.said_bye)
      (numbered : one.server ≡ v) where
    abbrev sites1 : List Site
    sites1 = with_site one m.sites

    abbrev m1 : Tables
    m1 = record m { sites = sites1; floors = floors }

    tidy_1 : IsTidy script.roster m1
    tidy_1 = told_tidy script.roster m one floors running.tidy fewer

    abbrev two : Site
    two = record (site_at sites1 v) { welcome = (site_at sites1 v).welcome || (site_at sites1 v).greeted }

    abbrev pub sites2 : List Site
    sites2 = with_site two sites1

    second : ChangesSite sites1 sites2 v two
    second =
        let at : two.server ≡ v = site_number sites1 v in
        subst (λ (w : ServerId). ChangesSite sites1 sites2 w two) at
        (site_put script.roster m1 tidy_1 two (subst (IsServer script.roster) (sym at) sound.server))

    two_is : two ≡ record one { welcome = one.welcome || one.greeted }
    two_is = ap (λ (z : Site). record z { welcome = z.welcome || z.greeted }) first.here

    pub changes : ChangesSite m.sites sites2 v (record one { welcome = one.welcome || one.greeted })
    changes = subst (ChangesSite m.sites sites2 v) two_is
        (changes_both m.sites sites1 sites2 v one two first second)

    pub tidy_2 : IsTidy script.roster (record m { sites = sites2; floors = floors })
    tidy_2 = told_tidy script.roster m1 two floors tidy_1 (λ f i. i)

    -- what has been forgotten by it, and what was said
    module _ (ns : List AppliedGive) (x : Tables) (e : Draft) (it : HasForgotten m no_draft ns x e)
        (learnt : Stands script (record x { sites = sites2; floors = floors }) (half_by m.host message ∷ past))
        (sent : List Message)
        (says : (s : Step) (y : Message) → In y sent
        → SaidAgain script.roster (record x { sites = sites2; floors = floors }) past s y
        × ((c : ReclaimOf) → y.body ≡ Reclaim c → ⊥))
        (silent : (c : Asked) → m.call ≡ Some c → m.request ≡ None → sent ≡ []) where
      abbrev pub y : Tables
      y = record x { sites = sites2; floors = floors }

      abbrev pub d : Draft
      d = record no_draft { sent = sent; due = e.due }

      host_same : m.host ≡ y.host
      host_same = sym (ap (λ (z : Tables). z.host) it.tables)

      none_granted : (c : Body) → ((r : ReclaimedOf) → Reclaimed r ≡ c → ⊥) → (w : ServerId) (n k : ℕ)
          → ComesIn (half_by y.host message) w n k c → ⊥
      none_granted c other w n k z =
          other a (comes_so y.host message past (Reclaimed a) b (host_is ∙ host_same) way w n k c z)

      pub has_heard : HasHeard script m y past message d
      has_heard = record {
        running = running;
        host = host_same;
        learnt = subst (λ (h : HostId). Stands script y (half_by h message ∷ past)) host_same learnt;
        tidy = closed_of.tidy_now script m past running no_draft ns x e it y refl running.tidy tidy_2;
        gives = it.sound;
        draft = refl;
        takes = takes_none past (half_by y.host message) refl (λ w u. no_use y.host message past (Reclaimed a) b
            (host_is ∙ host_same) way (λ g q. absurd (cc)) (λ c q. absurd (cc)) w u.0);
        byes = byes_same m.sites sites2 v (record one { welcome = one.welcome || one.greeted }) changes bye_same;
        grants = λ fs g z. absurd (none_granted (Grant g) (λ r q. absurd (cc)) _ _ _ z);
        changes = λ w c z. absurd (elim z [
          | inl k ↦ none_granted (Done c) (λ r q. absurd (cc)) _ _ _ k.1
          | inr k ↦ none_granted (Done c) (λ r q. absurd (cc)) _ _ _ k
        ]);
        says = says;
        due = it.due;
        ending = closed_of.ending_now script m past running no_draft ns x e it y refl;
        asking = closed_of.asking_now script m past running no_draft ns x e it y refl;
        idle = closed_of.idle_now script m past running no_draft ns x e it y refl;
        silent = λ c q r. silent c (closed_of.open_was script m past running no_draft ns x e it c q)
            (sym (closed_of.request_is script m past running no_draft ns x e it y refl) ∙ r);
      }

      pub goes : IsSoundUses m.uses → (at : Doing) → GoesOn (doing y d) at → IsSoundGives at.tables.gives
          → RunsOn script m at.tables past (step_of (Host m.host) (Came message) (sending_due at.tables at.draft))
      goes uses at goes_it left =
          subst (λ (h : HostId). RunsOn script m at.tables past
          (step_of (Host h) (Came message) (sending_due at.tables at.draft))) (sym host_same)
          (heard_on script m y past message d has_heard
          (subst IsSoundUses (sym (ap (λ (z : Tables). z.uses) it.tables)) uses) at goes_it left)

  -- # The first one of a server, which tells its epoch
  module _ (unknown : site.epoch ≡ 0) (other : (message.epoch == site.epoch) ≡ false) where
    abbrev pub one_f : Site
    one_f = record site { epoch = message.epoch; claimed = false }

    abbrev pub floors_f : List Floor
    floors_f = filter (λ (floor : Floor). not ((home_at floor.fid.fileset).0 == v.0)) m.floors

    pub at_f : one_f.server ≡ v
    at_f = site_number m.sites v

    pub first_f : ChangesSite m.sites (with_site one_f m.sites) v one_f
    first_f = subst (λ (w : ServerId). ChangesSite m.sites (with_site one_f m.sites) w one_f) at_f
        (site_put script.roster m running.tidy one_f (subst (IsServer script.roster) (sym at_f) sound.server))

    pub fewer_f : (f : Floor) → In f floors_f → In f m.floors
    fewer_f f i = (in_filter (λ (floor : Floor). not ((home_at floor.fid.fileset).0 == v.0)) m.floors f i).0

    above : 0 < message.epoch
    above = elim (by_test (message.epoch == 0)) [
      | inl t ↦ absurd (true_false (message.epoch == 0) t (ap (λ (n : ℕ). message.epoch == n) (sym unknown) ∙ other))
      | inr f ↦ positive message.epoch f
    ]
      where
        positive : (n : ℕ) → (n == 0) ≡ false → 0 < n
        positive zero f = absurd (cc)
        positive (suc n) f = omega arith

    abbrev pub sites_f : List Site
    sites_f = sites2 one_f first_f floors_f fewer_f refl at_f

    pub learnt_f : Stands script (record m { sites = sites_f; floors = floors_f }) (half_by m.host message ∷ past)
    learnt_f = subst (λ (s : Step). Stands script (record m { sites = sites_f; floors = floors_f }) (s ∷ past)) (sym is)
        (first_reclaimed_stands script m past v message.epoch a sites_f floors_f stands unknown above
        (changes one_f first_f floors_f fewer_f refl at_f)
        (floors_renew v m.floors (λ f i. home_is script.roster m running.tidy f.fid.fileset (running.tidy.floors f i))))

    pub heard_first : hearing message a (doing m no_draft)
        ≡ doing (record m { sites = sites_f; floors = floors_f }) no_draft
    heard_first = ap (λ (t : Bool). welcomed v (if t then reclaiming site a (doing m no_draft)
        else doing (renewed v message.epoch m) no_draft)) other

    pub heard_f : HasHeard script m (record m { sites = sites_f; floors = floors_f }) past message no_draft
    heard_f = has_heard one_f first_f floors_f fewer_f refl at_f [] m no_draft (none_forgotten m no_draft gives)
        learnt_f [] (λ s y i. elim i [ ]) (λ c q r. refl)

    pub first_goes : IsSoundUses m.uses → (at : Doing) → GoesOn (hearing message a (doing m no_draft)) at
        → IsSoundGives at.tables.gives
        → RunsOn script m at.tables past (step_of (Host m.host) (Came message) (sending_due at.tables at.draft))
    first_goes uses at goes_it left =
        goes one_f first_f floors_f fewer_f refl at_f [] m no_draft (none_forgotten m no_draft gives) learnt_f []
        (λ s y i. elim i [ ]) (λ c q r. refl) uses at
        (subst (λ (z : Doing). GoesOn z at) heard_first goes_it) left

  -- # One of the present epoch: what it names is known as applied, and what else is outstanding is said again
  module _ (present : (message.epoch == site.epoch) ≡ true) where
    abbrev pub one_p : Site
    one_p = record site { claimed = false }

    pub at_p : one_p.server ≡ v
    at_p = site_number m.sites v

    pub first_p : ChangesSite m.sites (with_site one_p m.sites) v one_p
    first_p = subst (λ (w : ServerId). ChangesSite m.sites (with_site one_p m.sites) w one_p) at_p
        (site_put script.roster m running.tidy one_p (subst (IsServer script.roster) (sym at_p) sound.server))

    abbrev pub forgotten : Doing
    forgotten = fold (λ now applied. learning_given applied now) (doing m no_draft) a.applied

    abbrev pub x_p : Tables
    x_p = forgotten.tables

    abbrev pub e_p : Draft
    e_p = forgotten.draft

    pub it_p : HasForgotten m no_draft a.applied x_p e_p
    it_p = forgets_all script m past stands no_draft a.applied [] m no_draft (none_forgotten m no_draft gives)

    abbrev pub sites_1 : List Site
    sites_1 = with_site one_p m.sites

    abbrev pub x_1 : Tables
    x_1 = record x_p { sites = sites_1 }

    abbrev pub sites_p : List Site
    sites_p = sites2 one_p first_p m.floors (λ f i. i) refl at_p

    abbrev pub x_2 : Tables
    x_2 = record x_p { sites = sites_p; floors = m.floors }

    pub floors_are : x_p.floors ≡ m.floors
    floors_are = ap (λ (z : Tables). z.floors) it_p.tables

    -- what is said
    abbrev pub asked : Bool
    asked = is_asked_at site.server x_1.request

    abbrev pub d_a : Draft
    d_a = if asked then sending_request x_1 x_1.request e_p else e_p

    abbrev pub bye : Bool
    bye = site.said_bye && not site.has_bye

    abbrev pub d_b : Draft
    d_b = if bye then saying x_1 site.server Bye d_a else d_a

    one_doing : (t : Bool) (d e : Draft) → (if t then doing x_1 d else doing x_1 e) ≡ doing x_1 (if t then d else e)
    one_doing true d e = refl
    one_doing false d e = refl

    said_is : bye_again site (request_again site.server (doing x_1 e_p)) ≡ doing x_1 d_b
    said_is =
        ap (bye_again site) (one_doing asked (sending_request x_1 x_1.request e_p) e_p)
        ∙ one_doing bye (saying x_1 site.server Bye d_a) d_a

    reclaimed_is : reclaiming site a (doing m no_draft) ≡ doing x_1 d_b
    reclaimed_is =
        ap (λ (z : Doing). bye_again site (request_again site.server z))
        (all_sited sites_1 a.applied (doing m no_draft))
        ∙ said_is

    pub heard_is : hearing message a (doing m no_draft) ≡ doing (record x_p { sites = sites_p }) d_b
    heard_is =
        ap (λ (t : Bool). welcomed v (if t then reclaiming site a (doing m no_draft)
        else doing (renewed v message.epoch m) no_draft)) present
        ∙ ap (welcomed v) reclaimed_is

    pub only_a : OnlySends e_p d_a
    only_a = by_asked asked
      where
        by_asked : (t : Bool) → OnlySends e_p (if t then sending_request x_1 x_1.request e_p else e_p)
        by_asked true = asking_only x_1 x_1.request e_p
        by_asked false = refl

    only_b : OnlySends e_p d_b
    only_b = by_bye bye
      where
        by_bye : (t : Bool) → OnlySends e_p (if t then saying x_1 site.server Bye d_a else d_a)
        by_bye true = sends_on e_p d_a (saying x_1 site.server Bye d_a) only_a refl
        by_bye false = only_a

    pub draft_is : d_b ≡ record no_draft { sent = d_b.sent; due = e_p.due }
    draft_is = only_b ∙ ap (λ (z : Draft). record z { sent = d_b.sent }) it_p.draft

    -- the epochs are as before
    epochs : (w : ServerId) → (site_at sites_1 w).epoch ≡ (site_at sites_p w).epoch
    epochs w = epoch_of m.sites sites_1 one_p first_p refl w
        ∙ sym (epoch_of m.sites sites_p (record one_p { welcome = one_p.welcome || one_p.greeted })
        (changes one_p first_p m.floors (λ f i. i) refl at_p) refl w)
      where
        epoch_of : (old new : List Site) (z : Site) → ChangesSite old new v z → z.epoch ≡ (site_at old v).epoch
            → (w : ServerId) → (site_at new w).epoch ≡ (site_at old w).epoch
        epoch_of old new z c same w = elim (parts.server_cases w v) [
          | inl e ↦ subst (λ (u : ServerId). (site_at new u).epoch ≡ (site_at old u).epoch) (sym e)
              (ap (λ (k : Site). k.epoch) c.here ∙ same)
          | inr n ↦ ap (λ (k : Site). k.epoch) (c.others w n)
        ]

    to_is : (w : ServerId) (c : Body) → message_to x_1 w c ≡ message_to x_2 w c
    to_is w c = λ i. record (message_to x_1 w c) { epoch = epochs w i }

    request_there : (z : Message) (r : Option Request) → IsRequest x_1 z r → IsRequest x_2 z r
    request_there z _ (AskedFetch f q) = AskedFetch f (q ∙ to_is (home_at f.fid.fileset) (Fetch f))
    request_there z _ (AskedChange w c q) = AskedChange w c (q ∙ to_is w (Change c))

    no_claim : (z : Message) (r : Option Request) → IsRequest x_2 z r → (c : ReclaimOf) → z.body ≡ Reclaim c → ⊥
    no_claim z _ (AskedFetch f q) c e = let p = sym (ap (λ (k : Message). k.body) q) ∙ e in cc
    no_claim z _ (AskedChange w k q) c e = let p = sym (ap (λ (k : Message). k.body) q) ∙ e in cc

    pub tidy_p : IsTidy script.roster x_2
    tidy_p = closed_of.tidy_now script m past running no_draft a.applied x_p e_p it_p x_2 refl running.tidy
        (tidy_2 one_p first_p m.floors (λ f i. i) refl at_p)

    abbrev SaysOld : Step → Message → Type 0
    SaysOld s z = SaidAgain script.roster x_2 past s z × ((c : ReclaimOf) → z.body ≡ Reclaim c → ⊥)

    pub said_a : (s : Step) (z : Message) → In z d_a.sent → SaysOld s z
    said_a s z i = by_asked asked i
      where
        by_asked : (t : Bool) → In z (if t then sending_request x_1 x_1.request e_p else e_p).sent → SaysOld s z
        by_asked false j = absurd (none_in e_p.sent (ap (λ (k : Draft). k.sent) it_p.draft) z j)
        by_asked true j = elim (asking_says x_1 x_1.request e_p z j) [
          | inl k ↦ absurd (none_in e_p.sent (ap (λ (k : Draft). k.sent) it_p.draft) z k)
          | inr q ↦
              let r = request_there z x_1.request q in
              (asks_again script.roster x_2 tidy_p past s z r, no_claim z x_1.request r)
        ]

    said_bye_2 : site.said_bye ≡ true → (site_at sites_p v).said_bye ≡ true
    said_bye_2 e =
        ap (λ (k : Site). k.said_bye) (changes one_p first_p m.floors (λ f i. i) refl at_p).here ∙ e

    bye_said : (s : Step) (z : Message) → bye ≡ true → z ≡ message_to x_1 site.server Bye → SaysOld s z
    bye_said s z t q = (
      subst (SaidAgain script.roster x_2 past s) (sym (q ∙ to_is site.server Bye
          ∙ ap (λ (w : ServerId). message_to x_2 w Bye) at_p)) (record {
            out = record { way = refl; host_is = refl; no_moves = refl; epoch_is = refl };
            known = sound.server;
            repeats = record {
              epoch = refl;
              no_moves = refl;
              why = OfBye (said_bye_2 (and_parts site.said_bye (not site.has_bye) t).0);
              greeted = λ h. absurd (cc);
            };
          }),
      λ c e. absurd (let p = sym (ap (λ (k : Message). k.body) q) ∙ e in cc),
    )

    pub said_b : (s : Step) (z : Message) → In z d_b.sent → SaysOld s z
    said_b s z i = by_bye bye refl i
      where
        by_bye : (t : Bool) → bye ≡ t → In z (if t then saying x_1 site.server Bye d_a else d_a).sent → SaysOld s z
        by_bye false q j = said_a s z j
        by_bye true q j = elim (saying_says x_1 site.server Bye d_a z j) [
          | inl k ↦ said_a s z k
          | inr k ↦ bye_said s z q k
        ]

    -- with nothing asked, and a call open, nothing was said
    pub silent_p : (c : Asked) → m.call ≡ Some c → m.request ≡ None → d_b.sent ≡ []
    silent_p c open_is idle =
        ap (λ (t : Bool). (if t then saying x_1 site.server Bye d_a else d_a).sent) no_bye
        ∙ ap (λ (t : Bool). (if t then sending_request x_1 x_1.request e_p else e_p).sent) not_asked
        ∙ ap (λ (k : Draft). k.sent) it_p.draft
      where
        not_asked : asked ≡ false
        not_asked = ap (is_asked_at site.server) (ap (λ (z : Tables). z.request) it_p.tables ∙ idle)

        no_bye : bye ≡ false
        no_bye = elim (by_test bye) [
          | inr f ↦ f
          | inl t ↦ absurd (
              let said = (and_parts site.said_bye (not site.has_bye) t).0 in
              let p = (stands.parted v ((stands.sites v).said_bye.0 said)).none_open in
              let q : None ≡ Some c = sym p ∙ open_is in cc
              )
        ]

    pub epoch_is : site.epoch ≡ message.epoch
    epoch_is = sym (eqb-true message.epoch site.epoch present)

    pub learnt_p : Stands script x_2 (half_by m.host message ∷ past)
    learnt_p = subst (λ (z : Tables). Stands script (record z { sites = sites_p; floors = m.floors })
        (half_by m.host message ∷ past)) (sym it_p.tables)
        (subst (λ (s : Step). Stands script (record m {
          lengths = x_p.lengths;
          gives = x_p.gives;
          leaving = x_p.leaving;
          ending = x_p.ending;
          call = x_p.call;
          sites = sites_p;
        }) (s ∷ past)) (sym is)
        (reclaimed_stands script m past v message.epoch a sites_p x_p.lengths x_p.gives x_p.leaving x_p.ending x_p.call
        stands epoch_is
        (subst (ChangesSite m.sites sites_p v) site_is (changes one_p first_p m.floors (λ f i. i) refl at_p))
        it_p.forgets it_p.closes))
      where
        site_is : record one_p { welcome = one_p.welcome || one_p.greeted } ≡ heard_site site message.epoch
        site_is = λ i. record one_p { welcome = one_p.welcome || one_p.greeted; epoch = epoch_is i }

    pub heard_p : HasHeard script m x_2 past message (record no_draft { sent = d_b.sent; due = e_p.due })
    heard_p = has_heard one_p first_p m.floors (λ f i. i) refl at_p a.applied x_p e_p it_p learnt_p d_b.sent said_b
        silent_p

    pub present_goes : IsSoundUses m.uses → (at : Doing) → GoesOn (hearing message a (doing m no_draft)) at
        → IsSoundGives at.tables.gives
        → RunsOn script m at.tables past (step_of (Host m.host) (Came message) (sending_due at.tables at.draft))
    present_goes uses at goes_it left =
        goes one_p first_p m.floors (λ f i. i) refl at_p a.applied x_p e_p it_p learnt_p d_b.sent said_b silent_p
        uses at
        (subst (λ (z : Doing). GoesOn z at)
        (heard_is ∙ (λ i. doing (record x_p { sites = sites_p; floors = floors_are i }) (draft_is i))) goes_it) left

  pub reclaimed_goes : IsHeard message m → IsSoundUses m.uses → (at : Doing)
      → GoesOn (hearing message a (doing m no_draft)) at → IsSoundGives at.tables.gives
      → RunsOn script m at.tables past (step_of (Host m.host) (Came message) (sending_due at.tables at.draft))
  reclaimed_goes heard uses at goes_it left = elim (by_test (message.epoch == site.epoch)) [
    | inl t ↦ present_goes t uses at goes_it left
    | inr f ↦ elim heard [
      | inl unknown ↦ first_goes unknown f uses at goes_it left
      | inr same ↦ absurd (true_false (message.epoch == site.epoch)
          (eq-eqb message.epoch site.epoch (sym same)) f)
    ]
  ]
