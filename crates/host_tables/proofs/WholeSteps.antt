-- Whole steps in which all tokens stay.
use Rattle.base_types.specs.Ids.{same_fid}
use Rattle.base_types.specs.declared.ids.Fid.{Fid}
use Rattle.base_types.specs.declared.ids.ServerId.{ServerId}
use Rattle.host_tables.proofs.Lists.{none_in}
use Rattle.host_tables.proofs.Moving.{request_moves_right}
use Rattle.host_tables.proofs.QuietStep.{quiet_right}
use Rattle.host_tables.proofs.Saying.{again_may}
use Rattle.host_tables.specs.AsksByLine.{begun_call}
use Rattle.host_tables.specs.AtOnce.{IsFree, IsNextCall}
use Rattle.host_tables.specs.Causes.{CauseMay}
use Rattle.host_tables.specs.Half.{half, learning}
use Rattle.host_tables.specs.Lapsing.{lapses}
use Rattle.host_tables.specs.Learning.{TeachesNothing}
use Rattle.host_tables.specs.Machine.{Rests, StepRight}
use Rattle.host_tables.specs.Moving.{IsNoRequest}
use Rattle.host_tables.specs.Quiet.{IsQuiet, Moved, MovesRight, with_moved}
use Rattle.host_tables.specs.Saying.{IsFirst, SaysAgain}
use Rattle.host_tables.specs.Saying.SaysAgain.{OfBye, OfChange, OfClaim, OfFetch, OfGive, OfHello}
use Rattle.host_tables.specs.Stands.{GivesStand, IsAtRest, IsDirtyFrom, IsWaiting, LostStands, NumbersStand}
use Rattle.host_tables.specs.Stands.{PartedStands, RequestStands, Stands}
use Rattle.host_tables.specs.Stands.IsWaiting.{ForDone, ForFile, ForGone, ForGrant, ForNeed, ForQuestion}
use Rattle.host_tables.specs.Tables.{held_of, site_at}
use Rattle.host_tables.specs.WholeSteps.{BeginsOpen, ByMessage, HeardRight, LapseRight, LineBeginsRight, MessageRight}
use Rattle.host_tables.specs.WholeSteps.{RepeatsFrom, RestStays, SentMay, SitesMove, TakesRight, begins_line}
use Rattle.host_tables.specs.WholeSteps.{hears_says, moved_of}
use Rattle.host_tables.specs.declared.calls.Request.TheVariants.{Change as AChange, Fetch as AFetch}
use Rattle.host_tables.specs.declared.tables.Tables.{Tables}
use Rattle.message_types.specs.declared.asking.Change.{Change as ChangeOf}
use Rattle.message_types.specs.declared.asking.Fetch.{Fetch as FetchOf}
use Rattle.message_types.specs.declared.giving.Give.{Give}
use Rattle.message_types.specs.declared.giving.Reclaim.{Reclaim as ReclaimOf}
use Rattle.message_types.specs.declared.message.Body.{Body}
use Rattle.message_types.specs.declared.message.Body.TheVariants.{Bye, Change, Down, Fetch, GiveBack, Hello}
use Rattle.message_types.specs.declared.message.Body.TheVariants.{Kept as KeptBody, Reclaim, Returned}
use Rattle.message_types.specs.declared.message.Message.{Message}
use Rattle.need_host.specs.Questions.{Question}
use Rattle.need_host.specs.Questions.Question.{ChangeAt, ChangeIn, EnterAt}
use Rattle.run_rules.specs.HostAsks.{HasLost}
use Rattle.run_rules.specs.HostMay.{ClaimsAt, DoesLine, LearnsRestart}
use Rattle.message_types.specs.declared.giving.AppliedGive.{AppliedGive}
use Rattle.run_rules.specs.Tokens.{Learns}
use Rattle.run_rules.specs.Messages.{HasGreeted, HasKeptToken, HasSaid, IsWelcome, ReturnsToken, Sends, SendsTo, home}
use Rattle.run_rules.specs.Messages.{stay_of}
use Rattle.run_rules.specs.Past.{In}
use Rattle.run_rules.specs.Steps.{servers_of}
use Rattle.run_rules.specs.Tokens.{BeginsCall, FreesPinned, IsKnown, IsOutstanding, LabelInUse, Made, NoneOpen, Owns}
use Rattle.run_rules.specs.Tokens.{calls_begun, number_of}
use Rattle.run_rules.specs.Views.{byte_of, is_dirty, stay_asked, writes_byte}
use Rattle.run_rules.specs.declared.applied.Answer.{Answer as AnswerOf}
use Rattle.run_rules.specs.declared.step.Asked.{Asked}
use Rattle.run_rules.specs.declared.step.Cause.{Cause}
use Rattle.run_rules.specs.declared.step.Cause.TheVariants.{End, Flushed, Lapse, Line as LineOf, Message as Came}
use Rattle.run_rules.specs.declared.step.Cause.TheVariants.{Restart}
use Rattle.run_rules.specs.declared.step.Labelled.{Labelled}
use Rattle.run_rules.specs.declared.step.Step.{Step}
use Rattle.script_lines.specs.declared.script.Script.{Script}
use Rattle.std.proofs.Common.{Bool, List, None, Option, Some, [], ap, arith, count_by, false, if◌then◌else◌, inl, inr}
use Rattle.std.proofs.Common.{is_some, not, refl, subst, suc, sym, true, ℕ, ◌&&◌, ◌+◌, ◌||◌, ◌↔◌, ◌∙◌, ◌∷◌, ◌≡◌, ◌⊎◌}
use Rattle.std.specs.List.{list_any}
use Rattle.std.specs.Option.{option_map_or}
use Rattle.token_types.specs.declared.token.Token.{Token}
use Rattle.token_types.specs.declared.token.TokenId.{TokenId}
use Rattle.tree_calls.specs.declared.call.Call.{Call}
use Rattle.host_tables.proofs.Learning as learning_of
use Rattle.host_tables.proofs.AtOnce as at_once
use Rattle.host_tables.proofs.Saying as saying_of

count_none : (asked : Option Asked) (answers : List AnswerOf) (n : ℕ) → asked ≡ None → answers ≡ []
    → (if is_some asked then 1 else count_by (λ (a : AnswerOf). a.first) answers) + n ≡ n
count_none asked answers n e f =
    ap (λ (q : Option Asked × List AnswerOf). (if is_some q.0 then 1 else count_by (λ (a : AnswerOf). a.first) q.1) + n)
    (λ i. (e i, f i)) ∙ omega arith

-- how the tables of a step move, from its parts
module _ (script : Script) (m : Tables) (x : Moved) (past : List Step) (s : Step)
    (learnt : Stands script m (half s ∷ past))
    (quiet : IsQuiet s) (sites : SitesMove m x past s) (request : RequestStands x.request (s ∷ past))
    (numbers : NumbersStand x.fetched x.changed (s ∷ past)) where
  -- what is said of Byes was said before
  bye_before : (v : ServerId) → HasSaid (s ∷ past) v Bye → HasSaid (half s ∷ past) v Bye
  bye_before v (e, n, inl p) = (learnt.sites v).said_bye.0 (sites.bye_again v (e, n, p))
  bye_before v (e, n, inr p) = (e, n, inr p)

  said_now : (v : ServerId) (b : Body) → HasSaid (half s ∷ past) v b → HasSaid (s ∷ past) v b
  said_now v b (e, n, inl p) = elim p.1 [ ]
  said_now v b (e, n, inr p) = (e, n, inr p)

  owned_half : (t : Token) → Owns (s ∷ past) t → Owns (half s ∷ past) t
  owned_half t o = (o.0, λ l. elim l [ inl k ↦ elim k.1 [ ] | inr k ↦ elim k.4.1 [ ] ])

  made_half : (g : Give) → Made (s ∷ past) g → Made (half s ∷ past) g
  made_half g (inl i) = absurd (none_in s.made quiet.made g i)
  made_half g (inr i) = inr i

  parted : (call_kept : (v : ServerId) → HasSaid (half s ∷ past) v Bye → x.call ≡ None) (v : ServerId)
      → HasSaid (s ∷ past) v Bye → PartedStands x.request x.call v (s ∷ past)
  parted call_kept v b =
      let before = bye_before v b in
      let p = learnt.parted v before in
      record {
        greeted = said_now v Hello p.greeted;
        none_asked = sites.bye_idle v ((learnt.sites v).said_bye.1 before);
        none_open = call_kept v before;
        none_owned = λ t o. p.none_owned t (owned_half t o);
        known = λ g i. p.known g (made_half g i);
      }

  -- no call is begun
  module _ (none : s.asked ≡ None) (call : x.call ≡ m.call) (begun : x.begun ≡ m.begun) (lost : x.lost ≡ m.lost) where
    lost_same : (fid : Fid) → HasLost (half s ∷ past) fid ↔ HasLost (s ∷ past) fid
    lost_same fid = (
      (λ h. elim h [ inl k ↦ elim k.0.1 [ ] | inr k ↦ inr (k.0, begins_none) ]),
      λ h. elim h [ inl k ↦ absurd (none_in s.dropped quiet.dropped _ k.0.1) | inr k ↦ inr (k.0, no_begin) ],
    )
      where
        begins_none : ((k : ℕ) × (call : Call) × BeginsCall s k call) → ⊥
        begins_none (k, call, inl e) = let p = sym none ∙ e in absurd (cc)
        begins_none (k, call, inr a) = none_in s.answers quiet.answers a.0 a.1

        no_begin : ((k : ℕ) × (call : Call) × BeginsCall (half s) k call) → ⊥
        no_begin (k, call, inl e) = absurd (cc)
        no_begin (k, call, inr a) = elim a.1 [ ]

    lost_stands : LostStands x.lost x.call (s ∷ past)
    lost_stands c e fid =
        let r = learnt.lost c (sym call ∙ e) fid in
        let same = lost_same fid in
        ((λ i. same.0 (r.0 (subst (In fid) lost i))), λ h. subst (In fid) (sym lost) (r.1 (same.1 h)))

    pub moves_stay : MovesRight m x past s
    moves_stay = record {
      site_epoch = sites.epoch;
      site_welcome = sites.welcome;
      site_has_bye = sites.has_bye;
      site_greeted = sites.greeted;
      site_said_bye = sites.said_bye;
      site_claimed = sites.claimed;
      claims_apart = sites.claims_apart;
      request = request;
      numbers = numbers;
      call_from = λ c e. inr (sym call ∙ e);
      call_asked = λ c e. absurd (let p = sym none ∙ e in cc);
      call_stays = λ c e. call ∙ e;
      begun =
          let a = count_none s.asked s.answers (calls_begun past) none quiet.answers in
          let b = learnt.call.begun in let c = begun in omega (arith, a, b, c);
      lost = lost_stands;
      parted = parted (λ v b. call ∙ (learnt.parted v b).none_open);
    }

-- # By a message

module _ (script : Script) (old m : Tables) (x : Moved) (past : List Step) (s : Step) (message : Message)
    (before : Stands script old past) (same : old.host ≡ m.host) (learnt : Stands script m (half s ∷ past))
    (quiet : IsQuiet s)
    (by : ByMessage old m x past s message) where
  none_begins : (k : ℕ) (call : Call) → BeginsCall s k call → ⊥
  none_begins k call (inl e) = let p = sym by.asked ∙ e in absurd (cc)
  none_begins k call (inr a) = none_in s.answers quiet.answers a.0 a.1

  gives_now : GivesStand m.gives (s ∷ past)
  gives_now = record {
    made = λ y i. let r = learnt.gives.made y i in (r.0, r.1, half_made r.0 r.2, r.3);
    all = λ g i. learnt.gives.all g (made_half_m g i);
    one = λ g k a b. learnt.gives.one g k (made_half_m g a) (made_half_m k b);
    last = λ g i. learnt.gives.last g (made_half_m g i);
    counted = λ fs. elim (learnt.gives.counted fs) [ inl e ↦ inl e | inr r ↦ inr (r.0, half_made r.0 r.1, r.2, r.3) ];
  }
    where
      made_half_m : (g : Give) → Made (s ∷ past) g → Made (half s ∷ past) g
      made_half_m g (inl i) = absurd (none_in s.made quiet.made g i)
      made_half_m g (inr i) = inr i

      half_made : (g : Give) → Made (half s ∷ past) g → Made (s ∷ past) g
      half_made g (inl i) = elim i [ ]
      half_made g (inr i) = inr i

  other_cause : (c : Cause) → s.cause ≡ c → Came message ≡ c
  other_cause c e = sym by.cause ∙ e

  pub message_cause : CauseMay script m.host past s
  message_cause = record {
    live = before.live;
    takes = by.takes;
    takes_all = by.takes_all;
    new_gives = λ g o fresh going. by.due g (saying_of.out_first m.gives (s ∷ past) gives_now g o)
        (λ f. fresh (saying_of.first_out old.gives past before.gives g f));
    lines = record {
      next = λ n e. absurd (let p = other_cause (LineOf n) e in cc);
      free = λ n e. absurd (let p = other_cause (LineOf n) e in cc);
      begins = λ k call b. absurd (none_begins k call b);
      no_server = ((λ n e. let p = other_cause (Restart n) e in cc), λ e. let p = other_cause Flushed e in cc);
      applies_none = by.applies_none;
      after = λ e. absurd (let p = other_cause End e in cc);
      implied = λ k call e. absurd (let p = other_cause End e in cc);
    };
  }

pub message_right : MessageRight
message_right script old m x past s message before same learnt quiet by sites request numbers returns sent rest =
    quiet_right script old m x past s same before.dirty.under learnt quiet
    (moves_stay script m x past s learnt quiet sites request numbers by.asked by.call by.begun by.lost)
    (message_cause script old m x past s message before same learnt quiet by) returns sent rest

-- # Rest

dirty_same : (wrote : Option Fid) (answers : List AnswerOf) (made : List Give) (fid : Fid) (at : ℕ) (b : Bool)
    → wrote ≡ None
    → made ≡ [] → (((option_map_or (λ (file : Fid). same_fid file fid) wrote false
    && list_any (λ (a : AnswerOf). writes_byte a.call at) answers) || b)
    && not (list_any (λ (give : Give). same_fid give.fid fid && is_some (byte_of give.pieces at)) made)) ≡ b
dirty_same wrote answers made fid at b e f =
    ap (λ (q : Option Fid × List Give). ((option_map_or (λ (file : Fid). same_fid file fid) q.0 false
    && list_any (λ (a : AnswerOf). writes_byte a.call at) answers) || b)
    && not (list_any (λ (give : Give). same_fid give.fid fid && is_some (byte_of give.pieces at)) q.1))
    (λ i. (e i, f i))
    ∙ plain b
  where
    plain : (b : Bool) → ((false || b) && true) ≡ b
    plain true = refl
    plain false = refl

module _ (script : Script) (m : Tables) (past : List Step) (s : Step) (stands : Stands script m past)
    (rest : IsAtRest m past)
    (quiet : IsQuiet s) (none : s.asked ≡ None) (none_learnt : (n : AppliedGive) → Learns past s n → ⊥)
    (welcomes : (v : ServerId) → IsWelcome (s ∷ past) v → IsWelcome past v) where
  used_back : (u : Labelled) → LabelInUse (s ∷ past) u → LabelInUse past u
  used_back u (inl i) = absurd (none_in s.begun quiet.begun u i)
  used_back u (inr i) = i.0

  used_on : (u : Labelled) → LabelInUse past u → LabelInUse (s ∷ past) u
  used_on u i = inr (i, (λ e. none_in s.answers quiet.answers e.0 e.1), λ g j. absurd (none_in s.made quiet.made g j))

  kept_back : (i : TokenId) → HasKeptToken (s ∷ past) i → HasKeptToken past i
  kept_back i (inl k) = absurd (quiet.keeps i k)
  kept_back i (inr k) = k.0

  frees_back : (u : Labelled) → FreesPinned (s ∷ past) u → FreesPinned past u
  frees_back u f = ((used_back u f.0.0, λ w i e. f.0.1 w (used_on w i) e), kept_back u.token.id f.1)

  made_on : (g : Give) → Made past g → Made (s ∷ past) g
  made_on g i = inr i

  known_back : (g : Give) → IsKnown (s ∷ past) g → IsKnown past g
  known_back g (inl l) = absurd (none_learnt (number_of g) l)
  known_back g (inr k) = k

  dirty_back : (t : Token) → IsDirtyFrom m (s ∷ past) t → IsDirtyFrom m past t
  dirty_back t (inl b) = inl (
    b.0,
    (
      b.1.0,
      sym (dirty_same s.wrote s.answers s.made t.fid b.0 (is_dirty past t.fid b.0) quiet.wrote quiet.made) ∙ b.1.1,
    ),
  )
  dirty_back t (inr l) = inr l

  greeted_on : (v : ServerId) → HasGreeted past v → HasGreeted (s ∷ past) v
  greeted_on v g = (g.0, g.1, inr g.2)

  by_question : (q : Question) → HasGreeted past (stay_asked past q).server × (IsWelcome past (stay_asked past q).server
      → ⊥)
      → HasGreeted (s ∷ past) (stay_asked (s ∷ past) q).server × (IsWelcome (s ∷ past) (stay_asked (s ∷ past) q).server
      → ⊥)
  by_question (EnterAt server) g = (greeted_on server g.0, λ w. g.1 (welcomes server w))
  by_question (ChangeIn fileset) g = (greeted_on (home fileset) g.0, λ w. g.1 (welcomes (home fileset) w))
  by_question (ChangeAt server) g = (greeted_on server g.0, λ w. g.1 (welcomes server w))

  waits_on : (call : Call) → IsWaiting m past call → IsWaiting m (s ∷ past) call
  waits_on call (ForGrant f r) = ForGrant f r
  waits_on call (ForDone v c r) = ForDone v c r
  waits_on call (ForFile need lack g) = ForFile need lack (g.0, made_on g.0 g.1, g.2, λ k. g.3 (known_back g.0 k))
  waits_on call (ForGone g covered verdict made unknown) =
      ForGone g covered verdict (made_on g made) (λ k. unknown (known_back g k))
  waits_on call (ForNeed need lack greeted unwelcome) = ForNeed need lack
      (greeted_on (home need.fid.fileset) greeted) (λ w. unwelcome (welcomes (home need.fid.fileset) w))
  waits_on call (ForQuestion question fid asks greeted unwelcome) =
      let g = by_question question (greeted, unwelcome) in ForQuestion question fid asks g.0 g.1

  pub rest_on : IsAtRest m (s ∷ past)
  rest_on = record {
    stuck = rest.stuck;
    synced = λ c place fid t e is finds i at d. rest.synced c place fid t e is finds i at (dirty_back t d);
    freed = λ c u e is f. rest.freed c u e is (frees_back u f);
    waits = λ c e. waits_on c.call (rest.waits c e);
    alone = rest.alone;
  }

pub rest_stays : RestStays
rest_stays script m past s stands rest quiet none teaches =
    rest_on script m past s stands rest quiet none teaches.none_learnt teaches.welcomes

-- # At a lapse

-- what may be said again
abbrev IsAgain : Body → Type 0
IsAgain Hello = Unit {0}
IsAgain (Fetch f) = Unit {0}
IsAgain (Change c) = Unit {0}
IsAgain (GiveBack g) = Unit {0}
IsAgain (Reclaim c) = Unit {0}
IsAgain Bye = Unit {0}
IsAgain _ = ⊥

again_body : (m : Tables) (x : Moved) (past : List Step) (s : Step) (v : ServerId) (b : Body) → SaysAgain m x past s v b
    → IsAgain b
again_body m x past s v b OfHello = tt
again_body m x past s v b (OfGive g first at) = tt
again_body m x past s v b (OfFetch f e at) = tt
again_body m x past s v b (OfChange c e) = tt
again_body m x past s v b (OfClaim claim from same why) = tt
again_body m x past s v b (OfBye e) = tt

again_bye : (m : Tables) (x : Moved) (past : List Step) (s : Step) (v : ServerId) (b : Body) → SaysAgain m x past s v b
    → b ≡ Bye → (site_at m.sites v).said_bye ≡ true
again_bye m x past s v b OfHello e = absurd (cc)
again_bye m x past s v b (OfGive g first at) e = absurd (cc)
again_bye m x past s v b (OfFetch f r at) e = absurd (cc)
again_bye m x past s v b (OfChange c r) e = absurd (cc)
again_bye m x past s v b (OfClaim claim from same why) e = absurd (cc)
again_bye m x past s v b (OfBye r) e = r

again_claim : (m : Tables) (x : Moved) (past : List Step) (s : Step) (v : ServerId) (b : Body)
    → SaysAgain m x past s v b
    → (c : ReclaimOf) → b ≡ Reclaim c → LearnsRestart past s v
    ⊎ ((s.cause ≡ Lapse) × ((site_at m.sites v).claimed ≡ true))
again_claim m x past s v b OfHello c e = absurd (cc)
again_claim m x past s v b (OfGive g first at) c e = absurd (cc)
again_claim m x past s v b (OfFetch f r at) c e = absurd (cc)
again_claim m x past s v b (OfChange k r) c e = absurd (cc)
again_claim m x past s v b (OfClaim claim from same why) c e = why
again_claim m x past s v b (OfBye r) c e = absurd (cc)

pub again_new : (m : Tables) (x : Moved) (past : List Step) (s : Step) (v : ServerId) (b : Body)
    → SaysAgain m x past s v b
    → IsNoRequest b ⊎ (((f : FetchOf) × (m.request ≡ Some (AFetch f)) × (b ≡ Fetch f))
    ⊎ ((c : ChangeOf) × (m.request ≡ Some (AChange v c)) × (b ≡ Change c)))
again_new m x past s v b OfHello = inl tt
again_new m x past s v b (OfGive g first at) = inl tt
again_new m x past s v b (OfFetch f e at) = inr (inl (f, e, refl))
again_new m x past s v b (OfChange c e) = inr (inr (c, e, refl))
again_new m x past s v b (OfClaim claim from same why) = inl tt
again_new m x past s v b (OfBye e) = inl tt

module _ (script : Script) (m : Tables) (past : List Step) (sent : List Message) (rests : Rests script m past)
    (repeats : (y : Message) → In y sent → RepeatsFrom m past (lapses m.host sent) y) where
  abbrev lapse : Step
  lapse = lapses m.host sent

  abbrev x_l : Moved
  x_l = moved_of m

  stands_l : Stands script m past
  stands_l = rests.stands

  teaches_l : TeachesNothing past lapse
  teaches_l = learning_of.teaches_nothing past lapse tt

  learnt_l : Stands script m (half lapse ∷ past)
  learnt_l = learning_of.unmoved m.host Lapse past (learning_of.teaches_nothing past (half lapse) tt) script m refl
      stands_l

  why_l : (v : ServerId) (e n : ℕ) (b : Body) → Sends lapse v e n b → SaysAgain m x_l past lapse v b
  why_l v e n b p = subst (λ (q : ServerId × Body). SaysAgain m x_l past lapse q.0 q.1) (λ i. (p.2 i, p.5 i))
      (repeats p.0 p.1).why

  none_said : (v : ServerId) (e n : ℕ) (b : Body) → Sends lapse v e n b → IsAgain b
  none_said v e n b p = again_body m x_l past lapse v b (why_l v e n b p)

  quiet_l : IsQuiet lapse
  quiet_l = record {
    answers = refl;
    wrote = refl;
    begun = refl;
    made = refl;
    dropped = refl;
    keeps = λ i k. none_said k.0 k.1 k.2 (KeptBody k.3) k.4;
    no_stop = λ k. none_said k.0 k.1 k.2 Down k.3;
  }

  claims_l : (v : ServerId) → ClaimsAt lapse v → (site_at m.sites v).claimed ≡ true
  claims_l v c = elim (again_claim m x_l past lapse v (Reclaim c.2) (why_l v c.0 c.1 (Reclaim c.2) c.3) c.2 refl) [
    | inl l ↦ absurd (let r = l.1 in omega (arith, r))
    | inr l ↦ l.1
  ]

  sites_l : SitesMove m x_l past lapse
  sites_l = record {
    epoch = λ v. refl;
    welcome = λ v. refl;
    has_bye = λ v. refl;
    greeted = λ v. (
      (λ e. inl e),
      λ z. elim z [
        | inl e ↦ e
        | inr p ↦ subst (λ (w : ServerId). (site_at m.sites w).greeted ≡ true) p.2.2
            ((repeats p.2.0 p.2.1).greeted p.2.5)
      ],
    );
    said_bye = λ v. (
      (λ e. inl e),
      λ z. elim z [
        | inl e ↦ e
        | inr p ↦ again_bye m x_l past lapse v Bye (why_l v p.0 p.1 Bye p.2) refl
      ],
    );
    claimed = λ v. ((λ e. inl e), λ z. elim z [ inl e ↦ e | inr p ↦ claims_l v p ]);
    claims_apart = λ v a p c. teaches_l.none_reclaimed v a c;
    bye_again = λ v p. again_bye m x_l past lapse v Bye (why_l v p.0 p.1 Bye p.2) refl;
    bye_idle = λ v e. (learnt_l.parted v ((learnt_l.sites v).said_bye.0 e)).none_asked;
  }

  requests_l : RequestStands m.request (lapse ∷ past) × NumbersStand m.fetched m.changed (lapse ∷ past)
  requests_l = request_moves_right script m past lapse learnt_l
      (record { only = λ y i. again_new m x_l past lapse y.server y.body (repeats y i).why })

  moves_l : MovesRight m x_l past lapse
  moves_l = moves_stay script m x_l past lapse learnt_l quiet_l sites_l requests_l.0 requests_l.1 refl refl refl refl

  none_new : (g : Give) → IsOutstanding (lapse ∷ past) g → IsOutstanding past g
  none_new g o = record {
    made = elim o.made [ inl i ↦ elim i [ ] | inr i ↦ i ];
    unknown = λ k. o.unknown (inr k);
    first = λ w. o.first (
      w.0,
      inr w.1,
      w.2,
      w.3,
      λ k. w.4 (elim k [
        | inl l ↦ absurd (teaches_l.none_learnt (number_of w.0) l)
        | inr q ↦ q
      ]),
    );
  }

  cause_l : CauseMay script m.host past lapse
  cause_l = record {
    live = stands_l.live;
    takes = λ t i. elim i [ ];
    takes_all = record { all = λ w t u. absurd (teaches_l.none_used w u.0); once = λ t u i. elim i [ ] };
    new_gives = λ g o fresh. absurd (fresh (none_new g o));
    lines = record {
      next = λ n c. absurd (cc);
      free = λ n c. absurd (cc);
      begins = λ k call b. absurd (elim b [ inl e ↦ absurd (cc) | inr a ↦ elim a.1 [ ] ]);
      no_server = (λ n c. cc, λ c. cc);
      applies_none = (refl, refl, refl);
      after = λ c. absurd (cc);
      implied = λ k call c. absurd (cc);
    };
  }

  pub lapsed : StepRight script m m past lapse
  lapsed = quiet_right script m m x_l past lapse refl stands_l.dirty.under learnt_l quiet_l moves_l cause_l
      (λ t i r. none_said r.0 r.1 r.2 (Returned r.3) r.4)
      (λ stance from y i. let r = repeats y i in
      again_may script m x_l past lapse learnt_l quiet_l moves_l stance from y r.epoch r.no_moves r.why)
      (rest_stays script m past lapse stands_l rests.rest quiet_l refl teaches_l)

pub lapse_right : LapseRight
lapse_right script m past sent rests repeats = lapsed script m past sent rests repeats

-- # By a message, after which only what is outstanding is said again

module _ (script : Script) (old m : Tables) (past : List Step) (message : Message) (taken : List Token)
    (sent : List Message) (before : Stands script old past) (same : old.host ≡ m.host)
    (learnt : Stands script m (learning m.host (Came message) taken ∷ past))
    (takes : TakesRight past (hears_says m.host message taken sent))
    (repeats : (y : Message) → In y sent → RepeatsFrom m past (hears_says m.host message taken sent) y)
    (none_claimed : (y : Message) → In y sent → (c : ReclaimOf) → y.body ≡ Reclaim c → ⊥) where
  abbrev hs : Step
  hs = hears_says m.host message taken sent

  abbrev x_h : Moved
  x_h = moved_of m

  why_h : (v : ServerId) (e n : ℕ) (b : Body) → Sends hs v e n b → SaysAgain m x_h past hs v b
  why_h v e n b p = subst (λ (q : ServerId × Body). SaysAgain m x_h past hs q.0 q.1) (λ i. (p.2 i, p.5 i))
      (repeats p.0 p.1).why

  again_h : (v : ServerId) (e n : ℕ) (b : Body) → Sends hs v e n b → IsAgain b
  again_h v e n b p = again_body m x_h past hs v b (why_h v e n b p)

  quiet_h : IsQuiet hs
  quiet_h = record {
    answers = refl;
    wrote = refl;
    begun = refl;
    made = refl;
    dropped = refl;
    keeps = λ i k. again_h k.0 k.1 k.2 (KeptBody k.3) k.4;
    no_stop = λ k. again_h k.0 k.1 k.2 Down k.3;
  }

  no_claim_h : (v : ServerId) → ClaimsAt hs v → ⊥
  no_claim_h v c = none_claimed c.3.0 c.3.1 c.2 c.3.5

  sites_h : SitesMove m x_h past hs
  sites_h = record {
    epoch = λ v. refl;
    welcome = λ v. refl;
    has_bye = λ v. refl;
    greeted = λ v. (
      (λ e. inl e),
      λ z. elim z [
        | inl e ↦ e
        | inr p ↦ subst (λ (w : ServerId). (site_at m.sites w).greeted ≡ true) p.2.2
            ((repeats p.2.0 p.2.1).greeted p.2.5)
      ],
    );
    said_bye = λ v. (
      (λ e. inl e),
      λ z. elim z [
        | inl e ↦ e
        | inr p ↦ again_bye m x_h past hs v Bye (why_h v p.0 p.1 Bye p.2) refl
      ],
    );
    claimed = λ v. ((λ e. inl e), λ z. elim z [ inl e ↦ e | inr p ↦ absurd (no_claim_h v p) ]);
    claims_apart = λ v a p c. absurd (no_claim_h v p);
    bye_again = λ v p. again_bye m x_h past hs v Bye (why_h v p.0 p.1 Bye p.2) refl;
    bye_idle = λ v e. (learnt.parted v ((learnt.sites v).said_bye.0 e)).none_asked;
  }

  requests_h : RequestStands m.request (hs ∷ past) × NumbersStand m.fetched m.changed (hs ∷ past)
  requests_h = request_moves_right script m past hs learnt
      (record { only = λ y i. again_new m x_h past hs y.server y.body (repeats y i).why })

  moves_h : MovesRight m x_h past hs
  moves_h = moves_stay script m x_h past hs learnt quiet_h sites_h requests_h.0 requests_h.1 refl refl refl refl

  module _ (due : (g : Give) → IsFirst m.gives g → (IsFirst old.gives g → ⊥)
      → SendsTo hs (stay_of (hs ∷ past) g.fid.fileset) (GiveBack g)) where
    by_h : ByMessage old m x_h past hs message
    by_h = record {
      cause = refl;
      asked = refl;
      applies_none = (refl, refl, refl);
      call = refl;
      begun = refl;
      lost = refl;
      takes = takes.takes;
      takes_all = takes.takes_all;
      due = due;
    }

    pub heard : IsAtRest m (hs ∷ past) → StepRight script old m past hs
    heard rest = message_right script old m x_h past hs message before same learnt quiet_h by_h sites_h requests_h.0
        requests_h.1 (λ t i r. again_h r.0 r.1 r.2 (Returned r.3) r.4)
        (λ stance from y i. let r = repeats y i in
        again_may script m x_h past hs learnt quiet_h moves_h stance from y r.epoch r.no_moves r.why) rest

pub heard_right : HeardRight
heard_right script old m past message taken sent before same learnt takes repeats none_claimed due rest =
    heard script old m past message taken sent before same learnt takes repeats none_claimed due rest

-- # A line begins a call

module _ (script : Script) (m : Tables) (x : Moved) (past : List Step) (line : ℕ) (call : Call) (sent : List Message)
    (rests : Rests script m past) (free : IsFree m) (next : IsNextCall script m.host past line call)
    (begins : BeginsOpen m x call)
    (quiet : IsQuiet (begins_line m line call sent)) (sites : SitesMove m x past (begins_line m line call sent))
    (no_bye : (v : ServerId) → (site_at m.sites v).said_bye ≡ true → ⊥)
    (request : RequestStands x.request (begins_line m line call sent ∷ past))
    (numbers : NumbersStand x.fetched x.changed (begins_line m line call sent ∷ past)) where
  abbrev b : Step
  b = begins_line m line call sent

  abbrev c : Asked
  c = begun_call m call

  stands_b : Stands script m past
  stands_b = rests.stands

  teaches_b : TeachesNothing past b
  teaches_b = learning_of.teaches_nothing past b tt

  pub learnt_b : Stands script m (half b ∷ past)
  learnt_b = learning_of.unmoved m.host (LineOf line) past (learning_of.teaches_nothing past (half b) tt) script m refl
      stands_b

  not_open : (d : Asked) → m.call ≡ Some d → ⊥
  not_open d e = let p = sym free.none_open ∙ e in absurd (cc)

  none_open : NoneOpen past
  none_open d o = not_open d (stands_b.call.asked d o)

  no_bye_said : (v : ServerId) → HasSaid (b ∷ past) v Bye → ⊥
  no_bye_said v (e, n, inl p) = no_bye v (sites.bye_again v (e, n, p))
  no_bye_said v (e, n, inr p) = no_bye v ((stands_b.sites v).said_bye.1 (e, n, p))

  moves_b : MovesRight m x past b
  moves_b = record {
    site_epoch = sites.epoch;
    site_welcome = sites.welcome;
    site_has_bye = sites.has_bye;
    site_greeted = sites.greeted;
    site_said_bye = sites.said_bye;
    site_claimed = sites.claimed;
    claims_apart = sites.claims_apart;
    request = request;
    numbers = numbers;
    call_from = λ d e. inl (sym begins.open_is ∙ e);
    call_asked = λ d e. begins.open_is ∙ e;
    call_stays = λ d e. absurd (not_open d e);
    begun = let a = stands_b.call.begun in let k = begins.begun in omega (arith, a, k);
    lost = λ d e fid. (
      (λ i. elim (subst (In fid) begins.lost i) [ ]),
      λ h. elim h [ inl k ↦ elim k.0.1 [ ] | inr k ↦ absurd (k.1 (c.k, call, inl refl)) ],
    );
    parted = λ v said. absurd (no_bye_said v said);
  }

  none_new_b : (g : Give) → IsOutstanding (b ∷ past) g → IsOutstanding past g
  none_new_b g o = record {
    made = elim o.made [ inl i ↦ elim i [ ] | inr i ↦ i ];
    unknown = λ k. o.unknown (inr k);
    first = λ w. o.first (
      w.0,
      inr w.1,
      w.2,
      w.3,
      λ k. w.4 (elim k [
        | inl l ↦ absurd (teaches_b.none_learnt (number_of w.0) l)
        | inr q ↦ q
      ]),
    );
  }

  begins_it : BeginsCall b (suc (calls_begun past)) call
  begins_it = inl (let a = stands_b.call.begun in let e : m.begun + 1 ≡ suc (calls_begun past) = omega (arith, a) in
      ap (λ (k : ℕ). Some (record { k = k; call = call })) e)

  cause_b : CauseMay script m.host past b
  cause_b = record {
    live = stands_b.live;
    takes = λ t i. elim i [ ];
    takes_all = record { all = λ w t u. absurd (teaches_b.none_used w u.0); once = λ t u i. elim i [ ] };
    new_gives = λ g o fresh. absurd (fresh (none_new_b g o));
    lines = record {
      next = λ n e. (
        next.line,
        (next.next.0, next.next.1 ∙ (let p = e in cc)),
        subst (DoesLine (servers_of script.roster) past b) (sym next.deed) begins_it,
      );
      free = λ n e. (none_open, at_once.not_many script m past stands_b free.few);
      begins = λ k d z. inl (line, refl);
      no_server = (λ n d. cc, λ d. cc);
      applies_none = (refl, refl, refl);
      after = λ d. absurd (cc);
      implied = λ k d e. absurd (cc);
    };
  }

  pub begun_right : ((t : Token) → In t (held_of m) → ReturnsToken b t.id → ⊥) → SentMay script m past b
      → IsAtRest (with_moved m x) (b ∷ past) → StepRight script m (with_moved m x) past b
  begun_right returns may rest =
      quiet_right script m m x past b refl stands_b.dirty.under learnt_b quiet moves_b cause_b returns may rest

pub line_begins_right : LineBeginsRight
line_begins_right script m x past line call sent rests free next begins quiet sites no_bye request numbers returns may
    rest =
    begun_right script m x past line call sent rests free next begins quiet sites no_bye request numbers returns may
    rest
