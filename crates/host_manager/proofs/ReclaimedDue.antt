-- What is due of a Reclaimed of the present epoch after which nothing is made of the open call: none is open, or a
-- request is outstanding.
use Rattle.base_types.specs.declared.ids.FilesetId.{FilesetId}
use Rattle.base_types.specs.declared.ids.ServerId.{ServerId}
use Rattle.host_gives.specs.Giving.{IsSound as IsSoundGives}
use Rattle.host_leaves.specs.Sending.{asked_server, message_to, saying, sending_request}
use Rattle.host_manager.proofs.Folding.{IsRequest, asking_says, saying_keeps, saying_says}
use Rattle.host_manager.proofs.Folding.IsRequest.{AskedChange, AskedFetch}
use Rattle.host_manager.proofs.Forgotten.{none_forgotten}
use Rattle.host_manager.proofs.ForgottenDue.{AreDue, all_due, none_due}
use Rattle.host_manager.proofs.Heard.{comes_so}
use Rattle.host_manager.proofs.HeardDue.{IsAsked, IsHeardDue, heard_due, heard_step}
use Rattle.host_manager.proofs.OnceSaid.{once_more}
use Rattle.host_manager.proofs.Repeated.{sort_of}
use Rattle.host_manager.proofs.TurnDue.{IsTurnDue}
use Rattle.host_manager.specs.Running.{IsRunning}
use Rattle.host_manager.specs.Taking.{is_asked_at}
use Rattle.host_tables.proofs.Declared.{home_is}
use Rattle.host_tables.proofs.Lists.{by_test, in_right, none_in, true_false}
use Rattle.host_tables.specs.Drafts.{no_draft}
use Rattle.host_tables.specs.Stands.{IsAtRest, Stands}
use Rattle.host_tables.specs.Tables.{site_at}
use Rattle.host_tables.specs.Updates.{home_at}
use Rattle.host_tables.specs.declared.calls.Request.{Request}
use Rattle.host_tables.specs.declared.calls.Request.TheVariants.{Change as AChange, Fetch as AFetch}
use Rattle.host_tables.specs.declared.draft.Draft.{Draft}
use Rattle.host_tables.specs.declared.sites.Site.{Site}
use Rattle.host_tables.specs.declared.tables.Tables.{Tables}
use Rattle.message_types.specs.Soundness.{IsSound}
use Rattle.message_types.specs.declared.asking.Change.{Change as ChangeOf}
use Rattle.message_types.specs.declared.asking.Fetch.{Fetch as FetchOf}
use Rattle.message_types.specs.declared.giving.Reclaimed.{Reclaimed as ReclaimedOf}
use Rattle.message_types.specs.declared.message.Body.{Body}
use Rattle.message_types.specs.declared.message.Body.TheVariants.{Bye, Change, Done, Down, Fetch, GiveBack, Gone, Grant}
use Rattle.message_types.specs.declared.message.Body.TheVariants.{Hello, Kept, NotHere, Reclaim, Reclaimed, Restarted}
use Rattle.message_types.specs.declared.message.Body.TheVariants.{Returned, Revoke, Ship, Shipped}
use Rattle.message_types.specs.declared.message.Direction.TheVariants.{ToHost}
use Rattle.message_types.specs.declared.message.Message.{Message}
use Rattle.run_rules.specs.HostAsks.{HasChanged, HasFetched}
use Rattle.run_rules.specs.HostDue.{HostDue, IsNoGiveBack, IsUnanswered}
use Rattle.run_rules.specs.Messages.{Asking, Changing, Comes, ComesIn, HasBye, HasGreeted, HasSaid, IsDecidedAt}
use Rattle.run_rules.specs.Messages.{IsWelcome, Stay, epoch_at}
use Rattle.run_rules.specs.Messages.{StaysAt, home}
use Rattle.run_rules.specs.Past.{EachOnce, In}
use Rattle.run_rules.specs.declared.step.Asked.{Asked}
use Rattle.run_rules.specs.declared.step.Cause.TheVariants.{Message as Came}
use Rattle.run_rules.specs.declared.step.Step.{Step}
use Rattle.script_lines.specs.declared.script.Script.{Script}
use Rattle.std.proofs.Common.{Bool, List, None, Option, Some, [], ap, eq-eqb, eqb-true, false, if◌then◌else◌, inl, inr}
use Rattle.std.proofs.Common.{not, refl, subst, sym, true, ℕ, ◌&&◌, ◌++◌, ◌==◌, ◌∙◌, ◌∷◌, ◌≡◌}
use Rattle.std.proofs.lemmas.Bool.{and_from, and_parts}
use Rattle.host_manager.proofs.ReclaimedOn as taught
use Rattle.host_tables.proofs.Saying as saying_of

-- where something is asked again it is a request for that server
asked_there : (r : Option Request) (v : ServerId) → is_asked_at v r ≡ true
    → (w : ServerId) × (asked_server r ≡ Some w) × (w ≡ v)
asked_there None v e = absurd (cc)
asked_there (Some (AFetch f)) v e =
    let n = eqb-true (home_at f.fid.fileset).0 v.0 e in (home_at f.fid.fileset, refl, (λ i. record { 0 = n i }))
asked_there (Some (AChange w c)) v e = let n = eqb-true w.0 v.0 e in (w, refl, (λ i. record { 0 = n i }))

request_server : (m : Tables) (y : Message) (r : Option Request) (w : ServerId) → IsRequest m y r
    → asked_server r ≡ Some w → y.server ≡ w
request_server m y _ w (AskedFetch f q) e =
    let p : home_at f.fid.fileset ≡ w = cc in ap (λ (z : Message). z.server) q ∙ p
request_server m y _ w (AskedChange v c q) e = let p : v ≡ w = cc in ap (λ (z : Message). z.server) q ∙ p

request_sort : (m : Tables) (y : Message) (r : Option Request) → IsRequest m y r → sort_of y.body ≡ 3
request_sort m y _ (AskedFetch f q) = ap (λ (z : Message). sort_of z.body) q
request_sort m y _ (AskedChange v c q) = ap (λ (z : Message). sort_of z.body) q

request_once : (m : Tables) (r : Option Request) (e : Draft) → e.sent ≡ [] → EachOnce (sending_request m r e).sent
request_once m None e none = subst EachOnce (sym none) tt
request_once m (Some (AFetch f)) e none =
    subst (λ (l : List Message). EachOnce (l ++ message_to m (home_at f.fid.fileset) (Fetch f) ∷ [])) (sym none)
    ((λ i. i), tt)
request_once m (Some (AChange v c)) e none =
    subst (λ (l : List Message). EachOnce (l ++ message_to m v (Change c) ∷ [])) (sym none) ((λ i. i), tt)

module _ (script : Script) (m : Tables) (past : List Step) (message : Message) (running : IsRunning script m past)
    (sound : IsSound script.roster message) (host_is : message.host ≡ m.host) (way : message.direction ≡ ToHost)
    (a : ReclaimedOf) (b : message.body ≡ Reclaimed a) (gives : IsSoundGives m.gives)
    (present : (message.epoch == (site_at m.sites message.server).epoch) ≡ true) where
  stands : Stands script m past
  stands = running.rests.stands

  abbrev v : ServerId
  v = message.server

  abbrev site : Site
  site = site_at m.sites v

  abbrev x : Tables
  x = taught.x_2 script m past message running sound host_is way a b gives present

  abbrev x_1 : Tables
  x_1 = taught.x_1 script m past message running sound host_is way a b gives present

  abbrev x_p : Tables
  x_p = taught.x_p script m past message running sound host_is way a b gives present

  abbrev e : Draft
  e = taught.e_p script m past message running sound host_is way a b gives present

  abbrev d_a : Draft
  d_a = taught.d_a script m past message running sound host_is way a b gives present

  abbrev d_b : Draft
  d_b = taught.d_b script m past message running sound host_is way a b gives present

  abbrev asked : Bool
  asked = is_asked_at site.server x_1.request

  abbrev bye : Bool
  bye = site.said_bye && not site.has_bye

  abbrev d : Draft
  d = record no_draft { sent = d_b.sent; due = e.due }

  at : site.server ≡ v
  at = taught.at_p script m past message running sound host_is way a b gives present

  none_sent : e.sent ≡ []
  none_sent = ap (λ (z : Draft). z.sent)
      (taught.it_p script m past message running sound host_is way a b gives present).draft

  request_is : x_1.request ≡ m.request
  request_is = ap (λ (z : Tables). z.request)
      (taught.it_p script m past message running sound host_is way a b gives present).tables

  dues : AreDue m x_p e
  dues = all_due script m past stands no_draft a.applied [] m no_draft (none_forgotten m no_draft gives)
      (none_due m no_draft refl)

  -- # What was said
  abbrev IsSaid : Message → Type 0
  IsSaid y = IsAsked y.body × (y.server ≡ v) × (y.body ≡ Bye → bye ≡ true)

  said_a : (y : Message) → In y d_a.sent → IsSaid y × (sort_of y.body ≡ 3)
  said_a y i = by_asked asked refl i
    where
      by_asked : (t : Bool) → asked ≡ t → In y (if t then sending_request x_1 x_1.request e else e).sent
          → IsSaid y × (sort_of y.body ≡ 3)
      by_asked false q j = absurd (none_in e.sent none_sent y j)
      by_asked true q j = elim (asking_says x_1 x_1.request e y j) [
        | inl k ↦ absurd (none_in e.sent none_sent y k)
        | inr r ↦
            let w = asked_there x_1.request site.server q in
            let sort = request_sort x_1 y x_1.request r in (
              (
                inl sort,
                request_server x_1 y x_1.request w.0 r w.1 ∙ (w.2 ∙ at),
                λ p. absurd (let k = sym (ap sort_of p) ∙ sort in cc),
              ),
              sort,
            )
      ]

  said_b : (y : Message) → In y d_b.sent → IsSaid y
  said_b y i = by_bye bye refl i
    where
      by_bye : (t : Bool) → bye ≡ t → In y (if t then saying x_1 site.server Bye d_a else d_a).sent → IsSaid y
      by_bye false q j = (said_a y j).0
      by_bye true q j = elim (saying_says x_1 site.server Bye d_a y j) [
        | inl k ↦ (said_a y k).0
        | inr r ↦ (
          inr (ap (λ (z : Message). sort_of z.body) r),
          ap (λ (z : Message). z.server) r ∙ at,
          λ p. q,
        )
      ]

  once_a : EachOnce d_a.sent
  once_a = by_asked asked
    where
      by_asked : (t : Bool) → EachOnce (if t then sending_request x_1 x_1.request e else e).sent
      by_asked true = request_once x_1 x_1.request e none_sent
      by_asked false = subst EachOnce (sym none_sent) tt

  once_b : EachOnce d_b.sent
  once_b = by_bye bye
    where
      by_bye : (t : Bool) → EachOnce (if t then saying x_1 site.server Bye d_a else d_a).sent
      by_bye true = once_more d_a.sent (message_to x_1 site.server Bye) once_a
          (λ i. let k = (said_a (message_to x_1 site.server Bye) i).1 in absurd (cc))
      by_bye false = once_a

  -- # It comes
  comes : Comes past (heard_step x message d) v (Reclaimed a)
  comes = (
    message,
    refl,
    refl,
    sym (taught.epoch_is script m past message running sound host_is way a b gives present)
        ∙ (stands.sites v).epoch,
    taught.none_moved script m past message running sound host_is way a b gives,
    b,
  )

  comes_is : (c : Body) (w : ServerId) (k l : ℕ) → ComesIn (heard_step x message d) w k l c → Reclaimed a ≡ c
  comes_is c w k l z = comes_so m.host message past (Reclaimed a) b host_is way w k l c (z.0, z.1, z.2, z.3, z.4, z.5)

  from_v : (c : Body) (w : ServerId) (k l : ℕ) → ComesIn (heard_step x message d) w k l c → v ≡ w
  from_v c w k l z = let p : message ≡ z.0 = cc in ap (λ (y : Message). y.server) p ∙ z.2

  -- # All that is outstanding at the server was said
  abbrev WasSaid : ℕ → Body → Type 0
  WasSaid n c = (y : Message) × In y d_b.sent × (y.server ≡ v) × (y.moves ≡ n) × (y.body ≡ c)

  in_b : (y : Message) → In y d_a.sent → In y d_b.sent
  in_b y i = by_bye bye
    where
      by_bye : (t : Bool) → In y (if t then saying x_1 site.server Bye d_a else d_a).sent
      by_bye true = saying_keeps x_1 site.server Bye d_a y i
      by_bye false = i

  asks_it : (r : Request) (y : Message) → m.request ≡ Some r → is_asked_at site.server (Some r) ≡ true
      → In y (sending_request x_1 (Some r) e).sent → In y d_b.sent
  asks_it r y q t i =
      let req : x_1.request ≡ Some r = request_is ∙ q in
      let so : asked ≡ true = ap (is_asked_at site.server) req ∙ t in
      in_b y (subst (λ (t : Bool). In y (if t then sending_request x_1 x_1.request e else e).sent) (sym so)
      (subst (λ (o : Option Request). In y (sending_request x_1 o e).sent) (sym req) i))

  said_fetch : (n : ℕ) (f : FetchOf) → HasFetched past f → Asking past f.fid.fileset f.number
      → StaysAt past f.fid.fileset v n → WasSaid n (Fetch f)
  said_fetch n f fetched asking stay =
      let r = stands.request.asking f.fid.fileset f.number asking in
      let own = (stands.request.fetch r.0 r.1).0 in
      let same : r.0 ≡ f = stands.request.one_fetch r.0 f own fetched r.2 r.3 in
      let asks : m.request ≡ Some (AFetch f) = r.1 ∙ ap (λ (k : FetchOf). Some (AFetch k)) same in
      let home_same : home_at f.fid.fileset ≡ home f.fid.fileset =
      home_is script.roster m running.tidy f.fid.fileset (running.tidy.fetch f asks).declared in
      let there : home_at f.fid.fileset ≡ v = home_same ∙ ap (λ (z : Stay). z.server) stay in
      let y : Message = message_to x_1 (home_at f.fid.fileset) (Fetch f) in (
        y,
        asks_it (AFetch f) y asks
            (eq-eqb (home_at f.fid.fileset).0 site.server.0 (ap (λ (w : ServerId). w.0) (there ∙ sym at)))
            (in_right e.sent (y ∷ []) y (inl refl)),
        there,
        ap (λ (z : Stay). z.moves) stay,
        refl,
      )

  -- a call is decided at one server
  decided_alike : (fs : FilesetId) (w : ServerId) (n : ℕ) → IsDecidedAt past fs v n → IsDecidedAt past fs w 0
      → (fs.0 ≡ 0 → w ≡ v) → (w ≡ v) × (n ≡ 0)
  decided_alike fs w n (inl z) d same = (same z.0, z.1)
  decided_alike fs w n (inr s) (inl z) same = (same z.0, sym (ap (λ (k : Stay). k.moves) s))
  decided_alike fs w n (inr s) (inr t) same = (
    sym (ap (λ (k : Stay). k.server) t) ∙ ap (λ (k : Stay). k.server) s,
    sym (ap (λ (k : Stay). k.moves) s),
  )

  said_change : (n : ℕ) (c : ChangeOf) → HasChanged past v c → Changing past v c.fileset c.number
      → IsDecidedAt past c.fileset v n → WasSaid n (Change c)
  said_change n c changed changing decided =
      let r = stands.request.changing v c.fileset c.number changing in
      let its = stands.request.change r.0 r.1 r.2 in
      let k = decided_alike c.fileset r.0 n decided (subst (λ (fs : FilesetId). IsDecidedAt past fs r.0 0) r.3 its.2)
      r.5 in
      let own : HasChanged past v r.1 = subst (λ (w : ServerId). HasChanged past w r.1) k.0 its.0 in
      let same : r.1 ≡ c = stands.request.one_change v r.1 c own changed r.3 r.4 in
      let asks : m.request ≡ Some (AChange v c) = r.2 ∙ (λ i. Some (AChange (k.0 i) (same i))) in
      let y : Message = message_to x_1 v (Change c) in (
        y,
        asks_it (AChange v c) y asks (eq-eqb v.0 site.server.0 (ap (λ (w : ServerId). w.0) (sym at)))
            (in_right e.sent (y ∷ []) y (inl refl)),
        refl,
        sym k.1,
        refl,
      )

  said_bye : (n : ℕ) → HasSaid past v Bye → (HasBye past v → ⊥) → n ≡ 0 → WasSaid n Bye
  said_bye n said none zero_is =
      let was = (stands.sites v).said_bye.1 said in
      let not_yet : site.has_bye ≡ false = elim (by_test site.has_bye) [
        | inl t ↦ absurd (none ((stands.sites v).has_bye.0 t))
        | inr f ↦ f
      ] in
      let so : bye ≡ true = and_from site.said_bye (not site.has_bye) was (ap not not_yet) in
      let y : Message = message_to x_1 site.server Bye in (
        y,
        subst (λ (t : Bool). In y (if t then saying x_1 site.server Bye d_a else d_a).sent) (sym so)
            (in_right d_a.sent (y ∷ []) y (inl refl)),
        at,
        sym zero_is,
        refl,
      )

  welcome_now : HasGreeted past v → IsWelcome (heard_step x message d ∷ past) v
  welcome_now greeted = inl (
    greeted,
    (
      a,
      (
        message,
        refl,
        refl,
        sym (taught.epoch_is script m past message running sound host_is way a b gives present)
            ∙ (sym (ap (λ (z : Site). z.epoch) (taught.changes script m past message running sound host_is way a b gives
            (taught.one_p script m past message running sound host_is way a b gives present)
            (taught.first_p script m past message running sound host_is way a b gives present) m.floors (λ f i. i) refl
            at).here)
            ∙ ((taught.learnt_p script m past message running sound host_is way a b gives present).sites v).epoch),
        taught.none_moved script m past message running sound host_is way a b gives,
        b,
      ),
    ),
  )

  all_said : (n : ℕ) (c : Body) → IsNoGiveBack c → IsUnanswered past v n c
      → IsUnanswered (heard_step x message d ∷ past) v n c → WasSaid n c
  all_said n Hello plain u still = absurd (still.1 (welcome_now u.0))
  all_said n (Fetch f) plain u still = said_fetch n f u.0 u.1 u.2
  all_said n (Change c) plain u still = said_change n c u.0 u.1 u.2
  all_said n (GiveBack g) plain u still = elim plain [ ]
  all_said n Bye plain u still = said_bye n u.0 u.1 u.2
  all_said n (Grant g) plain u still = absurd u
  all_said n (Done c) plain u still = absurd u
  all_said n (Revoke r) plain u still = absurd u
  all_said n (Returned w) plain u still = absurd u
  all_said n (Kept w) plain u still = absurd u
  all_said n (Gone k) plain u still = absurd u
  all_said n (Reclaim c) plain u still = absurd u
  all_said n (Reclaimed c) plain u still = absurd u
  all_said n Restarted plain u still = absurd u
  all_said n Down plain u still = absurd u
  all_said n (NotHere k) plain u still = absurd u
  all_said n (Ship k) plain u still = absurd u
  all_said n (Shipped k) plain u still = absurd u

  no_bye : (y : Message) → In y d_b.sent → y.body ≡ Bye → HasBye past y.server → ⊥
  no_bye y i q had =
      let r = said_b y i in
      let has : site.has_bye ≡ true = (stands.sites v).has_bye.1 (subst (HasBye past) r.1 had) in
      true_false (not site.has_bye) (and_parts site.said_bye (not site.has_bye) (r.2 q)).1 (ap not has)

  pub reclaimed_is_due : IsAtRest x past → IsHeardDue x past message d
  reclaimed_is_due rest = record {
    rest = rest;
    no_restart = λ w l. absurd (let p = comes_is Restarted _ _ _ l.2.2 in cc);
    no_revoke = λ r z. absurd (let p = comes_is (Revoke r) _ _ _ z in cc);
    once_taken = tt;
    once_sent = once_b;
    once_due = dues.once;
    plain = λ y i. (said_b y i).0;
    fresh = λ fs i g first same o. dues.fresh fs i g first same (saying_of.out_first m.gives past stands.gives g o);
    again = λ y i. (
      a,
      subst (λ (w : ServerId). Comes past (heard_step x message d) w (Reclaimed a)) (sym (said_b y i).1) comes,
    );
    bye = no_bye;
    reclaims = λ w n c k z plain u still.
        let q : v ≡ w = from_v (Reclaimed c) w _ _ z in
        let r = all_said n k plain (subst (λ (w : ServerId). IsUnanswered past w n k) (sym q) u)
        (subst (λ (w : ServerId). IsUnanswered (heard_step x message d ∷ past) w n k) (sym q) still) in
        (r.0, r.1, r.2 ∙ q, r.3, r.4);
  }

  -- a Hello of the server was answered by it
  hello_heard : (s : Step) → s.cause ≡ Came message → HasGreeted past v → IsWelcome (s ∷ past) v
  hello_heard s is greeted = subst (λ (z : Step). IsWelcome (z ∷ past) v) (λ i. record s { cause = (sym is) i })
      (inl (
        greeted,
        (
          a,
          (
            message,
            refl,
            refl,
            now,
            taught.none_moved script m past message running sound host_is way a b gives,
            b,
          ),
        ),
      ))
    where
      now : message.epoch ≡ epoch_at (heard_step x message d ∷ past) v
      now = sym (taught.epoch_is script m past message running sound host_is way a b gives present)
          ∙ (sym (ap (λ (z : Site). z.epoch) (taught.changes script m past message running sound host_is way a b gives
          (taught.one_p script m past message running sound host_is way a b gives present)
          (taught.first_p script m past message running sound host_is way a b gives present) m.floors (λ f i. i) refl
          at).here)
          ∙ ((taught.learnt_p script m past message running sound host_is way a b gives present).sites v).epoch)

  still_none : (c : Asked) → m.call ≡ Some c → m.request ≡ None → (s : Step) → s.cause ≡ Came message → (n : ℕ)
      (k : Body) → IsNoGiveBack k → IsUnanswered past v n k → IsUnanswered (s ∷ past) v n k → ⊥
  still_none c open_is idle s is n Hello plain u still = still.1 (hello_heard s is u.0)
  still_none c open_is idle s is n (Fetch f) plain u still =
      let r = stands.request.asking f.fid.fileset f.number u.1 in let p = sym idle ∙ r.1 in absurd (cc)
  still_none c open_is idle s is n (Change f) plain u still =
      let r = stands.request.changing v f.fileset f.number u.1 in let p = sym idle ∙ r.2 in absurd (cc)
  still_none c open_is idle s is n (GiveBack g) plain u still = elim plain [ ]
  still_none c open_is idle s is n Bye plain u still = let p = sym (stands.parted v u.0).none_open ∙ open_is in
      absurd (cc)
  still_none c open_is idle s is n (Grant g) plain u still = u
  still_none c open_is idle s is n (Done f) plain u still = u
  still_none c open_is idle s is n (Revoke r) plain u still = u
  still_none c open_is idle s is n (Returned f) plain u still = u
  still_none c open_is idle s is n (Kept f) plain u still = u
  still_none c open_is idle s is n (Gone f) plain u still = u
  still_none c open_is idle s is n (Reclaim f) plain u still = u
  still_none c open_is idle s is n (Reclaimed f) plain u still = u
  still_none c open_is idle s is n Restarted plain u still = u
  still_none c open_is idle s is n Down plain u still = u
  still_none c open_is idle s is n (NotHere f) plain u still = u
  still_none c open_is idle s is n (Ship f) plain u still = u
  still_none c open_is idle s is n (Shipped f) plain u still = u

  pub reclaimed_turn : (c : Asked) → m.call ≡ Some c → m.request ≡ None
      → IsTurnDue x past (Came message) [] e.due false
  reclaimed_turn c open_is idle = record {
    no_lapse = λ q. cc;
    no_evict = λ q. cc;
    ends_first = λ q. absurd (cc);
    no_restart = λ w l. absurd (let p = comes_is Restarted _ _ _ (
      l.2.2.0,
      l.2.2.1,
      l.2.2.2,
      l.2.2.3,
      l.2.2.4,
      l.2.2.5,
    ) in cc);
    no_revoke = λ r z. absurd (let p = comes_is (Revoke r) _ _ _ (z.0, z.1, z.2, z.3, z.4, z.5) in cc);
    reclaimed = λ s is w n f k z plain u still.
        let p : Came message ≡ Came z.0 = sym is ∙ z.1 in
        let q : message ≡ z.0 = cc in
        let there : v ≡ w = ap (λ (y : Message). y.server) q ∙ z.2 in
        still_none c open_is idle s is n k plain (subst (λ (y : ServerId). IsUnanswered past y n k) (sym there) u)
        (subst (λ (y : ServerId). IsUnanswered (s ∷ past) y n k) (sym there) still);
    fresh = λ g first i o. dues.fresh g.fid.fileset i g first refl
        (saying_of.out_first m.gives past stands.gives g o);
    once_came = tt;
    once_dues = dues.once;
  }

  pub reclaimed_due : IsAtRest x past → HostDue script m.host past (heard_step x message d)
  reclaimed_due rest = heard_due script m x past message d
      (taught.heard_p script m past message running sound host_is way a b gives present) (reclaimed_is_due rest)

-- # The first one of a server, which tells its epoch
module _ (script : Script) (m : Tables) (past : List Step) (message : Message) (running : IsRunning script m past)
    (sound : IsSound script.roster message) (host_is : message.host ≡ m.host) (way : message.direction ≡ ToHost)
    (a : ReclaimedOf) (b : message.body ≡ Reclaimed a) (gives : IsSoundGives m.gives)
    (unknown : (site_at m.sites message.server).epoch ≡ 0)
    (other : (message.epoch == (site_at m.sites message.server).epoch) ≡ false) where
  abbrev x_f : Tables
  x_f = record m {
    sites = taught.sites_f script m past message running sound host_is way a b gives unknown other;
    floors = taught.floors_f script m past message running sound host_is way a b gives unknown other;
  }

  comes_f : (c : Body) (w : ServerId) (k l : ℕ) → ComesIn (heard_step x_f message no_draft) w k l c → Reclaimed a ≡ c
  comes_f c w k l z = comes_so m.host message past (Reclaimed a) b host_is way w k l c (z.0, z.1, z.2, z.3, z.4, z.5)

  not_present : (c : Body) (w : ServerId) → Comes past (heard_step x_f message no_draft) w c → ⊥
  not_present c w z =
      let p : message ≡ z.0 = cc in
      let q : message.server ≡ w = ap (λ (y : Message). y.server) p ∙ z.2 in
      let e : message.epoch ≡ (site_at m.sites message.server).epoch =
      ap (λ (y : Message). y.epoch) p
      ∙ (z.3 ∙ (sym (running.rests.stands.sites w).epoch ∙ ap (λ (u : ServerId). (site_at m.sites u).epoch) (sym q))) in
      true_false (message.epoch == (site_at m.sites message.server).epoch)
      (eq-eqb message.epoch (site_at m.sites message.server).epoch e) other

  pub first_is_due : IsAtRest x_f past → IsHeardDue x_f past message no_draft
  first_is_due rest = record {
    rest = rest;
    no_restart = λ w l. absurd (let p = comes_f Restarted _ _ _ l.2.2 in cc);
    no_revoke = λ r z. absurd (let p = comes_f (Revoke r) _ _ _ z in cc);
    once_taken = tt;
    once_sent = tt;
    once_due = tt;
    plain = λ y i. elim i [ ];
    fresh = λ fs i. elim i [ ];
    again = λ y i. elim i [ ];
    bye = λ y i. elim i [ ];
    reclaims = λ w n c k z plain u still. absurd (not_present (Reclaimed c) w z);
  }

  pub first_turn : IsTurnDue x_f past (Came message) [] [] false
  first_turn = record {
    no_lapse = λ q. cc;
    no_evict = λ q. cc;
    ends_first = λ q. absurd (cc);
    no_restart = λ w l. absurd (let p = comes_f Restarted _ _ _ (
      l.2.2.0,
      l.2.2.1,
      l.2.2.2,
      l.2.2.3,
      l.2.2.4,
      l.2.2.5,
    ) in cc);
    no_revoke = λ r z. absurd (let p = comes_f (Revoke r) _ _ _ (z.0, z.1, z.2, z.3, z.4, z.5) in cc);
    reclaimed = λ s is w n f k z plain u still. not_present (Reclaimed f) w
        (z.0, sym is ∙ z.1, z.2, z.3, z.4, z.5);
    fresh = λ g first i o. elim i [ ];
    once_came = tt;
    once_dues = tt;
  }

  pub first_due : IsAtRest x_f past → HostDue script m.host past (heard_step x_f message no_draft)
  first_due rest = heard_due script m x_f past message no_draft
      (taught.heard_f script m past message running sound host_is way a b gives unknown other) (first_is_due rest)
