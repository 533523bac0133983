-- What is due of a lapse: all that is outstanding is said again, and nothing else.
use Rattle.base_types.specs.declared.ids.FilesetId.{FilesetId}
use Rattle.base_types.specs.declared.ids.Node.TheVariants.{Host}
use Rattle.base_types.specs.declared.ids.ServerId.{ServerId}
use Rattle.host_asks.specs.Claiming.{claim_of, repeating}
use Rattle.host_gives.specs.Giving.{IsSound as IsSoundGives}
use Rattle.host_leaves.specs.Sending.{message_to}
use Rattle.host_manager.proofs.Folding.{IsRequest}
use Rattle.host_manager.proofs.Folding.IsRequest.{AskedChange, AskedFetch}
use Rattle.host_manager.proofs.Lapsing.{only_says}
use Rattle.host_manager.proofs.OnceSaid.{servers_once}
use Rattle.host_manager.proofs.Repeated.{Repeats, asks_again, claims_again, filesets_have, gives_again, greets_again}
use Rattle.host_manager.proofs.Repeated.{parts_again, repeats_once, repeats_only, site_among}
use Rattle.host_manager.proofs.Repeated.Repeats.{AsksIt, ClaimsIt, GivesIt, Greets, PartsIt}
use Rattle.host_manager.specs.Due.{OwnDue}
use Rattle.host_tables.proofs.Declared.{home_is, site_is}
use Rattle.host_tables.proofs.Lists.{not_true, true_not}
use Rattle.host_tables.proofs.Outstanding.{first_outstanding, outstanding_is}
use Rattle.host_tables.specs.Answering.{GivesForCall}
use Rattle.host_tables.specs.Drafts.{no_draft, step_of}
use Rattle.host_tables.specs.Half.{half}
use Rattle.host_tables.specs.Lapsing.{lapses}
use Rattle.host_tables.specs.Learning.{TeachesNothing}
use Rattle.host_manager.specs.Running.{IsRunning}
use Rattle.host_tables.specs.Saying.{IsFirst}
use Rattle.host_tables.specs.Stands.{Stands}
use Rattle.host_tables.specs.Tables.{held_of, site_at}
use Rattle.host_tables.specs.Updates.{home_at}
use Rattle.host_tables.specs.declared.calls.Request.{Request}
use Rattle.host_tables.specs.declared.calls.Request.TheVariants.{Change as AChange, Fetch as AFetch}
use Rattle.host_tables.specs.declared.sites.Site.{Site}
use Rattle.host_tables.specs.declared.tables.Tables.{Tables}
use Rattle.message_types.specs.declared.asking.Change.{Change as ChangeOf}
use Rattle.message_types.specs.declared.asking.Fetch.{Fetch as FetchOf}
use Rattle.message_types.specs.declared.giving.Give.{Give}
use Rattle.message_types.specs.declared.giving.Reclaim.{Reclaim as ReclaimOf}
use Rattle.message_types.specs.declared.message.Body.{Body}
use Rattle.message_types.specs.declared.message.Body.TheVariants.{Bye, Change, Done, Down, Fetch, GiveBack, Gone, Grant}
use Rattle.message_types.specs.declared.message.Body.TheVariants.{Hello, Kept, NotHere, Reclaim, Reclaimed, Restarted}
use Rattle.message_types.specs.declared.message.Body.TheVariants.{Returned, Revoke, Ship, Shipped}
use Rattle.message_types.specs.declared.message.Message.{Message}
use Rattle.run_rules.specs.HostAsks.{HasChanged, HasFetched}
use Rattle.run_rules.specs.HostDue.{HostDue, IsUnanswered}
use Rattle.run_rules.specs.HostMay.{AwaitsReclaimed, ClaimsAt}
use Rattle.run_rules.specs.Messages.{Asking, Changing, HasBye, HasGreeted, HasSaid, IsDecidedAt, IsWelcome, Sends, Stay}
use Rattle.run_rules.specs.Messages.{StaysAt, epoch_at, home}
use Rattle.run_rules.specs.Past.{In}
use Rattle.run_rules.specs.Tokens.{HasCall, Held as HeldBy, IsKnown, IsOutstanding, Made, end_of, number_of}
use Rattle.run_rules.specs.Views.{Stance}
use Rattle.run_rules.specs.declared.step.Cause.TheVariants.{Lapse}
use Rattle.run_rules.specs.declared.step.Step.{Step}
use Rattle.script_lines.specs.declared.script.Script.{Script}
use Rattle.std.proofs.Common.{Bool, List, Option, Some, [], ap, inl, inr, not, refl, subst, sym, true, ℕ}
use Rattle.std.proofs.Common.{◌&&◌, ◌∙◌, ◌∷◌, ◌≡◌, ◌⊎◌}
use Rattle.std.proofs.lemmas.Bool.{and_from, and_parts}
use Rattle.token_types.specs.declared.token.Token.{Token}
use Rattle.tree_calls.specs.declared.call.Call.{Call}
use Rattle.tree_calls.specs.declared.call.Call.TheVariants.{Sync}
use Rattle.host_tables.proofs.Learning as learning_of
use Rattle.host_tables.proofs.Standing as standing
use Rattle.host_tables.proofs.Unanswered as unanswered

module _ (script : Script) (m : Tables) (past : List Step) (running : IsRunning script m past)
    (sound : IsSoundGives m.gives) where
  abbrev sent : List Message
  sent = (repeating m no_draft).sent

  abbrev s : Step
  s = lapses m.host sent

  stands : Stands script m past
  stands = running.rests.stands

  teaches : TeachesNothing past s
  teaches = learning_of.teaches_nothing past s tt

  learnt : Stands script m (half s ∷ past)
  learnt = learning_of.unmoved m.host Lapse past (learning_of.teaches_nothing past (half s) tt) script m refl stands

  -- # The open call has nothing to give back
  open_call : (k : ℕ) (call : Call) → HasCall past s k call → m.call ≡ Some (record { k = k; call = call })
  open_call k call (inl (inl e)) = absurd (let p = e in cc)
  open_call k call (inl (inr b)) = elim b.1 [ ]
  open_call k call (inr g) = stands.call.asked (record { k = k; call = call }) g.0

  none_for_call : GivesForCall m past s
  none_for_call = record {
    syncs = λ k place fid t turn finds i at d. absurd (running.rests.rest.synced (record { k = k; call = Sync place })
        place fid t (open_call k (Sync place) turn) refl finds i at d);
    frees = λ k u turn f. absurd (running.rests.rest.freed (record { k = k; call = end_of u }) u
        (open_call k (end_of u) turn) refl f);
  }

  keeps : (t : Token) → In t (held_of m) → HeldBy (s ∷ past) t
  keeps t i = (inr (stands.cache.held t i), λ d. elim d.1 [ ])

  cached : (t : Token) → HeldBy (s ∷ past) t → In t (held_of m)
  cached t h = elim h.0 [ inl n ↦ elim n [ ] | inr i ↦ stands.cache.cached t i ]

  abbrev stance : Stance script.roster m.host past s
  stance = standing.stance script m past s learnt (held_of m) keeps cached

  -- # What is said
  known_back : (g : Give) → IsKnown (s ∷ past) g → IsKnown past g
  known_back g (inl l) = absurd (teaches.none_learnt (number_of g) l)
  known_back g (inr k) = k

  still : (g : Give) → IsOutstanding past g → IsOutstanding (s ∷ past) g
  still g o = record {
    made = inr o.made;
    unknown = λ k. o.unknown (known_back g k);
    first = λ w. elim w.1 [
      | inl n ↦ elim n [ ]
      | inr made ↦ o.first (w.0, made, w.2, w.3, λ k. w.4 (inr k))
    ];
  }

  is_first : (g : Give) → IsOutstanding past g → IsFirst m.gives g
  is_first g o = elim (stands.gives.all g o.made) [
    | inl known ↦ absurd (o.unknown known)
    | inr y ↦ record {
      message = y.0;
      within = y.1;
      body = y.2;
      least = λ other k i b fs less.
          let z = stands.gives.made other i in
          let p : GiveBack z.0 ≡ GiveBack k = sym z.1 ∙ b in
          let same : z.0 ≡ k = cc in
          o.first (
            k,
            subst (Made past) same z.2,
            fs,
            less,
            λ known. z.3 (subst (IsKnown past) (sym same) known),
          );
    }
  ]

  outstanding_so : (g : Give) → IsFirst m.gives g → IsOutstanding past g
  outstanding_so g first =
      let z = stands.gives.made first.message first.within in
      let p : GiveBack z.0 ≡ GiveBack g = sym z.1 ∙ first.body in
      let same : z.0 ≡ g = cc in record {
        made = subst (Made past) same z.2;
        unknown = λ known. z.3 (subst (IsKnown past) (sym same) known);
        first = λ w. elim (stands.gives.all w.0 w.1) [
          | inl known ↦ w.4 known
          | inr y ↦ first.least y.0 w.0 y.1 y.2 w.2 w.3
        ];
      }

  -- a message of the host goes so
  goes : (v : ServerId) (b : Body) → In (message_to m v b) sent → Sends s v (epoch_at past v) 0 b
  goes v b i = (message_to m v b, i, refl, (stands.sites v).epoch, refl, refl)

  to_site : (site : Site) (v : ServerId) (b : Body) → site.server ≡ v → In (message_to m site.server b) sent
      → Sends s v (epoch_at past v) 0 b
  to_site site v b at i = subst (λ (w : ServerId). Sends s w (epoch_at past w) 0 b) at (goes site.server b i)

  -- # All that is outstanding is said
  waits_hello : (v : ServerId) → HasGreeted past v → (IsWelcome past v → ⊥) → Sends s v (epoch_at past v) 0 Hello
  waits_hello v greeted unwelcome =
      let test : Site → Bool = λ site. site.greeted && not site.welcome in
      let there : test (site_at m.sites v) ≡ true =
      and_from (site_at m.sites v).greeted (not (site_at m.sites v).welcome) ((stands.sites v).greeted.1 greeted)
      (true_not (site_at m.sites v).welcome (λ e. unwelcome ((stands.sites v).welcome.0 e))) in
      let r = site_among test m.sites v refl there in
      to_site r.0 v Hello r.2 (greets_again m sound r.0 r.1 r.3)

  waits_bye : (v : ServerId) → HasSaid past v Bye → (HasBye past v → ⊥) → Sends s v (epoch_at past v) 0 Bye
  waits_bye v said none =
      let test : Site → Bool = λ site. site.said_bye && not site.has_bye in
      let there : test (site_at m.sites v) ≡ true =
      and_from (site_at m.sites v).said_bye (not (site_at m.sites v).has_bye) ((stands.sites v).said_bye.1 said)
      (true_not (site_at m.sites v).has_bye (λ e. none ((stands.sites v).has_bye.0 e))) in
      let r = site_among test m.sites v refl there in
      to_site r.0 v Bye r.2 (parts_again m sound r.0 r.1 r.3)

  waits_fetch : (v : ServerId) (n : ℕ) (f : FetchOf) → HasFetched past f → Asking past f.fid.fileset f.number
      → StaysAt past f.fid.fileset v n → Sends s v (epoch_at past v) n (Fetch f)
  waits_fetch v n f fetched asking stay =
      let r = stands.request.asking f.fid.fileset f.number asking in
      let own = (stands.request.fetch r.0 r.1).0 in
      let same : r.0 ≡ f = stands.request.one_fetch r.0 f own fetched r.2 r.3 in
      let asked : m.request ≡ Some (AFetch f) = r.1 ∙ ap (λ (k : FetchOf). Some (AFetch k)) same in
      let at : home_at f.fid.fileset ≡ home f.fid.fileset =
      home_is script.roster m running.tidy f.fid.fileset (running.tidy.fetch f asked).declared in
      let is : IsRequest m (message_to m (home_at f.fid.fileset) (Fetch f)) m.request =
      subst (IsRequest m (message_to m (home_at f.fid.fileset) (Fetch f))) (sym asked) (AskedFetch f refl) in
      subst (λ (z : Stay). Sends s z.server (epoch_at past z.server) z.moves (Fetch f)) stay
      (subst (λ (w : ServerId). Sends s w (epoch_at past w) 0 (Fetch f)) at
      (goes (home_at f.fid.fileset) (Fetch f) (asks_again m sound (message_to m (home_at f.fid.fileset) (Fetch f)) is)))

  -- a call is decided at one server
  decided_alike : (fs : FilesetId) (v w : ServerId) (n : ℕ) → IsDecidedAt past fs v n → IsDecidedAt past fs w 0
      → (fs.0 ≡ 0 → w ≡ v) → (w ≡ v) × (n ≡ 0)
  decided_alike fs v w n (inl z) d same = (same z.0, z.1)
  decided_alike fs v w n (inr a) (inl z) same = (same z.0, sym (ap (λ (x : Stay). x.moves) a))
  decided_alike fs v w n (inr a) (inr b) same = (
    sym (ap (λ (x : Stay). x.server) b) ∙ ap (λ (x : Stay). x.server) a,
    sym (ap (λ (x : Stay). x.moves) a),
  )

  waits_change : (v : ServerId) (n : ℕ) (c : ChangeOf) → HasChanged past v c → Changing past v c.fileset c.number
      → IsDecidedAt past c.fileset v n → Sends s v (epoch_at past v) n (Change c)
  waits_change v n c changed changing decided =
      let r = stands.request.changing v c.fileset c.number changing in
      let its = stands.request.change r.0 r.1 r.2 in
      let d = decided_alike c.fileset v r.0 n decided (subst (λ (fs : FilesetId). IsDecidedAt past fs r.0 0) r.3 its.2)
      r.5 in
      let own : HasChanged past v r.1 = subst (λ (w : ServerId). HasChanged past w r.1) d.0 its.0 in
      let same : r.1 ≡ c = stands.request.one_change v r.1 c own changed r.3 r.4 in
      let asked : m.request ≡ Some (AChange v c) = r.2 ∙ (λ i. Some (AChange (d.0 i) (same i))) in
      let is : IsRequest m (message_to m v (Change c)) m.request =
      subst (IsRequest m (message_to m v (Change c))) (sym asked) (AskedChange v c refl) in
      subst (λ (k : ℕ). Sends s v (epoch_at past v) k (Change c)) (sym d.1)
      (goes v (Change c) (asks_again m sound (message_to m v (Change c)) is))

  waits_give : (v : ServerId) (n : ℕ) (g : Give) → IsOutstanding past g → StaysAt past g.fid.fileset v n
      → Sends s v (epoch_at past v) n (GiveBack g)
  waits_give v n g o stay =
      let first = is_first g o in
      let r = first_outstanding m.gives sound g first in
      let declared = (running.tidy.gives first.message g first.within first.body).declared in
      let at : home_at g.fid.fileset ≡ home g.fid.fileset =
      home_is script.roster m running.tidy g.fid.fileset declared in
      let there = gives_again m sound g.fid.fileset r.0
      (filesets_have m.gives.gives [] first.message g first.within first.body) r.1 in
      subst (λ (z : Stay). Sends s z.server (epoch_at past z.server) z.moves (GiveBack g)) stay
      (subst (λ (w : ServerId). Sends s w (epoch_at past w) 0 (GiveBack g)) at
      (goes (home_at g.fid.fileset) (GiveBack g)
      (subst (λ (b : Body). In (message_to m (home_at g.fid.fileset) b) sent) r.2 there)))

  all_said : (v : ServerId) (n : ℕ) (b : Body) → IsUnanswered past v n b → Sends s v (epoch_at past v) n b
  all_said v n Hello u = subst (λ (k : ℕ). Sends s v (epoch_at past v) k Hello) (sym u.2) (waits_hello v u.0 u.1)
  all_said v n (Fetch f) u = waits_fetch v n f u.0 u.1 u.2
  all_said v n (Change c) u = waits_change v n c u.0 u.1 u.2
  all_said v n (GiveBack g) u = waits_give v n g u.0 u.1
  all_said v n Bye u = subst (λ (k : ℕ). Sends s v (epoch_at past v) k Bye) (sym u.2) (waits_bye v u.0 u.1)
  all_said v n (Grant g) u = absurd u
  all_said v n (Done d) u = absurd u
  all_said v n (Revoke r) u = absurd u
  all_said v n (Returned w) u = absurd u
  all_said v n (Kept w) u = absurd u
  all_said v n (Gone a) u = absurd u
  all_said v n (Reclaim c) u = absurd u
  all_said v n (Reclaimed a) u = absurd u
  all_said v n Restarted u = absurd u
  all_said v n Down u = absurd u
  all_said v n (NotHere a) u = absurd u
  all_said v n (Ship a) u = absurd u
  all_said v n (Shipped a) u = absurd u

  all_claimed : (v : ServerId) → AwaitsReclaimed past v → ClaimsAt s v
  all_claimed v waits =
      let r = site_among (λ (site : Site). site.claimed) m.sites v refl ((stands.sites v).claimed.1 waits) in (
        epoch_at past v,
        0,
        claim_of m r.0.server,
        to_site r.0 v (Reclaim (claim_of m r.0.server)) r.2
            (claims_again m sound r.0 r.1 r.3),
      )

  -- # Nothing else is said
  -- what a message says is outstanding, or a claim that waits
  abbrev IsDue : Message → Type 0
  IsDue y = IsUnanswered past y.server y.moves y.body
      ⊎ (AwaitsReclaimed past y.server × ((claim : ReclaimOf) × (y.body ≡ Reclaim claim)))

  at_site : (site : Site) → In site m.sites → site_at m.sites site.server ≡ site
  at_site site i = site_is script.roster m running.tidy site i

  said_due : (y : Message) → Repeats m y → IsDue y
  said_due y (Greets site i t e) =
      let p = and_parts site.greeted (not site.welcome) t in
      subst IsDue (sym e) (inl (
        (stands.sites site.server).greeted.0 (ap (λ (z : Site). z.greeted) (at_site site i) ∙ p.0),
        (λ w. not_true site.welcome p.1
            (sym (ap (λ (z : Site). z.welcome) (at_site site i)) ∙ (stands.sites site.server).welcome.1 w)),
        refl,
      ))
  said_due y (GivesIt fs z f e) =
      let r = outstanding_is m.gives sound fs z f in
      let declared = (running.tidy.gives r.3.message r.0 r.3.within r.3.body).declared in
      let at : home_at fs ≡ home r.0.fid.fileset =
      ap home_at (sym r.2) ∙ home_is script.roster m running.tidy r.0.fid.fileset declared in
      subst IsDue (sym e) (inl (subst (λ (b : Body). IsUnanswered past (home_at fs) 0 b) (sym r.1)
      (outstanding_so r.0 r.3, (λ i. record { server = sym at i; moves = 0 }))))
  said_due y (ClaimsIt site i t e) = subst IsDue (sym e) (inr (
    (stands.sites site.server).claimed.0 (ap (λ (z : Site). z.claimed) (at_site site i) ∙ t),
    (claim_of m site.server, refl),
  ))
  said_due y (PartsIt site i t e) =
      let p = and_parts site.said_bye (not site.has_bye) t in
      subst IsDue (sym e) (inl (
        (stands.sites site.server).said_bye.0 (ap (λ (z : Site). z.said_bye) (at_site site i) ∙ p.0),
        (λ w. not_true site.has_bye p.1
            (sym (ap (λ (z : Site). z.has_bye) (at_site site i)) ∙ (stands.sites site.server).has_bye.1 w)),
        refl,
      ))
  said_due y (AsksIt q) = by_kind m.request refl q
    where
      by_kind : (r : Option Request) → m.request ≡ r → IsRequest m y r → IsDue y
      by_kind _ asked (AskedFetch f e) =
          let its = stands.request.fetch f asked in
          let at : home_at f.fid.fileset ≡ home f.fid.fileset =
          home_is script.roster m running.tidy f.fid.fileset (running.tidy.fetch f asked).declared in
          subst IsDue (sym e) (inl (its.0, its.1, (λ i. record { server = sym at i; moves = 0 })))
      by_kind _ asked (AskedChange v c e) =
          let its = stands.request.change v c asked in
          subst IsDue (sym e) (inl (its.0, its.1, its.2))

  only_due : (v : ServerId) (e n : ℕ) (b : Body) → Sends s v e n b
      → IsUnanswered past v n b ⊎ (AwaitsReclaimed past v × ((claim : ReclaimOf) × (b ≡ Reclaim claim)))
  only_due v e n b x =
      subst (λ (q : ServerId × ℕ × Body). IsUnanswered past q.0 q.1 q.2
      ⊎ (AwaitsReclaimed past q.0 × ((claim : ReclaimOf) × (q.2 ≡ Reclaim claim)))) (λ i. (x.2 i, x.4 i, x.5 i))
      (said_due x.0 (repeats_only m sound x.0 x.1))

  bye_due : (v : ServerId) (e n : ℕ) → Sends s v e n Bye → HasBye past v → ⊥
  bye_due v e n x had = elim (only_due v e n Bye x) [
    | inl u ↦ u.1 had
    | inr c ↦ (let p = c.1.1 in absurd (cc))
  ]

  give_due : (v : ServerId) (e n : ℕ) (g : Give) → Sends s v e n (GiveBack g) → IsOutstanding (s ∷ past) g
  give_due v e n g x = elim (only_due v e n (GiveBack g) x) [
    | inl u ↦ still g u.0
    | inr c ↦ (let p = c.1.1 in absurd (cc))
  ]

  hello_due : (v : ServerId) (e n : ℕ) → Sends s v e n Hello
      → HasGreeted past v × (IsWelcome (s ∷ past) v → ⊥)
  hello_due v e n x = elim (only_due v e n Hello x) [
    | inl u ↦ (u.0, λ w. u.1 (teaches.welcomes v w))
    | inr c ↦ (let p = c.1.1 in absurd (cc))
  ]

  pub lapses_due : HostDue script m.host past s
  lapses_due = record {
    stance = stance;
    calls = record {
      syncs = unanswered.syncs script m past s learnt (held_of m) keeps cached none_for_call;
      frees = none_for_call.frees;
      greets = λ v e n x. let r = hello_due v e n x in (r.1, inl (refl, r.0));
    };
    revokes = λ r i a. absurd (let p = a.1 in cc);
    repeats = record {
      lapse_all = λ v n b c u. all_said v n b u;
      lapse_claims = λ v c w. all_claimed v w;
      lapse_only = λ v e n b c x. only_due v e n b x;
      lapse_quiet = λ c. (refl, refl, refl, refl, refl);
      restarted_gives = λ v n g l. absurd (let p = l.2.2.1 in cc);
      restarted_claims = λ v l. absurd (let p = l.2.2.1 in cc);
      reclaimed_all = λ v n answer b c. absurd (let p = c.1 in cc);
      again_only = λ v e n b x u. inl refl;
      bye_again = λ v x said had. bye_due v x.0 x.1 x.2 had;
      gives_only = give_due;
    };
    leaves = record {
      held = λ l i. elim i [ ];
      evicts = λ e. absurd (let p = e in cc);
      ends = λ e. absurd (let p = e in cc);
      ends_all = λ l e. absurd (let p = e in cc);
    };
    once = repeats_once m sound (servers_once script.roster m.sites running.tidy.servers);
    once_taken = tt;
    once_dropped = tt;
    once_made = tt;
  }

pub lapse_due : (m : Tables) → IsSoundGives m.gives → OwnDue m (step_of (Host m.host) Lapse (repeating m no_draft))
lapse_due m sound script past running =
    subst (HostDue script m.host past) (sym (ap (step_of (Host m.host) Lapse) (only_says m)))
    (lapses_due script m past running sound)
