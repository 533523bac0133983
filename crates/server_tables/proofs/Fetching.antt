-- A Fetch that is granted at once.
use Rattle.std.proofs.Common.{◌≡◌, ℕ, ◌+◌, ◌≤◌, ◌<◌, ◌⊎◌, Bool, true, false, not, nat_lt, ◌==◌, IsTrue, is_some, None}
use Rattle.std.proofs.Common.{Some, List, [], ◌∷◌, ◌++◌, length, map, inl, inr, sym, ◌∙◌, ap, subst, refl, arith}
use Rattle.std.specs.List.{find, list_any}
use Rattle.std.proofs.lemmas.Bool.{cases_Bool, eqb-true, false≢true, and_from, or_parts}
use Rattle.base_types.specs.declared.ids.Fid.{Fid}
use Rattle.base_types.specs.declared.ids.HostId.{HostId}
use Rattle.base_types.specs.declared.ids.ServerId.{ServerId}
use Rattle.base_types.specs.declared.ids.Node.TheVariants.{Server}
use Rattle.base_types.specs.declared.limits.TheConstants.{NEEDS_MAX}
use Rattle.tree_answers.specs.declared.tree.Tree.{Tree}
use Rattle.message_types.specs.declared.asking.Change.{Change as ChangeOf}
use Rattle.message_types.specs.declared.asking.Fetch.{Fetch as FetchOf}
use Rattle.message_types.specs.declared.message.Body.{Body}
use Rattle.message_types.specs.declared.message.Body.TheVariants.{Fetch, Change, Grant}
use Rattle.message_types.specs.declared.message.Message.{Message}
use Rattle.message_types.specs.declared.telling.Bring.{Bring}
use Rattle.message_types.specs.declared.telling.Grant.{Grant as GrantOf}
use Rattle.script_lines.specs.declared.script.Script.{Script}
use Rattle.token_manager.specs.declared.want.Want.{Want as WantOf}
use Rattle.token_manager.specs.Grants.{is_blocked, with_grant}
use Rattle.token_manager.specs.Managers.{can_decide, has_to_wait}
use Rattle.token_manager.specs.Wants.{first_ahead, is_ahead}
use Rattle.token_manager.proofs.Readying.{ask_makes_none_ready}
use Rattle.token_table.specs.Marks.{is_pinned, is_revoked}
use Rattle.token_table.specs.declared.notes.Note.{Note}
use Rattle.std.specs.Option.{option_map_or}
use Rattle.token_table.specs.Tables.{has_id, next_tokens, tokens_from}
use Rattle.token_types.specs.Conflicts.{any_conflict, blocks, conflict, need_of, needs_conflict, wants_conflict}
use Rattle.token_types.specs.declared.token.Need.{Need}
use Rattle.token_types.specs.declared.token.Token.{Token}
use Rattle.token_types.proofs.Symmetric.{conflict_both}
use Rattle.run_rules.specs.Doings.{BringsTokens, Doing, Granted, HasGoneAway, Here, IsLive, NoGrace, Reserved}
use Rattle.run_rules.specs.Doings.{TakenNow, TookNow, after_step, epoch}
use Rattle.run_rules.specs.Doings.Doing.{MakesWant, Reserves, Sent, Took}
use Rattle.run_rules.specs.Kept.{filesets_kept}
use Rattle.run_rules.specs.Past.{In}
use Rattle.run_rules.specs.ServerDecides.{IsNewRequest}
use Rattle.run_tokens.specs.ServerRest.{ServerMeets}
use Rattle.run_rules.specs.ServerMay.{AreNeeds, GrantsSo, IsThere, MaySend, TellsKept}
use Rattle.run_rules.specs.ServerTokens.{AskedFetch, MayBring, ServerTokens}
use Rattle.run_rules.specs.Steps.{lines_of}
use Rattle.run_rules.specs.Wants.{CanDecide, CanGrant, CannotBothWait, Decides, IsQueued, IsQueuedBefore}
use Rattle.run_rules.specs.Wants.{NoneQueued, asker, body_of}
use Rattle.run_rules.specs.declared.applied.Applied.TheVariants.{Wants as IsWanted}
use Rattle.run_rules.specs.declared.applied.Request.TheVariants.{Change as Changes, Fetch as Asks}
use Rattle.run_rules.specs.declared.applied.Request.{Request}
use Rattle.run_rules.specs.declared.applied.Wanted.{Wanted}
use Rattle.run_rules.specs.declared.step.Cause.TheVariants.{Message as Came}
use Rattle.run_rules.specs.declared.step.Step.{Step}
use Rattle.server_tables.specs.declared.tables.Tables.{Tables}
use Rattle.server_tables.specs.declared.pending.Pending.{Pending}
use Rattle.server_tables.specs.Standing.{ChangesStand, RecoveryStands, IsCalm, IsSettled, StampsStand, Stands}
use Rattle.server_tables.specs.Standing.{TokensStand, WantsStand, tokens_of, want_for}
use Rattle.server_tables.specs.Steps.{to_host}
use Rattle.server_tables.proofs.Still.{AnswersStill, HostsStill, IsStill, claims_of, dones_of, changes_still}
use Rattle.server_tables.proofs.Still.{gives_still, hosts_still, live_still, over_still, queue_still, recovery_still}
use Rattle.server_tables.proofs.Still.{stamps_still, still, tokens_still, waits_back}
use Rattle.server_tables.proofs.Idle.{no_words, idle, reserves_nothing}
use Rattle.server_tables.proofs.Resting.{NoneClaims, claims_still, ready_back, still_settled, waiting_both}
use Rattle.server_tables.proofs.Quiet.{lines_may, no_host_may, reserves_may, the_cause}
use Rattle.server_tables.proofs.Greeting.{in_front, in_parts}
use Rattle.server_tables.proofs.Settling.{both, calm_means, in_any, in_map, of_map}
use Rattle.server_tables.proofs.Granting.{IsFor, absent, are_for, one_number, same_note, stamps_sent, tokens_sent}
use Rattle.server_tables.proofs.Queueing.{changes_made, made_answers, made_hosts, made_tokens, made_waits}
use Rattle.server_tables.proofs.Queueing.{not_waiting, one_is, told_answers, told_back, told_hosts, waits_on}
use Rattle.server_tables.proofs.Queueing.{wants_left, wants_made}
use Rattle.server_tables.proofs.Asking.{IsAsked, IsTelling, answers_asked, asking, live_begun, makes_may, not_down}
use Rattle.server_tables.proofs.Asking.{not_given, settled_begun, stands_begun, took_still, only_asked}

pub found_some : {A : Type 0} (p : A → Bool) (x : A) (xs : List A) → In x xs → p x ≡ true → is_some (find p xs) ≡ true
found_some p x [] m e = elim m [ ]
found_some p x (y ∷ ys) (inl q) e = let h : p y ≡ true = sym (ap p q) ∙ e in rw h refl
found_some p x (y ∷ ys) (inr m) e = elim (cases_Bool (p y)) [
  | inl h ↦ rw h refl
  | inr h ↦ rw h (found_some p x ys m e)
]

-- the tokens that are granted for needs are of these
pub their_needs : (server : ServerId) (epoch last : ℕ) (host : HostId) (needs : List Need)
    → map need_of (tokens_from server epoch last host needs) ≡ needs
their_needs server epoch last host [] = refl
their_needs server epoch last host (need ∷ needs) = ap (λ (l : List Need). need ∷ l) (their_needs server epoch
    (last + 1) host needs)

pub same_host : (h k : HostId) → (h.0 == k.0) ≡ true → h ≡ k
same_host h k e = let q : h.0 ≡ k.0 = eqb-true h.0 k.0 e in λ i. record { 0 = q i }

pub below : (a b : ℕ) → a < b → nat_lt a b ≡ true
below a b l = grind arith

-- a new Fetch of a live host is taken, out of a grace period
pub record IsFetched (past : List Doing) (x : Tables) (m : Message) (f : FetchOf) : Type 0 where
  pub stands : Stands past x
  pub settled : IsSettled x.server past
  pub calm : IsCalm x.tokens.grants x.tokens.queue
  pub asked : IsAsked past m
  pub body : m.body ≡ Fetch f
  pub here : Here x.server past f.fid.fileset m.moves
  pub over : NoGrace past
  pub alone : NoneQueued past m.host (Asks f)
  pub few : length f.needs ≤ NEEDS_MAX
  pub of_file : (n : Need) → In n f.needs → n.fid ≡ f.fid

module _ (past : List Doing) (x : Tables) (m : Message) (f : FetchOf) (c : IsFetched past x m f) where
  abbrev want : WantOf
  want = record { number = x.next; host = m.host; needs = f.needs }

  abbrev w : Wanted
  w = record { host = m.host; request = Asks f; moves = m.moves; needs = f.needs }

  abbrev p0 : Pending
  p0 = record { number = x.next; wanted = w }

  abbrev came : Doing
  came = Took m.host m.epoch m.moves m.body

  abbrev begun : List Doing
  begun = came ∷ past

  abbrev wanted : List Doing
  wanted = MakesWant w ∷ begun

  came_is : came ≡ Took m.host (epoch past) m.moves (Fetch f)
  came_is = let p = c.asked.now in let q = c.body in cc

  pub took : TookNow begun m.host m.moves (Fetch f)
  took = inl (came_is, c.asked.live)

  pub sb : Stands begun x
  sb = stands_begun past x m c.stands c.asked

  pub zb : IsSettled x.server begun
  zb = settled_begun past x m c.stands c.asked c.settled

  pub still_came : IsStill x.server x.stamp past came
  still_came = took_still past x m c.stands c.asked

  pub over_begun : NoGrace begun
  over_begun = over_still past came still_came.hosts.calm c.over

  pub alone_begun : NoneQueued begun m.host (Asks f)
  alone_begun u waits h k = c.alone u (waits_back past came still_came.hosts.calm x.server still_came.wants u waits) h k

  live_b : IsLive begun m.host
  live_b = live_begun past x m c.stands c.asked

  pub ts_wanted : TokensStand wanted x.server x.tokens.grants
  ts_wanted = tokens_still begun (MakesWant w) (made_hosts begun w).calm x.server
      (made_tokens begun w x.server) sb.tokens

  pub ss_wanted : StampsStand wanted x.tokens.grants x.stamp
  ss_wanted = stamps_still begun (MakesWant w) (made_hosts begun w).calm x.server (made_tokens begun w x.server)
      (λ y t k. absurd (elim k [
        | inl q ↦ elim q.4 [
          | inl r ↦ (let u = r.1 in cc)
          | inr r ↦
              (let u = r.1 in cc)
        ]
        | inr q ↦ (let u = q.4 in cc)
      ])) sb.stamps

  pub ws_wanted : WantsStand wanted x.server (x.next + 1) (x.pending ++ p0 ∷ [])
  ws_wanted = wants_made begun w x.server x.next x.pending sb.wants alone_begun live_b took c.here c.few

  pub over_wanted : NoGrace wanted
  over_wanted = over_still begun (MakesWant w) (made_hosts begun w).calm over_begun

  pub live_wanted : IsLive wanted m.host
  live_wanted = live_still begun (MakesWant w) (made_hosts begun w).calm m.host live_b

  -- others that wait could be decided no more than before
  pub others_rest : (u : Wanted) → IsQueued begun u → CanDecide x.server wanted u → ⊥
  others_rest u waits r = zb.rested u waits (ready_back begun (MakesWant w) x sb (made_hosts begun w).calm
      (made_tokens begun w x.server) (waits_on begun w x.server x.next x.pending sb.wants alone_begun) u r)

  pub new_request : (s : Step) → s.cause ≡ Came m → IsNewRequest x.server past begun s m.host m.moves (Asks f)
  new_request s is = record {
    taken = ((m, is, refl, c.asked.now, refl, c.body), c.asked.live);
    here = c.here;
    fresh = λ o. o;
    alone = alone_begun;
  }

  module _ (quick : has_to_wait x.tokens want ≡ false) where
    no_wait : (is_blocked x.tokens.grants want ≡ false) × (is_some (first_ahead x.tokens.queue want) ≡ false)
    no_wait = or_parts (is_blocked x.tokens.grants want) (is_some (first_ahead x.tokens.queue want)) quick

    not_blocked : (t : Token) → Granted x.server wanted t ⊎ Reserved wanted t → blocks m.host f.needs t ≡ true → ⊥
    not_blocked t (inl g) b = false≢true (sym no_wait.0 ∙ in_any (blocks m.host f.needs) t
        (tokens_of x.tokens.grants) (ts_wanted.granted_all t g) b)
    not_blocked t (inr r) b = ts_wanted.none_reserved t r

    none_ahead : (v : WantOf) → In v x.tokens.queue → v.number < x.next
        → wants_conflict m.host f.needs v.host v.needs ≡ true → ⊥
    none_ahead v i l k = false≢true (sym no_wait.1 ∙ found_some (is_ahead want) v x.tokens.queue i (and_from
        (nat_lt v.number x.next) (wants_conflict m.host f.needs v.host v.needs) (below v.number x.next l) k))

    in_queue : (p : Pending) → In p x.pending → In (want_for p) x.tokens.queue
    in_queue p i = subst (In (want_for p)) (sym (sb.queue.calm over_begun)) (in_map want_for p x.pending i)

    pub can_grant : CanGrant x.server wanted w
    can_grant = record { over = over_wanted; free = not_blocked; first = λ b. behind b.0 b.1 b.2 }
      where
        behind : (v : Wanted) → IsQueuedBefore wanted v w → IsTrue (wants_conflict m.host f.needs (asker v) v.needs) → ⊥
        behind v b k =
            let waits : IsQueued begun v = elim b.0 [ inl q ↦ q.0 | inr q ↦ (waiting_both begun v w q).0 ] in
            let p = sb.wants.pending_all v waits in
            none_ahead (want_for p.0) (in_queue p.0 p.1) (sb.wants.below p.0 p.1) (subst
            (λ (y : Wanted). wants_conflict m.host f.needs (asker y) y.needs ≡ true) (sym p.2) k)

    abbrev new : List Token
    new = next_tokens x.tokens.grants.table m.host f.needs

    made_for : (t : Token) → In t new → IsFor x.tokens.grants.table.server x.tokens.grants.table.epoch
        x.tokens.grants.table.last m.host f.needs t
    made_for t i = are_for x.tokens.grants.table.server x.tokens.grants.table.epoch x.tokens.grants.table.last m.host
        f.needs t i

    pub are_needs : AreNeeds f.needs new
    are_needs = their_needs x.tokens.grants.table.server x.tokens.grants.table.epoch x.tokens.grants.table.last
        m.host f.needs

    abbrev brought : Bring
    brought = record { number = f.number; fid = f.fid; stamp = x.stamp + 1; tokens = new }

    pub may_bring : MayBring x.server wanted m.host m.moves brought
    may_bring = record {
      over = over_wanted;
      live = live_wanted;
      home = c.here;
      stamp = (omega arith, λ y t. let l = ss_wanted.told f.fid y t in omega (arith, l));
      host_is = λ t i. (made_for t i).host_is;
      file = λ t i. c.of_file (need_of t) (made_for t i).need;
      id = λ t i. (made_for t i).server_is ∙ ts_wanted.server_is;
      now = λ t i. (made_for t i).now_is ∙ ts_wanted.epoch_is;
      new = λ t u k i j e. let a = ts_wanted.issued u k j e in let b = (made_for t i).above in omega (arith, a, b);
      apart = λ t u i j. one_number x.tokens.grants.table.server x.tokens.grants.table.epoch
          x.tokens.grants.table.last m.host f.needs t u i j;
      free = λ t u i g k. not_blocked u g (in_way t u i k);
    }
      where
        in_way : (t u : Token) → In t new → conflict t u ≡ true → blocks m.host f.needs u ≡ true
        in_way t u i k =
            let d = both (not (u.host.0 == t.host.0)) (needs_conflict (need_of u) (need_of t)) (conflict_both u t
            ∙ k) in
            and_from (not (u.host.0 == m.host.0)) (any_conflict (need_of u) f.needs) (subst (λ (y : HostId). not
            (u.host.0 == y.0) ≡ true) (made_for t i).host_is d.0)
            (in_any (λ other. needs_conflict (need_of u) other) (need_of t) f.needs (made_for t i).need d.1)

    abbrev y : Tables
    y = record x {
      tokens = record x.tokens {
        grants = with_grant x.tokens.grants want;
        asked = x.tokens.asked + 1;
        latest =
            Some x.next;
      };
      stamp = x.stamp + 1;
      next = x.next + 1;
    }

    -- nothing that is queued can be decided by it, or is in the way of its tokens
    pub calm_after : IsCalm y.tokens.grants y.tokens.queue
    calm_after = record { none_ready = none; asked_back = asked }
      where
        none : (v : WantOf) → In v x.tokens.queue → can_decide (with_grant x.tokens.grants want) x.tokens.queue v
            ≡ false
        none v i = elim (cases_Bool (can_decide (with_grant x.tokens.grants want) x.tokens.queue v)) [
          | inl h ↦ absurd (false≢true (sym (c.calm.none_ready v i) ∙ ask_makes_none_ready x.tokens want v h))
          | inr h ↦ h
        ]

        gone : HasGoneAway begun m.host → ⊥
        gone = live_b.1

        asked : (v : WantOf) (t : Token) → In v x.tokens.queue → In t (tokens_of x.tokens.grants ++ new)
            → blocks v.host v.needs t ≡ true → is_pinned (with_grant x.tokens.grants want).notes t.id ≡ false
            → is_revoked (with_grant x.tokens.grants want).notes t.id ≡ true
        asked v t i j b p = elim (in_parts t (tokens_of x.tokens.grants) new j) [
          | inl k ↦ (let same = same_note x.tokens.grants.notes new m.host want t.id (old_absent t k) in
              ap (λ o. option_map_or (λ (note : Note). note.revoked) o false) same
              ∙ c.calm.asked_back v t i k b (sym (ap (λ o. option_map_or (λ (note : Note). note.pinned) o false)
              same) ∙ p))
          | inr k ↦ absurd (none_ahead v i (number_below v i) (in_way k))
        ]
          where
            old_absent : (u : Token) → In u (tokens_of x.tokens.grants) → has_id new u.id ≡ false
            old_absent u k = absent wanted x.server x.tokens.grants want 0 0 (Grant g0) brought refl (inl (
              g0,
              refl,
              refl,
            )) one (λ r q. cc) ts_wanted live_wanted u k
              where
                g0 : GrantOf
                g0 = record { bring = brought; status = None; pieces = []; entries = [] }

                its : (h : HostId) (e n : ℕ) (d : GrantOf) → Sent m.host 0 0 (Grant g0) ≡ Sent h e n (Grant d) → g0 ≡ d
                its h e n d q = cc

                one : (h : HostId) (e n : ℕ) (d : Bring) → BringsTokens (Sent m.host 0 0 (Grant g0)) h e n d → d
                    ≡ brought
                one h e n d (inl q) = sym q.2 ∙ ap (λ (z : GrantOf). z.bring) (sym (its h e n q.0 q.1))
                one h e n d (inr q) = absurd (let r = q.1 in cc)

            number_below : (u : WantOf) → In u x.tokens.queue → u.number < x.next
            number_below u k = let q = of_map want_for u x.pending (subst (In u) (sb.queue.calm over_begun) k) in
                subst (λ (z : WantOf). z.number < x.next) q.2 (sb.wants.below q.0 q.1)

            in_way : In t new → wants_conflict m.host f.needs v.host v.needs ≡ true
            in_way k =
                let d = both (not (t.host.0 == v.host.0)) (any_conflict (need_of t) v.needs) b in
                and_from (not (m.host.0 == v.host.0)) (list_any (λ need. any_conflict need v.needs) f.needs) (subst
                (λ (z : HostId). not (z.0 == v.host.0) ≡ true) (made_for t k).host_is d.0)
                (in_any (λ need. any_conflict need v.needs) (need_of t) f.needs (made_for t k).need d.1)

    -- the Grant `g` that is sent, of an object that is there, tells what is kept
    module _ (g : GrantOf) (bring_is : g.bring ≡ brought) where
      abbrev answer : Message
      answer = to_host x.server m.host x.hosts.epoch m.moves (Grant g)

      abbrev step : Step
      step = asking x.server m (IsWanted w ∷ []) (answer ∷ [])

      abbrev sent : Doing
      sent = Sent m.host x.hosts.epoch m.moves (Grant g)

      abbrev told : List Doing
      told = sent ∷ wanted

      its_grant : (h : HostId) (e n : ℕ) (d : GrantOf) → sent ≡ Sent h e n (Grant d) → g ≡ d
      its_grant h e n d p = cc

      one_bring : (h : HostId) (e n : ℕ) (d : Bring) → BringsTokens sent h e n d → d ≡ g.bring
      one_bring h e n d (inl q) = sym q.2 ∙ ap (λ (z : GrantOf). z.bring) (sym (its_grant h e n q.0 q.1))
      one_bring h e n d (inr q) = absurd (let r = q.1 in cc)

      waits_w : IsQueued wanted w
      waits_w = inl refl

      number_is : g.bring.number ≡ f.number
      number_is = ap (λ (z : Bring). z.number) bring_is

      fid_is : g.bring.fid ≡ f.fid
      fid_is = ap (λ (z : Bring). z.fid) bring_is

      does : Decides sent m.host (Asks f)
      does = (x.hosts.epoch, m.moves, g, refl, ap (λ (z : Fid). z.fileset) fid_is, number_is)

      decides_it : (h : HostId) (r : Request) → Decides sent h r → (h ≡ m.host) × CannotBothWait (Asks f) r
      decides_it h (Asks d) k = let e = its_grant h k.0 k.1 k.2 k.3 in (
        (let p = k.3 in cc),
        (
          sym (ap (λ (z : Fid). z.fileset) fid_is) ∙
              (ap (λ (z : GrantOf). z.bring.fid.fileset) e ∙ k.4),
          sym number_is ∙ (ap (λ (z : GrantOf). z.bring.number) e ∙ k.5),
        ),
      )
      decides_it h (Changes d) (inl k) = absurd (let p = k.1 in cc)
      decides_it h (Changes d) (inr k) = absurd (let p = k.3 in cc)

      hosts_told : HostsStill wanted sent
      hosts_told = told_hosts wanted x.server (x.next + 1) (x.pending ++ p0 ∷ []) ws_wanted w waits_w x.hosts.epoch
          m.moves (Grant g) sb.hosts.epoch_is does decides_it

      answers_told : AnswersStill x.server wanted sent
      answers_told = told_answers wanted x.server (x.next + 1) (x.pending ++ p0 ∷ []) ws_wanted w waits_w
          x.hosts.epoch m.moves (Grant g) sb.hosts.epoch_is does decides_it (λ d p. cc)

      back_told : (u : Wanted) → IsQueued told u → IsQueued wanted u
      back_told = told_back wanted x.server (x.next + 1) (x.pending ++ p0 ∷ []) ws_wanted w waits_w x.hosts.epoch
          m.moves (Grant g) sb.hosts.epoch_is does decides_it

      tokens_are : g.bring.tokens ≡ new
      tokens_are = ap (λ (z : Bring). z.tokens) bring_is

      sw : (fx : Tables) → ChangesStand begun fx.changes → ChangesStand wanted fx.changes
      sw fx z = changes_made begun w x.server x.next x.pending sb.wants alone_begun z (λ d is. absurd (cc))
          (λ d e n o is. absurd (cc))

      stands_told : Stands told y
      stands_told = record {
        slots = sb.slots;
        hosts = hosts_still wanted sent hosts_told (hosts_still begun (MakesWant w) (made_hosts begun w) sb.hosts);
        tokens = tokens_sent wanted x.server x.tokens.grants want x.hosts.epoch m.moves (Grant g) g.bring tokens_are
            (inl (g, refl, refl)) one_bring (λ r p. cc) ts_wanted live_wanted;
        stamps = stamps_sent wanted x.server x.tokens.grants want x.hosts.epoch m.moves (Grant g) g.bring tokens_are
            (inl (g, refl, refl)) one_bring (λ r p. cc) ts_wanted live_wanted
            x.stamp (x.stamp + 1) (let l : g.bring.stamp ≡ x.stamp + 1 = ap (λ (z : Bring). z.stamp) bring_is in
            omega (arith, l)) (omega arith) ss_wanted;
        wants = wants_left wanted x.server (x.next + 1) (x.pending ++ p0 ∷ []) ws_wanted w waits_w x.hosts.epoch
            m.moves (Grant g) sb.hosts.epoch_is does decides_it x.pending of all;
        queue = queue_still wanted sent hosts_told.calm (record {
          calm = λ o. sb.queue.calm over_begun;
          grace =
              λ o. absurd (o over_wanted);
        });
        gives = gives_still wanted sent hosts_told.calm x.server (claims_of x.server wanted sent answers_told)
            (gives_still begun (MakesWant w) (made_hosts begun w).calm x.server (claims_of x.server begun
            (MakesWant w) (made_answers begun w x.server)) sb.gives);
        changes = changes_still wanted sent hosts_told.calm (dones_of x.server wanted sent answers_told) back_told
            (sw x sb.changes);
        recovery = recovered;
      }
        where
          of : (p : Pending) → In p x.pending → In p (x.pending ++ p0 ∷ []) × (p.wanted ≡ w → ⊥)
          of p i = (
            in_front p x.pending (p0 ∷ []) i,
            λ e. not_waiting begun w x.server x.next x.pending sb.wants alone_begun (subst (IsQueued begun) e
                (sb.wants.pending p i)),
          )

          all : (p : Pending) → In p (x.pending ++ p0 ∷ []) → (p.wanted ≡ w → ⊥) → In p x.pending
          all p i other = elim (in_parts p x.pending (p0 ∷ []) i) [
            | inl k ↦ k
            | inr k ↦
                absurd (other (ap (λ (z : Pending). z.wanted) (one_is p p0 k)))
          ]

          recovered : RecoveryStands told x.server x.recovering.claims x.recovering.taken x.recovering.given_up
          recovered = recovery_still wanted sent hosts_told.calm x.server
              (claims_of x.server wanted sent answers_told) (λ h i n. elim n [
                | inl p ↦
                    (let q = p.1.2.0 in cc)
                | inr p ↦ (let q = p.1.2.0 in cc)
              ])
              (recovery_still begun (MakesWant w) (made_hosts begun w).calm x.server (claims_of x.server begun
              (MakesWant w) (made_answers begun w x.server)) (made_tokens begun w x.server).names sb.recovery)

      claims_told : NoneClaims x.server told
      claims_told = claims_still x.server wanted sent hosts_told.calm (claims_of x.server wanted sent answers_told)
          (claims_still x.server begun (MakesWant w) (made_hosts begun w).calm (claims_of x.server begun
          (MakesWant w) (made_answers begun w x.server)) zb.claims)

      settled_told : IsSettled x.server told
      settled_told = calm_means told y stands_told calm_after claims_told

      kept_still : IsStill x.server y.stamp told (Reserves [])
      kept_still = idle x.server y.stamp told (Reserves []) reserves_nothing (no_words told)

      pub stands_granted : Stands (after_step step past) y
      stands_granted = still told (Reserves []) y kept_still stands_told

      pub settled_granted : IsSettled x.server (after_step step past)
      settled_granted = still_settled told (Reserves []) y stands_told kept_still settled_told

      tells_grant : (n : Message) → In n (answer ∷ []) → IsTelling n.body
      tells_grant n i = subst (λ (z : Message). IsTelling z.body) (sym (one_is n answer i)) tt

      is_fetch : (h : HostId) (n : ℕ) (b : Body) → TakenNow past step h n b → (m.host ≡ h) × (m.moves ≡ n) × (Fetch f
          ≡ b)
      is_fetch h n b t = let e = the_cause m t.0.0 t.0.1 in (
        ap (λ (z : Message). z.host) e ∙ t.0.2,
        ap (λ (z : Message). z.moves) e ∙ t.0.4,
        sym c.body ∙ (ap (λ (z : Message). z.body) e ∙ t.0.5),
      )

      its_request : (r : Request) → Fetch f ≡ body_of r → Asks f ≡ r
      its_request (Changes d) e = absurd (cc)
      its_request (Asks d) e = let p : f ≡ d = cc in ap (λ (z : FetchOf). Asks z) p

      no_change : (u : Wanted) (d : ChangeOf) → IsQueued wanted u → u.request ≡ Changes d → IsQueued begun u
      no_change u d waits is = elim (made_waits begun w u waits) [
        | inl e ↦ absurd (let q : Asks f ≡ Changes d =
            ap (λ (z : Wanted). z.request) (sym e) ∙ is in cc)
        | inr k ↦ k
      ]

      tokens_may : ServerTokens x.server wanted sent
      tokens_may = record {
        epochs = λ h e n b p. (let q : x.hosts.epoch ≡ e = cc in sym q) ∙ sb.hosts.epoch_is;
        grants = λ h e n d p. let q = its_grant h e n d p in let k : m.host ≡ h = cc in let j : m.moves ≡ n = cc in
            subst (λ (z : HostId × ℕ × GrantOf). MayBring x.server wanted z.0 z.1 z.2.bring
            × AskedFetch wanted z.0 z.1 z.2) (λ i. (k i, j i, q i)) asked_for;
        dones = λ h e n d p. absurd (cc);
        revokes = λ h e n r i p. absurd (cc);
        revokes_here = λ h e n r p. absurd (cc);
        stamps = λ h e n z r p. absurd (cc);
        gones = λ h e n k p. absurd (cc);
        reclaimed = λ h e n r k p. absurd (cc);
        left_out = λ h e n r i p. absurd (cc);
        admits = λ h ts p. absurd (cc);
        writes = λ v p. absurd (cc);
        writes_once = λ v p. absurd (cc);
        reserves = λ ts t u p. absurd (cc);
      }
        where
          asked_for : MayBring x.server wanted m.host m.moves g.bring × AskedFetch wanted m.host m.moves g
          asked_for = (
            subst (MayBring x.server wanted m.host m.moves) (sym bring_is) may_bring,
            (f, inr (took, λ b. let q = b.1 in cc), sym number_is, sym fid_is),
          )

      module _ (tree : Tree) (there : IsThere tree g) (tells : TellsKept tree g) where
        grants_so : GrantsSo x.server tree wanted m.host m.moves g
        grants_so = record {
          w = w;
          waits = waits_w;
          fetch = f;
          request = refl;
          host = refl;
          moves = refl;
          number = number_is;
          fid = fid_is;
          free = can_grant;
          brings = inl (there, subst (AreNeeds f.needs) (sym tokens_are) are_needs);
          tells = tells;
        }

        may_send : MaySend x.server tree step wanted sent
        may_send = record {
          grant_for = λ h e n d p. let q = its_grant h e n d p in let k : m.host ≡ h = cc in let j : m.moves ≡ n = cc in
              subst (λ (z : HostId × ℕ × GrantOf). GrantsSo x.server tree wanted z.0 z.1 z.2) (λ i. (
                k i,
                j i,
                q i,
              )) grants_so;
          done_for = λ h e n d p. absurd (cc);
          revoke_for = λ h e n r i p. absurd (cc);
        }

      pub meets_granted : (script : Script) (start : Tree) (steps : List Step) → IsThere
          (filesets_kept start x.server steps) g
          → TellsKept (filesets_kept start x.server steps) g → ServerMeets script start x.server steps past step
      meets_granted script start steps there tells = record {
        may = record {
          tokens = record {
            writes = (makes_may x.server begun w, tt);
            admits = tt;
            sends =
                (tokens_may, tt);
            reserves = reserves_may x.server told;
          };
          no_host = no_host_may (step) m refl (refl, refl, refl, refl, refl, refl, refl);
          answers = only_asked past x m c.stands c.asked c.settled (IsWanted w ∷ []) (answer ∷ []) tells_grant;
          works = record {
            applies = record {
              given = λ h d k. absurd (not_given past x m c.stands c.asked c.settled (IsWanted w ∷ [])
                  (answer ∷ []) tells_grant h d k);
              down = λ h k. absurd (not_down past x m c.stands c.asked c.settled (IsWanted w ∷ [])
                  (answer ∷ []) tells_grant h k);
              else_none = λ a b. refl;
              decided = refl;
              reserves = λ t i. elim i [ ];
            };
            decides = ((refl, inl (new_request step refl)), tt);
            sends = (may_send (filesets_kept start x.server steps) there tells, tt);
          };
        };
        due = record {
          lines = lines_may (lines_of script (Server x.server)) steps (step) m refl;
          answers = answers_asked past x m c.stands c.asked c.settled (IsWanted w ∷ []) (answer ∷ []) tells_grant;
          decided = record {
            news = λ h n r k. let t = is_fetch h n (body_of r) k.taken in (w, inl refl, t.0, its_request r t.2);
            refused = λ u d refusal waits is so k. elim k [
              | inl r ↦ others_rest u (no_change u d waits is) r
              | inr q ↦ (let t = is_fetch u.host u.moves (body_of u.request) q.1.taken in
                  let e : Asks f ≡ Changes d = its_request u.request t.2 ∙ is in cc)
            ];
            effects = λ u d waits is effect accepted r. others_rest u (no_change u d waits is) r;
            pinned = λ u d waits is row accepted r. others_rest u (no_change u d waits is) (inr r);
          };
          sent = record {
            once = (λ i. elim i [ ], tt);
            revokes_once = λ h r q i told. absurd (elim told.1 [
              | inl p ↦
                  (let n = ap (λ (z : Message). z.body) (sym p) ∙ told.3 in cc)
              | inr p ↦ elim p [ ]
            ]);
            dones_only = λ h o told. absurd (elim told.1 [
              | inl p ↦
                  (let n = ap (λ (z : Message). z.body) (sym p) ∙ told.3 in cc)
              | inr p ↦ elim p [ ]
            ]);
            written = λ v i. elim i [ inl p ↦ absurd (cc) | inr p ↦ elim p [ ] ];
            repeats = λ h n d o k. absurd (let t = is_fetch h n (Change d) k in let p = t.2 in cc);
            grants = λ u d waits is k. settled_granted.rested u waits (inl k);
            uses = λ u d waits is uses accepted k. settled_granted.rested u waits (inl k);
            others = λ u d waits is uses accepted row r. settled_granted.rested u waits r;
            enters = λ u d waits is enter accepted k. settled_granted.rested u waits (inl k);
            revokes = settled_granted.asked;
            revokes_again = λ t p. absurd (cc);
          };
        };
      }
