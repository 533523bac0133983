-- Tables from which only sound messages are said stay such through each update.
use Rattle.std.proofs.Common.{◌≡◌, ◌∙◌, ◌+◌, ◌++◌, ◌==◌, Bool, true, false, not, List, [], ◌∷◌, Option, Some, None, ℕ}
use Rattle.std.proofs.Common.{if◌then◌else◌, arith, inr, refl, subst, sym}
use Rattle.std.specs.List.{filter}
use Rattle.std.proofs.lemmas.Bool.{lt-ltb}
use Rattle.base_types.specs.declared.ids.HostId.{HostId}
use Rattle.base_types.specs.declared.ids.ServerId.{ServerId}
use Rattle.tree_calls.specs.declared.roster.Roster.{Roster}
use Rattle.token_types.specs.Conflicts.{same_id}
use Rattle.token_types.specs.declared.token.Token.{Token}
use Rattle.token_types.specs.declared.token.TokenId.{TokenId}
use Rattle.token_table.specs.Places.{comes_before, placed}
use Rattle.token_table.specs.Tables.{has_id, next_tokens}
use Rattle.token_manager.specs.Grants.{can_keep, holds, no_grants, pinned_in_the_way, with_claimed, with_claims}
use Rattle.token_manager.specs.Managers.{Manager, after_down, after_enqueue, after_kept, after_returned}
use Rattle.token_manager.specs.Managers.{decide_answer, grants_after, grants_decided, grants_forgotten, grants_kept}
use Rattle.token_manager.specs.Managers.{grants_returned, is_later, ready_at, ready_of}
use Rattle.token_manager.specs.Managers.{after_decide}
use Rattle.token_manager.specs.declared.grants.Grants.{Grants}
use Rattle.token_manager.specs.declared.want.Ready.TheVariants.{Granted as GrantedLater}
use Rattle.token_manager.specs.declared.want.Want.{Want}
use Rattle.message_types.specs.Soundness.{Each, Goes, HasMoves, IsBody, IsSound}
use Rattle.message_types.specs.declared.message.Body.{Body}
use Rattle.message_types.specs.declared.message.Body.TheVariants.{Bye, Done, Reclaim, Reclaimed, Restarted}
use Rattle.message_types.specs.declared.message.Direction.TheVariants.{ToHost}
use Rattle.message_types.specs.declared.message.Message.{Message}
use Rattle.message_types.specs.declared.telling.Done.{Done as DoneOf}
use Rattle.run_rules.specs.ServerDue.{empty_reclaimed}
use Rattle.run_rules.specs.declared.applied.Wanted.{Wanted}
use Rattle.run_rules.specs.declared.applied.Written.{Written}
use Rattle.server_tables.specs.Answers.{not_for_change, renewed}
use Rattle.server_tables.specs.Greetings.{welcoming}
use Rattle.server_tables.specs.Listing.{has_host, leaving, no_grace}
use Rattle.server_tables.specs.Sound.{AreSaid, AreSound, CanBeAsked, CanHear, IsSaid, to_server}
use Rattle.server_tables.specs.Standing.{tokens_of, want_for}
use Rattle.server_tables.specs.Starts.{starting}
use Rattle.server_tables.specs.Steps.{to_host}
use Rattle.server_tables.specs.Updates.{all_enqueued, begun, enqueued, gone_away, left_by, opened, reclaimed_by}
use Rattle.server_tables.specs.Updates.{stamped, tokens_enqueued, tokens_left, tokens_opened, unqueued, without_its}
use Rattle.server_tables.specs.Updates.{without_one}
use Rattle.server_tables.specs.declared.hosts.Hosts.{Hosts}
use Rattle.server_tables.specs.declared.pending.Pending.{Pending}
use Rattle.server_tables.specs.declared.recovering.Answered.{Answered}
use Rattle.server_tables.specs.declared.recovering.Claimed.{Claimed}
use Rattle.server_tables.specs.declared.tables.LastChange.{LastChange}
use Rattle.server_tables.specs.declared.tables.Tables.{Tables}
use Rattle.server_tables.proofs.Eaches.{each_end, each_filter, each_joined}

-- # Messages to hosts

module _ (server : ServerId) (roster : Roster) (host : HostId) (e : ℕ) where
  pub word_sound : CanHear server roster host → (b : Body) → Goes b ToHost → HasMoves b 0
      → IsBody roster (to_host server host e 0 b) b → IsSound roster (to_host server host e 0 b)
  word_sound c b way moves body = record {
    host = c.declared;
    server = c.own;
    way = way;
    apart = λ q. absurd (cc);
    moves = moves;
    body = body;
  }

  pub restarted_sound : CanHear server roster host → IsSound roster (to_host server host e 0 Restarted)
  restarted_sound c = word_sound c Restarted refl refl tt

  pub bye_sound : CanHear server roster host → IsSound roster (to_host server host e 0 Bye)
  bye_sound c = word_sound c Bye (inr refl) refl tt

  pub welcome_sound : CanHear server roster host
      → IsSound roster (to_host server host e 0 (Reclaimed empty_reclaimed))
  welcome_sound c = word_sound c (Reclaimed empty_reclaimed) refl refl tt

  pub heard_by : (b : Body) → IsSound roster (to_host server host e 0 b) → CanHear server roster host
  heard_by b s = record { declared = s.host; own = s.server }

  pub heard_from : (b : Body) → IsSound roster (to_server server host e b) → CanHear server roster host
  heard_from b s = record { declared = s.host; own = s.server }

  pub is_said : (b : Body) → IsSound roster (to_host server host e 0 b)
      → IsSaid server roster (to_host server host e 0 b)
  is_said b s = record { from = (refl, refl); sound = s }

  pub said_end : (sent : List Message) → AreSaid server roster sent → (b : Body)
      → IsSound roster (to_host server host e 0 b) → AreSaid server roster (sent ++ to_host server host e 0 b ∷ [])
  said_end sent a b s = each_end (IsSaid server roster) sent (to_host server host e 0 b) a (is_said b s)

-- # Grants

module _ (P : Token → Type 0) where
  -- granted tokens of which it holds, in this epoch
  pub record GrantsSo (e : ℕ) (g : Grants) : Type 0 where
    pub epoch : g.table.epoch ≡ e
    pub tokens : Each P (tokens_of g)

  -- of some it holds still
  less : (e : ℕ) (g h : Grants) (p : Token → Bool) → GrantsSo e g → h.table.epoch ≡ g.table.epoch
      → tokens_of h ≡ filter p (tokens_of g) → GrantsSo e h
  less e g h p s q r =
      record { epoch = q ∙ s.epoch; tokens = subst (Each P) (sym r) (each_filter P p (tokens_of g) s.tokens) }

  grants_if : (e : ℕ) (b : Bool) (g h : Grants) → GrantsSo e g → GrantsSo e h → GrantsSo e (if b then g else h)
  grants_if e true g h s t = s
  grants_if e false g h s t = t

  pub returned_so : (e : ℕ) (m : Manager) (h : HostId) (id : TokenId) → GrantsSo e m.grants
      → GrantsSo e (after_returned m h id).grants
  unfolding grants_returned
  returned_so e m h id s = grants_if e (holds m.grants h id) _ m.grants
      (less e m.grants _ (λ t. not (same_id t.id id)) s refl refl) s

  pub kept_so : (e : ℕ) (m : Manager) (h : HostId) (id : TokenId) → GrantsSo e m.grants
      → GrantsSo e (after_kept m h id).grants
  unfolding grants_kept
  kept_so e m h id s =
      grants_if e (can_keep m.grants h id) _ m.grants (record { epoch = s.epoch; tokens = s.tokens }) s

  each_placed : (server : ServerId) (e : ℕ) (t : Token) (ts : List Token) → P t → Each P ts
      → Each P (placed server e t ts)
  each_placed server e t [] p s = (p, tt)
  each_placed server e t (x ∷ xs) p s = by (each_placed server e t xs p s.1) (comes_before server e x t)
    where
      by : Each P (placed server e t xs) → (b : Bool)
          → Each P (if b then x ∷ placed server e t xs else t ∷ x ∷ xs)
      by rest true = (s.0, rest)
      by rest false = (p, s)

  pub claims_so : (e : ℕ) (g : Grants) (ts : List Token) → GrantsSo e g → Each P ts → GrantsSo e (with_claims g ts)
  claims_so e g [] s a = s
  claims_so e g (t ∷ ts) s a =
      claims_so e (with_claimed g t) ts
      (grants_if e (has_id g.table.tokens t.id) g _ s (record {
        epoch = s.epoch;
        tokens = each_placed g.table.server g.table.epoch t g.table.tokens a.0 s.tokens;
      })) a.1

  -- what is decided: of the tokens that are granted it has to hold
  after_so : (e : ℕ) (g : Grants) (o : Option Want) → GrantsSo e g
      → ((n : ℕ) (ts : List Token) → ready_of g o ≡ Some (GrantedLater n ts) → Each P ts)
      → GrantsSo e (grants_after g o)
  after_so e g None s f = s
  after_so e g (Some w) s f = by (pinned_in_the_way g w) refl
    where
      by : (p : Option Token) → pinned_in_the_way g w ≡ p → GrantsSo e (grants_after g (Some w))
      by (Some t) q = rw q s
      by None q = rw q (record {
        epoch = s.epoch;
        tokens = each_joined P (tokens_of g) (next_tokens g.table w.host w.needs) s.tokens
            (f w.number (next_tokens g.table w.host w.needs) (rw q refl));
      })

  pub decided_so : (e : ℕ) (m : Manager) (number : ℕ) → GrantsSo e m.grants
      → ((n : ℕ) (ts : List Token) → decide_answer m number ≡ Some (GrantedLater n ts) → Each P ts)
      → GrantsSo e (after_decide m number).grants
  unfolding decide_answer grants_decided
  decided_so e m number s f = after_so e m.grants (ready_at m number) s f

same_if : (b : Bool) (m n : Manager) (g : Grants) → m.grants ≡ g → n.grants ≡ g → (if b then m else n).grants ≡ g
same_if true m n g p q = p
same_if false m n g p q = q

pub enqueued_grants : (x : Tables) (p : Pending) → (tokens_enqueued x p).grants ≡ x.tokens.grants
unfolding tokens_enqueued
enqueued_grants x p =
    same_if (no_grace x.hosts) (after_enqueue x.tokens (want_for p)) x.tokens x.tokens.grants refl refl

all_grants : (m : Manager) (ps : List Pending) → (all_enqueued m ps).grants ≡ m.grants
all_grants m [] = refl
all_grants m (p ∷ ps) = all_grants (after_enqueue m (want_for p)) ps

pub opened_grants : (over : Bool) (x : Tables) → (tokens_opened over x).grants ≡ x.tokens.grants
unfolding tokens_opened
opened_grants true x = refl
opened_grants false x = by (no_grace x.hosts)
  where
    by : (b : Bool) → (if not b then x.tokens else all_enqueued x.tokens x.pending).grants ≡ x.tokens.grants
    by true = all_grants x.tokens x.pending
    by false = refl

one_grants : (m : Manager) (h : HostId) (p : Pending) → (without_one m h p).grants ≡ m.grants
unfolding without_one
one_grants m h p = same_if (p.wanted.host.0 == h.0) _ m m.grants refl refl

its_grants : (m : Manager) (h : HostId) (ps : List Pending) → (without_its m h ps).grants ≡ m.grants
its_grants m h [] = refl
its_grants m h (p ∷ ps) = its_grants (without_one m h p) h ps ∙ one_grants m h p

left_hosts : (x : Hosts) (h : HostId) → (leaving x h).listed ≡ x.listed × ((leaving x h).epoch ≡ x.epoch)
unfolding leaving
left_hosts x h = by (has_host x.away h)
  where
    by : (b : Bool) → ((if b then x else record x { away = x.away ++ h ∷ [] }).listed ≡ x.listed)
        × ((if b then x else record x { away = x.away ++ h ∷ [] }).epoch ≡ x.epoch)
    by true = (refl, refl)
    by false = (refl, refl)

-- # Tables

-- the tokens of sound tables
abbrev pub GrantsOf : Tables → Grants → Type 0
GrantsOf x g = GrantsSo (CanBeAsked x.server x.roster) x.hosts.epoch g

module _ (x : Tables) (s : AreSound x) where
  pub grants_sound : GrantsOf x x.tokens.grants
  grants_sound = record { epoch = s.epoch; tokens = s.tokens }

  -- other tokens, of which it holds
  pub with_grants : (m : Manager) (ps : List Pending) (next stamp : ℕ) → GrantsOf x m.grants
      → AreSound (record x { tokens = m; pending = ps; next = next; stamp = stamp })
  with_grants m ps next stamp g = record {
    epoch = g.epoch;
    listed = s.listed;
    tokens = g.tokens;
    changes = s.changes;
    claims = s.claims;
    answers = s.answers;
  }

  -- the same tokens
  with_same : (m : Manager) (ps : List Pending) (next stamp : ℕ) → m.grants ≡ x.tokens.grants
      → AreSound (record x { tokens = m; pending = ps; next = next; stamp = stamp })
  with_same m ps next stamp q = with_grants m ps next stamp (subst (GrantsOf x) (sym q) grants_sound)

  pub unqueued_sound : (at number : ℕ) → AreSound (unqueued x at number)
  unqueued_sound at number = with_same (unqueued x at number).tokens (unqueued x at number).pending x.next x.stamp refl

  pub stamped_sound : AreSound (stamped x)
  stamped_sound = with_same x.tokens x.pending x.next (x.stamp + 1) refl

  pub enqueued_sound : (w : Wanted) → AreSound (enqueued x w)
  enqueued_sound w = with_same (enqueued x w).tokens (enqueued x w).pending (x.next + 1) x.stamp
      (enqueued_grants x (record { number = x.next; wanted = w }))

  pub opened_sound : (over : Bool) → AreSound (opened over x)
  opened_sound over = with_same (tokens_opened over x) x.pending x.next x.stamp (opened_grants over x)

  pub decided_sound : (number : ℕ)
      → ((n : ℕ) (ts : List Token) → decide_answer x.tokens number ≡ Some (GrantedLater n ts)
      → Each (CanBeAsked x.server x.roster) ts) → AreSound (record x { tokens = after_decide x.tokens number })
  decided_sound number f = with_grants (after_decide x.tokens number) x.pending x.next x.stamp
      (decided_so (CanBeAsked x.server x.roster) x.hosts.epoch x.tokens number grants_sound f)

  -- what was answered to a Change is noted
  pub renewed_sound : (h : HostId) (done : DoneOf) (written : Option Written)
      → IsSound x.roster (to_host x.server h x.hosts.epoch 0 (Done done))
      → AreSound (record x { changes = renewed x h done written })
  renewed_sound h done written said = record {
    epoch = s.epoch;
    listed = s.listed;
    tokens = s.tokens;
    changes = each_end (λ (c : LastChange). IsSound x.roster (to_host x.server c.host c.epoch 0 (Done c.done)))
        (filter (not_for_change h done.fileset) x.changes) _
        (each_filter _ (not_for_change h done.fileset) x.changes s.changes) said;
    claims = s.claims;
    answers = s.answers;
  }

  pub welcoming_sound : (h : HostId) → CanHear x.server x.roster h → AreSound (welcoming x h)
  welcoming_sound h c = record {
    epoch = s.epoch;
    listed = each_end (CanHear x.server x.roster) x.hosts.listed h s.listed c;
    tokens = s.tokens;
    changes = s.changes;
    claims = s.claims;
    answers = each_end (λ (a : Answered).
        IsSound x.roster (to_host x.server a.host x.hosts.epoch 0 (Reclaimed a.answer))) x.recovering.answers
        (record { host = h; answer = empty_reclaimed }) s.answers (welcome_sound x.server x.roster h x.hosts.epoch c);
  }

  -- a host goes away, or has reclaimed
  left_sound : (h : HostId) → AreSound (left_by x h)
  left_sound h = record {
    epoch = of.epoch ∙ sym kept.1;
    listed = subst (Each (CanHear x.server x.roster)) (sym kept.0) s.listed;
    tokens = of.tokens;
    changes = s.changes;
    claims = subst (λ e. Each (λ (c : Claimed). IsSound x.roster (to_server x.server c.host e (Reclaim c.claim)))
        (filter (λ (c : Claimed). not (c.host.0 == h.0)) x.recovering.claims)) (sym kept.1)
        (each_filter _ (λ (c : Claimed). not (c.host.0 == h.0)) x.recovering.claims s.claims);
    answers = subst (λ e. Each (λ (a : Answered). IsSound x.roster (to_host x.server a.host e 0 (Reclaimed a.answer)))
        x.recovering.answers) (sym kept.1) s.answers;
  }
    where
      kept : (leaving x.hosts h).listed ≡ x.hosts.listed × ((leaving x.hosts h).epoch ≡ x.hosts.epoch)
      kept = left_hosts x.hosts h

      of : GrantsOf x (tokens_left x h).grants
      of = subst (GrantsOf x) (sym (its_grants (after_down x.tokens h) h x.pending))
          (less (CanBeAsked x.server x.roster) x.hosts.epoch x.tokens.grants (after_down x.tokens h).grants
          (λ t. not (t.host.0 == h.0)) grants_sound refl refl)

  reclaiming_sound : (h : HostId) → AreSound (record x {
    hosts = record x.hosts { reclaimed = x.hosts.reclaimed ++ h ∷ [] };
    recovering = record x.recovering {
      claims = filter (λ (c : Claimed). not (c.host.0 == h.0)) x.recovering.claims;
      taken = filter (λ t. not (t.host.0 == h.0)) x.recovering.taken;
      given_up = filter (λ g. not (g.host.0 == h.0)) x.recovering.given_up;
    };
  })
  reclaiming_sound h = record {
    epoch = s.epoch;
    listed = s.listed;
    tokens = s.tokens;
    changes = s.changes;
    claims = each_filter _ (λ (c : Claimed). not (c.host.0 == h.0)) x.recovering.claims s.claims;
    answers = s.answers;
  }

  pub begun_sound : AreSound (begun x)
  unfolding grants_forgotten
  begun_sound = record {
    epoch = by_epoch (is_later x.tokens (x.hosts.epoch + 1)) later;
    listed = s.listed;
    tokens = by_tokens (is_later x.tokens (x.hosts.epoch + 1)) later;
    changes = s.changes;
    claims = tt;
    answers = tt;
  }
    where
      later : is_later x.tokens (x.hosts.epoch + 1) ≡ true
      later = let e = s.epoch in lt-ltb x.tokens.grants.table.epoch (x.hosts.epoch + 1) (omega (arith, e))

      by_epoch : (b : Bool) → b ≡ true
          → (if b then no_grants x.tokens.grants.table.server (x.hosts.epoch + 1) else x.tokens.grants).table.epoch
          ≡ x.hosts.epoch + 1
      by_epoch true q = refl
      by_epoch false q = absurd (cc)

      by_tokens : (b : Bool) → b ≡ true → Each (CanBeAsked x.server x.roster) (tokens_of
          (if b then no_grants x.tokens.grants.table.server (x.hosts.epoch + 1) else x.tokens.grants))
      by_tokens true q = tt
      by_tokens false q = absurd (cc)

pub away_sound : (x : Tables) → AreSound x → (h : HostId) → AreSound (gone_away x h)
away_sound x s h = opened_sound (left_by x h) (left_sound x s h) (no_grace x.hosts)

pub reclaimed_sound : (x : Tables) → AreSound x → (h : HostId) → AreSound (reclaimed_by x h)
reclaimed_sound x s h = opened_sound _ (reclaiming_sound x s h) (no_grace x.hosts)

pub starting_sound : (server : ServerId) (e : ℕ) (roster : Roster) → AreSound (starting server e roster)
starting_sound server e roster =
    record { epoch = refl; listed = tt; tokens = tt; changes = tt; claims = tt; answers = tt }
