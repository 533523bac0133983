-- The wants that wait came in sound messages also once a message was taken.
use Rattle.std.proofs.Common.{◌≡◌, ◌==◌, ◌&&◌, not, Bool, true, false, List, [], ◌∷◌, Option, if◌then◌else◌, refl}
use Rattle.std.proofs.Common.{sym, subst}
use Rattle.std.specs.List.{filter}
use Rattle.std.proofs.lemmas.Bool.{eqb-true}
use Rattle.base_types.specs.declared.ids.HostId.{HostId}
use Rattle.tree_calls.specs.declared.part.Status.{Status}
use Rattle.token_types.specs.declared.token.Need.{Need}
use Rattle.message_types.specs.Soundness.{Each}
use Rattle.message_types.specs.declared.asking.Fetch.{Fetch as FetchOf}
use Rattle.message_types.specs.declared.message.Body.{Body}
use Rattle.message_types.specs.declared.message.Body.TheVariants.{
  Bye,
  Change,
  Done,
  Down,
  Fetch,
  GiveBack,
  Gone,
  Grant,
  Hello,
  Kept,
  NotHere,
  Reclaim,
  Reclaimed,
  Restarted,
  Returned,
  Revoke,
  Ship,
  Shipped,
}
use Rattle.message_types.specs.declared.message.Message.{Message}
use Rattle.run_rules.specs.Past.{In}
use Rattle.run_rules.specs.Wants.{body_of}
use Rattle.run_rules.specs.declared.applied.Request.{Request}
use Rattle.run_rules.specs.declared.applied.Request.TheVariants.{Change as Changes, Fetch as Asks}
use Rattle.run_rules.specs.declared.applied.Wanted.{Wanted}
use Rattle.store_memory.specs.Views.{IsSameStore, View}
use Rattle.server_tables.specs.Counting.{IsCounted}
use Rattle.server_tables.specs.Answers.{is_old}
use Rattle.server_tables.specs.Listing.{has_host, is_live, stopping}
use Rattle.server_tables.specs.Places.{is_of}
use Rattle.server_tables.specs.Updates.{gone_away}
use Rattle.server_tables.specs.declared.pending.Pending.{Pending}
use Rattle.server_tables.specs.declared.tables.Tables.{Tables}
use Rattle.server_says.specs.Keepers.{HasBrought}
use Rattle.server_says.specs.Messages.{IsFor, IsHeard}
use Rattle.server_says.specs.Taking.{IsBodyTaken, IsMadeOf, IsOtherTaken, IsRequestTaken, IsTaken, Made, Whether}
use Rattle.server_says.specs.Taking.{want_made}
use Rattle.server_says.specs.Taking.{comes_new, ends_now, is_decided_here, takes_change, takes_fetch, wanted_for}
use Rattle.server_says.specs.Draft.{Draft}
use Rattle.server_decides.specs.Serving.{AreBrought, CameSo, IsServed}
use Rattle.server_decides.proofs.Served.{each_end, served_of}

each_filter : {A : Type 0} (P : A → Type 0) (p : A → Bool) (xs : List A) → Each P xs → Each P (filter p xs)
each_filter P p [] e = tt
each_filter P p (x ∷ xs) e = by (each_filter P p xs e.1) (p x) refl
  where
    by : Each P (filter p xs) → (b : Bool) → p x ≡ b → Each P (filter p (x ∷ xs))
    by rest true q = rw q (e.0, rest)
    by rest false q = rw q rest

whether : (b : Bool) (P Q R : Type 0) → Whether b P Q → (b ≡ true → P → R) → (Q → R) → R
whether true P Q R h f g = f refl h
whether false P Q R h f g = g h

-- whatever holds of a want that the message makes
module _ (x : Tables) (d : Draft) (m : Message) (Q : Wanted → Type 0)
    (wanted_so : (r : Request) (needs : List Need) → m.moves ≡ 0 → m.body ≡ body_of r
    → ((f : FetchOf) → r ≡ Asks f → needs ≡ f.needs) → Q (wanted_for m.host r needs)) (needs : List Need)
    (told : Option Status) where
  abbrev AllCame : List Pending → Type 0
  AllCame ps = Each (λ (p : Pending). Q p.wanted) ps

  -- the tables are the server's, and each want that waits came so
  record AreKept (y : Tables) : Type 0 where
    pub server : y.server ≡ x.server
    pub roster : y.roster ≡ x.roster
    pub came : AllCame x.pending → AllCame y.pending

  kept_same : AreKept x
  kept_same = record { server = refl; roster = refl; came = λ e. e }

  kept_want : (r : Request) (needs : List Need) → m.moves ≡ 0 → m.body ≡ body_of r
      → ((f : FetchOf) → r ≡ Asks f → needs ≡ f.needs) → AreKept (want_made x d (wanted_for m.host r needs)).tables
  kept_want r needs moves body its = record {
    server = refl;
    roster = refl;
    came = λ e. each_end (λ (p : Pending). Q p.wanted) x.pending
        (record { number = x.next; wanted = wanted_for m.host r needs }) e (wanted_so r needs moves body its);
  }

  of_made : (y : Tables) (e : Draft) (both : Made) → IsMadeOf x d y e both → AreKept both.tables → AreKept y
  of_made y e both h k = subst AreKept (sym h.tables) k

  kept_if : (b : Bool) (p q : Made) → AreKept p.tables → AreKept q.tables → AreKept (if b then p else q).tables
  kept_if true p q k l = k
  kept_if false p q k l = l

  kept_tables_if : (b : Bool) (p q : Tables) → AreKept p → AreKept q → AreKept (if b then p else q)
  kept_tables_if true p q k l = k
  kept_tables_if false p q k l = l

  -- a host goes away, with its wants
  kept_away : (z : Tables) → z.server ≡ x.server → z.roster ≡ x.roster → z.pending ≡ x.pending → (h : HostId)
      → AreKept (gone_away z h)
  kept_away z v r p h = record {
    server = v;
    roster = r;
    came = λ e. each_filter (λ (q : Pending). Q q.wanted) (λ (q : Pending).
        not (q.wanted.host.0 == h.0)) z.pending (subst AllCame (sym p) e);
  }

  module _ (y : Tables) (e : Draft) where
    by_request : m.moves ≡ 0 → (b : Body) → m.body ≡ b → IsRequestTaken x d m.host needs told y e b → AreKept y
    by_request still (Fetch fetch) q h = of_made y e _ h
        (kept_if (takes_fetch x m.host fetch) _ _
        (kept_want (Asks fetch) fetch.needs still q (λ f r. (let s = r in cc)))
        kept_same)
    by_request still (Change change) q h = of_made y e _ h
        (kept_if (is_decided_here x change && is_old x m.host change) _ _ kept_same
        (kept_if (takes_change x m.host change) _ _ (kept_want (Changes change) needs still q (λ f r. absurd (cc)))
        kept_same))
    by_request still (Returned named) q h = of_made y e _ h
        (kept_tables_if (is_of x.server named.fid.fileset) _ _ (record { server = refl; roster = refl; came = λ c. c })
        kept_same)
    by_request still (Kept named) q h = of_made y e _ h (record { server = refl; roster = refl; came = λ c. c })
    by_request still (GiveBack give) q h = of_made y e _ h
        (kept_tables_if (is_of x.server give.fid.fileset) _ _ (record { server = refl; roster = refl; came = λ c. c })
        kept_same)
    by_request still (Reclaim claim) q h = by (has_host x.hosts.reclaimed m.host) refl
      where
        by : (b : Bool) → has_host x.hosts.reclaimed m.host ≡ b → AreKept y
        by true r = subst AreKept (sym (h.0.reclaimed r)) kept_same
        by false r = subst AreKept (sym (h.0.after r).0) (record { server = refl; roster = refl; came = λ c. c })
    by_request still Hello q h = of_made y e _ h kept_same
    by_request still (Grant grant) q h = of_made y e _ h kept_same
    by_request still (Done done) q h = of_made y e _ h kept_same
    by_request still (Revoke revoke) q h = of_made y e _ h kept_same
    by_request still (Gone gone) q h = of_made y e _ h kept_same
    by_request still (Reclaimed answer) q h = of_made y e _ h kept_same
    by_request still Restarted q h = of_made y e _ h kept_same
    by_request still Down q h = of_made y e _ h kept_same
    by_request still Bye q h = of_made y e _ h kept_same
    by_request still (NotHere n) q h = of_made y e _ h kept_same
    by_request still (Ship s) q h = of_made y e _ h kept_same
    by_request still (Shipped s) q h = of_made y e _ h kept_same

    by_other : IsOtherTaken x d m needs told y e → AreKept y
    by_other h = whether (is_live x.hosts m.host) _ _ (AreKept y) h
        (λ live l. whether (m.epoch == x.hosts.epoch) _ _ (AreKept y) l
        (λ now n. whether (m.moves == 0) _ _ (AreKept y) n
        (λ still k. by_request (eqb-true m.moves 0 still) m.body refl k) (λ k. of_made y e _ k kept_same))
        (λ k. of_made y e _ k kept_same))
        (λ k. of_made y e _ k kept_same)

    by_body : (b : Body) → IsBodyTaken x d m needs told y e b → AreKept y
    by_body Hello h = of_made y e _ h
        (kept_tables_if (comes_new x m.host) _ _ (record { server = refl; roster = refl; came = λ c. c }) kept_same)
    by_body Bye h = of_made y e _ h
        (kept_tables_if (ends_now x m.host m.epoch) _ _ (kept_away x refl refl refl m.host) kept_same)
    by_body Down h = of_made y e _ h
        (kept_away (record x { hosts = stopping x.hosts m.host }) refl refl refl m.host)
    by_body (Fetch fetch) h = by_other h
    by_body (Change change) h = by_other h
    by_body (Returned named) h = by_other h
    by_body (Kept named) h = by_other h
    by_body (GiveBack give) h = by_other h
    by_body (Reclaim claim) h = by_other h
    by_body (Grant grant) h = by_other h
    by_body (Done done) h = by_other h
    by_body (Revoke revoke) h = by_other h
    by_body (Gone gone) h = by_other h
    by_body (Reclaimed answer) h = by_other h
    by_body Restarted h = by_other h
    by_body (NotHere n) h = by_other h
    by_body (Ship s) h = by_other h
    by_body (Shipped s) h = by_other h

    kept : IsTaken x d m needs told y e → AreKept y
    kept h = whether (has_host x.hosts.down m.host) _ _ (AreKept y) h (λ down k. of_made y e _ k kept_same)
        (by_body m.body)

pub heard_served : (x y : Tables) (d e : Draft) (m : Message) (old new : View) → IsServed x old.state
    → IsFor x.server x.roster m → IsHeard x d m y e → IsCounted y → IsSameStore old new → IsServed y new.state
heard_served x y d e m old new s is h counted same =
    let k = kept x d m (CameSo x.server x.roster) (λ r needs moves body its. record {
      m = m;
      came = is;
      host = refl;
      moves = moves;
      body = body;
      needs = its;
    }) h.needs h.told y e h.taken in
    served_of x y old new s same k.server k.roster counted y.pending refl (k.came s.asked)

-- and each was brought by one of some messages, where the one that was taken is among them
pub heard_brought : (x y : Tables) (d e : Draft) (m : Message) (came : List Message) → In m came → IsHeard x d m y e
    → AreBrought came x.pending → AreBrought came y.pending
heard_brought x y d e m came i h all =
    (kept x d m (λ w. HasBrought came w.host (body_of w.request)) (λ r needs moves body its. (m, i, refl, body)) h.needs
    h.told y e h.taken).came all
